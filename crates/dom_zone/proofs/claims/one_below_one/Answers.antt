use Rattle.std.proofs.Common.{sym, ◌∙◌, true≢false, arith}
use Rattle.std.specs.Prelude.{Any}
use Rattle.prog_tree.specs.Terms.{term_of}
use Rattle.zone_lists.specs.Zones.{matrix_in}
use Rattle.dom_zone.specs.Claims.{AtEach}
use Rattle.dom_zone.proofs.Searches.{none-more, none-found}
use Rattle.dom_zone.proofs.claims.one_below_one.Goals as goal

pub loop-k-preserved : goal.loop-k-preserved
loop-k-preserved c = none-more
    (λ l. Any (λ r. AtEach c.args.vars (matrix_in c.args.vars c.args.bounds.now) l r) c.args.rights.now)
    c.args.lefts.now c.loop-k.k (term_of c.get.result.now) c.get.ensures c.loop-k.invariant
    (λ p. true≢false (sym (c.below_one.ensures.1 p) ∙ c.if-below_one.false))

pub returns : goal.returns
returns c = none-found (λ l. Any (λ r. AtEach c.args.vars (matrix_in c.args.vars c.args.bounds.now) l r)
    c.args.rights.now) c.args.lefts.now c.loop-k.k (omega arith) c.loop-k.invariant
