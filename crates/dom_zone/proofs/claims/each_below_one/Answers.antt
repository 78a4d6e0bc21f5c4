use Rattle.std.proofs.Common.{sym, ◌∙◌, true≢false}
use Rattle.std.specs.Prelude.{Any}
use Rattle.prog_tree.specs.Terms.{term_of}
use Rattle.zone_lists.specs.Zones.{matrix_in}
use Rattle.dom_zone.specs.Claims.{AtEach}
use Rattle.dom_zone.proofs.Searches.{each-more, not-each}
use Rattle.dom_zone.proofs.claims.each_below_one.Goals as goal

pub returns-then-not-below_one : goal.returns-then-not-below_one
returns-then-not-below_one c = not-each
    (λ l. Any (λ r. AtEach c.args.vars (matrix_in c.args.vars c.args.bounds.now) l r) c.args.rights.now)
    c.args.lefts.now c.loop-k.k (term_of c.get.result.now) c.get.ensures
    (λ h. true≢false (sym (c.below_one.ensures.1 h) ∙ c.if-not-below_one.true))

pub loop-k-preserved : goal.loop-k-preserved
loop-k-preserved c = each-more
    (λ l. Any (λ r. AtEach c.args.vars (matrix_in c.args.vars c.args.bounds.now) l r) c.args.rights.now)
    c.args.lefts.now c.loop-k.k (term_of c.get.result.now) c.get.ensures c.loop-k.invariant
    (c.below_one.ensures.0 c.if-not-below_one.false)
