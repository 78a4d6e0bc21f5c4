use Rattle.std.proofs.Common.{◌*◌, suc, ap, sym, subst, ◌∙◌, arith}
use Rattle.trop_theory.specs.Vectors.{rows_size}
use Rattle.trop_theory.specs.MaxPlus.{max_ring, max_numbering}
use Rattle.prog_tree.specs.Claims.{claim_of}
use Rattle.mixed_claims.specs.Terms.{IsClaimOf}
use Rattle.dom_mixed.proofs.Doubled.{claim_of_it, proved_as}
use Rattle.dom_mixed.proofs.value.MixedDomain.shows.Goals as goal

pub proved_by-requires-clause-fits : goal.proved_by-requires-clause-fits
proved_by-requires-clause-fits c = subst (λ d. IsClaimOf d (claim_of c.args.claim.now)) (sym c.variables.ensures)
    (claim_of_it _ (claim_of c.args.claim.now) c.requires)

pub proved_by-requires-clause-wide : goal.proved_by-requires-clause-wide
proved_by-requires-clause-wide c = c.rows.ensures.width ∙ c.poly.ensures.width
    ∙ ap suc (c.poly.ensures.doubled.twice ∙ ap (λ d. 2 * d) (sym c.variables.ensures))

pub proved_by-requires-clause-size : goal.proved_by-requires-clause-size
proved_by-requires-clause-size c =
    omega (arith, ap (rows_size max_ring) (c.rows.ensures.rows ∙ c.poly.ensures.rows), c.poly.ensures.small)

pub returns : goal.returns
returns c = proved_as max_ring max_numbering (claim_of c.args.claim.now) c.args.self.now c.proved_by.result
    c.variables.result c.rows.result.now.n c.rows.result.now.rows c.variables.ensures
    (c.rows.ensures.width ∙ c.poly.ensures.width) (c.rows.ensures.rows ∙ c.poly.ensures.rows) c.proved_by.ensures
