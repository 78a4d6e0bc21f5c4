use Rattle.std.proofs.Common.{sym, ap, ◌∙◌, subst, arith}
use Rattle.trop_theory.specs.Vectors.{rows_size}
use Rattle.prog_tree.specs.Claims.{claim_of}
use Rattle.cone_claims.specs.Terms.{IsClaimOn}
use Rattle.dom_poly.proofs.Named.{claim_on, proven_as}
use Rattle.dom_poly.proofs.value.PolyDomain.shows.Goals as goal

pub proven_by-requires-clause-fits : goal.proven_by-requires-clause-fits
proven_by-requires-clause-fits g c =
    subst (λ m. IsClaimOn m (claim_of c.args.claim.now)) (sym c.rows.ensures.width)
    (claim_on c.args.self.now c.poly.result.now c.poly.ensures.width c.poly.ensures.rows (claim_of c.args.claim.now)
    c.requires)

pub proven_by-requires-clause-size : goal.proven_by-requires-clause-size
proven_by-requires-clause-size g c =
    omega (arith, ap (rows_size g.S.Scalar.ring) (c.rows.ensures.rows ∙ c.poly.ensures.rows), c.poly.ensures.small)

pub returns : goal.returns
returns g c = proven_as g.S.Scalar.ring c.proven_by.result g.S.Scalar.numbering g.S.Scalar.REVERSED
    (claim_of c.args.claim.now) c.args.self.now c.rows.result.now.n c.rows.result.now.rows
    (c.rows.ensures.width ∙ c.poly.ensures.width) (c.rows.ensures.rows ∙ c.poly.ensures.rows) c.proven_by.ensures
