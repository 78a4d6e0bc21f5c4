use Rattle.std.proofs.Common.{◌≡◌, arith, ap, ◌^◌, ◌≤◌, w64}
use Rattle.std.specs.Prelude.{unsigned_abs}
use Rattle.std.proofs.lemmas.Int.{to_z-of_z, fits_signed_from_abs}
use mir.Val.{of_z, to_z}
use Rattle.prog_tree.specs.Terms.{term_of}
use Rattle.cone_claims.proofs.TermSums.{size_term}
use Rattle.cone_claims.proofs.sums.product_at.Goals as goal

pub of_number-requires : goal.of_number-requires
of_number-requires g c =
    let add = c.args.term.now.add in
    let small : unsigned_abs add ≤ 2 ^ 31 = c.requires.fits.1 in
    let same : to_z w64 (of_z w64 add) ≡ add = to_z-of_z w64 add (fits_signed_from_abs w64 add (omega (arith, small)))
    in
    omega (arith, small, ap unsigned_abs same)

pub times-requires : goal.times-requires
times-requires g c =
    let R = g.S.Scalar.ring in
    let add = c.args.term.now.add in
    let small : unsigned_abs add ≤ 2 ^ 31 = c.requires.fits.1 in
    let same : to_z w64 (of_z w64 add) ≡ add = to_z-of_z w64 add (fits_signed_from_abs w64 add (omega (arith, small)))
    in
    omega (
      arith,
      ap R.size c.of_number.ensures,
      ap (λ z. R.size (g.S.Scalar.numbering.of z)) same,
      ap R.size c.get.ensures,
      size_term g.met.S.Scalar.ring_laws g.met.S.Numeric.numeric_laws c.args.row.now (term_of c.args.term.now)
          (2 ^ 31) c.requires.fits.1 c.requires.fits.0,
      c.requires.size,
    )
