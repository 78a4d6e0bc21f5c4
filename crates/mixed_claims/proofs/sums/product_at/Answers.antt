use Rattle.std.proofs.Common.{◌≡◌, arith, ap, sym, subst, ◌^◌, ◌≤◌, ◌<◌, w64, length}
use Rattle.std.specs.Prelude.{unsigned_abs}
use Rattle.std.proofs.lemmas.Int.{to_z-of_z, fits_signed_from_abs}
use mir.Val.{of_z, to_z}
use Rattle.prog_theory.specs.States as theory
use Rattle.prog_theory.specs.Within.{IsNumberWithin}
use Rattle.prog_tree.specs.Terms.{term_of}
use Rattle.cone_claims.proofs.TermSums.{size_term}
use Rattle.mixed_claims.proofs.Readings.{read_coord, read_number}
use Rattle.mixed_claims.proofs.sums.product_at.Goals as goal

pub of_number-requires : goal.of_number-requires
of_number-requires g c =
    let add = c.term_read-term.result.add in
    let small : unsigned_abs add ≤ 2 ^ 31 = subst (IsNumberWithin (2 ^ 31)) (sym c.term_read-term.ensures)
    (read_number c.args.reading c.args.vars c.args.term.now c.requires.fits) in
    let same : to_z w64 (of_z w64 add) ≡ add = to_z-of_z w64 add (fits_signed_from_abs w64 add (omega (arith, small)))
    in
    omega (arith, small, ap unsigned_abs same)

pub get-requires : goal.get-requires
get-requires g c =
    let at = read_coord c.args.reading c.args.vars c.args.term.now c.requires.fits in
    omega (arith, at, ap (λ (t : theory.Term). t.coord) c.term_read-term.ensures, c.requires.wide)

pub times-requires : goal.times-requires
times-requires g c =
    let R = g.S.Scalar.ring in
    let t = term_of c.term_read-term.result in
    let add = c.term_read-term.result.add in
    let small : unsigned_abs add ≤ 2 ^ 31 = subst (IsNumberWithin (2 ^ 31)) (sym c.term_read-term.ensures)
    (read_number c.args.reading c.args.vars c.args.term.now c.requires.fits) in
    let same : to_z w64 (of_z w64 add) ≡ add = to_z-of_z w64 add (fits_signed_from_abs w64 add (omega (arith, small)))
    in
    let inside : t.coord < length c.args.row.now = omega (
      arith,
      read_coord c.args.reading c.args.vars c.args.term.now c.requires.fits,
      ap (λ (t : theory.Term). t.coord) c.term_read-term.ensures,
      c.requires.wide,
    ) in
    omega (
      arith,
      ap R.size c.of_number.ensures,
      ap (λ z. R.size (g.S.Scalar.numbering.of z)) same,
      ap R.size c.get.ensures,
      size_term g.met.S.Scalar.ring_laws g.met.S.Numeric.numeric_laws c.args.row.now t (2 ^ 31) small inside,
      c.requires.size,
    )
