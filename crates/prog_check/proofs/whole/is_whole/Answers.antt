use Rattle.std.proofs.Common.{◌^◌, List, ap, subst, sym, arith}
use Rattle.std.specs.Prelude.{◌↔◌, IsTrue, true}
use Rattle.trop_theory.specs.Vectors.{row_size, AreWide}
use Rattle.trop_theory.specs.Combinations.{IsCombination}
use Rattle.trop_cones.specs.Sets.{IsVector}
use Rattle.prog_check.proofs.Wholes.{unit_small, whole_from_units}
use Rattle.prog_check.proofs.whole.is_whole.Goals as goal

pub member-requires-clause-target_size : goal.member-requires-clause-target_size
member-requires-clause-target_size g c =
    let R = g.S.Scalar.ring in
    omega (
      arith,
      ap (row_size R) c.in_ok-unit.ensures.entries,
      unit_small g.met.S.Scalar.ring_laws c.n-n.result c.loop-i.i (2 ^ 60),
    )

pub returns : goal.returns
returns g c =
    let R = g.S.Scalar.ring in
    let rows = c.args.rows.now.rows in
    let whole = whole_from_units g.met.S.Scalar.ring_laws c.n-n.result rows
    (subst (λ k. AreWide k rows) (sym c.n-n.ensures.value) c.as_slice-rows.ensures.wide)
    (λ i l. c.loop-i.invariant i (omega arith)) in
    subst (λ k. IsTrue true ↔ ((x : List _) → IsVector k x → IsCombination R k rows x)) c.n-n.ensures.value whole
