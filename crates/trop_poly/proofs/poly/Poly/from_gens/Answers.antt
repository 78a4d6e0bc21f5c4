use Rattle.std.proofs.Common.{◌≤◌, ◌*◌, arith, inl, refl, sym, ap, ◌∙◌, subst}
use Rattle.trop_theory.specs.Vectors.{rows_size}
use Rattle.trop_theory.specs.Combinations.{IsCombination}
use Rattle.trop_theory.proofs.Distinct.{above_limit}
use Rattle.trop_cones.specs.Represents.{Represents}
use Rattle.trop_poly.proofs.Kept.{represents_as, represents_itself_as}
use Rattle.trop_poly.proofs.Small.{canonical_small}
use Rattle.trop_poly.proofs.poly.Poly.from_gens.Goals as goal

pub reduce-requires : goal.reduce-requires
reduce-requires g c = record { sizes = inl (omega arith) }

pub returns-then-len-gt-ROW_LIMIT-clause-refused : goal.returns-then-len-gt-ROW_LIMIT-clause-refused
returns-then-len-gt-ROW_LIMIT-clause-refused g c =
    let R = g.S.Scalar.ring in (
      refl,
      above_limit R (IsCombination R c.args.gens.now.n c.args.gens.now.rows) c.in_ok-rows.rows.rows
          c.in_ok-rows.ensures.canonical (omega arith),
    )

pub returns-then-len-gt-ROW_LIMIT-clause-fits : goal.returns-then-len-gt-ROW_LIMIT-clause-fits
returns-then-len-gt-ROW_LIMIT-clause-fits g c few =
    absurd (omega (arith, few, c.in_ok-rows.ensures.fewer, c.len.ensures.len))

pub from_canonical-requires : goal.from_canonical-requires
from_canonical-requires g c =
    let R = g.S.Scalar.ring in
    let n = c.args.gens.now.n in
    let C = IsCombination R n c.args.gens.now.rows in
    let kept : Represents R n C c.in_ok-rows.rows.rows =
    record {
      canonical = c.in_ok-rows.ensures.canonical;
      generates = c.in_ok-rows.ensures.same;
      within =
          omega arith;
    } in
    represents_itself_as R n c.in_ok-rows.rows.n C c.in_ok-rows.rows.rows c.in_ok-rows.rows.rows
    c.in_ok-rows.ensures.width refl kept

pub returns-clause-holds : goal.returns-clause-holds
returns-clause-holds g c =
    let R = g.S.Scalar.ring in
    let n = c.args.gens.now.n in
    let C = IsCombination R n c.args.gens.now.rows in
    let kept : Represents R n C c.in_ok-rows.rows.rows =
    record {
      canonical = c.in_ok-rows.ensures.canonical;
      generates = c.in_ok-rows.ensures.same;
      within =
          omega arith;
    } in
    represents_as R n n C C c.in_ok-rows.rows.rows c.from_canonical.result.rows refl c.from_canonical.ensures.rows
    (λ x. (λ h. h, λ h. h)) kept

pub returns-clause-small : goal.returns-clause-small
returns-clause-small g c =
    let R = g.S.Scalar.ring in
    let gens = c.args.gens.now in
    subst (λ rows. rows_size R rows ≤ 2 * rows_size R gens.rows) (sym c.from_canonical.ensures.rows)
    (canonical_small g.met.S.Scalar.ring_laws gens.n gens.rows c.in_ok-rows.rows.rows c.as_slice-slice.ensures.wide
    c.in_ok-rows.ensures.canonical)
