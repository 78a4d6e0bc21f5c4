use Rattle.std.proofs.Common.{◌≤◌, ◌++◌, ◌^◌, get_or, inl, inr, ap, ◌∙◌, sym, refl, subst, arith}
use Rattle.std.specs.Prelude.{All}
use Rattle.std.proofs.lemmas.List.Elements.{All-append}
use Rattle.std.proofs.lemmas.Option.{get_or_from_slice_get}
use Rattle.trop_theory.specs.Vectors.{rows_size}
use Rattle.trop_theory.specs.Inequalities.{Solves, IsIn, system_size}
use Rattle.trop_theory.specs.Canonical.{IsCanonical}
use Rattle.trop_duality.proofs.Lean.{valid_from_canonical}
use Rattle.trop_lean.proofs.Standing.{fronts_as, size_append}
use Rattle.trop_lean.proofs.Taken.{fails_first, canonical_as, rows_fit}
use Rattle.trop_lean.proofs.turns.turn.Goals as goal
use Rattle.trop_lean.proofs.turns.turn.Goals.{in-Some+in_ok-append, in_default}

pub first_false-requires-clause-sizes : goal.first_false-requires-clause-sizes
first_false-requires-clause-sizes g c =
    let R = g.S.Scalar.ring in
    let small : system_size R c.in-Ok.rest.system ≤ 2 ^ 49 =
    omega (
      arith,
      ap (system_size R) c.in-Ok.ensures.system,
      size_append R c.as_slice.result.now c.args.behind.now (2 ^ 49)
          (omega (arith, c.requires.size, ap (system_size R) c.as_slice.ensures.inequalities)) c.requires.size_behind,
    ) in
    let fit : rows_size R c.in-Ok.rest.rows ≤ 2 ^ 57 =
    rows_fit g.met.S.Scalar.ring_laws c.in-Ok.rest.n c.in-Ok.rest.system c.in-Ok.rest.rows
    (omega (arith, c.as_slice-2.ensures.at_most, c.rows-rows.ensures.width)) small c.rows-rows.ensures.small in
    omega (arith, c.requires.small, ap (rows_size R) (c.as_slice-2.ensures.rows ∙ c.rows-rows.ensures.rows), fit)

pub returns-clause-base_fronts : goal.returns-clause-base_fronts
returns-clause-base_fronts g c = fronts_as g.S.Scalar.ring c.args.base.now.n c.args.base.now.n
    c.args.list.now.kept.inequalities c.as_slice.result.now refl
    (sym c.as_slice.ensures.inequalities) c.in-Ok.ensures.base_fronts

pub returns-clause-fronts : goal.returns-clause-fronts
returns-clause-fronts g c =
    fronts_as g.S.Scalar.ring c.args.base.now.n c.args.base.now.n
    (c.args.list.now.kept.inequalities ++ c.args.behind.now) (c.as_slice.result.now ++ c.args.behind.now) refl
    (ap (λ s. s ++ c.args.behind.now) (sym c.as_slice.ensures.inequalities)) c.in-Ok.ensures.fronts

pub returns-clause-turn : goal.returns-clause-turn
returns-clause-turn g c =
    let R = g.S.Scalar.ring in
    let n = c.args.base.now.n in
    let rest = c.args.list.now.kept.inequalities ++ c.args.behind.now in
    let rows = c.as_slice-2.result.now in
    let canonical : IsCanonical R (Solves R n rest) rows =
    canonical_as R n c.in-Ok.rest.n n c.in-Ok.rest.system rest c.in-Ok.rest.rows rows c.in-Ok.ensures.width
    (c.in-Ok.ensures.system ∙ ap (λ s. s ++ c.args.behind.now) c.as_slice.ensures.inequalities)
    (c.as_slice-2.ensures.rows ∙ c.rows-rows.ensures.rows) c.rows-rows.ensures.described.canonical in
    let inside : All (IsIn n) rest =
    All-append (IsIn n) c.args.list.now.kept.inequalities c.args.behind.now
    (subst (λ m. All (IsIn m) c.args.list.now.kept.inequalities) c.requires.width c.as_slice.ensures.wide)
    c.requires.inside_behind in
    elim c.match-first_false.branch [
      | in-Some+in_ok-append w ↦
          inr (
            w.get.result.now,
            fails_first R n rest c.args.ineq.now rows w.in-Some.k w.get.result.now canonical w.in-Some.ensures.some
                (ap (λ s. get_or s w.in-Some.k w.get.result.now) c.as_slice-2.ensures.rows
                ∙ get_or_from_slice_get c.rows-rows.result.now.rows w.in-Some.k w.get.result.now w.get.result.now
                w.get.ensures.value),
            ap (λ l. l.kept.inequalities) w.list-is ∙ w.in_ok-append.ensures.kept,
            ap (λ l. l.rows.rows) w.list-is ∙ w.in_ok-append.ensures.rows,
          )
      | in_default w ↦
          inl (
            valid_from_canonical g.met.S.Scalar.ring_laws n rest rows c.args.ineq.now inside c.requires.inside canonical
                w.in_default.ensures.none,
            ap (λ l. l.kept.inequalities) w.list-is,
            ap (λ l. l.rows.rows) w.list-is,
          )
    ]

pub returns-clause-kept_width : goal.returns-clause-kept_width
returns-clause-kept_width g c = elim c.match-first_false.branch [
  | in-Some+in_ok-append w ↦ ap (λ l. l.kept.n) w.list-is ∙ w.append.ensures.width
  | in_default w ↦ ap (λ l. l.kept.n) w.list-is
]

pub returns-clause-rows_width : goal.returns-clause-rows_width
returns-clause-rows_width g c = elim c.match-first_false.branch [
  | in-Some+in_ok-append w ↦ ap (λ l. l.rows.n) w.list-is ∙ w.append.ensures.row_width
  | in_default w ↦ ap (λ l. l.rows.n) w.list-is
]
