use Rattle.std.proofs.Common.{◌≡◌, ℕ, Bool, List, sym, subst, true≢false, ◌∙◌}
use Rattle.std.specs.Prelude.{◌↔◌, IsTrue}
use Rattle.trop_theory.specs.Semiring.{Semiring}
use Rattle.trop_theory.specs.Combinations.{IsCombination}
use Rattle.prog_graph.specs.Views.{op_of}
use Rattle.cone_reports.specs.Images.{HasPoint}
use Rattle.prog_check.proofs.Lists.{kept_list, dropped_list}
use Rattle.prog_check.proofs.edge_list.edge_list.Goals as goal

-- what is judged at one width, at the same one
at_width : {V : Type 0} (R : Semiring V) (n m : ℕ) (rows : List (List V)) (b : Bool) → n ≡ m
    → IsTrue b ↔ HasPoint R (IsCombination R n rows) → IsTrue b ↔ HasPoint R (IsCombination R m rows)
at_width R n m rows b same h = subst (λ k. IsTrue b ↔ HasPoint R (IsCombination R k rows)) same h

pub returns-then-has_point-clause-list : goal.returns-then-has_point-clause-list
returns-then-has_point-clause-list g c =
    let gens = c.args.gens.now in
    let moved = c.in_ok-moved.moved in
    let told = at_width g.S.Scalar.ring _ _ moved.rows _ c.in_ok-moved.ensures.width c.has_point.ensures in
    kept_list g.met.S.Scalar.ring_laws g.met.S.Numeric.numeric_laws gens.n c.as_slice-rows.ensures.at_least
    (op_of c.args.op.now) gens.rows moved.rows c.requires.movable.fits c.as_slice-rows.ensures.wide
    c.in_ok-moved.ensures.list
    (told.0 c.if-has_point.true)

pub returns-else-has_point-clause-list : goal.returns-else-has_point-clause-list
returns-else-has_point-clause-list g c =
    let told = at_width g.S.Scalar.ring _ _ c.in_ok-moved.moved.rows _ c.in_ok-moved.ensures.width
    c.has_point.ensures in
    dropped_list g.met.S.Scalar.ring_laws g.met.S.Numeric.numeric_laws c.args.gens.now.n
    c.as_slice-rows.ensures.at_least
    (op_of c.args.op.now) c.args.gens.now.rows c.in_ok-moved.moved.rows c.new.result.rows c.requires.movable.fits
    c.as_slice-rows.ensures.wide
    c.in_ok-moved.ensures.list (λ p. true≢false (sym (told.1 p) ∙ c.if-has_point.false)) c.new.ensures.rows
