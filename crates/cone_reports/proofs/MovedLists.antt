-- The rows that an operation makes of rows generate what it makes of their combinations.
use Rattle.std.proofs.Common.{◌≡◌, ℕ, suc, Bool, true, false, List, [], ◌∷◌, ◌++◌, length, map, set, get_or, sym, ◌∙◌, subst, arith}
use Rattle.std.specs.Prelude.{◌↔◌}
use Rattle.std.proofs.lemmas.List.{length-set}
use Rattle.std.proofs.lemmas.List.Elements.{All-map, All-append, All-cons, All-nil, Contains-get_or, Contains-append_left, Contains-append_right}
use Rattle.trop_theory.specs.Semiring.{Semiring, SemiringLaws}
use Rattle.trop_theory.specs.Vectors.{entry, AreWide}
use Rattle.trop_theory.specs.Numbers.{Numbering, NumericLaws}
use Rattle.trop_theory.specs.Inequalities.{IsIn}
use Rattle.trop_theory.specs.Combinations.{IsCombination, SameCone}
use Rattle.trop_theory.proofs.SameCones.{IsCombination-same, IsCombination-contained}
use Rattle.trop_theory.proofs.StepLists.{wide_step_list, step_list_is_guard}
use Rattle.trop_cones.specs.Sets.{assigned}
use Rattle.trop_cones.proofs.Images.{assign_by_rows}
use Rattle.trop_cones.proofs.Operations.{forget_by_rows, IsCombination-within}
use Rattle.trop_cones.proofs.Generated.{IsUnit-set}
use Rattle.prog_theory.specs.States.{Term}
use Rattle.prog_theory.specs.Edges.{Op, Skips, Sets, Havocs, Guards}
use Rattle.prog_theory.specs.Fits.{FitsOp}
use Rattle.cone_reports.specs.Sides.{at_most, term_side, guard_inequality}
use Rattle.cone_reports.specs.Images.{InMoved}
use Rattle.cone_reports.specs.EdgeLists.{unit_row, IsMovedList}
use Rattle.cone_reports.proofs.Sides.{length-term_side}
use Rattle.cone_reports.proofs.Normalised.{normalised_wide, normalised_same}

module _ {V : Type 0} {R : Semiring V} {N : Numbering V} {reversed : Bool} (laws : SemiringLaws R)
    (numbers : NumericLaws R N reversed) (vars : ℕ) where
  pub at_most_inside : (b : Bool) (l r : List V) (n : ℕ) → length l ≡ n → length r ≡ n → IsIn n (at_most b l r)
  at_most_inside false l r n p q = record { left = p; right = q }
  at_most_inside true l r n p q = record { left = q; right = p }

  pub guard_inside : (l r : Term) → IsIn (suc vars) (guard_inequality R N reversed (suc vars) l r)
  guard_inside l r = at_most_inside reversed (term_side R N (suc vars) l) (term_side R N (suc vars) r) (suc vars)
      (length-term_side laws numbers vars l) (length-term_side laws numbers vars r)

  -- rows of which the combinations are the vectors that the operation makes
  pub record MovedBy (op : Op) (rows moved : List (List V)) : Type 0 where
    pub wide : AreWide (suc vars) moved
    pub same : (x : List V) → IsCombination R (suc vars) moved x
        ↔ InMoved R N reversed (suc vars) op (IsCombination R (suc vars) rows) x

  pub moved_by : (op : Op) → FitsOp vars op → (rows moved : List (List V)) → AreWide (suc vars) rows
      → IsMovedList R N reversed (suc vars) op rows moved → MovedBy op rows moved
  moved_by Skips f rows moved w h = record {
    wide = subst (AreWide (suc vars)) (sym h) w;
    same = λ x. (subst (λ r. IsCombination R (suc vars) r x) h, subst (λ r. IsCombination R (suc vars) r x) (sym h));
  }
  moved_by (Sets i t) f rows moved w h =
      let c = N.of t.add in
      let wide_map : AreWide (suc vars) (map (assigned R i t.coord c) rows) =
      All-map (λ g. length g ≡ suc vars) (assigned R i t.coord c) rows
      (λ k d l. length-set (get_or rows k d) i (R.times c (entry R (get_or rows k d) t.coord)) ∙ w k d l) in
      let wide_moved = normalised_wide laws (suc vars) (map (assigned R i t.coord c) rows) moved wide_map h in
      record {
        wide = wide_moved;
        same = λ x.
            let s = IsCombination-same laws (suc vars) (map (assigned R i t.coord c) rows) moved wide_map wide_moved
            (normalised_same laws (suc vars) (map (assigned R i t.coord c) rows) moved wide_map h) x in
            let a = assign_by_rows laws (suc vars) i t.coord c rows w x in
            (λ k. a.0 (s.1 k), λ k. s.0 (a.1 k));
      }
  moved_by (Havocs i) f rows moved w (front, n, e) =
      let cleared = map (λ g. set g i R.zero) rows in
      let unit = unit_row R (suc vars) i in
      let is_unit = IsUnit-set R (suc vars) i (omega arith) in
      let wide_cleared : AreWide (suc vars) cleared =
      All-map (λ g. length g ≡ suc vars) (λ g. set g i R.zero) rows
      (λ k d l. length-set (get_or rows k d) i R.zero ∙ w k d l) in
      let wide_front = normalised_wide laws (suc vars) cleared front wide_cleared n in
      let wide_unit : AreWide (suc vars) (unit ∷ []) =
      All-cons (λ g. length g ≡ suc vars) unit [] is_unit.wide (All-nil (λ g. length g ≡ suc vars)) in
      let wide_all : AreWide (suc vars) (front ++ unit ∷ []) =
      All-append (λ g. length g ≡ suc vars) front (unit ∷ []) wide_front wide_unit in
      let wide_listed : AreWide (suc vars) (cleared ++ unit ∷ []) =
      All-append (λ g. length g ≡ suc vars) cleared (unit ∷ []) wide_cleared wide_unit in
      let same_front = normalised_same laws (suc vars) cleared front wide_cleared n in
      record {
        wide = subst (AreWide (suc vars)) (sym e) wide_all;
        same = λ x.
            let s = IsCombination-same laws (suc vars) (cleared ++ unit ∷ []) (front ++ unit ∷ []) wide_listed wide_all
            (SameCone-with cleared front (unit ∷ []) wide_listed wide_all same_front) x in
            let a = forget_by_rows laws (suc vars) i rows unit w (omega arith) is_unit x in (
              λ k. a.0 (s.1 (subst (λ r. IsCombination R (suc vars) r x) e k)),
              λ k. subst (λ r. IsCombination R (suc vars) r x) (sym e) (s.0 (a.1 k)),
            );
      }
    where
      SameCone-with : (xs ys more : List (List V)) → AreWide (suc vars) (xs ++ more) → AreWide (suc vars) (ys ++ more)
          → SameCone R (suc vars) xs ys → SameCone R (suc vars) (xs ++ more) (ys ++ more)
      SameCone-with xs ys more wx wy s = record {
        there = All-append (IsCombination R (suc vars) (ys ++ more)) xs more
            (λ k d l. IsCombination-within laws (suc vars) ys (ys ++ more) wy (λ g c. Contains-append_left ys more g c)
            (get_or xs k d) (s.there k d l))
            (λ k d l. IsCombination-contained laws (suc vars) (ys ++ more) (get_or more k d) wy
            (Contains-append_right ys more (get_or more k d) (Contains-get_or more k d l)));
        back = All-append (IsCombination R (suc vars) (xs ++ more)) ys more
            (λ k d l. IsCombination-within laws (suc vars) xs (xs ++ more) wx (λ g c. Contains-append_left xs more g c)
            (get_or ys k d) (s.back k d l))
            (λ k d l. IsCombination-contained laws (suc vars) (xs ++ more) (get_or more k d) wx
            (Contains-append_right xs more (get_or more k d) (Contains-get_or more k d l)));
      }
  moved_by (Guards l r) f rows moved w h = record {
    wide = wide_step_list laws (suc vars) (guard_inequality R N reversed (suc vars) l r) rows moved
        (guard_inside l r) w h;
    same = step_list_is_guard laws (suc vars) (guard_inequality R N reversed (suc vars) l r) rows moved
        (guard_inside l r) w h;
  }
