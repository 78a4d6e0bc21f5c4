-- The laws of the states of cones.
use Rattle.std.proofs.Common.{◌≡◌, ℕ, zero, suc, List, [], ◌∷◌, length, sym, ap, ◌∙◌, refl, subst}
use Rattle.trop_theory.specs.Semiring.{Semiring, SemiringLaws}
use Rattle.trop_theory.specs.Numbers.{Numbering, NumericLaws}
use Rattle.trop_theory.specs.Combinations.{IsCombination}
use Rattle.std.proofs.lemmas.List.Elements.{All-nil}
use Rattle.trop_cones.proofs.Generated.{units_below, units_below_canonical, solutions_by_canonical}
use Rattle.prog_theory.specs.States.{State}
use Rattle.prog_theory.specs.Edges.{Op}
use Rattle.prog_theory.specs.Walks.{Leads}
use Rattle.dom_theory.specs.Laws.{StateLaws, VarsLaws, PartLaws}
use Rattle.cone_reports.specs.EdgeLists.{unit_row}
use Rattle.cone_reports.specs.Vectors.{vector, HasState}
use Rattle.cone_reports.proofs.Entries.{length-vector}
use Rattle.cone_reports.proofs.EdgeLists.{combined_none}
use Rattle.cone_reports.proofs.Images.{image_has}
use Rattle.cone_reports.proofs.Points.{nothing_has_none, length_from_cone, join_has_left, join_has_right}
use Rattle.cone_domain.specs.Values.{Value, cone_of}
use Rattle.cone_domain.specs.Operations.{IsImage, IsJoin}
use Rattle.cone_domain.specs.Polyhedra.{unit_rows, polyhedra}
use Rattle.cone_domain.proofs.Values.{value_cone}
use Rattle.cone_domain.proofs.Generated.{image_same, join_same, other_cone}

module _ {V : Type 0} (R : Semiring V) (n : ℕ) where
  pub unit_rows_are : (m : ℕ) → unit_rows R n m ≡ units_below R n m
  unit_rows_are zero = refl
  unit_rows_are (suc m) = ap (λ rows. unit_row R n m ∷ rows) (unit_rows_are m)

module _ {V : Type 0} {R : Semiring V} {N : Numbering V} {reversed : _} (laws : SemiringLaws R)
    (numbers : NumericLaws R N reversed) where
  -- the unit rows generate everything
  pub everything_by_units : (n : ℕ) (x : List V) → length x ≡ n → IsCombination R n (unit_rows R n n) x
  everything_by_units n x l =
      subst (λ rows. IsCombination R n rows x) (sym (unit_rows_are R n n))
      ((solutions_by_canonical laws n [] (units_below R n n) (All-nil _) (units_below_canonical laws n) x).0
      (record { wide = l; holds = All-nil _ }))

  none : (n : ℕ) (s : State) → IsCombination R (suc n) [] (vector R N s) → ⊥
  none n s h = nothing_has_none laws numbers n s (h.is_sum ∙ combined_none laws numbers n h.coefficients)

  applied : (op : Op) (v w : Value V) (s t : State) → IsImage R N reversed op v w → HasState R N (cone_of R v) s
      → Leads op s t → HasState R N (cone_of R w) t
  applied op v w s t h has leads =
      (image_same laws numbers op v w h (vector R N t)).0
      (image_has laws numbers v.vars (cone_of R v) op h.fits s t
      (length_from_cone laws numbers v.vars (cone_of R v) (value_cone laws v h.value) s has) has leads)

  left : (v other w : Value V) (s : State) → IsJoin R v other w → HasState R N (cone_of R v) s
      → HasState R N (cone_of R w) s
  left v other w s h has =
      (join_same laws v other w h (vector R N s)).0
      (join_has_left laws numbers v.vars (cone_of R v) (cone_of R other) (value_cone laws v h.value)
      (other_cone laws v other h.same_vars h.other_value) s has)

  right : (v other w : Value V) (s : State) → IsJoin R v other w → HasState R N (cone_of R other) s
      → HasState R N (cone_of R w) s
  right v other w s h has =
      (join_same laws v other w h (vector R N s)).0
      (join_has_right laws numbers v.vars (cone_of R v) (cone_of R other) (value_cone laws v h.value)
      (other_cone laws v other h.same_vars h.other_value) s has)

  pub polyhedra_states : StateLaws (polyhedra R N reversed)
  polyhedra_states = record {
    none = none;
    all = λ n s l. everything_by_units (suc n) (vector R N s) (length-vector laws numbers s n l);
    within = λ v w s h has. h (vector R N s) has;
    applied = applied;
    left = left;
    right = right;
  }

  pub polyhedra_vars : VarsLaws (polyhedra R N reversed)
  polyhedra_vars = record {
    bottom = λ n. refl;
    top = λ n. refl;
    applied = λ op v w h. h.gives.vars_are;
    joined = λ v other w h e. h.gives.vars_are;
    widened = λ v next w h e. h.vars_are;
  }

  pub polyhedra_parts : PartLaws (polyhedra R N reversed)
  polyhedra_parts = record {
    applied = λ op v cause part h. h.0;
    joined = λ v other cause part h. h.0;
    widened = λ v next cause h. h;
  }
