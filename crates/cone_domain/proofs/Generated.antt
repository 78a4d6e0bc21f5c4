-- What the operations give is generated, so that it is a value again.
use Rattle.std.proofs.Common.{◌≡◌, inl, inr, suc, List, ◌++◌, length, MatchOption, sym, subst}
use Rattle.std.specs.Prelude.{◌↔◌, All}
use Rattle.std.proofs.lemmas.List.Elements.{All-append}
use Rattle.trop_theory.specs.Semiring.{Semiring, SemiringLaws}
use Rattle.trop_theory.specs.Vectors.{AreWide}
use Rattle.trop_theory.specs.Numbers.{Numbering, NumericLaws}
use Rattle.trop_theory.specs.Inequalities.{Inequality, Solves, IsIn, IsValidOn}
use Rattle.trop_theory.specs.Combinations.{IsCombination}
use Rattle.trop_theory.proofs.StepLists.{All-chosen}
use Rattle.trop_cones.specs.Cones.{IsCone}
use Rattle.trop_cones.specs.Sets.{InJoin}
use Rattle.trop_cones.proofs.Operations.{join_by_rows}
use Rattle.trop_cones.proofs.Generated.{Generated, solutions_by_canonical}
use Rattle.trop_duality.proofs.Bipolar.{IsIn-external}
use Rattle.prog_theory.specs.Edges.{Op}
use Rattle.cone_reports.specs.Images.{InImage}
use Rattle.cone_reports.proofs.Monotone.{image_generated}
use Rattle.cone_domain.specs.Values.{Value, coordinates, cone_of, Describes, IsValue}
use Rattle.cone_domain.specs.Operations.{IsImage, IsJoin, IsBase, IsKeptList, IsWidening}
use Rattle.cone_domain.proofs.Values.{value_cone, fresh_same, fresh_is_value}

module _ {V : Type 0} {R : Semiring V} {N : Numbering V} {reversed : _} (laws : SemiringLaws R)
    (numbers : NumericLaws R N reversed) where
  -- the image
  pub image_rows : (op : Op) (v w : Value V) → IsImage R N reversed op v w
      → Generated laws (coordinates v) (InImage R N reversed (coordinates v) op (cone_of R v))
  image_rows op v w h = image_generated laws numbers v.vars op h.fits v.rows h.value.wide

  pub image_same : (op : Op) (v w : Value V) → IsImage R N reversed op v w → (x : List V)
      → InImage R N reversed (coordinates v) op (cone_of R v) x ↔ cone_of R w x
  image_same op v w h = fresh_same laws v.vars _ w (image_rows op v w h) h.gives

  pub image_is_value : (op : Op) (v w : Value V) → IsImage R N reversed op v w → IsValue R w
  image_is_value op v w h = fresh_is_value laws v.vars _ w (image_rows op v w h) h.gives

module _ {V : Type 0} {R : Semiring V} (laws : SemiringLaws R) where
  -- a second value with as many variables
  pub other_wide : (v other : Value V) → v.vars ≡ other.vars → IsValue R other → AreWide (coordinates v) other.rows
  other_wide v other e h = subst (λ m. AreWide (suc m) other.rows) (sym e) h.wide

  pub other_cone : (v other : Value V) → v.vars ≡ other.vars → IsValue R other
      → IsCone R (coordinates v) (cone_of R other)
  other_cone v other e h = subst (λ m. IsCone R (suc m) (cone_of R other)) (sym e) (value_cone laws other h)

  -- the join
  pub join_rows : (v other w : Value V) → IsJoin R v other w
      → Generated laws (coordinates v) (InJoin R (cone_of R v) (cone_of R other))
  join_rows v other w h =
      let wide = other_wide v other h.same_vars h.other_value in
      subst (λ m. Generated laws (coordinates v) (InJoin R (cone_of R v) (IsCombination R (suc m) other.rows)))
      h.same_vars
      (record {
        rows = v.rows ++ other.rows;
        wide = All-append (λ g. length g ≡ coordinates v) v.rows other.rows h.value.wide wide;
        same = λ x. let j = join_by_rows laws (coordinates v) v.rows other.rows h.value.wide wide x in (j.1, j.0);
      })

  pub join_same : (v other w : Value V) → IsJoin R v other w → (x : List V)
      → InJoin R (cone_of R v) (cone_of R other) x ↔ cone_of R w x
  join_same v other w h = fresh_same laws v.vars _ w (join_rows v other w h) h.gives

  pub join_is_value : (v other w : Value V) → IsJoin R v other w → IsValue R w
  join_is_value v other w h = fresh_is_value laws v.vars _ w (join_rows v other w h) h.gives

  -- the list with which a widening begins
  pub base_inside : (v : Value V) → IsValue R v → (base : List (Inequality V)) → IsBase R v base
      → All (IsIn (coordinates v)) base
  base_inside v h base (inl e) = let d : Describes R v base =
      subst (λ k. MatchOption k (Unit {0}) (Describes R v)) e h.described in d.inside
  base_inside v h base (inr (e, x)) = IsIn-external laws (coordinates v) (cone_of R v) (value_cone laws v h).wide base x

  pub kept_inside : (v next : Value V) → IsValue R v → (list : List (Inequality V)) → IsKeptList R v next list
      → All (IsIn (coordinates v)) list
  kept_inside v next h list k = All-chosen (IsValidOn R (cone_of R next)) (IsIn (coordinates v)) k.base list k.chosen
      (base_inside v h k.base k.is_base)

  -- the widening
  pub widening_same : (v next w : Value V) → (h : IsWidening R v next w) → (x : List V)
      → Solves R (coordinates v) h.list x ↔ cone_of R w x
  widening_same v next w h =
      subst (λ m. (x : List V) → Solves R (coordinates v) h.list x ↔ IsCombination R (suc m) w.rows x) (sym h.vars_are)
      (solutions_by_canonical laws (coordinates v) h.list w.rows
      (kept_inside v next h.value h.list h.is_kept) h.rows_are)
