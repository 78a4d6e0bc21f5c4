-- What every value keeps, from what is known of its cone and its list.
-- Index: one_more, value_width, sound_fresh, sound_listed, units_size, whole_is_units, whole_is_everything,
-- whole_is_small, empty_is_nothing, described, list_in, width_some, list_small, listed_is_not_nothing, nothing_by_rows,
-- copied_none, none_is_copy.
use Rattle.std.proofs.Common.{◌≡◌, ◌≤◌, ◌-◌, ℕ, zero, suc, List, [], length, Option, Some, None, sym, ap, ◌∙◌, refl, subst, arith, ◌∷◌, ◌==◌, false, eq-eqb, eqb-true, true≢false}
use Rattle.std.specs.Prelude.{All, ◌↔◌, MatchOption, IsTrue}
use Rattle.trop_theory.specs.Semiring.{Semiring, SemiringLaws}
use Rattle.trop_theory.specs.Vectors.{rows_size, row_size, bottom, AreWide}
use Rattle.trop_theory.specs.Inequalities.{Inequality, Solves, IsIn, system_size}
use Rattle.trop_theory.specs.Combinations.{IsCombination}
use Rattle.trop_theory.specs.Canonical.{IsCanonical, row_limit}
use Rattle.trop_theory.proofs.Unique.{IsCanonical-unique}
use Rattle.trop_cones.specs.Sets.{IsVector}
use Rattle.trop_cones.specs.Represents.{Represents}
use Rattle.trop_cones.proofs.Sizes.{row_size-set, row_size-bottom}
use Rattle.trop_cones.proofs.Generated.{units_below, units_below_canonical}
use Rattle.trop_row.specs.Lists.{InequalityList}
use Rattle.trop_poly.specs.Cones.{Cone, InCone}
use Rattle.trop_poly.proofs.Kept.{everything_solves}
use Rattle.cone_reports.specs.EdgeLists.{unit_row}
use Rattle.cone_domain.specs.Values.{Value, Describes, IsValue}
use Rattle.cone_domain.specs.Refused.{most_value}
use Rattle.cone_domain.specs.Polyhedra.{nothing, everything, unit_rows, width_of}
use Rattle.cone_domain.proofs.Values.{value_same}
use Rattle.cone_domain.proofs.States.{unit_rows_are}
use Rattle.dom_poly.specs.Views.{value_of, list_of}
use Rattle.dom_poly.specs.Kept.{most_kept, IsSound, IsListIn}

-- one more than the number of variables
pub one_more : {V : Type 0} (cone : Cone V) → 1 ≤ cone.n → suc (cone.n - 1) ≡ cone.n
one_more cone l = omega arith

-- the number of coordinates of a value's cone
pub value_width : {V : Type 0} (cone : Cone V) (kept : Option (InequalityList V)) (v : Value V) →
    value_of cone kept ≡ v → 1 ≤ cone.n → cone.n ≡ suc v.vars
value_width cone kept v e l = sym (one_more cone l) ∙ ap (λ (w : Value _). suc w.vars) e

module _ {V : Type 0} (R : Semiring V) (cone : Cone V) (least : 1 ≤ cone.n) where
  wide_value : AreWide cone.n cone.rows → AreWide (suc (cone.n - 1)) cone.rows
  wide_value w = subst (λ m. AreWide m cone.rows) (sym (one_more cone least)) w

  canonical_value : IsCanonical R (InCone R cone) cone.rows →
      IsCanonical R (IsCombination R (suc (cone.n - 1)) cone.rows) cone.rows
  canonical_value c = subst (λ m. IsCanonical R (IsCombination R m cone.rows) cone.rows) (sym (one_more cone least)) c

  pub sound_fresh : cone.n ≤ 64 → length cone.rows ≤ row_limit → rows_size R cone.rows ≤ most_value →
      AreWide cone.n cone.rows → IsCanonical R (InCone R cone) cone.rows → IsSound R cone None
  sound_fresh most few small wide canonical = record {
    at_least = least;
    at_most = most;
    few = few;
    small = small;
    list = tt;
    value = record { wide = wide_value wide; canonical = canonical_value canonical; described = tt };
  }

  describes : (list : InequalityList V) → list.n ≡ cone.n → length list.inequalities ≤ row_limit →
      All (IsIn list.n) list.inequalities → Represents R cone.n (Solves R cone.n list.inequalities) cone.rows →
      Describes R (value_of cone (Some list)) list.inequalities
  describes list width few inside h = record {
    inside = subst (λ m. All (IsIn m) list.inequalities) (width ∙ sym (one_more cone least)) inside;
    few = few;
    same = subst (λ m. (x : List V) → Solves R m list.inequalities x ↔ IsCombination R m cone.rows x)
        (sym (one_more cone least)) h.generates;
  }

  pub sound_listed : (list : InequalityList V) → cone.n ≤ 64 → length cone.rows ≤ row_limit →
      rows_size R cone.rows ≤ most_value → AreWide cone.n cone.rows → IsCanonical R (InCone R cone) cone.rows →
      list.n ≡ cone.n → length list.inequalities ≤ row_limit → system_size R list.inequalities ≤ most_kept →
      All (IsIn list.n) list.inequalities → Represents R cone.n (Solves R cone.n list.inequalities) cone.rows →
      IsSound R cone (Some list)
  sound_listed list most few small wide canonical width short numbers inside h = record {
    at_least = least;
    at_most = most;
    few = few;
    small = small;
    list = (width, numbers);
    value = record {
      wide = wide_value wide;
      canonical = canonical_value canonical;
      described = describes list width short inside h;
    };
  }

-- ---- the first values
module _ {V : Type 0} {R : Semiring V} (laws : SemiringLaws R) where
  unit_size : (n i : ℕ) → row_size R (unit_row R n i) ≤ 0
  unit_size n i = row_size-set laws (bottom R n) i R.one 0 (row_size-bottom laws n 0) (omega (arith, laws.size_one))

  pub units_size : (n m : ℕ) → rows_size R (unit_rows R n m) ≤ 0
  units_size n zero = omega arith
  units_size n (suc m) = omega (arith, unit_size n m, units_size n m)

  pub whole_is_units : (n : ℕ) (rows : List (List V)) → Represents R n (IsVector n) rows → rows ≡ unit_rows R n n
  whole_is_units n rows h =
      IsCanonical-unique laws (IsVector n) (Solves R n []) rows (units_below R n n)
      (λ x. ((everything_solves R n x).1, (everything_solves R n x).0)) h.canonical (units_below_canonical laws n)
      ∙ sym (unit_rows_are R n n)

  pub whole_is_everything : (vars m : ℕ) (cone : Cone V) → m ≡ suc vars → cone.n ≡ m →
      Represents R m (IsVector m) cone.rows → value_of cone None ≡ everything R vars
  whole_is_everything vars m cone e width h = value_same (value_of cone None) (everything R vars) (omega arith)
      (whole_is_units m cone.rows h ∙ ap (λ k. unit_rows R k k) e) refl

  pub whole_is_small : (n : ℕ) (rows : List (List V)) → Represents R n (IsVector n) rows →
      rows_size R rows ≤ most_value
  whole_is_small n rows h = omega (arith, ap (rows_size R) (whole_is_units n rows h), units_size n n)

pub empty_is_nothing : {V : Type 0} (vars : ℕ) (cone : Cone V) → cone.n ≡ suc vars → cone.rows ≡ [] →
    value_of cone None ≡ nothing vars
empty_is_nothing vars cone width none = value_same (value_of cone None) (nothing vars) (omega arith) none refl

-- ---- the kept list
module _ {V : Type 0} (R : Semiring V) (cone : Cone V) (kept : Option (InequalityList V)) (list : InequalityList V)
    (is : kept ≡ Some list) (sound : IsSound R cone kept) where
  sound_some : IsSound R cone (Some list)
  sound_some = subst (IsSound R cone) is sound

  pub described : Describes R (value_of cone (Some list)) list.inequalities
  described = sound_some.value.described

  pub list_in : (list.n ≡ cone.n) × (system_size R list.inequalities ≤ most_kept)
  list_in = sound_some.list

  pub width_some : (k : ℕ) → k ≡ length list.inequalities → k ≡ width_of (list_of kept)
  width_some k e = let few = described.few in subst (λ q. k ≡ width_of (list_of q)) (sym is) (omega arith)

pub list_small : {V : Type 0} (R : Semiring V) (n : ℕ) (kept : Option (InequalityList V)) → IsListIn R n kept →
    MatchOption (list_of kept) (Unit {0}) (λ list. system_size R list ≤ most_kept)
list_small R n None h = tt
list_small R n (Some list) h = h.1

-- ---- whether a value is that without states
no_elements : {X : Type 0} (xs : List X) → length xs ≡ 0 → xs ≡ []
no_elements [] e = refl
no_elements (x ∷ xs) e = absurd (omega arith)

pub listed_is_not_nothing : {V : Type 0} (v : Value V) (list : List (Inequality V)) → v.kept ≡ Some list →
    IsTrue false ↔ (v ≡ nothing v.vars)
listed_is_not_nothing v list e = (
  λ f. absurd (true≢false (sym f)),
  λ h. let k : Some list ≡ None = sym e ∙ ap (λ (u : Value _). u.kept) h in cc,
)

pub nothing_by_rows : {V : Type 0} (v : Value V) (k : ℕ) → v.kept ≡ None → k ≡ length v.rows →
    IsTrue (k == 0) ↔ (v ≡ nothing v.vars)
nothing_by_rows v k e len = (
  λ t. value_same v (nothing v.vars) refl (no_elements v.rows (sym len ∙ eqb-true k 0 t)) e,
  λ h. eq-eqb k 0 (len ∙ ap (λ (u : Value _). length u.rows) h),
)

-- ---- a copy
module _ {V : Type 0} (R : Semiring V) (cone next : Cone V) (same : next ≡ cone) (kept : Option (InequalityList V))
    (sound : IsSound R cone kept) where
  pub copied_none : kept ≡ None → IsSound R next None
  copied_none is = subst (λ k. IsSound R k None) (sym same) (subst (IsSound R cone) is sound)

  pub none_is_copy : kept ≡ None → value_of next None ≡ value_of cone kept
  none_is_copy is = ap (λ (k : Cone V). value_of k None) same ∙ ap (value_of cone) (sym is)

  module _ (list copy : InequalityList V) (is : kept ≡ Some list) (width : copy.n ≡ list.n)
      (listed : copy.inequalities ≡ list.inequalities) where
    copy_here : IsSound R cone (Some copy)
    copy_here = let s : IsSound R cone (Some list) = subst (IsSound R cone) is sound in
        let small = s.list.1 in record {
          at_least = s.at_least;
          at_most = s.at_most;
          few = s.few;
          small = s.small;
          list = (width ∙ s.list.0, subst (λ q. system_size R q ≤ most_kept) (sym listed) small);
          value = subst (λ q. IsValue R (record { vars = cone.n - 1; rows = cone.rows; kept = Some q })) (sym listed)
              s.value;
        }

    pub copied_some : IsSound R next (Some copy)
    copied_some = subst (λ k. IsSound R k (Some copy)) (sym same) copy_here

    pub some_is_copy : value_of next (Some copy) ≡ value_of cone kept
    some_is_copy = ap (λ (k : Cone V). value_of k (Some copy)) same
        ∙ ap (λ q. record { vars = cone.n - 1; rows = cone.rows; kept = Some q }) listed
        ∙ ap (value_of cone) (sym is)
