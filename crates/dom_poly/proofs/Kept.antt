-- The kept list.
use Rattle.std.proofs.Common.{◌≡◌, ◌<◌, ◌≤◌, ◌+◌, ◌*◌, ◌-◌, ◌^◌, ℕ, zero, suc, List, [], ◌∷◌, ◌++◌, length, take, get_or, Some, None, inr, sym, ap, ◌∙◌, refl, subst, arith}
use Rattle.std.proofs.Math.Nat.{mul-le-mul_left}
use Rattle.std.proofs.lemmas.List.{take_more}
use Rattle.trop_theory.specs.Semiring.{Semiring, SemiringLaws}
use Rattle.trop_theory.specs.Inequalities.{Inequality, IsIn, IsValidOn, inequality_size, system_size}
use Rattle.trop_theory.specs.Combinations.{IsCombination}
use Rattle.trop_theory.specs.Canonical.{row_limit}
use Rattle.trop_theory.specs.StepList.{AreChosen}
use Rattle.trop_theory.proofs.StepLists.{All-chosen, length_chosen, chosen_push, chosen_skip}
use Rattle.trop_criterion.proofs.Criterion.{All-system_size}
use Rattle.trop_cones.proofs.Sizes.{system_size-each}
use Rattle.trop_row.specs.Lists.{InequalityList}
use Rattle.cone_domain.specs.Values.{Value, coordinates, cone_of}
use Rattle.cone_domain.specs.Operations.{IsBase}
use Rattle.cone_domain.specs.Refused.{IsUnstopped}
use Rattle.dom_poly.specs.Kept.{most_kept}
use Rattle.trop_duality.specs.External.{IsExternal}
use Rattle.trop_duality.specs.PolarStops.{IsPolarStop}
use Rattle.std.specs.Prelude.{All, Err}
use Rattle.trop_poly.specs.Cones.{Cone, InCone}
use Rattle.trop_poly.specs.Refusals.{IsExternalRefusal}
use Rattle.trop_poly.specs.declared.error.PolyErr.{PolyErr}
use Rattle.trop_poly.specs.declared.error.PolyErr.TheVariants as cones
use Rattle.dom_poly.specs.Lists.{IsKept, IsKeptFor}
use Rattle.dom_poly.proofs.Named.{cone_as}

-- an inequality is its two sides
pub same_inequality : {V : Type 0} (p q : Inequality V) → p.left ≡ q.left → p.right ≡ q.right → p ≡ q
same_inequality p q left right = ap (λ l. record { left = l; right = p.right }) left
    ∙ ap (λ r. record { left = q.left; right = r }) right

-- the copy of an inequality of a list is as wide as the list
pub copy_wide : {V : Type 0} (n m : ℕ) (whole list : List (Inequality V)) (k : ℕ) (x p : Inequality V) → list ≡ whole
    → All (IsIn n) whole → k < length list → x ≡ get_or list k x → p.left ≡ x.left → p.right ≡ x.right → m ≡ n
    → IsIn m p
copy_wide n m whole list k x p same wide within is left right width =
    let item : IsIn n x = subst (IsIn n) (sym is) (subst (All (IsIn n)) (sym same) wide k x within) in
    record {
      left = ap length left ∙ item.left ∙ sym width;
      right = ap length right ∙ item.right ∙ sym width;
    }

pub taken_more : {X : Type 0} (xs : List X) (k : ℕ) (x : X) → k < length xs → x ≡ get_or xs k x →
    take (k + 1) xs ≡ take k xs ++ x ∷ []
taken_more xs k x l is = take_more xs k x l ∙ ap (λ y. take k xs ++ y ∷ []) (sym is)

pub taken_whole : {X : Type 0} (xs : List X) (k : ℕ) → length xs ≤ k → take k xs ≡ xs
taken_whole [] zero l = refl
taken_whole [] (suc k) l = refl
taken_whole (x ∷ xs) zero l = absurd (omega arith)
taken_whole (x ∷ xs) (suc k) l = ap (λ ys. x ∷ ys) (taken_whole xs k (omega arith))

pub taken_length : {X : Type 0} (xs : List X) (k : ℕ) → length (take k xs) ≤ k
taken_length [] zero = omega arith
taken_length [] (suc k) = omega arith
taken_length (x ∷ xs) zero = omega arith
taken_length (x ∷ xs) (suc k) = omega (arith, taken_length xs k)

-- ---- choosing the elements of a list with a property, one after another
module _ {X : Type 0} (P : X → Type 0) (xs : List X) (k : ℕ) (x : X) (within : k < length xs) (is : x ≡ get_or xs k x)
    (old : List X) (h : AreChosen P (take k xs) old) where
  more : take (k + 1) xs ≡ take k xs ++ x ∷ []
  more = take_more xs k x within ∙ ap (λ y. take k xs ++ y ∷ []) (sym is)

  pub chosen_more : (new : List X) → P x → new ≡ old ++ x ∷ [] → AreChosen P (take (k + 1) xs) new
  chosen_more new p e = subst (AreChosen P (take (k + 1) xs)) (sym e)
      (subst (λ ys. AreChosen P ys (old ++ x ∷ [])) (sym more) (chosen_push P (take k xs) old x h p))

  pub chosen_past : (new : List X) → (P x → ⊥) → new ≡ old → AreChosen P (take (k + 1) xs) new
  chosen_past new p e = subst (AreChosen P (take (k + 1) xs)) (sym e)
      (subst (λ ys. AreChosen P ys old) (sym more) (chosen_skip P (take k xs) old x h p))

-- ---- the size of the external list of a value
pub external_small : (s size n : ℕ) → size ≤ 2 ^ 40 → n ≤ 64 → s ≤ 4 * size * (n - 1) → s ≤ 2 ^ 48
external_small s size n l m h =
    let a : 4 * size * (n - 1) ≤ 4 * size * 63 = mul-le-mul_left (4 * size) (omega arith) in omega arith

module _ {V : Type 0} {R : Semiring V} (laws : SemiringLaws R) where
  chosen_small : (P : Inequality V → Type 0) (base list : List (Inequality V)) (m : ℕ) → AreChosen P base list →
      system_size R base ≤ m → system_size R list ≤ m
  chosen_small P base list m chosen h = system_size-each laws list m
      (All-chosen P (λ p. inequality_size R p ≤ m) base list chosen (All-system_size R base m h))

  pub kept_of : (v next : Value V) (n : ℕ) (rows : List (List V)) (base list : InequalityList V) →
      n ≡ suc next.vars → rows ≡ next.rows → IsBase R v base.inequalities → base.n ≡ coordinates v →
      length base.inequalities ≤ row_limit → system_size R base.inequalities ≤ most_kept → IsUnstopped R v →
      list.n ≡ base.n → AreChosen (IsValidOn R (IsCombination R n rows)) base.inequalities list.inequalities →
      IsKept R v next list
  kept_of v next n rows base list width same is_base base_width few small unstopped list_width chosen =
      let P : Inequality V → Type 0 = IsValidOn R (cone_of R next) in
      let c : AreChosen (IsValidOn R (cone_of R next)) base.inequalities list.inequalities =
      subst (λ m. AreChosen (IsValidOn R (IsCombination R m next.rows)) base.inequalities list.inequalities) width
      (subst (λ g. AreChosen (IsValidOn R (IsCombination R n g)) base.inequalities list.inequalities) same chosen) in
      let short = length_chosen (IsValidOn R (cone_of R next)) base.inequalities list.inequalities c in
      record {
        width = list_width ∙ base_width;
        few = omega arith;
        small = chosen_small (IsValidOn R (cone_of R next)) base.inequalities list.inequalities most_kept c small;
        kept = record { base = base.inequalities; is_base = is_base; chosen = c };
        unstopped = unstopped;
      }

-- ---- where the widening begins
module _ {V : Type 0} (R : Semiring V) (v : Value V) where
  pub kept_unstopped : (base : List (Inequality V)) → v.kept ≡ Some base → IsUnstopped R v
  kept_unstopped base e none = absurd (let k : Some base ≡ None = sym e ∙ none in cc)

  module _ (cone : Cone V) (width : cone.n ≡ suc v.vars) (same : cone.rows ≡ v.rows) where
    pub external_base : (base : List (Inequality V)) → v.kept ≡ None → IsExternal R cone.n (InCone R cone) base →
        IsBase R v base
    external_base base none e = inr (
      none,
      subst (λ (k : Cone V). IsExternal R k.n (InCone R k) base)
          (sym (cone_as v cone width same)) e,
    )

    pub external_unstopped : ((i k : ℕ) → IsPolarStop R cone.n cone.rows i k → ⊥) → IsUnstopped R v
    external_unstopped h none i k stop = h i k
        (subst (λ (a : Cone V). IsPolarStop R a.n a.rows i k) (cone_as v cone width same) stop)

    pub external_refused : (next : Value V) (err : PolyErr) → v.kept ≡ None → IsExternalRefusal R cone.n cone.rows err →
        IsKeptFor R v next (Err err)
    external_refused next (cones.Rows k) none h = h
    external_refused next (cones.Polar i k) none h = (
      none,
      subst (λ (a : Cone V). IsPolarStop R a.n a.rows i k) (sym (cone_as v cone width same)) h,
    )
    external_refused next cones.NoMemory none h = tt
