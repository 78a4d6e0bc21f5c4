-- The block of a value, from its lines.
use Rattle.std.proofs.Common.{◌≡◌, ◌∙◌, ℕ, suc, List, [], ◌∷◌, ◌++◌, Option, length, ap, subst, sym, refl, arith}
use Rattle.std.specs.Prelude.{ℤ, codes}
use Rattle.trop_theory.specs.Inequalities.{Inequality}
use Rattle.trop_theory.specs.Combinations.{IsCombination}
use Rattle.trop_theory.specs.Canonical.{IsCanonical}
use Rattle.trop_theory.specs.MaxPlus.{max_ring}
use Rattle.trop_duality.specs.External.{IsExternal}
use Rattle.trop_duality.specs.PolarStops.{IsPolarStop}
use Rattle.cone_domain.specs.Values.{Value, coordinates, cone_of, IsValue}
use Rattle.report_texts.specs.Printed.{lines_text}
use Rattle.mixed_print.specs.Blocks.{row_line, inv_line, lines_on}
use Rattle.mixed_print.specs.Said.{AreBoundsOf, IsListStop}
use Rattle.mixed_print.specs.Made.{IsBlockOf}

abbrev Element : Type 0
Element = Option ℤ

bounds_of : (v : Value Element) (rows : List (List Element)) (printed : List (Inequality Element)) → (rows ≡ [] → ⊥) →
    IsExternal max_ring (coordinates v) (cone_of max_ring v) printed → AreBoundsOf v rows printed
bounds_of v [] printed some external = absurd (some refl)
bounds_of v (x ∷ rows) printed some external = external

lines_of : (names : List (List ℕ)) (rows : List (List Element)) (printed : List (Inequality Element)) →
    (rows ≡ [] → ⊥) → lines_text row_line rows ++ lines_text (inv_line names) printed ≡ lines_on names rows printed
lines_of names [] printed some = absurd (some refl)
lines_of names (x ∷ rows) printed some = refl

pub no_rows : {A : Type 0} (xs : List A) → length xs ≡ 0 → xs ≡ []
no_rows [] e = refl
no_rows (x ∷ xs) e = absurd (omega arith)

-- no external list of no rows stops
empty_unstopped : (v : Value Element) → v.rows ≡ [] → (i k : ℕ) → IsListStop v i k → ⊥
empty_unstopped v none i k stop =
    let l = ap length none in
    omega (arith, l, stop.pair.some, stop.pair.within)

-- ---- a cone of the code is that of the value
module _ (v : Value Element) (n : ℕ) (rows : List (List Element)) (width : n ≡ suc v.vars) (same : rows ≡ v.rows) where
  pub listed_external : (printed : List (Inequality Element)) →
      IsExternal max_ring n (IsCombination max_ring n rows) printed →
      IsExternal max_ring (coordinates v) (cone_of max_ring v) printed
  listed_external printed h =
      subst (λ m. IsExternal max_ring m (IsCombination max_ring m v.rows) printed) width
      (subst (λ (g : List (List Element)). IsExternal max_ring n (IsCombination max_ring n g) printed) same h)

  pub listed_stop : (i k : ℕ) → IsPolarStop max_ring n rows i k → IsListStop v i k
  listed_stop i k h =
      subst (λ m. IsPolarStop max_ring m v.rows i k) width
      (subst (λ (g : List (List Element)). IsPolarStop max_ring n g i k) same h)

  pub listed_unstopped : ((i k : ℕ) → IsPolarStop max_ring n rows i k → ⊥) → (i k : ℕ) → IsListStop v i k → ⊥
  listed_unstopped free i k h =
      free i k (subst (λ (g : List (List Element)). IsPolarStop max_ring n g i k) (sym same)
      (subst (λ m. IsPolarStop max_ring m v.rows i k) (sym width) h))

-- ---- its lines, one after another
pub listed_text : (names : List (List ℕ)) (v : Value Element) (rows : List (List Element))
    (printed : List (Inequality Element)) (empty first second : List ℕ) → empty ≡ [] → rows ≡ v.rows →
    first ≡ empty ++ lines_text row_line rows → second ≡ first ++ lines_text (inv_line names) printed →
    second ≡ lines_text row_line v.rows ++ lines_text (inv_line names) printed
listed_text names v rows printed empty first second none same e f =
    f ∙ ap (λ t. t ++ lines_text (inv_line names) printed)
    (e ∙ ap (λ t. t ++ lines_text row_line rows) none ∙ ap (lines_text row_line) same)

module _ (names : List (List ℕ)) (v : Value Element) (value : IsValue max_ring v) (text : List ℕ) where
  -- without rows
  pub block_empty : v.rows ≡ [] → text ≡ codes "unreachable\n" → IsBlockOf names v text
  block_empty none is = record {
    part = record { rows = []; printed = [] };
    said = record {
      canonical = subst (IsCanonical max_ring (cone_of max_ring v)) none value.canonical;
      bounds = refl;
    };
    is = is;
    unstopped = empty_unstopped v none;
  }

  -- with rows
  pub block_listed : (printed : List (Inequality Element)) → (v.rows ≡ [] → ⊥) →
      IsExternal max_ring (coordinates v) (cone_of max_ring v) printed → ((i k : ℕ) → IsListStop v i k → ⊥) →
      text ≡ lines_text row_line v.rows ++ lines_text (inv_line names) printed → IsBlockOf names v text
  block_listed printed some external free is = record {
    part = record { rows = v.rows; printed = printed };
    said = record { canonical = value.canonical; bounds = bounds_of v v.rows printed some external };
    is = is ∙ lines_of names v.rows printed some;
    unstopped = free;
  }
