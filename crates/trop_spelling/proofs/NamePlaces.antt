-- Where names stand among others.
use Rattle.std.proofs.Common.{◌≡◌, ◌≤◌, ◌<◌, ◌⊎◌, inl, inr, ℕ, true, false, Option, Some, None, List, [], length, get_or, slice_get, position, bytes_eq, refl, sym, ap, ◌∙◌, arith, true≢false}
use Rattle.std.specs.List.{position_or_len}
use Rattle.std.proofs.lemmas.Bool.{cases_lt}
use Rattle.std.proofs.lemmas.Grind.{common_steps}
use Rattle.std.proofs.lemmas.List.Sums.{passes_at_first, fails_before_first}
use Rattle.std.proofs.lemmas.Option.{get_or_from_slice_get}
use Rattle.std.proofs.lemmas.Slice.Eq.{bytes_eq-Decides}
use Rattle.trop_text.specs.Name.{is_name}
use Rattle.trop_text.specs.Names.{AreNames, place_of}
use Rattle.trop_text.proofs.Distinct.{found_at}

module _ (names : List (List ℕ)) (name : List ℕ) (are : AreNames names) where
  -- each name is found where it stands
  pub place_of-at : (i : ℕ) → i < length names → slice_get names i ≡ Some name → place_of name names ≡ Some i
  place_of-at i within here = by (cases_lt i first)
    where
      first : ℕ
      first = position_or_len (bytes_eq name) names

      same : get_or names i [] ≡ name
      same = get_or_from_slice_get names i name [] here

      yes : bytes_eq name (get_or names i []) ≡ true
      yes = (bytes_eq-Decides name (get_or names i [])).1 (sym same)

      by : (i < first) ⊎ (first ≤ i) → place_of name names ≡ Some i
      by (inl before) = absurd (true≢false (sym yes ∙ fails_before_first (bytes_eq name) names i [] before))
      by (inr from) =
          let low : first < length names = omega arith in
          let found = (bytes_eq-Decides name (get_or names first [])).0 (passes_at_first (bytes_eq name) names [] low) in
          let is : first ≡ i = are.distinct first i low within (sym found ∙ sym same) in
          grind (arith, common_steps)

  -- and what is found is a name
  pub found_name : (i : ℕ) → place_of name names ≡ Some i → (i < length names) × (is_name name ≡ true)
  found_name i e =
      let f = found_at name names i e in
      (f.0, ap is_name (sym (get_or_from_slice_get names i name [] f.1)) ∙ are.each i [] f.0)

  pub no_name_nowhere : is_name name ≡ false → place_of name names ≡ None
  no_name_nowhere none = by (place_of name names) refl
    where
      by : (o : Option ℕ) → place_of name names ≡ o → o ≡ None
      by None e = refl
      by (Some i) e = absurd (true≢false (sym (found_name i e).1 ∙ none))
