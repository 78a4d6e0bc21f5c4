-- Steps of a comparison of two lists.
use Rattle.std.proofs.Common.{◌≡◌, ◌<◌, ◌≤◌, ◌+◌, ℕ, List, length, drop, get_or, sym, ap, ◌∙◌}
use Rattle.std.specs.declared.cmp.Ordering.{Ordering}
use Rattle.std.specs.declared.cmp.Ordering.TheVariants.{Less, Greater}
use Rattle.std.specs.Ordering.{ordering_then}
use Rattle.std.specs.Cmp.Lexicographic.{slice_cmp}
use Rattle.std.proofs.lemmas.List.{drop_more, drop_all}
use Rattle.std.proofs.Common.{ap₂}

module _ {X : Type 0} (cmp : X → X → Ordering) (a b : List X) (i : ℕ) where
  pub past_second : i < length a → length b ≤ i → slice_cmp cmp (drop i a) (drop i b) ≡ slice_cmp cmp a b → (d : X) →
      Greater ≡ slice_cmp cmp a b
  past_second l far h d = sym (ap₂ (slice_cmp cmp) (drop_more a i d l) (drop_all i b far)) ∙ h

  pub past_first : length a ≤ i → i < length b → slice_cmp cmp (drop i a) (drop i b) ≡ slice_cmp cmp a b → (d : X) →
      Less ≡ slice_cmp cmp a b
  past_first far l h d = sym (ap₂ (slice_cmp cmp) (drop_all i a far) (drop_more b i d l)) ∙ h

  pub step : (o : Ordering) (x y : X) → x ≡ get_or a i x → y ≡ get_or b i y → i < length a → i < length b →
      o ≡ cmp x y → slice_cmp cmp (drop i a) (drop i b) ≡ slice_cmp cmp a b →
      ordering_then o (slice_cmp cmp (drop (i + 1) a) (drop (i + 1) b)) ≡ slice_cmp cmp a b
  step o x y ex ey la lb e h =
      ap (λ v. ordering_then v (slice_cmp cmp (drop (i + 1) a) (drop (i + 1) b))) (e ∙ ap₂ cmp ex ey)
      ∙ sym (ap₂ (slice_cmp cmp) (drop_more a i x la) (drop_more b i y lb)) ∙ h
