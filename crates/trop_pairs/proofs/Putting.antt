-- A slot that is put, and one that is taken off again.
use Rattle.std.proofs.Common.{◌≡◌, ◌++◌, ◌+◌, [], ◌∷◌, ℕ, Option, Some, None, arith, length-append, List, length, ⊎_elim, sym, ap, ◌∙◌, subst}
use Rattle.std.specs.Prelude.{MatchOption}
use Rattle.std.specs.Option.{option_to_list}
use Rattle.trop_pruning.specs.Slots.{Slot}
use Rattle.trop_pruning.specs.PairEdges.{HasEdge}
use Rattle.trop_pruning.specs.Judged.{Side}
use Rattle.trop_pruning.specs.Kept.{IsPut}
use Rattle.std.proofs.lemmas.List.{same_from_push}

never_zero : (k : ℕ) → 0 ≡ k + 1 → ⊥
never_zero k e = omega arith

module _ {V : Type 0} (old now : Side V) (slot seen : Slot V) (slots : List (Slot V)) (places : List ℕ)
    (h : IsPut old slot now) (es : now.slots ≡ slots ++ seen ∷ []) where
  same_slot : (slots ≡ old.slots) × (seen ≡ slot)
  same_slot = same_from_push slots old.slots seen slot (sym es ∙ h.slots)

  pub taken_back : (new : Side V) → new.row ≡ now.row → new.words ≡ now.words → new.slots ≡ slots →
      new.places ≡ old.places → new ≡ old
  taken_back new er ew eslots ep = ap (λ r. record
      { row = r; words = new.words; slots = new.slots; places = new.places }) (er ∙ h.row)
      ∙ ap (λ w. record { row = old.row; words = w; slots = new.slots; places = new.places }) (ew ∙ h.words)
      ∙ ap (λ s. record { row = old.row; words = old.words; slots = s; places = new.places }) (eslots ∙ same_slot.0)
      ∙ ap (λ p. record { row = old.row; words = old.words; slots = old.slots; places = p }) ep

  -- the place of a slot that gives a hyperedge is the last one
  pub places_popped : (rest : List ℕ) (r : Option ℕ) (many fewer : ℕ) → HasEdge seen →
      now.places ≡ rest ++ option_to_list r → many ≡ length now.places →
      MatchOption r ((many ≡ 0) × (fewer ≡ 0)) (λ k. fewer + 1 ≡ many) → rest ≡ old.places
  places_popped rest r many fewer has e en m = ⊎_elim (λ a. popped r a.1 e m)
      (λ b. absurd (b.0 (subst HasEdge same_slot.1 has))) h.places
    where
      popped : (r : Option ℕ) → now.places ≡ old.places ++ length old.slots ∷ [] →
          now.places ≡ rest ++ option_to_list r → MatchOption r ((many ≡ 0) × (fewer ≡ 0)) (λ k. fewer + 1 ≡ many) →
          rest ≡ old.places
      popped (Some k) a e m = (same_from_push rest old.places k (length old.slots) (sym e ∙ a)).0
      popped None a e m = absurd (never_zero (length old.places)
          (sym m.0 ∙ en ∙ ap length a ∙ length-append old.places (length old.slots ∷ [])))

  pub places_without : (HasEdge seen → ⊥) → now.places ≡ old.places
  places_without none = ⊎_elim (λ a. absurd (none (subst HasEdge (sym same_slot.1) a.0))) (λ b. b.1) h.places
