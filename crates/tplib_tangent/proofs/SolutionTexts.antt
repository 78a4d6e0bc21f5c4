-- The lines of a solution, put together.
use Rattle.std.proofs.Common.{◌≡◌, ◌++◌, [], ◌∷◌, ℕ, Bool, true, false, List, inl, inr, sym, ap, ◌∙◌, refl}
use Rattle.std.specs.Prelude.{codes, IsTrue, ◌↔◌, ◌⊎◌, if◌then◌else◌}

-- the line of a fact that is told by a truth value
pub extreme_line : (P : Type 0) (b : Bool) → (IsTrue b ↔ P) →
    (P × ((if b then codes "extreme: yes\n" else codes "extreme: no\n") ≡ codes "extreme: yes\n"))
    ⊎ ((P → ⊥) × ((if b then codes "extreme: yes\n" else codes "extreme: no\n") ≡ codes "extreme: no\n"))
extreme_line P true h = inl (h.0 refl, refl)
extreme_line P false h = inr (λ p. (let e : false ≡ true = h.1 p in cc), refl)

-- three texts, one after another
pub three : (start a b c one two all : List ℕ) → start ≡ [] → one ≡ start ++ a → two ≡ one ++ b → all ≡ two ++ c →
    all ≡ a ++ b ++ c
three start a b c one two all p q r s = s ∙ ap (λ z. z ++ c) (r ∙ ap (λ z. z ++ b) (q ∙ ap (λ z. z ++ a) p))
