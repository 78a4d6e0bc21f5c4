-- The words of an analysis, whose keys may be left out.
use Rattle.std.proofs.Common.{◌≡◌, ◌≤◌, ℕ, List, [], ◌∷◌, codes, inl, inr, refl, ap, arith}
use Rattle.trop_words.specs.declared.command.Mode.{Mode}
use Rattle.trop_words.specs.declared.command.Command.TheVariants.{Analyze}
use Rattle.trop_words.specs.Words.{IsSpelled, mode_word, key_word}

pub neither_key : (first second : List ℕ) (mode : Mode) → first ≡ codes "analyze" → second ≡ mode_word mode →
    IsSpelled (first ∷ second ∷ []) (Analyze mode 2 0)
neither_key first second mode f s = (omega arith, omega arith, ([], [], inl (refl, refl), inl (refl, refl), cc))

pub first_key : (first second third : List ℕ) (mode : Mode) (delay : ℕ) → first ≡ codes "analyze" →
    second ≡ mode_word mode → delay ≤ 1000 → third ≡ key_word (codes "delay=") delay →
    IsSpelled (first ∷ second ∷ third ∷ []) (Analyze mode delay 0)
first_key first second third mode delay f s le d =
    (le, omega arith, (third ∷ [], [], inr (ap (λ w. w ∷ []) d), inl (refl, refl), cc))

pub second_key : (first second third : List ℕ) (mode : Mode) (narrow : ℕ) → first ≡ codes "analyze" →
    second ≡ mode_word mode → narrow ≤ 100 → third ≡ key_word (codes "narrow=") narrow →
    IsSpelled (first ∷ second ∷ third ∷ []) (Analyze mode 2 narrow)
second_key first second third mode narrow f s le n =
    (omega arith, le, ([], third ∷ [], inl (refl, refl), inr (ap (λ w. w ∷ []) n), cc))

pub both_keys : (first second third fourth : List ℕ) (mode : Mode) (delay narrow : ℕ) → first ≡ codes "analyze" →
    second ≡ mode_word mode → delay ≤ 1000 → third ≡ key_word (codes "delay=") delay → narrow ≤ 100 →
    fourth ≡ key_word (codes "narrow=") narrow
    → IsSpelled (first ∷ second ∷ third ∷ fourth ∷ []) (Analyze mode delay narrow)
both_keys first second third fourth mode delay narrow f s ld d ln n =
    (ld, ln, (third ∷ [], fourth ∷ [], inr (ap (λ w. w ∷ []) d), inr (ap (λ w. w ∷ []) n), cc))
