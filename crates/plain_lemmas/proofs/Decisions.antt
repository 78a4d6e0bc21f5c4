-- Decisions on elements and numbers, and sets of numbers as tests.
use Rattle.std.proofs.Common.{Option, Some, None, sym, ◌∙◌, true≢false, ◌⊎◌, ◌<◌, ℕ, zero, suc, Bool, true, false, inl, inr, ⊎_elim, refl, arith, subst, ◌≡◌}
use Rattle.std.specs.Prelude.{IsTrue, MatchOption, is_none, ◌↔◌}
use Rattle.std.proofs.lemmas.Bool.{cases_lt}

-- the answer of a decision
abbrev pub test : {A : Type 0} → A ⊎ (A → ⊥) → Bool
test (inl a) = true
test (inr f) = false

pub test_true : {A : Type 0} (d : A ⊎ (A → ⊥)) → A → IsTrue (test d)
test_true (inl b) a = refl
test_true (inr f) a = absurd (f a)

pub true_test : {A : Type 0} (d : A ⊎ (A → ⊥)) → IsTrue (test d) → A
true_test (inl a) e = a
true_test (inr f) e = cc

pub decide_true : (b : Bool) → IsTrue b ⊎ (IsTrue b → ⊥)
decide_true true = inl refl
decide_true false = inr (λ e. cc)

pub decide_not : {A : Type 0} → A ⊎ (A → ⊥) → (A → ⊥) ⊎ ((A → ⊥) → ⊥)
decide_not (inl a) = inr (λ f. f a)
decide_not (inr f) = inl f

pub decide_both : {A B : Type 0} → A ⊎ (A → ⊥) → B ⊎ (B → ⊥) → (A × B) ⊎ (A × B → ⊥)
decide_both (inl a) (inl b) = inl (a, b)
decide_both (inl a) (inr g) = inr (λ p. g p.1)
decide_both (inr f) d = inr (λ p. f p.0)

-- a fact with no refutation holds where it is decided
pub stable : {A : Type 0} → A ⊎ (A → ⊥) → ((A → ⊥) → ⊥) → A
stable (inl a) h = a
stable (inr f) h = absurd (h f)

-- some number below n has a decided property, or none has
pub some_below : (P : ℕ → Type 0) → ((i : ℕ) → P i ⊎ (P i → ⊥)) → (n : ℕ) →
    ((i : ℕ) × (i < n) × P i) ⊎ ((i : ℕ) → i < n → P i → ⊥)
some_below P d zero = inr (λ i l h. absurd (omega arith))
some_below P d (suc n) =
    ⊎_elim
    (λ s. inl (s.0, omega (arith, s.1), s.2))
    (λ none. ⊎_elim
    (λ here. inl (n, omega arith, here))
    (λ f. inr (λ i l h. ⊎_elim (λ k. none i k h) (λ k. f (subst P (omega arith) h)) (cases_lt i n)))
    (d n))
    (some_below P d n)

pub decide_either : {A B : Type 0} → A ⊎ (A → ⊥) → B ⊎ (B → ⊥) → (A ⊎ B) ⊎ (A ⊎ B → ⊥)
decide_either (inl a) d = inl (inl a)
decide_either (inr f) (inl b) = inl (inr b)
decide_either (inr f) (inr g) = inr (λ s. ⊎_elim f g s)

-- a fact or its negation
abbrev pub Decided : Type 0 → Type 0
Decided P = P ⊎ (P → ⊥)

-- each number below m, or one that fails
pub all_or_some : (P : ℕ → Type 0) → ((i : ℕ) → Decided (P i)) → (m : ℕ) →
    ((i : ℕ) → i < m → P i) ⊎ ((i : ℕ) × (i < m) × (P i → ⊥))
all_or_some P d zero = inl (λ i l. absurd (omega arith))
all_or_some P d (suc m) = ⊎_elim all some (all_or_some P d m)
  where
    all : ((i : ℕ) → i < m → P i) → ((i : ℕ) → i < suc m → P i) ⊎ ((i : ℕ) × (i < suc m) × (P i → ⊥))
    all h = ⊎_elim
        (λ p. inl (λ i l. ⊎_elim (λ q. h i q) (λ q. let e : m ≡ i = omega arith in subst P e p) (cases_lt i m)))
        (λ p. inr (m, omega arith, p))
        (d m)

    some : (i : ℕ) × (i < m) × (P i → ⊥) → ((i : ℕ) → i < suc m → P i) ⊎ ((i : ℕ) × (i < suc m) × (P i → ⊥))
    some s = inr (s.0, omega (arith, s.1), s.2)

-- a search that finds none exactly where a fact holds tells it
pub none_found : {X P : Type 0} {Q : X → Type 0} (found : Option X) (none : Bool) → none ≡ is_none found →
    MatchOption found P Q → ((x : X) → Q x → P → ⊥) → IsTrue none ↔ P
none_found None none e h f = (λ t. h, λ p. e)
none_found (Some x) none e h f = (λ t. absurd (true≢false (sym t ∙ e)), λ p. absurd (f x h p))
