-- The names of the members of a set, coordinate by coordinate.
use Rattle.std.proofs.Common.{◌≡◌, ◌+◌, ◌++◌, ◌∷◌, [], ℕ, suc, Bool, true, false, List, add-one, sym, ap, ◌∙◌, refl, append_assoc, eq-eqb, ⊎_elim, true≢false}
use Rattle.std.proofs.lemmas.Bool.Decides.{eqb_tells}
use Rattle.std.specs.Prelude.{codes, if◌then◌else◌, IsTrue, ◌↔◌}
use Rattle.std.proofs.lemmas.List.{append-nil}
use Rattle.std.specs.Int.{bit_at}
use Rattle.trop_criterion.specs.Hypergraphs.{Has}
use Rattle.tplib_tangent.specs.Members.{has_bit}
use Rattle.tplib_tangent.specs.Tangent.{names_of, coordinate_name, Tells}

-- the test tells the members
pub has_bit-true : (set i : ℕ) → Has set i → has_bit set i ≡ true
has_bit-true set i h = eq-eqb (bit_at set i) 1 h

pub has_bit-false : (set i : ℕ) → (Has set i → ⊥) → has_bit set i ≡ false
has_bit-false set i h = ⊎_elim (λ p. absurd (h p.1)) (λ p. p.0) (eqb_tells (bit_at set i) 1)

one_more : (names : List (List ℕ)) (test : ℕ → Bool) (i : ℕ) (b : Bool) → test i ≡ b →
    names_of names test (i + 1) ≡ names_of names test i ++ (if b then codes " " ++ coordinate_name names i else [])
unfolding names_of
one_more names test i b e = ap (names_of names test) (add-one i)
    ∙ ap (λ c. names_of names test i ++ (if c then codes " " ++ coordinate_name names i else [])) e

pub named_more : (names : List (List ℕ)) (test : ℕ → Bool) (i : ℕ) (old now space all : List ℕ) → test i ≡ true →
    now ≡ old ++ names_of names test i → space ≡ now ++ 32 ∷ [] → all ≡ space ++ coordinate_name names i →
    all ≡ old ++ names_of names test (i + 1)
named_more names test i old now space all e p q r =
    r ∙ ap (λ z. z ++ coordinate_name names i) (q ∙ ap (λ z. z ++ 32 ∷ []) p)
    ∙ append_assoc (old ++ names_of names test i) (32 ∷ []) (coordinate_name names i)
    ∙ append_assoc old (names_of names test i) (32 ∷ coordinate_name names i)
    ∙ ap (λ z. old ++ z) (sym (one_more names test i true e))

pub named_same : (names : List (List ℕ)) (test : ℕ → Bool) (i : ℕ) (old now : List ℕ) → test i ≡ false →
    now ≡ old ++ names_of names test i → now ≡ old ++ names_of names test (i + 1)
named_same names test i old now e p = p ∙ ap (λ z. old ++ z)
    (sym (append-nil (names_of names test i)) ∙ sym (one_more names test i false e))

pub has_bit-is : (set i : ℕ) → IsTrue (has_bit set i) ↔ Has set i
has_bit-is set i = (
  λ h. ⊎_elim (λ p. p.1) (λ p. absurd (true≢false (sym h ∙ p.0))) (eqb_tells (bit_at set i) 1),
  λ h. has_bit-true set i h,
)

-- a word that tells a set, as a test
pub has_bit-tells : (set n : ℕ) (P : ℕ → Type 0) → ((i : ℕ) → Has set i ↔ P i) → Tells n (has_bit set) P
has_bit-tells set n P h i l = (λ b. (h i).0 ((has_bit-is set i).0 b), λ p. (has_bit-is set i).1 ((h i).1 p))
