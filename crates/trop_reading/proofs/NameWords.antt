-- A name is found at its place among others, and it is no word of the formats and no sign.
use Rattle.std.proofs.Common.{◌≡◌, ◌<◌, ◌+◌, ℕ, zero, suc, Bool, true, false, cond, not, List, [], ◌∷◌, length, get_or, Some, refl, sym, ap, ◌∙◌, arith}
use Rattle.std.specs.List.{position, position_or_len}
use Rattle.std.specs.Str.{bytes_eq}
use Rattle.std.proofs.lemmas.Bool.{lt-ltb}
use Rattle.std.proofs.lemmas.Slice.Eq.{bytes_eq-Decides}
use Rattle.trop_text.specs.Name.{is_name}
use Rattle.trop_text.specs.Names.{AreNames, place_of}

pub false_if : (b : Bool) → (b ≡ true → ⊥) → b ≡ false
false_if true h = absurd (h refl)
false_if false h = refl

-- the first that passes is found
module _ {X : Type 0} (p : X → Bool) (d : X) where
  first_passes : (xs : List X) (k : ℕ) → k < length xs → ((j : ℕ) → j < k → p (get_or xs j d) ≡ false) →
      p (get_or xs k d) ≡ true → position_or_len p xs ≡ k
  first_passes [] k h before here = absurd (omega arith)
  first_passes (x ∷ xs) zero h before here = ap (λ b. cond (not b) (1 + position_or_len p xs) 0) here
  first_passes (x ∷ xs) (suc k) h before here =
      ap (λ b. cond (not b) (1 + position_or_len p xs) 0) (before 0 (omega arith))
      ∙ ap (λ n. 1 + n) (first_passes xs k (omega arith) (λ j l. before (suc j) (omega arith)) here)
      ∙ omega arith

  position_is : (xs : List X) (n k : ℕ) → k < n → position_or_len p xs ≡ k → n ≡ length xs → position p xs ≡ Some k
  position_is xs n k h e l = rw (e, ← l, lt-ltb k n h) refl

-- each name is found at its place
pub place_at : (names : List (List ℕ)) (k : ℕ) → AreNames names → k < length names →
    place_of (get_or names k []) names ≡ Some k
place_at names k are h =
    let name = get_or names k [] in
    let same : bytes_eq name name ≡ true = (bytes_eq-Decides name name).1 refl in
    position_is (bytes_eq name) [] names (length names) k h (first_passes (bytes_eq name) [] names k h apart same) refl
  where
    differs : (j : ℕ) → j < k → bytes_eq (get_or names k []) (get_or names j []) ≡ true → ⊥
    differs j l e =
        let equal = are.distinct k j h (omega arith) ((bytes_eq-Decides (get_or names k []) (get_or names j [])).0 e) in
        absurd (omega arith)

    apart : (j : ℕ) → j < k → bytes_eq (get_or names k []) (get_or names j []) ≡ false
    apart j l = false_if _ (differs j l)

-- a name differs from every text that is none, so from the words of the formats and from signs
pub not_named : (name word : List ℕ) → is_name name ≡ true → is_name word ≡ false → bytes_eq name word ≡ false
not_named name word h other = false_if (bytes_eq name word) differs
  where
    differs : bytes_eq name word ≡ true → ⊥
    differs e = let same : true ≡ false = sym h ∙ ap is_name ((bytes_eq-Decides name word).0 e) ∙ other in cc
