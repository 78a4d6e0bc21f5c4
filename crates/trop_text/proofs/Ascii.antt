-- Words are of ASCII, so they are text.
use Rattle.std.proofs.Common.{◌≡◌, ◌<◌, ℕ, zero, suc, Bool, true, false, ◌&&◌, List, [], ◌∷◌, arith, refl}
use Rattle.std.proofs.lemmas.Bool.Decides.{nat_tests}
use Rattle.std.proofs.lemmas.Str.{IsUtf8-from_ascii}
use Rattle.std.proofs.lemmas.Str.Ascii.{IsAscii-from_all}
use Rattle.std.proofs.lemmas.List.Sums.{AllPass-from_list_all}
use Rattle.std.specs.List.{list_all, All}
use Rattle.std.specs.Str.{IsUtf8}
use Rattle.trop_text.specs.Bytes.{is_letter, is_word_byte}
use Rattle.trop_text.specs.Name.{is_word, is_name}

small_letter : (b : ℕ) → is_letter b ≡ true → b < 128
small_letter b h = grind (arith, nat_tests)

small_byte : (b : ℕ) → is_word_byte b ≡ true → b < 128
small_byte b h = grind (arith, nat_tests)

first_true : (a b : Bool) → (a && b) ≡ true → a ≡ true
first_true true b h = refl
first_true false b h = h

second_true : (a b : Bool) → (a && b) ≡ true → b ≡ true
second_true true b h = h
second_true false b h = absurd cc

small_bytes : (bs : List ℕ) → is_word bs ≡ true → All (λ b. b < 128) bs
small_bytes [] h = absurd cc
small_bytes (b ∷ bs) h = small_at
  where
    small_at : All (λ b. b < 128) (b ∷ bs)
    small_at zero d i = small_letter b (first_true (is_letter b) (list_all is_word_byte bs) h)
    small_at (suc k) d i = small_byte _ (AllPass-from_list_all is_word_byte bs
        (second_true (is_letter b) (list_all is_word_byte bs) h) k d (omega (arith, i)))

pub name_is_text : (text : List ℕ) → is_name text ≡ true → IsUtf8 text
name_is_text text h = IsUtf8-from_ascii text (IsAscii-from_all text
    (small_bytes text (first_true _ _ (first_true _ _ h))))
