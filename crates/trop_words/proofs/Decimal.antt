-- Numbers as they are written.
use Rattle.std.proofs.Common.{◌≡◌, ◌≢◌, ◌<◌, ◌≤◌, ◌^◌, ◌++◌, ℕ, List, [], ◌∷◌, Result, Ok, decimal, sym, ap, ◌∙◌, arith}
use Rattle.std.specs.Str.Parse.{ParsesUnsigned}
use Rattle.std.proofs.lemmas.Fmt.{parse-decimal, decimal_is_IsNumeral}
use Rattle.std.specs.Str.Parse.{digits_value}
use Rattle.trop_words.specs.Words.{key_word}

-- what the text of a number parses as
pub parsed : {E : Type 0} (n : ℕ) (text : List ℕ) (r : Result ℕ E) → n < 2 ^ 32 → text ≡ decimal n →
    ParsesUnsigned 32 10 text r → r ≡ Ok n
parsed n text r small e p = parse-decimal 32 n text r small (omega arith) e p

-- a key is written once
pub key_cancel : (key xs ys : List ℕ) → key ++ xs ≡ key ++ ys → xs ≡ ys
key_cancel [] xs ys e = e
key_cancel (b ∷ key) xs ys e = key_cancel key xs ys cc

pub decimal_same : (m n : ℕ) → m < 2 ^ 32 → n < 2 ^ 32 → decimal m ≡ decimal n → m ≡ n
decimal_same m n p q e = sym (decimal_value m (omega arith)) ∙ ap (digits_value 10) e ∙ decimal_value n (omega arith)
  where
    decimal_value : (k : ℕ) → k < 2 ^ 64 → digits_value 10 (decimal k) ≡ k
    decimal_value k small = (decimal_is_IsNumeral k small).1

-- no number in the range is written so, where the number behind the key is out of range
pub none_in_range : (least most number : ℕ) (word key text : List ℕ) → word ≡ key ++ text → number < 2 ^ 32 →
    most < 2 ^ 32 → text ≡ decimal number → (least ≤ number → number ≤ most → ⊥) → (n : ℕ) → least ≤ n → n ≤ most →
    word ≢ key_word key n
none_in_range least most number word key text w small high t out n low up e =
    let same : text ≡ decimal n = key_cancel key text (decimal n) (sym w ∙ e) in
    let value : number ≡ n = decimal_same number n small (omega arith) (sym t ∙ same) in
    out (omega arith) (omega arith)
