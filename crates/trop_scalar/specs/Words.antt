-- An element of the max-plus semiring as one signed word, whose least value stands for the zero.
use Rattle.std.specs.Prelude.{◌≡◌, ℤ, negsuc, Bool, true, false, cond, Option, Some, None, ◌^◌, ◌-◌, refl}
use Rattle.std.specs.Ordering.{int_eq}
use Rattle.std.proofs.Common.{sym}
use Rattle.std.proofs.lemmas.Bool.Decides.{Decides-int_eq}

-- the least value of a signed word
abbrev pub least : ℤ
least = negsuc (2 ^ 63 - 1)

abbrev pub word_value : ℤ → Option ℤ
word_value z = cond (int_eq z least) None (Some z)

abbrev pub word_of : Option ℤ → ℤ
word_of None = least
word_of (Some z) = z

-- the word of a word's value is the word
undone : (z : ℤ) (b : Bool) → int_eq z least ≡ b → word_of (cond b None (Some z)) ≡ z
undone z true e = sym ((Decides-int_eq z least).0 e)
undone z false e = refl

pub word_of-word_value : (z : ℤ) → word_of (word_value z) ≡ z
word_of-word_value z = undone z (int_eq z least) refl
