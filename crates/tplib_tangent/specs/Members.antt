-- The members of a set of numbers that is one word, as a test.
use Rattle.std.specs.Prelude.{ℕ, Bool, nat_eq}
use Rattle.std.specs.Int.{bit_at}

abbrev pub has_bit : ℕ → ℕ → Bool
has_bit set i = nat_eq (bit_at set i) 1
