-- Names of variables.
use Rattle.std.specs.Prelude.{ℕ, ◌≤◌, ◌||◌, ◌&&◌, nat_le, nat_eq, Bool, IsTrue, List, [], ◌∷◌, length, All}

-- the byte is an ASCII letter or `_`
abbrev pub begins_name : ℕ → Bool
begins_name b = (nat_le 65 b && nat_le b 90) || (nat_le 97 b && nat_le b 122) || nat_eq b 95

-- the byte is an ASCII letter, an ASCII digit or `_`
abbrev pub continues_name : ℕ → Bool
continues_name b = begins_name b || (nat_le 48 b && nat_le b 57)

-- a letter or `_`, then letters, digits and `_`, at most 32 bytes
abbrev pub IsName : List ℕ → Type 0
IsName [] = ⊥
IsName (b ∷ bs) = IsTrue (begins_name b) × All (λ c. IsTrue (continues_name c)) bs × (length (b ∷ bs) ≤ 32)
