-- The texts that a variable may have as its name.
use Rattle.std.specs.Prelude.{ℕ, Bool, false, ◌&&◌, not, List, [], ◌∷◌, length, nat_le, codes}
use Rattle.std.specs.List.{list_any, list_all}
use Rattle.std.specs.Str.{bytes_eq}
use Rattle.trop_text.specs.Bytes.{is_letter, is_word_byte}

-- a letter or `_`, and then letters, digits and `_`
abbrev pub is_word : List ℕ → Bool
is_word [] = false
is_word (b ∷ bs) = is_letter b && list_all is_word_byte bs

-- the words that have a meaning in one of the formats
abbrev pub reserved_words : List (List ℕ)
reserved_words =
    codes "oo" ∷ codes "max" ∷ codes "min" ∷ codes "or" ∷ codes "true" ∷ codes "false"
    ∷ codes "vars" ∷ codes "havoc" ∷ codes "assume" ∷ codes "assert" ∷ codes "if" ∷ codes "else" ∷ codes "while" ∷ codes
    "skip"
    ∷ codes "point" ∷ codes "ray" ∷ codes "and" ∷ codes "at" ∷ codes "inv" ∷ codes "end" ∷ codes "start" ∷ codes
    "choices" ∷ []

abbrev pub is_reserved : List ℕ → Bool
is_reserved text = list_any (bytes_eq text) reserved_words

-- the longest name of a variable, in bytes
abbrev pub longest_name : ℕ
longest_name = 32

-- a word that is short enough and that no format uses for itself
abbrev pub is_name : List ℕ → Bool
is_name text = is_word text && nat_le (length text) longest_name && not (is_reserved text)
