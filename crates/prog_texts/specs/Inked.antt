-- Tokens that are what was printed.
use Rattle.std.specs.Prelude.{◌≡◌, ℕ, true, false, List, [], ◌∷◌, Ok}
use Rattle.std.specs.List.{list_all}
use Rattle.trop_text.specs.Bytes.{is_digit}
use Rattle.shape_grammar.specs.Past.{past}
use Rattle.prog_theory.specs.Limits.{Limits}
use Rattle.prog_texts.specs.Words.{Counted, text, skipped, says, is_digits, is_variable}
use Rattle.prog_texts.specs.Judges.{number, known, is_one_too_many, is_atom_too_many}
use Rattle.prog_texts.specs.Inks.{Ink, Says, Name, Number, Blank, Feed}

-- statements and atoms are not yet at their limit
pub record IsWithin (L : Limits) (t : Counted) : Type 0 where
  pub one : is_one_too_many L t ≡ false
  pub atom : is_atom_too_many L t ≡ false

-- a known name has its coordinate, and a number is within the bound
abbrev pub IsInk : Limits → List (List ℕ) → Ink → Counted → Type 0
IsInk L names (Says word) t = (is_digits t ≡ false) × (says word t ≡ true)
IsInk L names (Name i) t = (is_digits t ≡ false) × (is_variable t ≡ true) × (known names t ≡ Ok i)
IsInk L names (Number n) t = (is_digits t ≡ true) × (list_all is_digit (text t) ≡ true) × (number L.number t ≡ Ok n)
IsInk L names Blank t = ⊥
IsInk L names Feed t = ⊥

-- the tokens, one for each ink but blanks and ends of lines; skipped pieces may stand between
abbrev pub AreInks : Limits → List (List ℕ) → List Ink → List Counted → Type 0
AreInks L names [] ts = ts ≡ []
AreInks L names (Blank ∷ is) ts = AreInks L names is ts
AreInks L names (Feed ∷ is) ts = AreInks L names is ts
AreInks L names (i ∷ is) ts = (t : Counted) × (rest : List Counted) × (past skipped ts ≡ t ∷ rest) × IsWithin L t
    × IsInk L names i t × AreInks L names is rest
