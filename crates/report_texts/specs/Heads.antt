-- The head of a report: its version, the words of the analysis and the number of its passes.
use Rattle.std.specs.Prelude.{◌≡◌, ℕ, suc, ◌-◌, Bool, true, ◌||◌, nat_eq, false, List, length, codes, drop, Result, Ok, Err, if◌then◌else◌}
use Rattle.trop_grammar.specs.Reading.{Reading, ◌>>=◌, gives, token_at}
use Rattle.trop_grammar.specs.Grammar.{One, Empty, Then}
use Rattle.trop_grammar.specs.Lists.{Passes}
use Rattle.trop_text.specs.Digits.{number_of}
use Rattle.trop_text.specs.Pieces.{Piece}
use Rattle.trop_text.specs.declared.fault.FaultKind.{FaultKind}
use Rattle.trop_text.specs.declared.fault.FaultKind.TheVariants.{Syntax, ReportFault}
use Rattle.trop_reading.specs.Words.{text_of, says, said, line_end, is_digits, number}
use Rattle.report_texts.specs.Modes.{Mode, InMax, InMin}
use Rattle.report_texts.specs.Limits.{most_delay, most_narrow, most_passes}

pub record Head : Type 0 where
  pub mode : Mode
  pub delay : ℕ
  pub narrow : ℕ
  pub passes : ℕ

-- digits of any length
abbrev pub digits : Piece → Result ℕ FaultKind
digits p = if is_digits p then Ok (number_of (text_of p)) else Err Syntax

abbrev pub is_version : ℕ → Bool
is_version n = nat_eq n 1 || nat_eq n 2

abbrev pub which_mode : Piece → Result Mode FaultKind
which_mode p = if says (codes "max") p then Ok InMax else (if says (codes "min") p then Ok InMin else Err Syntax)

-- ---- grammar

-- a word, a token that the judge lets pass, and the end of the line
abbrev pub IsWordLine : {A : Type 0} → List ℕ → (Piece → Result A FaultKind) → List Piece → A → Type 0
IsWordLine word judge = Then (One (Passes (said word)))
    (λ u. Then (One (Passes judge)) (λ x. Then (One (Passes line_end)) (λ v. Empty x)))

-- the first line, whatever its number is
abbrev pub IsReportLine : List Piece → ℕ → Type 0
IsReportLine = IsWordLine (codes "report") digits

-- the first line of a report
pub record IsVersion (us : List Piece) (n : ℕ) : Type 0 where
  pub line : IsReportLine us n
  pub known : is_version n ≡ true

-- version 2 has a line for the narrowing passes; in version 1 there are none
abbrev pub IsNarrowLine : Bool → List Piece → ℕ → Type 0
IsNarrowLine true = IsWordLine (codes "narrow") (number most_narrow)
IsNarrowLine false = Empty 0

-- the lines behind the first, up to that of the word `program`
abbrev pub IsHead : ℕ → List Piece → Head → Type 0
IsHead version =
    Then (IsWordLine (codes "mode") which_mode) (λ m. Then (IsWordLine (codes "delay") (number most_delay))
    (λ d. Then (IsNarrowLine (nat_eq version 2)) (λ k. Then (IsWordLine (codes "passes") (number most_passes))
    (λ n. Then (One (Passes (said (codes "program")))) (λ u. Then (One (Passes line_end))
    (λ v. Empty (record { mode = m; delay = d; narrow = k; passes = n })))))))

-- ---- reading

unfoldable pub word_line_at : {A : Type 0} → List ℕ → (Piece → Result A FaultKind) → List Piece →
    Reading Piece FaultKind A
word_line_at word judge = token_at Syntax (said word) >>= λ u. token_at Syntax judge >>= λ x.
    token_at Syntax line_end >>= λ v. gives x

-- the last of the tokens that were taken, and those that are left
abbrev pub from_last : {T : Type 0} → List T → List T → List T
from_last ts rest = drop (length ts - suc (length rest)) ts

-- the line is against the report, which is judged at its end
abbrev pub against : {A : Type 0} → List Piece → List Piece → Reading Piece FaultKind A
against ts rest = Err (record { what = ReportFault; rest = from_last ts rest })

abbrev pub known_version : List Piece → Reading Piece FaultKind ℕ → Reading Piece FaultKind ℕ
known_version ts (Ok x) = if is_version x.0 then Ok x else against ts x.1
known_version ts (Err miss) = Err miss

unfoldable pub version_at : List Piece → Reading Piece FaultKind ℕ
version_at ts = known_version ts (word_line_at (codes "report") digits ts)

unfoldable pub narrow_line_at : Bool → List Piece → Reading Piece FaultKind ℕ
narrow_line_at true = word_line_at (codes "narrow") (number most_narrow)
narrow_line_at false = gives 0

unfoldable pub head_at : ℕ → List Piece → Reading Piece FaultKind Head
head_at version =
    word_line_at (codes "mode") which_mode >>= λ m. word_line_at (codes "delay") (number most_delay) >>= λ d.
    narrow_line_at (nat_eq version 2) >>= λ k. word_line_at (codes "passes") (number most_passes) >>= λ n.
    token_at Syntax (said (codes "program")) >>= λ u. token_at Syntax line_end >>= λ v.
    gives (record { mode = m; delay = d; narrow = k; passes = n })
