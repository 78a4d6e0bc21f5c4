-- The head of a report is read right, and each stop is at the first fault.
-- Index: digits_reads, word_line_reads, version_exact, version_stops, head_reads.
use Rattle.std.proofs.Common.{◌≡◌, ◌≤◌, ℕ, Bool, true, false, cond, List, ◌++◌, codes, Result, Ok, Err, refl, sym, ap, ◌∙◌, arith}
use Rattle.std.specs.Prelude.{nat_eq}
use Rattle.std.proofs.lemmas.Bool.{le-leb}
use Rattle.trop_text.specs.Pieces.{Piece, Token, LineEnd, InputEnd}
use Rattle.trop_text.specs.declared.fault.FaultKind.{FaultKind}
use Rattle.trop_text.specs.declared.fault.FaultKind.TheVariants.{Syntax}
use Rattle.trop_grammar.specs.Reading.{Reading, token_at}
use Rattle.trop_grammar.specs.Grammar.{One, Empty, Then}
use Rattle.trop_grammar.specs.Lists.{Passes}
use Rattle.trop_grammar.specs.Reads.{Reads, Anything}
use Rattle.trop_grammar.proofs.Laws.{Reads-then, Reads-gives}
use Rattle.trop_grammar.proofs.ListLaws.{Reads-judged}
use Rattle.trop_grammar.proofs.Ends.{EndsWith, EndsWith-one, EndsWith-then, EndsWith-gives}
use Rattle.shape_grammar.specs.Reads.{IsTaken}
use Rattle.trop_reading.specs.Words.{said, line_end, number}
use Rattle.trop_reading.proofs.Samples.{sample, nought, said_reads, line_end_reads}
use Rattle.report_texts.specs.Limits.{most_delay, most_narrow, most_passes}
use Rattle.report_texts.specs.Modes.{InMax}
use Rattle.report_texts.specs.Heads.{digits, is_version, which_mode, IsWordLine, IsReportLine, IsVersion, IsNarrowLine, IsHead, word_line_at, against, known_version, version_at, narrow_line_at, head_at}
use Rattle.report_texts.proofs.Exact.{Exact, ok_same}

pub digits_reads : Reads Anything (token_at Syntax digits) (One (Passes digits))
digits_reads = Reads-judged Syntax digits nought 0 refl

pub word_line_reads : {A : Type 0} (word : List ℕ) (judge : Piece → Result A FaultKind) (p : Piece) (x : A) →
    said word (sample word) ≡ Ok tt → judge p ≡ Ok x → Reads Anything (word_line_at word judge) (IsWordLine word judge)
unfolding word_line_at
word_line_reads word judge p x e k = Reads-then (said_reads word e)
    (λ u. Reads-then (Reads-judged Syntax judge p x k) (λ y. Reads-then line_end_reads (λ v. Reads-gives y)))

nought_number : (bound : ℕ) → number bound nought ≡ Ok 0
unfolding number
nought_number bound = let h : 0 ≤ bound = omega arith in rw (le-leb 0 bound h) refl

number_line_reads : (word : List ℕ) (bound : ℕ) → said word (sample word) ≡ Ok tt →
    Reads Anything (word_line_at word (number bound)) (IsWordLine word (number bound))
number_line_reads word bound e = word_line_reads word (number bound) nought 0 e (nought_number bound)

-- ---- what ends a line

-- the end of a line
abbrev pub IsLineEnd : Piece → Type 0
IsLineEnd p = (line : ℕ) × (p ≡ LineEnd line)

pub line_end_is : (p : Piece) (u : Unit {0}) → line_end p ≡ Ok u → IsLineEnd p
line_end_is (LineEnd line) u e = (line, refl)
line_end_is (Token t) u e = absurd cc
line_end_is InputEnd u e = absurd cc

pub line_end_last : EndsWith IsLineEnd (One (Passes line_end))
line_end_last = EndsWith-one line_end_is

-- behind the end of a line nothing more
pub ended_last : {A : Type 0} (x : A) → EndsWith IsLineEnd (Then (One (Passes line_end)) (λ u. Empty x))
ended_last x = EndsWith-gives line_end_last

-- ---- the first line

pub report_line_reads : Reads Anything (word_line_at (codes "report") digits) IsReportLine
report_line_reads = word_line_reads (codes "report") digits nought 0 refl refl

pub report_line_last : EndsWith IsLineEnd IsReportLine
report_line_last = EndsWith-then (λ u. EndsWith-then (λ x. ended_last x))

record IsKnown (ts : List Piece) (v : Reading Piece FaultKind ℕ) (n : ℕ) (rest : List Piece) : Type 0 where
  is : v ≡ Ok (n, rest)
  known : is_version n ≡ true

known_ok : (ts : List Piece) (v : Reading Piece FaultKind ℕ) (n : ℕ) (rest : List Piece) →
    known_version ts v ≡ Ok (n, rest) → IsKnown ts v n rest
known_ok ts (Err miss) n rest e = absurd cc
known_ok ts (Ok x) n rest e = at (is_version x.0) refl e
  where
    at : (b : Bool) → is_version x.0 ≡ b → cond b (Ok x) (against ts x.1) ≡ Ok (n, rest) → IsKnown ts (Ok x) n rest
    at true k q = let s = ok_same {T = Piece} {W = FaultKind} x.0 n x.1 rest q in
        record { is = q; known = ap is_version (sym s.0) ∙ k }
    at false k q = absurd cc

version_takes : (ts : List Piece) (n : ℕ) (rest : List Piece) → version_at ts ≡ Ok (n, rest) →
    IsTaken IsVersion ts n rest
unfolding version_at
version_takes ts n rest e =
    let k = known_ok ts (word_line_at (codes "report") digits ts) n rest e in
    let t = report_line_reads.takes ts n rest k.is in
    record { taken = t.taken; whole = t.whole; is = record { line = t.is; known = k.known } }

version_reads : (us rest : List Piece) (n : ℕ) → IsVersion us n → version_at (us ++ rest) ≡ Ok (n, rest)
unfolding version_at
version_reads us rest n h = ap (known_version (us ++ rest)) (report_line_reads.reads us rest n h.line tt)
    ∙ ap (λ b. cond b (Ok (n, rest)) (against (us ++ rest) rest)) h.known

pub version_exact : Exact version_at IsVersion
version_exact = record { takes = version_takes; reads = version_reads }

-- ---- the other lines

pub narrow_reads : (b : Bool) → Reads Anything (narrow_line_at b) (IsNarrowLine b)
unfolding narrow_line_at
narrow_reads true = number_line_reads (codes "narrow") most_narrow refl
narrow_reads false = Reads-gives 0

pub head_reads : (version : ℕ) → Reads Anything (head_at version) (IsHead version)
unfolding head_at
head_reads version =
    Reads-then (word_line_reads (codes "mode") which_mode (sample (codes "max")) InMax refl refl)
    (λ m. Reads-then (number_line_reads (codes "delay") most_delay refl)
    (λ d. Reads-then (narrow_reads (nat_eq version 2))
    (λ k. Reads-then (number_line_reads (codes "passes") most_passes refl)
    (λ n. Reads-then (said_reads (codes "program") refl) (λ u. Reads-then line_end_reads
    (λ v. Reads-gives (record { mode = m; delay = d; narrow = k; passes = n })))))))
