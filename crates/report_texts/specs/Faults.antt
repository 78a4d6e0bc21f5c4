-- The first fault of a report: all that stands before is as it should be, and the next part, or the next line, is not.
use Rattle.std.specs.Prelude.{◌≡◌, ℕ, false, List, [], ◌∷◌, ◌++◌, Some}
use Rattle.trop_theory.specs.Semiring.{Semiring}
use Rattle.trop_theory.specs.Numbers.{Numbering}
use Rattle.trop_grammar.specs.Grammar.{One}
use Rattle.trop_grammar.specs.Reads.{IsFirstFault}
use Rattle.trop_grammar.specs.Lists.{Passes}
use Rattle.trop_text.specs.Pieces.{Piece, LineEnd}
use Rattle.trop_text.specs.declared.fault.FaultKind.{FaultKind}
use Rattle.trop_text.specs.declared.fault.FaultKind.TheVariants.{ReportFault}
use Rattle.trop_reading.specs.Words.{line_end, input_end}
use Rattle.trop_spelling.specs.declared.ring_kind.RingKind.{RingKind}
use Rattle.prog_theory.specs.Graph.{Point, points}
use Rattle.prog_theory.specs.Named.{Named, nameless}
use Rattle.report_texts.specs.Modes.{Mode, kind_of, ring_of, numbering, rule_of}
use Rattle.report_texts.specs.Lines.{Line, BeginsBody}
use Rattle.report_texts.specs.Progress.{Progress, start, progress}
use Rattle.report_texts.specs.Reports.{assert_numbers}
use Rattle.report_texts.specs.LineTexts.{IsLine, IsPlacedLine}
use Rattle.report_texts.specs.Heads.{IsReportLine, is_version, IsVersion, IsHead}
use Rattle.report_texts.specs.ProgramParts.{IsProgramPart, IsProgramFault}
use Rattle.report_texts.specs.Bodies.{AreTexts}
use Rattle.report_texts.specs.Texts.{IsBodyFor}

-- of some tokens: what is wrong, and the tokens from the wrong one on
abbrev pub FaultsOf : Type 1
FaultsOf = List Piece → FaultKind → List Piece → Type 0

-- Some text of the grammar begins with the tokens before, and with the next one none does. Its kind is what the judges
-- of the reading function say of that token.
abbrev pub FirstFault : {A : Type 0} → (List Piece → A → Type 0) → FaultsOf
FirstFault R ts what rest = IsFirstFault R ts rest

-- a fault in the first part, or behind a text of it in the second, which may depend on the value of the first
pub data InTurn {A : Type 0} (R : List Piece → A → Type 0) (F : FaultsOf) (G : A → FaultsOf) (ts : List Piece)
    (what : FaultKind) (rest : List Piece) : Type 0 where
  First : F ts what rest → InTurn R F G ts what rest
  Second : (us vs : List Piece) → (x : A) → ts ≡ us ++ vs → R us x → G x vs what rest → InTurn R F G ts what rest

-- ---- the first line

-- the line is no line with `report` and a number, or the number is of no version
pub data IsVersionFault (ts : List Piece) (what : FaultKind) (rest : List Piece) : Type 0 where
  NoReportLine : IsFirstFault IsReportLine ts rest → IsVersionFault ts what rest
  OtherVersion : (us others : List Piece) → (n line : ℕ) → ts ≡ us ++ LineEnd line ∷ others →
      IsReportLine (us ++ LineEnd line ∷ []) n → is_version n ≡ false → what ≡ ReportFault →
      rest ≡ LineEnd line ∷ others → IsVersionFault ts what rest

-- ---- the lines behind the program

-- Behind lines that are as they should be: no line that may stand there; or a whole line, but with it no report of the
-- program has these lines, though without it one does.
pub data IsBodyFault {V : Type 0} (kind : RingKind) (R : Semiring V) (N : Numbering V) (names : List (List ℕ))
    (points : List Point) (numbers : List ℕ) (ts : List Piece) (what : FaultKind) (rest : List Piece) : Type 0 where
  NoLine : (us vs : List Piece) → (xs : List (Line V)) → (s : Progress V) → ts ≡ us ++ vs →
      AreTexts (IsLine kind R N names) us xs → progress N points numbers start xs ≡ Some s →
      IsFirstFault (IsPlacedLine kind R N names s.place) vs rest →
      IsBodyFault kind R N names points numbers ts what rest
  Against : (us vs others : List Piece) → (line : ℕ) → (xs : List (Line V)) → (s : Progress V) → (x : Line V) →
      ts ≡ us ++ (vs ++ LineEnd line ∷ others) → AreTexts (IsLine kind R N names) us xs →
      progress N points numbers start xs ≡ Some s →
      IsPlacedLine kind R N names s.place (vs ++ LineEnd line ∷ []) x → BeginsBody N points numbers xs →
      (BeginsBody N points numbers (xs ++ x ∷ []) → ⊥) → what ≡ ReportFault → rest ≡ LineEnd line ∷ others →
      IsBodyFault kind R N names points numbers ts what rest

abbrev pub IsBodyFaultFor : Mode → Named → FaultsOf
IsBodyFaultFor mode p =
    IsBodyFault (kind_of mode) (ring_of mode) numbering p.names (points (nameless p)) (assert_numbers p)

-- ---- the whole

abbrev pub IsReportFault : FaultsOf
IsReportFault =
    InTurn IsVersion IsVersionFault (λ v. InTurn (IsHead v) (FirstFault (IsHead v))
    (λ h. InTurn (IsProgramPart (rule_of h.mode)) (IsProgramFault (rule_of h.mode))
    (λ p. InTurn (One (Passes line_end)) (FirstFault (One (Passes line_end)))
    (λ u. InTurn (IsBodyFor h.mode p) (IsBodyFaultFor h.mode p) (λ body. FirstFault (One (Passes input_end)))))))
