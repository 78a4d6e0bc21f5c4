-- What stands behind the program: its lines one behind the other.
use Rattle.std.specs.Prelude.{◌≡◌, ℕ, zero, suc, List, [], ◌∷◌, ◌++◌, length, Option, Some, None, Ok, Err}
use Rattle.trop_theory.specs.Semiring.{Semiring}
use Rattle.trop_theory.specs.Numbers.{Numbering}
use Rattle.trop_grammar.specs.Reading.{Reading}
use Rattle.trop_text.specs.Pieces.{Piece}
use Rattle.trop_text.specs.declared.fault.FaultKind.{FaultKind}
use Rattle.trop_text.specs.declared.fault.FaultKind.TheVariants.{Syntax}
use Rattle.trop_spelling.specs.declared.ring_kind.RingKind.{RingKind}
use Rattle.prog_theory.specs.Graph.{Point}
use Rattle.report_texts.specs.Lines.{Line, At, Unreachable, Row, Inv, Asserted, Last, Body, lines_of, IsBodyOf}
use Rattle.report_texts.specs.Progress.{Progress, start, next, final}
use Rattle.report_texts.specs.LineTexts.{IsLine, line_at}
use Rattle.report_texts.specs.Heads.{against}

-- one text behind the other
abbrev pub AreTexts : {T A : Type 0} → (List T → A → Type 0) → List T → List A → Type 0
AreTexts Text us [] = us ≡ []
AreTexts {T} Text us (x ∷ xs) = (vs ws : List T) × (us ≡ vs ++ ws) × Text vs x × AreTexts Text ws xs

-- the lines of a body, each as it may be written
pub record IsBody {V : Type 0} (kind : RingKind) (R : Semiring V) (N : Numbering V) (names : List (List ℕ))
    (points : List Point) (numbers : List ℕ) (us : List Piece) (body : Body V) : Type 0 where
  pub is : IsBodyOf N points numbers body
  pub lines : AreTexts (IsLine kind R N names) us (lines_of body)

-- ---- reading

-- what a line comes to: more lines follow, or it is the last
pub data Outcome (V : Type 0) : Type 0 where
  Further : Progress V → Outcome V
  Whole : Body V → Outcome V

abbrev pub further : {V : Type 0} → Option (Progress V) → Option (Outcome V)
further None = None
further (Some s) = Some (Further s)

abbrev pub whole : {V : Type 0} → Option (Body V) → Option (Outcome V)
whole None = None
whole (Some body) = Some (Whole body)

abbrev pub outcome : {V : Type 0} → Numbering V → List Point → List ℕ → Progress V → Line V → Option (Outcome V)
outcome N points numbers s Last = whole (final points numbers s)
outcome N points numbers s (At n p) = further (next N points numbers s (At n p))
outcome N points numbers s Unreachable = further (next N points numbers s Unreachable)
outcome N points numbers s (Row x) = further (next N points numbers s (Row x))
outcome N points numbers s (Inv i) = further (next N points numbers s (Inv i))
outcome N points numbers s (Asserted n b) = further (next N points numbers s (Asserted n b))

-- on from a line that was read from the tokens ts
abbrev pub settled : {V : Type 0} → List Piece → List Piece → Option (Outcome V) →
    (Progress V → List Piece → Reading Piece FaultKind (Body V)) → Reading Piece FaultKind (Body V)
settled ts rest None more = against ts rest
settled ts rest (Some (Further s)) more = more s rest
settled ts rest (Some (Whole body)) more = Ok (body, rest)

abbrev pub on_line : {V : Type 0} → List Piece → (Line V → Option (Outcome V)) → Reading Piece FaultKind (Line V) →
    (Progress V → List Piece → Reading Piece FaultKind (Body V)) → Reading Piece FaultKind (Body V)
on_line ts judge (Ok x) more = settled ts x.1 (judge x.0) more
on_line ts judge (Err miss) more = Err miss

-- n lines at most
unfoldable pub body_from : {V : Type 0} → RingKind → Semiring V → Numbering V → List (List ℕ) → List Point → List ℕ →
    ℕ → Progress V → List Piece → Reading Piece FaultKind (Body V)
body_from kind R N names points numbers zero s ts = Err (record { what = Syntax; rest = ts })
body_from kind R N names points numbers (suc n) s ts =
    on_line ts (outcome N points numbers s) (line_at kind R N names s.place ts)
    (body_from kind R N names points numbers n)

-- all lines; each has a token, so there are no more than tokens
unfoldable pub body_at : {V : Type 0} → RingKind → Semiring V → Numbering V → List (List ℕ) → List Point → List ℕ →
    List Piece → Reading Piece FaultKind (Body V)
body_at kind R N names points numbers ts = body_from kind R N names points numbers (suc (length ts)) start ts
