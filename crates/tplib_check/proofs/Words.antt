-- The asserts of a program that is read under the rule of a mode have the words of the mode: report_words.
use Rattle.std.proofs.Common.{◌≡◌, ◌+◌, ◌∙◌, ℕ, true, false, List, [], ◌∷◌, ◌++◌, refl, sym, ap, subst, append_assoc}
use Rattle.std.specs.Prelude.{All}
use Rattle.std.proofs.lemmas.List.Elements.{All-nil, All-cons, All-append}
use Rattle.trop_text.specs.Pieces.{Piece}
use Rattle.prog_theory.specs.States.{Term}
use Rattle.prog_theory.specs.Statements.{SideWord, One, Greatest, Least, Stmt, Set, Havoc, Assume, Assert, If, While, Skip, Block, Empty, Then}
use Rattle.prog_theory.specs.Numbering.{count, counts}
use Rattle.prog_theory.specs.Tests.{test, inner}
use Rattle.prog_theory.specs.Places.{Place, places, places_of, width, widths, entry}
use Rattle.prog_theory.specs.Limits.{program_limits}
use Rattle.prog_texts.specs.Suits.{SuitsSide, SuitsStmt, SuitsBlock}
use Rattle.prog_texts.proofs.Printable.{spelled_printable}
use Rattle.cone_reports.specs.Readings.{SuitsWord, SuitsWords}
use Rattle.cone_reports.specs.Asserts.{Assertion, own_asserts, asserts_of}
use Rattle.report_texts.specs.Modes.{Mode, InMax, InMin, rule_of, is_reversed}
use Rattle.report_texts.specs.Reports.{ReportText, said_by}
use Rattle.report_texts.specs.Texts.{SpellsReport}
use Rattle.tplib_check.specs.Words.{HasSuitableWords}

-- ---- one side

side_words : (mode : Mode) (word : SideWord) (terms : List Term) → SuitsSide (rule_of mode) word terms →
    SuitsWord (is_reversed mode) word
side_words mode One terms h = tt
side_words InMax Greatest terms h = refl
side_words InMax Least [] h = absurd h
side_words InMax Least (t ∷ terms) h = absurd (let f : true ≡ false = h in cc)
side_words InMin Greatest [] h = absurd h
side_words InMin Greatest (t ∷ terms) h = absurd (let f : true ≡ false = h in cc)
side_words InMin Least terms h = refl

-- ---- the asserts of a block

asserts_of-append : (ls ms : List Place) → asserts_of (ls ++ ms) ≡ asserts_of ls ++ asserts_of ms
asserts_of-append [] ms = refl
asserts_of-append (l ∷ ls) ms =
    ap (λ xs. own_asserts l.point l.number l.stmt ++ xs) (asserts_of-append ls ms)
    ∙ sym (append_assoc (own_asserts l.point l.number l.stmt) (asserts_of ls) (asserts_of ms))

module _ (mode : Mode) where
  abbrev Suits : Assertion → Type 0
  Suits a = SuitsWords (is_reversed mode) a.claim

  both_words : (ls ms : List Place) → All Suits (asserts_of ls) → All Suits (asserts_of ms) →
      All Suits (asserts_of (ls ++ ms))
  both_words ls ms h k = subst (All Suits) (sym (asserts_of-append ls ms))
      (All-append Suits (asserts_of ls) (asserts_of ms) h k)

  mutual
    stmt_words : (st : Stmt) (p k next : ℕ) → SuitsStmt (rule_of mode) st → All Suits (asserts_of (places p k st next))
    stmt_words (Assert c) p k next h = All-cons Suits (record { point = p; number = k; claim = c }) []
        (side_words mode c.left.word c.left.terms h.0, side_words mode c.right.word c.right.terms h.1) (All-nil Suits)
    stmt_words (If c a b) p k next h = both_words (places_of (p + 1 + inner (test c)) (k + 1) a next)
        (places_of (p + 1 + inner (test c) + widths a) (k + 1 + counts a) b next)
        (block_words a (p + 1 + inner (test c)) (k + 1) next h.0)
        (block_words b (p + 1 + inner (test c) + widths a) (k + 1 + counts a) next h.1)
    stmt_words (While c a) p k next h = block_words a (p + 1 + inner (test c)) (k + 1) p h
    stmt_words (Set x t) p k next h = All-nil Suits
    stmt_words (Havoc x) p k next h = All-nil Suits
    stmt_words (Assume c) p k next h = All-nil Suits
    stmt_words Skip p k next h = All-nil Suits

    block_words : (b : Block) (p k next : ℕ) → SuitsBlock (rule_of mode) b →
        All Suits (asserts_of (places_of p k b next))
    block_words Empty p k next h = All-nil Suits
    block_words (Then st b) p k next h =
        both_words (places p k st (entry (p + width st) b next)) (places_of (p + width st) (k + count st) b next)
        (stmt_words st p k (entry (p + width st) b next) h.0) (block_words b (p + width st) (k + count st) next h.1)

-- ---- a report

-- the sides of the asserts suit the rule of the mode
report_sides : (ps : List Piece) (r : ReportText) → SpellsReport ps r → SuitsBlock (rule_of r.mode) r.program.body
report_sides ps r h =
    let head = h.second.value in
    let part = h.second.second.first in
    let p = h.second.second.value in
    let body = h.second.second.second.second.value in
    let sides = subst (λ z. SuitsBlock (rule_of head.mode) z.body) (sym part.second.second.is)
    (spelled_printable program_limits (rule_of head.mode) part.front part.value part.first).sides in
    subst (λ (z : ReportText). SuitsBlock (rule_of z.mode) z.program.body)
    (sym h.second.second.second.second.second.second.is) sides

pub report_words : (ps : List Piece) (r : ReportText) → SpellsReport ps r →
    HasSuitableWords (is_reversed r.mode) (said_by r).program
report_words ps r h =
    block_words r.mode r.program.body 0 0 (widths r.program.body) (report_sides ps r h)
