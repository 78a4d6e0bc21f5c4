-- The asserts of a program that is read under the rule of a mode have words of the semiring of the mode.
use Rattle.std.proofs.Common.{◌≡◌, ◌+◌, ℕ, true, false, List, [], ◌∷◌, refl, subst, sym}
use Rattle.std.specs.Prelude.{All}
use Rattle.std.proofs.lemmas.List.Elements.{All-nil, All-cons, All-append}
use Rattle.prog_theory.specs.States.{Term}
use Rattle.prog_theory.specs.Statements.{SideWord, One, Greatest, Least, Claim, Stmt, Set, Havoc, Assume, Assert, If, While, Skip, Block, Empty, Then}
use Rattle.prog_theory.specs.Tests.{test, inner}
use Rattle.prog_theory.specs.Places.{width, widths}
use Rattle.prog_theory.specs.Each.{EachClaim, EachClaims}
use Rattle.prog_theory.specs.Limits.{Limits}
use Rattle.prog_theory.specs.Named.{Named}
use Rattle.prog_texts.specs.Suits.{SuitsSide, SuitsStmt, SuitsBlock}
use Rattle.prog_texts.specs.Words.{Counted}
use Rattle.prog_texts.specs.Programs.{IsWholeProgram}
use Rattle.prog_texts.proofs.Printable.{spelled_printable}
use Rattle.cone_reports.specs.Readings.{SuitsWord, SuitsWords}
use Rattle.report_texts.specs.Modes.{Mode, InMax, InMin, rule_of, is_reversed}
use Rattle.dom_verdicts.specs.Claims.{Claimed, claims_st, claims_bl}

-- ---- words

side_suits : (mode : Mode) (word : SideWord) (terms : List Term) → SuitsSide (rule_of mode) word terms →
    SuitsWord (is_reversed mode) word
side_suits mode One terms h = tt
side_suits InMax Greatest terms h = refl
side_suits InMax Least [] h = absurd h
side_suits InMax Least (t ∷ terms) h = absurd (let f : true ≡ false = h in cc)
side_suits InMin Greatest [] h = absurd h
side_suits InMin Greatest (t ∷ terms) h = absurd (let f : true ≡ false = h in cc)
side_suits InMin Least terms h = refl

mutual
  stmt_suits : (mode : Mode) (st : Stmt) → SuitsStmt (rule_of mode) st → EachClaim (SuitsWords (is_reversed mode)) st
  stmt_suits mode (Assert c) h = (
    side_suits mode c.left.word c.left.terms h.0,
    side_suits mode c.right.word
        c.right.terms h.1,
  )
  stmt_suits mode (If c a b) h = (block_suits mode a h.0, block_suits mode b h.1)
  stmt_suits mode (While c a) h = block_suits mode a h
  stmt_suits mode (Set x t) h = tt
  stmt_suits mode (Havoc x) h = tt
  stmt_suits mode (Assume c) h = tt
  stmt_suits mode Skip h = tt

  block_suits : (mode : Mode) (b : Block) → SuitsBlock (rule_of mode) b → EachClaims (SuitsWords (is_reversed mode)) b
  block_suits mode Empty h = tt
  block_suits mode (Then st b) h = (stmt_suits mode st h.0, block_suits mode b h.1)

-- the sides of what is read suit the rule
pub program_sides : (L : Limits) (mode : Mode) (ts : List Counted) (p : Named) → IsWholeProgram L (rule_of mode) ts p →
    SuitsBlock (rule_of mode) p.body
program_sides L mode ts p h =
    subst (λ (z : Named). SuitsBlock (rule_of mode) z.body) (sym h.second.second.is)
    (spelled_printable L (rule_of mode) h.front h.value h.first).sides

pub program_suits : (L : Limits) (mode : Mode) (ts : List Counted) (p : Named) → IsWholeProgram L (rule_of mode) ts p →
    EachClaims (SuitsWords (is_reversed mode)) p.body
program_suits L mode ts p h = block_suits mode p.body (program_sides L mode ts p h)

-- ---- each claim of a list

abbrev Holds : (Claim → Type 0) → Claimed → Type 0
Holds C c = C c.claim

mutual
  stmt_each : (C : Claim → Type 0) (st : Stmt) (p : ℕ) → EachClaim C st → All (Holds C) (claims_st p st)
  stmt_each C (Assert c) p h = All-cons (Holds C) (record { point = p; claim = c }) [] h (All-nil (Holds C))
  stmt_each C (If c a b) p h =
      All-append (Holds C) (claims_bl (p + 1 + inner (test c)) a) (claims_bl (p + 1 + inner (test c) + widths a) b)
      (block_each C a (p + 1 + inner (test c)) h.0) (block_each C b (p + 1 + inner (test c) + widths a) h.1)
  stmt_each C (While c a) p h = block_each C a (p + 1 + inner (test c)) h
  stmt_each C (Set x t) p h = All-nil (Holds C)
  stmt_each C (Havoc x) p h = All-nil (Holds C)
  stmt_each C (Assume c) p h = All-nil (Holds C)
  stmt_each C Skip p h = All-nil (Holds C)

  pub block_each : (C : Claim → Type 0) (b : Block) (p : ℕ) → EachClaims C b → All (Holds C) (claims_bl p b)
  block_each C Empty p h = All-nil (Holds C)
  block_each C (Then st b) p h =
      All-append (Holds C) (claims_st p st) (claims_bl (p + width st) b) (stmt_each C st p h.0)
      (block_each C b (p + width st) h.1)
