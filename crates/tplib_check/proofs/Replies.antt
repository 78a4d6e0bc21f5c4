-- What is answered on a verdict.
use Rattle.std.proofs.Common.{◌≡◌, ℕ, Bool, List, refl, sym, subst}
use Rattle.trop_theory.specs.Semiring.{Semiring}
use Rattle.trop_theory.specs.Numbers.{Numbering}
use Rattle.trop_spelling.specs.declared.ring_kind.RingKind.{RingKind}
use Rattle.std.proofs.lemmas.List.Elements.{All-contains}
use Rattle.cone_reports.specs.Reports.{Report}
use Rattle.cone_reports.specs.Readings.{SuitsWords}
use Rattle.cone_reports.specs.Asserts.{Assertion, asserts}
use Rattle.cone_reports.proofs.Checks.{get_contains}
use Rattle.cone_reports.specs.Verdicts.{Verdict, Inductive, NotWhole, Escapes, InvFails, AssertWrong, IsVerdict}
use Rattle.prog_check.specs.Truths.{IsTrueAtVisits}
use Rattle.tplib_check.specs.Lines.{verdict_line, says_inductive}
use Rattle.tplib_check.specs.Words.{HasSuitableWords}
use Rattle.tplib_check.specs.Answers.{AreProvedTrue, IsVerdictReply}

module _ {V : Type 0} (kind : RingKind) (R : Semiring V) (N : Numbering V) (reversed : Bool) (report : Report V)
    (words : HasSuitableWords reversed report.program) where
  claims_are_true : IsTrueAtVisits R N reversed report → AreProvedTrue report
  claims_are_true t k a is says s v =
      let suits = All-contains (λ (b : Assertion). SuitsWords reversed b.claim) (asserts report.program) a words
      (get_contains (asserts report.program) k a is) in
      t.proved k a is says suits s v

  -- with the answer and the text of the verdict itself
  reply_of : (v : Verdict V) → IsVerdict R N reversed report v
      → ((other : Verdict V) → IsVerdict R N reversed report other → other ≡ v)
      → (v ≡ Inductive → IsTrueAtVisits R N reversed report) → (text : List ℕ) → text ≡ verdict_line kind N v
      → IsVerdictReply kind R N reversed report (says_inductive v) text
  reply_of Inductive h only t text l = record {
    inductive = h;
    true_at_visits = t refl;
    claims = claims_are_true (t refl);
    line = l;
  }
  reply_of NotWhole h only t text l = record {
    not_inductive = λ i. let e : ◌≡◌ {A = Verdict V} Inductive NotWhole = only Inductive i in cc;
    verdict = NotWhole;
    first = h;
    line = l;
  }
  reply_of (Escapes k row) h only t text l = record {
    not_inductive = λ i. let e : ◌≡◌ {A = Verdict V} Inductive (Escapes k row) = only Inductive i in cc;
    verdict = Escapes k row;
    first = h;
    line = l;
  }
  reply_of (InvFails p i) h only t text l = record {
    not_inductive = λ j. let e : ◌≡◌ {A = Verdict V} Inductive (InvFails p i) = only Inductive j in cc;
    verdict = InvFails p i;
    first = h;
    line = l;
  }
  reply_of (AssertWrong k) h only t text l = record {
    not_inductive = λ i. let e : ◌≡◌ {A = Verdict V} Inductive (AssertWrong k) = only Inductive i in cc;
    verdict = AssertWrong k;
    first = h;
    line = l;
  }

  pub reply_is : (v : Verdict V) → IsVerdict R N reversed report v
      → ((other : Verdict V) → IsVerdict R N reversed report other → other ≡ v)
      → (v ≡ Inductive → IsTrueAtVisits R N reversed report) → (says : Bool) → says ≡ says_inductive v → (text : List ℕ)
      → text ≡ verdict_line kind N v → IsVerdictReply kind R N reversed report says text
  reply_is v h only t says e text l =
      subst (λ b. IsVerdictReply kind R N reversed report b text) (sym e) (reply_of v h only t text l)
