-- The four conditions one after another, and what an inductive report says.
use Rattle.std.proofs.Common.{◌≡◌, ℕ, Bool, List, Ok, Err, Result, sym, subst}
use Rattle.std.specs.Prelude.{IfOk, IsTrue, ◌↔◌}
use Rattle.std.specs.List.{AllZip}
use Rattle.trop_theory.specs.Semiring.{Semiring, SemiringLaws}
use Rattle.trop_theory.specs.Numbers.{Numbering, NumericLaws}
use Rattle.trop_theory.specs.Combinations.{IsCombination}
use Rattle.trop_cones.specs.Sets.{IsVector}
use Rattle.prog_theory.specs.Named.{nameless}
use Rattle.prog_theory.proofs.Fitting.{edges_fit}
use Rattle.cone_reports.specs.Asserts.{asserts}
use Rattle.cone_reports.specs.Reports.{Report, part_at, coordinates}
use Rattle.cone_reports.specs.Inductive.{IsWhole, Stays, IsValidAt, IsRight, IsInductive}
use Rattle.cone_reports.specs.Verdicts as theory
use Rattle.cone_reports.specs.Verdicts.{IsEscape, IsInvFailure, IsWrong, IsVerdict}
use Rattle.cone_reports.proofs.Asserts.{assert_suits}
use Rattle.cone_reports.proofs.Checks.{get_contains}
use Rattle.cone_reports.proofs.OneVerdict.{verdict_unique}
use Rattle.cone_reports.proofs.Reports.{visits_are_states, printed_is_true, proved_is_true}
use Rattle.report_value.specs.Views.{ReportOver, said}
use Rattle.report_value.specs.Kept.{IsKept}
use Rattle.prog_check.specs.Found.{EscapesAt, FailsAt, WrongAt}
use Rattle.prog_check.specs.Truths.{IsTrueAtVisits}

pub ok_moved : {X E : Type 0} (P Q : X → Type 0) (result : Result X E) → ((x : X) → P x → Q x) → IfOk result P
    → IfOk result Q
ok_moved P Q (Ok x) f h = f x h
ok_moved P Q (Err e) f h = h

module _ {V : Type 0} (R : Semiring V) (N : Numbering V) (reversed : Bool) (report : Report V) where
  pub whole_by_rows : (n : ℕ) → coordinates report ≡ n → (rows : List (List V)) → (part_at report 0).rows ≡ rows
      → (told : Bool) → (IsTrue told ↔ ((x : List V) → IsVector n x → IsCombination R n rows x))
      → IsTrue told ↔ IsWhole R report
  whole_by_rows n width rows is told h =
      subst (λ s. IsTrue told ↔ ((x : List V) → IsVector (coordinates report) x
      → IsCombination R (coordinates report) s x)) (sym is)
      (subst (λ k. IsTrue told ↔ ((x : List V) → IsVector k x → IsCombination R k rows x)) (sym width) h)

  pub escape_is : IsWhole R report → (k : ℕ) (row : List V) → EscapesAt R N reversed report k row
      → IsEscape R N reversed report k row
  escape_is whole k row e = record { whole = whole; edge = e.edge; first = e.first; leaves = e.leaves }

  pub failure_is : IsWhole R report → Stays R N reversed report → (p i : ℕ) → FailsAt R report p i
      → IsInvFailure R N reversed report p i
  failure_is whole stays p i f = record {
    whole = whole;
    stays = stays;
    before = f.before;
    place = f.here.place;
    number = f.here.number;
    inequality = f.here.inequality;
    first = f.here.first;
  }

  pub wrong_is : IsWhole R report → Stays R N reversed report → ((p : ℕ) → IsValidAt R report p) → (k : ℕ)
      → WrongAt R N reversed report k → IsWrong R N reversed report k
  wrong_is whole stays valid k w = record {
    whole = whole;
    stays = stays;
    valid = valid;
    place = w.place;
    assertion = w.assertion;
    verdict = w.verdict;
    asserted = w.asserted;
    says = w.says;
    is_number = w.is_number;
    not_right = w.not_right;
    before = w.before;
  }

  pub inductive_is : IsWhole R report → Stays R N reversed report → ((p : ℕ) → IsValidAt R report p)
      → AllZip (IsRight R N reversed report) (asserts report.program) report.verdicts
      → IsInductive R N reversed report
  inductive_is whole stays valid right = record { whole = whole; stays = stays; valid = valid; right = right }

module _ {V : Type 0} {R : Semiring V} {N : Numbering V} {reversed : Bool} (laws : SemiringLaws R)
    (numbers : NumericLaws R N reversed) (r : ReportOver V) (kept : IsKept R N r) where
  pub one_verdict : (v : theory.Verdict V) → IsVerdict R N reversed (said r) v → (other : theory.Verdict V)
      → IsVerdict R N reversed (said r) other → other ≡ v
  one_verdict v h other k = verdict_unique laws N reversed (said r) other v k h

  inductive_is_true : IsInductive R N reversed (said r) → IsTrueAtVisits R N reversed (said r)
  inductive_is_true inductive =
      let P = nameless r.program in
      let fits = kept.program.within.coordinates in
      let fit = edges_fit P fits in
      record {
        states = λ p s v. (visits_are_states laws numbers (said r) inductive fit p s v).1;
        printed = printed_is_true laws numbers (said r) inductive fit;
        proved = λ k a is says words s v.
            proved_is_true laws numbers (said r) inductive fit k a is says
            (assert_suits P a (get_contains (asserts P) k a is) reversed fits kept.program.within.sides words) s v;
      }

  -- what an inductive report says
  pub verdict_is_true : (v : theory.Verdict V) → IsVerdict R N reversed (said r) v → v ≡ theory.Inductive
      → IsTrueAtVisits R N reversed (said r)
  verdict_is_true v h e = inductive_is_true (subst (IsVerdict R N reversed (said r)) e h)
