-- What `analyze` wrote, `check` finds inductive: check_trip.
use Rattle.std.proofs.Common.{◌≡◌, ◌≤◌, ◌∙◌, ℕ, Bool, true, false, List, [], ◌∷◌, codes, length, Some, Result, Ok, refl, sym, subst}
use Rattle.trop_text.specs.declared.fault.Fault.{Fault}
use Rattle.trop_words.specs.declared.command.Command.TheVariants.{Analyze, Check}
use Rattle.report_texts.specs.Modes.{Mode, InMax, InMin}
use Rattle.report_texts.specs.Reports.{ReportText, IsInductiveText}
use Rattle.report_texts.proofs.TextLaws.{report_only}
use Rattle.tplib_check.specs.Answers.{IsCheckAnswer}
use Rattle.tplib_analyze.specs.Analyze.{IsAnalyzeText}
use Rattle.prog_theory.specs.Named.{Named}
use Rattle.tplib_cmd.specs.declared.status.Status.{Status}
use Rattle.tplib_cmd.specs.Analyses.{word_of}
use Rattle.tplib_cmd.specs.Streams.{longest_input}
use Rattle.tplib_cmd.specs.Ends.{Run, EndsWell, EndsWith}
use Rattle.tplib_laws.specs.RoundTrips.{EndsRightly}
use Rattle.tplib_laws.specs.Inductive.{IsFoundInductive, NoStop}
use Rattle.tplib_laws.proofs.Understood.{check_understood}
use Rattle.tplib_laws.proofs.Ends.{IsTakenBack, ends_rightly}

right : (r : ReportText) (says : Bool) (text : List ℕ) → IsInductiveText r →
    IsCheckAnswer r says text → (says ≡ true) × IsFoundInductive text
right r true text inductive h = (refl, h.line)
right r false text inductive h = absurd (h.not_inductive inductive)

-- the report that was written is what the text spells, and it is inductive
analyze_taken : (mode : Mode) (delay narrow : ℕ) (p : Named) (text : List ℕ) → length text ≤ longest_input →
    (a : IsAnalyzeText mode delay narrow p text) → IsTakenBack Check text a.report IsFoundInductive NoStop
analyze_taken mode delay narrow p text short a = record {
  read = refl;
  short = short;
  spelled = a.read_back;
  only = λ other h. let e : ◌≡◌ {A = Result ReportText Fault} (Ok other) (Ok a.report) =
      sym (report_only text other h) ∙ report_only text a.report a.read_back in cc;
  sound = λ fault h. h.spelled a.report a.read_back;
  right = λ says answer h. right a.report says answer a.inductive h;
  stops = λ cause stop h. absurd h;
}

pub check_trip : (mode : Mode) (delay narrow : ℕ) (run other : Run) (status : Status)
    (first : EndsWell (Analyze (word_of mode) delay narrow) run true) → length first.text ≤ longest_input →
    other.in_before.left ≡ Some first.text → EndsWith (codes "check" ∷ []) other status →
    EndsRightly IsFoundInductive NoStop other status
check_trip InMax delay narrow run other status first short known h =
    ends_rightly Check first.text first.answered.answer.report IsFoundInductive NoStop
    (analyze_taken InMax delay narrow first.answered.said first.text short first.answered.answer) other known status
    (check_understood other status h)
check_trip InMin delay narrow run other status first short known h =
    ends_rightly Check first.text first.answered.answer.report IsFoundInductive NoStop
    (analyze_taken InMin delay narrow first.answered.said first.text short first.answered.answer) other known status
    (check_understood other status h)
