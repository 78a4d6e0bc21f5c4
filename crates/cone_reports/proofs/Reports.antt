-- What an inductive report says is true at every visit of every run.
use Rattle.std.proofs.Common.{◌≡◌, ℕ, Bool, true, length, Some, ◌∙◌, refl, subst}
use Rattle.std.specs.Prelude.{All, slice_get, MatchOption, IsSomeAnd}
use Rattle.std.proofs.lemmas.Slice.Zip.{AllZip-left}
use Rattle.trop_theory.specs.Semiring.{Semiring, SemiringLaws}
use Rattle.trop_theory.specs.Numbers.{Numbering, NumericLaws}
use Rattle.trop_theory.specs.Inequalities.{IsTrueAt}
use Rattle.prog_theory.specs.States.{State}
use Rattle.prog_theory.specs.Graph.{edges}
use Rattle.prog_theory.specs.PointVisits.{Visits}
use Rattle.prog_theory.specs.ControlGraphs.{graph_of}
use Rattle.prog_theory.specs.Families.{IsClosed}
use Rattle.prog_theory.proofs.WalksAreVisits.{closed_visits}
use Rattle.cone_reports.specs.Vectors.{vector, HasState}
use Rattle.prog_theory.specs.Fits.{FitEdges}
use Rattle.cone_reports.specs.Claims.{IsTrueOf}
use Rattle.cone_reports.specs.Readings.{SuitsClaim, IsProvenOn}
use Rattle.cone_reports.specs.Asserts.{Assertion, asserts}
use Rattle.cone_reports.specs.Reports.{Report, part_at, coordinates, cone_at}
use Rattle.cone_reports.specs.Inductive.{IsInductive, IsRight}
use Rattle.cone_reports.proofs.Images.{image_has, Leads-length}
use Rattle.cone_reports.proofs.Points.{everything_has}
use Rattle.cone_reports.proofs.Claims.{claim_truth}

module _ {V : Type 0} {R : Semiring V} {N : Numbering V} {reversed : Bool} (laws : SemiringLaws R)
    (numbers : NumericLaws R N reversed) (report : Report V) (inductive : IsInductive R N reversed report)
    (fit : FitEdges report.program.vars (edges report.program)) where
  -- the states of the program that the cone of a point has
  abbrev pub family : ℕ → State → Type 0
  family p s = (length s ≡ report.program.vars) × HasState R N (cone_at R report p) s

  pub family_is_closed : IsClosed (graph_of report.program) family
  family_is_closed = record {
    everything = λ s l. (l, inductive.whole (vector R N s) (everything_has laws numbers report.program.vars s l));
    closed = λ e c s t h leads. (
      Leads-length e.op s t leads ∙ h.0,
      inductive.stays e c (vector R N t) (image_has laws numbers report.program.vars (cone_at R report e.from) e.op
          (fit e c) s t h.0 h.1 leads),
    );
  }

  -- the state of each visit is one of the cone at its point
  pub visits_are_states : (p : ℕ) (s : State) → Visits report.program p s
      → (length s ≡ report.program.vars) × HasState R N (cone_at R report p) s
  visits_are_states p s v = closed_visits report.program family family_is_closed p s v

  -- each printed inequality is true at the vector of each visit
  pub printed_is_true : (p : ℕ) (s : State) → Visits report.program p s
      → All (λ q. IsTrueAt R q (vector R N s)) (part_at report p).printed
  printed_is_true p s v k d l = inductive.valid p k d l (vector R N s) (visits_are_states p s v).1

  -- a claim that is proven on the cone of a point is true at each visit of the point
  pub proven_is_true : (p : ℕ) (claim : _) → SuitsClaim reversed report.program.vars claim
      → IsProvenOn R N reversed (coordinates report) (cone_at R report p) claim → (s : State)
      → Visits report.program p s → IsTrueOf claim s
  proven_is_true p claim suits proven s v =
      let h = visits_are_states p s v in
      (claim_truth laws numbers report.program.vars s h.0 claim suits).0 (λ k d l. proven k d l (vector R N s) h.1)

  -- an assert with the verdict true is true at each visit of its point
  pub proved_is_true : (k : ℕ) (a : Assertion) → slice_get (asserts report.program) k ≡ Some a
      → slice_get report.verdicts k ≡ Some true → SuitsClaim reversed report.program.vars a.claim → (s : State)
      → Visits report.program a.point s → IsTrueOf a.claim s
  proved_is_true k a is says suits s v = proven_is_true a.point a.claim suits (right.0 refl) s v
    where
      zipped : IsSomeAnd (slice_get report.verdicts k) (IsRight R N reversed report a)
      zipped = subst (λ o. MatchOption o (Unit {0})
          (λ a. IsSomeAnd (slice_get report.verdicts k) (IsRight R N reversed report a))) is
          (AllZip-left (IsRight R N reversed report) (asserts report.program) report.verdicts inductive.right k)

      right : IsRight R N reversed report a true
      right = subst (λ o. IsSomeAnd o (IsRight R N reversed report a)) says zipped
