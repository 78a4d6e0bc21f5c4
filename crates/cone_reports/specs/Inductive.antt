-- Inductive reports: what makes a report true at every visit, whoever wrote it.
use Rattle.std.specs.Prelude.{◌≡◌, ◌↔◌, ℕ, Bool, true, List, All, Contains}
use Rattle.std.specs.List.{AllZip}
use Rattle.trop_theory.specs.Semiring.{Semiring}
use Rattle.trop_theory.specs.Numbers.{Numbering}
use Rattle.trop_theory.specs.Inequalities.{IsValidOn}
use Rattle.prog_theory.specs.Edges.{Edge}
use Rattle.prog_theory.specs.Graph.{edges}
use Rattle.trop_cones.specs.Sets.{IsVector}
use Rattle.cone_reports.specs.Images.{InImage}
use Rattle.cone_reports.specs.Readings.{IsProvenOn}
use Rattle.cone_reports.specs.Asserts.{Assertion, asserts}
use Rattle.cone_reports.specs.Reports.{Report, part_at, coordinates, cone_at}

-- the cone at point 0 is everything
abbrev pub IsWhole : {V : Type 0} → Semiring V → Report V → Type 0
IsWhole R report = (x : List _) → IsVector (coordinates report) x → cone_at R report 0 x

-- the image of the cone at the first point of the edge lies in the cone at its last
abbrev pub StaysAlong : {V : Type 0} → Semiring V → Numbering V → Bool → Report V → Edge → Type 0
StaysAlong R N reversed report e =
    (x : List _) → InImage R N reversed (coordinates report) e.op (cone_at R report e.from) x
    → cone_at R report e.to x

abbrev pub Stays : {V : Type 0} → Semiring V → Numbering V → Bool → Report V → Type 0
Stays R N reversed report = (e : Edge) → Contains (edges report.program) e → StaysAlong R N reversed report e

-- each inequality that is printed at the point is valid on its cone
abbrev pub IsValidAt : {V : Type 0} → Semiring V → Report V → ℕ → Type 0
IsValidAt R report p = All (IsValidOn R (cone_at R report p)) (part_at report p).printed

-- the verdict says whether the claim is proven on the cone at the assert's point
abbrev pub IsRight : {V : Type 0} → Semiring V → Numbering V → Bool → Report V → Assertion → Bool → Type 0
IsRight R N reversed report a verdict =
    (verdict ≡ true) ↔ IsProvenOn R N reversed (coordinates report) (cone_at R report a.point) a.claim

pub record IsInductive {V : Type 0} (R : Semiring V) (N : Numbering V) (reversed : Bool)
    (report : Report V) : Type 0 where
  pub whole : IsWhole R report
  pub stays : Stays R N reversed report
  pub valid : (p : ℕ) → IsValidAt R report p
  -- one verdict for each assert, in order
  pub right : AllZip (IsRight R N reversed report) (asserts report.program) report.verdicts
