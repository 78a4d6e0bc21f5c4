-- The family as the analysis answers it.
use Rattle.std.proofs.Common.{◌≡◌, ◌≤◌, ◌+◌, ◌*◌, ◌∙◌, ℕ, Bool, List, All, length, get_or, ap, sym, subst, arith}
use Rattle.std.proofs.lemmas.List.{get_or_default}
use Rattle.std.specs.List.{AllZip}
use Rattle.trop_theory.specs.Semiring.{Semiring, SemiringLaws}
use Rattle.trop_theory.specs.Numbers.{Numbering, NumericLaws}
use Rattle.prog_theory.specs.ControlGraphs.{ControlGraph, graph_of}
use Rattle.prog_theory.specs.Each.{EachClaims}
use Rattle.prog_theory.specs.Limits.{program_limits}
use Rattle.prog_theory.specs.Named.{Named, nameless}
use Rattle.prog_theory.specs.Graph.{points}
use Rattle.prog_theory.specs.Within.{IsWithin}
use Rattle.dom_theory.specs.Outcomes.{Gives}
use Rattle.dom_theory.specs.Analysis.{End, Analysis}
use Rattle.cone_reports.specs.Readings.{SuitsWords}
use Rattle.cone_domain.specs.Values.{Value}
use Rattle.cone_domain.specs.Polyhedra.{polyhedra, nothing, IsProvenBy}
use Rattle.dom_family.specs.Family.{IsJudgedBy}
use Rattle.cone_reports.specs.Asserts.{asserts}
use Rattle.tplib_reply.specs.declared.refusal.Refusal.{Refusal}
use Rattle.tplib_family.specs.Stops.{IsAnalysisRefusal}
use Rattle.tplib_analyze.specs.Made.{IsReportRefusal}
use Rattle.tplib_analyze.proofs.Refusals.{analysis_refused}
use Rattle.tplib_analyze.specs.Family.{FamilyOf, value_in}
use Rattle.tplib_analyze.proofs.Reports.{graph, length-values, value_on}

module _ {V : Type 0} (R : Semiring V) (N : Numbering V) (reversed : Bool) (delay narrow : ℕ) (p : Named)
    (G : ControlGraph) (graph_is : G ≡ graph_of (nameless p)) where
  -- of the graph of the program
  pub family_gives : (E : End (Value V)) → Analysis (polyhedra R N reversed) G delay narrow (Gives E) →
      FamilyOf R N reversed delay narrow p (Gives E)
  family_gives E h = subst (λ H. Analysis (polyhedra R N reversed) H delay narrow (Gives E)) graph_is h

  pub family_refused : (refusal : Refusal) →
      IsAnalysisRefusal (Analysis (polyhedra R N reversed) G delay narrow) refusal →
      IsReportRefusal R N reversed delay narrow p refusal
  family_refused refusal h =
      analysis_refused R N reversed delay narrow p refusal
      (subst (λ H. IsAnalysisRefusal (Analysis (polyhedra R N reversed) H delay narrow) refusal) graph_is h)

  pub passes_bound : (passes : ℕ) → passes ≤ length G.heads * (delay + 4097 + 1) + 1 →
      passes ≤ length (graph_of (nameless p)).heads * (delay + 4097 + 1) + 1
  passes_bound passes h = subst (λ (H : ControlGraph). passes ≤ length H.heads * (delay + 4097 + 1) + 1) graph_is h

module _ {V : Type 0} {R : Semiring V} {N : Numbering V} {reversed : Bool} (laws : SemiringLaws R)
    (numbers : NumericLaws R N reversed) (p : Named) (kept : IsWithin program_limits p)
    (suits : EachClaims (SuitsWords reversed) p.body) (delay narrow : ℕ) (end : End (Value V))
    (gives : FamilyOf R N reversed delay narrow p (Gives end)) (values : List (Value V)) (same : values ≡ end.values)
  where
    pub few_values : length values ≤ 65536
    few_values =
        let e = ap length same in
        let l = length-values laws numbers p kept suits delay narrow end gives in
        let m = (graph laws numbers p kept suits delay narrow end gives).points in
        omega (arith, e, l, m)

    pub values_each : length values ≡ length (points (nameless p))
    values_each = ap length same ∙ length-values laws numbers p kept suits delay narrow end gives

    pub values_on : All (λ (v : Value V). v.vars ≡ length p.names) values
    values_on k d l = subst (λ (v : Value V). v.vars ≡ length p.names)
        (ap (λ (xs : List (Value V)). get_or xs k (nothing (length p.names))) (sym same)
        ∙ get_or_default values k (nothing (length p.names)) d l)
        (value_on laws numbers p kept suits delay narrow end gives k).1

-- verdicts on the asserts of the program, by its values
pub judged_as : {V : Type 0} (R : Semiring V) (N : Numbering V) (reversed : Bool) (p : Named)
    (values others : List (Value V)) → others ≡ values → (verdicts : List Bool) →
    AllZip (IsJudgedBy (IsProvenBy R N reversed) (value_in p others)) (asserts (nameless p)) verdicts →
    AllZip (IsJudgedBy (IsProvenBy R N reversed) (value_in p values)) (asserts (nameless p)) verdicts
judged_as {V} R N reversed p values others same verdicts h =
    subst (λ (xs : List (Value V)). AllZip (IsJudgedBy (IsProvenBy R N reversed) (value_in p xs)) (asserts (nameless p))
    verdicts) same h
