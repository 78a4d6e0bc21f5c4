-- What an analysis gives is a family.
use Rattle.std.proofs.Common.{◌≡◌, ◌≤◌, ◌+◌, ◌*◌, ℕ, length, Contains, All, subst}
use Rattle.std.proofs.lemmas.List.{get_or_default}
use Rattle.std.proofs.lemmas.List.Elements.{All-contains}
use Rattle.prog_theory.specs.States.{State}
use Rattle.prog_theory.specs.Statements.{Claim}
use Rattle.prog_theory.specs.Edges.{Edge}
use Rattle.prog_theory.specs.Fits.{FitsOp}
use Rattle.prog_theory.specs.Named.{Named, nameless}
use Rattle.prog_theory.specs.Limits.{program_limits}
use Rattle.prog_theory.specs.Within.{IsWithin}
use Rattle.prog_theory.specs.Graph.{edges}
use Rattle.prog_theory.specs.Heads.{heads}
use Rattle.prog_theory.specs.ControlGraphs.{graph_of}
use Rattle.prog_theory.specs.GraphKeeps.{IsControlGraph}
use Rattle.prog_theory.specs.PointVisits.{Visits}
use Rattle.prog_theory.proofs.ControlGraphs.{graph_of_program}
use Rattle.cone_reports.specs.Asserts.{Assertion, asserts}
use Rattle.cone_reports.proofs.Asserts.{assert_sides, assert_terms}
use Rattle.dom_theory.specs.Relations.{Relations}
use Rattle.dom_theory.specs.Laws.{DomainLaws}
use Rattle.dom_theory.specs.Inclusion.{InclusionLaws}
use Rattle.dom_theory.specs.Inductive.{IsInductive}
use Rattle.dom_theory.specs.Outcomes.{Outcome, Gives, Stops, Stop}
use Rattle.dom_theory.specs.Analysis.{End}
use Rattle.dom_theory.proofs.Ends.{analysis_inductive, analysis_sound}
use Rattle.dom_theory.proofs.Unique.{analysis_is_one}
use Rattle.dom_theory.proofs.Visits.{analysis_covers_visits}
use Rattle.dom_family.specs.Claims.{ClaimLaws}
use Rattle.dom_family.specs.Family.{FamilyOf, value_in, StaysAlong, IsTrueAtVisits, IsFamily}
use Rattle.dom_family.proofs.Lengths.{length-end}

module _ {V : Type 0} {D : Relations V} {most : ℕ} {Sound : V → Type 0} (p : Named) (kept : IsWithin program_limits p)
    (laws : DomainLaws D most) (inclusion : InclusionLaws D (length p.names) Sound) (delay narrow : ℕ) (end : End V)
    (gives : FamilyOf D delay narrow p (Gives end)) where
  abbrev vars : ℕ
  vars = length p.names

  abbrev value : ℕ → V
  value = value_in D p end.values

  graph : IsControlGraph (graph_of (nameless p))
  graph = graph_of_program p kept

  -- the value at a point is one on the program's variables, as the domain's operations make it
  pub value_sound : (q : ℕ) → Sound (value q)
  value_sound = analysis_sound D (graph_of (nameless p)) Sound inclusion delay narrow end gives

  -- what is so of sound values is so of each
  pub each_value : (P : V → Type 0) → ((v : V) → Sound v → P v) → All P end.values
  each_value P of_sound k d inside =
      subst P (get_or_default end.values k (D.bottom vars) d inside) (of_sound (value k) (value_sound k))

  pub value_visits : (q : ℕ) (s : State) → Visits (nameless p) q s → D.has (value q) s
  value_visits = analysis_covers_visits D p kept laws.states delay narrow end gives

  inductive : IsInductive D (graph_of (nameless p)) value
  inductive = analysis_inductive D (graph_of (nameless p)) Sound inclusion delay narrow end laws graph gives

  stays : (e : Edge) → Contains (edges (nameless p)) e → StaysAlong D value e
  stays e c =
      let fits : FitsOp vars e.op = All-contains (λ (e : Edge). FitsOp vars e.op) (edges (nameless p)) e graph.fits c in
      let i = inclusion.growth.exists e.op (value e.from) fits (value_sound e.from) in
      record { image = i.0; applied = i.1; inside = inductive.stays e c i.0 i.1 }

  unstopped : (stop : Stop) → FamilyOf D delay narrow p (Stops stop) → ⊥
  unstopped stop stopped =
      let same : ◌≡◌ {A = Outcome (End V)} (Gives end) (Stops stop) =
      analysis_is_one D (graph_of (nameless p)) delay narrow laws.one (Gives end) (Stops stop) gives stopped in
      cc

  module _ {suits : Claim → Type 0} {proven : Claim → V → Type 0} (claim_laws : ClaimLaws D vars Sound suits proven)
      (judged : (a : Assertion) → Contains (asserts (nameless p)) a → suits a.claim) where
    claims : (a : Assertion) → Contains (asserts (nameless p)) a → proven a.claim (value a.point) → IsTrueAtVisits p a
    claims a listed proved s visit =
        let terms = assert_terms (nameless p) a listed kept.coordinates in
        claim_laws.true_of a.claim (value a.point) (value_sound a.point) (judged a listed) (record {
          sides = assert_sides (nameless p) a listed kept.sides;
          left = terms.0;
          right = terms.1;
        }) proved s (value_visits a.point s visit)

    pub family_is : end.passes ≤ length (heads (nameless p)) * (delay + D.max_width vars + 1) + 1 →
        IsFamily D proven delay narrow p end
    family_is passes = record {
      gives = gives;
      unstopped = unstopped;
      passes = passes;
      one_each = length-end D (graph_of (nameless p)) delay narrow end gives;
      whole = inductive.everything;
      stays = stays;
      visits = value_visits;
      claims = claims;
    }
