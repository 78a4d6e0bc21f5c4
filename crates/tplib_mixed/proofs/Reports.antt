-- The report of a family.
use Rattle.std.proofs.Common.{◌≡◌, ◌≤◌, ◌<◌, ◌+◌, ◌*◌, ℕ, true, List, Option, Some, Contains, length, ap, subst, refl, arith}
use Rattle.std.specs.Prelude.{ℤ, Bool, All, slice_get, MatchOption, IsSomeAnd}
use Rattle.std.specs.List.{AllZip}
use Rattle.std.proofs.lemmas.Slice.Zip.{AllZip-left}
use Rattle.std.proofs.lemmas.Option.{slice_get_within, get_or_from_slice_get}
use Rattle.trop_theory.specs.MaxPlus.{max_ring, max_numbering}
use Rattle.trop_theory.proofs.MaxPlusLaws.{max_laws, max_numeric_laws}
use Rattle.prog_theory.specs.Limits.{program_limits}
use Rattle.prog_theory.specs.Graph.{points}
use Rattle.prog_theory.specs.Heads.{heads}
use Rattle.prog_theory.specs.Named.{Named, nameless}
use Rattle.prog_theory.specs.ControlGraphs.{ControlGraph, graph_of}
use Rattle.prog_theory.specs.Within.{IsWithin}
use Rattle.dom_theory.specs.Relations.{Relations}
use Rattle.dom_theory.specs.Laws.{DomainLaws}
use Rattle.dom_theory.specs.Inclusion.{InclusionLaws}
use Rattle.dom_theory.specs.Outcomes.{Outcome, Gives}
use Rattle.dom_theory.specs.Analysis.{End, Analysis}
use Rattle.dom_theory.proofs.Unique.{analysis_is_one}
use Rattle.cone_reports.specs.Asserts.{Assertion, asserts}
use Rattle.cone_domain.specs.Values.{Value}
use Rattle.mixed_theory.specs.Twins.{twice}
use Rattle.mixed_theory.specs.Halves.{variables}
use Rattle.mixed_theory.specs.Mixed.{mixed, IsProvedBy}
use Rattle.mixed_theory.proofs.Laws.{mixed_laws}
use Rattle.mixed_theory.proofs.Inclusion.{IsMixedOn, mixed_inclusion}
use Rattle.dom_family.specs.Family.{FamilyOf, value_in, IsJudgedBy, IsTrueAtVisits, IsFamily}
use Rattle.dom_family.proofs.Lengths.{length-end}
use Rattle.dom_family.proofs.Family.{value_sound, each_value, family_is}
use Rattle.mixed_print.specs.Said.{IsListStop}
use Rattle.mixed_print.specs.Texts.{IsMixedText}
use Rattle.tplib_reply.specs.Meaning.{Cause, OverLimit, OutOfRange}
use Rattle.tplib_reply.specs.declared.stop.Stop.{Stop}
use Rattle.tplib_reply.specs.declared.stop.Stop.TheVariants.{Rows, Polar, Lean, At, PointPolar}
use Rattle.tplib_family.proofs.Claims.{claims_true}
use Rattle.tplib_family.specs.Views.{cause_of, place_of}
use Rattle.tplib_family.specs.Stops.{IsListedStop}
use Rattle.tplib_mixed.specs.Mixed.{IsMixedReport}
use Rattle.tplib_mixed.proofs.Laws.{variables_are, claim_laws}
use Rattle.tplib_mixed.proofs.Inequalities.{printed_true}

abbrev Element : Type 0
Element = Option ℤ

abbrev D : Relations (Value Element)
D = mixed max_ring max_numbering

laws : DomainLaws D 31
laws = mixed_laws max_laws max_numeric_laws 31

inclusion : (d : ℕ) → InclusionLaws D d (IsMixedOn max_ring d)
inclusion d = mixed_inclusion max_laws max_numeric_laws d

-- of the graph of the program
module _ (p : Named) (delay narrow : ℕ) (G : ControlGraph) (graph_is : G ≡ graph_of (nameless p)) where
  pub family_gives : (E : End (Value Element)) → Analysis D G delay narrow (Gives E) →
      FamilyOf D delay narrow p (Gives E)
  family_gives E h = subst (λ H. Analysis D H delay narrow (Gives E)) graph_is h

  pub passes_bound : (passes : ℕ) → passes ≤ length G.heads * (delay + 4097 + 1) + 1 →
      passes ≤ length (heads (nameless p)) * (delay + 4097 + 1) + 1
  passes_bound passes h = subst (λ (H : ControlGraph). passes ≤ length H.heads * (delay + 4097 + 1) + 1) graph_is h

module _ (p : Named) (kept : IsWithin program_limits p) (delay narrow : ℕ) (end : End (Value Element))
    (gives : FamilyOf D delay narrow p (Gives end)) where
  abbrev d : ℕ
  d = length p.names

  pub values_count : length end.values ≡ length (points (nameless p))
  values_count = length-end D (graph_of (nameless p)) delay narrow end gives

  pub values_on : All (λ v. variables v ≡ d) end.values
  values_on = each_value p kept laws (inclusion d) delay narrow end gives (λ v. variables v ≡ d)
      (variables_are max_ring d)

  family : end.passes ≤ length (heads (nameless p)) * (delay + 4097 + 1) + 1 →
      IsFamily D (IsProvedBy max_ring max_numbering) delay narrow p end
  family = family_is p kept laws (inclusion d) delay narrow end gives (claim_laws max_laws max_numeric_laws d)
      (λ a listed. tt)

  passes_within : end.passes ≤ length (heads (nameless p)) * (delay + 4097 + 1) + 1 →
      end.passes ≤ length (heads (nameless p)) * (delay + 4098) + 1
  passes_within bound =
      let same : delay + 4097 + 1 ≡ delay + 4098 = omega arith in
      let turned = ap (λ k. length (heads (nameless p)) * k) same in
      omega (arith, bound, turned)

  pub report : (text : List ℕ) → end.passes ≤ length (heads (nameless p)) * (delay + 4097 + 1) + 1 →
      IsMixedText delay narrow end.passes p end.values text → IsMixedReport delay narrow p text
  report text bound h =
      let f = family bound in
      record {
        end = end;
        family = f;
        parts = h.parts;
        verdicts = h.verdicts;
        printed = h.printed;
        said = h.said;
        judged = h.judged;
        passes = passes_within bound;
        inequalities = λ q s visit. printed_true end.values h.parts (D.bottom d) h.said q
            (value_sound p kept laws (inclusion d) delay narrow end gives q).0 (twice max_ring max_numbering s)
            (f.visits q s visit);
        claims = claims_true (IsProvedBy max_ring max_numbering) (value_in D p end.values) p h.verdicts h.judged
            f.claims;
      }

  -- ---- no stop

  same_end : (other : End (Value Element)) → FamilyOf D delay narrow p (Gives other) → other ≡ end
  same_end other also =
      let same : ◌≡◌ {A = Outcome (End (Value Element))} (Gives other) (Gives end) =
      analysis_is_one D (graph_of (nameless p)) delay narrow laws.one (Gives other) (Gives end) also gives in
      cc

  pub unstopped : end.passes ≤ length (heads (nameless p)) * (delay + 4097 + 1) + 1 →
      All (λ v. (i k : ℕ) → IsListStop v i k → ⊥) end.values → (cause : Cause) (stop : Stop) →
      IsListedStop D IsListStop delay narrow p cause stop → ⊥
  unstopped bound free OverLimit (At place) h =
      (family bound).unstopped (record { cause = cause_of OverLimit; place = place_of place }) h
  unstopped bound free OutOfRange (At place) h =
      (family bound).unstopped (record { cause = cause_of OutOfRange; place = place_of place }) h
  unstopped bound free OverLimit (PointPolar q i k) h =
      let same = same_end h.end h.gives in
      let inside : q < length end.values = subst (λ (E : End (Value Element)). q < length E.values) same h.inside in
      free q (D.bottom d) inside i k
      (subst (λ (E : End (Value Element)). IsListStop (value_in D p E.values q) i k) same h.here)
  unstopped bound free OutOfRange (PointPolar q i k) h = absurd h
  unstopped bound free OverLimit (Rows k) h = absurd h
  unstopped bound free OutOfRange (Rows k) h = absurd h
  unstopped bound free OverLimit (Polar i k) h = absurd h
  unstopped bound free OutOfRange (Polar i k) h = absurd h
  unstopped bound free OverLimit (Lean k j) h = absurd h
  unstopped bound free OutOfRange (Lean k j) h = absurd h
