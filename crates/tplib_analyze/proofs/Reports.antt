-- The report of a family: it is the defined one, it may stand in a text, and it is true at each visit.
use Rattle.std.proofs.Common.{◌≡◌, ◌≤◌, ◌<◌, ◌+◌, ◌*◌, ◌∙◌, ℕ, suc, Bool, true, List, [], length, get_or, map, Some, inl, inr, ⊎_elim, refl, sym, ap, subst, arith}
use Rattle.std.specs.Prelude.{◌↔◌, All, slice_get}
use Rattle.std.specs.List.{AllZip}
use Rattle.std.proofs.lemmas.Bool.{cases_lt}
use Rattle.std.proofs.lemmas.List.{length-map, get_or-map, get_or_past}
use Rattle.std.proofs.lemmas.List.Elements.{All-nil, All-map, All-contains}
use Rattle.std.proofs.lemmas.Option.{get_or_from_slice_get, slice_get_within}
use Rattle.trop_theory.specs.Semiring.{Semiring, SemiringLaws}
use Rattle.trop_theory.specs.Numbers.{Numbering, NumberLaws, NumericLaws}
use Rattle.trop_theory.specs.Vectors.{rows_size}
use Rattle.trop_theory.specs.Inequalities.{Inequality, IsValidOn}
use Rattle.trop_theory.specs.Combinations.{IsCombination}
use Rattle.trop_theory.specs.Canonical.{IsCanonical}
use Rattle.trop_theory.proofs.Combinations.{IsCombination-length}
use Rattle.trop_duality.proofs.Bipolar.{external_valid}
use Rattle.prog_theory.specs.Edges.{Edge}
use Rattle.prog_theory.specs.Each.{EachClaims}
use Rattle.prog_theory.specs.Fits.{FitsOp, FitEdges}
use Rattle.prog_theory.specs.Graph.{points, edges}
use Rattle.prog_theory.specs.GraphKeeps.{IsControlGraph}
use Rattle.prog_theory.specs.ControlGraphs.{graph_of}
use Rattle.prog_theory.specs.Limits.{program_limits}
use Rattle.prog_theory.specs.Named.{Named, nameless}
use Rattle.prog_theory.specs.Within.{IsWithin}
use Rattle.prog_theory.proofs.ControlGraphs.{graph_of_program}
use Rattle.prog_tree.specs.Programs.{IsProgram}
use Rattle.dom_theory.specs.Outcomes.{Outcome, Gives}
use Rattle.dom_theory.specs.Analysis.{End}
use Rattle.dom_theory.proofs.Unique.{analysis_is_one}
use Rattle.dom_iter.proofs.Exact.{ended_unstopped}
use Rattle.cone_reports.specs.Asserts.{Assertion, asserts}
use Rattle.cone_reports.specs.Inductive.{IsInductive, IsRight}
use Rattle.cone_reports.specs.Readings.{SuitsWords, SuitsClaim, IsProvenOn}
use Rattle.cone_reports.specs.Reports.{Part, Report, no_part, part_at, cone_at}
use Rattle.cone_reports.proofs.Asserts as placed
use Rattle.cone_reports.proofs.Reports.{printed_is_true, proved_is_true}
use Rattle.cone_domain.specs.Values.{Value, coordinates, cone_of}
use Rattle.cone_domain.specs.Polyhedra.{polyhedra, nothing, IsProvenBy}
use Rattle.cone_domain.proofs.Laws.{polyhedra_laws}
use Rattle.cone_domain.proofs.Inclusion.{IsValueOn}
use Rattle.cone_domain.proofs.Reports.{end_values, report_inductive}
use Rattle.report_texts.specs.Limits.{greatest_entry}
use Rattle.report_texts.specs.Reports.{assert_numbers}
use Rattle.report_value.specs.declared.parts.PointPart.{PointPart}
use Rattle.report_value.specs.Views.{part_of, parts_of, report_of}
use Rattle.report_value.specs.Kept.{IsPartKept, IsPointKept}
use Rattle.tplib_reply.specs.Meaning.{Cause, OverLimit, OutOfRange}
use Rattle.tplib_reply.specs.declared.stop.Stop.{Stop}
use Rattle.tplib_reply.specs.declared.stop.Stop.TheVariants.{Rows, Polar, Lean, At, PointPolar}
use Rattle.tplib_family.specs.Views.{cause_of, place_of}
use Rattle.tplib_analyze.specs.Family.{FamilyOf, value_in}
use Rattle.tplib_analyze.specs.Stops.{IsListStop, IsStop}
use Rattle.dom_family.specs.Family.{IsJudgedBy}
use Rattle.tplib_analyze.specs.Defined.{IsPartFor, IsPrintedFor}
use Rattle.tplib_analyze.specs.Visits.{ArePrintedTrue, AreProvedTrue}
use Rattle.tplib_analyze.specs.Parts.{IsPartMade, IsPointMade}
use Rattle.dom_verdicts.specs.Claims.{Claimed}
use Rattle.tplib_analyze.specs.Made.{IsReportMade}
use Rattle.dom_family.proofs.Zips.{AllZip-length, AllZip-at, AllZip-map_right, AllZip-weaker}
use Rattle.dom_verdicts.proofs.Claims.{claimed, program_claims}
use Rattle.dom_family.proofs.Lengths.{length-end}
use Rattle.tplib_analyze.proofs.Parts.{point_kept}
use Rattle.tplib_analyze.proofs.Suits.{block_each}
use Rattle.tplib_analyze.proofs.Passes.{passes_within}

module _ {V : Type 0} {R : Semiring V} {N : Numbering V} {reversed : Bool} (laws : SemiringLaws R)
    (numbers : NumericLaws R N reversed) (p : Named) (kept : IsWithin program_limits p)
    (suits : EachClaims (SuitsWords reversed) p.body) (delay narrow : ℕ) (end : End (Value V))
    (gives : FamilyOf R N reversed delay narrow p (Gives end)) where
  abbrev vars : ℕ
  vars = length p.names

  abbrev value : ℕ → Value V
  value = value_in p end.values

  pub graph : IsControlGraph (graph_of (nameless p))
  graph = graph_of_program p kept

  pub length-values : length end.values ≡ length (points (nameless p))
  length-values = length-end (polyhedra R N reversed) (graph_of (nameless p)) delay narrow end gives

  pub value_on : (q : ℕ) → IsValueOn R vars (value q)
  value_on = end_values laws numbers (nameless p) graph delay narrow end gives

  module _ {Store : Type 0} (number_laws : NumberLaws R N) (parts : List (PointPart V Store)) (verdicts : List Bool)
      (made : AllZip (IsPointMade R) end.values parts)
      (judged : AllZip (IsJudgedBy (IsProvenBy R N reversed) value) (asserts (nameless p)) verdicts) where
    abbrev report : Report V
    report = record { program = nameless p; parts = parts_of parts; verdicts = verdicts }

    parts_made : AllZip (IsPartMade R) end.values (parts_of parts)
    parts_made = AllZip-map_right (IsPartMade R) part_of end.values parts
        (AllZip-weaker (IsPointMade R) (λ v x. IsPartMade R v (part_of x)) (λ v x h. h.made) end.values parts made)

    part_made : (q : ℕ) → q < length end.values → IsPartMade R (value q) (part_at report q)
    part_made q l = AllZip-at (IsPartMade R) end.values (parts_of parts) q (nothing vars) no_part parts_made l

    pub length-parts : length parts ≡ length (points (nameless p))
    length-parts = sym (AllZip-length (IsPointMade R) end.values parts made) ∙ length-values

    length-report : length (parts_of parts) ≡ length end.values
    length-report = sym (AllZip-length (IsPartMade R) end.values (parts_of parts) parts_made)

    rows_are : (q : ℕ) → (part_at report q).rows ≡ (value q).rows
    rows_are q = ⊎_elim (λ l. (part_made q l).rows_are)
        (λ l. ap (λ (x : Part V). x.rows) (get_or_past (parts_of parts) q no_part (let e = length-report in omega
        (arith, l, e)))
        ∙ sym (ap (λ (v : Value V). v.rows) (get_or_past end.values q (nothing vars) l))) (cases_lt q (length
        end.values))

    -- what is said of the value of a point, said of the report
    at_point : (P : ℕ → List (List V) → Type 0) (q : ℕ) → P (suc (value q).vars) (value q).rows →
        P (suc vars) (part_at report q).rows
    at_point P q h = subst (λ rows. P (suc vars) rows) (sym (rows_are q))
        (subst (λ n. P (suc n) (value q).rows) (value_on q).1 h)

    abbrev Valid : List (Inequality V) → ℕ → List (List V) → Type 0
    Valid printed n rows = All (IsValidOn R (IsCombination R n rows)) printed

    none_valid : (printed : List (Inequality V)) (cone : List V → Type 0) → printed ≡ [] →
        All (IsValidOn R cone) printed
    none_valid printed cone e = subst (All (IsValidOn R cone)) (sym e) (All-nil (IsValidOn R cone))

    printed_valid : (v : Value V) (x : Part V) → IsValueOn R vars v → IsPrintedFor R v x →
        All (IsValidOn R (cone_of R v)) x.printed
    printed_valid v x on (inl both) = none_valid x.printed (cone_of R v) both.1
    printed_valid v x on (inr both) = external_valid laws (coordinates v) (cone_of R v)
        (λ y h. IsCombination-length laws (coordinates v) v.rows y on.0.wide h) (coordinates v) x.printed both.1

    valid : (q : ℕ) → All (IsValidOn R (cone_at R report q)) (part_at report q).printed
    valid q = ⊎_elim
        (λ l. at_point (Valid (part_at report q).printed) q
        (printed_valid (value q) (part_at report q) (value_on q) (part_made q l).printed))
        (λ l. none_valid (part_at report q).printed (cone_at R report q)
        (ap (λ (x : Part V). x.printed) (get_or_past (parts_of parts) q no_part (let e = length-report in omega
        (arith, l, e)))))
        (cases_lt q (length end.values))

    right : AllZip (IsRight R N reversed report) (asserts (nameless p)) verdicts
    right = AllZip-weaker (IsJudgedBy (IsProvenBy R N reversed) value) (IsRight R N reversed report)
        (λ a b h. at_point (λ n rows. (b ≡ true) ↔ IsProvenOn R N reversed n (IsCombination R n rows) a.claim) a.point
        h)
        (asserts (nameless p)) verdicts judged

    pub inductive : IsInductive R N reversed report
    inductive = report_inductive laws numbers report graph delay narrow end gives
        (record { rows = rows_are; valid = valid; right = right })

    -- ---- true at each visit

    fit : FitEdges vars (edges (nameless p))
    fit e c = All-contains (λ (e : Edge). FitsOp vars e.op) (edges (nameless p)) e graph.fits c

    pub inequalities : ArePrintedTrue R N report
    inequalities q s v = printed_is_true laws numbers report inductive fit q s v

    assert_suits : (k : ℕ) (a : Assertion) → slice_get (asserts (nameless p)) k ≡ Some a → SuitsClaim reversed vars
        a.claim
    assert_suits k a is =
        let xs = asserts (nameless p) in
        let l : k < length xs = slice_get_within xs k a is in
        let each : All (λ (c : Claimed). SuitsWords reversed c.claim) (map claimed xs) =
        subst (All (λ (c : Claimed). SuitsWords reversed c.claim)) (sym (program_claims (nameless p)))
        (block_each (SuitsWords reversed) p.body 0 suits) in
        let here : get_or (map claimed xs) k (claimed a) ≡ claimed a =
        get_or-map claimed xs k a (claimed a) l ∙ ap claimed (get_or_from_slice_get xs k a a is) in
        placed.assert_suits (nameless p) a (k, l, get_or_from_slice_get xs k a a is) reversed kept.coordinates
        kept.sides
        (subst (λ (c : Claimed). SuitsWords reversed c.claim) here
        (each k (claimed a) (let m = length-map xs claimed in omega (arith, l, m))))

    pub claims : AreProvedTrue report
    claims k a is says s v =
        proved_is_true laws numbers report inductive fit k a is says (assert_suits k a is) s v

    -- ---- no stop

    pub unstopped : (cause : Cause) (stop : Stop) → IsStop R N reversed delay narrow p cause stop → ⊥
    unstopped cause (At place) h =
        ended_unstopped (polyhedra R N reversed) (graph_of (nameless p)) delay narrow
        (polyhedra_laws laws numbers 63).one end gives (record { cause = cause_of cause; place = place_of place }) h
    unstopped OverLimit (PointPolar q i k) h =
        let same : ◌≡◌ {A = Outcome (End (Value V))} (Gives h.end) (Gives end) =
        analysis_is_one (polyhedra R N reversed) (graph_of (nameless p)) delay narrow (polyhedra_laws laws numbers
        63).one
        (Gives h.end) (Gives end) h.gives gives in
        let is : h.end ≡ end = cc in
        (part_made q (subst (λ (E : End (Value V)). q < length E.values) is h.inside)).unstopped i k
        (subst (λ (E : End (Value V)). IsListStop R (value_in p E.values q) i k) is h.here)
    unstopped OutOfRange (PointPolar q i k) h = absurd h
    unstopped OverLimit (Rows k) h = absurd h
    unstopped OutOfRange (Rows k) h = absurd h
    unstopped OverLimit (Polar i k) h = absurd h
    unstopped OutOfRange (Polar i k) h = absurd h
    unstopped OverLimit (Lean k j) h = absurd h
    unstopped OutOfRange (Lean k j) h = absurd h

    -- ---- what a report keeps

    pub points_kept : All (IsPointKept R N (vars + 1)) parts
    points_kept k d l =
        let e = AllZip-length (IsPointMade R) end.values parts made in
        let one : suc vars ≡ vars + 1 = omega arith in
        point_kept laws number_laws (value k) (get_or parts k d) (vars + 1) (ap suc (value_on k).1 ∙ one)
        (AllZip-at (IsPointMade R) end.values parts k (nothing vars) d made (omega (arith, l, e)))

    parts_kept : All (IsPartKept R N (vars + 1)) (parts_of parts)
    parts_kept = All-map (IsPartKept R N (vars + 1)) part_of parts (λ k d l. (points_kept k d l).part)

    small : All (λ (x : Part V). rows_size R x.rows ≤ greatest_entry) (parts_of parts)
    small k d l =
        let e = length-report in
        let h = AllZip-at (IsPartMade R) end.values (parts_of parts) k (nothing vars) d parts_made (omega (
          arith,
          l,
          e,
        )) in
        let s = ap (rows_size R) h.rows_are in
        let m = h.kept.small in
        omega (arith, s, m)

    pub length-verdicts : length verdicts ≡ length (assert_numbers p)
    length-verdicts =
        sym (AllZip-length (IsJudgedBy (IsProvenBy R N reversed) value) (asserts (nameless p)) verdicts judged)
        ∙ sym (length-map (asserts (nameless p)) (λ (a : Assertion). a.number))

    part_for : (q : ℕ) → q < length (parts_of parts) → IsPartFor R (value q) (part_at report q)
    part_for q l =
        let e = length-report in
        let h = part_made q (omega (arith, l, e)) in
        record {
          canonical = subst (IsCanonical R (cone_of R (value q))) (sym h.rows_are) h.kept.value.canonical;
          printed = h.printed;
        }

    pub report_made : IsProgram p → delay ≤ 1000 → narrow ≤ 100 → (passes : ℕ) → passes ≡ end.passes →
        passes ≤ length (graph_of (nameless p)).heads * (delay + 4097 + 1) + 1 →
        IsReportMade R N reversed delay narrow p (report_of delay narrow passes p parts verdicts)
    report_made program few some passes is bound = record {
      delay_is = refl;
      narrow_is = refl;
      program_is = refl;
      defined = record {
        end = end;
        gives = gives;
        passes_are = is;
        program_is = refl;
        one_each = length-report ∙ length-values;
        parts = part_for;
        verdicts = judged;
      };
      passes = (passes_within passes _ delay bound graph.few few).0;
      kept = record {
        delay = few;
        narrow = some;
        passes = (passes_within passes _ delay bound graph.few few).1;
        program = program;
        parts = parts_kept;
        points_are = length-report ∙ length-values;
        asserts_are = length-verdicts;
      };
      small = small;
      unstopped = unstopped;
      inductive = inductive;
      inequalities = inequalities;
      claims = claims;
    }
