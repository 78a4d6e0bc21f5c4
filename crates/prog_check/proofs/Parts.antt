-- What a report keeps, as the loops over its edges, points and asserts need it.
-- Index: normal_rows_finite, stays_by_rows, leaves_by_rows, valid_by_rows, invalid_by_rows, right_by_rows, width_is,
-- edges_few, edge_from, edge_to, edge_fits, edge_fits_in, edge_numbers, points_few, some_point, part_is.
use Rattle.std.proofs.Common.{◌≡◌, ◌≢◌, ◌<◌, ◌≤◌, ◌+◌, ◌-◌, ℕ, Bool, Option, List, Some, length, map, get_or, sym, ap, ◌∙◌, subst, subst₂, arith, Contains}
use Rattle.std.specs.Prelude.{All, slice_get, true, IsTrue, ◌↔◌, MatchOption}
use Rattle.std.proofs.lemmas.Option.{get_or_from_slice_get}
use Rattle.std.proofs.lemmas.List.Elements.{All-contains}
use Rattle.trop_theory.specs.Semiring.{Semiring, SemiringLaws}
use Rattle.trop_theory.specs.Vectors.{entry, bottom}
use Rattle.trop_theory.specs.Normal.{IsNormal}
use Rattle.trop_theory.specs.Numbers.{Numbering, NumericLaws}
use Rattle.trop_theory.specs.Combinations.{IsCombination}
use Rattle.trop_theory.specs.Inequalities.{IsValidOn}
use Rattle.trop_theory.proofs.Rows.{entry-bottom}
use Rattle.prog_theory.specs.Edges.{Edge}
use Rattle.prog_theory.specs.Each.{EachOp}
use Rattle.prog_theory.specs.Fits.{FitsOp}
use Rattle.prog_theory.specs.Within.{IsNumberWithin}
use Rattle.prog_theory.specs.Named.{nameless}
use Rattle.prog_theory.specs.Graph.{edges, points}
use Rattle.prog_theory.specs.ControlGraphs.{graph_of}
use Rattle.prog_theory.specs.GraphKeeps.{IsControlGraph}
use Rattle.prog_theory.proofs.ControlGraphs.{graph_of_program}
use Rattle.cone_reports.specs.Images.{InImage}
use Rattle.cone_reports.specs.Readings.{IsProvenOn}
use Rattle.cone_reports.specs.Asserts.{Assertion}
use Rattle.cone_reports.specs.Reports.{Part, Report, part_at, no_part, coordinates, cone_at}
use Rattle.cone_reports.specs.Inductive.{StaysAlong, IsValidAt, IsRight}
use Rattle.cone_reports.specs.Verdicts.{Leaves}
use Rattle.cone_reports.proofs.Checks.{get_contains}
use Rattle.cone_reports.proofs.EdgeLists.{image_within_by_list}
use Rattle.report_value.specs.Views.{ReportOver, said}
use Rattle.report_value.specs.Kept.{IsKept}
use Rattle.report_value.proofs.Within.{HasWideRows-kept}
use Rattle.prog_graph.specs.declared.parts.Edge.{Edge as CodeEdge}
use Rattle.prog_graph.specs.Views.{edge_of}
use Rattle.prog_check.specs.Found.{EscapesAt}
use Rattle.prog_check.proofs.Loops.{some_of}
use Rattle.prog_check.proofs.Steps.{mapped_in, mapped_first}
use Rattle.prog_check.specs.Limits.{most_add}
use Rattle.prog_check.specs.Firsts.{IsOutside, IsFirstAt}

-- a row in normal form is not bottom
pub normal_rows_finite : {V : Type 0} {R : Semiring V} (laws : SemiringLaws R) (n : ℕ) (rows : List (List V))
    → All (IsNormal R) rows → All (λ row. row ≢ bottom R n) rows
normal_rows_finite {R = R} laws n rows h k d l e =
    let x = h k d l in laws.one_finite (sym x.is_one ∙ ap (λ v. entry R v x.first) e ∙ entry-bottom R n x.first)

-- ---- what is said in the coordinates of a list of rows, in those of the report
module _ {V : Type 0} (R : Semiring V) (N : Numbering V) (reversed : Bool) (report : Report V) (n : ℕ)
    (width : coordinates report ≡ n) where
  pub stays_by_rows : (e : Edge) (source target : List (List V)) → (part_at report e.from).rows ≡ source
      → (part_at report e.to).rows ≡ target
      → ((x : List V) → InImage R N reversed n e.op (IsCombination R n source) x → IsCombination R n target x)
      → StaysAlong R N reversed report e
  stays_by_rows e source target f t h =
      subst₂ (λ s q. (x : List V) → InImage R N reversed (coordinates report) e.op
      (IsCombination R (coordinates report) s) x
      → IsCombination R (coordinates report) q x) (sym f) (sym t)
      (subst (λ k. (x : List V) → InImage R N reversed k e.op (IsCombination R k source) x → IsCombination R k target x)
      (sym width) h)

  pub leaves_by_rows : (e : Edge) (source target : List (List V)) (row : List V) → (part_at report e.from).rows ≡ source
      → (part_at report e.to).rows ≡ target → IsOutside R N reversed n e.op source target row
      → Leaves R N reversed report e row
  leaves_by_rows e source target row f t h =
      let o = subst₂ (λ s q. IsOutside R N reversed (coordinates report) e.op s q row) (sym f) (sym t)
      (subst (λ k. IsOutside R N reversed k e.op source target row) (sym width) h) in
      record { list = o.0; is_list = o.1; place = o.2.0; first = o.2.1 }

  pub valid_by_rows : (p : ℕ) (part : Part V) → part_at report p ≡ part
      → All (IsValidOn R (IsCombination R n part.rows)) part.printed → IsValidAt R report p
  valid_by_rows p part e h =
      subst (λ q. All (IsValidOn R (IsCombination R (coordinates report) q.rows)) q.printed) (sym e)
      (subst (λ k. All (IsValidOn R (IsCombination R k part.rows)) part.printed) (sym width) h)

  pub invalid_by_rows : (p k : ℕ) (part : Part V) → part_at report p ≡ part
      → IsFirstAt (IsValidOn R (IsCombination R n part.rows)) part.printed k
      → IsFirstAt (IsValidOn R (cone_at R report p)) (part_at report p).printed k
  invalid_by_rows p k part e h =
      subst (λ q. IsFirstAt (IsValidOn R (IsCombination R (coordinates report) q.rows)) q.printed k) (sym e)
      (subst (λ m. IsFirstAt (IsValidOn R (IsCombination R m part.rows)) part.printed k) (sym width) h)

  pub right_by_rows : (a : Assertion) (proved told : Bool) (rows : List (List V)) → (part_at report a.point).rows ≡ rows
      → (IsTrue told ↔ ((proved ≡ true) ↔ IsProvenOn R N reversed n (IsCombination R n rows) a.claim))
      → IsTrue told ↔ IsRight R N reversed report a proved
  right_by_rows a proved told rows e h =
      subst (λ s. IsTrue told ↔ ((proved ≡ true) ↔ IsProvenOn R N reversed (coordinates report)
      (IsCombination R (coordinates report) s) a.claim)) (sym e)
      (subst (λ k. IsTrue told ↔ ((proved ≡ true) ↔ IsProvenOn R N reversed k (IsCombination R k rows) a.claim))
      (sym width) h)

module _ {V : Type 0} {R : Semiring V} {N : Numbering V} (r : ReportOver V) (kept : IsKept R N r) where
  graph_keeps : IsControlGraph (graph_of (nameless r.program))
  graph_keeps = graph_of_program r.program kept.program.within

  pub width_is : (n : ℕ) → n ≡ length r.program.names + 1 → coordinates (said r) ≡ n
  width_is n e = omega (arith, e)

  -- ---- edges
  pub edges_few : length (edges (nameless r.program)) ≤ 65536
  edges_few = graph_keeps.edges

  pub edge_from : (e : Edge) → Contains (edges (nameless r.program)) e → e.from < length r.parts
  edge_from e c =
      let P = nameless r.program in
      let j = All-contains (λ (e : Edge). (e.from < length (points P)) × (e.to < length (points P))) (edges P) e
      graph_keeps.joins c in
      omega (arith, j.0, kept.points_are)

  pub edge_to : (e : Edge) → Contains (edges (nameless r.program)) e → e.to < length r.parts
  edge_to e c =
      let P = nameless r.program in
      let j = All-contains (λ (e : Edge). (e.from < length (points P)) × (e.to < length (points P))) (edges P) e
      graph_keeps.joins c in
      omega (arith, j.1, kept.points_are)

  pub edge_fits : (e : Edge) → Contains (edges (nameless r.program)) e → FitsOp (length r.program.names) e.op
  edge_fits e c = All-contains (λ (e : Edge). FitsOp (length r.program.names) e.op) (edges (nameless r.program)) e
      graph_keeps.fits c

  pub edge_fits_in : (n : ℕ) → n ≡ length r.program.names + 1 → (e : Edge) → Contains (edges (nameless r.program)) e
      → FitsOp (n - 1) e.op
  edge_fits_in n w e c = let same : length r.program.names ≡ n - 1 = omega (arith, w) in
      subst (λ k. FitsOp k e.op) same (edge_fits e c)

  pub edge_numbers : (e : Edge) → Contains (edges (nameless r.program)) e
      → EachOp (λ x. Unit {0}) (IsNumberWithin most_add) e.op
  edge_numbers e c = All-contains (λ (e : Edge). EachOp (λ x. Unit {0}) (IsNumberWithin most_add) e.op)
      (edges (nameless r.program)) e graph_keeps.numbers c

  -- ---- points
  pub points_few : length r.parts ≤ 65536
  points_few = omega (arith, graph_keeps.points, kept.points_are)

  pub some_point : 0 < length r.parts
  some_point = omega (arith, graph_keeps.entry, kept.points_are)

  pub part_is : (p : ℕ) (part : Part V) → slice_get r.parts p ≡ Some part → part_at (said r) p ≡ part
  part_is p part e = get_or_from_slice_get r.parts p part no_part e

  -- ---- what leaves does not stay
  module _ {reversed : Bool} (laws : SemiringLaws R) (numbers : NumericLaws R N reversed) where
    pub leaves_fails : (e : Edge) → Contains (edges (nameless r.program)) e → (row : List V)
        → Leaves R N reversed (said r) e row → StaysAlong R N reversed (said r) e → ⊥
    leaves_fails e c row leaves stays =
        let inside = image_within_by_list laws numbers (length r.program.names) e.op (edge_fits e c)
        (part_at (said r) e.from).rows leaves.list (part_at (said r) e.to).rows (HasWideRows-kept R N r kept e.from)
        (HasWideRows-kept R N r kept e.to) leaves.is_list in
        leaves.first.lacks (All-contains (cone_at R (said r) e.to) leaves.list row (inside.0 stays)
        (get_contains leaves.list leaves.place row leaves.first.at))

    -- the edge at place k of the list leads out, and none before it
    escapes_at : (xs : List CodeEdge) → map edge_of xs ≡ edges (nameless r.program) → (k : ℕ) (d : CodeEdge)
        → k < length xs
        → ((j : ℕ) (d : CodeEdge) → j < k → StaysAlong R N reversed (said r) (edge_of (get_or xs j d)))
        → (row : List V) → Leaves R N reversed (said r) (edge_of (get_or xs k d)) row
        → EscapesAt R N reversed (said r) k row
    escapes_at xs same k d l before row leaves =
        let e = edge_of (get_or xs k d) in
        let all = edges (nameless r.program) in
        record {
          edge = e;
          first = mapped_first edge_of xs all same (StaysAlong R N reversed (said r)) k d l before
              (leaves_fails e (mapped_in edge_of xs all same k d l) row leaves);
          leaves = leaves;
        }

    pub escapes_from : (xs : List CodeEdge) → map edge_of xs ≡ edges (nameless r.program) → (k : ℕ) (d : CodeEdge)
        → k < length xs
        → ((j : ℕ) (d : CodeEdge) → j < k → StaysAlong R N reversed (said r) (edge_of (get_or xs j d)))
        → (o : Option (List V)) → (row : List V) → o ≡ Some row
        → MatchOption o (StaysAlong R N reversed (said r) (edge_of (get_or xs k d)))
        (Leaves R N reversed (said r) (edge_of (get_or xs k d)))
        → EscapesAt R N reversed (said r) k row
    escapes_from xs same k d l before o row is h =
        escapes_at xs same k d l before row (some_of (StaysAlong R N reversed (said r) (edge_of (get_or xs k d)))
        (Leaves R N reversed (said r) (edge_of (get_or xs k d))) o row is h)
