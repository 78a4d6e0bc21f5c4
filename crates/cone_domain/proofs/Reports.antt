-- The report of what an analysis gives is inductive, so that it is true at every visit.
use Rattle.std.proofs.Common.{◌≡◌, ℕ, suc, Bool, List, length, get_or, sym, subst, Contains}
use Rattle.std.specs.Prelude.{◌↔◌}
use Rattle.std.proofs.lemmas.List.Elements.{All-contains}
use Rattle.trop_theory.specs.Semiring.{Semiring, SemiringLaws}
use Rattle.trop_theory.specs.Numbers.{Numbering, NumericLaws}
use Rattle.trop_theory.specs.Combinations.{IsCombination}
use Rattle.prog_theory.specs.Statements.{Program}
use Rattle.prog_theory.specs.Edges.{Edge}
use Rattle.prog_theory.specs.Fits.{FitsOp}
use Rattle.prog_theory.specs.GraphKeeps.{IsControlGraph}
use Rattle.prog_theory.specs.Graph.{edges}
use Rattle.dom_theory.specs.Outcomes.{Gives}
use Rattle.dom_theory.specs.Analysis.{End, Analysis}
use Rattle.prog_theory.specs.ControlGraphs.{graph_of}
use Rattle.dom_theory.specs.Inductive.{IsInductive as IsInductiveFor}
use Rattle.dom_theory.proofs.Ends.{analysis_inductive, analysis_sound}
use Rattle.cone_reports.specs.Images.{InImage}
use Rattle.cone_reports.specs.Reports.{Report}
use Rattle.cone_reports.specs.Inductive.{IsInductive}
use Rattle.cone_domain.specs.Values.{Value, coordinates, cone_of}
use Rattle.cone_domain.specs.Polyhedra.{nothing, polyhedra}
use Rattle.cone_domain.specs.Reports.{IsReportOf}
use Rattle.cone_domain.proofs.Generated.{image_same}
use Rattle.cone_domain.proofs.States.{everything_by_units}
use Rattle.cone_domain.proofs.Laws.{polyhedra_laws}
use Rattle.cone_domain.proofs.Inclusion.{IsValueOn, image_exists, polyhedra_inclusion}

module _ {V : Type 0} {R : Semiring V} {N : Numbering V} {reversed : Bool} (laws : SemiringLaws R)
    (numbers : NumericLaws R N reversed) (P : Program) (graph : IsControlGraph (graph_of P)) (delay narrow : ℕ)
    (E : End (Value V)) (gives : Analysis (polyhedra R N reversed) (graph_of P) delay narrow (Gives E)) where
  -- the value at a point
  fits : (e : Edge) → Contains (edges P) e → FitsOp P.vars e.op
  fits e c = All-contains (λ e. FitsOp P.vars e.op) (edges P) e graph.fits c

  abbrev pub at_point : ℕ → Value V
  at_point q = get_or E.values q (nothing P.vars)

  pub end_inductive : IsInductiveFor (polyhedra R N reversed) (graph_of P) at_point
  end_inductive = analysis_inductive (polyhedra R N reversed) (graph_of P) (IsValueOn R P.vars)
      (polyhedra_inclusion laws numbers P.vars) delay narrow E (polyhedra_laws laws numbers P.vars) graph gives

  pub end_values : (q : ℕ) → IsValueOn R P.vars (at_point q)
  end_values = analysis_sound (polyhedra R N reversed) (graph_of P) (IsValueOn R P.vars)
      (polyhedra_inclusion laws numbers P.vars) delay narrow E gives

  -- the cone at a point, in the coordinates of the program
  same_cone : (q : ℕ) (x : List V) → IsCombination R (suc P.vars) (at_point q).rows x ↔ cone_of R (at_point q) x
  same_cone q x = (
    λ c. subst (λ m. IsCombination R (suc m) (at_point q).rows x) (sym (end_values q).1) c,
    λ c. subst (λ m. IsCombination R (suc m) (at_point q).rows x) (end_values q).1 c,
  )

  image_stays : (e : Edge) → Contains (edges P) e → (x : List V)
      → InImage R N reversed (coordinates (at_point e.from)) e.op (cone_of R (at_point e.from)) x
      → cone_of R (at_point e.to) x
  image_stays e c x i =
      let w = image_exists laws numbers P.vars e.op (at_point e.from) (fits e c) (end_values e.from) in
      end_inductive.stays e c w.0 w.1 x ((image_same laws numbers e.op (at_point e.from) w.0 w.1 x).0 i)

  -- everything at point 0, and the image along each edge, in the coordinates of the program
  pub first_is_everything : (x : List V) → length x ≡ suc P.vars → IsCombination R (suc P.vars) (at_point 0).rows x
  first_is_everything x l = (same_cone 0 x).1
      (end_inductive.everything x (everything_by_units laws numbers (suc P.vars) x l))

  pub images_stay : (e : Edge) → Contains (edges P) e → (x : List V)
      → InImage R N reversed (suc P.vars) e.op (IsCombination R (suc P.vars) (at_point e.from).rows) x
      → IsCombination R (suc P.vars) (at_point e.to).rows x
  images_stay e c x i =
      (same_cone e.to x).1 (image_stays e c x
      (subst (λ m. InImage R N reversed (suc m) e.op (IsCombination R (suc m) (at_point e.from).rows) x)
      (sym (end_values e.from).1) i))

module _ {V : Type 0} {R : Semiring V} {N : Numbering V} {reversed : Bool} (laws : SemiringLaws R)
    (numbers : NumericLaws R N reversed) (report : Report V) (graph : IsControlGraph (graph_of report.program))
    (delay narrow : ℕ) (E : End (Value V))
    (gives : Analysis (polyhedra R N reversed) (graph_of report.program) delay narrow (Gives E)) where
  -- the report of what the analysis gives is inductive
  pub report_inductive : IsReportOf R N reversed (λ q. get_or E.values q (nothing report.program.vars)) report
      → IsInductive R N reversed report
  report_inductive h = record {
    whole = λ x l. subst (λ rows. IsCombination R (suc report.program.vars) rows x) (sym (h.rows 0))
        (first_is_everything laws numbers report.program graph delay narrow E gives x l);
    stays = λ e c x i.
        subst (λ rows. IsCombination R (suc report.program.vars) rows x) (sym (h.rows e.to))
        (images_stay laws numbers report.program graph delay narrow E gives e c x
        (subst (λ rows. InImage R N reversed (suc report.program.vars) e.op
        (IsCombination R (suc report.program.vars) rows) x) (h.rows e.from) i));
    valid = h.valid;
    right = h.right;
  }
