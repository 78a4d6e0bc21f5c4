use Rattle.std.proofs.Common.{◌≡◌, ap, ap₂, ◌∙◌, map, subst}
use Rattle.std.specs.Prelude.{IfOk}
use Rattle.prog_theory.specs.Named.{nameless}
use Rattle.prog_theory.specs.Graph.{points}
use Rattle.prog_theory.specs.ControlGraphs.{ControlGraph}
use Rattle.prog_graph.specs.Views.{point_of}
use Rattle.prog_asserts.specs.Listed.{shown, listed_bl, asserts_along}
use Rattle.prog_asserts.specs.Views.{assertions}
use Rattle.prog_asserts.proofs.Places.{program_asserts}
use Rattle.prog_asserts.proofs.assertion.asserts.Goals as goal

pub returns : goal.returns
returns c =
    let P = nameless c.args.program.now in
    let at_points : map point_of c.as_slice.result.now ≡ points P =
    c.as_slice.ensures ∙ c.points.ensures.value ∙ ap (λ (G : ControlGraph). G.points) c.requires.graph in
    let in_order : shown c.as_slice-2.result.now ≡ listed_bl P.body =
    ap shown c.as_slice-2.ensures.value ∙ c.in_ok-stmts.ensures ∙ ap listed_bl c.body.ensures.value in
    record {
      all = subst (λ z. IfOk c.along.result (λ v. assertions v.items ≡ z))
          (ap₂ (asserts_along 0) at_points in_order ∙ program_asserts P) c.along.ensures;
    }
