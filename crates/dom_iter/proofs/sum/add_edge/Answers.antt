use Rattle.std.proofs.Common.{ℕ, ◌∙◌, get_or}
use Rattle.std.proofs.lemmas.List.{get_or_default}
use Rattle.std.proofs.lemmas.Result.{err_from_is_err_and}
use Rattle.prog_graph.specs.Views.{edge_of}
use Rattle.dom_core.specs.Views.{spot_of}
use Rattle.dom_iter.proofs.Adding.{Adds-image-stops, Adds-join-stops, Adds-gives}
use Rattle.dom_iter.proofs.sum.add_edge.Goals as goal

pub returns-in_err-image : goal.returns-in_err-image
returns-in_err-image g c =
    let D = g.D.Domain.relations in
    let value = λ (q : ℕ). get_or c.args.values.now q (D.bottom c.args.vars) in
    let is = c.index-values-edge.is ∙ get_or_default c.args.values.now c.args.edge.now.from c.index-values-edge.result
    (D.bottom c.args.vars) c.requires.from in
    let p = err_from_is_err_and c.from_residual.result c.from_residual.ensures.1 in
    rw (p.1, p.2) (Adds-image-stops D (spot_of c.args.spot) value c.args.number (edge_of c.args.edge.now) c.args.sum
    c.index-values-edge.result c.in_err-image.field-0.0 c.requires.here is c.in_err-image.ensures)

pub returns-in_err-joined : goal.returns-in_err-joined
returns-in_err-joined g c =
    let D = g.D.Domain.relations in
    let value = λ (q : ℕ). get_or c.args.values.now q (D.bottom c.args.vars) in
    let is = c.index-values-edge.is ∙ get_or_default c.args.values.now c.args.edge.now.from c.index-values-edge.result
    (D.bottom c.args.vars) c.requires.from in
    let p = err_from_is_err_and c.from_residual-in_err-joined.result c.from_residual-in_err-joined.ensures.1 in
    rw (p.1, p.2) (Adds-join-stops D (spot_of c.args.spot) value c.args.number (edge_of c.args.edge.now) c.args.sum
    c.index-values-edge.result c.in_ok-image.image c.in_err-joined.field-0.0 c.requires.here is c.in_ok-image.ensures
    c.in_err-joined.ensures)

pub returns : goal.returns
returns g c =
    let D = g.D.Domain.relations in
    let value = λ (q : ℕ). get_or c.args.values.now q (D.bottom c.args.vars) in
    let is = c.index-values-edge.is ∙ get_or_default c.args.values.now c.args.edge.now.from c.index-values-edge.result
    (D.bottom c.args.vars) c.requires.from in
    Adds-gives D (spot_of c.args.spot) value c.args.number (edge_of c.args.edge.now) c.args.sum
    c.index-values-edge.result c.in_ok-image.image c.in_ok-joined.joined c.requires.here is c.in_ok-image.ensures
    c.in_ok-joined.ensures
