use Rattle.std.proofs.Common.{◌<◌, ◌≤◌, ◌^◌, List, All, length, refl, sym, ◌∙◌, subst}
use Rattle.std.proofs.lemmas.List.{length-map}
use Rattle.prog_graph.specs.Views.{point_of}
use Rattle.prog_theory.specs.Statements.{Block}
use Rattle.prog_theory.specs.Places.{widths}
use Rattle.prog_theory.specs.Each.{EachBlock}
use Rattle.prog_graph.specs.declared.parts.Edge.{Edge}
use Rattle.prog_graph.specs.Modest.{IsModest, IsAnything}
use Rattle.prog_graph.specs.Into.{AreInto, targets, numbers_of}
use Rattle.prog_graph.proofs.Built.{modest, widths_small, built, built_keeps, built_statements, built_exit, built_few, built_joins, built_graph}
use Rattle.prog_graph.proofs.graph.build.Goals as goal

pub program_points-requires-clause-fits : goal.program_points-requires-clause-fits
program_points-requires-clause-fits c = subst (λ (x : Block). widths x < 2 ^ 32) (sym c.body-body.ensures.value)
    (widths_small c.args.program.now c.body-body.ensures.keeps)

pub program_edges-requires-clause-modest : goal.program_edges-requires-clause-modest
program_edges-requires-clause-modest c = subst (λ (x : Block). EachBlock IsAnything IsModest x)
    (sym c.body-body.ensures.value) (modest c.args.program.now c.body-body.ensures.keeps)

pub program_edges-requires-clause-fits : goal.program_edges-requires-clause-fits
program_edges-requires-clause-fits c = subst (λ (x : Block). widths x < 2 ^ 32) (sym c.body-body.ensures.value)
    (widths_small c.args.program.now c.body-body.ensures.keeps)

pub program_heads-requires : goal.program_heads-requires
program_heads-requires c = subst (λ (x : Block). widths x < 2 ^ 32) (sym c.body-body.ensures.value)
    (widths_small c.args.program.now c.body-body.ensures.keeps)

pub edges_into-requires-clause-few : goal.edges_into-requires-clause-few
edges_into-requires-clause-few c =
    subst (λ (es : List Edge). length es ≤ 65536) (sym c.deref.ensures.value)
    (built_few c.args.program.now c.body-body.ensures.keeps (length c.args.program.now.names) c.body-body.result.now
    c.in_ok-items.items.items c.in_ok-edges.edges.items c.in_ok-heads.heads.items refl c.body-body.ensures.value
    c.in_ok-items.ensures c.in_ok-edges.ensures c.in_ok-heads.ensures)

pub edges_into-requires-clause-inside : goal.edges_into-requires-clause-inside
edges_into-requires-clause-inside c =
    subst (λ (es : List Edge). All (λ e. e.to < c.len.result) es) (sym c.deref.ensures.value)
    (built_joins c.args.program.now c.body-body.ensures.keeps (length c.args.program.now.names) c.body-body.result.now
    c.in_ok-items.items.items c.in_ok-edges.edges.items c.in_ok-heads.heads.items refl c.body-body.ensures.value
    c.in_ok-items.ensures c.in_ok-edges.ensures c.in_ok-heads.ensures c.len.result
    (c.len.ensures ∙ length-map c.in_ok-items.items.items point_of))

pub invariant_of-result : goal.invariant_of-result
invariant_of-result c =
    built_graph c.args.program.now c.body-body.ensures.keeps c.vars.result c.body-body.result.now
    c.in_ok-items.items.items c.in_ok-edges.edges.items c.in_ok-heads.heads.items c.vars.ensures.value
    c.body-body.ensures.value c.in_ok-items.ensures c.in_ok-edges.ensures c.in_ok-heads.ensures c.len.result
    (numbers_of c.in_ok-into.into.items) (c.len.ensures ∙ length-map c.in_ok-items.items.items point_of)
    (subst (λ (es : List Edge). AreInto (numbers_of c.in_ok-into.into.items) c.len.result (targets es))
    c.deref.ensures.value c.in_ok-into.ensures)

pub returns-clause-graph : goal.returns-clause-graph
returns-clause-graph c = built c.args.program.now c.body-body.ensures.keeps c.vars.result c.body-body.result.now
    c.in_ok-items.items.items c.in_ok-edges.edges.items c.in_ok-heads.heads.items c.vars.ensures.value
    c.body-body.ensures.value c.in_ok-items.ensures c.in_ok-edges.ensures c.in_ok-heads.ensures

pub returns-clause-keeps : goal.returns-clause-keeps
returns-clause-keeps c = built_keeps c.args.program.now c.body-body.ensures.keeps c.vars.result c.body-body.result.now
    c.in_ok-items.items.items c.in_ok-edges.edges.items c.in_ok-heads.heads.items c.vars.ensures.value
    c.body-body.ensures.value c.in_ok-items.ensures c.in_ok-edges.ensures c.in_ok-heads.ensures

pub returns-clause-statements : goal.returns-clause-statements
returns-clause-statements c = built_statements c.args.program.now c.body-body.ensures.keeps c.vars.result
    c.body-body.result.now c.in_ok-items.items.items c.in_ok-edges.edges.items c.in_ok-heads.heads.items
    c.vars.ensures.value c.body-body.ensures.value c.in_ok-items.ensures c.in_ok-edges.ensures c.in_ok-heads.ensures

pub returns-clause-exit : goal.returns-clause-exit
returns-clause-exit c = built_exit c.args.program.now c.body-body.ensures.keeps c.vars.result c.body-body.result.now
    c.in_ok-items.items.items c.in_ok-edges.edges.items c.in_ok-heads.heads.items c.vars.ensures.value
    c.body-body.ensures.value c.in_ok-items.ensures c.in_ok-edges.ensures c.in_ok-heads.ensures
