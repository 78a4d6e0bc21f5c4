use Rattle.std.proofs.Common.{◌≡◌, ◌∙◌, length, map, ap, sym, subst, arith}
use Rattle.std.proofs.lemmas.Result.{err_from_is_err_and}
use Rattle.std.specs.Prelude.{All}
use Rattle.prog_theory.specs.ControlGraphs.{ControlGraph}
use Rattle.dom_theory.specs.Analysis.{End}
use Rattle.zone_lists.specs.Zones.{ZoneList, zone_of}
use Rattle.zone_print.specs.Reports.{IsZoneReport}
use Rattle.tplib_zone.proofs.Reports.{family_gives, passes_bound, lists_on, one_each, report, unstopped}
use Rattle.tplib_zone.proofs.Refusals.{analysis_refused, analysis_kinds}
use Rattle.tplib_zone.proofs.report.report_text.Goals as goal

pub family-requires-clause-few : goal.family-requires-clause-few
family-requires-clause-few c =
    omega (arith, ap (λ (G : ControlGraph). G.vars) c.in_ok-graph.ensures.graph, c.requires.kept.within.vars)

pub returns-in_err-family-clause-refused : goal.returns-in_err-family-clause-refused
returns-in_err-family-clause-refused c =
    let r = err_from_is_err_and c.from_residual-in_err-family.result c.from_residual-in_err-family.ensures.1 in
    rw (r.1, r.2) (analysis_refused c.args.delay c.args.narrow c.args.program.now c.in_ok-graph.graph
    c.in_ok-graph.ensures.graph c.in_err-family.field-0.0 c.in_err-family.ensures.refused)

pub returns-in_err-family-clause-kinds : goal.returns-in_err-family-clause-kinds
returns-in_err-family-clause-kinds c =
    let r = err_from_is_err_and c.from_residual-in_err-family.result c.from_residual-in_err-family.ensures.1 in
    rw (r.1, r.2) (analysis_kinds c.args.delay c.args.narrow c.args.program.now c.in_err-family.field-0.0
    (analysis_refused c.args.delay c.args.narrow c.args.program.now c.in_ok-graph.graph
    c.in_ok-graph.ensures.graph c.in_err-family.field-0.0 c.in_err-family.ensures.refused))

pub print_zone-requires-clause-points : goal.print_zone-requires-clause-points
print_zone-requires-clause-points c =
    let p = c.args.program.now in
    let E : End ZoneList = record {
      values = c.in_ok-family.family.values.items;
      passes = c.in_ok-family.family.passes;
    } in
    ap length c.as_slice-values.ensures.value ∙ one_each p c.requires.kept.within c.args.delay c.args.narrow E
    (family_gives p c.in_ok-graph.graph c.in_ok-graph.ensures.graph c.args.delay c.args.narrow E
    c.in_ok-family.ensures.gives)

pub print_zone-requires-clause-vars : goal.print_zone-requires-clause-vars
print_zone-requires-clause-vars c =
    let p = c.args.program.now in
    let E : End ZoneList = record {
      values = c.in_ok-family.family.values.items;
      passes = c.in_ok-family.family.passes;
    } in
    subst (λ xs. All (λ (x : ZoneList). x.vars ≡ length p.names) xs) (sym c.as_slice-values.ensures.value)
    (lists_on p c.requires.kept.within c.args.delay c.args.narrow E
    (family_gives p c.in_ok-graph.graph c.in_ok-graph.ensures.graph c.args.delay c.args.narrow E
    c.in_ok-family.ensures.gives))

pub returns-clause-text : goal.returns-clause-text
returns-clause-text c =
    let p = c.args.program.now in
    let E : End ZoneList = record {
      values = c.in_ok-family.family.values.items;
      passes = c.in_ok-family.family.passes;
    } in
    report p c.requires.kept.within c.args.delay c.args.narrow E
    (family_gives p c.in_ok-graph.graph c.in_ok-graph.ensures.graph c.args.delay c.args.narrow E
    c.in_ok-family.ensures.gives) c.in_ok-text.text.items
    (passes_bound p c.in_ok-graph.graph c.in_ok-graph.ensures.graph c.args.delay E.passes
    c.in_ok-family.ensures.passes)
    (subst (λ xs. IsZoneReport c.args.delay c.args.narrow E.passes p (map zone_of xs) c.in_ok-text.text.items)
    c.as_slice-values.ensures.value c.in_ok-text.ensures)

pub returns-clause-unstopped : goal.returns-clause-unstopped
returns-clause-unstopped c =
    let p = c.args.program.now in
    let E : End ZoneList = record {
      values = c.in_ok-family.family.values.items;
      passes = c.in_ok-family.family.passes;
    } in
    unstopped p c.requires.kept.within c.args.delay c.args.narrow E
    (family_gives p c.in_ok-graph.graph c.in_ok-graph.ensures.graph c.args.delay c.args.narrow E
    c.in_ok-family.ensures.gives)
    (passes_bound p c.in_ok-graph.graph c.in_ok-graph.ensures.graph c.args.delay E.passes
    c.in_ok-family.ensures.passes)
