use Rattle.std.proofs.Common.{◌∙◌, ◌≡◌, ℕ, Option, All, length, ap, sym, subst}
use Rattle.std.specs.Prelude.{ℤ}
use Rattle.std.proofs.lemmas.Result.{err_from_is_err_and}
use Rattle.dom_theory.specs.Analysis.{End}
use Rattle.cone_domain.specs.Values.{Value}
use Rattle.mixed_theory.specs.Halves.{variables}
use Rattle.mixed_print.specs.Said.{IsListStop}
use Rattle.mixed_print.specs.Texts.{IsMixedText}
use Rattle.tplib_mixed.proofs.Reports.{family_gives, passes_bound, values_count, values_on, report, unstopped}
use Rattle.tplib_mixed.proofs.Refusals.{graph_refused, refused_as}
use Rattle.tplib_mixed.proofs.report.report_text.Goals as goal

pub returns-in_err-family-clause-refused : goal.returns-in_err-family-clause-refused
returns-in_err-family-clause-refused c =
    let p = err_from_is_err_and c.from_residual-in_err-family.result c.from_residual-in_err-family.ensures.1 in
    rw (p.1, p.2) (graph_refused c.args.delay c.args.narrow c.args.program.now c.in_ok-graph.graph
    c.in_ok-graph.ensures.graph c.in_err-family.field-0.0 c.in_err-family.ensures.refused)

pub print_mixed-requires-clause-points : goal.print_mixed-requires-clause-points
print_mixed-requires-clause-points c =
    let p = c.args.program.now in
    let E : End (Value (Option ℤ)) = record
    { values = c.in_ok-family.family.values.items; passes = c.in_ok-family.family.passes } in
    let gives = family_gives p c.args.delay c.args.narrow c.in_ok-graph.graph c.in_ok-graph.ensures.graph E
    c.in_ok-family.ensures.gives in
    ap length c.as_slice-values.ensures.value
    ∙ values_count p c.names-names.ensures.keeps.within c.args.delay c.args.narrow E gives

pub print_mixed-requires-clause-vars : goal.print_mixed-requires-clause-vars
print_mixed-requires-clause-vars c =
    let p = c.args.program.now in
    let E : End (Value (Option ℤ)) = record
    { values = c.in_ok-family.family.values.items; passes = c.in_ok-family.family.passes } in
    let gives = family_gives p c.args.delay c.args.narrow c.in_ok-graph.graph c.in_ok-graph.ensures.graph E
    c.in_ok-family.ensures.gives in
    subst (All (λ v. variables v ≡ length p.names)) (sym c.as_slice-values.ensures.value)
    (values_on p c.names-names.ensures.keeps.within c.args.delay c.args.narrow E gives)

pub returns-in-Ok-clause-text : goal.returns-in-Ok-clause-text
returns-in-Ok-clause-text c =
    let p = c.args.program.now in
    let E : End (Value (Option ℤ)) = record
    { values = c.in_ok-family.family.values.items; passes = c.in_ok-family.family.passes } in
    let gives = family_gives p c.args.delay c.args.narrow c.in_ok-graph.graph c.in_ok-graph.ensures.graph E
    c.in_ok-family.ensures.gives in
    report p c.names-names.ensures.keeps.within c.args.delay c.args.narrow E gives c.in-Ok.text.items
    (passes_bound p c.args.delay c.args.narrow c.in_ok-graph.graph c.in_ok-graph.ensures.graph
    c.in_ok-family.family.passes c.in_ok-family.ensures.passes)
    (subst (λ vs. IsMixedText c.args.delay c.args.narrow c.in_ok-family.family.passes p vs c.in-Ok.text.items)
    c.as_slice-values.ensures.value c.in-Ok.ensures.text)

pub returns-in-Ok-clause-unstopped : goal.returns-in-Ok-clause-unstopped
returns-in-Ok-clause-unstopped c =
    let p = c.args.program.now in
    let E : End (Value (Option ℤ)) = record
    { values = c.in_ok-family.family.values.items; passes = c.in_ok-family.family.passes } in
    let gives = family_gives p c.args.delay c.args.narrow c.in_ok-graph.graph c.in_ok-graph.ensures.graph E
    c.in_ok-family.ensures.gives in
    unstopped p c.names-names.ensures.keeps.within c.args.delay c.args.narrow E gives
    (passes_bound p c.args.delay c.args.narrow c.in_ok-graph.graph c.in_ok-graph.ensures.graph
    c.in_ok-family.family.passes c.in_ok-family.ensures.passes)
    (subst (All (λ v. (i k : ℕ) → IsListStop v i k → ⊥)) c.as_slice-values.ensures.value c.in-Ok.ensures.unstopped)

pub returns-clause-refused : goal.returns-clause-refused
returns-clause-refused c =
    let p = c.args.program.now in
    let E : End (Value (Option ℤ)) = record
    { values = c.in_ok-family.family.values.items; passes = c.in_ok-family.family.passes } in
    let gives = family_gives p c.args.delay c.args.narrow c.in_ok-graph.graph c.in_ok-graph.ensures.graph E
    c.in_ok-family.ensures.gives in
    refused_as c.args.delay c.args.narrow p E gives c.as_slice-values.result.now c.as_slice-values.ensures.value
    c.in-Err.e c.unprinted.result c.unprinted.ensures c.in-Err.ensures.refused
