use Rattle.std.proofs.Common.{refl, ap, sym, subst, arith}
use Rattle.std.specs.List.{AllZip}
use Rattle.std.proofs.lemmas.Result.{err_from_is_err_and}
use Rattle.prog_theory.specs.ControlGraphs.{ControlGraph}
use Rattle.dom_theory.specs.Analysis.{End}
use Rattle.cone_domain.specs.Values.{Value}
use Rattle.tplib_family.specs.Family.{end_of}
use Rattle.tplib_analyze.specs.Made.{IsReportMade}
use Rattle.tplib_analyze.specs.Parts.{IsPointMade, IsPartsRefusal}
use Rattle.tplib_analyze.proofs.Passes.{passes_within}
use Rattle.tplib_analyze.proofs.Refusals.{parts_refused}
use Rattle.tplib_analyze.proofs.Reports.{graph, points_kept, length-parts, length-verdicts, report_made}
use Rattle.tplib_analyze.proofs.Family.{family_gives, family_refused, passes_bound, few_values, values_each, values_on, judged_as}
use Rattle.tplib_analyze.proofs.report.report.Goals as goal

pub family-requires-clause-few : goal.family-requires-clause-few
family-requires-clause-few g c =
    omega (arith, ap (λ (G : ControlGraph). G.vars) c.in_ok-graph.ensures.graph, c.vars.ensures.keeps.within.vars)

pub returns-in_err-family-clause-refused : goal.returns-in_err-family-clause-refused
returns-in_err-family-clause-refused g c =
    let R = g.S.Scalar.ring in
    let N = g.S.Scalar.numbering in
    let reversed = g.S.Scalar.REVERSED in
    let r = err_from_is_err_and c.from_residual-in_err-family.result c.from_residual-in_err-family.ensures.1 in
    rw (r.1, r.2) (family_refused R N reversed c.args.delay c.args.narrow c.args.program c.in_ok-graph.graph
    c.in_ok-graph.ensures.graph c.in_err-family.field-0.0 c.in_err-family.ensures.refused)

pub parts-requires : goal.parts-requires
parts-requires g c =
    let R = g.S.Scalar.ring in
    let N = g.S.Scalar.numbering in
    let reversed = g.S.Scalar.REVERSED in
    let p = c.args.program in
    let E : End (Value _) = end_of c.in_ok-family.family in
    record {
      few = few_values g.met.S.Scalar.ring_laws g.met.S.Numeric.numeric_laws p c.vars.ensures.keeps.within
          c.requires.suits
          c.args.delay c.args.narrow E (family_gives R N reversed c.args.delay c.args.narrow p c.in_ok-graph.graph
          c.in_ok-graph.ensures.graph E c.in_ok-family.ensures.gives) c.as_slice-values.result.now
          c.as_slice-values.ensures.value;
    }

pub returns-in_err-parts-clause-refused : goal.returns-in_err-parts-clause-refused
returns-in_err-parts-clause-refused g c =
    let R = g.S.Scalar.ring in
    let N = g.S.Scalar.numbering in
    let reversed = g.S.Scalar.REVERSED in
    let p = c.args.program in
    let E : End (Value _) = end_of c.in_ok-family.family in
    let r = err_from_is_err_and c.from_residual-in_err-parts.result c.from_residual-in_err-parts.ensures.1 in
    rw (r.1, r.2) (parts_refused R N reversed c.args.delay c.args.narrow p E
    (family_gives R N reversed c.args.delay c.args.narrow p c.in_ok-graph.graph c.in_ok-graph.ensures.graph E
    c.in_ok-family.ensures.gives) c.in_err-parts.field-0.0
    (subst (λ vs. IsPartsRefusal R vs c.in_err-parts.field-0.0) c.as_slice-values.ensures.value
    c.in_err-parts.ensures.refused))

pub verdicts-requires-clause-points : goal.verdicts-requires-clause-points
verdicts-requires-clause-points g c =
    let R = g.S.Scalar.ring in
    let N = g.S.Scalar.numbering in
    let reversed = g.S.Scalar.REVERSED in
    let p = c.args.program in
    let E : End (Value _) = end_of c.in_ok-family.family in
    let gives = family_gives R N reversed c.args.delay c.args.narrow p c.in_ok-graph.graph c.in_ok-graph.ensures.graph E
    c.in_ok-family.ensures.gives in
    values_each g.met.S.Scalar.ring_laws g.met.S.Numeric.numeric_laws p c.vars.ensures.keeps.within c.requires.suits
    c.args.delay c.args.narrow E gives c.as_slice-values.result.now c.as_slice-values.ensures.value

pub verdicts-requires-clause-vars : goal.verdicts-requires-clause-vars
verdicts-requires-clause-vars g c =
    let R = g.S.Scalar.ring in
    let N = g.S.Scalar.numbering in
    let reversed = g.S.Scalar.REVERSED in
    let p = c.args.program in
    let E : End (Value _) = end_of c.in_ok-family.family in
    let gives = family_gives R N reversed c.args.delay c.args.narrow p c.in_ok-graph.graph c.in_ok-graph.ensures.graph E
    c.in_ok-family.ensures.gives in
    values_on g.met.S.Scalar.ring_laws g.met.S.Numeric.numeric_laws p c.vars.ensures.keeps.within c.requires.suits
    c.args.delay c.args.narrow E gives c.as_slice-values.result.now c.as_slice-values.ensures.value

pub new-requires-clause-passes : goal.new-requires-clause-passes
new-requires-clause-passes g c =
    let R = g.S.Scalar.ring in
    let N = g.S.Scalar.numbering in
    let reversed = g.S.Scalar.REVERSED in
    let p = c.args.program in
    let E : End (Value _) = end_of c.in_ok-family.family in
    let G = graph g.met.S.Scalar.ring_laws g.met.S.Numeric.numeric_laws p c.vars.ensures.keeps.within
    c.requires.suits
    c.args.delay c.args.narrow E (family_gives R N reversed c.args.delay c.args.narrow p c.in_ok-graph.graph
    c.in_ok-graph.ensures.graph E c.in_ok-family.ensures.gives) in
    (passes_within c.in_ok-family.family.passes _ c.args.delay (passes_bound R N reversed c.args.delay c.args.narrow p
    c.in_ok-graph.graph c.in_ok-graph.ensures.graph c.in_ok-family.family.passes c.in_ok-family.ensures.passes) G.few
    c.requires.delay).1

pub new-requires-clause-graph : goal.new-requires-clause-graph
new-requires-clause-graph g c = c.in_ok-graph.ensures.graph

pub new-requires-clause-points : goal.new-requires-clause-points
new-requires-clause-points g c =
    let R = g.S.Scalar.ring in
    let N = g.S.Scalar.numbering in
    let reversed = g.S.Scalar.REVERSED in
    let p = c.args.program in
    let E : End (Value _) = end_of c.in_ok-family.family in
    let gives = family_gives R N reversed c.args.delay c.args.narrow p c.in_ok-graph.graph c.in_ok-graph.ensures.graph E
    c.in_ok-family.ensures.gives in
    let made = subst (λ vs. AllZip (IsPointMade R) vs c.in_ok-parts.parts.items) c.as_slice-values.ensures.value
    c.in_ok-parts.ensures.made in
    let judged = judged_as R N reversed p E.values c.as_slice-values.result.now c.as_slice-values.ensures.value
    c.in_ok-verdicts.verdicts.items c.in_ok-verdicts.ensures in
    length-parts g.met.S.Scalar.ring_laws g.met.S.Numeric.numeric_laws p c.vars.ensures.keeps.within
    c.requires.suits
    c.args.delay c.args.narrow E gives g.met.S.Scalar.number_laws c.in_ok-parts.parts.items
    c.in_ok-verdicts.verdicts.items
    made judged

pub new-requires-clause-parts : goal.new-requires-clause-parts
new-requires-clause-parts g c =
    let R = g.S.Scalar.ring in
    let N = g.S.Scalar.numbering in
    let reversed = g.S.Scalar.REVERSED in
    let p = c.args.program in
    let E : End (Value _) = end_of c.in_ok-family.family in
    let gives = family_gives R N reversed c.args.delay c.args.narrow p c.in_ok-graph.graph c.in_ok-graph.ensures.graph E
    c.in_ok-family.ensures.gives in
    let made = subst (λ vs. AllZip (IsPointMade R) vs c.in_ok-parts.parts.items) c.as_slice-values.ensures.value
    c.in_ok-parts.ensures.made in
    let judged = judged_as R N reversed p E.values c.as_slice-values.result.now c.as_slice-values.ensures.value
    c.in_ok-verdicts.verdicts.items c.in_ok-verdicts.ensures in
    points_kept g.met.S.Scalar.ring_laws g.met.S.Numeric.numeric_laws p c.vars.ensures.keeps.within
    c.requires.suits
    c.args.delay c.args.narrow E gives g.met.S.Scalar.number_laws c.in_ok-parts.parts.items
    c.in_ok-verdicts.verdicts.items
    made judged

pub new-requires-clause-asserts : goal.new-requires-clause-asserts
new-requires-clause-asserts g c =
    let R = g.S.Scalar.ring in
    let N = g.S.Scalar.numbering in
    let reversed = g.S.Scalar.REVERSED in
    let p = c.args.program in
    let E : End (Value _) = end_of c.in_ok-family.family in
    let gives = family_gives R N reversed c.args.delay c.args.narrow p c.in_ok-graph.graph c.in_ok-graph.ensures.graph E
    c.in_ok-family.ensures.gives in
    let made = subst (λ vs. AllZip (IsPointMade R) vs c.in_ok-parts.parts.items) c.as_slice-values.ensures.value
    c.in_ok-parts.ensures.made in
    let judged = judged_as R N reversed p E.values c.as_slice-values.result.now c.as_slice-values.ensures.value
    c.in_ok-verdicts.verdicts.items c.in_ok-verdicts.ensures in
    length-verdicts g.met.S.Scalar.ring_laws g.met.S.Numeric.numeric_laws p c.vars.ensures.keeps.within
    c.requires.suits
    c.args.delay c.args.narrow E gives g.met.S.Scalar.number_laws c.in_ok-parts.parts.items
    c.in_ok-verdicts.verdicts.items
    made judged

pub returns-clause-made : goal.returns-clause-made
returns-clause-made g c =
    let R = g.S.Scalar.ring in
    let N = g.S.Scalar.numbering in
    let reversed = g.S.Scalar.REVERSED in
    let p = c.args.program in
    let E : End (Value _) = end_of c.in_ok-family.family in
    let gives = family_gives R N reversed c.args.delay c.args.narrow p c.in_ok-graph.graph c.in_ok-graph.ensures.graph E
    c.in_ok-family.ensures.gives in
    let made = subst (λ vs. AllZip (IsPointMade R) vs c.in_ok-parts.parts.items) c.as_slice-values.ensures.value
    c.in_ok-parts.ensures.made in
    let judged = judged_as R N reversed p E.values c.as_slice-values.result.now c.as_slice-values.ensures.value
    c.in_ok-verdicts.verdicts.items c.in_ok-verdicts.ensures in
    subst (IsReportMade R N reversed c.args.delay c.args.narrow p) (sym c.new.ensures)
    (report_made g.met.S.Scalar.ring_laws g.met.S.Numeric.numeric_laws p c.vars.ensures.keeps.within
    c.requires.suits
    c.args.delay c.args.narrow E gives g.met.S.Scalar.number_laws c.in_ok-parts.parts.items
    c.in_ok-verdicts.verdicts.items
    made judged c.vars.ensures.keeps c.requires.delay c.requires.narrow c.in_ok-family.family.passes refl
    (passes_bound R N reversed c.args.delay c.args.narrow p c.in_ok-graph.graph c.in_ok-graph.ensures.graph
    c.in_ok-family.family.passes c.in_ok-family.ensures.passes))
