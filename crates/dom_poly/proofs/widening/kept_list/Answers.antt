use Rattle.std.proofs.Common.{suc, inl, sym, ap, ◌∙◌, arith}
use Rattle.trop_theory.specs.Vectors.{rows_size}
use Rattle.trop_theory.specs.Inequalities.{system_size}
use Rattle.cone_domain.specs.Values.{Value}
use Rattle.dom_poly.specs.Views.{list_of}
use Rattle.dom_poly.proofs.Kept.{kept_of, external_small, kept_unstopped, external_base, external_unstopped, external_refused}
use Rattle.dom_poly.proofs.Sound.{described, list_in, value_width}
use Rattle.dom_poly.proofs.widening.kept_list.Goals as goal

pub valid_part-requires-clause-width : goal.valid_part-requires-clause-width
valid_part-requires-clause-width g c =
    (list_in g.S.Scalar.ring c.value.inside.cone c.value.inside.kept c.in-Some.list c.in-Some.is c.value.invariant).0
    ∙ (value_width c.value.inside.cone c.value.inside.kept c.args.value.now c.value.view_is c.value.invariant.at_least)
    ∙ ap suc c.requires ∙ sym (c.rows-rows.ensures.width ∙ c.poly.ensures.width)

pub valid_part-requires-clause-small : goal.valid_part-requires-clause-small
valid_part-requires-clause-small g c =
    omega (arith, ap (rows_size g.S.Scalar.ring) (c.rows-rows.ensures.rows ∙ c.poly.ensures.rows), c.poly.ensures.small)

pub valid_part-requires-clause-numbers : goal.valid_part-requires-clause-numbers
valid_part-requires-clause-numbers g c =
    (list_in g.S.Scalar.ring c.value.inside.cone c.value.inside.kept c.in-Some.list c.in-Some.is c.value.invariant).1

pub external-requires : goal.external-requires
external-requires g c = record { size = omega (arith, c.value.invariant.small) }

pub valid_part-requires-in-Ok-clause-width : goal.valid_part-requires-in-Ok-clause-width
valid_part-requires-in-Ok-clause-width g c =
    c.in-Ok.ensures.width
    ∙ (value_width c.value.inside.cone c.value.inside.kept c.args.value.now c.value.view_is c.value.invariant.at_least)
    ∙ ap suc c.requires ∙ sym (c.rows-rows.ensures.width ∙ c.poly.ensures.width)

pub valid_part-requires-in-Ok-clause-small : goal.valid_part-requires-in-Ok-clause-small
valid_part-requires-in-Ok-clause-small g c =
    omega (arith, ap (rows_size g.S.Scalar.ring) (c.rows-rows.ensures.rows ∙ c.poly.ensures.rows), c.poly.ensures.small)

pub valid_part-requires-in-Ok-clause-numbers : goal.valid_part-requires-in-Ok-clause-numbers
valid_part-requires-in-Ok-clause-numbers g c =
    external_small (system_size g.S.Scalar.ring c.in-Ok.list.inequalities)
    (rows_size g.S.Scalar.ring c.value.inside.cone.rows) c.value.inside.cone.n c.value.invariant.small
    c.value.invariant.at_most c.in-Ok.ensures.small

pub returns-in_ok-valid_part-in-Some : goal.returns-in_ok-valid_part-in-Some
returns-in_ok-valid_part-in-Some g c =
    let R = g.S.Scalar.ring in
    let v = c.args.value.now in
    let base = c.in-Some.list in
    let held = list_in R c.value.inside.cone c.value.inside.kept c.in-Some.list c.in-Some.is c.value.invariant in
    let width = value_width c.value.inside.cone c.value.inside.kept v c.value.view_is c.value.invariant.at_least in
    let kept = sym (ap (λ (w : Value _). w.kept) c.value.view_is) ∙ ap list_of c.in-Some.is in
    let d = described R c.value.inside.cone c.value.inside.kept base c.in-Some.is c.value.invariant in
    kept_of g.met.S.Scalar.ring_laws v c.args.next.now c.rows-rows.result.now.n c.rows-rows.result.now.rows base
    c.in_ok-valid_part-in-Some.field-0 (c.rows-rows.ensures.width ∙ c.poly.ensures.width)
    (c.rows-rows.ensures.rows ∙ c.poly.ensures.rows) (inl kept)
    (held.0 ∙ width)
    d.few held.1 (kept_unstopped R v base.inequalities kept) c.in_ok-valid_part-in-Some.ensures.width
    c.in_ok-valid_part-in-Some.ensures.chosen

pub returns-in_ok-valid_part-in-Ok : goal.returns-in_ok-valid_part-in-Ok
returns-in_ok-valid_part-in-Ok g c =
    let R = g.S.Scalar.ring in
    let v = c.args.value.now in
    let cone = c.value.inside.cone in
    let base = c.in-Ok.list in
    let width = value_width cone c.value.inside.kept v c.value.view_is c.value.invariant.at_least in
    let same = ap (λ (w : Value _). w.rows) c.value.view_is in
    let none = sym (ap (λ (w : Value _). w.kept) c.value.view_is) ∙ ap list_of c.in-None.is in
    kept_of g.met.S.Scalar.ring_laws v c.args.next.now c.rows-rows.result.now.n c.rows-rows.result.now.rows base
    c.in_ok-valid_part-in-Ok.field-0 (c.rows-rows.ensures.width ∙ c.poly.ensures.width)
    (c.rows-rows.ensures.rows ∙ c.poly.ensures.rows)
    (external_base R v cone width same base.inequalities none c.in-Ok.ensures.external)
    (c.in-Ok.ensures.width ∙ width) c.in-Ok.ensures.within
    (external_small (system_size R base.inequalities) (rows_size R cone.rows) cone.n c.value.invariant.small
    c.value.invariant.at_most c.in-Ok.ensures.small)
    (external_unstopped R v cone width same c.in-Ok.ensures.unstopped) c.in_ok-valid_part-in-Ok.ensures.width
    c.in_ok-valid_part-in-Ok.ensures.chosen

pub returns-in-Err : goal.returns-in-Err
returns-in-Err g c =
    external_refused g.S.Scalar.ring c.args.value.now c.value.inside.cone
    (value_width c.value.inside.cone c.value.inside.kept c.args.value.now c.value.view_is c.value.invariant.at_least)
    (ap (λ (w : Value _). w.rows) c.value.view_is) c.args.next.now c.in-Err.err
    (sym (ap (λ (w : Value _). w.kept) c.value.view_is) ∙ ap list_of c.in-None.is) c.in-Err.ensures.refused
