use Rattle.std.proofs.Common.{◌∙◌, length, map, refl, ap}
use Rattle.std.proofs.lemmas.Result.{IfOk-weaker}
use Rattle.zone_lists.specs.Zones.{zone_of, zone_lists}
use Rattle.dom_zone.specs.Claims.{judges, is_proven}
use Rattle.dom_family.specs.Family.{value_in}
use Rattle.dom_family.proofs.Claims.{each_claims}
use Rattle.dom_verdicts.proofs.Judged.{judged_length}
use Rattle.short_print.specs.Blocks.{texts_of}
use Rattle.zone_print.specs.Reports.{zone_block}
use Rattle.zone_print.proofs.Judged.{reported}
use Rattle.zone_print.proofs.report.print_zone.Goals as goal

pub verdicts-requires-clause-suits : goal.verdicts-requires-clause-suits
verdicts-requires-clause-suits c = each_claims judges (λ claim. tt) c.args.program.now.body

pub print_short-requires-clause-asserts : goal.print_short-requires-clause-asserts
print_short-requires-clause-asserts c = ap length c.deref-2.ensures.value
    ∙ judged_length is_proven (value_in zone_lists c.args.program.now c.args.parts.now) c.args.program.now
    c.in_ok-verdicts.verdicts.items c.in_ok-verdicts.ensures

pub returns : goal.returns
returns c = IfOk-weaker c.print_short.result _ _
    (λ text h. reported c.args.program.now c.args.delay c.args.narrow c.args.passes c.args.parts.now
    c.in_ok-verdicts.verdicts.items c.deref-2.result.now _ (texts_of c.deref.result.now) text.items
    c.in_ok-verdicts.ensures c.deref-2.ensures.value refl (ap texts_of c.deref.ensures.value ∙ c.in_ok-blocks.ensures
    ∙ ap (λ names. map (zone_block names) (map zone_of c.args.parts.now)) c.names.ensures.value) h)
    c.print_short.ensures
