use Rattle.std.proofs.Common.{◌∙◌, ap, length}
use Rattle.trop_theory.specs.MaxPlus.{max_ring, max_numbering}
use Rattle.mixed_theory.specs.Mixed.{mixed, IsProvedBy}
use Rattle.dom_family.specs.Family.{value_in}
use Rattle.dom_family.proofs.Claims.{each_claims}
use Rattle.dom_verdicts.proofs.Judged.{judged_length}
use Rattle.short_print.specs.Blocks.{texts_of}
use Rattle.mixed_print.proofs.Parts.{none_stops, blocks_length, text_is}
use Rattle.mixed_print.proofs.print.print_mixed.Goals as goal

pub verdicts-requires-clause-suits : goal.verdicts-requires-clause-suits
verdicts-requires-clause-suits c = each_claims (λ claim. Unit {0}) (λ claim. tt) c.args.program.now.body

pub print_short-requires-clause-points : goal.print_short-requires-clause-points
print_short-requires-clause-points c =
    blocks_length c.args.program.now.names c.args.parts.now c.in_ok-blocks.blocks.items c.deref.result.now _
    c.in_ok-blocks.ensures.made c.deref.ensures.value c.requires.points

pub print_short-requires-clause-asserts : goal.print_short-requires-clause-asserts
print_short-requires-clause-asserts c =
    ap length c.deref-2.ensures.value
    ∙ judged_length (IsProvedBy max_ring max_numbering) (value_in (mixed max_ring max_numbering) c.args.program.now
    c.args.parts.now) c.args.program.now c.in_ok-verdicts.verdicts.items c.in_ok-verdicts.ensures

pub returns-clause-text : goal.returns-clause-text
returns-clause-text c =
    text_is c.args.delay c.args.narrow c.args.passes c.args.program.now c.args.parts.now c.in_ok-text.text.items
    c.in_ok-blocks.blocks.items c.deref.result.now c.in_ok-verdicts.verdicts.items c.deref-2.result.now
    c.deref.ensures.value c.deref-2.ensures.value c.in_ok-blocks.ensures.made c.in_ok-verdicts.ensures
    c.in_ok-text.ensures

pub returns-clause-unstopped : goal.returns-clause-unstopped
returns-clause-unstopped c =
    none_stops c.args.program.now.names c.args.parts.now (texts_of c.in_ok-blocks.blocks.items)
    c.in_ok-blocks.ensures.made
