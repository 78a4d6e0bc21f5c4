use Rattle.std.proofs.Common.{◌≡◌, OnOk, subst}
use Rattle.prog_print.proofs.Inked.{whole_program}
use Rattle.prog_print.proofs.program.push_program.Goals as goal

pub returns : goal.returns
returns c = subst (λ t. OnOk c.push_block.result (c.push_block.new.text.items ≡ t))
    (whole_program c.args.program.now c.args.text.now.items _ _ _ _ _ _ c.in_ok-extend_from_slice.ensures.items
    c.in_ok-push_names.ensures c.in_ok-extend_from_slice-2.ensures.items c.names.ensures.value c.names-2.ensures.value
    c.body.ensures.value) c.push_block.ensures
