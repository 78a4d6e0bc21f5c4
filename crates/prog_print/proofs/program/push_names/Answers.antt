use Rattle.std.proofs.Common.{◌++◌, ap, ◌∙◌}
use Rattle.prog_print.specs.Texts.{names_text}
use Rattle.prog_print.proofs.Loops.{two_more, drop_found}
use Rattle.prog_print.proofs.program.push_names.Goals as goal

pub loop-place-preserved : goal.loop-place-preserved
loop-place-preserved c =
    two_more _ _ _ _ _ _ _ _ c.loop-place.invariant
    (ap names_text (drop_found c.args.names.now c.loop-place.place _ c.name.ensures)) c.in_ok-push.ensures.items
    (c.in_ok-extend_from_slice.ensures.items ∙ ap (λ t. c.push.new.self.items ++ t) c.as_bytes.ensures.value)
