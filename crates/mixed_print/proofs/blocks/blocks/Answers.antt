use Rattle.std.proofs.Common.{arith}
use Rattle.std.proofs.lemmas.Result.{err_from_is_err_and}
use Rattle.dom_verdicts.proofs.Judged.{few_values}
use Rattle.short_print.specs.Blocks.{texts_of}
use Rattle.mixed_print.proofs.Turns.{print_stopped, blocks_more, blocks_all}
use Rattle.mixed_print.proofs.blocks.blocks.Goals as goal

pub overflow_cast-q : goal.overflow_cast-q
overflow_cast-q c =
    omega (arith, few_values c.args.program.now _ c.requires.points c.names-names.ensures.keeps.within)

pub returns-in_err-text-clause-refused : goal.returns-in_err-text-clause-refused
returns-in_err-text-clause-refused c =
    let p = err_from_is_err_and c.from_residual.result c.from_residual.ensures.1 in
    rw (p.1, p.2) (print_stopped c.args.program.now c.args.values.now (texts_of c.loop-q.blocks.items) c.loop-q.q
    (omega arith) c.loop-q.invariant c.index-values-q.result c.index-values-q.is c.in_err-text.field-0.0
    c.in_err-text.ensures.refused)

pub loop-q-preserved : goal.loop-q-preserved
loop-q-preserved c =
    blocks_more c.args.program.now.names c.names-names.result.now c.args.values.now c.loop-q.blocks.items _ c.loop-q.q
    c.index-values-q.result c.in_ok-text.text (omega arith) c.index-values-q.is c.names-names.ensures.value
    c.loop-q.invariant c.in_ok-push.ensures.items c.in_ok-text.ensures.made

pub returns-clause-made : goal.returns-clause-made
returns-clause-made c =
    blocks_all c.args.program.now.names c.args.values.now (texts_of c.loop-q.blocks.items) c.loop-q.q (omega arith)
    c.loop-q.invariant
