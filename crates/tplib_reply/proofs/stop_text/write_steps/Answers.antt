use Rattle.std.proofs.Common.{◌∙◌, arith}
use Rattle.tplib_reply.proofs.Steps.{step_written, step_cut}
use Rattle.tplib_reply.proofs.stop_text.write_steps.Goals as goal

pub returns-in_err-write_number-clause-bytes : goal.returns-in_err-write_number-clause-bytes
returns-in_err-write_number-clause-bytes g c =
    step_cut c.args.steps.now c.loop-step.step-index _ (omega arith) _ _ _ c.words_of.result.now c.words_of.ensures
    c.loop-step.invariant.bytes _ _ _ c.in_err-write_number.was c.from_residual.ensures.0
    c.write_number.ensures.bytes

pub loop-step-preserved : goal.loop-step-preserved
loop-step-preserved g c = record {
  bytes = step_written c.args.steps.now c.loop-step.step-index _
      (omega arith) _ _ _ c.words_of.result.now c.words_of.ensures c.loop-step.invariant.bytes
      c.in_ok-write_number.ensures.bytes;
  quiet = c.in_ok-write_number.ensures.cause.quiet ∙ c.loop-step.invariant.quiet;
}
