use Rattle.std.proofs.Common.{◌≡◌, take}
use Rattle.std.specs.Io.KnownBytes.{Appends}
use Rattle.tplib_reply.specs.StopTexts.{steps_text}
use Rattle.tplib_reply.proofs.stop_text.write_steps.Given as goal

abbrev pub invariant-loop-step : goal.invariant-loop-step
invariant-loop-step g l = record {
  bytes : Appends (g.E.Sink.bytes l.fn.err) (g.E.Sink.bytes l.err) (steps_text (take l.step-index l.steps));
  quiet : g.E.Sink.faults l.err ≡ g.E.Sink.faults l.fn.err;
}
