use Rattle.std.proofs.Common.{[], ◌∷◌, subst}
use Rattle.trop_io.specs.Whole.{WritesAll}
use Rattle.tplib_reply.specs.declared.stop_text.Label.TheVariants.{Pass, Point, Lean}
use Rattle.tplib_reply.specs.declared.stop_text.Step.{Step}
use Rattle.tplib_reply.specs.StopTexts.{steps_text, part_text}
use Rattle.tplib_reply.proofs.WrittenPieces.{piece_written, piece_cut}
use Rattle.tplib_reply.proofs.stop_text.write_stop.Goals as goal

pub returns-in-Rows-clause-bytes : goal.returns-in-Rows-clause-bytes
returns-in-Rows-clause-bytes g c =
    rw c.in-Rows.is (subst (λ s. WritesAll (g.E.Sink.bytes c.args.err.now) (g.E.Sink.bytes c.write_steps.new.err)
    (steps_text (s ∷ [])) c.write_steps.result) c.numbered.ensures c.write_steps.ensures.bytes)

pub returns-in-Lean-clause-bytes : goal.returns-in-Lean-clause-bytes
returns-in-Lean-clause-bytes g c =
    let wrote = WritesAll (g.E.Sink.bytes c.args.err.now) (g.E.Sink.bytes c.write_steps-in-Lean.new.err) in
    rw c.in-Lean.is (subst (λ s. wrote (steps_text (record { label = Lean; number = c.in-Lean.turn } ∷ s ∷ []))
    c.write_steps-in-Lean.result) c.numbered-in-Lean-2.ensures
    (subst (λ s. wrote (steps_text (s ∷ c.numbered-in-Lean-2.result ∷ [])) c.write_steps-in-Lean.result)
    c.numbered-in-Lean.ensures c.write_steps-in-Lean.ensures.bytes))

pub returns-in_err-write_steps-in-At-clause-bytes : goal.returns-in_err-write_steps-in-At-clause-bytes
returns-in_err-write_steps-in-At-clause-bytes g c =
    let pass : Step = record { label = Pass; number = c.in-At.place.pass } in
    let point : Step = record { label = Point; number = c.in-At.place.point } in
    let wrote = WritesAll (g.E.Sink.bytes c.args.err.now) (g.E.Sink.bytes c.write_steps-in-At.new.err) in
    rw c.in-At.is (piece_cut _ _ (steps_text (pass ∷ point ∷ []))
    (part_text c.in-At.place.part) _ _ _ c.in_err-write_steps-in-At.was c.from_residual.ensures.0
    (subst (λ s. wrote (steps_text (pass ∷ s ∷ [])) c.write_steps-in-At.result) c.numbered-in-At.ensures
    c.write_steps-in-At.ensures.bytes))

pub returns-in_ok-write_steps-in-At-clause-bytes : goal.returns-in_ok-write_steps-in-At-clause-bytes
returns-in_ok-write_steps-in-At-clause-bytes g c =
    let pass : Step = record { label = Pass; number = c.in-At.place.pass } in
    let point : Step = record { label = Point; number = c.in-At.place.point } in
    let wrote = WritesAll (g.E.Sink.bytes c.args.err.now) (g.E.Sink.bytes c.write_steps-in-At.new.err) in
    rw c.in-At.is (piece_written _ _ _ (steps_text (pass ∷ point ∷ []))
    (part_text c.in-At.place.part) _ _ _ c.in_ok-write_steps-in-At.was
    (subst (λ s. wrote (steps_text (pass ∷ s ∷ [])) c.write_steps-in-At.result) c.numbered-in-At.ensures
    c.write_steps-in-At.ensures.bytes) c.write_part.ensures.bytes)
