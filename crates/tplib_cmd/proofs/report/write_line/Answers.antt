use Rattle.std.proofs.Common.{codes, subst}
use Rattle.trop_io.specs.Whole.{WritesAll}
use Rattle.tplib_cmd.specs.Status.{status_words, status_details}
use Rattle.tplib_reply.proofs.WrittenPieces.{piece_written, piece_cut}
use Rattle.tplib_cmd.proofs.Writing.{line_said}
use Rattle.tplib_cmd.proofs.report.write_line.Goals as goal

pub returns-in_err-write_all-clause-bytes : goal.returns-in_err-write_all-clause-bytes
returns-in_err-write_all-clause-bytes g c =
    subst (λ t. WritesAll (g.E.Sink.bytes c.args.err.now)
    (g.E.Sink.bytes c.write_all.new.sink) t c.from_residual.result)
    (line_said c.args.status _ c.is_answered.ensures c.if-is_answered.false)
    (piece_cut _ _ (codes "tplib: ") _ _ _ _ c.in_err-write_all.was c.from_residual.ensures.0 c.write_all.ensures.bytes)

pub returns-in_err-write_all-2-clause-bytes : goal.returns-in_err-write_all-2-clause-bytes
returns-in_err-write_all-2-clause-bytes g c =
    let words = subst (λ t. WritesAll (g.E.Sink.bytes c.write_all.new.sink)
    (g.E.Sink.bytes c.write_all-2.new.sink) t c.write_all-2.result) c.words_of.ensures c.write_all-2.ensures.bytes
    in
    subst (λ t. WritesAll (g.E.Sink.bytes c.args.err.now)
    (g.E.Sink.bytes c.write_all-2.new.sink) t c.from_residual-in_err-write_all-2.result)
    (line_said c.args.status _ c.is_answered.ensures c.if-is_answered.false)
    (piece_written _ _ _ (codes "tplib: ") _ _ _ _ c.in_ok-write_all.was c.write_all.ensures.bytes
    (piece_cut _ _ (status_words c.args.status) _ _ _ _ c.in_err-write_all-2.was
    c.from_residual-in_err-write_all-2.ensures.0 words))

pub returns-in_err-write_details-clause-bytes : goal.returns-in_err-write_details-clause-bytes
returns-in_err-write_details-clause-bytes g c =
    let words = subst (λ t. WritesAll (g.E.Sink.bytes c.write_all.new.sink)
    (g.E.Sink.bytes c.write_all-2.new.sink) t c.write_all-2.result) c.words_of.ensures c.write_all-2.ensures.bytes
    in
    subst (λ t. WritesAll (g.E.Sink.bytes c.args.err.now)
    (g.E.Sink.bytes c.write_details.new.err) t c.from_residual-in_err-write_details.result)
    (line_said c.args.status _ c.is_answered.ensures c.if-is_answered.false)
    (piece_written _ _ _ (codes "tplib: ") _ _ _ _ c.in_ok-write_all.was c.write_all.ensures.bytes
    (piece_written _ _ _ (status_words c.args.status) _ _ _ _ c.in_ok-write_all-2.was words
    (piece_cut _ _ (status_details c.args.status) _ _ _ _ c.in_err-write_details.was
    c.from_residual-in_err-write_details.ensures.0 c.write_details.ensures.bytes)))

pub returns-clause-bytes : goal.returns-clause-bytes
returns-clause-bytes g c =
    let words = subst (λ t. WritesAll (g.E.Sink.bytes c.write_all.new.sink)
    (g.E.Sink.bytes c.write_all-2.new.sink) t c.write_all-2.result) c.words_of.ensures c.write_all-2.ensures.bytes
    in
    subst (λ t. WritesAll (g.E.Sink.bytes c.args.err.now)
    (g.E.Sink.bytes c.write_all-3.new.sink) t c.write_all-3.result)
    (line_said c.args.status _ c.is_answered.ensures c.if-is_answered.false)
    (piece_written _ _ _ (codes "tplib: ") _ _ _ _ c.in_ok-write_all.was c.write_all.ensures.bytes
    (piece_written _ _ _ (status_words c.args.status) _ _ _ _ c.in_ok-write_all-2.was words
    (piece_written _ _ _ (status_details c.args.status) _ _ _ _ c.in_ok-write_details.was c.write_details.ensures.bytes
    c.write_all-3.ensures.bytes)))
