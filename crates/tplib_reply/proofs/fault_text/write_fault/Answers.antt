use Rattle.std.proofs.Common.{◌++◌, ◌∙◌, codes, decimal, subst}
use Rattle.trop_io.specs.Whole.{WritesAll}
use Rattle.tplib_reply.specs.FaultTexts.{fault_line, fault_column, fault_words}
use Rattle.tplib_reply.proofs.WrittenPieces.{piece_written, piece_cut}
use Rattle.tplib_reply.proofs.fault_text.write_fault.Goals as goal

pub returns-in_err-write_number-clause-bytes : goal.returns-in_err-write_number-clause-bytes
returns-in_err-write_number-clause-bytes g c =
    piece_cut _ _ (codes "line " ++ decimal (fault_line c.args.fault)) _ _ _ _ c.in_err-write_number.was
    c.from_residual.ensures.0
    (subst (λ n. WritesAll (g.E.Sink.bytes c.args.err.now) (g.E.Sink.bytes c.write_number.new.err)
    (codes "line " ++ decimal n) c.write_number.result)
    (c.from.ensures ∙ c.line.ensures) c.write_number.ensures.bytes)

pub returns-in_err-write_column-clause-bytes : goal.returns-in_err-write_column-clause-bytes
returns-in_err-write_column-clause-bytes g c =
    piece_written _ _ _ (codes "line " ++ decimal (fault_line c.args.fault)) _ _ _ _ c.in_ok-write_number.was
    (subst (λ n. WritesAll (g.E.Sink.bytes c.args.err.now) (g.E.Sink.bytes c.write_number.new.err)
    (codes "line " ++ decimal n) c.write_number.result)
    (c.from.ensures ∙ c.line.ensures) c.write_number.ensures.bytes)
    (piece_cut _ _ (fault_column c.args.fault) _ _ _ _ c.in_err-write_column.was
    c.from_residual-in_err-write_column.ensures.0 c.write_column.ensures.bytes)

pub returns-clause-bytes : goal.returns-clause-bytes
returns-clause-bytes g c =
    piece_written _ _ _ (codes "line " ++ decimal (fault_line c.args.fault)) _ _ _ _ c.in_ok-write_number.was
    (subst (λ n. WritesAll (g.E.Sink.bytes c.args.err.now) (g.E.Sink.bytes c.write_number.new.err)
    (codes "line " ++ decimal n) c.write_number.result)
    (c.from.ensures ∙ c.line.ensures) c.write_number.ensures.bytes)
    (piece_written _ _ _ (fault_column c.args.fault) (fault_words c.args.fault) _ _ _ c.in_ok-write_column.was
    c.write_column.ensures.bytes
    (subst (λ t. WritesAll (g.E.Sink.bytes c.write_column.new.err)
    (g.E.Sink.bytes c.write_all.new.sink) t c.write_all.result) c.words.ensures c.write_all.ensures.bytes))
