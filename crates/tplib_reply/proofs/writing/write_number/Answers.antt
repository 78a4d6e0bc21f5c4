use Rattle.std.proofs.Common.{subst, ◌∙◌, decimal}
use Rattle.trop_io.specs.Whole.{WritesAll}
use Rattle.tplib_reply.proofs.WrittenPieces.{piece_written}
use Rattle.tplib_reply.proofs.writing.write_number.Goals as goal

pub returns-clause-bytes : goal.returns-clause-bytes
returns-clause-bytes g c =
    piece_written _ _ _ c.args.words.now (decimal c.args.n) _ _ _ c.in_ok-write_all.was c.write_all.ensures.bytes
    (subst (λ t. WritesAll (g.E.Sink.bytes c.write_all.new.sink)
    (g.E.Sink.bytes c.write_all-2.new.sink) t c.write_all-2.result)
    (c.as_bytes.ensures.value ∙ c.format.ensures.text) c.write_all-2.ensures.bytes)
