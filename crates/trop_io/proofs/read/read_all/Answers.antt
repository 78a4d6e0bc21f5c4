use Rattle.std.proofs.Common.{take, ◌++◌, length-append, length-take, arith}
use Rattle.trop_io.proofs.Known.{Consumes-more}
use Rattle.trop_io.proofs.read.read_all.Goals as goal

pub returns-then-count-room-clause-bytes : goal.returns-then-count-room-clause-bytes
returns-then-count-room-clause-bytes g c =
    let all = c.loop-count.all.items in
    let piece = take c.in-Ok.count c.read.new.buf in
    let kept = simp length-take at c.read.auto.buf in (
      all ++ piece,
      Consumes-more _ _ _ all piece c.loop-count.invariant.bytes c.in-Ok.ensures.bytes.0,
      simp (length-append, length-take) (omega (arith, c.loop-count.all.ok.0, c.in-Ok.ensures.bound, kept)),
    )

pub returns-then-is_err-clause-bytes : goal.returns-then-is_err-clause-bytes
returns-then-is_err-clause-bytes g c =
    let all = c.loop-count.all.items in
    let piece = take c.in-Ok.count c.read.new.buf in
    let kept = simp length-take at c.read.auto.buf in (
      all ++ piece,
      Consumes-more _ _ _ all piece c.loop-count.invariant.bytes c.in-Ok.ensures.bytes.0,
      simp (length-append, length-take) (omega (arith, c.loop-count.all.ok.0, c.in-Ok.ensures.bound, kept)),
    )
