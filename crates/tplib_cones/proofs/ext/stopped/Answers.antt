use Rattle.std.proofs.Common.{◌+◌, length, ◌∙◌, sym, subst}
use Rattle.trop_reading.specs.Outcome.{IsRefusal}
use Rattle.trop_cones.specs.RowStops.{IsRowsStop}
use Rattle.trop_spelling.proofs.EachKind.{one_of}
use Rattle.trop_files.specs.InequalityFiles.{SpellsInequalities, inequality_file_at}
use Rattle.tplib_reply.proofs.Refused.{IsRefused-text}
use Rattle.tplib_cones.specs.Ext.{ext_meaning}
use Rattle.tplib_cones.proofs.LineByLine.{found_at, fault_at, line_given, stopped_at, stop_more, given_is, names_stay, bytes_stay}
use Rattle.tplib_cones.proofs.ext.stopped.Goals as goal

pub returns-in-Ok-None : goal.returns-in-Ok-None
returns-in-Ok-None g c =
    let inv = c.rest.invariant in
    stopped_at (one_of g.S.Spelling.three g.S.Spelling.KIND g.S.Scalar.ring g.S.Scalar.numbering
    g.met.S.Spelling.three_laws) c.args.lines.now.bytes c.args.lines.now.names c.rest.lines.given
    (found_at g.S.Spelling.three.over c.rest.lines c.args.lines.now.bytes c.args.lines.now.names c.in-Ok-None.field-0
    inv.bytes inv.names c.in-Ok-None.field-0-is c.in-Ok-None.ensures.found) c.args.count inv.stop

pub returns-in-Err : goal.returns-in-Err
returns-in-Err g c =
    IsRefused-text ext_meaning c.args.lines.now.bytes c.in-Err.e c.from.result c.from.ensures
    (λ f same. fault_at c.rest.lines.bytes c.args.lines.now.bytes c.in-Err.e f c.rest.invariant.bytes same
    c.in-Err.ensures.fault)

pub rest-preserved-in-Ok-Some : goal.rest-preserved-in-Ok-Some
rest-preserved-in-Ok-Some g c =
    let inv = c.rest.invariant in
    let h = line_given g.S.Spelling.KIND g.S.Scalar.ring g.S.Scalar.numbering c.rest.lines c.next.new.self
    c.in-Ok-Some.field-0 c.in-Ok-Some.field-0-0 c.in-Ok-Some.field-0-is c.in-Ok-Some.ensures.given in
    record {
      bytes = bytes_stay h ∙ inv.bytes;
      names = names_stay h ∙ inv.names;
      stop = subst (λ xs. IsRowsStop g.S.Scalar.ring (length c.args.lines.now.names + 1) xs c.args.count)
          (sym (given_is h)) (stop_more g.S.Scalar.ring (length c.args.lines.now.names + 1) c.rest.lines.given
          c.in-Ok-Some.field-0-0 c.args.count inv.stop);
    }
