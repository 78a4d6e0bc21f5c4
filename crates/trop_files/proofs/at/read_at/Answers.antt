use Rattle.trop_files.specs.Views.{at_text_of}
use Rattle.trop_files.proofs.AtFileLaws.{at_file_reads, at_file_ends}
use Rattle.trop_reading.proofs.Outcomes.{start_is, spelled, answered, refused, not_answered}
use Rattle.trop_files.proofs.at.read_at.Goals as goal

pub returns-in-Ok-clause-found : goal.returns-in-Ok-clause-found
returns-in-Ok-clause-found c = spelled at_file_reads at_file_ends c.args.bytes.now _
    (start_is c.args.bytes.now c.new.result c.new-2.result c.new.ensures.tokens c.new-2.ensures.pieces)
    (at_text_of c.in-Ok.file) _ c.in-Ok.ensures.gives

pub returns-in-Ok-clause-only : goal.returns-in-Ok-clause-only
returns-in-Ok-clause-only c = answered at_file_reads at_file_ends c.args.bytes.now _
    (start_is c.args.bytes.now c.new.result c.new-2.result c.new.ensures.tokens c.new-2.ensures.pieces) at_text_of
    c.in-Ok.file _ c.in-Ok.ensures.gives

pub returns-in-Err-clause-only : goal.returns-in-Err-clause-only
returns-in-Err-clause-only c = not_answered at_file_reads at_file_ends c.args.bytes.now _
    (start_is c.args.bytes.now c.new.result c.new-2.result c.new.ensures.tokens c.new-2.ensures.pieces) at_text_of
    c.in-Err.e c.text_err.result c.in-Err.ensures.gives c.text_err.ensures

pub returns-in-Err-clause-fault : goal.returns-in-Err-clause-fault
returns-in-Err-clause-fault c = refused at_file_reads at_file_ends c.args.bytes.now _
    (start_is c.args.bytes.now c.new.result c.new-2.result c.new.ensures.tokens c.new-2.ensures.pieces) c.in-Err.e
    c.text_err.result c.in-Err.ensures.gives c.text_err.ensures
