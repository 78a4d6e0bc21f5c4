use Rattle.trop_reading.proofs.Outcomes.{start_is}
use Rattle.trop_files.proofs.LineFiles.{unopened, unopened_fault}
use Rattle.trop_files.proofs.ineq_lines.open_ineqs.Goals as goal

pub returns-in-Err-clause-only : goal.returns-in-Err-clause-only
returns-in-Err-clause-only c = unopened c.args.bytes.now _
    (start_is c.args.bytes.now c.new.result c.new-2.result c.new.ensures.tokens c.new-2.ensures.pieces) c.in-Err.e
    c.text_err.result c.in-Err.ensures.gives c.text_err.ensures

pub returns-in-Err-clause-fault : goal.returns-in-Err-clause-fault
returns-in-Err-clause-fault c = unopened_fault c.args.bytes.now _
    (start_is c.args.bytes.now c.new.result c.new-2.result c.new.ensures.tokens c.new-2.ensures.pieces) c.in-Err.e
    c.text_err.result c.in-Err.ensures.gives c.text_err.ensures
