use Rattle.report_reading.proofs.Wholes.{spelled, only_one, refused, not_spelled}
use Rattle.report_reading.proofs.read.read_report.Goals as goal

pub returns-in-Ok-clause-found : goal.returns-in-Ok-clause-found
returns-in-Ok-clause-found c = spelled c.args.bytes.now _ _ c.in-Ok.ensures

pub returns-in-Ok-clause-only : goal.returns-in-Ok-clause-only
returns-in-Ok-clause-only c r h = only_one c.args.bytes.now _ r _ c.in-Ok.ensures h

pub returns-in-Err-clause-only : goal.returns-in-Err-clause-only
returns-in-Err-clause-only c r h = not_spelled c.args.bytes.now _ _ r c.in-Err.ensures c.text_err.ensures h

pub returns-in-Err-clause-fault : goal.returns-in-Err-clause-fault
returns-in-Err-clause-fault c = refused c.args.bytes.now _ _ c.in-Err.ensures c.text_err.ensures
