use Rattle.tplib_laws.proofs.Runs.{equal_cones}
use Rattle.tplib_laws.proofs.equal_bytes.equal_bytes_are_equal_cones.Goals as goal

pub returns : goal.returns
returns c = λ run other first second one. equal_cones first.answered.said second.answered.said first.text second.text
    one first.answered.spelled second.answered.spelled first.answered.answer second.answered.answer
