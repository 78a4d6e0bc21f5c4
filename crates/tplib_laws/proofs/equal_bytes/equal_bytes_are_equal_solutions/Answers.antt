use Rattle.tplib_laws.proofs.Runs.{equal_solutions}
use Rattle.tplib_laws.proofs.equal_bytes.equal_bytes_are_equal_solutions.Goals as goal

pub returns : goal.returns
returns c = λ run other first second one. equal_solutions first.answered.said second.answered.said first.text
    second.text one first.answered.spelled second.answered.spelled first.answered.answer second.answered.answer
