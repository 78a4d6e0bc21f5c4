use Rattle.trop_theory.proofs.StepLists.{step_list_is_guard}
use Rattle.trop_row.proofs.laws.step_generates_guard.Goals as goal

pub returns : goal.returns
returns g c = λ n p rows others inside wide list x. step_list_is_guard g.met.S.Scalar.ring_laws n p rows others inside
    wide list x
