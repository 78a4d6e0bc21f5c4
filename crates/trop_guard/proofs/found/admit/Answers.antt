use Rattle.std.proofs.lemmas.List.Elements.{All-contains_itself}
use Rattle.trop_theory.proofs.Placing.{stay_placed, only_placed, here_placed, stay_same}
use Rattle.trop_guard.proofs.found.admit.Goals as goal

pub returns-in_err-insert-clause-stay : goal.returns-in_err-insert-clause-stay
returns-in_err-insert-clause-stay g c = stay_same _ _ c.in_err-insert.ensures.items

pub returns-in_ok-insert-clause-stay : goal.returns-in_ok-insert-clause-stay
returns-in_ok-insert-clause-stay g c = stay_placed _ _ _ _ c.in_ok-insert.ensures.items

pub returns-in_ok-insert-clause-only : goal.returns-in_ok-insert-clause-only
returns-in_ok-insert-clause-only g c = only_placed _ _ _ _ c.in_ok-insert.ensures.items

pub returns-in_ok-insert-clause-admitted : goal.returns-in_ok-insert-clause-admitted
returns-in_ok-insert-clause-admitted g c = here_placed _ _ _ _ c.in_ok-insert.ensures.items

pub returns-in_default-clause-stay : goal.returns-in_default-clause-stay
returns-in_default-clause-stay g c = All-contains_itself c.args.rows.now.items
