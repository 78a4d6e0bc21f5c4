use Rattle.std.proofs.Common.{[], sym, refl, inr, rules}
use Rattle.std.proofs.lemmas.List.{append-nil}
use Rattle.tplib_tangent.proofs.solution_text.push_if_tight.Goals as goal

pub returns-in-None : goal.returns-in-None
returns-in-None g c = ([], sym (append-nil c.args.text.now.items), inr (c.in-None.ensures.edge, refl))
