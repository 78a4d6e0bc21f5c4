use Rattle.std.proofs.Common.{length, ◌≡◌, ◌+◌}
use Rattle.std.proofs.lemmas.List.Elements.{All-push}
use Rattle.trop_files.proofs.generators.next_generator.Goals as goal

pub returns-clause-wide : goal.returns-clause-wide
returns-clause-wide g c = rw c.in_ok-push.ensures.items
    (All-push (λ row. length row ≡ c.args.vars + 1) _ _ c.requires.wide c.in_ok-row.ensures.wide)
