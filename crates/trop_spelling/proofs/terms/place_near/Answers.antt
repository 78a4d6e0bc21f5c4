use Rattle.trop_spelling.proofs.NamePlaces.{found_name}
use Rattle.trop_spelling.proofs.terms.place_near.Goals as goal

pub returns-then-is_at-clause-name : goal.returns-then-is_at-clause-name
returns-then-is_at-clause-name c = (found_name c.args.names.now c.args.name.now c.is_at.ensures.names c.args.near
    (c.is_at.ensures.place c.if-is_at.true)).1
