use Rattle.std.proofs.Common.{◌≡◌, Some, sym, ap, ◌∙◌, arith}
use Rattle.std.proofs.lemmas.Slice.Eq.{bytes_eq-Decides}
use Rattle.trop_spelling.proofs.NamePlaces.{place_of-at}
use Rattle.trop_spelling.proofs.terms.is_at.Goals as goal

pub returns-then-place-len-clause-place : goal.returns-then-place-len-clause-place
returns-then-place-len-clause-place c = λ yes.
    let same : c.name.result.now ≡ c.args.name.now = sym c.as_bytes.ensures.value
    ∙ (bytes_eq-Decides c.as_bytes.result.now c.args.name.now).0 (sym c.eq.ensures ∙ yes) in
    place_of-at c.args.names.now c.args.name.now c.len.ensures.names c.args.place (omega arith)
    (c.name.ensures ∙ ap Some same)
