use Rattle.std.proofs.Common.{ap, sym, ◌∙◌, arith}
use Rattle.std.proofs.lemmas.List.{length-map}
use Rattle.std.specs.String.{string_bytes}
use Rattle.trop_text.specs.Names.{place_of}
use Rattle.trop_text.proofs.Distinct.{position-held, list_any-held, found_at, not_contained}
use Rattle.trop_text.proofs.names.Names.position.Goals as goal

pub returns-in_err-place-clause-place : goal.returns-in_err-place-clause-place
returns-in_err-place-clause-place c =
    c.from_residual.ensures ∙ c.in_err-place.ensures.index
    ∙ position-held string_bytes c.args.name.now c.self.inside.texts.keys
    ∙ ap (place_of c.args.name.now) c.self.view_is

pub returns-in_err-place-clause-absent : goal.returns-in_err-place-clause-absent
returns-in_err-place-clause-absent c =
    rw c.from_residual.ensures
    (rw (← c.self.view_is)
    (not_contained c.args.name.now _ (sym (list_any-held string_bytes c.args.name.now c.self.inside.texts.keys)
    ∙ sym c.in_err-place.ensures.found)))

pub overflow_cast-result : goal.overflow_cast-result
overflow_cast-result c = omega (
  arith,
  c.in_ok-place.ensures.within,
  c.self.invariant.few,
  length-map c.self.inside.texts.keys string_bytes,
)

pub returns-clause-place : goal.returns-clause-place
returns-clause-place c =
    c.in_ok-place.ensures.index ∙ position-held string_bytes c.args.name.now c.self.inside.texts.keys
    ∙ ap (place_of c.args.name.now) c.self.view_is

pub returns-clause-found : goal.returns-clause-found
returns-clause-found c = (found_at c.args.name.now c.args.self.now c.in_ok-place.place (sym (returns-clause-place c))).1
