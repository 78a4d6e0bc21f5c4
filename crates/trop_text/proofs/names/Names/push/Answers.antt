use Rattle.std.proofs.Common.{◌≡◌, ◌∷◌, ◌++◌, [], false, map, ap, refl, sym, ◌∙◌, subst, rules, Contains}
use Rattle.std.specs.List.{list_any}
use Rattle.std.specs.Str.{bytes_eq}
use Rattle.std.specs.String.{string_bytes}
use Rattle.trop_text.proofs.Distinct.{list_any-held, contains_when_any, not_contained, held-insert, AreNames-push}
use Rattle.trop_text.specs.Names.{AreNames}
use Rattle.trop_text.proofs.names.Names.push.Goals as goal

pub returns-then-contains-clause-added : goal.returns-then-contains-clause-added
returns-then-contains-clause-added c =
    let here : Contains c.args.self.now c.args.name.now =
    subst (λ texts. Contains texts c.args.name.now) c.self.view_is
    (contains_when_any c.args.name.now _ (sym (list_any-held string_bytes c.args.name.now c.self.inside.texts.keys)
    ∙ sym c.contains.ensures ∙ c.if-contains.true)) in
    (λ h. absurd cc, λ new. absurd (new here))

none_yet : (c : goal.In_ok-insert) → list_any (bytes_eq c.args.name.now) (map string_bytes c.self.inside.texts.keys) ≡
    false
none_yet c = sym (list_any-held string_bytes c.args.name.now c.self.inside.texts.keys) ∙ sym c.contains.ensures
    ∙ c.if-contains.false

is_new : (c : goal.In_ok-insert) → Contains c.args.self.now c.args.name.now → ⊥
is_new c = subst (λ texts. Contains texts c.args.name.now → ⊥) c.self.view_is
    (not_contained c.args.name.now _ (none_yet c))

pub returns-clause-added : goal.returns-clause-added
returns-clause-added c = (λ _. is_new c, λ _. refl)

pub returns-clause-names : goal.returns-clause-names
returns-clause-names c =
    let text = c.in_ok-text.ensures.ok in
    ap (map string_bytes) c.in_ok-insert.ensures.keys
    ∙ held-insert string_bytes c.self.inside.texts.keys c.in_ok-text.text
    (ap (λ t. list_any (bytes_eq t) (map string_bytes c.self.inside.texts.keys)) text ∙ none_yet c)
    ∙ ap (λ t. map string_bytes c.self.inside.texts.keys ++ t ∷ []) text
    ∙ ap (λ ts. ts ++ c.args.name.now ∷ []) c.self.view_is

pub invariant_of-self-2 : goal.invariant_of-self-2
invariant_of-self-2 c =
    subst AreNames (sym (returns-clause-names c))
    (AreNames-push c.args.self.now c.args.name.now (subst AreNames c.self.view_is c.self.invariant) (is_new c)
    (search rules) c.requires.room)
