use Rattle.std.proofs.Common.{◌≡◌, MatchOption, true, false, Result, Ok, Err, MatchResult, List, ℕ, Bor, sym, ◌∙◌}
use Rattle.std.specs.Result.{result_ok}
use Rattle.std.specs.Str.{IsUtf8}
use Rattle.trop_text.specs.Name as spec
use Rattle.trop_text.proofs.Ascii.{name_is_text}
use Rattle.trop_text.proofs.name.as_name.Goals as goal

text_of : {E : Type 0} (Q : E → Type 0) (text : List ℕ) → IsUtf8 text → spec.is_name text ≡ true →
    (r : Result (Bor (List ℕ)) E)
    → MatchResult r (λ s. (s.now ≡ text) × IsUtf8 text) (λ e. (IsUtf8 text → ⊥) × Q e)
    → MatchOption (result_ok r) (spec.is_name text ≡ false) (λ name. (spec.is_name text ≡ true) × (name.now ≡ text))
text_of Q text utf8 named (Ok s) h = (named, h.0)
text_of Q text utf8 named (Err e) h = absurd (h.0 utf8)

pub returns-then-is_name : goal.returns-then-is_name
returns-then-is_name c =
    let named : spec.is_name c.args.text.now ≡ true = sym c.is_name.ensures ∙ c.if-is_name.true in
    rw c.ok.ensures.value (text_of _ c.args.text.now (name_is_text c.args.text.now named) named c.from_utf8.result
    c.from_utf8.ensures.cases)
