use mir.Syntax.{w64}
use mir.Val.{SFits, of_z, to_z}
use Rattle.std.proofs.Common.{◌≡◌, ◌∙◌, ℤ, List, [], ◌∷◌, ◌++◌, Ok, ap, subst, rules, arith}
use Rattle.std.proofs.lemmas.Int.{to_z-of_z}
use Rattle.std.proofs.lemmas.Result.{err_from_is_err_and}
use Rattle.prog_reading.specs.Left.{left}
use Rattle.prog_reading.specs.Gives.{Fails}
use Rattle.prog_reading.proofs.Follow.{fails_from}
use Rattle.prog_lang.specs.RowParts.{entries_at}
use Rattle.prog_lang.proofs.RowSteps.{rowing_first, rowing_next, rowing_done, rowing_fails}
use Rattle.prog_lang.proofs.rows.entries.Goals as goal

pub entries-init : goal.entries-init
entries-init c =
    let x : ℤ = to_z w64 (of_z w64 c.args.first) in
    let e : c.push.new.self ≡ x ∷ [] = c.in_ok-push.ensures.added
    ∙ ap (λ (z : List ℤ). z ++ x ∷ []) c.new-numbers.ensures in
    rowing_first c.args.rule _ _ _ e

pub returns-in_err-number : goal.returns-in_err-number
returns-in_err-number c =
    let p = err_from_is_err_and c.from_residual-in_err-number.result c.from_residual-in_err-number.ensures.1 in
    let same = to_z-of_z w64 c.args.first c.ranges.first in
    rw (p.1, p.2) (subst (λ (z : ℤ). Fails c.in_err-number.field-0.0 (entries_at c.args.rule z (left c.args.at))) same
    (fails_from _ _ _ c.in_err-number.ensures.gives
    (λ miss e. rowing_fails c.args.rule _ _ _ _ miss c.entries.invariant c.in-Some.ensures.passes e)))

pub entries-smaller : goal.entries-smaller
entries-smaller c = omega (arith, c.in-Some.ensures.shorter, c.in_ok-number.ensures.shorter)

pub entries-preserved : goal.entries-preserved
entries-preserved c =
    let f : SFits w64 c.in_ok-number.number = search rules in
    let k = to_z-of_z w64 c.in_ok-number.number f in
    let e = c.in_ok-push-2.ensures.added ∙ ap (λ (n : ℤ). c.entries.numbers ++ n ∷ []) k in
    rowing_next c.args.rule _ _ _ _ _ _ _ c.entries.invariant c.in-Some.ensures.passes c.in_ok-number.ensures.gives
    c.in_ok-number.ensures.shorter e

pub returns : goal.returns
returns c =
    let same = to_z-of_z w64 c.args.first c.ranges.first in
    subst (λ (z : ℤ). entries_at c.args.rule z (left c.args.at) ≡ Ok (c.entries.numbers, left c.entries.rest)) same
    (rowing_done c.args.rule _ _ _ c.entries.invariant c.in_default.ensures.passes)
