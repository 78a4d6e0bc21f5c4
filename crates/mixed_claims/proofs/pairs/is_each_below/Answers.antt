use Rattle.std.proofs.Common.{arith, sym, ◌∙◌, true≢false}
use Rattle.std.specs.Prelude.{All}
use Rattle.prog_tree.specs.declared.term.Term.{Term}
use Rattle.prog_tree.specs.Terms.{term_of}
use Rattle.cone_claims.proofs.TermSums.{holds_at}
use Rattle.cone_claims.proofs.Loops.{each_found}
use Rattle.mixed_claims.specs.Terms.{IsTermOf, IsPairOn}
use Rattle.mixed_claims.proofs.Searches.{not_each_at, each_more_at}
use Rattle.mixed_claims.proofs.pairs.is_each_below.Goals as goal

pub is_below_each-requires-clause-left_fits : goal.is_below_each-requires-clause-left_fits
is_below_each-requires-clause-left_fits g c = holds_at (IsTermOf c.args.vars) term_of c.args.left.now
    c.loop-term.term-index _ (omega arith) c.requires.left_fits

pub returns-then-not-is_below_each : goal.returns-then-not-is_below_each
returns-then-not-is_below_each g c =
    let P : Term → Term → Type 0 = IsPairOn g.S.Scalar.ring g.S.Scalar.numbering c.args.vars c.args.rows.now in
    not_each_at (λ l. All (P l) c.args.right.now) c.args.left.now c.loop-term.term-index _ (omega arith)
    (λ h. true≢false (sym (c.is_below_each.ensures.1 h) ∙ c.if-not-is_below_each.true))

pub loop-term-preserved : goal.loop-term-preserved
loop-term-preserved g c =
    let P : Term → Term → Type 0 = IsPairOn g.S.Scalar.ring g.S.Scalar.numbering c.args.vars c.args.rows.now in
    each_more_at (λ l. All (P l) c.args.right.now) c.args.left.now c.loop-term.term-index _
    (omega arith) c.loop-term.invariant
    (c.is_below_each.ensures.0 c.if-not-is_below_each.false)

pub returns : goal.returns
returns g c =
    let P : Term → Term → Type 0 = IsPairOn g.S.Scalar.ring g.S.Scalar.numbering c.args.vars c.args.rows.now in
    each_found (λ l. All (P l) c.args.right.now) c.args.left.now c.loop-term.term-index
    (omega arith) c.loop-term.invariant
