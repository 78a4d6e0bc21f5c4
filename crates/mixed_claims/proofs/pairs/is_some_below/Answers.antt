use Rattle.std.proofs.Common.{arith, sym, ◌∙◌, true≢false}
use Rattle.std.specs.Prelude.{Any}
use Rattle.prog_tree.specs.declared.term.Term.{Term}
use Rattle.prog_tree.specs.Terms.{term_of}
use Rattle.cone_claims.proofs.TermSums.{holds_at}
use Rattle.cone_claims.proofs.Loops.{none_found}
use Rattle.mixed_claims.specs.Terms.{IsTermOf, IsPairOn}
use Rattle.mixed_claims.proofs.Searches.{each_more_at, found_at}
use Rattle.mixed_claims.proofs.pairs.is_some_below.Goals as goal

pub is_below_some-requires-clause-left_fits : goal.is_below_some-requires-clause-left_fits
is_below_some-requires-clause-left_fits g c = holds_at (IsTermOf c.args.vars) term_of c.args.left.now
    c.loop-term.term-index _ (omega arith) c.requires.left_fits

pub loop-term-preserved : goal.loop-term-preserved
loop-term-preserved g c =
    let P : Term → Term → Type 0 = IsPairOn g.S.Scalar.ring g.S.Scalar.numbering c.args.vars c.args.rows.now in
    each_more_at (λ x. Any (P x) c.args.right.now → ⊥) c.args.left.now c.loop-term.term-index _ (omega arith)
    c.loop-term.invariant (λ p. true≢false (sym (c.is_below_some.ensures.1 p) ∙ c.if-is_below_some.false))

pub returns-then-is_below_some : goal.returns-then-is_below_some
returns-then-is_below_some g c =
    let P : Term → Term → Type 0 = IsPairOn g.S.Scalar.ring g.S.Scalar.numbering c.args.vars c.args.rows.now in
    found_at (λ l. Any (P l) c.args.right.now) c.args.left.now c.loop-term.term-index _ (omega arith)
    (c.is_below_some.ensures.0 c.if-is_below_some.true)

pub returns : goal.returns
returns g c =
    let P : Term → Term → Type 0 = IsPairOn g.S.Scalar.ring g.S.Scalar.numbering c.args.vars c.args.rows.now in
    none_found (λ l. Any (P l) c.args.right.now) c.args.left.now c.loop-term.term-index
    (omega arith) c.loop-term.invariant
