use Rattle.std.proofs.Common.{arith, sym, ◌∙◌, true≢false}
use Rattle.prog_tree.specs.declared.term.Term.{Term}
use Rattle.prog_tree.specs.Terms.{term_of}
use Rattle.cone_claims.proofs.TermSums.{holds_at}
use Rattle.cone_claims.proofs.Loops.{each_found}
use Rattle.mixed_claims.specs.Terms.{IsTermOf, IsPairOn}
use Rattle.mixed_claims.proofs.Searches.{not_each_at, each_more_at}
use Rattle.mixed_claims.proofs.pairs.is_below_each.Goals as goal

pub is_pair_below-requires-clause-right_fits : goal.is_pair_below-requires-clause-right_fits
is_pair_below-requires-clause-right_fits g c = holds_at (IsTermOf c.args.vars) term_of c.args.right.now
    c.loop-term.term-index _ (omega arith) c.requires.right_fits

pub returns-then-not-is_pair_below : goal.returns-then-not-is_pair_below
returns-then-not-is_pair_below g c =
    let P : Term → Term → Type 0 = IsPairOn g.S.Scalar.ring g.S.Scalar.numbering c.args.vars c.args.rows.now in
    not_each_at (P c.args.left.now) c.args.right.now c.loop-term.term-index _ (omega arith)
    (λ h. true≢false (sym (c.is_pair_below.ensures.1 h) ∙ c.if-not-is_pair_below.true))

pub loop-term-preserved : goal.loop-term-preserved
loop-term-preserved g c =
    let P : Term → Term → Type 0 = IsPairOn g.S.Scalar.ring g.S.Scalar.numbering c.args.vars c.args.rows.now in
    each_more_at (P c.args.left.now) c.args.right.now c.loop-term.term-index _ (omega arith) c.loop-term.invariant
    (c.is_pair_below.ensures.0 c.if-not-is_pair_below.false)

pub returns : goal.returns
returns g c =
    let P : Term → Term → Type 0 = IsPairOn g.S.Scalar.ring g.S.Scalar.numbering c.args.vars c.args.rows.now in
    each_found (P c.args.left.now) c.args.right.now c.loop-term.term-index (omega arith) c.loop-term.invariant
