use Rattle.std.proofs.Common.{arith, subst, sym, ◌∙◌, true≢false}
use Rattle.std.specs.Prelude.{All}
use Rattle.std.proofs.lemmas.List.{take_all}
use Rattle.trop_theory.specs.Combinations.{IsCombination}
use Rattle.trop_row.proofs.Sizes.{rows_size-read}
use Rattle.trop_poly.proofs.Compared.{inside_more, first_outside_at}
use Rattle.trop_poly.proofs.comparing.first_of.Goals as goal

pub member-requires-clause-target_size : goal.member-requires-clause-target_size
member-requires-clause-target_size g c =
    let R = g.S.Scalar.ring in
    omega (
      arith,
      c.requires.size,
      rows_size-read R c.args.rows.now c.loop-k.k c.index-rows-k.result c.index-rows-k.is (omega arith),
    )

pub returns-then-not-member-clause-some : goal.returns-then-not-member-clause-some
returns-then-not-member-clause-some g c =
    first_outside_at (IsCombination g.S.Scalar.ring c.args.gens.now.n c.args.gens.now.rows) c.args.rows.now c.loop-k.k
    c.index-rows-k.result (omega arith) c.index-rows-k.is c.loop-k.invariant
    (λ t. true≢false (sym (c.member.ensures.1 t) ∙ c.if-not-member.true))

pub loop-k-preserved : goal.loop-k-preserved
loop-k-preserved g c =
    inside_more (IsCombination g.S.Scalar.ring c.args.gens.now.n c.args.gens.now.rows) c.args.rows.now c.loop-k.k
    c.index-rows-k.result (omega arith) c.index-rows-k.is c.loop-k.invariant
    (c.member.ensures.0 c.if-not-member.false)

pub returns-clause-none : goal.returns-clause-none
returns-clause-none g c = subst (All (IsCombination g.S.Scalar.ring c.args.gens.now.n c.args.gens.now.rows))
    (take_all c.loop-k.k c.args.rows.now (omega arith)) c.loop-k.invariant
