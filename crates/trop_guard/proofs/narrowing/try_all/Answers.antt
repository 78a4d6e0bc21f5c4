use Rattle.std.proofs.Common.{arith, ap, get_or, length, map, sym, ◌∙◌, subst}
use Rattle.std.specs.Prelude.{All}
use Rattle.std.proofs.lemmas.List.{take_all}
use Rattle.trop_theory.specs.Vectors.{dot}
use Rattle.trop_guard.specs.Found.{HasMixed}
use Rattle.trop_guard.proofs.Products.{sum_read}
use Rattle.trop_guard.proofs.Pairs.{kept_more, contains_read}
use Rattle.trop_guard.proofs.narrowing.try_all.Goals as goal

pub loop-k-init : goal.loop-k-init
loop-k-init g c = record { found = c.requires.found; mixed = λ k d l. absurd (omega arith); within = c.requires.within }

pub try_kept-requires : goal.try_kept-requires
try_kept-requires g c = record {
  parts = c.requires.parts;
  v = contains_read c.args.parts.now.kept.rows c.as_slice-rows.result.now c.loop-k.k c.index-rows-k.result
      c.as_slice-rows.ensures.rows (omega arith) c.index-rows-k.is;
  right = sum_read (dot g.S.Scalar.ring c.args.ineq.now.right) c.args.parts.now.kept.rows c.as_slice-rights.result.now
      c.loop-k.k c.index-rows-k.result c.index-rights-k.result
      (c.as_slice-rights.ensures.value ∙ c.requires.parts.rights_are)
      (omega (arith, ap length c.as_slice-rows.ensures.rows))
      (c.index-rows-k.is ∙ ap (λ r. get_or r c.loop-k.k c.index-rows-k.result) c.as_slice-rows.ensures.rows)
      c.index-rights-k.is;
  found = c.loop-k.invariant.found;
  within = c.loop-k.invariant.within;
}

pub loop-k-preserved : goal.loop-k-preserved
loop-k-preserved g c = record {
  found = c.in_ok-try_kept.ensures.found;
  mixed = kept_more g.S.Scalar.ring c.args.parts.now.kept.n c.args.ineq.now c.args.parts.now.kept.rows
      c.args.parts.now.dropped.rows c.loop-k.found.items c.try_kept.new.found.items c.loop-k.k c.index-rows-k.result
      (omega (arith, ap length c.as_slice-rows.ensures.rows))
      (c.index-rows-k.is ∙ ap (λ r. get_or r c.loop-k.k c.index-rows-k.result) c.as_slice-rows.ensures.rows)
      c.in_ok-try_kept.ensures.stay c.loop-k.invariant.mixed c.in_ok-try_kept.ensures.mixed;
  within = c.in_ok-try_kept.ensures.within;
}

pub returns-clause-mixed : goal.returns-clause-mixed
returns-clause-mixed g c =
    let R = g.S.Scalar.ring in
    subst (All (λ v. All (HasMixed R c.args.parts.now.kept.n c.args.ineq.now c.args.parts.now.kept.rows
    c.args.parts.now.dropped.rows c.loop-k.found.items v) c.args.parts.now.dropped.rows))
    (take_all c.loop-k.k c.args.parts.now.kept.rows (omega (arith, ap length c.as_slice-rows.ensures.rows)))
    c.loop-k.invariant.mixed
