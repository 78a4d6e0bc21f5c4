use Rattle.std.proofs.Common.{◌+◌, refl, sym, ◌∙◌, subst, true≢false, arith}
use Rattle.trop_dd.proofs.Settled.{IsSettledTo, settled_edge, settled_loose, settled_all}
use Rattle.trop_dd.proofs.settling.settle_all.Goals as goal
use Rattle.trop_dd.proofs.settling.settle_all.Goals.{then-gives_edge, else-gives_edge}

pub loop-k-preserved : goal.loop-k-preserved
loop-k-preserved g c = elim c.if-gives_edge.branch [
  | then-gives_edge w ↦
      subst (λ v. IsSettledTo c.args.additions.now c.args.sides.now.items (c.loop-k.k + 1) v.items) (sym w.sides-is)
      (settled_edge c.args.additions.now c.args.sides.now.items c.loop-k.sides.items c.loop-k.k
      (omega (arith, c.loop-k-test.true, c.requires)) c.index-additions-k.result c.loop-k-test.true
      c.index-additions-k.is c.loop-k.invariant
      _ w.index_mut.result.now w.set_words.new.self
      (c.gives_edge.ensures.0 w.if-gives_edge.true) w.index_mut.ensures.value refl w.set_words.ensures.row
      w.set_words.ensures.support w.set_words.ensures.types w.set_words.ensures.cover w.set_words.ensures.slots
      w.set_words.ensures.places)
  | else-gives_edge w ↦
      subst (λ v. IsSettledTo c.args.additions.now c.args.sides.now.items (c.loop-k.k + 1) v.items) (sym w.sides-is)
      (settled_loose c.args.additions.now c.args.sides.now.items c.loop-k.sides.items c.loop-k.k
      (omega (arith, c.loop-k-test.true, c.requires)) c.index-additions-k.result c.loop-k-test.true
      c.index-additions-k.is c.loop-k.invariant
      (λ has. true≢false (sym (c.gives_edge.ensures.1 has) ∙ w.if-gives_edge.false)))
]

pub returns : goal.returns
returns g c = settled_all c.args.additions.now c.args.sides.now.items c.loop-k.sides.items c.loop-k.k
    (omega (arith, c.loop-k-test.false)) (omega arith) c.loop-k.invariant
