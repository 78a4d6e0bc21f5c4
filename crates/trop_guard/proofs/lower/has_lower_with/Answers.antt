use Rattle.std.proofs.Common.{arith, ap, get_or, length, map, sym, ◌∙◌}
use Rattle.std.proofs.lemmas.List.{length-map}
use Rattle.trop_theory.specs.Vectors.{dot}
use Rattle.trop_guard.proofs.Products.{sum_read}
use Rattle.trop_guard.proofs.Pairs.{contains_read, can_compare}
use Rattle.trop_guard.proofs.lower.has_lower_with.Goals as goal

pub gives_lower-requires-clause-pair : goal.gives_lower-requires-clause-pair
gives_lower-requires-clause-pair g c = can_compare g.met.S.Scalar.ring_laws c.args.parts.now.kept.n c.args.ineq.now
    c.args.parts.now.kept.rows c.args.parts.now.rights.items c.args.parts.now.dropped.rows c.requires.parts
    c.index-rows-k.result c.args.w.now c.args.left c.index-rights-k.result
    (contains_read c.args.parts.now.kept.rows c.as_slice-rows.result.now c.loop-k.k c.index-rows-k.result
    c.as_slice-rows.ensures.rows (omega arith) c.index-rows-k.is)
    c.requires.lengths c.requires.w_size c.requires.sum
    (sum_read (dot g.S.Scalar.ring c.args.ineq.now.right) c.args.parts.now.kept.rows c.as_slice-rights.result.now
    c.loop-k.k c.index-rows-k.result c.index-rights-k.result
    (c.as_slice-rights.ensures.value ∙ c.requires.parts.rights_are)
    (omega (arith, ap length c.as_slice-rows.ensures.rows))
    (c.index-rows-k.is ∙ ap (λ r. get_or r c.loop-k.k c.index-rows-k.result) c.as_slice-rows.ensures.rows)
    c.index-rights-k.is)
