use Rattle.std.proofs.Common.{ap, ap₂, ◌∙◌, arith, w64}
use Rattle.std.proofs.lemmas.Int.{to_z-of_z}
use mir.Val.{to_z}
use Rattle.trop_theory.specs.MaxPlus.{max_plus, sum_of, magnitude}
use Rattle.trop_scalar.specs.Words.{word_value}
use Rattle.trop_scalar.proofs.Words.{fits_word}
use Rattle.trop_scalar.proofs.Sums.{sum_more, dot_at, sizes_at}
use Rattle.trop_scalar.proofs.lanes.sum_of_rest.Goals as goal

pub raised_by-sum-requires-clause-sizes : goal.raised_by-sum-requires-clause-sizes
raised_by-sum-requires-clause-sizes g c =
    let f = g.S.Worded.held in
    let left = to_z-of_z w64 c.word.result (record { sfits = c.word.type_inv }) in
    let right = to_z-of_z w64 c.word-in-loop-i.result (record { sfits = c.word-in-loop-i.type_inv }) in
    omega (
      arith,
      ap (λ z. magnitude (word_value z)) left,
      ap (λ z. magnitude (word_value z)) right,
      ap magnitude c.word.ensures,
      ap magnitude c.word-in-loop-i.ensures,
      sizes_at f c.args.coeffs.now c.args.entries.now c.loop-i.i _ _ (omega arith) (omega arith) c.index-coeffs-i.is
          c.index-entries-i.is c.requires.sizes,
    )

pub loop-i-preserved : goal.loop-i-preserved
loop-i-preserved g c =
    let f = g.S.Worded.held in
    let left = to_z-of_z w64 c.word.result (record { sfits = c.word.type_inv }) in
    let right = to_z-of_z w64 c.word-in-loop-i.result (record { sfits = c.word-in-loop-i.type_inv }) in
    let back = to_z-of_z w64 c.raised_by-sum.result (fits_word c.raised_by-sum.result c.raised_by-sum.ensures.size) in
    rw back (sum_more _ _ _ _ (to_z w64 c.loop-i.sum-bits) c.raised_by-sum.result
    (dot_at f c.args.coeffs.now c.args.entries.now c.loop-i.i _ _ (omega arith) (omega arith) c.index-coeffs-i.is
    c.index-entries-i.is)
    (c.raised_by-sum.ensures.sum
    ∙ ap₂ (λ p q. max_plus (word_value (to_z w64 c.loop-i.sum-bits)) (sum_of p q))
    (ap word_value left ∙ c.word.ensures) (ap word_value right ∙ c.word-in-loop-i.ensures))
    c.raised_by-sum.ensures.size c.loop-i.invariant)
