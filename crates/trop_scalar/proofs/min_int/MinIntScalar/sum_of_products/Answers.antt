use Rattle.std.proofs.Common.{ap, ◌∙◌, w64}
use Rattle.std.proofs.lemmas.Int.{to_z-of_z}
use Rattle.trop_theory.specs.Sizes.{most_element}
use Rattle.trop_theory.specs.Vectors.{dot}
use Rattle.trop_theory.specs.MaxPlus.{opposite}
use Rattle.trop_theory.specs.MinPlus.{min_ring}
use Rattle.trop_theory.proofs.MinPlusLaws.{opposite-opposite}
use Rattle.trop_scalar.specs.Words.{word_value}
use Rattle.trop_scalar.proofs.Held.{held_as_opposite, dot-held, sizes-held}
use Rattle.trop_scalar.proofs.Words.{fits_word}
use Rattle.trop_scalar.proofs.min_int.MinIntScalar.sum_of_products.Goals as goal

pub sum_by_lanes-requires-clause-sizes : goal.sum_by_lanes-requires-clause-sizes
sum_by_lanes-requires-clause-sizes c =
    sizes-held held_as_opposite c.args.coeffs.now c.args.entries.now most_element c.requires.sizes

pub returns : goal.returns
returns c =
    ap opposite (c.of_word.ensures
    ∙ ap word_value (to_z-of_z w64 c.sum_by_lanes.result (fits_word c.sum_by_lanes.result c.sum_by_lanes.ensures.size))
    ∙ c.sum_by_lanes.ensures.sum
    ∙ dot-held held_as_opposite c.args.coeffs.now c.args.entries.now)
    ∙ opposite-opposite (dot min_ring c.args.coeffs.now c.args.entries.now)
