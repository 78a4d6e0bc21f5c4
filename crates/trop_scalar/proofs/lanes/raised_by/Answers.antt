use Rattle.std.proofs.Common.{ap, ap₂, ◌∙◌, w64}
use Rattle.std.proofs.lemmas.Int.{to_z-of_z}
use Rattle.trop_theory.specs.MaxPlus.{max_plus}
use Rattle.trop_scalar.specs.Words.{word_value}
use Rattle.trop_scalar.proofs.Words.{fits_word, product_word}
use Rattle.trop_scalar.proofs.lanes.raised_by.Goals as goal

pub returns-else-y-eqminus9223372036854775808-clause-sum : goal.returns-else-y-eqminus9223372036854775808-clause-sum
returns-else-y-eqminus9223372036854775808-clause-sum c =
    ap word_value (to_z-of_z w64 c.greater.result (fits_word c.greater.result c.greater.ensures.size))
    ∙ c.greater.ensures.sum
    ∙ ap₂ max_plus (ap word_value (to_z-of_z w64 c.args.best c.ranges.best))
    (product_word c.args.x c.args.y c.ranges.x c.ranges.y c.if-x-eqminus9223372036854775808.false
    c.if-y-eqminus9223372036854775808.false c.requires.sizes)
