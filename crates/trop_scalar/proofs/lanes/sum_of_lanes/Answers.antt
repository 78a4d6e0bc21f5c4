use Rattle.std.proofs.Common.{◌≡◌, ◌≤◌, ◌<◌, List, map, slice_index_or, length, ap, ◌∙◌, arith, w64, ℕ}
use Rattle.std.specs.Prelude.{ℤ, pos}
use Rattle.std.proofs.lemmas.Int.{to_z-of_z}
use mir.Val.{to_z, of_z}
use Rattle.trop_theory.specs.Sizes.{most_element}
use Rattle.trop_theory.specs.Vectors.{row_size}
use Rattle.trop_theory.specs.MaxPlus.{max_ring, max_plus, magnitude}
use Rattle.trop_scalar.specs.Sums.{total}
use Rattle.trop_scalar.specs.Words.{word_value}
use Rattle.trop_scalar.proofs.Words.{fits_word}
use Rattle.trop_scalar.proofs.Sums.{sum_more, sum_all, total_at, total_after, size_at, words_back, length-map}
use Rattle.trop_scalar.proofs.lanes.sum_of_lanes.Goals as goal

-- what the words of the lanes are, once they are written and read
abbrev read : List ℤ → List ℤ
read lanes = map (to_z w64) (map (of_z w64) lanes)

size_read : (lanes : List ℤ) (i : ℕ) → i < length (read lanes) →
    row_size max_ring (map word_value lanes) ≤ most_element →
    magnitude (word_value (slice_index_or (read lanes) i (pos 0))) ≤ most_element
size_read lanes i l h =
    omega (
      arith,
      size_at word_value (read lanes) i (pos 0) l,
      ap (λ l. row_size max_ring (map word_value l)) (words_back lanes h),
      h,
    )

long_read : (lanes : List ℤ) → length lanes ≡ 8 → row_size max_ring (map word_value lanes) ≤ most_element →
    length (read lanes) ≡ 8
long_read lanes e h = ap length (words_back lanes h) ∙ e

word_read : (lanes : List ℤ) (i : ℕ) → i < length (read lanes) →
    row_size max_ring (map word_value lanes) ≤ most_element →
    let w = slice_index_or (read lanes) i (pos 0) in to_z w64 (of_z w64 w) ≡ w
word_read lanes i l h = to_z-of_z w64 _ (fits_word _ (size_read lanes i l h))

pub greater-sum-requires-clause-size_right : goal.greater-sum-requires-clause-size_right
greater-sum-requires-clause-size_right c =
    let within : c.loop-i.i < length (read c.args.lanes) =
    omega (arith, long_read c.args.lanes c.requires.length c.requires.size) in
    omega (
      arith,
      size_read c.args.lanes c.loop-i.i within c.requires.size,
      ap (λ z. magnitude (word_value z)) (word_read c.args.lanes c.loop-i.i within c.requires.size),
    )

pub loop-i-preserved : goal.loop-i-preserved
loop-i-preserved c =
    let words = read c.args.lanes in
    let w = slice_index_or words c.loop-i.i (pos 0) in
    let within : c.loop-i.i < length words = omega (arith, long_read c.args.lanes c.requires.length c.requires.size) in
    let back = to_z-of_z w64 c.greater-sum.result (fits_word c.greater-sum.result c.greater-sum.ensures.size) in
    rw back (sum_more (total max_ring (map word_value words)) (word_value w) _ _ (to_z w64 c.loop-i.sum-bits)
    c.greater-sum.result
    (total_at word_value words c.loop-i.i (pos 0) within)
    (c.greater-sum.ensures.sum ∙ ap (λ z. max_plus (word_value (to_z w64 c.loop-i.sum-bits)) (word_value z))
    (word_read c.args.lanes c.loop-i.i within c.requires.size))
    c.greater-sum.ensures.size c.loop-i.invariant)

pub returns-clause-sum : goal.returns-clause-sum
returns-clause-sum c =
    let words = read c.args.lanes in
    let back = words_back c.args.lanes c.requires.size in
    let long : length (map word_value words) ≤ c.loop-i.i =
    omega (arith, length-map word_value words, long_read c.args.lanes c.requires.length c.requires.size) in
    sum_all _ _ (to_z w64 c.loop-i.sum-bits) (total_after (map word_value words) c.loop-i.i long) c.loop-i.invariant
    ∙ ap (λ l. total max_ring (map word_value l)) back
