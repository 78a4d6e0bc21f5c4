use Rattle.std.proofs.Common.{◌≡◌, ◌+◌, ap, ◌∙◌, refl, arith, w64}
use Rattle.std.specs.Prelude.{ℤ, FitsSigned, Option}
use Rattle.std.proofs.lemmas.Int.{to_z-of_z}
use mir.Val.{to_z, of_z}
use Rattle.trop_scalar.specs.Words.{word_value}
use Rattle.trop_scalar.proofs.Sums.{values_at}
use Rattle.trop_scalar.proofs.lanes.lanes_at.Goals as goal

same : (w : ℤ) (v : Option ℤ) → FitsSigned w64 w → word_value w ≡ v → word_value (to_z w64 (of_z w64 w)) ≡ v
same w v f e = ap word_value (to_z-of_z w64 w f) ∙ e

pub returns-clause-values : goal.returns-clause-values
returns-clause-values g c =
    let f = g.S.Worded.held in
    let xs = c.args.xs.now in
    let i = c.args.at in
    values_at f xs i (i + 1) 7 _ _ _ (omega arith) (omega arith) c.index-xs-at.is
    (same c.word.result _ (record { sfits = c.word.type_inv }) c.word.ensures)
    (values_at f xs (i + 1) (i + 2) 6 _ _ _ (omega arith) (omega arith) c.index-xs-at-2.is
    (same c.word-2.result _ (record { sfits = c.word-2.type_inv }) c.word-2.ensures)
    (values_at f xs (i + 2) (i + 3) 5 _ _ _ (omega arith) (omega arith) c.index-xs-at-3.is
    (same c.word-3.result _ (record { sfits = c.word-3.type_inv }) c.word-3.ensures)
    (values_at f xs (i + 3) (i + 4) 4 _ _ _ (omega arith) (omega arith) c.index-xs-at-4.is
    (same c.word-4.result _ (record { sfits = c.word-4.type_inv }) c.word-4.ensures)
    (values_at f xs (i + 4) (i + 5) 3 _ _ _ (omega arith) (omega arith) c.index-xs-at-5.is
    (same c.word-5.result _ (record { sfits = c.word-5.type_inv }) c.word-5.ensures)
    (values_at f xs (i + 5) (i + 6) 2 _ _ _ (omega arith) (omega arith) c.index-xs-at-6.is
    (same c.word-6.result _ (record { sfits = c.word-6.type_inv }) c.word-6.ensures)
    (values_at f xs (i + 6) (i + 7) 1 _ _ _ (omega arith) (omega arith) c.index-xs-at-7.is
    (same c.word-7.result _ (record { sfits = c.word-7.type_inv }) c.word-7.ensures)
    (values_at f xs (i + 7) (i + 8) 0 _ _ _ (omega arith) (omega arith) c.index-xs-at-8.is
    (same c.word-8.result _ (record { sfits = c.word-8.type_inv }) c.word-8.ensures) refl)))))))
