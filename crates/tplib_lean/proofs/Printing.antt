-- Loops that print a lean list: lean_lines_more, lean_lines_none, commented.
use Rattle.std.proofs.Common.{◌≡◌, ◌≤◌, ◌<◌, ◌+◌, ℕ, List, [], ◌∷◌, ◌++◌, length, get_or, drop, codes, ap, ◌∙◌, append_assoc}
use Rattle.trop_theory.specs.Numbers.{Numbering}
use Rattle.trop_theory.specs.Inequalities.{Inequality}
use Rattle.trop_spelling.specs.declared.ring_kind.RingKind.{RingKind}
use Rattle.trop_spelling.specs.Printed.{printed_inequality}
use Rattle.trop_spelling.proofs.Printing.{drop_item, drop_all}
use Rattle.tplib_lean.specs.Printed.{fails_comment, lean_lines}

module _ {V : Type 0} (kind : RingKind) (N : Numbering V) (names : List (List ℕ)) where
  -- what is left begins with the two lines at hand
  pub lean_lines_more : (kept : List (Inequality V)) (rows : List (List V)) (k : ℕ) (p : Inequality V) (row : List V) →
      k < length kept → p ≡ get_or kept k p → k < length rows → row ≡ get_or rows k row →
      lean_lines kind N names (drop k kept) (drop k rows) ≡
      (printed_inequality kind N names p ++ codes "\n")
      ++ ((fails_comment kind N row ++ codes "\n") ++ lean_lines kind N names (drop (k + 1) kept) (drop (k + 1) rows))
  lean_lines_more kept rows k p row in_kept is_p in_rows is_row =
      ap (λ xs. lean_lines kind N names xs (drop k rows)) (drop_item kept k p in_kept is_p)
      ∙ ap (lean_lines kind N names (p ∷ drop (k + 1) kept)) (drop_item rows k row in_rows is_row)

  -- nothing is left
  pub lean_lines_none : (kept : List (Inequality V)) (rows : List (List V)) (k : ℕ) → length kept ≤ k →
      lean_lines kind N names (drop k kept) rows ≡ []
  lean_lines_none kept rows k past = ap (λ xs. lean_lines kind N names xs rows) (drop_all kept k past)

-- three pieces, one behind the other
pub commented : (start one two three a b c : List ℕ) → one ≡ start ++ a → two ≡ one ++ b → three ≡ two ++ c →
    three ≡ start ++ ((a ++ b) ++ c)
commented start one two three a b c f s t =
    t ∙ ap (λ u. u ++ c) (s ∙ ap (λ u. u ++ b) f ∙ append_assoc start a b) ∙ append_assoc start (a ++ b) c
