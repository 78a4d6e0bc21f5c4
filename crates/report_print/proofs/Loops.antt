-- The loop over points: what is printed so far and what is left are the whole.
-- Index: one_block.
use Rattle.std.proofs.Common.{◌≡◌, ◌+◌, ℕ, suc, List, ◌∷◌, ◌++◌, sym, ap, ap₂, ◌∙◌, append_assoc, arith}
use Rattle.trop_theory.specs.Numbers.{Numbering}
use Rattle.trop_spelling.specs.declared.ring_kind.RingKind.{RingKind}
use Rattle.prog_theory.specs.Graph.{Point}
use Rattle.cone_reports.specs.Reports.{Part}
use Rattle.report_lines.specs.Texts.{point_line}
use Rattle.report_print.specs.Texts.{part_text, blocks_text}

module _ {V : Type 0} (kind : RingKind) (N : Numbering V) (names : List (List ℕ)) where
  abbrev B : ℕ → List Point → List (Part V) → List ℕ
  B n ps parts = blocks_text kind N names n ps parts

  -- one block more is printed
  pub one_block : (done next : List ℕ) (n m : ℕ) (ps qs : List Point) (p : Point) (xs ys : List (Part V)) (x : Part V)
      (whole : List ℕ) → m ≡ n + 1 → done ++ B n ps xs ≡ whole → ps ≡ p ∷ qs → xs ≡ x ∷ ys →
      next ≡ done ++ (point_line n p ++ part_text kind N names x.rows x.printed) → next ++ B m qs ys ≡ whole
  one_block done next n m ps qs p xs ys x whole step h e f g =
      let line = point_line n p in
      let part = part_text kind N names x.rows x.printed in
      let same : m ≡ suc n = omega (arith, step) in
      ap₂ (λ (y z : List ℕ). y ++ z) g (ap (λ (k : ℕ). B k qs ys) same)
      ∙ append_assoc done (line ++ part) (B (suc n) qs ys)
      ∙ ap (λ (z : List ℕ). done ++ z) (append_assoc line part (B (suc n) qs ys)
      ∙ sym (ap₂ (λ (y : List Point) (z : List (Part V)). B n y z) e f)) ∙ h
