-- The loop over points: what is printed so far and what is left are the whole.
-- Index: one_block.
use Rattle.std.proofs.Common.{◌≡◌, ◌+◌, ℕ, suc, List, ◌∷◌, ◌++◌, sym, ap, ap₂, ◌∙◌, append_assoc, arith}
use Rattle.prog_theory.specs.Graph.{Point}
use Rattle.report_lines.specs.Texts.{point_line}
use Rattle.short_texts.specs.Short.{short_blocks}

-- one block more is printed
pub one_block : (done next : List ℕ) (n m : ℕ) (ps qs : List Point) (p : Point) (xs ys : List (List ℕ)) (x : List ℕ)
    (whole : List ℕ) → m ≡ n + 1 → done ++ short_blocks n ps xs ≡ whole → ps ≡ p ∷ qs → xs ≡ x ∷ ys →
    next ≡ done ++ (point_line n p ++ x) → next ++ short_blocks m qs ys ≡ whole
one_block done next n m ps qs p xs ys x whole step h e f g =
    let line = point_line n p in
    let same : m ≡ suc n = omega (arith, step) in
    ap₂ (λ (y z : List ℕ). y ++ z) g (ap (λ (k : ℕ). short_blocks k qs ys) same)
    ∙ append_assoc done (line ++ x) (short_blocks (suc n) qs ys)
    ∙ ap (λ (z : List ℕ). done ++ z) (append_assoc line x (short_blocks (suc n) qs ys)
    ∙ sym (ap₂ (λ (y : List Point) (z : List (List ℕ)). short_blocks n y z) e f)) ∙ h
