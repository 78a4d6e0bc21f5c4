-- Places told by how many pieces are left.
use Rattle.std.proofs.Common.{◌≡◌, ◌-◌, ℕ, zero, suc, List, [], ◌∷◌, length, refl, ap, ◌∙◌, arith}
use Rattle.std.specs.Prelude.{drop}
use Rattle.report_texts.specs.Heads.{from_last}

module _ {T : Type 0} where
  length_left : (n : ℕ) (ts : List T) → length (drop n ts) ≡ length ts - n
  length_left zero ts = omega arith
  length_left (suc n) [] = omega arith
  length_left (suc n) (t ∷ ts) = let e = length_left n ts in omega (arith, e)

  pub drop_more : (n : ℕ) (ts : List T) → drop n (drop 1 ts) ≡ drop (suc n) ts
  drop_more zero [] = refl
  drop_more (suc n) [] = refl
  drop_more n (t ∷ ts) = refl

  -- the place before the rest, counted from the end
  pub last_is : (ts rest taken next out : List T) → taken ≡ drop (length rest) ts → next ≡ drop 1 taken →
      out ≡ drop (length next) ts → out ≡ from_last ts rest
  last_is ts rest taken next out e k h =
      let a = ap length e in
      let b = length_left (length rest) ts in
      let c = ap length k in
      let d = length_left 1 taken in
      let same : length next ≡ length ts - suc (length rest) = omega (arith, a, b, c, d) in
      h ∙ ap (λ n. drop n ts) same
