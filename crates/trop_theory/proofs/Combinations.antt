-- Combinations are closed under sums and multiples, and have each row.
use Rattle.std.proofs.Common.{◌≡◌, ℕ, suc, List, [], ◌∷◌, length, replicate, sym, ap, ◌∙◌, refl, arith}
use Rattle.std.specs.Prelude.{All}
use Rattle.std.proofs.lemmas.List.{length-map, length-replicate}
use Rattle.std.proofs.lemmas.List.Elements.{All-head, All-tail}
use Rattle.trop_theory.specs.Semiring.{Semiring, SemiringLaws}
use Rattle.trop_theory.specs.Vectors.{scaled, joined, bottom}
use Rattle.trop_theory.specs.Combinations.{combined, IsCombination}
use Rattle.plain_lemmas.proofs.Operations.{swap_middle}
use Rattle.trop_theory.proofs.Rows.{length-joined, joined_assoc, joined_comm, scaled-joined, scaled-scaled, scaled_plus, scaled-bottom, scaled_zero, scaled_one, joined_bottom}
use Rattle.std.proofs.Common.{ap₂}

module _ {V : Type 0} {R : Semiring V} (laws : SemiringLaws R) (n : ℕ) where
  pub length-combined : (cs : List V) (rows : List (List V)) → All (λ g. length g ≡ n) rows →
      length (combined R n cs rows) ≡ n
  length-combined [] rows w = length-replicate n R.zero
  length-combined (c ∷ cs) [] w = length-replicate n R.zero
  length-combined (c ∷ cs) (g ∷ rows) w =
      length-joined R (scaled R c g) (combined R n cs rows) n
      (length-map g (R.times c) ∙ All-head (λ g. length g ≡ n) g rows w)
      (length-combined cs rows (All-tail (λ g. length g ≡ n) g rows w))

  pub IsCombination-length : (rows : List (List V)) (x : List V) → All (λ g. length g ≡ n) rows →
      IsCombination R n rows x → length x ≡ n
  IsCombination-length rows x w h = ap length h.is_sum ∙ length-combined h.coefficients rows w

  combined-zeros : (rows : List (List V)) → All (λ g. length g ≡ n) rows →
      combined R n (replicate (length rows) R.zero) rows ≡ bottom R n
  combined-zeros [] w = refl
  combined-zeros (g ∷ rows) w =
      let e : length g ≡ n = All-head (λ g. length g ≡ n) g rows w in
      ap₂ (joined R) (scaled_zero laws g ∙ ap (bottom R) e)
      (combined-zeros rows (All-tail (λ g. length g ≡ n) g rows w))
      ∙ ap (λ m. joined R (bottom R m) (bottom R n)) (sym (length-replicate n R.zero))
      ∙ joined_bottom laws (bottom R n)

  pub IsCombination-bottom : (rows : List (List V)) → All (λ g. length g ≡ n) rows → IsCombination R n rows (bottom R n)
  IsCombination-bottom rows w = record {
    coefficients = replicate (length rows) R.zero;
    one_each = length-replicate (length rows) R.zero;
    is_sum = sym (combined-zeros rows w);
  }

  combined-joined : (cs ds : List V) (rows : List (List V)) → length cs ≡ length rows → length ds ≡ length rows →
      joined R (combined R n cs rows) (combined R n ds rows) ≡ combined R n (joined R cs ds) rows
  combined-joined [] (d ∷ ds) [] p q = absurd (omega arith)
  combined-joined [] [] [] p q = ap (λ m. joined R (bottom R m) (bottom R n)) (sym (length-replicate n R.zero))
      ∙ joined_bottom laws (bottom R n)
  combined-joined [] ds (g ∷ rows) p q = absurd (omega arith)
  combined-joined (c ∷ cs) ds [] p q = absurd (omega arith)
  combined-joined (c ∷ cs) [] (g ∷ rows) p q = absurd (omega arith)
  combined-joined (c ∷ cs) (d ∷ ds) (g ∷ rows) p q =
      swap_middle (joined R) (joined_assoc laws) (joined_comm laws) _ _ _ _
      ∙ ap₂ (joined R) (sym (scaled_plus laws c d g)) (combined-joined cs ds rows (omega arith) (omega arith))

  pub IsCombination-joined : (rows : List (List V)) (x y : List V) → IsCombination R n rows x →
      IsCombination R n rows y → IsCombination R n rows (joined R x y)
  IsCombination-joined rows x y h k = record {
    coefficients = joined R h.coefficients k.coefficients;
    one_each = length-joined R h.coefficients k.coefficients (length rows) h.one_each k.one_each;
    is_sum = ap₂ (joined R) h.is_sum k.is_sum ∙ combined-joined h.coefficients k.coefficients rows h.one_each
        k.one_each;
  }

  combined-scaled : (c : V) (cs : List V) (rows : List (List V)) →
      scaled R c (combined R n cs rows) ≡ combined R n (scaled R c cs) rows
  combined-scaled c [] rows = scaled-bottom laws c n
  combined-scaled c (d ∷ cs) [] = scaled-bottom laws c n
  combined-scaled c (d ∷ cs) (g ∷ rows) =
      scaled-joined laws c _ _ ∙ ap₂ (joined R) (scaled-scaled laws c d g) (combined-scaled c cs rows)

  pub IsCombination-scaled : (rows : List (List V)) (c : V) (x : List V) → IsCombination R n rows x →
      IsCombination R n rows (scaled R c x)
  IsCombination-scaled rows c x h = record {
    coefficients = scaled R c h.coefficients;
    one_each = length-map h.coefficients (R.times c) ∙ h.one_each;
    is_sum = ap (scaled R c) h.is_sum ∙ combined-scaled c h.coefficients rows;
  }

  -- one more row leaves the combinations
  pub IsCombination-cons : (g : List V) (rows : List (List V)) (x : List V) → All (λ g. length g ≡ n) (g ∷ rows) →
      IsCombination R n rows x → IsCombination R n (g ∷ rows) x
  IsCombination-cons g rows x w h =
      let e : length g ≡ n = All-head (λ g. length g ≡ n) g rows w in
      let l : length x ≡ n = IsCombination-length rows x (All-tail (λ g. length g ≡ n) g rows w) h in
      record {
        coefficients = R.zero ∷ h.coefficients;
        one_each = ap suc h.one_each;
        is_sum = sym (joined_bottom laws x) ∙ ap₂ (joined R) (ap (bottom R) (l ∙ sym e) ∙ sym (scaled_zero laws g))
            h.is_sum;
      }

  pub IsCombination-head : (g : List V) (rows : List (List V)) → All (λ g. length g ≡ n) (g ∷ rows) →
      IsCombination R n (g ∷ rows) g
  IsCombination-head g rows w =
      let e : length g ≡ n = All-head (λ g. length g ≡ n) g rows w in
      let b : IsCombination R n rows (bottom R n) = IsCombination-bottom rows (All-tail (λ g. length g ≡ n) g rows w) in
      record {
        coefficients = R.one ∷ b.coefficients;
        one_each = ap suc b.one_each;
        is_sum = sym (joined_bottom laws g) ∙ joined_comm laws _ _ ∙ ap₂ (joined R) (sym (scaled_one laws g))
            (ap (bottom R) e ∙ b.is_sum);
      }
