-- The elementary step is sound and complete.
use Rattle.std.proofs.Common.{◌≡◌, List, [], ◌∷◌, length, sym, ap, ◌∙◌, arith, subst}
use Rattle.trop_theory.specs.Semiring.{Semiring, SemiringLaws, Le}
use Rattle.trop_theory.specs.Vectors.{scaled, joined, dot}
use Rattle.trop_theory.specs.Steps.{mixed}
use Rattle.trop_theory.proofs.Truth.{HoldsOf}
use Rattle.trop_theory.proofs.Order.{le_refl, le_trans, le-plus_left, le-plus_right, plus-least, times_mono, plus_zero, times_zero}
use Rattle.plain_lemmas.proofs.Operations.{swap_middle}
use Rattle.std.proofs.Common.{ap₂}
use Rattle.std.proofs.lemmas.List.{length-map}

module _ {V : Type 0} {R : Semiring V} (laws : SemiringLaws R) where
  pub dot-joined : (a x y : List V) → length x ≡ length y → dot R a (joined R x y) ≡ R.plus (dot R a x) (dot R a y)
  dot-joined [] x y e = sym (plus_zero laws R.zero)
  dot-joined (c ∷ a) [] [] e = sym (plus_zero laws R.zero)
  dot-joined (c ∷ a) [] (d ∷ y) e = absurd (omega arith)
  dot-joined (c ∷ a) (b ∷ x) [] e = absurd (omega arith)
  dot-joined (c ∷ a) (b ∷ x) (d ∷ y) e =
      ap₂ R.plus (laws.distributes c b d) (dot-joined a x y (omega arith))
      ∙ swap_middle R.plus laws.plus_assoc laws.plus_comm _ _ _ _

  pub dot-scaled : (a x : List V) (c : V) → dot R a (scaled R c x) ≡ R.times c (dot R a x)
  dot-scaled [] x c = sym (times_zero laws c)
  dot-scaled (d ∷ a) [] c = sym (times_zero laws c)
  dot-scaled (d ∷ a) (b ∷ x) c =
      ap₂ R.plus (sym (laws.times_assoc d c b) ∙ ap (λ v. R.times v b) (laws.times_comm d c) ∙ laws.times_assoc c d b)
      (dot-scaled a x c)
      ∙ sym (laws.distributes c (R.times d b) (dot R a x))

  -- solutions are closed under sums and multiples
  pub HoldsOf-joined : (a b x y : List V) → length x ≡ length y → HoldsOf R a b x → HoldsOf R a b y →
      HoldsOf R a b (joined R x y)
  HoldsOf-joined a b x y e p q =
      subst (λ v. Le R v (dot R b (joined R x y))) (sym (dot-joined a x y e))
      (subst (λ v. Le R (R.plus (dot R a x) (dot R a y)) v) (sym (dot-joined b x y e))
      (plus-least laws _ _ _ (le_trans laws _ _ _ p (le-plus_left laws _ _))
      (le_trans laws _ _ _ q (le-plus_right laws _ _))))

  pub HoldsOf-scaled : (a b x : List V) (c : V) → HoldsOf R a b x → HoldsOf R a b (scaled R c x)
  HoldsOf-scaled a b x c p =
      subst (λ v. Le R v (dot R b (scaled R c x))) (sym (dot-scaled a x c))
      (subst (λ v. Le R (R.times c (dot R a x)) v) (sym (dot-scaled b x c)) (times_mono laws c _ _ p))

  -- the mixed row is a solution: both products with b reach (a.w)(b.v)
  pub HoldsOf-mixed : (a b v w : List V) → length v ≡ length w → HoldsOf R a b v → Le R (dot R b w) (dot R a w) →
      HoldsOf R a b (mixed R a b v w)
  HoldsOf-mixed a b v w e p q =
      let av = dot R a v in let bv = dot R b v in let aw = dot R a w in let bw = dot R b w in
      let same : length (scaled R (dot R a w) v) ≡ length (scaled R (dot R b v) w) =
      length-map v (R.times (dot R a w)) ∙ e ∙ sym (length-map w (R.times (dot R b v))) in
      let left : dot R a (mixed R a b v w) ≡ R.plus (R.times (dot R a w) (dot R a v))
      (R.times (dot R b v) (dot R a w)) =
      dot-joined a (scaled R (dot R a w) v) (scaled R (dot R b v) w) same ∙ ap₂ R.plus (dot-scaled a v (dot R a w))
      (dot-scaled a w (dot R b v)) in
      let right : dot R b (mixed R a b v w) ≡ R.plus (R.times (dot R a w) (dot R b v))
      (R.times (dot R b v) (dot R b w)) =
      dot-joined b (scaled R (dot R a w) v) (scaled R (dot R b v) w) same ∙ ap₂ R.plus (dot-scaled b v (dot R a w))
      (dot-scaled b w (dot R b v)) in
      subst (λ t. Le R t (dot R b (mixed R a b v w))) (sym left)
      (subst (λ t. Le R (R.plus (R.times (dot R a w) (dot R a v)) (R.times (dot R b v) (dot R a w))) t) (sym right)
      (plus-least laws _ _ _
      (le_trans laws _ _ _ (times_mono laws (dot R a w) _ _ p) (le-plus_left laws _ _))
      (le_trans laws _ _ _ (subst (λ t. Le R t (R.times (dot R a w) (dot R b v)))
      (laws.times_comm (dot R a w) (dot R b v)) (le_refl laws _)) (le-plus_left laws _ _))))
