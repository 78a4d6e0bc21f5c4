-- The sums of terms at the vector of a state.
use Rattle.std.proofs.Common.{◌≡◌, ◌<◌, ◌≤◌, ℕ, zero, suc, List, [], ◌∷◌, length, set, sym, ap, ◌∙◌, refl, arith, ap₂}
use Rattle.std.proofs.lemmas.List.{length-replicate, length-set}
use Rattle.trop_theory.specs.Semiring.{Semiring, SemiringLaws}
use Rattle.trop_theory.specs.Vectors.{entry, joined, bottom, dot}
use Rattle.trop_theory.specs.Numbers.{Numbering, NumericLaws}
use Rattle.trop_theory.proofs.Order.{plus_zero, distributes_left}
use Rattle.plain_lemmas.proofs.Operations.{swap_middle}
use Rattle.trop_theory.proofs.Rows.{length-joined}
use Rattle.prog_theory.specs.States.{State, Term, value}
use Rattle.cone_reports.specs.Vectors.{vector}
use Rattle.cone_reports.specs.Sides.{term_side, side}
use Rattle.cone_reports.proofs.Entries.{length-vector, term-times}

module _ {V : Type 0} {R : Semiring V} (laws : SemiringLaws R) where
  pub dot-bottom : (n : ℕ) (x : List V) → dot R (bottom R n) x ≡ R.zero
  dot-bottom zero x = refl
  dot-bottom (suc n) [] = refl
  dot-bottom (suc n) (b ∷ x) = ap₂ R.plus (laws.zero_absorbs b) (dot-bottom n x) ∙ laws.zero_neutral R.zero

  -- one coefficient alone
  pub dot-alone : (n c : ℕ) (a : V) (x : List V) → c < n → length x ≡ n
      → dot R (set (bottom R n) c a) x ≡ R.times a (entry R x c)
  dot-alone zero c a x h l = absurd (omega arith)
  dot-alone (suc n) c a [] h l = absurd (omega arith)
  dot-alone (suc n) zero a (b ∷ x) h l = ap (R.plus (R.times a b)) (dot-bottom n x) ∙ plus_zero laws (R.times a b)
  dot-alone (suc n) (suc c) a (b ∷ x) h l =
      ap₂ R.plus (laws.zero_absorbs b) (dot-alone n c a x (omega arith) (omega arith))
      ∙ laws.zero_neutral (R.times a (entry R x c))

  -- the sum of two sides
  pub dot-sides : (a b x : List V) → length a ≡ length b → dot R (joined R a b) x ≡ R.plus (dot R a x) (dot R b x)
  dot-sides [] [] x l = sym (laws.zero_neutral R.zero)
  dot-sides [] (d ∷ b) x l = absurd (omega arith)
  dot-sides (c ∷ a) [] x l = absurd (omega arith)
  dot-sides (c ∷ a) (d ∷ b) [] l = sym (laws.zero_neutral R.zero)
  dot-sides (c ∷ a) (d ∷ b) (y ∷ x) l =
      ap₂ R.plus (distributes_left laws c d y) (dot-sides a b x (omega arith))
      ∙ swap_middle R.plus laws.plus_assoc laws.plus_comm (R.times c y) (R.times d y) (dot R a x) (dot R b x)

module _ {V : Type 0} {R : Semiring V} {N : Numbering V} {reversed : _} (laws : SemiringLaws R)
    (numbers : NumericLaws R N reversed) (vars : ℕ) where
  pub length-term_side : (t : Term) → length (term_side R N (suc vars) t) ≡ suc vars
  length-term_side t = length-set (bottom R (suc vars)) t.coord (N.of t.add) ∙ length-replicate (suc vars) R.zero

  pub length-side : (ts : List Term) → length (side R N (suc vars) ts) ≡ suc vars
  length-side [] = length-replicate (suc vars) R.zero
  length-side (t ∷ ts) = length-joined R (term_side R N (suc vars) t) (side R N (suc vars) ts) (suc vars)
      (length-term_side t) (length-side ts)

  -- at any vector a term is a product, and the sum of terms is made one term after another
  pub dot-term : (x : List V) → length x ≡ suc vars → (t : Term) → t.coord ≤ vars
      → dot R (term_side R N (suc vars) t) x ≡ R.times (N.of t.add) (entry R x t.coord)
  dot-term x l t h = dot-alone laws (suc vars) t.coord (N.of t.add) x (omega arith) l

  pub dot-more : (x : List V) → length x ≡ suc vars → (t : Term) (ts : List Term) → t.coord ≤ vars
      → dot R (side R N (suc vars) (t ∷ ts)) x
      ≡ R.plus (R.times (N.of t.add) (entry R x t.coord)) (dot R (side R N (suc vars) ts) x)
  dot-more x l t ts h =
      dot-sides laws (term_side R N (suc vars) t) (side R N (suc vars) ts) x (length-term_side t ∙ sym (length-side ts))
      ∙ ap (λ v. R.plus v (dot R (side R N (suc vars) ts) x)) (dot-term x l t h)

  pub dot-term_side : (s : State) → length s ≡ vars → (t : Term) → t.coord ≤ vars
      → dot R (term_side R N (suc vars) t) (vector R N s) ≡ N.of (value t s)
  dot-term_side s l t h =
      dot-alone laws (suc vars) t.coord (N.of t.add) (vector R N s) (omega arith) (length-vector laws numbers s vars l)
      ∙ term-times laws numbers s t (omega arith)

  pub dot-side : (s : State) → length s ≡ vars → (t : Term) (ts : List Term) → t.coord ≤ vars
      → dot R (side R N (suc vars) (t ∷ ts)) (vector R N s) ≡ R.plus (N.of (value t s))
      (dot R (side R N (suc vars) ts) (vector R N s))
  dot-side s l t ts h =
      dot-sides laws (term_side R N (suc vars) t) (side R N (suc vars) ts) (vector R N s)
      (length-term_side t ∙ sym (length-side ts))
      ∙ ap (λ v. R.plus v (dot R (side R N (suc vars) ts) (vector R N s))) (dot-term_side s l t h)
