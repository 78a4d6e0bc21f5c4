-- The sum of a side at the vector of a state is the greatest or the least of the values of its terms.
use Rattle.std.proofs.Common.{◌≡◌, ◌⊎◌, inl, inr, ⊎_elim, ◌≤◌, ◌<◌, ℕ, suc, ℤ, Bool, true, false, List, [], ◌∷◌, length, sym, ap, ◌∙◌, refl, subst, arith}
use Rattle.std.specs.Prelude.{◌≤ℤ◌, All, Contains}
use Rattle.std.proofs.lemmas.List.Elements.{All-head, All-tail}
use Rattle.trop_theory.specs.Semiring.{Semiring, SemiringLaws, Le}
use Rattle.trop_theory.specs.Vectors.{dot}
use Rattle.trop_theory.specs.Numbers.{Numbering, NumericLaws}
use Rattle.trop_theory.proofs.Order.{le_refl, le_trans, le-plus_left, le-plus_right, plus_zero}
use Rattle.prog_theory.specs.States.{State, Term, value}
use Rattle.prog_theory.specs.Statements.{SideWord, One, Greatest, Least}
use Rattle.prog_theory.proofs.Elements.{Contains-none, Contains-here, Contains-there, Contains-cases}
use Rattle.cone_reports.specs.Vectors.{vector}
use Rattle.prog_theory.specs.Fits.{FitsTerm}
use Rattle.prog_theory.specs.Within.{IsSide}
use Rattle.cone_reports.specs.Sides.{side, Ordered}
use Rattle.cone_reports.specs.Claims.{IsValueOf}
use Rattle.cone_reports.specs.Readings.{SuitsWord}
use Rattle.cone_reports.proofs.Sides.{dot-side, dot-bottom}
use Rattle.cone_reports.proofs.Truths.{order_of_numbers}

one_term : (ts : List Term) → length ts ≡ 1 → (t : Term) × (ts ≡ t ∷ [])
one_term [] l = absurd (omega arith)
one_term (t ∷ []) l = (t, refl)
one_term (t ∷ u ∷ us) l = absurd (omega arith)

first_term : (ts : List Term) → 0 < length ts → (t : Term) × (us : List Term) × (ts ≡ t ∷ us)
first_term [] l = absurd (omega arith)
first_term (t ∷ us) l = (t, us, refl)

module _ {V : Type 0} {R : Semiring V} {N : Numbering V} {reversed : Bool} (laws : SemiringLaws R)
    (numbers : NumericLaws R N reversed) (vars : ℕ) (s : State) (l : length s ≡ vars) where
  -- the sum of a side, as the number of one of its terms, to which all are at most equal in the semiring
  record IsSum (ts : List Term) (z : ℤ) : Type 0 where
    sum : dot R (side R N (suc vars) ts) (vector R N s) ≡ N.of z
    term : Term
    listed : Contains ts term
    reaches : value term s ≡ z
    most : (t : Term) → Contains ts t → Le R (N.of (value t s)) (N.of z)

  alone : (t : Term) → t.coord ≤ vars → IsSum (t ∷ []) (value t s)
  alone t f = record {
    sum = dot-side laws numbers vars s l t [] f
        ∙ ap (R.plus (N.of (value t s))) (dot-bottom laws (suc vars) (vector R N s))
        ∙ plus_zero laws (N.of (value t s));
    term = t;
    listed = Contains-here t [];
    reaches = refl;
    most = λ u c. ⊎_elim (λ e. subst (λ u. Le R (N.of (value u s)) (N.of (value t s))) (sym e) (le_refl laws _))
        (λ k. absurd (Contains-none u k)) (Contains-cases t [] u c);
  }

  more : (t : Term) (ts : List Term) (z : ℤ) → t.coord ≤ vars → IsSum ts z → (y : ℤ) × IsSum (t ∷ ts) y
  more t ts z f r = go (laws.selective (N.of (value t s)) (N.of z))
    where
      step : dot R (side R N (suc vars) (t ∷ ts)) (vector R N s) ≡ R.plus (N.of (value t s)) (N.of z)
      step = dot-side laws numbers vars s l t ts f ∙ ap (R.plus (N.of (value t s))) r.sum

      first : Le R (N.of (value t s)) (R.plus (N.of (value t s)) (N.of z))
      first = le-plus_left laws (N.of (value t s)) (N.of z)

      rest : Le R (N.of z) (R.plus (N.of (value t s)) (N.of z))
      rest = le-plus_right laws (N.of (value t s)) (N.of z)

      all : (u : Term) → Contains (t ∷ ts) u → Le R (N.of (value u s)) (R.plus (N.of (value t s)) (N.of z))
      all u c = ⊎_elim (λ e. subst (λ u. Le R (N.of (value u s)) (R.plus (N.of (value t s)) (N.of z))) (sym e) first)
          (λ k. le_trans laws _ _ _ (r.most u k) rest) (Contains-cases t ts u c)

      go : (R.plus (N.of (value t s)) (N.of z) ≡ N.of (value t s)) ⊎ (R.plus (N.of (value t s)) (N.of z) ≡ N.of z)
          → (y : ℤ) × IsSum (t ∷ ts) y
      go (inl e) = (
        value t s,
        record {
          sum = step ∙ e;
          term = t;
          listed = Contains-here t ts;
          reaches = refl;
          most = λ u c. subst (Le R (N.of (value u s))) e (all u c);
        },
      )
      go (inr e) = (
        z,
        record {
          sum = step ∙ e;
          term = r.term;
          listed = Contains-there t ts r.term r.listed;
          reaches = r.reaches;
          most = λ u c. subst (Le R (N.of (value u s))) e (all u c);
        },
      )

  some_sum : (t : Term) (ts : List Term) → All (FitsTerm vars) (t ∷ ts) → (z : ℤ) × IsSum (t ∷ ts) z
  some_sum t [] f = (value t s, alone t (All-head (FitsTerm vars) t [] f))
  some_sum t (u ∷ us) f =
      let rest = some_sum u us (All-tail (FitsTerm vars) t (u ∷ us) f) in
      more t (u ∷ us) rest.0 (All-head (FitsTerm vars) t (u ∷ us) f) rest.1

  -- the sum of a side with a suitable word has the side's value
  pub record HasValue (w : SideWord) (ts : List Term) (z : ℤ) : Type 0 where
    pub sum : dot R (side R N (suc vars) ts) (vector R N s) ≡ N.of z
    pub is_value : IsValueOf w s ts z

  upward : reversed ≡ false → (y z : ℤ) → Le R (N.of y) (N.of z) → y ≤ℤ z
  upward e y z h = (order_of_numbers laws numbers vars y z).1 (subst (λ b. Ordered R b (N.of y) (N.of z)) (sym e) h)

  downward : reversed ≡ true → (y z : ℤ) → Le R (N.of y) (N.of z) → z ≤ℤ y
  downward e y z h = (order_of_numbers laws numbers vars z y).1 (subst (λ b. Ordered R b (N.of z) (N.of y)) (sym e) h)

  -- a side with terms has the sum of all, where that is the value that its word asks for
  valued : (w : SideWord) (ts : List Term) → 0 < length ts → All (FitsTerm vars) ts →
      ((us : List Term) (z : ℤ) → IsSum us z → IsValueOf w s us z) → (z : ℤ) × HasValue w ts z
  valued w ts i f is_value =
      let o = first_term ts i in
      let r = some_sum o.0 o.1 (subst (All (FitsTerm vars)) o.2 f) in
      subst (λ ts. (z : ℤ) × HasValue w ts z) (sym o.2)
      (r.0, record { sum = r.1.sum; is_value = is_value (o.0 ∷ o.1) r.0 r.1 })

  pub side_value : (w : SideWord) (ts : List Term) → SuitsWord reversed w → IsSide w ts → All (FitsTerm vars) ts
      → (z : ℤ) × HasValue w ts z
  side_value One ts b i f =
      let o = one_term ts i in
      subst (λ ts. All (FitsTerm vars) ts → (z : ℤ) × HasValue One ts z) (sym o.1)
      (λ f. (
        value o.0 s,
        record {
          sum = (alone o.0 (All-head (FitsTerm vars) o.0 [] f)).sum;
          is_value = (o.0, refl, refl);
        },
      )) f
  side_value Greatest ts b i f = valued Greatest ts i f (λ us z r. record {
    term = r.term;
    listed = r.listed;
    reaches = r.reaches;
    above = λ u c. upward b (value u s) z (r.most u c);
  })
  side_value Least ts b i f = valued Least ts i f (λ us z r. record {
    term = r.term;
    listed = r.listed;
    reaches = r.reaches;
    below = λ u c. downward b (value u s) z (r.most u c);
  })
