-- A claim that a value proves is true at each of its states.
-- Index: proved_true.
use Rattle.std.proofs.Common.{◌≡◌, ◌⊎◌, inl, inr, ⊎_elim, ◌<◌, ℕ, suc, ℤ, false, neg_ℤ, List, [], ◌∷◌, map, length, Contains, All, refl, sym, ap, ◌∙◌, subst, subst₂, arith}
use Rattle.std.specs.Prelude.{◌≤ℤ◌}
use Rattle.std.proofs.lemmas.Int.{ints}
use Rattle.std.proofs.lemmas.List.{length-map}
use Rattle.std.proofs.lemmas.List.Elements.{All-contains, All-map, All-weaker, All-cons, All-nil}
use Rattle.plain_lemmas.proofs.Lists.{Contains-map, from_map}
use Rattle.trop_theory.specs.Semiring.{Semiring, SemiringLaws}
use Rattle.trop_theory.specs.Vectors.{dot}
use Rattle.trop_theory.specs.Numbers.{Numbering, NumericLaws}
use Rattle.prog_theory.specs.States.{State, Term, value}
use Rattle.prog_theory.specs.Statements.{Rel, AtMost, AtLeast, Same, SideWord, One, Greatest, Least, Side, Claim}
use Rattle.prog_theory.specs.Fits.{FitsTerm}
use Rattle.prog_theory.specs.Within.{IsSide, IsClaim}
use Rattle.prog_theory.proofs.Conditions.{le_both}
use Rattle.prog_theory.proofs.Elements.{Contains-here, Contains-none, Contains-cases}
use Rattle.cone_reports.specs.Sides.{side}
use Rattle.cone_reports.specs.Claims.{IsGreatest, IsLeast, IsValueOf, Relates, IsTrueOf}
use Rattle.cone_reports.proofs.Sides.{length-side}
use Rattle.cone_reports.proofs.SideValues.{side_value}
use Rattle.cone_reports.proofs.Truths.{at_most_is_order}
use Rattle.cone_domain.specs.Values.{Value, cone_of, IsValue}
use Rattle.cone_domain.proofs.Values.{value_cone}
use Rattle.cone_reports.proofs.Points.{length_from_cone}
use Rattle.mixed_theory.specs.Twins.{twin, twice, opposite_term}
use Rattle.mixed_theory.specs.Halves.{variables}
use Rattle.mixed_theory.specs.Claims.{IsSumBelow, IsOppositeBelow, IsPairBelow, IsEachBelow, IsSomeBelow, IsSideBelow, IsRelated, IsProvedOn}
use Rattle.mixed_theory.specs.Mixed.{IsProvedBy}
use Rattle.mixed_theory.proofs.Twins.{neg_falls, length-twin, opposite_within, value-twin, value-opposite}
use Rattle.mixed_theory.proofs.Laws.{length_of_state}

le_step : (x y z : ℤ) → x ≤ℤ y → y ≤ℤ z → x ≤ℤ z
le_step x y z p q = omega (arith, ints)

neg_of : (y z : ℤ) → neg_ℤ y ≡ z → y ≡ neg_ℤ z
neg_of y z e = omega (arith, ints)

neg_below : (y z : ℤ) → neg_ℤ y ≤ℤ z → neg_ℤ z ≤ℤ y
neg_below y z h = omega (arith, ints)

-- ---- the value of a side, as its greatest and as its least
module _ (s : State) where
  only : (x t : Term) → Contains (x ∷ []) t → t ≡ x
  only x t h = ⊎_elim (λ e. e) (λ k. absurd (Contains-none t k)) (Contains-cases x [] t h)

  single : (ts : List Term) (t u : Term) → length ts ≡ 1 → Contains ts t → Contains ts u → t ≡ u
  single [] t u l ht hu = absurd (omega arith)
  single (x ∷ []) t u l ht hu = only x t ht ∙ sym (only x u hu)
  single (x ∷ y ∷ ys) t u l ht hu = absurd (omega arith)

  same_value : (t u : Term) → t ≡ u → value t s ≤ℤ value u s
  same_value t u e = subst (λ x. value t s ≤ℤ value x s) e (itself (value t s))
    where
      itself : (z : ℤ) → z ≤ℤ z
      itself z = omega (arith, ints)

  -- of one term the least is the greatest
  least_is_greatest : (ts : List Term) (z : ℤ) → length ts ≡ 1 → IsLeast s ts z → IsGreatest s ts z
  least_is_greatest ts z l h = record {
    term = h.term;
    listed = h.listed;
    reaches = h.reaches;
    above = λ t c. subst (λ v. value t s ≤ℤ v) h.reaches (same_value t h.term (single ts t h.term l c h.listed));
  }

  greatest_is_least : (ts : List Term) (z : ℤ) → length ts ≡ 1 → IsGreatest s ts z → IsLeast s ts z
  greatest_is_least ts z l h = record {
    term = h.term;
    listed = h.listed;
    reaches = h.reaches;
    below = λ t c. subst (λ v. v ≤ℤ value t s) h.reaches (same_value h.term t (single ts h.term t l h.listed c));
  }

  one_is_greatest : (ts : List Term) (z : ℤ) → IsValueOf One s ts z → IsGreatest s ts z
  one_is_greatest ts z (t, e, p) = record {
    term = t;
    listed = subst (λ l. Contains l t) (sym e) (Contains-here t []);
    reaches = p;
    above = λ u c. subst (λ v. value u s ≤ℤ v) p
        (same_value u t (single ts u t (ap length e) c (subst (λ l. Contains l t) (sym e) (Contains-here t []))));
  }

  read_greatest : (w : SideWord) (ts : List Term) (z : ℤ) → ((w ≡ Greatest) ⊎ (length ts ≡ 1)) → IsValueOf w s ts z
      → IsGreatest s ts z
  read_greatest One ts z read h = one_is_greatest ts z h
  read_greatest Greatest ts z read h = h
  read_greatest Least ts z (inl e) h = absurd (cc)
  read_greatest Least ts z (inr l) h = least_is_greatest ts z l h

  read_least : (w : SideWord) (ts : List Term) (z : ℤ) → ((w ≡ Least) ⊎ (length ts ≡ 1)) → IsValueOf w s ts z
      → IsLeast s ts z
  read_least One ts z read h = greatest_is_least ts z (ap length h.1) (one_is_greatest ts z h)
  read_least Greatest ts z (inl e) h = absurd (cc)
  read_least Greatest ts z (inr l) h = greatest_is_least ts z l h
  read_least Least ts z read h = h

-- ---- at a state whose doubled vector is in the set
module _ {V : Type 0} {R : Semiring V} {N : Numbering V} (laws : SemiringLaws R) (numbers : NumericLaws R N false)
    (s : State) (vars : ℕ) (size : length (twin s) ≡ vars) where
  abbrev d : ℕ
  d = length s

  fits : (t : Term) → FitsTerm d t → FitsTerm vars t
  fits t f = omega (arith, f, size, length-twin s)

  opposite_fits : (t : Term) → FitsTerm d t → FitsTerm vars (opposite_term d t)
  opposite_fits t f = opposite_within d t.coord vars (omega (arith, size, length-twin s)) f

  opposites_fit : (ts : List Term) → All (FitsTerm d) ts → All (FitsTerm vars) (map (opposite_term d) ts)
  opposites_fit ts f = All-map (FitsTerm vars) (opposite_term d) ts
      (All-weaker (FitsTerm d) (λ t. FitsTerm vars (opposite_term d t)) opposite_fits ts f)

  -- the sum of terms has the number of their greatest value
  record HasGreatest (ts : List Term) (z : ℤ) : Type 0 where
    sum : dot R (side R N (suc vars) ts) (twice R N s) ≡ N.of z
    greatest : IsGreatest s ts z

  greatest_sum : (ts : List Term) → 0 < length ts → All (FitsTerm d) ts → (z : ℤ) × HasGreatest ts z
  greatest_sum ts some f =
      let r = side_value laws numbers vars (twin s) size Greatest ts refl some
      (All-weaker (FitsTerm d) (FitsTerm vars) fits ts f) in
      let g : IsGreatest (twin s) ts r.0 = r.1.is_value in
      let at : (t : Term) → Contains ts t → value t (twin s) ≡ value t s =
      λ t c. value-twin s t (All-contains (FitsTerm d) ts t f c) in (
        r.0,
        record {
          sum = r.1.sum;
          greatest = record {
            term = g.term;
            listed = g.listed;
            reaches = sym (at g.term g.listed) ∙ g.reaches;
            above = λ t c. subst (λ v. v ≤ℤ r.0) (at t c) (g.above t c);
          };
        },
      )

  -- the sum of the opposites has the opposite of their least value
  record HasLeast (ts : List Term) (z : ℤ) : Type 0 where
    sum : dot R (side R N (suc vars) (map (opposite_term d) ts)) (twice R N s) ≡ N.of z
    least : IsLeast s ts (neg_ℤ z)

  least_sum : (ts : List Term) → 0 < length ts → All (FitsTerm d) ts → (z : ℤ) × HasLeast ts z
  least_sum ts some f =
      let r = side_value laws numbers vars (twin s) size Greatest (map (opposite_term d) ts) refl
      (omega (arith, some, length-map ts (opposite_term d))) (opposites_fit ts f) in
      let g : IsGreatest (twin s) (map (opposite_term d) ts) r.0 = r.1.is_value in
      let from = from_map (λ a b. a) (opposite_term d) ts g.term g.listed in
      let at : (t : Term) → Contains ts t → value (opposite_term d t) (twin s) ≡ neg_ℤ (value t s) =
      λ t c. value-opposite s t (All-contains (FitsTerm d) ts t f c) in (
        r.0,
        record {
          sum = r.1.sum;
          least = record {
            term = from.0;
            listed = from.1;
            reaches = neg_of (value from.0 s) r.0
                (sym (at from.0 from.1) ∙ ap (λ t. value t (twin s)) (sym from.2) ∙ g.reaches);
            below = λ t c. neg_below (value t s) r.0
                (subst (λ v. v ≤ℤ r.0) (at t c) (g.above (opposite_term d t)
                (Contains-map (λ a b. a) (opposite_term d) ts t c)));
          };
        },
      )

  -- each side has a value
  value_exists : (w : SideWord) (ts : List Term) → IsSide w ts → All (FitsTerm d) ts → (z : ℤ) × IsValueOf w s ts z
  value_exists One ts i f = one ts i
    where
      one : (ts : List Term) → length ts ≡ 1 → (z : ℤ) × IsValueOf One s ts z
      one [] l = absurd (omega arith)
      one (t ∷ []) l = (value t s, (t, refl, refl))
      one (t ∷ u ∷ us) l = absurd (omega arith)
  value_exists Greatest ts i f = let r = greatest_sum ts i f in (r.0, r.1.greatest)
  value_exists Least ts i f = let r = least_sum ts i f in (neg_ℤ r.0, r.1.least)

  some_term : (w : SideWord) (ts : List Term) → IsSide w ts → 0 < length ts
  some_term One ts i = omega (arith, i)
  some_term Greatest ts i = i
  some_term Least ts i = i

  module _ (vectors : List V → Type 0) (has : vectors (twice R N s)) where
    module _ (ls rs : List Term) (y z : ℤ) (some_l : 0 < length ls) (some_r : 0 < length rs)
        (fl : All (FitsTerm d) ls) (fr : All (FitsTerm d) rs) where
      sum_below : IsGreatest s ls y → IsGreatest s rs z → IsSumBelow R N d (suc vars) vectors ls rs → y ≤ℤ z
      sum_below g h valid =
          let a = greatest_sum ls some_l fl in
          let b = greatest_sum rs some_r fr in
          let order = (at_most_is_order laws numbers vars (twin s) size (side R N (suc vars) ls)
          (side R N (suc vars) rs) a.0 b.0 (length-side laws numbers vars ls) (length-side laws numbers vars rs)
          a.1.sum b.1.sum).0 (valid (twice R N s) has) in
          let low : y ≤ℤ a.0 = subst (λ v. v ≤ℤ a.0) g.reaches (a.1.greatest.above g.term g.listed) in
          let high : b.0 ≤ℤ z = subst (λ v. v ≤ℤ z) b.1.greatest.reaches
          (h.above b.1.greatest.term b.1.greatest.listed) in
          le_step y a.0 z low (le_step a.0 b.0 z order high)

      opposite_below : IsLeast s ls y → IsLeast s rs z → IsOppositeBelow R N d (suc vars) vectors ls rs → y ≤ℤ z
      opposite_below g h valid =
          let a = least_sum ls some_l fl in
          let b = least_sum rs some_r fr in
          let order = (at_most_is_order laws numbers vars (twin s) size
          (side R N (suc vars) (map (opposite_term d) rs)) (side R N (suc vars) (map (opposite_term d) ls)) b.0 a.0
          (length-side laws numbers vars (map (opposite_term d) rs))
          (length-side laws numbers vars (map (opposite_term d) ls)) b.1.sum a.1.sum).0 (valid (twice R N s) has) in
          let low : y ≤ℤ neg_ℤ a.0 = subst (λ v. y ≤ℤ v) a.1.least.reaches
          (g.below a.1.least.term a.1.least.listed) in
          let high : neg_ℤ b.0 ≤ℤ z = subst (λ v. neg_ℤ b.0 ≤ℤ v) h.reaches (b.1.least.below h.term h.listed) in
          le_step y (neg_ℤ a.0) z low (le_step (neg_ℤ a.0) (neg_ℤ b.0) z (neg_falls b.0 a.0 order) high)

    one_fits : (t : Term) → FitsTerm d t → All (FitsTerm d) (t ∷ [])
    one_fits t f = All-cons (FitsTerm d) t [] f (All-nil (FitsTerm d))

    alone_greatest : (t : Term) → IsGreatest s (t ∷ []) (value t s)
    alone_greatest t = one_is_greatest s (t ∷ []) (value t s) (t, refl, refl)

    alone_least : (t : Term) → IsLeast s (t ∷ []) (value t s)
    alone_least t = greatest_is_least s (t ∷ []) (value t s) refl (alone_greatest t)

    pair_below : (l r : Term) → FitsTerm d l → FitsTerm d r → IsPairBelow R N d (suc vars) vectors l r
        → value l s ≤ℤ value r s
    pair_below l r fl fr (inl h) = sum_below (l ∷ []) (r ∷ []) (value l s) (value r s) (omega arith) (omega arith)
        (one_fits l fl) (one_fits r fr) (alone_greatest l) (alone_greatest r) h
    pair_below l r fl fr (inr h) = opposite_below (l ∷ []) (r ∷ []) (value l s) (value r s) (omega arith) (omega arith)
        (one_fits l fl) (one_fits r fr) (alone_least l) (alone_least r) h

    module _ (ls rs : List Term) (y z : ℤ) (fl : All (FitsTerm d) ls) (fr : All (FitsTerm d) rs) where
      pair_of : (l r : Term) → Contains ls l → Contains rs r → IsPairBelow R N d (suc vars) vectors l r
          → value l s ≤ℤ value r s
      pair_of l r cl cr = pair_below l r (All-contains (FitsTerm d) ls l fl cl) (All-contains (FitsTerm d) rs r fr cr)

      each_below : IsGreatest s ls y → IsLeast s rs z → IsEachBelow R N d (suc vars) vectors ls rs → y ≤ℤ z
      each_below g h each =
          let P = IsPairBelow R N d (suc vars) vectors in
          subst₂ (λ a b. a ≤ℤ b) g.reaches h.reaches (pair_of g.term h.term g.listed h.listed
          (All-contains (P g.term) rs h.term (All-contains (λ l. All (P l) rs) ls g.term each g.listed) h.listed))

      some_below : IsLeast s ls y → IsGreatest s rs z → IsSomeBelow R N d (suc vars) vectors ls rs → y ≤ℤ z
      some_below g h (j, l, jl, je, (k, r, kl, ke, p)) =
          le_step y (value l s) z (g.below l (j, jl, je))
          (le_step (value l s) (value r s) z (pair_of l r (j, jl, je) (k, kl, ke) p) (h.above r (k, kl, ke)))

    side_below : (l r : Side) (y z : ℤ) → IsSide l.word l.terms → IsSide r.word r.terms → All (FitsTerm d) l.terms
        → All (FitsTerm d) r.terms → IsValueOf l.word s l.terms y → IsValueOf r.word s r.terms z
        → IsSideBelow R N d (suc vars) vectors l r → y ≤ℤ z
    side_below l r y z il ir fl fr g h p = go p
      where
        some_l : 0 < length l.terms
        some_l = some_term l.word l.terms il

        some_r : 0 < length r.terms
        some_r = some_term r.word r.terms ir

        go : IsSideBelow R N d (suc vars) vectors l r → y ≤ℤ z
        go (inl (rl, rr, v)) = sum_below l.terms r.terms y z some_l some_r fl fr
            (read_greatest s l.word l.terms y rl g) (read_greatest s r.word r.terms z rr h) v
        go (inr (inl (rl, rr, v))) = opposite_below l.terms r.terms y z some_l some_r fl fr
            (read_least s l.word l.terms y rl g) (read_least s r.word r.terms z rr h) v
        go (inr (inr (inl (rl, rr, v)))) = each_below l.terms r.terms y z fl fr
            (read_greatest s l.word l.terms y rl g) (read_least s r.word r.terms z rr h) v
        go (inr (inr (inr (rl, rr, v)))) = some_below l.terms r.terms y z fl fr
            (read_least s l.word l.terms y rl g) (read_greatest s r.word r.terms z rr h) v

    related_true : (rel : Rel) (l r : Side) (y z : ℤ) → IsSide l.word l.terms → IsSide r.word r.terms
        → All (FitsTerm d) l.terms → All (FitsTerm d) r.terms → IsValueOf l.word s l.terms y
        → IsValueOf r.word s r.terms z → IsRelated R N d (suc vars) vectors rel l r → Relates rel y z
    related_true AtMost l r y z il ir fl fr g h p = side_below l r y z il ir fl fr g h p
    related_true AtLeast l r y z il ir fl fr g h p = side_below r l z y ir il fr fl h g p
    related_true Same l r y z il ir fl fr g h p = le_both y z (side_below l r y z il ir fl fr g h p.0)
        (side_below r l z y ir il fr fl h g p.1)

    claim_true : (claim : Claim) → IsClaim claim → All (FitsTerm d) claim.left.terms
        → All (FitsTerm d) claim.right.terms → IsProvedOn R N d (suc vars) vectors claim → IsTrueOf claim s
    claim_true claim sides fl fr p =
        let a = value_exists claim.left.word claim.left.terms sides.0 fl in
        let b = value_exists claim.right.word claim.right.terms sides.1 fr in
        record {
          first = a.0;
          second = b.0;
          is_first = a.1;
          is_second = b.1;
          related = related_true claim.rel claim.left claim.right a.0 b.0 sides.0 sides.1 fl fr a.1 b.1 p;
        }

module _ {V : Type 0} {R : Semiring V} {N : Numbering V} (laws : SemiringLaws R) (numbers : NumericLaws R N false) where
  pub proved_true : (claim : Claim) (v : Value V) → IsValue R v → IsClaim claim
      → All (FitsTerm (variables v)) claim.left.terms → All (FitsTerm (variables v)) claim.right.terms
      → IsProvedBy R N claim v → (s : State) → cone_of R v (twice R N s) → IsTrueOf claim s
  proved_true claim v value sides fl fr p s has =
      let same = length_of_state laws numbers v s value has in
      claim_true laws numbers s v.vars
      (length_from_cone laws numbers v.vars (cone_of R v) (value_cone laws v value) (twin s) has) (cone_of R v) has
      claim sides
      (subst (λ d. All (FitsTerm d) claim.left.terms) same fl)
      (subst (λ d. All (FitsTerm d) claim.right.terms) same fr)
      (subst (λ d. IsProvedOn R N d (suc v.vars) (cone_of R v) claim) same p)
