-- A claim that is proved on a zone is true at each of its states: sides have values, and pairs of terms relate them.
-- Index: Compared-weaker, proved-true.
use Rattle.std.proofs.Common.{◌≡◌, ⊎_elim, ℕ, ◌≤ℤ◌, ℤ, List, [], ◌∷◌, All, Any, Option, Some, None, refl, sym, subst, arith}
use Rattle.std.proofs.lemmas.List.Elements.{All-weaker, All-contains}
use Rattle.std.proofs.lemmas.Int.{ints}
use Rattle.prog_theory.specs.States.{State, Term, value}
use Rattle.prog_theory.specs.Statements.{SideWord, One, Greatest, Least, Rel, AtMost, AtLeast, Same, Side, Claim}
use Rattle.prog_theory.specs.Within.{IsSide, IsClaim}
use Rattle.prog_theory.proofs.Elements.{Contains-none, Contains-here, Contains-there, Contains-cases}
use Rattle.cone_reports.specs.Claims.{IsGreatest, IsLeast, IsValueOf, Relates, IsTrueOf}
use Rattle.zone_theory.specs.Matrices.{Matrix, InZone}
use Rattle.zone_theory.specs.Zones.{Has}
use Rattle.zone_theory.specs.Claims.{Below, Compared, IsProved}
use Rattle.zone_theory.proofs.Bounds.{le_total, le_both}

le_itself : (x : ℤ) → x ≤ℤ x
le_itself x = omega (arith, ints)

le_step : (x y z : ℤ) → x ≤ℤ y → y ≤ℤ z → x ≤ℤ z
le_step x y z p q = omega (arith, ints)

Any-weaker : (P Q : Term → Type 0) → ((x : Term) → P x → Q x) → (xs : List Term) → Any P xs → Any Q xs
Any-weaker P Q h xs a = (a.0, a.1, a.2, a.3, h a.1 a.4)

module _ (P Q : Term → Term → Type 0) (h : (l r : Term) → P l r → Q l r) where
  all_any : (ls rs : List Term) → All (λ l. Any (λ r. P l r) rs) ls → All (λ l. Any (λ r. Q l r) rs) ls
  all_any ls rs = All-weaker (λ l. Any (λ r. P l r) rs) (λ l. Any (λ r. Q l r) rs)
      (λ l. Any-weaker (λ r. P l r) (λ r. Q l r) (h l) rs) ls

  all_all : (ls rs : List Term) → All (λ l. All (λ r. P l r) rs) ls → All (λ l. All (λ r. Q l r) rs) ls
  all_all ls rs = All-weaker (λ l. All (λ r. P l r) rs) (λ l. All (λ r. Q l r) rs)
      (λ l. All-weaker (λ r. P l r) (λ r. Q l r) (h l) rs) ls

  any_any : (ls rs : List Term) → Any (λ l. Any (λ r. P l r) rs) ls → Any (λ l. Any (λ r. Q l r) rs) ls
  any_any ls rs = Any-weaker (λ l. Any (λ r. P l r) rs) (λ l. Any (λ r. Q l r) rs)
      (λ l. Any-weaker (λ r. P l r) (λ r. Q l r) (h l) rs) ls

  all_any_back : (ls rs : List Term) → All (λ r. Any (λ l. P l r) ls) rs → All (λ r. Any (λ l. Q l r) ls) rs
  all_any_back ls rs = All-weaker (λ r. Any (λ l. P l r) ls) (λ r. Any (λ l. Q l r) ls)
      (λ r. Any-weaker (λ l. P l r) (λ l. Q l r) (λ l. h l r) ls) rs

  Below-weaker : (v : SideWord) (ls : List Term) (w : SideWord) (rs : List Term) → Below P v ls w rs → Below Q v ls w rs
  Below-weaker Greatest ls Greatest rs k = all_any ls rs k
  Below-weaker Greatest ls One rs k = all_any ls rs k
  Below-weaker Greatest ls Least rs k = all_all ls rs k
  Below-weaker One ls Greatest rs k = all_any ls rs k
  Below-weaker One ls One rs k = all_all ls rs k
  Below-weaker One ls Least rs k = all_all ls rs k
  Below-weaker Least ls Greatest rs k = any_any ls rs k
  Below-weaker Least ls One rs k = all_any_back ls rs k
  Below-weaker Least ls Least rs k = all_any_back ls rs k

  pub Compared-weaker : (rel : Rel) (l r : Side) → Compared P rel l r → Compared Q rel l r
  Compared-weaker AtMost l r k = Below-weaker l.word l.terms r.word r.terms k
  Compared-weaker AtLeast l r k = Below-weaker r.word r.terms l.word l.terms k
  Compared-weaker Same l r k =
      (Below-weaker l.word l.terms r.word r.terms k.0, Below-weaker r.word r.terms l.word l.terms k.1)

-- the value of one term is the greatest and the least of it
alone_greatest : (s : State) (t : Term) → IsGreatest s (t ∷ []) (value t s)
alone_greatest s t = record {
  term = t;
  listed = Contains-here t [];
  reaches = refl;
  above = λ u c. ⊎_elim (λ e. subst (λ u. value u s ≤ℤ value t s) (sym e) (le_itself (value t s)))
      (λ k. absurd (Contains-none u k)) (Contains-cases t [] u c);
}

alone_least : (s : State) (t : Term) → IsLeast s (t ∷ []) (value t s)
alone_least s t = record {
  term = t;
  listed = Contains-here t [];
  reaches = refl;
  below = λ u c. ⊎_elim (λ e. subst (λ u. value t s ≤ℤ value u s) (sym e) (le_itself (value t s)))
      (λ k. absurd (Contains-none u k)) (Contains-cases t [] u c);
}

-- each side that has a term has a greatest value, and a least one
greatest_exists : (s : State) (t : Term) (ts : List Term) → (z : ℤ) × IsGreatest s (t ∷ ts) z
greatest_exists s t [] = (value t s, alone_greatest s t)
greatest_exists s t (v ∷ ts) = let r = greatest_exists s v ts in ⊎_elim (λ h. first r.0 r.1 h) (λ h. rest r.0 r.1 h)
    (le_total r.0 (value t s))
  where
    first : (z : ℤ) → IsGreatest s (v ∷ ts) z → z ≤ℤ value t s → (z : ℤ) × IsGreatest s (t ∷ v ∷ ts) z
    first z g h = (
      value t s,
      record {
        term = t;
        listed = Contains-here t (v ∷ ts);
        reaches = refl;
        above = λ u c. ⊎_elim (λ e. subst (λ u. value u s ≤ℤ value t s) (sym e) (le_itself (value t s)))
            (λ k. le_step (value u s) z (value t s) (g.above u k) h) (Contains-cases t (v ∷ ts) u c);
      },
    )

    rest : (z : ℤ) → IsGreatest s (v ∷ ts) z → value t s ≤ℤ z → (z : ℤ) × IsGreatest s (t ∷ v ∷ ts) z
    rest z g h = (
      z,
      record {
        term = g.term;
        listed = Contains-there t (v ∷ ts) g.term g.listed;
        reaches = g.reaches;
        above = λ u c. ⊎_elim (λ e. subst (λ u. value u s ≤ℤ z) (sym e) h) (λ k. g.above u k)
            (Contains-cases t (v ∷ ts) u c);
      },
    )

least_exists : (s : State) (t : Term) (ts : List Term) → (z : ℤ) × IsLeast s (t ∷ ts) z
least_exists s t [] = (value t s, alone_least s t)
least_exists s t (v ∷ ts) = let r = least_exists s v ts in ⊎_elim (λ h. rest r.0 r.1 h) (λ h. first r.0 r.1 h)
    (le_total r.0 (value t s))
  where
    first : (z : ℤ) → IsLeast s (v ∷ ts) z → value t s ≤ℤ z → (z : ℤ) × IsLeast s (t ∷ v ∷ ts) z
    first z g h = (
      value t s,
      record {
        term = t;
        listed = Contains-here t (v ∷ ts);
        reaches = refl;
        below = λ u c. ⊎_elim (λ e. subst (λ u. value t s ≤ℤ value u s) (sym e) (le_itself (value t s)))
            (λ k. le_step (value t s) z (value u s) h (g.below u k)) (Contains-cases t (v ∷ ts) u c);
      },
    )

    rest : (z : ℤ) → IsLeast s (v ∷ ts) z → z ≤ℤ value t s → (z : ℤ) × IsLeast s (t ∷ v ∷ ts) z
    rest z g h = (
      z,
      record {
        term = g.term;
        listed = Contains-there t (v ∷ ts) g.term g.listed;
        reaches = g.reaches;
        below = λ u c. ⊎_elim (λ e. subst (λ u. z ≤ℤ value u s) (sym e) h) (λ k. g.below u k)
            (Contains-cases t (v ∷ ts) u c);
      },
    )

-- and so each side has a value
value_exists : (w : SideWord) (s : State) (ts : List Term) → IsSide w ts → (z : ℤ) × IsValueOf w s ts z
value_exists One s [] l = absurd (omega arith)
value_exists One s (t ∷ []) l = (value t s, (t, refl, refl))
value_exists One s (t ∷ u ∷ us) l = absurd (omega arith)
value_exists Greatest s [] l = absurd (omega arith)
value_exists Greatest s (t ∷ ts) l = greatest_exists s t ts
value_exists Least s [] l = absurd (omega arith)
value_exists Least s (t ∷ ts) l = least_exists s t ts

-- the value of a side of one term is its greatest and its least
one_greatest : (s : State) (ts : List Term) (z : ℤ) → IsValueOf One s ts z → IsGreatest s ts z
one_greatest s ts z h = subst (λ us. IsGreatest s us z) (sym h.1)
    (subst (IsGreatest s (h.0 ∷ [])) h.2 (alone_greatest s h.0))

one_least : (s : State) (ts : List Term) (z : ℤ) → IsValueOf One s ts z → IsLeast s ts z
one_least s ts z h = subst (λ us. IsLeast s us z) (sym h.1) (subst (IsLeast s (h.0 ∷ [])) h.2 (alone_least s h.0))

module _ (s : State) where
  -- what the pairs say at the state
  abbrev AtState : Term → Term → Type 0
  AtState l r = value l s ≤ℤ value r s

  -- the term on the right above the one that reaches y
  above_one : (rs : List Term) (l : Term) (y z : ℤ) → value l s ≡ y → IsGreatest s rs z → Any (λ r. AtState l r) rs
      → y ≤ℤ z
  above_one rs l y z e h a =
      subst (λ x. x ≤ℤ z) e (le_step (value l s) (value a.1 s) z a.4 (h.above a.1 (a.0, a.2, a.3)))

  most_most : (ls rs : List Term) (y z : ℤ) → IsGreatest s ls y → IsGreatest s rs z
      → All (λ l. Any (λ r. AtState l r) rs) ls → y ≤ℤ z
  most_most ls rs y z g h a = above_one rs g.term y z g.reaches h
      (All-contains (λ l. Any (λ r. AtState l r) rs) ls g.term a g.listed)

  most_least : (ls rs : List Term) (y z : ℤ) → IsGreatest s ls y → IsLeast s rs z
      → All (λ l. All (λ r. AtState l r) rs) ls → y ≤ℤ z
  most_least ls rs y z g h a = subst (λ x. y ≤ℤ x) h.reaches
      (subst (λ x. x ≤ℤ value h.term s) g.reaches (All-contains (λ r. AtState g.term r) rs h.term
      (All-contains (λ l. All (λ r. AtState l r) rs) ls g.term a g.listed) h.listed))

  least_most : (ls rs : List Term) (y z : ℤ) → IsLeast s ls y → IsGreatest s rs z
      → Any (λ l. Any (λ r. AtState l r) rs) ls → y ≤ℤ z
  least_most ls rs y z g h a = le_step y (value a.1 s) z (g.below a.1 (a.0, a.2, a.3))
      (above_one rs a.1 (value a.1 s) z refl h a.4)

  least_least : (ls rs : List Term) (y z : ℤ) → IsLeast s ls y → IsLeast s rs z
      → All (λ r. Any (λ l. AtState l r) ls) rs → y ≤ℤ z
  least_least ls rs y z g h a = let r = All-contains (λ r. Any (λ l. AtState l r) ls) rs h.term a h.listed in subst
      (λ x. y ≤ℤ x) h.reaches (le_step y (value r.1 s) (value h.term s) (g.below r.1 (r.0, r.2, r.3)) r.4)

  -- the values of the sides are so related
  values_below : (v : SideWord) (ls : List Term) (w : SideWord) (rs : List Term) (y z : ℤ) → IsValueOf v s ls y
      → IsValueOf w s rs z → Below (λ l r. AtState l r) v ls w rs → y ≤ℤ z
  values_below Greatest ls Greatest rs y z g h a = most_most ls rs y z g h a
  values_below Greatest ls One rs y z g h a = most_most ls rs y z g (one_greatest s rs z h) a
  values_below Greatest ls Least rs y z g h a = most_least ls rs y z g h a
  values_below One ls Greatest rs y z g h a = most_most ls rs y z (one_greatest s ls y g) h a
  values_below One ls One rs y z g h a = most_least ls rs y z (one_greatest s ls y g) (one_least s rs z h) a
  values_below One ls Least rs y z g h a = most_least ls rs y z (one_greatest s ls y g) h a
  values_below Least ls Greatest rs y z g h a = least_most ls rs y z g h a
  values_below Least ls One rs y z g h a = least_least ls rs y z g (one_least s rs z h) a
  values_below Least ls Least rs y z g h a = least_least ls rs y z g h a

  compared_true : (rel : Rel) (l r : Side) (y z : ℤ) → IsValueOf l.word s l.terms y → IsValueOf r.word s r.terms z
      → Compared (λ l r. AtState l r) rel l r → Relates rel y z
  compared_true AtMost l r y z g h a = values_below l.word l.terms r.word r.terms y z g h a
  compared_true AtLeast l r y z g h a = values_below r.word r.terms l.word l.terms z y h g a
  compared_true Same l r y z g h a = le_both y z (values_below l.word l.terms r.word r.terms y z g h a.0)
      (values_below r.word r.terms l.word l.terms z y h g a.1)

-- a claim that is proved on a zone is true at each of its states
pub proved-true : (d : ℕ) (x : Option Matrix) (c : Claim) → IsClaim c → IsProved d x c → (s : State) → Has d x s
    → IsTrueOf c s
proved-true d None c sides p s z = absurd z
proved-true d (Some m) c sides p s z =
    let y = value_exists c.left.word s c.left.terms sides.0 in
    let w = value_exists c.right.word s c.right.terms sides.1 in
    record {
      first = y.0;
      second = w.0;
      is_first = y.1;
      is_second = w.1;
      related = compared_true s c.rel c.left c.right y.0 w.0 y.1 w.1
          (Compared-weaker (λ l r. (s : State) → InZone d m s → value l s ≤ℤ value r s) (λ l r. value l s ≤ℤ value r s)
          (λ l r h. h s z) c.rel c.left c.right p);
    }
