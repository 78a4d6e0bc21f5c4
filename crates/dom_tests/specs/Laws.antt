-- The laws of the domain. They stand here since an instance names them.
use Rattle.std.proofs.Common.{◌≡◌, ◌≢◌, inl, inr, ⊎_elim, ◌≤◌, ◌==◌, ◌&&◌, ℕ, zero, suc, ℤ, pos, ◌+ℤ◌, Bool, true, false, List, [], ◌∷◌, get_or, refl, ap, sym, ◌∙◌, subst, arith}
use Rattle.std.specs.Ordering.{int_eq}
use Rattle.std.proofs.lemmas.Bool.Decides.{eqb_tells, Decides-int_eq}
use Rattle.std.proofs.lemmas.List.{get_or-set_other}
use Rattle.std.proofs.lemmas.Int.{ints}
use Rattle.prog_theory.specs.States.{State, Term, coordinate, value, changed}
use Rattle.prog_theory.specs.Edges.{Op, Skips, Sets, Havocs, Guards}
use Rattle.prog_theory.specs.Walks.{Leads}
use Rattle.dom_theory.specs.Laws.{DomainLaws}
use Rattle.dom_tests.specs.declared.known.Known.{Known}
use Rattle.dom_tests.specs.declared.known.Known.TheVariants.{Nothing, Zero, Anything}
use Rattle.dom_tests.specs.declared.first_zero.FirstZero.{FirstZero}
use Rattle.dom_tests.specs.Zero.{rank, IsKnown, is_nought, set_known, changed_known, image_of, join_of, first_zero}

-- another coordinate stays
stays : (s : State) (x : ℕ) (v : ℤ) → x ≢ 1 → coordinate (changed s x v) 1 ≡ coordinate s 1
stays s zero v d = refl
stays s (suc zero) v d = absurd (d refl)
stays s (suc (suc i)) v d = get_or-set_other s (suc i) 0 v (pos 0) (λ e. omega arith)

-- the first number becomes zero
becomes : (s : State) → coordinate (changed s 1 (pos 0)) 1 ≡ pos 0
becomes [] = refl
becomes (y ∷ s) = refl

nought_is : (t : Term) (s : State) → is_nought t ≡ true → value t s ≡ pos 0
nought_is t s h = elim (eqb_tells t.coord 0) [
  | inl w ↦
      let a : int_eq t.add (pos 0) ≡ true = subst (λ b. (b && int_eq t.add (pos 0)) ≡ true) w.0 h in
      let d : t.add ≡ pos 0 = (Decides-int_eq t.add (pos 0)).0 a in
      subst (λ c. coordinate s c +ℤ t.add ≡ pos 0) (sym w.1)
      (subst (λ z. pos 0 +ℤ z ≡ pos 0) (sym d) (omega (arith, ints)))
  | inr w ↦ absurd (let a : false ≡ true = subst (λ b. (b && int_eq t.add (pos 0)) ≡ true) w.0 h in cc)
]

set_has : (nought : Bool) (k : Known) (s t : State) → (nought ≡ true → coordinate t 1 ≡ pos 0) → IsKnown k s →
    IsKnown (set_known nought k) t
set_has b Nothing s t z h = absurd h
set_has true Zero s t z h = z refl
set_has true Anything s t z h = z refl
set_has false Zero s t z h = tt
set_has false Anything s t z h = tt

-- a state in which the coordinate is the same
same_has : (k : Known) (s t : State) → coordinate t 1 ≡ coordinate s 1 → IsKnown k s → IsKnown k t
same_has Nothing s t e h = absurd h
same_has Zero s t e h = e ∙ h
same_has Anything s t e h = tt

changed_has : (x : ℕ) (nought : Bool) (k : Known) (s : State) (v : ℤ) → (nought ≡ true → v ≡ pos 0) → IsKnown k s →
    IsKnown (changed_known (x == 1) nought k) (changed s x v)
changed_has x nought k s v z h = elim (eqb_tells x 1) [
  | inl w ↦ rw w.0 (set_has nought k s (changed s x v)
      (λ e. subst (λ y. coordinate (changed s y v) 1 ≡ pos 0) (sym w.1)
      (subst (λ u. coordinate (changed s 1 u) 1 ≡ pos 0) (sym (z e)) (becomes s))) h)
  | inr w ↦ rw w.0 (same_has k s (changed s x v) (stays s x v w.1) h)
]

image_has : (op : Op) (k : Known) (s t : State) → IsKnown k s → Leads op s t → IsKnown (image_of op k) t
image_has Skips k s t h l = subst (λ u. IsKnown k u) (sym l) h
image_has (Guards a b) k s t h l = subst (λ u. IsKnown k u) (sym l.1) h
image_has (Sets x u) k s t h l =
    subst (λ w. IsKnown (changed_known (x == 1) (is_nought u) k) w) (sym l)
    (changed_has x (is_nought u) k s (value u s) (nought_is u s) h)
image_has (Havocs x) k s t h l =
    subst (λ w. IsKnown (changed_known (x == 1) false k) w) (sym l.1)
    (changed_has x false k s l.0 (λ e. absurd (let f : false ≡ true = e in cc)) h)

within_has : (a b : Known) (s : State) → rank a ≤ rank b → IsKnown a s → IsKnown b s
within_has Nothing b s w h = absurd h
within_has Zero Nothing s w h = absurd (omega arith)
within_has Zero Zero s w h = h
within_has Zero Anything s w h = tt
within_has Anything Nothing s w h = absurd (omega arith)
within_has Anything Zero s w h = absurd (omega arith)
within_has Anything Anything s w h = tt

rank_left : (a b : Known) → rank a ≤ rank (join_of a b)
rank_left Nothing b = omega arith
rank_left Zero Nothing = omega arith
rank_left Zero Zero = omega arith
rank_left Zero Anything = omega arith
rank_left Anything b = omega arith

rank_right : (a b : Known) → rank b ≤ rank (join_of a b)
rank_right Nothing b = omega arith
rank_right Zero Nothing = omega arith
rank_right Zero Zero = omega arith
rank_right Zero Anything = omega arith
rank_right Anything Nothing = omega arith
rank_right Anything Zero = omega arith
rank_right Anything Anything = omega arith

rank_most : (a : Known) → rank a ≤ 2
rank_most Nothing = omega arith
rank_most Zero = omega arith
rank_most Anything = omega arith

abbrev known_rank : FirstZero → ℕ
known_rank v = rank v.known

pub zero_laws : (most : ℕ) → DomainLaws first_zero most
zero_laws most = record {
  vars = record {
    bottom = λ n. refl;
    top = λ n. refl;
    applied = λ op x y j. ap (λ (v : FirstZero). v.vars) j;
    joined = λ x other y j same. ap (λ (v : FirstZero). v.vars) j;
    widened = λ x next y w same. ap (λ (v : FirstZero). v.vars) w.1;
  };
  one = record {
    applied = λ op x y z p q. p ∙ sym q;
    joined = λ x other y z p q. p ∙ sym q;
    widened = λ x next y z p q. p.1 ∙ sym q.1;
    cause = λ call c d a b h k. absurd h;
    part = λ call c d a b h k. absurd h;
  };
  parts = record {
    applied = λ op x c a h. absurd h;
    joined = λ x other c a h. absurd h;
    widened = λ x next c h. h;
  };
  states = record {
    none = λ n s h. h;
    all = λ n s wide. tt;
    within = λ x y s w h. within_has x.known y.known s w h;
    applied = λ op x y s t j h leads. subst (λ (v : FirstZero). IsKnown v.known t) (sym j)
        (image_has op x.known s t h leads);
    left = λ x other y s j h. subst (λ (v : FirstZero). IsKnown v.known s) (sym j)
        (within_has x.known (join_of x.known other.known) s (rank_left x.known other.known) h);
    right = λ x other y s j h. subst (λ (v : FirstZero). IsKnown v.known s) (sym j)
        (within_has other.known (join_of x.known other.known) s (rank_right x.known other.known) h);
  };
  widths = record {
    bounded = λ x. omega arith;
    small = λ n l. omega arith;
    falls = λ x next y w. let r : rank y.known ≡ 2 = ap known_rank w.1 in let m = rank_most next.known in omega arith;
    joined = λ x other y j leaves none. let a : rank y.known ≡ rank (join_of x.known other.known) = ap known_rank j in
        let b : rank y.known ≡ 0 = ap known_rank none in let r = rank_right x.known other.known in leaves (omega arith);
    widened = λ x next y w none. let a : rank y.known ≡ 2 = ap known_rank w.1 in let b : rank y.known ≡ 0 =
        ap known_rank none in omega arith;
  };
}
