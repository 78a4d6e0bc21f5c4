-- The image of a cone: what an operation makes of it where that has a point, and else bottom alone.
use Rattle.std.proofs.Common.{◌≡◌, ◌+◌, ◌^◌, ◌<◌, ◌≤◌, inl, inr, ℕ, ℤ, Bool, true, false, List, refl, sym, ap, ◌∙◌, subst, subst₂, arith, w64}
use Rattle.std.specs.Prelude.{◌↔◌, IsTrue, Result, Ok, Err, unsigned_abs}
use Rattle.std.proofs.lemmas.Int.{to_z-of_z, fits_signed_from_abs}
use mir.Val.{of_z, to_z}
use Rattle.std.proofs.lemmas.List.{get_or-set_other}
use Rattle.trop_theory.specs.Semiring.{Semiring, SemiringLaws}
use Rattle.trop_theory.specs.Vectors.{entry, bottom, row_size}
use Rattle.trop_theory.specs.Numbers.{Numbering, NumericLaws}
use Rattle.trop_theory.specs.Inequalities.{Inequality, inequality_size}
use Rattle.trop_theory.specs.Combinations.{IsCombination}
use Rattle.trop_cones.specs.Sets.{IsBottom, assigned}
use Rattle.trop_cones.specs.Represents.{Represents}
use Rattle.trop_cones.proofs.Sizes.{row_size-set, row_size-bottom}
use Rattle.trop_cones.proofs.Represented.{Represents-same}
use Rattle.trop_duality.proofs.Polars.{IsOverLimit-same}
use Rattle.trop_poly.specs.Cones.{Cone, InCone}
use Rattle.trop_poly.specs.declared.error.PolyErr.{PolyErr}
use Rattle.trop_poly.specs.declared.error.PolyErr.TheVariants as cones
use Rattle.prog_theory.specs.States.{Term}
use Rattle.prog_theory.specs.Edges.{Sets, Havocs}
use Rattle.prog_theory.specs.Within.{IsNumberWithin}
use Rattle.cone_reports.specs.Sides.{term_side, guard_inequality}
use Rattle.cone_reports.specs.Images.{InMoved, HasPoint, InPointed}
use Rattle.dom_poly.specs.Answers.{IsConeFor}

module _ {V : Type 0} (R : Semiring V) (N : Numbering V) (reversed : Bool) (n : ℕ) (cone : List V → Type 0) where
  -- an assignment to another coordinate leaves coordinate 0
  pub sets_point : (x : ℕ) (t : Term) → 0 < x →
      HasPoint R cone ↔ HasPoint R (InMoved R N reversed n (Sets x t) cone)
  sets_point x t l = (
    λ p. record {
      point = assigned R x t.coord (N.of t.add) p.point;
      member = record { before = p.point; member = p.member; replaced = refl };
      finite = λ z. p.finite (sym (get_or-set_other p.point x 0 _ R.zero (λ e. omega arith)) ∙ z);
    },
    λ p. record {
      point = p.member.before;
      member = p.member.member;
      finite = λ z. p.finite (ap (λ v. entry R v 0) p.member.replaced
          ∙ get_or-set_other p.member.before x 0 _ R.zero (λ e. omega arith) ∙ z);
    },
  )

  pub havocs_point : (x : ℕ) → 0 < x → HasPoint R cone ↔ HasPoint R (InMoved R N reversed n (Havocs x) cone)
  havocs_point x l = (
    λ p. record {
      point = p.point;
      member = record { other = p.point; member = p.member; wide = refl; agrees = λ j d. refl };
      finite = p.finite;
    },
    λ p. record {
      point = p.member.other;
      member = p.member.member;
      finite = λ z. p.finite (p.member.agrees 0 (λ e. omega arith) ∙ z);
    },
  )

module _ {V : Type 0} {R : Semiring V} (laws : SemiringLaws R) (n : ℕ) (vectors : List V → Type 0) where
  with_point : HasPoint R vectors → (x : List V) → vectors x ↔ InPointed R n vectors x
  with_point p x = (λ h. inl (p, h), λ h. elim h [ inl w ↦ w.1 | inr w ↦ absurd (w.0 p) ])

  without_point : (HasPoint R vectors → ⊥) → (x : List V) → IsBottom R n x ↔ InPointed R n vectors x
  without_point none x = (λ h. inr (none, h), λ h. elim h [ inl w ↦ absurd (none w.0) | inr w ↦ w.1 ])

  -- the set has a point
  pub pointed : HasPoint R vectors → (result : Result (Cone V) PolyErr) → IsConeFor R n vectors result →
      IsConeFor R n (InPointed R n vectors) result
  pointed p (Ok cone) h =
      (h.0, Represents-same n vectors (InPointed R n vectors) (with_point p) cone.rows h.1)
  pointed p (Err (cones.Rows k)) h = IsOverLimit-same laws n vectors (InPointed R n vectors) (with_point p) h
  pointed p (Err (cones.Polar i k)) h = absurd h
  pointed p (Err cones.NoMemory) h = tt

  -- it has none
  pub unpointed : (HasPoint R vectors → ⊥) → (cone : Cone V) → cone.n ≡ n →
      Represents R n (IsBottom R n) cone.rows → IsConeFor R n (InPointed R n vectors) (Ok cone)
  unpointed none cone width h =
      (width, Represents-same n (IsBottom R n) (InPointed R n vectors) (without_point none) cone.rows h)

-- ---- the numbers of a guard
module _ {V : Type 0} {R : Semiring V} {N : Numbering V} {reversed : Bool} (laws : SemiringLaws R)
    (numbers : NumericLaws R N reversed) (n m : ℕ) where
  term_small : (t : Term) → IsNumberWithin m t → row_size R (term_side R N n t) ≤ m
  term_small t h = row_size-set laws (bottom R n) t.coord (N.of t.add) m (row_size-bottom laws n m)
      (omega (arith, numbers.size (N.of t.add) t.add (numbers.to-of t.add), h))

  guard_small_by : (b : Bool) (l r : Term) → IsNumberWithin m l → IsNumberWithin m r →
      inequality_size R (guard_inequality R N b n l r) ≤ m
  guard_small_by false l r h k = omega (arith, term_small l h, term_small r k)
  guard_small_by true l r h k = omega (arith, term_small l h, term_small r k)

  pub guard_small : (l r : Term) (p : Inequality V) → IsNumberWithin m l → IsNumberWithin m r →
      p ≡ guard_inequality R N reversed n l r → inequality_size R p ≤ m
  guard_small l r p h k e = subst (λ q. inequality_size R q ≤ m) (sym e) (guard_small_by reversed l r h k)

  -- the number of a term
  pub number_small : (t : Term) → IsNumberWithin m t → R.size (N.of t.add) ≤ m
  number_small t h = omega (arith, numbers.size (N.of t.add) t.add (numbers.to-of t.add), h)

-- a number of an operation is that of the code
pub number_kept : (x : ℤ) → unsigned_abs x ≤ 2 ^ 31 + 1 → to_z w64 (of_z w64 x) ≡ x
number_kept x small = to_z-of_z w64 x (fits_signed_from_abs w64 x (omega (arith, small)))

-- what is found of the rows of a cone, of the cone
pub judged_rows : {V : Type 0} (R : Semiring V) (cone : Cone V) (n : ℕ) (rows : List (List V)) (b : Bool)
    (P : (List V → Type 0) → List V → Type 0) → n ≡ cone.n → rows ≡ cone.rows
    → IsTrue b ↔ HasPoint R (P (IsCombination R n rows)) → IsTrue b ↔ HasPoint R (P (InCone R cone))
judged_rows R cone n rows b P width same h =
    subst₂ (λ m list. IsTrue b ↔ HasPoint R (P (IsCombination R m list))) width same h

-- the cone itself
pub skipped : {V : Type 0} (R : Semiring V) (n : ℕ) (cone next : Cone V) → next ≡ cone → cone.n ≡ n →
    Represents R n (IsCombination R n cone.rows) cone.rows → IsConeFor R n (IsCombination R n cone.rows) (Ok next)
skipped R n cone next is width h = (
  ap (λ (k : Cone _). k.n) is ∙ width,
  subst (λ rows. Represents R n (IsCombination R n cone.rows) rows) (sym (ap (λ (k : Cone _). k.rows) is)) h,
)
