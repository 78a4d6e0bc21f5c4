-- Which cones have the states.
use Rattle.std.proofs.Common.{◌≡◌, inl, ℕ, suc, List, length, sym, ap, ◌∙◌, refl, arith, ap₂}
use Rattle.std.proofs.lemmas.List.{length-replicate, length-map}
use Rattle.trop_theory.specs.Semiring.{Semiring, SemiringLaws}
use Rattle.trop_theory.specs.Vectors.{entry, scaled, joined, bottom}
use Rattle.trop_theory.specs.Numbers.{Numbering, NumericLaws}
use Rattle.trop_theory.proofs.Rows.{length-joined, joined_bottom, scaled-bottom}
use Rattle.trop_cones.specs.Cones.{IsCone}
use Rattle.trop_cones.specs.Sets.{InJoin, IsVector, IsBottom}
use Rattle.trop_cones.proofs.Operations.{join_has_first, join_has_second}
use Rattle.prog_theory.specs.States.{State}
use Rattle.cone_reports.specs.Vectors.{vector, HasState}
use Rattle.cone_reports.specs.Images.{InPointed}
use Rattle.cone_reports.proofs.Entries.{length-vector}

module _ {V : Type 0} {R : Semiring V} {N : Numbering V} {reversed : _} (laws : SemiringLaws R)
    (numbers : NumericLaws R N reversed) (vars : ℕ) where
  -- everything has every state
  pub everything_has : (s : State) → length s ≡ vars → HasState R N (IsVector (suc vars)) s
  everything_has s l = length-vector laws numbers s vars l

  -- bottom has none
  pub nothing_has_none : (s : State) → HasState R N (IsBottom R (suc vars)) s → ⊥
  nothing_has_none s e = laws.one_finite (ap (λ x. entry R x 0) e)

  -- the states of a cone have as many numbers as there are variables
  pub length_from_cone : (cone : List V → Type 0) → IsCone R (suc vars) cone → (s : State) → HasState R N cone s
      → length s ≡ vars
  length_from_cone cone c s h = let w : suc (length s) ≡ suc vars = sym (length-vector laws numbers s (length s) refl)
      ∙ c.wide (vector R N s) h in omega arith

  -- a join has the states of both
  pub join_has_left : (C D : List V → Type 0) → IsCone R (suc vars) C → IsCone R (suc vars) D → (s : State)
      → HasState R N C s → HasState R N (InJoin R C D) s
  join_has_left C D c d s h = join_has_first laws (suc vars) C D c d (vector R N s) h

  pub join_has_right : (C D : List V → Type 0) → IsCone R (suc vars) C → IsCone R (suc vars) D → (s : State)
      → HasState R N D s → HasState R N (InJoin R C D) s
  join_has_right C D c d s h = join_has_second laws (suc vars) C D c d (vector R N s) h

  -- a set with the vector of a state has a point, and so it is kept
  pub pointed_has : (vectors : List V → Type 0) (s : State) → vectors (vector R N s)
      → InPointed R (suc vars) vectors (vector R N s)
  pointed_has vectors s h = inl (record { point = vector R N s; member = h; finite = laws.one_finite }, h)

module _ {V : Type 0} {R : Semiring V} (laws : SemiringLaws R) where
  -- everything is a cone
  pub everything_is_cone : (n : ℕ) → IsCone R n (IsVector {V = V} n)
  everything_is_cone n = record {
    wide = λ x h. h;
    bottom = length-replicate n R.zero;
    sums = λ x y h k. length-joined R x y n h k;
    multiples = λ c x h. length-map x (R.times c) ∙ h;
  }

  -- bottom alone is a cone
  pub nothing_is_cone : (n : ℕ) → IsCone R n (IsBottom R n)
  nothing_is_cone n = record {
    wide = λ x h. ap length h ∙ length-replicate n R.zero;
    bottom = refl;
    sums = λ x y h k. two x y h k;
    multiples = λ c x h. ap (scaled R c) h ∙ scaled-bottom laws c n;
  }
    where
      two : (x y : List V) → x ≡ bottom R n → y ≡ bottom R n → joined R x y ≡ bottom R n
      two x y h k = ap₂ (joined R) (h ∙ ap (bottom R) (sym (length-replicate n R.zero))) k
          ∙ joined_bottom laws (bottom R n)
