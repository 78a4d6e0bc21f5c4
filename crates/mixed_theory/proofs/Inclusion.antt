-- Images and joins grow with the values.
use Rattle.std.proofs.Common.{◌≡◌, false, ◌*◌, ◌/◌, ℕ, Option, Some, None, MatchOption, sym, ap, ◌∙◌, refl, subst, arith}
use Rattle.trop_theory.specs.Semiring.{Semiring, SemiringLaws}
use Rattle.trop_theory.specs.Numbers.{Numbering, NumericLaws}
use Rattle.prog_theory.specs.Edges.{Op}
use Rattle.prog_theory.specs.Fits.{FitsOp}
use Rattle.dom_theory.specs.Inclusion.{InclusionLaws, SoundLaws, GrowthLaws}
use Rattle.cone_domain.specs.Values.{Value}
use Rattle.cone_domain.specs.Operations.{IsIncluded}
use Rattle.cone_domain.specs.Polyhedra.{nothing, polyhedra}
use Rattle.cone_domain.proofs.Inclusion.{IsValueOn, polyhedra_inclusion}
use Rattle.mixed_theory.specs.Halves.{second_half, variables, IsHalf, IsMixedImage}
use Rattle.mixed_theory.specs.Mixed.{mixed}
use Rattle.mixed_theory.proofs.Twins.{half_of_double}
use Rattle.mixed_theory.proofs.Halves.{first_fits, second_fits}

-- a value on d variables, as the domain makes it
abbrev pub IsMixedOn : {V : Type 0} → Semiring V → ℕ → Value V → Type 0
IsMixedOn R d v = IsValueOn R (2 * d) v

module _ {V : Type 0} {R : Semiring V} {N : Numbering V} (laws : SemiringLaws R) (numbers : NumericLaws R N false)
    (d : ℕ) where
  polyhedra_laws : InclusionLaws (polyhedra R N false) (2 * d) (IsMixedOn R d)
  polyhedra_laws = polyhedra_inclusion laws numbers (2 * d)

  variables_are : (v : Value V) → IsMixedOn R d v → variables v ≡ d
  variables_are v s = ap (λ n. n / 2) s.1 ∙ half_of_double d

  -- ---- one half
  half_sound : (k : Option Op) (v w : Value V) → IsMixedOn R d v → IsHalf R N k v w → IsMixedOn R d w
  half_sound None v w s h = subst (IsMixedOn R d) (sym h) s
  half_sound (Some op) v w s h = polyhedra_laws.sound.applied op v w s h

  half_grows : (k : Option Op) (v w a b : Value V) → IsMixedOn R d v → IsMixedOn R d w → IsIncluded R v w
      → IsHalf R N k v a → IsHalf R N k w b → IsIncluded R a b
  half_grows None v w a b sv sw inside h g = subst (IsIncluded R a) (sym g)
      (subst (λ u. IsIncluded R u w) (sym h) inside)
  half_grows (Some op) v w a b sv sw inside h g = polyhedra_laws.growth.grows op v w a b sv sw inside h g

  half_exists : (k : Option Op) (v : Value V) → MatchOption k (Unit {0}) (FitsOp (2 * d)) → IsMixedOn R d v
      → (w : Value V) × IsHalf R N k v w
  half_exists None v f s = (v, refl)
  half_exists (Some op) v f s = polyhedra_laws.growth.exists op v f s

  half_of_nothing : (k : Option Op) (w : Value V) → IsHalf R N k (nothing (2 * d)) w → w ≡ nothing (2 * d)
  half_of_nothing None w h = h
  half_of_nothing (Some op) w h = polyhedra_laws.growth.image_of_bottom op w h

  -- ---- both
  image_sound : (op : Op) (v w : Value V) → IsMixedOn R d v → IsMixedImage R N op v w → IsMixedOn R d w
  image_sound op v w s h = half_sound (second_half (variables v) op) h.between w
      (polyhedra_laws.sound.applied op v h.between s h.first) h.second

  image_grows : (op : Op) (v w a b : Value V) → IsMixedOn R d v → IsMixedOn R d w → IsIncluded R v w
      → IsMixedImage R N op v a → IsMixedImage R N op w b → IsIncluded R a b
  image_grows op v w a b sv sw inside h g =
      let sound = polyhedra_laws.sound in
      let same = variables_are w sw ∙ sym (variables_are v sv) in
      half_grows (second_half (variables v) op) h.between g.between a b (sound.applied op v h.between sv h.first)
      (sound.applied op w g.between sw g.first)
      (polyhedra_laws.growth.grows op v w h.between g.between sv sw inside h.first g.first) h.second
      (subst (λ m. IsHalf R N (second_half m op) g.between b) same g.second)

  image_exists : (op : Op) (v : Value V) → FitsOp d op → IsMixedOn R d v → (w : Value V) × IsMixedImage R N op v w
  image_exists op v f s =
      let e = variables_are v s in
      let first = polyhedra_laws.growth.exists op v (first_fits d (2 * d) (omega arith) op f) s in
      let second = half_exists (second_half d op) first.0 (second_fits d (2 * d) (omega arith) op f)
      (polyhedra_laws.sound.applied op v first.0 s first.1) in (
        second.0,
        record {
          fits = subst (λ m. FitsOp m op) (sym e) f;
          between = first.0;
          first = first.1;
          second = subst (λ m. IsHalf R N (second_half m op) first.0 second.0) (sym e) second.1;
        },
      )

  image_of_nothing : (op : Op) (w : Value V) → IsMixedImage R N op (nothing (2 * d)) w → w ≡ nothing (2 * d)
  image_of_nothing op w h =
      let k = second_half (variables (nothing {V = V} (2 * d))) op in
      let same = polyhedra_laws.growth.image_of_bottom op h.between h.first in
      half_of_nothing k w (subst (λ u. IsHalf R N k u w) same h.second)

  mixed_sound : SoundLaws (mixed R N) d (IsMixedOn R d)
  mixed_sound = let sound = polyhedra_laws.sound in record {
    bottom = sound.bottom;
    top = sound.top;
    applied = image_sound;
    joined = sound.joined;
    widened = sound.widened;
  }

  mixed_growth : GrowthLaws (mixed R N) d (IsMixedOn R d)
  mixed_growth = let growth = polyhedra_laws.growth in record {
    self = growth.self;
    trans = growth.trans;
    nothing = growth.nothing;
    left = growth.left;
    right = growth.right;
    least = growth.least;
    grows = image_grows;
    exists = image_exists;
    image_of_bottom = image_of_nothing;
    join_of_bottom = growth.join_of_bottom;
  }

  pub mixed_inclusion : InclusionLaws (mixed R N) d (IsMixedOn R d)
  mixed_inclusion = record { sound = mixed_sound; growth = mixed_growth }
