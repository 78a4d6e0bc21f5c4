-- Values of terms and changes of states, as the code reads and writes them.
use Rattle.std.proofs.Common.{◌≡◌, ℕ, zero, suc, ◌+◌, ◌-◌, ◌<◌, ◌≤◌, ◌^◌, ℤ, pos, ◌+ℤ◌, unsigned_abs, List, length, All, refl, sym, ap, subst, arith}
use Rattle.std.specs.Prelude.{slice_index_or, slice_set, FitsSigned}
use Rattle.std.specs.Int.{w64}
use Rattle.std.proofs.lemmas.Int.{ints, fits_signed_from_abs, to_z-of_z}
use mir.Val.{to_z, of_z}
use Rattle.std.proofs.lemmas.List.{length-set}
use Rattle.std.proofs.lemmas.List.Elements.{All-set}
use Rattle.prog_theory.specs.States.{State, Term, coordinate, value, changed}
use Rattle.prog_run.specs.Ready.{AreWithin}

pub coordinate_at : (s : State) (c : ℕ) → 0 < c → coordinate s c ≡ slice_index_or s (c - 1) (pos 0)
coordinate_at s zero h = absurd (omega arith)
coordinate_at s (suc i) h = let e : i ≡ suc i - 1 = omega arith in ap (λ (k : ℕ). slice_index_or s k (pos 0)) e

pub changed_at : (s : State) (x : ℕ) (v : ℤ) → 0 < x → changed s x v ≡ slice_set s (x - 1) v
changed_at s zero v h = absurd (omega arith)
changed_at s (suc i) v h = let e : i ≡ suc i - 1 = omega arith in ap (λ (k : ℕ). slice_set s k v) e

-- ---- sizes

pub coordinate_within : (n : ℕ) (s : State) (c : ℕ) → AreWithin n s → c ≤ length s → unsigned_abs (coordinate s c) ≤ n
coordinate_within n s zero h l = omega arith
coordinate_within n s (suc i) h l = h i (pos 0) (omega arith)

abs_add : (a b : ℤ) (m n : ℕ) → unsigned_abs a ≤ m → unsigned_abs b ≤ n → unsigned_abs (a +ℤ b) ≤ m + n
abs_add a b m n h g = omega (arith, ints)

pub value_within : (n m : ℕ) (s : State) (t : Term) → AreWithin n s → t.coord ≤ length s → unsigned_abs t.add ≤ m →
    unsigned_abs (value t s) ≤ n + m
value_within n m s t h l g = abs_add (coordinate s t.coord) t.add n m (coordinate_within n s t.coord h l) g

pub more_within : (n m : ℕ) (s : List ℤ) → n ≤ m → AreWithin n s → AreWithin m s
more_within n m s l h = λ k d i. let g = h k d i in omega arith

pub changed_within : (n : ℕ) (s : State) (x : ℕ) (v : ℤ) → AreWithin n s → unsigned_abs v ≤ n →
    AreWithin n (changed s x v)
changed_within n s zero v h g = h
changed_within n s (suc i) v h g = All-set (λ (v : ℤ). unsigned_abs v ≤ n) s i v g h

pub changed_length : (s : State) (x : ℕ) (v : ℤ) → length (changed s x v) ≡ length s
changed_length s zero v = refl
changed_length s (suc i) v = length-set s i v

-- the value of a term can be computed
pub value_fits : (s : State) (t : Term) (x : ℤ) → x ≡ coordinate s t.coord → AreWithin (2 ^ 62) s → t.coord ≤ length s
    → unsigned_abs t.add ≤ 2 ^ 31 → FitsSigned w64 (to_z w64 (of_z w64 x) +ℤ to_z w64 (of_z w64 t.add))
value_fits s t x e h l g =
    let b = subst (λ (y : ℤ). unsigned_abs y ≤ 2 ^ 62) (sym e) (coordinate_within (2 ^ 62) s t.coord h l) in
    let sum = abs_add x t.add (2 ^ 62) (2 ^ 31) b g in
    subst (λ (y : ℤ). FitsSigned w64 (y +ℤ to_z w64 (of_z w64 t.add)))
    (sym (to_z-of_z w64 x (fits_signed_from_abs w64 x (omega arith))))
    (subst (λ (y : ℤ). FitsSigned w64 (x +ℤ y)) (sym
    (to_z-of_z w64 t.add (fits_signed_from_abs w64 t.add (omega arith))))
    (fits_signed_from_abs w64 (x +ℤ t.add) (omega arith)))
