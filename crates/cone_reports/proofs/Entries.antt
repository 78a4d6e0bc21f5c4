-- The entries of the vector of a state are the numbers at its coordinates.
use Rattle.std.proofs.Common.{◌≡◌, ◌≤◌, ℕ, zero, suc, ℤ, pos, ◌+ℤ◌, Some, ◌∷◌, length, get_or, set, sym, ap, ◌∙◌, refl, arith}
use Rattle.std.proofs.lemmas.Int.{ints}
use Rattle.std.proofs.lemmas.List.{get_or-map, map-set, length-map, length-set}
use Rattle.trop_theory.specs.Semiring.{Semiring, SemiringLaws}
use Rattle.trop_theory.specs.Vectors.{entry}
use Rattle.trop_theory.specs.Numbers.{Numbering, NumericLaws}
use Rattle.trop_cones.specs.Sets.{assigned}
use Rattle.prog_theory.specs.States.{State, Term, value, coordinate, changed}
use Rattle.cone_reports.specs.Vectors.{vector}

sum_swap : (a b : ℤ) → a +ℤ b ≡ b +ℤ a
sum_swap a b = omega (arith, ints)

pub length-changed : (s : State) (x : ℕ) (v : ℤ) → length (changed s x v) ≡ length s
length-changed s zero v = refl
length-changed s (suc i) v = length-set s i v

module _ {V : Type 0} {R : Semiring V} {N : Numbering V} {reversed : _} (laws : SemiringLaws R)
    (numbers : NumericLaws R N reversed) where
  pub length-vector : (s : State) (vars : ℕ) → length s ≡ vars → length (vector R N s) ≡ suc vars
  length-vector s vars l = ap suc (length-map s N.of ∙ l)

  pub entry-vector : (s : State) (c : ℕ) → c ≤ length s → N.to (entry R (vector R N s) c) ≡ Some (coordinate s c)
  entry-vector s zero h = numbers.to-one
  entry-vector s (suc i) h = ap N.to (get_or-map N.of s i (pos 0) R.zero (omega arith))
      ∙ numbers.to-of (get_or s i (pos 0))

  -- the value of a term, as a product
  pub term-times : (s : State) (t : Term) → t.coord ≤ length s
      → R.times (N.of t.add) (entry R (vector R N s) t.coord) ≡ N.of (value t s)
  term-times s t h =
      sym (numbers.of-to (R.times (N.of t.add) (entry R (vector R N s) t.coord)) (value t s)
      (numbers.to-times (N.of t.add) (entry R (vector R N s) t.coord) t.add (coordinate s t.coord)
      (numbers.to-of t.add) (entry-vector s t.coord h)
      ∙ ap Some (sum_swap t.add (coordinate s t.coord))))

  pub vector-changed : (s : State) (i : ℕ) (v : ℤ)
      → vector R N (changed s (suc i) v) ≡ set (vector R N s) (suc i) (N.of v)
  vector-changed s i v = ap (λ r. R.one ∷ r) (map-set N.of s i v)

  pub vector-assigned : (s : State) (i : ℕ) (t : Term) → t.coord ≤ length s
      → vector R N (changed s (suc i) (value t s)) ≡ assigned R (suc i) t.coord (N.of t.add) (vector R N s)
  vector-assigned s i t h = vector-changed s i (value t s) ∙ ap (set (vector R N s) (suc i)) (sym (term-times s t h))
