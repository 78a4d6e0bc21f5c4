-- The sum of terms at a row, one term after another, and the sizes on the way.
use Rattle.std.proofs.Common.{◌≡◌, ◌<◌, ◌≤◌, ◌+◌, ℕ, zero, suc, List, ◌∷◌, length, drop, map, set, get_or, sym, ap, ◌∙◌, subst, refl, arith}
use Rattle.std.specs.Prelude.{All, unsigned_abs}
use Rattle.std.proofs.lemmas.List.{drop_more, drop_all, get_or-map, get_or_default, length-map}
use Rattle.trop_theory.specs.Semiring.{Semiring, SemiringLaws}
use Rattle.trop_theory.specs.Vectors.{entry, dot, bottom, row_size}
use Rattle.trop_theory.specs.Numbers.{Numbering, NumericLaws}
use Rattle.trop_theory.proofs.Order.{plus_zero}
use Rattle.trop_theory.proofs.Sizes.{size-entry}
use Rattle.prog_theory.specs.States.{Term}
use Rattle.prog_theory.specs.Within.{IsNumberWithin}
use Rattle.cone_reports.specs.Sides.{side}
use Rattle.cone_reports.proofs.Sides.{dot-more, dot-bottom}

-- what holds of each element's view holds of that of an element that was read
pub holds_read : {X Y : Type 0} (P : Y → Type 0) (f : X → Y) (xs : List X) (k : ℕ) (x : X) → x ≡ get_or xs k x
    → k < length xs → All P (map f xs) → P (f x)
holds_read P f xs k x is l h =
    subst P (get_or-map f xs k x (f x) l ∙ ap f (sym is)) (h k (f x) (omega (arith, length-map xs f)))

pub holds_at : {X Y : Type 0} (P : Y → Type 0) (f : X → Y) (xs : List X) (k : ℕ) (d : X) → k < length xs
    → All P (map f xs) → P (f (get_or xs k d))
holds_at P f xs k d l h = holds_read P f xs k (get_or xs k d) (get_or_default xs k d (get_or xs k d) l) l h

module _ {V : Type 0} {R : Semiring V} {N : Numbering V} {reversed : _} (laws : SemiringLaws R)
    (numbers : NumericLaws R N reversed) where
  -- one more term in a running sum
  pub sum_more : {X : Type 0} (n : ℕ) (row : List V) → length row ≡ n → (f : X → Term) (ts : List X) (k : ℕ) (x : X)
      (sum all : V) → x ≡ get_or ts k x → k < length ts → (f x).coord < n
      → R.plus sum (dot R (side R N n (map f (drop k ts))) row) ≡ all
      → R.plus (R.plus sum (R.times (N.of (f x).add) (entry R row (f x).coord)))
      (dot R (side R N n (map f (drop (k + 1) ts))) row) ≡ all
  sum_more zero row long f ts k x sum all is l on so_far = absurd (omega arith)
  sum_more (suc vars) row long f ts k x sum all is l on so_far =
      let a = R.times (N.of (f x).add) (entry R row (f x).coord) in
      let rest = dot R (side R N (suc vars) (map f (drop (k + 1) ts))) row in
      let here : drop k ts ≡ x ∷ drop (k + 1) ts = drop_more ts k x l ∙ ap (λ y. y ∷ drop (k + 1) ts) (sym is) in
      laws.plus_assoc sum a rest
      ∙ ap (R.plus sum) (sym (dot-more laws numbers vars row long (f x) (map f (drop (k + 1) ts)) (omega arith))
      ∙ ap (λ l. dot R (side R N (suc vars) (map f l)) row) (sym here))
      ∙ so_far

  pub sum_more_at : {X : Type 0} (n : ℕ) (row : List V) → length row ≡ n → (f : X → Term) (ts : List X) (k : ℕ) (d : X)
      (sum all : V) → k < length ts → (f (get_or ts k d)).coord < n
      → R.plus sum (dot R (side R N n (map f (drop k ts))) row) ≡ all
      → R.plus (R.plus sum (R.times (N.of (f (get_or ts k d)).add) (entry R row (f (get_or ts k d)).coord)))
      (dot R (side R N n (map f (drop (k + 1) ts))) row) ≡ all
  sum_more_at n row long f ts k d sum all l on so_far =
      sum_more n row long f ts k (get_or ts k d) sum all (get_or_default ts k d (get_or ts k d) l) l on so_far

  pub sum_end : {X : Type 0} (n : ℕ) (row : List V) (f : X → Term) (ts : List X) (k : ℕ) (sum all : V) → length ts ≤ k
      → R.plus sum (dot R (side R N n (map f (drop k ts))) row) ≡ all → sum ≡ all
  sum_end n row f ts k sum all past so_far =
      sym (plus_zero laws sum) ∙ ap (R.plus sum) (sym (dot-bottom laws n row))
      ∙ ap (λ l. R.plus sum (dot R (side R N n (map f l)) row)) (sym (drop_all k ts past)) ∙ so_far

  -- the element of a number has its size
  pub size-of : (a : _) → R.size (N.of a) ≡ unsigned_abs a
  size-of a = numbers.size (N.of a) a (numbers.to-of a)

  pub size_term : (row : List V) (t : Term) (m : ℕ) → IsNumberWithin m t → t.coord < length row
      → R.size (N.of t.add) + R.size (entry R row t.coord) ≤ m + row_size R row
  size_term row t m within l = omega (arith, size-of t.add, within, size-entry R row t.coord R.zero l)

module _ {V : Type 0} {R : Semiring V} (laws : SemiringLaws R) where
  row_size-bottom : (n : ℕ) → row_size R (bottom R n) ≡ 0
  row_size-bottom zero = refl
  row_size-bottom (suc n) = omega (arith, laws.size_zero, row_size-bottom n)

  -- one entry other than the zero
  pub row_size-alone : (n i : ℕ) (a : V) → row_size R (set (bottom R n) i a) ≤ R.size a
  row_size-alone zero i a = omega arith
  row_size-alone (suc n) zero a = omega (arith, row_size-bottom n)
  row_size-alone (suc n) (suc i) a = omega (arith, laws.size_zero, row_size-alone n i a)
