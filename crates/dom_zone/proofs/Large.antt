-- Lists with a number of too great a size.
use Rattle.std.proofs.Common.{◌≡◌, ⊎_elim, ◌<◌, ◌+◌, ◌*◌, ◌^◌, ℕ, suc, ℤ, unsigned_abs, List, get_or, Option, Some, None, refl, sym, ap, subst, ◌∙◌, arith}
use Rattle.std.proofs.lemmas.Bool.{cases_lt}
use Rattle.std.proofs.lemmas.List.{get_or_past}
use Rattle.zone_theory.specs.Bounds.{Bound}
use Rattle.zone_theory.specs.Matrices.{Matrix}
use Rattle.zone_theory.specs.Domain.{Zone}
use Rattle.zone_theory.specs.Relations.{most_bound, IsTooLarge}
use Rattle.zone_theory.proofs.Entries.{same_or_apart}
use Rattle.zone_theory.proofs.Normal.{pair-decided}
use Rattle.zone_tables.specs.Tables.{cell_at, IsTable}
use Rattle.zone_tables.specs.Sizes.{IsWithin, AreWithin}
use Rattle.zone_tables.specs.Large.{IsLarge, HasLarge}
use Rattle.zone_tables.proofs.Judged.{within-not_large}
use Rattle.zone_lists.specs.Zones.{matrix_in}
use Rattle.zone_tables.proofs.Lists.{IsPlace, place-of, matrix-pair, matrix-normal}

-- a large bound is a number
record IsNumber (b : Bound) : Type 0 where
  number : ℤ
  is : b ≡ Some number
  large : most_bound < unsigned_abs number

number-of : (b : Bound) → IsLarge b → IsNumber b
number-of None h = absurd h
number-of (Some z) h = record { number = z; is = refl; large = h }

none-some : (z : ℤ) → ◌≡◌ {A = Option ℤ} None (Some z) → ⊥
none-some z e = cc

same-matrix : (m u : Matrix) → ◌≡◌ {A = Option Matrix} (Some m) (Some u) → m ≡ u
same-matrix m u e = cc

-- a list with a large number is that of too large a zone
pub too-large : (vars : ℕ) (bounds : List Bound) (x : Zone) → IsTable (suc vars) bounds
    → x.bounds ≡ Some (matrix_in vars bounds) → HasLarge bounds → IsTooLarge x
too-large vars bounds x t is h = ⊎_elim
    (λ l. let p = place-of (suc vars) h.place l in at p.0 p.1 p.2)
    (λ l. absurd (none-some n.number (sym (get_or_past bounds h.place None (omega (arith, l, t.size))) ∙ n.is)))
    (cases_lt h.place (suc vars * suc vars))
  where
    n : IsNumber (get_or bounds h.place None)
    n = number-of (get_or bounds h.place None) h.large

    at : (i j : ℕ) → IsPlace (suc vars) h.place i j → IsTooLarge x
    at i j p = let here : cell_at (suc vars) bounds i j ≡ Some n.number =
        ap (λ k. get_or bounds k None) (sym p.is) ∙ n.is in ⊎_elim
        (λ e. absurd (none-some n.number (sym (t.none i p.row) ∙ ap (λ k. cell_at (suc vars) bounds i k) e ∙ here)))
        (λ ne. record {
          matrix = matrix_in vars bounds;
          bounds_are = is;
          row = i;
          column = j;
          bound = n.number;
          stands = matrix-pair (suc vars) bounds i j p.row p.column ne ∙ here;
          large = n.large;
        })
        (same_or_apart i j)

-- a zone of small numbers isn't too large
pub not-too_large : (vars : ℕ) (bounds : List Bound) (x : Zone) → AreWithin (2 ^ 40) bounds
    → x.bounds ≡ Some (matrix_in vars bounds) → IsTooLarge x → ⊥
not-too_large vars bounds x w is t = ⊎_elim
    (λ p. within-not_large (Some t.bound) (subst (IsWithin (2 ^ 40))
    (sym (matrix-pair (suc vars) bounds t.row t.column (omega (arith, p.row)) (omega (arith, p.column)) p.apart)
    ∙ here) (w (t.row * suc vars + t.column))) t.large)
    (λ out. none-some t.bound (sym ((matrix-normal vars bounds).none t.row t.column out) ∙ here))
    (pair-decided vars t.row t.column)
  where
    here : matrix_in vars bounds t.row t.column ≡ Some t.bound
    here = ap (λ (m : Matrix). m t.row t.column) (same-matrix (matrix_in vars bounds) t.matrix (sym is ∙ t.bounds_are))
        ∙ t.stands

-- nor is the empty zone
pub empty-not_large : (x : Zone) → x.bounds ≡ None → IsTooLarge x → ⊥
empty-not_large x e t = no t.matrix (sym e ∙ t.bounds_are)
  where
    no : (m : Matrix) → ◌≡◌ {A = Option Matrix} None (Some m) → ⊥
    no m e = cc
