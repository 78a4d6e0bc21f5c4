-- A value in lists is determined by its zone.
use Rattle.std.proofs.Common.{◌≡◌, ⊎_elim, ℕ, suc, List, get_or, Option, Some, None, refl, sym, ap, subst, ◌∙◌, arith}
use Rattle.std.proofs.lemmas.List.{ext_get_or}
use Rattle.zone_theory.specs.Bounds.{Bound}
use Rattle.zone_theory.specs.Matrices.{Matrix}
use Rattle.zone_theory.specs.Domain.{Zone, IsNormal}
use Rattle.zone_theory.proofs.Entries.{same_or_apart}
use Rattle.zone_theory.proofs.Normal.{normal-same}
use Rattle.zone_tables.specs.Tables.{cell_at, table_of, IsTable}
use Rattle.zone_tables.proofs.Lists.{IsPlace, place-of, matrix-pair, matrix-normal, table-is, table-pair}
use Rattle.zone_lists.specs.Zones.{ZoneList, IsListed, IsTableIf, matrix_in, matrix_if, zone_of}

-- a list is determined by its matrix
lists-same : (vars : ℕ) (a b : List Bound) → IsTable (suc vars) a → IsTable (suc vars) b
    → matrix_in vars a ≡ matrix_in vars b → a ≡ b
lists-same vars a b s t e = ext_get_or None a b (s.size ∙ sym t.size)
    (λ k l. let p = place-of (suc vars) k (omega (arith, l, s.size)) in at k p.0 p.1 p.2)
  where
    at : (k i j : ℕ) → IsPlace (suc vars) k i j → get_or a k None ≡ get_or b k None
    at k i j p = subst (λ x. get_or a x None ≡ get_or b x None) (sym p.is) (⊎_elim
        (λ same. subst (λ x. cell_at (suc vars) a i x ≡ cell_at (suc vars) b i x) same
        (s.none i p.row ∙ sym (t.none i p.row)))
        (λ ne. sym (matrix-pair (suc vars) a i j p.row p.column ne) ∙ ap (λ (m : Matrix). m i j) e
        ∙ matrix-pair (suc vars) b i j p.row p.column ne)
        (same_or_apart i j))

some-same : (m u : Matrix) → ◌≡◌ {A = Option Matrix} (Some m) (Some u) → m ≡ u
some-same m u e = cc

some-none : (m : Matrix) → ◌≡◌ {A = Option Matrix} (Some m) None → ⊥
some-none m e = cc

options-same : (vars : ℕ) (a b : Option (List Bound)) → IsTableIf vars a → IsTableIf vars b
    → matrix_if vars a ≡ matrix_if vars b → a ≡ b
options-same vars None None s t e = refl
options-same vars None (Some b) s t e = absurd (some-none (matrix_in vars b) (sym e))
options-same vars (Some a) None s t e = absurd (some-none (matrix_in vars a) e)
options-same vars (Some a) (Some b) s t e =
    ap Some (lists-same vars a b s t (some-same (matrix_in vars a) (matrix_in vars b) e))

abbrev list : ℕ → Option (List Bound) → Option (List Bound) → ZoneList
list vars bounds kept = record { vars = vars; bounds = bounds; kept = kept }

-- and so is a value by its zone
pub values-same : (x y : ZoneList) → IsListed x → IsListed y → zone_of x ≡ zone_of y → x ≡ y
values-same x y s t e = go (ap (λ (z : Zone). z.vars) e)
  where
    moved : (d : ℕ) (b : Option (List Bound)) (m : Option Matrix) → x.vars ≡ d → matrix_if x.vars b ≡ m
        → matrix_if d b ≡ m
    moved d b m v h = subst (λ k. matrix_if k b ≡ m) v h

    go : x.vars ≡ y.vars → x ≡ y
    go v = ap (λ k. list k x.bounds x.kept) v
        ∙ ap (λ b. list y.vars b x.kept) (options-same y.vars x.bounds y.bounds
        (subst (λ k. IsTableIf k x.bounds) v s.bounds) t.bounds
        (moved y.vars x.bounds (matrix_if y.vars y.bounds) v (ap (λ (z : Zone). z.bounds) e)))
        ∙ ap (λ k. list y.vars y.bounds k) (options-same y.vars x.kept y.kept
        (subst (λ k. IsTableIf k x.kept) v s.kept) t.kept
        (moved y.vars x.kept (matrix_if y.vars y.kept) v (ap (λ (z : Zone). z.kept) e)))

-- ---- a zone as lists

abbrev pub table_if : ℕ → Option Matrix → Option (List Bound)
table_if vars None = None
table_if vars (Some m) = Some (table_of (suc vars) m)

abbrev pub list_of : Zone → ZoneList
list_of x = record { vars = x.vars; bounds = table_if x.vars x.bounds; kept = table_if x.vars x.kept }

abbrev pub IsNormalIf : ℕ → Option Matrix → Type 0
IsNormalIf vars None = Unit {0}
IsNormalIf vars (Some m) = IsNormal vars m

table-matrix : (vars : ℕ) (m : Matrix) → IsNormal vars m → matrix_in vars (table_of (suc vars) m) ≡ m
table-matrix vars m n = normal-same vars (matrix_in vars (table_of (suc vars) m)) m
    (matrix-normal vars (table_of (suc vars) m)) n
    (λ i j hi hj ne. table-pair (suc vars) m i j (omega (arith, hi)) (omega (arith, hj)) ne)

tables-matrix : (vars : ℕ) (m : Option Matrix) → IsNormalIf vars m → matrix_if vars (table_if vars m) ≡ m
tables-matrix vars None n = refl
tables-matrix vars (Some m) n = ap Some (table-matrix vars m n)

tables-listed : (vars : ℕ) (m : Option Matrix) → IsTableIf vars (table_if vars m)
tables-listed vars None = tt
tables-listed vars (Some m) = table-is (suc vars) m

pub list-listed : (x : Zone) → IsListed (list_of x)
list-listed x = record { bounds = tables-listed x.vars x.bounds; kept = tables-listed x.vars x.kept }

pub list-zone : (x : Zone) → IsNormalIf x.vars x.bounds → IsNormalIf x.vars x.kept → zone_of (list_of x) ≡ x
list-zone x b k = ap (λ bounds. with bounds (matrix_if x.vars (table_if x.vars x.kept)))
    (tables-matrix x.vars x.bounds b)
    ∙ ap (λ kept. with x.bounds kept) (tables-matrix x.vars x.kept k)
  where
    with : Option Matrix → Option Matrix → Zone
    with bounds kept = record { vars = x.vars; bounds = bounds; kept = kept }
