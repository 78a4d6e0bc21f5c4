-- Maps of vectors that keep sums and multiples take the combinations of rows to those of the images of the rows.
use Rattle.std.proofs.Common.{◌≡◌, ℕ, zero, suc, List, [], ◌∷◌, length, map, set, sym, ap, ◌∙◌, refl, ap₂}
use Rattle.std.specs.Prelude.{All, ◌↔◌}
use Rattle.std.proofs.lemmas.List.{length-map, length-set, map-set, set-get_or}
use Rattle.std.proofs.lemmas.List.Elements.{All-head, All-tail}
use Rattle.trop_theory.specs.Semiring.{Semiring, SemiringLaws}
use Rattle.trop_theory.specs.Vectors.{entry, scaled, joined, bottom}
use Rattle.trop_theory.specs.Combinations.{combined, IsCombination}
use Rattle.trop_theory.proofs.Order.{times_zero, plus_itself}
use Rattle.trop_theory.proofs.Rows.{entry-bottom, entry-joined, entry-scaled}
use Rattle.trop_theory.proofs.Combinations.{length-combined}
use Rattle.trop_cones.specs.Sets.{InAssign, assigned}

module _ {V : Type 0} (R : Semiring V) (n : ℕ) where
  -- f keeps sums and multiples of vectors of n entries
  pub record IsLinear (f : List V → List V) : Type 0 where
    pub lengths : (x : List V) → length x ≡ n → length (f x) ≡ n
    pub bottom : f (bottom R n) ≡ bottom R n
    pub sums : (x y : List V) → length x ≡ n → length y ≡ n → f (joined R x y) ≡ joined R (f x) (f y)
    pub multiples : (c : V) (x : List V) → length x ≡ n → f (scaled R c x) ≡ scaled R c (f x)

module _ {V : Type 0} {R : Semiring V} (laws : SemiringLaws R) (n : ℕ) where
  combined-map : (f : List V → List V) → IsLinear R n f → (cs : List V) (rows : List (List V)) →
      All (λ g. length g ≡ n) rows → f (combined R n cs rows) ≡ combined R n cs (map f rows)
  combined-map f h [] rows w = h.bottom
  combined-map f h (c ∷ cs) [] w = h.bottom
  combined-map f h (c ∷ cs) (g ∷ rows) w =
      let lg = All-head (λ g. length g ≡ n) g rows w in
      let rest = All-tail (λ g. length g ≡ n) g rows w in
      h.sums (scaled R c g) (combined R n cs rows) (length-map g (R.times c) ∙ lg) (length-combined laws n cs rows rest)
      ∙ ap₂ (joined R) (h.multiples c g lg) (combined-map f h cs rows rest)

  -- the combinations of the images are the images of the combinations
  pub image_by_rows : (f : List V → List V) → IsLinear R n f → (rows : List (List V)) → All (λ g. length g ≡ n) rows →
      (x : List V) → IsCombination R n (map f rows) x ↔ ((y : List V) × IsCombination R n rows y × (x ≡ f y))
  image_by_rows f h rows w x = (
    λ c. (
      combined R n c.coefficients rows,
      record { coefficients = c.coefficients; one_each = c.one_each ∙ length-map rows f; is_sum = refl },
      c.is_sum ∙ sym (combined-map f h c.coefficients rows w),
    ),
    λ s. record {
      coefficients = s.1.coefficients;
      one_each = s.1.one_each ∙ sym (length-map rows f);
      is_sum = s.2 ∙ ap f s.1.is_sum ∙ combined-map f h s.1.coefficients rows w;
    },
  )

  set-joined : (x y : List V) (i : ℕ) (a b : V) → set (joined R x y) i (R.plus a b) ≡ joined R (set x i a) (set y i b)
  set-joined [] y i a b = refl
  set-joined (d ∷ x) [] zero a b = refl
  set-joined (d ∷ x) [] (suc i) a b = refl
  set-joined (d ∷ x) (e ∷ y) zero a b = refl
  set-joined (d ∷ x) (e ∷ y) (suc i) a b = ap (λ r. R.plus d e ∷ r) (set-joined x y i a b)

  set-bottom : (i : ℕ) → set (bottom R n) i R.zero ≡ bottom R n
  set-bottom i = ap (set (bottom R n) i) (sym (entry-bottom R n i)) ∙ set-get_or (bottom R n) i R.zero

  -- one entry replaced by the zero
  pub IsLinear-cleared : (i : ℕ) → IsLinear R n (λ x. set x i R.zero)
  IsLinear-cleared i = record {
    lengths = λ x l. length-set x i R.zero ∙ l;
    bottom = set-bottom i;
    sums = λ x y l m. ap (set (joined R x y) i) (sym (plus_itself laws R.zero)) ∙ set-joined x y i R.zero R.zero;
    multiples = λ c x l. ap (set (scaled R c x) i) (sym (times_zero laws c)) ∙ sym (map-set (R.times c) x i R.zero);
  }

  times_swap : (a b c : V) → R.times a (R.times b c) ≡ R.times b (R.times a c)
  times_swap a b c = sym (laws.times_assoc a b c) ∙ ap (λ e. R.times e c) (laws.times_comm a b) ∙ laws.times_assoc b a c

  -- one entry replaced by a multiple of an entry
  pub IsLinear-assigned : (i from : ℕ) (c : V) → IsLinear R n (assigned R i from c)
  IsLinear-assigned i from c = record {
    lengths = λ x l. length-set x i (R.times c (entry R x from)) ∙ l;
    bottom = ap (set (bottom R n) i) (ap (R.times c) (entry-bottom R n from) ∙ times_zero laws c) ∙ set-bottom i;
    sums = λ x y l m. ap (set (joined R x y) i) (ap (R.times c) (entry-joined laws x y (l ∙ sym m) from)
        ∙ laws.distributes c (entry R x from) (entry R y from)) ∙ set-joined x y i (R.times c (entry R x from))
        (R.times c (entry R y from));
    multiples = λ d x l. ap (set (scaled R d x) i)
        (ap (R.times c) (entry-scaled laws d x from) ∙ times_swap c d (entry R x from))
        ∙ sym (map-set (R.times d) x i (R.times c (entry R x from)));
  }

  -- an assignment is the combinations of the rows, each so changed
  pub assign_by_rows : (i from : ℕ) (c : V) (rows : List (List V)) → All (λ g. length g ≡ n) rows → (x : List V) →
      IsCombination R n (map (assigned R i from c) rows) x ↔ InAssign R (IsCombination R n rows) i from c x
  assign_by_rows i from c rows w x =
      let image = image_by_rows (assigned R i from c) (IsLinear-assigned i from c) rows w x in (
        λ h. let s = image.0 h in record { before = s.0; member = s.1; replaced = s.2 },
        λ a. image.1 (a.before, a.member, a.replaced),
      )
