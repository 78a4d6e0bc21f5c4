-- Lists that are made of two others, one bound after another.
use Rattle.std.proofs.Common.{◌≡◌, ◌<◌, ◌≤◌, ◌+◌, ⊎_elim, ℕ, List, ◌∷◌, [], ◌++◌, length, get_or, Option, Some, None, refl, sym, ap, subst, ◌∙◌, arith}
use Rattle.std.proofs.lemmas.Bool.{cases_lt}
use Rattle.std.proofs.lemmas.List.{get_or_past, get_or_push, get_or_append_left, length_push, get_or_default}
use Rattle.zone_theory.specs.Bounds.{Bound}
use Rattle.zone_tables.specs.Tables.{AreMade}

-- the first k bounds are made
pub record AreMadeTo (f : Bound → Bound → Bound) (xs ys : List Bound) (k : ℕ) (zs : List Bound) : Type 0 where
  pub size : length zs ≡ k
  pub each : (j : ℕ) → j < k → get_or zs j None ≡ f (get_or xs j None) (get_or ys j None)

pub made-none : (f : Bound → Bound → Bound) (xs ys zs : List Bound) → zs ≡ [] → AreMadeTo f xs ys 0 zs
made-none f xs ys zs e = record { size = ap length e; each = λ j l. absurd (omega (arith, l)) }

module _ (f : Bound → Bound → Bound) (xs ys : List Bound) (same : length xs ≡ length ys) (k : ℕ) (zs : List Bound) where
  pub made-more : AreMadeTo f xs ys k zs → k < length xs → (x y z : Bound) → x ≡ get_or xs k x → y ≡ get_or ys k y
      → z ≡ f x y → (new : List Bound) → new ≡ zs ++ z ∷ [] → AreMadeTo f xs ys (k + 1) new
  made-more h l x y z xe ye ze new e = subst (AreMadeTo f xs ys (k + 1)) (sym e) (record {
    size = length_push zs z ∙ ap (λ n. n + 1) h.size;
    each = λ j m. ⊎_elim
        (λ lt. get_or_append_left zs (z ∷ []) None j (omega (arith, lt, h.size)) ∙ h.each j lt)
        (λ le. let at : k ≡ j = omega (arith, le, m) in
        subst (λ i. get_or (zs ++ z ∷ []) i None ≡ f (get_or xs i None) (get_or ys i None)) at
        (get_or_push zs z None k h.size ∙ ze ∙ ap (λ b. f b y) (xe ∙ get_or_default xs k x None l)
        ∙ ap (f (get_or xs k None)) (ye ∙ get_or_default ys k y None (omega (arith, l, same)))))
        (cases_lt j k);
  })

  pub made-all : f None None ≡ None → AreMadeTo f xs ys k zs → k ≡ length xs → AreMade f xs ys zs
  made-all nothing h e = record {
    size = h.size ∙ e;
    each = λ j. ⊎_elim
        (λ lt. h.each j (omega (arith, lt, e)))
        (λ le. get_or_past zs j None (omega (arith, le, h.size, e)) ∙ sym nothing
        ∙ ap (λ b. f b None) (sym (get_or_past xs j None le))
        ∙ ap (f (get_or xs j None)) (sym (get_or_past ys j None (omega (arith, le, same)))))
        (cases_lt j (length xs));
  }
