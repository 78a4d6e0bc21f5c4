-- Lists of rows with the same combinations.
use Rattle.std.proofs.Common.{◌≡◌, ◌≤◌, ◌+◌, ℕ, List, [], ◌∷◌, ◌++◌, length, sym, ap, ◌∙◌, arith, subst}
use Rattle.std.specs.Prelude.{All, Contains, ◌↔◌}
use Rattle.std.proofs.lemmas.List.{length-map, length-append, get_or_append_left}
use Rattle.std.proofs.lemmas.List.Elements.{All-push, Contains-push, All-nil}
use Rattle.trop_theory.specs.Semiring.{Semiring, SemiringLaws}
use Rattle.trop_theory.specs.Vectors.{scaled, bottom, row_size}
use Rattle.trop_theory.specs.Normal.{Normalises}
use Rattle.trop_theory.specs.Combinations.{IsCombination, SameCone}
use Rattle.trop_theory.proofs.Rows.{scaled-scaled, scaled_one}
use Rattle.trop_theory.proofs.Combinations.{IsCombination-scaled, IsCombination-bottom}
use Rattle.trop_theory.proofs.Residual.{IsCombination-at}
use Rattle.trop_theory.proofs.Canonical.{IsCombination-least}

module _ {V : Type 0} {R : Semiring V} (laws : SemiringLaws R) (n : ℕ) where
  pub IsCombination-same : (rows others : List (List V)) → All (λ g. length g ≡ n) rows →
      All (λ g. length g ≡ n) others → SameCone R n rows others → (x : List V) →
      IsCombination R n rows x ↔ IsCombination R n others x
  IsCombination-same rows others w v s x = (
    λ h. IsCombination-least laws n rows others x v s.there h,
    λ h. IsCombination-least laws n others rows x w s.back h,
  )

  pub IsCombination-contained : (rows : List (List V)) (x : List V) → All (λ g. length g ≡ n) rows → Contains rows x →
      IsCombination R n rows x
  IsCombination-contained rows x w h = subst (IsCombination R n rows) h.2 (IsCombination-at laws n rows h.0 x w h.1)

  -- lists with the same elements
  pub SameCone-from_contains : (rows others : List (List V)) → All (λ g. length g ≡ n) rows →
      All (λ g. length g ≡ n) others → All (Contains others) rows → All (Contains rows) others →
      SameCone R n rows others
  SameCone-from_contains rows others w v there back = record {
    there = λ k d l. IsCombination-contained others _ v (there k d l);
    back = λ k d l. IsCombination-contained rows _ w (back k d l);
  }

  pub SameCone-trans : (a b c : List (List V)) → All (λ g. length g ≡ n) a → All (λ g. length g ≡ n) c →
      SameCone R n a b → SameCone R n b c → SameCone R n a c
  SameCone-trans a b c wa wc p q = record {
    there = λ k d l. IsCombination-least laws n b c _ wc q.there (p.there k d l);
    back = λ k d l. IsCombination-least laws n b a _ wa p.back (q.back k d l);
  }

  -- one more row
  IsCombination-more : (rows : List (List V)) (g x : List V) → All (λ g. length g ≡ n) rows → length g ≡ n →
      IsCombination R n rows x → IsCombination R n (rows ++ g ∷ []) x
  IsCombination-more rows g x w e h =
      let wide : All (λ g. length g ≡ n) (rows ++ g ∷ []) = All-push (λ g. length g ≡ n) rows g w e in
      IsCombination-least laws n rows (rows ++ g ∷ []) x wide
      (λ k d l. subst (IsCombination R n (rows ++ g ∷ [])) (get_or_append_left rows (g ∷ []) d k l)
      (IsCombination-at laws n (rows ++ g ∷ []) k d wide (omega (arith, length-append rows (g ∷ []))))) h

  IsCombination-last : (rows : List (List V)) (g : List V) → All (λ g. length g ≡ n) rows → length g ≡ n →
      IsCombination R n (rows ++ g ∷ []) g
  IsCombination-last rows g w e = IsCombination-contained (rows ++ g ∷ []) g (All-push (λ g. length g ≡ n) rows g w e)
      (Contains-push rows g)

  -- one more row, and its normal form on the other side
  pub SameCone-push : (rows others : List (List V)) (g h : List V) → All (λ g. length g ≡ n) rows →
      All (λ g. length g ≡ n) others → length g ≡ n → SameCone R n rows others → Normalises R g h →
      SameCone R n (rows ++ g ∷ []) (others ++ h ∷ [])
  SameCone-push rows others g h w v e s m = record {
    there = All-push (IsCombination R n (others ++ h ∷ [])) rows g
        (λ k d l. IsCombination-more others h _ v eh (s.there k d l)) from_h;
    back = All-push (IsCombination R n (rows ++ g ∷ [])) others h
        (λ k d l. IsCombination-more rows g _ w e (s.back k d l)) from_g;
  }
    where
      eh : length h ≡ n
      eh = ap length m.multiple ∙ length-map g (R.times m.factor) ∙ e

      from_g : IsCombination R n (rows ++ g ∷ []) h
      from_g = subst (IsCombination R n (rows ++ g ∷ [])) (sym m.multiple)
          (IsCombination-scaled laws n (rows ++ g ∷ []) m.factor g (IsCombination-last rows g w e))

      undone : scaled R (R.inverse m.factor) h ≡ g
      undone =
          ap (scaled R (R.inverse m.factor)) m.multiple ∙ scaled-scaled laws (R.inverse m.factor) m.factor g
          ∙ ap (λ c. scaled R c g) (laws.times_comm (R.inverse m.factor) m.factor ∙ laws.invertible m.factor m.finite)
          ∙ scaled_one laws g

      from_h : IsCombination R n (others ++ h ∷ []) g
      from_h = subst (IsCombination R n (others ++ h ∷ [])) undone
          (IsCombination-scaled laws n (others ++ h ∷ []) (R.inverse m.factor) h (IsCombination-last others h v eh))

  -- one more row that is bottom
  pub SameCone-skip : (rows others : List (List V)) (g : List V) → All (λ g. length g ≡ n) rows →
      All (λ g. length g ≡ n) others → length g ≡ n → SameCone R n rows others → g ≡ bottom R (length g) →
      SameCone R n (rows ++ g ∷ []) others
  SameCone-skip rows others g w v e s b = record {
    there = All-push (IsCombination R n others) rows g s.there
        (subst (IsCombination R n others) (sym (b ∙ ap (bottom R) e)) (IsCombination-bottom laws n others v));
    back = λ k d l. IsCombination-more rows g _ w e (s.back k d l);
  }

  pub SameCone-none : SameCone R n [] []
  SameCone-none = record { there = All-nil (IsCombination R n []); back = All-nil (IsCombination R n []) }

-- sizes of multiples
pub row_size-scaled : {V : Type 0} {R : Semiring V} (laws : SemiringLaws R) (c : V) (x : List V) →
    row_size R (scaled R c x) ≤ R.size c + row_size R x
row_size-scaled laws c [] = omega arith
row_size-scaled laws c (a ∷ x) = omega (arith, laws.size_times c a, row_size-scaled laws c x)
