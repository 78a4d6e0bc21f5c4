-- Rows that represent a cone: the same under another name, and the first cones.
use Rattle.std.proofs.Common.{◌≡◌, ◌<◌, ◌≤◌, ◌+◌, ℕ, List, [], ◌∷◌, ◌++◌, length, sym, ap, ◌∙◌, refl, subst, arith}
use Rattle.std.specs.Prelude.{◌↔◌}
use Rattle.std.proofs.lemmas.List.{length-replicate}
use Rattle.std.proofs.lemmas.List.Elements.{All-nil}
use Rattle.trop_theory.specs.Semiring.{Semiring, SemiringLaws}
use Rattle.trop_theory.specs.Vectors.{bottom}
use Rattle.trop_theory.specs.Normal.{IsNormal}
use Rattle.trop_theory.specs.Inequalities.{Inequality, IsTrueAt, Solves}
use Rattle.trop_theory.specs.Combinations.{combined, IsCombination}
use Rattle.trop_theory.specs.Extreme.{IsExtreme}
use Rattle.trop_cones.specs.Represents.{Represents}
use Rattle.trop_cones.proofs.Represented.{Represents-same, Represents-itself}
use Rattle.trop_duality.proofs.Polars.{IsOverLimit-same}
use Rattle.trop_dd.specs.Description.{Describes}
use Rattle.trop_cones.specs.Sets.{IsBottom}
use Rattle.trop_poly.specs.Cones.{Cone}
use Rattle.trop_poly.specs.Refusals.{IsConeRefusal}
use Rattle.trop_poly.specs.declared.error.PolyErr.{PolyErr}
use Rattle.trop_poly.specs.declared.error.PolyErr.TheVariants.{Rows, Polar, NoMemory}

module _ {V : Type 0} (R : Semiring V) where
  -- the same rows of the same cone
  pub represents_as : (n m : ℕ) (C D : List V → Type 0) (rows others : List (List V)) → m ≡ n → others ≡ rows →
      ((x : List V) → C x ↔ D x) → Represents R m C rows → Represents R n D others
  represents_as n m C D rows others width same sets h =
      subst (λ k. Represents R k D others) width (Represents-same m C D sets others
      (subst (Represents R m C) (sym same) h))

  -- as the cone that is kept
  pub represents_itself_as : (n m : ℕ) (C : List V → Type 0) (rows others : List (List V)) → m ≡ n → others ≡ rows →
      Represents R n C rows → Represents R m (IsCombination R m others) others
  represents_itself_as n m C rows others width same h =
      subst (λ k. Represents R k (IsCombination R k others) others) (sym width)
      (Represents-itself n C others (subst (Represents R n C) (sym same) h))

  -- the same combinations
  pub combinations_as : (n m : ℕ) (rows others : List (List V)) → m ≡ n → others ≡ rows → (x : List V) →
      IsCombination R m others x ↔ IsCombination R n rows x
  combinations_as n m rows others width same x = subst (λ k. IsCombination R m others x ↔ IsCombination R k rows x)
      width (subst (λ r. IsCombination R m others x ↔ IsCombination R m r x) same (λ h. h, λ h. h))

  -- why the same cone is refused
  pub cone_refusal_same : SemiringLaws R → (n k : ℕ) (C D : List V → Type 0) → ((x : List V) → C x ↔ D x) →
      (err : PolyErr) → IsConeRefusal R k C err → IsConeRefusal R k D err
  cone_refusal_same laws n k C D same (Rows j) h = (h.0, IsOverLimit-same laws n C D same h.1)
  cone_refusal_same laws n k C D same (Polar i j) h = absurd h
  cone_refusal_same laws n k C D same NoMemory h = tt

  pub represents_description : (n : ℕ) (system : List (Inequality V)) (rows : List (List V)) →
      Describes R n system rows → Represents R n (Solves R n system) rows
  represents_description n system rows h = record {
    canonical = h.canonical;
    generates = h.generates;
    within =
        h.within;
  }

  -- every vector solves no inequality
  pub everything_solves : (n : ℕ) (x : List V) → Solves R n [] x ↔ (length x ≡ n)
  everything_solves n x = (λ h. h.wide, λ l. record { wide = l; holds = All-nil (λ p. IsTrueAt R p x) })

  none_combined : (n : ℕ) (cs x : List V) → x ≡ combined R n cs [] → x ≡ bottom R n
  none_combined n [] x e = e
  none_combined n (c ∷ cs) x e = e

  -- no rows generate the vector of zeros alone
  pub nothing_represents : (n : ℕ) → Represents R n (IsBottom R n) []
  nothing_represents n = record {
    canonical = record {
      ascending = λ i j d lt l. absurd (omega arith);
      normal = All-nil (IsNormal R);
      extreme = All-nil (IsExtreme R (IsBottom R n));
      complete = λ x normal e. absurd (e.not_bottom
          (e.member ∙ ap (bottom R) (sym (ap length e.member ∙ length-replicate n R.zero))));
    };
    generates = λ x. (
      λ h. record { coefficients = []; one_each = refl; is_sum = h },
      λ c. none_combined n c.coefficients x c.is_sum,
    );
    within = omega arith;
  }

-- a cone is its number of coordinates and its rows
pub same_cone : {V : Type 0} (n m : ℕ) (rows others : List (List V)) → m ≡ n → others ≡ rows → (cone : Cone V) →
    record { n = n; rows = rows } ≡ cone → record { n = m; rows = others } ≡ cone
same_cone n m rows others width same cone e = ap (λ k. record { n = k; rows = others }) width
    ∙ ap (λ r. record { n = n; rows = r }) same ∙ e

-- a cone from its parts
pub cone_is : {V : Type 0} (n : ℕ) (rows : List (List V)) (cone : Cone V) → n ≡ cone.n → rows ≡ cone.rows →
    record { n = n; rows = rows } ≡ cone
cone_is n rows cone width same = ap (λ k. record { n = k; rows = rows }) width
    ∙ ap (λ r. record { n = cone.n; rows = r }) same
