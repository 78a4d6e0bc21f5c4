-- The part of a cone that solves a system, one inequality after another.
use Rattle.std.proofs.Common.{◌≡◌, ◌<◌, ◌+◌, ℕ, List, [], ◌∷◌, ◌++◌, length, take, get_or, ⊎_elim, sym, ap, ◌∙◌, arith, subst}
use Rattle.std.specs.Prelude.{◌↔◌}
use Rattle.std.proofs.lemmas.Bool.{cases_lt}
use Rattle.std.proofs.lemmas.List.{take_more}
use Rattle.std.proofs.lemmas.List.Elements.{All-nil}
use Rattle.trop_theory.specs.Semiring.{Semiring}
use Rattle.trop_theory.specs.Inequalities.{Inequality, IsTrueAt, Solves, InGuard}
use Rattle.trop_theory.proofs.Narrower.{Solves-push, Solves-front, Solves-last}
use Rattle.trop_cones.specs.Sets.{InMeet}
use Rattle.trop_cones.specs.RowStops.{IsFirstOver}

module _ {V : Type 0} (R : Semiring V) (n : ℕ) (cone : List V → Type 0) where
  -- before the first inequality it is the cone
  pub meet_first : ((x : List V) → cone x → length x ≡ n) → (system : List (Inequality V)) → (x : List V) →
      InMeet cone (Solves R n (take 0 system)) x ↔ cone x
  meet_first wide system x = (λ h. h.0, λ c. (c, record { wide = wide x c; holds = All-nil (λ p. IsTrueAt R p x) }))

  -- one more inequality is a guard
  pub meet_more : (system : List (Inequality V)) (k : ℕ) (p : Inequality V) → k < length system →
      get_or system k p ≡ p → (x : List V) → InMeet cone (Solves R n (take (k + 1) system)) x
      ↔ InGuard R (InMeet cone (Solves R n (take k system))) p x
  meet_more system k p l e x = (
    λ h. let s : Solves R n (take k system ++ p ∷ []) x = subst (λ t. Solves R n t x) more h.1 in
        ((h.0, Solves-front n (take k system) p x s), Solves-last n (take k system) p x s),
    λ h. (h.0.0, subst (λ t. Solves R n t x) (sym more) (Solves-push n (take k system) p x h.0.1 h.1)),
  )
    where
      more : take (k + 1) system ≡ take k system ++ p ∷ []
      more = take_more system k p l ∙ ap (λ q. take k system ++ q ∷ []) e

-- there is one first cone over the limit at most
pub IsFirstOver-unique : {V : Type 0} (R : Semiring V) (cone : ℕ → List V → Type 0) (m k l : ℕ) →
    IsFirstOver R cone m k → IsFirstOver R cone m l → k ≡ l
IsFirstOver-unique R cone m k l h g = ⊎_elim
    (λ a. absurd (g.least k a h.over))
    (λ a. ⊎_elim (λ b. absurd (h.least l b g.over)) (λ b. omega arith) (cases_lt l k))
    (cases_lt k l)
