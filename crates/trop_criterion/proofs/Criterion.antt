-- The criterion: a solution is extreme exactly where some node of its tangent hypergraph is reached from every node,
-- and these nodes are its types.
use Rattle.std.proofs.Common.{◌≡◌, ◌≢◌, ◌<◌, ◌≤◌, ℕ, List, [], ◌∷◌, length, ⊎_elim, arith}
use Rattle.std.specs.Prelude.{◌↔◌, All}
use Rattle.std.proofs.lemmas.Bool.{cases_lt}
use Rattle.std.proofs.lemmas.List.{get_or_past}
use Rattle.std.proofs.lemmas.List.Elements.{All-nil, All-cons}
use Rattle.trop_theory.specs.Semiring.{Semiring, SemiringLaws}
use Rattle.trop_theory.specs.Vectors.{entry}
use Rattle.trop_theory.specs.Inequalities.{Inequality, IsIn, Solves, inequality_size, system_size}
use Rattle.trop_theory.specs.Extreme.{IsExtreme, IsType}
use Rattle.trop_criterion.proofs.Reaching.{IsReachedFromAll}
use Rattle.trop_criterion.proofs.Types.{IsType-reached, reached_from_IsType}
use Rattle.trop_theory.proofs.Types.{IsExtreme-from_type}
use Rattle.trop_criterion.proofs.Closures.{Closure, closure_of}
use Rattle.trop_criterion.proofs.Extremes.{some_reached}

module _ {V : Type 0} (R : Semiring V) where
  pub All-system_size : (system : List (Inequality V)) (m : ℕ) → system_size R system ≤ m →
      All (λ p. inequality_size R p ≤ m) system
  All-system_size [] m h = All-nil (λ p. inequality_size R p ≤ m)
  All-system_size (p ∷ system) m h = All-cons (λ p. inequality_size R p ≤ m) p system (omega arith)
      (All-system_size system m (omega arith))

module _ {V : Type 0} {R : Semiring V} (laws : SemiringLaws R) (n : ℕ) (system : List (Inequality V)) (x : List V)
    (inside : All (IsIn n) system) where
  -- a finite entry is within the vector
  finite_within : (u : ℕ) → length x ≡ n → entry R x u ≢ R.zero → u < n
  finite_within u wide f = ⊎_elim (λ l. l) (λ l. absurd (f (get_or_past x u R.zero (omega arith)))) (cases_lt u n)

  pub type_is_reached : Solves R n system x → (t : ℕ) → IsType R (Solves R n system) x t ↔ IsReachedFromAll R system x t
  type_is_reached solves t = (
    λ h. record { finite = h.finite; reached = reached_from_IsType laws n system x t inside h },
    λ g. IsType-reached laws n system x t inside solves g.finite g.reached,
  )

  -- the closure of a node, with the bound on its distances
  pub closure_at : (m : ℕ) (bounded : All (λ p. inequality_size R p ≤ m) system) (wide : length x ≡ n) (u : ℕ) →
      entry R x u ≢ R.zero → Closure laws n m system x wide inside bounded u
  closure_at m bounded wide u f = closure_of laws n m system x wide inside bounded u (finite_within u wide f) f

  pub reached_from_extreme : IsExtreme R (Solves R n system) x → (t : ℕ) × IsReachedFromAll R system x t
  reached_from_extreme h =
      let wide : length x ≡ n = h.member.wide in
      let r = some_reached laws n system x inside h
      (λ u f. let c = closure_at (system_size R system) (All-system_size R system (system_size R system) (omega arith))
      wide u f in
      record { set = c.set; start = c.start; closed = c.closed; reached = c.reached }) in
      (r.0, record { finite = r.1; reached = r.2 })

  pub extreme_from_reached : Solves R n system x → (t : ℕ) → IsReachedFromAll R system x t →
      IsExtreme R (Solves R n system) x
  extreme_from_reached solves t g = IsExtreme-from_type laws n (Solves R n system) x t (λ y h. h.wide)
      ((type_is_reached solves t).1 g)

  pub extreme_is_reached : Solves R n system x → IsExtreme R (Solves R n system) x
      ↔ ((t : ℕ) × IsReachedFromAll R system x t)
  extreme_is_reached solves = (reached_from_extreme, λ g. extreme_from_reached solves g.0 g.1)

  -- a solution is extreme exactly where it has a type
  pub extreme_has_type : Solves R n system x → IsExtreme R (Solves R n system) x
      ↔ ((t : ℕ) × IsType R (Solves R n system) x t)
  extreme_has_type solves = (
    λ h. let g = reached_from_extreme h in (g.0, (type_is_reached solves g.0).1 g.1),
    λ h. IsExtreme-from_type laws n (Solves R n system) x h.0 (λ y k. k.wide) h.1,
  )
