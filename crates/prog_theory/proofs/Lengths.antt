-- Walks with their lengths. A walk is one of some length, and the other way round.
use Rattle.std.proofs.Common.{◌≡◌, ℕ, zero, suc, List, length, refl, sym, subst, subst₂, Contains}
use Rattle.prog_theory.specs.States.{State}
use Rattle.prog_theory.specs.Statements.{Program}
use Rattle.prog_theory.specs.Edges.{Edge}
use Rattle.prog_theory.specs.Graph.{edges}
use Rattle.prog_theory.specs.ControlGraphs.{graph_of}
use Rattle.prog_theory.specs.Walks.{Leads, Reaches, begins, goes as goes_along}

-- a walk of n edges from one point and state to another
abbrev pub Walk : List Edge → ℕ → ℕ → State → ℕ → State → Type 0
Walk es zero p s q s' = (p ≡ q) × (s ≡ s')
Walk es (suc n) p s q s' =
    (e : Edge) × Contains es e × (e.from ≡ p) × (t : State) × Leads e.op s t × Walk es n e.to t q s'

-- a walk of n edges, for some n, from point 0 at some state
abbrev pub WalksTo : Program → ℕ → State → Type 0
WalksTo P p s = (start : State) × (length start ≡ P.vars) × (n : ℕ) × Walk (edges P) n 0 start p s

-- one edge more
walk_more : (es : List Edge) (n p : ℕ) (s : State) (e : Edge) (t u : State) → Walk es n p s e.from t
    → Contains es e → Leads e.op t u → Walk es (suc n) p s e.to u
walk_more es zero p s e t u w c l =
    (e, c, sym w.0, u, subst (λ (x : State). Leads e.op x u) (sym w.1) l, (refl, refl))
walk_more es (suc n) p s e t u w c l = (w.0, w.1, w.2, w.3, w.4, walk_more es n w.0.to w.3 e t u w.5 c l)

module _ (P : Program) where
  pub reaches_walks : {p : ℕ} {s : State} → Reaches (graph_of P) p s → WalksTo P p s
  reaches_walks (begins s wide) = (s, wide, 0, (refl, refl))
  reaches_walks (goes_along e s t r c l) =
      let (start, wide, n, w) = reaches_walks r in (start, wide, suc n, walk_more (edges P) n 0 start e s t w c l)

  reaches_on : (n p : ℕ) (s : State) (q : ℕ) (t : State) → Reaches (graph_of P) p s → Walk (edges P) n p s q t
      → Reaches (graph_of P) q t
  reaches_on zero p s q t r w = subst₂ (λ (x : ℕ) (y : State). Reaches (graph_of P) x y) w.0 w.1 r
  reaches_on (suc n) p s q t r w =
      let here = subst (λ (x : ℕ). Reaches (graph_of P) x s) (sym w.2) r in
      reaches_on n w.0.to w.3 q t (goes_along w.0 s w.3 here w.1 w.4) w.5

  pub walks_reach : (p : ℕ) (s : State) → WalksTo P p s → Reaches (graph_of P) p s
  walks_reach p s (start, wide, n, w) = reaches_on n 0 start p s (begins start wide) w
