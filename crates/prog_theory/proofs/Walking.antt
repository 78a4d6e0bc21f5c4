-- Walks of any length, one after another.
use Rattle.std.proofs.Common.{◌≡◌, ℕ, zero, suc, List, Option, Some, None, refl, sym, subst, subst₂, Contains}
use Rattle.prog_theory.specs.States.{State}
use Rattle.prog_theory.specs.Edges.{Op, Edge, edge_to}
use Rattle.prog_theory.specs.Walks.{Leads}
use Rattle.prog_theory.proofs.Lengths.{Walk}
use Rattle.prog_theory.proofs.Elements.{Includes, Includes-head}

-- there is a walk from one point and state to another
pub record Goes (es : List Edge) (p : ℕ) (s : State) (q : ℕ) (t : State) : Type 0 where
  pub count : ℕ
  pub walk : Walk es count p s q t

pub stays : (es : List Edge) (p : ℕ) (s : State) → Goes es p s p s
stays es p s = record { count = zero; walk = (refl, refl) }

pub by_edge : (es : List Edge) (f t : ℕ) (op : Op) (s s' : State) → Contains es (record { from = f; to = t; op = op })
    → Leads op s s' → Goes es f s t s'
by_edge es f t op s s' c l =
    record { count = suc zero; walk = (record { from = f; to = t; op = op }, c, refl, s', l, (refl, refl)) }

module _ (es : List Edge) where
  join_at : (n : ℕ) (p : ℕ) (s : State) (q : ℕ) (t : State) (r : ℕ) (u : State) → Walk es n p s q t → Goes es q t r u
      → Goes es p s r u
  join_at zero p s q t r u w g = subst₂ (λ (x : ℕ) (y : State). Goes es x y r u) (sym w.0) (sym w.1) g
  join_at (suc n) p s q t r u w g =
      let h : Goes es w.0.to w.3 r u = join_at n w.0.to w.3 q t r u w.5 g in
      record { count = suc h.count; walk = (w.0, w.1, w.2, w.3, w.4, h.walk) }

  pub joined : (p : ℕ) (s : State) (q : ℕ) (t : State) (r : ℕ) (u : State) → Goes es p s q t → Goes es q t r u
      → Goes es p s r u
  joined p s q t r u g h = join_at g.count p s q t r u g.walk h

  pub by_edge_to : (f : ℕ) (op : Op) (o : Option ℕ) (q : ℕ) (s s' : State) → Includes es (edge_to f op o) → o ≡ Some q
      → Leads op s s' → Goes es f s q s'
  by_edge_to f op None q s s' i e l = cc
  by_edge_to f op (Some t) q s s' i e l =
      let same : t ≡ q = cc in
      subst (λ (x : ℕ). Goes es f s x s') same (by_edge es f t op s s' (Includes-head es _ _ i) l)
