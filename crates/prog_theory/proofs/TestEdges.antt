-- Walks through the inner points of a test: from where its edges begin they come to the true target exactly where the
-- test can be true, and to the false target exactly where it can be false, with the state unchanged.
use Rattle.std.proofs.Common.{◌≡◌, ℕ, ◌+◌, ⊎_elim, Bool, true, false, List, Option, Some, refl}
use Rattle.prog_theory.specs.States.{State}
use Rattle.prog_theory.specs.Tests.{Test, Choice, Guard, Negated, Both, Either, above, inner}
use Rattle.prog_theory.specs.Edges.{Skips, Guards, Edge, edge_to, test_edges}
use Rattle.prog_theory.proofs.Elements.{Includes, Includes-left, Includes-right}
use Rattle.prog_theory.proofs.Conditions.{Can, can_some}
use Rattle.prog_theory.proofs.Walking.{Goes, by_edge_to, joined}

-- the target for a truth value
abbrev pub target : Bool → Option ℕ → Option ℕ → Option ℕ
target true hit miss = hit
target false hit miss = miss

module _ (es : List Edge) (s : State) where
  pub test_goes : (t : Test) (f m : ℕ) (hit miss : Option ℕ) (b : Bool) (q : ℕ)
      → Includes es (test_edges t f m hit miss) → Can t s b → target b hit miss ≡ Some q → Goes es f s q s
  test_goes Choice f m hit miss true q i h e = by_edge_to es f Skips hit q s s (Includes-left es _ _ i) e refl
  test_goes Choice f m hit miss false q i h e = by_edge_to es f Skips miss q s s (Includes-right es _ _ i) e refl
  test_goes (Guard l r) f m hit miss true q i h e =
      by_edge_to es f (Guards l r) hit q s s (Includes-left es _ _ i) e (h, refl)
  test_goes (Guard l r) f m hit miss false q i h e =
      by_edge_to es f (Guards (above r) l) miss q s s (Includes-right es (edge_to f (Guards l r) hit) _ i) e (h, refl)
  test_goes (Negated a) f m hit miss true q i h e = test_goes a f m miss hit false q i h e
  test_goes (Negated a) f m hit miss false q i h e = test_goes a f m miss hit true q i h e
  test_goes (Both a c) f m hit miss true q i h e =
      joined es f s (m + inner a) s q s
      (test_goes a f m (Some (m + inner a)) miss true (m + inner a) (Includes-left es _ _ i) h.0 refl)
      (test_goes c (m + inner a) (m + inner a + 1) hit miss true q (Includes-right es _ _ i) h.1 e)
  test_goes (Both a c) f m hit miss false q i h e =
      let left = λ (k : Can a s false). test_goes a f m (Some (m + inner a)) miss false q (Includes-left es _ _ i) k e
      in
      let right = λ (j : Can a s true) (k : Can c s false). joined es f s (m + inner a) s q s
      (test_goes a f m (Some (m + inner a)) miss true (m + inner a) (Includes-left es _ _ i) j refl)
      (test_goes c (m + inner a) (m + inner a + 1) hit miss false q (Includes-right es _ _ i) k e) in
      ⊎_elim left (λ k. ⊎_elim (λ j. right j k) left (can_some s a)) h
  test_goes (Either a c) f m hit miss false q i h e =
      joined es f s (m + inner a) s q s
      (test_goes a f m hit (Some (m + inner a)) false (m + inner a) (Includes-left es _ _ i) h.0 refl)
      (test_goes c (m + inner a) (m + inner a + 1) hit miss false q (Includes-right es _ _ i) h.1 e)
  test_goes (Either a c) f m hit miss true q i h e =
      let left = λ (k : Can a s true). test_goes a f m hit (Some (m + inner a)) true q (Includes-left es _ _ i) k e in
      let right = λ (j : Can a s false) (k : Can c s true). joined es f s (m + inner a) s q s
      (test_goes a f m hit (Some (m + inner a)) false (m + inner a) (Includes-left es _ _ i) j refl)
      (test_goes c (m + inner a) (m + inner a + 1) hit miss true q (Includes-right es _ _ i) k e) in
      ⊎_elim left (λ k. ⊎_elim left (λ j. right j k) (can_some s a)) h
