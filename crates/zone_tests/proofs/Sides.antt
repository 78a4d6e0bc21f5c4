-- The terms of a side, as they stand in the code.
-- Index: mapped.
use Rattle.std.proofs.Common.{◌≡◌, ◌<◌, ℕ, zero, suc, List, [], ◌∷◌, map, length, All, get_or, subst, arith}
use Rattle.prog_theory.specs.States as theory
use Rattle.prog_tree.specs.declared.term.Term.{Term}
use Rattle.prog_tree.specs.Terms.{term_of}

each : (P : theory.Term → Type 0) (ts : List Term) → All (λ t. P (term_of t)) ts → All P (map term_of ts)
each P [] h = λ i d lt. absurd (omega (arith, lt))
each P (t ∷ ts) h = at (each P ts (λ i d lt. h (suc i) d (omega (arith, lt))))
  where
    at : All P (map term_of ts) → (i : ℕ) (d : theory.Term) → i < length (map term_of (t ∷ ts)) →
        P (get_or (map term_of (t ∷ ts)) i d)
    at k zero d lt = h 0 t (omega arith)
    at k (suc i) d lt = k i d (omega (arith, lt))

pub mapped : (P : theory.Term → Type 0) (ts : List Term) (all : List theory.Term) → map term_of ts ≡ all →
    All (λ t. P (term_of t)) ts → All P all
mapped P ts all e h = subst (All P) e (each P ts h)
