-- One point more in a pass.
use Rattle.std.proofs.Common.{◌≡◌, ◌+◌, ◌-◌, ◌<◌, ℕ, suc, length, refl, subst, arith}
use Rattle.prog_theory.specs.ControlGraphs.{ControlGraph}
use Rattle.dom_iter.specs.declared.error.IterErr.{IterErr}
use Rattle.dom_iter.specs.Comes.{StopsAt}
use Rattle.dom_theory.specs.Outcomes.{Outcome, Gives, Stops, Then, goes, stops}
use Rattle.dom_theory.specs.Passes.{Held, Stage, put, Points, Pass}
use Rattle.dom_iter.proofs.Comes.{StopsAt-in}

pub Points-first : {V : Type 0} (Step : Stage V → ℕ → Outcome (Held V) → Type 0) (n q : ℕ) (S : Stage V)
    (r : Outcome (Stage V)) → q < n →
    Then (Step S q) (λ held. Points Step (n - (q + 1)) (q + 1) (put S q held)) r → Points Step (n - q) q S r
Points-first Step n q S r h t = let e : n - q ≡ suc (n - (q + 1)) = omega arith in rw e t

pub Points-more : {V : Type 0} (Step : Stage V → ℕ → Outcome (Held V) → Type 0) (n q : ℕ) (S T : Stage V)
    (held : Held V) (r : Outcome (Stage V)) → q < n →
    Step S q (Gives held) → T ≡ put S q held → Points Step (n - (q + 1)) (q + 1) T r → Points Step (n - q) q S r
Points-more Step n q S T held r h step is rest = Points-first Step n q S r h
    (goes held step (subst (λ U. Points Step (n - (q + 1)) (q + 1) U r) is rest))

pub Points-stops : {V : Type 0} (Step : Stage V → ℕ → Outcome (Held V) → Type 0) (G : ControlGraph) (q : ℕ)
    (S first : Stage V) (e : IterErr) → q < length G.points →
    ((r : Outcome (Stage V)) → Points Step (length G.points - q) q S r → Pass Step G first r) → StopsAt (Step S q) e
    → StopsAt (Pass Step G first) e
Points-stops Step G q S first e h reads step =
    StopsAt-in (Step S q) (Pass Step G first)
    (λ s x. reads (Stops s) (Points-first Step (length G.points) q S (Stops s) h (stops s x refl))) e step
