-- One pass more of the narrowing.
use Rattle.std.proofs.Common.{◌≡◌, ◌+◌, ◌-◌, ◌<◌, ℕ, suc, refl, subst, arith}
use Rattle.prog_theory.specs.ControlGraphs.{ControlGraph}
use Rattle.dom_theory.specs.Relations.{Relations}
use Rattle.dom_iter.specs.declared.error.IterErr.{IterErr}
use Rattle.dom_iter.specs.Comes.{StopsAt}
use Rattle.dom_theory.specs.Outcomes.{Outcome, Gives, Stops, Then, goes, stops}
use Rattle.dom_theory.specs.Passes.{Stage, Settles, Pass}
use Rattle.dom_theory.specs.Analysis.{Narrows}
use Rattle.dom_iter.proofs.Comes.{StopsAt-in}

pub Narrows-first : {V : Type 0} (D : Relations V) (G : ControlGraph) (n k pass : ℕ) (S : Stage V)
    (r : Outcome (Stage V)) → k < n →
    Then (Pass (Settles D G (pass + k)) G S) (Narrows D G (n - (k + 1)) (pass + (k + 1))) r
    → Narrows D G (n - k) (pass + k) S r
Narrows-first D G n k pass S r h t =
    let e : n - k ≡ suc (n - (k + 1)) = omega arith in
    let f : pass + (k + 1) ≡ (pass + k) + 1 = omega arith in
    rw e (subst (λ j. Then (Pass (Settles D G (pass + k)) G S) (Narrows D G (n - (k + 1)) j) r) f t)

pub Narrows-more : {V : Type 0} (D : Relations V) (G : ControlGraph) (n k pass : ℕ) (S T : Stage V)
    (r : Outcome (Stage V)) → k < n →
    Pass (Settles D G (pass + k)) G S (Gives T) → Narrows D G (n - (k + 1)) (pass + (k + 1)) T r
    → Narrows D G (n - k) (pass + k) S r
Narrows-more D G n k pass S T r h gives rest = Narrows-first D G n k pass S r h (goes T gives rest)

pub Narrows-stops : {V : Type 0} (D : Relations V) (G : ControlGraph) (n k pass : ℕ) (S first : Stage V) (e : IterErr)
    → k < n →
    ((r : Outcome (Stage V)) → Narrows D G (n - k) (pass + k) S r → Narrows D G n pass first r) →
    StopsAt (Pass (Settles D G (pass + k)) G S) e → StopsAt (Narrows D G n pass first) e
Narrows-stops D G n k pass S first e h reads step =
    StopsAt-in (Pass (Settles D G (pass + k)) G S) (Narrows D G n pass first)
    (λ s x. reads (Stops s) (Narrows-first D G n k pass S (Stops s) h (stops s x refl))) e step
