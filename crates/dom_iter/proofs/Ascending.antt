-- One pass more of the ascent.
use Rattle.std.proofs.Common.{◌≡◌, ◌+◌, ◌*◌, ◌<◌, ◌≤◌, ℕ, length, sum, refl, ap, arith}
use Rattle.std.proofs.Math.Nat.{mul-le-mul}
use Rattle.prog_theory.specs.ControlGraphs.{ControlGraph}
use Rattle.prog_theory.specs.GraphKeeps.{IsControlGraph}
use Rattle.dom_theory.specs.Relations.{Relations}
use Rattle.dom_theory.specs.Laws.{DomainLaws}
use Rattle.dom_iter.specs.declared.error.IterErr.{IterErr}
use Rattle.dom_iter.specs.Comes.{StopsAt}
use Rattle.dom_theory.specs.Outcomes.{Outcome, Gives, Stops}
use Rattle.dom_theory.specs.Passes.{Stage, Rises, Pass}
use Rattle.dom_theory.specs.Analysis.{Ascent, Risen, ends, goes_on, stops}
use Rattle.dom_iter.specs.Fair.{most_changes}
use Rattle.dom_iter.proofs.Comes.{StopsAt-in}

pub Ascent-stops : {V : Type 0} (D : Relations V) (G : ControlGraph) (delay pass : ℕ) (S first : Stage V) (e : IterErr)
    →
    ((r : Outcome (Risen V)) → Ascent D G delay pass S r → Ascent D G delay 1 first r)
    → StopsAt (Pass (Rises D G delay pass) G S) e → StopsAt (Ascent D G delay 1 first) e
Ascent-stops D G delay pass S first e reads step =
    StopsAt-in (Pass (Rises D G delay pass) G S) (Ascent D G delay 1 first)
    (λ s x. reads (Stops s) (stops pass S s (Stops s) x refl)) e step

-- where the sums differ, so do the counts
pub Ascent-goes_on : {V : Type 0} (D : Relations V) (G : ControlGraph) (delay pass : ℕ) (S T : Stage V)
    (r : Outcome (Risen V)) →
    Pass (Rises D G delay pass) G S (Gives T) → sum S.changes < sum T.changes → Ascent D G delay (pass + 1) T r
    → Ascent D G delay pass S r
Ascent-goes_on D G delay pass S T r gives more rest = goes_on pass S T r gives
    (λ same. let e : sum T.changes ≡ sum S.changes = ap sum same in omega arith) rest

pub Ascent-ends : {V : Type 0} (D : Relations V) (G : ControlGraph) (delay pass : ℕ) (S T : Stage V) →
    Pass (Rises D G delay pass) G S (Gives T) → T.changes ≡ S.changes
    → Ascent D G delay pass S (Gives (record { stage = T; passes = pass }))
Ascent-ends D G delay pass S T gives same = ends pass S T (Gives (record { stage = T; passes = pass })) gives same refl

-- all changes of all heads stay below 2^42
pub all_changes : {V : Type 0} (D : Relations V) (G : ControlGraph) (delay : ℕ) → {most : ℕ} → DomainLaws D most
    → G.vars ≤ most → IsControlGraph G → delay ≤ 1000 → length G.heads * most_changes D G delay ≤ 4398046511104
all_changes D G delay laws few sound small =
    let w = laws.widths.small G.vars few in
    let one : most_changes D G delay ≤ 4294968297 = omega arith in
    let all : length G.heads * most_changes D G delay ≤ 400 * 4294968297 = mul-le-mul sound.few one in
    omega arith
