-- A pass of the narrowing keeps the number of variables.
use Rattle.std.proofs.Common.{◌≡◌, inl, inr, ◌<◌, ◌∙◌, ℕ, length, set, ap, arith}
use Rattle.std.proofs.lemmas.List.{get_or-set_same, get_or-set_other, length-set}
use Rattle.std.proofs.lemmas.Bool.Decides.{eqb_tells}
use Rattle.prog_theory.specs.ControlGraphs.{ControlGraph}
use Rattle.prog_theory.specs.GraphKeeps.{IsControlGraph}
use Rattle.dom_theory.specs.Relations.{Relations}
use Rattle.dom_theory.specs.Laws.{VarsLaws}
use Rattle.dom_theory.specs.Places.{Spot}
use Rattle.dom_theory.specs.Outcomes.{Gives, Is}
use Rattle.dom_theory.specs.Sums.{Sum}
use Rattle.dom_theory.specs.Passes.{Held, Stage, value_at, changes_at, Settles}
use Rattle.dom_iter.specs.Fair.{AreValues}
use Rattle.dom_theory.proofs.Given.{Is-gives, Then-gives}
use Rattle.dom_iter.proofs.Stepping.{Sum-vars, sources}

pub Settles-values : {V : Type 0} (D : Relations V) (G : ControlGraph) (pass : ℕ) (S : Stage V) (q : ℕ) (held : Held V)
    → VarsLaws D → IsControlGraph G → AreValues D G S.values → q < length G.points →
    Settles D G pass S q (Gives held) → AreValues D G (set S.values q held.value)
Settles-values D G pass S q held laws sound are inside h =
    let spot : Spot = record { pass = pass; point = q } in
    let t = Then-gives (Sum D G spot (value_at D G S)) (λ n. Is (record { value = n; changes = changes_at S q })) held
    h in
    let vn = Sum-vars D G spot (value_at D G S) (length S.values) t.0 laws are.vars
    (sources G S.values are.one_each sound) t.1 in
    let same = Is-gives (record { value = t.0; changes = changes_at S q }) held t.2 in
    let vh : D.vars held.value ≡ G.vars = ap (λ (u : Held _). D.vars u.value) same ∙ vn in
    record {
      one_each = length-set S.values q held.value ∙ are.one_each;
      vars = λ i h. elim (eqb_tells i q) [
        | inl w ↦ let iv : i < length S.values = let e = length-set S.values q held.value in omega arith in rw (← w.1)
            (rw (get_or-set_same S.values i held.value (D.bottom G.vars) iv) vh)
        | inr w ↦ rw (get_or-set_other S.values q i held.value (D.bottom G.vars) w.1)
            (are.vars i (let e = length-set S.values q held.value in omega arith))
      ];
    }
