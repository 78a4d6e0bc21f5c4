-- A pass that gives a stage, seen from each of its points.
use Rattle.std.proofs.Common.{◌≡◌, inl, inr, ◌+◌, ◌<◌, ◌≤◌, ◌∙◌, ℕ, zero, suc, length, refl, sym, subst, ap, arith}
use Rattle.std.proofs.lemmas.List.{get_or-set_same, get_or-set_other, length-set}
use Rattle.std.proofs.lemmas.Bool.Decides.{eqb_tells}
use Rattle.prog_theory.specs.ControlGraphs.{ControlGraph}
use Rattle.dom_theory.specs.Relations.{Relations}
use Rattle.dom_theory.specs.Outcomes.{Outcome, Gives}
use Rattle.dom_theory.specs.Passes.{Held, Stage, value_at, changes_at, put, Points, Pass}
use Rattle.dom_theory.proofs.Given.{Is-gives, Then-gives}

pub record HasRoom {V : Type 0} (G : ControlGraph) (S : Stage V) : Type 0 where
  pub values : length S.values ≡ length G.points
  pub counts : length S.changes ≡ length G.points

abbrev pub held_at : {V : Type 0} → Relations V → ControlGraph → Stage V → ℕ → Held V
held_at D G S q = record { value = value_at D G S q; changes = changes_at S q }

-- The step at a point of the pass from S to T was made on a stage that has T below the point and S from it on.
pub record StepOf {V : Type 0} (D : Relations V) (G : ControlGraph) (Step : Stage V → ℕ → Outcome (Held V) → Type 0)
    (S T : Stage V) (q : ℕ) : Type 0 where
  pub middle : Stage V
  pub below : (a : ℕ) → a < q → held_at D G middle a ≡ held_at D G T a
  pub above : (a : ℕ) → q ≤ a → held_at D G middle a ≡ held_at D G S a
  pub gives : Step middle q (Gives (held_at D G T q))

room_put : {V : Type 0} (G : ControlGraph) (S : Stage V) (q : ℕ) (held : Held V) → HasRoom G S
    → HasRoom G (put S q held)
room_put G S q held room = record {
  values = length-set S.values q held.value
      ∙ room.values;
  counts = length-set S.changes q held.changes ∙ room.counts;
}

put_other : {V : Type 0} (D : Relations V) (G : ControlGraph) (S : Stage V) (q a : ℕ) (held : Held V) → (a ≡ q → ⊥)
    → held_at D G (put S q held) a ≡ held_at D G S a
put_other D G S q a held other = rw (
  get_or-set_other S.values q a held.value (D.bottom G.vars) other,
  get_or-set_other
      S.changes q a held.changes 0 other,
) refl

put_here : {V : Type 0} (D : Relations V) (G : ControlGraph) (S : Stage V) (q : ℕ) (held : Held V) → HasRoom G S
    → q < length G.points → held_at D G (put S q held) q ≡ held
put_here D G S q held room h =
    let iv : q < length S.values = let e = room.values in omega arith in
    let ic : q < length S.changes = let e = room.counts in omega arith in
    rw (get_or-set_same S.values q held.value (D.bottom G.vars) iv, get_or-set_same S.changes q held.changes 0 ic) refl

pub Points-room : {V : Type 0} (G : ControlGraph) (Step : Stage V → ℕ → Outcome (Held V) → Type 0) (m q : ℕ)
    (S T : Stage V) → HasRoom G S → Points Step m q S (Gives T) → HasRoom G T
Points-room G Step zero q S T room h = rw (Is-gives S T h) room
Points-room G Step (suc m) q S T room h =
    let t = Then-gives (Step S q) (λ held. Points Step m (q + 1) (put S q held)) T h in
    Points-room G Step m (q + 1) (put S q t.0) T (room_put G S q t.0 room) t.2

pub Points-kept : {V : Type 0} (D : Relations V) (G : ControlGraph) (Step : Stage V → ℕ → Outcome (Held V) → Type 0)
    (m q : ℕ) (S T : Stage V) → Points Step m q S (Gives T) →
    (a : ℕ) → a < q → held_at D G T a ≡ held_at D G S a
Points-kept D G Step zero q S T h a l = ap (λ U. held_at D G U a) (Is-gives S T h)
Points-kept D G Step (suc m) q S T h a l =
    let t = Then-gives (Step S q) (λ held. Points Step m (q + 1) (put S q held)) T h in
    Points-kept D G Step m (q + 1) (put S q t.0) T t.2 a (omega arith) ∙ put_other D G S q a t.0 (λ e. omega arith)

pub Points-at : {V : Type 0} (D : Relations V) (G : ControlGraph) (Step : Stage V → ℕ → Outcome (Held V) → Type 0)
    (m q : ℕ) (S T : Stage V) → HasRoom G S → q + m ≤ length G.points → Points Step m q S (Gives T) →
    (i : ℕ) → q ≤ i → i < q + m → StepOf D G Step S T i
Points-at D G Step zero q S T room fits h i from below = absurd (omega arith)
Points-at {V} D G Step (suc m) q S T room fits h i from below =
    let t = Then-gives (Step S q) (λ held. Points Step m (q + 1) (put S q held)) T h in
    elim (eqb_tells i q) [
      | inl w ↦
          let here : held_at D G T q ≡ t.0 = Points-kept D G Step m (q + 1) (put S q t.0) T t.2 q (omega arith)
          ∙ put_here D G S q t.0 room (omega arith) in
          let first : StepOf D G Step S T q = record {
            middle = S;
            below = λ a l. sym (Points-kept D G Step m (q + 1) (put S q t.0) T t.2 a (omega arith)
                ∙ put_other D G S q a t.0 (λ e. omega arith));
            above = λ a l. refl;
            gives = subst (λ x. Step S q (Gives x)) (sym here) t.1;
          } in
          subst (λ j. StepOf D G Step S T j) (sym w.1) first
      | inr w ↦
          let rest = Points-at D G Step m (q + 1) (put S q t.0) T (room_put G S q t.0 room) (omega arith) t.2 i
          (omega arith) (omega arith) in
          record {
            middle = rest.middle;
            below = rest.below;
            above = λ a l. rest.above a l ∙ put_other D G S q a t.0 (λ e. omega arith);
            gives = rest.gives;
          }
    ]

pub Pass-at : {V : Type 0} (D : Relations V) (G : ControlGraph) (Step : Stage V → ℕ → Outcome (Held V) → Type 0)
    (S T : Stage V) → HasRoom G S → Pass Step G S (Gives T) →
    (q : ℕ) → q < length G.points → StepOf D G Step S T q
Pass-at D G Step S T room h q l = Points-at D G Step (length G.points) 0 S T room (omega arith) h q (omega arith)
    (omega arith)
