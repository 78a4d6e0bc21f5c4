-- A pass that changes no head changes no point, where the stage before it was made by a pass.
use Rattle.std.proofs.Common.{◌≡◌, ◌⊎◌, inl, inr, ◌+◌, ◌<◌, ◌∙◌, ℕ, zero, suc, List, [], ◌∷◌, length, All, refl, sym, subst, ap, true, false, MatchBool, ◌==◌, arith}
use Rattle.std.proofs.lemmas.List.Elements.{All-head, All-tail, All-weaker}
use Rattle.std.proofs.lemmas.Bool.{eqb-true}
use Rattle.prog_theory.specs.Edges.{Edge}
use Rattle.prog_theory.specs.ControlGraphs.{ControlGraph, is_head}
use Rattle.prog_theory.specs.GraphKeeps.{IsControlGraph}
use Rattle.dom_theory.specs.Places.{Edge as EdgePart, Sum as SumPart}
use Rattle.dom_theory.specs.Relations.{Relations, Apply, Join}
use Rattle.dom_theory.specs.Laws.{DomainLaws, OneAnswer}
use Rattle.dom_theory.specs.Places.{Spot}
use Rattle.dom_theory.specs.Outcomes.{Gives, Is}
use Rattle.dom_theory.specs.Parts.{Asks}
use Rattle.dom_theory.specs.Sums.{Adds, AddsAll, Sum, before_edges}
use Rattle.dom_theory.specs.Passes.{Held, Stage, value_at, changes_at, HeadStep, Rises, Pass}
use Rattle.dom_theory.proofs.Given.{MatchBool-cases, Is-gives, Then-gives, Asks-gives}
use Rattle.dom_theory.proofs.Passed.{HasRoom, held_at, Points-room, Pass-at}
use Rattle.dom_theory.proofs.Walks.{SameHeads, Rises-heads, bool_cases}

Adds-same : {V : Type 0} (D : Relations V) (pass later q : ℕ) (value other : ℕ → V) (k : ℕ) (e : Edge) (n n' m m' : V)
    → OneAnswer D → n ≡ n' → (e.to ≡ q → value e.from ≡ other e.from) →
    Adds D (record { pass = pass; point = q }) value k e n (Gives m)
    → Adds D (record { pass = later; point = q }) other k e n' (Gives m') → m ≡ m'
Adds-same D pass later q value other k e n n' m m' laws same agree h h' =
    let a : Spot = record { pass = pass; point = q } in
    let b : Spot = record { pass = later; point = q } in
    elim (MatchBool-cases (e.to == q) _ _ h) [
      | inl w ↦ elim (MatchBool-cases (e.to == q) _ _ h') [
        | inl v ↦
            let t = Then-gives (Asks D a (EdgePart k) (Apply e.op (value e.from)))
            (λ image. Asks D a (SumPart k) (Join n image)) m w.1 in
            let u = Then-gives (Asks D b (EdgePart k) (Apply e.op (other e.from)))
            (λ image. Asks D b (SumPart k) (Join n' image)) m' v.1 in
            let i = Asks-gives D a (EdgePart k) (Apply e.op (value e.from)) t.0 t.1 in
            let j = Asks-gives D b (EdgePart k) (Apply e.op (other e.from)) u.0 u.1 in
            let x = Asks-gives D a (SumPart k) (Join n t.0) m t.2 in
            let y = Asks-gives D b (SumPart k) (Join n' u.0) m' u.2 in
            let from = agree (eqb-true e.to q w.0) in
            let images : t.0 ≡ u.0 = laws.applied e.op (value e.from) t.0 u.0 i.1
            (subst (λ z. D.applied e.op z u.0) (sym from) j.1) in
            let y' = subst (λ z. D.joined z u.0 m') (sym same) y.1 in
            laws.joined n t.0 m m' x.1 (subst (λ z. D.joined n z m') (sym images) y')
        | inr v ↦ absurd (cc (w.0, v.0))
      ]
      | inr w ↦ elim (MatchBool-cases (e.to == q) _ _ h') [
        | inl v ↦ absurd (cc (w.0, v.0))
        | inr v ↦ Is-gives n m w.1 ∙ (same ∙ sym (Is-gives n' m' v.1))
      ]
    ]

AddsAll-same : {V : Type 0} (D : Relations V) (pass later q : ℕ) (value other : ℕ → V) (k : ℕ) (edges : List Edge)
    (n n' m m' : V) → OneAnswer D → n ≡ n' → All (λ e. e.to ≡ q → value e.from ≡ other e.from) edges →
    AddsAll D (record { pass = pass; point = q }) value k edges n (Gives m)
    → AddsAll D (record { pass = later; point = q }) other k edges n' (Gives m') → m ≡ m'
AddsAll-same D pass later q value other k [] n n' m m' laws same agree h h' = Is-gives n m h
    ∙ (same ∙ sym (Is-gives n' m' h'))
AddsAll-same D pass later q value other k (e ∷ edges) n n' m m' laws same agree h h' =
    let a : Spot = record { pass = pass; point = q } in
    let b : Spot = record { pass = later; point = q } in
    let t = Then-gives (Adds D a value k e n) (AddsAll D a value (k + 1) edges) m h in
    let u = Then-gives (Adds D b other k e n') (AddsAll D b other (k + 1) edges) m' h' in
    let first = Adds-same D pass later q value other k e n n' t.0 u.0 laws same
    (All-head (λ (x : Edge). x.to ≡ q → value x.from ≡ other x.from) e edges agree) t.1 u.1 in
    AddsAll-same D pass later q value other (k + 1) edges t.0 u.0 m m' laws first
    (All-tail (λ (x : Edge). x.to ≡ q → value x.from ≡ other x.from) e edges agree) t.2 u.2

-- what a point that is no head takes in a pass of the ascent
pub record TakesSum {V : Type 0} (D : Relations V) (G : ControlGraph) (pass : ℕ) (T : Stage V) (q : ℕ) : Type 0 where
  pub value : ℕ → V
  pub below : (a : ℕ) → a < q → value a ≡ value_at D G T a
  pub is_sum : Sum D G (record { pass = pass; point = q }) value (Gives (value_at D G T q))

pub Rises-takes : {V : Type 0} (D : Relations V) (G : ControlGraph) (delay pass : ℕ) (S T : Stage V) → HasRoom G S
    → Pass (Rises D G delay pass) G S (Gives T) → (q : ℕ) → q < length G.points → is_head G q ≡ false
    → TakesSum D G pass T q
Rises-takes {V} D G delay pass S T room h q l plain =
    let p = Pass-at D G (Rises D G delay pass) S T room h q l in
    let spot : Spot = record { pass = pass; point = q } in
    let c : ℕ = changes_at p.middle q in
    let x : V = value_at D G p.middle q in
    let t = Then-gives (Sum D G spot (value_at D G p.middle))
    (λ n r. MatchBool (is_head G q) (HeadStep D G delay spot x c n r) (Is (record { value = n; changes = c }) r))
    (held_at D G T q) p.gives in
    elim (MatchBool-cases (is_head G q) (HeadStep D G delay spot x c t.0 (Gives (held_at D G T q)))
    (Is (record { value = t.0; changes = c }) (Gives (held_at D G T q))) t.2) [
      | inl w ↦ absurd (cc (plain, w.0))
      | inr w ↦
          let same : value_at D G T q ≡ t.0 = ap (λ (u : Held _). u.value)
          (Is-gives (record { value = t.0; changes = c }) (held_at D G T q) w.1) in
          record {
            value = value_at D G p.middle;
            below = λ a m. ap (λ (u : Held _). u.value) (p.below a m);
            is_sum = subst (λ v. Sum D G spot (value_at D G p.middle) (Gives v)) (sym same) t.1;
          }
    ]

pub head_or_up : (G : ControlGraph) → IsControlGraph G → (q : ℕ) → is_head G q ≡ false
    → All (λ e. e.to ≡ q → e.from < q) G.edges
head_or_up G sound q plain = All-weaker (λ (e : Edge). (is_head G e.to ≡ true) ⊎ (e.from < e.to))
    (λ (e : Edge). e.to ≡ q → e.from < q)
    (λ e h same. elim h [ inl hd ↦ absurd (let w = rw same at hd in cc) | inr up ↦ omega arith ]) G.edges sound.ascends

settled_below : {V : Type 0} (D : Relations V) (G : ControlGraph) (pass later : ℕ) (S T : Stage V) → OneAnswer D
    → IsControlGraph G → SameHeads D G S T →
    ((q : ℕ) → q < length G.points → is_head G q ≡ false → TakesSum D G pass S q)
    → ((q : ℕ) → q < length G.points → is_head G q ≡ false → TakesSum D G later T q) →
    (bound q : ℕ) → q < bound → q < length G.points → value_at D G T q ≡ value_at D G S q
settled_below D G pass later S T laws sound heads old new zero q l inside = absurd (omega arith)
settled_below D G pass later S T laws sound heads old new (suc bound) q l inside = elim (bool_cases (is_head G q)) [
  | inl hd ↦ heads.same q inside hd
  | inr plain ↦
      let a = new q inside plain in
      let b = old q inside plain in
      let agree : All (λ (e : Edge). e.to ≡ q → a.value e.from ≡ b.value e.from) G.edges = All-weaker
      (λ (e : Edge). e.to ≡ q → e.from < q) (λ (e : Edge). e.to ≡ q → a.value e.from ≡ b.value e.from)
      (λ e up same. let u : e.from < q = up same in
      a.below e.from u ∙ (settled_below D G pass later S T laws sound heads old new bound e.from (omega arith)
      (omega arith) ∙ sym (b.below e.from u))) G.edges (head_or_up G sound q plain) in
      AddsAll-same D later pass q a.value b.value 0 G.edges (before_edges D G q) (before_edges D G q) (value_at D G T q)
      (value_at D G S q) laws refl agree a.is_sum b.is_sum
]

-- the theorem
pub pass_settles : {V : Type 0} (D : Relations V) (G : ControlGraph) (delay pass later : ℕ) (before S T : Stage V)
    → {most : ℕ} → DomainLaws D most → IsControlGraph G → HasRoom G before →
    Pass (Rises D G delay pass) G before (Gives S) → Pass (Rises D G delay later) G S (Gives T) → T.changes ≡ S.changes
    → (q : ℕ) → q < length G.points → value_at D G T q ≡ value_at D G S q
pass_settles D G delay pass later before S T laws sound room made last same q inside =
    let room' = Points-room G (Rises D G delay pass) (length G.points) 0 before S room made in
    settled_below D G pass later S T laws.one sound (Rises-heads D G delay later S T laws.states room' last same)
    (Rises-takes D G delay pass before S room made) (Rises-takes D G delay later S T room' last) (suc q) q
    (omega arith) inside
