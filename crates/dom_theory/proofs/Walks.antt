-- Each state in which a walk from point 0 reaches a point is a state of the value that the analysis gives there.
-- Index: Covers, FlowsAt, Flows, target_inside, Settles-flows, bool_cases, SameHeads, IsMade, HeadStep-same, RisesAt,
-- Rises-flows, Rises-heads, Rises-made, Early, back_head, analysis_covers_walks.
use Rattle.std.proofs.Common.{◌≡◌, ◌⊎◌, inl, inr, ◌+◌, ◌<◌, ◌≤◌, ◌∙◌, ℕ, zero, suc, List, length, refl, sym, subst, ap, get_or, Contains, Bool, true, false, MatchBool, arith}
use Rattle.std.proofs.lemmas.List.{get_or-replicate, length-replicate}
use Rattle.std.proofs.lemmas.List.Elements.{All-contains}
use Rattle.std.proofs.lemmas.Bool.{cases_lt}
use Rattle.prog_theory.specs.Edges.{Edge}
use Rattle.prog_theory.specs.ControlGraphs.{ControlGraph, is_head}
use Rattle.prog_theory.specs.GraphKeeps.{IsControlGraph}
use Rattle.prog_theory.specs.States.{State}
use Rattle.prog_theory.specs.Walks.{Leads}
use Rattle.prog_theory.specs.Walks.{Reaches, begins, goes as goes_along}
use Rattle.dom_theory.specs.Places.{Head}
use Rattle.dom_theory.specs.Relations.{Relations, Join, Widen}
use Rattle.dom_theory.specs.Laws.{StateLaws}
use Rattle.dom_theory.specs.Places.{Spot}
use Rattle.dom_theory.specs.Outcomes.{Outcome, Gives, Then, Is}
use Rattle.dom_theory.specs.Parts.{Asks}
use Rattle.dom_theory.specs.Sums.{Sum}
use Rattle.dom_theory.specs.Passes.{Held, Stage, value_at, changes_at, HeadStep, keeps, joins, widens, Rises, Settles, Pass}
use Rattle.dom_theory.specs.Analysis.{Ascent, ends, goes_on, stops, Risen, End, Narrows, Analysis, at_first}
use Rattle.dom_theory.proofs.Given.{MatchBool-cases, Is-gives, Then-gives}
use Rattle.dom_theory.proofs.Passed.{HasRoom, held_at, Points-room, Pass-at}
use Rattle.dom_theory.proofs.Images.{Sum-image, Sum-begins}

-- the states of all walks are in the stage
pub record Covers {V : Type 0} (D : Relations V) (G : ControlGraph) (S : Stage V) : Type 0 where
  pub has : (q : ℕ) (s : State) → Reaches G q s → D.has (value_at D G S q) s

-- A sum at the point, over values that are T's below the point and S's from it on, has its states in the value of T.
pub record FlowsAt {V : Type 0} (D : Relations V) (G : ControlGraph) (S T : Stage V) (q : ℕ) : Type 0 where
  pub pass : ℕ
  pub value : ℕ → V
  pub below : (a : ℕ) → a < q → value a ≡ value_at D G T a
  pub above : (a : ℕ) → q ≤ a → value a ≡ value_at D G S a
  pub sum : V
  pub is_sum : Sum D G (record { pass = pass; point = q }) value (Gives sum)
  pub inside : (s : State) → D.has sum s → D.has (value_at D G T q) s

pub record Flows {V : Type 0} (D : Relations V) (G : ControlGraph) (S T : Stage V) : Type 0 where
  pub at_each : (q : ℕ) → q < length G.points → FlowsAt D G S T q

-- one edge of a walk
flow_along : {V : Type 0} (D : Relations V) (G : ControlGraph) (S T : Stage V) (e : Edge) (s t : State) → StateLaws D
    → FlowsAt D G S T e.to → Contains G.edges e → Leads e.op s t →
    (e.from < e.to → D.has (value_at D G T e.from) s) → (e.to ≤ e.from → D.has (value_at D G S e.from) s)
    → D.has (value_at D G T e.to) t
flow_along D G S T e s t laws f inside leads new old =
    let has : D.has (f.value e.from) s = elim (cases_lt e.from e.to) [
      | inl l ↦ rw (f.below e.from l) (new l)
      | inr l ↦ rw (f.above e.from l) (old l)
    ] in
    f.inside t (Sum-image D G (record { pass = f.pass; point = e.to }) f.value f.sum e s t laws inside refl has leads
    f.is_sum)

flow_begins : {V : Type 0} (D : Relations V) (G : ControlGraph) (S T : Stage V) (s : State) → StateLaws D
    → FlowsAt D G S T 0 → length s ≡ G.vars → D.has (value_at D G T 0) s
flow_begins D G S T s laws f wide = f.inside s
    (Sum-begins D G (record { pass = f.pass; point = 0 }) f.value f.sum s laws refl wide f.is_sum)

pub target_inside : (G : ControlGraph) (e : Edge) → IsControlGraph G → Contains G.edges e → e.to < length G.points
target_inside G e sound inside =
    (All-contains (λ (x : Edge). (x.from < length G.points) × (x.to < length G.points)) G.edges e sound.joins inside).1

-- What a pass makes of a stage that has the states of all walks has them too.
flows_covers : {V : Type 0} (D : Relations V) (G : ControlGraph) (S T : Stage V) → StateLaws D → IsControlGraph G
    → Covers D G S → Flows D G S T → {q : ℕ} {s : State} → Reaches G q s → D.has (value_at D G T q) s
flows_covers D G S T laws sound old flows (begins s wide) = flow_begins D G S T s laws (flows.at_each 0 sound.entry)
    wide
flows_covers D G S T laws sound old flows (goes_along e s t walk inside leads) =
    flow_along D G S T e s t laws (flows.at_each e.to (target_inside G e sound inside)) inside leads
    (λ l. flows_covers D G S T laws sound old flows walk) (λ l. old.has e.from s walk)

pub Settles-flows : {V : Type 0} (D : Relations V) (G : ControlGraph) (pass : ℕ) (S T : Stage V) → HasRoom G S
    → Pass (Settles D G pass) G S (Gives T) → Flows D G S T
Settles-flows D G pass S T room h = record {
  at_each = λ q l.
      let p = Pass-at D G (Settles D G pass) S T room h q l in
      let spot : Spot = record { pass = pass; point = q } in
      let t = Then-gives (Sum D G spot (value_at D G p.middle))
      (λ n. Is (record { value = n; changes = changes_at p.middle q })) (held_at D G T q) p.gives in
      let same : value_at D G T q ≡ t.0 = ap (λ (u : Held _). u.value)
      (Is-gives (record { value = t.0; changes = changes_at p.middle q }) (held_at D G T q) t.2) in
      record {
        pass = pass;
        value = value_at D G p.middle;
        below = λ a m. ap (λ (u : Held _). u.value) (p.below a m);
        above = λ a m. ap (λ (u : Held _). u.value) (p.above a m);
        sum = t.0;
        is_sum = t.1;
        inside = λ s has. rw same has;
      };
}

pub bool_cases : (b : Bool) → (b ≡ true) ⊎ (b ≡ false)
bool_cases true = inl refl
bool_cases false = inr refl

-- ---- the ascent

-- the heads keep their values
pub record SameHeads {V : Type 0} (D : Relations V) (G : ControlGraph) (S T : Stage V) : Type 0 where
  pub same : (q : ℕ) → q < length G.points → is_head G q ≡ true → value_at D G T q ≡ value_at D G S q

-- each other point has the sum of a pass
pub record IsMade {V : Type 0} (D : Relations V) (G : ControlGraph) (S : Stage V) : Type 0 where
  pub made : (q : ℕ) → q < length G.points → is_head G q ≡ false → (old : Stage V) × FlowsAt D G old S q

pub HeadStep-same : {V : Type 0} (D : Relations V) (G : ControlGraph) (delay : ℕ) (spot : Spot) (x : V) (c : ℕ) (n : V)
    (held : Held V) → HeadStep D G delay spot x c n (Gives held) → held.changes ≡ c →
    D.within n x × (held.value ≡ x)
HeadStep-same D G delay spot x c n held (keeps w is) same =
    (w, ap (λ (u : Held _). u.value) (Is-gives (record { value = x; changes = c }) held is))
HeadStep-same D G delay spot x c n held (joins leaves which t) same =
    let u = Then-gives (Asks D spot Head (Join x n)) (λ y. Is (record { value = y; changes = c + 1 })) held t in
    let e : held.changes ≡ c + 1 = ap (λ (v : Held _). v.changes)
    (Is-gives (record { value = u.0; changes = c + 1 }) held u.2) in
    absurd (omega arith)
HeadStep-same D G delay spot x c n held (widens leaves more late t) same =
    let u = Then-gives (Asks D spot Head (Widen x n)) (λ y. Is (record { value = y; changes = c + 1 })) held t in
    let e : held.changes ≡ c + 1 = ap (λ (v : Held _). v.changes)
    (Is-gives (record { value = u.0; changes = c + 1 }) held u.2) in
    absurd (omega arith)

-- a pass of the ascent, at one point
pub record RisesAt {V : Type 0} (D : Relations V) (G : ControlGraph) (S T : Stage V) (q : ℕ) : Type 0 where
  pub other : is_head G q ≡ false → FlowsAt D G S T q
  pub head : is_head G q ≡ true → changes_at T q ≡ changes_at S q
      → FlowsAt D G S T q × (value_at D G T q ≡ value_at D G S q)

Rises-at : {V : Type 0} (D : Relations V) (G : ControlGraph) (delay pass : ℕ) (S T : Stage V) → StateLaws D
    → HasRoom G S → Pass (Rises D G delay pass) G S (Gives T) → (q : ℕ) → q < length G.points → RisesAt D G S T q
Rises-at {V} D G delay pass S T laws room h q l =
    let p = Pass-at D G (Rises D G delay pass) S T room h q l in
    let spot : Spot = record { pass = pass; point = q } in
    let c : ℕ = changes_at p.middle q in
    let x : V = value_at D G p.middle q in
    let t = Then-gives (Sum D G spot (value_at D G p.middle))
    (λ n r. MatchBool (is_head G q) (HeadStep D G delay spot x c n r) (Is (record { value = n; changes = c }) r))
    (held_at D G T q) p.gives in
    let xs : x ≡ value_at D G S q = ap (λ (u : Held _). u.value) (p.above q (omega arith)) in
    let cs : c ≡ changes_at S q = ap (λ (u : Held _). u.changes) (p.above q (omega arith)) in
    let flow : ((s : State) → D.has t.0 s → D.has (value_at D G T q) s) → FlowsAt D G S T q = λ f. record {
      pass = pass;
      value = value_at D G p.middle;
      below = λ a m. ap (λ (u : Held _). u.value) (p.below a m);
      above = λ a m. ap (λ (u : Held _). u.value) (p.above a m);
      sum = t.0;
      is_sum = t.1;
      inside = f;
    } in
    let cases = MatchBool-cases (is_head G q) (HeadStep D G delay spot x c t.0 (Gives (held_at D G T q)))
    (Is (record { value = t.0; changes = c }) (Gives (held_at D G T q))) t.2 in
    record {
      other = λ plain. elim cases [
        | inl w ↦ absurd (cc (plain, w.0))
        | inr w ↦
            let same : value_at D G T q ≡ t.0 = ap (λ (u : Held _). u.value)
            (Is-gives (record { value = t.0; changes = c }) (held_at D G T q) w.1) in
            flow (λ s has. rw same has)
      ];
      head = λ hd kept. elim cases [
        | inl w ↦
            let k = HeadStep-same D G delay spot x c t.0 (held_at D G T q) w.1 (kept ∙ sym cs) in
            (flow (λ s has. rw k.1 (laws.within t.0 x s k.0 has)), k.1 ∙ xs)
        | inr w ↦ absurd (cc (hd, w.0))
      ];
    }

pub Rises-flows : {V : Type 0} (D : Relations V) (G : ControlGraph) (delay pass : ℕ) (S T : Stage V) → StateLaws D
    → HasRoom G S → Pass (Rises D G delay pass) G S (Gives T) → T.changes ≡ S.changes → Flows D G S T
Rises-flows D G delay pass S T laws room h same = record {
  at_each = λ q l.
      let r = Rises-at D G delay pass S T laws room h q l in
      elim (bool_cases (is_head G q)) [
        | inl hd ↦ (r.head hd (ap (λ (xs : List ℕ). get_or xs q 0) same)).0
        | inr plain ↦ r.other plain
      ];
}

pub Rises-heads : {V : Type 0} (D : Relations V) (G : ControlGraph) (delay pass : ℕ) (S T : Stage V) → StateLaws D
    → HasRoom G S → Pass (Rises D G delay pass) G S (Gives T) → T.changes ≡ S.changes → SameHeads D G S T
Rises-heads D G delay pass S T laws room h same = record {
  same = λ q l hd. ((Rises-at D G delay pass S T laws room h q l).head hd
      (ap (λ (xs : List ℕ). get_or xs q 0) same)).1;
}

pub Rises-made : {V : Type 0} (D : Relations V) (G : ControlGraph) (delay pass : ℕ) (S T : Stage V) → StateLaws D
    → HasRoom G S → Pass (Rises D G delay pass) G S (Gives T) → IsMade D G T
Rises-made D G delay pass S T laws room h = record
    { made = λ q l plain. (S, (Rises-at D G delay pass S T laws room h q l).other plain) }

goes_up : (G : ControlGraph) (e : Edge) → IsControlGraph G → Contains G.edges e → is_head G e.to ≡ false → e.from < e.to
goes_up G e sound inside plain = elim (All-contains (λ (x : Edge). (is_head G x.to ≡ true) ⊎ (x.from < x.to)) G.edges e
    sound.ascends inside) [ inl hd ↦ absurd (cc (plain, hd)) | inr up ↦ up ]

-- Where the last pass of the ascent has one before it: both have the states of all walks.
last_covers : {V : Type 0} (D : Relations V) (G : ControlGraph) (S T : Stage V) → StateLaws D → IsControlGraph G
    → IsMade D G S → Flows D G S T → SameHeads D G S T →
    {q : ℕ} {s : State} → Reaches G q s → D.has (value_at D G S q) s × D.has (value_at D G T q) s
last_covers D G S T laws sound made flows heads (begins s wide) =
    let new = flow_begins D G S T s laws (flows.at_each 0 sound.entry) wide in (
      elim (bool_cases (is_head G 0)) [
        | inl hd ↦ rw (heads.same 0 sound.entry hd) at new
        | inr plain ↦ let m = made.made 0 sound.entry plain in flow_begins D G m.0 S s laws m.1 wide
      ],
      new,
    )
last_covers D G S T laws sound made flows heads (goes_along e s t walk inside leads) =
    let there = last_covers D G S T laws sound made flows heads walk in
    let l = target_inside G e sound inside in
    let new = flow_along D G S T e s t laws (flows.at_each e.to l) inside leads (λ _. there.1) (λ _. there.0) in (
      elim (bool_cases (is_head G e.to)) [
        | inl hd ↦ rw (heads.same e.to l hd) at new
        | inr plain ↦
            let m = made.made e.to l plain in
            let up = goes_up G e sound inside plain in
            flow_along D G m.0 S e s t laws m.1 inside leads (λ _. there.0) (λ back. absurd (omega arith))
      ],
      new,
    )

-- Where the ascent ends in its first pass, no walk reaches a head.
pub record Early {V : Type 0} (D : Relations V) (G : ControlGraph) (T : Stage V) (q : ℕ) (s : State) : Type 0 where
  pub has : D.has (value_at D G T q) s
  pub no_head : is_head G q ≡ false
  pub outside : (f : Edge) → Contains G.edges f → f.to ≤ f.from → (q < f.to) ⊎ (f.from < q)

pub back_head : (G : ControlGraph) (f : Edge) → IsControlGraph G → Contains G.edges f → f.to ≤ f.from
    → is_head G f.to ≡ true
back_head G f sound inside back = elim (All-contains (λ (x : Edge). (is_head G x.to ≡ true) ⊎ (x.from < x.to)) G.edges f
    sound.ascends inside) [ inl hd ↦ hd | inr up ↦ absurd (omega arith) ]

head_empty : {V : Type 0} (D : Relations V) (G : ControlGraph) (T : Stage V) → StateLaws D
    → SameHeads D G (at_first D G) T → (q : ℕ) (s : State) → q < length G.points → is_head G q ≡ true
    → D.has (value_at D G T q) s → ⊥
head_empty {V} D G T laws heads q s l hd has =
    let e : value_at D G T q ≡ D.bottom G.vars = heads.same q l hd ∙ get_or-replicate {A = V} (length G.points) q
    (D.bottom G.vars) (D.bottom G.vars) l in
    laws.none G.vars s (rw e at has)

first_covers : {V : Type 0} (D : Relations V) (G : ControlGraph) (T : Stage V) → StateLaws D → IsControlGraph G
    → Flows D G (at_first D G) T → SameHeads D G (at_first D G) T → {q : ℕ} {s : State} → Reaches G q s
    → Early D G T q s
first_covers D G T laws sound flows heads (begins s wide) =
    let has = flow_begins D G (at_first D G) T s laws (flows.at_each 0 sound.entry) wide in
    let plain : is_head G 0 ≡ false = elim (bool_cases (is_head G 0))
    [ inl hd ↦ absurd (head_empty D G T laws heads 0 s sound.entry hd has) | inr plain ↦ plain ] in
    record {
      has = has;
      no_head = plain;
      outside = λ f inside back. elim (cases_lt 0 f.to) [
        | inl l ↦ inl l
        | inr l ↦ let z : f.to ≡ 0 = omega arith in let hd = rw z at (back_head G f sound inside back) in absurd
            (cc (hd, plain))
      ];
    }
first_covers {V} D G T laws sound flows heads (goes_along e s t walk inside leads) =
    let early = first_covers D G T laws sound flows heads walk in
    let l = target_inside G e sound inside in
    let at_up : e.from < e.to → D.has (value_at D G T e.to) t = λ up. flow_along D G (at_first D G) T e s t laws
    (flows.at_each e.to l) inside leads (λ _. early.has) (λ back. absurd (omega arith)) in
    let plain : is_head G e.to ≡ false = elim (bool_cases (is_head G e.to)) [
      | inl hd ↦ elim (cases_lt e.from e.to) [
        | inl up ↦ absurd (head_empty D G T laws heads e.to t l hd (at_up up))
        | inr back ↦ elim (early.outside e inside back) [ inl a ↦ absurd (omega arith) | inr b ↦ absurd (omega arith) ]
      ]
      | inr plain ↦ plain
    ] in
    let up = goes_up G e sound inside plain in
    record {
      has = at_up up;
      no_head = plain;
      outside = λ f in_f back. elim (early.outside f in_f back) [
        | inl before ↦ elim (cases_lt e.to f.to) [
          | inl a ↦ inl a
          | inr a ↦ elim (cases_lt f.to e.to) [
            | inl b ↦ elim (cases_lt f.from e.to) [
              | inl c ↦ inr c
              | inr c ↦ absurd (sound.enters f e in_f inside back before b c)
            ]
            | inr b ↦ let z : f.to ≡ e.to = omega arith in let hd = rw z at (back_head G f sound in_f back) in absurd
                (cc (hd, plain))
          ]
        ]
        | inr behind ↦ inr (omega arith)
      ];
    }

Ascent-covers : {V : Type 0} (D : Relations V) (G : ControlGraph) (delay : ℕ) (R : Risen V) → StateLaws D
    → IsControlGraph G → {pass : ℕ} {S : Stage V} {r : Outcome (Risen V)} → HasRoom G S
    → IsMade D G S ⊎ (S ≡ at_first D G) →
    r ≡ Gives R → Ascent D G delay pass S r → Covers D G R.stage × HasRoom G R.stage
Ascent-covers D G delay R laws sound room from is (ends pass S T r h same e) =
    let x : R ≡ record { stage = T; passes = pass } = cc in
    let flows = Rises-flows D G delay pass S T laws room h same in
    let heads = Rises-heads D G delay pass S T laws room h same in
    let covers : Covers D G T = record {
      has = λ q s walk. elim from [
        | inl made ↦ (last_covers D G S T laws sound made flows heads walk).1
        | inr first ↦ (first_covers D G T laws sound (subst (λ U. Flows D G U T) first flows)
            (subst (λ U. SameHeads D G U T) first heads) walk).has
      ];
    } in
    rw x (covers, Points-room G (Rises D G delay pass) (length G.points) 0 S T room h)
Ascent-covers D G delay R laws sound room from is (goes_on pass S T r h more rest) =
    Ascent-covers D G delay R laws sound (Points-room G (Rises D G delay pass) (length G.points) 0 S T room h)
    (inl (Rises-made D G delay pass S T laws room h)) is rest
Ascent-covers {V} D G delay R laws sound room from is (stops pass S s r h e) = absurd (cc)

Narrows-covers : {V : Type 0} (D : Relations V) (G : ControlGraph) (n pass : ℕ) (S T : Stage V) → StateLaws D
    → IsControlGraph G → HasRoom G S → Covers D G S → Narrows D G n pass S (Gives T) → Covers D G T
Narrows-covers D G zero pass S T laws sound room covers h = rw (Is-gives S T h) covers
Narrows-covers D G (suc n) pass S T laws sound room covers h =
    let t = Then-gives (Pass (Settles D G pass) G S) (Narrows D G n (pass + 1)) T h in
    let flows = Settles-flows D G pass S t.0 room t.1 in
    Narrows-covers D G n (pass + 1) t.0 T laws sound
    (Points-room G (Settles D G pass) (length G.points) 0 S t.0 room t.1)
    (record { has = λ q s walk. flows_covers D G S t.0 laws sound covers flows walk }) t.2

-- the theorem
pub analysis_covers_walks : {V : Type 0} (D : Relations V) (G : ControlGraph) (delay narrow : ℕ) (E : End V)
    → StateLaws D → IsControlGraph G → Analysis D G delay narrow (Gives E) →
    (q : ℕ) (s : State) → Reaches G q s → D.has (get_or E.values q (D.bottom G.vars)) s
analysis_covers_walks {V} D G delay narrow E laws sound h q s walk =
    let t = Then-gives (Ascent D G delay 1 (at_first D G))
    (λ risen. Then (Narrows D G narrow (risen.passes + 1) risen.stage)
    (λ S. Is (record { values = S.values; passes = risen.passes }))) E h in
    let u = Then-gives (Narrows D G narrow (t.0.passes + 1) t.0.stage)
    (λ S. Is (record { values = S.values; passes = t.0.passes })) E t.2 in
    let room : HasRoom G (at_first D G) = record {
      values = length-replicate (length G.points) (D.bottom G.vars);
      counts = length-replicate {A = ℕ}
          (length G.points) 0;
    } in
    let a = Ascent-covers D G delay t.0 laws sound room (inr refl) refl t.1 in
    let c = Narrows-covers D G narrow (t.0.passes + 1) t.0.stage u.0 laws sound a.1 a.0 u.1 in
    let e : E.values ≡ u.0.values = ap (λ (x : End _). x.values)
    (Is-gives (record { values = u.0.values; passes = t.0.passes }) E u.2) in
    rw e (c.has q s walk)
