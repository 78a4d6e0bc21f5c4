-- The end of an analysis is inductive: behind the ascent, whether it took one pass or more, and behind each pass of the
-- narrowing.
-- Index: LiesAt, Lies, TakesAt, analysis_inductive, analysis_sound.
use Rattle.std.proofs.Common.{◌≡◌, ◌⊎◌, inl, inr, ◌+◌, ◌<◌, ◌≤◌, ◌∙◌, ℕ, zero, suc, List, length, get_or, refl, sym, subst, ap, Contains, MatchBool, arith}
use Rattle.std.proofs.lemmas.List.{get_or-replicate, length-replicate}
use Rattle.std.proofs.lemmas.List.Elements.{All-contains}
use Rattle.std.proofs.lemmas.Bool.{cases_lt, cases_eq}
use Rattle.prog_theory.specs.Edges.{Edge}
use Rattle.prog_theory.specs.Fits.{FitsOp}
use Rattle.prog_theory.specs.ControlGraphs.{ControlGraph, is_head}
use Rattle.prog_theory.specs.GraphKeeps.{IsControlGraph}
use Rattle.dom_theory.specs.Places.{Spot}
use Rattle.dom_theory.specs.Relations.{Relations}
use Rattle.dom_theory.specs.Laws.{DomainLaws}
use Rattle.dom_theory.specs.Outcomes.{Outcome, Gives, Is, Then}
use Rattle.dom_theory.specs.Sums.{Sum, before_edges}
use Rattle.dom_theory.specs.Passes.{Held, Stage, value_at, changes_at, HeadStep, Rises, Settles, Pass}
use Rattle.dom_theory.specs.Analysis.{Ascent, ends, goes_on, stops, Risen, End, Narrows, Analysis, at_first}
use Rattle.dom_theory.specs.Inclusion.{InclusionLaws}
use Rattle.dom_theory.specs.Inductive.{IsInductive}
use Rattle.dom_theory.proofs.Given.{MatchBool-cases, Is-gives, Then-gives}
use Rattle.dom_theory.proofs.Passed.{HasRoom, held_at, Points-room, Pass-at}
use Rattle.dom_theory.proofs.Walks.{SameHeads, Rises-heads, HeadStep-same, bool_cases, back_head, target_inside}
use Rattle.dom_theory.proofs.Settled.{Rises-takes, head_or_up, pass_settles}
use Rattle.dom_theory.proofs.Sums.{all_keep, all_have, all_least, all_empty}
use Rattle.dom_theory.proofs.Sound.{AreSound, Rises-sound, Settles-sound, first_sound}

-- A sum at the point, over values that are T's below the point and S's from it on, lies in the value of T.
pub record LiesAt {V : Type 0} (D : Relations V) (G : ControlGraph) (S T : Stage V) (q : ℕ) : Type 0 where
  pub pass : ℕ
  pub value : ℕ → V
  pub below : (a : ℕ) → a < q → value a ≡ value_at D G T a
  pub above : (a : ℕ) → q ≤ a → value a ≡ value_at D G S a
  pub sum : V
  pub is_sum : Sum D G (record { pass = pass; point = q }) value (Gives sum)
  pub inside : D.within sum (value_at D G T q)

pub record Lies {V : Type 0} (D : Relations V) (G : ControlGraph) (S T : Stage V) : Type 0 where
  pub at_each : (q : ℕ) → q < length G.points → LiesAt D G S T q

-- the sum is the value
pub record TakesAt {V : Type 0} (D : Relations V) (G : ControlGraph) (S T : Stage V) (q : ℕ) : Type 0 where
  pub pass : ℕ
  pub value : ℕ → V
  pub below : (a : ℕ) → a < q → value a ≡ value_at D G T a
  pub above : (a : ℕ) → q ≤ a → value a ≡ value_at D G S a
  pub is_sum : Sum D G (record { pass = pass; point = q }) value (Gives (value_at D G T q))

module _ {V : Type 0} (D : Relations V) (G : ControlGraph) (Sound : V → Type 0)
    (laws : InclusionLaws D G.vars Sound) where
  Settles-takes : (pass : ℕ) (S T : Stage V) → HasRoom G S → Pass (Settles D G pass) G S (Gives T) → (q : ℕ)
      → q < length G.points → TakesAt D G S T q
  Settles-takes pass S T room h q l =
      let p = Pass-at D G (Settles D G pass) S T room h q l in
      let spot : Spot = record { pass = pass; point = q } in
      let t = Then-gives (Sum D G spot (value_at D G p.middle))
      (λ n. Is (record { value = n; changes = changes_at p.middle q })) (held_at D G T q) p.gives in
      let same : value_at D G T q ≡ t.0 = ap (λ (u : Held _). u.value)
      (Is-gives (record { value = t.0; changes = changes_at p.middle q }) (held_at D G T q) t.2) in
      record {
        pass = pass;
        value = value_at D G p.middle;
        below = λ a m. ap (λ (u : Held _). u.value) (p.below a m);
        above = λ a m. ap (λ (u : Held _). u.value) (p.above a m);
        is_sum = subst (λ v. Sum D G spot (value_at D G p.middle) (Gives v)) (sym same) t.1;
      }

  takes_lies : (S T : Stage V) (q : ℕ) → TakesAt D G S T q → LiesAt D G S T q
  takes_lies S T q t = record {
    pass = t.pass;
    value = t.value;
    below = t.below;
    above = t.above;
    sum = value_at D G T
        q;
    is_sum = t.is_sum;
    inside = laws.growth.self (value_at D G T q);
  }

  -- a pass of the ascent that changes no head
  Rises-lies : (delay pass : ℕ) (S T : Stage V) → HasRoom G S → Pass (Rises D G delay pass) G S (Gives T)
      → T.changes ≡ S.changes → Lies D G S T
  Rises-lies delay pass S T room h same = record { at_each = at_each }
    where
      at_each : (q : ℕ) → q < length G.points → LiesAt D G S T q
      at_each q l =
          let p = Pass-at D G (Rises D G delay pass) S T room h q l in
          let spot : Spot = record { pass = pass; point = q } in
          let c : ℕ = changes_at p.middle q in
          let x : V = value_at D G p.middle q in
          let t = Then-gives (Sum D G spot (value_at D G p.middle))
          (λ n r. MatchBool (is_head G q) (HeadStep D G delay spot x c n r) (Is (record { value = n; changes = c }) r))
          (held_at D G T q) p.gives in
          let cs : c ≡ changes_at S q = ap (λ (u : Held _). u.changes) (p.above q (omega arith)) in
          let kept : changes_at T q ≡ changes_at S q = ap (λ (xs : List ℕ). get_or xs q 0) same in
          let inside : D.within t.0 (value_at D G T q) =
          elim (MatchBool-cases (is_head G q) (HeadStep D G delay spot x c t.0 (Gives (held_at D G T q)))
          (Is (record { value = t.0; changes = c }) (Gives (held_at D G T q))) t.2) [
            | inl w ↦ let k = HeadStep-same D G delay spot x c t.0 (held_at D G T q) w.1 (kept ∙ sym cs) in subst
                (D.within t.0) (sym k.1) k.0
            | inr w ↦
                let is : value_at D G T q ≡ t.0 = ap (λ (u : Held _). u.value)
                (Is-gives (record { value = t.0; changes = c }) (held_at D G T q) w.1) in
                subst (D.within t.0) (sym is) (laws.growth.self t.0)
          ] in
          record {
            pass = pass;
            value = value_at D G p.middle;
            below = λ a m. ap (λ (u : Held _). u.value) (p.below a m);
            above = λ a m. ap (λ (u : Held _). u.value) (p.above a m);
            sum = t.0;
            is_sum = t.1;
            inside = inside;
          }

  -- Where the sources of edges back have not grown, what a pass gives is inductive.
  lies_inductive : (S T : Stage V) → IsControlGraph G → AreSound D G Sound laws S → AreSound D G Sound laws T
      → Lies D G S T → ((e : Edge) → Contains G.edges e → e.to ≤ e.from
      → D.within (value_at D G T e.from) (value_at D G S e.from)) → IsInductive D G (value_at D G T)
  lies_inductive S T sound ss st lies back = record {
    everything =
        let f = lies.at_each 0 sound.entry in
        let spot : Spot = record { pass = f.pass; point = 0 } in
        laws.growth.trans (D.top G.vars) f.sum (value_at D G T 0)
        (all_keep D spot f.value G.vars Sound laws 0 G.edges (D.top G.vars) f.sum f.is_sum) f.inside;
    stays = λ e c y a.
        let f = lies.at_each e.to (target_inside G e sound c) in
        let spot : Spot = record { pass = f.pass; point = e.to } in
        let i = all_have D spot f.value G.vars Sound laws 0 G.edges (before_edges D G e.to) f.sum e c refl f.is_sum in
        let from : D.within (value_at D G T e.from) (f.value e.from) = elim (cases_lt e.from e.to) [
          | inl l ↦ subst (D.within (value_at D G T e.from)) (sym (f.below e.from l))
              (laws.growth.self (value_at D G T e.from))
          | inr l ↦ subst (D.within (value_at D G T e.from)) (sym (f.above e.from l)) (back e c l)
        ] in
        let vs : Sound (f.value e.from) = elim (cases_lt e.from e.to) [
          | inl l ↦ subst Sound (sym (f.below e.from l)) (st e.from)
          | inr l ↦ subst Sound (sym (f.above e.from l)) (ss e.from)
        ] in
        laws.growth.trans y i.image (value_at D G T e.to)
        (laws.growth.grows e.op (value_at D G T e.from) (f.value e.from) y i.image (st e.from) vs from a i.applied)
        (laws.growth.trans i.image f.sum (value_at D G T e.to) i.inside f.inside);
  }

  source_inside : (e : Edge) → IsControlGraph G → Contains G.edges e → e.from < length G.points
  source_inside e sound c = (All-contains (λ (x : Edge). (x.from < length G.points) × (x.to < length G.points)) G.edges
      e sound.joins c).0

  -- ---- the narrowing

  -- a pass of the narrowing on an inductive stage gives no point more
  settles_within : (pass : ℕ) (S T : Stage V) → IsControlGraph G → HasRoom G S → AreSound D G Sound laws S
      → AreSound D G Sound laws T → IsInductive D G (value_at D G S) → Pass (Settles D G pass) G S (Gives T) →
      (bound q : ℕ) → q < bound → q < length G.points → D.within (value_at D G T q) (value_at D G S q)
  settles_within pass S T sound room s st inductive h zero q l inside = absurd (omega arith)
  settles_within pass S T sound room s st inductive h (suc bound) q l inside =
      let f = Settles-takes pass S T room h q inside in
      let spot : Spot = record { pass = f.pass; point = q } in
      let from : (a : ℕ) → D.within (f.value a) (value_at D G S a) = λ a. elim (cases_lt a q) [
        | inl m ↦ subst (λ v. D.within v (value_at D G S a)) (sym (f.below a m))
            (settles_within pass S T sound room s st inductive h bound a (omega arith) (omega arith))
        | inr m ↦ subst (λ v. D.within v (value_at D G S a)) (sym (f.above a m)) (laws.growth.self (value_at D G S a))
      ] in
      let vs : (a : ℕ) → Sound (f.value a) = λ a. elim (cases_lt a q) [
        | inl m ↦ subst Sound (sym (f.below a m)) (st a)
        | inr m ↦ subst Sound (sym (f.above a m)) (s a)
      ] in
      all_least D spot f.value G.vars Sound laws 0 G.edges (before_edges D G q) (value_at D G T q) (value_at D G S q)
      (s q) (before q)
      (λ e c to i a.
      let b = laws.growth.exists e.op (value_at D G S e.from)
      (All-contains (λ (x : Edge). FitsOp G.vars x.op) G.edges e sound.fits c) (s e.from) in
      subst (λ p. D.within i (value_at D G S p)) to
      (laws.growth.trans i b.0 (value_at D G S e.to)
      (laws.growth.grows e.op (f.value e.from) (value_at D G S e.from) i b.0 (vs e.from) (s e.from) (from e.from) a b.1)
      (inductive.stays e c b.0 b.1)))
      f.is_sum
    where
      before : (q : ℕ) → D.within (before_edges D G q) (value_at D G S q)
      before zero = inductive.everything
      before (suc q) = laws.growth.nothing (value_at D G S (suc q)) (s (suc q))

  Settles-inductive : (pass : ℕ) (S T : Stage V) → IsControlGraph G → HasRoom G S → AreSound D G Sound laws S
      → IsInductive D G (value_at D G S) → Pass (Settles D G pass) G S (Gives T) → IsInductive D G (value_at D G T)
  Settles-inductive pass S T sound room s inductive h =
      let st = Settles-sound D G Sound laws pass S T s h in
      lies_inductive S T sound s st (record { at_each = λ q l. takes_lies S T q (Settles-takes pass S T room h q l) })
      (λ e c back. settles_within pass S T sound room s st inductive h (suc e.from) e.from (omega arith)
      (source_inside e sound c))

  Narrows-inductive : (n pass : ℕ) (S T : Stage V) → IsControlGraph G → HasRoom G S → AreSound D G Sound laws S
      → IsInductive D G (value_at D G S) → Narrows D G n pass S (Gives T) → IsInductive D G (value_at D G T)
  Narrows-inductive zero pass S T sound room s inductive h = subst (λ U. IsInductive D G (value_at D G U))
      (sym (Is-gives S T h)) inductive
  Narrows-inductive (suc n) pass S T sound room s inductive h =
      let t = Then-gives (Pass (Settles D G pass) G S) (Narrows D G n (pass + 1)) T h in
      Narrows-inductive n (pass + 1) t.0 T sound (Points-room G (Settles D G pass) (length G.points) 0 S t.0 room t.1)
      (Settles-sound D G Sound laws pass S t.0 s t.1) (Settles-inductive pass S t.0 sound room s inductive t.1) t.2

  -- ---- the ascent

  first_is : (q : ℕ) → q < length G.points → value_at D G (at_first D G) q ≡ D.bottom G.vars
  first_is q l = get_or-replicate {A = V} (length G.points) q (D.bottom G.vars) (D.bottom G.vars) l

  -- Where the first pass changes no head, the points of a loop are bottom: nothing enters it but at its head.
  loop_empty : (delay : ℕ) (T : Stage V) → IsControlGraph G → HasRoom G (at_first D G)
      → Pass (Rises D G delay 1) G (at_first D G) (Gives T) → SameHeads D G (at_first D G) T →
      (e : Edge) → Contains G.edges e → e.to ≤ e.from → (bound p : ℕ) → p < bound → e.to ≤ p → p ≤ e.from
      → value_at D G T p ≡ D.bottom G.vars
  loop_empty delay T sound room h heads e c back zero p b lo hi = absurd (omega arith)
  loop_empty delay T sound room h heads e c back (suc bound) p b lo hi =
      let inside : p < length G.points = let l = source_inside e sound c in omega arith in
      elim (bool_cases (is_head G p)) [
        | inl hd ↦ heads.same p inside hd ∙ first_is p inside
        | inr plain ↦
            let above : e.to < p = elim (cases_eq p e.to) [
              | inl same ↦ absurd (let hd = back_head G e sound c back in let hp = rw same at plain in cc)
              | inr other ↦ omega arith
            ] in
            let f = Rises-takes D G delay 1 (at_first D G) T room h p inside plain in
            let spot : Spot = record { pass = 1; point = p } in
            all_empty D spot f.value G.vars Sound laws 0 G.edges (before_edges D G p) (value_at D G T p)
            (before p (omega arith))
            (λ g d to.
            let up : g.from < p = All-contains (λ (x : Edge). x.to ≡ p → x.from < p) G.edges g
            (head_or_up G sound p plain) d to in
            let low : e.to ≤ g.from = elim (cases_lt g.from e.to) [
              | inl l ↦ absurd (sound.enters e g c d back l (omega arith) (omega arith))
              | inr l ↦ l
            ] in
            f.below g.from up ∙ loop_empty delay T sound room h heads e c back bound g.from (omega arith) low
            (omega arith))
            f.is_sum
      ]
    where
      before : (q : ℕ) → 0 < q → before_edges D G q ≡ D.bottom G.vars
      before zero l = absurd (omega arith)
      before (suc q) l = refl

  -- a stage that a pass has made
  record WasMade (delay : ℕ) (S : Stage V) : Type 0 where
    before : Stage V
    pass : ℕ
    room : HasRoom G before
    gives : Pass (Rises D G delay pass) G before (Gives S)

  record IsDone (S : Stage V) : Type 0 where
    inductive : IsInductive D G (value_at D G S)
    room : HasRoom G S
    sound : AreSound D G Sound laws S

  last_inductive : (delay pass : ℕ) (S T : Stage V) → {most : ℕ} → DomainLaws D most → IsControlGraph G → HasRoom G S
      → AreSound D G Sound laws S → WasMade delay S ⊎ ((S ≡ at_first D G) × (pass ≡ 1))
      → Pass (Rises D G delay pass) G S (Gives T) → T.changes ≡ S.changes → IsInductive D G (value_at D G T)
  last_inductive delay pass S T domain sound room s (inl m) h same =
      lies_inductive S T sound s (Rises-sound D G Sound laws delay pass S T s h) (Rises-lies delay pass S T room h same)
      (λ e c back.
      let is = pass_settles D G delay m.pass pass m.before S T domain sound m.room m.gives h same e.from
      (source_inside e sound c) in
      subst (D.within (value_at D G T e.from)) is (laws.growth.self (value_at D G T e.from)))
  last_inductive delay pass S T domain sound room s (inr f) h same =
      lies_inductive S T sound s (Rises-sound D G Sound laws delay pass S T s h) (Rises-lies delay pass S T room h same)
      (λ e c back.
      let heads = Rises-heads D G delay pass S T domain.states room h same in
      let h' : Pass (Rises D G delay 1) G (at_first D G) (Gives T) = subst
      (λ p. Pass (Rises D G delay p) G (at_first D G) (Gives T)) f.1
      (subst (λ U. Pass (Rises D G delay pass) G U (Gives T)) f.0 h) in
      let empty = loop_empty delay T sound (subst (HasRoom G) f.0 room) h' (subst (λ U. SameHeads D G U T) f.0 heads) e
      c back (suc e.from) e.from (omega arith) back (omega arith) in
      let was : value_at D G S e.from ≡ D.bottom G.vars = ap (λ U. value_at D G U e.from) f.0 ∙ first_is e.from
      (source_inside e sound c) in
      subst (D.within (value_at D G T e.from)) (empty ∙ sym was) (laws.growth.self (value_at D G T e.from)))

  Ascent-done : (delay : ℕ) (risen : Risen V) → {most : ℕ} → DomainLaws D most → IsControlGraph G
      → {pass : ℕ} {S : Stage V} {r : Outcome (Risen V)} → HasRoom G S → AreSound D G Sound laws S
      → WasMade delay S ⊎ ((S ≡ at_first D G) × (pass ≡ 1)) →
      r ≡ Gives risen → Ascent D G delay pass S r → IsDone risen.stage
  Ascent-done delay risen domain sound room s from is (ends pass S T r h same e) =
      let x : risen ≡ record { stage = T; passes = pass } = cc in
      subst (λ (y : Risen V). IsDone y.stage) (sym x)
      (record {
        inductive = last_inductive delay pass S T domain sound room s from h same;
        room = Points-room G (Rises D G delay pass) (length G.points) 0 S T room h;
        sound = Rises-sound D G Sound laws delay pass S T s h;
      })
  Ascent-done delay risen domain sound room s from is (goes_on pass S T r h more rest) =
      Ascent-done delay risen domain sound (Points-room G (Rises D G delay pass) (length G.points) 0 S T room h)
      (Rises-sound D G Sound laws delay pass S T s h)
      (inl (record { before = S; pass = pass; room = room; gives = h })) is rest
  Ascent-done delay risen domain sound room s from is (stops pass S t r h e) = absurd (cc)

  -- what the analysis gives is inductive, with any number of passes of the narrowing
  pub analysis_inductive : (delay narrow : ℕ) (E : End V) → {most : ℕ} → DomainLaws D most → IsControlGraph G
      → Analysis D G delay narrow (Gives E) → IsInductive D G (λ q. get_or E.values q (D.bottom G.vars))
  analysis_inductive delay narrow E domain sound h =
      let t = Then-gives (Ascent D G delay 1 (at_first D G))
      (λ risen. Then (Narrows D G narrow (risen.passes + 1) risen.stage)
      (λ S. Is (record { values = S.values; passes = risen.passes }))) E h in
      let u = Then-gives (Narrows D G narrow (t.0.passes + 1) t.0.stage)
      (λ S. Is (record { values = S.values; passes = t.0.passes })) E t.2 in
      let room : HasRoom G (at_first D G) = record {
        values = length-replicate (length G.points) (D.bottom G.vars);
        counts = length-replicate {A = ℕ}
            (length G.points) 0;
      } in
      let a = Ascent-done delay t.0 domain sound room (first_sound D G Sound laws) (inr (refl, refl)) refl t.1 in
      let n = Narrows-inductive narrow (t.0.passes + 1) t.0.stage u.0 sound a.room a.sound a.inductive u.1 in
      let e : E.values ≡ u.0.values = ap (λ (x : End _). x.values)
      (Is-gives (record { values = u.0.values; passes = t.0.passes }) E u.2) in
      subst (λ (xs : List V). IsInductive D G (λ q. get_or xs q (D.bottom G.vars))) (sym e) n

module _ {V : Type 0} (D : Relations V) (G : ControlGraph) (Sound : V → Type 0)
    (laws : InclusionLaws D G.vars Sound) where
  Narrows-sound : (n pass : ℕ) (S T : Stage V) → AreSound D G Sound laws S → Narrows D G n pass S (Gives T)
      → AreSound D G Sound laws T
  Narrows-sound zero pass S T s h = subst (AreSound D G Sound laws) (sym (Is-gives S T h)) s
  Narrows-sound (suc n) pass S T s h =
      let t = Then-gives (Pass (Settles D G pass) G S) (Narrows D G n (pass + 1)) T h in
      Narrows-sound n (pass + 1) t.0 T (Settles-sound D G Sound laws pass S t.0 s t.1) t.2

  Ascent-sound : (delay : ℕ) (risen : Risen V) → {pass : ℕ} {S : Stage V} {r : Outcome (Risen V)}
      → AreSound D G Sound laws S → r ≡ Gives risen → Ascent D G delay pass S r → AreSound D G Sound laws risen.stage
  Ascent-sound delay risen s is (ends pass S T r h same e) =
      let x : risen ≡ record { stage = T; passes = pass } = cc in
      subst (λ (y : Risen V). AreSound D G Sound laws y.stage) (sym x) (Rises-sound D G Sound laws delay pass S T s h)
  Ascent-sound delay risen s is (goes_on pass S T r h more rest) = Ascent-sound delay risen
      (Rises-sound D G Sound laws delay pass S T s h) is rest
  Ascent-sound delay risen s is (stops pass S t r h e) = absurd (cc)

  -- each value of the end is sound
  pub analysis_sound : (delay narrow : ℕ) (E : End V) → Analysis D G delay narrow (Gives E) → (q : ℕ)
      → Sound (get_or E.values q (D.bottom G.vars))
  analysis_sound delay narrow E h =
      let t = Then-gives (Ascent D G delay 1 (at_first D G))
      (λ risen. Then (Narrows D G narrow (risen.passes + 1) risen.stage)
      (λ S. Is (record { values = S.values; passes = risen.passes }))) E h in
      let u = Then-gives (Narrows D G narrow (t.0.passes + 1) t.0.stage)
      (λ S. Is (record { values = S.values; passes = t.0.passes })) E t.2 in
      let n = Narrows-sound narrow (t.0.passes + 1) t.0.stage u.0
      (Ascent-sound delay t.0 (first_sound D G Sound laws) refl t.1) u.1 in
      let e : E.values ≡ u.0.values = ap (λ (x : End _). x.values)
      (Is-gives (record { values = u.0.values; passes = t.0.passes }) E u.2) in
      subst (λ (xs : List V). (q : ℕ) → Sound (get_or xs q (D.bottom G.vars))) (sym e) n
