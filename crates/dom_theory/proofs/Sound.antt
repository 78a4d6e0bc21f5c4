-- Each stage of an analysis has sound values.
use Rattle.std.proofs.Common.{inl, inr, ⊎_elim, ◌+◌, ◌∙◌, ℕ, zero, suc, List, length, get_or, set, sym, subst, ap, MatchBool, arith}
use Rattle.std.proofs.lemmas.List.{get_or-set_same, get_or-set_other, get_or_past, length-set, get_or-replicate, length-replicate}
use Rattle.std.proofs.lemmas.Bool.{cases_lt, cases_eq}
use Rattle.prog_theory.specs.ControlGraphs.{ControlGraph, is_head}
use Rattle.dom_theory.specs.Places.{Spot, Head}
use Rattle.dom_theory.specs.Relations.{Relations, Join, Widen}
use Rattle.dom_theory.specs.Outcomes.{Outcome, Gives, Is}
use Rattle.dom_theory.specs.Parts.{Asks}
use Rattle.dom_theory.specs.Sums.{Sum, before_edges}
use Rattle.dom_theory.specs.Passes.{Held, Stage, value_at, changes_at, put, HeadStep, keeps, joins, widens, Rises, Settles, Points, Pass}
use Rattle.dom_theory.specs.Analysis.{at_first}
use Rattle.dom_theory.specs.Inclusion.{InclusionLaws}
use Rattle.dom_theory.proofs.Given.{MatchBool-cases, Is-gives, Then-gives, Asks-gives}
use Rattle.dom_theory.proofs.Sums.{all_sound}

-- an element of a list with one element replaced
get_or-set_cases : {X : Type 0} (P : X → Type 0) (xs : List X) (q a : ℕ) (x d : X) → P x → P (get_or xs a d) → P d
    → P (get_or (set xs q x) a d)
get_or-set_cases P xs q a x d here there past = ⊎_elim
    (λ e. ⊎_elim
    (λ l. subst P (sym (ap (λ i. get_or (set xs q x) i d) e ∙ get_or-set_same xs q x d l)) here)
    (λ l. subst P (sym (get_or_past (set xs q x) a d (omega (arith, length-set xs q x)))) past)
    (cases_lt q (length xs)))
    (λ f. subst P (sym (get_or-set_other xs q a x d f)) there)
    (cases_eq a q)

module _ {V : Type 0} (D : Relations V) (G : ControlGraph) (Sound : V → Type 0)
    (laws : InclusionLaws D G.vars Sound) where
  abbrev pub AreSound : Stage V → Type 0
  AreSound S = (q : ℕ) → Sound (value_at D G S q)

  put_sound : (S : Stage V) (q : ℕ) (held : Held V) → AreSound S → Sound held.value → AreSound (put S q held)
  put_sound S q held s h a = get_or-set_cases Sound S.values q a held.value (D.bottom G.vars) h (s a) laws.sound.bottom

  Points-sound : (Step : Stage V → ℕ → Outcome (Held V) → Type 0)
      → ((S : Stage V) (q : ℕ) (held : Held V) → AreSound S → Step S q (Gives held) → Sound held.value) →
      (m q : ℕ) (S T : Stage V) → AreSound S → Points Step m q S (Gives T) → AreSound T
  Points-sound Step each zero q S T s h = subst AreSound (sym (Is-gives S T h)) s
  Points-sound Step each (suc m) q S T s h =
      let t = Then-gives (Step S q) (λ held. Points Step m (q + 1) (put S q held)) T h in
      Points-sound Step each m (q + 1) (put S q t.0) T (put_sound S q t.0 s (each S q t.0 s t.1)) t.2

  before_sound : (q : ℕ) → Sound (before_edges D G q)
  before_sound zero = laws.sound.top
  before_sound (suc q) = laws.sound.bottom

  Sum-sound : (spot : Spot) (value : ℕ → V) (n : V) → ((a : ℕ) → Sound (value a)) → Sum D G spot value (Gives n)
      → Sound n
  Sum-sound spot value n v h = all_sound D spot value G.vars Sound laws 0 G.edges (before_edges D G spot.point) n
      (before_sound spot.point) v h

  HeadStep-sound : (delay : ℕ) (spot : Spot) (x : V) (c : ℕ) (n : V) (held : Held V) → Sound x → Sound n
      → HeadStep D G delay spot x c n (Gives held) → Sound held.value
  HeadStep-sound delay spot x c n held sx sn (keeps w is) = subst (λ (h : Held V). Sound h.value)
      (sym (Is-gives (record { value = x; changes = c }) held is)) sx
  HeadStep-sound delay spot x c n held sx sn (joins leaves which t) =
      let u = Then-gives (Asks D spot Head (Join x n)) (λ y. Is (record { value = y; changes = c + 1 })) held t in
      let j = Asks-gives D spot Head (Join x n) u.0 u.1 in
      subst (λ (h : Held V). Sound h.value) (sym (Is-gives (record { value = u.0; changes = c + 1 }) held u.2))
      (laws.sound.joined x n u.0 sx sn j.1)
  HeadStep-sound delay spot x c n held sx sn (widens leaves more late t) =
      let u = Then-gives (Asks D spot Head (Widen x n)) (λ y. Is (record { value = y; changes = c + 1 })) held t in
      let j = Asks-gives D spot Head (Widen x n) u.0 u.1 in
      subst (λ (h : Held V). Sound h.value) (sym (Is-gives (record { value = u.0; changes = c + 1 }) held u.2))
      (laws.sound.widened x n u.0 sx sn j.1)

  pub Rises-sound : (delay pass : ℕ) (S T : Stage V) → AreSound S → Pass (Rises D G delay pass) G S (Gives T)
      → AreSound T
  Rises-sound delay pass S T s h = Points-sound (Rises D G delay pass) each (length G.points) 0 S T s h
    where
      each : (S : Stage V) (q : ℕ) (held : Held V) → AreSound S → Rises D G delay pass S q (Gives held)
          → Sound held.value
      each S q held s h =
          let spot : Spot = record { pass = pass; point = q } in
          let t = Then-gives (Sum D G spot (value_at D G S))
          (λ n r. MatchBool (is_head G q) (HeadStep D G delay spot (value_at D G S q) (changes_at S q) n r)
          (Is (record { value = n; changes = changes_at S q }) r)) held h in
          let sum = Sum-sound spot (value_at D G S) t.0 s t.1 in
          elim (MatchBool-cases (is_head G q)
          (HeadStep D G delay spot (value_at D G S q) (changes_at S q) t.0 (Gives held))
          (Is (record { value = t.0; changes = changes_at S q }) (Gives held)) t.2) [
            | inl w ↦ HeadStep-sound delay spot (value_at D G S q) (changes_at S q) t.0 held (s q) sum w.1
            | inr w ↦ subst (λ (h : Held V). Sound h.value)
                (sym (Is-gives (record { value = t.0; changes = changes_at S q }) held w.1)) sum
          ]

  pub Settles-sound : (pass : ℕ) (S T : Stage V) → AreSound S → Pass (Settles D G pass) G S (Gives T) → AreSound T
  Settles-sound pass S T s h = Points-sound (Settles D G pass) each (length G.points) 0 S T s h
    where
      each : (S : Stage V) (q : ℕ) (held : Held V) → AreSound S → Settles D G pass S q (Gives held) → Sound held.value
      each S q held s h =
          let spot : Spot = record { pass = pass; point = q } in
          let t = Then-gives (Sum D G spot (value_at D G S)) (λ n. Is (record { value = n; changes = changes_at S q }))
          held h in
          subst (λ (h : Held V). Sound h.value)
          (sym (Is-gives (record { value = t.0; changes = changes_at S q }) held t.2))
          (Sum-sound spot (value_at D G S) t.0 s t.1)

  pub first_sound : AreSound (at_first D G)
  first_sound q = ⊎_elim
      (λ l. subst Sound (sym (get_or-replicate {A = V} (length G.points) q (D.bottom G.vars) (D.bottom G.vars) l))
      laws.sound.bottom)
      (λ l. subst Sound (sym (get_or_past _ q (D.bottom G.vars)
      (omega (arith, length-replicate {A = V} (length G.points) (D.bottom G.vars))))) laws.sound.bottom)
      (cases_lt q (length G.points))
