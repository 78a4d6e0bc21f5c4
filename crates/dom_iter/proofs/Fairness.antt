-- A pass of the ascent keeps what is true of its stages.
use Rattle.std.proofs.Common.{◌≡◌, ◌⊎◌, inl, inr, ◌+◌, ◌<◌, ◌≤◌, ◌∙◌, ℕ, length, sym, subst, ap, true, MatchBool, arith}
use Rattle.std.proofs.lemmas.List.{get_or-set_same, get_or-set_other, length-set}
use Rattle.std.proofs.lemmas.Bool.Decides.{eqb_tells}
use Rattle.prog_theory.specs.ControlGraphs.{ControlGraph, is_head}
use Rattle.prog_theory.specs.GraphKeeps.{IsControlGraph}
use Rattle.dom_theory.specs.Places.{Head}
use Rattle.dom_theory.specs.Relations.{Relations, Join, Widen}
use Rattle.dom_theory.specs.Laws.{DomainLaws}
use Rattle.dom_theory.specs.Places.{Spot}
use Rattle.dom_theory.specs.Outcomes.{Gives, Is}
use Rattle.dom_theory.specs.Parts.{Asks}
use Rattle.dom_theory.specs.Sums.{Sum}
use Rattle.dom_theory.specs.Passes.{Held, Stage, value_at, changes_at, put, HeadStep, keeps, joins, widens, Rises}
use Rattle.dom_iter.specs.Fair.{AreValues, IsFairAt, IsFair, most_changes}
use Rattle.dom_theory.proofs.Given.{MatchBool-cases, Is-gives, Then-gives, Asks-gives}
use Rattle.dom_iter.proofs.Stepping.{Sum-vars, sources}

pub IsFair-values : {V : Type 0} (D : Relations V) (G : ControlGraph) (delay : ℕ) (S : Stage V) → IsFair D G delay S
    → AreValues D G S.values
IsFair-values D G delay S fair = record
    { one_each = fair.values; vars = λ q h. (fair.each q (let e = fair.values in omega arith)).vars }

fair_again : {V : Type 0} (D : Relations V) (G : ControlGraph) (delay q : ℕ) (x y : Held V) → y ≡ x
    → IsFairAt D G delay q x → IsFairAt D G delay q y
fair_again D G delay q x y same fair = subst (λ h. IsFairAt D G delay q h) (sym same) fair

join_fair : {V : Type 0} (D : Relations V) (G : ControlGraph) (delay q : ℕ) (x n y : V) (c : ℕ) → {most : ℕ}
    → DomainLaws D most → is_head G q ≡ true → D.vars x ≡ G.vars → D.vars n ≡ G.vars →
    (x ≡ D.bottom G.vars → c ≡ 0) → (D.within n x → ⊥) → (x ≡ D.bottom G.vars) ⊎ (c < delay) → D.joined x n y
    → IsFairAt D G delay q (record { value = y; changes = c + 1 })
join_fair D G delay q x n y c laws hd vx vn zero_at leaves which j =
    let vy : D.vars y ≡ G.vars = laws.vars.joined x n y j (vx ∙ sym vn) ∙ vx in
    let w : D.width y ≤ D.max_width G.vars = rw vy at (laws.widths.bounded y) in
    let few : c + 1 ≤ delay + 1 = elim which [ inl b ↦ let z = zero_at b in omega arith | inr l ↦ omega arith ] in
    record {
      vars = vy;
      bound = omega arith;
      bottom = λ b. absurd (laws.widths.joined x n y j leaves (b ∙ ap D.bottom (sym vy)));
      others = λ f. absurd (cc);
    }

widen_fair : {V : Type 0} (D : Relations V) (G : ControlGraph) (delay q : ℕ) (x n y : V) (c : ℕ) → {most : ℕ}
    → DomainLaws D most → is_head G q ≡ true → D.vars x ≡ G.vars → D.vars n ≡ G.vars →
    c + D.width x ≤ most_changes D G delay → D.widened x n y
    → IsFairAt D G delay q (record { value = y; changes = c + 1 })
widen_fair D G delay q x n y c laws hd vx vn bound j =
    let vy : D.vars y ≡ G.vars = laws.vars.widened x n y j (vx ∙ sym vn) ∙ vx in
    let w = laws.widths.falls x n y j in
    record {
      vars = vy;
      bound = omega arith;
      bottom = λ b. absurd (laws.widths.widened x n y j (b ∙ ap D.bottom (sym vy)));
      others = λ f. absurd (cc);
    }

pub HeadStep-fair : {V : Type 0} (D : Relations V) (G : ControlGraph) (delay : ℕ) (spot : Spot) (q : ℕ) (x : V) (c : ℕ)
    (n : V) (held : Held V) → {most : ℕ} → DomainLaws D most → is_head G q ≡ true → D.vars n ≡ G.vars →
    IsFairAt D G delay q (record { value = x; changes = c }) → HeadStep D G delay spot x c n (Gives held)
    → IsFairAt D G delay q held
HeadStep-fair D G delay spot q x c n held laws hd vn fair (keeps w is) = fair_again D G delay q
    (record { value = x; changes = c }) held (Is-gives (record { value = x; changes = c }) held is) fair
HeadStep-fair D G delay spot q x c n held laws hd vn fair (joins leaves which t) =
    let u = Then-gives (Asks D spot Head (Join x n)) (λ y. Is (record { value = y; changes = c + 1 })) held t in
    let a = Asks-gives D spot Head (Join x n) u.0 u.1 in
    fair_again D G delay q (record { value = u.0; changes = c + 1 }) held
    (Is-gives (record { value = u.0; changes = c + 1 }) held u.2)
    (join_fair D G delay q x n u.0 c laws hd fair.vars vn fair.bottom leaves which a.1)
HeadStep-fair D G delay spot q x c n held laws hd vn fair (widens leaves more late t) =
    let u = Then-gives (Asks D spot Head (Widen x n)) (λ y. Is (record { value = y; changes = c + 1 })) held t in
    let a = Asks-gives D spot Head (Widen x n) u.0 u.1 in
    fair_again D G delay q (record { value = u.0; changes = c + 1 }) held
    (Is-gives (record { value = u.0; changes = c + 1 }) held u.2)
    (widen_fair D G delay q x n u.0 c laws hd fair.vars vn fair.bound a.1)

pub Rises-fair : {V : Type 0} (D : Relations V) (G : ControlGraph) (delay pass : ℕ) (S : Stage V) (q : ℕ)
    (held : Held V) → {most : ℕ} → DomainLaws D most → IsControlGraph G → IsFair D G delay S → q < length G.points →
    Rises D G delay pass S q (Gives held) → IsFairAt D G delay q held
Rises-fair D G delay pass S q held laws sound fair inside h =
    let spot : Spot = record { pass = pass; point = q } in
    let are = IsFair-values D G delay S fair in
    let t = Then-gives (Sum D G spot (value_at D G S))
    (λ n r. MatchBool (is_head G q) (HeadStep D G delay spot (value_at D G S q) (changes_at S q) n r)
    (Is (record { value = n; changes = changes_at S q }) r)) held h in
    let vn = Sum-vars D G spot (value_at D G S) (length S.values) t.0 laws.vars are.vars
    (sources G S.values are.one_each sound) t.1 in
    elim (MatchBool-cases (is_head G q) (HeadStep D G delay spot (value_at D G S q) (changes_at S q) t.0 (Gives held))
    (Is (record { value = t.0; changes = changes_at S q }) (Gives held)) t.2) [
      | inl w ↦ HeadStep-fair D G delay spot q (value_at D G S q) (changes_at S q) t.0 held laws w.0 vn
          (fair.each q inside) w.1
      | inr w ↦
          let z : changes_at S q ≡ 0 = (fair.each q inside).others w.0 in
          let b : D.width t.0 ≤ D.max_width G.vars = rw vn at (laws.widths.bounded t.0) in
          fair_again D G delay q (record { value = t.0; changes = changes_at S q }) held
          (Is-gives (record { value = t.0; changes = changes_at S q }) held w.1)
          (record { vars = vn; bound = omega arith; bottom = λ _. z; others = λ _. z })
    ]

pub IsFair-put : {V : Type 0} (D : Relations V) (G : ControlGraph) (delay : ℕ) (S : Stage V) (q : ℕ) (held : Held V)
    → q < length G.points → IsFair D G delay S → IsFairAt D G delay q held → IsFair D G delay (put S q held)
IsFair-put D G delay S q held inside fair new = record {
  values = length-set S.values q held.value ∙ fair.values;
  counts = length-set S.changes q held.changes ∙ fair.counts;
  each = λ i h. elim (eqb_tells i q) [
    | inl w ↦
        let iv : i < length S.values = let e = fair.values in omega arith in
        let ic : i < length S.changes = let e = fair.counts in omega arith in
        rw (← w.1) (rw (
          get_or-set_same S.values i held.value (D.bottom G.vars) iv,
          get_or-set_same S.changes i
              held.changes 0 ic,
        ) (rw (← w.1) at new))
    | inr w ↦ rw (
      get_or-set_other S.values q i held.value (D.bottom G.vars) w.1,
      get_or-set_other S.changes q i
          held.changes 0 w.1,
    ) (fair.each i h)
  ];
}
