-- The definition of the analysis determines the family, the number of passes and the stop.
-- Index: IsOne, Is-one, Then-one, Asks-one, Rises-one, Settles-one, analysis_is_one.
use Rattle.std.proofs.Common.{◌≡◌, ◌⊎◌, inl, inr, ◌+◌, ◌∙◌, ℕ, zero, suc, List, [], ◌∷◌, length, refl, sym, subst, ap, Bool, true, false, MatchBool, ◌==◌, arith}
use Rattle.prog_theory.specs.Edges.{Edge}
use Rattle.prog_theory.specs.ControlGraphs.{ControlGraph, is_head}
use Rattle.dom_theory.specs.Places.{Part}
use Rattle.dom_theory.specs.Places.{Edge as EdgePart, Sum as SumPart, Head}
use Rattle.dom_theory.specs.Relations.{Relations, Call, Apply, Join, Widen}
use Rattle.dom_theory.specs.Answers.{IsResult}
use Rattle.dom_theory.specs.Laws.{OneAnswer}
use Rattle.dom_theory.specs.Places.{Spot}
use Rattle.dom_theory.specs.Outcomes.{Outcome, Gives, Stops, Stop, Then, goes, stops, Is}
use Rattle.dom_theory.specs.Parts.{Asks, answered, refused}
use Rattle.dom_theory.specs.Sums.{Adds, AddsAll, Sum, before_edges}
use Rattle.dom_theory.specs.Passes.{Held, Stage, value_at, changes_at, put, HeadStep, keeps, joins, widens, Rises, Settles, Points, Pass}
use Rattle.dom_theory.specs.Analysis.{Ascent, ends, goes_on, stops as ascent_stops, Risen, End, Narrows, Analysis, at_first}

-- one outcome at most
pub record IsOne {A : Type 0} (c : Outcome A → Type 0) : Type 0 where
  pub one : (r s : Outcome A) → c r → c s → r ≡ s

pub Is-one : {A : Type 0} (x : A) → IsOne (Is x)
Is-one x = record { one = λ r s p q. p ∙ sym q }

Then-same : {A B : Type 0} (c : Outcome A → Type 0) (f : A → Outcome B → Type 0) → IsOne c → ((x : A) → IsOne (f x))
    → (r s : Outcome B) → Then c f r → Then c f s → r ≡ s
Then-same {A} c f oc of r s (goes x p u) (goes y q v) =
    let e = oc.one (Gives x) (Gives y) p q in
    let same : y ≡ x = cc in
    (of x).one r s u (subst (λ z. f z s) same v)
Then-same c f oc of r s (goes x p u) (stops t q v) = let e = oc.one (Gives x) (Stops t) p q in absurd (cc)
Then-same c f oc of r s (stops t p u) (goes x q v) = let e = oc.one (Stops t) (Gives x) p q in absurd (cc)
Then-same c f oc of r s (stops t p u) (stops w q v) = let e = oc.one (Stops t) (Stops w) p q in let same : t ≡ w = cc in
    cc

pub Then-one : {A B : Type 0} (c : Outcome A → Type 0) (f : A → Outcome B → Type 0) → IsOne c → ((x : A) → IsOne (f x))
    → IsOne (Then c f)
Then-one c f oc of = record { one = Then-same c f oc of }

result_one : {V : Type 0} (D : Relations V) (call : Call V) (y z : V) → OneAnswer D → IsResult D call y
    → IsResult D call z → y ≡ z
result_one D (Apply op x) y z laws p q = laws.applied op x y z p q
result_one D (Join x other) y z laws p q = laws.joined x other y z p q
result_one D (Widen x next) y z laws p q = laws.widened x next y z p q

Asks-same : {V : Type 0} (D : Relations V) (spot : Spot) (part : Part) (call : Call V) → OneAnswer D → (r s : Outcome V)
    → Asks D spot part call r → Asks D spot part call s → r ≡ s
Asks-same D spot part call laws r s (answered y free is e) (answered z free' is' e') = let same : y ≡ z = result_one D
    call y z laws is is' in cc
Asks-same D spot part call laws r s (answered y free is e) (refused cause a h e') = absurd (free cause a h)
Asks-same D spot part call laws r s (refused cause a h e) (answered y free is e') = absurd (free cause a h)
Asks-same D spot part call laws r s (refused cause a h e) (refused cause' a' h' e') =
    let c : cause ≡ cause' = laws.cause call cause cause' a a' h h' in
    let p : a ≡ a' = laws.part call cause cause' a a' h h' in
    rw (e, e', c, p) refl

pub Asks-one : {V : Type 0} (D : Relations V) (spot : Spot) (part : Part) (call : Call V) → OneAnswer D
    → IsOne (Asks D spot part call)
Asks-one D spot part call laws = record { one = Asks-same D spot part call laws }

MatchBool-one : {A : Type 0} (b : Bool) (c d : Outcome A → Type 0) → IsOne c → IsOne d
    → IsOne (λ r. MatchBool b (c r) (d r))
MatchBool-one true c d oc od = record { one = oc.one }
MatchBool-one false c d oc od = record { one = od.one }

Adds-one : {V : Type 0} (D : Relations V) (spot : Spot) (value : ℕ → V) (k : ℕ) (e : Edge) (n : V) → OneAnswer D
    → IsOne (Adds D spot value k e n)
Adds-one D spot value k e n laws =
    MatchBool-one (e.to == spot.point)
    (Then (Asks D spot (EdgePart k) (Apply e.op (value e.from))) (λ image. Asks D spot (SumPart k) (Join n image)))
    (Is n)
    (Then-one (Asks D spot (EdgePart k) (Apply e.op (value e.from))) (λ image. Asks D spot (SumPart k) (Join n image))
    (Asks-one D spot (EdgePart k) (Apply e.op (value e.from)) laws)
    (λ image. Asks-one D spot (SumPart k) (Join n image) laws)) (Is-one n)

AddsAll-one : {V : Type 0} (D : Relations V) (spot : Spot) (value : ℕ → V) (k : ℕ) (edges : List Edge) (n : V)
    → OneAnswer D → IsOne (AddsAll D spot value k edges n)
AddsAll-one D spot value k [] n laws = record { one = λ r s p q. p ∙ sym q }
AddsAll-one D spot value k (e ∷ edges) n laws =
    let t = Then-one (Adds D spot value k e n) (AddsAll D spot value (k + 1) edges) (Adds-one D spot value k e n laws)
    (λ m. AddsAll-one D spot value (k + 1) edges m laws) in
    record { one = t.one }

HeadStep-same : {V : Type 0} (D : Relations V) (G : ControlGraph) (delay : ℕ) (spot : Spot) (x : V) (c : ℕ) (n : V)
    → OneAnswer D → (r s : Outcome (Held V)) →
    HeadStep D G delay spot x c n r → HeadStep D G delay spot x c n s → r ≡ s
HeadStep-same D G delay spot x c n laws r s (keeps w e) (keeps w' e') = e ∙ sym e'
HeadStep-same D G delay spot x c n laws r s (keeps w e) (joins leaves which t) = absurd (leaves w)
HeadStep-same D G delay spot x c n laws r s (keeps w e) (widens leaves more late t) = absurd (leaves w)
HeadStep-same D G delay spot x c n laws r s (joins leaves which t) (keeps w e) = absurd (leaves w)
HeadStep-same D G delay spot x c n laws r s (joins leaves which t) (joins leaves' which' t') =
    Then-same (Asks D spot Head (Join x n)) (λ y. Is (record { value = y; changes = c + 1 }))
    (Asks-one D spot Head (Join x n) laws) (λ y. Is-one (record { value = y; changes = c + 1 })) r s t t'
HeadStep-same D G delay spot x c n laws r s (joins leaves (inl b) t) (widens leaves' more late t') = absurd (more b)
HeadStep-same D G delay spot x c n laws r s (joins leaves (inr l) t) (widens leaves' more late t') = absurd
    (omega arith)
HeadStep-same D G delay spot x c n laws r s (widens leaves more late t) (keeps w e) = absurd (leaves w)
HeadStep-same D G delay spot x c n laws r s (widens leaves more late t) (joins leaves' (inl b) t') = absurd (more b)
HeadStep-same D G delay spot x c n laws r s (widens leaves more late t) (joins leaves' (inr l) t') = absurd
    (omega arith)
HeadStep-same D G delay spot x c n laws r s (widens leaves more late t) (widens leaves' more' late' t') =
    Then-same (Asks D spot Head (Widen x n)) (λ y. Is (record { value = y; changes = c + 1 }))
    (Asks-one D spot Head (Widen x n) laws) (λ y. Is-one (record { value = y; changes = c + 1 })) r s t t'

Sum-one : {V : Type 0} (D : Relations V) (G : ControlGraph) (spot : Spot) (value : ℕ → V) → OneAnswer D
    → IsOne (Sum D G spot value)
Sum-one D G spot value laws = AddsAll-one D spot value 0 G.edges (before_edges D G spot.point) laws

pub Rises-one : {V : Type 0} (D : Relations V) (G : ControlGraph) (delay pass : ℕ) (S : Stage V) (q : ℕ) → OneAnswer D
    → IsOne (Rises D G delay pass S q)
Rises-one D G delay pass S q laws =
    let spot : Spot = record { pass = pass; point = q } in
    Then-one (Sum D G spot (value_at D G S))
    (λ n r. MatchBool (is_head G q) (HeadStep D G delay spot (value_at D G S q) (changes_at S q) n r)
    (Is (record { value = n; changes = changes_at S q }) r))
    (Sum-one D G spot (value_at D G S) laws)
    (λ n. MatchBool-one (is_head G q) (HeadStep D G delay spot (value_at D G S q) (changes_at S q) n)
    (Is (record { value = n; changes = changes_at S q }))
    (record { one = HeadStep-same D G delay spot (value_at D G S q) (changes_at S q) n laws })
    (Is-one (record { value = n; changes = changes_at S q })))

pub Settles-one : {V : Type 0} (D : Relations V) (G : ControlGraph) (pass : ℕ) (S : Stage V) (q : ℕ) → OneAnswer D
    → IsOne (Settles D G pass S q)
Settles-one D G pass S q laws =
    let spot : Spot = record { pass = pass; point = q } in
    Then-one (Sum D G spot (value_at D G S)) (λ n. Is (record { value = n; changes = changes_at S q }))
    (Sum-one D G spot (value_at D G S) laws) (λ n. Is-one (record { value = n; changes = changes_at S q }))

Points-one : {V : Type 0} (Step : Stage V → ℕ → Outcome (Held V) → Type 0) (m q : ℕ) (S : Stage V)
    → ((U : Stage V) (i : ℕ) → IsOne (Step U i)) → IsOne (Points Step m q S)
Points-one Step zero q S each = record { one = λ r s p q. p ∙ sym q }
Points-one Step (suc m) q S each =
    let t = Then-one (Step S q) (λ held. Points Step m (q + 1) (put S q held)) (each S q)
    (λ held. Points-one Step m (q + 1) (put S q held) each) in record { one = t.one }

Ascent-open : {V : Type 0} (D : Relations V) (G : ControlGraph) (delay : ℕ) {pass : ℕ} {S : Stage V}
    {s : Outcome (Risen V)} → Ascent D G delay pass S s →
    ((T : Stage V) × Pass (Rises D G delay pass) G S (Gives T) × (T.changes ≡ S.changes)
    × (s ≡ Gives (record { stage = T; passes = pass }))) ⊎
    (((T : Stage V) × Pass (Rises D G delay pass) G S (Gives T) × (T.changes ≡ S.changes → ⊥) × Ascent D G delay
    (pass + 1) T s) ⊎
    ((t : Stop) × Pass (Rises D G delay pass) G S (Stops t) × (s ≡ Stops t)))
Ascent-open D G delay (ends pass S T r h same e) = inl (T, h, same, e)
Ascent-open D G delay (goes_on pass S T r h more rest) = inr (inl (T, h, more, rest))
Ascent-open D G delay (ascent_stops pass S t r h e) = inr (inr (t, h, e))

Pass-one : {V : Type 0} (D : Relations V) (G : ControlGraph) (delay pass : ℕ) (S : Stage V) → OneAnswer D
    → IsOne (Pass (Rises D G delay pass) G S)
Pass-one D G delay pass S laws = Points-one (Rises D G delay pass) (length G.points) 0 S
    (λ U i. Rises-one D G delay pass U i laws)

Gives-same : {A : Type 0} (x y : A) → ◌≡◌ {A = Outcome A} (Gives x) (Gives y) → x ≡ y
Gives-same x y e = cc

Stops-same : {A : Type 0} (x y : Stop) → ◌≡◌ {A = Outcome A} (Stops x) (Stops y) → x ≡ y
Stops-same x y e = cc

Gives-Stops : {A : Type 0} (x : A) (y : Stop) → ◌≡◌ {A = Outcome A} (Gives x) (Stops y) → ⊥
Gives-Stops x y e = cc

Ascent-same : {V : Type 0} (D : Relations V) (G : ControlGraph) (delay : ℕ) → OneAnswer D
    → {pass : ℕ} {S : Stage V} {r : Outcome (Risen V)} (s : Outcome (Risen V)) → Ascent D G delay pass S r
    → Ascent D G delay pass S s → r ≡ s
Ascent-same {V} D G delay laws s (ends pass S T r h same e) other = elim (Ascent-open D G delay other) [
  | inl w ↦ let t : T ≡ w.0 = Gives-same T w.0 ((Pass-one D G delay pass S laws).one (Gives T) (Gives w.0) h w.1) in
      rw (e, w.3, t) refl
  | inr v ↦ elim v [
    | inl w ↦ let t : T ≡ w.0 = Gives-same T w.0 ((Pass-one D G delay pass S laws).one (Gives T) (Gives w.0) h w.1) in
        absurd (w.2 (ap (λ (U : Stage V). U.changes) (sym t) ∙ same))
    | inr w ↦ absurd (Gives-Stops T w.0 ((Pass-one D G delay pass S laws).one (Gives T) (Stops w.0) h w.1))
  ]
]
Ascent-same {V} D G delay laws s (goes_on pass S T r h more rest) other = elim (Ascent-open D G delay other) [
  | inl w ↦ let t : T ≡ w.0 = Gives-same T w.0 ((Pass-one D G delay pass S laws).one (Gives T) (Gives w.0) h w.1) in
      absurd (more (ap (λ (U : Stage V). U.changes) t ∙ w.2))
  | inr v ↦ elim v [
    | inl w ↦ let t : T ≡ w.0 = Gives-same T w.0 ((Pass-one D G delay pass S laws).one (Gives T) (Gives w.0) h w.1) in
        Ascent-same D G delay laws s rest (subst (λ U. Ascent D G delay (pass + 1) U s) (sym t) w.3)
    | inr w ↦ absurd (Gives-Stops T w.0 ((Pass-one D G delay pass S laws).one (Gives T) (Stops w.0) h w.1))
  ]
]
Ascent-same D G delay laws s (ascent_stops pass S t r h e) other = elim (Ascent-open D G delay other) [
  | inl w ↦ absurd (Gives-Stops w.0 t ((Pass-one D G delay pass S laws).one (Gives w.0) (Stops t) w.1 h))
  | inr v ↦ elim v [
    | inl w ↦ absurd (Gives-Stops w.0 t ((Pass-one D G delay pass S laws).one (Gives w.0) (Stops t) w.1 h))
    | inr w ↦ let same : t ≡ w.0 = Stops-same t w.0
        ((Pass-one D G delay pass S laws).one (Stops t) (Stops w.0) h w.1) in rw (e, w.2, same) refl
  ]
]

Narrows-one : {V : Type 0} (D : Relations V) (G : ControlGraph) (n pass : ℕ) (S : Stage V) → OneAnswer D
    → IsOne (Narrows D G n pass S)
Narrows-one D G zero pass S laws = record { one = λ r s p q. p ∙ sym q }
Narrows-one D G (suc n) pass S laws =
    let t = Then-one (Pass (Settles D G pass) G S) (Narrows D G n (pass + 1))
    (Points-one (Settles D G pass) (length G.points) 0 S (λ U i. Settles-one D G pass U i laws))
    (λ T. Narrows-one D G n (pass + 1) T laws) in record { one = t.one }

-- the theorem
pub analysis_is_one : {V : Type 0} (D : Relations V) (G : ControlGraph) (delay narrow : ℕ) → OneAnswer D
    → (r s : Outcome (End V)) → Analysis D G delay narrow r → Analysis D G delay narrow s → r ≡ s
analysis_is_one D G delay narrow laws r s p q =
    let t = Then-one (Ascent D G delay 1 (at_first D G))
    (λ risen. Then (Narrows D G narrow (risen.passes + 1) risen.stage)
    (λ S. Is (record { values = S.values; passes = risen.passes })))
    (record { one = λ a b x y. Ascent-same D G delay laws b x y })
    (λ risen. Then-one (Narrows D G narrow (risen.passes + 1) risen.stage)
    (λ S. Is (record { values = S.values; passes = risen.passes }))
    (Narrows-one D G narrow (risen.passes + 1) risen.stage laws)
    (λ S. Is-one (record { values = S.values; passes = risen.passes }))) in
    t.one r s p q
