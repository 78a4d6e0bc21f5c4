-- What is true of each refused call of a domain is true of the stop of an analysis.
use Rattle.std.proofs.Common.{◌≡◌, ◌+◌, ℕ, zero, suc, List, [], ◌∷◌, length, refl, subst, Bool, true, false, MatchBool, ◌==◌}
use Rattle.prog_theory.specs.Edges.{Edge}
use Rattle.prog_theory.specs.ControlGraphs.{ControlGraph, is_head}
use Rattle.dom_theory.specs.Refusals.{At}
use Rattle.dom_theory.specs.Places.{Part, Spot}
use Rattle.dom_theory.specs.Places.{Edge as EdgePart, Sum as SumPart, Head, Polar as PolarPart, Kept as KeptPart}
use Rattle.dom_theory.specs.Relations.{Relations, Call, Apply, Join, Widen, Cause}
use Rattle.dom_theory.specs.Outcomes.{Outcome, Gives, Stops, Stop, Then, goes, stops, Is}
use Rattle.dom_theory.specs.Parts.{Asks, answered, refused, place_at}
use Rattle.dom_theory.specs.Sums.{Adds, AddsAll, Sum, before_edges}
use Rattle.dom_theory.specs.Passes.{Held, Stage, value_at, changes_at, put, HeadStep, keeps, joins, widens, Rises, Settles, Points, Pass}
use Rattle.dom_theory.specs.Analysis.{Ascent, ends, goes_on, stops as ascent_stops, Risen, Narrows, Analysis, at_first}

-- a part for which a call is made
abbrev pub IsAsked : Part → Type 0
IsAsked (EdgePart k) = Unit {0}
IsAsked (SumPart k) = Unit {0}
IsAsked Head = Unit {0}
IsAsked (PolarPart i k) = ⊥
IsAsked (KeptPart k) = ⊥

-- each stop of the work has the property
record Tells (P : Stop → Type 0) {A : Type 0} (c : Outcome A → Type 0) : Type 0 where
  pub each : (s : Stop) → c (Stops s) → P s

module _ (P : Stop → Type 0) where
  Is-tells : {A : Type 0} (x : A) → Tells P (Is x)
  Is-tells {A} x = record { each = λ s h. absurd (let e : ◌≡◌ {A = Outcome A} (Stops s) (Gives x) = h in cc) }

  Then-each : {A B : Type 0} (c : Outcome A → Type 0) (f : A → Outcome B → Type 0) → Tells P c
      → ((x : A) → Tells P (f x)) → (s : Stop) → Then c f (Stops s) → P s
  Then-each c f first next s (goes x p q) = (next x).each s q
  Then-each {B = B} c f first next s (stops t p e) =
      let same : ◌≡◌ {A = Outcome B} (Stops s) (Stops t) = e in
      let is : t ≡ s = cc in
      subst P is (first.each t p)

  Then-tells : {A B : Type 0} (c : Outcome A → Type 0) (f : A → Outcome B → Type 0) → Tells P c
      → ((x : A) → Tells P (f x)) → Tells P (Then c f)
  Then-tells c f first next = record { each = Then-each c f first next }

  MatchBool-tells : {A : Type 0} (b : Bool) (c d : Outcome A → Type 0) → Tells P c → Tells P d
      → Tells P (λ r. MatchBool b (c r) (d r))
  MatchBool-tells true c d p q = record { each = p.each }
  MatchBool-tells false c d p q = record { each = q.each }

  module _ {V : Type 0} (D : Relations V)
      (told : (spot : Spot) (part : Part) (call : Call V) (cause : Cause) (at : At) → IsAsked part
      → D.refused call cause at → P (record { cause = cause; place = place_at spot part at })) where
    Asks-each : (spot : Spot) (part : Part) (call : Call V) → IsAsked part → (s : Stop)
        → Asks D spot part call (Stops s) → P s
    Asks-each spot part call asked s (answered y free is e) =
        absurd (let f : ◌≡◌ {A = Outcome V} (Stops s) (Gives y) = e in cc)
    Asks-each spot part call asked s (refused cause at h e) =
        let stop : Stop = record { cause = cause; place = place_at spot part at } in
        let same : ◌≡◌ {A = Outcome V} (Stops s) (Stops stop) = e in
        let is : stop ≡ s = cc in
        subst P is (told spot part call cause at asked h)

    Asks-tells : (spot : Spot) (part : Part) (call : Call V) → IsAsked part → Tells P (Asks D spot part call)
    Asks-tells spot part call asked = record { each = Asks-each spot part call asked }

    Adds-tells : (spot : Spot) (value : ℕ → V) (k : ℕ) (e : Edge) (n : V) → Tells P (Adds D spot value k e n)
    Adds-tells spot value k e n = MatchBool-tells (e.to == spot.point)
        (Then (Asks D spot (EdgePart k) (Apply e.op (value e.from))) (λ image. Asks D spot (SumPart k) (Join n image)))
        (Is n)
        (Then-tells (Asks D spot (EdgePart k) (Apply e.op (value e.from)))
        (λ image. Asks D spot (SumPart k) (Join n image)) (Asks-tells spot (EdgePart k) (Apply e.op (value e.from)) tt)
        (λ image. Asks-tells spot (SumPart k) (Join n image) tt))
        (Is-tells n)

    AddsAll-tells : (spot : Spot) (value : ℕ → V) (k : ℕ) (edges : List Edge) (n : V)
        → Tells P (AddsAll D spot value k edges n)
    AddsAll-tells spot value k [] n = Is-tells n
    AddsAll-tells spot value k (e ∷ edges) n = Then-tells (Adds D spot value k e n)
        (AddsAll D spot value (k + 1) edges) (Adds-tells spot value k e n)
        (λ m. AddsAll-tells spot value (k + 1) edges m)

    module _ (G : ControlGraph) where
      Sum-tells : (spot : Spot) (value : ℕ → V) → Tells P (Sum D G spot value)
      Sum-tells spot value = AddsAll-tells spot value 0 G.edges (before_edges D G spot.point)

      changed_tells : (spot : Spot) (call : Call V) (c : ℕ)
          → Tells P {A = Held V} (Then (Asks D spot Head call) (λ y. Is (record { value = y; changes = c + 1 })))
      changed_tells spot call c = Then-tells (Asks D spot Head call) (λ y. Is (record { value = y; changes = c + 1 }))
          (Asks-tells spot Head call tt) (λ y. Is-tells (record { value = y; changes = c + 1 }))

      HeadStep-each : (delay : ℕ) (spot : Spot) (x : V) (c : ℕ) (n : V) (s : Stop)
          → HeadStep D G delay spot x c n (Stops s) → P s
      HeadStep-each delay spot x c n s (keeps w e) = (Is-tells (record { value = x; changes = c })).each s e
      HeadStep-each delay spot x c n s (joins leaves which t) = (changed_tells spot (Join x n) c).each s t
      HeadStep-each delay spot x c n s (widens leaves more late t) = (changed_tells spot (Widen x n) c).each s t

      Rises-tells : (delay pass : ℕ) (S : Stage V) (q : ℕ) → Tells P (Rises D G delay pass S q)
      Rises-tells delay pass S q =
          let spot : Spot = record { pass = pass; point = q } in
          let x : V = value_at D G S q in
          let c : ℕ = changes_at S q in
          Then-tells (Sum D G spot (value_at D G S))
          (λ n r. MatchBool (is_head G q) (HeadStep D G delay spot x c n r) (Is (record { value = n; changes = c }) r))
          (Sum-tells spot (value_at D G S))
          (λ n. MatchBool-tells (is_head G q) (HeadStep D G delay spot x c n) (Is (record { value = n; changes = c }))
          (record { each = HeadStep-each delay spot x c n }) (Is-tells (record { value = n; changes = c })))

      Settles-tells : (pass : ℕ) (S : Stage V) (q : ℕ) → Tells P (Settles D G pass S q)
      Settles-tells pass S q = Then-tells (Sum D G (record { pass = pass; point = q }) (value_at D G S))
          (λ n. Is (record { value = n; changes = changes_at S q }))
          (Sum-tells (record { pass = pass; point = q }) (value_at D G S))
          (λ n. Is-tells (record { value = n; changes = changes_at S q }))

      Points-tells : (Step : Stage V → ℕ → Outcome (Held V) → Type 0) → ((S : Stage V) (q : ℕ) → Tells P (Step S q))
          → (m q : ℕ) (S : Stage V) → Tells P (Points Step m q S)
      Points-tells Step all zero q S = Is-tells S
      Points-tells Step all (suc m) q S = Then-tells (Step S q) (λ held. Points Step m (q + 1) (put S q held))
          (all S q) (λ held. Points-tells Step all m (q + 1) (put S q held))

      Ascent-each : (delay : ℕ) (s : Stop) {pass : ℕ} {S : Stage V} {r : Outcome (Risen V)} → r ≡ Stops s
          → Ascent D G delay pass S r → P s
      Ascent-each delay s is (ends pass S T r h same e) =
          absurd (let w : r ≡ Gives (record { stage = T; passes = pass }) = e in cc)
      Ascent-each delay s is (goes_on pass S T r h more rest) = Ascent-each delay s is rest
      Ascent-each delay s is (ascent_stops pass S t r h e) =
          let w : r ≡ Stops t = e in
          let same : t ≡ s = cc in
          subst P same
          ((Points-tells (Rises D G delay pass) (Rises-tells delay pass) (length G.points) 0 S).each t h)

      Narrows-tells : (n pass : ℕ) (S : Stage V) → Tells P (Narrows D G n pass S)
      Narrows-tells zero pass S = Is-tells S
      Narrows-tells (suc n) pass S = Then-tells (Pass (Settles D G pass) G S) (Narrows D G n (pass + 1))
          (Points-tells (Settles D G pass) (Settles-tells pass) (length G.points) 0 S)
          (λ T. Narrows-tells n (pass + 1) T)

      pub analysis_tells : (delay narrow : ℕ) (s : Stop) → Analysis D G delay narrow (Stops s) → P s
      analysis_tells delay narrow = (Then-tells (Ascent D G delay 1 (at_first D G))
          (λ risen. Then (Narrows D G narrow (risen.passes + 1) risen.stage)
          (λ S. Is (record { values = S.values; passes = risen.passes })))
          (record { each = λ t h. Ascent-each delay t refl h })
          (λ risen. Then-tells (Narrows D G narrow (risen.passes + 1) risen.stage)
          (λ S. Is (record { values = S.values; passes = risen.passes }))
          (Narrows-tells narrow (risen.passes + 1) risen.stage)
          (λ S. Is-tells (record { values = S.values; passes = risen.passes })))).each
