-- A domain whose values stand for those of another: an analysis by the first is one by the second, value by value.
-- Index: call_by, outcome_by, end_by, Stands, Carries.
use Rattle.std.proofs.Common.{◌≡◌, inl, inr, ◌+◌, ◌∙◌, ℕ, zero, suc, List, [], ◌∷◌, map, length, get_or, replicate, refl, sym, subst, ap, Bool, true, false, MatchBool, ◌==◌}
use Rattle.std.specs.Prelude.{◌↔◌, slice_set}
use Rattle.prog_theory.specs.Edges.{Op, Edge}
use Rattle.prog_theory.specs.ControlGraphs.{ControlGraph, is_head}
use Rattle.dom_theory.specs.Refusals.{At}
use Rattle.dom_theory.specs.Places.{Part, Spot}
use Rattle.dom_theory.specs.Places.{Edge as EdgePart, Sum as SumPart, Head}
use Rattle.dom_theory.specs.Relations.{Relations, Call, Apply, Join, Widen, Cause}
use Rattle.dom_theory.specs.Answers.{IsResult}
use Rattle.dom_theory.specs.Outcomes.{Outcome, Gives, Stops, Then, goes, stops, Is}
use Rattle.dom_theory.specs.Parts.{Asks, answered, refused}
use Rattle.dom_theory.specs.Sums.{Adds, AddsAll, Sum, before_edges}
use Rattle.dom_theory.specs.Passes.{Held, Stage, value_at, changes_at, put, HeadStep, keeps, joins, widens, Rises, Settles, Points, Pass}
use Rattle.dom_theory.specs.Analysis.{Ascent, ends, goes_on, stops as ascent_stops, Risen, End, Narrows, Analysis, at_first}

-- ---- what stands for what

abbrev pub call_by : {V W : Type 0} → (V → W) → Call V → Call W
call_by f (Apply op x) = Apply op (f x)
call_by f (Join x other) = Join (f x) (f other)
call_by f (Widen x next) = Widen (f x) (f next)

abbrev pub outcome_by : {A B : Type 0} → (A → B) → Outcome A → Outcome B
outcome_by f (Gives x) = Gives (f x)
outcome_by f (Stops s) = Stops s

abbrev held_by : {V W : Type 0} → (V → W) → Held V → Held W
held_by f held = record { value = f held.value; changes = held.changes }

abbrev stage_by : {V W : Type 0} → (V → W) → Stage V → Stage W
stage_by f S = record { values = map f S.values; changes = S.changes }

abbrev risen_by : {V W : Type 0} → (V → W) → Risen V → Risen W
risen_by f r = record { stage = stage_by f r.stage; passes = r.passes }

abbrev pub end_by : {V W : Type 0} → (V → W) → End V → End W
end_by f E = record { values = map f E.values; passes = E.passes }

-- each value x of the first domain stands for f x of the second
pub record Stands {V W : Type 0} (D : Relations V) (E : Relations W) (f : V → W) : Type 0 where
  pub bottom : (n : ℕ) → f (D.bottom n) ≡ E.bottom n
  pub top : (n : ℕ) → f (D.top n) ≡ E.top n
  pub nothing : (n : ℕ) (x : V) → f x ≡ E.bottom n → x ≡ D.bottom n
  pub within : (x y : V) → D.within x y ↔ E.within (f x) (f y)
  pub applied : (op : Op) (x y : V) → D.applied op x y → E.applied op (f x) (f y)
  pub joined : (x other y : V) → D.joined x other y → E.joined (f x) (f other) (f y)
  pub widened : (x next y : V) → D.widened x next y → E.widened (f x) (f next) (f y)
  pub refused : (call : Call V) (cause : Cause) (at : At)
      → D.refused call cause at ↔ E.refused (call_by f call) cause at

-- ---- work in parts

-- each outcome of the first work stands for one of the second
pub record Carries {A B : Type 0} (g : A → B) (c : Outcome A → Type 0) (k : Outcome B → Type 0) : Type 0 where
  pub over : (r : Outcome A) → c r → k (outcome_by g r)

Is-carries : {A B : Type 0} (g : A → B) (x : A) (y : B) → g x ≡ y → Carries g (Is x) (Is y)
Is-carries g x y e = record { over = λ r h. ap (outcome_by g) h ∙ ap Gives e }

Then-over : {A B C E : Type 0} (g : A → C) (h : B → E) (c : Outcome A → Type 0) (k : Outcome C → Type 0)
    (u : A → Outcome B → Type 0) (v : C → Outcome E → Type 0) → Carries g c k → ((x : A) → Carries h (u x) (v (g x)))
    → (r : Outcome B) → Then c u r → Then k v (outcome_by h r)
Then-over g h c k u v first next r (goes x p q) = goes (g x) (first.over (Gives x) p) ((next x).over r q)
Then-over g h c k u v first next r (stops s p e) = stops s (first.over (Stops s) p) (ap (outcome_by h) e)

Then-carries : {A B C E : Type 0} (g : A → C) (h : B → E) (c : Outcome A → Type 0) (k : Outcome C → Type 0)
    (u : A → Outcome B → Type 0) (v : C → Outcome E → Type 0) → Carries g c k → ((x : A) → Carries h (u x) (v (g x)))
    → Carries h (Then c u) (Then k v)
Then-carries g h c k u v first next = record { over = Then-over g h c k u v first next }

MatchBool-carries : {A B : Type 0} (g : A → B) (b : Bool) (c e : Outcome A → Type 0) (k l : Outcome B → Type 0)
    → Carries g c k → Carries g e l → Carries g (λ r. MatchBool b (c r) (e r)) (λ r. MatchBool b (k r) (l r))
MatchBool-carries g true c e k l p q = record { over = p.over }
MatchBool-carries g false c e k l p q = record { over = q.over }

-- ---- lists

get_or-by : {V W : Type 0} (f : V → W) (xs : List V) (q : ℕ) (d : V) → get_or (map f xs) q (f d) ≡ f (get_or xs q d)
get_or-by f [] q d = refl
get_or-by f (x ∷ xs) zero d = refl
get_or-by f (x ∷ xs) (suc q) d = get_or-by f xs q d

set-by : {V W : Type 0} (f : V → W) (xs : List V) (q : ℕ) (x : V) → map f (slice_set xs q x) ≡ slice_set (map f xs) q
    (f x)
set-by f [] q x = refl
set-by f (y ∷ xs) zero x = refl
set-by f (y ∷ xs) (suc q) x = ap (λ ys. f y ∷ ys) (set-by f xs q x)

replicate-by : {V W : Type 0} (f : V → W) (n : ℕ) (x : V) → map f (replicate n x) ≡ replicate n (f x)
replicate-by f zero x = refl
replicate-by f (suc n) x = ap (λ ys. f x ∷ ys) (replicate-by f n x)

-- ---- an analysis

module _ {V W : Type 0} (D : Relations V) (E : Relations W) (f : V → W) (stand : Stands D E f) where
  result_by : (call : Call V) (y : V) → IsResult D call y → IsResult E (call_by f call) (f y)
  result_by (Apply op x) y h = stand.applied op x y h
  result_by (Join x other) y h = stand.joined x other y h
  result_by (Widen x next) y h = stand.widened x next y h

  Asks-over : (spot : Spot) (part : Part) (call : Call V) (r : Outcome V) → Asks D spot part call r
      → Asks E spot part (call_by f call) (outcome_by f r)
  Asks-over spot part call r (answered y free is e) =
      answered (f y) (λ cause at h. free cause at ((stand.refused call cause at).1 h)) (result_by call y is)
      (ap (outcome_by f) e)
  Asks-over spot part call r (refused cause at h e) =
      refused cause at ((stand.refused call cause at).0 h) (ap (outcome_by f) e)

  Asks-carries : (spot : Spot) (part : Part) (call : Call V)
      → Carries f (Asks D spot part call) (Asks E spot part (call_by f call))
  Asks-carries spot part call = record { over = Asks-over spot part call }

  Adds-carries : (spot : Spot) (value : ℕ → V) (other : ℕ → W) (k : ℕ) (e : Edge) (n : V)
      → ((q : ℕ) → other q ≡ f (value q)) → Carries f (Adds D spot value k e n) (Adds E spot other k e (f n))
  Adds-carries spot value other k e n same =
      subst (λ x. Carries f (Adds D spot value k e n)
      (λ r. MatchBool (e.to == spot.point)
      (Then (Asks E spot (EdgePart k) (Apply e.op x)) (λ image. Asks E spot (SumPart k) (Join (f n) image)) r)
      (Is (f n) r)))
      (sym (same e.from))
      (MatchBool-carries f (e.to == spot.point)
      (Then (Asks D spot (EdgePart k) (Apply e.op (value e.from))) (λ image. Asks D spot (SumPart k) (Join n image)))
      (Is n)
      (Then (Asks E spot (EdgePart k) (Apply e.op (f (value e.from))))
      (λ image. Asks E spot (SumPart k) (Join (f n) image)))
      (Is (f n))
      (Then-carries f f (Asks D spot (EdgePart k) (Apply e.op (value e.from)))
      (Asks E spot (EdgePart k) (Apply e.op (f (value e.from)))) (λ image. Asks D spot (SumPart k) (Join n image))
      (λ image. Asks E spot (SumPart k) (Join (f n) image)) (Asks-carries spot (EdgePart k) (Apply e.op (value e.from)))
      (λ image. Asks-carries spot (SumPart k) (Join n image)))
      (Is-carries f n (f n) refl))

  AddsAll-carries : (spot : Spot) (value : ℕ → V) (other : ℕ → W) (k : ℕ) (edges : List Edge) (n : V)
      → ((q : ℕ) → other q ≡ f (value q))
      → Carries f (AddsAll D spot value k edges n) (AddsAll E spot other k edges (f n))
  AddsAll-carries spot value other k [] n same = Is-carries f n (f n) refl
  AddsAll-carries spot value other k (e ∷ edges) n same =
      Then-carries f f (Adds D spot value k e n) (Adds E spot other k e (f n)) (AddsAll D spot value (k + 1) edges)
      (AddsAll E spot other (k + 1) edges) (Adds-carries spot value other k e n same)
      (λ m. AddsAll-carries spot value other (k + 1) edges m same)

  module _ (G : ControlGraph) where
    before_by : (q : ℕ) → f (before_edges D G q) ≡ before_edges E G q
    before_by zero = stand.top G.vars
    before_by (suc q) = stand.bottom G.vars

    Sum-carries : (spot : Spot) (value : ℕ → V) (other : ℕ → W) → ((q : ℕ) → other q ≡ f (value q))
        → Carries f (Sum D G spot value) (Sum E G spot other)
    Sum-carries spot value other same =
        subst (λ x. Carries f (Sum D G spot value) (AddsAll E spot other 0 G.edges x)) (before_by spot.point)
        (AddsAll-carries spot value other 0 G.edges (before_edges D G spot.point) same)

    value_by : (S : Stage V) (q : ℕ) → value_at E G (stage_by f S) q ≡ f (value_at D G S q)
    value_by S q = subst (λ d. get_or (map f S.values) q d ≡ f (value_at D G S q)) (stand.bottom G.vars)
        (get_or-by f S.values q (D.bottom G.vars))

    put_by : (S : Stage V) (q : ℕ) (held : Held V) → stage_by f (put S q held) ≡ put (stage_by f S) q (held_by f held)
    put_by S q held = ap (λ xs. with xs) (set-by f S.values q held.value)
      where
        with : List W → Stage W
        with xs = record { values = xs; changes = slice_set S.changes q held.changes }

    changed_carries : (spot : Spot) (call : Call V) (c : ℕ)
        → Carries (held_by f) (Then (Asks D spot Head call) (λ y. Is (record { value = y; changes = c + 1 })))
        (Then (Asks E spot Head (call_by f call)) (λ y. Is (record { value = y; changes = c + 1 })))
    changed_carries spot call c = Then-carries f (held_by f) (Asks D spot Head call) (Asks E spot Head (call_by f call))
        (λ y. Is (record { value = y; changes = c + 1 })) (λ y. Is (record { value = y; changes = c + 1 }))
        (Asks-carries spot Head call)
        (λ y. Is-carries (held_by f) (record { value = y; changes = c + 1 }) (record { value = f y; changes = c + 1 })
        refl)

    HeadStep-over : (delay : ℕ) (spot : Spot) (x : V) (c : ℕ) (n : V) (r : Outcome (Held V))
        → HeadStep D G delay spot x c n r → HeadStep E G delay spot (f x) c (f n) (outcome_by (held_by f) r)
    HeadStep-over delay spot x c n r (keeps w e) =
        keeps ((stand.within n x).0 w) (ap (outcome_by (held_by f)) e)
    HeadStep-over delay spot x c n r (joins leaves (inl b) t) =
        joins (λ w. leaves ((stand.within n x).1 w)) (inl (ap f b ∙ stand.bottom G.vars))
        ((changed_carries spot (Join x n) c).over r t)
    HeadStep-over delay spot x c n r (joins leaves (inr l) t) =
        joins (λ w. leaves ((stand.within n x).1 w)) (inr l) ((changed_carries spot (Join x n) c).over r t)
    HeadStep-over delay spot x c n r (widens leaves more late t) =
        widens (λ w. leaves ((stand.within n x).1 w)) (λ e. more (stand.nothing G.vars x e)) late
        ((changed_carries spot (Widen x n) c).over r t)

    Rises-carries : (delay pass : ℕ) (S : Stage V) (q : ℕ)
        → Carries (held_by f) (Rises D G delay pass S q) (Rises E G delay pass (stage_by f S) q)
    Rises-carries delay pass S q =
        let spot : Spot = record { pass = pass; point = q } in
        let c : ℕ = changes_at S q in
        subst (λ x. Carries (held_by f) (Rises D G delay pass S q)
        (Then (Sum E G spot (value_at E G (stage_by f S)))
        (λ n r. MatchBool (is_head G q) (HeadStep E G delay spot x c n r) (Is (record { value = n; changes = c }) r))))
        (sym (value_by S q))
        (Then-carries f (held_by f) (Sum D G spot (value_at D G S)) (Sum E G spot (value_at E G (stage_by f S)))
        (λ n r. MatchBool (is_head G q) (HeadStep D G delay spot (value_at D G S q) c n r)
        (Is (record { value = n; changes = c }) r))
        (λ n r. MatchBool (is_head G q) (HeadStep E G delay spot (f (value_at D G S q)) c n r)
        (Is (record { value = n; changes = c }) r))
        (Sum-carries spot (value_at D G S) (value_at E G (stage_by f S)) (value_by S))
        (λ n. MatchBool-carries (held_by f) (is_head G q) (HeadStep D G delay spot (value_at D G S q) c n)
        (Is (record { value = n; changes = c })) (HeadStep E G delay spot (f (value_at D G S q)) c (f n))
        (Is (record { value = f n; changes = c }))
        (record { over = HeadStep-over delay spot (value_at D G S q) c n })
        (Is-carries (held_by f) (record { value = n; changes = c }) (record { value = f n; changes = c }) refl)))

    Settles-carries : (pass : ℕ) (S : Stage V) (q : ℕ)
        → Carries (held_by f) (Settles D G pass S q) (Settles E G pass (stage_by f S) q)
    Settles-carries pass S q =
        let spot : Spot = record { pass = pass; point = q } in
        Then-carries f (held_by f) (Sum D G spot (value_at D G S)) (Sum E G spot (value_at E G (stage_by f S)))
        (λ n. Is (record { value = n; changes = changes_at S q }))
        (λ n. Is (record { value = n; changes = changes_at S q }))
        (Sum-carries spot (value_at D G S) (value_at E G (stage_by f S)) (value_by S))
        (λ n. Is-carries (held_by f) (record { value = n; changes = changes_at S q })
        (record { value = f n; changes = changes_at S q }) refl)

    Points-carries : (Step : Stage V → ℕ → Outcome (Held V) → Type 0) (Other : Stage W → ℕ → Outcome (Held W) → Type 0)
        → ((S : Stage V) (q : ℕ) → Carries (held_by f) (Step S q) (Other (stage_by f S) q))
        → (m q : ℕ) (S : Stage V) → Carries (stage_by f) (Points Step m q S) (Points Other m q (stage_by f S))
    Points-carries Step Other each zero q S = Is-carries (stage_by f) S (stage_by f S) refl
    Points-carries Step Other each (suc m) q S =
        Then-carries (held_by f) (stage_by f) (Step S q) (Other (stage_by f S) q)
        (λ held. Points Step m (q + 1) (put S q held)) (λ held. Points Other m (q + 1) (put (stage_by f S) q held))
        (each S q)
        (λ held. subst (λ T. Carries (stage_by f) (Points Step m (q + 1) (put S q held)) (Points Other m (q + 1) T))
        (put_by S q held) (Points-carries Step Other each m (q + 1) (put S q held)))

    Pass-rises : (delay pass : ℕ) (S : Stage V)
        → Carries (stage_by f) (Pass (Rises D G delay pass) G S) (Pass (Rises E G delay pass) G (stage_by f S))
    Pass-rises delay pass S = Points-carries (Rises D G delay pass) (Rises E G delay pass) (Rises-carries delay pass)
        (length G.points) 0 S

    Pass-settles : (pass : ℕ) (S : Stage V)
        → Carries (stage_by f) (Pass (Settles D G pass) G S) (Pass (Settles E G pass) G (stage_by f S))
    Pass-settles pass S = Points-carries (Settles D G pass) (Settles E G pass) (Settles-carries pass)
        (length G.points) 0 S

    Ascent-over : (delay : ℕ) {pass : ℕ} {S : Stage V} {r : Outcome (Risen V)} → Ascent D G delay pass S r
        → Ascent E G delay pass (stage_by f S) (outcome_by (risen_by f) r)
    Ascent-over delay (ends pass S T r h same e) =
        ends pass (stage_by f S) (stage_by f T) (outcome_by (risen_by f) r) ((Pass-rises delay pass S).over (Gives T) h)
        same (ap (outcome_by (risen_by f)) e)
    Ascent-over delay (goes_on pass S T r h more rest) =
        goes_on pass (stage_by f S) (stage_by f T) (outcome_by (risen_by f) r)
        ((Pass-rises delay pass S).over (Gives T) h) more (Ascent-over delay rest)
    Ascent-over delay (ascent_stops pass S s r h e) =
        ascent_stops pass (stage_by f S) s (outcome_by (risen_by f) r) ((Pass-rises delay pass S).over (Stops s) h)
        (ap (outcome_by (risen_by f)) e)

    Narrows-carries : (n pass : ℕ) (S : Stage V) → Carries (stage_by f) (Narrows D G n pass S)
        (Narrows E G n pass (stage_by f S))
    Narrows-carries zero pass S = Is-carries (stage_by f) S (stage_by f S) refl
    Narrows-carries (suc n) pass S =
        Then-carries (stage_by f) (stage_by f) (Pass (Settles D G pass) G S) (Pass (Settles E G pass) G (stage_by f S))
        (Narrows D G n (pass + 1)) (Narrows E G n (pass + 1)) (Pass-settles pass S)
        (λ T. Narrows-carries n (pass + 1) T)

    first_by : stage_by f (at_first D G) ≡ at_first E G
    first_by = ap (λ xs. with xs) (replicate-by f (length G.points) (D.bottom G.vars)
        ∙ ap (replicate (length G.points)) (stand.bottom G.vars))
      where
        with : List W → Stage W
        with xs = record { values = xs; changes = replicate (length G.points) 0 }

    Ascent-carries : (delay : ℕ)
        → Carries (risen_by f) (Ascent D G delay 1 (at_first D G)) (Ascent E G delay 1 (at_first E G))
    Ascent-carries delay = subst (λ S. Carries (risen_by f) (Ascent D G delay 1 (at_first D G)) (Ascent E G delay 1 S))
        first_by (record { over = λ r h. Ascent-over delay h })

    -- what comes of the analysis by the first domain stands for what comes of it by the second
    pub analysis_stands : (delay narrow : ℕ)
        → Carries (end_by f) (Analysis D G delay narrow) (Analysis E G delay narrow)
    analysis_stands delay narrow = Then-carries (risen_by f) (end_by f) (Ascent D G delay 1 (at_first D G))
        (Ascent E G delay 1 (at_first E G))
        (λ risen. Then (Narrows D G narrow (risen.passes + 1) risen.stage)
        (λ S. Is (record { values = S.values; passes = risen.passes })))
        (λ risen. Then (Narrows E G narrow (risen.passes + 1) risen.stage)
        (λ S. Is (record { values = S.values; passes = risen.passes })))
        (Ascent-carries delay)
        (λ risen. Then-carries (stage_by f) (end_by f) (Narrows D G narrow (risen.passes + 1) risen.stage)
        (Narrows E G narrow (risen.passes + 1) (stage_by f risen.stage))
        (λ S. Is (record { values = S.values; passes = risen.passes }))
        (λ S. Is (record { values = S.values; passes = risen.passes }))
        (Narrows-carries narrow (risen.passes + 1) risen.stage)
        (λ S. Is-carries (end_by f) (record { values = S.values; passes = risen.passes })
        (record { values = map f S.values; passes = risen.passes }) refl))
