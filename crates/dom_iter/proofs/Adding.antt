-- Sums along edges.
use Rattle.std.proofs.Common.{◌≡◌, ◌+◌, ◌<◌, ◌==◌, ◌∙◌, ℕ, suc, List, inl, inr, length, drop, get_or, refl, sym, subst, arith}
use Rattle.std.proofs.Math.Seq.{drop-cons}
use Rattle.std.proofs.lemmas.Bool.{eq-eqb, ne_eqb}
use Rattle.prog_theory.specs.Edges.{Edge}
use Rattle.dom_theory.specs.Places.{Edge as EdgePart, Sum as SumPart}
use Rattle.dom_theory.specs.Relations.{Relations, Apply, Join}
use Rattle.dom_theory.specs.Laws.{VarsLaws}
use Rattle.dom_theory.specs.Places.{Spot}
use Rattle.dom_theory.specs.Outcomes.{Outcome, Gives, Stops, Then, goes, stops, Is}
use Rattle.dom_iter.specs.declared.error.IterErr.{IterErr}
use Rattle.dom_iter.specs.Comes.{StopsAt}
use Rattle.dom_iter.proofs.Comes.{StopsAt-in}
use Rattle.dom_theory.specs.Parts.{Asks}
use Rattle.dom_theory.specs.Sums.{Adds, AddsAll}
use Rattle.dom_theory.proofs.Given.{MatchBool-cases, Is-gives, Then-gives, Asks-gives}

pub Adds-here : {V : Type 0} (D : Relations V) (spot : Spot) (value : ℕ → V) (k : ℕ) (e : Edge) (n : V) (r : Outcome V)
    → e.to ≡ spot.point →
    Then (Asks D spot (EdgePart k) (Apply e.op (value e.from))) (λ image. Asks D spot (SumPart k) (Join n image)) r
    → Adds D spot value k e n r
Adds-here D spot value k e n r same h = rw (eq-eqb e.to spot.point same) h

pub Adds-past : {V : Type 0} (D : Relations V) (spot : Spot) (value : ℕ → V) (k : ℕ) (e : Edge) (n : V) (r : Outcome V)
    → (e.to ≡ spot.point → ⊥) →
    Is n r → Adds D spot value k e n r
Adds-past D spot value k e n r other h = rw (ne_eqb e.to spot.point other) h

pub Adds-vars : {V : Type 0} (D : Relations V) (spot : Spot) (value : ℕ → V) (k : ℕ) (e : Edge) (n m : V) (vars : ℕ)
    → VarsLaws D → D.vars n ≡ vars → D.vars (value e.from) ≡ vars →
    Adds D spot value k e n (Gives m) → D.vars m ≡ vars
Adds-vars {V} D spot value k e n m vars laws vn vf h = elim (MatchBool-cases (e.to == spot.point) _ _ h) [
  | inl w ↦
      let t = Then-gives (Asks D spot (EdgePart k) (Apply e.op (value e.from)))
      (λ image. Asks D spot (SumPart k) (Join n image)) m w.1 in
      let a = Asks-gives D spot (EdgePart k) (Apply e.op (value e.from)) t.0 t.1 in
      let j = Asks-gives D spot (SumPart k) (Join n t.0) m t.2 in
      let vi : D.vars t.0 ≡ vars = laws.applied e.op (value e.from) t.0 a.1 ∙ vf in
      laws.joined n t.0 m j.1 (vn ∙ sym vi) ∙ vn
  | inr w ↦ let same : m ≡ n = Is-gives n m w.1 in rw same vn
]

-- one edge more
pub AddsAll-more : {V : Type 0} (D : Relations V) (spot : Spot) (value : ℕ → V) (k : ℕ) (edges : List Edge) (d : Edge)
    (n m : V) (r : Outcome V) → k < length edges →
    Adds D spot value k (get_or edges k d) n (Gives m) → AddsAll D spot value (k + 1) (drop (k + 1) edges) m r
    → AddsAll D spot value k (drop k edges) n r
AddsAll-more D spot value k edges d n m r h adds rest = rw (drop-cons edges k d h)
    (goes m adds (let e : k + 1 ≡ suc k = omega arith in subst (λ j. AddsAll D spot value (k + 1) (drop j edges) m r) e
    rest))

-- the image along an edge to the point, and then the join with it
pub Adds-image-stops : {V : Type 0} (D : Relations V) (spot : Spot) (value : ℕ → V) (k : ℕ) (e : Edge) (n x : V)
    (err : IterErr) → e.to ≡ spot.point → x ≡ value e.from →
    StopsAt (Asks D spot (EdgePart k) (Apply e.op x)) err → StopsAt (Adds D spot value k e n) err
Adds-image-stops D spot value k e n x err same is h =
    StopsAt-in (Asks D spot (EdgePart k) (Apply e.op x)) (Adds D spot value k e n)
    (λ s a. Adds-here D spot value k e n (Stops s) same
    (stops s (subst (λ v. Asks D spot (EdgePart k) (Apply e.op v) (Stops s)) is a) refl)) err h

pub Adds-join-stops : {V : Type 0} (D : Relations V) (spot : Spot) (value : ℕ → V) (k : ℕ) (e : Edge) (n x image : V)
    (err : IterErr) → e.to ≡ spot.point → x ≡ value e.from →
    Asks D spot (EdgePart k) (Apply e.op x) (Gives image) → StopsAt (Asks D spot (SumPart k) (Join n image)) err
    → StopsAt (Adds D spot value k e n) err
Adds-join-stops D spot value k e n x image err same is a h =
    StopsAt-in (Asks D spot (SumPart k) (Join n image)) (Adds D spot value k e n)
    (λ s j. Adds-here D spot value k e n (Stops s) same
    (goes image (subst (λ v. Asks D spot (EdgePart k) (Apply e.op v) (Gives image)) is a) j)) err h

pub Adds-gives : {V : Type 0} (D : Relations V) (spot : Spot) (value : ℕ → V) (k : ℕ) (e : Edge) (n x image m : V)
    → e.to ≡ spot.point → x ≡ value e.from →
    Asks D spot (EdgePart k) (Apply e.op x) (Gives image) → Asks D spot (SumPart k) (Join n image) (Gives m)
    → Adds D spot value k e n (Gives m)
Adds-gives D spot value k e n x image m same is a j =
    Adds-here D spot value k e n (Gives m) same
    (goes image (subst (λ v. Asks D spot (EdgePart k) (Apply e.op v) (Gives image)) is a) j)

pub AddsAll-stops : {V : Type 0} (D : Relations V) (spot : Spot) (value : ℕ → V) (k : ℕ) (edges : List Edge) (d : Edge)
    (n : V) (err : IterErr) → k < length edges →
    StopsAt (Adds D spot value k (get_or edges k d) n) err → StopsAt (AddsAll D spot value k (drop k edges) n) err
AddsAll-stops D spot value k edges d n err h a =
    StopsAt-in (Adds D spot value k (get_or edges k d) n) (AddsAll D spot value k (drop k edges) n)
    (λ s b. rw (drop-cons edges k d h) (stops s b refl)) err a
