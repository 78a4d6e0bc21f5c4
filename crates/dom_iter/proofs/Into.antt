-- Only the edges to a point count for its sum, so a loop may go over their numbers alone.
use Rattle.std.proofs.Common.{◌≡◌, ◌+◌, ◌<◌, ◌==◌, ◌∙◌, ℕ, zero, suc, List, [], ◌∷◌, length, drop, get_or, map, Bool, true, false, cond, refl, sym, ap, subst, arith}
use Rattle.std.proofs.Math.Seq.{drop-cons}
use Rattle.std.proofs.lemmas.List.{length-map, get_or-map}
use Rattle.std.proofs.lemmas.Bool.Decides.{Decides-eqb}
use Rattle.prog_theory.specs.Edges.{Edge, Skips}
use Rattle.prog_graph.specs.declared.parts.Edge.{Edge as Coded}
use Rattle.prog_graph.specs.declared.parts.Op.TheVariants.{Skip}
use Rattle.prog_graph.specs.Views.{edge_of}
use Rattle.prog_graph.specs.Into.{numbers_from, numbers_to}
use Rattle.dom_theory.specs.Places.{Spot}
use Rattle.dom_theory.specs.Relations.{Relations}
use Rattle.dom_theory.specs.Outcomes.{Outcome, Gives, Then, goes, stops, Is}
use Rattle.dom_theory.specs.Sums.{Adds, AddsAll}
use Rattle.dom_iter.specs.declared.error.IterErr.{IterErr}
use Rattle.dom_iter.specs.Comes.{StopsAt}
use Rattle.dom_iter.proofs.Comes.{StopsAt-in}

-- the edge with a number
abbrev pub edge_at : List Edge → ℕ → Edge
edge_at edges j = get_or edges j (record { from = 0; to = 0; op = Skips })

-- along the edges with these numbers, one after another
abbrev pub AddsNumbers : {V : Type 0} → Relations V → Spot → (ℕ → V) → List Edge → List ℕ → V → Outcome V → Type 0
AddsNumbers D spot value edges [] n r = Is n r
AddsNumbers D spot value edges (j ∷ js) n r = Then (Adds D spot value j (edge_at edges j) n)
    (AddsNumbers D spot value edges js) r

Then-follows : {A B : Type 0} (c : Outcome A → Type 0) (f g : A → Outcome B → Type 0) (r : Outcome B)
    → ((x : A) → f x r → g x r) → Then c f r → Then c g r
Then-follows c f g r follows (goes x p q) = goes x p (follows x q)
Then-follows c f g r follows (stops s p e) = stops s p e

-- ---- sums by numbers
module _ {V : Type 0} (D : Relations V) (spot : Spot) (value : ℕ → V) (whole : List Edge) where
  first_number : (k : ℕ) (e : Edge) (edges : List Edge) (n : V) (r : Outcome V) (b : Bool) → (e.to == spot.point) ≡ b
      → edge_at whole k ≡ e →
      ((m : V) → AddsNumbers D spot value whole (numbers_from (k + 1) spot.point (map (λ e. e.to) edges)) m r
      → AddsAll D spot value (k + 1) edges m r) →
      AddsNumbers D spot value whole
      (cond b (k ∷ numbers_from (k + 1) spot.point (map (λ e. e.to) edges))
      (numbers_from (k + 1) spot.point (map (λ e. e.to) edges))) n r →
      AddsAll D spot value k (e ∷ edges) n r
  first_number k e edges n r true is here rest h =
      Then-follows (Adds D spot value k e n)
      (AddsNumbers D spot value whole (numbers_from (k + 1) spot.point (map (λ e. e.to) edges)))
      (AddsAll D spot value (k + 1) edges) r rest
      (subst (λ x. Then (Adds D spot value k x n)
      (AddsNumbers D spot value whole (numbers_from (k + 1) spot.point (map (λ e. e.to) edges))) r) here h)
  first_number k e edges n r false is here rest h = let past : Adds D spot value k e n (Gives n) = rw is refl in goes n
      past (rest n h)

  from_numbers : (k : ℕ) (edges : List Edge) (n : V) (r : Outcome V)
      → ((i : ℕ) → i < length edges → edge_at whole (k + i) ≡ edge_at edges i) →
      AddsNumbers D spot value whole (numbers_from k spot.point (map (λ e. e.to) edges)) n r
      → AddsAll D spot value k edges n r
  from_numbers k [] n r same h = h
  from_numbers k (e ∷ edges) n r same h =
      let here : edge_at whole k ≡ e = let at : k ≡ k + 0 = omega arith in ap (edge_at whole) at ∙ same 0
      (omega arith) in
      let later : (i : ℕ) → i < length edges → edge_at whole (k + 1 + i) ≡ edge_at edges i = λ i l. let at : k + 1 + i
      ≡ k + suc i = omega arith in ap (edge_at whole) at ∙ same (suc i) (omega arith) in
      first_number k e edges n r (e.to == spot.point) refl here (λ m t. from_numbers (k + 1) edges m r later t) h

  pub AddsAll-numbers : (n : V) (r : Outcome V) → AddsNumbers D spot value whole (numbers_to spot.point whole) n r
      → AddsAll D spot value 0 whole n r
  AddsAll-numbers n r h = from_numbers 0 whole n r (λ i l. let at : 0 + i ≡ i = omega arith in ap (edge_at whole) at) h

  -- one number more
  pub AddsNumbers-more : (k : ℕ) (js : List ℕ) (j : ℕ) (n m : V) (r : Outcome V) → k < length js → j ≡ get_or js k 0 →
      Adds D spot value j (edge_at whole j) n (Gives m) → AddsNumbers D spot value whole (drop (k + 1) js) m r
      → AddsNumbers D spot value whole (drop k js) n r
  AddsNumbers-more k js j n m r h is adds rest =
      rw (drop-cons js k 0 h, ← is) (goes m adds
      (let e : k + 1 ≡ suc k = omega arith in subst (λ i. AddsNumbers D spot value whole (drop i js) m r) e rest))

  pub AddsNumbers-stops : (k : ℕ) (js : List ℕ) (j : ℕ) (n : V) (err : IterErr) → k < length js → j ≡ get_or js k 0 →
      StopsAt (Adds D spot value j (edge_at whole j) n) err → StopsAt (AddsNumbers D spot value whole (drop k js) n) err
  AddsNumbers-stops k js j n err h is a =
      StopsAt-in (Adds D spot value j (edge_at whole j) n) (AddsNumbers D spot value whole (drop k js) n)
      (λ s b. rw (drop-cons js k 0 h, ← is) (stops s b refl)) err a

-- ---- the numbers
record IsNumberOf (p k : ℕ) (ts : List ℕ) (j : ℕ) : Type 0 where
  place : ℕ
  at : j ≡ k + place
  within : place < length ts
  target : get_or ts place 0 ≡ p

later_number : (p k t : ℕ) (ts : List ℕ) (j : ℕ) → IsNumberOf p (k + 1) ts j → IsNumberOf p k (t ∷ ts) j
later_number p k t ts j h = record {
  place = suc h.place;
  at = omega (arith, h.at);
  within = omega
      (arith, h.within);
  target = h.target;
}

one_number : (p k t : ℕ) (ts : List ℕ)
    → ((i : ℕ) → i < length (numbers_from (k + 1) p ts)
    → IsNumberOf p (k + 1) ts (get_or (numbers_from (k + 1) p ts) i 0)) → (b : Bool) → (t == p) ≡ b → (i : ℕ) →
    i < length (cond b (k ∷ numbers_from (k + 1) p ts) (numbers_from (k + 1) p ts))
    → IsNumberOf p k (t ∷ ts) (get_or (cond b (k ∷ numbers_from (k + 1) p ts) (numbers_from (k + 1) p ts)) i 0)
one_number p k t ts rest true is zero l = record {
  place = 0;
  at = omega arith;
  within = omega arith;
  target =
      (Decides-eqb t p).0 is;
}
one_number p k t ts rest true is (suc i) l = later_number p k t ts (get_or (numbers_from (k + 1) p ts) i 0)
    (rest i (omega arith))
one_number p k t ts rest false is i l = later_number p k t ts (get_or (numbers_from (k + 1) p ts) i 0) (rest i l)

number_each : (p k : ℕ) (ts : List ℕ) (i : ℕ) → i < length (numbers_from k p ts)
    → IsNumberOf p k ts (get_or (numbers_from k p ts) i 0)
number_each p k [] i l = absurd (omega arith)
number_each p k (t ∷ ts) i l = one_number p k t ts (λ m h. number_each p (k + 1) ts m h) (t == p) refl i l

-- each of the numbers is that of an edge to the point
pub number_within : (p : ℕ) (edges : List Edge) (js : List ℕ) (i j : ℕ) → js ≡ numbers_to p edges → i < length js
    → j ≡ get_or js i 0 → j < length edges
number_within p edges js i j e l is =
    let n = number_each p 0 (map (λ e. e.to) edges) i (omega (arith, ap length e)) in
    omega (arith, is, ap (λ s. get_or s i 0) e, n.at, n.within, length-map edges (λ (e : Edge). e.to))

pub number_target : (p : ℕ) (edges : List Edge) (js : List ℕ) (i j : ℕ) → js ≡ numbers_to p edges → i < length js
    → j ≡ get_or js i 0 → (edge_at edges j).to ≡ p
number_target p edges js i j e l is =
    let n = number_each p 0 (map (λ e. e.to) edges) i (omega (arith, ap length e)) in
    let same : j ≡ n.place = omega (arith, is, ap (λ s. get_or s i 0) e, n.at) in
    ap (λ k. (edge_at edges k).to) same
    ∙ sym (get_or-map (λ (e : Edge). e.to) edges n.place (record { from = 0; to = 0; op = Skips }) 0
    (omega (arith, n.within, length-map edges (λ (e : Edge). e.to)))) ∙ n.target

-- the edge of the code that the number is that of
pub edge_is : (edges : List Coded) (j : ℕ) → j < length (map edge_of edges) → edge_at (map edge_of edges) j ≡ edge_of
    (get_or edges j (record { from = 0; to = 0; op = Skip }))
edge_is edges j l = get_or-map edge_of edges j (record { from = 0; to = 0; op = Skip })
    (record { from = 0; to = 0; op = Skips }) (omega (arith, length-map edges edge_of))
