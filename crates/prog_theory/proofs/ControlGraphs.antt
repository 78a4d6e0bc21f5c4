-- The graph of a program within the limits keeps what a control graph keeps.
use Rattle.std.proofs.Common.{◌≡◌, ◌⊎◌, inl, inr, ⊎_elim, ℕ, ℤ, pos, ◌+ℤ◌, unsigned_abs, ◌+◌, ◌^◌, ◌≤◌, ◌<◌, ◌==◌, true, List, [], ◌∷◌, length, get_or, refl, sym, arith, Contains}
use Rattle.std.specs.List.{list_any}
use Rattle.std.proofs.lemmas.List.{length-append, length-replicate}
use Rattle.std.proofs.lemmas.List.Elements.{Contains-get_or, Contains-append_cases}
use Rattle.std.proofs.lemmas.Int.{ints}
use Rattle.std.proofs.lemmas.Bool.Decides.{eqb_tells}
use Rattle.prog_theory.specs.Statements.{Stmt, Set, Havoc, Assume, Assert, If, While, Skip, Program}
use Rattle.prog_theory.specs.Numbering.{counts}
use Rattle.prog_theory.specs.Places.{Place, own_inner, widths}
use Rattle.prog_theory.specs.Edges.{Edge}
use Rattle.prog_theory.specs.States.{Term}
use Rattle.prog_theory.specs.Graph.{Inner, own_points, points_of, points, edges, program_places}
use Rattle.prog_theory.specs.Heads.{own_heads, heads_of, heads}
use Rattle.prog_theory.proofs.Elements.{Contains-none, Contains-here, Contains-there, Contains-cases}
use Rattle.prog_theory.proofs.Tiles.{Tiles, places_of_tile, within}
use Rattle.prog_theory.proofs.Loops.{edges_stay, edges_rise, loops_enter_at_heads}
use Rattle.prog_theory.specs.Named.{Named, nameless}
use Rattle.prog_theory.specs.Limits.{program_limits}
use Rattle.prog_theory.specs.Within.{IsNumberWithin, IsWithin}
use Rattle.prog_theory.specs.Each.{EachOp}
use Rattle.prog_theory.specs.Tests.{above}
use Rattle.prog_theory.specs.ControlGraphs.{is_head, graph_of}
use Rattle.prog_theory.specs.GraphKeeps.{IsControlGraph}
use Rattle.prog_theory.proofs.Fitting.{each_edge, edges_fit}
use Rattle.prog_theory.proofs.Sizes.{widths_few, edges_few, heads_few}

length-points : (lo k : ℕ) (ls : List Place) (hi j : ℕ) → Tiles lo k ls hi j → lo + length (points_of ls) ≡ hi + 1
length-points lo k [] hi j h = omega (arith, h.0)
length-points lo k (l ∷ ls) hi j h =
    let r = length-points (lo + 1 + own_inner l.stmt) (k + 1) ls hi j h.2 in
    let a = length-append (own_points l.number l.stmt) (points_of ls) in
    let b = length-replicate (own_inner l.stmt) Inner in
    omega (arith, r, a, b)

own_head_is : (p : ℕ) (st : Stmt) (h : ℕ) → Contains (own_heads p st) h → h ≡ p
own_head_is p (While c a) h d = ⊎_elim (λ e. e) (λ k. absurd (Contains-none h k)) (Contains-cases p [] h d)
own_head_is p (Set x t) h d = absurd (Contains-none h d)
own_head_is p (Havoc x) h d = absurd (Contains-none h d)
own_head_is p (Assume c) h d = absurd (Contains-none h d)
own_head_is p (Assert c) h d = absurd (Contains-none h d)
own_head_is p (If c a b) h d = absurd (Contains-none h d)
own_head_is p Skip h d = absurd (Contains-none h d)

head_place : (ls : List Place) (h : ℕ) → Contains (heads_of ls) h → (l : Place) × Contains ls l × (h ≡ l.point)
head_place [] h d = absurd (Contains-none h d)
head_place (l ∷ ls) h d = ⊎_elim
    (λ k. (l, Contains-here l ls, own_head_is l.point l.stmt h k))
    (λ k. let r = head_place ls h k in (r.0, Contains-there l ls r.0 r.1, r.2))
    (Contains-append_cases (own_heads l.point l.stmt) (heads_of ls) h d)

head_found : (hs : List ℕ) (q : ℕ) → Contains hs q → list_any (λ h. h == q) hs ≡ true
head_found [] q c = absurd (Contains-none q c)
head_found (h ∷ hs) q c = elim (eqb_tells h q) [
  | inl w ↦ rw w.0 refl
  | inr w ↦ rw w.0 (⊎_elim (λ e. absurd (w.1 (sym e))) (λ k. head_found hs q k) (Contains-cases h hs q c))
]

-- the number of a term with one more is at most one greater
number_more : (n : ℕ) (t : Term) → IsNumberWithin n t → IsNumberWithin (n + 1) (above t)
number_more n t h = raised t.add h
  where
    raised : (a : ℤ) → unsigned_abs a ≤ n → unsigned_abs (a +ℤ pos 1) ≤ n + 1
    raised a h = omega (arith, ints)

module _ (p : Named) (kept : IsWithin program_limits p) where
  abbrev P : Program
  P = nameless p

  many : length (points P) ≡ widths P.body + 1
  many = let l = length-points 0 0 (program_places P) (0 + widths P.body) (0 + counts P.body)
      (places_of_tile 0 0 P.body (widths P.body)) in omega arith

  ascends : (e : Edge) → Contains (edges P) e → (is_head (graph_of P) e.to ≡ true) ⊎ (e.from < e.to)
  ascends e c = ⊎_elim (λ l. inr l) (λ i. inl (head_found (heads P) e.to i.is_head)) (edges_rise P e c)

  heads_stay : (h : ℕ) → Contains (heads P) h → h < length (points P)
  heads_stay h c =
      let l = head_place (program_places P) h c in
      let w = within 0 0 (program_places P) (0 + widths P.body) (0 + counts P.body)
      (places_of_tile 0 0 P.body (widths P.body)) l.0 l.1 in
      omega (arith, many, w.1, l.2)

  edge_numbers : (e : Edge) → Contains (edges P) e → EachOp (λ x. Unit {0}) (IsNumberWithin (2 ^ 31 + 1)) e.op
  edge_numbers =
      each_edge P (λ x. Unit {0}) (IsNumberWithin (2 ^ 31)) kept.numbers (IsNumberWithin (2 ^ 31 + 1))
      (λ t h. omega (arith, h)) (number_more (2 ^ 31))

  pub graph_of_program : IsControlGraph (graph_of P)
  graph_of_program = record {
    entry = omega (arith, many);
    points = omega (arith, many, widths_few P.body, kept.statements, kept.atoms);
    edges = omega (arith, edges_few P.body 0 0 (widths P.body), kept.statements, kept.atoms);
    few = omega (arith, heads_few P.body 0 0 (widths P.body), kept.statements);
    joins = λ k d l. let s = edges_stay P (get_or (edges P) k d) (Contains-get_or (edges P) k d l) in
        (omega (arith, s.0, many), omega (arith, s.1, many));
    fits = λ k d l. edges_fit P kept.coordinates (get_or (edges P) k d) (Contains-get_or (edges P) k d l);
    numbers = λ k d l. edge_numbers (get_or (edges P) k d) (Contains-get_or (edges P) k d l);
    ascends = λ k d l. ascends (get_or (edges P) k d) (Contains-get_or (edges P) k d l);
    enters = loops_enter_at_heads P;
    heads = λ k d l. heads_stay (get_or (heads P) k d) (Contains-get_or (heads P) k d l);
  }
