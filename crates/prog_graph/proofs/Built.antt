-- What is built from a program is its control graph.
use Rattle.std.proofs.Common.{◌≡◌, ◌<◌, ◌≤◌, ◌^◌, ◌↔◌, ℕ, ℤ, pos, ◌≤ℤ◌, unsigned_abs, List, [], ◌∷◌, ◌++◌, Some, length, map, All, get_or, slice_get, refl, sym, ap, ◌∙◌, subst, arith}
use Rattle.std.proofs.lemmas.List.{length-map, get_or-map}
use Rattle.std.proofs.lemmas.Int.{ints}
use Rattle.prog_theory.specs.States.{State, Term}
use Rattle.prog_theory.specs.Conditions.{Cond, Any, Atom, Not, And, Or}
use Rattle.prog_theory.specs.Statements.{Stmt, Set, Havoc, Assume, Assert, If, While, Skip, Block, Empty, Then}
use Rattle.prog_theory.specs.Named.{Named, nameless}
use Rattle.prog_theory.specs.Numbering.{counts}
use Rattle.prog_theory.specs.Places.{widths}
use Rattle.prog_theory.specs.Each.{EachTerm, EachStmt, EachBlock}
use Rattle.prog_theory.specs.Within.{IsNumberWithin}
use Rattle.prog_theory.specs.Edges as theory
use Rattle.prog_theory.specs.Graph as graph
use Rattle.prog_theory.specs.Visits.{VisitsStatement, VisitsEnd}
use Rattle.prog_theory.specs.ControlGraphs.{ControlGraph, graph_of}
use Rattle.prog_theory.specs.GraphKeeps.{IsControlGraph}
use Rattle.prog_theory.specs.Walks.{Reaches}
use Rattle.prog_theory.proofs.Sizes.{widths_few}
use Rattle.prog_theory.proofs.ControlGraphs.{graph_of_program}
use Rattle.prog_theory.proofs.WalksAreVisits.{walks_are_visits_of_statements, walks_are_visits_of_the_end}
use Rattle.prog_tree.specs.Programs.{IsProgram}
use Rattle.prog_graph.specs.declared.parts.Edge.{Edge}
use Rattle.prog_graph.specs.declared.parts.Point.{Point}
use Rattle.prog_graph.specs.Views.{edge_of, point_of}
use Rattle.prog_graph.specs.Modest.{IsModest, IsAnything}
use Rattle.prog_graph.specs.Into.{AreInto, targets}
use Rattle.prog_graph.specs.Kept.{IsGraph}
use Rattle.prog_graph.specs.TreeParts.{points_bl, edges_bl, heads_bl}
use Rattle.prog_graph.proofs.TreeParts.{program_points, program_edges, program_heads}

-- ---- numbers leave room for one more

number_modest : (a : ℤ) → unsigned_abs a ≤ 2 ^ 31 → a ≤ℤ pos (2 ^ 40)
number_modest a h = omega (arith, ints)

cond_modest : (c : Cond) → EachTerm (IsNumberWithin (2 ^ 31)) c → EachTerm IsModest c
cond_modest Any h = tt
cond_modest (Atom l o r) h = (number_modest l.add h.0, number_modest r.add h.1)
cond_modest (Not a) h = cond_modest a h
cond_modest (And a b) h = (cond_modest a h.0, cond_modest b h.1)
cond_modest (Or a b) h = (cond_modest a h.0, cond_modest b h.1)

terms_modest : (ts : List Term) → All (IsNumberWithin (2 ^ 31)) ts → All IsModest ts
terms_modest ts h = λ k d l. number_modest (get_or ts k d).add (h k d l)

mutual
  stmt_modest : (st : Stmt) → EachStmt (λ x. Unit {0}) (IsNumberWithin (2 ^ 31)) st → EachStmt IsAnything IsModest st
  stmt_modest (Set x t) h = (tt, number_modest t.add h.1)
  stmt_modest (Havoc x) h = tt
  stmt_modest (Assume c) h = cond_modest c h
  stmt_modest (Assert a) h = (terms_modest a.left.terms h.0, terms_modest a.right.terms h.1)
  stmt_modest (If c a b) h = (cond_modest c h.0, block_modest a h.1, block_modest b h.2)
  stmt_modest (While c a) h = (cond_modest c h.0, block_modest a h.1)
  stmt_modest Skip h = tt

  block_modest : (b : Block) → EachBlock (λ x. Unit {0}) (IsNumberWithin (2 ^ 31)) b → EachBlock IsAnything IsModest b
  block_modest Empty h = tt
  block_modest (Then st b) h = (stmt_modest st h.0, block_modest b h.1)

pub modest : (p : Named) → IsProgram p → EachBlock IsAnything IsModest p.body
modest p k = block_modest p.body k.within.numbers

pub counts_small : (p : Named) → IsProgram p → counts p.body < 2 ^ 32
counts_small p k = omega (arith, k.within.statements)

pub widths_small : (p : Named) → IsProgram p → widths p.body < 2 ^ 32
widths_small p k = omega (arith, widths_few p.body, k.within.statements, k.within.atoms)

-- ---- the targets of edges

pub targets-edges : (es : List Edge) → map (λ (e : theory.Edge). e.to) (map edge_of es) ≡ targets es
targets-edges [] = refl
targets-edges (e ∷ es) = ap (λ (x : List ℕ). e.to ∷ x) (targets-edges es)

-- ---- the graph

abbrev graph_with : ℕ → List graph.Point → List theory.Edge → List ℕ → ControlGraph
graph_with v P E H = record { vars = v; points = P; edges = E; heads = H }

graph_parts : (v v' : ℕ) (P P' : List graph.Point) (E E' : List theory.Edge) (H H' : List ℕ) → v ≡ v' → P ≡ P' → E ≡ E'
    → H ≡ H'
    → graph_with v P E H ≡ graph_with v' P' E' H'
graph_parts v v' P P' E E' H H' d e f g =
    ap (λ (x : ℕ). graph_with x P E H) d
    ∙ ap (λ (x : List graph.Point). graph_with v' x E H) e
    ∙ ap (λ (x : List theory.Edge). graph_with v' P' x H) f
    ∙ ap (λ (x : List ℕ). graph_with v' P' E' x) g

module _ (p : Named) (k : IsProgram p) (v : ℕ) (b : Block) (vs : List Point) (es : List Edge) (hs : List ℕ)
    (is_vars : v ≡ length p.names) (is_body : b ≡ p.body)
    (is_points : map point_of vs ≡ points_bl 0 b ++ graph.Exit ∷ [])
    (is_edges : map edge_of es ≡ edges_bl 0 b (widths b)) (is_heads : hs ≡ heads_bl 0 b) where
  abbrev Built : ControlGraph
  Built = graph_with v (map point_of vs) (map edge_of es) hs

  pub built : Built ≡ graph_of (nameless p)
  built =
      graph_parts _ _ _ _ _ _ _ _ is_vars
      (is_points ∙ ap (λ (x : Block). points_bl 0 x ++ graph.Exit ∷ []) is_body ∙ sym (program_points (nameless p)))
      (is_edges ∙ ap (λ (x : Block). edges_bl 0 x (widths x)) is_body ∙ sym (program_edges (nameless p)))
      (is_heads ∙ ap (λ (x : Block). heads_bl 0 x) is_body ∙ sym (program_heads (nameless p)))

  pub built_keeps : IsControlGraph Built
  built_keeps = subst IsControlGraph (sym built) (graph_of_program p k.within)

  pub built_statements : (q n : ℕ) (s : State) → slice_get (map point_of vs) q ≡ Some (graph.Statement n)
      → Reaches Built q s ↔ VisitsStatement (nameless p) n s
  built_statements =
      subst (λ (G : ControlGraph). (q n : ℕ) (s : State) → slice_get G.points q ≡ Some (graph.Statement n) → Reaches G
      q s ↔ VisitsStatement (nameless p) n s)
      (sym built) (walks_are_visits_of_statements (nameless p))

  pub built_exit : (q : ℕ) (s : State) → slice_get (map point_of vs) q ≡ Some graph.Exit
      → Reaches Built q s ↔ VisitsEnd (nameless p) s
  built_exit =
      subst (λ (G : ControlGraph). (q : ℕ) (s : State) → slice_get G.points q ≡ Some graph.Exit → Reaches G q s ↔
      VisitsEnd (nameless p) s)
      (sym built) (walks_are_visits_of_the_end (nameless p))

  pub built_few : length es ≤ 65536
  built_few = omega (arith, built_keeps.edges, length-map es edge_of)

  pub built_joins : (n : ℕ) → n ≡ length vs → All (λ (e : Edge). e.to < n) es
  built_joins n m = λ i d l.
      let same = get_or-map edge_of es i d (edge_of d) l in
      let joins = built_keeps.joins i (edge_of d) (omega (arith, l, length-map es edge_of)) in
      let to = ap (λ (e : theory.Edge). e.to) same in
      omega (arith, joins.1, to, m, length-map vs point_of)

  pub built_graph : (n : ℕ) (into : List (List ℕ)) → n ≡ length vs → AreInto into n (targets es) → IsGraph Built into
  built_graph n into m h = record {
    keeps = built_keeps;
    into =
        subst (λ (x : List ℕ). AreInto into (length (map point_of vs)) x) (sym (targets-edges es))
        (subst (λ (x : ℕ). AreInto into x (targets es)) (m ∙ sym (length-map vs point_of)) h);
  }
