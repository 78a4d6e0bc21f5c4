-- What holds of each variable and term of a program holds of each variable and term of its edges: so their operations
-- are on its variables.
use Rattle.std.proofs.Common.{◌≡◌, ⊎_elim, ℕ, ◌+◌, Option, Some, None, sym, ap, subst, Contains}
use Rattle.std.proofs.lemmas.List.Elements.{Contains-append_cases}
use Rattle.prog_theory.specs.States.{Term}
use Rattle.prog_theory.specs.Conditions.{Cmp, Le, Lt, Ge, Gt, Eq, Ne, Cond, Any, Atom, Not, And, Or}
use Rattle.prog_theory.specs.Statements.{Stmt, Set, Havoc, Assume, Assert, If, While, Skip, Block, Empty, Then, Program}
use Rattle.prog_theory.specs.Numbering.{count, counts}
use Rattle.prog_theory.specs.Tests.{Test, Choice, Guard, Negated, Both, Either, above, comparison, inner, test}
use Rattle.prog_theory.specs.Edges.{Op, Skips, Sets, Havocs, Guards, Edge, edge_to, test_edges}
use Rattle.prog_theory.specs.Each.{EachTerm, EachStmt, EachBlock, EachOp}
use Rattle.prog_theory.specs.Fits.{FitsTerm, IsVariable, FitEdges, FitsStmt, FitsProgram}
use Rattle.prog_theory.specs.Places.{Place, places, places_of, width, widths, entry}
use Rattle.prog_theory.specs.Graph.{own_edges, edges, program_places}
use Rattle.prog_theory.proofs.Elements.{Contains-none}
use Rattle.prog_theory.proofs.TestExits.{edge_to_is}
use Rattle.prog_theory.proofs.Extents.{If_cases, While_cases, Then_cases, only}
use Rattle.prog_theory.proofs.Graphs.{edge_place}

module _ (V : ℕ → Type 0) (T U : Term → Type 0) (same : (t : Term) → T t → U t) (more : (t : Term) → T t → U (above t))
  where
    abbrev FitsTest : Test → Type 0
    FitsTest Choice = Unit {0}
    FitsTest (Guard l r) = U l × T r
    FitsTest (Negated a) = FitsTest a
    FitsTest (Both a b) = FitsTest a × FitsTest b
    FitsTest (Either a b) = FitsTest a × FitsTest b

    comparison_fits : (c : Cmp) (p q : Term) → T p → T q → FitsTest (comparison c p q)
    comparison_fits Le p q f g = (same p f, g)
    comparison_fits Lt p q f g = (more p f, g)
    comparison_fits Ge p q f g = (same q g, f)
    comparison_fits Gt p q f g = (more q g, f)
    comparison_fits Eq p q f g = ((same p f, g), (same q g, f))
    comparison_fits Ne p q f g = ((same p f, g), (same q g, f))

    test_fits : (c : Cond) → EachTerm T c → FitsTest (test c)
    test_fits Any f = tt
    test_fits (Atom l c r) f = comparison_fits c l r f.0 f.1
    test_fits (Not a) f = test_fits a f
    test_fits (And a b) f = (test_fits a f.0, test_fits b f.1)
    test_fits (Or a b) f = (test_fits a f.0, test_fits b f.1)

    target_fits : (p : ℕ) (op : Op) (o : Option ℕ) (e : Edge) → EachOp V U op → Contains (edge_to p op o) e
        → EachOp V U e.op
    target_fits p op o e f c = subst (EachOp V U) (sym (edge_to_is p op o e c).op) f

    edges_of_test_fit : (t : Test) → FitsTest t → (p m : ℕ) (hit miss : Option ℕ) (e : Edge)
        → Contains (test_edges t p m hit miss) e → EachOp V U e.op
    edges_of_test_fit Choice f p m hit miss e c = ⊎_elim (target_fits p Skips hit e tt) (target_fits p Skips miss e tt)
        (Contains-append_cases (edge_to p Skips hit) (edge_to p Skips miss) e c)
    edges_of_test_fit (Guard l r) f p m hit miss e c =
        ⊎_elim (target_fits p (Guards l r) hit e (f.0, same r f.1))
        (target_fits p (Guards (above r) l) miss e (more r f.1, f.0))
        (Contains-append_cases (edge_to p (Guards l r) hit) (edge_to p (Guards (above r) l) miss) e c)
    edges_of_test_fit (Negated a) f p m hit miss e c = edges_of_test_fit a f p m miss hit e c
    edges_of_test_fit (Both a b) f p m hit miss e c =
        ⊎_elim (edges_of_test_fit a f.0 p m (Some (m + inner a)) miss e)
        (edges_of_test_fit b f.1 (m + inner a) (m + inner a + 1) hit miss e)
        (Contains-append_cases (test_edges a p m (Some (m + inner a)) miss)
        (test_edges b (m + inner a) (m + inner a + 1) hit miss) e c)
    edges_of_test_fit (Either a b) f p m hit miss e c =
        ⊎_elim (edges_of_test_fit a f.0 p m hit (Some (m + inner a)) e)
        (edges_of_test_fit b f.1 (m + inner a) (m + inner a + 1) hit miss e)
        (Contains-append_cases (test_edges a p m hit (Some (m + inner a)))
        (test_edges b (m + inner a) (m + inner a + 1) hit miss) e c)

    own_edges_fit : (st : Stmt) → EachStmt V T st → (p next : ℕ) (e : Edge) → Contains (own_edges p st next) e
        → EachOp V U e.op
    own_edges_fit (Set x t) f p next e c = target_fits p (Sets x t) (Some next) e (f.0, same t f.1) c
    own_edges_fit (Havoc x) f p next e c = target_fits p (Havocs x) (Some next) e f c
    own_edges_fit (Assert a) f p next e c = target_fits p Skips (Some next) e tt c
    own_edges_fit Skip f p next e c = target_fits p Skips (Some next) e tt c
    own_edges_fit (Assume t) f p next e c = edges_of_test_fit (test t) (test_fits t f) p (p + 1) (Some next) None e c
    own_edges_fit (If t a b) f p next e c =
        edges_of_test_fit (test t) (test_fits t f.0) p (p + 1) (Some (entry (p + 1 + inner (test t)) a next))
        (Some (entry (p + 1 + inner (test t) + widths a) b next)) e c
    own_edges_fit (While t a) f p next e c = edges_of_test_fit (test t) (test_fits t f.0) p (p + 1)
        (Some (entry (p + 1 + inner (test t)) a p)) (Some next) e c

module _ (V : ℕ → Type 0) (T : Term → Type 0) where
  -- what holds of each part of the program holds of the statement at each place
  here_fits : (st : Stmt) (p k next : ℕ) (l : Place) → EachStmt V T st
      → l ≡ record { point = p; number = k; stmt = st; next = next } → EachStmt V T l.stmt
  here_fits st p k next l f e = subst (EachStmt V T) (sym (ap (λ (x : Place). x.stmt) e)) f

  mutual
    places_fit : (st : Stmt) (p k next : ℕ) → EachStmt V T st → (l : Place) → Contains (places p k st next) l
        → EachStmt V T l.stmt
    places_fit (If c a b) p k next f l d =
        ⊎_elim (here_fits (If c a b) p k next l f)
        (λ g. ⊎_elim (block_fits a (p + 1 + inner (test c)) (k + 1) next f.1 l)
        (block_fits b (p + 1 + inner (test c) + widths a) (k + 1 + counts a) next f.2 l) g)
        (If_cases p k c a b next l d)
    places_fit (While c a) p k next f l d = ⊎_elim (here_fits (While c a) p k next l f)
        (block_fits a (p + 1 + inner (test c)) (k + 1) p f.1 l) (While_cases p k c a next l d)
    places_fit (Set x t) p k next f l d = here_fits (Set x t) p k next l f (only _ l d)
    places_fit (Havoc x) p k next f l d = here_fits (Havoc x) p k next l f (only _ l d)
    places_fit (Assume c) p k next f l d = here_fits (Assume c) p k next l f (only _ l d)
    places_fit (Assert c) p k next f l d = here_fits (Assert c) p k next l f (only _ l d)
    places_fit Skip p k next f l d = here_fits Skip p k next l f (only _ l d)

    block_fits : (b : Block) (p k next : ℕ) → EachBlock V T b → (l : Place) → Contains (places_of p k b next) l
        → EachStmt V T l.stmt
    block_fits Empty p k next f l d = absurd (Contains-none l d)
    block_fits (Then st b) p k next f l d =
        ⊎_elim (places_fit st p k (entry (p + width st) b next) f.0 l)
        (block_fits b (p + width st) (k + count st) next f.1 l) (Then_cases p k st b next l d)

module _ (P : Program) (V : ℕ → Type 0) (T : Term → Type 0) (each : EachBlock V T P.body) where
  pub each_statement : (l : Place) → Contains (program_places P) l → EachStmt V T l.stmt
  each_statement l c = block_fits V T P.body 0 0 (widths P.body) each l c

  pub each_edge : (U : Term → Type 0) → ((t : Term) → T t → U t) → ((t : Term) → T t → U (above t)) → (e : Edge)
      → Contains (edges P) e
      → EachOp V U e.op
  each_edge U same more e c =
      let m = edge_place (program_places P) e c in
      own_edges_fit V T U same more m.0.stmt (each_statement m.0 m.1) m.0.point m.0.next e m.2

module _ (P : Program) (fits : FitsProgram P) where
  pub statements_fit : (l : Place) → Contains (program_places P) l → FitsStmt P.vars l.stmt
  statements_fit = each_statement P (IsVariable P.vars) (FitsTerm P.vars) fits

  pub edges_fit : FitEdges P.vars (edges P)
  edges_fit = each_edge P (IsVariable P.vars) (FitsTerm P.vars) fits (FitsTerm P.vars) (λ t f. f) (λ t f. f)
