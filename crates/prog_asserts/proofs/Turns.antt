-- One turn of the loop over points.
use Rattle.std.proofs.Common.{◌≡◌, ℕ, ◌+◌, ◌<◌, ◌≤◌, List, [], ◌∷◌, ◌++◌, map, length, drop, get_or, refl, sym, ap, ◌∙◌, append_assoc, arith}
use Rattle.std.specs.Borrow.{Bor}
use Rattle.std.proofs.lemmas.List.{drop_more, length-map}
use Rattle.std.proofs.lemmas.Option.{slice_get_past}
use Rattle.prog_tree.specs.declared.block.Stmt.{Stmt}
use Rattle.prog_tree.specs.Stmts.{stmt_of}
use Rattle.prog_theory.specs.Statements as tree
use Rattle.prog_theory.specs.Graph as graph
use Rattle.prog_graph.specs.declared.parts.Point.{Point}
use Rattle.prog_graph.specs.declared.parts.Point.TheVariants.{Statement}
use Rattle.prog_graph.specs.Views.{point_of}
use Rattle.cone_reports.specs.Asserts.{Assertion}
use Rattle.prog_asserts.specs.Listed.{shown, asserts_at, asserts_here, asserts_along}

first_then : (p : ℕ) (x : graph.Point) (ps : List graph.Point) (sts : List tree.Stmt)
    → asserts_along p (x ∷ ps) sts ≡ asserts_here p x sts ++ asserts_along (p + 1) ps sts
first_then p (graph.Statement k) ps sts = refl
first_then p graph.Inner ps sts = refl
first_then p graph.Exit ps sts = refl

-- what was taken, the asserts of the next point, and the rest
pub along_more : (ps : List Point) (i : ℕ) (d : Point) (sts : List tree.Stmt) (before after all : List Assertion)
    → i < length ps → before ++ asserts_along i (map point_of (drop i ps)) sts ≡ all
    → after ≡ before ++ asserts_here i (point_of (get_or ps i d)) sts
    → after ++ asserts_along (i + 1) (map point_of (drop (i + 1) ps)) sts ≡ all
along_more ps i d sts before after all h f g =
    let x = get_or ps i d in
    let step : drop i ps ≡ x ∷ drop (i + 1) ps = drop_more ps i d h in
    ap (λ (z : List Assertion). z ++ asserts_along (i + 1) (map point_of (drop (i + 1) ps)) sts) g
    ∙ append_assoc before (asserts_here i (point_of x) sts) (asserts_along (i + 1) (map point_of (drop (i + 1) ps)) sts)
    ∙ ap (λ (z : List Assertion). before ++ z) (sym (first_then i (point_of x) (map point_of (drop (i + 1) ps)) sts))
    ∙ ap (λ (z : List Point). before ++ asserts_along i (map point_of z) sts) (sym step) ∙ f

-- no statement has the number
pub none_here : (p k : ℕ) (x : Point) (sts : List (Bor Stmt)) → x ≡ Statement k → length sts ≤ k
    → asserts_here p (point_of x) (shown sts) ≡ []
none_here p k x sts e h =
    ap (λ (z : Point). asserts_here p (point_of z) (shown sts)) e
    ∙ ap (asserts_at p k) (slice_get_past (shown sts) k
    (omega (arith, h, length-map sts (λ (s : Bor Stmt). stmt_of s.now))))
