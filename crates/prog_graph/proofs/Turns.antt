-- One turn of the loop over the statements of a block.
use Rattle.std.proofs.Common.{◌≡◌, ℕ, zero, suc, ◌+◌, ◌<◌, List, [], ◌∷◌, ◌++◌, length, drop, get_or, refl, sym, ap, ◌∙◌, subst, append_assoc, arith}
use Rattle.prog_theory.specs.Edges.{Edge}
use Rattle.prog_theory.specs.Places.{width, widths, entry}
use Rattle.prog_tree.specs.declared.block.Stmt.{Stmt}
use Rattle.prog_tree.specs.Stmts.{stmt_of, block_of}
use Rattle.prog_theory.specs.Each.{EachBlock}
use Rattle.prog_graph.specs.Modest.{IsModest, IsAnything}
use Rattle.prog_graph.specs.TreeParts.{edges_st, edges_bl}

drop_suc : (xs : List Stmt) (i : ℕ) (st : Stmt) → i < length xs → st ≡ get_or xs i st → drop i xs ≡ st ∷ drop (suc i) xs
drop_suc [] i st h e = absurd (omega arith)
drop_suc (x ∷ xs) zero st h e = ap (λ (y : Stmt). y ∷ xs) (sym e)
drop_suc (x ∷ xs) (suc i) st h e = drop_suc xs i st (omega arith) e

pub drop_next : (xs : List Stmt) (i j : ℕ) (st : Stmt) → j ≡ i + 1 → i < length xs → st ≡ get_or xs i st → drop i xs ≡
    st ∷ drop j xs
drop_next xs i j st f h e =
    let same : suc i ≡ j = omega arith in subst (λ (k : ℕ). drop i xs ≡ st ∷ drop k xs) same (drop_suc xs i st h e)

pub entry_end : (xs : List Stmt) (i at next : ℕ) → i ≡ length xs → entry at (block_of (drop i xs)) next ≡ next
entry_end [] zero at next h = refl
entry_end [] (suc i) at next h = absurd (omega arith)
entry_end (x ∷ xs) zero at next h = absurd (omega arith)
entry_end (x ∷ xs) (suc i) at next h = entry_end xs i at next (omega arith)

pub entry_more : (xs : List Stmt) (i at next : ℕ) → i < length xs → entry at (block_of (drop i xs)) next ≡ at
entry_more [] i at next h = absurd (omega arith)
entry_more (x ∷ xs) zero at next h = refl
entry_more (x ∷ xs) (suc i) at next h = entry_more xs i at next (omega arith)

-- what the loop keeps of the edges
pub turn_edges : (xs ys : List Stmt) (st : Stmt) (at next follow w : ℕ) (before after all : List Edge) → xs ≡ st ∷ ys →
    w ≡ width (stmt_of st) → follow ≡ entry (at + w) (block_of ys) next → before ++ edges_bl at (block_of xs) next ≡
    all → after ≡ before ++ edges_st at (stmt_of st) follow → after ++ edges_bl (at + w) (block_of ys) next ≡ all
turn_edges xs ys st at next follow w before after all e f g h k =
    let whole : before ++ edges_bl at (block_of (st ∷ ys)) next ≡ all = subst
    (λ (z : List Stmt). before ++ edges_bl at (block_of z) next ≡ all) e h in
    let wide : before ++ (edges_st at (stmt_of st) (entry (at + w) (block_of ys) next) ++ edges_bl (at + w)
    (block_of ys) next) ≡ all =
    subst (λ (z : ℕ). before ++ (edges_st at (stmt_of st) (entry (at + z) (block_of ys) next) ++ edges_bl (at + z)
    (block_of ys) next) ≡ all) (sym f) whole in
    let next_is : before ++ (edges_st at (stmt_of st) follow ++ edges_bl (at + w) (block_of ys) next) ≡ all =
    subst (λ (z : ℕ). before ++ (edges_st at (stmt_of st) z ++ edges_bl (at + w) (block_of ys) next) ≡ all) (sym g)
    wide in
    ap (λ (z : List Edge). z ++ edges_bl (at + w) (block_of ys) next) k ∙ append_assoc before
    (edges_st at (stmt_of st) follow) (edges_bl (at + w) (block_of ys) next) ∙ next_is

pub turn_width : (xs ys : List Stmt) (st : Stmt) (at w total : ℕ) → xs ≡ st ∷ ys → w ≡ width (stmt_of st) → at + widths
    (block_of xs) ≡ total → at + w + widths (block_of ys) ≡ total
turn_width xs ys st at w total e f h =
    let whole : at + widths (block_of (st ∷ ys)) ≡ total = subst (λ (z : List Stmt). at + widths (block_of z) ≡ total)
    e h in omega arith

pub turn_modest : (xs ys : List Stmt) (st : Stmt) → xs ≡ st ∷ ys → EachBlock IsAnything IsModest (block_of xs) →
    EachBlock IsAnything IsModest (block_of ys)
turn_modest xs ys st e h = let both = subst (λ (z : List Stmt). EachBlock IsAnything IsModest (block_of z)) e h in
    both.1
