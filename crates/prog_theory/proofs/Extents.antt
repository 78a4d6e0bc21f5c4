-- Each statement takes an unbroken stretch of points, and where its edges lead: on within it, to its own point where it
-- is a loop, or to what follows it.
-- Index: own_width, If_cases, While_cases, only, Then_cases, LiesIn, stmt_extent, block_extent, entry_cases,
-- test_targets, LeadsTo, own_leads, Clear, clear_at, own_clear.
use Rattle.std.proofs.Common.{◌≡◌, ℕ, ◌+◌, ◌<◌, ◌≤◌, ◌⊎◌, inl, inr, ⊎_elim, [], ◌∷◌, ◌++◌, Option, Some, None, refl, sym, ap, ◌∙◌, subst, arith, Contains}
use Rattle.std.proofs.lemmas.List.Elements.{Contains-append_cases}
use Rattle.prog_theory.specs.Statements.{Stmt, Set, Havoc, Assume, Assert, If, While, Skip, Block, Empty, Then}
use Rattle.prog_theory.specs.Numbering.{count, counts}
use Rattle.prog_theory.specs.Tests.{Test, Choice, Guard, Negated, Both, Either, above, inner, test}
use Rattle.prog_theory.specs.Edges.{Skips, Sets, Havocs, Guards, Edge, edge_to, test_edges}
use Rattle.prog_theory.specs.Places.{own_inner, width, widths, entry, Place, places, places_of}
use Rattle.prog_theory.specs.Graph.{own_edges}
use Rattle.prog_theory.specs.Heads.{own_heads}
use Rattle.prog_theory.proofs.Elements.{Contains-cases, Contains-none, Contains-here}
use Rattle.prog_theory.proofs.TestExits.{edge_to_is, test_sources}

pub own_width : (st : Stmt) → 1 + own_inner st ≤ width st
own_width (Set x t) = omega arith
own_width (Havoc x) = omega arith
own_width (Assume c) = omega arith
own_width (Assert c) = omega arith
own_width (If c a b) = omega arith
own_width (While c a) = omega arith
own_width Skip = omega arith

-- the place of the statement itself, or one within it
pub If_cases : (p k : ℕ) (c : _) (a b : Block) (next : ℕ) (l : Place) → Contains (places p k (If c a b) next) l
    → (l ≡ record { point = p; number = k; stmt = If c a b; next = next }) ⊎
    (Contains (places_of (p + 1 + inner (test c)) (k + 1) a next) l ⊎ Contains
    (places_of (p + 1 + inner (test c) + widths a) (k + 1 + counts a) b next) l)
If_cases p k c a b next l h =
    ⊎_elim
    (λ e. inl e)
    (λ d. inr (Contains-append_cases (places_of (p + 1 + inner (test c)) (k + 1) a next)
    (places_of (p + 1 + inner (test c) + widths a) (k + 1 + counts a) b next) l d))
    (Contains-cases _ (places_of (p + 1 + inner (test c)) (k + 1) a next ++ places_of
    (p + 1 + inner (test c) + widths a) (k + 1 + counts a) b next) l h)

pub While_cases : (p k : ℕ) (c : _) (a : Block) (next : ℕ) (l : Place) → Contains (places p k (While c a) next) l
    → (l ≡ record { point = p; number = k; stmt = While c a; next = next }) ⊎ Contains
    (places_of (p + 1 + inner (test c)) (k + 1) a p) l
While_cases p k c a next l h = Contains-cases _ (places_of (p + 1 + inner (test c)) (k + 1) a p) l h

pub only : (x l : Place) → Contains (x ∷ []) l → l ≡ x
only x l h = ⊎_elim (λ e. e) (λ d. absurd (Contains-none l d)) (Contains-cases x [] l h)

pub Then_cases : (p k : ℕ) (st : Stmt) (b : Block) (next : ℕ) (l : Place) → Contains (places_of p k (Then st b) next) l
    → Contains (places p k st (entry (p + width st) b next)) l ⊎ Contains
    (places_of (p + width st) (k + count st) b next) l
Then_cases p k st b next l h =
    Contains-append_cases (places p k st (entry (p + width st) b next))
    (places_of (p + width st) (k + count st) b next) l h

-- the stretch of the place l lies in that of w points from p
pub record LiesIn (p w : ℕ) (l : Place) : Type 0 where
  pub from : p ≤ l.point
  pub to : l.point + width l.stmt ≤ p + w

itself : (p k : ℕ) (st : Stmt) (next : ℕ) (l : Place) → l ≡ record { point = p; number = k; stmt = st; next = next }
    → LiesIn p (width st) l
itself p k st next l e =
    let x : l.point ≡ p = ap (λ (v : Place). v.point) e in
    let y : width l.stmt ≡ width st = ap (λ (v : Place). width v.stmt) e in
    record { from = omega arith; to = omega arith }

wider : (p w q v : ℕ) (l : Place) → q ≤ p → p + w ≤ q + v → LiesIn p w l → LiesIn q v l
wider p w q v l a b h = record { from = omega (arith, h.from); to = omega (arith, h.to) }

mutual
  pub stmt_extent : (st : Stmt) (p k next : ℕ) (l : Place) → Contains (places p k st next) l → LiesIn p (width st) l
  stmt_extent (If c a b) p k next l h =
      ⊎_elim
      (λ e. itself p k (If c a b) next l e)
      (λ d. ⊎_elim
      (λ i. wider (p + 1 + inner (test c)) (widths a) p (width (If c a b)) l (omega arith) (omega arith)
      (block_extent a (p + 1 + inner (test c)) (k + 1) next l i))
      (λ i. wider (p + 1 + inner (test c) + widths a) (widths b) p (width (If c a b)) l (omega arith) (omega arith)
      (block_extent b (p + 1 + inner (test c) + widths a) (k + 1 + counts a) next l i))
      d)
      (If_cases p k c a b next l h)
  stmt_extent (While c a) p k next l h =
      ⊎_elim
      (λ e. itself p k (While c a) next l e)
      (λ i. wider (p + 1 + inner (test c)) (widths a) p (width (While c a)) l (omega arith) (omega arith)
      (block_extent a (p + 1 + inner (test c)) (k + 1) p l i))
      (While_cases p k c a next l h)
  stmt_extent (Set x t) p k next l h = itself p k (Set x t) next l (only _ l h)
  stmt_extent (Havoc x) p k next l h = itself p k (Havoc x) next l (only _ l h)
  stmt_extent (Assume c) p k next l h = itself p k (Assume c) next l (only _ l h)
  stmt_extent (Assert c) p k next l h = itself p k (Assert c) next l (only _ l h)
  stmt_extent Skip p k next l h = itself p k Skip next l (only _ l h)

  pub block_extent : (b : Block) (p k next : ℕ) (l : Place) → Contains (places_of p k b next) l → LiesIn p (widths b) l
  block_extent Empty p k next l h = absurd (Contains-none l h)
  block_extent (Then st b) p k next l h =
      ⊎_elim
      (λ i. wider p (width st) p (widths (Then st b)) l (omega arith) (omega arith)
      (stmt_extent st p k (entry (p + width st) b next) l i))
      (λ i. wider (p + width st) (widths b) p (widths (Then st b)) l (omega arith) (omega arith)
      (block_extent b (p + width st) (k + count st) next l i))
      (Then_cases p k st b next l h)

-- where a block begins, or what follows it where it is empty
pub entry_cases : (b : Block) (q next : ℕ) → (entry q b next ≡ next) ⊎ ((entry q b next ≡ q) × (0 < widths b))
entry_cases Empty q next = inl refl
entry_cases (Then st b) q next = let w = own_width st in inr (refl, omega arith)

-- an edge of a test leads to one of its targets, or on to an inner point
pub test_targets : (t : Test) (f m : ℕ) (hit miss : Option ℕ) → f < m → (e : Edge)
    → Contains (test_edges t f m hit miss) e
    → (hit ≡ Some e.to) ⊎ ((miss ≡ Some e.to) ⊎ ((m ≤ e.to) × (e.to < m + inner t) × (e.from < e.to)))
test_targets Choice f m hit miss l e h =
    ⊎_elim (λ i. inl (edge_to_is f Skips hit e i).to) (λ i. inr (inl (edge_to_is f Skips miss e i).to))
    (Contains-append_cases (edge_to f Skips hit) (edge_to f Skips miss) e h)
test_targets (Guard p q) f m hit miss l e h =
    ⊎_elim (λ i. inl (edge_to_is f (Guards p q) hit e i).to)
    (λ i. inr (inl (edge_to_is f (Guards (above q) p) miss e i).to))
    (Contains-append_cases (edge_to f (Guards p q) hit) (edge_to f (Guards (above q) p) miss) e h)
test_targets (Negated a) f m hit miss l e h =
    ⊎_elim (λ i. inr (inl i)) (λ i. ⊎_elim (λ j. inl j) (λ j. inr (inr j)) i) (test_targets a f m miss hit l e h)
test_targets (Both a b) f m hit miss l e h =
    ⊎_elim
    (λ i. ⊎_elim
    (λ j. let x : m + inner a ≡ e.to = cc in let s = test_sources a f m (Some (m + inner a)) miss e i in
    inr (inr (omega arith, omega arith, ⊎_elim (λ k. omega arith) (λ k. omega (arith, k.1)) s)))
    (λ j. ⊎_elim (λ k. inr (inl k)) (λ k. inr (inr (k.0, omega (arith, k.1), k.2))) j)
    (test_targets a f m (Some (m + inner a)) miss l e i))
    (λ i. ⊎_elim (λ j. inl j) (λ j. ⊎_elim (λ k. inr (inl k))
    (λ k. inr (inr (omega (arith, k.0), omega (arith, k.1), k.2))) j)
    (test_targets b (m + inner a) (m + inner a + 1) hit miss (omega arith) e i))
    (Contains-append_cases (test_edges a f m (Some (m + inner a)) miss)
    (test_edges b (m + inner a) (m + inner a + 1) hit miss) e h)
test_targets (Either a b) f m hit miss l e h =
    ⊎_elim
    (λ i. ⊎_elim
    (λ j. inl j)
    (λ j. ⊎_elim
    (λ k. let x : m + inner a ≡ e.to = cc in let s = test_sources a f m hit (Some (m + inner a)) e i in
    inr (inr (omega arith, omega arith, ⊎_elim (λ g. omega arith) (λ g. omega (arith, g.1)) s)))
    (λ k. inr (inr (k.0, omega (arith, k.1), k.2))) j)
    (test_targets a f m hit (Some (m + inner a)) l e i))
    (λ i. ⊎_elim (λ j. inl j) (λ j. ⊎_elim (λ k. inr (inl k))
    (λ k. inr (inr (omega (arith, k.0), omega (arith, k.1), k.2))) j)
    (test_targets b (m + inner a) (m + inner a + 1) hit miss (omega arith) e i))
    (Contains-append_cases (test_edges a f m hit (Some (m + inner a)))
    (test_edges b (m + inner a) (m + inner a + 1) hit miss) e h)

-- An edge of a statement leads to what follows the statement, to the statement itself where it is a loop, or on: to an
-- inner point or to where a block of it begins.
pub data LeadsTo (p : ℕ) (st : Stmt) (next : ℕ) (e : Edge) : Type 0 where
  follows : e.to ≡ next → LeadsTo p st next e
  returns : Contains (own_heads p st) e.to → e.to ≡ p → LeadsTo p st next e
  goes_on : p < e.to → e.to < p + width st → e.from < e.to → LeadsTo p st next e

pub own_leads : (st : Stmt) (p next : ℕ) (e : Edge) → Contains (own_edges p st next) e → LeadsTo p st next e
own_leads (Set x t) p next e h = let i = edge_to_is p (Sets x t) (Some next) e h in let to : next ≡ e.to = cc in
    follows (sym to)
own_leads (Havoc x) p next e h = let i = edge_to_is p (Havocs x) (Some next) e h in let to : next ≡ e.to = cc in
    follows (sym to)
own_leads (Assert a) p next e h = let i = edge_to_is p Skips (Some next) e h in let to : next ≡ e.to = cc in follows
    (sym to)
own_leads Skip p next e h = let i = edge_to_is p Skips (Some next) e h in let to : next ≡ e.to = cc in follows (sym to)
own_leads (Assume c) p next e h =
    ⊎_elim
    (λ i. let to : next ≡ e.to = cc in follows (sym to))
    (λ i. ⊎_elim (λ j. cc) (λ j. goes_on (omega (arith, j.0)) (omega (arith, j.1)) j.2) i)
    (test_targets (test c) p (p + 1) (Some next) None (omega arith) e h)
own_leads (If c a b) p next e h =
    let s = test_sources (test c) p (p + 1) (Some (entry (p + 1 + inner (test c)) a next))
    (Some (entry (p + 1 + inner (test c) + widths a) b next)) e h in
    let low : e.from < p + 1 + inner (test c) = ⊎_elim (λ k. omega arith) (λ k. omega (arith, k.1)) s in
    ⊎_elim
    (λ i. let to : entry (p + 1 + inner (test c)) a next ≡ e.to = cc in
    ⊎_elim (λ j. follows (sym to ∙ j)) (λ j. goes_on (omega (arith, j.0)) (omega (arith, j.0, j.1))
    (omega (arith, j.0)))
    (entry_cases a (p + 1 + inner (test c)) next))
    (λ i. ⊎_elim
    (λ j. let to : entry (p + 1 + inner (test c) + widths a) b next ≡ e.to = cc in
    ⊎_elim (λ g. follows (sym to ∙ g)) (λ g. goes_on (omega (arith, g.0)) (omega (arith, g.0, g.1))
    (omega (arith, g.0)))
    (entry_cases b (p + 1 + inner (test c) + widths a) next))
    (λ j. goes_on (omega (arith, j.0)) (omega (arith, j.1)) j.2) i)
    (test_targets (test c) p (p + 1) (Some (entry (p + 1 + inner (test c)) a next))
    (Some (entry (p + 1 + inner (test c) + widths a) b next)) (omega arith) e h)
own_leads (While c a) p next e h =
    let s = test_sources (test c) p (p + 1) (Some (entry (p + 1 + inner (test c)) a p)) (Some next) e h in
    let low : e.from < p + 1 + inner (test c) = ⊎_elim (λ k. omega arith) (λ k. omega (arith, k.1)) s in
    ⊎_elim
    (λ i. let to : entry (p + 1 + inner (test c)) a p ≡ e.to = cc in
    ⊎_elim
    (λ j. let back : e.to ≡ p = sym to ∙ j in returns (subst (λ (x : ℕ). Contains (p ∷ []) x) (sym back)
    (Contains-here p [])) back)
    (λ j. goes_on (omega (arith, j.0)) (omega (arith, j.0, j.1)) (omega (arith, j.0)))
    (entry_cases a (p + 1 + inner (test c)) p))
    (λ i. ⊎_elim
    (λ j. let to : next ≡ e.to = cc in follows (sym to))
    (λ j. goes_on (omega (arith, j.0)) (omega (arith, j.1)) j.2) i)
    (test_targets (test c) p (p + 1) (Some (entry (p + 1 + inner (test c)) a p)) (Some next) (omega arith) e h)

-- the point x is not within the stretch of l, but it may be the point of l
abbrev pub Clear : Place → ℕ → Type 0
Clear l x = (x ≤ l.point) ⊎ (l.point + width l.stmt ≤ x)

pub clear_at : (l : Place) (x y : ℕ) → x ≡ y → Clear l y → Clear l x
clear_at l x y e h = ⊎_elim (λ i. inl (omega arith)) (λ i. inr (omega arith)) h

-- an edge of a statement leads into no statement within it but to its point
pub own_clear : (st : Stmt) (p k next : ℕ) (e : Edge) → Contains (own_edges p st next) e → (l : Place)
    → Contains (places p k st next) l → p < l.point → Clear l next → Clear l e.to
own_clear (If c a b) p k next e h l d gt out =
    ⊎_elim
    (λ i. let x : l.point ≡ p = ap (λ (v : Place). v.point) i in absurd (omega arith))
    (λ parts. ⊎_elim
    (λ i. let to : entry (p + 1 + inner (test c)) a next ≡ e.to = cc in
    ⊎_elim (λ j. clear_at l e.to next (sym to ∙ j) out) (λ j. ⊎_elim
    (λ g. let r = block_extent a (p + 1 + inner (test c)) (k + 1) next l g in inl (omega (arith, j.0, r.from)))
    (λ g. let r = block_extent b (p + 1 + inner (test c) + widths a) (k + 1 + counts a) next l g in inl
    (omega (arith, j.0, r.from))) parts)
    (entry_cases a (p + 1 + inner (test c)) next))
    (λ i. ⊎_elim
    (λ j. let to : entry (p + 1 + inner (test c) + widths a) b next ≡ e.to = cc in
    ⊎_elim (λ g. clear_at l e.to next (sym to ∙ g) out) (λ g. ⊎_elim
    (λ f. let r = block_extent a (p + 1 + inner (test c)) (k + 1) next l f in inr (omega (arith, g.0, r.to)))
    (λ f. let r = block_extent b (p + 1 + inner (test c) + widths a) (k + 1 + counts a) next l f in inl
    (omega (arith, g.0, r.from))) parts)
    (entry_cases b (p + 1 + inner (test c) + widths a) next))
    (λ j. ⊎_elim
    (λ f. let r = block_extent a (p + 1 + inner (test c)) (k + 1) next l f in inl (omega (arith, j.1, r.from)))
    (λ f. let r = block_extent b (p + 1 + inner (test c) + widths a) (k + 1 + counts a) next l f in inl
    (omega (arith, j.1, r.from))) parts) i)
    (test_targets (test c) p (p + 1) (Some (entry (p + 1 + inner (test c)) a next))
    (Some (entry (p + 1 + inner (test c) + widths a) b next)) (omega arith) e h))
    (If_cases p k c a b next l d)
own_clear (While c a) p k next e h l d gt out =
    ⊎_elim
    (λ i. let x : l.point ≡ p = ap (λ (v : Place). v.point) i in absurd (omega arith))
    (λ f. let r = block_extent a (p + 1 + inner (test c)) (k + 1) p l f in ⊎_elim
    (λ i. let to : entry (p + 1 + inner (test c)) a p ≡ e.to = cc in
    ⊎_elim (λ j. inl (omega (arith, j))) (λ j. inl (omega (arith, j.0, r.from)))
    (entry_cases a (p + 1 + inner (test c)) p))
    (λ i. ⊎_elim
    (λ j. let to : next ≡ e.to = cc in clear_at l e.to next (sym to) out)
    (λ j. inl (omega (arith, j.1, r.from))) i)
    (test_targets (test c) p (p + 1) (Some (entry (p + 1 + inner (test c)) a p)) (Some next) (omega arith) e h))
    (While_cases p k c a next l d)
own_clear (Set x t) p k next e h l d gt out = let y = ap (λ (v : Place). v.point) (only _ l d) in absurd
    (omega (arith, y))
own_clear (Havoc x) p k next e h l d gt out = let y = ap (λ (v : Place). v.point) (only _ l d) in absurd
    (omega (arith, y))
own_clear (Assume c) p k next e h l d gt out = let y = ap (λ (v : Place). v.point) (only _ l d) in absurd
    (omega (arith, y))
own_clear (Assert c) p k next e h l d gt out = let y = ap (λ (v : Place). v.point) (only _ l d) in absurd
    (omega (arith, y))
own_clear Skip p k next e h l d gt out = let y = ap (λ (v : Place). v.point) (only _ l d) in absurd (omega (arith, y))
