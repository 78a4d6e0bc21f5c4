-- The lines of a body, taken one after another: what is so far, and that each body's lines are taken.
use Rattle.std.proofs.Common.{◌≡◌, ◌+◌, ◌&&◌, ℕ, suc, Bool, true, false, cond, Option, Some, None, List, [], ◌∷◌, ◌++◌, map, length, refl, sym, ap, ◌∙◌, append_assoc, append-nil, arith, eq-eqb, eqb-true}
use Rattle.std.specs.Prelude.{slice_get}
use Rattle.prog_theory.specs.Graph.{Point, Statement, Inner, Exit}
use Rattle.report_texts.specs.Lines.{Line, At, Unreachable, Row, Inv, Block, Each, block_lines, blocks_lines, judged_line}
use Rattle.report_texts.specs.Progress.{Place, Outside, Opened, Shut, InRows, InInvs, Judging, Progress, block, ending, same_point, is_label, is_number, moved}

-- ---- lists

pub and_parts : (a b : Bool) → (a && b) ≡ true → (a ≡ true) × (b ≡ true)
and_parts true true e = (refl, refl)
and_parts true false e = absurd cc
and_parts false b e = absurd cc

pub and_both : (a b : Bool) → a ≡ true → b ≡ true → (a && b) ≡ true
and_both true true p q = refl
and_both true false p q = q
and_both false b p q = p

-- the element behind a front
pub get_behind : {A : Type 0} (xs : List A) (y : A) (ys : List A) → slice_get (xs ++ y ∷ ys) (length xs) ≡ Some y
get_behind [] y ys = refl
get_behind (x ∷ xs) y ys = get_behind xs y ys

pub record HasNext {A : Type 0} (y : A) (left : List A) : Type 0 where
  pub others : List A
  pub is : left ≡ y ∷ others

pub next_is : {A : Type 0} (xs left : List A) (y : A) → slice_get (xs ++ left) (length xs) ≡ Some y → HasNext y left
next_is [] [] y e = absurd cc
next_is [] (z ∷ left) y e = let k : z ≡ y = cc in record { others = left; is = ap (λ u. u ∷ left) k }
next_is (x ∷ xs) left y e = next_is xs left y e

pub Each-append : {A : Type 0} (P : A → Type 0) (xs ys : List A) → Each P xs → Each P ys → Each P (xs ++ ys)
Each-append P [] ys h k = k
Each-append P (x ∷ xs) ys h k = (h.0, Each-append P xs ys h.1 k)

pub none_of : {A : Type 0} (xs : List A) → length xs ≡ 0 → xs ≡ []
none_of [] e = refl
none_of (x ∷ xs) e = absurd (omega (arith, e))

-- ---- points and numbers

point_is : (p q : Point) → same_point p q ≡ true → p ≡ q
point_is (Statement k) (Statement n) e = ap Statement (eqb-true k n e)
point_is (Statement k) Inner e = absurd cc
point_is (Statement k) Exit e = absurd cc
point_is Inner (Statement k) e = absurd cc
point_is Inner Inner e = refl
point_is Inner Exit e = absurd cc
point_is Exit (Statement k) e = absurd cc
point_is Exit Inner e = absurd cc
point_is Exit Exit e = refl

pub same_is : (p : Point) → same_point p p ≡ true
same_is (Statement k) = eq-eqb k k refl
same_is Inner = refl
same_is Exit = refl

pub label_is : (p : Point) (o : Option Point) → is_label p o ≡ true → o ≡ Some p
label_is p None e = absurd cc
label_is p (Some q) e = ap Some (sym (point_is p q e))

pub number_is : (n : ℕ) (o : Option ℕ) → is_number n o ≡ true → o ≡ Some n
number_is n None e = absurd cc
number_is n (Some k) e = ap Some (sym (eqb-true n k e))

-- ---- answers

pub record IsMoved {V : Type 0} (blocks : List (Block V)) (place : Option (Place V)) (s : Progress V) : Type 0 where
  pub to : Place V
  pub place_is : place ≡ Some to
  pub is : s ≡ record { blocks = blocks; place = to }

pub moved_is : {V : Type 0} (blocks : List (Block V)) (o : Option (Place V)) (s : Progress V) →
    moved blocks o ≡ Some s →
    IsMoved blocks o s
moved_is blocks None s e = absurd cc
moved_is blocks (Some place) s e = let k : record { blocks = blocks; place = place } ≡ s = cc in
    record { to = place; place_is = refl; is = sym k }

pub if_some : {A : Type 0} (b : Bool) (x y : A) → cond b (Some x) None ≡ Some y → (b ≡ true) × (x ≡ y)
if_some true x y e = (refl, cc)
if_some false x y e = absurd cc

pub if_more : {A : Type 0} (b : Bool) (o : Option A) (y : A) → cond b o None ≡ Some y → (b ≡ true) × (o ≡ Some y)
if_more true o y e = (refl, e)
if_more false o y e = absurd cc

-- ---- the lines so far

module _ {V : Type 0} where
  -- the lines of a block that is not ended, and verdicts
  abbrev pub open_lines : ℕ → Place V → List (Line V)
  open_lines k Outside = []
  open_lines k (Opened p) = At k p ∷ []
  open_lines k (Shut p) = At k p ∷ Unreachable ∷ []
  open_lines k (InRows p x rows) = At k p ∷ Row x ∷ map Row rows
  open_lines k (InInvs p x rows i invs) = At k p ∷ Row x ∷ (map Row rows ++ Inv i ∷ map Inv invs)
  open_lines k (Judging j js) = judged_line j ∷ map judged_line js

  abbrev pub so_far : Progress V → List (Line V)
  so_far s = blocks_lines 0 s.blocks ++ open_lines (length s.blocks) s.place

  pub blocks-append : (k : ℕ) (bs cs : List (Block V)) →
      blocks_lines k (bs ++ cs) ≡ blocks_lines k bs ++ blocks_lines (k + length bs) cs
  blocks-append k [] cs = ap (λ n. blocks_lines n cs) (omega arith)
  blocks-append k (b ∷ bs) cs =
      let e : suc k + length bs ≡ k + suc (length bs) = omega arith in
      ap (λ (z : List (Line V)). block_lines k b ++ z) (blocks-append (suc k) bs cs
      ∙ ap (λ n. blocks_lines (suc k) bs ++ blocks_lines n cs) e)
      ∙ sym (append_assoc (block_lines k b) (blocks_lines (suc k) bs) (blocks_lines (k + suc (length bs)) cs))

  pub blocks_all : (bs cs : List (Block V)) →
      blocks_lines 0 (bs ++ cs) ≡ blocks_lines 0 bs ++ blocks_lines (length bs) cs
  blocks_all bs cs =
      let e : 0 + length bs ≡ length bs = omega arith in
      blocks-append 0 bs cs ∙ ap (λ n. blocks_lines 0 bs ++ blocks_lines n cs) e

  -- whether verdicts stand behind the blocks
  abbrev pub is_judging : Place V → Bool
  is_judging (Judging j js) = true
  is_judging Outside = false
  is_judging (Opened p) = false
  is_judging (Shut p) = false
  is_judging (InRows p x rows) = false
  is_judging (InInvs p x rows i invs) = false

  some_is : (bs cs : List (Block V)) → Some bs ≡ Some cs → bs ≡ cs
  some_is bs cs e = cc

  -- what a place ends has the lines of the place
  ending_lines : (k : ℕ) (place : Place V) (bs : List (Block V)) → is_judging place ≡ false → ending place ≡ Some bs →
      open_lines k place ≡ blocks_lines k bs
  ending_lines k Outside bs j e = ap (blocks_lines k) (some_is [] bs e)
  ending_lines k (Opened p) bs j e = absurd cc
  ending_lines k (Shut p) bs j e = ap (blocks_lines k) (some_is (block p [] [] ∷ []) bs e)
  ending_lines k (InRows p x rows) bs j e =
      ap (λ (z : List (Line V)). At k p ∷ Row x ∷ z) (sym (append-nil (map Row rows)))
      ∙ ap (λ (z : List (Line V)). At k p ∷ Row x ∷ z) (sym (append-nil (map Row rows ++ [])))
      ∙ ap (blocks_lines k) (some_is (block p (x ∷ rows) [] ∷ []) bs e)
  ending_lines k (InInvs p x rows i invs) bs j e =
      ap (λ (z : List (Line V)). At k p ∷ Row x ∷ z) (sym (append-nil (map Row rows ++ Inv i ∷ map Inv invs)))
      ∙ ap (blocks_lines k) (some_is (block p (x ∷ rows) (i ∷ invs) ∷ []) bs e)
  ending_lines k (Judging v js) bs j e = absurd cc

  pub so_far_ended : (blocks : List (Block V)) (place : Place V) (bs : List (Block V)) → is_judging place ≡ false →
      ending place ≡ Some bs → so_far (record { blocks = blocks; place = place }) ≡ blocks_lines 0 (blocks ++ bs)
  so_far_ended blocks place bs j e = ap (λ (z : List (Line V)). blocks_lines 0 blocks ++ z)
      (ending_lines (length blocks) place bs j e) ∙ sym (blocks_all blocks bs)
