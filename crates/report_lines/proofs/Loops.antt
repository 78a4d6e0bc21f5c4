-- Loops that print: what is printed so far and what is left are the whole.
-- Index: IsItem, item_at, same_item, found, drop_next, both_behind, drop_mapped, one_verdict.
use Rattle.std.proofs.Common.{◌≡◌, ◌+◌, ◌<◌, ℕ, zero, suc, Bool, Some, List, [], ◌∷◌, ◌++◌, map, length, drop, get_or, refl, sym, ap, ap₂, ◌∙◌, append_assoc, arith}
use Rattle.std.specs.Prelude.{slice_get}
use Rattle.std.proofs.Math.Seq.{drop-cons}
use Rattle.report_lines.specs.Texts.{verdict_line, verdicts_text}

-- the item at a place
pub record IsItem {A : Type 0} (xs : List A) (k : ℕ) : Type 0 where
  pub item : A
  pub got : slice_get xs k ≡ Some item

pub item_at : {A : Type 0} (xs : List A) (k : ℕ) → k < length xs → IsItem xs k
item_at [] k h = absurd (omega (arith, h))
item_at (x ∷ xs) zero h = record { item = x; got = refl }
item_at (x ∷ xs) (suc k) h = let i = item_at xs k (omega (arith, h)) in record { item = i.item; got = i.got }

-- two look-ups at one place
pub same_item : {A : Type 0} (xs : List A) (k : ℕ) (x y : A) → slice_get xs k ≡ Some x → slice_get xs k ≡ Some y → x ≡ y
same_item xs k x y e f = let same = sym e ∙ f in cc

pub found : {A : Type 0} (xs : List A) (k : ℕ) (x d : A) → slice_get xs k ≡ Some x → get_or xs k d ≡ x
found [] k x d e = absurd cc
found (z ∷ xs) zero x d e = let same : z ≡ x = cc in same
found (z ∷ xs) (suc k) x d e = found xs k x d e

-- what is left begins with the item at a place, whatever stands for a missing one
pub drop_next : {A : Type 0} (xs : List A) (k : ℕ) (d : A) → k < length xs →
    drop k xs ≡ get_or xs k d ∷ drop (k + 1) xs
drop_next xs k d h =
    let next : suc k ≡ k + 1 = omega arith in
    drop-cons xs k d h ∙ ap (λ j. get_or xs k d ∷ drop j xs) next

-- two lists behind another, each known by an equal one
pub both_behind : (done first a b c d : List ℕ) → first ≡ done ++ a → a ≡ b → c ≡ d → first ++ c ≡ done ++ (b ++ d)
both_behind done first a b c d e f g =
    ap₂ (λ (y z : List ℕ). y ++ z) (e ∙ ap (λ (z : List ℕ). done ++ z) f) g ∙ append_assoc done b d

-- what is left of the mapped list begins with what the item stands for
pub drop_mapped : {A B : Type 0} (f : A → B) (xs : List A) (k : ℕ) (x : A) → slice_get xs k ≡ Some x →
    drop k (map f xs) ≡ f x ∷ drop (k + 1) (map f xs)
drop_mapped f [] k x e = absurd cc
drop_mapped f (y ∷ xs) zero x e = let same : y ≡ x = cc in ap (λ z. f z ∷ map f xs) same
drop_mapped f (y ∷ xs) (suc k) x e =
    let next : suc k + 1 ≡ suc (k + 1) = omega arith in
    drop_mapped f xs k x e ∙ ap (λ j. f x ∷ drop j (map f (y ∷ xs))) (sym next)

-- one verdict more is printed
pub one_verdict : (done next : List ℕ) (ns ms : List ℕ) (n : ℕ) (bs cs : List Bool) (b : Bool) (whole : List ℕ) →
    done ++ verdicts_text ns bs ≡ whole → ns ≡ n ∷ ms → bs ≡ b ∷ cs → next ≡ done ++ verdict_line n b →
    next ++ verdicts_text ms cs ≡ whole
one_verdict done next ns ms n bs cs b whole h e f g =
    ap (λ (z : List ℕ). z ++ verdicts_text ms cs) g
    ∙ append_assoc done (verdict_line n b) (verdicts_text ms cs)
    ∙ ap (λ (z : List ℕ). done ++ z) (sym (ap₂ (λ (y : List ℕ) (z : List Bool). verdicts_text y z) e f)) ∙ h
