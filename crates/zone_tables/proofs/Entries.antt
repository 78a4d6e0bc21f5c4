-- What is made of bounds that were read, as entries of the changed matrices.
use Rattle.std.proofs.Common.{◌≡◌, ◌≢◌, ⊎_elim, ◌<◌, ◌≤◌, ◌==◌, ◌+ℤ◌, ◌-ℤ◌, ℕ, ℤ, pos, Bool, true, false, cond, List, Option, Some, None, refl, sym, ap, subst, ◌∙◌, arith}
use Rattle.zone_theory.specs.Bounds.{Bound, least, plus}
use Rattle.zone_theory.specs.Matrices.{Matrix, entry}
use Rattle.zone_theory.specs.Assigning.{source, shift, assigned}
use Rattle.zone_theory.specs.Adding.{added}
use Rattle.zone_theory.specs.Forgetting.{forgotten}
use Rattle.zone_theory.proofs.Entries.{eqb_same, eqb_apart, entry-apart}
use Rattle.zone_tables.specs.Tables.{apart}
use Rattle.zone_tables.specs.Passes.{passed}

pub apart-same : (m : Matrix) (i j : ℕ) → i ≡ j → None ≡ apart m i j
apart-same m i j e = sym (ap (λ k. cond (i == k) None (m i k)) (sym e) ∙ ap (λ b. cond b None (m i i)) (eqb_same i))

pub apart-other : (m : Matrix) (i j : ℕ) (b : Bound) → i ≢ j → b ≡ m i j → b ≡ apart m i j
apart-other m i j b ne e = e ∙ sym (ap (λ x. cond x None (m i j)) (eqb_apart i j ne))

pub forgot-row : (m : Matrix) (v i j : ℕ) → i ≡ v → None ≡ forgotten m v i j
forgot-row m v i j e = sym (ap (λ k. cond (i == k) None (cond (j == k) None (m i j))) (sym e)
    ∙ ap (λ b. cond b None (cond (j == i) None (m i j))) (eqb_same i))

pub forgot-column : (m : Matrix) (v i j : ℕ) → i ≢ v → j ≡ v → None ≡ forgotten m v i j
forgot-column m v i j ne e = sym (ap (λ b. cond b None (cond (j == v) None (m i j))) (eqb_apart i v ne)
    ∙ ap (λ k. cond (j == k) None (m i j)) (sym e) ∙ ap (λ b. cond b None (m i j)) (eqb_same j))

pub forgot-other : (m : Matrix) (v i j : ℕ) (b : Bound) → i ≢ v → j ≢ v → i ≢ j → b ≡ entry m i j
    → b ≡ forgotten m v i j
forgot-other m v i j b ni nj ne e = e ∙ entry-apart m i j ne
    ∙ sym (ap (λ b. cond b None (cond (j == v) None (m i j))) (eqb_apart i v ni)
    ∙ ap (λ b. cond b None (m i j)) (eqb_apart j v nj))

pub source-same : (v f i : ℕ) → i ≡ v → f ≡ source v f i
source-same v f i e = sym (ap (λ k. cond (i == k) f i) (sym e) ∙ ap (λ b. cond b f i) (eqb_same i))

pub source-other : (v f i : ℕ) → i ≢ v → i ≡ source v f i
source-other v f i ne = sym (ap (λ b. cond b f i) (eqb_apart i v ne))

pub shift-same : (v : ℕ) (c : ℤ) (i : ℕ) → i ≡ v → c ≡ shift v c i
shift-same v c i e = sym (ap (λ k. cond (i == k) c (pos 0)) (sym e) ∙ ap (λ b. cond b c (pos 0)) (eqb_same i))

pub shift-other : (v : ℕ) (c : ℤ) (i : ℕ) → i ≢ v → pos 0 ≡ shift v c i
shift-other v c i ne = sym (ap (λ b. cond b c (pos 0)) (eqb_apart i v ne))

pub shift-read : (v : ℕ) (c x : ℤ) (i : ℕ) (h : ℤ) → h ≡ shift v x i → x ≡ c → h ≡ shift v c i
shift-read v c x i h e xe = e ∙ ap (λ y. shift v y i) xe

pub assigned-read : (m : Matrix) (v f : ℕ) (c : ℤ) (i j s t : ℕ) (b : Bound) (h l x : ℤ) (r : Bound) → s ≡ source v f i
    → t ≡ source v f j → b ≡ entry m s t → h ≡ shift v c i → l ≡ shift v c j → r ≡ plus b (Some x) → x ≡ h -ℤ l
    → r ≡ assigned m v f c i j
assigned-read m v f c i j s t b h l x r se te be he le re xe =
    re ∙ ap (λ y. plus b (Some y)) (xe ∙ ap (λ y. y -ℤ l) he ∙ ap (λ y. shift v c i -ℤ y) le)
    ∙ ap (λ y. plus y (Some (shift v c i -ℤ shift v c j))) (be ∙ ap (λ y. entry m y t) se
    ∙ ap (λ y. entry m (source v f i) y) te)

pub added-read : (m : Matrix) (i j : ℕ) (c : ℤ) (k l : ℕ) (b d e x y r : Bound) → b ≡ entry m k i → x ≡ plus b (Some c)
    → d ≡ entry m j l → y ≡ plus x d → e ≡ entry m k l → r ≡ least e y → r ≡ added m i j c k l
added-read m i j c k l b d e x y r be xe de ye ee re = re ∙ ap (λ z. least z y) ee
    ∙ ap (least (entry m k l)) (ye ∙ ap (λ z. plus z d) (xe ∙ ap (λ z. plus z (Some c)) be)
    ∙ ap (plus (plus (entry m k i) (Some c))) de)

pub passed-read : (m : Matrix) (k i j : ℕ) (b d e y r : Bound) → i ≢ j → b ≡ entry m i k → d ≡ entry m k j
    → y ≡ plus b d
    → e ≡ entry m i j → r ≡ least e y → r ≡ apart (passed m k) i j
passed-read m k i j b d e y r ne be de ye ee re = apart-other (passed m k) i j r ne (re ∙ ap (λ z. least z y) ee
    ∙ ap (least (entry m i j)) (ye ∙ ap (λ z. plus z d) be ∙ ap (plus (entry m i k)) de))
