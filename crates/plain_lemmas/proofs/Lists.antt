-- Lists: elements in front, elements that a test chooses, elements that go, places of two lists.
use Rattle.std.proofs.Common.{◌≡◌, ◌≢◌, ◌⊎◌, ◌<◌, ◌≤◌, ℕ, zero, suc, List, [], ◌∷◌, ◌++◌, length, map, inl, inr, ⊎_elim, sym, ap, ◌∙◌, refl, arith, subst, get_or}
use Rattle.std.specs.Prelude.{All, AllPairs, Contains, ◌↔◌, Any, remove}
use Rattle.std.proofs.lemmas.List.{length-map, get_or_default, length-append, get_or_append_left}
use Rattle.std.proofs.lemmas.List.Elements.{All-push, All-contains, Contains-append_left, Contains-append_right, Contains-append_cases, Contains-push, Contains-get_or, All-append, All-drop, All-take}
use Rattle.plain_lemmas.proofs.Decisions.{Decided}
use Rattle.std.specs.List.{AllZip}
use Rattle.std.specs.List.{refill}
use Rattle.std.proofs.lemmas.List.{append-nil, drop_all, take_all}
use Rattle.std.proofs.Common.{take}

-- one more element in front
pub Any-cons : {X : Type 0} (P : X → Type 0) (y : X) (xs : List X) → Any P xs → Any P (y ∷ xs)
Any-cons P y xs h = (suc h.0, h.1, omega (arith, h.2), h.3, h.4)

pub Any-head : {X : Type 0} (P : X → Type 0) (y : X) (xs : List X) → P y → Any P (y ∷ xs)
Any-head P y xs h = (0, y, omega arith, refl, h)

-- some element of a list
pub Any-decided : {X : Type 0} (P : X → Type 0) → ((x : X) → Decided (P x)) → (xs : List X) → Decided (Any P xs)
Any-decided P d [] = inr (λ h. let l = h.2 in absurd (omega arith))
Any-decided P d (x ∷ xs) = ⊎_elim (λ p. inl (Any-head P x xs p))
    (λ np. ⊎_elim (λ q. inl (Any-cons P x xs q)) (λ nq. inr (λ h. neither np nq h.0 h.1 h.2 h.3 h.4))
    (Any-decided P d xs)) (d x)
  where
    neither : (P x → ⊥) → (Any P xs → ⊥) → (k : ℕ) (y : _) → k < length (x ∷ xs) → get_or (x ∷ xs) k y ≡ y → P y → ⊥
    neither np nq zero y l e p = np (subst P (sym e) p)
    neither np nq (suc k) y l e p = nq (k, y, omega arith, e, p)

pub All-remove : {X : Type 0} (P : X → Type 0) (xs : List X) (k : ℕ) → All P xs → All P (remove xs k)
All-remove P xs k h = All-append P _ _ (All-take P k xs h) (All-drop P (suc k) xs h)

-- the elements of a list that a decided test chooses
pub record Chosen {X : Type 0} (P : X → Type 0) (xs : List X) : Type 0 where
  pub chosen : List X
  pub there : (x : X) → Contains xs x → P x → Contains chosen x
  pub back : (x : X) → Contains chosen x → Contains xs x × P x

module _ {X : Type 0} where
  pub Contains-cons : (y : X) (xs : List X) (x : X) → Contains xs x → Contains (y ∷ xs) x
  Contains-cons y xs x h = (suc h.0, omega (arith, h.1), h.2)

  pub Contains-cons_cases : (y : X) (xs : List X) (x : X) → Contains (y ∷ xs) x → (y ≡ x) ⊎ Contains xs x
  Contains-cons_cases y xs x h = at h.0 h.1 h.2
    where
      at : (k : ℕ) → k < length (y ∷ xs) → get_or (y ∷ xs) k x ≡ x → (y ≡ x) ⊎ Contains xs x
      at zero l e = inl e
      at (suc k) l e = inr (k, omega arith, e)

  pub Contains-none : (x : X) → Contains [] x → ⊥
  Contains-none x h = let l = h.1 in omega arith

  pub chosen_of : (P : X → Type 0) → ((x : X) → Decided (P x)) → (xs : List X) → Chosen P xs
  chosen_of P d [] = record {
    chosen = [];
    there = λ x h p. h;
    back = λ x h. absurd (Contains-none x h);
  }
  chosen_of P d (y ∷ xs) = ⊎_elim
      (λ p.
      let r = chosen_of P d xs in
      record {
        chosen = y ∷ r.chosen;
        there = λ x h q. ⊎_elim (λ e. (0, omega arith, e)) (λ t. Contains-cons y r.chosen x (r.there x t q))
            (Contains-cons_cases y xs x h);
        back = λ x h. ⊎_elim (λ e. ((0, omega arith, e), subst P e p))
            (λ t. (Contains-cons y xs x (r.back x t).0, (r.back x t).1)) (Contains-cons_cases y r.chosen x h);
      })
      (λ np.
      let r = chosen_of P d xs in
      record {
        chosen = r.chosen;
        there = λ x h q. ⊎_elim (λ e. absurd (np (subst P (sym e) q))) (λ t. r.there x t q)
            (Contains-cons_cases y xs x h);
        back = λ x h. (Contains-cons y xs x (r.back x h).0, (r.back x h).1);
      })
      (d y)

-- f of each element of the first list and each of the second
abbrev pub products : {X : Type 0} → (X → X → X) → List X → List X → List X
products f [] ys = []
products f (x ∷ xs) ys = map (f x) ys ++ products f xs ys

module _ {X : Type 0} (f : X → X → X) where
  pub Contains-map : (g : X → X) (ys : List X) (y : X) → Contains ys y → Contains (map g ys) (g y)
  Contains-map g [] y h = absurd (Contains-none y h)
  Contains-map g (z ∷ ys) y h = ⊎_elim (λ e. (0, omega arith, ap g e))
      (λ t. Contains-cons (g z) (map g ys) (g y) (Contains-map g ys y t)) (Contains-cons_cases z ys y h)

  pub from_map : (g : X → X) (ys : List X) (z : X) → Contains (map g ys) z → (y : X) × Contains ys y × (z ≡ g y)
  from_map g [] z h = absurd (Contains-none z h)
  from_map g (w ∷ ys) z h = ⊎_elim
      (λ e. (w, (0, omega arith, refl), sym e))
      (λ t. let r = from_map g ys z t in (r.0, Contains-cons w ys r.0 r.1, r.2))
      (Contains-cons_cases (g w) (map g ys) z h)

  pub Contains-products : (xs ys : List X) (x y : X) → Contains xs x → Contains ys y →
      Contains (products f xs ys) (f x y)
  Contains-products [] ys x y h k = absurd (Contains-none x h)
  Contains-products (z ∷ xs) ys x y h k = ⊎_elim
      (λ e. subst (λ w. Contains (map (f z) ys ++ products f xs ys) (f w y)) e
      (Contains-append_left (map (f z) ys) (products f xs ys) (f z y) (Contains-map (f z) ys y k)))
      (λ t. Contains-append_right (map (f z) ys) (products f xs ys) (f x y) (Contains-products xs ys x y t k))
      (Contains-cons_cases z xs x h)

  pub from_products : (xs ys : List X) (z : X) → Contains (products f xs ys) z →
      (x : X) × (y : X) × Contains xs x × Contains ys y × (z ≡ f x y)
  from_products [] ys z h = absurd (Contains-none z h)
  from_products (w ∷ xs) ys z h = ⊎_elim
      (λ t. let r = from_map (f w) ys z t in (w, r.0, (0, omega arith, refl), r.1, r.2))
      (λ t. let r = from_products xs ys z t in (r.0, r.1, Contains-cons w xs r.0 r.2, r.3, r.4))
      (Contains-append_cases (map (f w) ys) (products f xs ys) z h)

module _ {X : Type 0} (Q : X → X → Type 0) where
  pub there_in_zip : (xs ys : List X) → AllZip Q xs ys → (x : X) → Contains xs x → (y : X) × Contains ys y × Q x y
  there_in_zip [] ys h x c = absurd (Contains-none x c)
  there_in_zip (z ∷ xs) [] h x c = absurd h
  there_in_zip (z ∷ xs) (y ∷ ys) h x c = ⊎_elim
      (λ e. (y, (0, omega arith, refl), subst (λ v. Q v y) e h.0))
      (λ t. let r = there_in_zip xs ys h.1 x t in (r.0, Contains-cons y ys r.0 r.1, r.2))
      (Contains-cons_cases z xs x c)

  pub back_in_zip : (xs ys : List X) → AllZip Q xs ys → (y : X) → Contains ys y → (x : X) × Contains xs x × Q x y
  back_in_zip [] [] h y c = absurd (Contains-none y c)
  back_in_zip [] (z ∷ ys) h y c = absurd h
  back_in_zip (z ∷ xs) [] h y c = absurd h
  back_in_zip (z ∷ xs) (w ∷ ys) h y c = ⊎_elim
      (λ e. (z, (0, omega arith, refl), subst (Q z) e h.0))
      (λ t. let r = back_in_zip xs ys h.1 y t in (r.0, Contains-cons z xs r.0 r.1, r.2))
      (Contains-cons_cases w ys y c)

-- two removals, in either order
pub remove-remove : {X : Type 0} (xs : List X) (j k : ℕ) → j ≤ k → remove (remove xs (suc k)) j ≡ remove (remove xs j) k
remove-remove [] zero zero h = refl
remove-remove [] zero (suc k) h = refl
remove-remove [] (suc j) zero h = refl
remove-remove [] (suc j) (suc k) h = refl
remove-remove (x ∷ xs) zero k h = refl
remove-remove (x ∷ xs) (suc j) zero h = absurd (omega arith)
remove-remove (x ∷ xs) (suc j) (suc k) h = ap (λ w. x ∷ w) (remove-remove xs j k (omega arith))

-- as many elements as stood there take their places
pub refill-all : {X : Type 0} (old xs : List X) → length xs ≡ length old → refill (length old) old xs ≡ xs
refill-all old xs e =
    ap (λ w. take (length old) (xs ++ w)) (drop_all (length xs) old (omega (arith, e)))
    ∙ ap (take (length old)) (append-nil xs)
    ∙ take_all (length old) xs (omega (arith, e))
