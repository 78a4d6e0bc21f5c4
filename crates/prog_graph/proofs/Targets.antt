-- Lists of the edges into each point: with no edge, and with one more.
use Rattle.std.proofs.Common.{◌≡◌, ℕ, zero, suc, ◌+◌, ◌<◌, ◌==◌, Bool, true, false, List, [], ◌∷◌, ◌++◌, length, get_or, set, take, inl, inr, refl, sym, ap, ◌∙◌, subst, append-nil, arith, if◌then◌else◌}
use Rattle.std.proofs.lemmas.List.{get_or-set_same, get_or-set_other, length-append, length-set, length-map, length-take-le, map-set, get_or-map}
use Rattle.std.proofs.lemmas.Bool.Decides.{eqb_tells}
use Rattle.std.specs.Global.{Vec}
use Rattle.prog_graph.specs.declared.parts.Edge.{Edge}
use Rattle.prog_graph.specs.Into.{numbers_from, AreInto, targets, numbers_of}

-- one more empty list
pub none_more : (lists : List (List ℕ)) (n : ℕ) → AreInto lists n [] → AreInto (lists ++ [] ∷ []) (n + 1) []
none_more lists n h = record {
  many = length-append lists ([] ∷ []) ∙ omega (arith, h.many);
  each = each lists n h.many h.each;
}
  where
    each : (lists : List (List ℕ)) (n : ℕ) → length lists ≡ n → ((p : ℕ) → p < n → get_or lists p [] ≡ []) → (p : ℕ)
        → p < n + 1 → get_or (lists ++ [] ∷ []) p [] ≡ []
    each [] n m h zero l = refl
    each [] n m h (suc p) l = absurd (omega arith)
    each (x ∷ xs) n m h zero l = h zero (omega arith)
    each (x ∷ xs) zero m h (suc p) l = absurd (omega arith)
    each (x ∷ xs) (suc n) m h (suc p) l = each xs n (omega arith) (λ q i. h (suc q) (omega arith)) p (omega arith)

-- the number k of one more target
abbrev last_number : Bool → ℕ → List ℕ
last_number b k = if b then k ∷ [] else []

numbers_turn : (k p : ℕ) (ts : List ℕ) (t : ℕ) (b : Bool)
    → numbers_from (k + 1) p (ts ++ t ∷ []) ≡ numbers_from (k + 1) p ts ++ last_number (t == p) (k + 1 + length ts)
    → (if b then k ∷ numbers_from (k + 1) p (ts ++ t ∷ []) else numbers_from (k + 1) p (ts ++ t ∷ []))
    ≡ (if b then k ∷ numbers_from (k + 1) p ts else numbers_from (k + 1) p ts) ++ last_number (t == p)
    (k + suc (length ts))
numbers_turn k p ts t b h =
    let e : k + 1 + length ts ≡ k + suc (length ts) = omega arith in
    go b (h ∙ ap (λ (x : ℕ). numbers_from (k + 1) p ts ++ last_number (t == p) x) e)
  where
    go : (b : Bool) → numbers_from (k + 1) p (ts ++ t ∷ []) ≡ numbers_from (k + 1) p ts ++ last_number (t == p)
        (k + suc (length ts))
        → (if b then k ∷ numbers_from (k + 1) p (ts ++ t ∷ []) else numbers_from (k + 1) p (ts ++ t ∷ []))
        ≡ (if b then k ∷ numbers_from (k + 1) p ts else numbers_from (k + 1) p ts) ++ last_number (t == p)
        (k + suc (length ts))
    go true e = ap (λ (x : List ℕ). k ∷ x) e
    go false e = e

numbers_more : (k p : ℕ) (ts : List ℕ) (t : ℕ)
    → numbers_from k p (ts ++ t ∷ []) ≡ numbers_from k p ts ++ last_number (t == p) (k + length ts)
numbers_more k p [] t = go (t == p)
  where
    go : (b : Bool) → (if b then k ∷ [] else []) ≡ last_number b (k + 0)
    go true = let e : k ≡ k + 0 = omega arith in ap (λ (x : ℕ). x ∷ []) e
    go false = refl
numbers_more k p (u ∷ ts) t = numbers_turn k p ts t (u == p) (numbers_more (k + 1) p ts t)

-- one more edge, to the point t
pub one_more : (lists : List (List ℕ)) (n : ℕ) (ts : List ℕ) (t k : ℕ) → AreInto lists n ts → t < n → k ≡ length ts
    → AreInto (set lists t (get_or lists t [] ++ k ∷ [])) n (ts ++ t ∷ [])
one_more lists n ts t k h l e = record {
  many = length-set lists t (get_or lists t [] ++ k ∷ []) ∙ h.many;
  each = λ p i. each p i;
}
  where
    same : (p : ℕ) → p < n → t ≡ p → get_or (set lists t (get_or lists t [] ++ k ∷ [])) p [] ≡ numbers_from 0 p ts ++
        (0 + length ts) ∷ []
    same p i f =
        subst (λ (q : ℕ). get_or (set lists t (get_or lists t [] ++ k ∷ [])) q [] ≡ numbers_from 0 q ts ++
        (0 + length ts) ∷ []) f
        (get_or-set_same lists t (get_or lists t [] ++ k ∷ []) [] (omega (arith, h.many))
        ∙ ap (λ (x : List ℕ). x ++ k ∷ []) (h.each t l)
        ∙ (let z : k ≡ 0 + length ts = omega (arith, e) in ap (λ (x : ℕ). numbers_from 0 t ts ++ x ∷ []) z))

    each : (p : ℕ) → p < n → get_or (set lists t (get_or lists t [] ++ k ∷ [])) p [] ≡ numbers_from 0 p (ts ++ t ∷ [])
    each p i = elim (eqb_tells t p) [
      | inl w ↦ same p i w.1 ∙ sym (numbers_more 0 p ts t ∙ ap
          (λ (b : Bool). numbers_from 0 p ts ++ last_number b (0 + length ts)) w.0)
      | inr w ↦ get_or-set_other lists t p (get_or lists t [] ++ k ∷ []) [] (λ f. w.1 (sym f)) ∙ h.each p i
          ∙ sym (numbers_more 0 p ts t ∙ ap (λ (b : Bool). numbers_from 0 p ts ++ last_number b (0 + length ts)) w.0 ∙
          append-nil (numbers_from 0 p ts))
    ]

-- ---- one turn of the loop over the edges

take_more : (es : List Edge) (k : ℕ) (d : Edge) → k < length es
    → targets (take (k + 1) es) ≡ targets (take k es) ++ (get_or es k d).to ∷ []
take_more es k d l =
    let e : suc k ≡ k + 1 = omega arith in
    subst (λ (n : ℕ). targets (take n es) ≡ targets (take k es) ++ (get_or es k d).to ∷ []) e (go es k l)
  where
    go : (es : List Edge) (k : ℕ) → k < length es
        → targets (take (suc k) es) ≡ targets (take k es) ++ (get_or es k d).to ∷ []
    go [] k l = absurd (omega arith)
    go (e ∷ es) zero l = refl
    go (e ∷ es) (suc k) l = ap (λ (x : List ℕ). e.to ∷ x) (go es k (omega arith))

taken : (es : List Edge) (k : ℕ) → k < length es → k ≡ length (targets (take k es))
taken es k l = sym (length-map (take k es) (λ e. e.to) ∙ length-take-le k es (omega arith))

pub turn : (vs : List (Vec ℕ)) (n : ℕ) (es : List Edge) (k m : ℕ) (d : Edge) (e : Vec ℕ) (old new : Vec ℕ)
    → AreInto (numbers_of vs) n (targets (take k es)) → k < length es → (get_or es k d).to < n
    → old ≡ get_or vs (get_or es k d).to e → new.items ≡ old.items ++ m ∷ [] → m ≡ k
    → AreInto (numbers_of (set vs (get_or es k d).to new)) n (targets (take (k + 1) es))
turn vs n es k m d e old new h l i is_old is_new is_m =
    let t = (get_or es k d).to in
    let wide : t < length vs = omega (arith, i, h.many, length-map vs (λ v. v.items)) in
    let was : old.items ≡ get_or (numbers_of vs) t [] =
    ap (λ (x : Vec ℕ). x.items) is_old ∙ sym (get_or-map (λ v. v.items) vs t e [] wide) in
    let now : new.items ≡ get_or (numbers_of vs) t [] ++ m ∷ [] = is_new ∙ ap (λ (x : List ℕ). x ++ m ∷ []) was in
    let lists : numbers_of (set vs t new) ≡ set (numbers_of vs) t (get_or (numbers_of vs) t [] ++ m ∷ []) =
    map-set (λ v. v.items) vs t new ∙ ap (λ (x : List ℕ). set (numbers_of vs) t x) now in
    subst (λ (x : List (List ℕ)). AreInto x n (targets (take (k + 1) es))) (sym lists)
    (subst (λ (x : List ℕ). AreInto (set (numbers_of vs) t (get_or (numbers_of vs) t [] ++ m ∷ [])) n x)
    (sym (take_more es k d l))
    (one_more (numbers_of vs) n (targets (take k es)) t m h i (is_m ∙ taken es k l)))
