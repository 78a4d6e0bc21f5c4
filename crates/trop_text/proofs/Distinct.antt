-- Lists of names, held as keys.
use Rattle.std.proofs.Common.{◌≡◌, ◌<◌, ◌+◌, ◌^◌, ◌⊎◌, inl, inr, ℕ, true, false, cond, if◌then◌else◌, not, ◌||◌, List, [], ◌∷◌, ◌++◌, map, length, slice_get, Some, Contains, refl, sym, ap, ◌∙◌, subst, get_or, arith, length-append}
use Rattle.std.proofs.Math.ListN.{get_or-append}
use Rattle.std.proofs.Math.Seq.{get_or-append_seam}
use Rattle.std.proofs.lemmas.List.{length-map, map-append}
use Rattle.std.specs.List.{list_any, prefix_len, position}
use Rattle.std.specs.Str.{bytes_eq}
use Rattle.std.specs.Cmp.Lexicographic.{nat_list_eq_equiv}
use Rattle.std.proofs.lemmas.Slice.Eq.{bytes_eq-Decides}
use Rattle.std.proofs.lemmas.Map.Views.{Contains-from_any, list_any-from_Contains}
use Rattle.std.proofs.lemmas.List.Elements.{Contains-get_or}
use Rattle.std.proofs.lemmas.List.Quantifiers.{position-Some}
use Rattle.std.proofs.lemmas.Option.{slice_get-get_or}
use Rattle.trop_text.specs.Name.{is_name}
use Rattle.trop_text.specs.Names.{AreNames, place_of}

same_bytes : (x y : List ℕ) → bytes_eq x y ≡ true → x ≡ y
same_bytes x y = (bytes_eq-Decides x y).0

-- ---- keys and the texts that they hold

module _ {K : Type 0} (held : K → List ℕ) (text : List ℕ) where
  pub list_any-held : (ks : List K) → list_any (λ k. bytes_eq text (held k)) ks ≡ list_any (bytes_eq text) (map held ks)
  list_any-held [] = refl
  list_any-held (k ∷ ks) = ap (λ b. bytes_eq text (held k) || b) (list_any-held ks)

  prefix_len-held : (ks : List K) → prefix_len (λ k. not (bytes_eq text (held k))) ks ≡ prefix_len
      (λ t. not (bytes_eq text t)) (map held ks)
  prefix_len-held [] = refl
  prefix_len-held (k ∷ ks) = ap (λ n. cond (not (bytes_eq text (held k))) (1 + n) 0) (prefix_len-held ks)

  pub position-held : (ks : List K) → position (λ k. bytes_eq text (held k)) ks ≡ place_of text (map held ks)
  position-held ks = rw (prefix_len-held ks, ← length-map ks held) refl

module _ {K : Type 0} (held : K → List ℕ) where
  -- a key that is put last where no other holds its text
  pub held-insert : (ks : List K) (k : K) → list_any (bytes_eq (held k)) (map held ks) ≡ false →
      map held (if list_any (λ x. bytes_eq (held k) (held x)) ks then ks else ks ++ k ∷ []) ≡ map held ks ++ held k ∷ []
  held-insert ks k none = rw (list_any-held held (held k) ks ∙ none) (map-append held ks (k ∷ []))

-- ---- the place of a text

pub found_at : (text : List ℕ) (texts : List (List ℕ)) (i : ℕ) → place_of text texts ≡ Some i →
    (i < length texts) × (slice_get texts i ≡ Some text)
found_at text texts i e =
    let s = position-Some (bytes_eq text) texts i [] e in
    (s.0, slice_get-get_or texts i [] s.0 ∙ ap Some (sym (same_bytes text (get_or texts i []) s.1)))

pub contains_when_any : (text : List ℕ) (texts : List (List ℕ)) → list_any (bytes_eq text) texts ≡ true →
    Contains texts text
contains_when_any text texts = Contains-from_any same_bytes text texts

pub any_when_contains : (text : List ℕ) (texts : List (List ℕ)) → Contains texts text →
    list_any (bytes_eq text) texts ≡ true
any_when_contains text texts = list_any-from_Contains nat_list_eq_equiv text texts

pub not_contained : (text : List ℕ) (texts : List (List ℕ)) → list_any (bytes_eq text) texts ≡ false →
    Contains texts text → ⊥
not_contained text texts none here = let some = any_when_contains text texts here in cc

-- ---- one more name

before_or_last : (n i : ℕ) → i < n + 1 → (i < n) ⊎ (i ≡ n)
before_or_last n i h = grind arith

get-push-before : (texts : List (List ℕ)) (text : List ℕ) (i : ℕ) (d : List ℕ) → i < length texts →
    get_or (texts ++ text ∷ []) i d ≡ get_or texts i d
get-push-before texts text i d h = get_or-append texts (text ∷ []) d i h

get-push-last : (texts : List (List ℕ)) (text : List ℕ) (i : ℕ) (d : List ℕ) → i ≡ length texts →
    get_or (texts ++ text ∷ []) i d ≡ text
get-push-last texts text i d h = ap (λ k. get_or (texts ++ text ∷ []) k d) h ∙ get_or-append_seam texts text [] d

module _ (texts : List (List ℕ)) (text : List ℕ) (were : AreNames texts) (new : Contains texts text → ⊥) where
  contained : (i : ℕ) → i < length texts → get_or texts i [] ≡ text → Contains texts text
  contained i h e = subst (Contains texts) e (Contains-get_or texts i [] h)

  distinct_more : (i j : ℕ) → (i < length texts) ⊎ (i ≡ length texts) → (j < length texts) ⊎ (j ≡ length texts) →
      get_or (texts ++ text ∷ []) i [] ≡ get_or (texts ++ text ∷ []) j [] → i ≡ j
  distinct_more i j (inl h) (inl k) e = were.distinct i j h k
      (sym (get-push-before texts text i [] h) ∙ e ∙ get-push-before texts text j [] k)
  distinct_more i j (inl h) (inr k) e = absurd (new
      (contained i h (sym (get-push-before texts text i [] h) ∙ e ∙ get-push-last texts text j [] k)))
  distinct_more i j (inr h) (inl k) e = absurd (new
      (contained j k (sym (get-push-before texts text j [] k) ∙ sym e ∙ get-push-last texts text i [] h)))
  distinct_more i j (inr h) (inr k) e = h ∙ sym k

  each_more : is_name text ≡ true → (i : ℕ) (d : List ℕ) → (i < length texts) ⊎ (i ≡ length texts) →
      is_name (get_or (texts ++ text ∷ []) i d) ≡ true
  each_more named i d (inl h) = ap is_name (get-push-before texts text i d h) ∙ were.each i d h
  each_more named i d (inr h) = ap is_name (get-push-last texts text i d h) ∙ named

  in_more : (i : ℕ) → i < length (texts ++ text ∷ []) → (i < length texts) ⊎ (i ≡ length texts)
  in_more i h = before_or_last (length texts) i (simp length-append at h)

  pub AreNames-push : is_name text ≡ true → length texts < 2 ^ 31 → AreNames (texts ++ text ∷ [])
  AreNames-push named room = record {
    each = λ i d h. each_more named i d (in_more i h);
    distinct = λ i j h k e. distinct_more i j (in_more i h) (in_more j k) e;
    few = simp length-append (omega arith);
  }
