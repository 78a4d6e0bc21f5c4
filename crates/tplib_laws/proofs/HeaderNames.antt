-- The names in a header are names of variables, and no two are the same: gens_names, ineqs_names.
use Rattle.std.proofs.Common.{◌≡◌, ◌<◌, ◌≤◌, ◌+◌, ℕ, suc, Bool, true, false, cond, not, ◌||◌, List, [], ◌∷◌, ◌++◌, length, Option, Some, None, Result, Ok, Err, if◌then◌else◌, Contains, codes, refl, sym, ap, ◌∙◌, subst, arith, append_assoc, append-nil, length-append, ltb}
use Rattle.std.specs.List.{list_any, position_or_len}
use Rattle.std.specs.Str.{bytes_eq}
use Rattle.std.proofs.lemmas.Bool.{lt-ltb}
use Rattle.std.proofs.lemmas.List.Elements.{All-nil}
use Rattle.trop_grammar.specs.Lists.{next_or_end, Item, AreItems}
use Rattle.trop_text.specs.Name.{is_name}
use Rattle.trop_text.specs.Names.{AreNames, place_of}
use Rattle.trop_text.specs.Pieces.{Piece}
use Rattle.trop_text.specs.declared.fault.FaultKind.{FaultKind}
use Rattle.trop_text.specs.declared.fault.FaultKind.TheVariants.{Syntax}
use Rattle.trop_text.proofs.Distinct.{AreNames-push, any_when_contains}
use Rattle.trop_reading.specs.Words.{text_of}
use Rattle.trop_files.specs.Header.{Header, IsHeader, IsName, is_line_end, undeclared, new_name, next_name}
use Rattle.trop_files.specs.Generators.{GeneratorFile, SpellsGenerators}
use Rattle.trop_files.specs.InequalityFiles.{InequalityFile, SpellsInequalities}

-- ---- a text without a place among others is none of them

any_before_end : {X : Type 0} (p : X → Bool) (xs : List X) → list_any p xs ≡ true → position_or_len p xs < length xs
any_before_end p [] h = absurd (let e : false ≡ true = h in cc)
any_before_end p (x ∷ xs) h = at (p x) (any_before_end p xs) h
  where
    at : (b : Bool) → (list_any p xs ≡ true → position_or_len p xs < length xs) → (b || list_any p xs) ≡ true →
        cond (not b) (1 + position_or_len p xs) 0 < suc (length xs)
    at true more h = omega arith
    at false more h = omega (arith, more h)

found : (i n : ℕ) → i < n → cond (ltb i n) (Some i) None ≡ None → ⊥
found i n l e = let p : Some i ≡ None = subst (λ b. cond b (Some i) None ≡ None) (lt-ltb i n l) e in cc

placeless : (text : List ℕ) (texts : List (List ℕ)) → place_of text texts ≡ None → Contains texts text → ⊥
placeless text texts e here =
    found (position_or_len (bytes_eq text) texts) (length texts)
    (any_before_end (bytes_eq text) texts (any_when_contains text texts here)) e

-- ---- a name that is read

begun_at : {C W : Type 0} (ended : Bool) (word : Result C W) (x : C) → next_or_end ended word ≡ Ok (Some x) →
    word ≡ Ok x
begun_at true word x e = cc
begun_at false (Ok y) x e = let same : y ≡ x = cc in ap Ok same
begun_at false (Err what) x e = cc

judged : (named : Bool) (place : Option ℕ) (text name : List ℕ) → (let r : Result (List ℕ) FaultKind =
    if named then undeclared place text else Err Syntax in r) ≡ Ok name →
    (named ≡ true) × (place ≡ None) × (text ≡ name)
judged true None text name e = (refl, refl, cc)
judged true (Some k) text name e = absurd cc
judged false place text name e = absurd cc

new_is : (names : List (List ℕ)) (p : Piece) (name : List ℕ) → new_name names p ≡ Ok name →
    (is_name name ≡ true) × (place_of name names ≡ None)
unfolding new_name
new_is names p name e =
    let j = judged (is_name (text_of p)) (place_of (text_of p) names) (text_of p) name e in
    (subst (λ t. is_name t ≡ true) j.2 j.0, subst (λ t. place_of t names ≡ None) j.2 j.1)

item_is : (before : List (List ℕ)) (us : List Piece) (name : List ℕ) → Item next_name IsName before us name →
    (is_name name ≡ true) × (place_of name before ≡ None)
item_is before us name item =
    let token = item.first.token in
    let new = begun_at (is_line_end token) (new_name before token) item.value item.first.is in
    new_is before token name (new ∙ ap Ok (sym item.second.is))

-- ---- lists of names

no_names : AreNames []
no_names = record {
  each = All-nil (λ text. is_name text ≡ true);
  distinct = λ i j h k e. absurd (omega arith);
  few = omega arith;
}

items_are : (us : List Piece) (before names : List (List ℕ)) → AreItems (Item next_name IsName) before us names →
    AreNames before → length (before ++ names) ≤ 63 → AreNames (before ++ names)
items_are us before [] are known few = subst AreNames (sym (append-nil before)) known
items_are us before (name ∷ names) (vs, ws, whole, item, more) known few =
    let is = item_is before vs name item in
    let again : (before ++ name ∷ []) ++ names ≡ before ++ name ∷ names = append_assoc before (name ∷ []) names in
    let longer : length before + suc (length names) ≤ 63 = omega (arith, length-append before (name ∷ names)) in
    let pushed = AreNames-push before name known (placeless name before is.1) is.0 (omega arith) in
    subst AreNames again (items_are ws (before ++ name ∷ []) names more pushed
    (subst (λ all. length all ≤ 63) (sym again) few))

header_names : (kind : List ℕ) (us : List Piece) (h : Header) → IsHeader kind us h → AreNames h.names
header_names kind us h is =
    let line = is.second.second.second in
    subst (λ g. AreNames g.names) (sym line.second.is)
    (items_are line.first.items [] line.value line.first.are no_names line.first.count)

pub gens_names : (us : List Piece) (file : GeneratorFile) → SpellsGenerators us file → AreNames file.names
gens_names us file s = subst (λ f. AreNames f.names) (sym s.second.second.is)
    (header_names (codes "gens") s.front s.value s.first)

pub ineqs_names : (us : List Piece) (file : InequalityFile) → SpellsInequalities us file → AreNames file.names
ineqs_names us file s = subst (λ f. AreNames f.names) (sym s.second.second.is)
    (header_names (codes "ineqs") s.front s.value s.first)
