-- Lists in a text: one item after another until a token ends the list.
use Rattle.std.specs.Prelude.{◌≡◌, ◌≤◌, ℕ, List, [], ◌∷◌, ◌++◌, length, Bool, true, false, Option, Some, None, Result, Ok, Err}
use Rattle.trop_grammar.specs.Reading.{Reading, ◌>>=◌, gives, token_at, until_at, Next, More, Done}
use Rattle.trop_grammar.specs.Grammar.{One, Then}

-- the judge lets the token pass, as x
abbrev pub Passes : {T W A : Type 0} → (T → Result A W) → T → A → Type 0
Passes judge t x = judge t ≡ Ok x

-- where a token ends the list, the end; else an item, if the judge lets the token begin one
abbrev pub next_or_end : {W C : Type 0} → Bool → Result C W → Result (Option C) W
next_or_end true word = Ok None
next_or_end false (Ok c) = Ok (Some c)
next_or_end false (Err what) = Err what

-- where no item may follow, a token that ends the list; any other is wrong
abbrev pub only_end : {W : Type 0} → Bool → W → Result (Unit {0}) W
only_end true what = Ok tt
only_end false what = Err what

-- ---- reading

-- behind the token that begins an item, or that ends the list
unfoldable pub item_or_end : {T W A C : Type 0} → (List A → C → List T → Reading T W A) → List A → Option C → List T →
    Reading T W (Next (List A) (List A))
item_or_end item xs None = gives (Done xs)
item_or_end item xs (Some c) = item xs c >>= λ x. gives (More (xs ++ x ∷ []))

unfoldable pub list_step : {T W A C : Type 0} → W → (List A → T → Result (Option C) W) →
    (List A → C → List T → Reading T W A) → List A → List T → Reading T W (Next (List A) (List A))
list_step missing start item xs = token_at missing (start xs) >>= item_or_end item xs

unfoldable pub list_last : {T W A : Type 0} → W → (List A → T → Result (Unit {0}) W) → List A → List T →
    Reading T W (List A)
list_last missing last xs = token_at missing (last xs) >>= λ u. gives xs

-- Behind the items xs: n more items at most, each begun by a token that `start` lets pass as Some, up to a token that
-- it lets pass as None. Behind the n-th item `last` judges the next token.
unfoldable pub list_at : {T W A C : Type 0} → W → (List A → T → Result (Option C) W) →
    (List A → C → List T → Reading T W A) → (List A → T → Result (Unit {0}) W) → ℕ → List A → List T →
    Reading T W (List A)
list_at missing start item last n xs = until_at (list_step missing start item) (list_last missing last) n xs

-- ---- grammar

-- one item: a token that begins it, and the rest of it; both may depend on the items before
abbrev pub Item : {T W A C : Type 0} → (List A → T → Result (Option C) W) → (List A → C → List T → A → Type 0) →
    List A → List T → A → Type 0
Item {C = C} start Rest before = Then (One (λ t (c : C). start before t ≡ Ok (Some c))) (Rest before)

-- a token that ends the list behind the items before
abbrev pub EndsList : {T W A C : Type 0} → (List A → T → Result (Option C) W) → List A → T → Type 0
EndsList start before t = start before t ≡ Ok None

-- one item after another
abbrev pub AreItems : {T A : Type 0} → (List A → List T → A → Type 0) → List A → List T → List A → Type 0
AreItems Line before us [] = us ≡ []
AreItems {T} Line before us (x ∷ xs) = (vs ws : List T) × (us ≡ vs ++ ws) × Line before vs x
    × AreItems Line (before ++ x ∷ []) ws xs

-- n items at most and a token that ends the list
pub record Listed {T A : Type 0} (Line : List A → List T → A → Type 0) (End : List A → T → Type 0) (n : ℕ) (us : List T)
    (xs : List A) : Type 0 where
  pub items : List T
  pub end : T
  pub whole : us ≡ items ++ end ∷ []
  pub are : AreItems Line [] items xs
  pub ends : End xs end
  pub count : length xs ≤ n

-- ---- items with a separator between them

abbrev pub next_of : {A : Type 0} → Bool → A → Next A A
next_of true xs = More xs
next_of false xs = Done xs

unfoldable pub separated_step : {T W A : Type 0} → W → (List T → Reading T W A) → (T → Result Bool W) → List A →
    List T → Reading T W (Next (List A) (List A))
separated_step missing item between xs = item >>= λ x. token_at missing between >>= λ more.
    gives (next_of more (xs ++ x ∷ []))

unfoldable pub separated_last : {T W A : Type 0} → W → (List T → Reading T W A) → (T → Result (Unit {0}) W) → List A →
    List T → Reading T W (List A)
separated_last missing item close xs = item >>= λ x. token_at missing close >>= λ u. gives (xs ++ x ∷ [])

-- Behind the items xs: an item and n more at most, each with a token behind it: one that `between` lets pass as true,
-- or, behind the last item, as false. Behind the last item that may be `close` judges the token.
unfoldable pub separated_from : {T W A : Type 0} → W → (List T → Reading T W A) → (T → Result Bool W) →
    (T → Result (Unit {0}) W) → ℕ → List A → List T → Reading T W (List A)
separated_from missing item between close n xs = until_at (separated_step missing item between)
    (separated_last missing item close) n xs

-- As many items as there are. Each has a token behind it, so there are no more than tokens.
unfoldable pub separated_at : {T W A : Type 0} → W → (List T → Reading T W A) → (T → Result Bool W) →
    (T → Result (Unit {0}) W) → List A → List T → Reading T W (List A)
separated_at missing item between close xs ts = separated_from missing item between close (length ts) xs ts

-- the item x, and behind it the others, each after a separator, and a token that closes the list
abbrev pub AreSeparated : {T A : Type 0} → (List T → A → Type 0) → (T → Bool → Type 0) → A → List T → List A → Type 0
AreSeparated {T} Line Between x us [] = (vs : List T) × (t : T) × (us ≡ vs ++ t ∷ []) × Line vs x × Between t false
AreSeparated {T} Line Between x us (y ∷ ys) = (vs ws : List T) × (t : T) × (us ≡ vs ++ t ∷ ws) × Line vs x
    × Between t true × AreSeparated Line Between y ws ys

-- one or more items
pub record Separated {T A : Type 0} (Line : List T → A → Type 0) (Between : T → Bool → Type 0) (us : List T)
    (all : List A) : Type 0 where
  pub first : A
  pub others : List A
  pub is : all ≡ first ∷ others
  pub are : AreSeparated Line Between first us others
