-- Lists of rows in normal form, made one row after another.
use Rattle.std.proofs.Common.{◌≡◌, ◌≢◌, ◌<◌, ◌≤◌, ◌+◌, ℕ, List, [], ◌∷◌, ◌++◌, length, map, take, get_or, set, refl, sym, ap, ◌∙◌, subst, arith}
use Rattle.std.specs.Prelude.{All}
use Rattle.std.specs.List.{AllZip}
use Rattle.std.proofs.lemmas.List.{take_more, take_all}
use Rattle.std.proofs.lemmas.List.Elements.{All-contains, Contains-get_or}
use Rattle.trop_theory.specs.Semiring.{Semiring, SemiringLaws}
use Rattle.trop_theory.specs.Vectors.{bottom, row_size, rows_size}
use Rattle.trop_theory.specs.Normal.{Normalises}
use Rattle.trop_theory.proofs.StepLists.{chosen_push, chosen_skip, length_chosen, from_chosen}
use Rattle.trop_row.proofs.NormalSteps.{size_normalised}
use Rattle.trop_cones.proofs.Sizes.{rows_size-each, All-rows_size, row_size-set}
use Rattle.plain_lemmas.proofs.Lists.{back_in_zip}
use Rattle.cone_reports.specs.EdgeLists.{AreNormalised}
use Rattle.cone_reports.proofs.Normalised.{normalised_not_bottom}

map-push : {X Y : Type 0} (f : X → Y) (xs : List X) (x : X) → map f (xs ++ x ∷ []) ≡ map f xs ++ f x ∷ []
map-push f [] x = refl
map-push f (y ∷ xs) x = ap (λ l. f y ∷ l) (map-push f xs x)

pub zip-push : {X Y : Type 0} (Q : X → Y → Type 0) (xs : List X) (ys : List Y) (x : X) (y : Y) → AllZip Q xs ys → Q x y
    → AllZip Q (xs ++ x ∷ []) (ys ++ y ∷ [])
zip-push Q [] [] x y h q = (q, tt)
zip-push Q [] (b ∷ ys) x y h q = absurd h
zip-push Q (a ∷ xs) [] x y h q = absurd h
zip-push Q (a ∷ xs) (b ∷ ys) x y h q = (h.0, zip-push Q xs ys x y h.1 q)

length-zip : {X Y : Type 0} (Q : X → Y → Type 0) (xs : List X) (ys : List Y) → AllZip Q xs ys → length ys ≡ length xs
length-zip Q [] [] h = refl
length-zip Q [] (b ∷ ys) h = absurd h
length-zip Q (a ∷ xs) [] h = absurd h
length-zip Q (a ∷ xs) (b ∷ ys) h = let r = length-zip Q xs ys h.1 in omega (arith, r)

module _ {V : Type 0} {R : Semiring V} (laws : SemiringLaws R) where
  -- a copy of a row with one entry changed
  pub changed_small : (row copy out : List V) (i : ℕ) (v : V) (most : ℕ) → copy ≡ row → out ≡ set copy i v
      → row_size R row ≤ most → R.size v ≤ most → row_size R out ≤ most
  changed_small row copy out i v most same changed small value = omega (
    arith,
    ap (row_size R) changed,
    row_size-set laws copy i v most (omega (arith, ap (row_size R) same, small)) value,
  )

  pub normalised_first : AreNormalised R [] []
  normalised_first = record { finite = []; chosen = refl; each = tt }

  -- one more row, brought to normal form
  pub normalised_push : (rows others : List (List V)) (x y : List V) → AreNormalised R rows others → Normalises R x y
      → AreNormalised R (rows ++ x ∷ []) (others ++ y ∷ [])
  normalised_push rows others x y h m = record {
    finite = h.finite ++ x ∷ [];
    chosen = chosen_push (λ x. x ≢ bottom R (length x)) rows h.finite x h.chosen (normalised_not_bottom laws x y m);
    each = zip-push (Normalises R) h.finite others x y h.each m;
  }

  -- one more row of zeros
  pub normalised_skip : (rows others : List (List V)) (x : List V) → AreNormalised R rows others
      → x ≡ bottom R (length x) → AreNormalised R (rows ++ x ∷ []) others
  normalised_skip rows others x h e = record {
    finite = h.finite;
    chosen = chosen_skip (λ x. x ≢ bottom R (length x)) rows h.finite x h.chosen (λ f. f e);
    each = h.each;
  }

  -- the next row of a list, changed
  pub normalised_more : (f : List V → List V) (rows outs news : List (List V)) (i : ℕ) (x next : List V)
      → x ≡ get_or rows i x → i < length rows → next ≡ f x → AreNormalised R (map f (take i rows)) outs
      → ((olds : List (List V)) → AreNormalised R olds outs → AreNormalised R (olds ++ next ∷ []) news)
      → AreNormalised R (map f (take (i + 1) rows)) news
  normalised_more f rows outs news i x next is l e h step =
      let more : take (i + 1) rows ≡ take i rows ++ x ∷ [] =
      take_more rows i x l ∙ ap (λ v. take i rows ++ v ∷ []) (sym is) in
      let whole : map f (take (i + 1) rows) ≡ map f (take i rows) ++ next ∷ [] =
      ap (map f) more ∙ map-push f (take i rows) x ∙ ap (λ v. map f (take i rows) ++ v ∷ []) (sym e) in
      subst (λ olds. AreNormalised R olds news) (sym whole) (step (map f (take i rows)) h)

  pub normalised_whole : (f : List V → List V) (rows outs : List (List V)) (i : ℕ) → length rows ≤ i
      → AreNormalised R (map f (take i rows)) outs → AreNormalised R (map f rows) outs
  normalised_whole f rows outs i l h = subst (λ olds. AreNormalised R (map f olds) outs) (take_all i rows l) h

  -- no more rows than before
  pub normalised_few : (rows others : List (List V)) → AreNormalised R rows others → length others ≤ length rows
  normalised_few rows others h = omega (
    arith,
    length-zip (Normalises R) h.finite others h.each,
    length_chosen (λ x. x ≢ bottom R (length x)) rows h.finite h.chosen,
  )

  -- and numbers at most twice as large
  pub normalised_small : (rows others : List (List V)) (m : ℕ) → rows_size R rows ≤ m → AreNormalised R rows others
      → rows_size R others ≤ m + m
  normalised_small rows others m small h = rows_size-each laws others (m + m) each
    where
      each : All (λ y. row_size R y ≤ m + m) others
      each k d l =
          let y = get_or others k d in
          let from = back_in_zip (Normalises R) h.finite others h.each y (Contains-get_or others k d l) in
          let at = from_chosen (λ x. x ≢ bottom R (length x)) rows h.finite h.chosen from.0 from.1 in
          let bound = All-contains (λ x. row_size R x ≤ m) rows from.0 (All-rows_size laws rows m small) at.0 in
          omega (arith, size_normalised laws from.0 y from.2, bound)
