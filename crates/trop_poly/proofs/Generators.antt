-- The rows of joins, projections and assignments.
use Rattle.std.proofs.Common.{◌≡◌, ◌<◌, ◌≤◌, ◌+◌, ℕ, List, [], ◌∷◌, ◌++◌, length, map, take, set, get_or, sym, ap, ◌∙◌, arith}
use Rattle.std.specs.Prelude.{All, ◌↔◌}
use Rattle.std.proofs.lemmas.List.{take_more, map_push, append_assoc, length-set, length-replicate}
use Rattle.std.proofs.lemmas.List.Elements.{All-append, All-map, All-push}
use Rattle.trop_theory.specs.Semiring.{Semiring, SemiringLaws}
use Rattle.trop_theory.specs.Vectors.{entry, bottom, row_size, rows_size}
use Rattle.trop_theory.specs.Combinations.{IsCombination}
use Rattle.trop_cones.specs.Sets.{InJoin, InForget, InAssign, assigned}
use Rattle.trop_cones.proofs.Operations.{join_by_rows, forget_by_rows}
use Rattle.trop_cones.proofs.Images.{assign_by_rows}
use Rattle.trop_cones.proofs.Generated.{IsUnit-set}
use Rattle.trop_cones.proofs.Sizes.{row_size-set, row_size-bottom, row_size-assigned, rows_size-each, All-rows_size}
use Rattle.trop_poly.proofs.Kept.{combinations_as}

-- one more row is changed
pub mapped_more : {X Y : Type 0} (f : X → Y) (xs : List X) (old new : List Y) (i : ℕ) (x : X) (y : Y) → i < length xs →
    x ≡ get_or xs i x → y ≡ f x → old ≡ map f (take i xs) → new ≡ old ++ y ∷ [] → new ≡ map f (take (i + 1) xs)
mapped_more f xs old new i x y l read same h e =
    e ∙ ap (λ o. o ++ y ∷ []) h ∙ ap (λ z. map f (take i xs) ++ z ∷ []) same ∙ sym (map_push f (take i xs) x)
    ∙ ap (λ z. map f (take i xs ++ z ∷ [])) read ∙ ap (map f) (sym (take_more xs i x l))

-- one more row is copied, behind those that stood
pub copied_more : {X : Type 0} (xs start old new : List X) (i : ℕ) (x y : X) → i < length xs → x ≡ get_or xs i x →
    y ≡ x → old ≡ start ++ take i xs → new ≡ old ++ y ∷ [] → new ≡ start ++ take (i + 1) xs
copied_more xs start old new i x y l read same h e =
    e ∙ ap (λ o. o ++ y ∷ []) h ∙ append_assoc start (take i xs) (y ∷ []) ∙ ap (λ z. start ++ (take i xs ++ z ∷ []))
    (same ∙ read) ∙ ap (λ z. start ++ z) (sym (take_more xs i x l))

-- ---- how wide and how large the rows are
module _ {V : Type 0} {R : Semiring V} (laws : SemiringLaws R) (m : ℕ) where
  pub small_join : (rows others : List (List V)) → rows_size R rows ≤ m → rows_size R others ≤ m →
      rows_size R (rows ++ others) ≤ m
  small_join rows others h k = rows_size-each laws (rows ++ others) m
      (All-append (λ g. row_size R g ≤ m) rows others (All-rows_size laws rows m h) (All-rows_size laws others m k))

  pub small_forgetting : (n i : ℕ) (rows : List (List V)) → rows_size R rows ≤ m →
      rows_size R (map (λ g. set g i R.zero) rows ++ set (bottom R n) i R.one ∷ []) ≤ m
  small_forgetting n i rows h =
      rows_size-each laws (map (λ g. set g i R.zero) rows ++ set (bottom R n) i R.one ∷ []) m
      (All-push (λ g. row_size R g ≤ m) (map (λ g. set g i R.zero) rows) (set (bottom R n) i R.one)
      (All-map (λ g. row_size R g ≤ m) (λ g. set g i R.zero) rows
      (λ k d l. row_size-set laws (get_or rows k d) i R.zero m (All-rows_size laws rows m h k d l)
      (omega (arith, laws.size_zero))))
      (row_size-set laws (bottom R n) i R.one m (row_size-bottom laws n m) (omega (arith, laws.size_one))))

  pub small_assigned : (i from : ℕ) (c : V) (rows : List (List V)) → rows_size R rows + R.size c ≤ m →
      rows_size R (map (assigned R i from c) rows) ≤ m
  small_assigned i from c rows h =
      rows_size-each laws (map (assigned R i from c) rows) m
      (All-map (λ g. row_size R g ≤ m) (assigned R i from c) rows
      (λ k d l. omega (
        arith,
        h,
        row_size-assigned laws (get_or rows k d) i from c,
        All-rows_size laws rows (rows_size R rows) (omega arith) k d l,
      )))

module _ {V : Type 0} (R : Semiring V) (n : ℕ) where
  pub wide_forgetting : (i : ℕ) (rows : List (List V)) → All (λ g. length g ≡ n) rows →
      All (λ g. length g ≡ n) (map (λ g. set g i R.zero) rows ++ set (bottom R n) i R.one ∷ [])
  wide_forgetting i rows w =
      All-push (λ g. length g ≡ n) (map (λ g. set g i R.zero) rows) (set (bottom R n) i R.one)
      (All-map (λ g. length g ≡ n) (λ g. set g i R.zero) rows
      (λ k d l. length-set (get_or rows k d) i R.zero ∙ w k d l))
      (length-set (bottom R n) i R.one ∙ length-replicate n R.zero)

  pub wide_assigned : (i from : ℕ) (c : V) (rows : List (List V)) → All (λ g. length g ≡ n) rows →
      All (λ g. length g ≡ n) (map (assigned R i from c) rows)
  wide_assigned i from c rows w = All-map (λ g. length g ≡ n) (assigned R i from c) rows
      (λ k d l. length-set (get_or rows k d) i (R.times c (entry R (get_or rows k d) from)) ∙ w k d l)

-- ---- what they generate
module _ {V : Type 0} {R : Semiring V} (laws : SemiringLaws R) (n m : ℕ) (list : List (List V)) (width : m ≡ n) where
  pub joined_rows : (rows others : List (List V)) → All (λ g. length g ≡ n) rows → All (λ g. length g ≡ n) others →
      list ≡ rows ++ others → (x : List V) → IsCombination R m list x ↔ InJoin R (IsCombination R n rows)
      (IsCombination R n others) x
  joined_rows rows others w v same x =
      let a = combinations_as R n m (rows ++ others) list width same x in
      let b = join_by_rows laws n rows others w v x in
      (λ h. b.0 (a.0 h), λ h. a.1 (b.1 h))

  pub forgetting_rows : (i : ℕ) (rows : List (List V)) → All (λ g. length g ≡ n) rows → i < n →
      list ≡ map (λ g. set g i R.zero) rows ++ set (bottom R n) i R.one ∷ [] → (x : List V) →
      IsCombination R m list x ↔ InForget R (IsCombination R n rows) i x
  forgetting_rows i rows w l same x =
      let a = combinations_as R n m (map (λ g. set g i R.zero) rows ++ set (bottom R n) i R.one ∷ []) list width same
      x in
      let b = forget_by_rows laws n i rows (set (bottom R n) i R.one) w l (IsUnit-set R n i l) x in
      (λ h. b.0 (a.0 h), λ h. a.1 (b.1 h))

  pub assigned_rows : (i from : ℕ) (c : V) (rows : List (List V)) → All (λ g. length g ≡ n) rows →
      list ≡ map (assigned R i from c) rows → (x : List V) →
      IsCombination R m list x ↔ InAssign R (IsCombination R n rows) i from c x
  assigned_rows i from c rows w same x =
      let a = combinations_as R n m (map (assigned R i from c) rows) list width same x in
      let b = assign_by_rows laws n i from c rows w x in
      (λ h. b.0 (a.0 h), λ h. a.1 (b.1 h))
