-- What is proved once over any semiring, over each of the three.
use Rattle.std.proofs.Common.{◌≡◌, Bool, true, false, List, [], Option, refl, sym, subst, append-nil}
use Rattle.std.specs.Prelude.{ℤ}
use Rattle.trop_theory.specs.Semiring.{Semiring, SemiringLaws}
use Rattle.trop_theory.specs.Numbers.{Numbering}
use Rattle.trop_scalar.specs.MaxPlus.{max_ring, max_numbering}
use Rattle.trop_scalar.specs.MaxPlusLaws.{max_laws, max_numeric_laws}
use Rattle.trop_scalar.specs.MinPlus.{min_ring}
use Rattle.trop_scalar.specs.MinPlusLaws.{min_laws, min_numeric_laws}
use Rattle.trop_scalar.specs.Truth.{truth_ring, truth_numbering}
use Rattle.trop_scalar.specs.TruthLaws.{truth_laws}
use Rattle.trop_grammar.specs.Reading.{read_then, gives}
use Rattle.trop_grammar.specs.Grammar.{Then, Empty}
use Rattle.trop_grammar.specs.Reads.{Reads, Anything}
use Rattle.trop_grammar.proofs.Ends.{EndsWith, EndsWith-gives}
use Rattle.trop_grammar.proofs.Laws.{Reads-then, Reads-gives}
use Rattle.trop_text.specs.Pieces.{Piece}
use Rattle.trop_spelling.specs.declared.ring_kind.RingKind.{RingKind}
use Rattle.trop_spelling.specs.declared.ring_kind.RingKind.TheVariants.{Max as MaxKind, Min as MinKind, Bool as BoolKind}
use Rattle.trop_spelling.specs.Spelling.{KindLaws}
use Rattle.trop_spelling.specs.SpellingLaws.{truth_only}
use Rattle.trop_spelling.specs.Over.{Over, OverMax, OverMin, OverBool, Embedding, IsOneOfThree, Three, IsThree, Holds, Grammars, InKind, Readings, in_kind_at}

-- a value that takes no token
alone : {A B : Type 0} {G : List Piece → A → Type 0} (f : A → B) (us : List Piece) (x : A) → G us x →
    Then G (λ y. Empty (f y)) us (f x)
alone f us x g = record {
  front = us;
  back = [];
  value = x;
  whole = sym (append-nil us);
  first = g;
  second =
      record { none = refl; is = refl };
}

module _ {F : Type 0 → Type 0} (r : Readings F) (G : Grammars F) where
  -- a reading function that reads its grammar over any semiring reads it in each kind
  pub Reads-in_kind : ((V : Type 0) (kind : RingKind) (R : Semiring V) (N : Numbering V) →
      Reads Anything (r V kind R N) (G V kind R N)) → (kind : RingKind) →
      Reads Anything (in_kind_at r kind) (InKind G kind)
  unfolding in_kind_at
  Reads-in_kind each MaxKind = Reads-then (each (Option ℤ) MaxKind max_ring max_numbering)
      (λ x. Reads-gives (OverMax x))
  Reads-in_kind each MinKind = Reads-then (each (Option ℤ) MinKind min_ring max_numbering)
      (λ x. Reads-gives (OverMin x))
  Reads-in_kind each BoolKind = Reads-then (each Bool BoolKind truth_ring truth_numbering)
      (λ x. Reads-gives (OverBool x))

module _ {F : Type 0 → Type 0} (G : Grammars F) where
  -- texts that end in the same way over any semiring do so in each kind
  pub EndsWith-in_kind : {E : Piece → Type 0} → ((V : Type 0) (kind : RingKind) (R : Semiring V) (N : Numbering V) →
      EndsWith E (G V kind R N)) → (kind : RingKind) → EndsWith E (InKind G kind)
  EndsWith-in_kind each MaxKind = EndsWith-gives (each (Option ℤ) MaxKind max_ring max_numbering)
  EndsWith-in_kind each MinKind = EndsWith-gives (each (Option ℤ) MinKind min_ring max_numbering)
  EndsWith-in_kind each BoolKind = EndsWith-gives (each Bool BoolKind truth_ring truth_numbering)

  -- what each text means by the laws of its semiring
  pub holds_in_kind : (P : (V : Type 0) → RingKind → Semiring V → Numbering V → F V → Type 0)
      → ((V : Type 0) (kind : RingKind) (R : Semiring V) (N : Numbering V) (reversed : Bool) → SemiringLaws R →
      KindLaws kind R N reversed → (us : List Piece) (x : F V) → G V kind R N us x → P V kind R N x)
      → (kind : RingKind) (us : List Piece) (v : Over F) → InKind G kind us v → Holds P v
  holds_in_kind P each MaxKind us v g = subst (Holds P) (sym g.second.is)
      (each (Option ℤ) MaxKind max_ring max_numbering false max_laws (max_numeric_laws, refl) g.front g.value g.first)
  holds_in_kind P each MinKind us v g = subst (Holds P) (sym g.second.is)
      (each (Option ℤ) MinKind min_ring max_numbering true min_laws (min_numeric_laws, refl) g.front g.value g.first)
  holds_in_kind P each BoolKind us v g = subst (Holds P) (sym g.second.is)
      (each Bool BoolKind truth_ring truth_numbering false truth_laws truth_only g.front g.value g.first)

-- ---- a semiring that is one of the three

module _ {V : Type 0} {kind : RingKind} {R : Semiring V} {N : Numbering V} {over : Embedding V}
    (one : IsOneOfThree V kind R N over) {F : Type 0 → Type 0} where
  -- its texts are those of its kind
  pub in_kind : (G : Grammars F) (us : List Piece) (x : F V) → G V kind R N us x → InKind G kind us (over F x)
  in_kind G =
      one (λ V kind R N over. (us : List Piece) (x : F V) → G V kind R N us x → InKind G kind us (over F x))
      (λ us x g. alone (λ (y : F (Option ℤ)). OverMax y) us x g)
      (λ us x g. alone (λ (y : F (Option ℤ)). OverMin y) us x g)
      (λ us x g. alone (λ (y : F Bool). OverBool y) us x g)

  -- reading in its kind is reading over it
  pub in_kind-at : (r : Readings F) (ts : List Piece) →
      in_kind_at r kind ts ≡ read_then (r V kind R N) (λ x. gives (over F x)) ts
  unfolding in_kind_at
  in_kind-at r = one (λ V kind R N over. (ts : List Piece) →
      in_kind_at r kind ts ≡ read_then (r V kind R N) (λ x. gives (over F x)) ts) (λ ts. refl) (λ ts. refl) (λ ts. refl)

-- ---- what holds in the semiring over which a value stands

-- what follows from it
pub Holds-weaker : {F : Type 0 → Type 0} (P Q : (V : Type 0) → RingKind → Semiring V → Numbering V → F V → Type 0) →
    ((V : Type 0) (kind : RingKind) (R : Semiring V) (N : Numbering V) (x : F V) → P V kind R N x → Q V kind R N x) →
    (v : Over F) → Holds P v → Holds Q v
Holds-weaker P Q to (OverMax x) h = to (Option ℤ) MaxKind max_ring max_numbering x h
Holds-weaker P Q to (OverMin x) h = to (Option ℤ) MinKind min_ring max_numbering x h
Holds-weaker P Q to (OverBool x) h = to Bool BoolKind truth_ring truth_numbering x h

-- over one of the three it is what is said there
pub Holds-over : {V : Type 0} {kind : RingKind} {R : Semiring V} {N : Numbering V} {over : Embedding V} →
    IsOneOfThree V kind R N over → {F : Type 0 → Type 0}
    (P : (V : Type 0) → RingKind → Semiring V → Numbering V → F V → Type 0) (x : F V) → P V kind R N x →
    Holds P (over F x)
Holds-over one {F} P = one (λ V kind R N over. (x : F V) → P V kind R N x → Holds P (over F x)) (λ x h. h) (λ x h. h)
    (λ x h. h)

-- ---- the three

-- a semiring that is of its kind
pub one_of : {V : Type 0} (three : Three V) (kind : RingKind) (R : Semiring V) (N : Numbering V) →
    IsThree three kind R N → IsOneOfThree V kind R N three.over
one_of {V} three kind R N is P in_max in_min in_bool =
    subst (λ N. P V kind R N three.over) is.numbering_is
    (subst (λ R. P V kind R three.numbering three.over) is.ring_is
    (subst (λ kind. P V kind three.ring three.numbering three.over) is.kind_is
    (three.each P in_max in_min in_bool)))
