-- The answers of comparisons of two cones: include_yes, include_no, equal_yes, equal_left, equal_right.
use Rattle.std.proofs.Common.{◌≡◌, ◌↔◌, inl, inr, ℕ, Bool, true, false, List, Result, Ok, Err, IfOk, Some, refl, sym, subst}
use Rattle.std.specs.Prelude.{codes, slice_get}
use Rattle.std.specs.declared.alloc.AllocError.{AllocError}
use Rattle.trop_theory.specs.Semiring.{Semiring}
use Rattle.trop_theory.specs.Numbers.{Numbering}
use Rattle.trop_theory.specs.Canonical.{IsCanonical}
use Rattle.trop_spelling.specs.declared.ring_kind.RingKind.{RingKind}
use Rattle.trop_poly.specs.Outside.{IsFirstOutside}
use Rattle.tplib_reply.specs.declared.refusal.Reply.{Reply}
use Rattle.tplib_poly.specs.Outside.{IsOutsider}
use Rattle.tplib_poly.specs.Pairs.{row_line, NamesOutsider, IsIncludeAnswer, IsEqualAnswer}

-- the row at the place is the first outside
pub outsider_at : {V : Type 0} {R : Semiring V} (cone other : List V → Type 0) (rows : List (List V)) (place : ℕ)
    (row : List V) → IsCanonical R cone rows → slice_get rows place ≡ Some row → IsFirstOutside rows other place →
    IsOutsider R cone other row
outsider_at cone other rows place row canonical is first =
    record { rows = rows; place = place; canonical = canonical; is = is; first = first }

-- an answer that is known by its two parts
pub told : (P : Bool → List ℕ → Type 0) (says : Bool) (text : List ℕ) → P says text → (r : Result Reply AllocError) →
    IfOk r (λ reply. reply.yes ≡ says) → IfOk r (λ reply. reply.text.items ≡ text) →
    IfOk r (λ reply. P reply.yes reply.text.items)
told P says text h (Ok reply) said written = subst (λ y. P y reply.text.items) (sym said)
    (subst (P says) (sym written) h)
told P says text h (Err e) said written = tt

module _ {V : Type 0} (kind : RingKind) (R : Semiring V) (N : Numbering V) (cone other : List V → Type 0) where
  pub include_yes : ((x : List V) → cone x → other x) → IsIncludeAnswer kind R N cone other true (codes "included\n")
  include_yes within = (within, refl)

  pub include_no : (row : List V) → IsOutsider R cone other row →
      IsIncludeAnswer kind R N cone other false (row_line kind N (codes "not included: row ") row)
  include_no row outsider = record { row = row; outsider = outsider; line = refl }

  pub equal_yes : ((x : List V) → cone x → other x) → ((x : List V) → other x → cone x) →
      IsEqualAnswer kind R N cone other true (codes "equal\n")
  equal_yes there here = (λ x. (there x, here x), refl)

  pub equal_left : (row : List V) → IsOutsider R cone other row →
      IsEqualAnswer kind R N cone other false (row_line kind N (codes "not equal: left row ") row)
  equal_left row outsider = inl (record { row = row; outsider = outsider; line = refl })

  pub equal_right : (row : List V) → ((x : List V) → cone x → other x) → IsOutsider R other cone row →
      IsEqualAnswer kind R N cone other false (row_line kind N (codes "not equal: right row ") row)
  equal_right row there outsider = inr (there, record { row = row; outsider = outsider; line = refl })
