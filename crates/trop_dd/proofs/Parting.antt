-- The row at a place, as it is read, and where it belongs.
use Rattle.std.proofs.Common.{◌≡◌, ◌≢◌, ◌<◌, ◌≤◌, ◌+◌, ◌^◌, ◌++◌, [], ◌∷◌, ℕ, List, length, sym, ap, ◌∙◌, arith, subst, get_or}
use Rattle.std.specs.Prelude.{All, ◌↔◌}
use Rattle.std.proofs.lemmas.List.{get_or_default}
use Rattle.trop_theory.specs.Semiring.{Semiring, SemiringLaws, Le}
use Rattle.trop_theory.specs.Vectors.{dot, row_size}
use Rattle.trop_theory.specs.Inequalities.{Inequality, IsIn, IsTrueAt, inequality_size}
use Rattle.trop_theory.proofs.Truth.{HoldsOf, truth}
use Rattle.trop_criterion.specs.Hypergraphs.{Has}
use Rattle.trop_criterion.specs.Tangents.{Attains}
use Rattle.trop_pruning.specs.Slots.{Slot, IsSlot}
use Rattle.trop_pruning.specs.Judged.{Side, IsSide}
use Rattle.trop_pruning.proofs.NewSlots.{dropped_finite}
use Rattle.trop_pairs.specs.declared.terms.Term.{Term}
use Rattle.trop_pairs.specs.declared.reading.Sums.{Sums}
use Rattle.trop_pairs.specs.Sums.{AreTerms, HasTerms, Fits, AreSums}
use Rattle.trop_pairs.proofs.Summing.{terms_fit}
use Rattle.trop_dd.specs.declared.splitting.Kept.{Kept}
use Rattle.trop_dd.specs.declared.splitting.Dropped.{Dropped}
use Rattle.trop_dd.specs.Carried.{IsNext}
use Rattle.trop_dd.specs.Parts.{IsKept, IsDropped}
use Rattle.trop_dd.proofs.Places.{side_at, size_at, some_type, slot_sizes}

-- what is known of a row with what is carried beside it
pub record Facts {V : Type 0} (R : Semiring V) (n : ℕ) (system : List (Inequality V)) (p : Inequality V)
    (side : Side V) : Type 0 where
  pub carried : IsSide R n system side
  pub inside : IsIn (length side.row) p
  pub size : row_size R side.row ≤ 2 ^ 57
  pub some : (t : ℕ) × Has side.words.types t
  pub slots : All (λ slot. R.size R.one + R.size slot.sum ≤ 2 ^ 62) side.slots

module _ {V : Type 0} {R : Semiring V} (laws : SemiringLaws R) (n : ℕ) (system : List (Inequality V)) (p : Inequality V)
    (sides : List (Side V)) (next : IsNext R n system p sides) (k : ℕ) (l : k < length sides) (side : Side V)
    (read : side ≡ get_or sides k side) where
  pub facts : Facts R n system p side
  facts = subst (Facts R n system p) (sym read) (record {
    carried = side_at laws n system p sides next k side l;
    inside = record {
      left = next.last.left ∙ sym (side_at laws n system p sides next k side l).solves.wide;
      right = next.last.right ∙ sym (side_at laws n system p sides next k side l).solves.wide;
    };
    size = size_at laws n system p sides next k side l;
    some = some_type laws n system p sides next k side l;
    slots = λ i d lt. omega (
      arith,
      laws.size_one,
      slot_sizes laws n system (get_or sides k side) (side_at laws n system p sides next k side l)
          (size_at laws n system p sides next k side l) next.size i d lt,
    );
  })

  here : (d : Side V) → side ≡ get_or sides k d
  here d = read ∙ get_or_default sides k side d l

  -- the row as it was read, for the terms of the inequality
  module _ (x : List V) (is_row : x ≡ side.row) where
    fits : (a : List V) (terms : List (Term V)) → AreTerms R a terms → length a ≡ length side.row →
        row_size R a ≤ inequality_size R p → All (Fits R x) terms
    fits a terms are wide small = subst (λ y. All (Fits R y) terms) (sym is_row)
        (terms_fit R a side.row terms are wide (omega (arith, facts.size, next.last_size, small)))

    pub left_fits : (left right : List (Term V)) → HasTerms R p left right → All (Fits R x) left
    left_fits left right h = fits p.left left h.left facts.inside.left (omega arith)

    pub right_fits : (left right : List (Term V)) → HasTerms R p left right → All (Fits R x) right
    right_fits left right h = fits p.right right h.right facts.inside.right (omega arith)

    module _ (sums : Sums V) (are : IsIn (length x) p → AreSums R p x sums) where
      pub sums_here : AreSums R p side.row sums
      sums_here = subst (λ y. IsIn (length y) p → AreSums R p y sums) is_row are facts.inside

      pub holds_here : Le R sums.left.value sums.right.value → HoldsOf R p.left p.right side.row
      holds_here h = subst (λ a. Le R a (dot R p.right side.row)) sums_here.left.value
          (subst (Le R sums.left.value) sums_here.right.value h)

      pub fails_here : (Le R sums.left.value sums.right.value → ⊥) → HoldsOf R p.left p.right side.row → ⊥
      fails_here f h = f (subst (λ a. Le R a sums.right.value) (sym sums_here.left.value)
          (subst (Le R (dot R p.left side.row)) (sym sums_here.right.value) h))

  pub true_here : HoldsOf R p.left p.right side.row → IsTrueAt R p side.row
  true_here h = (truth laws p.left p.right side.row facts.inside.left facts.inside.right).0 h

  pub kept_here : (slot : Slot V) → HoldsOf R p.left p.right side.row → IsSlot R side.row p slot → slot.sum ≢ R.zero →
      IsKept R p sides (record { place = k; slot = slot })
  kept_here slot h s f = record {
    within = l;
    holds = λ d. subst (λ a. HoldsOf R p.left p.right a.row) (here d) h;
    is_slot = λ d. subst (λ a. IsSlot R a.row p slot) (here d) s;
    finite = f;
  }

  pub dropped_here : (part : Dropped V) → part.place ≡ k → (HoldsOf R p.left p.right side.row → ⊥) →
      part.sum ≡ dot R p.left side.row → ((i : ℕ) →
      Has part.reached i ↔ ((dot R p.left side.row ≢ R.zero) × Attains R p.left side.row i)) → part.words ≡ side.words →
      IsDropped R p sides part
  dropped_here part at fails sum reached words = record {
    within = omega (arith, at, l);
    fails = λ d h. fails (subst (λ a. HoldsOf R p.left p.right a.row) (sym (there d)) h);
    is_sum = λ d. sum ∙ ap (λ a. dot R p.left a.row) (there d);
    reaches = λ d i. subst (λ a. Has part.reached i ↔ Attains R p.left a.row i) (there d) (
      λ h. ((reached i).0 h).1,
      λ a. (reached i).1 (dropped_finite laws p.left p.right side.row fails, a),
    );
    is_words = λ d. words ∙ ap (λ a. a.words) (there d);
  }
    where
      there : (d : Side V) → side ≡ get_or sides part.place d
      there d = here d ∙ ap (λ i. get_or sides i d) (sym at)
