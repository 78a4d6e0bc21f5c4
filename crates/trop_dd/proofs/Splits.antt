-- One more row is split off.
use Rattle.std.proofs.Common.{◌≡◌, ◌<◌, ◌≤◌, ◌+◌, ℕ, List, [], ◌∷◌, ◌++◌, length, ⊎_elim, sym, ap, ◌∙◌, refl, arith, subst, get_or}
use Rattle.std.specs.Prelude.{All, Any, Contains}
use Rattle.std.proofs.lemmas.Bool.{cases_lt}
use Rattle.std.proofs.lemmas.List.{get_or_default, length-append, get_or_append_left, get_or_push, map-append}
use Rattle.std.proofs.lemmas.List.Elements.{All-nil, All-push, All-weaker, Contains-push, Contains-append_left}
use Rattle.std.proofs.lemmas.List.Quantifiers.{Any-push, all_pairs_push}
use Rattle.trop_theory.specs.Semiring.{Semiring}
use Rattle.trop_theory.specs.Vectors.{dot}
use Rattle.trop_theory.specs.Inequalities.{Inequality}
use Rattle.trop_theory.proofs.Truth.{HoldsOf}
use Rattle.trop_pruning.specs.Judged.{Side, IsSide}
use Rattle.trop_pruning.specs.Kept.{IsAddition}
use Rattle.trop_pairs.specs.declared.keeping.Addition.{Addition}
use Rattle.trop_dd.specs.declared.splitting.Kept.{Kept}
use Rattle.trop_dd.specs.declared.splitting.Dropped.{Dropped}
use Rattle.trop_dd.specs.Carried.{AreBeside}
use Rattle.trop_dd.specs.Parts.{IsKept, IsDropped, IsSplit, AreAdditions}

Any-longer : {X : Type 0} (P : X → Type 0) (xs : List X) (y : X) → Any P xs → Any P (xs ++ y ∷ [])
Any-longer P xs y h = (
  h.0,
  h.1,
  omega (arith, h.2, length-append xs (y ∷ [])),
  get_or_append_left xs (y ∷ []) h.1 h.0 h.2 ∙ h.3,
  h.4,
)

module _ {V : Type 0} (R : Semiring V) (p : Inequality V) (sides : List (Side V)) where
  pub split_none : IsSplit R p sides 0 [] [] []
  split_none = record {
    stay_ascending = λ i j d lt l. absurd (omega arith);
    stay_each = All-nil (λ k. (k < 0) × ((d : Side V) → HoldsOf R p.left p.right (get_or sides k d).row));
    stay_all = λ k d l h. absurd (omega arith);
    kept_each = All-nil (IsKept R p sides);
    kept_all = λ k d l h f. absurd (omega arith);
    dropped_each = All-nil (IsDropped R p sides);
    dropped_all = λ k d l h. absurd (omega arith);
  }

  pub split_start : (stay : List ℕ) (kept : List (Kept V)) (dropped : List (Dropped V)) → stay ≡ [] → kept ≡ [] →
      dropped ≡ [] → IsSplit R p sides 0 stay kept dropped
  split_start stay kept dropped es ek ed =
      subst (λ b. IsSplit R p sides 0 b kept dropped) (sym es)
      (subst (λ c. IsSplit R p sides 0 [] c dropped) (sym ek)
      (subst (IsSplit R p sides 0 [] []) (sym ed) split_none))

  module _ (m : ℕ) (stay : List ℕ) (kept : List (Kept V)) (dropped : List (Dropped V)) (side : Side V)
      (within : m < length sides) (read : side ≡ get_or sides m side) (h : IsSplit R p sides m stay kept dropped) where
    at : (k : ℕ) (d : Side V) → m ≤ k → k < m + 1 → get_or sides k d ≡ side
    at k d low lt = ap (λ i. get_or sides i d) (let e : k ≡ m = omega arith in e) ∙ get_or_default sides m d side within
        ∙ sym read

    stay_before : All (λ k. (k < m + 1) × ((d : Side V) → HoldsOf R p.left p.right (get_or sides k d).row)) stay
    stay_before = All-weaker (λ k. (k < m) × ((d : Side V) → HoldsOf R p.left p.right (get_or sides k d).row))
        (λ k. (k < m + 1) × ((d : Side V) → HoldsOf R p.left p.right (get_or sides k d).row))
        (λ k s. (omega (arith, s.0), s.1)) stay h.stay_each

    pub split_drop : (part : Dropped V) → part.place ≡ m → IsDropped R p sides part →
        (HoldsOf R p.left p.right side.row → ⊥) → IsSplit R p sides (m + 1) stay kept (dropped ++ part ∷ [])
    split_drop part e is fails = record {
      stay_ascending = h.stay_ascending;
      stay_each = stay_before;
      stay_all = λ k d l holds. ⊎_elim (λ lt. h.stay_all k d lt holds)
          (λ le. absurd (fails (subst (λ s. HoldsOf R p.left p.right s.row) (at k d le l) holds))) (cases_lt k m);
      kept_each = h.kept_each;
      kept_all = λ k d l holds f. ⊎_elim (λ lt. h.kept_all k d lt holds f)
          (λ le. absurd (fails (subst (λ s. HoldsOf R p.left p.right s.row) (at k d le l) holds))) (cases_lt k m);
      dropped_each = All-push (IsDropped R p sides) dropped part h.dropped_each is;
      dropped_all = λ k d l f. ⊎_elim
          (λ lt. Any-longer (λ q. q.place ≡ k) dropped part (h.dropped_all k d lt f))
          (λ le. Any-push (λ q. q.place ≡ k) dropped part (omega (arith, e, le, l)))
          (cases_lt k m);
    }

    module _ (holds : HoldsOf R p.left p.right side.row) where
      stay_here : All (λ k. (k < m + 1) × ((d : Side V) → HoldsOf R p.left p.right (get_or sides k d).row))
          (stay ++ m ∷ [])
      stay_here = All-push (λ k. (k < m + 1) × ((d : Side V) → HoldsOf R p.left p.right (get_or sides k d).row)) stay
          m stay_before (
            omega arith,
            λ d. subst (λ s. HoldsOf R p.left p.right s.row)
                (sym (at m d (omega arith) (omega arith))) holds,
          )

      stay_all : (k : ℕ) (d : Side V) → k < m + 1 → HoldsOf R p.left p.right (get_or sides k d).row →
          Contains (stay ++ m ∷ []) k
      stay_all k d l t = ⊎_elim
          (λ lt. Contains-append_left stay (m ∷ []) k (h.stay_all k d lt t))
          (λ le. subst (Contains (stay ++ m ∷ [])) (omega (arith, le, l)) (Contains-push stay m))
          (cases_lt k m)

      dropped_all : (k : ℕ) (d : Side V) → k < m + 1 → (HoldsOf R p.left p.right (get_or sides k d).row → ⊥) →
          Any (λ q. q.place ≡ k) dropped
      dropped_all k d l f = ⊎_elim
          (λ lt. h.dropped_all k d lt f)
          (λ le. absurd (f (subst (λ s. HoldsOf R p.left p.right s.row) (sym (at k d le l)) holds)))
          (cases_lt k m)

      pub split_keep : (part : Kept V) → part.place ≡ m → IsKept R p sides part →
          IsSplit R p sides (m + 1) (stay ++ m ∷ []) (kept ++ part ∷ []) dropped
      split_keep part e is = record {
        stay_ascending = all_pairs_push (λ i j. i < j) stay m h.stay_ascending (λ k d l. (h.stay_each k d l).0);
        stay_each = stay_here;
        stay_all = stay_all;
        kept_each = All-push (IsKept R p sides) kept part h.kept_each is;
        kept_all = λ k d l t f. ⊎_elim
            (λ lt. Any-longer (λ q. q.place ≡ k) kept part (h.kept_all k d lt t f))
            (λ le. Any-push (λ q. q.place ≡ k) kept part (omega (arith, e, le, l)))
            (cases_lt k m);
        dropped_each = h.dropped_each;
        dropped_all = dropped_all;
      }

      pub split_keep_alone : dot R p.right side.row ≡ R.zero → IsSplit R p sides (m + 1) (stay ++ m ∷ []) kept dropped
      split_keep_alone z = record {
        stay_ascending = all_pairs_push (λ i j. i < j) stay m h.stay_ascending (λ k d l. (h.stay_each k d l).0);
        stay_each = stay_here;
        stay_all = stay_all;
        kept_each = h.kept_each;
        kept_all = λ k d l t f. ⊎_elim
            (λ lt. h.kept_all k d lt t f)
            (λ le. absurd (f (ap (λ s. dot R p.right s.row) (at k d le l) ∙ z)))
            (cases_lt k m);
        dropped_each = h.dropped_each;
        dropped_all = dropped_all;
      }

module _ {V : Type 0} (R : Semiring V) (n : ℕ) (system : List (Inequality V)) (p : Inequality V)
    (sides : List (Side V)) where
  pub additions_start : (additions : List (Addition V)) → additions ≡ [] → AreAdditions R n system p sides 0 additions
  additions_start additions e = record { many = ap length e; each = λ k d f l h. absurd (omega arith) }

  -- one more row with what is put beside it
  pub additions_more : (m : ℕ) (additions new : List (Addition V)) (one : Addition V) (side : Side V) →
      m < length sides → side ≡ get_or sides m side → AreAdditions R n system p sides m additions →
      new ≡ additions ++ one ∷ [] → (HoldsOf R p.left p.right side.row →
      IsAddition R n system p side one.slot one.types one.alone) → AreAdditions R n system p sides (m + 1) new
  additions_more m additions new one side l read h e a =
      subst (AreAdditions R n system p sides (m + 1)) (sym e) (record {
        many = omega (arith, length-append additions (one ∷ []), h.many);
        each = λ k d f lt holds. ⊎_elim
            (λ old. subst (λ x. IsAddition R n system p (get_or sides k d) x.slot x.types x.alone)
            (sym (get_or_append_left additions (one ∷ []) f k (omega (arith, h.many, old)))) (h.each k d f old holds))
            (λ le.
            let same : k ≡ m = omega arith in
            let at : get_or sides k d ≡ side = ap (λ i. get_or sides i d) same ∙ get_or_default sides m d side l
            ∙ sym read in
            subst (λ x. IsAddition R n system p (get_or sides k d) x.slot x.types x.alone)
            (sym (get_or_push additions one f k (h.many ∙ sym same)))
            (subst (λ s. IsAddition R n system p s one.slot one.types one.alone) (sym at)
            (a (subst (λ s. HoldsOf R p.left p.right s.row) at holds))))
            (cases_lt k m);
      })

-- one more row with what is carried beside it
pub carried_push : {V : Type 0} (R : Semiring V) (n : ℕ) (system : List (Inequality V)) (rows : List (List V))
    (sides : List (Side V)) (side : Side V) → AreBeside R n system rows sides → IsSide R n system side →
    AreBeside R n system (rows ++ side.row ∷ []) (sides ++ side ∷ [])
carried_push R n system rows sides side h s = record {
  each = All-push (IsSide R n system) sides side h.each s;
  same = map-append (λ a. a.row) sides (side ∷ []) ∙ ap (λ w. w ++ side.row ∷ []) h.same;
}

pub carried_none : {V : Type 0} (R : Semiring V) (n : ℕ) (system : List (Inequality V)) → AreBeside R n system [] []
carried_none R n system = record { each = All-nil (IsSide R n system); same = refl }
