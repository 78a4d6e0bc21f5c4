-- Fronts of systems, within the limit or stopped, as they grow.
-- Index: size_push, size_append, size_drop, size_slice, front_short, front_and_rest, slice_is, no_front,
-- front_and_slice, front_push, whole_front, fronts_none, fronts_later, fronts_as, fronts_no_stop,
-- stops_longer, stopped_longer, stopped_as, stopped_later.
use Rattle.std.proofs.Common.{◌≡◌, ◌<◌, ◌≤◌, ◌+◌, ◌-◌, ℕ, zero, suc, List, [], ◌∷◌, ◌++◌, length, take, drop, ⊎_elim, sym, ap, ◌∙◌, refl, arith, subst}
use Rattle.std.proofs.lemmas.Bool.{cases_lt}
use Rattle.std.proofs.lemmas.List.{take_all, take-append-le, take-append-drop, length-append, length-take, length-drop}
use Rattle.trop_theory.specs.Semiring.{Semiring}
use Rattle.trop_theory.specs.Inequalities.{Inequality, Solves, inequality_size, system_size}
use Rattle.trop_theory.specs.Canonical.{IsOverLimit}
use Rattle.trop_theory.proofs.Distinct.{within_limit}
use Rattle.trop_cones.specs.RowStops.{IsRowsStop}
use Rattle.trop_dd.specs.declared.error.DdErr.{DdErr}
use Rattle.trop_dd.specs.declared.error.DdErr.TheVariants.{Limit, NoMemory}
pub use Rattle.trop_dd.proofs.Conversions.{size_at, inside_at}
use Rattle.trop_dd.specs.Description.{Describes, AreLaterWithin, IsStoppedBehind}
use Rattle.trop_lean.specs.Fronts.{AreFrontsWithin, IsStoppedAt}

-- ---- sizes
pub size_push : {V : Type 0} (R : Semiring V) (system : List (Inequality V)) (p : Inequality V) (m : ℕ) →
    system_size R system ≤ m → inequality_size R p ≤ m → system_size R (system ++ p ∷ []) ≤ m
size_push R [] p m h l = omega arith
size_push R (q ∷ system) p m h l = omega (arith, size_push R system p m (omega arith) l)

pub size_append : {V : Type 0} (R : Semiring V) (system more : List (Inequality V)) (m : ℕ) → system_size R system ≤ m →
    system_size R more ≤ m → system_size R (system ++ more) ≤ m
size_append R [] more m h l = l
size_append R (q ∷ system) more m h l = omega (arith, size_append R system more m (omega arith) l)

size_take : {V : Type 0} (R : Semiring V) (k : ℕ) (system : List (Inequality V)) →
    system_size R (take k system) ≤ system_size R system
size_take R zero system = omega arith
size_take R (suc k) [] = omega arith
size_take R (suc k) (q ∷ system) = omega (arith, size_take R k system)

pub size_drop : {V : Type 0} (R : Semiring V) (k : ℕ) (system : List (Inequality V)) →
    system_size R (drop k system) ≤ system_size R system
size_drop R zero system = omega arith
size_drop R (suc k) [] = omega arith
size_drop R (suc k) (q ∷ system) = omega (arith, size_drop R k system)

pub size_slice : {V : Type 0} (R : Semiring V) (m k : ℕ) (system : List (Inequality V)) →
    system_size R (take m (drop k system)) ≤ system_size R system
size_slice R m k system = omega (arith, size_take R m (drop k system), size_drop R k system)

-- ---- a front of a list
pub front_short : {X : Type 0} (front whole : List X) → front ≡ take (length front) whole → length front ≤ length whole
front_short front whole e = omega (arith, ap length e, length-take (length front) whole)

pub front_and_rest : {X : Type 0} (front whole : List X) → front ≡ take (length front) whole →
    front ++ drop (length front) whole ≡ whole
front_and_rest front whole e = ap (λ f. f ++ drop (length front) whole) e ∙ take-append-drop (length front) whole

pub slice_is : {X : Type 0} (whole : List X) (k : ℕ) → take (length whole - k) (drop k whole) ≡ drop k whole
slice_is whole k = take_all (length whole - k) (drop k whole) (omega (arith, length-drop k whole))

-- none of a list is a front of any
pub no_front : {X : Type 0} (front whole : List X) → front ≡ [] → front ≡ take (length front) whole
no_front front whole e = subst (λ f. f ≡ take (length f) whole) (sym e) refl

-- what follows a front is the slice from its length on
pub front_and_slice : {X : Type 0} (front whole : List X) (k : ℕ) → k ≡ length front →
    front ≡ take (length front) whole → front ++ take (length whole - k) (drop k whole) ≡ whole
front_and_slice front whole k at e =
    ap (λ s. front ++ s) (take_all (length whole - k) (drop k whole) (omega (arith, length-drop k whole)))
    ∙ ap (λ i. front ++ drop i whole) at
    ∙ front_and_rest front whole e

pub front_push : {X : Type 0} (front whole : List X) (p : X) → front ≡ take (length front) whole →
    front ≡ take (length front) (whole ++ p ∷ [])
front_push front whole p e = e ∙ sym (take-append-le (length front) whole (p ∷ []) (front_short front whole e))

pub whole_front : {X : Type 0} (whole : List X) → whole ≡ take (length whole) whole
whole_front whole = sym (take_all (length whole) whole (omega arith))

module _ {V : Type 0} (R : Semiring V) (n : ℕ) where
  -- ---- fronts within the limit
  pub fronts_none : (rows : List (List V)) → Describes R n [] rows → AreFrontsWithin R n []
  fronts_none rows h zero l o = within_limit R (Solves R n []) rows h.canonical h.within o
  fronts_none rows h (suc j) l o = absurd (omega arith)

  -- and those of what was pushed behind it
  pub fronts_later : (system more : List (Inequality V)) → AreFrontsWithin R n system →
      AreLaterWithin R n (length system) (system ++ more) → AreFrontsWithin R n (system ++ more)
  fronts_later system more h later j l o = ⊎_elim
      (λ a. later j a l o)
      (λ a. h j (omega arith) (subst (λ s. IsOverLimit R (Solves R n s)) (take-append-le j system more (omega arith)) o))
      (cases_lt (length system) j)

  pub fronts_as : (m : ℕ) (s t : List (Inequality V)) → m ≡ n → s ≡ t → AreFrontsWithin R n t → AreFrontsWithin R m s
  fronts_as m s t em es h = subst (λ k. AreFrontsWithin R k s) (sym em) (subst (AreFrontsWithin R n) (sym es) h)

  -- where each front is within the limit, nothing stops
  pub fronts_no_stop : (system : List (Inequality V)) → AreFrontsWithin R n system → (j : ℕ) → IsRowsStop R n system j →
      ⊥
  fronts_no_stop system h j s = h j s.within s.over

  -- ---- stops
  -- what stops a front stops the whole
  pub stops_longer : (system more : List (Inequality V)) (k : ℕ) → IsRowsStop R n system k →
      IsRowsStop R n (system ++ more) k
  stops_longer system more k s = record {
    within = omega (arith, s.within, length-append system more);
    over = subst (λ t. IsOverLimit R (Solves R n t)) (sym (take-append-le k system more s.within)) s.over;
    least = λ j l o. s.least j l (subst (λ t. IsOverLimit R (Solves R n t))
        (take-append-le j system more (omega (arith, s.within))) o);
  }

  pub stopped_longer : (system more whole : List (Inequality V)) (err : DdErr) → system ++ more ≡ whole →
      IsStoppedAt R n system err → IsStoppedAt R n whole err
  stopped_longer system more whole NoMemory e s = tt
  stopped_longer system more whole (Limit k) e s = subst (λ t. IsRowsStop R n t k) e (stops_longer system more k s)

  pub stopped_as : (m : ℕ) (s t : List (Inequality V)) (err : DdErr) → m ≡ n → s ≡ t → IsStoppedAt R m s err →
      IsStoppedAt R n t err
  stopped_as m s t err em es h = subst (λ k. IsStoppedAt R k t err) em (subst (λ u. IsStoppedAt R m u err) es h)

  -- what stops behind a system of which each front is within the limit
  pub stopped_later : (system more : List (Inequality V)) (err : DdErr) → AreFrontsWithin R n system →
      IsStoppedBehind R n (length system) (system ++ more) err → IsStoppedAt R n (system ++ more) err
  stopped_later system more NoMemory h s = tt
  stopped_later system more (Limit k) h s = record {
    within = s.1;
    over = s.2;
    least = λ j l o. ⊎_elim
        (λ a. s.3 j a l o)
        (λ a. h j (omega arith)
        (subst (λ t. IsOverLimit R (Solves R n t)) (take-append-le j system more (omega arith)) o))
        (cases_lt (length system) j);
  }
