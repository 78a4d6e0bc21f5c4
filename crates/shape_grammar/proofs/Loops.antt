-- What a loop keeps that reads one part after another; and a part that may be left out.
use Rattle.std.proofs.Common.{◌≡◌, ◌≤◌, ◌<◌, ℕ, zero, suc, Bool, Option, Some, None, List, [], ◌∷◌, length, Result, Ok, Err, refl, sym, ap, ◌∙◌, arith}
use Rattle.trop_grammar.specs.Reading.{Reading, Miss, go_on, read_then, gives}
use Rattle.shape_grammar.specs.Past.{past}
use Rattle.shape_grammar.specs.Reads.{Heads}
use Rattle.shape_grammar.specs.Steps.{begun_at, maybe_past, many_from, many_past}
use Rattle.shape_grammar.proofs.Pasts.{past-shorter}

-- ---- a part that may be left out

module _ {T W A B : Type 0} (skip : T → Bool) (judge : T → Option (Result A W)) (x : B)
    (r : A → List T → Reading T W B) where
  none_at : (ts p : List T) → Heads (λ t. judge t ≡ None) p → begun_at judge x r ts p ≡ Ok (x, ts)
  none_at ts [] h = refl
  none_at ts (t ∷ us) h = rw h refl

  -- it is left out
  pub maybe_left : (ts : List T) → Heads (λ t. judge t ≡ None) (past skip ts) →
      maybe_past skip judge x r ts ≡ Ok (x, ts)
  unfolding maybe_past
  maybe_left ts h = none_at ts (past skip ts) h

  -- the token lets it begin
  pub maybe_begun : (ts : List T) (t : T) (us : List T) (a : A) → past skip ts ≡ t ∷ us → judge t ≡ Some (Ok a) →
      maybe_past skip judge x r ts ≡ r a us
  unfolding maybe_past
  maybe_begun ts t us a e j = rw (e, j) refl

  -- something is wrong with the token
  pub maybe_wrong : (ts : List T) (t : T) (us : List T) (what : W) → past skip ts ≡ t ∷ us → judge t ≡ Some (Err what) →
      maybe_past skip judge x r ts ≡ Err (record { what = what; rest = t ∷ us })
  unfolding maybe_past
  maybe_wrong ts t us what e j = rw (e, j) refl

-- ---- one part after another

module _ {T W A S : Type 0} (skip : T → Bool) (judge : S → T → Option (Result A W))
    (step : S → A → List T → Reading T W S) where
  -- reading on behind x, with enough steps left, gives what the whole reading gives
  pub record IsOnWay (x : S) (ts : List T) (read : Reading T W S) : Type 0 where
    pub fuel : ℕ
    pub size : length ts ≤ fuel
    pub same : read ≡ many_from skip judge step fuel x ts

  pub way_begins : (x : S) (ts : List T) → IsOnWay x ts (many_past skip judge step x ts)
  unfolding many_past
  way_begins x ts = record { fuel = length ts; size = omega arith; same = refl }

  no_part : (fuel : ℕ) (x : S) (ts : List T) → Heads (λ t. judge x t ≡ None) (past skip ts) →
      many_from skip judge step fuel x ts ≡ Ok (x, ts)
  unfolding many_from gives
  no_part zero x ts h = refl
  no_part (suc n) x ts h = maybe_left skip (judge x) x (λ a. read_then (step x a) (many_from skip judge step n)) ts h

  -- no part follows
  pub way_ends : (x : S) (ts : List T) (read : Reading T W S) → IsOnWay x ts read →
      Heads (λ t. judge x t ≡ None) (past skip ts) → read ≡ Ok (x, ts)
  way_ends x ts read w h = w.same ∙ no_part w.fuel x ts h

  part_wrong : (fuel : ℕ) (x : S) (ts : List T) (t : T) (us : List T) (what : W) → length ts ≤ fuel →
      past skip ts ≡ t ∷ us → judge x t ≡ Some (Err what) →
      many_from skip judge step fuel x ts ≡ Err (record { what = what; rest = t ∷ us })
  unfolding many_from
  part_wrong zero x ts t us what le e j = let h = past-shorter skip ts t us e in absurd (omega (arith, h))
  part_wrong (suc n) x ts t us what le e j = maybe_wrong skip (judge x) x
      (λ a. read_then (step x a) (many_from skip judge step n)) ts t us what e j

  -- something is wrong with the token that follows
  pub way_wrong : (x : S) (ts : List T) (read : Reading T W S) (t : T) (us : List T) (what : W) → IsOnWay x ts read →
      past skip ts ≡ t ∷ us → judge x t ≡ Some (Err what) → read ≡ Err (record { what = what; rest = t ∷ us })
  way_wrong x ts read t us what w e j = w.same ∙ part_wrong w.fuel x ts t us what w.size e j

  -- one step of the rest
  record IsStepped (fuel : ℕ) (x : S) (ts : List T) (a : A) (us : List T) : Type 0 where
    later : ℕ
    size : length us ≤ later
    same : many_from skip judge step fuel x ts ≡ go_on (step x a us) (many_from skip judge step later)

  stepped : (fuel : ℕ) (x : S) (ts : List T) (t : T) (us : List T) (a : A) → length ts ≤ fuel → past skip ts ≡ t ∷ us →
      judge x t ≡ Some (Ok a) → IsStepped fuel x ts a us
  unfolding many_from read_then
  stepped zero x ts t us a le e j = let h = past-shorter skip ts t us e in absurd (omega (arith, h))
  stepped (suc n) x ts t us a le e j = let h = past-shorter skip ts t us e in record {
    later = n;
    size = omega (arith, h, le);
    same = maybe_begun skip (judge x) x (λ a. read_then (step x a) (many_from skip judge step n)) ts t us a e j;
  }

  -- a part is read
  pub way_goes_on : (x : S) (ts : List T) (read : Reading T W S) (t : T) (us : List T) (a : A) (y : S) (vs : List T) →
      IsOnWay x ts read → past skip ts ≡ t ∷ us → judge x t ≡ Some (Ok a) → step x a us ≡ Ok (y, vs) →
      length vs ≤ length us → IsOnWay y vs read
  way_goes_on x ts read t us a y vs w e j k le =
      let s = stepped w.fuel x ts t us a w.size e j in
      let m = s.size in
      record {
        fuel = s.later;
        size = omega (arith, le, m);
        same =
            w.same ∙ s.same ∙ ap (λ z. go_on z (many_from skip judge step s.later)) k;
      }

  -- a part fails
  pub way_fails : (x : S) (ts : List T) (read : Reading T W S) (t : T) (us : List T) (a : A) (miss : Miss T W) →
      IsOnWay x ts read → past skip ts ≡ t ∷ us → judge x t ≡ Some (Ok a) → step x a us ≡ Err miss → read ≡ Err miss
  way_fails x ts read t us a miss w e j k =
      let s = stepped w.fuel x ts t us a w.size e j in
      w.same ∙ s.same ∙ ap (λ z. go_on z (many_from skip judge step s.later)) k
