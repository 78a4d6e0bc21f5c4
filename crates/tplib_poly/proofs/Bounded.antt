-- The external list of a cone that is kept as its canonical list, and the answer of `int`.
-- Index: bounds_stop, no_bounds_stop, external_of, bounds_are, bounds_refused, bounds_small, int_reply_is, int_refused.
use Rattle.std.proofs.Common.{◌≡◌, ◌≤◌, ◌+◌, ◌-◌, ◌*◌, ◌^◌, ◌↔◌, ℕ, true, List, length, sym, subst, arith}
use Rattle.std.proofs.Math.Nat.{mul-le-mul_left}
use Rattle.trop_theory.specs.Semiring.{Semiring, SemiringLaws}
use Rattle.trop_theory.specs.Numbers.{Numbering}
use Rattle.trop_theory.specs.Inequalities.{Inequality, Solves}
use Rattle.trop_theory.specs.Combinations.{IsCombination}
use Rattle.trop_theory.proofs.Unique.{IsCanonical-unique}
use Rattle.trop_cones.specs.Represents.{Represents}
use Rattle.trop_duality.specs.External.{IsExternal}
use Rattle.trop_duality.specs.PolarStops.{IsPolarStop}
use Rattle.trop_duality.proofs.External.{IsExternal-same}
use Rattle.trop_spelling.specs.declared.ring_kind.RingKind.{RingKind}
use Rattle.trop_files.specs.PrintedFiles.{printed_ineqs}
use Rattle.trop_poly.specs.declared.error.PolyErr.{PolyErr}
use Rattle.trop_poly.specs.declared.error.PolyErr.TheVariants.{Rows, Polar, NoMemory}
use Rattle.trop_poly.specs.Refusals.{IsExternalRefusal}
use Rattle.tplib_reply.specs.declared.stop.Stop.TheVariants as stops
use Rattle.tplib_reply.specs.declared.refusal.Refusal.{Refusal}
use Rattle.tplib_reply.specs.declared.refusal.Refusal.TheVariants as refusals
use Rattle.tplib_reply.proofs.Unstopped.{at_rows_or_polars-none}
use Rattle.tplib_poly.specs.InRing.{IsRingReply, IsRingRefusal}
use Rattle.tplib_poly.specs.Refusals.{refusal_of}
use Rattle.tplib_poly.specs.Bounds.{IsBoundsStop, AreBoundsOf, IsBoundsRefusal}
use Rattle.tplib_poly.specs.Int.{int_ring}

-- what is known of the external list of a canonical list in n coordinates
pub record Bounds {V : Type 0} (R : Semiring V) (n : ℕ) (rows : List (List V)) (bounds : List (Inequality V)) :
    Type 0 where
  pub external : IsExternal R n (IsCombination R n rows) bounds
  pub solutions : Represents R n (Solves R n bounds) rows
  pub unstopped : (i k : ℕ) → IsPolarStop R n rows i k → ⊥

module _ {V : Type 0} {R : Semiring V} (laws : SemiringLaws R) (n : ℕ) (cone : List V → Type 0) (rows : List (List V))
    (represents : Represents R n cone rows) where
  pub bounds_stop : (i k : ℕ) → IsPolarStop R n rows i k → IsBoundsStop R n cone i k
  bounds_stop i k stop = record { rows = rows; canonical = represents.canonical; stop = stop }

  pub no_bounds_stop : ((i k : ℕ) → IsPolarStop R n rows i k → ⊥) → (i k : ℕ) → IsBoundsStop R n cone i k → ⊥
  no_bounds_stop h i k s = h i k (subst (λ r. IsPolarStop R n r i k)
      (IsCanonical-unique laws cone cone s.rows rows (λ x. (λ c. c, λ c. c)) s.canonical represents.canonical) s.stop)

  -- the external list of the rows is that of the cone
  pub external_of : (bounds : List (Inequality V)) → IsExternal R n (IsCombination R n rows) bounds →
      IsExternal R n cone bounds
  external_of bounds h = IsExternal-same R n (IsCombination R n rows) cone
      (λ x. ((represents.generates x).1, (represents.generates x).0)) bounds h

  pub solved_by : (bounds : List (Inequality V)) → Represents R n (Solves R n bounds) rows → (x : List V) →
      cone x ↔ Solves R n bounds x
  solved_by bounds h x = (
    λ c. (h.generates x).1 ((represents.generates x).0 c),
    λ s. (represents.generates x).1 ((h.generates x).0 s),
  )

  pub bounds_are : (w : ℕ) → w ≡ n → (bounds : List (Inequality V)) → Bounds R w rows bounds →
      AreBoundsOf R n cone bounds
  bounds_are w wide bounds told = let known = subst (λ z. Bounds R z rows bounds) wide told in record {
    unstopped = no_bounds_stop known.unstopped;
    external = external_of bounds known.external;
    solved = solved_by bounds known.solutions;
  }

  refused_at : (e : PolyErr) → IsExternalRefusal R n rows e → IsBoundsRefusal R n cone (refusal_of e)
  refused_at (Rows k) h = h
  refused_at (Polar i k) h = bounds_stop i k h
  refused_at NoMemory h = tt

  pub bounds_refused : (w : ℕ) → w ≡ n → (e : PolyErr) (refusal : Refusal) → refusal ≡ refusal_of e →
      IsExternalRefusal R w rows e → IsBoundsRefusal R n cone refusal
  bounds_refused w wide e refusal is h = subst (IsBoundsRefusal R n cone) (sym is)
      (refused_at e (subst (λ z. IsExternalRefusal R z rows e) wide h))

-- how great the coefficients of the external list of small rows are
pub bounds_small : (size rows n : ℕ) → rows ≤ 2 ^ 41 → n ≤ 64 → size ≤ 4 * rows * (n - 1) → size ≤ 2 ^ 49
bounds_small size rows n small width few =
    let first : 4 * rows * (n - 1) ≤ 4 * rows * 63 = mul-le-mul_left (4 * rows) (omega arith) in
    omega (arith, first)

-- ---- the answer of `int` on rows in m coordinates

module _ {V : Type 0} (kind : RingKind) (R : Semiring V) (N : Numbering V) (names : List (List ℕ))
    (gens : List (List V)) (m : ℕ) (width : m ≡ length names + 1) where
  abbrev n : ℕ
  n = length names + 1

  pub int_reply_is : (bounds : List (Inequality V)) (text : List ℕ) →
      AreBoundsOf R m (IsCombination R m gens) bounds → text ≡ printed_ineqs kind N names bounds →
      IsRingReply int_ring names V kind R N gens true text
  int_reply_is bounds text told printed =
      let known = subst (λ w. AreBoundsOf R w (IsCombination R w gens) bounds) width told in
      record {
        unstopped = at_rows_or_polars-none (λ xs k. ⊥) (λ xs i k. IsBoundsStop R n (IsCombination R n xs) i k) gens
            (λ k s. s) known.unstopped;
        answer = record {
          bounds = bounds;
          external = known.external;
          solved = known.solved;
          printed = printed;
        };
      }

  int_refused_at : (refusal : Refusal) → IsBoundsRefusal R n (IsCombination R n gens) refusal →
      IsRingRefusal int_ring names V kind R N gens refusal
  int_refused_at (refusals.Limit (stops.Polar i k)) h = h
  int_refused_at refusals.NoMemory h = tt
  int_refused_at _ h = absurd h

  pub int_refused : (refusal : Refusal) → IsBoundsRefusal R m (IsCombination R m gens) refusal →
      IsRingRefusal int_ring names V kind R N gens refusal
  int_refused refusal h = int_refused_at refusal
      (subst (λ w. IsBoundsRefusal R w (IsCombination R w gens) refusal) width h)
