-- The answer of a sample, and where it stops.
use Rattle.std.proofs.Common.{◌≡◌, ◌≤◌, ◌+◌, ◌-◌, ◌*◌, ◌++◌, ◌∙◌, ℕ, ℤ, true, List, [], length, Option, sym, ap, refl, subst, arith, append_assoc}
use Rattle.std.specs.Prelude.{max}
use Rattle.std.proofs.Math.Nat.{mul-le-mul_left, mul-le-mul_right}
use Rattle.trop_theory.specs.Vectors.{rows_size}
use Rattle.trop_theory.specs.Inequalities.{Inequality, Solves, system_size}
use Rattle.trop_theory.specs.Combinations.{IsCombination}
use Rattle.trop_scalar.specs.MaxPlus.{max_ring}
use Rattle.trop_scalar.specs.MaxPlusLaws.{max_laws}
use Rattle.trop_cones.specs.Represents.{Represents}
use Rattle.trop_cones.specs.RowStops.{IsRowsStop}
use Rattle.trop_duality.specs.External.{IsExternal}
use Rattle.trop_duality.specs.PolarStops.{IsPolarStop}
use Rattle.trop_sample.specs.Samples.{sample_of}
use Rattle.trop_poly.specs.declared.error.PolyErr.{PolyErr}
use Rattle.trop_poly.specs.declared.error.PolyErr.TheVariants as errors
use Rattle.trop_poly.specs.Refusals.{IsSystemRefusal, IsExternalRefusal}
use Rattle.tplib_reply.specs.declared.refusal.Refusal.{Refusal}
use Rattle.tplib_reply.specs.Meaning.{IsAnswered, IsRefused}
use Rattle.tplib_reply.proofs.Unstopped.{at_rows_or_polars-none}
use Rattle.tplib_poly.specs.Refusals.{refusal_of}
use Rattle.tplib_poly.specs.Sample.{Numbers, sample_lines, IsSampleSolution, IsSampleText, IsSampleRowsStop, IsSamplePolarStop, sample_meaning}
use Rattle.tplib_poly.proofs.Bounded.{Bounds, no_bounds_stop, bounds_stop, external_of}

-- how great the rows of a small system are
pub sample_small : (size rows n vars : ℕ) → size ≤ 10 → n ≡ vars + 1 → vars ≤ 31 → rows ≤ 4 * size * (n - 1) →
    rows ≤ 1240
sample_small size rows n vars small width few h =
    let first : 4 * size * (n - 1) ≤ 4 * size * 31 = mul-le-mul_left (4 * size) (omega arith) in
    omega (arith, first)

-- five texts, one behind the other
pub five : (start a b c d e one two three four all : List ℕ) → start ≡ [] → one ≡ start ++ a → two ≡ one ++ b →
    three ≡ two ++ c → four ≡ three ++ d → all ≡ four ++ e → all ≡ a ++ (b ++ (c ++ (d ++ e)))
five start a b c d e one two three four all p q r s t u =
    u ∙ ap (λ z. z ++ e) (t ∙ ap (λ z. z ++ d) (s ∙ ap (λ z. z ++ c) (r ∙ ap (λ z. z ++ b) (q ∙ ap (λ z. z ++ a) p))))
    ∙ append_assoc (a ++ b ++ c) d e ∙ append_assoc (a ++ b) c (d ++ e) ∙ append_assoc a b (c ++ (d ++ e))

module _ (seed vars count : ℕ) (system : List (Inequality (Option ℤ))) (is : system ≡ sample_of seed vars count) where
  abbrev numbers : Numbers
  numbers = record { seed = seed; vars = vars; rows = count }

  -- the canonical list of the solutions, in n coordinates
  module _ (n : ℕ) (width : n ≡ vars + 1) (rows : List (List (Option ℤ)))
      (given : Represents max_ring n (Solves max_ring n system) rows) where
    represents : Represents max_ring (vars + 1) (IsSampleSolution numbers) rows
    represents = subst (λ s. Represents max_ring (vars + 1) (Solves max_ring (vars + 1) s) rows) is
        (subst (λ m. Represents max_ring m (Solves max_ring m system) rows) width given)

    module _ (within : (k : ℕ) → IsRowsStop max_ring n system k → ⊥) where
      no_rows_stop : (k : ℕ) → IsSampleRowsStop numbers k → ⊥
      no_rows_stop = subst (λ s. (k : ℕ) → IsRowsStop max_ring (vars + 1) s k → ⊥) is
          (subst (λ m. (k : ℕ) → IsRowsStop max_ring m system k → ⊥) width within)

      pub sampled : (m : ℕ) → m ≡ vars + 1 → (bounds : List (Inequality (Option ℤ))) (text : List ℕ) →
          Bounds max_ring m rows bounds
          → text ≡ sample_lines vars count (length rows) (length bounds)
          (max (rows_size max_ring rows) (system_size max_ring bounds))
          → IsAnswered (sample_meaning seed vars count) [] true text
      sampled m wide bounds text told printed =
          let known = subst (λ z. Bounds max_ring z rows bounds) wide told in
          record {
            said = numbers;
            spelled = (refl, refl);
            unstopped = at_rows_or_polars-none IsSampleRowsStop IsSamplePolarStop numbers no_rows_stop
                (λ i k s. no_bounds_stop max_laws (vars + 1) (IsSampleSolution numbers) rows represents known.unstopped
                i k s.stop);
            answer = record {
              rows = rows;
              bounds = bounds;
              canonical = represents.canonical;
              external = external_of max_laws (vars + 1)
                  (IsSampleSolution numbers) rows represents bounds known.external;
              printed = printed;
            };
          }

      unbounded_at : (e : PolyErr) → IsExternalRefusal max_ring (vars + 1) rows e →
          IsRefused (sample_meaning seed vars count) [] (refusal_of e)
      unbounded_at (errors.Rows k) h = absurd h
      unbounded_at (errors.Polar i k) h = record {
        said = numbers;
        spelled = (refl, refl);
        stops =
            record {
              within = no_rows_stop;
              stop = bounds_stop max_laws (vars + 1)
                  (IsSampleSolution numbers) rows represents i k h;
            };
      }
      unbounded_at errors.NoMemory h = tt

      pub unbounded : (m : ℕ) → m ≡ vars + 1 → (e : PolyErr) (refusal : Refusal) → refusal ≡ refusal_of e →
          IsExternalRefusal max_ring m rows e → IsRefused (sample_meaning seed vars count) [] refusal
      unbounded m wide e refusal told h = subst (IsRefused (sample_meaning seed vars count) []) (sym told)
          (unbounded_at e (subst (λ z. IsExternalRefusal max_ring z rows e) wide h))

  unconverted_at : (e : PolyErr) → IsSystemRefusal max_ring (vars + 1) (sample_of seed vars count) e →
      IsRefused (sample_meaning seed vars count) [] (refusal_of e)
  unconverted_at (errors.Rows k) h = record { said = numbers; spelled = (refl, refl); stops = h }
  unconverted_at (errors.Polar i k) h = absurd h
  unconverted_at errors.NoMemory h = tt

  pub unconverted : (n : ℕ) → n ≡ vars + 1 → (e : PolyErr) (refusal : Refusal) → refusal ≡ refusal_of e →
      IsSystemRefusal max_ring n system e → IsRefused (sample_meaning seed vars count) [] refusal
  unconverted n width e refusal told h =
      subst (IsRefused (sample_meaning seed vars count) []) (sym told)
      (unconverted_at e (subst (λ s. IsSystemRefusal max_ring (vars + 1) s e) is
      (subst (λ m. IsSystemRefusal max_ring m system e) width h)))
