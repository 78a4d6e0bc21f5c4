-- The asserts of a report and their verdicts.
use Rattle.std.proofs.Common.{◌≡◌, ◌<◌, ◌+◌, ◌^◌, ℕ, List, length, sym, ◌∙◌, subst, arith, Contains, Bool, map, take, get_or, refl, ap}
use Rattle.std.specs.Prelude.{All}
use Rattle.std.specs.List.{AllZip}
use Rattle.std.proofs.lemmas.List.{length-map, get_or_default}
use Rattle.std.proofs.lemmas.Option.{slice_get_within}
use Rattle.trop_theory.specs.Semiring.{Semiring}
use Rattle.trop_theory.specs.Numbers.{Numbering}
use Rattle.prog_theory.specs.States.{Term}
use Rattle.prog_theory.specs.Fits.{FitsTerm}
use Rattle.prog_theory.specs.Within.{IsNumberWithin}
use Rattle.prog_theory.specs.Named.{nameless}
use Rattle.prog_theory.specs.Graph.{points, Statement}
use Rattle.cone_reports.specs.Asserts.{Assertion, asserts}
use Rattle.cone_reports.proofs.Asserts.{assert_point, assert_terms}
use Rattle.cone_claims.specs.Terms.{IsOn, IsClaimOn}
use Rattle.prog_asserts.proofs.Terms.{each_claim}
use Rattle.cone_reports.specs.Inductive.{IsRight}
use Rattle.prog_asserts.specs.declared.assertion.Assertion.{Assertion as CodeAssertion}
use Rattle.prog_asserts.specs.Views.{assertion_of}
use Rattle.report_value.specs.Views.{ReportOver, said}
use Rattle.report_value.specs.Kept.{IsKept}
use Rattle.prog_check.specs.Found.{WrongAt}
use Rattle.prog_check.proofs.Loops.{get_at}
use Rattle.prog_check.proofs.Steps.{at_map, zip_more}

module _ {V : Type 0} {R : Semiring V} {N : Numbering V} (r : ReportOver V) (kept : IsKept R N r) where
  pub assert_at : (a : Assertion) → Contains (asserts (nameless r.program)) a → a.point < length r.parts
  assert_at a c =
      let P = nameless r.program in
      let within : a.point < length (points P) =
      slice_get_within (points P) a.point (Statement a.number) (assert_point P a c) in
      omega (arith, within, kept.points_are)

  terms_on : (ts : List Term) → All (FitsTerm (length r.program.names)) ts → All (IsNumberWithin (2 ^ 31)) ts
      → All (IsOn (length r.program.names + 1)) ts
  terms_on ts f g k d l = let at = f k d l in (omega (arith, at), g k d l)

  pub assert_on : (n : ℕ) → n ≡ length r.program.names + 1 → (a : Assertion)
      → Contains (asserts (nameless r.program)) a → IsClaimOn n a.claim
  assert_on n w a c =
      let P = nameless r.program in
      let f = assert_terms P a c kept.program.within.coordinates in
      let g = each_claim (λ x. Unit {0}) (IsNumberWithin (2 ^ 31)) P kept.program.within.numbers a c in
      subst (λ k. IsClaimOn k a.claim) (sym w) (
        terms_on a.claim.left.terms f.0 g.0,
        terms_on a.claim.right.terms f.1 g.1,
      )

  pub verdicts_many : length r.verdicts ≡ length (asserts (nameless r.program))
  verdicts_many = kept.asserts_are ∙ length-map (asserts (nameless r.program)) (λ (a : Assertion). a.number)

  -- ---- the loop over the asserts
  module _ (reversed : Bool) (xs : List CodeAssertion) (same : map assertion_of xs ≡ asserts (nameless r.program))
      (vs : List Bool) (are : vs ≡ r.verdicts) where
    abbrev pub Right : Assertion → Bool → Type 0
    Right = IsRight R N reversed (said r)

    as_many : length vs ≡ length xs
    as_many = ap length are ∙ verdicts_many ∙ ap length (sym same) ∙ length-map xs assertion_of

    pub verdict_within : (k : ℕ) → k < length xs → k < length vs
    verdict_within k l = omega (arith, as_many, l)

    pub wrong_at : (k : ℕ) (x : CodeAssertion) (e : Bool) → x ≡ get_or xs k x → k < length xs
        → AllZip Right (take k (asserts (nameless r.program))) (take k r.verdicts)
        → (Right (assertion_of x) (get_or vs k e) → ⊥)
        → WrongAt R N reversed (said r) x.number
    wrong_at k x e is l before fails =
        let a = assertion_of x in
        let b = get_or vs k e in
        let m : k < length (asserts (nameless r.program)) = omega
        (arith, ap length same, length-map xs assertion_of, l) in
        let n : k < length r.verdicts = omega (arith, verdicts_many, m) in
        record {
          place = k;
          assertion = a;
          verdict = b;
          asserted = get_at (asserts (nameless r.program)) k a
              (ap assertion_of is ∙ sym (at_map assertion_of xs (asserts (nameless r.program)) same k x a l)) m;
          says = get_at r.verdicts k b
              (get_or_default vs k e b (verdict_within k l) ∙ ap (λ ws. get_or ws k b) are) n;
          is_number = refl;
          not_right = fails;
          before = before;
        }

    pub right_more : (k : ℕ) (x : CodeAssertion) (e : Bool) → x ≡ get_or xs k x → k < length xs
        → AllZip Right (take k (asserts (nameless r.program))) (take k r.verdicts)
        → Right (assertion_of x) (get_or vs k e)
        → AllZip Right (take (k + 1) (asserts (nameless r.program))) (take (k + 1) r.verdicts)
    right_more k x e is l before here =
        let a = assertion_of x in
        let b = get_or vs k e in
        let m : k < length (asserts (nameless r.program)) = omega
        (arith, ap length same, length-map xs assertion_of, l) in
        let n : k < length r.verdicts = omega (arith, verdicts_many, m) in
        zip_more Right (asserts (nameless r.program)) r.verdicts k a b m n
        (at_map assertion_of xs (asserts (nameless r.program)) same k x a l ∙ ap assertion_of (sym is))
        (ap (λ ws. get_or ws k b) (sym are) ∙ sym (get_or_default vs k e b (verdict_within k l))) before here
