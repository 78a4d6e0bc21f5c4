-- The claims that verdicts call proved are true at each visit.
use Rattle.std.proofs.Common.{◌≡◌, ℕ, true, List, Some, Contains, refl, subst}
use Rattle.std.specs.Prelude.{Bool, slice_get, MatchOption, IsSomeAnd}
use Rattle.std.specs.List.{AllZip}
use Rattle.std.proofs.lemmas.Slice.Zip.{AllZip-left}
use Rattle.std.proofs.lemmas.Option.{slice_get_within, get_or_from_slice_get}
use Rattle.prog_theory.specs.Named.{Named, nameless}
use Rattle.prog_theory.specs.Statements.{Claim}
use Rattle.cone_reports.specs.Asserts.{Assertion, asserts}
use Rattle.dom_family.specs.Family.{IsJudgedBy, IsTrueAtVisits}

module _ {V : Type 0} (proven : Claim → V → Type 0) (value : ℕ → V) (p : Named) (verdicts : List Bool)
    (judged : AllZip (IsJudgedBy proven value) (asserts (nameless p)) verdicts) where
  abbrev J : Assertion → Bool → Type 0
  J = IsJudgedBy proven value

  judged_at : (k : ℕ) (a : Assertion) → slice_get (asserts (nameless p)) k ≡ Some a → slice_get verdicts k ≡ Some true
      → J a true
  judged_at k a is says =
      let zipped : IsSomeAnd (slice_get verdicts k) (J a) =
      subst (λ o. MatchOption o (Unit {0}) (λ a. IsSomeAnd (slice_get verdicts k) (J a))) is
      (AllZip-left J (asserts (nameless p)) verdicts judged k) in
      subst (λ o. IsSomeAnd o (J a)) says zipped

  pub claims_true : ((a : Assertion) → Contains (asserts (nameless p)) a → proven a.claim (value a.point)
      → IsTrueAtVisits p a) → (k : ℕ) (a : Assertion) → slice_get (asserts (nameless p)) k ≡ Some a
      → slice_get verdicts k ≡ Some true → IsTrueAtVisits p a
  claims_true true_of k a is says =
      let xs = asserts (nameless p) in
      let listed : Contains xs a = (k, slice_get_within xs k a is, get_or_from_slice_get xs k a a is) in
      true_of a listed ((judged_at k a is says).0 refl)
