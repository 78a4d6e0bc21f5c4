-- What a check of a report can decide by rows, and that a report with a failure is not inductive.
use Rattle.std.proofs.Common.{◌≡◌, ℕ, suc, Bool, List, [], ◌∷◌, length, Some, refl, subst, arith, Contains}
use Rattle.std.specs.Prelude.{All, ◌↔◌, slice_get, MatchOption, IsSomeAnd}
use Rattle.std.proofs.lemmas.Option.{slice_get_within, get_or_from_slice_get}
use Rattle.std.proofs.lemmas.List.Elements.{All-contains, All-cons, All-nil}
use Rattle.std.proofs.lemmas.Slice.Zip.{AllZip-left}
use Rattle.trop_theory.specs.Semiring.{Semiring, SemiringLaws}
use Rattle.trop_theory.specs.Vectors.{AreWide}
use Rattle.trop_theory.specs.Numbers.{Numbering, NumericLaws}
use Rattle.trop_theory.specs.Inequalities.{IsTrueAt, IsValidOn, IsIn}
use Rattle.trop_theory.specs.Combinations.{IsCombination}
use Rattle.trop_cones.proofs.Cones.{combinations_are_cone, within_is_rows, valid_is_rows}
use Rattle.trop_cones.proofs.Generated.{units_below, unit_at, length-units, units_below_canonical, solutions_by_canonical}
use Rattle.prog_theory.specs.Statements.{Rel, AtMost, AtLeast, Same, Claim}
use Rattle.prog_theory.specs.Graph.{edges}
use Rattle.trop_cones.specs.Sets.{IsVector}
use Rattle.cone_reports.specs.Sides.{side, at_most}
use Rattle.cone_reports.specs.Readings.{related, claim_inequalities, IsProvenOn}
use Rattle.cone_reports.specs.Asserts.{asserts}
use Rattle.cone_reports.specs.Reports.{Report, part_at, cone_at}
use Rattle.cone_reports.specs.Inductive.{IsRight, IsInductive}
use Rattle.cone_reports.specs.Verdicts.{Verdict, Inductive, NotWhole, Escapes, InvFails, AssertWrong, IsVerdict}
use Rattle.cone_reports.proofs.Sides.{length-side}
use Rattle.cone_reports.proofs.MovedLists.{at_most_inside}

module _ {V : Type 0} {R : Semiring V} (laws : SemiringLaws R) (n : ℕ) where
  units_wide : AreWide n (units_below R n n)
  units_wide k d l = (unit_at R n n (omega arith) k d (omega (arith, length-units R n n))).wide

  units_are_everything : (x : List V) → IsVector n x ↔ IsCombination R n (units_below R n n) x
  units_are_everything x =
      let s = solutions_by_canonical laws n [] (units_below R n n) (All-nil (IsIn n))
      (units_below_canonical laws n) x in (
        λ l. s.0 (record { wide = l; holds = All-nil (λ p. IsTrueAt R p x) }),
        λ c. (s.1 c).wide,
      )

  -- rows generate everything exactly where each unit row is a combination of them
  pub whole_is_units : (rows : List (List V)) → AreWide n rows
      → ((x : List V) → IsVector n x → IsCombination R n rows x) ↔ All (IsCombination R n rows) (units_below R n n)
  whole_is_units rows w =
      let r = within_is_rows laws n (IsCombination R n rows) (combinations_are_cone laws n rows w)
      (units_below R n n) units_wide in (
        λ h. r.0 (λ x c. h x ((units_are_everything x).1 c)),
        λ h x l. r.1 h x ((units_are_everything x).0 l),
      )

module _ {V : Type 0} {R : Semiring V} {N : Numbering V} {reversed : Bool} (laws : SemiringLaws R)
    (numbers : NumericLaws R N reversed) (vars : ℕ) where
  related_inside : (rel : Rel) (l r : List V) → length l ≡ suc vars → length r ≡ suc vars
      → All (IsIn (suc vars)) (related reversed rel l r)
  related_inside AtMost l r p q = All-cons (IsIn (suc vars)) (at_most reversed l r) []
      (at_most_inside laws numbers vars reversed l r (suc vars) p q) (All-nil (IsIn (suc vars)))
  related_inside AtLeast l r p q = All-cons (IsIn (suc vars)) (at_most reversed r l) []
      (at_most_inside laws numbers vars reversed r l (suc vars) q p) (All-nil (IsIn (suc vars)))
  related_inside Same l r p q =
      All-cons (IsIn (suc vars)) (at_most reversed l r) (at_most reversed r l ∷ [])
      (at_most_inside laws numbers vars reversed l r (suc vars) p q)
      (All-cons (IsIn (suc vars)) (at_most reversed r l) []
      (at_most_inside laws numbers vars reversed r l (suc vars) q p) (All-nil (IsIn (suc vars))))

  pub claim_inside : (claim : Claim) → All (IsIn (suc vars)) (claim_inequalities R N reversed (suc vars) claim)
  claim_inside claim = related_inside claim.rel (side R N (suc vars) claim.left.terms)
      (side R N (suc vars) claim.right.terms) (length-side laws numbers vars claim.left.terms)
      (length-side laws numbers vars claim.right.terms)

  -- a claim is proven on the combinations of rows exactly where its inequalities are true at each row
  pub proven_is_rows : (claim : Claim) (rows : List (List V)) → AreWide (suc vars) rows
      → IsProvenOn R N reversed (suc vars) (IsCombination R (suc vars) rows) claim
      ↔ All (λ p. All (IsTrueAt R p) rows) (claim_inequalities R N reversed (suc vars) claim)
  proven_is_rows claim rows w = (
    λ h k d l. (valid_is_rows laws (suc vars) _ (claim_inside claim k d l) rows w).0 (h k d l),
    λ h k d l. (valid_is_rows laws (suc vars) _ (claim_inside claim k d l) rows w).1 (h k d l),
  )

pub get_contains : {X : Type 0} (xs : List X) (k : ℕ) (x : X) → slice_get xs k ≡ Some x → Contains xs x
get_contains xs k x e = (k, slice_get_within xs k x e, get_or_from_slice_get xs k x x e)

module _ {V : Type 0} {R : Semiring V} {N : Numbering V} {reversed : Bool} (report : Report V) where
  -- A report has no other verdict where it is inductive.
  pub inductive_alone : IsInductive R N reversed report → (verdict : Verdict V) → IsVerdict R N reversed report verdict
      → verdict ≡ Inductive
  inductive_alone h Inductive v = refl
  inductive_alone h NotWhole v = absurd (v h.whole)
  inductive_alone h (Escapes k row) v = absurd
      (v.first.lacks (h.stays v.edge (get_contains (edges report.program) k v.edge v.first.at)))
  inductive_alone h (InvFails p i) v = absurd
      (v.first.lacks (All-contains (IsValidOn R (cone_at R report p)) (part_at report p).printed v.inequality
      (h.valid p) (get_contains (part_at report p).printed v.place v.inequality v.first.at)))
  inductive_alone h (AssertWrong number) v = absurd (v.not_right right)
    where
      zipped : IsSomeAnd (slice_get report.verdicts v.place) (IsRight R N reversed report v.assertion)
      zipped = subst (λ o. MatchOption o (Unit {0})
          (λ a. IsSomeAnd (slice_get report.verdicts v.place) (IsRight R N reversed report a))) v.asserted
          (AllZip-left (IsRight R N reversed report) (asserts report.program) report.verdicts h.right v.place)

      right : IsRight R N reversed report v.assertion v.verdict
      right = subst (λ o. IsSomeAnd o (IsRight R N reversed report v.assertion)) v.says zipped
