-- A report has one verdict at most.
use Rattle.std.proofs.Common.{◌≡◌, ⊎_elim, ◌+◌, ℕ, Bool, List, Some, sym, ap, ◌∙◌, refl, subst, arith, Contains, ap₂}
use Rattle.std.specs.Prelude.{All, slice_get}
use Rattle.std.proofs.lemmas.Bool.{cases_lt}
use Rattle.std.proofs.lemmas.List.Elements.{All-contains}
use Rattle.trop_theory.specs.Semiring.{Semiring, SemiringLaws}
use Rattle.trop_theory.specs.Numbers.{Numbering}
use Rattle.trop_theory.specs.Inequalities.{IsValidOn}
use Rattle.prog_theory.specs.Edges.{Edge}
use Rattle.prog_theory.specs.Graph.{edges}
use Rattle.cone_reports.specs.Asserts.{Assertion, asserts}
use Rattle.cone_reports.specs.Reports.{Report, part_at, coordinates, cone_at}
use Rattle.cone_reports.specs.Inductive.{StaysAlong, IsRight}
use Rattle.cone_reports.specs.Verdicts.{Verdict, Inductive, NotWhole, Escapes, InvFails, AssertWrong, IsFirstWithout, Leaves, IsEscape, IsInvFailure, IsWrong, IsVerdict}
use Rattle.cone_reports.proofs.Checks.{get_contains, inductive_alone}
use Rattle.cone_reports.proofs.Firsts.{first_unique, zip_taken}
use Rattle.cone_reports.proofs.OneList.{edge_list_unique}

module _ {V : Type 0} {R : Semiring V} (laws : SemiringLaws R) (N : Numbering V) (reversed : Bool)
    (report : Report V) where
  leaves_unique : (e : Edge) (x y : List V) → Leaves R N reversed report e x → Leaves R N reversed report e y → x ≡ y
  leaves_unique e x y h g =
      let lists = edge_list_unique laws N reversed (coordinates report) e.op
      (part_at report e.from).rows h.list g.list h.is_list g.is_list in
      (first_unique (cone_at R report e.to) h.list h.place g.place x y h.first
      (subst (λ l. IsFirstWithout (cone_at R report e.to) l g.place y) (sym lists) g.first)).1

  escape_unique : (k j : ℕ) (x y : List V) → IsEscape R N reversed report k x → IsEscape R N reversed report j y
      → Escapes k x ≡ Escapes j y
  escape_unique k j x y h g =
      let f = first_unique (StaysAlong R N reversed report) (edges report.program) k j h.edge g.edge h.first g.first in
      let rows = leaves_unique h.edge x y h.leaves (subst (λ e. Leaves R N reversed report e y) (sym f.1) g.leaves) in
      ap₂ (λ a b. Escapes a b) f.0 rows

  inv_unique : (p i q j : ℕ) → IsInvFailure R N reversed report p i → IsInvFailure R N reversed report q j
      → ◌≡◌ {A = Verdict V} (InvFails p i) (InvFails q j)
  inv_unique p i q j h g = ⊎_elim
      (λ l. absurd (h.first.lacks (All-contains (IsValidOn R (cone_at R report p))
      (part_at report p).printed h.inequality (g.before p l)
      (get_contains (part_at report p).printed h.place h.inequality h.first.at))))
      (λ l. ⊎_elim
      (λ m. absurd (g.first.lacks (All-contains (IsValidOn R (cone_at R report q))
      (part_at report q).printed g.inequality (h.before q m)
      (get_contains (part_at report q).printed g.place g.inequality g.first.at))))
      (λ m.
      let same : p ≡ q = omega arith in
      let first = subst (λ r. IsFirstWithout (IsValidOn R (cone_at R report r))
      (part_at report r).printed g.place g.inequality) (sym same) g.first in
      let f = first_unique (IsValidOn R (cone_at R report p))
      (part_at report p).printed h.place g.place h.inequality g.inequality h.first first in
      ap₂ (λ a b. InvFails a b) same (h.number ∙ ap (λ n. n + 1) f.0 ∙ sym g.number))
      (cases_lt q p))
      (cases_lt p q)

  wrong_unique : (k j : ℕ) → IsWrong R N reversed report k → IsWrong R N reversed report j
      → ◌≡◌ {A = Verdict V} (AssertWrong k) (AssertWrong j)
  wrong_unique k j h g = ⊎_elim
      (λ l. absurd (h.not_right (zip_taken (IsRight R N reversed report)
      (asserts report.program) report.verdicts h.place g.place h.assertion h.verdict g.before h.asserted h.says l)))
      (λ l. ⊎_elim
      (λ m. absurd (g.not_right (zip_taken (IsRight R N reversed report)
      (asserts report.program) report.verdicts g.place h.place g.assertion g.verdict h.before g.asserted g.says m)))
      (λ m.
      let same : h.place ≡ g.place = omega arith in
      let at = subst (λ i. slice_get (asserts report.program) i ≡ Some h.assertion) same h.asserted in
      let e : Some h.assertion ≡ Some g.assertion = sym at ∙ g.asserted in
      let a : h.assertion ≡ g.assertion = cc in
      ap AssertWrong (sym h.is_number ∙ ap (λ (x : Assertion). x.number) a ∙ g.is_number))
      (cases_lt g.place h.place))
      (cases_lt h.place g.place)

  escape_fails : (k : ℕ) (x : List V) → IsEscape R N reversed report k x
      → ((e : Edge) → Contains (edges report.program) e → StaysAlong R N reversed report e) → ⊥
  escape_fails k x h stays = h.first.lacks (stays h.edge (get_contains (edges report.program) k h.edge h.first.at))

  inv_fails : (p i : ℕ) → IsInvFailure R N reversed report p i
      → ((q : ℕ) → All (IsValidOn R (cone_at R report q)) (part_at report q).printed) → ⊥
  inv_fails p i h valid = h.first.lacks (All-contains (IsValidOn R (cone_at R report p))
      (part_at report p).printed h.inequality (valid p)
      (get_contains (part_at report p).printed h.place h.inequality h.first.at))

  -- a report has one verdict at most
  pub verdict_unique : (v w : Verdict V) → IsVerdict R N reversed report v → IsVerdict R N reversed report w → v ≡ w
  verdict_unique Inductive w h g = sym (inductive_alone report h w g)
  verdict_unique NotWhole Inductive h g = absurd (h g.whole)
  verdict_unique NotWhole NotWhole h g = refl
  verdict_unique NotWhole (Escapes k x) h g = absurd (h g.whole)
  verdict_unique NotWhole (InvFails p i) h g = absurd (h g.whole)
  verdict_unique NotWhole (AssertWrong k) h g = absurd (h g.whole)
  verdict_unique (Escapes k x) Inductive h g = absurd (escape_fails k x h g.stays)
  verdict_unique (Escapes k x) NotWhole h g = absurd (g h.whole)
  verdict_unique (Escapes k x) (Escapes j y) h g = escape_unique k j x y h g
  verdict_unique (Escapes k x) (InvFails p i) h g = absurd (escape_fails k x h g.stays)
  verdict_unique (Escapes k x) (AssertWrong j) h g = absurd (escape_fails k x h g.stays)
  verdict_unique (InvFails p i) Inductive h g = absurd (inv_fails p i h g.valid)
  verdict_unique (InvFails p i) NotWhole h g = absurd (g h.whole)
  verdict_unique (InvFails p i) (Escapes j y) h g = absurd (escape_fails j y g h.stays)
  verdict_unique (InvFails p i) (InvFails q j) h g = inv_unique p i q j h g
  verdict_unique (InvFails p i) (AssertWrong j) h g = absurd (inv_fails p i h g.valid)
  verdict_unique (AssertWrong k) Inductive h g = inductive_alone report g (AssertWrong k) h
  verdict_unique (AssertWrong k) NotWhole h g = absurd (g h.whole)
  verdict_unique (AssertWrong k) (Escapes j y) h g = absurd (escape_fails j y g h.stays)
  verdict_unique (AssertWrong k) (InvFails q j) h g = absurd (inv_fails q j g h.valid)
  verdict_unique (AssertWrong k) (AssertWrong j) h g = wrong_unique k j h g
