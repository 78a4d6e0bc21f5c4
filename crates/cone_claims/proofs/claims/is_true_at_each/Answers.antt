use Rattle.std.proofs.Common.{◌≡◌, ℕ, Bool, List, arith, ap, sym, ◌∙◌, length, subst, true≢false}
use Rattle.std.specs.Prelude.{All, IsTrue, ◌↔◌}
use Rattle.trop_theory.specs.Semiring.{Semiring}
use Rattle.trop_theory.specs.Numbers.{Numbering}
use Rattle.trop_theory.specs.Inequalities.{IsTrueAt}
use Rattle.prog_theory.specs.Statements.{Claim}
use Rattle.prog_tree.specs.Claims.{claim_of}
use Rattle.cone_reports.specs.Readings.{claim_inequalities}
use Rattle.cone_claims.proofs.Loops.{read_within, each_more, not_each}
use Rattle.cone_claims.proofs.claims.is_true_at_each.Goals as goal

module _ {V : Type 0} (R : Semiring V) (N : Numbering V) (reversed : Bool) (n : ℕ) (claim : Claim) where
  abbrev IsTrueThere : List V → Type 0
  IsTrueThere x = All (λ p. IsTrueAt R p x) (claim_inequalities R N reversed n claim)

  -- what is judged at the width of a row, at that of all
  at_width : (row : List V) (b : Bool) → length row ≡ n
      → IsTrue b ↔ All (λ p. IsTrueAt R p row) (claim_inequalities R N reversed (length row) claim)
      → IsTrue b ↔ IsTrueThere row
  at_width row b long h =
      subst (λ m. IsTrue b ↔ All (λ p. IsTrueAt R p row) (claim_inequalities R N reversed m claim)) long h

pub is_true_at-requires-clause-size : goal.is_true_at-requires-clause-size
is_true_at-requires-clause-size g c =
    read_within g.S.Scalar.ring c.args.rows.now c.loop-row.row-index _ _ c.row-item.is (omega arith) c.requires.size

pub returns-then-not-is_true_at : goal.returns-then-not-is_true_at
returns-then-not-is_true_at g c =
    let told = at_width g.S.Scalar.ring g.S.Scalar.numbering g.S.Scalar.REVERSED c.args.n (claim_of c.args.claim.now)
    c.row-item.result c.is_true_at.result
    (ap length c.row-item.is ∙ c.requires.wide c.loop-row.row-index c.row-item.result (omega arith))
    c.is_true_at.ensures in
    not_each
    (IsTrueThere g.S.Scalar.ring g.S.Scalar.numbering g.S.Scalar.REVERSED c.args.n (claim_of c.args.claim.now))
    c.args.rows.now c.loop-row.row-index c.row-item.result c.row-item.is (omega arith)
    (λ h. true≢false (sym (told.1 h) ∙ c.if-not-is_true_at.true))

pub loop-row-preserved : goal.loop-row-preserved
loop-row-preserved g c =
    let R = g.S.Scalar.ring in
    let N = g.S.Scalar.numbering in
    let claim = claim_of c.args.claim.now in
    let long : length c.row-item.result ≡ c.args.n =
    ap length c.row-item.is ∙ c.requires.wide c.loop-row.row-index c.row-item.result (omega arith) in
    let told = at_width R N g.S.Scalar.REVERSED c.args.n claim c.row-item.result c.is_true_at.result long
    c.is_true_at.ensures in
    each_more (IsTrueThere R N g.S.Scalar.REVERSED c.args.n claim) c.args.rows.now c.loop-row.row-index
    c.row-item.result c.row-item.is (omega arith) c.loop-row.invariant (told.0 c.if-not-is_true_at.false)
