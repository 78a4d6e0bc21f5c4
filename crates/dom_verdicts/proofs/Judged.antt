-- The verdicts on a program: those on its statements are those on its asserts, one for each.
use Rattle.std.proofs.Common.{◌≡◌, ◌≤◌, ◌+◌, ◌∙◌, ℕ, Bool, List, [], length, map, sym, subst, ap, arith}
use Rattle.std.specs.List.{AllZip}
use Rattle.std.proofs.lemmas.List.{length-map}
use Rattle.prog_theory.specs.Statements.{Claim, Block}
use Rattle.prog_theory.specs.Each.{EachClaims}
use Rattle.prog_theory.specs.Graph.{points}
use Rattle.prog_theory.specs.Limits.{program_limits}
use Rattle.prog_theory.specs.Named.{Named, nameless}
use Rattle.prog_theory.specs.Places.{widths}
use Rattle.prog_theory.specs.Within.{IsWithin}
use Rattle.prog_theory.proofs.ControlGraphs.{graph_of_program}
use Rattle.cone_reports.specs.Asserts.{Assertion, asserts}
use Rattle.dom_theory.specs.Relations.{Relations}
use Rattle.dom_family.specs.Family.{value_in, IsJudgedBy}
use Rattle.dom_family.proofs.Zips.{AllZip-length, AllZip-map}
use Rattle.dom_verdicts.specs.Claims.{claims_bl, IsJudgeable, IsVerdictOn, AreAdded, value_at}
use Rattle.dom_verdicts.proofs.Added.{AreAdded-all}
use Rattle.dom_verdicts.proofs.Judgeable.{judgeable}
use Rattle.dom_verdicts.proofs.Claims.{claimed, program_claims, widths_inside}

-- a value for each point of a program
module _ (p : Named) (count : ℕ) (points_are : count ≡ length (points (nameless p))) where
  pub few_values : IsWithin program_limits p → count ≤ 65536
  few_values kept = let m = (graph_of_program p kept).points in omega (arith, points_are, m)

  pub points_inside : (body : Block) → body ≡ p.body → 0 + widths body ≤ count
  points_inside body is =
      let w = widths_inside (nameless p) in
      let b = ap widths is in
      omega (arith, points_are, w, b)

-- the claims of its statements can be judged
pub body_judgeable : (suits : Claim → Type 0) (p : Named) → IsWithin program_limits p → EachClaims suits p.body →
    (vars : ℕ) (body : Block) → vars ≡ length p.names → body ≡ p.body → EachClaims (IsJudgeable suits vars) body
body_judgeable suits p kept words vars body same is =
    subst (λ n. EachClaims (IsJudgeable suits n) body) (sym same)
    (subst (EachClaims (IsJudgeable suits (length p.names))) (sym is)
    (judgeable suits (length p.names) p.body words kept.coordinates kept.numbers))

-- one verdict for each assert
pub judged_length : {V : Type 0} (proven : Claim → V → Type 0) (value : ℕ → V) (p : Named) (verdicts : List Bool) →
    AllZip (IsJudgedBy proven value) (asserts (nameless p)) verdicts →
    length verdicts ≡ length (map (λ (a : Assertion). a.number) (asserts (nameless p)))
judged_length proven value p verdicts h =
    sym (AllZip-length (IsJudgedBy proven value) (asserts (nameless p)) verdicts h)
    ∙ sym (length-map (asserts (nameless p)) (λ (a : Assertion). a.number))

-- what is added for the statements of a program judges its asserts
pub judged_by : {V : Type 0} (D : Relations V) (proven : Claim → V → Type 0) (p : Named) (vars : ℕ) (body : Block)
    (values : List V) (old verdicts : List Bool) → vars ≡ length p.names → body ≡ p.body → old ≡ [] →
    AreAdded (IsVerdictOn proven (value_at D vars values)) (claims_bl 0 body) old verdicts →
    AllZip (IsJudgedBy proven (value_in D p values)) (asserts (nameless p)) verdicts
judged_by D proven p vars body values old verdicts same is none h =
    let P = IsVerdictOn proven (value_at D (length p.names) values) in
    let added : AreAdded P (claims_bl 0 p.body) [] verdicts =
    subst (λ n. AreAdded (IsVerdictOn proven (value_at D n values)) (claims_bl 0 p.body) [] verdicts) same
    (subst (λ b. AreAdded (IsVerdictOn proven (value_at D vars values)) (claims_bl 0 b) [] verdicts) is
    (subst (λ (z : List Bool). AreAdded (IsVerdictOn proven (value_at D vars values)) (claims_bl 0 body) z verdicts)
    none h)) in
    AllZip-map P claimed (asserts (nameless p)) verdicts
    (subst (λ z. AllZip P z verdicts) (sym (program_claims (nameless p)))
    (AreAdded-all P (claims_bl 0 p.body) verdicts added))
