use Rattle.std.proofs.Common.{◌≤◌, length, suc, sym, ap, ◌∙◌, subst}
use Rattle.std.specs.Prelude.{MatchOption}
use Rattle.trop_theory.specs.Vectors.{rows_size}
use Rattle.trop_theory.specs.Inequalities.{system_size}
use Rattle.trop_theory.specs.Canonical.{row_limit}
use Rattle.cone_domain.specs.Values.{Value, IsValue}
use Rattle.cone_domain.specs.Refused.{most_value}
use Rattle.dom_poly.specs.Kept.{most_kept}
use Rattle.dom_poly.proofs.Sound.{one_more, list_small}
use Rattle.dom_poly.proofs.value.PolyDomain.poly.Goals as goal

pub returns-clause-width : goal.returns-clause-width
returns-clause-width g c = sym (one_more c.self.inside.cone c.self.invariant.at_least)
    ∙ ap (λ (v : Value _). suc v.vars) c.self.view_is

pub returns-clause-rows : goal.returns-clause-rows
returns-clause-rows g c = ap (λ (v : Value _). v.rows) c.self.view_is

pub returns-clause-value : goal.returns-clause-value
returns-clause-value g c = subst (IsValue g.S.Scalar.ring) c.self.view_is c.self.invariant.value

pub returns-clause-few : goal.returns-clause-few
returns-clause-few g c = subst (λ (v : Value _). length v.rows ≤ row_limit) c.self.view_is c.self.invariant.few

pub returns-clause-small : goal.returns-clause-small
returns-clause-small g c = subst (λ (v : Value _). rows_size g.S.Scalar.ring v.rows ≤ most_value) c.self.view_is
    c.self.invariant.small

pub returns-clause-list : goal.returns-clause-list
returns-clause-list g c =
    let R = g.S.Scalar.ring in
    subst (λ (v : Value _). MatchOption v.kept (Unit {0}) (λ list. system_size R list ≤ most_kept)) c.self.view_is
    (list_small R c.self.inside.cone.n c.self.inside.kept c.self.invariant.list)
