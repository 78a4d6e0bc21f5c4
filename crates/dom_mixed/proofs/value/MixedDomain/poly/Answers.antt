use Rattle.std.proofs.Common.{◌≤◌, suc, ap, ◌∙◌, subst}
use Rattle.trop_theory.specs.Vectors.{rows_size}
use Rattle.trop_theory.specs.MaxPlus.{max_ring}
use Rattle.cone_domain.specs.Values.{Value, IsValue}
use Rattle.cone_domain.specs.Refused.{most_value}
use Rattle.dom_mixed.specs.Doubled.{IsDoubled}
use Rattle.dom_mixed.proofs.value.MixedDomain.poly.Goals as goal

pub returns-clause-width : goal.returns-clause-width
returns-clause-width c = c.poly.ensures.width ∙ ap (λ (v : Value _). suc v.vars) c.self.view_is

pub returns-clause-rows : goal.returns-clause-rows
returns-clause-rows c = c.poly.ensures.rows ∙ ap (λ (v : Value _). v.rows) c.self.view_is

pub returns-clause-doubled : goal.returns-clause-doubled
returns-clause-doubled c = subst IsDoubled c.self.view_is c.self.invariant

pub returns-clause-value : goal.returns-clause-value
returns-clause-value c = subst (IsValue max_ring) c.self.view_is c.poly.ensures.value

pub returns-clause-small : goal.returns-clause-small
returns-clause-small c = subst (λ (v : Value _). rows_size max_ring v.rows ≤ most_value) c.self.view_is
    c.poly.ensures.small
