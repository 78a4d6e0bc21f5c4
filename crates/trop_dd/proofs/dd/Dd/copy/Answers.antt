use Rattle.std.proofs.Common.{◌≤◌, ◌^◌, length, ap, sym, ◌∙◌, subst}
use Rattle.trop_theory.specs.Vectors.{AreWide}
use Rattle.trop_dd.specs.Sound.{IsSound}
use Rattle.trop_dd.proofs.dd.Dd.copy.Goals as goal

pub from_rows-requires : goal.from_rows-requires
from_rows-requires g c =
    let e = c.in_ok-rows.ensures ∙ c.as_slice.ensures.rows in
    record {
      at_least = c.n.ensures.at_least;
      at_most = c.n.ensures.at_most;
      room = subst (λ s. length s ≤ 2 ^ 31) (sym e) c.as_slice.ensures.room;
      wide = subst (AreWide c.n.result) (sym e) (subst (λ n. AreWide n c.self.inside.rows.rows)
          (sym c.n.ensures.value) c.as_slice.ensures.wide);
    }

pub invariant_of-result : goal.invariant_of-result
invariant_of-result g c =
    let same = c.in_ok-conversion.ensures.same in (
      c.from_rows.ensures.width ∙ c.n.ensures.value ∙ c.self.invariant.0 ∙ sym (ap (λ dd. dd.n) same),
      c.from_rows.ensures.rows ∙ c.in_ok-rows.ensures ∙ c.as_slice.ensures.rows ∙ c.self.invariant.1
          ∙ sym (ap (λ dd. dd.rows) same),
      subst (λ dd. IsSound g.S.Scalar.ring dd.n dd.system dd.rows) (sym same) c.self.invariant.2,
    )

pub returns : goal.returns
returns g c = record { same = c.in_ok-conversion.ensures.same ∙ c.self.view_is }
