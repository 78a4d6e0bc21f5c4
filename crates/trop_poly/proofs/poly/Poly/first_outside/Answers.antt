use Rattle.std.proofs.Common.{List, length, sym, ap, ◌∙◌, subst, arith}
use Rattle.std.specs.Prelude.{◌↔◌, All, IsNone, IfNone, IfSome}
use Rattle.trop_theory.specs.Vectors.{rows_size, AreWide}
use Rattle.trop_theory.specs.Combinations.{IsCombination}
use Rattle.trop_poly.specs.Cones.{InCone}
use Rattle.trop_poly.specs.Outside.{IsFirstOutside}
use Rattle.trop_poly.proofs.Kept.{cone_is}
use Rattle.trop_poly.proofs.Compared.{within_by_first}
use Rattle.trop_poly.proofs.poly.Poly.first_outside.Goals as goal

pub first_of-requires-clause-wide : goal.first_of-requires-clause-wide
first_of-requires-clause-wide g c =
    subst (AreWide c.rows-2.result.now.n) (sym (c.as_slice.ensures.rows ∙ c.rows.ensures.rows))
    (subst (λ n. AreWide n c.args.self.now.rows)
    (c.requires.width ∙ sym c.rows-2.ensures.width) c.rows.ensures.wide)

pub returns-clause-none : goal.returns-clause-none
returns-clause-none g c =
    let R = g.S.Scalar.ring in
    let p = c.args.self.now in
    let q = c.args.other.now in
    let there = cone_is c.rows-2.result.now.n c.rows-2.result.now.rows q c.rows-2.ensures.width c.rows-2.ensures.rows in
    let all = subst (λ rows. IfNone c.first_of.result (All (InCone R q) rows))
    (c.as_slice.ensures.rows ∙ c.rows.ensures.rows)
    (subst (λ r. IfNone c.first_of.result (All (InCone R r) c.as_slice.result.now)) there c.first_of.ensures.none)
    in
    let first = subst (λ rows. IfSome c.first_of.result (IsFirstOutside rows (InCone R q)))
    (c.as_slice.ensures.rows ∙ c.rows.ensures.rows)
    (subst (λ r. IfSome c.first_of.result (IsFirstOutside c.as_slice.result.now (InCone R r))) there
    c.first_of.ensures.some) in
    subst (λ n. IsNone c.first_of.result ↔ ((x : List _) → IsCombination R n p.rows x → InCone R q x))
    (sym c.requires.width)
    (within_by_first g.met.S.Scalar.ring_laws q.n p.rows q.rows
    (subst (λ n. AreWide n p.rows) c.requires.width c.rows.ensures.wide) c.rows-2.ensures.wide c.first_of.result all
    first)

pub returns-clause-some : goal.returns-clause-some
returns-clause-some g c =
    let R = g.S.Scalar.ring in
    let q = c.args.other.now in
    let there = cone_is c.rows-2.result.now.n c.rows-2.result.now.rows q c.rows-2.ensures.width c.rows-2.ensures.rows in
    subst (λ rows. IfSome c.first_of.result (IsFirstOutside rows (InCone R q)))
    (c.as_slice.ensures.rows ∙ c.rows.ensures.rows)
    (subst (λ r. IfSome c.first_of.result (IsFirstOutside c.as_slice.result.now (InCone R r))) there
    c.first_of.ensures.some)
