use Rattle.std.proofs.Common.{sym, subst}
use Rattle.std.specs.Prelude.{All, IfOk, MatchOption}
use Rattle.trop_theory.specs.Vectors.{AreWide}
use Rattle.trop_theory.specs.Combinations.{IsCombination}
use Rattle.prog_graph.specs.Views.{op_of}
use Rattle.prog_check.specs.Firsts.{HasFirst, IsOutside}
use Rattle.prog_check.proofs.Loops.{found_moved}
use Rattle.prog_check.proofs.Lists.{list_wide, inside}
use Rattle.prog_check.proofs.escapes.escape.Goals as goal

pub first_outside-requires-clause-wide : goal.first_outside-requires-clause-wide
first_outside-requires-clause-wide g c =
    let n = c.args.source.now.n in
    subst (λ k. AreWide k c.as_slice.result.now) (sym c.requires.width)
    (subst (AreWide n) (sym c.as_slice.ensures.rows)
    (list_wide g.met.S.Scalar.ring_laws g.met.S.Numeric.numeric_laws n c.as_slice-source.ensures.at_least
    (op_of c.args.op.now) c.args.source.now.rows c.in_ok-list.list.rows c.requires.movable.fits
    c.as_slice-source.ensures.wide
    c.in_ok-list.ensures.list))

pub returns : goal.returns
returns g c =
    let R = g.S.Scalar.ring in
    let n = c.args.source.now.n in
    let target = c.args.target.now in
    let list = c.in_ok-list.list.rows in
    let P = IsCombination R n target.rows in
    let told : IfOk c.first_outside.result (λ found. MatchOption found (All P list) (HasFirst P list)) =
    subst (λ k. IfOk c.first_outside.result (λ found. MatchOption found (All (IsCombination R k target.rows) list)
    (HasFirst (IsCombination R k target.rows) list))) c.requires.width
    (subst (λ rows. IfOk c.first_outside.result (λ found.
    MatchOption found (All (IsCombination R target.n target.rows) rows)
    (HasFirst (IsCombination R target.n target.rows) rows))) c.as_slice.ensures.rows c.first_outside.ensures) in
    found_moved (HasFirst P list)
    (IsOutside R g.S.Scalar.numbering g.S.Scalar.REVERSED n (op_of c.args.op.now) c.args.source.now.rows target.rows)
    c.first_outside.result
    (λ all. inside g.met.S.Scalar.ring_laws g.met.S.Numeric.numeric_laws n c.as_slice-source.ensures.at_least
    (op_of c.args.op.now) c.args.source.now.rows list target.rows c.requires.movable.fits c.as_slice-source.ensures.wide
    (subst (λ k. AreWide k target.rows) c.requires.width c.as_slice-target.ensures.wide) c.in_ok-list.ensures.list all)
    (λ row first. (list, c.in_ok-list.ensures.list, first)) told
