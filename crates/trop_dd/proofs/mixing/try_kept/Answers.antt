use Rattle.std.proofs.Common.{sym, ap, ◌∙◌, subst, arith}
use Rattle.std.proofs.lemmas.List.{get_or_default}
use Rattle.trop_criterion.specs.Hypergraphs.{Has}
use Rattle.trop_dd.specs.Carried.{found_rows}
use Rattle.trop_dd.proofs.Mixes.{no_type_given}
use Rattle.trop_dd.proofs.Narrowings.{grows_none}
use Rattle.trop_dd.proofs.mixing.try_kept.Goals as goal

pub returns-then-is_empty-clause-grows : goal.returns-then-is_empty-clause-grows
returns-then-is_empty-clause-grows g c = grows_none
    (found_rows c.args.sides.now c.args.found.now.fresh.items c.args.found.now.order.items) c.args.looks.now
    c.args.looks.now (omega arith)

pub returns-then-is_empty-clause-given : goal.returns-then-is_empty-clause-given
returns-then-is_empty-clause-given g c =
    no_type_given g.met.S.Scalar.ring_laws c.args.system.now.n c.args.system.now.inequalities c.args.ineq.now
    c.args.sides.now c.requires.next (found_rows c.args.sides.now c.args.found.now.fresh.items
    c.args.found.now.order.items) c.args.kept.now c.requires.kept c.args.dropped.now c.requires.dropped
    c.types.result
    (λ d. c.types.ensures ∙ ap (λ s. s.words.types)
    (c.index-sides-kept.is ∙ get_or_default c.args.sides.now c.args.kept.now.place c.index-sides-kept.result d
    c.requires.kept.within))
    (λ j typed reaches. c.is_empty.ensures.none.0 c.if-is_empty.true j
    ((c.intersection.ensures j).1 (typed, subst (λ t. Has t j) (sym c.tail.ensures) reaches)))
