use Rattle.std.proofs.Common.{◌+◌, ◌^◌, subst, sym, arith}
use Rattle.zone_tables.specs.Sizes.{IsWithin, AreWithin}
use Rattle.zone_tables.proofs.Sizes.{read-within}
use Rattle.dom_zone.proofs.value.number_at.Goals as goal

pub narrowed-requires : goal.narrowed-requires
narrowed-requires c = read-within (2 ^ 40) (2 ^ 40) (c.args.vars + 1) c.as_slice.result.now c.args.i c.args.j
    c.bound_at-bound.result c.bound_at-bound.ensures
    (subst (AreWithin (2 ^ 40)) (sym c.as_slice.ensures) c.requires.sound.within) (omega arith) (omega arith)
    (omega arith)

pub returns-clause-small : goal.returns-clause-small
returns-clause-small c = subst (IsWithin (2 ^ 40)) (sym c.narrowed.ensures)
    (read-within (2 ^ 40) (2 ^ 40) (c.args.vars + 1) c.as_slice.result.now c.args.i c.args.j c.bound_at-bound.result
    c.bound_at-bound.ensures (subst (AreWithin (2 ^ 40)) (sym c.as_slice.ensures) c.requires.sound.within) (omega arith)
    (omega arith) (omega arith))
