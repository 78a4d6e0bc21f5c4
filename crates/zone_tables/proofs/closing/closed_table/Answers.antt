use Rattle.std.proofs.Common.{◌≡◌, ◌^◌, ◌+◌, suc, subst, sym, arith, add-one}
use Rattle.zone_tables.specs.Sizes.{AreWithin}
use Rattle.zone_tables.specs.Passes.{IsPassed}
use Rattle.zone_tables.proofs.Passes.{pass-within, pass-step, pass-all}
use Rattle.zone_tables.proofs.closing.closed_table.Goals as goal

pub passed_table-requires-clause-within : goal.passed_table-requires-clause-within
passed_table-requires-clause-within c = subst (AreWithin (2 ^ 120)) (sym c.as_slice.ensures)
    (pass-within c.args.vars c.args.bounds.now c.loop-k.table c.loop-k.k (omega arith) c.loop-k.invariant)

pub loop-k-preserved : goal.loop-k-preserved
loop-k-preserved c = pass-step c.args.vars (c.args.vars + 1) c.loop-k.k c.args.bounds.now c.loop-k.table
    c.as_slice.result.now c.in_ok-table-2.table c.requires.some.0 c.requires.some.1 (add-one c.args.vars)
    (omega arith) c.as_slice.ensures c.in_ok-table-2.ensures c.loop-k.invariant

pub returns : goal.returns
returns c = let e : c.loop-k.k ≡ suc c.args.vars = omega arith in pass-all c.args.vars c.args.bounds.now c.loop-k.table
    c.requires.some.0 c.requires.some.1
    (subst (λ k. IsPassed c.args.vars c.args.bounds.now k c.loop-k.table) e c.loop-k.invariant)
