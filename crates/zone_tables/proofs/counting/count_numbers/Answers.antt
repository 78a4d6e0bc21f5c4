use Rattle.std.proofs.Common.{◌≡◌, ◌≤◌, ◌+◌, ◌*◌, subst, add-one, arith}
use Rattle.std.proofs.lemmas.Nat.{mul-le}
use Rattle.zone_theory.specs.Width.{cell, total}
use Rattle.zone_tables.specs.Tables.{matrix_of}
use Rattle.zone_tables.proofs.Totals.{row-le, rows-le}
use Rattle.zone_tables.proofs.counting.count_numbers.Goals as goal

pub overflow_add-count : goal.overflow_add-count
overflow_add-count c = omega (
  arith,
  c.loop-i.invariant,
  rows-le (matrix_of (c.args.vars + 1) c.args.bounds.now)
      (c.args.vars + 1) c.loop-i.i,
  c.count_row-count.ensures,
  row-le (matrix_of (c.args.vars + 1) c.args.bounds.now)
      c.loop-i.i (c.args.vars + 1),
  mul-le c.loop-i.i (c.args.vars + 1) 64 64 (omega arith) (omega arith),
  c.requires.few,
)

pub returns : goal.returns
returns c = let e : c.loop-i.i ≡ c.args.vars + 1 = omega arith in subst
    (λ n. c.loop-i.count ≡ total (λ i. total (cell (matrix_of n c.args.bounds.now) i) n) n) (add-one c.args.vars)
    (subst (λ k. c.loop-i.count ≡ total
    (λ i. total (cell (matrix_of (c.args.vars + 1) c.args.bounds.now) i) (c.args.vars + 1)) k) e c.loop-i.invariant)
