use Rattle.std.proofs.Common.{◌<◌, ◌^◌, arith}
use Rattle.prog_theory.specs.Numbering.{count}
use Rattle.prog_tree.specs.Stmts.{stmt_of}
use Rattle.prog_run.specs.Stacks.{stack_of}
use Rattle.prog_run.proofs.Stacks.{emptied, top_small, popped}
use Rattle.prog_run.proofs.stack.pop_top.Goals as goal

pub count-requires : goal.count-requires
count-requires c =
    let h = top_small c.rests.stack.items c.pop.new.self.items c.in-Some.rest
    (stack_of c.args.stack.now.items) c.rests.invariant c.in-Some.ensures.items c.in-Some-split_first.stmt.now
    c.in-Some-split_first.others.now c.in-Some-split_first.ensures.cases.0 c.requires in
    let small : count (stmt_of c.in-Some-split_first.stmt.now) < 2 ^ 32 = omega (arith, h) in
    small

pub overflow_add-rest : goal.overflow_add-rest
overflow_add-rest c =
    let h = top_small c.rests.stack.items c.pop.new.self.items c.in-Some.rest
    (stack_of c.args.stack.now.items) c.rests.invariant c.in-Some.ensures.items c.in-Some-split_first.stmt.now
    c.in-Some-split_first.others.now c.in-Some-split_first.ensures.cases.0 c.requires in
    omega (arith, h, c.count.ensures)

pub returns-in-Some-split_first : goal.returns-in-Some-split_first
returns-in-Some-split_first c =
    popped c.rests.stack.items c.pop.new.self.items c.in-Some.rest
    (stack_of c.args.stack.now.items) c.rests.invariant c.in-Some.ensures.items c.in-Some-split_first.stmt.now
    c.in-Some-split_first.others.now c.in-Some-split_first.ensures.cases.0 c.count.result
    (stack_of c.push_rest.new.stack.items) c.count.ensures c.in_ok-push_rest.ensures

pub rests-preserved : goal.rests-preserved
rests-preserved c =
    emptied c.rests.stack.items c.pop.new.self.items c.in-Some.rest
    (stack_of c.args.stack.now.items) c.rests.invariant c.in-Some.ensures.items
    c.in_default-split_first.ensures.cases
