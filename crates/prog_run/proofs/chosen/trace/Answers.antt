use Rattle.std.proofs.Common.{◌≡◌, ◌+◌, ◌++◌, length, take, drop, refl, arith}
use Rattle.prog_theory.specs.Named.{nameless}
use Rattle.prog_run.specs.Stacks.{stack_of}
use Rattle.prog_run.specs.Views.{end_of}
use Rattle.prog_run.proofs.Stacks.{whole_stack, ready_numbered}
use Rattle.prog_run.proofs.Going.{begins_with, over, on, at_the_end, written_back}
use Rattle.prog_run.proofs.Programs.{program_ready, traced, visited}
use Rattle.prog_run.proofs.chosen.trace.Goals as goal

pub turns-init : goal.turns-init
turns-init c =
    begins_with (nameless c.args.program.now) c.args.start.now c.args.choices.now c.args.turns
    c.new-configs.result (stack_of c.push_block.new.stack.items) c.in_ok-state.state.items
    c.new-configs.ensures
    (whole_stack (stack_of c.push_block.new.stack.items) c.new-stack.result.items c.body.result.now
    c.args.program.now.body c.in_ok-push_block.ensures c.new-stack.ensures.items c.body.ensures.value)
    c.in_ok-state.ensures.items c.requires.width (program_ready c.args.program.now c.body.ensures.keeps)
    c.requires.start_small c.requires.choices_small

pub returns-in-Ends : goal.returns-in-Ends
returns-in-Ends c =
    let P = nameless c.args.program.now in
    let is = over P c.args.start.now c.args.choices.now c.args.turns c.turns.counter c.turns.configs
    (stack_of c.turns.stack.items) c.turns.state.items c.turns.left.now c.turns.invariant c.deref_mut.result.now
    c.deref_mut.ensures.value c.turn.new.configs c.in_ok-ended.ensures.shown c.in_ok-ended.field-0
    (stack_of c.turn.new.stack.items) c.turn.new.state c.in_ok-ended.ensures.picked c.turns-test.true
    c.in-Ends.ended c.in-Ends.is in
    record {
      configs = is.0;
      ended = is.1;
      run = traced P c.args.start.now c.args.choices.now c.args.turns c.turn.new.configs (end_of c.in-Ends.ended) is;
      visits = visited P c.args.start.now c.args.choices.now c.args.turns c.turn.new.configs
          (end_of c.in-Ends.ended) is c.requires.width;
    }

pub turns-preserved : goal.turns-preserved
turns-preserved c =
    let many : c.turns.state.len ≡ length c.turn.new.state =
    omega (arith, c.deref_mut.ensures.len, c.turn.auto.state) in
    on (nameless c.args.program.now) c.args.start.now c.args.choices.now c.args.turns c.turns.counter c.turns.configs
    (stack_of c.turns.stack.items) c.turns.state.items c.turns.left.now c.turns.invariant c.deref_mut.result.now
    c.deref_mut.ensures.value c.turn.new.configs c.in_ok-ended.ensures.shown c.in_ok-ended.field-0
    (stack_of c.turn.new.stack.items) c.turn.new.state c.in_ok-ended.ensures.picked c.turns-test.true c.in-Goes.rest
    (c.turns.counter + 1)
    (take c.turns.state.len (c.turn.new.state ++ drop (length c.turn.new.state) c.turns.state.items)) c.in-Goes.is refl
    (written_back c.turns.state.len c.turn.new.state c.turns.state.items many)

pub last_turn-requires : goal.last_turn-requires
last_turn-requires c = ready_numbered (length c.args.program.now.names)
    (stack_of c.turns.stack.items) c.turns.invariant.ready

pub returns : goal.returns
returns c =
    let P = nameless c.args.program.now in
    let all : c.turns.counter ≡ c.args.turns = omega (arith, c.turns-test.false, c.turns.auto.counter-end) in
    let is = at_the_end P c.args.start.now c.args.choices.now c.args.turns c.turns.counter c.turns.configs
    (stack_of c.turns.stack.items) c.turns.state.items c.turns.left.now c.turns.invariant c.deref.result.now
    c.deref.ensures.value c.last_turn.new.configs c.in_ok-ended-2.ensures.shown
    (end_of c.in_ok-ended-2.ended) all c.in_ok-ended-2.ensures.ended in
    record {
      configs = is.0;
      ended = is.1;
      run = traced P c.args.start.now c.args.choices.now c.args.turns c.last_turn.new.configs
          (end_of c.in_ok-ended-2.ended) is;
      visits = visited P c.args.start.now c.args.choices.now c.args.turns c.last_turn.new.configs
          (end_of c.in_ok-ended-2.ended) is c.requires.width;
    }
