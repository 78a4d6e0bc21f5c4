use Rattle.std.proofs.Common.{◌++◌, ◌+◌, [], ◌∷◌, length, refl, ap, sym, ◌∙◌, subst, arith}
use Rattle.std.proofs.lemmas.List.{length-append, length-take}
use Rattle.trop_theory.specs.Inequalities.{Solves, IsIn, inequality_size}
use Rattle.trop_theory.specs.Canonical.{IsOverLimit}
use Rattle.trop_dd.specs.Description.{IsRefusedBy}
use Rattle.trop_dd.proofs.Narrowings.{counts_none}
use Rattle.trop_dd.proofs.Conversions.{counts_further, front_more, stopped, within_more, same_inequality, size_at, inside_at, pushed_none, pushed_all, pushed_next, pushed_within, pushed_read, pushed_front, on_refusal}
use Rattle.trop_dd.proofs.conversion.Conversion.push_all.Goals as goal

pub loop-ineq-init : goal.loop-ineq-init
loop-ineq-init g c = record {
  width = refl;
  front = pushed_none c.args.self.now.system c.args.more.now;
  within = λ j f l. absurd (omega arith);
  counts = counts_none g.S.Scalar.ring c.args.self.now.rows c.args.looks.now c.args.looks.now (omega arith);
  kept = omega arith;
}

pub push-requires-clause-wide : goal.push-requires-clause-wide
push-requires-clause-wide g c =
    let same = same_inequality c.in_ok-copy.copy c.ineq-item.result c.in_ok-copy.ensures.left c.in_ok-copy.ensures.right
    in
    subst (λ m. IsIn m c.in_ok-copy.copy) (sym c.loop-ineq.invariant.width)
    (subst (IsIn c.args.self.now.n) (sym same) (inside_at c.args.self.now.n c.args.more.now c.loop-ineq.ineq-index
    c.ineq-item.result c.requires.wide (omega arith) c.ineq-item.is))

pub push-requires-clause-size : goal.push-requires-clause-size
push-requires-clause-size g c =
    let same = same_inequality c.in_ok-copy.copy c.ineq-item.result c.in_ok-copy.ensures.left c.in_ok-copy.ensures.right
    in
    omega (
      arith,
      ap (inequality_size g.S.Scalar.ring) same,
      size_at g.S.Scalar.ring c.args.more.now c.loop-ineq.ineq-index c.ineq-item.result (omega arith) c.ineq-item.is,
      c.requires.size,
    )

pub push-requires-clause-room : goal.push-requires-clause-room
push-requires-clause-room g c = omega (
  arith,
  c.requires.room,
  ap length c.loop-ineq.invariant.front,
  length-append c.args.self.now.system c.args.more.now,
  length-take (length c.args.self.now.system + c.loop-ineq.ineq-index) (c.args.self.now.system ++ c.args.more.now),
)

pub loop-ineq-preserved : goal.loop-ineq-preserved
loop-ineq-preserved g c =
    let R = g.S.Scalar.ring in
    let first = c.args.self.now.system in
    let more = c.args.more.now in
    let i = c.loop-ineq.ineq-index in
    let same = same_inequality c.in_ok-copy.copy c.ineq-item.result c.in_ok-copy.ensures.left c.in_ok-copy.ensures.right
    in
    let at = pushed_within first more i (omega arith) in
    let read = pushed_read first more i c.ineq-item.result c.ineq-item.is in
    record {
      width = c.in_default.ensures.width ∙ c.loop-ineq.invariant.width;
      front = pushed_next first more i c.push.new.self.system
          (c.in_default.ensures.system ∙ ap (λ q. c.loop-ineq.self.system ++ q ∷ []) same
          ∙ front_more R c.args.self.now.n (first ++ more) (length first + i) c.ineq-item.result at read
          c.loop-ineq.self.system c.loop-ineq.invariant.front);
      within = λ j behind l. within_more R c.args.self.now.n (first ++ more) (length first + i) c.ineq-item.result at
          read (length first) c.loop-ineq.self.system c.loop-ineq.self.n c.loop-ineq.invariant.width
          c.loop-ineq.invariant.front c.loop-ineq.invariant.within
          (subst (λ q. IsOverLimit R (Solves R c.loop-ineq.self.n (c.loop-ineq.self.system ++ q ∷ [])) → ⊥) same
          c.in_default.ensures.within) j behind (omega arith);
      counts = counts_further g.met.S.Scalar.ring_laws c.args.self.now.rows c.loop-ineq.self.rows c.push.new.self.rows
          c.args.looks.now c.loop-ineq.looks c.push.new.looks c.push.ensures.kept c.loop-ineq.invariant.counts
          c.in_default.ensures.counts;
      kept = omega (arith, c.loop-ineq.invariant.kept, c.push.ensures.kept);
    }

pub returns-in-Err-clause-stopped : goal.returns-in-Err-clause-stopped
returns-in-Err-clause-stopped g c =
    let R = g.S.Scalar.ring in
    let first = c.args.self.now.system in
    let more = c.args.more.now in
    let i = c.loop-ineq.ineq-index in
    let same = same_inequality c.in_ok-copy.copy c.ineq-item.result c.in_ok-copy.ensures.left c.in_ok-copy.ensures.right
    in
    stopped R c.args.self.now.n (first ++ more) (length first + i) c.ineq-item.result
    (pushed_within first more i (omega arith)) (pushed_read first more i c.ineq-item.result c.ineq-item.is)
    (length first) c.loop-ineq.self.system c.loop-ineq.self.n c.in-Err.err c.loop-ineq.invariant.width (omega arith)
    c.loop-ineq.invariant.front c.loop-ineq.invariant.within
    (subst (λ q. IsRefusedBy R c.loop-ineq.self.n (c.loop-ineq.self.system ++ q ∷ []) c.in-Err.err) same
    c.in-Err.ensures.refused)

pub returns-clause-system : goal.returns-clause-system
returns-clause-system g c = pushed_all c.args.self.now.system c.args.more.now c.loop-ineq.ineq-index
    c.loop-ineq.self.system (omega arith) c.loop-ineq.invariant.front

pub returns-clause-within : goal.returns-clause-within
returns-clause-within g c j f l o =
    c.loop-ineq.invariant.within j f (omega (arith, length-append c.args.self.now.system c.args.more.now)) o

pub returns-in_err-copy-clause-stays : goal.returns-in_err-copy-clause-stays
returns-in_err-copy-clause-stays g c = on_refusal c.from_residual.result (
  c.loop-ineq.ineq-index,
  pushed_front c.args.self.now.system c.args.more.now c.loop-ineq.ineq-index c.loop-ineq.self.system
      c.loop-ineq.invariant.front,
)

pub returns-in-Err-clause-stays : goal.returns-in-Err-clause-stays
returns-in-Err-clause-stays g c = (
  c.loop-ineq.ineq-index,
  ap (λ dd. dd.system) c.in-Err.ensures.stays
      ∙ pushed_front c.args.self.now.system c.args.more.now c.loop-ineq.ineq-index c.loop-ineq.self.system
      c.loop-ineq.invariant.front,
)
