use Rattle.std.proofs.Common.{◌≡◌, ◌≤◌, ◌∙◌, length, ap, arith}
use Rattle.std.specs.Prelude.{max}
use Rattle.trop_theory.specs.Vectors.{rows_size}
use Rattle.trop_theory.specs.Inequalities.{system_size}
use Rattle.trop_scalar.specs.MaxPlus.{max_ring}
use Rattle.tplib_poly.specs.Sample.{sample_lines}
use Rattle.tplib_poly.proofs.Sampled.{sample_small, sampled, unbounded, unconverted}
use Rattle.tplib_poly.proofs.sample.sample_reply.Goals as goal

pub from_system-requires : goal.from_system-requires
from_system-requires c = let small = c.in_ok-system.ensures.size in omega arith

pub external-requires : goal.external-requires
external-requires c =
    let small = sample_small (system_size max_ring c.in_ok-system.system.inequalities)
    (rows_size max_ring c.in-Ok.cone.rows) c.in_ok-system.system.n c.args.vars c.in_ok-system.ensures.size
    c.in_ok-system.ensures.width c.requires.at_most c.in-Ok.ensures.small in
    omega arith

pub returns-in-Err-clause-refused : goal.returns-in-Err-clause-refused
returns-in-Err-clause-refused c =
    unconverted c.args.seed c.args.vars c.args.rows c.in_ok-system.system.inequalities
    c.in_ok-system.ensures.inequalities c.in_ok-system.system.n c.in_ok-system.ensures.width c.in-Err.e
    c.refusal.result c.refusal.ensures c.in-Err.ensures.refused

pub returns-in-Err-external-clause-refused : goal.returns-in-Err-external-clause-refused
returns-in-Err-external-clause-refused c =
    unbounded c.args.seed c.args.vars c.args.rows c.in_ok-system.system.inequalities c.in_ok-system.ensures.inequalities
    c.in_ok-system.system.n c.in_ok-system.ensures.width c.in-Ok.cone.rows c.in-Ok.ensures.holds
    c.in-Ok.ensures.unstopped
    c.in-Ok.cone.n (c.in-Ok.ensures.width ∙ c.in_ok-system.ensures.width) c.in-Err-external.e
    c.refusal-in-Err-external.result c.refusal-in-Err-external.ensures c.in-Err-external.ensures.refused

pub returns-clause-reply : goal.returns-clause-reply
returns-clause-reply c =
    let cone = c.in-Ok.cone in
    let bounds = c.in-Ok-external.bounds in
    let largest = c.greater-largest.ensures ∙ ap (λ a. max a c.system_size.result) c.size.ensures
    ∙ ap (max (rows_size max_ring cone.rows)) (c.system_size.ensures
    ∙ ap (system_size max_ring) c.as_slice.ensures.inequalities) in
    let generators = c.len.ensures.len ∙ ap length c.rows.ensures.rows in
    sampled c.args.seed c.args.vars c.args.rows c.in_ok-system.system.inequalities c.in_ok-system.ensures.inequalities
    c.in_ok-system.system.n c.in_ok-system.ensures.width cone.rows c.in-Ok.ensures.holds c.in-Ok.ensures.unstopped
    cone.n (c.in-Ok.ensures.width ∙ c.in_ok-system.ensures.width) bounds.inequalities c.in_ok-text.text.items
    (record {
      external = c.in-Ok-external.ensures.external;
      solutions = c.in-Ok-external.ensures.solutions;
      unstopped =
          c.in-Ok-external.ensures.unstopped;
    })
    (c.in_ok-text.ensures ∙ ap (λ m. sample_lines c.args.vars c.args.rows c.len.result c.len-2.result m) largest
    ∙ ap (λ k. sample_lines c.args.vars c.args.rows k c.len-2.result
    (max (rows_size max_ring cone.rows) (system_size max_ring bounds.inequalities))) generators
    ∙ ap (λ k. sample_lines c.args.vars c.args.rows (length cone.rows) k
    (max (rows_size max_ring cone.rows) (system_size max_ring bounds.inequalities))) c.len-2.ensures.len)
