use Rattle.std.proofs.Common.{arith, ap, length, sym, ◌∙◌, subst}
use Rattle.trop_theory.specs.Inequalities.{InGuard}
use Rattle.trop_theory.specs.Combinations.{IsCombination}
use Rattle.trop_cones.specs.Represents.{Represents}
use Rattle.trop_guard.proofs.Pairs.{parts_there, found_there, wide_there, refused_there, last_there, few_first}
use Rattle.trop_guard.proofs.narrowing.guard.Goals as goal

pub try_all-requires : goal.try_all-requires
try_all-requires g c =
    let e = c.in_ok-parts.ensures in
    let laws = g.met.S.Scalar.ring_laws in
    record {
      parts = parts_there laws c.args.gens.now.n c.args.ineq.now c.args.gens.now.rows c.in_ok-parts.parts.kept.rows
          c.in_ok-parts.parts.dropped.rows c.in_ok-parts.parts.rights.items c.requires.inside c.requires.size e.wide
          c.requires.sizes c.requires.canonical e.kept e.dropped e.rights c.in_ok-parts.parts.kept.n e.kept_width;
      found = found_there laws c.args.gens.now.n c.args.ineq.now c.args.gens.now.rows c.in_ok-parts.parts.kept.rows
          c.in_ok-parts.parts.dropped.rows c.in_ok-parts.parts.rights.items c.requires.inside c.requires.size e.wide
          c.requires.sizes c.requires.canonical e.kept e.dropped e.rights c.in_ok-parts.parts.kept.n e.kept_width
          c.in_ok-found.found.items (c.in_ok-found.ensures ∙ c.as_slice.ensures.rows);
      within = omega (
        arith,
        ap length (c.in_ok-found.ensures ∙ c.as_slice.ensures.rows),
        few_first laws c.args.gens.now.n c.args.ineq.now c.args.gens.now.rows c.in_ok-parts.parts.kept.rows
            c.in_ok-parts.parts.dropped.rows c.in_ok-parts.parts.rights.items c.requires.inside c.requires.size e.wide
            c.requires.sizes c.requires.canonical e.kept e.dropped e.rights c.requires.few,
      );
    }

pub from_rows-requires-clause-wide : goal.from_rows-requires-clause-wide
from_rows-requires-clause-wide g c =
    let e = c.in_ok-parts.ensures in
    wide_there g.met.S.Scalar.ring_laws c.args.gens.now.n c.args.ineq.now c.args.gens.now.rows
    c.in_ok-parts.parts.kept.rows c.in_ok-parts.parts.dropped.rows c.in_ok-parts.parts.rights.items
    c.requires.inside c.requires.size e.wide c.requires.sizes c.requires.canonical e.kept e.dropped e.rights
    c.in_ok-parts.parts.kept.n e.kept_width c.try_all.new.found.items c.n.result c.n.ensures.value
    c.in_default.ensures.found

pub returns-clause-holds : goal.returns-clause-holds
returns-clause-holds g c =
    let e = c.in_ok-parts.ensures in
    let R = g.S.Scalar.ring in
    subst (Represents R c.args.gens.now.n (InGuard R (IsCombination R c.args.gens.now.n c.args.gens.now.rows)
    c.args.ineq.now)) (sym c.from_rows.ensures.rows)
    (last_there g.met.S.Scalar.ring_laws c.args.gens.now.n c.args.ineq.now c.args.gens.now.rows
    c.in_ok-parts.parts.kept.rows c.in_ok-parts.parts.dropped.rows c.in_ok-parts.parts.rights.items
    c.requires.inside c.requires.size e.wide c.requires.sizes c.requires.canonical e.kept e.dropped e.rights
    c.in_ok-parts.parts.kept.n e.kept_width c.try_all.new.found.items c.in_default.ensures.found
    c.in_default.ensures.mixed c.in_default.ensures.within)

pub returns-in-Err-clause-refused : goal.returns-in-Err-clause-refused
returns-in-Err-clause-refused g c =
    let e = c.in_ok-parts.ensures in
    refused_there g.met.S.Scalar.ring_laws c.args.gens.now.n c.args.ineq.now c.args.gens.now.rows
    c.in_ok-parts.parts.kept.rows c.in_ok-parts.parts.dropped.rows c.in_ok-parts.parts.rights.items
    c.requires.inside c.requires.size e.wide c.requires.sizes c.requires.canonical e.kept e.dropped e.rights
    c.in_ok-parts.parts.kept.n e.kept_width c.in-Err.err c.in-Err.ensures.refused
