use Rattle.std.proofs.Common.{◌≡◌, arith, ap, length, refl, sym, ◌∙◌, subst}
use Rattle.trop_theory.specs.Vectors.{rows_size, AreWide}
use Rattle.trop_guard.proofs.Pairs.{wide_chosen, small_chosen, few_chosen}
use Rattle.trop_guard.proofs.parts.part.Goals as goal

pub sums-requires-clause-wide : goal.sums-requires-clause-wide
sums-requires-clause-wide g c = wide_chosen _ c.args.gens.now.n c.n-n.result c.args.gens.now.rows
    c.as_slice-rows.result.now c.in_ok-kept.kept.items c.as_slice.result.now c.n-n.ensures.value
    c.as_slice-rows.ensures.rows c.as_slice.ensures.value c.in_ok-kept.ensures c.as_slice-rows.ensures.wide

pub sums-requires-clause-sizes : goal.sums-requires-clause-sizes
sums-requires-clause-sizes g c = small_chosen g.met.S.Scalar.ring_laws _ c.args.gens.now.rows c.as_slice-rows.result.now
    c.in_ok-kept.kept.items c.as_slice.result.now c.as_slice-rows.ensures.rows c.as_slice.ensures.value
    c.in_ok-kept.ensures c.requires.sizes

pub from_rows-requires-clause-room : goal.from_rows-requires-clause-room
from_rows-requires-clause-room g c = few_chosen _ c.args.gens.now.rows c.as_slice-rows.result.now
    c.in_ok-kept.kept.items c.as_slice-rows.ensures.rows c.in_ok-kept.ensures c.as_slice-rows.ensures.room

pub from_rows-requires-clause-wide : goal.from_rows-requires-clause-wide
from_rows-requires-clause-wide g c = wide_chosen _ c.args.gens.now.n c.n-n.result c.args.gens.now.rows
    c.as_slice-rows.result.now c.in_ok-kept.kept.items c.in_ok-kept.kept.items c.n-n.ensures.value
    c.as_slice-rows.ensures.rows refl c.in_ok-kept.ensures c.as_slice-rows.ensures.wide

pub from_rows-requires-2-clause-room : goal.from_rows-requires-2-clause-room
from_rows-requires-2-clause-room g c = few_chosen _ c.args.gens.now.rows c.as_slice-rows.result.now
    c.in_ok-dropped.dropped.items c.as_slice-rows.ensures.rows c.in_ok-dropped.ensures c.as_slice-rows.ensures.room

pub from_rows-requires-2-clause-wide : goal.from_rows-requires-2-clause-wide
from_rows-requires-2-clause-wide g c = wide_chosen _ c.args.gens.now.n c.n-n.result c.args.gens.now.rows
    c.as_slice-rows.result.now c.in_ok-dropped.dropped.items c.in_ok-dropped.dropped.items c.n-n.ensures.value
    c.as_slice-rows.ensures.rows refl c.in_ok-dropped.ensures c.as_slice-rows.ensures.wide
