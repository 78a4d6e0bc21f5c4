use Rattle.trop_theory.proofs.Placing.{search_found, search_place}
use Rattle.trop_guard.proofs.found.place_of.Goals as goal

pub returns-clause-found : goal.returns-clause-found
returns-clause-found g c = search_found g.met.S.Scalar.ring_laws g.S.PartialEq.eq g.met.S.Scalar.decides c.args.rows.now
    c.args.row.now c.binary_search.result c.binary_search.ensures.bound c.binary_search.ensures.ok

pub returns-clause-place : goal.returns-clause-place
returns-clause-place g c = search_place g.met.S.Scalar.ring_laws g.S.PartialEq.eq g.met.S.Scalar.decides c.args.rows.now
    c.args.row.now c.binary_search.result c.requires c.binary_search.ensures.bound c.binary_search.ensures.position
