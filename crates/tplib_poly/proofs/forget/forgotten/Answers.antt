use Rattle.std.proofs.Common.{◌≡◌, ◌≤◌, ◌+◌, ◌∙◌, length, refl, sym, subst, arith}
use Rattle.trop_cones.specs.Sets.{InForget}
use Rattle.trop_files.specs.FileLimits.{AreFileRows}
use Rattle.trop_poly.specs.Cones.{InCone}
use Rattle.tplib_poly.proofs.Pairs.{kept_same, represented_same}
use Rattle.tplib_poly.proofs.Forgotten.{forget_replies, forget_refused}
use Rattle.tplib_poly.proofs.forget.forgotten.Goals as goal

pub kept_cone-requires : goal.kept_cone-requires
kept_cone-requires g c = subst (λ n. AreFileRows g.S.Scalar.ring n c.args.file.now.gens.rows)
    (sym c.requires.width) c.requires.rows

pub forget-requires-clause-within : goal.forget-requires-clause-within
forget-requires-clause-within g c = let first = c.in_ok-cone.ensures.width in let second = c.requires.width in
    let third = c.requires.place in omega arith

pub forget-requires-clause-size : goal.forget-requires-clause-size
forget-requires-clause-size g c = let small = c.in_ok-cone.ensures.small in omega arith

pub cone_text-requires : goal.cone_text-requires
cone_text-requires g c = record { names = c.in-Ok.ensures.width ∙ c.in_ok-cone.ensures.width ∙ c.requires.width }

pub returns-in-Err-clause-refused : goal.returns-in-Err-clause-refused
returns-in-Err-clause-refused g c =
    let file = c.args.file.now in
    forget_refused g.met.S.Scalar.ring_laws g.S.Spelling.KIND g.S.Scalar.numbering file.names file.gens.rows
    c.args.place (c.args.place + 1) refl
    (kept_same file.gens.n c.in_ok-cone.cone.n (length file.names + 1) file.gens.rows c.in_ok-cone.cone.rows
    c.requires.width c.in_ok-cone.ensures.width c.in_ok-cone.ensures.holds)
    c.in-Err.e c.refusal.result c.refusal.ensures c.in-Err.ensures.refused

pub returns-clause-reply : goal.returns-clause-reply
returns-clause-reply g c =
    let R = g.S.Scalar.ring in
    let file = c.args.file.now in
    let cone = c.in_ok-cone.cone in
    let rest = InForget R (InCone R cone) (c.args.place + 1) in
    forget_replies g.met.S.Scalar.ring_laws g.S.Spelling.KIND g.S.Scalar.numbering file.names file.gens.rows
    c.args.place (c.args.place + 1) refl
    (kept_same file.gens.n cone.n (length file.names + 1) file.gens.rows cone.rows c.requires.width
    c.in_ok-cone.ensures.width c.in_ok-cone.ensures.holds)
    cone.n c.in-Ok.rest.rows c.in_ok-text.text.items c.in-Ok.ensures.holds
    (represented_same cone.n c.in-Ok.rest.n rest c.in-Ok.rest.rows c.in-Ok.ensures.width c.in-Ok.ensures.holds)
    c.in_ok-text.ensures
