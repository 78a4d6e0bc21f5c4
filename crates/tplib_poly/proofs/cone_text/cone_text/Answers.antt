use Rattle.std.proofs.Common.{◌∙◌, sym, ap, subst}
use Rattle.std.specs.Prelude.{All}
use Rattle.trop_theory.specs.Normal.{IsNormal}
use Rattle.trop_files.specs.PrintedFiles.{printed_gens}
use Rattle.trop_poly.specs.Cones.{InCone}
use Rattle.tplib_cones.proofs.ConeFiles.{cone_file}
use Rattle.tplib_poly.proofs.cone_text.cone_text.Goals as goal

pub print_gens-requires-clause-names : goal.print_gens-requires-clause-names
print_gens-requires-clause-names g c = c.rows.ensures.width ∙ c.requires.names

pub print_gens-requires-clause-normal : goal.print_gens-requires-clause-normal
print_gens-requires-clause-normal g c = subst (All (IsNormal g.S.Scalar.ring))
    (sym c.rows.ensures.rows) c.rows.ensures.canonical.normal

pub returns : goal.returns
returns g c =
    let cone = c.args.cone.now in
    cone_file g.met.S.Scalar.ring_laws g.S.Spelling.KIND g.S.Scalar.numbering c.args.names.now
    (InCone g.S.Scalar.ring cone) cone.rows c.in_ok-text.text.items cone.n c.requires.names c.rows.ensures.wide
    c.rows.ensures.canonical (λ x. (λ h. h, λ h. h))
    (c.in_ok-text.ensures.text ∙ ap (printed_gens g.S.Spelling.KIND g.S.Scalar.numbering c.args.names.now)
    c.rows.ensures.rows)
