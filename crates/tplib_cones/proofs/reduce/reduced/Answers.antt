use Rattle.tplib_cones.proofs.Reduced.{reduced_text}
use Rattle.tplib_cones.proofs.reduce.reduced.Goals as goal

pub returns : goal.returns
returns g c =
    let made = c.in_ok-answer.ensures in
    reduced_text g.S.Spelling.KIND g.S.Scalar.ring g.S.Scalar.numbering c.args.file.now.names c.args.file.now.gens.n
    c.args.file.now.gens.rows _ _ c.requires.width
    (record { canonical = made.canonical; same = made.same; independent = made.independent }) c.print_gens.ensures.text
