use Rattle.std.proofs.Common.{◌≡◌, ◌+◌, ◌∙◌, sym, ap, refl, subst, length}
use Rattle.std.specs.Prelude.{All}
use Rattle.trop_theory.specs.Normal.{IsNormal}
use Rattle.trop_theory.specs.Inequalities.{Solves}
use Rattle.trop_dd.specs.Description.{Describes}
use Rattle.trop_spelling.proofs.EachKind.{one_of}
use Rattle.trop_files.specs.PrintedFiles.{printed_gens}
use Rattle.tplib_reply.proofs.Refused.{IsRefused-memory}
use Rattle.tplib_cones.specs.Ext.{ext_meaning}
use Rattle.tplib_cones.proofs.ConeFiles.{cone_file}
use Rattle.tplib_cones.proofs.LineByLine.{IsWithin, answered}
use Rattle.tplib_cones.proofs.ext.converted.Goals as goal

pub print_gens-requires-clause-normal : goal.print_gens-requires-clause-normal
print_gens-requires-clause-normal g c = subst (All (IsNormal g.S.Scalar.ring))
    (sym c.in_ok-rows.ensures.rows) c.rows.ensures.described.canonical.normal

pub returns-clause-reply : goal.returns-clause-reply
returns-clause-reply g c =
    let R = g.S.Scalar.ring in
    let names = c.args.lines.now.names in
    let pushed = c.in_ok-push_lines.ensures in
    let dd = c.push_lines.new.conversion in
    let wide : dd.n ≡ length names + 1 = pushed.width ∙ c.in_ok-conversion.ensures.width
    ∙ ap (λ n. n + 1) (c.len-n.ensures.count ∙ ap length c.names.ensures.names) in
    let described = subst (λ n. Describes R n dd.system dd.rows) wide c.rows.ensures.described in
    answered (one_of g.S.Spelling.three g.S.Spelling.KIND R g.S.Scalar.numbering g.met.S.Spelling.three_laws)
    c.args.lines.now.bytes names dd.system pushed.spelled c.in_ok-text.text.items
    (subst (λ n. IsWithin R n dd.system) (sym pushed.width ∙ wide) pushed.within)
    (cone_file g.met.S.Scalar.ring_laws g.S.Spelling.KIND g.S.Scalar.numbering names
    (Solves R (length names + 1) dd.system) dd.rows c.in_ok-text.text.items (length names + 1) refl
    (λ k d l. (described.canonical.extreme k d l).member.wide) described.canonical described.generates
    (c.in_ok-text.ensures.text ∙ ap (λ ns. printed_gens g.S.Spelling.KIND g.S.Scalar.numbering ns
    c.in_ok-rows.rows.rows) (c.names-2.ensures.names ∙ pushed.names)
    ∙ ap (printed_gens g.S.Spelling.KIND g.S.Scalar.numbering names) c.in_ok-rows.ensures.rows))
