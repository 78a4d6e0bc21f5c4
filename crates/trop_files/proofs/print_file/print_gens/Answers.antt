use Rattle.std.proofs.Common.{◌≡◌, ◌≤◌, ◌+◌, ◌∷◌, ◌++◌, length, drop, ap, ◌∙◌, sym, subst, arith}
use Rattle.trop_theory.specs.Vectors.{AreWide}
use Rattle.trop_text.specs.Pieces.{pieces_of}
use Rattle.trop_files.specs.PrintedFiles.{lines_of, generator_line}
use Rattle.trop_spelling.specs.Printed.{numbers}
use Rattle.trop_files.specs.Generators.{Rows, SpellsGenerators}
use Rattle.trop_spelling.proofs.Printing.{two_more, drop_item, drop_all, all_done}
use Rattle.trop_spelling.proofs.EachKind.{one_of}
use Rattle.trop_files.proofs.WrittenFiles.{gens_read_back}
use Rattle.trop_files.proofs.print_file.print_gens.Goals as goal

pub loop-row-preserved : goal.loop-row-preserved
loop-row-preserved g c =
    let kind = g.S.Spelling.KIND in
    let N = g.S.Scalar.numbering in
    let i = c.loop-row.row-index in
    let x = c.row-item.result in
    let here = drop_item c.as_slice-row-items.result.now i x (omega arith) c.row-item.is in
    let item = subst (λ xs. drop i xs ≡ x ∷ drop (i + 1) xs) c.as_slice-row-items.ensures.rows here in
    let line = c.in_ok-push_generator.ensures ∙ ap (λ y. c.loop-row.text.items ++ generator_line kind (numbers N y))
    c.as_slice.ensures.entries in
    two_more _ _ _ _ _ _ _ _ c.loop-row.invariant (ap (lines_of (λ y. generator_line kind (numbers N y))) item) line
    c.in_ok-push.ensures.items

pub returns-clause-read_back : goal.returns-clause-read_back
returns-clause-read_back g c =
    let kind = g.S.Spelling.KIND in
    let N = g.S.Scalar.numbering in
    let names = c.args.names.now in
    let rows = c.args.gens.now.rows in
    let past : length rows ≤ c.loop-row.row-index = omega (arith, ap length c.as_slice-row-items.ensures.rows) in
    let text = all_done _ _ _ c.loop-row.invariant
    (ap (lines_of (λ y. generator_line kind (numbers N y))) (drop_all rows c.loop-row.row-index past)) in
    let few_names : length names ≤ 63 = omega (arith, c.requires.names, c.as_slice-row-items.ensures.at_most) in
    let wide = subst (λ n. AreWide n rows) c.requires.names c.as_slice-row-items.ensures.wide in
    λ few small.
    subst (λ bytes. SpellsGenerators (pieces_of bytes)
    (record { names = names; vars_line = 3; rows = g.S.Spelling.three.over Rows rows })) (sym text)
    (gens_read_back kind g.S.Scalar.REVERSED g.S.Scalar.ring N g.met.S.Scalar.number_laws g.met.S.Spelling.kind_laws
    (one_of g.S.Spelling.three g.S.Spelling.KIND g.S.Scalar.ring g.S.Scalar.numbering g.met.S.Spelling.three_laws)
    names rows c.in_ok-push_header.ensures.names few_names c.requires.normal wide few small)
