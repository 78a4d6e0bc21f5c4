use Rattle.std.proofs.Common.{◌≡◌, length, ap, arith}
use Rattle.prog_texts.specs.Words.{Before}
use Rattle.prog_reading.proofs.Sizes.{lexer_few}
use Rattle.prog_reading.proofs.at.At.begin.Goals as goal

pub invariant_of-result : goal.invariant_of-result
invariant_of-result c =
    let l = c.args.lexer in
    let h = lexer_few l.rest.now l.line l.column l.source.now l.small l.line_fits in
    let k = ap length c.new-pieces.ensures.pieces in
    let e = c.nothing.ensures in
    let names = ap (λ (z : Before). z.names) e in
    let commas = ap (λ (z : Before). z.commas) e in
    let statements = ap (λ (z : Before). z.statements) e in
    let atoms = ap (λ (z : Before). z.atoms) e in
    record {
      names_fit = omega (arith, h, k, names);
      commas_fit = omega (arith, h, k, commas);
      statements_fit =
          omega (arith, h, k, statements);
      atoms_fit = omega (arith, h, k, atoms);
    }
