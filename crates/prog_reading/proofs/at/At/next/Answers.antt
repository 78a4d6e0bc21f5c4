use Rattle.prog_reading.specs.Left.{before_of, entry_of}
use Rattle.prog_reading.proofs.Places.{names_fit, commas_fit, statements_fit, atoms_fit}
use Rattle.prog_reading.proofs.at.At.next.Goals as goal

pub invariant_of-result : goal.invariant_of-result
invariant_of-result c =
    let s = c.args.self in
    let r = before_of c.behind-before.result in
    let t = entry_of (record { piece = c.in_ok-piece.piece; before = c.args.self.before }) in
    let e = c.behind-before.ensures in
    let k = c.in_ok-piece.ensures.pieces in
    record {
      names_fit = names_fit r t _ _ _ e k s.names_fit;
      commas_fit = commas_fit r t _ _ _ e k s.commas_fit;
      statements_fit = statements_fit r t _ _ _ e k s.statements_fit;
      atoms_fit =
          atoms_fit r t _ _ _ e k s.atoms_fit;
    }
