-- Texts that are written piece by piece.
use Rattle.std.proofs.Common.{◌≡◌, false, true, IsErr, ℕ, ◌+◌, List, ◌++◌, length, take, Option, Result, Ok, Err, sym, subst, arith}
use Rattle.std.proofs.lemmas.List.{length-append, take-append-le}
use Rattle.std.proofs.Math.Seq.{take-append-add}
use Rattle.std.specs.Io.KnownBytes.{Appends}
use Rattle.trop_io.specs.Whole.{WritesAll}
use Rattle.trop_io.specs.declared.write.WriteFault.{WriteFault}
use Rattle.trop_io.proofs.Known.{Appends-more}

-- the first piece is written, and then the others as far as the writes went
pub piece_written : (a b c : Option (List ℕ)) (piece more : List ℕ) (first r : Result (Unit {0}) WriteFault)
    (done : Unit {0}) → first ≡ Ok done → WritesAll a b piece first → WritesAll b c more r →
    WritesAll a c (piece ++ more) r
piece_written a b c piece more first (Ok u) done e p q =
    Appends-more a b c piece more (subst (WritesAll a b piece) e p) q
piece_written a b c piece more first (Err fault) done e p q = (
  length piece + q.0,
  simp length-append (omega (arith, q.1)),
  subst (Appends a c) (sym (take-append-add piece more q.0))
      (Appends-more a b c piece (take q.0 more) (subst (WritesAll a b piece) e p) q.2),
)

-- the first piece is cut short
pub piece_cut : (a b : Option (List ℕ)) (piece more : List ℕ) (first r : Result (Unit {0}) WriteFault)
    (fault : WriteFault) → first ≡ Err fault → IsErr r → WritesAll a b piece first → WritesAll a b (piece ++ more) r
piece_cut a b piece more first (Ok done) fault e f p = absurd (false_true f)
  where
    false_true : false ≡ true → ⊥
    false_true e = cc
piece_cut a b piece more first (Err other) fault e f p =
    let cut : WritesAll a b piece (Err fault) = subst (WritesAll a b piece) e p in (
      cut.0,
      simp length-append (omega (arith, cut.1)),
      subst (Appends a b) (sym (take-append-le cut.0 piece more (omega (arith, cut.1)))) cut.2,
    )
