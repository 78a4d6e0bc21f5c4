-- A program that is read keeps what a program keeps: it is within the limits.
use Rattle.std.proofs.Common.{◌≡◌, ◌≤◌, ◌<◌, ◌+◌, ℕ, false, List, [], ◌∷◌, ◌++◌, length, length-append, Ok, sym, ap, subst, arith, nat_le}
use Rattle.std.proofs.lemmas.Bool.Decides.{nat_tests}
use Rattle.trop_text.specs.Pieces.{Piece}
use Rattle.prog_theory.specs.States.{Term}
use Rattle.prog_theory.specs.Statements.{Block}
use Rattle.prog_theory.specs.Limits.{Limits}
use Rattle.prog_theory.specs.Named.{Named}
use Rattle.prog_theory.specs.Each.{EachBlock}
use Rattle.prog_theory.specs.Fits.{FitsBlock}
use Rattle.prog_theory.specs.Within.{IsNumberWithin, IsWithin}
use Rattle.prog_texts.specs.AssertRule.{AssertRule}
use Rattle.prog_texts.specs.Words.{Counted, nothing_before, counted}
use Rattle.prog_texts.specs.Suits.{MayFollow}
use Rattle.prog_texts.specs.Programs.{IsProgram, program_at}
use Rattle.prog_texts.proofs.ProgramLaws.{program_reads}
use Rattle.prog_texts.proofs.Printable.{spelled_printable}
use Rattle.prog_texts.proofs.Bounds.{known_place, operand_coordinate, operand_number, block_holds, suits_block}
use Rattle.prog_texts.proofs.Tallies.{program_tallied}

under : (a b : ℕ) → nat_le a b ≡ false → b < a
under a b e = grind (arith, nat_tests)

names_few : (L : Limits) (before xs : List (List ℕ)) → length before ≤ L.vars → MayFollow L before xs →
    length before + length xs ≤ L.vars
names_few L before [] h m = omega (arith, h)
names_few L before (x ∷ xs) h m =
    let lt = under L.vars (length before) m.2 in
    let one = length-append before (x ∷ []) in
    let k = names_few L (before ++ x ∷ []) xs (omega (arith, lt, one)) m.3 in
    omega (arith, k, one)

-- what is spelled among the pieces of a text
pub spelled_within : (L : Limits) (rule : AssertRule) (ps : List Piece) (us rest : List Counted) (p : Named) →
    counted nothing_before ps ≡ us ++ rest → IsProgram L rule us p → IsWithin L p
spelled_within L rule ps us rest p e h =
    let may = spelled_printable L rule us p h in
    let few = names_few L [] p.names (omega arith) may.names in
    let tally = program_tallied L rule ps us rest p e h in
    let whole = h.second.second.is in
    let same_names : h.value ≡ p.names = ap (λ (z : Named). z.names) (sym whole) in
    let same_body : h.second.value ≡ p.body = ap (λ (z : Named). z.body) (sym whole) in
    let fits : FitsBlock (length h.value) h.second.value =
    block_holds L rule h.value (λ x. (0 < x) × (x ≤ length h.value)) (λ (t : Term). t.coord ≤ length h.value)
    (known_place h.value) (operand_coordinate L h.value) L.depth h.second.front h.second.value h.second.first in
    let numbers : EachBlock (λ (x : ℕ). Unit {0}) (IsNumberWithin L.number) h.second.value =
    block_holds L rule h.value (λ (x : ℕ). Unit {0}) (IsNumberWithin L.number) (λ t i k. tt)
    (operand_number L h.value) L.depth h.second.front h.second.value h.second.first in
    record {
      vars = omega (arith, few);
      coordinates = subst (λ (z : Block). FitsBlock (length p.names) z) same_body
          (subst (λ (z : List (List ℕ)). FitsBlock (length z) h.second.value) same_names fits);
      sides = suits_block rule p.body may.sides;
      statements = tally.0;
      atoms = tally.1;
      numbers = subst (λ (z : Block). EachBlock (λ (x : ℕ). Unit {0}) (IsNumberWithin L.number) z) same_body numbers;
      nesting = may.depth;
    }

-- what is read
pub program_within : (L : Limits) (rule : AssertRule) (ps : List Piece) (p : Named) (rest : List Counted) →
    program_at L rule (counted nothing_before ps) ≡ Ok (p, rest) → IsWithin L p
program_within L rule ps p rest e =
    let ts = counted nothing_before ps in
    let h = (program_reads L rule (length ts)).texts.takes ts p rest (omega arith) e in
    spelled_within L rule ps h.taken rest p h.whole h.is
