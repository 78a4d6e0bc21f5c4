-- What is printed of a report is read back.
-- Index: written_program, printed_answer, printed_spelled, text_spells.
use Rattle.std.proofs.Common.{◌≡◌, ◌≢◌, ◌<◌, ◌+◌, ◌^◌, ℕ, true, List, [], ◌∷◌, ◌++◌, codes, length, Result, Ok, Err, IfOk, refl, sym, ap, subst, ◌∙◌, append_assoc, arith}
use Rattle.std.proofs.lemmas.List.{map-append}
use Rattle.std.proofs.lemmas.Slice.Eq.{bytes_eq-Decides}
use Rattle.trop_text.specs.Names.{AreNames}
use Rattle.trop_text.specs.Tokens.{Tok, tokens_past, tokens_at}
use Rattle.trop_text.specs.Pieces.{Piece, LineEnd, pieces_from, pieces_of}
use Rattle.trop_text.proofs.WrittenLines.{AreLines}
use Rattle.prog_theory.specs.Limits.{Limits, program_limits}
use Rattle.prog_theory.specs.Named.{Named}
use Rattle.prog_theory.proofs.ControlGraphs.{graph_of_program}
use Rattle.prog_tree.specs.Programs.{IsProgram}
use Rattle.prog_texts.specs.AssertRule.{AssertRule}
use Rattle.prog_texts.specs.Words.{Counted, nothing_before, says, text, counted}
use Rattle.prog_texts.specs.Judges.{said}
use Rattle.prog_texts.specs.Printed.{printed}
use Rattle.prog_texts.specs.Suits.{SuitsBlock}
use Rattle.prog_texts.proofs.PrintedParts.{Then_all, the_empty, a_one}
use Rattle.prog_texts.proofs.PrintedPrograms.{program_spelled}
use Rattle.prog_print.proofs.InkPieces.{at, step}
use Rattle.prog_print.proofs.Walks.{after}
use Rattle.prog_print.proofs.ReadBack.{as_printed, printable}
use Rattle.report_texts.specs.Limits.{greatest_entry}
use Rattle.report_texts.specs.Modes.{rule_of}
use Rattle.report_texts.specs.Reports.{ReportText, IsReportWithin}
use Rattle.report_texts.specs.ProgramParts.{plain, IsEnded, IsProgramPart}
use Rattle.report_texts.specs.Texts.{SpellsReport, report_answer}
use Rattle.report_texts.specs.Printed.{printed_report}
use Rattle.report_texts.proofs.ProgramLaws.{plain_counted, front_counted}
use Rattle.report_texts.proofs.TextLaws.{report_found}
use Rattle.report_texts.proofs.WrittenReports.{IsWrittenProgram, report_read_back}
use Rattle.report_print.proofs.EndLine.{end_token, next_line}

-- ---- a printed program with the line of `end`

says_text : (word : List ℕ) (t : Counted) → text t ≡ word → said word t ≡ Ok tt
says_text word t e =
    let yes : says word t ≡ true = (bytes_eq-Decides (text t) word).1 e in
    rw yes refl

module _ (rule : AssertRule) (p : Named) (keeps : IsProgram p) (suits : SuitsBlock rule p.body) where
  abbrev L : Limits
  L = program_limits

  small : L.number < 2 ^ 64
  small = omega arith

  -- the pieces of the program and of `end`, and what follows them
  record IsPart (ps more : List Piece) : Type 0 where
    part : List Piece
    whole : ps ≡ part ++ more
    is : IsProgramPart rule part p

  -- so many pieces, each with what stands before it
  part_of : (ps more : List Piece) (us rest : List Counted) → counted nothing_before ps ≡ us ++ rest →
      plain rest ≡ more → IsEnded rule us p → IsPart ps more
  part_of ps more us rest e f ended = record {
    part = plain us;
    whole = sym (plain_counted nothing_before ps) ∙ ap plain e ∙ map-append (λ (t : Counted). t.piece) us rest
        ∙ ap (λ (z : List Piece). plain us ++ z) f;
    is = subst (λ (z : List Counted). IsEnded rule z p) (sym (front_counted nothing_before ps us rest e)) ended;
  }

  lines : (rest : List ℕ) (line : ℕ) → line ≢ 0 → (next : ℕ) × (line < next)
      × AreLines (printed p ++ codes "end\n") rest line next (λ us. (vs : List Piece) × (last : ℕ)
      × (us ≡ vs ++ LineEnd last ∷ []) × IsProgramPart rule vs p)
  lines rest line numbered =
      let a = as_printed p keeps.names keeps.within line (codes "end\n" ++ rest) in
      let e = end_token rest a.next a.place in
      let later = tokens_past 0 rest (a.next + 1) 1 in
      let s = step L small p.names a.end e.token later a.last in
      let t = at L small p.names a.end e.token in
      let b = after a.end e.token.text in
      let ordered = a.ordered in
      let behind : pieces_from later e.token.line ≡ LineEnd a.next ∷ pieces_from later 0 =
      ap (pieces_from later) e.on
      ∙ next_line rest a.next (λ z. numbered (omega (arith, z, ordered))) in
      let ps = pieces_from (tokens_at (printed p ++ (codes "end\n" ++ rest)) line 1) 0 in
      let rest_counted = counted b (pieces_from later e.token.line) in
      let us = a.front ++ (s.gap ++ t ∷ []) in
      let all : counted nothing_before ps ≡ us ++ rest_counted =
      a.whole
      ∙ ap (λ (ts : List Tok). a.front ++ counted a.end (pieces_from ts a.last)) e.lexed
      ∙ ap (λ (z : List Counted). a.front ++ z) (s.whole ∙ sym (append_assoc s.gap (t ∷ []) rest_counted))
      ∙ sym (append_assoc a.front (s.gap ++ t ∷ []) rest_counted) in
      let k = part_of ps (LineEnd a.next ∷ pieces_from later 0) us rest_counted all
      (plain_counted b (pieces_from later e.token.line) ∙ behind) (record {
        front = a.front;
        back = s.gap ++ t ∷ [];
        value = p;
        whole = refl;
        first = program_spelled L rule p (printable p keeps.names keeps.within rule suits) a.front a.are_inks;
        second = Then_all (s.gap ++ t ∷ []) tt p (a_one (s.gap ++ t ∷ []) t [] tt (s.clear []) refl
            (says_text (codes "end") t e.is)) (the_empty p [] refl);
      }) in (
        a.next + 1,
        omega (arith, ordered),
        record {
          pieces = k.part ++ LineEnd a.next ∷ [];
          read = ap (λ (z : List ℕ). pieces_from (tokens_at z line 1) 0) (append_assoc (printed p) (codes "end\n") rest)
              ∙ k.whole ∙ sym (append_assoc k.part (LineEnd a.next ∷ []) (pieces_from later 0));
          are = (k.part, a.next, refl, k.is);
        },
      )

  pub written_program : IsWrittenProgram rule p
  written_program = record { at = lines }

-- ---- reports

-- A report within the limits, whose rows may stand in a text and whose asserts have words of its mode: its printed text
-- spells it, and is read back to it.
module _ (r : ReportText) (within : IsReportWithin greatest_entry r) (names : AreNames r.program.names)
    (suits : SuitsBlock (rule_of r.mode) r.program.body) where
  few : length r.parts < 2 ^ 64
  few =
      let points = (graph_of_program r.program within.program).points in
      let same = within.points_are in
      omega (arith, points, same)

  program : IsWrittenProgram (rule_of r.mode) r.program
  program = written_program (rule_of r.mode) r.program (record { names = names; within = within.program }) suits

  pub printed_answer : report_answer (printed_report r) ≡ Ok r
  printed_answer = report_read_back r within names few program

  pub printed_spelled : SpellsReport (pieces_of (printed_report r)) r
  printed_spelled = report_found (printed_report r) r printed_answer

-- a text that is the printed one
pub text_spells : {A E : Type 0} (bytes : A → List ℕ) (result : Result A E) (r : ReportText) →
    IsReportWithin greatest_entry r → AreNames r.program.names → SuitsBlock (rule_of r.mode) r.program.body →
    IfOk result (λ a. bytes a ≡ printed_report r) → IfOk result (λ a. SpellsReport (pieces_of (bytes a)) r)
text_spells bytes (Ok a) r within names suits e =
    subst (λ (z : List ℕ). SpellsReport (pieces_of z) r) (sym e) (printed_spelled r within names suits)
text_spells bytes (Err e) r within names suits h = tt
