-- A printed report is read back.
-- Index: IsWrittenProgram, report_read_back.
use Rattle.std.proofs.Common.{◌≡◌, ◌≢◌, ◌≤◌, ◌<◌, ◌+◌, ◌^◌, ℕ, suc, Bool, true, List, [], ◌∷◌, ◌++◌, map, length, codes, Result, Ok, refl, sym, ap, subst, ◌∙◌, append_assoc, arith}
use Rattle.std.specs.Prelude.{All, decimal}
use Rattle.trop_theory.specs.Vectors.{AreWide, rows_size}
use Rattle.trop_theory.specs.Normal.{IsNormal}
use Rattle.trop_theory.specs.Inequalities.{Inequality, IsIn, system_size}
use Rattle.trop_text.specs.Name.{is_word}
use Rattle.trop_text.specs.Names.{AreNames}
use Rattle.trop_text.specs.Pieces.{Piece, Token, LineEnd, InputEnd, pieces_of}
use Rattle.trop_text.specs.declared.token.TokenKind.TheVariants.{Word}
use Rattle.trop_text.specs.declared.fault.FaultKind.{FaultKind}
use Rattle.trop_text.proofs.Written.{tok}
use Rattle.trop_text.proofs.WrittenLines.{AreLines, lines_one, lines_join, lines_as, lines_whole}
use Rattle.trop_grammar.specs.Grammar.{One, Empty, Then}
use Rattle.trop_grammar.specs.Lists.{Passes}
use Rattle.trop_reading.specs.Words.{said, line_end, input_end, number}
use Rattle.trop_reading.proofs.WrittenTexts.{number_passes}
use Rattle.prog_theory.specs.Graph.{Point, points}
use Rattle.prog_theory.specs.Named.{Named, nameless}
use Rattle.prog_theory.specs.Numbering.{counts}
use Rattle.prog_texts.specs.AssertRule.{AssertRule}
use Rattle.prog_texts.specs.Printed.{printed}
use Rattle.cone_reports.specs.Reports.{Part}
use Rattle.report_texts.specs.Limits.{most_delay, most_narrow, most_passes, greatest_entry, greatest_inv}
use Rattle.report_texts.specs.Modes.{Mode, InMax, InMin, Element, ring_of, numbering, rule_of, mode_word}
use Rattle.report_texts.specs.Lines.{Line, Row, Inv, Last, Block, Body, Judged, Each, IsPart, IsBodyOf, part_lines, blocks_lines, judged_line, lines_of}
use Rattle.report_texts.specs.Reports.{ReportText, IsPartWithin, IsReportWithin, assert_numbers}
use Rattle.report_texts.specs.Heads.{digits, Head, which_mode, IsWordLine, IsVersion, IsHead}
use Rattle.report_texts.specs.ProgramParts.{IsProgramPart}
use Rattle.report_texts.specs.Texts.{report, IsBodyFor, SpellsReport, report_answer}
use Rattle.report_texts.specs.Printed.{line_text, lines_text, blocks_of, judged_of, body_of, word_line, printed_report}
use Rattle.report_texts.proofs.Runs.{Each-append}
use Rattle.report_texts.proofs.Bits.{Bit, Says, Counts, IsBit, bit_text, bit_kind, bits_written, bits_then, line_ended, bits_some}
use Rattle.report_texts.proofs.WrittenLines.{FitsPoint, FitsLine, digits_pass, Texts, lines_written}
use Rattle.report_texts.proofs.Numbers.{FitsNumber, points_fit, asserts_fit}
use Rattle.report_texts.proofs.TextLaws.{report_only}

-- ---- lines of the head

word_line_written : {A : Type 0} (word : List ℕ) (b : Bit) (judge : Piece → Result A FaultKind) (x : A) →
    is_word word ≡ true → IsBit b → ((l c : ℕ) → said word (Token (tok Word word l c)) ≡ Ok tt)
    → ((l c : ℕ) → judge (Token (tok (bit_kind b) (bit_text b) l c)) ≡ Ok x) → (rest : List ℕ) (line : ℕ) → line ≢ 0 →
    AreLines (word_line word (bit_text b)) rest line (line + 1) (λ us. IsWordLine word judge us x)
word_line_written word b judge x is good says passes rest line numbered =
    subst (λ text. AreLines text rest line (line + 1) (λ us. IsWordLine word judge us x))
    (append_assoc word (codes " " ++ bit_text b) (codes "\n"))
    (lines_one {H = λ us. IsWordLine word judge us x} rest line numbered refl
    (λ h. bits_some (Says word) (b ∷ []) [] h refl)
    (λ us h. bits_then (Says word) (b ∷ []) us (LineEnd line ∷ []) tt x h says
    (λ vs g. bits_then b [] vs (LineEnd line ∷ []) x x g passes (λ ws m. line_ended line x ws m)))
    (bits_written (Says word) (b ∷ []) is (good, tt)))

program_line_written : (h : Head) (rest : List ℕ) (line : ℕ) → line ≢ 0 →
    AreLines (codes "program\n") rest line (line + 1)
    (λ us. Then (One (Passes (said (codes "program")))) (λ u. Then (One (Passes line_end)) (λ v. Empty h)) us h)
program_line_written h rest line numbered =
    lines_one {H = λ us. Then (One (Passes (said (codes "program"))))
    (λ u. Then (One (Passes line_end)) (λ v. Empty h)) us h} {text = codes "program"} rest line numbered refl
    (λ k. bits_some (Says (codes "program")) [] [] k refl)
    (λ us k. bits_then (Says (codes "program")) [] us (LineEnd line ∷ []) tt h k (λ l c. refl)
    (λ vs g. line_ended line h vs g)) (bits_written (Says (codes "program")) [] refl tt)

number_fits : (n bound : ℕ) → n ≤ bound → bound < 2 ^ 64 → (l c : ℕ) →
    number bound (Token (tok (bit_kind (Counts n)) (bit_text (Counts n)) l c)) ≡ Ok n
number_fits n bound le low l c = number_passes n bound l c le (omega (arith, le, low))

abbrev mode_bit : Mode → Bit
mode_bit mode = Says (mode_word mode)

mode_passes : (mode : Mode) (l c : ℕ) → which_mode (Token (tok Word (mode_word mode) l c)) ≡ Ok mode
mode_passes InMax l c = refl
mode_passes InMin l c = refl

mode_is_word : (mode : Mode) → is_word (mode_word mode) ≡ true
mode_is_word InMax = refl
mode_is_word InMin = refl

-- a part, and then the rest
joined : {A B : Type 0} {R : List Piece → A → Type 0} {S : A → List Piece → B → Type 0} (x : A) (y : B)
    (us vs : List Piece) → R us x → S x vs y → Then R S (us ++ vs) y
joined x y us vs g h = record { front = us; back = vs; value = x; whole = refl; first = g; second = h }

abbrev head_of : ReportText → Head
head_of r = record { mode = r.mode; delay = r.delay; narrow = r.narrow; passes = r.passes }

-- the lines behind the first
abbrev later_head : ReportText → List ℕ
later_head r =
    word_line (codes "mode") (mode_word r.mode) ++ (word_line (codes "delay") (decimal r.delay)
    ++ (word_line (codes "narrow") (decimal r.narrow) ++ (word_line (codes "passes") (decimal r.passes)
    ++ codes "program\n")))

-- what stands behind each of them
abbrev AfterPasses : Mode → ℕ → ℕ → ℕ → List Piece → Head → Type 0
AfterPasses m d k n = Then (One (Passes (said (codes "program")))) (λ u. Then (One (Passes line_end))
    (λ v. Empty (record { mode = m; delay = d; narrow = k; passes = n })))

abbrev AfterNarrow : Mode → ℕ → ℕ → List Piece → Head → Type 0
AfterNarrow m d k = Then (IsWordLine (codes "passes") (number most_passes)) (λ n. AfterPasses m d k n)

abbrev AfterDelay : Mode → ℕ → List Piece → Head → Type 0
AfterDelay m d = Then (IsWordLine (codes "narrow") (number most_narrow)) (λ k. AfterNarrow m d k)

abbrev AfterMode : Mode → List Piece → Head → Type 0
AfterMode m = Then (IsWordLine (codes "delay") (number most_delay)) (λ d. AfterDelay m d)

head_written : (r : ReportText) (rest : List ℕ) → r.delay ≤ most_delay → r.narrow ≤ most_narrow →
    r.passes ≤ most_passes → AreLines (later_head r) rest 2 7 (λ us. IsHead 2 us (head_of r))
head_written r rest d k n =
    let h = head_of r in
    let e0 = program_line_written h rest 6 (λ e. absurd (omega (arith, e))) in
    let e1 = lines_join {K = λ us. AfterNarrow r.mode r.delay r.narrow us h}
    (λ us vs g m. joined r.passes h us vs g m)
    (word_line_written (codes "passes") (Counts r.passes) (number most_passes) r.passes refl (omega (arith, n))
    (λ l c. refl) (number_fits r.passes most_passes n (omega arith)) (codes "program\n" ++ rest) 5
    (λ e. absurd (omega (arith, e)))) e0 in
    let e2 = lines_join {K = λ us. AfterDelay r.mode r.delay us h}
    (λ us vs g m. joined r.narrow h us vs g m)
    (word_line_written (codes "narrow") (Counts r.narrow) (number most_narrow) r.narrow refl (omega (arith, k))
    (λ l c. refl) (number_fits r.narrow most_narrow k (omega arith)) _ 4 (λ e. absurd (omega (arith, e)))) e1 in
    let e3 = lines_join {K = λ us. AfterMode r.mode us h}
    (λ us vs g m. joined r.delay h us vs g m)
    (word_line_written (codes "delay") (Counts r.delay) (number most_delay) r.delay refl (omega (arith, d))
    (λ l c. refl) (number_fits r.delay most_delay d (omega arith)) _ 3 (λ e. absurd (omega (arith, e)))) e2 in
    lines_join {K = λ us. IsHead 2 us h} (λ us vs g m. joined r.mode h us vs g m)
    (word_line_written (codes "mode") (mode_bit r.mode) which_mode r.mode refl (mode_is_word r.mode) (λ l c. refl)
    (mode_passes r.mode) _ 2 (λ e. absurd (omega (arith, e)))) e3

version_written : (rest : List ℕ) → AreLines (word_line (codes "report") (decimal 2)) rest 1 2 (λ us. IsVersion us 2)
version_written rest = lines_as (λ us h. record { line = h; known = refl })
    (word_line_written (codes "report") (Counts 2) digits 2 refl (omega arith) (λ l c. refl)
    (λ l c. digits_pass 2 l c (omega arith)) rest 1 (λ e. absurd (omega (arith, e))))

-- ---- the program

-- its printed text and the line of `end` are read back, wherever they stand
pub record IsWrittenProgram (rule : AssertRule) (p : Named) : Type 0 where
  pub at : (rest : List ℕ) (line : ℕ) → line ≢ 0 → (next : ℕ) × (line < next)
      × AreLines (printed p ++ codes "end\n") rest line next (λ us. (vs : List Piece) × (last : ℕ)
      × (us ≡ vs ++ LineEnd last ∷ []) × IsProgramPart rule vs p)

-- ---- the body

module _ (mode : Mode) (n : ℕ) where
  abbrev Fits : Line Element → Type 0
  Fits = FitsLine mode n

  rows_fit : (rows : List (List Element)) → All (IsNormal (ring_of mode)) rows → AreWide n rows →
      rows_size (ring_of mode) rows ≤ greatest_entry → Each Fits (map Row rows)
  rows_fit [] normal wide s = tt
  rows_fit (x ∷ rows) normal wide s = (
    (normal 0 x (omega arith), wide 0 x (omega arith), omega arith),
    rows_fit rows (λ i d h. normal (suc i) d (omega arith)) (λ i d h. wide (suc i) d (omega arith)) (omega arith),
  )

  invs_fit : (invs : List (Inequality Element)) → All (IsIn n) invs →
      system_size (ring_of mode) invs ≤ greatest_inv → Each Fits (map Inv invs)
  invs_fit [] wide s = tt
  invs_fit (i ∷ invs) wide s = (
    (wide 0 i (omega arith), omega arith),
    invs_fit invs (λ k d h. wide (suc k) d (omega arith)) (omega arith),
  )

  part_fits : (rows : List (List Element)) (invs : List (Inequality Element)) → Each Fits (map Row rows) →
      Each Fits (map Inv invs) → Each Fits (part_lines rows invs)
  part_fits [] invs h k = (tt, tt)
  part_fits (x ∷ rows) invs h k = (h.0, Each-append Fits (map Row rows) (map Inv invs) h.1 k)

  blocks_fit : (k : ℕ) (ps : List Point) (parts : List (Part Element)) → k + length parts < 2 ^ 64 →
      Each FitsPoint ps → Each (IsPartWithin mode greatest_entry n) parts → Each Fits
      (blocks_lines k (blocks_of ps parts))
  blocks_fit k [] parts lt h m = tt
  blocks_fit k (p ∷ ps) [] lt h m = tt
  blocks_fit k (p ∷ ps) (x ∷ parts) lt h m =
      let w = m.0 in (
        (omega (arith, lt), h.0),
        Each-append Fits (part_lines x.rows x.printed) (blocks_lines (suc k) (blocks_of ps parts))
            (part_fits x.rows x.printed (rows_fit x.rows w.normal w.wide w.small)
            (invs_fit x.printed w.printed_wide w.printed_small))
            (blocks_fit (suc k) ps parts (omega (arith, lt)) h.1 m.1),
      )

  judged_fit : (ns : List ℕ) (verdicts : List Bool) → Each FitsNumber ns →
      Each Fits (map judged_line (judged_of ns verdicts) ++ Last ∷ [])
  judged_fit [] verdicts h = (tt, tt)
  judged_fit (k ∷ ns) [] h = (tt, tt)
  judged_fit (k ∷ ns) (b ∷ verdicts) h = (h.0, judged_fit ns verdicts h.1)

-- ---- the value of the body

blocks_points : (ps : List Point) (parts : List (Part Element)) → length parts ≡ length ps →
    map (λ (b : Block Element). b.point) (blocks_of ps parts) ≡ ps
blocks_points [] parts e = refl
blocks_points (p ∷ ps) [] e = absurd (omega (arith, e))
blocks_points (p ∷ ps) (x ∷ parts) e = ap (λ (z : List Point). p ∷ z) (blocks_points ps parts (omega (arith, e)))

blocks_parts : (ps : List Point) (parts : List (Part Element)) → length parts ≡ length ps →
    map (λ (b : Block Element). b.part) (blocks_of ps parts) ≡ parts
blocks_parts [] [] e = refl
blocks_parts [] (x ∷ parts) e = absurd (omega (arith, e))
blocks_parts (p ∷ ps) [] e = absurd (omega (arith, e))
blocks_parts (p ∷ ps) (x ∷ parts) e =
    ap (λ (z : List (Part Element)). x ∷ z) (blocks_parts ps parts (omega (arith, e)))

judged_numbers : (ns : List ℕ) (verdicts : List Bool) → length verdicts ≡ length ns →
    map (λ (j : Judged). j.number) (judged_of ns verdicts) ≡ ns
judged_numbers [] verdicts e = refl
judged_numbers (n ∷ ns) [] e = absurd (omega (arith, e))
judged_numbers (n ∷ ns) (b ∷ verdicts) e = ap (λ (z : List ℕ). n ∷ z) (judged_numbers ns verdicts (omega (arith, e)))

judged_verdicts : (ns : List ℕ) (verdicts : List Bool) → length verdicts ≡ length ns →
    map (λ (j : Judged). j.proved) (judged_of ns verdicts) ≡ verdicts
judged_verdicts [] [] e = refl
judged_verdicts [] (b ∷ verdicts) e = absurd (omega (arith, e))
judged_verdicts (n ∷ ns) [] e = absurd (omega (arith, e))
judged_verdicts (n ∷ ns) (b ∷ verdicts) e =
    ap (λ (z : List Bool). b ∷ z) (judged_verdicts ns verdicts (omega (arith, e)))

blocks_ok : (mode : Mode) (n : ℕ) (ps : List Point) (parts : List (Part Element)) → Each
    (IsPartWithin mode greatest_entry n) parts →
    Each (λ (b : Block Element). IsPart numbering b.part.rows b.part.printed) (blocks_of ps parts)
blocks_ok mode n [] parts h = tt
blocks_ok mode n (p ∷ ps) [] h = tt
blocks_ok mode n (p ∷ ps) (x ∷ parts) h = (h.0.lines, blocks_ok mode n ps parts h.1)

-- ---- the whole

module _ (r : ReportText) (h : IsReportWithin greatest_entry r) (are : AreNames r.program.names)
    (few : length r.parts < 2 ^ 64) (program : IsWrittenProgram (rule_of r.mode) r.program) where
  abbrev p : Named
  p = r.program

  abbrev body : Body Element
  body = body_of r

  body_is : IsBodyOf numbering (points (nameless p)) (assert_numbers p) body
  body_is = record {
    points_are = blocks_points (points (nameless p)) r.parts h.points_are;
    numbers_are = judged_numbers (assert_numbers p) r.verdicts h.asserts_are;
    parts = blocks_ok r.mode (length p.names + 1) (points (nameless p)) r.parts h.parts;
  }

  lines_fit : Each (FitsLine r.mode (length p.names + 1)) (lines_of body)
  lines_fit =
      let few_statements : counts p.body ≤ 400 = h.program.statements in
      Each-append (FitsLine r.mode (length p.names + 1)) (blocks_lines 0 body.blocks)
      (map judged_line body.judged ++ Last ∷ [])
      (blocks_fit r.mode (length p.names + 1) 0 (points (nameless p)) r.parts (omega (arith, few))
      (points_fit (nameless p) (omega (arith, few_statements))) h.parts)
      (judged_fit r.mode (length p.names + 1) (assert_numbers p) r.verdicts
      (asserts_fit (nameless p) (omega (arith, few_statements))))

  abbrev with_parts : List (Part Element) → List Bool → ReportText
  with_parts parts verdicts = record {
    mode = r.mode;
    delay = r.delay;
    narrow = r.narrow;
    passes = r.passes;
    program = r.program;
    parts = parts;
    verdicts = verdicts;
  }

  same_report : report (head_of r) p body ≡ r
  same_report =
      ap (λ (z : List (Part Element)). with_parts z (map (λ (j : Judged). j.proved) body.judged))
      (blocks_parts (points (nameless p)) r.parts h.points_are)
      ∙ ap (λ (z : List Bool). with_parts r.parts z) (judged_verdicts (assert_numbers p) r.verdicts h.asserts_are)

  -- what stands behind the head, before the end of the input
  abbrev Behind : List Piece → Type 0
  Behind us =
      Then (IsProgramPart (rule_of r.mode)) (λ q. Then (One (Passes line_end)) (λ u. Then (IsBodyFor r.mode q)
      (λ b. Then (One (Passes input_end)) (λ w. Empty (report (head_of r) q b))))) (us ++ InputEnd ∷ []) r

  abbrev BodyBehind : List Piece → Type 0
  BodyBehind us = Then (IsBodyFor r.mode p) (λ b. Then (One (Passes input_end)) (λ w. Empty (report (head_of r) p b)))
      (us ++ InputEnd ∷ []) r

  body_behind : (us : List Piece) → Texts r.mode p.names are (lines_of body) us → BodyBehind us
  body_behind us lines = record {
    front = us;
    back = InputEnd ∷ [];
    value = body;
    whole = refl;
    first = record { is = body_is; lines = lines };
    second = record {
      front = InputEnd ∷ [];
      back = [];
      value = tt;
      whole = refl;
      first = record { token = InputEnd; whole = refl; is = refl };
      second = record { none = refl; is = sym same_report };
    };
  }

  abbrev IsProgramLine : List Piece → Type 0
  IsProgramLine us = (vs : List Piece) × (last : ℕ) × (us ≡ vs ++ LineEnd last ∷ [])
      × IsProgramPart (rule_of r.mode) vs p

  program_behind : (us vs : List Piece) → IsProgramLine us → BodyBehind vs → Behind (us ++ vs)
  program_behind us vs g k = record {
    front = g.0;
    back = LineEnd g.1 ∷ (vs ++ InputEnd ∷ []);
    value = p;
    whole = ap (λ (z : List Piece). (z ++ vs) ++ InputEnd ∷ []) g.2
        ∙ append_assoc (g.0 ++ LineEnd g.1 ∷ []) vs (InputEnd ∷ [])
        ∙ append_assoc g.0 (LineEnd g.1 ∷ []) (vs ++ InputEnd ∷ []);
    first = g.3;
    second = record {
      front = LineEnd g.1 ∷ [];
      back = vs ++ InputEnd ∷ [];
      value = tt;
      whole = refl;
      first = record { token = LineEnd g.1; whole = refl; is = refl };
      second = k;
    };
  }

  -- a part before the end of the input
  before_end : {A : Type 0} {X : List Piece → A → Type 0} {S : A → List Piece → ReportText → Type 0} (x : A)
      (us vs : List Piece) → X us x → S x (vs ++ InputEnd ∷ []) r → Then X S ((us ++ vs) ++ InputEnd ∷ []) r
  before_end x us vs g k = record {
    front = us;
    back = vs ++ InputEnd ∷ [];
    value = x;
    whole = append_assoc us vs (InputEnd ∷ []);
    first = g;
    second = k;
  }

  abbrev body_text : List ℕ
  body_text = lines_text (line_text r.mode p.names) (lines_of body)

  abbrev program_text : List ℕ
  program_text = printed p ++ codes "end\n"

  spelled : SpellsReport (pieces_of (printed_report r)) r
  spelled =
      let w = program.at (body_text ++ []) 7 (λ e. absurd (omega (arith, e))) in
      let after = w.1 in
      let lines = lines_written r.mode p.names are (lines_of body) w.0
      (λ e. absurd (omega (arith, e, after))) lines_fit in
      let tail = lines_join {K = Behind} program_behind w.2 (lines_as body_behind lines.1) in
      let text = program_text ++ body_text in
      let more = lines_join {K = λ us. Then (IsHead 2) (λ h. Then (IsProgramPart (rule_of h.mode))
      (λ q. Then (One (Passes line_end)) (λ u. Then (IsBodyFor h.mode q)
      (λ b. Then (One (Passes input_end)) (λ w. Empty (report h q b)))))) (us ++ InputEnd ∷ []) r}
      (λ us vs g k. before_end (head_of r) us vs g k)
      (head_written r (text ++ []) h.delay h.narrow h.passes) tail in
      let all = lines_join {K = λ us. SpellsReport (us ++ InputEnd ∷ []) r} (λ us vs g k. before_end 2 us vs g k)
      (version_written ((later_head r ++ text) ++ [])) more in
      let line = word_line (codes "report") (decimal 2) in
      let same : line ++ (later_head r ++ text) ≡ printed_report r =
      sym (append_assoc line (later_head r) text)
      ∙ ap (λ (z : List ℕ). (line ++ later_head r) ++ z) (append_assoc (printed p) (codes "end\n") body_text) in
      subst (λ (z : List ℕ). SpellsReport (pieces_of z) r) same
      (lines_whole (λ ps. SpellsReport ps r) (λ us k. k) all)

  -- a printed report is read back to the same value
  pub report_read_back : report_answer (printed_report r) ≡ Ok r
  report_read_back = report_only (printed_report r) r spelled
