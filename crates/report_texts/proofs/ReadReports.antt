-- What is read keeps what a report keeps, with rows of at most twice the size of the numbers in the text.
-- Index: report_kept.
use Rattle.std.proofs.Common.{◌≡◌, ◌≤◌, ◌+◌, ℕ, zero, suc, Bool, true, false, cond, List, [], ◌∷◌, ◌++◌, map, length, codes, Option, Some, None, Ok, Err, refl, sym, ap, subst, ◌∙◌, arith}
use Rattle.std.specs.Prelude.{All, slice_index_or, nat_le, nat_eq}
use Rattle.std.proofs.lemmas.Bool.{leb-true}
use Rattle.std.proofs.lemmas.List.{length-map}
use Rattle.trop_theory.specs.Semiring.{Semiring, SemiringLaws}
use Rattle.trop_theory.specs.Vectors.{scaled, row_size, rows_size}
use Rattle.trop_theory.specs.Normal.{IsNormal}
use Rattle.trop_theory.specs.Inequalities.{Inequality, IsIn, inequality_size, system_size}
use Rattle.trop_theory.proofs.SameCones.{row_size-scaled}
use Rattle.trop_theory.proofs.Sizes.{size-entry}
use Rattle.trop_text.specs.Digits.{number_of}
use Rattle.trop_text.specs.Pieces.{Piece}
use Rattle.trop_text.specs.declared.fault.FaultKind.TheVariants.{Syntax, NumberRange}
use Rattle.trop_reading.specs.Words.{text_of, says, is_digits, number}
use Rattle.trop_spelling.proofs.Lengths.{length-row, IsIn-inequality}
use Rattle.trop_spelling.proofs.ReadSizes.{row_size-read, inequality_size-read}
use Rattle.prog_theory.specs.Limits.{program_limits}
use Rattle.prog_theory.specs.Named.{Named}
use Rattle.prog_theory.specs.Within.{IsWithin}
use Rattle.prog_texts.specs.AssertRule.{AssertRule}
use Rattle.prog_texts.proofs.Kept.{spelled_within}
use Rattle.cone_reports.specs.Reports.{Part}
use Rattle.report_texts.specs.Limits.{most_delay, most_narrow, most_passes, greatest_entry, greatest_normal, greatest_inv}
use Rattle.report_texts.specs.Modes.{Mode, Element, kind_of, ring_of, is_reversed, numbering, rule_of}
use Rattle.report_texts.specs.Lines.{Line, At, Unreachable, Row, Inv, Asserted, Last, Block, Judged, Each, part_lines, blocks_lines, lines_of, has_finite, IsPart}
use Rattle.report_texts.specs.Reports.{ReportText, IsPartWithin, IsReportWithin}
use Rattle.report_texts.specs.LineTexts.{Word, AtWord, ShutWord, RowWord, InvWord, AssertWord, EndWord, line_word, leading, divided, normalised, IsLineRest, IsLine}
use Rattle.report_texts.specs.Heads.{Head, IsNarrowLine, IsHead}
use Rattle.report_texts.specs.ProgramParts.{IsProgramPart}
use Rattle.report_texts.specs.Bodies.{AreTexts}
use Rattle.report_texts.specs.Texts.{report_answer}
use Rattle.report_texts.proofs.NormalRows.{led_at, led_finite, finite_led, normalised_is}
use Rattle.report_texts.proofs.WrittenLines.{laws_of, number_laws_of, kind_laws_of}
use Rattle.report_texts.proofs.TextLaws.{report_found}

-- ---- numbers

number_at_most : (bound : ℕ) (p : Piece) (n : ℕ) → number bound p ≡ Ok n → n ≤ bound
unfolding number
number_at_most bound p n e = at (is_digits p) (nat_le (number_of (text_of p)) bound) refl e
  where
    at : (b c : Bool) → nat_le (number_of (text_of p)) bound ≡ c →
        cond b (cond c (Ok (number_of (text_of p))) (Err NumberRange)) (Err Syntax) ≡ Ok n → n ≤ bound
    at true true k q =
        let same : number_of (text_of p) ≡ n = cc in
        let le = leb-true (number_of (text_of p)) bound k in
        omega (arith, same, le)
    at true false k q = absurd cc
    at false c k q = absurd cc

-- ---- lists

All-each : {A : Type 0} (P : A → Type 0) (xs : List A) → Each P xs → All P xs
All-each P [] h k d lt = absurd (omega (arith, lt))
All-each P (x ∷ xs) h zero d lt = h.0
All-each P (x ∷ xs) h (suc k) d lt = All-each P xs h.1 k d (omega (arith, lt))

Each-front : {A : Type 0} (P : A → Type 0) (xs ys : List A) → Each P (xs ++ ys) → Each P xs
Each-front P [] ys h = tt
Each-front P (x ∷ xs) ys h = (h.0, Each-front P xs ys h.1)

Each-back : {A : Type 0} (P : A → Type 0) (xs ys : List A) → Each P (xs ++ ys) → Each P ys
Each-back P [] ys h = h
Each-back P (x ∷ xs) ys h = Each-back P xs ys h.1

-- ---- lines

module _ (mode : Mode) (names : List (List ℕ)) where
  abbrev R : Semiring Element
  R = ring_of mode

  abbrev laws : SemiringLaws R
  laws = laws_of mode

  abbrev n : ℕ
  n = length names + 1

  record IsRowKept (x : List Element) : Type 0 where
    normal : IsNormal R x
    wide : length x ≡ n
    small : row_size R x ≤ greatest_normal

  -- what a line keeps; a row, where it is not all the zero
  abbrev IsLineKept : Line Element → Type 0
  IsLineKept (Row x) = has_finite numbering x ≡ true → IsRowKept x
  IsLineKept (Inv i) = IsIn n i × (inequality_size R i ≤ greatest_inv)
  IsLineKept (At k p) = Unit {0}
  IsLineKept Unreachable = Unit {0}
  IsLineKept (Asserted k b) = Unit {0}
  IsLineKept Last = Unit {0}

  word_small : (p : Piece) (c : Element) → line_word R p ≡ Ok (RowWord c) → R.size c ≡ 0
  unfolding line_word
  word_small p c e = at (says (codes "at") p) (says (codes "unreachable") p) (says (codes "point") p)
      (says (codes "ray") p) (says (codes "inv") p) (says (codes "assert") p) (says (codes "end") p) e
    where
      at : (b1 b2 b3 b4 b5 b6 b7 : Bool) → cond b1 (Ok AtWord) (cond b2 (Ok ShutWord)
          (cond b3 (Ok (RowWord R.one)) (cond b4 (Ok (RowWord R.zero)) (cond b5 (Ok InvWord)
          (cond b6 (Ok AssertWord) (cond b7 (Ok EndWord) (Err Syntax))))))) ≡ Ok (RowWord c) → R.size c ≡ 0
      at true b2 b3 b4 b5 b6 b7 q = absurd cc
      at false true b3 b4 b5 b6 b7 q = absurd cc
      at false false true b4 b5 b6 b7 q = let same : R.one ≡ c = cc in ap R.size (sym same) ∙ laws.size_one
      at false false false true b5 b6 b7 q = let same : R.zero ≡ c = cc in ap R.size (sym same) ∙ laws.size_zero
      at false false false false true b6 b7 q = absurd cc
      at false false false false false true b7 q = absurd cc
      at false false false false false false true q = absurd cc
      at false false false false false false false q = absurd cc

  -- the normal form of a row
  row_kept : (y : List Element) → length y ≡ n → row_size R y ≤ greatest_entry →
      has_finite numbering (normalised R numbering y) ≡ true → IsRowKept (normalised R numbering y)
  row_kept y wide small finite = at (leading numbering y) refl
    where
      at : (o : Option Element) → leading numbering y ≡ o → IsRowKept (normalised R numbering y)
      at None e =
          let same : normalised R numbering y ≡ y = ap (λ o. divided R o y) e in
          let h = led_finite R numbering laws (number_laws_of mode) y
          (subst (λ (z : List Element). has_finite numbering z ≡ true) same finite) in
          absurd (let k = sym e ∙ h.1 in cc)
      at (Some a) e =
          let led = led_at R numbering laws (number_laws_of mode) y a e in
          let same : normalised R numbering y ≡ scaled R (R.inverse a) y = ap (λ o. divided R o y) e in
          let one = row_size-scaled laws (R.inverse a) y in
          let two = laws.size_inverse a led.finite in
          let three : R.size (slice_index_or y led.place R.zero) ≤ row_size R y =
          size-entry R y led.place R.zero led.within in
          let four : R.size (slice_index_or y led.place R.zero) ≡ R.size a = ap R.size led.is in
          let h = normalised_is R numbering laws (number_laws_of mode) y
          (finite_led R numbering laws (number_laws_of mode) y a e) in
          record {
            normal = h.normal;
            wide = ap length same ∙ length-map y (R.times (R.inverse a)) ∙ wide;
            small = subst (λ (z : List Element). row_size R z ≤ greatest_normal) (sym same)
                (omega (arith, one, two, three, four, small));
          }

  rest_kept : (w : Word Element) (us : List Piece) (x : Line Element) → ((c : Element) → w ≡ RowWord c → R.size c ≡ 0) →
      IsLineRest (kind_of mode) R numbering names w us x → IsLineKept x
  rest_kept AtWord us x z h = subst IsLineKept (sym h.second.second.second.second.is) tt
  rest_kept ShutWord us x z h = subst IsLineKept (sym h.second.is) tt
  rest_kept EndWord us x z h = subst IsLineKept (sym h.second.is) tt
  rest_kept AssertWord us x z h = subst IsLineKept (sym h.second.second.second.is) tt
  rest_kept InvWord us x z h = subst IsLineKept (sym h.second.is) (
    IsIn-inequality (kind_of mode) R numbering greatest_inv names h.front h.value h.first,
    inequality_size-read laws (kind_of mode) numbering (is_reversed mode) greatest_inv names h.front h.value
        (kind_laws_of mode) h.first,
  )
  rest_kept (RowWord c) us x z h =
      let row = h.first.value in
      let is = h.first.first in
      let same : h.value ≡ row = h.first.second.second.is in
      let len = length-row (kind_of mode) R numbering greatest_entry (length names) h.first.front row is in
      let size = row_size-read laws (kind_of mode) numbering (is_reversed mode) greatest_entry (length names)
      h.first.front row (kind_laws_of mode) is in
      let none = z c refl in
      let kept = row_kept (c ∷ row) (omega (arith, len)) (omega (arith, size, none)) in
      subst IsLineKept (sym (h.second.is ∙ ap (λ (y : List Element). Row (normalised R numbering (c ∷ y))) same)) kept

  line_kept : (us : List Piece) (x : Line Element) → IsLine (kind_of mode) R numbering names us x → IsLineKept x
  line_kept us x h = rest_kept h.value h.back x
      (λ c e. word_small h.first.token c (h.first.is ∙ ap Ok e)) h.second

  lines_kept : (us : List Piece) (xs : List (Line Element)) → AreTexts (IsLine (kind_of mode) R numbering names) us xs →
      Each IsLineKept xs
  lines_kept us [] h = tt
  lines_kept us (x ∷ xs) h = (line_kept h.0 x h.3, lines_kept h.1 xs h.4)

  -- ---- parts

  rows_kept : (rows : List (List Element)) → Each IsLineKept (map Row rows) →
      Each (λ x. has_finite numbering x ≡ true) rows → Each IsRowKept rows
  rows_kept [] h f = tt
  rows_kept (x ∷ rows) h f = (h.0 f.0, rows_kept rows h.1 f.1)

  rows_small : (rows : List (List Element)) → Each IsRowKept rows → rows_size R rows ≤ greatest_normal
  rows_small [] h = omega arith
  rows_small (x ∷ rows) h = let k = h.0 in let s = k.small in let m = rows_small rows h.1 in omega (arith, s, m)

  normal_each : (rows : List (List Element)) → Each IsRowKept rows → Each (IsNormal R) rows
  normal_each [] h = tt
  normal_each (x ∷ rows) h = let k = h.0 in (k.normal, normal_each rows h.1)

  wide_each : (rows : List (List Element)) → Each IsRowKept rows → Each (λ row. length row ≡ n) rows
  wide_each [] h = tt
  wide_each (x ∷ rows) h = let k = h.0 in (k.wide, wide_each rows h.1)

  invs_in : (invs : List (Inequality Element)) → Each IsLineKept (map Inv invs) → Each (IsIn n) invs
  invs_in [] h = tt
  invs_in (i ∷ invs) h = let k = h.0 in (k.0, invs_in invs h.1)

  invs_small : (invs : List (Inequality Element)) → Each IsLineKept (map Inv invs) → system_size R invs ≤ greatest_inv
  invs_small [] h = omega arith
  invs_small (i ∷ invs) h = let k = h.0 in let s = k.1 in let m = invs_small invs h.1 in omega (arith, s, m)

  kept_of : (part : Part Element) → IsPart numbering part.rows part.printed → Each IsLineKept (map Row part.rows) →
      Each IsLineKept (map Inv part.printed) → IsPartWithin mode greatest_normal n part
  kept_of part is rows invs =
      let k = rows_kept part.rows rows is.finite in
      record {
        lines = is;
        normal = All-each (IsNormal R) part.rows (normal_each part.rows k);
        wide = All-each (λ row. length row ≡ n) part.rows (wide_each part.rows k);
        small = rows_small part.rows k;
        printed_wide = All-each (IsIn n) part.printed (invs_in part.printed invs);
        printed_small = invs_small part.printed invs;
      }

  part_kept : (rows : List (List Element)) (printed : List (Inequality Element)) → IsPart numbering rows printed →
      Each IsLineKept (part_lines rows printed) →
      IsPartWithin mode greatest_normal n (record { rows = rows; printed = printed })
  part_kept [] printed is h = kept_of (record { rows = []; printed = printed }) is tt
      (subst (λ (z : List (Inequality Element)). Each IsLineKept (map Inv z)) (sym (is.none refl)) tt)
  part_kept (x ∷ rows) printed is h = kept_of (record { rows = x ∷ rows; printed = printed }) is
      (h.0, Each-front IsLineKept (map Row rows) (map Inv printed) h.1)
      (Each-back IsLineKept (map Row rows) (map Inv printed) h.1)

  parts_kept : (k : ℕ) (bs : List (Block Element)) → Each (λ b. IsPart numbering b.part.rows b.part.printed) bs →
      Each IsLineKept (blocks_lines k bs) → Each (IsPartWithin mode greatest_normal n)
      (map (λ (b : Block Element). b.part) bs)
  parts_kept k [] is h = tt
  parts_kept k (b ∷ bs) is h = (
    part_kept b.part.rows b.part.printed is.0
        (Each-front IsLineKept (part_lines b.part.rows b.part.printed) (blocks_lines (suc k) bs) h.1),
    parts_kept (suc k) bs is.1
        (Each-back IsLineKept (part_lines b.part.rows b.part.printed) (blocks_lines (suc k) bs) h.1),
  )

-- ---- the head and the program

narrow_kept : (b : Bool) (us : List Piece) (k : ℕ) → IsNarrowLine b us k → k ≤ most_narrow
narrow_kept true us k h =
    let e = h.second.second.second.is in
    let le = number_at_most most_narrow h.second.first.token h.second.value h.second.first.is in
    omega (arith, e, le)
narrow_kept false us k h = let e = h.is in omega (arith, e)

record IsHeadKept (h : Head) : Type 0 where
  delay : h.delay ≤ most_delay
  narrow : h.narrow ≤ most_narrow
  passes : h.passes ≤ most_passes

head_kept : (v : ℕ) (us : List Piece) (h : Head) → IsHead v us h → IsHeadKept h
head_kept v us h is =
    let d = is.second in
    let k = d.second in
    let m = k.second in
    let same = m.second.second.second.is in
    let de = d.first.second.second.second.is in
    let dl = number_at_most most_delay d.first.second.first.token d.first.second.value d.first.second.first.is in
    let me = m.first.second.second.second.is in
    let ml = number_at_most most_passes m.first.second.first.token m.first.second.value m.first.second.first.is in
    let kl = narrow_kept (nat_eq v 2) k.front k.value k.first in
    subst IsHeadKept (sym same) (record { delay = omega (arith, de, dl); narrow = kl; passes = omega (arith, me, ml) })

program_kept : (rule : AssertRule) (us : List Piece) (p : Named) → IsProgramPart rule us p → IsWithin program_limits p
program_kept rule us p h =
    let same : p ≡ h.value = h.second.second.is in
    subst (IsWithin program_limits) (sym same)
    (spelled_within program_limits rule us h.front h.back h.value h.whole h.first)

-- ---- the whole

-- what is read
pub report_kept : (bytes : List ℕ) (r : ReportText) → report_answer bytes ≡ Ok r → IsReportWithin greatest_normal r
report_kept bytes r e =
    let s = report_found bytes r e in
    let h = s.second in
    let p = h.second in
    let b = p.second.second in
    let last = b.second.second.is in
    let head = head_kept s.value h.front h.value h.first in
    let lines = lines_kept h.value.mode p.value.names b.front (lines_of b.value) b.first.lines in
    let is = b.first.is in
    subst (IsReportWithin greatest_normal) (sym last) (record {
      delay = head.delay;
      narrow = head.narrow;
      passes = head.passes;
      program = program_kept (rule_of h.value.mode) p.front p.value p.first;
      parts = parts_kept h.value.mode p.value.names 0 b.value.blocks is.parts
          (Each-front (IsLineKept h.value.mode p.value.names) (blocks_lines 0 b.value.blocks) _ lines);
      points_are = length-map b.value.blocks (λ (c : Block Element). c.part)
          ∙ sym (length-map b.value.blocks (λ (c : Block Element). c.point)) ∙ ap length is.points_are;
      asserts_are = length-map b.value.judged (λ (j : Judged). j.proved)
          ∙ sym (length-map b.value.judged (λ (j : Judged). j.number)) ∙ ap length is.numbers_are;
    })
