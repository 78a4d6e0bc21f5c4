-- A whole report from its parts, and what the reader promises from what it gives.
use Rattle.std.proofs.Common.{◌≡◌, ◌≤◌, ◌+◌, ℕ, zero, suc, Bool, List, [], ◌∷◌, length, map, All, Ok, Err, refl, sym, ap, subst, ◌∙◌, arith}
use Rattle.std.proofs.lemmas.List.{length-map}
use Rattle.trop_grammar.specs.Reading.{Reading, go_on, read_then, gives, token_at}
use Rattle.trop_text.specs.Pieces.{Piece, pieces_left, pieces_of}
use Rattle.trop_text.specs.Places.{fault_before}
use Rattle.trop_text.specs.declared.pieces.Pieces.{Pieces}
use Rattle.trop_text.specs.declared.fault.FaultKind.{FaultKind}
use Rattle.trop_text.specs.declared.fault.FaultKind.TheVariants.{Syntax}
use Rattle.trop_text.specs.declared.fault.TextErr.{TextErr}
use Rattle.trop_reading.specs.declared.read_err.ReadErr.{ReadErr}
use Rattle.trop_reading.specs.declared.read_err.ReadErr.TheVariants as errors
use Rattle.trop_reading.specs.Gives.{Fails, IsPlaced}
use Rattle.trop_reading.specs.Outcome.{AnswersWith}
use Rattle.trop_reading.specs.Words.{line_end, input_end}
use Rattle.prog_theory.specs.Graph.{points}
use Rattle.prog_theory.specs.Named.{Named, nameless}
use Rattle.report_texts.specs.Limits.{most_passes, greatest_normal}
use Rattle.report_texts.specs.Modes.{Mode, Element, kind_of, ring_of, numbering, rule_of}
use Rattle.report_texts.specs.Lines.{Block, Body, Judged, Each}
use Rattle.report_texts.specs.Reports.{ReportText, IsPartWithin, assert_numbers}
use Rattle.report_texts.specs.Heads.{Head, version_at, head_at}
use Rattle.report_texts.specs.ProgramParts.{program_part_at}
use Rattle.report_texts.specs.Texts.{report, SpellsReport, body_for_at, report_at, answer, report_answer}
use Rattle.report_texts.proofs.TextLaws.{nothing_left, report_found, report_only, report_refused}
use Rattle.report_texts.proofs.ReadReports.{report_kept}
use Rattle.cone_reports.specs.Reports.{Part}
use Rattle.report_value.specs.Kept.{IsPartKept}
use Rattle.report_value.specs.Texts.{in_mode, text_of}
use Rattle.report_value.specs.Views.{ReportOver}
use Rattle.report_reading.specs.declared.progress.Body as code
use Rattle.report_reading.specs.Places.{block_of, judged_of}
use Rattle.report_reading.specs.Progress.{blocks_of, body_of}
use Rattle.report_reading.specs.Wholes.{opening_at, lines_at, report_over}
use Rattle.report_reading.specs.Outcomes.{IsReportRefusal}

-- ---- the parts

abbrev Read : Type 0 → Type 0
Read A = Reading Piece FaultKind A

then_both : {A B C : Type 0} (v : Read A) (f : A → List Piece → Read C) (g : A → List Piece → Read B)
    (k : B → List Piece → Read C) → ((x : A) (us : List Piece) → f x us ≡ go_on (g x us) k) →
    go_on v f ≡ go_on (go_on v g) k
then_both (Ok x) f g k h = h x.0 x.1
then_both (Err miss) f g k h = refl

abbrev rest_at : Head → Named → List Piece → Read ReportText
rest_at h p = read_then (body_for_at h.mode p)
    (λ body. read_then (token_at Syntax input_end) (λ w. gives (report h p body)))

abbrev behind_opening : Head × Named → List Piece → Read ReportText
behind_opening x = rest_at x.0 x.1

report_opened : (ts : List Piece) → report_at ts ≡ go_on (opening_at ts) behind_opening
unfolding report_at read_then gives
report_opened ts = then_both (version_at ts) _ _ behind_opening
    (λ v us. then_both (head_at v us) _ _ behind_opening
    (λ h vs. then_both (program_part_at (rule_of h.mode) vs) _ _ behind_opening
    (λ p ws. then_both (token_at Syntax line_end ws) _ _ behind_opening (λ u xs. refl))))

rest_lines : (h : Head) (p : Named) (ts : List Piece) → rest_at h p ts
    ≡ go_on (lines_at (kind_of h.mode) (ring_of h.mode) numbering p ts) (λ body. gives (report h p body))
unfolding read_then gives
rest_lines h p ts = then_both (body_for_at h.mode p ts) _ _ (λ body. gives (report h p body))
    (λ body us. then_both (token_at Syntax input_end us) _ _ (λ body. gives (report h p body)) (λ w vs. refl))

module _ (ts us : List Piece) (h : Head) (p : Named) (opened : opening_at ts ≡ Ok ((h, p), us)) where
  abbrev lines_here : Read (Body Element)
  lines_here = lines_at (kind_of h.mode) (ring_of h.mode) numbering p us

  abbrev made : Read (Body Element) → Read ReportText
  made v = go_on v (λ body. gives (report h p body))

  from_lines : report_at ts ≡ made lines_here
  from_lines = report_opened ts ∙ ap (λ (z : Read (Head × Named)). go_on z behind_opening) opened ∙ rest_lines h p us

  pub report_whole : (b : Body Element) (vs : List Piece) → lines_here ≡ Ok (b, vs) →
      report_at ts ≡ Ok (report h p b, vs)
  unfolding gives
  report_whole b vs e = from_lines ∙ ap made e

  pub report_faulty : (e : ReadErr) → Fails e lines_here → Fails e (report_at ts)
  report_faulty e f = at lines_here refl f
    where
      at : (v : Read (Body Element)) → lines_here ≡ v → Fails e v → Fails e (report_at ts)
      at v q f = subst (Fails e) (sym (from_lines ∙ ap made q)) (failed e v f)
        where
          failed : (e : ReadErr) (v : Read (Body Element)) → Fails e v → Fails e (made v)
          failed errors.NoMemory v f = tt
          failed (errors.Wrong what at) (Ok x) f = absurd f
          failed (errors.Wrong what at) (Err miss) f = f

pub opening_faulty : (ts : List Piece) (e : ReadErr) → Fails e (opening_at ts) → Fails e (report_at ts)
opening_faulty ts e f = at (opening_at ts) refl f
  where
    failed : (e : ReadErr) (v : Read (Head × Named)) → Fails e v → Fails e (go_on v behind_opening)
    failed errors.NoMemory v f = tt
    failed (errors.Wrong what at) (Ok x) f = absurd f
    failed (errors.Wrong what at) (Err miss) f = f

    at : (v : Read (Head × Named)) → opening_at ts ≡ v → Fails e v → Fails e (report_at ts)
    at v q f = subst (Fails e) (sym (report_opened ts ∙ ap (λ (z : Read (Head × Named)). go_on z behind_opening) q))
        (failed e v f)

-- a report with these parts and verdicts
abbrev pub report_with : {V : Type 0} → Head → Named → List (Part V) → List Bool → ReportOver V
report_with h p parts verdicts = record {
  delay = h.delay;
  narrow = h.narrow;
  passes = h.passes;
  program = p;
  parts = parts;
  verdicts = verdicts;
}

-- ---- what is kept

each_all : {A : Type 0} (P : A → Type 0) (xs : List A) → Each P xs → All P xs
each_all P [] h k d lt = absurd (omega (arith, lt))
each_all P (x ∷ xs) h zero d lt = h.0
each_all P (x ∷ xs) h (suc k) d lt = each_all P xs h.1 k d (omega (arith, lt))

part_kept : (mode : Mode) (n : ℕ) (x : Part Element) → IsPartWithin mode greatest_normal n x →
    IsPartKept (ring_of mode) numbering n x
part_kept mode n x h = record {
  lines = h.lines;
  normal = h.normal;
  wide = h.wide;
  small = h.small;
  printed_wide = h.printed_wide;
  printed_small = h.printed_small;
}

parts_kept : (mode : Mode) (n : ℕ) (xs : List (Part Element)) → Each (IsPartWithin mode greatest_normal n) xs →
    Each (IsPartKept (ring_of mode) numbering n) xs
parts_kept mode n [] h = tt
parts_kept mode n (x ∷ xs) h = (part_kept mode n x h.0, parts_kept mode n xs h.1)

all_unmapped : {A B : Type 0} (P : B → Type 0) (f : A → B) (xs : List A) → All P (map f xs) → All (λ x. P (f x)) xs
all_unmapped P f [] h k d lt = absurd (omega (arith, lt))
all_unmapped P f (x ∷ xs) h zero d lt = h 0 (f x) (omega arith)
all_unmapped P f (x ∷ xs) h (suc k) d lt =
    all_unmapped P f xs (λ j c lj. h (suc j) c (omega (arith, lj))) k d (omega (arith, lt))

-- what the making of a report asks
pub record IsAsked {Store : Type 0} (mode : Mode) (h : Head) (p : Named) (b : code.Body Element Store) : Type 0 where
  pub passes : h.passes ≤ most_passes
  pub parts : All (λ c. IsPartKept (ring_of mode) numbering (length p.names + 1) (Block.part (block_of c)))
      b.blocks.items
  pub points_are : length b.blocks.items ≡ length (points (nameless p))
  pub asserts_are : length b.judged.items ≡ length (assert_numbers p)

report_asked : {Store : Type 0} (bytes : List ℕ) (h : Head) (p : Named) (b : code.Body Element Store)
    (rest : List Piece) → report_at (pieces_of bytes) ≡ Ok (report h p (body_of b), rest) → IsAsked h.mode h p b
report_asked bytes h p b rest e =
    let r = report h p (body_of b) in
    let n = length p.names + 1 in
    let k = report_kept bytes r (ap (answer bytes) e) in
    let P : Part Element → Type 0 = IsPartKept (ring_of h.mode) numbering n in
    let all = each_all P r.parts (parts_kept h.mode n r.parts k.parts) in
    record {
      passes = k.passes;
      parts = all_unmapped (λ (c : Block Element). P c.part) block_of b.blocks.items
          (all_unmapped P (λ (c : Block Element). c.part) (blocks_of b.blocks.items) all);
      points_are = sym (length-map b.blocks.items block_of)
          ∙ sym (length-map (blocks_of b.blocks.items) (λ (c : Block Element). c.part)) ∙ k.points_are;
      asserts_are = sym (length-map b.judged.items judged_of)
          ∙ sym (length-map (map judged_of b.judged.items) (λ (j : Judged). j.proved)) ∙ k.asserts_are;
    }

-- nothing is left behind a report
pub report_ends : (bytes : List ℕ) (r : ReportText) (rest : List Piece) → report_at (pieces_of bytes) ≡ Ok (r, rest) →
    report_at (pieces_of bytes) ≡ Ok (r, [])
report_ends bytes r rest e = e ∙ ap (λ (z : List Piece). Ok (r, z)) (nothing_left bytes r rest e)

-- ---- of bytes, from the pieces with which a reader begins

module _ (bytes : List ℕ) (ts : List Piece) (here : ts ≡ pieces_of bytes) where
  pub opening_fails : (e : ReadErr) → Fails e (opening_at ts) → Fails e (report_at (pieces_of bytes))
  opening_fails e f = subst (λ (z : List Piece). Fails e (report_at z)) here (opening_faulty ts e f)

  module _ (mode : Mode) (us : List Piece) (h : Head) (p : Named) (opened : opening_at ts ≡ Ok ((h, p), us))
      (is : h.mode ≡ mode) where
    abbrev lines_of_mode : Mode → Read (Body Element)
    lines_of_mode m = lines_at (kind_of m) (ring_of m) numbering p us

    pub lines_fail : (e : ReadErr) → Fails e (lines_of_mode mode) → Fails e (report_at (pieces_of bytes))
    lines_fail e f = subst (λ (z : List Piece). Fails e (report_at z)) here
        (report_faulty ts us h p opened e (subst (λ m. Fails e (lines_of_mode m)) (sym is) f))

    whole : (b : Body Element) (vs : List Piece) → lines_of_mode mode ≡ Ok (b, vs) →
        report_at (pieces_of bytes) ≡ Ok (report h p b, vs)
    whole b vs e = subst (λ (z : List Piece). report_at z ≡ Ok (report h p b, vs)) here
        (report_whole ts us h p opened b vs (ap lines_of_mode is ∙ e))

    text_made : (b : Body Element) (m : Mode) → h.mode ≡ m → report h p b ≡ in_mode m (report_over h p b)
    text_made b m k = ap (λ z. in_mode z (report_over h p b)) k

    pub report_read : (b : Body Element) (vs : List Piece) (r : ReportOver Element) → lines_of_mode mode ≡ Ok (b, vs) →
        r ≡ report_over h p b → report_at (pieces_of bytes) ≡ Ok (in_mode mode r, [])
    report_read b vs r e k =
        let made : report h p b ≡ in_mode mode r = text_made b mode is ∙ ap (in_mode mode) (sym k) in
        report_ends bytes (report h p b) vs (whole b vs e) ∙ ap (λ (z : ReportText). Ok (z, [])) made

    pub lines_asked : {Store : Type 0} (b : code.Body Element Store) (vs : List Piece) →
        lines_of_mode mode ≡ Ok (body_of b, vs) → IsAsked mode h p b
    lines_asked b vs e = subst (λ m. IsAsked m h p b) is (report_asked bytes h p b vs (whole (body_of b) vs e))

-- ---- what the reader promises

module _ (bytes : List ℕ) where
  pub spelled : (r : ReportText) (rest : List Piece) → report_at (pieces_of bytes) ≡ Ok (r, rest) →
      SpellsReport (pieces_of bytes) r
  spelled r rest e = report_found bytes r (ap (answer bytes) e)

  pub only_one : (r s : ReportText) (rest : List Piece) → report_at (pieces_of bytes) ≡ Ok (r, rest) →
      SpellsReport (pieces_of bytes) s → r ≡ s
  only_one r s rest e h = let q = sym (ap (answer bytes) e) ∙ report_only bytes s h in cc

  fault_is : (what : FaultKind) (at : Pieces) → Fails (errors.Wrong what at) (report_at (pieces_of bytes)) →
      report_answer bytes ≡ Err (fault_before bytes what (pieces_left at))
  fault_is what at f = go (report_at (pieces_of bytes)) refl f
    where
      go : (v : Read ReportText) → report_at (pieces_of bytes) ≡ v → Fails (errors.Wrong what at) v →
          report_answer bytes ≡ Err (fault_before bytes what (pieces_left at))
      go (Ok x) q f = absurd f
      go (Err miss) q f = ap (answer bytes) q ∙ ap (λ k. Err (fault_before bytes k miss.rest)) (sym f.0)
          ∙ ap (λ (z : List Piece). Err (fault_before bytes what z)) (sym f.1)

  pub refused : (e : ReadErr) (told : TextErr) → Fails e (report_at (pieces_of bytes)) → IsPlaced bytes e told →
      IsReportRefusal bytes told
  refused errors.NoMemory told f p = subst (IsReportRefusal bytes) (sym p) tt
  refused (errors.Wrong what at) told f p =
      let e = fault_is what at f in
      let r = report_refused bytes (fault_before bytes what (pieces_left at)) e in
      subst (IsReportRefusal bytes) (sym p) (record {
        kind = r.kind;
        rest = r.rest;
        is = r.is;
        first = r.first;
        answered = e;
        spelled = r.spelled;
      })

  pub not_spelled : (e : ReadErr) (told : TextErr) (r : ReportText) → Fails e (report_at (pieces_of bytes)) →
      IsPlaced bytes e told → SpellsReport (pieces_of bytes) r → AnswersWith text_of (Err told) r
  not_spelled errors.NoMemory told r f p h = subst (λ z. AnswersWith text_of (Err z) r) (sym p) tt
  not_spelled (errors.Wrong what at) told r f p h =
      let both = sym (fault_is what at f) ∙ report_only bytes r h in absurd cc
