-- Whole reports: what is read is spelled, what is spelled is read, and each fault is the first.
-- Index: Stops, Stops-then, report_exact, report_stops, report_found, report_only, report_fault.
use Rattle.std.proofs.Common.{◌≡◌, ℕ, Bool, true, false, cond, List, [], ◌∷◌, ◌++◌, codes, Result, Ok, Err, refl, sym, ap, subst, ◌∙◌, append_assoc, append-nil, inl, inr}
use Rattle.trop_text.specs.Pieces.{Piece, InputEnd, LineEnd, pieces_of}
use Rattle.trop_text.specs.Places.{fault_before}
use Rattle.trop_text.specs.declared.fault.Fault.{Fault}
use Rattle.trop_text.specs.declared.fault.FaultKind.{FaultKind}
use Rattle.trop_text.specs.declared.fault.FaultKind.TheVariants.{Syntax, ReportFault}
use Rattle.trop_grammar.specs.Reading.{Reading, Miss, read_then, gives, token_at}
use Rattle.trop_grammar.specs.Grammar.{One}
use Rattle.trop_grammar.specs.Lists.{Passes}
use Rattle.trop_grammar.specs.Reads.{Reads, Anything}
use Rattle.trop_grammar.proofs.Laws.{go_on-err}
use Rattle.trop_grammar.proofs.ListLaws.{Reads-judged}
use Rattle.trop_grammar.proofs.Ends.{EndsWith, EndsWith-one, EndsWith-then, EndsWith-gives}
use Rattle.trop_grammar.proofs.Whole.{first_fault}
use Rattle.trop_reading.specs.Words.{line_end, input_end, is_input_end}
use Rattle.trop_reading.proofs.Samples.{line_end_reads, IsInputEnd}
use Rattle.trop_reading.proofs.Outcomes.{input_end_alone}
use Rattle.prog_theory.specs.Graph.{points}
use Rattle.prog_theory.specs.Named.{nameless}
use Rattle.report_texts.specs.Modes.{kind_of, ring_of, numbering, rule_of}
use Rattle.report_texts.specs.Reports.{ReportText, assert_numbers}
use Rattle.report_texts.specs.Heads.{digits, is_version, IsReportLine, IsHead, word_line_at, from_last, against, known_version, version_at}
use Rattle.report_texts.specs.Texts.{report, SpellsReport, report_at, answer, report_answer}
use Rattle.report_texts.specs.Faults.{FaultsOf, FirstFault, InTurn, First, Second, IsVersionFault, NoReportLine, OtherVersion, IsReportFault}
use Rattle.report_texts.proofs.Exact.{Exact, Exact-reads, Exact-then, Exact-gives, last_of}
use Rattle.report_texts.proofs.ProgramLaws.{program_part_exact, program_part_stops}
use Rattle.report_texts.proofs.HeadLaws.{report_line_reads, report_line_last, version_exact, head_reads}
use Rattle.report_texts.proofs.BodyLaws.{body_exact, body_stops}

-- ---- one part behind the other

-- each stop of r is a fault of F
abbrev pub Stops : {A : Type 0} → (List Piece → Reading Piece FaultKind A) → FaultsOf → Type 0
Stops r F = (ts : List Piece) (miss : Miss Piece FaultKind) → r ts ≡ Err miss → F ts miss.what miss.rest

pub Stops-then : {A B : Type 0} {r : List Piece → Reading Piece FaultKind A} {R : List Piece → A → Type 0}
    (F : FaultsOf) {s : A → List Piece → Reading Piece FaultKind B} (G : A → FaultsOf) → Exact r R → Stops r F →
    ((x : A) → Stops (s x) (G x)) → Stops (read_then r s) (InTurn R F G)
unfolding read_then
Stops-then {r = r} F {s = s} G exact f g ts miss e =
    elim (go_on-err (r ts) s miss e) [
      | inl d ↦ First (f ts miss d)
      | inr k ↦ let u = exact.takes ts k.0.0 k.0.1 k.1 in
          Second u.taken k.0.1 k.0.0 u.whole u.is (g k.0.0 k.0.1 miss k.2)
    ]

no_err : {A : Type 0} (x : A) (ts : List Piece) (miss : Miss Piece FaultKind) →
    gives {T = Piece} {W = FaultKind} x ts ≡ Err miss → ⊥
unfolding gives
no_err x ts miss e = cc

-- a value is made of the one that was read
pub Stops-map : {A B : Type 0} {r : List Piece → Reading Piece FaultKind A} (F : FaultsOf) (f : A → B) → Stops r F →
    Stops (read_then r (λ x. gives (f x))) F
unfolding read_then
Stops-map {r = r} F f h ts miss e =
    elim (go_on-err (r ts) (λ x. gives (f x)) miss e) [
      | inl d ↦ h ts miss d
      | inr k ↦ absurd (no_err (f k.0.0) k.0.1 miss k.2)
    ]

pub Stops-reads : {A : Type 0} {r : List Piece → Reading Piece FaultKind A} {R : List Piece → A → Type 0} →
    Reads Anything r R → Stops r (FirstFault R)
Stops-reads h ts miss e = first_fault h ts miss e

-- ---- the first line

abbrev missed : Miss Piece FaultKind → Reading Piece FaultKind ℕ
missed m = Err m

miss_is : (a b : Miss Piece FaultKind) → missed a ≡ missed b → a ≡ b
miss_is a b e = cc

other_version : (ts : List Piece) (n : ℕ) (rest : List Piece) (miss : Miss Piece FaultKind) →
    word_line_at (codes "report") digits ts ≡ Ok (n, rest) → is_version n ≡ false → against ts rest ≡ missed miss →
    IsVersionFault ts miss.what miss.rest
other_version ts n rest miss line other e =
    let t = report_line_reads.takes ts n rest line in
    let last = report_line_last.at t.taken n t.is in
    let k = last.is.0 in
    let taken : t.taken ≡ last.front ++ LineEnd k ∷ [] =
    last.whole ∙ ap (λ (z : Piece). last.front ++ z ∷ []) last.is.1 in
    let m = last_of ts t.taken last.front (LineEnd k) rest ReportFault miss t.whole taken
    (miss_is (record { what = ReportFault; rest = from_last ts rest }) miss e) in
    OtherVersion last.front rest n k m.whole (subst (λ (z : List Piece). IsReportLine z n) taken t.is) other
    m.what_is m.left

version_stops : Stops version_at IsVersionFault
unfolding version_at
version_stops ts miss e = at (word_line_at (codes "report") digits ts) refl e
  where
    by : (n : ℕ) (rest : List Piece) → word_line_at (codes "report") digits ts ≡ Ok (n, rest) → (b : Bool) →
        is_version n ≡ b → cond b (Ok (n, rest)) (against ts rest) ≡ missed miss → IsVersionFault ts miss.what miss.rest
    by n rest line true k q = absurd cc
    by n rest line false k q = other_version ts n rest miss line k q

    at : (v : Reading Piece FaultKind ℕ) → word_line_at (codes "report") digits ts ≡ v →
        known_version ts v ≡ missed miss → IsVersionFault ts miss.what miss.rest
    at (Ok x) line q = by x.0 x.1 line (is_version x.0) refl q
    at (Err m) line q = NoReportLine (first_fault report_line_reads ts miss
        (line ∙ ap (λ (z : Miss Piece FaultKind). missed z) (miss_is m miss q)))

-- ---- the whole

input_end_reads : Reads Anything (token_at Syntax input_end) (One (Passes input_end))
input_end_reads = Reads-judged Syntax input_end InputEnd tt refl

pub report_exact : Exact report_at SpellsReport
unfolding report_at
report_exact =
    Exact-then version_exact (λ v. Exact-then (Exact-reads (head_reads v))
    (λ h. Exact-then (program_part_exact (rule_of h.mode)) (λ p. Exact-then (Exact-reads line_end_reads)
    (λ u. Exact-then (body_exact (kind_of h.mode) (ring_of h.mode) numbering p.names (points (nameless p))
    (assert_numbers p))
    (λ body. Exact-then (Exact-reads input_end_reads) (λ w. Exact-gives (report h p body)))))))

pub report_stops : Stops report_at IsReportFault
unfolding report_at
report_stops =
    Stops-then IsVersionFault _ version_exact version_stops
    (λ v. Stops-then (FirstFault (IsHead v)) _ (Exact-reads (head_reads v)) (Stops-reads (head_reads v))
    (λ h. Stops-then _ _ (program_part_exact (rule_of h.mode)) (program_part_stops (rule_of h.mode))
    (λ p. Stops-then (FirstFault (One (Passes line_end))) _ (Exact-reads line_end_reads) (Stops-reads line_end_reads)
    (λ u. Stops-then _ _
    (body_exact (kind_of h.mode) (ring_of h.mode) numbering p.names (points (nameless p)) (assert_numbers p))
    (body_stops (kind_of h.mode) (ring_of h.mode) numbering p.names (points (nameless p)) (assert_numbers p))
    (λ body. Stops-map (FirstFault (One (Passes input_end))) (λ w. report h p body) (Stops-reads input_end_reads))))))

-- ---- the texts

report_last : EndsWith IsInputEnd SpellsReport
report_last = EndsWith-then (λ v. EndsWith-then (λ h. EndsWith-then (λ p. EndsWith-then (λ u. EndsWith-then
    (λ body. EndsWith-gives (EndsWith-one ended))))))
  where
    ended : (p : Piece) (u : Unit {0}) → input_end p ≡ Ok u → IsInputEnd p
    ended p u e = at (is_input_end p) refl e
      where
        at : (b : Bool) → is_input_end p ≡ b → cond b (Ok tt) (Err Syntax) ≡ Ok u → is_input_end p ≡ true
        at true k q = k
        at false k q = absurd cc

abbrev answered : Result ReportText Fault → ReportText → Type 0
answered (Ok x) r = x ≡ r
answered (Err f) r = ⊥

answered_is : (v : Result ReportText Fault) (r : ReportText) → v ≡ Ok r → answered v r
answered_is v r e = subst (λ z. answered z r) (sym e) refl

-- nothing is left behind a report
pub nothing_left : (bytes : List ℕ) (r : ReportText) (rest : List Piece) → report_at (pieces_of bytes) ≡ Ok (r, rest) →
    rest ≡ []
nothing_left bytes r rest e =
    let t = report_exact.takes (pieces_of bytes) r rest e in
    let l = report_last.at t.taken r t.is in
    (input_end_alone bytes).at l.front l.token rest (t.whole ∙ ap (λ (z : List Piece). z ++ rest) l.whole
    ∙ append_assoc l.front (l.token ∷ []) rest) l.is

-- what is read is spelled by the whole text
pub report_found : (bytes : List ℕ) (r : ReportText) → report_answer bytes ≡ Ok r → SpellsReport (pieces_of bytes) r
report_found bytes r e = at (report_at (pieces_of bytes)) refl (answered_is (report_answer bytes) r e)
  where
    at : (v : Reading Piece FaultKind ReportText) → report_at (pieces_of bytes) ≡ v → answered (answer bytes v) r →
        SpellsReport (pieces_of bytes) r
    at (Err miss) k a = absurd a
    at (Ok x) k a =
        let t = report_exact.takes (pieces_of bytes) x.0 x.1 k in
        let whole : pieces_of bytes ≡ t.taken =
        t.whole ∙ ap (λ (z : List Piece). t.taken ++ z) (nothing_left bytes x.0 x.1 k) ∙ append-nil t.taken in
        subst (λ (z : List Piece). SpellsReport z r) (sym whole)
        (subst (λ (z : ReportText). SpellsReport t.taken z) a t.is)

-- what is spelled is read
pub report_only : (bytes : List ℕ) (r : ReportText) → SpellsReport (pieces_of bytes) r → report_answer bytes ≡ Ok r
report_only bytes r h =
    ap (λ (z : List Piece). answer bytes (report_at z)) (sym (append-nil (pieces_of bytes)))
    ∙ ap (answer bytes) (report_exact.reads (pieces_of bytes) [] r h)

-- a refusal is the first fault with its place, and then no value is spelled
pub record IsRefused (bytes : List ℕ) (f : Fault) : Type 0 where
  pub kind : FaultKind
  pub rest : List Piece
  pub is : f ≡ fault_before bytes kind rest
  pub first : IsReportFault (pieces_of bytes) kind rest
  pub judged : report_at (pieces_of bytes) ≡ Err (record { what = kind; rest = rest })
  pub spelled : (r : ReportText) → SpellsReport (pieces_of bytes) r → ⊥

pub report_refused : (bytes : List ℕ) (f : Fault) → report_answer bytes ≡ Err f → IsRefused bytes f
report_refused bytes f e = at (report_at (pieces_of bytes)) refl e
  where
    at : (v : Reading Piece FaultKind ReportText) → report_at (pieces_of bytes) ≡ v → answer bytes v ≡ Err f →
        IsRefused bytes f
    at (Ok x) k q = absurd cc
    at (Err miss) k q =
        let place : fault_before bytes miss.what miss.rest ≡ f = cc in
        record {
          kind = miss.what;
          rest = miss.rest;
          is = sym place;
          first = report_stops (pieces_of bytes) miss k;
          judged = k;
          spelled = λ r h. let both = sym e ∙ report_only bytes r h in cc;
        }
