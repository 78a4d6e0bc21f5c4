-- The first line, by its number.
use Rattle.std.proofs.Common.{◌≡◌, ℕ, Bool, true, false, cond, List, codes, Ok, Err, refl, ap, ◌∙◌}
use Rattle.trop_grammar.specs.Reading.{Reading}
use Rattle.trop_text.specs.Pieces.{Piece}
use Rattle.trop_text.specs.declared.fault.FaultKind.{FaultKind}
use Rattle.trop_text.specs.declared.fault.FaultKind.TheVariants.{ReportFault}
use Rattle.trop_reading.specs.declared.read_err.ReadErr.{ReadErr}
use Rattle.trop_reading.specs.declared.read_err.ReadErr.TheVariants as errors
use Rattle.trop_reading.specs.Gives.{Fails}
use Rattle.report_texts.specs.Heads.{digits, is_version, word_line_at, from_last, against, known_version, version_at}
use Rattle.report_reading.specs.declared.head.Version.{Version}
use Rattle.report_reading.specs.declared.head.Version.TheVariants.{First, Second}
use Rattle.report_reading.specs.Heads.{version_of}

abbrev line : List Piece → Reading Piece FaultKind ℕ
line = word_line_at (codes "report") digits

known : (v : Version) → is_version (version_of v) ≡ true
known First = refl
known Second = refl

abbrev judged : List Piece → Reading Piece FaultKind ℕ → Reading Piece FaultKind ℕ
judged ts v = known_version ts v

at_number : (ts rest : List Piece) (n : ℕ) (b : Bool) → is_version n ≡ b →
    known_version ts (Ok (n, rest)) ≡ cond b (Ok (n, rest)) (against ts rest)
at_number ts rest n b e = ap (λ c. cond c (Ok (n, rest)) (against ts rest)) e

pub version_found : (ts rest : List Piece) (n : ℕ) (v : Version) → line ts ≡ Ok (n, rest) → n ≡ version_of v →
    version_at ts ≡ Ok (version_of v, rest)
unfolding version_at
version_found ts rest n v e k =
    ap (judged ts) (e ∙ ap (λ (m : ℕ). Ok (m, rest)) k) ∙ at_number ts rest (version_of v) true (known v)

pub version_other : (ts rest : List Piece) (n : ℕ) → line ts ≡ Ok (n, rest) → is_version n ≡ false →
    version_at ts ≡ Err (record { what = ReportFault; rest = from_last ts rest })
unfolding version_at
version_other ts rest n e k = ap (judged ts) e ∙ at_number ts rest n false k

pub version_failed : (ts : List Piece) (e : ReadErr) → Fails e (line ts) → Fails e (version_at ts)
unfolding version_at
version_failed ts e f = at e (line ts) f
  where
    at : (e : ReadErr) (v : Reading Piece FaultKind ℕ) → Fails e v → Fails e (known_version ts v)
    at errors.NoMemory v f = tt
    at (errors.Wrong what here) (Ok x) f = absurd f
    at (errors.Wrong what here) (Err miss) f = f
