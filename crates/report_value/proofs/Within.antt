-- What a report keeps, as the theory of texts and that of inductive reports say it.
use Rattle.std.proofs.Common.{◌≡◌, ◌≤◌, ◌<◌, ◌+◌, ℕ, zero, suc, List, [], ◌∷◌, length, All, slice_index_or, arith, subst}
use Rattle.trop_theory.specs.Semiring.{Semiring}
use Rattle.trop_theory.specs.Numbers.{Numbering}
use Rattle.trop_theory.specs.Vectors.{AreWide}
use Rattle.cone_reports.specs.Reports.{Part, HasWideRows, no_part, part_at}
use Rattle.report_texts.specs.Limits.{greatest_normal}
use Rattle.report_texts.specs.Lines.{Each}
use Rattle.report_texts.specs.Modes.{Mode, Element, ring_of, numbering}
use Rattle.report_texts.specs.Reports.{IsPartWithin, IsReportWithin}
use Rattle.report_value.specs.Views.{ReportOver, said}
use Rattle.report_value.specs.Texts.{in_mode}
use Rattle.report_value.specs.Kept.{IsPartKept, IsKept}

part_within : (mode : Mode) (n : ℕ) (x : Part Element) → IsPartKept (ring_of mode) numbering n x →
    IsPartWithin mode greatest_normal n x
part_within mode n x h = record {
  lines = h.lines;
  normal = h.normal;
  wide = h.wide;
  small = h.small;
  printed_wide = h.printed_wide;
  printed_small = h.printed_small;
}

parts_within : (mode : Mode) (n : ℕ) (parts : List (Part Element)) → All (IsPartKept (ring_of mode) numbering n) parts →
    Each (IsPartWithin mode greatest_normal n) parts
parts_within mode n [] h = tt
parts_within mode n (x ∷ parts) h = (
  part_within mode n x (h 0 x (omega arith)),
  parts_within mode n parts (λ k d lt. h (suc k) d (omega (arith, lt))),
)

-- the value of its text is within the limits
pub IsReportWithin-kept : (mode : Mode) (r : ReportOver Element) → IsKept (ring_of mode) numbering r →
    IsReportWithin greatest_normal (in_mode mode r)
IsReportWithin-kept mode r h = record {
  delay = h.delay;
  narrow = h.narrow;
  passes = h.passes;
  program = h.program.within;
  parts = parts_within mode (length r.program.names + 1) r.parts h.parts;
  points_are = h.points_are;
  asserts_are = h.asserts_are;
}

module _ {V : Type 0} (R : Semiring V) (N : Numbering V) (n : ℕ) where
  -- also where there is no such part
  pub wide_at : (parts : List (Part V)) → All (IsPartKept R N n) parts → (p : ℕ) →
      AreWide n (slice_index_or parts p no_part).rows
  wide_at [] h p = λ k d lt. absurd (omega (arith, lt))
  wide_at (x ∷ parts) h zero = IsPartKept.wide (h 0 x (omega arith))
  wide_at (x ∷ parts) h (suc p) = wide_at parts (λ k d lt. h (suc k) d (omega (arith, lt))) p

-- its rows have the coordinates of its program
pub HasWideRows-kept : {V : Type 0} (R : Semiring V) (N : Numbering V) (r : ReportOver V) → IsKept R N r →
    HasWideRows (said r)
HasWideRows-kept R N r h p =
    let n = length r.program.names in
    let same : n + 1 ≡ suc n = omega arith in
    subst (λ (k : ℕ). AreWide k (part_at (said r) p).rows) same (wide_at R N (n + 1) r.parts h.parts p)
