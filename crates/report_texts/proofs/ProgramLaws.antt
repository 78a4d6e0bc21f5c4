-- The program of a report is read right, and each stop is at the first fault.
-- Index: plain_counted, ended_reads, program_part_exact, program_part_stops.
use Rattle.std.proofs.Common.{◌≡◌, ◌≤◌, ℕ, true, List, [], ◌∷◌, ◌++◌, length, codes, Ok, Err, refl, sym, ap, subst, ◌∙◌, arith}
use Rattle.std.proofs.lemmas.List.{map-append}
use Rattle.trop_text.specs.Pieces.{Piece}
use Rattle.trop_text.specs.declared.fault.FaultKind.{FaultKind}
use Rattle.trop_text.specs.declared.fault.FaultKind.TheVariants.{Syntax}
use Rattle.trop_grammar.specs.Reading.{Reading, Miss}
use Rattle.shape_grammar.specs.Past.{past}
use Rattle.shape_grammar.specs.Shape.{Nothing}
use Rattle.shape_grammar.specs.Reads.{Reads, IsTaken}
use Rattle.shape_grammar.proofs.Pasts.{past-append}
use Rattle.shape_grammar.proofs.Laws.{Reads-bind}
use Rattle.shape_grammar.proofs.Choices.{Reads-map}
use Rattle.shape_grammar.proofs.TokenLaws.{has-next}
use Rattle.shape_grammar.proofs.Whole.{first_fault}
use Rattle.prog_theory.specs.Limits.{program_limits}
use Rattle.prog_theory.specs.Named.{Named}
use Rattle.prog_texts.specs.AssertRule.{AssertRule}
use Rattle.prog_texts.specs.Words.{Before, Counted, skipped, says, behind, nothing_before, counted}
use Rattle.prog_texts.specs.Shapes.{language}
use Rattle.prog_texts.specs.Programs.{IsProgramCause}
use Rattle.prog_texts.proofs.Signs.{Anything, said_reads, only_where, text_is}
use Rattle.prog_texts.proofs.ProgramLaws.{IsOver, over_led, program_reads, some_program}
use Rattle.report_texts.specs.ProgramParts.{part_pieces, plain, IsEnded, IsProgramPart, ended_program, ended_at, uncounted, program_part_at, IsProgramFault}
use Rattle.report_texts.proofs.Exact.{Exact, ok_same}

-- ---- pieces with counts

pub plain_counted : (b : Before) (ps : List Piece) → plain (counted b ps) ≡ ps
unfolding counted
plain_counted b [] = refl
plain_counted b (p ∷ ps) = ap (λ (z : List Piece). p ∷ z) (plain_counted (behind (record { piece = p; before = b })) ps)

-- a text behind another, with its counts
pub record IsSplit (b : Before) (us vs : List Piece) : Type 0 where
  pub after : Before
  pub is : counted b (us ++ vs) ≡ counted b us ++ counted after vs

pub counted_split : (b : Before) (us vs : List Piece) → IsSplit b us vs
unfolding counted
counted_split b [] vs = record { after = b; is = refl }
counted_split b (u ∷ us) vs =
    let t : Counted = record { piece = u; before = b } in
    let h = counted_split (behind t) us vs in
    record { after = h.after; is = ap (λ (z : List Counted). t ∷ z) h.is }

cons_parts : (t u : Counted) (ts us : List Counted) → t ∷ ts ≡ u ∷ us → (t ≡ u) × (ts ≡ us)
cons_parts t u ts us e = (cc, cc)

-- the front of counted pieces is what the front counts
pub front_counted : (b : Before) (ps : List Piece) (us rest : List Counted) → counted b ps ≡ us ++ rest →
    counted b (plain us) ≡ us
unfolding counted
front_counted b ps [] rest e = refl
front_counted b [] (u ∷ us) rest e = absurd cc
front_counted b (p ∷ ps) (u ∷ us) rest e =
    let t : Counted = record { piece = p; before = b } in
    let k = cons_parts t u (counted (behind t) ps) (us ++ rest) e in
    let piece : u.piece ≡ p = ap (λ (z : Counted). z.piece) (sym k.0) in
    ap (λ (z : Piece). counted b (z ∷ plain us)) piece
    ∙ ap (λ (z : List Counted). t ∷ z) (front_counted (behind t) ps us rest k.1)
    ∙ ap (λ (z : Counted). z ∷ us) k.0

-- ---- the program and `end`

over_end : (t : Counted) (us vs : List Counted) → past skipped vs ≡ t ∷ us → says (codes "end") t ≡ true → IsOver vs
over_end t us vs whole e = over_led (codes "end") refl refl vs
    (record { token = t; behind = us; whole = whole; is = text_is (codes "end") t e })

module _ (rule : AssertRule) where
  pub ended_reads : (n : ℕ) → Reads language Syntax n Anything (ended_at rule) (IsEnded rule) ended_program
      (IsProgramCause program_limits rule)
  unfolding ended_at
  ended_reads n =
      Reads-bind language Syntax n IsOver Anything {B₂ = λ x w before t. ⊥} (IsProgramCause program_limits rule)
      (some_program program_limits rule) (program_reads program_limits rule n)
      (λ p. Reads-map language Syntax (λ u. p) tt (said_reads n (codes "end") refl tt))
      (λ ws vs h ends. let i = has-next language h in
      over_end i.token (i.behind ++ vs) (ws ++ vs) (past-append skipped ws i.token i.behind vs i.whole)
      (only_where (says (codes "end") i.token) Nothing i.behind i.is))
      (λ w before t begins c. c) (λ x us w before t h c. absurd c)

  all : (ts : List Counted) → length ts ≤ length ts
  all ts = omega arith

  -- ---- over plain pieces

  abbrev read_program : Named × List Counted → Reading Counted FaultKind Named
  read_program x = Ok x

  record IsUncounted (v : Reading Counted FaultKind Named) (p : Named) (rest : List Piece) : Type 0 where
    left : List Counted
    is : v ≡ Ok (p, left)
    same : plain left ≡ rest

  uncounted_ok : (v : Reading Counted FaultKind Named) (p : Named) (rest : List Piece) → uncounted v ≡ Ok (p, rest) →
      IsUncounted v p rest
  uncounted_ok (Ok x) p rest e =
      let k = ok_same {T = Piece} {W = FaultKind} x.0 p (plain x.1) rest e in
      record { left = x.1; is = ap (λ (z : Named). read_program (z, x.1)) k.0; same = k.1 }
  uncounted_ok (Err miss) p rest e = absurd cc

  part_takes : (ts : List Piece) (p : Named) (rest : List Piece) → program_part_at rule ts ≡ Ok (p, rest) →
      IsTaken (IsProgramPart rule) ts p rest
  unfolding program_part_at
  part_takes ts p rest e =
      let u = uncounted_ok (ended_at rule (part_pieces ts)) p rest e in
      let h = (ended_reads (length (part_pieces ts))).texts.takes (part_pieces ts) p u.left
      (all (part_pieces ts)) u.is in
      record {
        taken = plain h.taken;
        whole = sym (plain_counted nothing_before ts) ∙ ap plain h.whole
            ∙ map-append (λ (t : Counted). t.piece) h.taken u.left ∙ ap (λ (z : List Piece). plain h.taken ++ z) u.same;
        is = subst (λ (z : List Counted). IsEnded rule z p)
            (sym (front_counted nothing_before ts h.taken u.left h.whole)) h.is;
      }

  part_reads : (us rest : List Piece) (p : Named) → IsProgramPart rule us p →
      program_part_at rule (us ++ rest) ≡ Ok (p, rest)
  unfolding program_part_at
  part_reads us rest p h =
      let s = counted_split nothing_before us rest in
      let left = counted s.after rest in
      let whole = part_pieces us ++ left in
      ap (λ z. uncounted (ended_at rule z)) s.is
      ∙ ap uncounted ((ended_reads (length whole)).texts.reads (part_pieces us) left p (all whole) h tt)
      ∙ ap (λ (z : List Piece). Ok (p, z)) (plain_counted s.after rest)

  pub program_part_exact : Exact (program_part_at rule) (IsProgramPart rule)
  program_part_exact = record { takes = part_takes; reads = part_reads }

  record IsMissed (v : Reading Counted FaultKind Named) (miss : Miss Piece FaultKind) : Type 0 where
    left : List Counted
    is : v ≡ Err (record { what = miss.what; rest = left })
    same : miss.rest ≡ plain left

  abbrev missed : Miss Piece FaultKind → Reading Piece FaultKind Named
  missed m = Err m

  uncounted_err : (v : Reading Counted FaultKind Named) (miss : Miss Piece FaultKind) → uncounted v ≡ Err miss →
      IsMissed v miss
  uncounted_err (Ok x) miss e = absurd cc
  uncounted_err (Err m) miss e =
      let k : record { what = m.what; rest = plain m.rest } ≡ miss = cc in
      record {
        left = m.rest;
        is = ap (λ (z : Miss Piece FaultKind). Err (record { what = z.what; rest = m.rest })) k;
        same = sym (ap (λ (z : Miss Piece FaultKind). z.rest) k);
      }

  pub program_part_stops : (ts : List Piece) (miss : Miss Piece FaultKind) → program_part_at rule ts ≡ Err miss →
      IsProgramFault rule ts miss.what miss.rest
  unfolding program_part_at
  program_part_stops ts miss e =
      let u = uncounted_err (ended_at rule (part_pieces ts)) miss e in
      record {
        counted_rest = u.left;
        is = u.same;
        first = first_fault language Syntax ended_reads (part_pieces ts)
            (record { what = miss.what; rest = u.left }) u.is;
      }
