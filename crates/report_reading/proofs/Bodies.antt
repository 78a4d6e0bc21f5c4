-- The lines behind the program, one step after another.
use Rattle.std.proofs.Common.{◌≡◌, ◌<◌, ℕ, zero, suc, Option, Some, None, List, length, length-append, Ok, Err, refl, sym, ap, ◌∙◌, arith}
use Rattle.trop_theory.specs.Semiring.{Semiring}
use Rattle.trop_theory.specs.Numbers.{Numbering}
use Rattle.trop_grammar.specs.Reading.{Reading, Miss}
use Rattle.trop_text.specs.Pieces.{Piece}
use Rattle.trop_text.specs.declared.fault.FaultKind.{FaultKind}
use Rattle.trop_text.specs.declared.fault.FaultKind.TheVariants.{ReportFault}
use Rattle.trop_reading.specs.declared.read_err.ReadErr.{ReadErr}
use Rattle.trop_reading.specs.declared.read_err.ReadErr.TheVariants as errors
use Rattle.trop_reading.specs.Gives.{Fails}
use Rattle.trop_reading.proofs.Loops.{fails_with}
use Rattle.trop_spelling.specs.declared.ring_kind.RingKind.{RingKind}
use Rattle.prog_theory.specs.Graph.{Point}
use Rattle.report_texts.specs.Lines.{Line, Body}
use Rattle.report_texts.specs.Progress.{Place, Progress, start}
use Rattle.report_texts.specs.LineTexts.{line_at}
use Rattle.report_texts.specs.Bodies.{Outcome, Further, Whole, outcome, settled, on_line, body_from, body_at}
use Rattle.report_texts.proofs.LineLaws.{line_reads, placed_is, some_token}
use Rattle.report_texts.specs.Heads.{from_last}
use Rattle.report_reading.specs.Bodies.{taken, judged_line, step_at}

module _ {V : Type 0} (kind : RingKind) (R : Semiring V) (N : Numbering V) (names : List (List ℕ)) where
  -- a line takes a token at least
  pub line_shorter : (place : Place V) (ts rest : List Piece) (x : Line V) →
      line_at kind R N names place ts ≡ Ok (x, rest) → length rest < length ts
  line_shorter place ts rest x e =
      let t = (line_reads kind R N names place).takes ts x rest e in
      let one = some_token kind R N names t.taken x (placed_is kind R N names place t.taken x t.is) in
      let whole = ap length t.whole in
      let parts = length-append t.taken rest in
      omega (arith, one, whole, parts)

module _ {V : Type 0} (kind : RingKind) (R : Semiring V) (N : Numbering V) (names : List (List ℕ))
    (points : List Point) (numbers : List ℕ) where
  abbrev reads_on : ℕ → Progress V → List Piece → Reading Piece FaultKind (Body V)
  reads_on n = body_from kind R N names points numbers n

  abbrev step : Progress V → List Piece → Reading Piece FaultKind (Outcome V)
  step = step_at kind R N names points numbers

  abbrev went : Outcome V → List Piece → (Progress V → List Piece → Reading Piece FaultKind (Body V)) →
      Reading Piece FaultKind (Body V)
  went (Further t) rest more = more t rest
  went (Whole b) rest more = Ok (b, rest)

  abbrev goes : Reading Piece FaultKind (Outcome V) →
      (Progress V → List Piece → Reading Piece FaultKind (Body V)) → Reading Piece FaultKind (Body V)
  goes (Ok x) more = went x.0 x.1 more
  goes (Err miss) more = Err miss

  settled_goes : (ts rest : List Piece) (o : Option (Outcome V))
      (more : Progress V → List Piece → Reading Piece FaultKind (Body V)) →
      settled ts rest o more ≡ goes (taken ts rest o) more
  settled_goes ts rest None more = refl
  settled_goes ts rest (Some (Further t)) more = refl
  settled_goes ts rest (Some (Whole b)) more = refl

  line_goes : (ts : List Piece) (judge : Line V → Option (Outcome V)) (v : Reading Piece FaultKind (Line V))
      (more : Progress V → List Piece → Reading Piece FaultKind (Body V)) →
      on_line ts judge v more ≡ goes (judged_line ts judge v) more
  line_goes ts judge (Ok x) more = settled_goes ts x.1 (judge x.0) more
  line_goes ts judge (Err miss) more = refl

  body_step : (n : ℕ) (s : Progress V) (ts : List Piece) → reads_on (suc n) s ts ≡ goes (step s ts) (reads_on n)
  unfolding body_from
  body_step n s ts = line_goes ts (outcome N points numbers s) (line_at kind R N names s.place ts) (reads_on n)

  -- ---- one step

  pub step_taken : (s : Progress V) (ts rest : List Piece) (x : Line V) (o : Outcome V) →
      line_at kind R N names s.place ts ≡ Ok (x, rest) → Some o ≡ outcome N points numbers s x →
      step s ts ≡ Ok (o, rest)
  step_taken s ts rest x o e k = ap (judged_line ts (outcome N points numbers s)) e ∙ ap (taken ts rest) (sym k)

  pub step_against : (s : Progress V) (ts rest : List Piece) (x : Line V) →
      line_at kind R N names s.place ts ≡ Ok (x, rest) → None ≡ outcome N points numbers s x →
      step s ts ≡ Err (record { what = ReportFault; rest = from_last ts rest })
  step_against s ts rest x e k = ap (judged_line ts (outcome N points numbers s)) e ∙ ap (taken ts rest) (sym k)

  pub step_failed : (s : Progress V) (ts : List Piece) (e : ReadErr) → Fails e (line_at kind R N names s.place ts) →
      Fails e (step s ts)
  step_failed s ts e f = at e (line_at kind R N names s.place ts) f
    where
      at : (e : ReadErr) (v : Reading Piece FaultKind (Line V)) → Fails e v →
          Fails e (judged_line ts (outcome N points numbers s) v)
      at errors.NoMemory v f = tt
      at (errors.Wrong what here) (Ok x) f = absurd f
      at (errors.Wrong what here) (Err miss) f = f

  -- ---- several

  -- what is left, with the lines so far, comes to the whole
  pub record IsAhead (s : Progress V) (left : List Piece) (whole : Reading Piece FaultKind (Body V)) : Type 0 where
    pub lines : ℕ
    pub enough : length left < lines
    pub so_far : reads_on lines s left ≡ whole

  pub ahead_first : (s : Progress V) (ts : List Piece) → s ≡ start →
      IsAhead s ts (body_at kind R N names points numbers ts)
  unfolding body_at
  ahead_first s ts e = record {
    lines = suc (length ts);
    enough = omega arith;
    so_far = ap (λ (z : Progress V). reads_on (suc (length ts)) z ts) e;
  }

  module _ (s : Progress V) (ts : List Piece) (whole : Reading Piece FaultKind (Body V)) (h : IsAhead s ts whole) where
    record HasStep : Type 0 where
      fewer : ℕ
      enough : length ts < suc fewer
      so_far : goes (step s ts) (reads_on fewer) ≡ whole

    has_step : HasStep
    has_step = at h.lines h.enough h.so_far
      where
        at : (n : ℕ) → length ts < n → reads_on n s ts ≡ whole → HasStep
        at zero lt e = absurd (omega (arith, lt))
        at (suc n) lt e = record { fewer = n; enough = lt; so_far = sym (body_step n s ts) ∙ e }

    pub ahead_next : (o : Outcome V) (t : Progress V) (us : List Piece) → step s ts ≡ Ok (o, us) → o ≡ Further t →
        length us < length ts → IsAhead t us whole
    ahead_next o t us e k lt =
        let n = has_step in
        let m = n.enough in
        record {
          lines = n.fewer;
          enough = omega (arith, lt, m);
          so_far = sym (ap (λ (z : Reading Piece FaultKind (Outcome V)). goes z (reads_on n.fewer))
              (e ∙ ap (λ (z : Outcome V). Ok (z, us)) k)) ∙ n.so_far;
        }

    pub ahead_done : (o : Outcome V) (b : Body V) (us : List Piece) → step s ts ≡ Ok (o, us) → o ≡ Whole b →
        whole ≡ Ok (b, us)
    ahead_done o b us e k =
        let n = has_step in
        sym n.so_far ∙ ap (λ (z : Reading Piece FaultKind (Outcome V)). goes z (reads_on n.fewer))
        (e ∙ ap (λ (z : Outcome V). Ok (z, us)) k)

    pub ahead_fails : (miss : Miss Piece FaultKind) → step s ts ≡ Err miss → whole ≡ Err miss
    ahead_fails miss e =
        let n = has_step in
        sym n.so_far ∙ ap (λ (z : Reading Piece FaultKind (Outcome V)). goes z (reads_on n.fewer)) e

    pub ahead_failed : (e : ReadErr) → Fails e (step s ts) → Fails e whole
    ahead_failed e f = fails_with e (step s ts) whole f ahead_fails
