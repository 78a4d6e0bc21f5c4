-- The lines behind the program are read one after another: what is read, and where the reading stops.
-- Index: body_exact, body_stops.
use Rattle.std.proofs.Common.{◌≡◌, ◌≤◌, ◌<◌, ℕ, zero, suc, Option, Some, None, List, [], ◌∷◌, ◌++◌, length, length-append, Ok, Err, refl, sym, ap, subst, ◌∙◌, append_assoc, append-nil, arith}
use Rattle.trop_theory.specs.Semiring.{Semiring}
use Rattle.trop_theory.specs.Numbers.{Numbering}
use Rattle.trop_text.specs.Pieces.{Piece, LineEnd}
use Rattle.trop_text.specs.declared.fault.FaultKind.{FaultKind}
use Rattle.trop_text.specs.declared.fault.FaultKind.TheVariants.{ReportFault}
use Rattle.trop_grammar.specs.Reading.{Reading, Miss}
use Rattle.trop_grammar.proofs.Whole.{first_fault}
use Rattle.shape_grammar.specs.Reads.{IsTaken}
use Rattle.trop_spelling.specs.declared.ring_kind.RingKind.{RingKind}
use Rattle.prog_theory.specs.Graph.{Point}
use Rattle.report_texts.specs.Lines.{Line, At, Unreachable, Row, Inv, Asserted, Last, Body, lines_of, IsBodyOf, BeginsBody}
use Rattle.report_texts.specs.Progress.{Progress, start, next, final, progress}
use Rattle.report_texts.specs.LineTexts.{IsLine, IsPlacedLine, line_at}
use Rattle.report_texts.specs.Heads.{from_last, against}
use Rattle.report_texts.specs.Bodies.{AreTexts, IsBody, Outcome, Further, Whole, further, whole, outcome, settled, on_line, body_from, body_at}
use Rattle.report_texts.specs.Faults.{IsBodyFault, NoLine, Against}
use Rattle.report_texts.proofs.Exact.{Exact, ok_same, last_of}
use Rattle.report_texts.proofs.Runs.{so_far}
use Rattle.report_texts.proofs.Steps.{Good, start_good, step, final_is, has_step}
use Rattle.report_texts.proofs.Taken.{then_progress, one_progress, no_progress, body_taken, begun_good}
use Rattle.report_texts.proofs.LineLaws.{line_reads, placed_is, AsLast, AsNext, line_placed, line_ends, some_token}

-- ---- texts one behind the other

pub texts_append : {T A : Type 0} (Text : List T → A → Type 0) (us vs : List T) (xs ys : List A) → AreTexts Text us xs →
    AreTexts Text vs ys → AreTexts Text (us ++ vs) (xs ++ ys)
texts_append Text us vs [] ys h k = subst (λ z. AreTexts Text (z ++ vs) ys) (sym h) k
texts_append Text us vs (x ∷ xs) ys h k = (
  h.0,
  h.1 ++ vs,
  ap (λ z. z ++ vs) h.2 ∙ append_assoc h.0 h.1 vs,
  h.3,
  texts_append Text h.1 vs xs ys h.4 k,
)

pub one_text : {T A : Type 0} (Text : List T → A → Type 0) (us : List T) (x : A) → Text us x →
    AreTexts Text us (x ∷ [])
one_text Text us x h = (us, [], sym (append-nil us), h, refl)

module _ {V : Type 0} (kind : RingKind) (R : Semiring V) (N : Numbering V) (names : List (List ℕ))
    (points : List Point) (numbers : List ℕ) where
  abbrev Text : List Piece → Line V → Type 0
  Text = IsLine kind R N names

  abbrev reads_on : ℕ → Progress V → List Piece → Reading Piece FaultKind (Body V)
  reads_on n = body_from kind R N names points numbers n

  -- no more lines than tokens
  few_lines : (us : List Piece) (xs : List (Line V)) → AreTexts Text us xs → length xs ≤ length us
  few_lines us [] h = omega arith
  few_lines us (x ∷ xs) h =
      let one = some_token kind R N names h.0 x h.3 in
      let more = few_lines h.1 xs h.4 in
      let e = ap length h.2 in
      let k = length-append h.0 h.1 in
      omega (arith, one, more, e, k)

  -- ---- what a line comes to

  next_further : (s : Progress V) (x : Line V) (t : Progress V) → next N points numbers s x ≡ Some t →
      outcome N points numbers s x ≡ Some (Further t)
  next_further s (At n p) t e = ap further e
  next_further s Unreachable t e = ap further e
  next_further s (Row x) t e = ap further e
  next_further s (Inv i) t e = ap further e
  next_further s (Asserted n b) t e = ap further e
  next_further s Last t e = absurd cc

  further_is : (o : Option (Progress V)) (t : Progress V) → further o ≡ Some (Further t) → o ≡ Some t
  further_is None t e = absurd cc
  further_is (Some s) t e = cc

  further_whole : (o : Option (Progress V)) (body : Body V) → further o ≡ Some (Whole body) → ⊥
  further_whole None body e = cc
  further_whole (Some s) body e = cc

  further_none : (o : Option (Progress V)) → further o ≡ None → o ≡ None
  further_none None e = refl
  further_none (Some s) e = absurd cc

  whole_further : (o : Option (Body V)) (t : Progress V) → whole o ≡ Some (Further t) → ⊥
  whole_further None t e = cc
  whole_further (Some body) t e = cc

  whole_is : (o : Option (Body V)) (body : Body V) → whole o ≡ Some (Whole body) → o ≡ Some body
  whole_is None body e = absurd cc
  whole_is (Some b) body e = cc

  whole_none : (o : Option (Body V)) → whole o ≡ None → o ≡ None
  whole_none None e = refl
  whole_none (Some b) e = absurd cc

  goes_on : (s : Progress V) (x : Line V) (t : Progress V) → outcome N points numbers s x ≡ Some (Further t) →
      next N points numbers s x ≡ Some t
  goes_on s (At n p) t e = further_is _ t e
  goes_on s Unreachable t e = further_is _ t e
  goes_on s (Row x) t e = further_is _ t e
  goes_on s (Inv i) t e = further_is _ t e
  goes_on s (Asserted n b) t e = further_is _ t e
  goes_on s Last t e = absurd (whole_further _ t e)

  record IsEnd (s : Progress V) (x : Line V) (body : Body V) : Type 0 where
    last : x ≡ Last
    is : final points numbers s ≡ Some body

  ends_here : (s : Progress V) (x : Line V) (body : Body V) → outcome N points numbers s x ≡ Some (Whole body) →
      IsEnd s x body
  ends_here s Last body e = record { last = refl; is = whole_is _ body e }
  ends_here s (At n p) body e = absurd (further_whole _ body e)
  ends_here s Unreachable body e = absurd (further_whole _ body e)
  ends_here s (Row x) body e = absurd (further_whole _ body e)
  ends_here s (Inv i) body e = absurd (further_whole _ body e)
  ends_here s (Asserted n b) body e = absurd (further_whole _ body e)

  -- ---- what is read

  -- behind the lines so far the tokens taken are the other lines of the body
  record IsRest (s : Progress V) (ts : List Piece) (body : Body V) (rest : List Piece) : Type 0 where
    taken : List Piece
    lines : List (Line V)
    whole_is : ts ≡ taken ++ rest
    are : AreTexts Text taken lines
    of : lines_of body ≡ so_far s ++ lines
    is : IsBodyOf N points numbers body

  rest_taken : (n : ℕ) (s : Progress V) (ts : List Piece) (body : Body V) (rest : List Piece) →
      Good N points numbers s → reads_on n s ts ≡ Ok (body, rest) → IsRest s ts body rest
  unfolding body_from
  rest_taken zero s ts body rest g e = absurd cc
  rest_taken (suc n) s ts body rest g e =
      at (λ t us h q. rest_taken n t us body rest h q) (line_at kind R N names s.place ts) refl e
    where
      settle : ((t : Progress V) (us : List Piece) → Good N points numbers t → reads_on n t us ≡ Ok (body, rest) →
          IsRest t us body rest) → (x : Line V) (us : List Piece) → line_at kind R N names s.place ts ≡ Ok (x, us) →
          (o : Option (Outcome V)) → outcome N points numbers s x ≡ o →
          settled ts us o (reads_on n) ≡ Ok (body, rest) → IsRest s ts body rest
      settle later x us line None k q = absurd cc
      settle later x us line (Some (Further t)) k q =
          let one = goes_on s x t k in
          let st = step N points numbers s x t g one in
          let more = later t us st.good q in
          let l = (line_reads kind R N names s.place).takes ts x us line in
          record {
            taken = l.taken ++ more.taken;
            lines = x ∷ more.lines;
            whole_is = l.whole ∙ ap (λ (z : List Piece). l.taken ++ z) more.whole_is
                ∙ sym (append_assoc l.taken more.taken rest);
            are = (l.taken, more.taken, refl, placed_is kind R N names s.place l.taken x l.is, more.are);
            of = more.of ∙ ap (λ (z : List (Line V)). z ++ more.lines) st.lines
                ∙ append_assoc (so_far s) (x ∷ []) more.lines;
            is = more.is;
          }
      settle later x us line (Some (Whole b)) k q =
          let h = ends_here s x b k in
          let w = final_is N points numbers s b g h.is in
          let same = ok_same {T = Piece} {W = FaultKind} b body us rest q in
          let l = (line_reads kind R N names s.place).takes ts x us line in
          record {
            taken = l.taken;
            lines = Last ∷ [];
            whole_is = l.whole ∙ ap (λ (z : List Piece). l.taken ++ z) same.1;
            are = subst (λ (z : Line V). AreTexts Text l.taken (z ∷ [])) h.last
                (one_text Text l.taken x (placed_is kind R N names s.place l.taken x l.is));
            of = subst (λ (z : Body V). lines_of z ≡ so_far s ++ Last ∷ []) same.0 w.lines;
            is = subst (λ (z : Body V). IsBodyOf N points numbers z) same.0 w.is;
          }

      at : ((t : Progress V) (us : List Piece) → Good N points numbers t → reads_on n t us ≡ Ok (body, rest) →
          IsRest t us body rest) → (v : Reading Piece FaultKind (Line V)) → line_at kind R N names s.place ts ≡ v →
          on_line ts (outcome N points numbers s) v (reads_on n) ≡ Ok (body, rest) → IsRest s ts body rest
      at later (Err miss) line q = absurd cc
      at later (Ok x) line q = settle later x.0 x.1 line (outcome N points numbers s x.0) refl q

  body_takes : (ts : List Piece) (body : Body V) (rest : List Piece) →
      body_at kind R N names points numbers ts ≡ Ok (body, rest) →
      IsTaken (IsBody kind R N names points numbers) ts body rest
  unfolding body_at
  body_takes ts body rest e =
      let h = rest_taken (suc (length ts)) start ts body rest (start_good N points numbers) e in
      record {
        taken = h.taken;
        whole = h.whole_is;
        is = record {
          is = h.is;
          lines = subst (λ (z : List (Line V)). AreTexts Text h.taken z) (sym h.of) h.are;
        };
      }

  -- ---- what is spelled is read

  rest_read : (n : ℕ) (s : Progress V) (xs : List (Line V)) (to : Progress V) (us rest : List Piece) (body : Body V) →
      length xs < n → AreTexts Text us (xs ++ Last ∷ []) → progress N points numbers s xs ≡ Some to →
      final points numbers to ≡ Some body → reads_on n s (us ++ rest) ≡ Ok (body, rest)
  unfolding body_from progress
  rest_read zero s xs to us rest body le h e f = absurd (omega (arith, le))
  rest_read (suc n) s [] to us rest body le h e f =
      let same : s ≡ to = cc in
      let whole_is : us ++ rest ≡ h.0 ++ rest =
      ap (λ (z : List Piece). z ++ rest) (h.2 ∙ ap (λ (z : List Piece). h.0 ++ z) h.4 ∙ append-nil h.0) in
      let line = (line_reads kind R N names s.place).reads h.0 rest Last
      (line_placed kind R N names points numbers s h.0 Last h.3 (AsLast refl)) tt in
      let out : outcome N points numbers s Last ≡ Some (Whole body) =
      ap whole (ap (final points numbers) same ∙ f) in
      ap (λ v. on_line (us ++ rest) (outcome N points numbers s) v (reads_on n))
      (ap (line_at kind R N names s.place) whole_is ∙ line)
      ∙ ap (λ o. settled (us ++ rest) rest o (reads_on n)) out
  rest_read (suc n) s (x ∷ xs) to us rest body le h e f =
      let k = has_step N points numbers s x xs to e in
      let whole_is : us ++ rest ≡ h.0 ++ (h.1 ++ rest) =
      ap (λ (z : List Piece). z ++ rest) h.2 ∙ append_assoc h.0 h.1 rest in
      let line = (line_reads kind R N names s.place).reads h.0 (h.1 ++ rest) x
      (line_placed kind R N names points numbers s h.0 x h.3 (AsNext k.mid k.one)) tt in
      ap (λ v. on_line (us ++ rest) (outcome N points numbers s) v (reads_on n))
      (ap (line_at kind R N names s.place) whole_is ∙ line)
      ∙ ap (λ o. settled (us ++ rest) (h.1 ++ rest) o (reads_on n)) (next_further s x k.mid k.one)
      ∙ rest_read n k.mid xs to h.1 rest body (omega (arith, le)) h.4 k.others f

  body_reads : (us rest : List Piece) (body : Body V) → IsBody kind R N names points numbers us body →
      body_at kind R N names points numbers (us ++ rest) ≡ Ok (body, rest)
  unfolding body_at
  body_reads us rest body h =
      let t = body_taken N points numbers body h.is in
      let lines : AreTexts Text us (t.before ++ Last ∷ []) =
      subst (λ (z : List (Line V)). AreTexts Text us z) t.whole h.lines in
      let few = few_lines us (t.before ++ Last ∷ []) lines in
      let len = length-append t.before (Last ∷ []) in
      let more = length-append us rest in
      rest_read (suc (length (us ++ rest))) start t.before t.to us rest body (omega (arith, few, len, more)) lines
      t.taken t.final_is

  pub body_exact : Exact (body_at kind R N names points numbers) (IsBody kind R N names points numbers)
  body_exact = record { takes = body_takes; reads = body_reads }

  -- ---- where the reading stops

  -- no line is taken behind the last `end`
  none_behind : (xs ys : List (Line V)) (s t : Progress V) →
      progress N points numbers s (xs ++ Last ∷ ys) ≡ Some t → ⊥
  unfolding progress
  none_behind [] ys s t e = cc
  none_behind (x ∷ xs) ys s t e = let k = has_step N points numbers s x (xs ++ Last ∷ ys) t e in
      none_behind xs ys k.mid t k.others

  -- a front that is taken
  record HasFront (s : Progress V) (xs ys : List (Line V)) (t : Progress V) : Type 0 where
    mid : Progress V
    front_taken : progress N points numbers s xs ≡ Some mid
    others : progress N points numbers mid ys ≡ Some t

  has_front : (xs ys : List (Line V)) (s t : Progress V) → progress N points numbers s (xs ++ ys) ≡ Some t →
      HasFront s xs ys t
  unfolding progress
  has_front [] ys s t e = record { mid = s; front_taken = refl; others = e }
  has_front (x ∷ xs) ys s t e =
      let k = has_step N points numbers s x (xs ++ ys) t e in
      let h = has_front xs ys k.mid t k.others in
      record {
        mid = h.mid;
        front_taken = one_progress N points numbers s k.mid h.mid x xs k.one h.front_taken;
        others = h.others;
      }

  -- the lines before the last one
  data IsBefore (xs : List (Line V)) (x : Line V) (more before : List (Line V)) : Type 0 where
    IsLast : more ≡ [] → x ≡ Last → before ≡ xs → IsBefore xs x more before
    IsNotLast : (ys : List (Line V)) → before ≡ xs ++ x ∷ ys → IsBefore xs x more before

  cons_same : (x y : Line V) (xs ys : List (Line V)) → x ∷ xs ≡ y ∷ ys → (x ≡ y) × (xs ≡ ys)
  cons_same x y xs ys e = (cc, cc)

  no_front : (xs : List (Line V)) (y : Line V) (ys : List (Line V)) → [] ≡ xs ++ y ∷ ys → ⊥
  no_front [] y ys e = cc
  no_front (x ∷ xs) y ys e = cc

  where_last : (before xs : List (Line V)) (x : Line V) (more : List (Line V)) →
      before ++ Last ∷ [] ≡ xs ++ x ∷ more → IsBefore xs x more before
  where_last [] [] x more e = let k = cons_same Last x [] more e in IsLast (sym k.1) (sym k.0) refl
  where_last [] (y ∷ xs) x more e = let k = cons_same Last y [] (xs ++ x ∷ more) e in absurd (no_front xs x more k.1)
  where_last (b ∷ before) [] x more e =
      let k = cons_same b x (before ++ Last ∷ []) more e in
      IsNotLast before (ap (λ (z : Line V). z ∷ before) k.0)
  where_last (b ∷ before) (y ∷ xs) x more e =
      let k = cons_same b y (before ++ Last ∷ []) (xs ++ x ∷ more) e in
      deeper k.0 (where_last before xs x more k.1)
    where
      deeper : b ≡ y → IsBefore xs x more before → IsBefore (y ∷ xs) x more (b ∷ before)
      deeper q (IsLast none last is) = IsLast none last (λ i. q i ∷ is i)
      deeper q (IsNotLast ys is) = IsNotLast ys (λ i. q i ∷ is i)

  the_same : (s t : Progress V) → Some s ≡ Some t → s ≡ t
  the_same s t e = cc

  none_next : (s : Progress V) (x : Line V) → outcome N points numbers s x ≡ None → (t : Progress V) →
      next N points numbers s x ≡ Some t → ⊥
  none_next s x e t k = let q = sym e ∙ next_further s x t k in cc

  none_last : (s : Progress V) (x : Line V) → outcome N points numbers s x ≡ None → x ≡ Last → (body : Body V) →
      final points numbers s ≡ Some body → ⊥
  none_last s x e last body f =
      let k : outcome N points numbers s Last ≡ None = ap (outcome N points numbers s) (sym last) ∙ e in
      let q = sym k ∙ ap whole f in cc

  -- no body begins with lines of which the last comes to nothing
  begins_not : (xs : List (Line V)) (s : Progress V) (x : Line V) → progress N points numbers start xs ≡ Some s →
      outcome N points numbers s x ≡ None → BeginsBody N points numbers (xs ++ x ∷ []) → ⊥
  begins_not xs s x taken none b =
      let t = body_taken N points numbers b.body b.is in
      by t.to t.taken t.final_is (where_last t.before xs x b.more
      (sym t.whole ∙ b.lines ∙ append_assoc xs (x ∷ []) b.more))
    where
      by : {before : List (Line V)} (to : Progress V) → progress N points numbers start before ≡ Some to →
          final points numbers to ≡ Some b.body → IsBefore xs x b.more before → ⊥
      by to e f (IsLast nothing last is) =
          let same : to ≡ s = the_same to s (sym e ∙ ap (progress N points numbers start) is ∙ taken) in
          none_last s x none last b.body (ap (final points numbers) (sym same) ∙ f)
      by to e f (IsNotLast ys is) =
          let h = has_front xs (x ∷ ys) start to (ap (progress N points numbers start) (sym is) ∙ e) in
          let same : h.mid ≡ s = the_same h.mid s (sym h.front_taken ∙ taken) in
          let k = has_step N points numbers h.mid x ys to h.others in
          none_next s x none k.mid (ap (λ z. next N points numbers z x) (sym same) ∙ k.one)

  -- what stands before: the lines xs, which come to s
  record IsAt (ts us vs : List Piece) (xs : List (Line V)) (s : Progress V) : Type 0 where
    split : ts ≡ us ++ vs
    lines : AreTexts Text us xs
    taken : progress N points numbers start xs ≡ Some s
    good : Good N points numbers s
    are : so_far s ≡ xs

  more_at : (ts us vs : List Piece) (xs : List (Line V)) (s : Progress V) (ws rest : List Piece) (x : Line V)
      (t : Progress V) → IsAt ts us vs xs s → vs ≡ ws ++ rest → Text ws x → next N points numbers s x ≡ Some t →
      IsAt ts (us ++ ws) rest (xs ++ x ∷ []) t
  more_at ts us vs xs s ws rest x t h e line one =
      let st = step N points numbers s x t h.good one in
      record {
        split = h.split ∙ ap (λ (z : List Piece). us ++ z) e ∙ sym (append_assoc us ws rest);
        lines = texts_append Text us ws xs (x ∷ []) h.lines (one_text Text ws x line);
        taken = then_progress N points numbers xs (x ∷ []) start s t h.taken
            (one_progress N points numbers s t t x [] one (no_progress N points numbers t));
        good = st.good;
        are = st.lines ∙ ap (λ (z : List (Line V)). z ++ x ∷ []) h.are;
      }

  abbrev missed : Miss Piece FaultKind → Reading Piece FaultKind (Body V)
  missed m = Err m

  miss_is : (a b : Miss Piece FaultKind) → missed a ≡ missed b → a ≡ b
  miss_is a b e = cc

  line_against : (ts us vs : List Piece) (xs : List (Line V)) (s : Progress V) (x : Line V) (rest : List Piece)
      (miss : Miss Piece FaultKind) → IsAt ts us vs xs s → line_at kind R N names s.place vs ≡ Ok (x, rest) →
      outcome N points numbers s x ≡ None → against vs rest ≡ missed miss →
      IsBodyFault kind R N names points numbers ts miss.what miss.rest
  line_against ts us vs xs s x rest miss h line none e =
      let l = (line_reads kind R N names s.place).takes vs x rest line in
      let last = (line_ends kind R N names).at l.taken x (placed_is kind R N names s.place l.taken x l.is) in
      let n = last.is.0 in
      let taken : l.taken ≡ last.front ++ LineEnd n ∷ [] =
      last.whole ∙ ap (λ (z : Piece). last.front ++ z ∷ []) last.is.1 in
      let k = last_of vs l.taken last.front (LineEnd n) rest ReportFault miss l.whole taken
      (miss_is (record { what = ReportFault; rest = from_last vs rest }) miss e) in
      Against us last.front rest n xs s x (h.split ∙ ap (λ (z : List Piece). us ++ z) k.whole) h.lines h.taken
      (subst (λ (z : List Piece). IsPlacedLine kind R N names s.place z x) taken l.is)
      (subst (λ (z : List (Line V)). BeginsBody N points numbers z) h.are (begun_good N points numbers s h.good))
      (begins_not xs s x h.taken none) k.what_is k.left

  rest_stops : (n : ℕ) (ts us vs : List Piece) (xs : List (Line V)) (s : Progress V) (miss : Miss Piece FaultKind) →
      length vs < n → IsAt ts us vs xs s → reads_on n s vs ≡ Err miss →
      IsBodyFault kind R N names points numbers ts miss.what miss.rest
  unfolding body_from
  rest_stops zero ts us vs xs s miss le h e = absurd (omega (arith, le))
  rest_stops (suc n) ts us vs xs s miss le h e =
      at (λ ws rest ys t less k q. rest_stops n ts ws rest ys t miss less k q)
      (line_at kind R N names s.place vs) refl e
    where
      settle : ((ws rest : List Piece) (ys : List (Line V)) (t : Progress V) → length rest < n →
          IsAt ts ws rest ys t → reads_on n t rest ≡ Err miss →
          IsBodyFault kind R N names points numbers ts miss.what miss.rest) → (x : Line V) (rest : List Piece) →
          line_at kind R N names s.place vs ≡ Ok (x, rest) →
          (o : Option (Outcome V)) → outcome N points numbers s x ≡ o → settled vs rest o (reads_on n) ≡ Err miss →
          IsBodyFault kind R N names points numbers ts miss.what miss.rest
      settle later x rest line None k q = line_against ts us vs xs s x rest miss h line k q
      settle later x rest line (Some (Further t)) k q =
          let l = (line_reads kind R N names s.place).takes vs x rest line in
          let is = placed_is kind R N names s.place l.taken x l.is in
          let some = some_token kind R N names l.taken x is in
          let e1 = ap length l.whole in
          let e2 = length-append l.taken rest in
          later (us ++ l.taken) rest (xs ++ x ∷ []) t (omega (arith, le, some, e1, e2))
          (more_at ts us vs xs s l.taken rest x t h l.whole is (goes_on s x t k)) q
      settle later x rest line (Some (Whole b)) k q = absurd cc

      at : ((ws rest : List Piece) (ys : List (Line V)) (t : Progress V) → length rest < n →
          IsAt ts ws rest ys t → reads_on n t rest ≡ Err miss →
          IsBodyFault kind R N names points numbers ts miss.what miss.rest) →
          (v : Reading Piece FaultKind (Line V)) → line_at kind R N names s.place vs ≡ v →
          on_line vs (outcome N points numbers s) v (reads_on n) ≡ Err miss →
          IsBodyFault kind R N names points numbers ts miss.what miss.rest
      at later (Err m) line q =
          let same = miss_is m miss q in
          NoLine us vs xs s h.split h.lines h.taken (first_fault (line_reads kind R N names s.place) vs miss
          (line ∙ ap (λ (z : Miss Piece FaultKind). Err z) same))
      at later (Ok x) line q = settle later x.0 x.1 line (outcome N points numbers s x.0) refl q

  pub body_stops : (ts : List Piece) (miss : Miss Piece FaultKind) →
      body_at kind R N names points numbers ts ≡ Err miss →
      IsBodyFault kind R N names points numbers ts miss.what miss.rest
  unfolding body_at progress
  body_stops ts miss e = rest_stops (suc (length ts)) ts [] ts [] start miss (omega arith) (record {
    split = refl;
    lines = refl;
    taken = refl;
    good = start_good N points numbers;
    are = refl;
  }) e
