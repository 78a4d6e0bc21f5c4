-- The lines of each body are taken one after another, and what is taken so far begins some body.
-- Index: progress-append, body_taken, begins_good.
use Rattle.std.proofs.Common.{◌≡◌, ◌≤◌, ◌+◌, ◌&&◌, ℕ, suc, Bool, true, false, cond, Option, Some, None, List, [], ◌∷◌, ◌++◌, map, length, length-append, refl, sym, ap, subst, ◌∙◌, append_assoc, append-nil, arith, eq-eqb, lt-ltb}
use Rattle.std.specs.Prelude.{nat_eq, nat_lt, slice_get}
use Rattle.std.proofs.lemmas.List.{length-map, map-append}
use Rattle.trop_theory.specs.Numbers.{Numbering}
use Rattle.trop_theory.specs.Inequalities.{Inequality}
use Rattle.prog_theory.specs.Graph.{Point}
use Rattle.report_texts.specs.Limits.{most_lines}
use Rattle.report_texts.specs.Lines.{Line, At, Unreachable, Row, Inv, Last, Block, Body, Judged, Each, part_lines, blocks_lines, judged_line, lines_of, has_finite, IsPart, IsBodyOf, BeginsBody}
use Rattle.report_texts.specs.Progress.{Place, Outside, Opened, Shut, InRows, InInvs, Judging, Progress, start, block, ending, is_label, is_number, moved, opened, judged, first_judged, behind, after_at, after_assert, next, verdicts, complete, final, go_on, progress}
use Rattle.report_texts.proofs.Runs.{and_both, get_behind, same_is, Each-append, open_lines, so_far, is_judging, blocks-append, blocks_all}
use Rattle.report_texts.proofs.Steps.{points_in, numbers_in, here, PlaceOk, PartOk, Good, verdicts_none}

module _ {V : Type 0} (N : Numbering V) (points : List Point) (numbers : List ℕ) where
  pub progress-append : (xs ys : List (Line V)) (s : Progress V) → progress N points numbers s (xs ++ ys) ≡
      go_on (progress N points numbers s xs) (λ t. progress N points numbers t ys)
  unfolding progress
  progress-append [] ys s = refl
  progress-append (x ∷ xs) ys s = at (next N points numbers s x) (λ t. progress-append xs ys t)
    where
      at : (o : Option (Progress V)) → ((t : Progress V) → progress N points numbers t (xs ++ ys) ≡
          go_on (progress N points numbers t xs) (λ u. progress N points numbers u ys))
          → go_on o (λ t. progress N points numbers t (xs ++ ys)) ≡
          go_on (go_on o (λ t. progress N points numbers t xs)) (λ t. progress N points numbers t ys)
      at None more = refl
      at (Some t) more = more t

  pub then_progress : (xs ys : List (Line V)) (s t u : Progress V) → progress N points numbers s xs ≡ Some t →
      progress N points numbers t ys ≡ Some u → progress N points numbers s (xs ++ ys) ≡ Some u
  then_progress xs ys s t u e k = progress-append xs ys s
      ∙ ap (λ o. go_on o (λ t. progress N points numbers t ys)) e ∙ k

  pub one_progress : (s t u : Progress V) (x : Line V) (xs : List (Line V)) → next N points numbers s x ≡ Some t →
      progress N points numbers t xs ≡ Some u → progress N points numbers s (x ∷ xs) ≡ Some u
  unfolding progress
  one_progress s t u x xs e k = ap (λ o. go_on o (λ t. progress N points numbers t xs)) e ∙ k

  pub no_progress : (s : Progress V) → progress N points numbers s [] ≡ Some s
  unfolding progress
  no_progress s = refl

  -- ---- blocks

  -- these blocks are ended where the next line is that of a point, of an assert, or the last
  record IsReady (s : Progress V) (bs : List (Block V)) : Type 0 where
    ended : List (Block V)
    ends : ending s.place ≡ Some ended
    plain : is_judging s.place ≡ false
    are : s.blocks ++ ended ≡ bs

  at_next : (blocks : List (Block V)) (place : Place V) (ended : List (Block V)) (n : ℕ) (p : Point) →
      is_judging place ≡ false → ending place ≡ Some ended →
      after_at points blocks place n p ≡ opened points (blocks ++ ended) n p
  at_next blocks Outside ended n p j e = ap (λ o. behind blocks o (λ bs. opened points bs n p)) e
  at_next blocks (Opened q) ended n p j e = absurd cc
  at_next blocks (Shut q) ended n p j e = ap (λ o. behind blocks o (λ bs. opened points bs n p)) e
  at_next blocks (InRows q x rows) ended n p j e = ap (λ o. behind blocks o (λ bs. opened points bs n p)) e
  at_next blocks (InInvs q x rows i invs) ended n p j e = ap (λ o. behind blocks o (λ bs. opened points bs n p)) e
  at_next blocks (Judging w js) ended n p j e = absurd cc

  assert_next : (blocks : List (Block V)) (place : Place V) (ended : List (Block V)) (n : ℕ) (b : Bool) →
      is_judging place ≡ false → ending place ≡ Some ended →
      after_assert points numbers blocks place n b ≡ first_judged points numbers (blocks ++ ended) n b
  assert_next blocks Outside ended n b j e = ap (λ o. behind blocks o (λ bs. first_judged points numbers bs n b)) e
  assert_next blocks (Opened q) ended n b j e = absurd cc
  assert_next blocks (Shut q) ended n b j e = ap (λ o. behind blocks o (λ bs. first_judged points numbers bs n b)) e
  assert_next blocks (InRows q x rows) ended n b j e =
      ap (λ o. behind blocks o (λ bs. first_judged points numbers bs n b)) e
  assert_next blocks (InInvs q x rows i invs) ended n b j e =
      ap (λ o. behind blocks o (λ bs. first_judged points numbers bs n b)) e
  assert_next blocks (Judging w js) ended n b j e = absurd cc

  -- the next point's line
  at_taken : (s : Progress V) (bs : List (Block V)) (p : Point) (left : List Point) → IsReady s bs →
      points ≡ points_in bs ++ (p ∷ left) →
      next N points numbers s (At (length bs) p) ≡ Some (record { blocks = bs; place = Opened p })
  at_taken s bs p left r are =
      let len : length bs ≡ length (points_in bs) = sym (length-map bs (λ (b : Block V). b.point)) in
      let get : slice_get points (length bs) ≡ Some p =
      ap (λ (z : List Point). slice_get z (length bs)) are ∙ ap (slice_get (points_in bs ++ (p ∷ left))) len
      ∙ get_behind (points_in bs) p left in
      let test : (nat_eq (length bs) (length bs) && is_label p (slice_get points (length bs))) ≡ true =
      and_both _ _ (eq-eqb (length bs) (length bs) refl) (ap (is_label p) get ∙ same_is p) in
      at_next s.blocks s.place r.ended (length bs) p r.plain r.ends
      ∙ ap (λ (z : List (Block V)). opened points z (length bs) p) r.are
      ∙ ap (λ b. moved bs (cond b (Some (Opened p)) None)) test

  abbrev in_rows : List (Block V) → Point → List V → List (List V) → Progress V
  in_rows bs p x rows = record { blocks = bs; place = InRows p x rows }

  abbrev in_invs : List (Block V) → Point → List V → List (List V) → Inequality V → List (Inequality V) → Progress V
  in_invs bs p x rows i invs = record { blocks = bs; place = InInvs p x rows i invs }

  rows_taken : (bs : List (Block V)) (p : Point) (x : List V) (before more : List (List V)) →
      Each (λ y. has_finite N y ≡ true) more → suc (length before + length more) ≤ most_lines →
      progress N points numbers (in_rows bs p x before) (map Row more) ≡ Some (in_rows bs p x (before ++ more))
  rows_taken bs p x before [] f few = no_progress (in_rows bs p x before)
      ∙ ap (λ (z : List (List V)). Some (in_rows bs p x z)) (sym (append-nil before))
  rows_taken bs p x before (y ∷ more) f few =
      let len = length-append before (y ∷ []) in
      let lt : nat_lt (suc (length before)) most_lines ≡ true = lt-ltb (suc (length before)) most_lines
      (omega (arith, few)) in
      let one : next N points numbers (in_rows bs p x before) (Row y) ≡ Some (in_rows bs p x (before ++ y ∷ [])) =
      rw (f.0, lt) refl in
      one_progress (in_rows bs p x before) (in_rows bs p x (before ++ y ∷ [])) (in_rows bs p x (before ++ y ∷ more))
      (Row y) (map Row more) one
      (rows_taken bs p x (before ++ y ∷ []) more f.1 (omega (arith, few, len))
      ∙ ap (λ (z : List (List V)). Some (in_rows bs p x z)) (append_assoc before (y ∷ []) more))

  invs_taken : (bs : List (Block V)) (p : Point) (x : List V) (rows : List (List V)) (i : Inequality V)
      (before more : List (Inequality V)) → suc (length before + length more) ≤ most_lines →
      progress N points numbers (in_invs bs p x rows i before) (map Inv more) ≡
      Some (in_invs bs p x rows i (before ++ more))
  invs_taken bs p x rows i before [] few = no_progress (in_invs bs p x rows i before)
      ∙ ap (λ (z : List (Inequality V)). Some (in_invs bs p x rows i z)) (sym (append-nil before))
  invs_taken bs p x rows i before (k ∷ more) few =
      let len = length-append before (k ∷ []) in
      let lt : nat_lt (suc (length before)) most_lines ≡ true = lt-ltb (suc (length before)) most_lines
      (omega (arith, few)) in
      let one : next N points numbers (in_invs bs p x rows i before) (Inv k) ≡
      Some (in_invs bs p x rows i (before ++ k ∷ [])) = rw lt refl in
      one_progress (in_invs bs p x rows i before) (in_invs bs p x rows i (before ++ k ∷ []))
      (in_invs bs p x rows i (before ++ k ∷ more)) (Inv k) (map Inv more) one
      (invs_taken bs p x rows i (before ++ k ∷ []) more (omega (arith, few, len))
      ∙ ap (λ (z : List (Inequality V)). Some (in_invs bs p x rows i z)) (append_assoc before (k ∷ []) more))

  record IsTakenTo (s : Progress V) (xs : List (Line V)) (bs : List (Block V)) : Type 0 where
    to : Progress V
    taken : progress N points numbers s xs ≡ Some to
    ready : IsReady to bs

  -- the lines of a part
  part_taken : (bs : List (Block V)) (p : Point) (rows : List (List V)) (printed : List (Inequality V)) →
      IsPart N rows printed →
      IsTakenTo (record { blocks = bs; place = Opened p }) (part_lines rows printed) (bs ++ block p rows printed ∷ [])
  part_taken bs p [] printed h =
      let s : Progress V = record { blocks = bs; place = Opened p } in
      let t : Progress V = record { blocks = bs; place = Shut p } in
      record {
        to = t;
        taken = one_progress s t t Unreachable [] refl (no_progress t);
        ready = record {
          ended = block p [] [] ∷ [];
          ends = refl;
          plain = refl;
          are = ap (λ (z : List (Inequality V)). bs ++ block p [] z ∷ []) (sym (h.none refl));
        };
      }
  part_taken bs p (x ∷ rows) [] h =
      let s : Progress V = record { blocks = bs; place = Opened p } in
      let first : next N points numbers s (Row x) ≡ Some (in_rows bs p x []) = rw h.finite.0 refl in
      let le = h.rows_few in
      let more = rows_taken bs p x [] rows h.finite.1 (omega (arith, le)) in
      record {
        to = in_rows bs p x rows;
        taken = one_progress s (in_rows bs p x []) (in_rows bs p x rows) (Row x) (map Row rows ++ []) first
            (ap (progress N points numbers (in_rows bs p x [])) (append-nil (map Row rows)) ∙ more);
        ready = record { ended = block p (x ∷ rows) [] ∷ []; ends = refl; plain = refl; are = refl };
      }
  part_taken bs p (x ∷ rows) (i ∷ invs) h =
      let s : Progress V = record { blocks = bs; place = Opened p } in
      let first : next N points numbers s (Row x) ≡ Some (in_rows bs p x []) = rw h.finite.0 refl in
      let le = h.rows_few in
      let lf = h.printed_few in
      let more = rows_taken bs p x [] rows h.finite.1 (omega (arith, le)) in
      let behind_rows = one_progress (in_rows bs p x rows) (in_invs bs p x rows i []) (in_invs bs p x rows i invs)
      (Inv i)
      (map Inv invs) refl (invs_taken bs p x rows i [] invs (omega (arith, lf))) in
      record {
        to = in_invs bs p x rows i invs;
        taken = one_progress s (in_rows bs p x []) (in_invs bs p x rows i invs) (Row x)
            (map Row rows ++ map Inv (i ∷ invs)) first
            (then_progress (map Row rows) (map Inv (i ∷ invs)) (in_rows bs p x []) (in_rows bs p x rows)
            (in_invs bs p x rows i invs) more behind_rows);
        ready = record { ended = block p (x ∷ rows) (i ∷ invs) ∷ []; ends = refl; plain = refl; are = refl };
      }

  blocks_taken : (s : Progress V) (done bs : List (Block V)) → IsReady s done →
      points ≡ points_in done ++ points_in bs → Each (PartOk N) bs →
      IsTakenTo s (blocks_lines (length done) bs) (done ++ bs)
  blocks_taken s done [] r are h = record {
    to = s;
    taken = no_progress s;
    ready = subst (IsReady s) (sym (append-nil done)) r;
  }
  blocks_taken s done (b ∷ bs) r are h =
      let p = b.point in
      let opening : Progress V = record { blocks = done; place = Opened p } in
      let first = at_taken s done p (points_in bs) r are in
      let part = part_taken done p b.part.rows b.part.printed h.0 in
      let len : length (done ++ b ∷ []) ≡ suc (length done) = length-append done (b ∷ []) ∙ omega arith in
      let more = blocks_taken part.to (done ++ b ∷ []) bs part.ready
      (are ∙ sym (append_assoc (points_in done) (p ∷ []) (points_in bs))
      ∙ ap (λ (z : List Point). z ++ points_in bs) (sym (map-append (λ (c : Block V). c.point) done (b ∷ [])))) h.1 in
      let rest : progress N points numbers part.to (blocks_lines (suc (length done)) bs) ≡ Some more.to =
      ap (λ n. progress N points numbers part.to (blocks_lines n bs)) (sym len) ∙ more.taken in
      record {
        to = more.to;
        taken = one_progress s opening more.to (At (length done) p)
            (part_lines b.part.rows b.part.printed ++ blocks_lines (suc (length done)) bs) first
            (then_progress (part_lines b.part.rows b.part.printed) (blocks_lines (suc (length done)) bs) opening part.to
            more.to part.taken rest);
        ready = subst (IsReady more.to) (append_assoc done (b ∷ []) bs) more.ready;
      }

  -- ---- verdicts

  number_test : (n : ℕ) (o : Option ℕ) → o ≡ Some n → is_number n o ≡ true
  number_test n o e = ap (is_number n) e ∙ eq-eqb n n refl

  abbrev judging : List (Block V) → Judged → List Judged → Progress V
  judging bs w js = record { blocks = bs; place = Judging w js }

  judged_taken : (bs : List (Block V)) (w : Judged) (before more : List Judged) →
      numbers ≡ numbers_in (w ∷ before) ++ numbers_in more →
      progress N points numbers (judging bs w before) (map judged_line more) ≡ Some (judging bs w (before ++ more))
  judged_taken bs w before [] are = no_progress (judging bs w before)
      ∙ ap (λ (z : List Judged). Some (judging bs w z)) (sym (append-nil before))
  judged_taken bs w before (j ∷ more) are =
      let len : suc (length before) ≡ length (numbers_in (w ∷ before)) =
      ap suc (sym (length-map before (λ (j : Judged). j.number))) in
      let get : slice_get numbers (suc (length before)) ≡ Some j.number =
      ap (λ (z : List ℕ). slice_get z (suc (length before))) are
      ∙ ap (slice_get (numbers_in (w ∷ before) ++ numbers_in (j ∷ more))) len
      ∙ get_behind (numbers_in (w ∷ before)) j.number (numbers_in more) in
      let test = number_test j.number (slice_get numbers (suc (length before))) get in
      let one : next N points numbers (judging bs w before) (judged_line j) ≡ Some (judging bs w (before ++ j ∷ [])) =
      ap (λ b. moved bs (cond b (Some (Judging w (before ++ j ∷ []))) None)) test in
      one_progress (judging bs w before) (judging bs w (before ++ j ∷ [])) (judging bs w (before ++ j ∷ more))
      (judged_line j) (map judged_line more) one
      (judged_taken bs w (before ++ j ∷ []) more (are
      ∙ sym (append_assoc (numbers_in (w ∷ before)) (j.number ∷ []) (numbers_in more))
      ∙ ap (λ (z : List ℕ). (w.number ∷ z) ++ numbers_in more)
      (sym (map-append (λ (k : Judged). k.number) before (j ∷ []))))
      ∙ ap (λ (z : List Judged). Some (judging bs w z)) (append_assoc before (j ∷ []) more))

  -- the lines before the last are taken, and then the last may stand
  pub record IsBodyTaken (body : Body V) : Type 0 where
    pub before : List (Line V)
    pub whole : lines_of body ≡ before ++ Last ∷ []
    pub to : Progress V
    pub taken : progress N points numbers start before ≡ Some to
    pub final_is : final points numbers to ≡ Some body

  complete_taken : (js : List Judged) (bs : List (Block V)) → length bs ≡ length points → length js ≡ length numbers →
      complete points numbers js bs ≡ Some (record { blocks = bs; judged = js })
  complete_taken js bs p n =
      ap (λ b. cond b (Some (record { blocks = bs; judged = js })) None)
      (and_both _ _ (eq-eqb (length bs) (length points) p) (eq-eqb (length js) (length numbers) n))

  final_ready : (s : Progress V) (bs : List (Block V)) (js : List Judged) → IsReady s bs → verdicts s.place ≡ js →
      final points numbers s ≡ complete points numbers js bs
  final_ready s bs js r e = ap (λ o. behind s.blocks o (complete points numbers (verdicts s.place))) r.ends
      ∙ ap (λ (z : List Judged). complete points numbers z (s.blocks ++ r.ended)) e
      ∙ ap (complete points numbers js) r.are

  ready_start : IsReady start []
  ready_start = record { ended = []; ends = refl; plain = refl; are = refl }

  body_with : (bs : List (Block V)) (js : List Judged) → length bs ≡ length points → numbers_in js ≡ numbers →
      IsTakenTo start (blocks_lines 0 bs) bs → IsBodyTaken (record { blocks = bs; judged = js })
  body_with bs [] len same h =
      let none : length numbers ≡ 0 = sym (ap length same) in
      record {
        before = blocks_lines 0 bs;
        whole = refl;
        to = h.to;
        taken = h.taken;
        final_is = final_ready h.to bs [] h.ready (verdicts_none h.to.place h.ready.plain)
            ∙ complete_taken [] bs len (sym none);
      }
  body_with bs (w ∷ js) len same h =
      let count : length (w ∷ js) ≡ length numbers = sym (length-map (w ∷ js) (λ (j : Judged). j.number))
      ∙ ap length same in
      let get : slice_get numbers 0 ≡ Some w.number = ap (λ (z : List ℕ). slice_get z 0) (sym same) in
      let one : next N points numbers h.to (judged_line w) ≡ Some (judging bs w []) =
      assert_next h.to.blocks h.to.place h.ready.ended w.number w.proved h.ready.plain h.ready.ends
      ∙ ap (λ (z : List (Block V)). first_judged points numbers z w.number w.proved) h.ready.are
      ∙ ap (λ b. moved bs (cond b (judged numbers 0 (λ j. Judging j []) w.number w.proved) None))
      (eq-eqb (length bs) (length points) len)
      ∙ ap (λ b. moved bs (cond b (Some (Judging w [])) None)) (number_test w.number (slice_get numbers 0) get) in
      let more = judged_taken bs w [] js (sym same) in
      record {
        before = blocks_lines 0 bs ++ map judged_line (w ∷ js);
        whole = sym (append_assoc (blocks_lines 0 bs) (map judged_line (w ∷ js)) (Last ∷ []));
        to = judging bs w js;
        taken = then_progress (blocks_lines 0 bs) (map judged_line (w ∷ js)) start h.to (judging bs w js) h.taken
            (one_progress h.to (judging bs w []) (judging bs w js) (judged_line w) (map judged_line js) one more);
        final_is = ap (complete points numbers (w ∷ js)) (append-nil bs) ∙ complete_taken (w ∷ js) bs len count;
      }

  pub body_taken : (body : Body V) → IsBodyOf N points numbers body → IsBodyTaken body
  body_taken body h =
      let len : length body.blocks ≡ length points =
      sym (length-map body.blocks (λ (b : Block V). b.point)) ∙ ap length h.points_are in
      body_with body.blocks body.judged len h.numbers_are
      (blocks_taken start [] body.blocks ready_start (sym h.points_are) h.parts)

  -- ---- what is so far begins a body

  -- a block of an unreachable point
  abbrev dead : List Point → List (Block V)
  dead ps = map (λ p. block p [] []) ps

  dead_points : (ps : List Point) → points_in (dead ps) ≡ ps
  dead_points [] = refl
  dead_points (p ∷ ps) = ap (λ (z : List Point). p ∷ z) (dead_points ps)

  dead_part : IsPart N [] []
  dead_part = record { finite = tt; rows_few = omega arith; printed_few = omega arith; none = λ e. refl }

  dead_parts : (ps : List Point) → Each (PartOk N) (dead ps)
  dead_parts [] = tt
  dead_parts (p ∷ ps) = (dead_part, dead_parts ps)

  abbrev unknown : List ℕ → List Judged
  unknown ns = map (λ n. record { number = n; proved = false }) ns

  unknown_numbers : (ns : List ℕ) → numbers_in (unknown ns) ≡ ns
  unknown_numbers [] = refl
  unknown_numbers (n ∷ ns) = ap (λ (z : List ℕ). n ∷ z) (unknown_numbers ns)

  -- blocks that begin with the lines of the place
  record Ends (k : ℕ) (place : Place V) (cs : List (Block V)) : Type 0 where
    rest : List (Line V)
    lines : blocks_lines k cs ≡ open_lines k place ++ rest
    same : points_in cs ≡ here place
    parts : Each (PartOk N) cs

  begun_with : (blocks : List (Block V)) (place : Place V) (left : List Point) (cs : List (Block V)) →
      points ≡ points_in blocks ++ (here place ++ left) → Each (PartOk N) blocks →
      Ends (length blocks) place cs → BeginsBody N points numbers (so_far (record { blocks = blocks; place = place }))
  begun_with blocks place left cs are parts h =
      let k = length blocks in
      let all = blocks ++ (cs ++ dead left) in
      let tail = map judged_line (unknown numbers) ++ Last ∷ [] in
      let rest = h.rest ++ blocks_lines (k + length cs) (dead left) in
      let inner : blocks_lines k (cs ++ dead left) ≡ open_lines k place ++ rest =
      blocks-append k cs (dead left) ∙ ap (λ (z : List (Line V)). z ++ blocks_lines (k + length cs) (dead left)) h.lines
      ∙ append_assoc (open_lines k place) h.rest (blocks_lines (k + length cs) (dead left)) in
      record {
        body = record { blocks = all; judged = unknown numbers };
        more = rest ++ tail;
        is = record {
          points_are = map-append (λ (b : Block V). b.point) blocks (cs ++ dead left)
              ∙ ap (λ (z : List Point). points_in blocks ++ z) (map-append (λ (b : Block V). b.point) cs (dead left)
              ∙ ap (λ (z : List Point). z ++ points_in (dead left)) h.same
              ∙ ap (λ (z : List Point). here place ++ z) (dead_points left)) ∙ sym are;
          numbers_are = unknown_numbers numbers;
          parts = Each-append (PartOk N) blocks (cs ++ dead left) parts
              (Each-append (PartOk N) cs (dead left) h.parts (dead_parts left));
        };
        lines = ap (λ (z : List (Line V)). z ++ tail) (blocks_all blocks (cs ++ dead left)
            ∙ ap (λ (z : List (Line V)). blocks_lines 0 blocks ++ z) inner
            ∙ sym (append_assoc (blocks_lines 0 blocks) (open_lines k place) rest))
            ∙ append_assoc (blocks_lines 0 blocks ++ open_lines k place) rest tail;
      }

  begun_judging : (blocks : List (Block V)) (w : Judged) (js : List Judged) →
      Good N points numbers (judging blocks w js) → BeginsBody N points numbers (so_far (judging blocks w js))
  begun_judging blocks w js g =
      let owed = g.place.1 in
      let all = (w ∷ js) ++ unknown owed in
      let tail = map judged_line (unknown owed) ++ Last ∷ [] in
      record {
        body = record { blocks = blocks; judged = all };
        more = tail;
        is = record {
          points_are = sym (g.points_are ∙ ap (λ (z : List Point). points_in blocks ++ z) g.place.0
              ∙ append-nil (points_in blocks));
          numbers_are = map-append (λ (j : Judged). j.number) (w ∷ js) (unknown owed)
              ∙ ap (λ (z : List ℕ). numbers_in (w ∷ js) ++ z) (unknown_numbers owed) ∙ sym g.place.2;
          parts = g.parts;
        };
        lines = ap (λ (z : List (Line V)). blocks_lines 0 blocks ++ (z ++ Last ∷ []))
            (map-append judged_line (w ∷ js) (unknown owed))
            ∙ ap (λ (z : List (Line V)). blocks_lines 0 blocks ++ z)
            (append_assoc (map judged_line (w ∷ js)) (map judged_line (unknown owed)) (Last ∷ []))
            ∙ sym (append_assoc (blocks_lines 0 blocks) (map judged_line (w ∷ js)) tail);
      }

  ends_in : (k : ℕ) (place : Place V) (left : List Point) → PlaceOk N numbers left place → is_judging place ≡ false →
      (cs : List (Block V)) × Ends k place cs
  ends_in k Outside left ok j = ([], record { rest = []; lines = refl; same = refl; parts = tt })
  ends_in k (Opened p) left ok j = (
    block p [] [] ∷ [],
    record { rest = Unreachable ∷ []; lines = refl; same = refl; parts = (dead_part, tt) },
  )
  ends_in k (Shut p) left ok j = (
    block p [] [] ∷ [],
    record { rest = []; lines = refl; same = refl; parts = (dead_part, tt) },
  )
  ends_in k (InRows p x rows) left ok j = (
    block p (x ∷ rows) [] ∷ [],
    record {
      rest = [];
      lines = ap (λ (z : List (Line V)). At k p ∷ Row x ∷ (z ++ [])) (append-nil (map Row rows));
      same = refl;
      parts = (ok, tt);
    },
  )
  ends_in k (InInvs p x rows i invs) left ok j = (
    block p (x ∷ rows) (i ∷ invs) ∷ [],
    record { rest = []; lines = refl; same = refl; parts = (ok, tt) },
  )
  ends_in k (Judging w js) left ok j = absurd cc

  begun_any : (blocks : List (Block V)) (place : Place V) →
      Good N points numbers (record { blocks = blocks; place = place }) →
      BeginsBody N points numbers (so_far (record { blocks = blocks; place = place }))
  begun_any blocks (Judging w js) g = begun_judging blocks w js g
  begun_any blocks Outside g = let h = ends_in (length blocks) Outside g.left g.place refl in
      begun_with blocks Outside g.left h.0 g.points_are g.parts h.1
  begun_any blocks (Opened p) g = let h = ends_in (length blocks) (Opened p) g.left g.place refl in
      begun_with blocks (Opened p) g.left h.0 g.points_are g.parts h.1
  begun_any blocks (Shut p) g = let h = ends_in (length blocks) (Shut p) g.left g.place refl in
      begun_with blocks (Shut p) g.left h.0 g.points_are g.parts h.1
  begun_any blocks (InRows p x rows) g = let h = ends_in (length blocks) (InRows p x rows) g.left g.place refl in
      begun_with blocks (InRows p x rows) g.left h.0 g.points_are g.parts h.1
  begun_any blocks (InInvs p x rows i invs) g =
      let h = ends_in (length blocks) (InInvs p x rows i invs) g.left g.place refl in
      begun_with blocks (InInvs p x rows i invs) g.left h.0 g.points_are g.parts h.1

  pub begun_good : (s : Progress V) → Good N points numbers s → BeginsBody N points numbers (so_far s)
  begun_good s g = begun_any s.blocks s.place g
