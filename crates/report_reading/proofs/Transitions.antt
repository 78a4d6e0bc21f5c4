-- What one line more comes to, by the cases of the reader.
use Rattle.std.proofs.Common.{◌≡◌, ◌<◌, ◌≤◌, ◌&&◌, ℕ, suc, Bool, true, false, cond, Option, Some, None, List, [], ◌∷◌, ◌++◌, length, refl, sym, ap, ◌∙◌, arith, eqb-true, lt-ltb, le-ltb}
use Rattle.std.specs.Prelude.{nat_eq, nat_lt, slice_get, Result, Ok, Err}
use Rattle.trop_theory.specs.Inequalities.{Inequality}
use Rattle.trop_text.specs.declared.fault.FaultKind.{FaultKind}
use Rattle.trop_text.specs.declared.fault.FaultKind.TheVariants.{Syntax, TooManyLines}
use Rattle.prog_theory.specs.Graph.{Point}
use Rattle.report_texts.specs.Limits.{most_lines}
use Rattle.report_texts.specs.Lines.{Block, Body, Judged}
use Rattle.report_texts.specs.Progress.{Place, Outside, Opened, Shut, InRows, InInvs, Judging, Progress, block, ending, is_label, is_number, moved, opened, judged, first_judged, shut, with_row, with_inv, may_row, may_inv, behind, after_at, after_assert, verdicts, complete, final}
use Rattle.report_reading.specs.Places.{open_place, judges}
use Rattle.report_reading.specs.Progress.{ended_in, more_judged, after_verdict}

few_true : (n : ℕ) → n < most_lines → nat_lt n most_lines ≡ true
few_true n h = lt-ltb n most_lines h

few_false : (n : ℕ) → most_lines ≤ n → nat_lt n most_lines ≡ false
few_false n h = le-ltb n most_lines h

-- what is said of one more line
abbrev word : Bool → Result (Unit {0}) FaultKind
word b = cond b (Ok tt) (Err TooManyLines)

module _ {V : Type 0} where
  -- ---- the block of the next point

  module _ (points : List Point) (blocks : List (Block V)) (n : ℕ) (p : Point) where
    abbrev led : Bool → Option (Progress V)
    led b = moved blocks (cond b (Some (Opened p)) None)

    pub opened_other : nat_eq n (length blocks) ≡ false → opened points blocks n p ≡ None
    opened_other e = ap (λ b. led (b && is_label p (slice_get points n))) e

    label_at : nat_eq n (length blocks) ≡ true → (b : Bool) → is_label p (slice_get points (length blocks)) ≡ b →
        is_label p (slice_get points n) ≡ b
    label_at e b h = ap (λ k. is_label p (slice_get points k)) (eqb-true n (length blocks) e) ∙ h

    pub opened_none : nat_eq n (length blocks) ≡ true → is_label p (slice_get points (length blocks)) ≡ false →
        opened points blocks n p ≡ None
    opened_none e h = ap (λ b. led (b && is_label p (slice_get points n))) e ∙ ap led (label_at e false h)

    pub opened_next : nat_eq n (length blocks) ≡ true → is_label p (slice_get points (length blocks)) ≡ true →
        opened points blocks n p ≡ Some (record { blocks = blocks; place = Opened p })
    opened_next e h = ap (λ b. led (b && is_label p (slice_get points n))) e ∙ ap led (label_at e true h)

  -- ---- verdicts

  module _ (points : List Point) (numbers : List ℕ) (blocks : List (Block V)) (n : ℕ) (b : Bool) where
    pub first_early : nat_eq (length blocks) (length points) ≡ false → first_judged points numbers blocks n b ≡ None
    first_early e = ap (λ c. moved blocks (cond c (judged numbers 0 (λ j. Judging j []) n b) None)) e

    pub first_none : nat_eq (length blocks) (length points) ≡ true → is_number n (slice_get numbers 0) ≡ false →
        first_judged points numbers blocks n b ≡ None
    first_none e h = ap (λ c. moved blocks (cond c (judged numbers 0 (λ j. Judging j []) n b) None)) e
        ∙ ap (λ c. moved blocks (cond c (Some (Judging (record { number = n; proved = b }) [])) None)) h

    pub first_next : nat_eq (length blocks) (length points) ≡ true → is_number n (slice_get numbers 0) ≡ true →
        first_judged points numbers blocks n b
        ≡ Some (record { blocks = blocks; place = Judging (record { number = n; proved = b }) [] })
    first_next e h = ap (λ c. moved blocks (cond c (judged numbers 0 (λ j. Judging j []) n b) None)) e
        ∙ ap (λ c. moved blocks (cond c (Some (Judging (record { number = n; proved = b }) [])) None)) h

  module _ (numbers : List ℕ) (blocks : List (Block V)) (j : Judged) (js : List Judged) (n : ℕ) (b : Bool) where
    abbrev further : Bool → Option (Progress V)
    further c = moved blocks (cond c (Some (Judging j (js ++ record { number = n; proved = b } ∷ []))) None)

    pub more_none : is_number n (slice_get numbers (suc (length js))) ≡ false →
        more_judged numbers blocks j js n b ≡ None
    more_none h = ap further h

    pub more_next : is_number n (slice_get numbers (suc (length js))) ≡ true →
        more_judged numbers blocks j js n b ≡ Some (record {
          blocks = blocks;
          place = Judging j (js ++ record { number = n; proved = b } ∷ []);
        })
    more_next h = ap further h

  -- ---- what is ended

  abbrev pub ended_body : List Judged → List (Block V) → Option (Body V)
  ended_body js bs = Some (record { blocks = bs; judged = js })

  behind_some : {B : Type 0} (blocks : List (Block V)) (o : Option (List (Block V))) (js : List Judged) (b : Body V)
      (f : List (Block V) → Option B) → Some b ≡ behind blocks o (ended_body js) → behind blocks o f ≡ f b.blocks
  behind_some blocks None js b f e = absurd cc
  behind_some blocks (Some es) js b f e =
      let k : b ≡ record { blocks = blocks ++ es; judged = js } = cc in
      ap (λ (z : Body V). f z.blocks) (sym k)

  behind_none : {B : Type 0} (blocks : List (Block V)) (o : Option (List (Block V))) (js : List Judged)
      (f : List (Block V) → Option B) → None ≡ behind blocks o (ended_body js) → behind blocks o f ≡ None
  behind_none blocks None js f e = refl
  behind_none blocks (Some es) js f e = absurd cc

  module _ (blocks : List (Block V)) where
    pub ended_outside : Some (record { blocks = blocks; judged = [] }) ≡ ended_in blocks Outside
    ended_outside = ap (λ (z : List (Block V)). Some (record { blocks = z; judged = [] })) (sym (append_nil blocks))
      where
        append_nil : (xs : List (Block V)) → xs ++ [] ≡ xs
        append_nil [] = refl
        append_nil (x ∷ xs) = ap (λ (z : List (Block V)). x ∷ z) (append_nil xs)

    pub ended_judging : (j : Judged) (js : List Judged) →
        Some (record { blocks = blocks; judged = j ∷ js }) ≡ ended_in blocks (Judging j js)
    ended_judging j js = ap (λ (z : List (Block V)). Some (record { blocks = z; judged = j ∷ js }))
        (sym (append_nil blocks))
      where
        append_nil : (xs : List (Block V)) → xs ++ [] ≡ xs
        append_nil [] = refl
        append_nil (x ∷ xs) = ap (λ (z : List (Block V)). x ∷ z) (append_nil xs)

    pub ended_open : (p : Point) (rows : List (List V)) (invs : List (Inequality V)) → (length rows ≡ 0 → ⊥) →
        Some (record { blocks = blocks ++ block p rows invs ∷ []; judged = [] })
        ≡ ended_in blocks (open_place p rows invs)
    ended_open p [] invs h = absurd (h refl)
    ended_open p (x ∷ rows) [] h = refl
    ended_open p (x ∷ rows) (i ∷ invs) h = refl

    pub ended_opened : (p : Point) (rows : List (List V)) (invs : List (Inequality V)) → length rows ≡ 0 →
        None ≡ ended_in blocks (open_place p rows invs)
    ended_opened p [] invs h = refl
    ended_opened p (x ∷ rows) invs h = absurd (omega (arith, h))

  -- ---- behind verdicts or not

  module _ (points : List Point) (blocks : List (Block V)) (n : ℕ) (p : Point) where
    pub at_judging : (place : Place V) → judges place ≡ true → after_at points blocks place n p ≡ None
    at_judging (Judging j js) e = refl
    at_judging Outside e = absurd cc
    at_judging (Opened q) e = absurd cc
    at_judging (Shut q) e = absurd cc
    at_judging (InRows q x rows) e = absurd cc
    at_judging (InInvs q x rows i invs) e = absurd cc

    at_other : (place : Place V) → judges place ≡ false →
        after_at points blocks place n p ≡ behind blocks (ending place) (λ bs. opened points bs n p)
    at_other (Judging j js) e = absurd cc
    at_other Outside e = refl
    at_other (Opened q) e = refl
    at_other (Shut q) e = refl
    at_other (InRows q x rows) e = refl
    at_other (InInvs q x rows i invs) e = refl

    pub at_some : (place : Place V) (b : Body V) → judges place ≡ false → Some b ≡ ended_in blocks place →
        after_at points blocks place n p ≡ opened points b.blocks n p
    at_some place b j e = at_other place j
        ∙ behind_some blocks (ending place) (verdicts place) b (λ bs. opened points bs n p) e

    pub at_none : (place : Place V) → judges place ≡ false → None ≡ ended_in blocks place →
        after_at points blocks place n p ≡ None
    at_none place j e = at_other place j
        ∙ behind_none blocks (ending place) (verdicts place) (λ bs. opened points bs n p) e

  module _ (points : List Point) (numbers : List ℕ) (blocks : List (Block V)) (n : ℕ) (b : Bool) where
    pub assert_judging : (place : Place V) → judges place ≡ true →
        after_assert points numbers blocks place n b ≡ after_verdict numbers blocks place n b
    assert_judging (Judging j js) e = refl
    assert_judging Outside e = absurd cc
    assert_judging (Opened q) e = absurd cc
    assert_judging (Shut q) e = absurd cc
    assert_judging (InRows q x rows) e = absurd cc
    assert_judging (InInvs q x rows i invs) e = absurd cc

    assert_other : (place : Place V) → judges place ≡ false → after_assert points numbers blocks place n b
        ≡ behind blocks (ending place) (λ bs. first_judged points numbers bs n b)
    assert_other (Judging j js) e = absurd cc
    assert_other Outside e = refl
    assert_other (Opened q) e = refl
    assert_other (Shut q) e = refl
    assert_other (InRows q x rows) e = refl
    assert_other (InInvs q x rows i invs) e = refl

    pub assert_some : (place : Place V) (body : Body V) → judges place ≡ false → Some body ≡ ended_in blocks place →
        after_assert points numbers blocks place n b ≡ first_judged points numbers body.blocks n b
    assert_some place body j e = assert_other place j
        ∙ behind_some blocks (ending place) (verdicts place) body (λ bs. first_judged points numbers bs n b) e

    pub assert_none : (place : Place V) → judges place ≡ false → None ≡ ended_in blocks place →
        after_assert points numbers blocks place n b ≡ None
    assert_none place j e = assert_other place j
        ∙ behind_none blocks (ending place) (verdicts place) (λ bs. first_judged points numbers bs n b) e

    pub verdict_open : (p : Point) (rows : List (List V)) (invs : List (Inequality V)) →
        after_verdict numbers blocks (open_place p rows invs) n b ≡ None
    verdict_open p [] invs = refl
    verdict_open p (x ∷ rows) [] = refl
    verdict_open p (x ∷ rows) (i ∷ invs) = refl

  -- ---- the last line

  module _ (points : List Point) (numbers : List ℕ) (js : List Judged) (bs : List (Block V)) where
    abbrev wholly : Bool → Option (Body V)
    wholly c = cond c (Some (record { blocks = bs; judged = js })) None

    pub complete_all : nat_eq (length bs) (length points) ≡ true → nat_eq (length js) (length numbers) ≡ true →
        complete points numbers js bs ≡ Some (record { blocks = bs; judged = js })
    complete_all h k = ap (λ c. wholly (c && nat_eq (length js) (length numbers))) h ∙ ap wholly k

    pub complete_early : nat_eq (length bs) (length points) ≡ false → complete points numbers js bs ≡ None
    complete_early h = ap (λ c. wholly (c && nat_eq (length js) (length numbers))) h

    pub complete_short : nat_eq (length bs) (length points) ≡ true → nat_eq (length js) (length numbers) ≡ false →
        complete points numbers js bs ≡ None
    complete_short h k = ap (λ c. wholly (c && nat_eq (length js) (length numbers))) h ∙ ap wholly k

  module _ (points : List Point) (numbers : List ℕ) (s : Progress V) where
    last_at : (o : Option (List (Block V))) (js : List Judged) (b : Body V) →
        Some b ≡ behind s.blocks o (ended_body js) →
        behind s.blocks o (complete points numbers js) ≡ complete points numbers b.judged b.blocks
    last_at None js b e = absurd cc
    last_at (Some es) js b e =
        let k : b ≡ record { blocks = s.blocks ++ es; judged = js } = cc in
        ap (λ (z : Body V). complete points numbers z.judged z.blocks) (sym k)

    pub last_some : (b : Body V) → Some b ≡ ended_in s.blocks s.place →
        final points numbers s ≡ complete points numbers b.judged b.blocks
    last_some b e = last_at (ending s.place) (verdicts s.place) b e

    pub last_none : None ≡ ended_in s.blocks s.place → final points numbers s ≡ None
    last_none e = behind_none s.blocks (ending s.place) (verdicts s.place)
        (complete points numbers (verdicts s.place)) e

  -- ---- in a block

  module _ (p : Point) where
    pub shut_first : (rows : List (List V)) (invs : List (Inequality V)) → length rows ≡ 0 →
        shut (open_place p rows invs) ≡ Some (Shut p)
    shut_first [] invs h = refl
    shut_first (x ∷ rows) invs h = absurd (omega (arith, h))

    pub shut_late : (rows : List (List V)) (invs : List (Inequality V)) → (length rows ≡ 0 → ⊥) →
        shut (open_place p rows invs) ≡ None
    shut_late [] invs h = absurd (h refl)
    shut_late (x ∷ rows) [] h = refl
    shut_late (x ∷ rows) (i ∷ invs) h = refl

    pub row_first : (y : List V) (rows : List (List V)) (invs : List (Inequality V)) → length rows ≡ 0 →
        with_row y (open_place p rows invs) ≡ Some (open_place p (y ∷ []) [])
    row_first y [] invs h = refl
    row_first y (x ∷ rows) invs h = absurd (omega (arith, h))

    pub row_more : (y : List V) (rows : List (List V)) (invs : List (Inequality V)) → (length rows ≡ 0 → ⊥) →
        length invs ≡ 0 → length rows < most_lines →
        with_row y (open_place p rows invs) ≡ Some (open_place p (rows ++ y ∷ []) invs)
    row_more y [] invs h k lt = absurd (h refl)
    row_more y (x ∷ rows) [] h k lt =
        ap (λ b. cond b (Some (InRows p x (rows ++ y ∷ []))) None) (few_true (suc (length rows)) lt)
    row_more y (x ∷ rows) (i ∷ invs) h k lt = absurd (omega (arith, k))

    pub row_late : (y : List V) (rows : List (List V)) (invs : List (Inequality V)) → (length rows ≡ 0 → ⊥) →
        (length invs ≡ 0 → ⊥) → with_row y (open_place p rows invs) ≡ None
    row_late y [] invs h k = absurd (h refl)
    row_late y (x ∷ rows) [] h k = absurd (k refl)
    row_late y (x ∷ rows) (i ∷ invs) h k = refl

    pub row_full : (y : List V) (rows : List (List V)) (invs : List (Inequality V)) → (length rows ≡ 0 → ⊥) →
        most_lines ≤ length rows → with_row y (open_place p rows invs) ≡ None
    row_full y [] invs h le = absurd (h refl)
    row_full y (x ∷ rows) [] h le =
        ap (λ b. cond b (Some (InRows p x (rows ++ y ∷ []))) None) (few_false (suc (length rows)) le)
    row_full y (x ∷ rows) (i ∷ invs) h le = refl

    pub inv_early : (j : Inequality V) (rows : List (List V)) (invs : List (Inequality V)) → length rows ≡ 0 →
        with_inv j (open_place p rows invs) ≡ None
    inv_early j [] invs h = refl
    inv_early j (x ∷ rows) invs h = absurd (omega (arith, h))

    pub inv_more : (j : Inequality V) (rows : List (List V)) (invs : List (Inequality V)) → (length rows ≡ 0 → ⊥) →
        length invs < most_lines → with_inv j (open_place p rows invs) ≡ Some (open_place p rows (invs ++ j ∷ []))
    inv_more j [] invs h lt = absurd (h refl)
    inv_more j (x ∷ rows) [] h lt = refl
    inv_more j (x ∷ rows) (i ∷ invs) h lt =
        ap (λ b. cond b (Some (InInvs p x rows i (invs ++ j ∷ []))) None) (few_true (suc (length invs)) lt)

    pub inv_full : (j : Inequality V) (rows : List (List V)) (invs : List (Inequality V)) → most_lines ≤ length invs →
        with_inv j (open_place p rows invs) ≡ None
    inv_full j [] invs le = refl
    inv_full j (x ∷ rows) [] le = absurd (omega (arith, le))
    inv_full j (x ∷ rows) (i ∷ invs) le =
        ap (λ b. cond b (Some (InInvs p x rows i (invs ++ j ∷ []))) None) (few_false (suc (length invs)) le)

    -- ---- which words may begin the next line

    pub may_row_first : (rows : List (List V)) (invs : List (Inequality V)) → length rows ≡ 0 →
        may_row (open_place p rows invs) ≡ Ok tt
    may_row_first [] invs h = refl
    may_row_first (x ∷ rows) invs h = absurd (omega (arith, h))

    pub may_row_late : (rows : List (List V)) (invs : List (Inequality V)) → (length rows ≡ 0 → ⊥) →
        (length invs ≡ 0 → ⊥) → may_row (open_place p rows invs) ≡ Err Syntax
    may_row_late [] invs h k = absurd (h refl)
    may_row_late (x ∷ rows) [] h k = absurd (k refl)
    may_row_late (x ∷ rows) (i ∷ invs) h k = refl

    pub may_row_more : (rows : List (List V)) (invs : List (Inequality V)) → length invs ≡ 0 →
        length rows < most_lines → may_row (open_place p rows invs) ≡ Ok tt
    may_row_more [] invs k lt = refl
    may_row_more (x ∷ rows) [] k lt = ap word (few_true (suc (length rows)) lt)
    may_row_more (x ∷ rows) (i ∷ invs) k lt = absurd (omega (arith, k))

    pub may_row_full : (rows : List (List V)) (invs : List (Inequality V)) → length invs ≡ 0 →
        most_lines ≤ length rows → may_row (open_place p rows invs) ≡ Err TooManyLines
    may_row_full [] invs k le = absurd (omega (arith, le))
    may_row_full (x ∷ rows) [] k le = ap word (few_false (suc (length rows)) le)
    may_row_full (x ∷ rows) (i ∷ invs) k le = absurd (omega (arith, k))

    pub may_inv_first : (rows : List (List V)) (invs : List (Inequality V)) → length rows ≡ 0 →
        may_inv (open_place p rows invs) ≡ Ok tt
    may_inv_first [] invs h = refl
    may_inv_first (x ∷ rows) invs h = absurd (omega (arith, h))

    pub may_inv_more : (rows : List (List V)) (invs : List (Inequality V)) → length invs < most_lines →
        may_inv (open_place p rows invs) ≡ Ok tt
    may_inv_more [] invs lt = refl
    may_inv_more (x ∷ rows) [] lt = refl
    may_inv_more (x ∷ rows) (i ∷ invs) lt = ap word (few_true (suc (length invs)) lt)

    pub may_inv_full : (rows : List (List V)) (invs : List (Inequality V)) → (length rows ≡ 0 → ⊥) →
        most_lines ≤ length invs → may_inv (open_place p rows invs) ≡ Err TooManyLines
    may_inv_full [] invs h le = absurd (h refl)
    may_inv_full (x ∷ rows) [] h le = absurd (omega (arith, le))
    may_inv_full (x ∷ rows) (i ∷ invs) h le = ap word (few_false (suc (length invs)) le)
