-- Each line that is taken stands behind the lines so far, and what they come to stays a beginning of a body.
-- Index: PlaceOk, Good, start_good, IsStep, step, progress_step, final_is.
use Rattle.std.proofs.Common.{◌≡◌, ◌&&◌, ℕ, suc, Bool, true, false, cond, Option, Some, None, List, [], ◌∷◌, ◌++◌, map, length, length-append, refl, sym, ap, subst, ◌∙◌, append_assoc, append-nil, arith, eqb-true, ltb-true}
use Rattle.std.specs.Prelude.{nat_eq, nat_lt, slice_get}
use Rattle.std.proofs.lemmas.List.{length-map, map-append}
use Rattle.trop_theory.specs.Numbers.{Numbering}
use Rattle.trop_theory.specs.Inequalities.{Inequality}
use Rattle.prog_theory.specs.Graph.{Point}
use Rattle.report_texts.specs.Limits.{most_lines}
use Rattle.report_texts.specs.Lines.{Line, At, Unreachable, Row, Inv, Asserted, Last, Block, Body, Judged, Each, blocks_lines, judged_line, lines_of, has_finite, IsPart, IsBodyOf}
use Rattle.report_texts.specs.Progress.{Place, Outside, Opened, Shut, InRows, InInvs, Judging, Progress, start, block, ending, is_label, is_number, moved, opened, judged, first_judged, shut, with_row, with_inv, behind, after_at, after_assert, next, verdicts, complete, final, go_on, progress}
use Rattle.report_texts.proofs.Runs.{and_parts, none_of, HasNext, next_is, Each-append, label_is, number_is, moved_is, if_some, if_more, open_lines, so_far, is_judging, so_far_ended}

abbrev pub points_in : {V : Type 0} → List (Block V) → List Point
points_in bs = map (λ b. b.point) bs

abbrev pub numbers_in : List Judged → List ℕ
numbers_in js = map (λ j. j.number) js

-- the point of a block that is not ended
abbrev pub here : {V : Type 0} → Place V → List Point
here Outside = []
here (Opened p) = p ∷ []
here (Shut p) = p ∷ []
here (InRows p x rows) = p ∷ []
here (InInvs p x rows i invs) = p ∷ []
here (Judging j js) = []

-- what is asked of a place, with the points to come
abbrev pub PlaceOk : {V : Type 0} → Numbering V → List ℕ → List Point → Place V → Type 0
PlaceOk N numbers left Outside = Unit {0}
PlaceOk N numbers left (Opened p) = Unit {0}
PlaceOk N numbers left (Shut p) = Unit {0}
PlaceOk N numbers left (InRows p x rows) = IsPart N (x ∷ rows) []
PlaceOk N numbers left (InInvs p x rows i invs) = IsPart N (x ∷ rows) (i ∷ invs)
PlaceOk N numbers left (Judging j js) = (left ≡ []) × (owed : List ℕ) × (numbers ≡ numbers_in (j ∷ js) ++ owed)

abbrev pub PartOk : {V : Type 0} → Numbering V → Block V → Type 0
PartOk N b = IsPart N b.part.rows b.part.printed

abbrev pub AreParts : {V : Type 0} → Numbering V → List (Block V) → Type 0
AreParts N bs = Each (PartOk N) bs

-- the lines so far begin a body
pub record Good {V : Type 0} (N : Numbering V) (points : List Point) (numbers : List ℕ) (s : Progress V) : Type 0 where
  pub left : List Point
  pub points_are : points ≡ points_in s.blocks ++ (here s.place ++ left)
  pub parts : AreParts N s.blocks
  pub place : PlaceOk N numbers left s.place

pub start_good : {V : Type 0} (N : Numbering V) (points : List Point) (numbers : List ℕ) →
    Good N points numbers (start {V = V})
start_good N points numbers = record { left = points; points_are = refl; parts = tt; place = tt }

-- ---- what a place ends

module _ {V : Type 0} where
  after_at_is : (points : List Point) (blocks : List (Block V)) (place : Place V) (n : ℕ) (p : Point) →
      is_judging place ≡ false →
      after_at points blocks place n p ≡ behind blocks (ending place) (λ bs. opened points bs n p)
  after_at_is points blocks Outside n p j = refl
  after_at_is points blocks (Opened q) n p j = refl
  after_at_is points blocks (Shut q) n p j = refl
  after_at_is points blocks (InRows q x rows) n p j = refl
  after_at_is points blocks (InInvs q x rows i invs) n p j = refl
  after_at_is points blocks (Judging v js) n p j = absurd cc

  after_assert_is : (points : List Point) (numbers : List ℕ) (blocks : List (Block V)) (place : Place V) (n : ℕ)
      (b : Bool) → is_judging place ≡ false → after_assert points numbers blocks place n b ≡
      behind blocks (ending place) (λ bs. first_judged points numbers bs n b)
  after_assert_is points numbers blocks Outside n b j = refl
  after_assert_is points numbers blocks (Opened q) n b j = refl
  after_assert_is points numbers blocks (Shut q) n b j = refl
  after_assert_is points numbers blocks (InRows q x rows) n b j = refl
  after_assert_is points numbers blocks (InInvs q x rows i invs) n b j = refl
  after_assert_is points numbers blocks (Judging v js) n b j = absurd cc

  pub verdicts_none : (place : Place V) → is_judging place ≡ false → verdicts place ≡ []
  verdicts_none Outside j = refl
  verdicts_none (Opened q) j = refl
  verdicts_none (Shut q) j = refl
  verdicts_none (InRows q x rows) j = refl
  verdicts_none (InInvs q x rows i invs) j = refl
  verdicts_none (Judging v js) j = absurd cc

  record IsBehind {B : Type 0} (blocks : List (Block V)) (o : Option (List (Block V)))
      (f : List (Block V) → Option B) (y : B) : Type 0 where
    ended : List (Block V)
    ends : o ≡ Some ended
    is : f (blocks ++ ended) ≡ Some y

  behind_is : {B : Type 0} (blocks : List (Block V)) (o : Option (List (Block V))) (f : List (Block V) → Option B)
      (y : B) → behind blocks o f ≡ Some y → IsBehind blocks o f y
  behind_is blocks None f y e = absurd cc
  behind_is blocks (Some ended) f y e = record { ended = ended; ends = refl; is = e }

  module _ (N : Numbering V) (points : List Point) (numbers : List ℕ) where
    unreached : (p : Point) → IsPart N [] []
    unreached p = record { finite = tt; rows_few = omega arith; printed_few = omega arith; none = λ e. refl }

    record IsEnded (bs : List (Block V)) (left : List Point) : Type 0 where
      points_are : points ≡ points_in bs ++ left
      parts : AreParts N bs

    one_more : (blocks bs : List (Block V)) (b : Block V) (left : List Point) → b ∷ [] ≡ bs → AreParts N blocks →
        points ≡ points_in blocks ++ (b.point ∷ left) → IsPart N b.part.rows b.part.printed →
        IsEnded (blocks ++ bs) left
    one_more blocks bs b left e parts points_are is = subst (λ z. IsEnded (blocks ++ z) left) e (record {
      points_are = points_are ∙ sym (append_assoc (points_in blocks) (b.point ∷ []) left)
          ∙ ap (λ (z : List Point). z ++ left) (sym (map-append (λ (c : Block V). c.point) blocks (b ∷ [])));
      parts = Each-append (PartOk N) blocks (b ∷ []) parts (is, tt);
    })

    the_list : (bs cs : List (Block V)) → Some bs ≡ Some cs → bs ≡ cs
    the_list bs cs e = cc

    ended_good : (blocks : List (Block V)) (place : Place V) (bs : List (Block V)) (left : List Point) →
        is_judging place ≡ false → ending place ≡ Some bs → AreParts N blocks → PlaceOk N numbers left place →
        points ≡ points_in blocks ++ (here place ++ left) → IsEnded (blocks ++ bs) left
    ended_good blocks Outside bs left j e parts ok are = subst (λ z. IsEnded (blocks ++ z) left) (the_list [] bs e)
        (subst (λ z. IsEnded z left) (sym (append-nil blocks)) (record { points_are = are; parts = parts }))
    ended_good blocks (Opened p) bs left j e parts ok are = absurd cc
    ended_good blocks (Shut p) bs left j e parts ok are = one_more blocks bs (block p [] []) left
        (the_list (block p [] [] ∷ []) bs e) parts are (unreached p)
    ended_good blocks (InRows p x rows) bs left j e parts ok are = one_more blocks bs (block p (x ∷ rows) []) left
        (the_list (block p (x ∷ rows) [] ∷ []) bs e) parts are ok
    ended_good blocks (InInvs p x rows i invs) bs left j e parts ok are =
        one_more blocks bs (block p (x ∷ rows) (i ∷ invs)) left
        (the_list (block p (x ∷ rows) (i ∷ invs) ∷ []) bs e) parts are ok
    ended_good blocks (Judging v js) bs left j e parts ok are = absurd cc

    -- ---- one line

    pub record IsStep (s : Progress V) (x : Line V) (t : Progress V) : Type 0 where
      pub good : Good N points numbers t
      pub lines : so_far t ≡ so_far s ++ x ∷ []

    -- the place alone changes
    record IsPlaceStep (k : ℕ) (place : Place V) (x : Line V) (to : Place V) : Type 0 where
      lines : open_lines k to ≡ open_lines k place ++ x ∷ []
      same : here to ≡ here place
      ok : (left : List Point) → PlaceOk N numbers left place → PlaceOk N numbers left to

    placed : (s : Progress V) (x : Line V) (to : Place V) (t : Progress V) → Good N points numbers s →
        t ≡ record { blocks = s.blocks; place = to } → IsPlaceStep (length s.blocks) s.place x to → IsStep s x t
    placed s x to t g e h = subst (IsStep s x) (sym e) (record {
      good = record {
        left = g.left;
        points_are = g.points_are ∙ ap (λ (z : List Point). points_in s.blocks ++ (z ++ g.left)) (sym h.same);
        parts = g.parts;
        place = h.ok g.left g.place;
      };
      lines = ap (λ (z : List (Line V)). blocks_lines 0 s.blocks ++ z) h.lines
          ∙ sym (append_assoc (blocks_lines 0 s.blocks) (open_lines (length s.blocks) s.place) (x ∷ []));
    })

    same_place : (a b : Place V) → Some a ≡ Some b → a ≡ b
    same_place a b e = cc

    step_to : (k : ℕ) (place : Place V) (x : Line V) (a b : Place V) → Some a ≡ Some b → IsPlaceStep k place x a →
        IsPlaceStep k place x b
    step_to k place x a b e h = subst (IsPlaceStep k place x) (same_place a b e) h

    shut_step : (k : ℕ) (place to : Place V) → shut place ≡ Some to → IsPlaceStep k place Unreachable to
    shut_step k (Opened p) to e = step_to k (Opened p) Unreachable (Shut p) to e
        (record { lines = refl; same = refl; ok = λ left h. tt })
    shut_step k Outside to e = absurd cc
    shut_step k (Shut p) to e = absurd cc
    shut_step k (InRows p x rows) to e = absurd cc
    shut_step k (InInvs p x rows i invs) to e = absurd cc
    shut_step k (Judging v js) to e = absurd cc

    first_row : (x : List V) → has_finite N x ≡ true → IsPart N (x ∷ []) []
    first_row x f = record {
      finite = (f, tt);
      rows_few = omega arith;
      printed_few = omega arith;
      none = λ e. absurd cc;
    }

    further_row : (y : List V) (rows : List (List V)) (x : List V) → has_finite N x ≡ true →
        nat_lt (suc (length rows)) most_lines ≡ true → IsPart N (y ∷ rows) [] → IsPart N (y ∷ (rows ++ x ∷ [])) []
    further_row y rows x f few h =
        let lt = ltb-true (suc (length rows)) most_lines few in
        let len = length-append rows (x ∷ []) in
        record {
          finite = (h.finite.0, Each-append (λ z. has_finite N z ≡ true) rows (x ∷ []) h.finite.1 (f, tt));
          rows_few = omega (arith, lt, len);
          printed_few = omega arith;
          none = λ e. absurd cc;
        }

    row_step : (k : ℕ) (x : List V) (place to : Place V) → has_finite N x ≡ true → with_row x place ≡ Some to →
        IsPlaceStep k place (Row x) to
    row_step k x (Opened p) to f e = step_to k (Opened p) (Row x) (InRows p x []) to e
        (record { lines = refl; same = refl; ok = λ left h. first_row x f })
    row_step k x (InRows p y rows) to f e =
        let q = if_some (nat_lt (suc (length rows)) most_lines) (InRows p y (rows ++ x ∷ [])) to e in
        step_to k (InRows p y rows) (Row x) (InRows p y (rows ++ x ∷ [])) to (ap Some q.1) (record {
          lines = ap (λ (z : List (Line V)). At k p ∷ Row y ∷ z) (map-append Row rows (x ∷ []));
          same = refl;
          ok = λ left h. further_row y rows x f q.0 h;
        })
    row_step k x Outside to f e = absurd cc
    row_step k x (Shut p) to f e = absurd cc
    row_step k x (InInvs p y rows i invs) to f e = absurd cc
    row_step k x (Judging v js) to f e = absurd cc

    first_inv : (y : List V) (rows : List (List V)) (i : Inequality V) → IsPart N (y ∷ rows) [] →
        IsPart N (y ∷ rows) (i ∷ [])
    first_inv y rows i h = record {
      finite = h.finite;
      rows_few = h.rows_few;
      printed_few = omega arith;
      none = λ e. absurd cc;
    }

    further_inv : (y : List V) (rows : List (List V)) (k : Inequality V) (invs : List (Inequality V)) (i : Inequality V)
        → nat_lt (suc (length invs)) most_lines ≡ true → IsPart N (y ∷ rows) (k ∷ invs) →
        IsPart N (y ∷ rows) (k ∷ (invs ++ i ∷ []))
    further_inv y rows k invs i few h =
        let lt = ltb-true (suc (length invs)) most_lines few in
        let len = length-append invs (i ∷ []) in
        record { finite = h.finite; rows_few = h.rows_few; printed_few = omega (arith, lt, len); none = λ e. absurd cc }

    inv_step : (k : ℕ) (i : Inequality V) (place to : Place V) → with_inv i place ≡ Some to →
        IsPlaceStep k place (Inv i) to
    inv_step k i (InRows p y rows) to e = step_to k (InRows p y rows) (Inv i) (InInvs p y rows i []) to e
        (record { lines = refl; same = refl; ok = λ left h. first_inv y rows i h })
    inv_step k i (InInvs p y rows m invs) to e =
        let q = if_some (nat_lt (suc (length invs)) most_lines) (InInvs p y rows m (invs ++ i ∷ [])) to e in
        step_to k (InInvs p y rows m invs) (Inv i) (InInvs p y rows m (invs ++ i ∷ [])) to (ap Some q.1) (record {
          lines = ap (λ (z : List (Line V)). At k p ∷ Row y ∷ (map Row rows ++ Inv m ∷ z))
              (map-append Inv invs (i ∷ []))
              ∙ ap (λ (z : List (Line V)). At k p ∷ Row y ∷ z)
              (sym (append_assoc (map Row rows) (Inv m ∷ map Inv invs) (Inv i ∷ [])));
          same = refl;
          ok = λ left h. further_inv y rows m invs i q.0 h;
        })
    inv_step k i Outside to e = absurd cc
    inv_step k i (Opened p) to e = absurd cc
    inv_step k i (Shut p) to e = absurd cc
    inv_step k i (Judging v js) to e = absurd cc

    at_index : (bs : List (Block V)) (left : List Point) (n : ℕ) (p : Point) → points ≡ points_in bs ++ left →
        n ≡ length bs → slice_get points n ≡ Some p → HasNext p left
    at_index bs left n p are e k =
        let len : n ≡ length (points_in bs) = e ∙ sym (length-map bs (λ (b : Block V). b.point)) in
        next_is (points_in bs) left p (sym (ap (slice_get (points_in bs ++ left)) len)
        ∙ ap (λ (z : List Point). slice_get z n) (sym are) ∙ k)

    at_step : (s : Progress V) (n : ℕ) (p : Point) (t : Progress V) → is_judging s.place ≡ false →
        Good N points numbers s → behind s.blocks (ending s.place) (λ bs. opened points bs n p) ≡ Some t →
        IsStep s (At n p) t
    at_step s n p t j g e =
        let b = behind_is s.blocks (ending s.place) (λ bs. opened points bs n p) t e in
        let bs = s.blocks ++ b.ended in
        let m = moved_is bs (cond (nat_eq n (length bs) && is_label p (slice_get points n)) (Some (Opened p)) None) t
        b.is in
        let q = if_some (nat_eq n (length bs) && is_label p (slice_get points n)) (Opened p) m.to m.place_is in
        let c = and_parts (nat_eq n (length bs)) (is_label p (slice_get points n)) q.0 in
        let k = eqb-true n (length bs) c.0 in
        let d = ended_good s.blocks s.place b.ended g.left j b.ends g.parts g.place g.points_are in
        let h = at_index bs g.left n p d.points_are k (label_is p (slice_get points n) c.1) in
        let to : t ≡ record { blocks = bs; place = Opened p } =
        m.is ∙ ap (λ (z : Place V). record { blocks = bs; place = z }) (sym q.1) in
        subst (IsStep s (At n p)) (sym to) (record {
          good = record {
            left = h.others;
            points_are = d.points_are ∙ ap (λ (z : List Point). points_in bs ++ z) h.is;
            parts = d.parts;
            place = tt;
          };
          lines = ap (λ (z : ℕ). blocks_lines 0 bs ++ At z p ∷ []) (sym k)
              ∙ ap (λ (z : List (Line V)). z ++ At n p ∷ []) (sym (so_far_ended s.blocks s.place b.ended j b.ends));
        })

    all_points : (bs : List (Block V)) (left : List Point) → points ≡ points_in bs ++ left →
        nat_eq (length bs) (length points) ≡ true → left ≡ []
    all_points bs left are e =
        let k = eqb-true (length bs) (length points) e in
        let l = length-append (points_in bs) left in
        let m = length-map bs (λ (b : Block V). b.point) in
        let n = ap length are in
        none_of left (omega (arith, k, l, m, n))

    first_step : (s : Progress V) (n : ℕ) (v : Bool) (t : Progress V) → is_judging s.place ≡ false →
        Good N points numbers s → behind s.blocks (ending s.place) (λ bs. first_judged points numbers bs n v) ≡ Some t
        → IsStep s (Asserted n v) t
    first_step s n v t j g e =
        let b = behind_is s.blocks (ending s.place) (λ bs. first_judged points numbers bs n v) t e in
        let bs = s.blocks ++ b.ended in
        let m = moved_is bs (cond (nat_eq (length bs) (length points))
        (judged numbers 0 (λ j. Judging j []) n v) None) t
        b.is in
        let a = if_more (nat_eq (length bs) (length points))
        (judged numbers 0 (λ j. Judging j []) n v) m.to m.place_is in
        let w : Judged = record { number = n; proved = v } in
        let q = if_some (is_number n (slice_get numbers 0)) (Judging w []) m.to a.1 in
        let d = ended_good s.blocks s.place b.ended g.left j b.ends g.parts g.place g.points_are in
        let h = next_is [] numbers n (number_is n (slice_get numbers 0) q.0) in
        let none = all_points bs g.left d.points_are a.0 in
        let to : t ≡ record { blocks = bs; place = Judging w [] } =
        m.is ∙ ap (λ (z : Place V). record { blocks = bs; place = z }) (sym q.1) in
        subst (IsStep s (Asserted n v)) (sym to) (record {
          good = record { left = g.left; points_are = d.points_are; parts = d.parts; place = (none, h.others, h.is) };
          lines = ap (λ (z : List (Line V)). z ++ Asserted n v ∷ [])
              (sym (so_far_ended s.blocks s.place b.ended j b.ends));
        })

    further_step : (blocks : List (Block V)) (w : Judged) (js : List Judged) (n : ℕ) (v : Bool) (t : Progress V) →
        Good N points numbers (record { blocks = blocks; place = Judging w js }) →
        moved blocks (judged numbers (suc (length js)) (λ k. Judging w (js ++ k ∷ [])) n v) ≡ Some t →
        IsStep (record { blocks = blocks; place = Judging w js }) (Asserted n v) t
    further_step blocks w js n v t g e =
        let m = moved_is blocks (judged numbers (suc (length js)) (λ k. Judging w (js ++ k ∷ [])) n v) t e in
        let u : Judged = record { number = n; proved = v } in
        let q = if_some (is_number n (slice_get numbers (suc (length js))))
        (Judging w (js ++ u ∷ [])) m.to m.place_is in
        let owed = g.place.1 in
        let k = number_is n (slice_get numbers (suc (length js))) q.0 in
        let len : suc (length js) ≡ length (numbers_in (w ∷ js)) = ap suc
        (sym (length-map js (λ (j : Judged). j.number))) in
        let h = next_is (numbers_in (w ∷ js)) owed n
        (sym (ap (slice_get (numbers_in (w ∷ js) ++ owed)) len)
        ∙ ap (λ (z : List ℕ). slice_get z (suc (length js))) (sym g.place.2) ∙ k) in
        let to : t ≡ record { blocks = blocks; place = Judging w (js ++ u ∷ []) } =
        m.is ∙ ap (λ (z : Place V). record { blocks = blocks; place = z }) (sym q.1) in
        subst (IsStep (record { blocks = blocks; place = Judging w js }) (Asserted n v)) (sym to) (record {
          good = record {
            left = g.left;
            points_are = g.points_are;
            parts = g.parts;
            place = (
              g.place.0,
              h.others,
              g.place.2 ∙ ap (λ (z : List ℕ). numbers_in (w ∷ js) ++ z) h.is
                  ∙ sym (append_assoc (numbers_in (w ∷ js)) (n ∷ []) h.others)
                  ∙ ap (λ (z : List ℕ). (w.number ∷ z) ++ h.others)
                  (sym (map-append (λ (j : Judged). j.number) js (u ∷ []))),
            );
          };
          lines = ap (λ (z : List (Line V)). blocks_lines 0 blocks ++ (judged_line w ∷ z))
              (map-append judged_line js (u ∷ []))
              ∙ sym (append_assoc (blocks_lines 0 blocks) (judged_line w ∷ map judged_line js) (Asserted n v ∷ []));
        })

    -- a place with verdicts or without
    by_place : (P : Place V → Type 0) → ((place : Place V) → is_judging place ≡ false → P place) →
        ((w : Judged) (js : List Judged) → P (Judging w js)) → (place : Place V) → P place
    by_place P f g Outside = f Outside refl
    by_place P f g (Opened p) = f (Opened p) refl
    by_place P f g (Shut p) = f (Shut p) refl
    by_place P f g (InRows p x rows) = f (InRows p x rows) refl
    by_place P f g (InInvs p x rows i invs) = f (InInvs p x rows i invs) refl
    by_place P f g (Judging w js) = g w js

    at_any : (blocks : List (Block V)) (place : Place V) (n : ℕ) (p : Point) (t : Progress V) →
        Good N points numbers (record { blocks = blocks; place = place }) →
        after_at points blocks place n p ≡ Some t →
        IsStep (record { blocks = blocks; place = place }) (At n p) t
    at_any blocks place n p t g e = by_place
        (λ z. Good N points numbers (record { blocks = blocks; place = z }) → after_at points blocks z n p ≡ Some t →
        IsStep (record { blocks = blocks; place = z }) (At n p) t)
        (λ z j g e. at_step (record { blocks = blocks; place = z }) n p t j g
        (sym (after_at_is points blocks z n p j) ∙ e)) (λ w js g e. absurd cc) place g e

    assert_any : (blocks : List (Block V)) (place : Place V) (n : ℕ) (v : Bool) (t : Progress V) →
        Good N points numbers (record { blocks = blocks; place = place }) →
        after_assert points numbers blocks place n v ≡ Some t →
        IsStep (record { blocks = blocks; place = place }) (Asserted n v) t
    assert_any blocks place n v t g e = by_place
        (λ z. Good N points numbers (record { blocks = blocks; place = z }) →
        after_assert points numbers blocks z n v ≡ Some t →
        IsStep (record { blocks = blocks; place = z }) (Asserted n v) t)
        (λ z j g e. first_step (record { blocks = blocks; place = z }) n v t j g
        (sym (after_assert_is points numbers blocks z n v j) ∙ e))
        (λ w js g e. further_step blocks w js n v t g e) place g e

    pub step : (s : Progress V) (x : Line V) (t : Progress V) → Good N points numbers s →
        next N points numbers s x ≡ Some t → IsStep s x t
    step s (At n p) t g e = at_any s.blocks s.place n p t g e
    step s Unreachable t g e = let m = moved_is s.blocks (shut s.place) t e in
        placed s Unreachable m.to t g m.is (shut_step (length s.blocks) s.place m.to m.place_is)
    step s (Row x) t g e =
        let q = if_more (has_finite N x) (moved s.blocks (with_row x s.place)) t e in
        let m = moved_is s.blocks (with_row x s.place) t q.1 in
        placed s (Row x) m.to t g m.is (row_step (length s.blocks) x s.place m.to q.0 m.place_is)
    step s (Inv i) t g e = let m = moved_is s.blocks (with_inv i s.place) t e in
        placed s (Inv i) m.to t g m.is (inv_step (length s.blocks) i s.place m.to m.place_is)
    step s (Asserted n v) t g e = assert_any s.blocks s.place n v t g e
    step s Last t g e = absurd cc

    -- ---- several lines

    pub record AreSteps (s : Progress V) (xs : List (Line V)) (t : Progress V) : Type 0 where
      pub good : Good N points numbers t
      pub lines : so_far t ≡ so_far s ++ xs

    pub record HasStep (s : Progress V) (x : Line V) (xs : List (Line V)) (t : Progress V) : Type 0 where
      pub mid : Progress V
      pub one : next N points numbers s x ≡ Some mid
      pub others : progress N points numbers mid xs ≡ Some t

    first_of : (o : Option (Progress V)) (f : Progress V → Option (Progress V)) (t : Progress V) → go_on o f ≡ Some t →
        (mid : Progress V) × (o ≡ Some mid) × (f mid ≡ Some t)
    first_of None f t e = absurd cc
    first_of (Some mid) f t e = (mid, refl, e)

    pub has_step : (s : Progress V) (x : Line V) (xs : List (Line V)) (t : Progress V) →
        progress N points numbers s (x ∷ xs) ≡ Some t → HasStep s x xs t
    unfolding progress
    has_step s x xs t e = let h = first_of (next N points numbers s x) (λ u. progress N points numbers u xs) t e in
        record { mid = h.0; one = h.1; others = h.2 }

    the_progress : (s t : Progress V) → Some s ≡ Some t → s ≡ t
    the_progress s t e = cc

    pub progress_step : (xs : List (Line V)) (s t : Progress V) → Good N points numbers s →
        progress N points numbers s xs ≡ Some t → AreSteps s xs t
    unfolding progress
    progress_step [] s t g e = subst (AreSteps s []) (the_progress s t e)
        (record { good = g; lines = sym (append-nil (so_far s)) })
    progress_step (x ∷ xs) s t g e =
        let h = has_step s x xs t e in
        let one = step s x h.mid g h.one in
        let more = progress_step xs h.mid t one.good h.others in
        record {
          good = more.good;
          lines = more.lines ∙ ap (λ (z : List (Line V)). z ++ xs) one.lines ∙ append_assoc (so_far s) (x ∷ []) xs;
        }

    -- ---- the last line

    pub record IsWhole (s : Progress V) (body : Body V) : Type 0 where
      pub is : IsBodyOf N points numbers body
      pub lines : lines_of body ≡ so_far s ++ Last ∷ []

    record IsComplete (js : List Judged) (bs : List (Block V)) (body : Body V) : Type 0 where
      all : nat_eq (length bs) (length points) ≡ true
      counted : nat_eq (length js) (length numbers) ≡ true
      is : record { blocks = bs; judged = js } ≡ body

    complete_is : (js : List Judged) (bs : List (Block V)) (body : Body V) → complete points numbers js bs ≡ Some body →
        IsComplete js bs body
    complete_is js bs body e =
        let q = if_some (nat_eq (length bs) (length points) && nat_eq (length js) (length numbers))
        (record { blocks = bs; judged = js }) body e in
        let c = and_parts (nat_eq (length bs) (length points)) (nat_eq (length js) (length numbers)) q.0 in
        record { all = c.0; counted = c.1; is = q.1 }

    all_numbers : (js : List Judged) (owed : List ℕ) → numbers ≡ numbers_in js ++ owed →
        nat_eq (length js) (length numbers) ≡ true → numbers_in js ≡ numbers
    all_numbers js owed are e =
        let k = eqb-true (length js) (length numbers) e in
        let l = length-append (numbers_in js) owed in
        let m = length-map js (λ (j : Judged). j.number) in
        let n = ap length are in
        let none = none_of owed (omega (arith, k, l, m, n)) in
        sym (are ∙ ap (λ (z : List ℕ). numbers_in js ++ z) none ∙ append-nil (numbers_in js))

    points_all : (bs : List (Block V)) (left : List Point) → points ≡ points_in bs ++ left → left ≡ [] →
        points_in bs ≡ points
    points_all bs left are none =
        sym (are ∙ ap (λ (z : List Point). points_in bs ++ z) none ∙ append-nil (points_in bs))

    plain_whole : (s : Progress V) (body : Body V) → is_judging s.place ≡ false → Good N points numbers s →
        final points numbers s ≡ Some body → IsWhole s body
    plain_whole s body j g e =
        let b = behind_is s.blocks (ending s.place) (complete points numbers (verdicts s.place)) body e in
        let bs = s.blocks ++ b.ended in
        let c = complete_is (verdicts s.place) bs body b.is in
        let none = verdicts_none s.place j in
        let d = ended_good s.blocks s.place b.ended g.left j b.ends g.parts g.place g.points_are in
        let same : record { blocks = bs; judged = [] } ≡ body =
        ap (λ (z : List Judged). record { blocks = bs; judged = z }) (sym none) ∙ c.is in
        let empty : numbers_in [] ≡ numbers = all_numbers [] numbers refl
        (subst (λ (z : List Judged). nat_eq (length z) (length numbers) ≡ true) none c.counted) in
        subst (IsWhole s) same (record {
          is = record {
            points_are = points_all bs g.left d.points_are (all_points bs g.left d.points_are c.all);
            numbers_are = empty;
            parts = d.parts;
          };
          lines = ap (λ (z : List (Line V)). z ++ Last ∷ []) (sym (so_far_ended s.blocks s.place b.ended j b.ends));
        })

    judged_whole : (blocks : List (Block V)) (w : Judged) (js : List Judged) (body : Body V) →
        Good N points numbers (record { blocks = blocks; place = Judging w js }) →
        final points numbers (record { blocks = blocks; place = Judging w js }) ≡ Some body →
        IsWhole (record { blocks = blocks; place = Judging w js }) body
    judged_whole blocks w js body g e =
        let c = complete_is (w ∷ js) (blocks ++ []) body e in
        let same : record { blocks = blocks; judged = w ∷ js } ≡ body =
        ap (λ (z : List (Block V)). record { blocks = z; judged = w ∷ js }) (sym (append-nil blocks)) ∙ c.is in
        subst (IsWhole (record { blocks = blocks; place = Judging w js })) same (record {
          is = record {
            points_are = points_all blocks g.left g.points_are g.place.0;
            numbers_are = all_numbers (w ∷ js) g.place.1 g.place.2 c.counted;
            parts = g.parts;
          };
          lines = sym (append_assoc (blocks_lines 0 blocks) (judged_line w ∷ map judged_line js) (Last ∷ []));
        })

    final_any : (blocks : List (Block V)) (place : Place V) (body : Body V) →
        Good N points numbers (record { blocks = blocks; place = place }) →
        final points numbers (record { blocks = blocks; place = place }) ≡ Some body →
        IsWhole (record { blocks = blocks; place = place }) body
    final_any blocks place body g e = by_place
        (λ z. Good N points numbers (record { blocks = blocks; place = z }) →
        final points numbers (record { blocks = blocks; place = z }) ≡ Some body →
        IsWhole (record { blocks = blocks; place = z }) body)
        (λ z j g e. plain_whole (record { blocks = blocks; place = z }) body j g e)
        (λ w js g e. judged_whole blocks w js body g e) place g e

    pub final_is : (s : Progress V) (body : Body V) → Good N points numbers s → final points numbers s ≡ Some body →
        IsWhole s body
    final_is s body g e = final_any s.blocks s.place body g e
