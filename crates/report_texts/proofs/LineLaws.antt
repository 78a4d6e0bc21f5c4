-- The lines behind the program are read right.
-- Index: line_rest_reads, line_reads, line_ends, placed_is, line_placed, some_token.
use Rattle.std.proofs.Common.{◌≡◌, ◌<◌, ℕ, suc, Bool, true, cond, Some, List, [], ◌∷◌, ◌++◌, length, length-append, codes, Result, Ok, Err, refl, sym, ap, subst, ◌∙◌, arith}
use Rattle.std.specs.Prelude.{nat_lt}
use Rattle.trop_theory.specs.Semiring.{Semiring}
use Rattle.trop_theory.specs.Numbers.{Numbering}
use Rattle.trop_theory.specs.Inequalities.{Inequality}
use Rattle.trop_text.specs.Pieces.{Piece}
use Rattle.trop_text.specs.declared.fault.FaultKind.{FaultKind}
use Rattle.trop_text.specs.declared.fault.FaultKind.TheVariants.{Syntax, TooManyLines}
use Rattle.trop_grammar.specs.Grammar.{One, Then}
use Rattle.trop_grammar.specs.Lists.{Passes}
use Rattle.trop_grammar.specs.Reads.{Reads, Anything}
use Rattle.trop_grammar.proofs.Laws.{Reads-then, Reads-gives}
use Rattle.trop_grammar.proofs.ListLaws.{Reads-judged}
use Rattle.trop_grammar.proofs.Ends.{EndsWith, EndsWith-then, EndsWith-gives}
use Rattle.trop_reading.proofs.Samples.{sample, line_end_reads}
use Rattle.trop_spelling.specs.declared.ring_kind.RingKind.{RingKind}
use Rattle.trop_spelling.specs.Inequalities.{IsInequality}
use Rattle.trop_spelling.proofs.ElementLaws.{row_reads}
use Rattle.trop_spelling.proofs.InequalityLaws.{inequality_reads}
use Rattle.trop_spelling.specs.Parts.{IsRowLine, row_line_at}
use Rattle.prog_theory.specs.Graph.{Point, Statement, Inner}
use Rattle.report_texts.specs.Limits.{most_lines, greatest_entry, greatest_inv}
use Rattle.report_texts.specs.Lines.{Line, At, Unreachable, Row, Inv, Asserted, Last, has_finite}
use Rattle.report_texts.specs.Progress.{Place, Outside, Opened, Shut, InRows, InInvs, Judging, Progress, moved, shut, with_row, with_inv, may_shut, may_row, may_inv, few, next}
use Rattle.report_texts.specs.LineTexts.{Word, AtWord, ShutWord, RowWord, InvWord, AssertWord, EndWord, line_word, where_may, admitted, both, placed_word, Label, OfStatement, Alone, label_word, verdict_word, normalised, IsLabelRest, IsLineRest, IsLine, IsPlacedLine, label_rest_at, line_rest_at, line_at}
use Rattle.report_texts.proofs.Runs.{if_some, if_more, moved_is}
use Rattle.report_texts.proofs.HeadLaws.{digits_reads, IsLineEnd, ended_last}

label_rest_reads : (w : Label) → Reads Anything (label_rest_at w) (IsLabelRest w)
unfolding label_rest_at
label_rest_reads OfStatement = Reads-then digits_reads (λ k. Reads-gives (Statement k))
label_rest_reads (Alone p) = Reads-gives p

module _ {V : Type 0} (kind : RingKind) (R : Semiring V) (N : Numbering V) (names : List (List ℕ)) where
  row_line_reads : Reads Anything (row_line_at kind R N greatest_entry (length names))
      (IsRowLine kind R N greatest_entry (length names))
  unfolding row_line_at
  row_line_reads = Reads-then (row_reads R N greatest_entry kind (length names))
      (λ row. Reads-then line_end_reads (λ u. Reads-gives row))

  pub line_rest_reads : (w : Word V) → Reads Anything (line_rest_at kind R N names w) (IsLineRest kind R N names w)
  unfolding line_rest_at
  line_rest_reads AtWord =
      Reads-then digits_reads (λ n. Reads-then (Reads-judged Syntax label_word (sample (codes "inner"))
      (Alone Inner) refl)
      (λ w. Reads-then (label_rest_reads w) (λ p. Reads-then line_end_reads (λ u. Reads-gives (At n p)))))
  line_rest_reads ShutWord = Reads-then line_end_reads (λ u. Reads-gives Unreachable)
  line_rest_reads (RowWord c) = Reads-then row_line_reads
      (λ row. Reads-gives (Row (normalised R N (c ∷ row))))
  line_rest_reads InvWord = Reads-then (inequality_reads R N greatest_inv names kind) (λ i. Reads-gives (Inv i))
  line_rest_reads AssertWord =
      Reads-then digits_reads (λ n. Reads-then (Reads-judged Syntax verdict_word (sample (codes "proved")) true refl)
      (λ b. Reads-then line_end_reads (λ u. Reads-gives (Asserted n b))))
  line_rest_reads EndWord = Reads-then line_end_reads (λ u. Reads-gives Last)

  at_admitted : (place : Place V) → placed_word R place (sample (codes "at")) ≡ Ok AtWord
  unfolding line_word
  at_admitted place = refl

  pub line_reads : (place : Place V) →
      Reads Anything (line_at kind R N names place) (IsPlacedLine kind R N names place)
  unfolding line_at
  line_reads place = Reads-then (Reads-judged Syntax (placed_word R place) (sample (codes "at")) AtWord
      (at_admitted place))
      line_rest_reads

  -- ---- a line that may stand at a place is a line

  both_ok : {A : Type 0} (v : Result A FaultKind) (f : A → Result A FaultKind) (y : A) → both v f ≡ Ok y →
      (x : A) × (v ≡ Ok x) × (f x ≡ Ok y)
  both_ok (Ok x) f y e = (x, refl, e)
  both_ok (Err what) f y e = absurd cc

  may_same : {A : Type 0} (v : Result (Unit {0}) FaultKind) (x y : A) → where_may v x ≡ Ok y → x ≡ y
  may_same (Ok u) x y e = cc
  may_same (Err what) x y e = absurd cc

  admitted_same : (place : Place V) (w x : Word V) → admitted place w ≡ Ok x → w ≡ x
  admitted_same place AtWord x e = cc
  admitted_same place AssertWord x e = cc
  admitted_same place EndWord x e = cc
  admitted_same place ShutWord x e = may_same (may_shut place) ShutWord x e
  admitted_same place (RowWord c) x e = may_same (may_row place) (RowWord c) x e
  admitted_same place InvWord x e = may_same (may_inv place) InvWord x e

  -- the same text, by another judge of its first piece
  judged_by : {A B : Type 0} {J K : Piece → Result A FaultKind} {S : A → List Piece → B → Type 0} (us : List Piece)
      (x : B) (h : Then (One (Passes J)) S us x) → K h.first.token ≡ Ok h.value → Then (One (Passes K)) S us x
  judged_by us x h is = record {
    front = h.front;
    back = h.back;
    value = h.value;
    whole = h.whole;
    first = record { token = h.first.token; whole = h.first.whole; is = is };
    second = h.second;
  }

  pub placed_is : (place : Place V) (us : List Piece) (x : Line V) → IsPlacedLine kind R N names place us x →
      IsLine kind R N names us x
  placed_is place us x h =
      let k = both_ok (line_word R h.first.token) (admitted place) h.value h.first.is in
      judged_by us x h (k.1 ∙ ap Ok (admitted_same place k.0 h.value k.2))

  -- ---- a line that is taken may stand there

  module _ (points : List Point) (numbers : List ℕ) where
    may_shut_ok : (place to : Place V) → shut place ≡ Some to → may_shut place ≡ Ok tt
    may_shut_ok (Opened p) to e = refl
    may_shut_ok Outside to e = absurd cc
    may_shut_ok (Shut p) to e = absurd cc
    may_shut_ok (InRows p x rows) to e = absurd cc
    may_shut_ok (InInvs p x rows i invs) to e = absurd cc
    may_shut_ok (Judging v js) to e = absurd cc

    abbrev allowed : Bool → Result (Unit {0}) FaultKind
    allowed b = cond b (Ok tt) (Err TooManyLines)

    few_ok : (n : ℕ) → nat_lt n most_lines ≡ true → few n ≡ Ok tt
    few_ok n e = ap allowed e

    may_row_ok : (x : List V) (place to : Place V) → with_row x place ≡ Some to → may_row place ≡ Ok tt
    may_row_ok x (Opened p) to e = refl
    may_row_ok x (InRows p y rows) to e =
        few_ok (suc (length rows)) (if_some (nat_lt (suc (length rows)) most_lines)
        (InRows p y (rows ++ x ∷ [])) to e).0
    may_row_ok x Outside to e = absurd cc
    may_row_ok x (Shut p) to e = absurd cc
    may_row_ok x (InInvs p y rows i invs) to e = absurd cc
    may_row_ok x (Judging v js) to e = absurd cc

    may_inv_ok : (i : Inequality V) (place to : Place V) → with_inv i place ≡ Some to → may_inv place ≡ Ok tt
    may_inv_ok i (InRows p y rows) to e = refl
    may_inv_ok i (InInvs p y rows k invs) to e =
        few_ok (suc (length invs))
        (if_some (nat_lt (suc (length invs)) most_lines) (InInvs p y rows k (invs ++ i ∷ [])) to e).0
    may_inv_ok i Outside to e = absurd cc
    may_inv_ok i (Opened p) to e = absurd cc
    may_inv_ok i (Shut p) to e = absurd cc
    may_inv_ok i (Judging v js) to e = absurd cc

    -- the line is the last, or is taken
    pub data IsAccepted (s : Progress V) (x : Line V) : Type 0 where
      AsLast : x ≡ Last → IsAccepted s x
      AsNext : (t : Progress V) → next N points numbers s x ≡ Some t → IsAccepted s x

    word_admitted : (s : Progress V) (w : Word V) (us : List Piece) (x : Line V) → IsLineRest kind R N names w us x →
        IsAccepted s x → admitted s.place w ≡ Ok w
    word_admitted s AtWord us x h a = refl
    word_admitted s AssertWord us x h a = refl
    word_admitted s EndWord us x h a = refl
    word_admitted s ShutWord us x h (AsLast e) = let k : Unreachable ≡ Last = sym h.second.is ∙ e in absurd cc
    word_admitted s ShutWord us x h (AsNext t e) =
        let m = moved_is s.blocks (shut s.place) t
        (subst (λ (z : Line V). next N points numbers s z ≡ Some t) h.second.is e) in
        ap (λ v. where_may v ShutWord) (may_shut_ok s.place m.to m.place_is)
    word_admitted s (RowWord c) us x h (AsLast e) =
        let k : Row (normalised R N (c ∷ h.value)) ≡ Last = sym h.second.is ∙ e in absurd cc
    word_admitted s (RowWord c) us x h (AsNext t e) =
        let y = normalised R N (c ∷ h.value) in
        let q = if_more (has_finite N y) (moved s.blocks (with_row y s.place)) t
        (subst (λ (z : Line V). next N points numbers s z ≡ Some t) h.second.is e) in
        let m = moved_is s.blocks (with_row y s.place) t q.1 in
        ap (λ v. where_may v (RowWord c)) (may_row_ok y s.place m.to m.place_is)
    word_admitted s InvWord us x h (AsLast e) = let k : Inv h.value ≡ Last = sym h.second.is ∙ e in absurd cc
    word_admitted s InvWord us x h (AsNext t e) =
        let m = moved_is s.blocks (with_inv h.value s.place) t
        (subst (λ (z : Line V). next N points numbers s z ≡ Some t) h.second.is e) in
        ap (λ v. where_may v InvWord) (may_inv_ok h.value s.place m.to m.place_is)

    pub line_placed : (s : Progress V) (us : List Piece) (x : Line V) → IsLine kind R N names us x → IsAccepted s x →
        IsPlacedLine kind R N names s.place us x
    line_placed s us x h a = judged_by us x h
        (ap (λ v. both v (admitted s.place)) h.first.is ∙ word_admitted s h.value h.back x h.second a)

  -- ---- the ends of lines

  row_line_last : EndsWith IsLineEnd (IsRowLine kind R N greatest_entry (length names))
  row_line_last = EndsWith-then (λ row. ended_last row)

  inequality_last : EndsWith IsLineEnd (IsInequality kind R N greatest_inv names)
  inequality_last = EndsWith-then (λ start. EndsWith-then
      (λ p. EndsWith-then (λ turned. EndsWith-then (λ q. ended_last _))))

  line_rest_last : (w : Word V) → EndsWith IsLineEnd (IsLineRest kind R N names w)
  line_rest_last AtWord = EndsWith-then (λ n. EndsWith-then (λ w. EndsWith-then (λ p. ended_last (At n p))))
  line_rest_last ShutWord = ended_last Unreachable
  line_rest_last (RowWord c) = EndsWith-gives row_line_last
  line_rest_last InvWord = EndsWith-gives inequality_last
  line_rest_last AssertWord = EndsWith-then (λ n. EndsWith-then (λ b. ended_last (Asserted n b)))
  line_rest_last EndWord = ended_last Last

  pub line_ends : EndsWith IsLineEnd (IsLine kind R N names)
  line_ends = EndsWith-then line_rest_last

  pub some_token : (us : List Piece) (x : Line V) → IsLine kind R N names us x → 0 < length us
  some_token us x h =
      let l = line_ends.at us x h in
      let e = ap length l.whole in
      let k = length-append l.front (l.token ∷ []) in
      omega (arith, e, k)
