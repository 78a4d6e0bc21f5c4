-- From `Reads` to what a public reader promises, of a whole text or of a text at the front of its tokens.
use Rattle.std.proofs.Common.{◌≡◌, List, [], ◌∷◌, ◌++◌, Ok, Err, sym, ap, subst, ◌∙◌, append_assoc}
use Rattle.std.proofs.lemmas.List.{append-nil}
use Rattle.trop_grammar.specs.Reading.{Reading, Miss}
use Rattle.trop_grammar.specs.Grammar.{StartsWith}
use Rattle.trop_grammar.specs.Reads.{Reads, Anything, IsFirstFault}
use Rattle.trop_grammar.proofs.Ends.{EndsWith}

-- only the last token is one of P
pub record IsLastAlone {T : Type 0} (P : T → Type 0) (ts : List T) : Type 0 where
  pub at : (front : List T) (t : T) (rest : List T) → ts ≡ front ++ t ∷ rest → P t → rest ≡ []

module _ {T W A : Type 0} {r : List T → Reading T W A} {R : List T → A → Type 0} (h : Reads Anything r R) where
  -- a reader of texts that end with a token of P goes to the end
  pub left_none : {P : T → Type 0} → EndsWith P R → (ts : List T) → IsLastAlone P ts → (x : A) (rest : List T) →
      r ts ≡ Ok (x, rest) → rest ≡ []
  left_none ends ts alone x rest e =
      let t = h.takes ts x rest e in
      let l = ends.at t.taken x t.is in
      alone.at l.front l.token rest (t.whole ∙ ap (λ (z : List T). z ++ rest) l.whole
      ∙ append_assoc l.front (l.token ∷ []) rest) l.is

  -- what is read is spelled by the whole text
  pub found : {P : T → Type 0} → EndsWith P R → (ts : List T) → IsLastAlone P ts → (x : A) (rest : List T) →
      r ts ≡ Ok (x, rest) → R ts x
  found ends ts alone x rest e =
      let t = h.takes ts x rest e in
      let whole : t.taken ≡ ts = sym (t.whole ∙ ap (λ (z : List T). t.taken ++ z) (left_none ends ts alone x rest e)
      ∙ append-nil t.taken) in
      subst (λ (z : List T). R z x) whole t.is

  -- what is spelled is read, and nothing is left
  pub only : (ts : List T) (x : A) → R ts x → r ts ≡ Ok (x, [])
  only ts x k = ap r (sym (append-nil ts)) ∙ h.reads ts [] x k tt

  no_both : (ts : List T) (p : A × List T) (miss : Miss T W) → r ts ≡ Ok p → r ts ≡ Err miss → ⊥
  no_both ts p miss good bad = let e = sym good ∙ bad in cc

  -- where the reader stops is the first fault
  pub first_fault : (ts : List T) (miss : Miss T W) → r ts ≡ Err miss → IsFirstFault R ts miss.rest
  first_fault ts miss e =
      let k = h.stops ts miss e in
      record {
        before = k.before;
        whole = k.whole;
        begins = k.begins;
        stops = λ t others at begun.
            let good = only ((k.before ++ t ∷ []) ++ begun.more) begun.value begun.is in
            no_both (k.before ++ t ∷ begun.more) (begun.value, []) _
            (ap r (sym (append_assoc k.before (t ∷ []) begun.more)) ∙ good) (k.again t others begun.more at);
        spelled = λ x s. no_both ts (x, []) miss (only ts x s) e;
      }

  -- ---- a text at the front

  -- what is spelled at the front is read
  pub only_front : (ts : List T) (x : A) (s : StartsWith R ts x) → r ts ≡ Ok (x, s.back)
  only_front ts x s = ap r s.whole ∙ h.reads s.front s.back x s.is tt

  -- where the reader stops is the first fault
  pub first_fault_front : (ts : List T) (miss : Miss T W) → r ts ≡ Err miss → IsFirstFault (StartsWith R) ts miss.rest
  first_fault_front ts miss e =
      let k = h.stops ts miss e in
      record {
        before = k.before;
        whole = k.whole;
        begins = record {
          more = k.begins.more;
          value = k.begins.value;
          is =
              record {
                front = k.before ++ k.begins.more;
                back = [];
                whole = sym (append-nil (k.before ++ k.begins.more));
                is = k.begins.is;
              };
        };
        stops = λ t others at begun.
            let good = only_front ((k.before ++ t ∷ []) ++ begun.more) begun.value begun.is in
            no_both (k.before ++ t ∷ begun.more) (begun.value, begun.is.back) _
            (ap r (sym (append_assoc k.before (t ∷ []) begun.more)) ∙ good) (k.again t others begun.more at);
        spelled = λ x s. no_both ts (x, s.back) miss (only_front ts x s) e;
      }
