-- Lists are read right.
-- Index: Judges-passes, Reads-judged, AreParts, parts_of, Reads-list.
use Rattle.std.proofs.Common.{◌≡◌, ◌≤◌, ℕ, zero, suc, Bool, true, false, List, [], ◌∷◌, ◌++◌, length, Option, Some, None, Result, Ok, Err, refl, sym, ap, subst, ◌∙◌, append_assoc, arith}
use Rattle.std.proofs.lemmas.List.{append-nil}
use Rattle.trop_grammar.specs.Reading.{Reading, token_at, Next, More, Done}
use Rattle.trop_grammar.specs.Grammar.{One, Empty, Then, Until, Further}
use Rattle.trop_grammar.specs.Reads.{Reads, Anything, Judges}
use Rattle.trop_grammar.specs.Lists.{Passes, next_or_end, only_end, item_or_end, list_step, list_last, list_at, Item, EndsList, AreItems, Listed}
use Rattle.trop_grammar.proofs.Laws.{Reads-then, Reads-same, Reads-gives, Reads-token, Reads-until}

module _ {T W : Type 0} where
  -- a judge and the tokens that it lets pass
  pub Judges-passes : {A : Type 0} (judge : T → Result A W) (t : T) (x : A) → judge t ≡ Ok x →
      Judges judge (Passes judge)
  Judges-passes judge t x e = record { token = t; value = x; passes = e; to = λ u y h. h; from = λ u y h. h }

  pub Reads-judged : {A : Type 0} {E : List T → Type 0} (missing : W) (judge : T → Result A W) (t : T) (x : A) →
      judge t ≡ Ok x → Reads E (token_at missing judge) (One (Passes judge))
  Reads-judged missing judge t x e = Reads-token missing (Judges-passes judge t x e)

  -- what is asked of the parts of a list
  pub record AreParts {A C : Type 0} (start : List A → T → Result (Option C) W)
      (item : List A → C → List T → Reading T W A) (last : List A → T → Result (Unit {0}) W)
      (Rest : List A → C → List T → A → Type 0) : Type 0 where
    pub end : List A → T
    pub ends : (xs : List A) → start xs (end xs) ≡ Ok None
    pub reads : (xs : List A) (c : C) → Reads Anything (item xs c) (Rest xs c)
    pub last_to : (xs : List A) (t : T) (u : Unit {0}) → last xs t ≡ Ok u → start xs t ≡ Ok None
    pub last_from : (xs : List A) (t : T) → start xs t ≡ Ok None → last xs t ≡ Ok tt

end_only : {W C : Type 0} (e : Bool) (word : Result C W) (what : W) (u : Unit {0}) → only_end e what ≡ Ok u →
    next_or_end e word ≡ Ok None
end_only true word what u h = refl
end_only false word what u h = absurd cc

only_end_again : {W C : Type 0} (e : Bool) (word : Result C W) (what : W) → next_or_end e word ≡ Ok None →
    only_end e what ≡ Ok tt
only_end_again true word what h = refl
only_end_again false (Ok c) what h = absurd cc
only_end_again false (Err w) what h = absurd cc

module _ {T W A C : Type 0} where
  -- lists whose end is shown by the token alone
  pub parts_of : (ends : T → Bool) (judge : List A → T → Result C W) (past : T → W)
      (item : List A → C → List T → Reading T W A) (Rest : List A → C → List T → A → Type 0) (end : T) → ends end ≡ true
      → ((xs : List A) (c : C) → Reads Anything (item xs c) (Rest xs c)) →
      AreParts (λ xs t. next_or_end (ends t) (judge xs t)) item (λ xs t. only_end (ends t) (past t)) Rest
  parts_of ends judge past item Rest end e reads = record {
    end = λ xs. end;
    ends = λ xs. ap (λ b. next_or_end b (judge xs end)) e;
    reads = reads;
    last_to = λ xs t u h. end_only (ends t) (judge xs t) (past t) u h;
    last_from = λ xs t h. only_end_again (ends t) (judge xs t) (past t) h;
  }

module _ {T W A C : Type 0} (missing : W) (start : List A → T → Result (Option C) W)
    (item : List A → C → List T → Reading T W A) (last : List A → T → Result (Unit {0}) W)
    (Rest : List A → C → List T → A → Type 0) (parts : AreParts start item last Rest) where
  abbrev ItemOrEnd : List A → Option C → List T → Next (List A) (List A) → Type 0
  ItemOrEnd xs None = Empty (Done xs)
  ItemOrEnd xs (Some c) = Then (Rest xs c) (λ x. Empty (More (xs ++ x ∷ [])))

  abbrev Step : List A → List T → Next (List A) (List A) → Type 0
  Step xs = Then (One (Passes (start xs))) (ItemOrEnd xs)

  abbrev Last : List A → List T → List A → Type 0
  Last xs = Then (One (Passes (last xs))) (λ u. Empty xs)

  item_or_end_reads : (xs : List A) (o : Option C) → Reads Anything (item_or_end item xs o) (ItemOrEnd xs o)
  unfolding item_or_end
  item_or_end_reads xs None = Reads-gives (Done xs)
  item_or_end_reads xs (Some c) = Reads-then (parts.reads xs c) (λ x. Reads-gives (More (xs ++ x ∷ [])))

  step_reads : (xs : List A) → Reads Anything (list_step missing start item xs) (Step xs)
  unfolding list_step
  step_reads xs = Reads-then (Reads-judged missing (start xs) (parts.end xs) None (parts.ends xs))
      (item_or_end_reads xs)

  last_reads : (xs : List A) → Reads Anything (list_last missing last xs) (Last xs)
  unfolding list_last
  last_reads xs = Reads-then (Reads-judged missing (last xs) (parts.end xs) tt
      (parts.last_from xs (parts.end xs) (parts.ends xs))) (λ u. Reads-gives xs)

  -- the items behind `before`, with all of them as the value
  record ListedFrom (n : ℕ) (before : List A) (us : List T) (all : List A) : Type 0 where
    xs : List A
    is : all ≡ before ++ xs
    items : List T
    end : T
    whole : us ≡ items ++ end ∷ []
    are : AreItems (Item start Rest) before items xs
    ends : start (before ++ xs) end ≡ Ok None
    count : length xs ≤ n

  ended : (n : ℕ) (before : List A) (us vs ws : List T) (all : List A) (t : T) → start before t ≡ Ok None →
      us ≡ vs ++ ws → vs ≡ t ∷ [] → ws ≡ [] → all ≡ before → ListedFrom n before us all
  ended n before us vs ws all t e whole first none is = record {
    xs = [];
    is = is ∙ sym (append-nil before);
    items = [];
    end = t;
    whole = rw (whole, first, none) refl;
    are = refl;
    ends = ap (λ z. start z t) (append-nil before) ∙ e;
    count = omega arith;
  }

  -- what a step along the list is
  data StepIs (before : List A) (vs : List T) (next : Next (List A) (List A)) : Type 0 where
    AtEnd : (t : T) → vs ≡ t ∷ [] → start before t ≡ Ok None → next ≡ Done before → StepIs before vs next
    AtItem : (x : A) → Item start Rest before vs x → next ≡ More (before ++ x ∷ []) → StepIs before vs next

  step_at : (before : List A) (o : Option C) (vs fs bs : List T) (t : T) (next : Next (List A) (List A)) →
      vs ≡ fs ++ bs → fs ≡ t ∷ [] → start before t ≡ Ok o → ItemOrEnd before o bs next → StepIs before vs next
  step_at before None vs fs bs t next whole first e h = AtEnd t (rw (whole, first, h.none) refl) e h.is
  step_at before (Some c) vs fs bs t next whole first e h =
      AtItem h.value (record {
        front = fs;
        back = h.front;
        value = c;
        whole = whole ∙ ap (λ (z : List T). fs ++ z)
            (h.whole ∙ ap (λ (z : List T). h.front ++ z) h.second.none ∙ append-nil h.front);
        first = record { token = t; whole = first; is = e };
        second = h.first;
      }) h.second.is

  step_is : (before : List A) (vs : List T) (next : Next (List A) (List A)) → Step before vs next →
      StepIs before vs next
  step_is before vs next h = step_at before h.value vs h.front h.back h.first.token next h.whole h.first.whole
      h.first.is h.second

  further_to : (n : ℕ) (before : List A) (us vs ws : List T) (all : List A) (next : Next (List A) (List A)) →
      ((x : A) → Until Step Last n (before ++ x ∷ []) ws all → ListedFrom n (before ++ x ∷ []) ws all) → us ≡ vs ++ ws →
      StepIs before vs next → Further (Until Step Last n) next ws all → ListedFrom (suc n) before us all
  further_to n before us vs ws all next rec whole (AtEnd t first e is) h =
      let k = subst (λ z. Further (Until Step Last n) z ws all) is h in
      ended (suc n) before us vs ws all t e whole first k.none k.is
  further_to n before us vs ws all next rec whole (AtItem x item_is is) h =
      let k = rec x (subst (λ z. Further (Until Step Last n) z ws all) is h) in
      record {
        xs = x ∷ k.xs;
        is = k.is ∙ append_assoc before (x ∷ []) k.xs;
        items = vs ++ k.items;
        end = k.end;
        whole = whole ∙ ap (λ (z : List T). vs ++ z) k.whole ∙ sym (append_assoc vs k.items (k.end ∷ []));
        are = (vs, k.items, refl, item_is, k.are);
        ends = ap (λ z. start z k.end) (sym (append_assoc before (x ∷ []) k.xs)) ∙ k.ends;
        count = omega (arith, k.count);
      }

  until_to : (n : ℕ) (before : List A) (us : List T) (all : List A) → Until Step Last n before us all →
      ListedFrom n before us all
  unfolding Until
  until_to zero before us all h = ended zero before us h.front h.back all h.first.token
      (parts.last_to before h.first.token h.value h.first.is) h.whole h.first.whole h.second.none h.second.is
  until_to (suc n) before us all h = further_to n before us h.front h.back all h.value
      (λ x. until_to n (before ++ x ∷ []) h.back all) h.whole (step_is before h.front h.value h.first) h.second

  until_from : (n : ℕ) (before : List A) (us : List T) (all xs : List A) (items : List T) (end : T) →
      all ≡ before ++ xs → us ≡ items ++ end ∷ [] → AreItems (Item start Rest) before items xs →
      start (before ++ xs) end ≡ Ok None → length xs ≤ n → Until Step Last n before us all
  unfolding Until
  until_from zero before us all [] items end is whole are ends count = record {
    front = end ∷ [];
    back = [];
    value = tt;
    whole = rw (whole, are) refl;
    first = record {
      token = end;
      whole = refl;
      is =
          parts.last_from before end (ap (λ z. start z end) (sym (append-nil before)) ∙ ends);
    };
    second = record { none = refl; is = is ∙ append-nil before };
  }
  until_from zero before us all (x ∷ xs) items end is whole are ends count = absurd (omega (arith, count))
  until_from (suc n) before us all [] items end is whole are ends count = record {
    front = end ∷ [];
    back = [];
    value = Done before;
    whole = rw (whole, are) refl;
    first = record {
      front = end ∷ [];
      back = [];
      value = None;
      whole = refl;
      first = record { token = end; whole = refl; is = ap (λ z. start z end) (sym (append-nil before)) ∙ ends };
      second = record { none = refl; is = refl };
    };
    second = record { none = refl; is = is ∙ append-nil before };
  }
  until_from (suc n) before us all (x ∷ xs) items end is whole are ends count =
      let line = are.3 in
      let vs = are.0 in
      let ws = are.1 in
      record {
        front = vs;
        back = ws ++ end ∷ [];
        value = More (before ++ x ∷ []);
        whole = whole ∙ ap (λ (z : List T). z ++ end ∷ []) are.2 ∙ append_assoc vs ws (end ∷ []);
        first = record {
          front = line.front;
          back = line.back;
          value = Some line.value;
          whole = line.whole;
          first = record { token = line.first.token; whole = line.first.whole; is = line.first.is };
          second = record {
            front = line.back;
            back = [];
            value = x;
            whole = sym (append-nil line.back);
            first =
                line.second;
            second = record { none = refl; is = refl };
          };
        };
        second = until_from n (before ++ x ∷ []) (ws ++ end ∷ []) all xs ws end
            (is ∙ sym (append_assoc before (x ∷ []) xs)) refl are.4
            (ap (λ z. start z end) (append_assoc before (x ∷ []) xs) ∙ ends) (omega (arith, count));
      }

  pub Reads-list : (n : ℕ) → Reads Anything (list_at missing start item last n [])
      (Listed (Item start Rest) (EndsList start) n)
  unfolding list_at
  Reads-list n = Reads-same
      (λ us all h. let k = until_to n [] us all h in
      let e : all ≡ k.xs = k.is in
      record {
        items = k.items;
        end = k.end;
        whole = k.whole;
        are =
            subst (λ z. AreItems (Item start Rest) [] k.items z) (sym e) k.are;
        ends = ap (λ z. start z k.end) e ∙ k.ends;
        count = subst (λ z. length z ≤ n) (sym e) k.count;
      })
      (λ us all h. until_from n [] us all all h.items h.end refl h.whole h.are h.ends h.count)
      (Reads-until step_reads last_reads n [])
