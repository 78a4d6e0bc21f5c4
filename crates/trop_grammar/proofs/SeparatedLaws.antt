-- Lists with separators are read right.
-- Index: AreSeparators, step-shorter, separated-step, Reads-separated.
use Rattle.std.proofs.Common.{◌≡◌, ◌≤◌, ◌<◌, ◌+◌, ℕ, zero, suc, Bool, true, false, List, [], ◌∷◌, ◌++◌, length, Result, Ok, Err, refl, sym, ap, subst, ◌∙◌, append_assoc, arith, length-append}
use Rattle.std.proofs.lemmas.List.{append-nil, append_cancel_right}
use Rattle.trop_grammar.specs.Reading.{Reading, Miss, Next, More, Done, go_on, go_further, read_then, until_at, token_at}
use Rattle.trop_grammar.specs.Grammar.{One, Empty, Then, Until, Further}
use Rattle.trop_grammar.specs.Reads.{Reads, Anything, IsTaken, IsStop}
use Rattle.trop_grammar.specs.Lists.{Passes, next_of, separated_step, separated_last, separated_from, separated_at, AreSeparated, Separated}
use Rattle.trop_grammar.proofs.Laws.{Reads-bind, Reads-then, Reads-same, Reads-gives, Reads-until}
use Rattle.trop_grammar.proofs.ListLaws.{Reads-judged}

-- what is asked of the parts of a list with separators
pub record AreSeparators {T W A : Type 0} (E : List T → Type 0) (item : List T → Reading T W A)
    (between : T → Result Bool W) (close : T → Result (Unit {0}) W) (Line : List T → A → Type 0) : Type 0 where
  pub end : T
  pub ends : between end ≡ Ok false
  pub reads : Reads E item Line
  pub fits : (t : T) (more : Bool) (rest : List T) → between t ≡ Ok more → E (t ∷ rest)
  pub close_to : (t : T) (u : Unit {0}) → close t ≡ Ok u → between t ≡ Ok false
  pub close_from : (t : T) → between t ≡ Ok false → close t ≡ Ok tt

module _ {T W A : Type 0} (missing : W) (E : List T → Type 0) (item : List T → Reading T W A)
    (between : T → Result Bool W) (close : T → Result (Unit {0}) W) (Line : List T → A → Type 0)
    (parts : AreSeparators E item between close Line) where
  abbrev Behind : List A → A → List T → Next (List A) (List A) → Type 0
  Behind xs x = Then (One (Passes between)) (λ more. Empty (next_of more (xs ++ x ∷ [])))

  abbrev Closed : List A → A → List T → List A → Type 0
  Closed xs x = Then (One (Passes close)) (λ u. Empty (xs ++ x ∷ []))

  abbrev Step : List A → List T → Next (List A) (List A) → Type 0
  Step xs = Then Line (Behind xs)

  abbrev Last : List A → List T → List A → Type 0
  Last xs = Then Line (Closed xs)

  fits_token : (t : T) (more : Bool) (us ws rest : List T) → us ≡ (t ∷ []) ++ ws → between t ≡ Ok more → E (us ++ rest)
  fits_token t more us ws rest whole e = subst (λ (z : List T). E (z ++ rest)) (sym whole)
      (parts.fits t more (ws ++ rest) e)

  step_reads : (xs : List A) → Reads Anything (separated_step missing item between xs) (Step xs)
  unfolding separated_step
  step_reads xs = Reads-bind E Anything parts.reads
      (λ x. Reads-then (Reads-judged missing between parts.end false parts.ends)
      (λ more. Reads-gives (next_of more (xs ++ x ∷ []))))
      (λ x ws rest y h ends. fits_token h.first.token h.value ws h.back rest
      (h.whole ∙ ap (λ (z : List T). z ++ h.back) h.first.whole) h.first.is)

  last_reads : (xs : List A) → Reads Anything (separated_last missing item close xs) (Last xs)
  unfolding separated_last
  last_reads xs = Reads-bind E Anything parts.reads
      (λ x. Reads-then (Reads-judged missing close parts.end tt (parts.close_from parts.end parts.ends))
      (λ u. Reads-gives (xs ++ x ∷ [])))
      (λ x ws rest y h ends. fits_token h.first.token false ws h.back rest
      (h.whole ∙ ap (λ (z : List T). z ++ h.back) h.first.whole) (parts.close_to h.first.token h.value h.first.is))

  record SeparatedFrom (n : ℕ) (before : List A) (us : List T) (all : List A) : Type 0 where
    x : A
    xs : List A
    is : all ≡ before ++ x ∷ xs
    are : AreSeparated Line (Passes between) x us xs
    count : length xs ≤ n

  alone : (n : ℕ) (before : List A) (us vs ws ts zs : List T) (x : A) (t : T) (all : List A) → us ≡ vs ++ ws →
      ws ≡ ts ++ zs → ts ≡ t ∷ [] → zs ≡ [] → Line vs x → between t ≡ Ok false → all ≡ before ++ x ∷ [] →
      SeparatedFrom n before us all
  alone n before us vs ws ts zs x t all p q first none line e is =
      record { x = x; xs = []; is = is; are = (vs, t, (rw (p, q, first, none) refl), line, e); count = omega arith }

  step_to : (n : ℕ) (before : List A) (us fs bs vs ws ts zs : List T) (x : A) (t : T) (more : Bool) (all : List A) →
      ((y : List A) → Until Step Last n y bs all → SeparatedFrom n y bs all)
      → us ≡ fs ++ bs → fs ≡ vs ++ ws → ws ≡ ts ++ zs → ts ≡ t ∷ [] → zs ≡ [] → Line vs x → between t ≡ Ok more →
      Further (Until Step Last n) (next_of more (before ++ x ∷ [])) bs all → SeparatedFrom (suc n) before us all
  step_to n before us fs bs vs ws ts zs x t false all rec whole p q first none line e h =
      alone (suc n) before us vs (ts ++ zs) ts zs x t all (rw (whole, h.none, p, q) (append-nil (vs ++ (ts ++ zs))))
      refl first none line e h.is
  step_to n before us fs bs vs ws ts zs x t true all rec whole p q first none line e h =
      let k = rec (before ++ x ∷ []) h in
      record {
        x = x;
        xs = k.x ∷ k.xs;
        is = k.is ∙ append_assoc before (x ∷ []) (k.x ∷ k.xs);
        are = (vs, bs, t, (rw (whole, p, q, first, none) (append_assoc vs (t ∷ []) bs)), line, e, k.are);
        count = omega (arith, k.count);
      }

  until_to : (n : ℕ) (before : List A) (us : List T) (all : List A) → Until Step Last n before us all →
      SeparatedFrom n before us all
  unfolding Until
  until_to zero before us all h =
      let k = h.second in
      alone zero before us h.front h.back k.front k.back h.value k.first.token all h.whole k.whole k.first.whole
      k.second.none h.first (parts.close_to k.first.token k.value k.first.is) k.second.is
  until_to (suc n) before us all h =
      let f = h.first in
      let k = f.second in
      step_to n before us h.front h.back f.front f.back k.front k.back f.value k.first.token k.value all
      (λ y. until_to n y h.back all) h.whole f.whole k.whole k.first.whole k.second.none f.first k.first.is
      (subst (λ z. Further (Until Step Last n) z h.back all) k.second.is h.second)

  behind_from : (before : List A) (x : A) (t : T) (more : Bool) → between t ≡ Ok more →
      Behind before x (t ∷ []) (next_of more (before ++ x ∷ []))
  behind_from before x t more e = record {
    front = t ∷ [];
    back = [];
    value = more;
    whole = refl;
    first =
        record { token = t; whole = refl; is = e };
    second = record { none = refl; is = refl };
  }

  until_from : (n : ℕ) (before : List A) (us : List T) (all : List A) (x : A) (xs : List A) → all ≡ before ++ x ∷ xs →
      AreSeparated Line (Passes between) x us xs → length xs ≤ n → Until Step Last n before us all
  unfolding Until
  until_from zero before us all x [] is h count = record {
    front = h.0;
    back = h.1 ∷ [];
    value = x;
    whole = h.2;
    first = h.3;
    second = record {
      front = h.1 ∷ [];
      back = [];
      value = tt;
      whole = refl;
      first =
          record { token = h.1; whole = refl; is = parts.close_from h.1 h.4 };
      second = record { none = refl; is = is };
    };
  }
  until_from zero before us all x (y ∷ ys) is h count = absurd (omega (arith, count))
  until_from (suc n) before us all x [] is h count = record {
    front = h.0 ++ h.1 ∷ [];
    back = [];
    value = Done (before ++ x ∷ []);
    whole = h.2 ∙ sym (append-nil (h.0 ++ h.1 ∷ []));
    first = record {
      front = h.0;
      back = h.1 ∷ [];
      value = x;
      whole = refl;
      first = h.3;
      second =
          behind_from before x h.1 false h.4;
    };
    second = record { none = refl; is = is };
  }
  until_from (suc n) before us all x (y ∷ ys) is h count = record {
    front = h.0 ++ h.2 ∷ [];
    back = h.1;
    value = More (before ++ x ∷ []);
    whole = h.3 ∙ sym (append_assoc h.0 (h.2 ∷ []) h.1);
    first = record {
      front = h.0;
      back = h.2 ∷ [];
      value = x;
      whole = refl;
      first = h.4;
      second =
          behind_from before x h.2 true h.5;
    };
    second = until_from n (before ++ x ∷ []) h.1 all y ys (is ∙ sym (append_assoc before (x ∷ []) (y ∷ ys))) h.6
        (omega (arith, count));
  }

  -- with n items behind the first at most
  record SeparatedWithin (n : ℕ) (us : List T) (all : List A) : Type 0 where
    first : A
    others : List A
    is : all ≡ first ∷ others
    are : AreSeparated Line (Passes between) first us others
    count : length others ≤ n

  within_reads : (n : ℕ) → Reads Anything (separated_from missing item between close n []) (SeparatedWithin n)
  unfolding separated_from
  within_reads n = Reads-same
      (λ us all h. let k = until_to n [] us all h in
      record { first = k.x; others = k.xs; is = k.is; are = k.are; count = k.count })
      (λ us all h. until_from n [] us all h.first h.others h.is h.are h.count)
      (Reads-until step_reads last_reads n [])

  -- ---- without a bound

  abbrev from : ℕ → List A → List T → Reading T W (List A)
  from n xs ts = separated_from missing item between close n xs ts

  -- each step takes a token
  pub step-shorter : (xs : List A) (ts us : List T) (next : Next (List A) (List A)) →
      separated_step missing item between xs ts ≡ Ok (next, us) → length us < length ts
  step-shorter xs ts us next e =
      let t = (step_reads xs).takes ts next us e in
      let k = t.is in
      omega (
        arith,
        ap length t.whole,
        length-append t.taken us,
        ap length k.whole,
        length-append k.front k.back,
        ap length k.second.whole,
        length-append k.second.front k.second.back,
        ap length k.second.first.whole,
      )

  none_left : (vs us : List T) → [] ≡ vs ++ us → us ≡ []
  none_left [] us e = sym e
  none_left (v ∷ vs) us e = absurd cc

  -- no token is left, and one is missing
  none_from : (m : ℕ) (xs : List A) (r : Reading T W A) → item [] ≡ r → from 0 xs [] ≡ from (suc m) xs []
  unfolding separated_from until_at separated_step separated_last read_then token_at
  none_from m xs (Err miss) e = rw e refl
  none_from m xs (Ok (x, us)) e = let t = parts.reads.takes [] x us e in rw (e, none_left t.taken us t.whole) refl

  from_step : (n : ℕ) (xs : List A) (ts : List T) →
      from (suc n) xs ts ≡ go_on (separated_step missing item between xs ts)
      (go_further (separated_from missing item between close n))
  unfolding separated_from until_at read_then
  from_step n xs ts = refl

  same_step : (n m : ℕ) (xs : List A) (ts : List T) →
      ((ys : List A) (us : List T) → length us < length ts → from n ys us ≡ from m ys us) →
      (r : Reading T W (Next (List A) (List A))) → separated_step missing item between xs ts ≡ r
      → go_on r (go_further (separated_from missing item between close n)) ≡ go_on r
      (go_further (separated_from missing item between close m))
  same_step n m xs ts rec (Err miss) e = refl
  same_step n m xs ts rec (Ok (Done ys, us)) e = refl
  same_step n m xs ts rec (Ok (More ys, us)) e = rec ys us (step-shorter xs ts us (More ys) e)

  -- steps for more items than there are tokens change nothing
  enough : (n m : ℕ) (xs : List A) (ts : List T) → length ts ≤ n → length ts ≤ m → from n xs ts ≡ from m xs ts
  enough zero zero xs ts h k = refl
  enough zero (suc m) xs [] h k = none_from m xs (item []) refl
  enough zero (suc m) xs (t ∷ ts) h k = absurd (omega arith)
  enough (suc n) zero xs [] h k = sym (none_from n xs (item []) refl)
  enough (suc n) zero xs (t ∷ ts) h k = absurd (omega arith)
  enough (suc n) (suc m) xs ts h k =
      from_step n xs ts ∙ same_step n m xs ts (λ ys us s. enough n m ys us (omega arith) (omega arith))
      (separated_step missing item between xs ts) refl ∙ sym (from_step m xs ts)

  -- a step and what follows
  pub separated-step : (xs : List A) (ts : List T) →
      separated_at missing item between close xs ts ≡ go_on (separated_step missing item between xs ts)
      (go_further (separated_at missing item between close))
  unfolding separated_at
  separated-step xs ts = enough (length ts) (suc (length ts)) xs ts (omega arith) (omega arith)
      ∙ from_step (length ts) xs ts ∙ by (separated_step missing item between xs ts) refl
    where
      by : (r : Reading T W (Next (List A) (List A))) → separated_step missing item between xs ts ≡ r →
          go_on r (go_further (separated_from missing item between close (length ts))) ≡ go_on r
          (go_further (separated_at missing item between close))
      by (Err miss) e = refl
      by (Ok (Done ys, us)) e = refl
      by (Ok (More ys, us)) e = let s = step-shorter xs ts us (More ys) e in
          enough (length ts) (length us) ys us (omega (arith, s)) (omega arith)

  unbound : {n : ℕ} {us : List T} {all : List A} → SeparatedWithin n us all → Separated Line (Passes between) us all
  unbound h = record { first = h.first; others = h.others; is = h.is; are = h.are }

  items_within : (x : A) (us : List T) (xs : List A) → AreSeparated Line (Passes between) x us xs →
      length xs ≤ length us
  items_within x us [] h = omega arith
  items_within x us (y ∷ ys) h = omega (arith, items_within y h.1 ys h.6, ap length h.3, length-append h.0 (h.2 ∷ h.1))

  bound : (n : ℕ) (us : List T) (all : List A) → length us ≤ n → Separated Line (Passes between) us all →
      SeparatedWithin n us all
  bound n us all le h = record {
    first = h.first;
    others = h.others;
    is = h.is;
    are = h.are;
    count =
        omega (arith, items_within h.first us h.others h.are);
  }

  read_all : (us rest : List T) (all : List A) → Separated Line (Passes between) us all →
      separated_at missing item between close [] (us ++ rest) ≡ Ok (all, rest)
  unfolding separated_at
  read_all us rest all h = let n = length (us ++ rest) in
      (within_reads n).reads us rest all (bound n us all (omega (arith, length-append us rest)) h) tt

  stop_all : (ts : List T) (miss : Miss T W) → separated_at missing item between close [] ts ≡ Err miss →
      IsStop (separated_at missing item between close []) (Separated Line (Passes between)) ts miss
  unfolding separated_at
  stop_all ts miss e =
      let k = (within_reads (length ts)).stops ts miss e in
      record {
        before = k.before;
        whole = k.whole;
        begins = record { more = k.begins.more; value = k.begins.value; is = unbound k.begins.is };
        again = λ t rest other at.
            let n = length ts + length (k.before ++ t ∷ other) in
            let same = enough n (length ts) [] ts (omega arith) (omega arith) in
            let far = (within_reads n).stops ts miss (same ∙ e) in
            let front : far.before ≡ k.before = append_cancel_right far.before k.before miss.rest
            (sym far.whole ∙ k.whole) in
            enough (length (k.before ++ t ∷ other)) n [] (k.before ++ t ∷ other) (omega arith) (omega arith)
            ∙ subst (λ (us : List T). from n [] (us ++ t ∷ other) ≡ Err
            (record { what = miss.what; rest = t ∷ other })) front (far.again t rest other at);
      }

  take_all : (ts : List T) (x : List A) (rest : List T) → separated_at missing item between close [] ts ≡ Ok (x, rest) →
      IsTaken (separated_at missing item between close []) (Separated Line (Passes between)) ts x rest
  unfolding separated_at
  take_all ts x rest e =
      let t = (within_reads (length ts)).takes ts x rest e in
      record {
        taken = t.taken;
        whole = t.whole;
        is = unbound t.is;
        again =
            λ other same. read_all t.taken other x (unbound t.is);
      }

  pub Reads-separated : Reads Anything (separated_at missing item between close []) (Separated Line (Passes between))
  Reads-separated = record {
    some = let b = (within_reads 0).some in record { more = b.more; value = b.value; is = unbound b.is };
    takes = take_all;
    reads = λ us rest all h ends. read_all us rest all h;
    stops = stop_all;
  }
