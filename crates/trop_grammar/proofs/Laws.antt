-- The laws by which reading functions and grammars are built together.
-- Index: same_next-refl, same_next-append, same_next-upto, go_on-ok, go_on-err, Reads-bind, Reads-then, Reads-weaker,
-- Reads-same, Reads-gives, Reads-token, Reads-option, Reads-repeat, Reads-until.
use Rattle.std.proofs.Common.{◌≡◌, ℕ, zero, suc, Option, Some, None, List, [], ◌∷◌, ◌++◌, Result, Ok, Err, refl, sym, ap, subst, ◌∙◌, append_assoc, ◌⊎◌, inl, inr}
use Rattle.trop_grammar.specs.Reading.{Reading, Miss, go_on, read_then, gives, judged, token_at, announced, option_at, repeat_at, until_at, Next, More, Done, go_further}
use Rattle.trop_grammar.specs.Grammar.{One, Empty, Then, Optional, LeftOut, Written, Repeated, Until, Further}
use Rattle.trop_grammar.specs.Reads.{IsStop, IsTaken, SameNext, Reads, Anything, Unannounced, Judges}

-- ---- what follows

pub same_next-refl : {T : Type 0} (ts : List T) → SameNext ts ts
same_next-refl [] = tt
same_next-refl (t ∷ ts) = refl

-- behind the same tokens the next ones are the same
pub same_next-append : {T : Type 0} (us ts vs : List T) → SameNext ts vs → SameNext (us ++ ts) (us ++ vs)
same_next-append [] ts vs h = h
same_next-append (u ∷ us) ts vs h = refl

pub same_next-upto : {T : Type 0} (us : List T) (t : T) (ts vs : List T) → SameNext (us ++ t ∷ ts) (us ++ t ∷ vs)
same_next-upto us t ts vs = same_next-append us (t ∷ ts) (t ∷ vs) refl

module _ {T W : Type 0} where
  -- ---- one reading function after another

  pub go_on-ok : {A B : Type 0} (read : Reading T W A) (s : A → List T → Reading T W B) (p : B × List T) →
      go_on read s ≡ Ok p → (x : A × List T) × (read ≡ Ok x) × (s x.0 x.1 ≡ Ok p)
  go_on-ok (Ok x) s p e = (x, refl, e)
  go_on-ok (Err miss) s p e = absurd cc

  pub go_on-err : {A B : Type 0} (read : Reading T W A) (s : A → List T → Reading T W B) (miss : Miss T W) →
      go_on read s ≡ Err miss → (read ≡ Err miss) ⊎ ((x : A × List T) × (read ≡ Ok x) × (s x.0 x.1 ≡ Err miss))
  go_on-err (Ok x) s miss e = inr (x, refl, e)
  go_on-err (Err other) s miss e = let same : other ≡ miss = cc in inl (ap Err same)

  pub Reads-bind : {A B : Type 0} (D E : List T → Type 0) {r : List T → Reading T W A} {R : List T → A → Type 0}
      {s : A → List T → Reading T W B} {S : A → List T → B → Type 0}
      → Reads D r R → ((x : A) → Reads E (s x) (S x)) →
      ((x : A) (ws rest : List T) (y : B) → S x ws y → E rest → D (ws ++ rest))
      → Reads E (read_then r s) (Then R S)
  unfolding read_then
  Reads-bind {A} {B} D E {r} {R} {s} {S} hr hs fits = record {
    some = record {
      more = hr.some.more ++ (hs hr.some.value).some.more;
      value = (hs hr.some.value).some.value;
      is = record {
        front = hr.some.more;
        back = (hs hr.some.value).some.more;
        value = hr.some.value;
        whole =
            refl;
        first = hr.some.is;
        second = (hs hr.some.value).some.is;
      };
    };
    takes = λ ts y rest e.
        let b = go_on-ok (r ts) s (y, rest) e in
        let u = hr.takes ts b.0.0 b.0.1 b.1 in
        let w = (hs b.0.0).takes b.0.1 y rest b.2 in
        record {
          taken = u.taken ++ w.taken;
          whole = u.whole ∙ ap (λ (z : List T). u.taken ++ z) w.whole ∙ sym (append_assoc u.taken w.taken rest);
          is = record { front = u.taken; back = w.taken; value = b.0.0; whole = refl; first = u.is; second = w.is };
          again = λ other same.
              let next : SameNext b.0.1 (w.taken ++ other) =
              subst (λ (z : List T). SameNext z (w.taken ++ other)) (sym w.whole)
              (same_next-append w.taken rest other same) in
              ap (λ z. go_on z s) (ap r (append_assoc u.taken w.taken other) ∙ u.again (w.taken ++ other) next)
              ∙ w.again other same;
        };
    reads = λ us rest y h ends.
        let e : us ++ rest ≡ h.front ++ (h.back ++ rest) =
        ap (λ (z : List T). z ++ rest) h.whole ∙ append_assoc h.front h.back rest in
        ap (λ z. go_on z s) (ap r e ∙ hr.reads h.front (h.back ++ rest) h.value h.first
        (fits h.value h.back rest y h.second ends)) ∙ (hs h.value).reads h.back rest y h.second ends;
    stops = λ ts miss e.
        elim (go_on-err (r ts) s miss e) [
          | inl d ↦
              let f = hr.stops ts miss d in
              let w = (hs f.begins.value).some in
              record {
                before = f.before;
                whole = f.whole;
                begins = record {
                  more = f.begins.more ++ w.more;
                  value = w.value;
                  is = record {
                    front = f.before ++ f.begins.more;
                    back = w.more;
                    value = f.begins.value;
                    whole =
                        sym (append_assoc f.before f.begins.more w.more);
                    first = f.begins.is;
                    second = w.is;
                  };
                };
                again = λ t rest other h. ap (λ z. go_on z s) (f.again t rest other h);
              }
          | inr b ↦
              let p = b.0 in
              let u = hr.takes ts p.0 p.1 b.1 in
              let f = (hs p.0).stops p.1 miss b.2 in
              record {
                before = u.taken ++ f.before;
                whole = u.whole ∙ ap (λ (z : List T). u.taken ++ z) f.whole
                    ∙ sym (append_assoc u.taken f.before miss.rest);
                begins = record {
                  more = f.begins.more;
                  value = f.begins.value;
                  is = record {
                    front = u.taken;
                    back = f.before ++ f.begins.more;
                    value = p.0;
                    whole =
                        append_assoc u.taken f.before f.begins.more;
                    first = u.is;
                    second = f.begins.is;
                  };
                };
                again = λ t rest other h.
                    let here : p.1 ≡ f.before ++ t ∷ rest = f.whole ∙ ap (λ (z : List T). f.before ++ z) h in
                    let next : SameNext p.1 (f.before ++ t ∷ other) =
                    subst (λ (z : List T). SameNext z (f.before ++ t ∷ other)) (sym here)
                    (same_next-upto f.before t rest other) in
                    ap (λ z. go_on z s) (ap r (append_assoc u.taken f.before (t ∷ other))
                    ∙ u.again (f.before ++ t ∷ other) next) ∙ f.again t rest other h;
              }
        ];
  }

  -- where anything may follow the first
  pub Reads-then : {A B : Type 0} {E : List T → Type 0} {r : List T → Reading T W A} {R : List T → A → Type 0}
      {s : A → List T → Reading T W B} {S : A → List T → B → Type 0}
      → Reads Anything r R → ((x : A) → Reads E (s x) (S x)) → Reads E (read_then r s) (Then R S)
  Reads-then {A} {B} {E} hr hs = Reads-bind Anything E hr hs (λ x ws rest y h e. tt)

  -- where anything may follow, all the more where E holds
  pub Reads-weaker : {A : Type 0} {E : List T → Type 0} {r : List T → Reading T W A} {R : List T → A → Type 0} →
      Reads Anything r R → Reads E r R
  Reads-weaker h = record {
    some = h.some;
    takes = h.takes;
    reads = λ us rest x k e. h.reads us rest x k tt;
    stops =
        h.stops;
  }

  -- the same texts
  pub Reads-same : {A : Type 0} {E : List T → Type 0} {r : List T → Reading T W A} {R S : List T → A → Type 0} →
      ((us : List T) (x : A) → R us x → S us x) → ((us : List T) (x : A) → S us x → R us x) → Reads E r R → Reads E r S
  Reads-same to from h = record {
    some = record { more = h.some.more; value = h.some.value; is = to h.some.more h.some.value h.some.is };
    takes = λ ts x rest e. let t = h.takes ts x rest e in
        record { taken = t.taken; whole = t.whole; is = to t.taken x t.is; again = t.again };
    reads = λ us rest x k ends. h.reads us rest x (from us x k) ends;
    stops = λ ts miss e.
        let f = h.stops ts miss e in
        record {
          before = f.before;
          whole = f.whole;
          begins =
              record { more = f.begins.more; value = f.begins.value; is = to _ f.begins.value f.begins.is };
          again =
              f.again;
        };
  }

  abbrev read_ok : {A : Type 0} → A × List T → Reading T W A
  read_ok p = Ok p

  ok_same : {A : Type 0} (x y : A) (ts rest : List T) → read_ok (x, ts) ≡ read_ok (y, rest) → (x ≡ y) × (ts ≡ rest)
  ok_same {A} x y ts rest e = let p : (x, ts) ≡ (y, rest) = cc in
      (ap (λ (z : A × List T). z.0) p, ap (λ (z : A × List T). z.1) p)

  ok_no_err : {A : Type 0} (p : A × List T) (miss : Miss T W) → Ok p ≡ Err miss → ⊥
  ok_no_err p miss e = cc

  -- ---- no token

  pub Reads-gives : {A : Type 0} {E : List T → Type 0} (x : A) → Reads E (gives {W = W} x) (Empty x)
  unfolding gives
  Reads-gives {A} x = record {
    some = record { more = []; value = x; is = record { none = refl; is = refl } };
    takes = λ ts y rest e.
        let p = ok_same x y ts rest e in
        record {
          taken = [];
          whole = p.1;
          is = record { none = refl; is = sym p.0 };
          again =
              λ other same. ap (λ (z : A). Ok (z, other)) p.0;
        };
    reads = λ us rest y h ends. ap (λ (z : List T). Ok (x, z ++ rest)) h.none ∙ ap (λ (z : A). Ok (z, rest)) (sym h.is);
    stops = λ ts miss e. absurd (ok_no_err (x, ts) miss e);
  }

  -- ---- one token

  judged-ok : {A : Type 0} (v : Result A W) (t : T) (ts rest : List T) (x : A) → judged v t ts ≡ Ok (x, rest) →
      (ts ≡ rest) × (v ≡ Ok x)
  judged-ok (Ok y) t ts rest x e = let p = ok_same y x ts rest e in (p.1, ap Ok p.0)
  judged-ok (Err w) t ts rest x e = absurd cc

  judged-err : {A : Type 0} (v : Result A W) (t : T) (ts : List T) (miss : Miss T W) → judged v t ts ≡ Err miss →
      (v ≡ Err miss.what) × (miss.rest ≡ t ∷ ts)
  judged-err (Ok y) t ts miss e = absurd cc
  judged-err (Err w) t ts miss e = let p : record { what = w; rest = t ∷ ts } ≡ miss = cc in
      (ap (λ (z : Miss T W). Err z.what) p, sym (ap (λ (z : Miss T W). z.rest) p))

  token-takes : {A : Type 0} (missing : W) (judge : T → Result A W) (P : T → A → Type 0) → Judges judge P →
      (ts : List T) (x : A) (rest : List T) → token_at missing judge ts ≡ Ok (x, rest) →
      IsTaken (token_at missing judge) (One P) ts x rest
  unfolding token_at
  token-takes missing judge P h [] x rest e = absurd cc
  token-takes missing judge P h (t ∷ ts) x rest e =
      let j = judged-ok (judge t) t ts rest x e in
      record {
        taken = t ∷ [];
        whole = ap (λ (z : List T). t ∷ z) j.0;
        is = record { token = t; whole = refl; is = h.to t x j.1 };
        again = λ other same. ap (λ v. judged v t other) j.1;
      }

  token-stops : {A : Type 0} (missing : W) (judge : T → Result A W) (P : T → A → Type 0) → Judges judge P →
      (ts : List T) (miss : Miss T W) → token_at missing judge ts ≡ Err miss →
      IsStop (token_at missing judge) (One P) ts miss
  unfolding token_at
  token-stops missing judge P h [] miss e =
      let p : record { what = missing; rest = [] } ≡ miss = cc in
      record {
        before = [];
        whole = ap (λ (z : Miss T W). z.rest) p;
        begins = record {
          more = h.token ∷ [];
          value = h.value;
          is =
              record { token = h.token; whole = refl; is = h.passes };
        };
        again = λ t rest other k. let none : [] ≡ t ∷ rest = ap (λ (z : Miss T W). z.rest) p ∙ k in absurd cc;
      }
  token-stops missing judge P h (t ∷ ts) miss e =
      let j = judged-err (judge t) t ts miss e in
      record {
        before = [];
        whole = sym j.1;
        begins = record {
          more = h.token ∷ [];
          value = h.value;
          is =
              record { token = h.token; whole = refl; is = h.passes };
        };
        again = λ u rest other k.
            let same : t ≡ u = cc in
            ap (λ v. judged v u other) (ap judge (sym same) ∙ j.0);
      }

  pub Reads-token : {A : Type 0} {E : List T → Type 0} (missing : W) {judge : T → Result A W} {P : T → A → Type 0} →
      Judges judge P → Reads E (token_at missing judge) (One P)
  unfolding token_at
  Reads-token missing {judge} {P} h = record {
    some = record {
      more = h.token ∷ [];
      value = h.value;
      is =
          record { token = h.token; whole = refl; is = h.passes };
    };
    takes = token-takes missing judge P h;
    reads = λ us rest x k ends. ap (λ z. token_at missing judge (z ++ rest)) k.whole ∙ ap (λ v. judged v k.token rest)
        (h.from k.token x k.is);
    stops = token-stops missing judge P h;
  }

  -- ---- a part that may be left out

  option-left : {A B : Type 0} (announce : T → Option A) (x : B) (r : A → List T → Reading T W B) (t : T)
      (ts other : List T) → SameNext (t ∷ ts) other → announce t ≡ None → option_at announce x r other ≡ Ok (x, other)
  unfolding option_at
  option-left announce x r t ts [] same is = absurd same
  option-left announce x r t ts (u ∷ other) same is = ap (λ v. announced v x r u other) (ap announce (sym same) ∙ is)

  option-at_end : {A B : Type 0} (announce : T → Option A) (x : B) (r : A → List T → Reading T W B) (other : List T) →
      SameNext [] other → option_at announce x r other ≡ Ok (x, other)
  unfolding option_at
  option-at_end announce x r [] same = refl
  option-at_end announce x r (u ∷ other) same = absurd same

  option-takes : {A B : Type 0} (announce : T → Option A) (x : B) (r : A → List T → Reading T W B)
      (R : A → List T → B → Type 0) → ((a : A) → Reads Anything (r a) (R a)) →
      (v : Option A) (t : T) (ts : List T) (y : B) (rest : List T) → announce t ≡ v →
      announced v x r t ts ≡ Ok (y, rest) → IsTaken (option_at announce x r) (Optional announce x R) (t ∷ ts) y rest
  unfolding option_at
  option-takes announce x r R h (Some a) t ts y rest is e =
      let k = (h a).takes ts y rest e in
      record {
        taken = t ∷ k.taken;
        whole = ap (λ (z : List T). t ∷ z) k.whole;
        is = Written t a k.taken refl is k.is;
        again = λ other same. ap (λ v. announced v x r t (k.taken ++ other)) is ∙ k.again other same;
      }
  option-takes {A} {B} announce x r R h None t ts y rest is e =
      let p = ok_same x y (t ∷ ts) rest e in
      record {
        taken = [];
        whole = p.1;
        is = LeftOut refl (sym p.0);
        again = λ other same. option-left announce x r t ts other
            (subst (λ (z : List T). SameNext z other) (sym p.1) same) is ∙ ap (λ (z : B). Ok (z, other)) p.0;
      }

  option-takes_all : {A B : Type 0} (announce : T → Option A) (x : B) (r : A → List T → Reading T W B)
      (R : A → List T → B → Type 0) → ((a : A) → Reads Anything (r a) (R a)) → (ts : List T) (y : B) (rest : List T) →
      option_at announce x r ts ≡ Ok (y, rest) → IsTaken (option_at announce x r) (Optional announce x R) ts y rest
  unfolding option_at
  option-takes_all {A} {B} announce x r R h [] y rest e =
      let p = ok_same x y [] rest e in
      record {
        taken = [];
        whole = p.1;
        is = LeftOut refl (sym p.0);
        again =
            λ other same. option-at_end announce x r other (subst (λ (z : List T). SameNext z other) (sym p.1) same)
            ∙ ap (λ (z : B). Ok (z, other)) p.0;
      }
  option-takes_all announce x r R h (t ∷ ts) y rest e = option-takes announce x r R h (announce t) t ts y rest refl e

  option-unannounced : {A B : Type 0} (announce : T → Option A) (x : B) (r : A → List T → Reading T W B) (rest : List T)
      → Unannounced announce rest → option_at announce x r rest ≡ Ok (x, rest)
  unfolding option_at
  option-unannounced announce x r [] e = refl
  option-unannounced announce x r (t ∷ ts) e = ap (λ v. announced v x r t ts) e

  option-reads : {A B : Type 0} (announce : T → Option A) (x : B) (r : A → List T → Reading T W B)
      (R : A → List T → B → Type 0) → ((a : A) → Reads Anything (r a) (R a)) → (us rest : List T) (y : B) →
      Optional announce x R us y → Unannounced announce rest → option_at announce x r (us ++ rest) ≡ Ok (y, rest)
  unfolding option_at
  option-reads {A} {B} announce x r R h us rest y (LeftOut none is) ends =
      ap (λ (z : List T). option_at announce x r (z ++ rest)) none ∙ option-unannounced announce x r rest ends
      ∙ ap (λ (z : B). Ok (z, rest)) (sym is)
  option-reads announce x r R h us rest y (Written t a vs whole is k) ends =
      ap (λ (z : List T). option_at announce x r (z ++ rest)) whole ∙ ap (λ v. announced v x r t (vs ++ rest)) is
      ∙ (h a).reads vs rest y k tt

  option-stops : {A B : Type 0} (announce : T → Option A) (x : B) (r : A → List T → Reading T W B)
      (R : A → List T → B → Type 0) → ((a : A) → Reads Anything (r a) (R a)) →
      (v : Option A) (t : T) (ts : List T) (miss : Miss T W) → announce t ≡ v → announced v x r t ts ≡ Err miss →
      IsStop (option_at announce x r) (Optional announce x R) (t ∷ ts) miss
  unfolding option_at
  option-stops announce x r R h (Some a) t ts miss is e =
      let f = (h a).stops ts miss e in
      record {
        before = t ∷ f.before;
        whole = ap (λ (z : List T). t ∷ z) f.whole;
        begins = record {
          more = f.begins.more;
          value = f.begins.value;
          is =
              Written t a (f.before ++ f.begins.more) refl is f.begins.is;
        };
        again = λ u rest other k. ap (λ v. announced v x r t (f.before ++ u ∷ other)) is ∙ f.again u rest other k;
      }
  option-stops announce x r R h None t ts miss is e = absurd (ok_no_err (x, t ∷ ts) miss e)

  option-stops_all : {A B : Type 0} (announce : T → Option A) (x : B) (r : A → List T → Reading T W B)
      (R : A → List T → B → Type 0) → ((a : A) → Reads Anything (r a) (R a)) → (ts : List T) (miss : Miss T W) →
      option_at announce x r ts ≡ Err miss → IsStop (option_at announce x r) (Optional announce x R) ts miss
  unfolding option_at
  option-stops_all announce x r R h [] miss e = absurd (ok_no_err (x, []) miss e)
  option-stops_all announce x r R h (t ∷ ts) miss e = option-stops announce x r R h (announce t) t ts miss refl e

  pub Reads-option : {A B : Type 0} (announce : T → Option A)
      (x : B) {r : A → List T → Reading T W B} {R : A → List T → B → Type 0} → ((a : A) → Reads Anything (r a) (R a)) →
      Reads (Unannounced announce) (option_at announce x r) (Optional announce x R)
  Reads-option announce x {r} {R} h = record {
    some = record { more = []; value = x; is = LeftOut refl refl };
    takes = option-takes_all announce x r R h;
    reads = option-reads announce x r R h;
    stops = option-stops_all announce x r R h;
  }

  -- ---- the same step again and again

  pub Reads-repeat : {A : Type 0} {step : A → List T → Reading T W A} {Step : A → List T → A → Type 0} →
      ((x : A) → Reads Anything (step x) (Step x)) → (n : ℕ) (x : A) →
      Reads Anything (repeat_at step n x) (Repeated Step n x)
  unfolding repeat_at Repeated
  Reads-repeat h zero x = Reads-gives x
  Reads-repeat h (suc n) x = Reads-then (h x) (Reads-repeat h n)

  further-reads : {A B : Type 0} (further : A → List T → Reading T W B) (R : A → List T → B → Type 0) →
      ((x : A) → Reads Anything (further x) (R x)) → (next : Next A B) →
      Reads Anything (go_further further next) (Further R next)
  unfolding gives
  further-reads further R h (More x) = h x
  further-reads further R h (Done y) = Reads-gives y

  pub Reads-until : {A B : Type 0} {step : A → List T → Reading T W (Next A B)} {last : A → List T → Reading T W B}
      {Step : A → List T → Next A B → Type 0} {Last : A → List T → B → Type 0}
      → ((x : A) → Reads Anything (step x) (Step x)) → ((x : A) → Reads Anything (last x) (Last x)) → (n : ℕ) (x : A) →
      Reads Anything (until_at step last n x) (Until Step Last n x)
  unfolding until_at Until
  Reads-until h k zero x = k x
  Reads-until {A} {B} {step} {last} {Step} {Last} h k (suc n) x =
      Reads-then (h x) (further-reads (until_at step last n) (Until Step Last n) (Reads-until h k n))
