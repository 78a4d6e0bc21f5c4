-- Reading functions that read just the texts of a grammar, whatever follows; and where they stop.
-- Index: Exact, Exact-reads, Exact-then, Exact-gives, same_value, from_last-is, IsLastOf, last_of,
-- first_then.
use Rattle.std.proofs.Common.{◌≡◌, ◌-◌, suc, List, [], ◌∷◌, ◌++◌, length, length-append, Ok, refl, sym, ap, ◌∙◌, append_assoc, arith}
use Rattle.std.specs.Prelude.{drop}
use Rattle.trop_grammar.specs.Reading.{Reading, Miss, go_on, read_then, gives}
use Rattle.trop_grammar.specs.Grammar.{Empty, Then}
use Rattle.trop_grammar.specs.Reads.{Reads, Anything}
use Rattle.trop_grammar.proofs.Laws.{go_on-ok}
use Rattle.shape_grammar.specs.Reads.{IsTaken}
use Rattle.report_texts.specs.Heads.{from_last}

-- r reads from the front of the tokens just the texts of R, whatever follows
pub record Exact {T W A : Type 0} (r : List T → Reading T W A) (R : List T → A → Type 0) : Type 0 where
  pub takes : (ts : List T) (x : A) (rest : List T) → r ts ≡ Ok (x, rest) → IsTaken R ts x rest
  pub reads : (us rest : List T) (x : A) → R us x → r (us ++ rest) ≡ Ok (x, rest)

module _ {T W : Type 0} where
  abbrev pub read_ok : {A : Type 0} → A × List T → Reading T W A
  read_ok p = Ok p

  pub ok_same : {A : Type 0} (x y : A) (ts rest : List T) → read_ok (x, ts) ≡ read_ok (y, rest) →
      (x ≡ y) × (ts ≡ rest)
  ok_same {A} x y ts rest e = let p : (x, ts) ≡ (y, rest) = cc in
      (ap (λ (z : A × List T). z.0) p, ap (λ (z : A × List T). z.1) p)

  pub Exact-reads : {A : Type 0} {r : List T → Reading T W A} {R : List T → A → Type 0} → Reads Anything r R →
      Exact r R
  Exact-reads h = record {
    takes = λ ts x rest e. let t = h.takes ts x rest e in record { taken = t.taken; whole = t.whole; is = t.is };
    reads = λ us rest x k. h.reads us rest x k tt;
  }

  pub Exact-then : {A B : Type 0} {r : List T → Reading T W A} {R : List T → A → Type 0}
      {s : A → List T → Reading T W B} {S : A → List T → B → Type 0} → Exact r R → ((x : A) → Exact (s x) (S x)) →
      Exact (read_then r s) (Then R S)
  unfolding read_then
  Exact-then {r = r} {R = R} {s = s} {S = S} hr hs = record {
    takes = λ ts y rest e.
        let b = go_on-ok (r ts) s (y, rest) e in
        let u = hr.takes ts b.0.0 b.0.1 b.1 in
        let w = (hs b.0.0).takes b.0.1 y rest b.2 in
        record {
          taken = u.taken ++ w.taken;
          whole = u.whole ∙ ap (λ (z : List T). u.taken ++ z) w.whole ∙ sym (append_assoc u.taken w.taken rest);
          is = record { front = u.taken; back = w.taken; value = b.0.0; whole = refl; first = u.is; second = w.is };
        };
    reads = λ us rest y h.
        let e : us ++ rest ≡ h.front ++ (h.back ++ rest) =
        ap (λ (z : List T). z ++ rest) h.whole ∙ append_assoc h.front h.back rest in
        ap (λ z. go_on z s) (ap r e ∙ hr.reads h.front (h.back ++ rest) h.value h.first)
        ∙ (hs h.value).reads h.back rest y h.second;
  }

  pub Exact-gives : {A : Type 0} (x : A) → Exact (gives {T = T} {W = W} x) (Empty x)
  unfolding gives
  Exact-gives {A} x = record {
    takes = λ ts y rest e. let p = ok_same x y ts rest e in
        record { taken = []; whole = p.1; is = record { none = refl; is = sym p.0 } };
    reads = λ us rest y h. ap (λ (z : List T). Ok (x, z ++ rest)) h.none ∙ ap (λ (z : A). Ok (z, rest)) (sym h.is);
  }

-- ---- the last token that was taken

drop-front : {T : Type 0} (front ys : List T) → drop (length front) (front ++ ys) ≡ ys
drop-front [] ys = refl
drop-front (x ∷ front) ys = drop-front front ys

pub from_last-is : {T : Type 0} (front : List T) (t : T) (rest : List T) → from_last (front ++ t ∷ rest) rest ≡ t ∷ rest
from_last-is front t rest =
    let e : length (front ++ t ∷ rest) - suc (length rest) ≡ length front =
    omega (arith, length-append front (t ∷ rest)) in
    ap (λ n. drop n (front ++ t ∷ rest)) e ∙ drop-front front (t ∷ rest)

-- what was taken ends with the token t, and that token is blamed
pub record IsLastOf {T W : Type 0} (ts front : List T) (t : T) (rest : List T) (what : W) (miss : Miss T W) : Type 0
  where
    pub whole : ts ≡ front ++ t ∷ rest
    pub what_is : miss.what ≡ what
    pub left : miss.rest ≡ t ∷ rest

pub last_of : {T W : Type 0} (ts taken front : List T) (t : T) (rest : List T) (what : W) (miss : Miss T W) →
    ts ≡ taken ++ rest → taken ≡ front ++ t ∷ [] → record { what = what; rest = from_last ts rest } ≡ miss →
    IsLastOf ts front t rest what miss
last_of {T} {W} ts taken front t rest what miss whole last m =
    let e : ts ≡ front ++ t ∷ rest =
    whole ∙ ap (λ (z : List T). z ++ rest) last ∙ append_assoc front (t ∷ []) rest in
    record {
      whole = e;
      what_is = sym (ap (λ (z : Miss T W). z.what) m);
      left = sym (ap (λ (z : Miss T W). z.rest) m) ∙ ap (λ (z : List T). from_last z rest) e
          ∙ from_last-is front t rest;
    }
