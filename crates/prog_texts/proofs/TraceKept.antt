-- A trace file that is read keeps what a trace file keeps.
-- Index: trace_within.
use Rattle.std.proofs.Common.{◌≡◌, ◌≤◌, ◌<◌, ◌+◌, ℕ, zero, suc, ℤ, pos, neg_ℤ, Bool, true, false, cond, Option, Some, None, List, [], ◌∷◌, ◌++◌, length, length-append, codes, Result, Ok, Err, refl, sym, ap, subst, ◌∙◌, arith, append_assoc, nat_eq, ◌&&◌, ◌||◌, not}
use Rattle.std.specs.Prelude.{All, unsigned_abs}
use Rattle.std.specs.Str.{bytes_eq}
use Rattle.std.proofs.lemmas.Bool.Decides.{nat_tests}
use Rattle.std.proofs.lemmas.List.Elements.{All-nil, All-cons, All-append}
use Rattle.trop_text.specs.Lexed.{are_digits}
use Rattle.trop_text.specs.Name.{is_name}
use Rattle.trop_text.specs.Pieces.{Piece}
use Rattle.trop_text.specs.declared.fault.FaultKind.{FaultKind}
use Rattle.trop_text.specs.declared.fault.FaultKind.TheVariants.{Syntax, TooManyVars}
use Rattle.trop_grammar.specs.Grammar.{Empty, Then}
use Rattle.trop_grammar.specs.Lists.{Passes}
use Rattle.shape_grammar.specs.Past.{past}
use Rattle.shape_grammar.specs.Texts.{One, Many, NoMore, OneMore}
use Rattle.prog_theory.specs.Limits.{Limits}
use Rattle.prog_theory.specs.Named.{Named}
use Rattle.prog_texts.specs.AssertRule.{AssertRule}
use Rattle.prog_texts.specs.Words.{Before, Counted, nothing_before, counted, text, skipped, says, is_digits, is_variable, one_more, until_end, commas_after, behind}
use Rattle.prog_texts.specs.Judges.{passed, number, sized}
use Rattle.prog_texts.specs.Operands.{IsSaid, IsNumber}
use Rattle.prog_texts.specs.RowRule.{RowRule, one_each, any_number}
use Rattle.prog_texts.specs.Rows.{entry_first, RowStart, Bare, Starts, row_first, comma, row_end, IsEntryRest, IsEntry, AreMore, IsRowRest, IsRow}
use Rattle.prog_texts.specs.Programs.{undeclared, new_name, AreNew, IsDeclaration, IsProgram}
use Rattle.prog_texts.specs.Traces.{TraceFile, trace_of, IsTraceFile, trace_file_at, IsTraceWithin}
use Rattle.prog_texts.proofs.Signs.{text_is}
use Rattle.prog_texts.proofs.NoDeeper.{many_keeps}
use Rattle.prog_texts.proofs.Bounds.{many_judged, sized_at_most, number_at_most, abs_neg}
use Rattle.prog_texts.proofs.Runs.{IsRun, front_of, run_split, run_past}
use Rattle.prog_texts.proofs.Tallies.{said_run, parted, first_run}
use Rattle.prog_texts.proofs.Kept.{spelled_within}
use Rattle.prog_texts.proofs.TraceLaws.{trace_reads}

-- ---- the sizes of entries

abbrev IsSmall : ℕ → ℤ → Type 0
IsSmall bound n = unsigned_abs n ≤ bound

first_some : (bound : ℕ) (t : Counted) (n : ℕ) → entry_first bound t ≡ Ok (Some n) → n ≤ bound
first_some bound t n e = at (is_digits t) (says (codes "-") t) (sized bound t) refl e
  where
    at : (a b : Bool) (v : Result ℕ FaultKind) → sized bound t ≡ v →
        cond a (passed Some v) (cond b (Ok None) (Err Syntax)) ≡ Ok (Some n) → n ≤ bound
    at true b (Ok m) k h = let same : m ≡ n = cc in sized_at_most bound t n (k ∙ ap Ok same)
    at true b (Err w) k h = absurd cc
    at false true v k h = absurd cc
    at false false v k h = absurd cc

rest_small : (bound : ℕ) (t : Counted) (f : Option ℕ) (us : List Counted) (y : ℤ) → entry_first bound t ≡ Ok f →
    IsEntryRest bound f us y → IsSmall bound y
rest_small bound t (Some n) us y e h = let k = ap unsigned_abs h.is in let p = first_some bound t n e in
    omega (arith, k, p)
rest_small bound t None us y e h = let k = ap unsigned_abs h.second.is in let p =
    number_at_most bound h.first.token h.value h.first.is in omega (arith, k, p, abs_neg h.value)

entry_small : (bound : ℕ) (us : List Counted) (y : ℤ) → IsEntry bound us y → IsSmall bound y
entry_small bound us y h = rest_small bound h.first.token h.value h.back y h.first.is h.second

all_one : (bound : ℕ) (x : ℤ) → IsSmall bound x → All (IsSmall bound) (x ∷ [])
all_one bound x h = All-cons (IsSmall bound) x [] h (All-nil (IsSmall bound))

more_small : (R : RowRule) (bound : ℕ) (x : ℤ) (us : List Counted) (xs : List ℤ) → IsSmall bound x →
    AreMore R bound x us xs → All (IsSmall bound) xs
more_small R bound x us xs h m =
    subst (λ (z : List ℤ). All (IsSmall bound) z) (sym m.second.second.is)
    (many_keeps (λ (ys : List ℤ). All (IsSmall bound) ys)
    (λ ys a ws z q k. subst (λ (z : List ℤ). All (IsSmall bound) z) (sym k.second.is)
    (All-append (IsSmall bound) ys (k.value ∷ []) q
    (all_one bound k.value (entry_small bound k.front k.value k.first)))) (x ∷ []) m.front m.value
    (all_one bound x h) m.first)

starts_first : (a b : Bool) (v : Result (Option ℕ) FaultKind) (f : Option ℕ) →
    cond a (Ok Bare) (cond b (passed Starts v) (Err Syntax)) ≡ Ok (Starts f) → v ≡ Ok f
starts_first true b v f e = absurd cc
starts_first false true (Ok g) f e = let same : g ≡ f = cc in ap Ok same
starts_first false true (Err w) f e = absurd cc
starts_first false false v f e = absurd cc

row_rest_small : (R : RowRule) (bound : ℕ) (t : Counted) (s : RowStart) (us : List Counted) (xs : List ℤ) →
    row_first R bound t ≡ Ok s → IsRowRest R bound s us xs → All (IsSmall bound) xs
row_rest_small R bound t Bare us xs e h = subst (λ (z : List ℤ). All (IsSmall bound) z) (sym h.is)
    (All-nil (IsSmall bound))
row_rest_small R bound t (Starts f) us xs e h =
    more_small R bound h.value h.back xs (rest_small bound t f h.front h.value
    (starts_first (says (codes "]") t && R.bare t) (R.starts t) (entry_first bound t) f e) h.first) h.second

row_small : (R : RowRule) (bound : ℕ) (us : List Counted) (xs : List ℤ) → IsRow R bound us xs → All (IsSmall bound) xs
row_small R bound us xs h = let m = h.second in row_rest_small R bound m.first.token m.value m.back xs m.first.is
    m.second

-- ---- how many names have been declared

cond_false : (z : Bool) → cond z false false ≡ false
cond_false true = refl
cond_false false = refl

-- behind the declaration the number of names stays
names_stay : (b d : Before) (us : List Counted) → b.declares ≡ false → IsRun b us d →
    (d.names ≡ b.names) × (d.declares ≡ false)
names_stay b d [] e r = (ap (λ (z : Before). z.names) r, ap (λ (z : Before). z.declares) r ∙ e)
names_stay b d (t ∷ ts) e r =
    let k : t.before.declares ≡ false = ap (λ (z : Before). z.declares) r.0 ∙ e in
    let next : (behind t).declares ≡ false = ap (λ z. until_end z (text t)) k
    ∙ cond_false (bytes_eq (text t) (codes ";")) in
    let same : (behind t).names ≡ t.before.names = ap (λ z. one_more (z && is_variable t) t.before.names) k in
    let h = names_stay (behind t) d ts next r.1 in
    (h.0 ∙ same ∙ ap (λ (z : Before). z.names) r.0, h.1)

no_both : (z : Bool) → z ≡ true → z ≡ false → ⊥
no_both z e k = let h = sym e ∙ k in cc

-- a name is no `;`
name_apart : (t : Counted) → is_variable t ≡ true → bytes_eq (text t) (codes ";") ≡ false
name_apart t e = at (bytes_eq (text t) (codes ";")) refl
  where
    at : (z : Bool) → bytes_eq (text t) (codes ";") ≡ z → bytes_eq (text t) (codes ";") ≡ false
    at false k = k
    at true k = absurd (no_both (is_variable t) e (ap is_name (text_is (codes ";") t k)))

unnamed : (L : Limits) (names : List (List ℕ)) (t : Counted) → is_variable t ≡ false → new_name L names t ≡ None
unnamed L names t k = rw k refl

new_is_variable : (L : Limits) (names : List (List ℕ)) (t : Counted) (a : List ℕ) → new_name L names t ≡ Some (Ok a) →
    is_variable t ≡ true
new_is_variable L names t a e = at (is_variable t) refl
  where
    none : (o : Option (Result (List ℕ) FaultKind)) → o ≡ None → o ≡ Some (Ok a) → ⊥
    none o y z = let w = sym y ∙ z in cc

    at : (z : Bool) → is_variable t ≡ z → is_variable t ≡ true
    at true k = k
    at false k = absurd (none (new_name L names t) (unnamed L names t k) e)

-- in the declaration each name counts
abbrev Declaring : Before → List (List ℕ) → Type 0
Declaring b xs = (b.declares ≡ true) × (b.names ≡ length xs)

name_counts : (b : Before) (xs : List (List ℕ)) (t : Counted) (name : List ℕ) → t.before ≡ b → Declaring b xs →
    is_variable t ≡ true → Declaring (behind t) (xs ++ name ∷ [])
name_counts b xs t name same h e =
    let d : t.before.declares ≡ true = ap (λ (z : Before). z.declares) same ∙ h.0 in
    let n : t.before.names ≡ length xs = ap (λ (z : Before). z.names) same ∙ h.1 in
    let next : (behind t).declares ≡ true = ap (λ z. cond z false t.before.declares) (name_apart t e) ∙ d in
    let more : (behind t).names ≡ t.before.names + 1 =
    ap (λ z. one_more (z && is_variable t) t.before.names) d ∙ ap (λ z. one_more z t.before.names) e in
    (next, omega (arith, more, n, length-append xs (name ∷ [])))

names_run : (L : Limits) (b d : Before) (xs : List (List ℕ)) (us : List Counted) (ys : List (List ℕ)) → Declaring b xs →
    IsRun b us d → Many skipped (new_name L) (λ names name. Empty (names ++ name ∷ [])) xs us ys → Declaring d ys
names_run L b d xs us ys h r (NoMore none is) =
    let same : d ≡ b = subst (λ (z : List Counted). IsRun b z d) none r in
    (ap (λ (z : Before). z.declares) same ∙ h.0, ap (λ (z : Before). z.names) same ∙ h.1 ∙ ap length (sym is))
names_run L b d xs us ys h r (OneMore t a vs ws zs z e j whole k m) =
    let q = run_past b d us t vs r e in
    let s = parted L [] (behind t) d vs ws zs whole q.1 in
    let same : s.0 ≡ behind t = subst (λ (y : List Counted). IsRun (behind t) y s.0) k.none s.1 in
    let one : Declaring (behind t) (xs ++ a ∷ []) = name_counts b xs t a q.0 h (new_is_variable L xs t a j) in
    let here : Declaring s.0 z = subst (λ (y : List (List ℕ)). Declaring s.0 y) (sym k.is)
    (subst (λ (y : Before). Declaring y (xs ++ a ∷ [])) (sym same) one) in
    names_run L s.0 d z zs ys here s.2 m

-- a word that is no name counts for nothing
word_counts : (word : List ℕ) (t : Counted) → says word t ≡ true → is_name word ≡ false →
    (behind t).names ≡ t.before.names
word_counts word t e n = ap (λ z. one_more (t.before.declares && z) t.before.names) (ap is_name (text_is word t e) ∙ n)
    ∙ ap (λ z. one_more z t.before.names) (and_false t.before.declares)
  where
    and_false : (z : Bool) → (z && false) ≡ false
    and_false true = refl
    and_false false = refl

-- behind the declaration there are as many names as it declares
declared_count : (L : Limits) (d : Before) (us : List Counted) (names : List (List ℕ)) → IsRun nothing_before us d →
    IsDeclaration L us names → (d.names ≡ length names) × (d.declares ≡ false)
declared_count L d us names r h =
    let p = parted L [] nothing_before d us h.front h.back h.whole r in
    let v = said_run (codes "vars") nothing_before p.0 h.front h.value p.1 h.first in
    let vars : p.0 ≡ behind v.0 = v.2 in
    let begun : Declaring p.0 [] = (
      ap (λ (z : Before). z.declares) vars ∙ ap (λ z. cond (bytes_eq z (codes ";")) false v.0.before.declares)
          (text_is (codes "vars") v.0 v.3) ∙ ap (λ (z : Before). z.declares) v.1,
      ap (λ (z : Before). z.names) vars ∙ word_counts (codes "vars") v.0 v.3 refl ∙ ap (λ (z : Before). z.names) v.1,
    ) in
    let m = h.second in
    let q = parted L [] p.0 d h.back m.front m.back m.whole p.2 in
    let all = names_run L p.0 q.0 [] m.front m.value begun q.1 m.first in
    let n = m.second in
    let s = parted L [] q.0 d m.back n.front n.back n.whole q.2 in
    let w = said_run (codes ";") q.0 s.0 n.front n.value s.1 n.first in
    let last : d ≡ behind w.0 = subst (λ (y : List Counted). IsRun s.0 y d) n.second.none s.2 ∙ w.2 in
    let same : names ≡ m.value = n.second.is in (
      ap (λ (z : Before). z.names) last ∙ word_counts (codes ";") w.0 w.3 refl ∙ ap (λ (z : Before). z.names) w.1
          ∙ all.1 ∙ ap length (sym same),
      ap (λ (z : Before). z.declares) last ∙ ap (λ z. cond z false w.0.before.declares) w.3,
    )

-- ---- how many commas a row has

abbrev Commas : Before → ℕ → Type 0
Commas b n = b.commas ≡ n

-- digits are no sign
digits_apart : (t : Counted) (word : List ℕ) → is_digits t ≡ true → are_digits word ≡ false →
    bytes_eq (text t) word ≡ false
digits_apart t word e n = at (bytes_eq (text t) word) refl
  where
    at : (z : Bool) → bytes_eq (text t) word ≡ z → bytes_eq (text t) word ≡ false
    at false k = k
    at true k = absurd (no_both (is_digits t) e (ap are_digits (text_is word t k) ∙ n))

quiet_token : (t : Counted) → bytes_eq (text t) (codes "[") ≡ false → bytes_eq (text t) (codes ",") ≡ false →
    (behind t).commas ≡ t.before.commas
quiet_token t a b = ap (λ z. cond z 0 (one_more (bytes_eq (text t) (codes ",")) t.before.commas)) a
    ∙ ap (λ z. one_more z t.before.commas) b

digits_quiet : (t : Counted) → is_digits t ≡ true → (behind t).commas ≡ t.before.commas
digits_quiet t e = quiet_token t (digits_apart t (codes "[") e refl) (digits_apart t (codes ",") e refl)

word_quiet : (word : List ℕ) (t : Counted) → says word t ≡ true → bytes_eq word (codes "[") ≡ false →
    bytes_eq word (codes ",") ≡ false → (behind t).commas ≡ t.before.commas
word_quiet word t e a b = quiet_token t (ap (λ z. bytes_eq z (codes "[")) (text_is word t e) ∙ a)
    (ap (λ z. bytes_eq z (codes ",")) (text_is word t e) ∙ b)

-- the first token of an entry
first_quiet : (bound : ℕ) (t : Counted) (f : Option ℕ) → entry_first bound t ≡ Ok f →
    (behind t).commas ≡ t.before.commas
first_quiet bound t f e = at (is_digits t) refl (says (codes "-") t) refl e
  where
    at : (a : Bool) → is_digits t ≡ a → (b : Bool) → says (codes "-") t ≡ b →
        cond a (passed Some (sized bound t)) (cond b (Ok None) (Err Syntax)) ≡ Ok f →
        (behind t).commas ≡ t.before.commas
    at true k b l h = digits_quiet t k
    at false k true l h = word_quiet (codes "-") t l refl refl
    at false k false l h = absurd cc

number_is_digits : (bound : ℕ) (t : Counted) (n : ℕ) → number bound t ≡ Ok n → is_digits t ≡ true
number_is_digits bound t n e = at (is_digits t) refl e
  where
    at : (z : Bool) → is_digits t ≡ z → cond z (sized bound t) (Err Syntax) ≡ Ok n → is_digits t ≡ true
    at true k h = k
    at false k h = absurd cc

empty_run : (b d : Before) (us : List Counted) → us ≡ [] → IsRun b us d → d ≡ b
empty_run b d us e r = subst (λ (z : List Counted). IsRun b z d) e r

abbrev no_limits : Limits
no_limits = record { vars = 0; statements = 0; atoms = 0; depth = 0; number = 0; entry = 0 }

rest_quiet : (bound : ℕ) (b d : Before) (f : Option ℕ) (us : List Counted) (y : ℤ) → IsRun b us d →
    IsEntryRest bound f us y → d.commas ≡ b.commas
rest_quiet bound b d (Some n) us y r h = ap (λ (z : Before). z.commas) (empty_run b d us h.none r)
rest_quiet bound b d None us y r h =
    let t = h.first.token in
    let q = first_run no_limits [] b d us h.front h.back t h.whole h.first.whole r in
    ap (λ (z : Before). z.commas) (empty_run (behind t) d h.back h.second.none q.1)
    ∙ digits_quiet t (number_is_digits bound t h.value h.first.is) ∙ ap (λ (z : Before). z.commas) q.0

entry_quiet : (bound : ℕ) (b d : Before) (us : List Counted) (y : ℤ) → IsRun b us d → IsEntry bound us y →
    d.commas ≡ b.commas
entry_quiet bound b d us y r h =
    let t = h.first.token in
    let q = first_run no_limits [] b d us h.front h.back t h.whole h.first.whole r in
    rest_quiet bound (behind t) d h.value h.back y q.1 h.second ∙ first_quiet bound t h.value h.first.is
    ∙ ap (λ (z : Before). z.commas) q.0

both_first : (p q : Bool) → (p && q) ≡ true → p ≡ true
both_first true q e = refl
both_first false q e = absurd cc

both_second : (p q : Bool) → (p && q) ≡ true → q ≡ true
both_second true q e = e
both_second false q e = absurd cc

abbrev passing : Bool → Option (Result (Unit {0}) FaultKind)
passing z = cond z (Some (Ok tt)) None

comma_says : (R : RowRule) (t : Counted) (u : Unit {0}) → comma R t ≡ Some (Ok u) → says (codes ",") t ≡ true
comma_says R t u e = at (says (codes ",") t && R.goes_on t) refl e
  where
    at : (z : Bool) → (says (codes ",") t && R.goes_on t) ≡ z → passing z ≡ Some (Ok u) → says (codes ",") t ≡ true
    at true k h = both_first (says (codes ",") t) (R.goes_on t) k
    at false k h = absurd cc

comma_counts : (t : Counted) → says (codes ",") t ≡ true → (behind t).commas ≡ t.before.commas + 1
comma_counts t e = ap (λ z. commas_after t.before.commas z) (text_is (codes ",") t e)

entries_run : (R : RowRule) (bound : ℕ) (b d : Before) (xs : List ℤ) (us : List Counted) (ys : List ℤ) →
    b.commas + 1 ≡ length xs → IsRun b us d → Many skipped (λ (xs : List ℤ). comma R)
    (λ xs u. Then (IsEntry bound) (λ y. Empty (xs ++ y ∷ []))) xs us ys → d.commas + 1 ≡ length ys
entries_run R bound b d xs us ys h r (NoMore none is) = let c =
    ap (λ (z : Before). z.commas) (empty_run b d us none r) in let l = ap length is in omega (arith, h, c, l)
entries_run R bound b d xs us ys h r (OneMore t a vs ws zs z e j whole k m) =
    let q = run_past b d us t vs r e in
    let s = parted no_limits [] (behind t) d vs ws zs whole q.1 in
    let p = parted no_limits [] (behind t) s.0 ws k.front k.back k.whole s.1 in
    let one = entry_quiet bound (behind t) p.0 k.front k.value p.1 k.first in
    let last = ap (λ (z : Before). z.commas) (empty_run p.0 s.0 k.back k.second.none p.2) in
    let first = ap (λ (z : Before). z.commas) q.0 in
    let counts = comma_counts t (comma_says R t a j) in
    let l = ap length k.second.is in
    entries_run R bound s.0 d z zs ys (omega (arith, h, one, last, first, counts, l, length-append xs (k.value ∷ [])))
    s.2 m

-- ---- the width of a row

equal : (a b : ℕ) → nat_eq a b ≡ true → a ≡ b
equal a b e = grind (arith, nat_tests)

bare_none : (a c : Bool) (v : Result (Option ℕ) FaultKind) →
    cond a (Ok Bare) (cond c (passed Starts v) (Err Syntax)) ≡ Ok Bare → a ≡ true
bare_none true c v e = refl
bare_none false true (Ok f) e = absurd cc
bare_none false true (Err w) e = absurd cc
bare_none false false v e = absurd cc

end_says : (R : RowRule) (t : Counted) (u : Unit {0}) → row_end R t ≡ Ok u → R.ends t ≡ true
end_says R t u e = at (says (codes "]") t && R.ends t) refl e
  where
    at : (z : Bool) → (says (codes "]") t && R.ends t) ≡ z → cond z (Ok tt) (Err Syntax) ≡ Ok u → R.ends t ≡ true
    at true k h = both_second (says (codes "]") t) (R.ends t) k
    at false k h = absurd cc

more_width : (bound : ℕ) (b d : Before) (x : ℤ) (us : List Counted) (xs : List ℤ) → b.commas ≡ 0 → b.declares ≡ false →
    IsRun b us d → AreMore one_each bound x us xs → length xs ≡ b.names
more_width bound b d x us xs c dec r m =
    let p = parted no_limits [] b d us m.front m.back m.whole r in
    let count = entries_run one_each bound b p.0 (x ∷ []) m.front m.value (omega (arith, c)) p.1 m.first in
    let stay = names_stay b p.0 m.front dec p.1 in
    let n = m.second in
    let t = n.first.token in
    let q = first_run no_limits [] p.0 d m.back n.front n.back t n.whole n.first.whole p.2 in
    let ends = equal (t.before.commas + 1) t.before.names (end_says one_each t n.value n.first.is) in
    let here_commas = ap (λ (z : Before). z.commas) q.0 in
    let here_names = ap (λ (z : Before). z.names) q.0 in
    let l = ap length n.second.is in
    let same = stay.0 in
    omega (arith, count, ends, here_commas, here_names, l, same)

row_width : (bound : ℕ) (b d : Before) (us : List Counted) (xs : List ℤ) → b.declares ≡ false → IsRun b us d →
    IsRow one_each bound us xs → length xs ≡ b.names
row_width bound b d us xs dec r h =
    let p = parted no_limits [] b d us h.front h.back h.whole r in
    let o = said_run (codes "[") b p.0 h.front h.value p.1 h.first in
    let none_yet : p.0.commas ≡ 0 = ap (λ (z : Before). z.commas) o.2 ∙ ap (λ z. commas_after o.0.before.commas z)
    (text_is (codes "[") o.0 o.3) in
    let stay = names_stay b p.0 h.front dec p.1 in
    let m = h.second in
    let t = m.first.token in
    let q = first_run no_limits [] p.0 d h.back m.front m.back t m.whole m.first.whole p.2 in
    at p.0 none_yet stay.1 stay.0 t q.0 m.value m.back q.1 m.first.is m.second
  where
    at : (e : Before) → e.commas ≡ 0 → e.declares ≡ false → e.names ≡ b.names → (t : Counted) → t.before ≡ e →
        (s : RowStart) (vs : List Counted) → IsRun (behind t) vs d → row_first one_each bound t ≡ Ok s →
        IsRowRest one_each bound s vs xs → length xs ≡ b.names
    at e none_yet still same t here Bare vs r j k =
        let none = equal t.before.names 0 (both_second (says (codes "]") t) (one_each.bare t)
        (bare_none (says (codes "]") t && one_each.bare t) (one_each.starts t) (entry_first bound t) j)) in
        let l = ap length k.is in
        let n = ap (λ (z : Before). z.names) here in
        omega (arith, none, l, n, same)
    at e none_yet still same t here (Starts f) vs r j k =
        let first = first_quiet bound t f (starts_first (says (codes "]") t && one_each.bare t) (one_each.starts t)
        (entry_first bound t) f j) in
        let p = parted no_limits [] (behind t) d vs k.front k.back k.whole r in
        let rest = rest_quiet bound (behind t) p.0 f k.front k.value p.1 k.first in
        let c = ap (λ (z : Before). z.commas) here in
        let token = names_stay e (behind t) (t ∷ []) still (here, refl) in
        let entry = names_stay (behind t) p.0 k.front token.1 p.1 in
        more_width bound p.0 d k.value k.back xs (omega (arith, first, rest, c, none_yet)) entry.1 p.2 k.second
        ∙ entry.0 ∙ token.0 ∙ same

-- ---- trace files

module _ (L : Limits) (rule : AssertRule) where
  -- what is spelled among the pieces of a text
  spelled_trace : (ps : List Piece) (us rest : List Counted) (x : TraceFile) → counted nothing_before ps ≡ us ++ rest →
      IsTraceFile L rule us x → IsTraceWithin L x
  spelled_trace ps us rest x e h =
      let f = front_of nothing_before ps us rest e in
      let p = parted L [] nothing_before f.end us h.front h.back h.whole f.run in
      let v = h.first in
      let w = parted L [] nothing_before p.0 h.front v.front v.back v.whole p.1 in
      let count = declared_count L w.0 v.front v.value w.1 v.first in
      let body = names_stay w.0 p.0 v.back count.1 w.2 in
      let a = h.second in
      let q = parted L [] p.0 f.end h.back a.front a.back a.whole p.2 in
      let word = names_stay p.0 q.0 a.front body.1 q.1 in
      let b = a.second in
      let s = parted L [] q.0 f.end a.back b.front b.back b.whole q.2 in
      let width = row_width L.entry q.0 s.0 b.front b.value word.1 s.1 b.first in
      let c = b.second in
      let g = c.second in
      let whole : x ≡ trace_of h.value b.value g.value = g.second.second.is in
      let named : length v.value ≡ length h.value.names = ap (λ (z : Named). length z.names) (sym v.second.second.is) in
      subst (IsTraceWithin L) (sym whole) (record {
        program = spelled_within L rule ps h.front (h.back ++ rest) h.value
            (e ∙ ap (λ (z : List Counted). z ++ rest) h.whole ∙ append_assoc h.front h.back rest) h.first;
        width = width ∙ word.0 ∙ body.0 ∙ count.0 ∙ named;
        start = row_small one_each L.entry b.front b.value b.first;
        choices = row_small any_number L.entry g.front g.value g.first;
      })

  -- what is read
  pub trace_within : (ps : List Piece) (x : TraceFile) (rest : List Counted) →
      trace_file_at L rule (counted nothing_before ps) ≡ Ok (x, rest) → IsTraceWithin L x
  trace_within ps x rest e =
      let ts = counted nothing_before ps in
      let h = (trace_reads L rule (length ts)).texts.takes ts x rest (omega arith) e in
      spelled_trace ps h.taken rest x h.whole h.is
