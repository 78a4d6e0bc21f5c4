-- A system that grows line by line.
-- Index: fronts of a system (stop_more, within_none, within_next, stop_here);
-- one line (left_falls, given_is, names_stay, bytes_stay, found_at, fault_at, line_given, stop_line, within_line);
-- the answer (answered, stopped_at).
use Rattle.std.proofs.Common.{◌≡◌, ◌<◌, ◌≤◌, ◌+◌, ◌⊎◌, inl, inr, ℕ, zero, suc, true, Option, Some, None, Result, Ok, Err, List, [], ◌∷◌, ◌++◌, length, take, sym, ap, subst, ◌∙◌, arith, length-append}
use Rattle.std.specs.Prelude.{IfOk, IfErr, IfNone}
use Rattle.std.proofs.lemmas.Bool.{cases_lt}
use Rattle.std.proofs.lemmas.List.{take-append-le, append-nil}
use Rattle.std.proofs.Math.Seq.{take-append_seam}
use Rattle.trop_theory.specs.Semiring.{Semiring}
use Rattle.trop_theory.specs.Numbers.{Numbering}
use Rattle.trop_theory.specs.Inequalities.{Inequality, Solves}
use Rattle.trop_theory.specs.Canonical.{IsOverLimit}
use Rattle.trop_theory.proofs.Distinct.{within_limit}
use Rattle.trop_dd.specs.Description.{Describes}
use Rattle.trop_text.specs.Pieces.{Piece, pieces_of}
use Rattle.trop_text.specs.declared.fault.Fault.{Fault}
use Rattle.trop_text.specs.declared.fault.TextErr.{TextErr}
use Rattle.trop_text.specs.declared.fault.TextErr.TheVariants as texts
use Rattle.trop_spelling.specs.declared.ring_kind.RingKind.{RingKind}
use Rattle.trop_files.specs.Generators.{greatest_number}
use Rattle.trop_spelling.specs.Inequalities.{IsInequality}
use Rattle.trop_files.specs.InequalityFiles.{Systems, InequalityFile, SpellsInequalities, inequality_file_at}
use Rattle.trop_spelling.specs.Over.{Embedding, IsOneOfThree}
use Rattle.trop_spelling.proofs.EachKind.{Holds-over}
use Rattle.trop_files.specs.InequalityLines.{LineReader, GivesLine, GivesNext, file_given}
use Rattle.trop_reading.specs.Outcome.{IsFault, IsRefusal}
use Rattle.trop_cones.specs.RowStops.{IsRowsStop}
use Rattle.tplib_reply.specs.declared.refusal.Refusal.{Refusal}
use Rattle.tplib_reply.specs.declared.refusal.Reply.{Reply}
use Rattle.tplib_reply.specs.declared.stop.Stop.TheVariants.{Rows}
use Rattle.tplib_reply.specs.Meaning.{OverLimit, IsAnswered, IsReply, IsStopped, IsRefused}
use Rattle.tplib_reply.proofs.Unstopped.{at_rows-none}
use Rattle.tplib_cones.specs.Ext.{IsConverted, IsConversionStop, ext_meaning}
use Rattle.tplib_cones.proofs.Lifted.{Holds-under}

-- no front of the system is over the limit
abbrev pub IsWithin : {V : Type 0} → Semiring V → ℕ → List (Inequality V) → Type 0
IsWithin R n system = (j : ℕ) → j ≤ length system → IsOverLimit R (Solves R n (take j system)) → ⊥

-- the bytes spell the names and these inequalities, over one of the three semirings
abbrev pub SpellsLines : {V : Type 0} → Embedding V → List ℕ → List (List ℕ) → List (Inequality V) → Type 0
SpellsLines over bytes names system = SpellsInequalities (pieces_of bytes)
    (record { names = names; inequalities = over Systems system })

take-whole : {X : Type 0} (n : ℕ) (xs : List X) → n ≡ length xs → take n xs ≡ xs
take-whole {X} n xs e = ap (λ m. take m xs) e ∙ ap (take (length xs)) (sym (append-nil xs)) ∙ take-append_seam xs []

module _ {V : Type 0} (R : Semiring V) (n : ℕ) where
  abbrev TooMany : List (Inequality V) → Type 0
  TooMany system = IsOverLimit R (Solves R n system)

  same_front : (xs : List (Inequality V)) (x : Inequality V) (j : ℕ) → j ≤ length xs → take j (xs ++ x ∷ []) ≡ take j xs
  same_front xs x j within = take-append-le j xs (x ∷ []) within

  -- a stop stays one with a further inequality
  pub stop_more : (xs : List (Inequality V)) (x : Inequality V) (k : ℕ) → IsRowsStop R n xs k →
      IsRowsStop R n (xs ++ x ∷ []) k
  stop_more xs x k h = record {
    within = omega (arith, h.within, length-append xs (x ∷ []));
    over = subst TooMany (sym (same_front xs x k h.within)) h.over;
    least = λ j below over. h.least j below (subst TooMany (same_front xs x j (omega (arith, h.within, below))) over);
  }

  within_nothing : (rows : List (List V)) → Describes R n [] rows → IsWithin R n []
  within_nothing rows h zero l o = within_limit R (Solves R n []) rows h.canonical h.within o
  within_nothing rows h (suc j) l o = absurd (omega arith)

  -- the whole space is within the limit
  pub within_none : (xs : List (Inequality V)) (rows : List (List V)) → Describes R n [] rows → xs ≡ [] →
      IsWithin R n xs
  within_none xs rows h none = subst (IsWithin R n) (sym none) (within_nothing rows h)

  within_at : (xs : List (Inequality V)) (x : Inequality V) → IsWithin R n xs → (TooMany (xs ++ x ∷ []) → ⊥) → (j : ℕ) →
      j ≤ length (xs ++ x ∷ []) → (j < length xs + 1) ⊎ (length xs + 1 ≤ j) → TooMany (take j (xs ++ x ∷ [])) → ⊥
  within_at xs x h last j le (inl lt) over = h j (omega arith) (subst TooMany (same_front xs x j (omega arith)) over)
  within_at xs x h last j le (inr past) over = last
      (subst TooMany (take-whole j (xs ++ x ∷ []) (omega (arith, length-append xs (x ∷ [])))) over)

  -- every front stays within the limit with one more inequality
  pub within_next : (xs : List (Inequality V)) (x : Inequality V) → IsWithin R n xs → (TooMany (xs ++ x ∷ []) → ⊥) →
      IsWithin R n (xs ++ x ∷ [])
  within_next xs x h last j le over = within_at xs x h last j le (cases_lt j (length xs + 1)) over

  -- the first stop is at the inequality that was refused
  pub stop_here : (xs : List (Inequality V)) (x : Inequality V) (k : ℕ) → IsWithin R n xs → k ≡ length (xs ++ x ∷ []) →
      TooMany (xs ++ x ∷ []) → IsRowsStop R n (xs ++ x ∷ []) k
  stop_here xs x k h e over = record {
    within = omega (arith, e);
    over = subst TooMany (sym (take-whole k (xs ++ x ∷ []) e)) over;
    least = λ j below over. h j (omega (arith, e, below, length-append xs (x ∷ [])))
        (subst TooMany (same_front xs x j (omega (arith, e, below, length-append xs (x ∷ [])))) over);
  }

-- ---- one line

module _ {V : Type 0} {kind : RingKind} {R : Semiring V} {N : Numbering V} {old new : LineReader V} {x : Inequality V}
    (h : GivesLine kind R N old new x) where
  line_begins : (line : List Piece) → IsInequality kind R N greatest_number old.names line x → 1 ≤ length line
  line_begins line e = let whole = ap length e.whole in let first = ap length e.first.whole in
      omega (arith, whole, first, length-append e.front e.back)

  -- fewer pieces are left
  pub left_falls : length new.left < length old.left
  left_falls = let some = line_begins h.line h.is in
      omega (arith, some, ap length h.whole, length-append h.line new.left)

  pub given_is : new.given ≡ old.given ++ x ∷ []
  given_is = ap (λ r. r.given) h.given

  pub names_stay : new.names ≡ old.names
  names_stay = ap (λ r. r.names) h.given

  pub bytes_stay : new.bytes ≡ old.bytes
  bytes_stay = ap (λ r. r.bytes) h.given

-- where no line is left, the bytes spell what was given
pub found_at : {V : Type 0} (over : Embedding V) (old : LineReader V) (bytes : List ℕ) (names : List (List ℕ))
    (o : Option (Inequality V)) → old.bytes ≡ bytes → old.names ≡ names → o ≡ None
    → IfNone o (SpellsInequalities (pieces_of old.bytes) (file_given over old)) → SpellsLines over bytes names old.given
found_at over old bytes names None b n e h = subst (λ m. SpellsLines over bytes m old.given) n
    (subst (λ z. SpellsLines over z old.names old.given) b h)
found_at over old bytes names (Some x) b n e h = absurd cc

-- a fault of a line is that of the bytes
pub fault_at : (before bytes : List ℕ) (told : TextErr) (f : Fault) → before ≡ bytes → told ≡ texts.Fault f →
    IsRefusal SpellsInequalities inequality_file_at before told → IsFault SpellsInequalities inequality_file_at bytes f
fault_at before bytes told f b e h = subst (λ z. IsFault SpellsInequalities inequality_file_at z f) b
    (subst (IsRefusal SpellsInequalities inequality_file_at before) e h)

-- the inequality of a line that was given
pub line_given : {V : Type 0} (kind : RingKind) (R : Semiring V) (N : Numbering V) (old new : LineReader V)
    (o : Option (Inequality V)) (x : Inequality V) → o ≡ Some x → GivesNext kind R N old new o →
    GivesLine kind R N old new x
line_given kind R N old new o x e h = subst (GivesNext kind R N old new) e h

-- what was pushed is the system so far and the inequality of the line
pub stop_line : {V : Type 0} (R : Semiring V) (n m w k : ℕ) (system given new : List (Inequality V)) (x : Inequality V)
    → IsWithin R n system → system ≡ given → new ≡ given ++ x ∷ [] → m ≡ n → n ≡ w
    → k ≡ length (system ++ x ∷ []) → IsOverLimit R (Solves R m (system ++ x ∷ [])) → IsRowsStop R w new k
stop_line R n m w k system given new x within same grown width wide count over =
    subst (λ z. IsRowsStop R z new k) wide
    (subst (λ z. IsRowsStop R n z k) (ap (λ z. z ++ x ∷ []) same ∙ sym grown)
    (stop_here R n system x k within count (subst (λ z. IsOverLimit R (Solves R z (system ++ x ∷ []))) width over)))

pub within_line : {V : Type 0} (R : Semiring V) (n m : ℕ) (system new : List (Inequality V)) (x : Inequality V) →
    IsWithin R n system → new ≡ system ++ x ∷ [] → m ≡ n → (IsOverLimit R (Solves R m (system ++ x ∷ [])) → ⊥) →
    IsWithin R n new
within_line R n m system new x within grown width last =
    subst (IsWithin R n) (sym grown) (within_next R n system x within
    (subst (λ z. IsOverLimit R (Solves R z (system ++ x ∷ [])) → ⊥) width last))

-- ---- the answer

module _ {V : Type 0} {kind : RingKind} {R : Semiring V} {N : Numbering V} {over : Embedding V}
    (one : IsOneOfThree V kind R N over) (bytes : List ℕ) (names : List (List ℕ)) (system : List (Inequality V))
    (spelled : SpellsLines over bytes names system) where
  abbrev file : InequalityFile
  file = record { names = names; inequalities = over Systems system }

  -- bytes whose system stays within the limit are answered with its solutions
  pub answered : (text : List ℕ) → IsWithin R (length names + 1) system → IsConverted kind R N names system text →
      IsAnswered ext_meaning bytes true text
  answered text within h = record {
    said = file;
    spelled = spelled;
    unstopped = at_rows-none IsConversionStop file
        (λ k stop. let at : IsRowsStop R (length names + 1) system k =
        Holds-under one (λ V kind R N xs. IsRowsStop R (length names + 1) xs k) system stop in
        within k at.within at.over);
    answer = Holds-over one (λ V kind R N xs. IsConverted kind R N names xs text) system h;
  }

  -- and where a front of it passes the limit, the computation stops there
  pub stopped_at : (k : ℕ) → IsRowsStop R (length names + 1) system k → IsStopped ext_meaning bytes OverLimit (Rows k)
  stopped_at k stop = record {
    said = file;
    spelled = spelled;
    stops =
        Holds-over one (λ V kind R N xs. IsRowsStop R (length names + 1) xs k) system stop;
  }

-- ---- bytes that are seen under another name

pub reply_from : (bytes others : List ℕ) → others ≡ bytes → (r : Result Reply Refusal) →
    IfOk r (IsReply ext_meaning others) → IfOk r (IsReply ext_meaning bytes)
reply_from bytes others same r h = subst (λ z. IfOk r (IsReply ext_meaning z)) same h

pub refused_from : (bytes others : List ℕ) → others ≡ bytes → (r : Result Reply Refusal) →
    IfErr r (IsRefused ext_meaning others) → IfErr r (IsRefused ext_meaning bytes)
refused_from bytes others same r h = subst (λ z. IfErr r (IsRefused ext_meaning z)) same h
