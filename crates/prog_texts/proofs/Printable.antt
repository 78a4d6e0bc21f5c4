-- A program that is spelled may be printed, and what is printed is read back.
-- Index: spelled_printable.
use Rattle.std.proofs.Common.{◌≡◌, ℕ, zero, suc, Bool, true, false, cond, Option, Some, None, List, [], ◌∷◌, ◌++◌, length, codes, Result, Ok, Err, refl, sym, ap, subst, ◌∙◌, append_assoc, nat_le}
use Rattle.std.proofs.lemmas.List.{append-nil}
use Rattle.trop_text.specs.Name.{is_name}
use Rattle.trop_text.specs.Names.{place_of}
use Rattle.trop_text.specs.declared.fault.FaultKind.{FaultKind}
use Rattle.trop_text.specs.declared.fault.FaultKind.TheVariants.{AssertMode, TooManyVars}
use Rattle.shape_grammar.specs.Texts.{Maybe, LeftOut, Written, NoMore, OneMore}
use Rattle.prog_theory.specs.States.{Term}
use Rattle.prog_theory.specs.Statements.{SideWord, One, Greatest, Least, Side, Claim, Stmt, Block}
use Rattle.prog_theory.specs.Statements as tree
use Rattle.prog_theory.specs.Limits.{Limits}
use Rattle.prog_texts.specs.AssertRule.{AssertRule, is_against}
use Rattle.prog_texts.specs.Words.{Counted, text, skipped, says, is_variable}
use Rattle.prog_texts.specs.Judges.{passed, goes_on}
use Rattle.prog_texts.specs.Operands.{First, first}
use Rattle.prog_texts.specs.Conditions.{Nowhere}
use Rattle.prog_texts.specs.Claims.{SideStart, Single, Listed, side_start, AreTerms, IsSideRest, IsSide, IsClaim}
use Rattle.prog_theory.specs.Blocks.{and_then}
use Rattle.prog_texts.specs.Statements.{Verb, Havocs, Assumes, Asserts, Asks, Loops, Skips, Sets, IsBlock, IsStatementRest, AreStatements}
use Rattle.prog_texts.specs.Suits.{SuitsSide, SuitsStmt, SuitsBlock, MayFollow}
use Rattle.prog_theory.specs.Named.{Named}
use Rattle.prog_texts.specs.Programs.{undeclared, AreNew, IsProgram}
use Rattle.prog_texts.proofs.Signs.{text_is}
use Rattle.prog_texts.proofs.NoDeeper.{many_keeps, block_nests, braces_keep, else_keeps, and_then_keeps, claim_keeps}
use Rattle.prog_texts.proofs.PrintedPrograms.{IsPrintable}

-- ---- names

record IsNewName (L : Limits) (before : List (List ℕ)) (a : List ℕ) : Type 0 where
  name : is_name a ≡ true
  fresh : place_of a before ≡ None
  few : nat_le L.vars (length before) ≡ false

new_name_is : (L : Limits) (before : List (List ℕ)) (x a : List ℕ) (b c : Bool) (o : Option ℕ) → is_name x ≡ b →
    nat_le L.vars (length before) ≡ c → place_of x before ≡ o →
    cond b (Some (cond c (Err TooManyVars) (undeclared o x))) None ≡ Some (Ok a) → IsNewName L before a
new_name_is L before x a true false None p q r e = let k : x ≡ a = cc in
    subst (IsNewName L before) k (record { name = p; fresh = r; few = q })
new_name_is L before x a true false (Some i) p q r e = absurd cc
new_name_is L before x a true true o p q r e = absurd cc
new_name_is L before x a false c o p q r e = absurd cc

-- names behind those before
record IsLonger (L : Limits) (before z : List (List ℕ)) : Type 0 where
  more : List (List ℕ)
  whole : z ≡ before ++ more
  may : MayFollow L before more

names_may : (L : Limits) (before : List (List ℕ)) (us : List Counted) (z : List (List ℕ)) → AreNew L before us z →
    IsLonger L before z
names_may L before us z (NoMore none is) = record { more = []; whole = is ∙ sym (append-nil before); may = tt }
names_may L before us z (OneMore t a vs ws zs y e j whole h m) =
    let n = new_name_is L before (text t) a (is_variable t) (nat_le L.vars (length before))
    (place_of (text t) before) refl refl refl j in
    let k = subst (λ q. IsLonger L q z) h.is (names_may L y zs z m) in
    record {
      more = a ∷ k.more;
      whole = k.whole ∙ append_assoc before (a ∷ []) k.more;
      may =
          (n.name, n.fresh, n.few, k.may);
    }

-- ---- sides

module _ (L : Limits) (rule : AssertRule) (names : List (List ℕ)) where
  abbrev IsAdmitted : SideWord → Type 0
  IsAdmitted One = ⊥
  IsAdmitted Greatest = is_against rule (codes "max") ≡ false
  IsAdmitted Least = is_against rule (codes "min") ≡ false

  admitted : (a b p q : Bool) (v : Result First FaultKind) (word : SideWord) →
      (a ≡ true → p ≡ is_against rule (codes "max")) → (b ≡ true → q ≡ is_against rule (codes "min"))
      → cond a (cond p (Err AssertMode) (Ok (Listed Greatest)))
      (cond b (cond q (Err AssertMode) (Ok (Listed Least))) (passed Single v)) ≡ Ok (Listed word) → IsAdmitted word
  admitted true b true q v word h k e = absurd cc
  admitted true b false q v word h k e = let same : Greatest ≡ word = cc in subst IsAdmitted same (sym (h refl))
  admitted false true p true v word h k e = absurd cc
  admitted false true p false v word h k e = let same : Least ≡ word = cc in subst IsAdmitted same (sym (k refl))
  admitted false false p q (Ok x) word h k e = absurd cc
  admitted false false p q (Err w) word h k e = absurd cc

  word_admitted : (t : Counted) (word : SideWord) → side_start L rule names t ≡ Ok (Listed word) → IsAdmitted word
  word_admitted t word e = admitted (says (codes "max") t) (says (codes "min") t) (is_against rule (text t))
      (is_against rule (text t)) (first L names t) word (λ k. ap (is_against rule) (text_is (codes "max") t k))
      (λ k. ap (is_against rule) (text_is (codes "min") t k)) e

  abbrev IsSome : List Term → Type 0
  IsSome [] = ⊥
  IsSome (x ∷ xs) = Unit {0}

  some_snoc : (xs : List Term) (y : Term) → IsSome (xs ++ y ∷ [])
  some_snoc [] y = tt
  some_snoc (x ∷ xs) y = tt

  terms_some : (us : List Counted) (xs : List Term) → AreTerms L names us xs → IsSome xs
  terms_some us xs h = many_keeps IsSome (λ ys a ws z q k. subst IsSome (sym k.second.is) (some_snoc ys k.value))
      (h.value ∷ []) h.back xs tt h.second

  listed_suits : (word : SideWord) (xs : List Term) → IsAdmitted word → IsSome xs → SuitsSide rule word xs
  listed_suits One xs h k = absurd h
  listed_suits Greatest [] h k = absurd k
  listed_suits Greatest (x ∷ xs) h k = h
  listed_suits Least [] h k = absurd k
  listed_suits Least (x ∷ xs) h k = h

  abbrev Suits : Side → Type 0
  Suits s = SuitsSide rule s.word s.terms

  rest_suits : (x : SideStart) (t : Counted) (us : List Counted) (s : Side) → side_start L rule names t ≡ Ok x →
      IsSideRest L names x us s → Suits s
  rest_suits (Single f) t us s e h = subst Suits (sym h.second.is) tt
  rest_suits (Listed word) t us s e h = let m = h.second in
      subst Suits (sym m.second.second.is) (listed_suits word m.value (word_admitted t word e)
      (terms_some m.front m.value m.first))

  side_suits : (us : List Counted) (s : Side) → IsSide L rule names us s → Suits s
  side_suits us s h = rest_suits h.value h.first.token h.back s h.first.is h.second

  -- ---- statements

  abbrev Good : Block → Type 0
  Good b = SuitsBlock rule b

  abbrev GoodStmt : Stmt → Type 0
  GoodStmt x = SuitsStmt rule x

  module _ (d : ℕ) (room : Bool) (Inner : List Counted → Block → Type 0)
      (part : (us : List Counted) (b : Block) → Inner us b → Good b) where
    stmt_suits : (v : Verb) (us : List Counted) (x : Stmt) → IsStatementRest L rule names d room Inner v us x →
        GoodStmt x
    stmt_suits Havocs us x h = subst GoodStmt (sym h.second.second.is) tt
    stmt_suits Assumes us x h = subst GoodStmt (sym h.second.second.is) tt
    stmt_suits Asserts us x h = subst GoodStmt (sym h.second.second.is)
        (claim_keeps L rule names Suits side_suits h.front h.value h.first)
    stmt_suits Asks us x h =
        let m = h.second in
        subst GoodStmt (sym m.second.second.is) (
          braces_keep room Inner Good part m.front m.value m.first,
          else_keeps room Inner Good tt part m.second.front m.second.value m.second.first,
        )
    stmt_suits Loops us x h = let m = h.second in subst GoodStmt (sym m.second.is)
        (braces_keep room Inner Good part m.front m.value m.first)
    stmt_suits Skips us x h = subst GoodStmt (sym h.second.is) tt
    stmt_suits (Sets i) us x h = subst GoodStmt (sym h.second.second.second.is) tt

  block_suits : (d : ℕ) (us : List Counted) (b : Block) → AreStatements L rule names d us b → Good b
  unfolding AreStatements
  block_suits zero us b h = many_keeps Good (λ xs v ws ys q k. subst Good (sym k.second.is)
      (and_then_keeps Good GoodStmt tt (λ x xs h k. (h, k)) (λ x xs h. h) xs k.value q
      (stmt_suits 0 false Nowhere (λ us b h. absurd h) v k.front k.value k.first)))
      tree.Empty us b tt h
  block_suits (suc d) us b h = many_keeps Good (λ xs v ws ys q k. subst Good (sym k.second.is)
      (and_then_keeps Good GoodStmt tt (λ x xs h k. (h, k)) (λ x xs h. h) xs k.value q
      (stmt_suits (suc d) true (AreStatements L rule names d)
      (block_suits d) v k.front k.value k.first))) tree.Empty us b tt h

-- a program that is spelled under a rule may be printed under it
pub spelled_printable : (L : Limits) (rule : AssertRule) (us : List Counted) (p : Named) → IsProgram L rule us p →
    IsPrintable L rule p
spelled_printable L rule us p h =
    let names = h.first.second in
    let n = names_may L [] names.front names.value names.first in
    let declared : h.value ≡ n.more = names.second.second.is ∙ n.whole in
    let whole : p ≡ record { names = h.value; body = h.second.value } = h.second.second.is in
    subst (IsPrintable L rule) (sym whole) (record {
      names = subst (MayFollow L []) (sym declared) n.may;
      sides = block_suits L rule h.value L.depth h.second.front h.second.value h.second.first;
      depth = block_nests L rule h.value L.depth h.second.front h.second.value h.second.first;
    })
