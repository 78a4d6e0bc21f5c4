-- How many statements and atoms a text that is spelled has: no more than there may be.
-- Index: said_run, parted, first_run, program_tallied.
use Rattle.std.proofs.Common.{◌≡◌, ◌≤◌, ◌+◌, ℕ, zero, suc, Bool, true, false, cond, Option, Some, None, List, [], ◌∷◌, ◌++◌, codes, Result, Ok, Err, refl, sym, ap, subst, ◌∙◌, arith, ◌||◌, ◌&&◌}
use Rattle.std.specs.Str.{bytes_eq}
use Rattle.trop_text.specs.declared.fault.FaultKind.{FaultKind}
use Rattle.trop_text.specs.declared.fault.FaultKind.TheVariants.{Syntax, TooManyStatements, TooManyAtoms}
use Rattle.trop_text.specs.Pieces.{Piece}
use Rattle.trop_grammar.specs.Grammar.{Empty, Then}
use Rattle.trop_grammar.specs.Lists.{Passes}
use Rattle.shape_grammar.specs.Past.{past}
use Rattle.shape_grammar.specs.Texts.{One, Maybe, LeftOut, Written, Many, NoMore, OneMore}
use Rattle.prog_theory.specs.Conditions.{Cond, And, Or}
use Rattle.prog_theory.specs.Statements.{Stmt, Block}
use Rattle.prog_theory.specs.Statements as tree
use Rattle.prog_theory.specs.Limits.{Limits}
use Rattle.prog_theory.specs.Named.{Named}
use Rattle.prog_theory.specs.Blocks.{and_then}
use Rattle.prog_theory.specs.Numbering.{count, counts}
use Rattle.prog_theory.specs.Atoms.{cond_atoms, stmt_atoms, block_atoms}
use Rattle.prog_texts.specs.AssertRule.{AssertRule}
use Rattle.prog_texts.specs.Words.{Before, Counted, nothing_before, counted, skipped, says, is_variable, is_fresh, is_asking, begins_operand, behind}
use Rattle.prog_texts.specs.Judges.{passed, known, goes_on, is_one_too_many, is_atom_too_many}
use Rattle.prog_texts.specs.Operands.{First, first, IsSaid}
use Rattle.prog_texts.specs.Conditions.{Start, Bang, Bracket, Ask, Compare, opening, start, IsChain, IsConditionOf, IsNegationRest, IsNegation, IsCondition, Nowhere}
use Rattle.prog_texts.specs.Programs.{IsProgram}
use Rattle.prog_texts.specs.Statements.{Verb, Havocs, Assumes, Asserts, Asks, Loops, Skips, Sets, verb, block_sign, IsBlock, IsStatementRest, AreStatements}
use Rattle.prog_texts.proofs.Judged.{IsBegin, begin_is, IsVerb, verb_is}
use Rattle.prog_texts.proofs.Runs.{IsRun, front_of, run_split, run_past, IsTally, tally_then, tally_none, tally_token, tally_more, tally_as, tally_statement, tally_atom, IsFresh, IsAsking, fresh_word, asking_word, asking_bracket, atom_begins}

-- ---- single tokens

-- the word, and what stands behind it
pub said_run : (word : List ℕ) (b d : Before) (us : List Counted) (u : Unit {0}) → IsRun b us d → IsSaid word us u →
    (t : Counted) × (t.before ≡ b) × (d ≡ behind t) × (says word t ≡ true)
said_run word b d us u h s =
    let k = run_past b d us s.token [] h s.whole in
    (s.token, k.0, k.1, is_said (says word s.token) u s.is)
  where
    is_said : (z : Bool) (u : Unit {0}) → cond z (Ok tt) (Err Syntax) ≡ Ok u → z ≡ true
    is_said true u e = refl
    is_said false u e = absurd cc

abbrev linked : Bool → Option (Result (Unit {0}) FaultKind)
linked z = cond z (Some (Ok tt)) None

link_says : (word : List ℕ) (t : Counted) (u : Unit {0}) → goes_on word t ≡ Some (Ok u) → says word t ≡ true
link_says word t u e = at (says word t) refl e
  where
    at : (z : Bool) → says word t ≡ z → linked z ≡ Some (Ok u) → says word t ≡ true
    at true k q = k
    at false k q = absurd cc

-- ---- conditions

module _ (L : Limits) (names : List (List ℕ)) where
  -- a condition that begins where one may
  abbrev Tallies : (List Counted → Cond → Type 0) → Type 0
  Tallies R = (b d : Before) (us : List Counted) (c : Cond) → IsAsking b → IsRun b us d → R us c →
      IsTally L b d 0 (cond_atoms c)

  same_atoms : (b d : Before) (m n : ℕ) → m ≡ n → IsTally L b d 0 m → IsTally L b d 0 n
  same_atoms b d m n e h = subst (λ z. IsTally L b d 0 z) e h

  -- a text in two parts
  pub parted : (b d : Before) (us front back : List Counted) → us ≡ front ++ back → IsRun b us d →
      (c : Before) × IsRun b front c × IsRun c back d
  parted b d us front back e r = run_split b d front back (subst (λ (z : List Counted). IsRun b z d) e r)

  module _ (word : List ℕ) (join : Cond → Cond → Cond) (R : List Counted → Cond → Type 0)
      (some : bytes_eq [] word ≡ false) (asks : is_asking word ≡ true) (other : bytes_eq word (codes "(") ≡ false)
      (adds : (a c : Cond) → cond_atoms (join a c) ≡ cond_atoms a + cond_atoms c) (part : Tallies R) where
    links : (b c d : Before) (x : Cond) (us : List Counted) (y : Cond) → IsTally L b c 0 (cond_atoms x) → IsRun c us d →
        Many skipped (λ (x : Cond). goes_on word) (λ x u. Then R (λ z. Empty (join x z))) x us y →
        IsTally L b d 0 (cond_atoms y)
    links b c d x us y h r (NoMore none is) = subst (λ z. IsTally L b d 0 (cond_atoms z)) (sym is)
        (tally_more L b c d us 0 (cond_atoms x) h r)
    links b c d x us y h r (OneMore t a vs ws zs z e j whole k m) =
        let q = run_past c d us t vs r e in
        let s = parted (behind t) d vs ws zs whole q.1 in
        let p = parted (behind t) s.0 ws k.front k.back k.whole s.1 in
        let one = part (behind t) p.0 k.front k.value (asking_word word t (link_says word t a j) some asks other) p.1
        k.first in
        let both = tally_then L b (behind t) p.0 0 (cond_atoms x) 0 (cond_atoms k.value)
        (tally_more L b c (behind t) (t ∷ []) 0 (cond_atoms x) h (q.0, refl)) one in
        let grown : IsTally L b p.0 0 (cond_atoms z) =
        same_atoms b p.0 (cond_atoms x + cond_atoms k.value) (cond_atoms z)
        (sym (adds x k.value) ∙ ap cond_atoms (sym k.second.is)) both in
        links b s.0 d z zs y (tally_more L b p.0 s.0 k.back 0 (cond_atoms z) grown p.2) s.2 m

    chain_tally : Tallies (IsChain word join R)
    chain_tally b d us c asking r h =
        let s = parted b d us h.front h.back h.whole r in
        links b s.0 d h.value h.back c (part b s.0 h.front h.value asking s.1 h.first) s.2 h.second

  condition_tally : (R : List Counted → Cond → Type 0) → Tallies R → Tallies (IsConditionOf R)
  condition_tally R part = chain_tally (codes "||") Or (IsChain (codes "&&") And R) refl refl refl (λ a c. refl)
      (chain_tally (codes "&&") And R refl refl refl (λ a c. refl) part)

  rest_tally : (Inner : List Counted → Cond → Type 0) → Tallies Inner →
      (room : Bool) (t : Counted) (d : Before) (s : Start) (us : List Counted) (c : Cond) → IsAsking t.before →
      start L names room t ≡ Ok s → IsRun (behind t) us d → IsNegationRest L names Inner s us c →
      IsTally L t.before d 0 (cond_atoms c)
  rest_tally Inner part room t d s us c asking e r h =
      at s us c e r h (begin_is (says (codes "!") t) (says (codes "(") t) (says (codes "?") t) (begins_operand t) room
      (is_atom_too_many L t) (first L names t) s e)
    where
      atom : (us : List Counted) → IsRun (behind t) us d →
          ((says (codes "?") t || begins_operand t) ≡ true) × (is_atom_too_many L t ≡ false) → IsTally L t.before d 0 1
      atom us r k = tally_more L t.before (behind t) d us 0 1 (tally_atom L t (atom_begins t k.0 asking) k.1) r

      at : (s : Start) (us : List Counted) (c : Cond) → start L names room t ≡ Ok s → IsRun (behind t) us d →
          IsNegationRest L names Inner s us c → IsBegin (says (codes "!") t) (says (codes "(") t) (says (codes "?") t)
          (begins_operand t) (is_atom_too_many L t) (first L names t) s → IsTally L t.before d 0 (cond_atoms c)
      at Bang us c e r h k =
          let p = parted (behind t) d us h.front h.back h.whole r in
          let one = part (behind t) p.0 h.front h.value (asking_word (codes "!") t k.told refl refl refl) p.1
          h.first in
          let all = tally_more L t.before p.0 d h.back 0 (cond_atoms h.value)
          (tally_token L t p.0 0 (cond_atoms h.value) one) p.2 in
          subst (λ z. IsTally L t.before d 0 (cond_atoms z)) (sym h.second.is) all
      at Bracket us c e r h k =
          let p = parted (behind t) d us h.front h.back h.whole r in
          let one = condition_tally Inner part (behind t) p.0 h.front h.value
          (asking_bracket t k.told asking) p.1 h.first in
          let all = tally_more L t.before p.0 d h.back 0 (cond_atoms h.value)
          (tally_token L t p.0 0 (cond_atoms h.value) one) p.2 in
          subst (λ z. IsTally L t.before d 0 (cond_atoms z)) (sym h.second.second.is) all
      at Ask us c e r h k = subst (λ z. IsTally L t.before d 0 (cond_atoms z)) (sym h.is)
          (atom us r k.atom)
      at (Compare f) us c e r h k = subst (λ z. IsTally L t.before d 0 (cond_atoms z)) (sym h.second.second.second.is)
          (atom us r k.atom)

  -- a part behind its first token
  pub first_run : (b d : Before) (us front back : List Counted) (t : Counted) → us ≡ front ++ back →
      past skipped front ≡ t ∷ [] → IsRun b us d → (t.before ≡ b) × IsRun (behind t) back d
  first_run b d us front back t whole e r =
      let p = parted b d us front back whole r in
      let q = run_past b p.0 front t [] p.1 e in
      (q.0, subst (λ (z : Before). IsRun z back d) q.1 p.2)

  begun_tally : (Inner : List Counted → Cond → Type 0) → Tallies Inner → (room : Bool) →
      Tallies (Then (One skipped (Passes (start L names room))) (IsNegationRest L names Inner))
  begun_tally Inner part room b d us c asking r h =
      let t = h.first.token in
      let q = first_run b d us h.front h.back t h.whole h.first.whole r in
      subst (λ (z : Before). IsTally L z d 0 (cond_atoms c)) q.0
      (rest_tally Inner part room t d h.value h.back c (subst (λ (z : Before). IsAsking z) (sym q.0) asking)
      h.first.is q.1 h.second)

  negation_tally : (n : ℕ) → Tallies (IsNegation L names n)
  unfolding IsNegation
  negation_tally zero = begun_tally Nowhere (λ b d us c a r h. absurd h) false
  negation_tally (suc n) = begun_tally (IsNegation L names n) (negation_tally n) true

-- ---- statements

begins_it : (a b c d e f g fresh : Bool) → (a || b || c || d || e || f || g) ≡ true → fresh ≡ true →
    (a || b || c || d || e || f || g && fresh) ≡ true
begins_it true b c d e f g fresh h k = refl
begins_it false true c d e f g fresh h k = refl
begins_it false false true d e f g fresh h k = refl
begins_it false false false true e f g fresh h k = refl
begins_it false false false false true f g fresh h k = refl
begins_it false false false false false true g fresh h k = refl
begins_it false false false false false false true fresh h k = k
begins_it false false false false false false false fresh h k = absurd cc

block_sign_says : (room : Bool) (t : Counted) (u : Unit {0}) → block_sign room t ≡ Ok u → says (codes "{") t ≡ true
block_sign_says room t u e = at (says (codes "{") t) refl e
  where
    at : (z : Bool) → says (codes "{") t ≡ z → cond z (opening room tt) (Err Syntax) ≡ Ok u → says (codes "{") t ≡ true
    at true k q = k
    at false k q = absurd cc

module _ (L : Limits) (rule : AssertRule) (names : List (List ℕ)) where
  -- what a block comes to, and that a statement may follow
  record IsTallied (b d : Before) (x : Block) : Type 0 where
    tally : IsTally L b d (counts x) (block_atoms x)
    fresh : IsFresh d

  record IsStatement (b d : Before) (x : Stmt) : Type 0 where
    tally : IsTally L b d (count x) (stmt_atoms x)
    fresh : IsFresh d

  counts_and_then : (xs : Block) (x : Stmt) → counts (and_then xs x) ≡ counts xs + count x
  counts_and_then tree.Empty x = omega arith
  counts_and_then (tree.Then y ys) x = let h = counts_and_then ys x in omega (arith, h)

  atoms_and_then : (xs : Block) (x : Stmt) → block_atoms (and_then xs x) ≡ block_atoms xs + stmt_atoms x
  atoms_and_then tree.Empty x = omega arith
  atoms_and_then (tree.Then y ys) x = let h = atoms_and_then ys x in omega (arith, h)

  ended : (b d : Before) (us : List Counted) → us ≡ [] → IsRun b us d → d ≡ b
  ended b d us e r = subst (λ (z : List Counted). IsRun b z d) e r

  -- a text that ends with this word
  last_said : {A : Type 0} (word : List ℕ) (y x : A) (b d : Before) (us : List Counted) → bytes_eq [] word ≡ false →
      is_fresh word ≡ true → IsRun b us d → Then (IsSaid word) (λ u. Empty y) us x → IsFresh d
  last_said word y x b d us some fresh r h =
      let p = parted L names b d us h.front h.back h.whole r in
      let s = said_run word b p.0 h.front h.value p.1 h.first in
      let same : d ≡ behind s.0 = ended p.0 d h.back h.second.none p.2 ∙ s.2 in
      subst (λ (z : Before). IsFresh z) (sym same) (fresh_word word s.0 s.3 some fresh)

  module _ (room : Bool) (Inner : List Counted → Block → Type 0)
      (part : (b d : Before) (us : List Counted) (x : Block) → IsFresh b → IsRun b us d → Inner us x → IsTallied b d x)
    where
      block_tally : (b d : Before) (us : List Counted) (x : Block) → IsRun b us d → IsBlock room Inner us x →
          IsTallied b d x
      block_tally b d us x r h =
          let t = h.first.token in
          let q = first_run L names b d us h.front h.back t h.whole h.first.whole r in
          let m = h.second in
          let p = parted L names (behind t) d h.back m.front m.back m.whole q.1 in
          let one = part (behind t) p.0 m.front m.value
          (fresh_word (codes "{") t (block_sign_says room t h.value h.first.is) refl refl) p.1 m.first in
          let all = tally_more L t.before p.0 d m.back (counts m.value) (block_atoms m.value)
          (tally_token L t p.0 (counts m.value) (block_atoms m.value) one.tally) p.2 in
          let here : IsTally L b d (counts m.value) (block_atoms m.value) =
          subst (λ (z : Before). IsTally L z d (counts m.value) (block_atoms m.value)) q.0 all in
          record {
            tally = subst (λ z. IsTally L b d (counts z) (block_atoms z)) (sym m.second.second.is) here;
            fresh =
                last_said (codes "}") m.value x p.0 d m.back refl refl p.2 m.second;
          }

      else_tally : (b d : Before) (us : List Counted) (x : Block) → IsFresh b → IsRun b us d →
          Maybe skipped (goes_on (codes "else")) tree.Empty (λ u. IsBlock room Inner) us x → IsTallied b d x
      else_tally b d us x fresh r (LeftOut none is) =
          record {
            tally = subst (λ z. IsTally L b d (counts z) (block_atoms z)) (sym is) (tally_none L b d us r);
            fresh =
                subst (λ (z : Before). IsFresh z) (sym (ended b d us none r)) fresh;
          }
      else_tally b d us x fresh r (Written t a vs e k h) =
          let q = run_past b d us t vs r e in
          let one = block_tally (behind t) d vs x q.1 h in
          record {
            tally = subst (λ (z : Before). IsTally L z d (counts x) (block_atoms x)) q.0
                (tally_token L t d (counts x) (block_atoms x) one.tally);
            fresh = one.fresh;
          }

      -- a statement of no condition and no block
      plain : (b d : Before) (us : List Counted) (t : Counted) → IsTally L b (behind t) 1 0 → IsRun (behind t) us d →
          IsTally L b d 1 0
      plain b d us t h r = tally_more L b (behind t) d us 1 0 h r

      abbrev IsIt : Counted → Verb → Type 0
      IsIt t v = IsVerb (says (codes "havoc") t) (says (codes "assume") t) (says (codes "assert") t)
          (says (codes "if") t)
          (says (codes "while") t) (says (codes "skip") t) (is_variable t) (is_one_too_many L t) (known names t) v

      abbrev Count : Before → Before → Stmt → Type 0
      Count b d z = IsTally L b d (count z) (stmt_atoms z)

      -- what was counted of a statement is what there is to count of it
      statement_is : (b d : Before) (z x : Stmt) → x ≡ z → Count b d z → IsFresh d → IsStatement b d x
      statement_is b d z x e tally fresh = record { tally = subst (Count b d) (sym e) tally; fresh = fresh }

      -- a condition and a block were counted, and a statement may follow
      record IsBranch (b d : Before) (c : Cond) (x : Block) (back : List Counted) : Type 0 where
        end : Before
        tally : IsTally L b end (1 + counts x) (cond_atoms c + block_atoms x)
        fresh : IsFresh end
        run : IsRun end back d

      rest_statement : (n : ℕ) (t : Counted) (d : Before) (v : Verb) (us : List Counted) (x : Stmt) → IsFresh t.before →
          verb L names t ≡ Some (Ok v) → IsRun (behind t) us d → IsStatementRest L rule names n room Inner v us x →
          IsStatement t.before d x
      rest_statement n t d v us x fresh e r h = at v us x r h
          (verb_is (says (codes "havoc") t) (says (codes "assume") t) (says (codes "assert") t) (says (codes "if") t)
          (says (codes "while") t) (says (codes "skip") t) (is_variable t) (is_one_too_many L t) (known names t) v e)
        where
          with_condition : (word : List ℕ) (us : List Counted) (c : Cond) (m : Before) → says word t ≡ true →
              bytes_eq [] word ≡ false → is_asking word ≡ true → bytes_eq word (codes "(") ≡ false →
              IsTally L t.before (behind t) 1 0 → IsRun (behind t) us m → IsCondition L names n us c →
              IsTally L t.before m 1 (cond_atoms c)
          with_condition word us c m says some asks other one r h =
              let two = condition_tally L names (IsNegation L names n) (negation_tally L names n) (behind t) m us c
              (asking_word word t says some asks other) r h in
              tally_as L t.before m (1 + 0) 1 (0 + cond_atoms c) (cond_atoms c) (omega arith) (omega arith)
              (tally_then L t.before (behind t) m 1 0 0 (cond_atoms c) one two)

          first_one : (v : Verb) → IsIt t v → IsTally L t.before (behind t) 1 0
          first_one v k = tally_statement L t (begins_it (says (codes "havoc") t) (says (codes "assume") t)
              (says (codes "assert") t) (says (codes "if") t) (says (codes "while") t) (says (codes "skip") t)
              (is_variable t) (is_fresh t.before.last) k.some fresh) k.allowed

          -- a condition and a block behind it
          branch : {S : Cond → Block → List Counted → Stmt → Type 0} (word : List ℕ) (us : List Counted) (x : Stmt)
              (h : Then (IsCondition L names n) (λ c. Then (IsBlock room Inner) (S c)) us x) → says word t ≡ true →
              bytes_eq [] word ≡ false → is_asking word ≡ true → bytes_eq word (codes "(") ≡ false →
              IsTally L t.before (behind t) 1 0 → IsRun (behind t) us d →
              IsBranch t.before d h.value h.second.value h.second.back
          branch word us x h said some asks other first r =
              let p = parted L names (behind t) d us h.front h.back h.whole r in
              let c = with_condition word h.front h.value p.0 said some asks other first p.1 h.first in
              let m = h.second in
              let q = parted L names p.0 d h.back m.front m.back m.whole p.2 in
              let a = block_tally p.0 q.0 m.front m.value q.1 m.first in
              record {
                end = q.0;
                tally = tally_then L t.before p.0 q.0 1 (cond_atoms h.value) (counts m.value)
                    (block_atoms m.value) c a.tally;
                fresh = a.fresh;
                run = q.2;
              }

          at : (v : Verb) (us : List Counted) (x : Stmt) → IsRun (behind t) us d →
              IsStatementRest L rule names n room Inner v us x → IsIt t v → IsStatement t.before d x
          at Havocs us x r h k =
              let p = parted L names (behind t) d us h.front h.back h.whole r in
              statement_is t.before d (tree.Havoc h.value) x h.second.second.is
              (plain t.before d us t (first_one Havocs k) r)
              (last_said (codes ";") (tree.Havoc h.value) x p.0 d h.back refl refl p.2 h.second)
          at Asserts us x r h k =
              let p = parted L names (behind t) d us h.front h.back h.whole r in
              statement_is t.before d (tree.Assert h.value) x h.second.second.is
              (plain t.before d us t (first_one Asserts k) r)
              (last_said (codes ";") (tree.Assert h.value) x p.0 d h.back refl refl p.2 h.second)
          at Skips us x r h k = statement_is t.before d tree.Skip x h.second.is
              (plain t.before d us t (first_one Skips k) r)
              (last_said (codes ";") tree.Skip x (behind t) d us refl refl r h)
          at Assumes us x r h k =
              let p = parted L names (behind t) d us h.front h.back h.whole r in
              let c = with_condition (codes "assume") h.front h.value p.0 k.told refl refl refl
              (first_one Assumes k) p.1 h.first in
              statement_is t.before d (tree.Assume h.value) x h.second.second.is
              (tally_more L t.before p.0 d h.back 1 (cond_atoms h.value) c p.2)
              (last_said (codes ";") (tree.Assume h.value) x p.0 d h.back refl refl p.2 h.second)
          at Asks us x r h k =
              let a = branch (codes "if") us x h k.told refl refl refl (first_one Asks k) r in
              let m = h.second in
              let n = m.second in
              let s = parted L names a.end d m.back n.front n.back n.whole a.run in
              let b = else_tally a.end s.0 n.front n.value a.fresh s.1 n.first in
              let all = tally_then L t.before a.end s.0 (1 + counts m.value) (cond_atoms h.value + block_atoms m.value)
              (counts n.value) (block_atoms n.value) a.tally b.tally in
              statement_is t.before d (tree.If h.value m.value n.value) x n.second.is
              (tally_more L t.before s.0 d n.back (1 + counts m.value + counts n.value)
              (cond_atoms h.value + block_atoms m.value + block_atoms n.value) all s.2)
              (subst (λ (z : Before). IsFresh z) (sym (ended s.0 d n.back n.second.none s.2)) b.fresh)
          at Loops us x r h k =
              let a = branch (codes "while") us x h k.told refl refl refl (first_one Loops k) r in
              let m = h.second in
              statement_is t.before d (tree.While h.value m.value) x m.second.is
              (tally_more L t.before a.end d m.back (1 + counts m.value) (cond_atoms h.value + block_atoms m.value)
              a.tally a.run)
              (subst (λ (z : Before). IsFresh z) (sym (ended a.end d m.back m.second.none a.run)) a.fresh)
          at (Sets i) us x r h k =
              let p = parted L names (behind t) d us h.front h.back h.whole r in
              let m = h.second in
              let q = parted L names p.0 d h.back m.front m.back m.whole p.2 in
              statement_is t.before d (tree.Set i m.value) x m.second.second.is
              (plain t.before d us t (first_one (Sets i) k) r)
              (last_said (codes ";") (tree.Set i m.value) x q.0 d m.back refl refl q.2 m.second)

      abbrev Step : ℕ → Block → Verb → List Counted → Block → Type 0
      Step n xs v = Then (IsStatementRest L rule names n room Inner v) (λ x. Empty (and_then xs x))

      more : (n : ℕ) (b c d : Before) (xs : Block) (us : List Counted) (ys : Block) →
          IsTally L b c (counts xs) (block_atoms xs) → IsFresh c → IsRun c us d →
          Many skipped (λ (xs : Block). verb L names) (Step n) xs us ys → IsTallied b d ys
      more n b c d xs us ys h fresh r (NoMore none is) =
          record {
            tally = subst (λ z. IsTally L b d (counts z) (block_atoms z)) (sym is)
                (tally_more L b c d us (counts xs) (block_atoms xs) h r);
            fresh =
                subst (λ (z : Before). IsFresh z) (sym (ended c d us none r)) fresh;
          }
      more n b c d xs us ys h fresh r (OneMore t v vs ws zs z e j whole k m) =
          let q = run_past c d us t vs r e in
          let s = parted L names (behind t) d vs ws zs whole q.1 in
          let p = parted L names (behind t) s.0 ws k.front k.back k.whole s.1 in
          let one = rest_statement n t p.0 v k.front k.value (subst (λ (z : Before). IsFresh z) (sym q.0) fresh) j p.1
          k.first in
          let here = subst (λ (z : Before). IsTally L b z (counts xs) (block_atoms xs)) (sym q.0) h in
          let both = tally_then L b t.before p.0 (counts xs) (block_atoms xs) (count k.value)
          (stmt_atoms k.value) here one.tally in
          let same_k : counts xs + count k.value ≡ counts z =
          sym (counts_and_then xs k.value) ∙ ap counts (sym k.second.is) in
          let same_m : block_atoms xs + stmt_atoms k.value ≡ block_atoms z =
          sym (atoms_and_then xs k.value) ∙ ap block_atoms (sym k.second.is) in
          let grown = tally_as L b p.0 (counts xs + count k.value) (counts z) (block_atoms xs + stmt_atoms k.value)
          (block_atoms z) same_k same_m both in
          more n b s.0 d z zs ys (tally_more L b p.0 s.0 k.back (counts z) (block_atoms z) grown p.2)
          (subst (λ (z : Before). IsFresh z) (sym (ended p.0 s.0 k.back k.second.none p.2)) one.fresh) s.2 m

      all : (n : ℕ) (b d : Before) (us : List Counted) (x : Block) → IsFresh b → IsRun b us d →
          Many skipped (λ (xs : Block). verb L names) (Step n) tree.Empty us x → IsTallied b d x
      all n b d us x fresh r h = more n b b d tree.Empty us x (tally_none L b b [] refl) fresh r h

  block_tallied : (n : ℕ) (b d : Before) (us : List Counted) (x : Block) → IsFresh b → IsRun b us d →
      AreStatements L rule names n us x → IsTallied b d x
  unfolding AreStatements
  block_tallied zero b d us x fresh r h = all false Nowhere (λ b d us x f r h. absurd h) 0 b d us x fresh r h
  block_tallied (suc n) b d us x fresh r h = all true (AreStatements L rule names n) (block_tallied n)
      (suc n) b d us x fresh r h

-- ---- programs

pub program_tallied : (L : Limits) (rule : AssertRule) (ps : List Piece) (us rest : List Counted) (p : Named) →
    counted nothing_before ps ≡ us ++ rest → IsProgram L rule us p →
    (counts p.body ≤ L.statements) × (block_atoms p.body ≤ L.atoms)
program_tallied L rule ps us rest p e h =
    let f = front_of nothing_before ps us rest e in
    let q = parted L [] nothing_before f.end us h.front h.back h.whole f.run in
    let m = h.second in
    let s = parted L [] q.0 f.end h.back m.front m.back m.whole q.2 in
    let v = h.first in
    let w = parted L [] nothing_before q.0 h.front v.front v.back v.whole q.1 in
    let x = v.second in
    let y = parted L [] w.0 q.0 v.back x.front x.back x.whole w.2 in
    let fresh = last_said L rule h.value (codes ";") x.value h.value y.0 q.0 x.back refl refl y.2 x.second in
    let body = block_tallied L rule h.value L.depth q.0 s.0 m.front m.value fresh s.1 m.first in
    let all = tally_then L nothing_before q.0 s.0 0 0 (counts m.value) (block_atoms m.value)
    (tally_none L nothing_before q.0 h.front q.1) body.tally in
    let k = all.few in
    let n = all.scarce in
    let same : m.value ≡ p.body = ap (λ (z : Named). z.body) (sym m.second.is) in (
      subst (λ z. counts z ≤ L.statements) same (omega (arith, k)),
      subst (λ z. block_atoms z ≤ L.atoms) same (omega (arith, n)),
    )
