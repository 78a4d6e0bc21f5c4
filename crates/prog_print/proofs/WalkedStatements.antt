-- Statements and programs walk: their tokens stand apart, and as many statements and atoms begin as they have.
-- Index: IsRest, Ended, stmt_walks, block_walks, names_walks, program_walks.
use Rattle.std.proofs.Common.{◌≡◌, ◌≤◌, ◌<◌, ◌+◌, ◌^◌, ℕ, zero, suc, true, false, List, [], ◌∷◌, ◌++◌, length, codes, refl, sym, subst, arith}
use Rattle.std.specs.Prelude.{All}
use Rattle.trop_text.specs.Name.{is_name, is_word}
use Rattle.trop_text.specs.Names.{AreNames}
use Rattle.trop_text.proofs.WrittenTokens.{IsShort, IsLong}
use Rattle.prog_theory.specs.Statements.{Stmt, Set, Havoc, Assume, Assert, If, While, Skip, Block, Empty, Then}
use Rattle.prog_theory.specs.Nesting.{Loose}
use Rattle.prog_theory.specs.Named.{Named}
use Rattle.prog_theory.specs.Fits.{FitsStmt, FitsBlock}
use Rattle.prog_theory.specs.Each.{EachStmt, EachBlock, EachClaim, EachClaims}
use Rattle.prog_theory.specs.Within.{IsClaim, IsNumberWithin}
use Rattle.prog_theory.specs.Numbering.{count, counts}
use Rattle.prog_theory.specs.Atoms.{cond_atoms, stmt_atoms, block_atoms}
use Rattle.prog_texts.specs.Words.{Before, nothing_before, is_asking}
use Rattle.prog_texts.specs.Inks.{Ink, Says, Name, Blank, Feed, name_text}
use Rattle.prog_texts.specs.Printed.{term_inks, cond_inks, claim_inks, indent, closing, else_inks, stmt_inks, block_inks, names_inks, program_inks}
use Rattle.prog_print.proofs.Walks.{Edge, Apart, Wordy, edge_of_word, IsToken, IsSound, Walks, walks_more, walks_as, after}
use Rattle.prog_print.proofs.PlainTexts.{name_plain, name_word, word_digits, plain_unasked, some_statement, itself, chained, plus_none, chained_plus}
use Rattle.prog_print.proofs.WalkedTerms.{IsQuiet, IsSolid, Done, blank_follows, solid_follows, name_sound, unasked_walks, cond_walks, claim_walks}

semicolon_alone : IsShort 59
semicolon_alone = record {
  stands = (refl, refl, refl);
  no_letter = refl;
  no_digit = refl;
  short = refl;
  alone = λ c.
      refl;
}

left_alone : IsShort 123
left_alone = record { stands = (refl, refl, refl); no_letter = refl; no_digit = refl; short = refl; alone = λ c. refl }

right_alone : IsShort 125
right_alone = record { stands = (refl, refl, refl); no_letter = refl; no_digit = refl; short = refl; alone = λ c. refl }

set_alone : IsLong 58 61
set_alone = record { stands = (refl, refl, refl); no_letter = refl; no_digit = refl; long = refl }

-- no atom begins here
abbrev pub IsRest : Before → Type 0
IsRest b = is_asking b.last ≡ false

-- at most so many statements and atoms more, at the begin of a line
pub record Ended (b : Before) (k m : ℕ) (d : Before) (f : Edge) : Type 0 where
  pub rest : IsRest d
  pub apart : f ≡ Apart
  pub statements : d.statements ≤ b.statements + k
  pub atoms : d.atoms ≤ b.atoms + m

module _ (bound : ℕ) (small : bound < 2 ^ 64) (names : List (List ℕ)) (are : AreNames names) where
  abbrev W : Before → Edge → List Ink → (Before → Edge → Type 0) → Type 0
  W b e is P = Walks bound names b e is P

  ended_then : (b c d : Before) (f g : Edge) (k m k' m' k'' m'' : ℕ) → Ended b k m c f → Ended c k' m' d g →
      k + k' ≤ k'' → m + m' ≤ m'' → Ended b k'' m'' d g
  ended_then b c d f g k m k' m' k'' m'' h i p q =
      let h0 = h.statements in let h1 = h.atoms in let i0 = i.statements in let i1 = i.atoms in
      record { rest = i.rest; apart = i.apart; statements = omega (arith, h0, i0, p); atoms = omega (arith, h1, i1, q) }

  -- what is done is ended by `;` and the end of the line
  line_ends : (b c d : Before) (f : Edge) (k m n l : ℕ) → Done c n d f → c.statements ≤ b.statements + k →
      c.atoms ≤ b.atoms + m → m + n ≤ l → W d f (Says (codes ";") ∷ Feed ∷ []) (Ended b k l)
  line_ends b c d f k m n l h st at sum =
      let h0 = h.statements in let h1 = h.atoms in
      let st1 : d.statements ≤ b.statements + k = omega (arith, st, h0) in
      let at1 : d.atoms ≤ b.atoms + l = omega (arith, at, h1, sum) in (
        solid_follows f (codes ";") h.solid refl,
        (semicolon_alone, refl),
        (
          refl,
          tt,
          record { rest = refl; apart = refl; statements = st1; atoms = at1 },
        ),
      )

  indent_walks : (P : Before → Edge → Type 0) (n : ℕ) (js : List Ink) (b : Before) → W b Apart js P →
      W b Apart (indent n ++ js) P
  indent_walks P zero js b h = h
  indent_walks P (suc n) js b h = (refl, tt, (refl, tt, indent_walks P n js b h))

  -- the line behind a block
  closing_walks : (n : ℕ) (b c : Before) (k m : ℕ) → c.statements ≤ b.statements + k → c.atoms ≤ b.atoms + m →
      W c Apart (indent n ++ closing) (Ended b k m)
  closing_walks n b c k m st at = indent_walks (Ended b k m) n closing c (
    refl,
    (right_alone, refl),
    (
      refl,
      tt,
      record { rest = refl; apart = refl; statements = st; atoms = at },
    ),
  )

  abbrev Goes : ℕ → Block → Type 0
  Goes n x = (b : Before) → IsRest b → W b Apart (block_inks n x) (Ended b (counts x) (block_atoms x))

  at_apart : (P : Before → Edge → Type 0) (is : List Ink) (b : Before) (e : Edge) → e ≡ Apart → W b Apart is P → W b e
      is P
  at_apart P is b e same h = subst (λ z. W b z is P) (sym same) h

  else_walks : (n : ℕ) (x : Block) → Goes (suc n) x → (b : Before) → IsRest b →
      W b Apart (else_inks n x (block_inks (suc n) x)) (Ended b (counts x) (block_atoms x))
  else_walks n Empty goes b rest = record { rest = rest; apart = refl; statements = omega arith; atoms = omega arith }
  else_walks n (Then x xs) goes b rest =
      let v = after (after (after b (codes "}")) (codes "else")) (codes "{") in
      indent_walks (Ended b (counts (Then x xs)) (block_atoms (Then x xs))) n (Says (codes "}") ∷ Blank ∷ Says (codes
      "else") ∷ Blank ∷ Says (codes "{") ∷ Feed
      ∷ block_inks (suc n) (Then x xs)) b (
        refl,
        (right_alone, refl),
        (
          refl,
          tt,
          (
            refl,
            (refl, refl),
            (
              refl,
              tt,
              (
                refl,
                (left_alone, refl),
                (
                  refl,
                  tt,
                  walks_as bound names (Ended b (counts (Then x xs)) (block_atoms (Then x xs)))
                      (Ended v (counts (Then x xs)) (block_atoms (Then x xs))) (block_inks (suc n) (Then x xs)) v
                      Apart (goes v refl)
                      (λ d f h. let h0 = h.statements in let h1 = h.atoms in
                      record { rest = h.rest; apart = h.apart; statements = h0; atoms = h1 }),
                ),
              ),
            ),
          ),
        ),
      )

  -- the sign `{` and the end of the line, behind a condition
  abbrev opened : List Ink → List Ink
  opened is = Blank ∷ Says (codes "{") ∷ Feed ∷ is

  -- a word at the begin of a line, and a blank
  worded : (P : Before → Edge → Type 0) (w : List ℕ) (js : List Ink) (b : Before) → IsSound bound names (Says w) →
      W (after b w) Apart js P → W b Apart (Says w ∷ Blank ∷ js) P
  worded P w js b s h = (refl, s, (blank_follows (edge_of_word w), tt, h))

  opened_walks : (P : Before → Edge → Type 0) (js : List Ink) (d : Before) (f : Edge) →
      W (after d (codes "{")) Apart js P → W d f (opened js) P
  opened_walks P js d f h = (blank_follows f, tt, (refl, (left_alone, refl), (refl, tt, h)))

  while_walks : (n : ℕ) (a : Block) → Goes (suc n) a → (b c d : Before) (f : Edge) (m : ℕ) → Done c m d f →
      c.statements ≤ b.statements + 1 → c.atoms ≤ b.atoms →
      W d f (opened (block_inks (suc n) a ++ (indent n ++ closing))) (Ended b (1 + counts a) (m + block_atoms a))
  while_walks n a goes b c d f m h st at =
      let v = after d (codes "{") in
      let h0 = h.statements in let h1 = h.atoms in
      opened_walks (Ended b (1 + counts a) (m + block_atoms a)) (block_inks (suc n) a ++ (indent n ++ closing)) d f
      (walks_more bound names (Ended b (1 + counts a) (m + block_atoms a)) (Ended v (counts a) (block_atoms a))
      (block_inks (suc n) a) (indent n ++ closing) v Apart (goes v refl)
      (λ u g k. let k0 : u.statements ≤ d.statements + counts a = k.statements in
      let k1 : u.atoms ≤ d.atoms + block_atoms a = k.atoms in
      at_apart (Ended b (1 + counts a) (m + block_atoms a)) (indent n ++ closing) u g k.apart
      (closing_walks n b u (1 + counts a) (m + block_atoms a) (omega (arith, st, h0, k0)) (omega (arith, at, h1, k1)))))

  if_walks : (n : ℕ) (a x : Block) → Goes (suc n) a → Goes (suc n) x → (b c d : Before) (f : Edge) (m : ℕ) → Done c m
      d f →
      c.statements ≤ b.statements + 1 → c.atoms ≤ b.atoms →
      W d f (opened (block_inks (suc n) a ++ (else_inks n x (block_inks (suc n) x) ++ (indent n ++ closing))))
      (Ended b (1 + counts a + counts x) (m + block_atoms a + block_atoms x))
  if_walks n a x ga gx b c d f m h st at =
      let v = after d (codes "{") in
      let h0 = h.statements in let h1 = h.atoms in
      let K = 1 + counts a + counts x in
      let M = m + block_atoms a + block_atoms x in
      let rest : List Ink = else_inks n x (block_inks (suc n) x) ++ (indent n ++ closing) in
      opened_walks (Ended b K M) (block_inks (suc n) a ++ rest) d f
      (walks_more bound names (Ended b K M) (Ended v (counts a) (block_atoms a)) (block_inks (suc n) a) rest v Apart
      (ga v refl)
      (λ u g k. let k0 : u.statements ≤ d.statements + counts a = k.statements in
      let k1 : u.atoms ≤ d.atoms + block_atoms a = k.atoms in
      at_apart (Ended b K M) rest u g k.apart
      (walks_more bound names (Ended b K M) (Ended u (counts x) (block_atoms x))
      (else_inks n x (block_inks (suc n) x)) (indent n ++ closing) u Apart (else_walks n x gx u k.rest)
      (λ w z l. let l0 = l.statements in let l1 = l.atoms in
      at_apart (Ended b K M) (indent n ++ closing) w z l.apart
      (closing_walks n b w K M (omega (arith, st, h0, k0, l0)) (omega (arith, at, h1, k1, l1)))))))

  -- what holds of the parts of statements
  abbrev Num : ℕ → Type 0
  Num x = Unit {0}

  mutual
    pub stmt_walks : (n : ℕ) (x : Stmt) (b : Before) → FitsStmt (length names) x →
        EachStmt Num (IsNumberWithin bound) x → EachClaim IsClaim x → IsRest b →
        W b Apart (stmt_inks n x) (Ended b (count x) (stmt_atoms x))
    stmt_walks n (Set i t) b fits within sides rest =
        let s = name_sound bound small names are i fits.0.0 fits.0.1 in
        let w = name_text names i in
        let p = name_plain w s.0 in
        let v = after (after b w) (codes ":=") in
        let st = some_statement w b in
        let at = plain_unasked w b p rest in (
          refl,
          s,
          (
            refl,
            tt,
            (
              refl,
              (set_alone, refl),
              (
                refl,
                tt,
                walks_more bound names (Ended b 1 0) (Done v 0) (term_inks t) (Says (codes ";") ∷ Feed ∷ []) v Apart
                    (unasked_walks bound small names are t v Apart fits.1 within.1 refl tt refl)
                    (λ d f h. line_ends b v d f 1 0 0 0 h st (plus_none _ _ at) (omega arith)),
              ),
            ),
          ),
        )
    stmt_walks n (Havoc i) b fits within sides rest =
        let s = name_sound bound small names are i fits.0 fits.1 in
        let w = name_text names i in
        let p = name_plain w s.0 in
        let c = after b (codes "havoc") in
        let st = p.statements c refl in
        let at = plain_unasked w c p refl in
        worded (Ended b 1 0) (codes "havoc") (Name i ∷ Says (codes ";") ∷ Feed ∷ []) b (refl, refl) (
          refl,
          s,
          line_ends b (after c w) (after c w) Wordy 1 0 0 0
              (record {
                quiet = record { fresh = p.fresh; asking = p.asking };
                solid = tt;
                statements = itself (after c w).statements;
                atoms = plus_none _ _ (itself (after c w).atoms);
              }) st (plus_none _ _ at) (omega arith),
        )
    stmt_walks n (Assume x) b fits within sides rest =
        let c = after b (codes "assume") in
        let end : List Ink = Says (codes ";") ∷ Feed ∷ [] in
        worded (Ended b 1 (cond_atoms x)) (codes "assume") (cond_inks Loose x ++ end) b (refl, refl)
        (walks_more bound names (Ended b 1 (cond_atoms x)) (Done c (cond_atoms x)) (cond_inks Loose x) end c Apart
        (cond_walks bound small names are Loose x c Apart fits within refl tt)
        (λ d f h. line_ends b c d f 1 0 (cond_atoms x) (cond_atoms x) h (itself (b.statements + 1))
        (plus_none _ _ (itself b.atoms)) (omega arith)))
    stmt_walks n (Assert x) b fits within sides rest =
        let c = after b (codes "assert") in
        let end : List Ink = Says (codes ";") ∷ Feed ∷ [] in
        worded (Ended b 1 0) (codes "assert") (claim_inks x ++ end) b (refl, refl)
        (walks_more bound names (Ended b 1 0) (Done c 0) (claim_inks x) end c Apart
        (claim_walks bound small names are x c sides fits.0 fits.1 within.0 within.1 refl refl)
        (λ d f h. line_ends b c d f 1 0 0 0 h (itself (b.statements + 1)) (plus_none _ _ (itself b.atoms))
        (omega arith)))
    stmt_walks n (If x a y) b fits within sides rest =
        let c = after b (codes "if") in
        let K = 1 + counts a + counts y in
        let M = cond_atoms x + block_atoms a + block_atoms y in
        let blocks : List Ink =
        opened (block_inks (suc n) a ++ (else_inks n y (block_inks (suc n) y) ++ (indent n ++ closing))) in
        worded (Ended b K M) (codes "if") (cond_inks Loose x ++ blocks) b (refl, refl)
        (walks_more bound names (Ended b K M) (Done c (cond_atoms x)) (cond_inks Loose x) blocks c Apart
        (cond_walks bound small names are Loose x c Apart fits.0 within.0 refl tt)
        (λ d f h. if_walks n a y (λ v r. block_walks (suc n) a v fits.1 within.1 sides.0 r)
        (λ v r. block_walks (suc n) y v fits.2 within.2 sides.1 r) b c d f (cond_atoms x) h
        (itself (b.statements + 1)) (itself b.atoms)))
    stmt_walks n (While x a) b fits within sides rest =
        let c = after b (codes "while") in
        let K = 1 + counts a in
        let M = cond_atoms x + block_atoms a in
        let body : List Ink = opened (block_inks (suc n) a ++ (indent n ++ closing)) in
        worded (Ended b K M) (codes "while") (cond_inks Loose x ++ body) b (refl, refl)
        (walks_more bound names (Ended b K M) (Done c (cond_atoms x)) (cond_inks Loose x) body c Apart
        (cond_walks bound small names are Loose x c Apart fits.0 within.0 refl tt)
        (λ d f h. while_walks n a (λ v r. block_walks (suc n) a v fits.1 within.1 sides r) b c d f (cond_atoms x) h
        (itself (b.statements + 1)) (itself b.atoms)))
    stmt_walks n Skip b fits within sides rest =
        let c = after b (codes "skip") in (
          refl,
          (refl, refl),
          line_ends b c c Wordy 1 0 0 0
              (record {
                quiet = record { fresh = refl; asking = refl };
                solid = tt;
                statements = itself (b.statements + 1);
                atoms = plus_none _ _ (itself b.atoms);
              }) (itself (b.statements + 1)) (plus_none _ _ (itself b.atoms)) (omega arith),
        )

    pub block_walks : (n : ℕ) (x : Block) (b : Before) → FitsBlock (length names) x →
        EachBlock Num (IsNumberWithin bound) x → EachClaims IsClaim x → IsRest b →
        W b Apart (block_inks n x) (Ended b (counts x) (block_atoms x))
    block_walks n Empty b fits within sides rest =
        record { rest = rest; apart = refl; statements = omega arith; atoms = omega arith }
    block_walks n (Then x xs) b fits within sides rest =
        let K = count x + counts xs in
        let M = stmt_atoms x + block_atoms xs in
        indent_walks (Ended b K M) n (stmt_inks n x ++ block_inks n xs) b
        (walks_more bound names (Ended b K M) (Ended b (count x) (stmt_atoms x)) (stmt_inks n x) (block_inks n xs) b
        Apart (stmt_walks n x b fits.0 within.0 sides.0 rest)
        (λ d f h. at_apart (Ended b K M) (block_inks n xs) d f h.apart
        (walks_as bound names (Ended b K M) (Ended d (counts xs) (block_atoms xs)) (block_inks n xs) d Apart
        (block_walks n xs d fits.1 within.1 sides.1 h.rest)
        (λ u g k. ended_then b d u f g (count x) (stmt_atoms x) (counts xs) (block_atoms xs) K M h k (omega arith)
        (omega arith)))))

  -- ---- programs

  word_edge : (w : List ℕ) → is_word w ≡ true → edge_of_word w ≡ Wordy
  word_edge w h = rw h refl

  names_walks : (xs : List (List ℕ)) (b : Before) (e : Edge) → All (λ x. is_name x ≡ true) xs → IsQuiet b → IsSolid e →
      W b e (names_inks xs) (Done b 0)
  names_walks [] b e h q s = record { quiet = q; solid = s; statements = omega arith; atoms = omega arith }
  names_walks (x ∷ xs) b e h q s =
      let name : is_name x ≡ true = h 0 [] (omega arith) in
      let word = name_word x name in
      let edge = word_edge x word in
      let p = name_plain x name in
      let v = after b x in
      let st = p.statements b q.fresh in
      let at = plain_unasked x b p q.asking in
      let k = walks_as bound names (Done b 0) (Done v 0) (names_inks xs) v (edge_of_word x)
      (names_walks xs v (edge_of_word x) (λ i d l. h (suc i) d (omega arith))
      (record { fresh = p.fresh; asking = p.asking }) (subst IsSolid (sym edge) tt))
      (λ d f l. record {
        quiet = l.quiet;
        solid = l.solid;
        statements = chained _ _ _ l.statements st;
        atoms = chained_plus _ _ _ 0 l.atoms at;
      }) in
      (blank_follows e, tt, (refl, (subst (λ z. IsToken z x) (sym edge) word, word_digits x word), k))

  pub program_walks : (p : Named) → names ≡ p.names → FitsBlock (length names) p.body →
      EachBlock Num (IsNumberWithin bound) p.body → EachClaims IsClaim p.body →
      W nothing_before Apart (program_inks p) (Ended nothing_before (counts p.body) (block_atoms p.body))
  program_walks p same fits within sides =
      let c = after nothing_before (codes "vars") in
      let K = counts p.body in
      let M = block_atoms p.body in (
        refl,
        (refl, refl),
        walks_more bound names (Ended nothing_before K M) (Done c 0) (names_inks p.names)
            (Says (codes ";") ∷ Feed ∷ block_inks 0 p.body) c Wordy
            (names_walks p.names c Wordy (subst (λ (z : List (List ℕ)). All (λ x. is_name x ≡ true) z) same are.each)
            (record { fresh = refl; asking = refl }) tt)
            (λ d f h. let v = after d (codes ";") in
            let h0 : d.statements ≤ 0 = h.statements in
            let h1 : d.atoms ≤ 0 = h.atoms in (
              solid_follows f (codes ";") h.solid refl,
              (semicolon_alone, refl),
              (
                refl,
                tt,
                walks_as bound names (Ended nothing_before K M) (Ended v K M) (block_inks 0 p.body) v Apart
                    (block_walks 0 p.body v fits within sides refl)
                    (λ u g k. let k0 : u.statements ≤ d.statements + K = k.statements in
                    let k1 : u.atoms ≤ d.atoms + M = k.atoms in
                    let st : u.statements ≤ 0 + K = omega (arith, h0, k0) in
                    let at : u.atoms ≤ 0 + M = omega (arith, h1, k1) in
                    record { rest = k.rest; apart = k.apart; statements = st; atoms = at }),
              ),
            )),
      )
