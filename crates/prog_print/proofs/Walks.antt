-- Inks one behind the other: each is a token that does not run into the one before, and what stands before the next.
-- Index: Edge, edge_of, may_follow, IsOpening, IsToken, after, after_ink, IsSound, Walks, walks_more, walks_as,
-- after_inks, last_edge, walked.
use Rattle.std.proofs.Common.{◌≡◌, ◌≤◌, ℕ, Bool, true, false, List, [], ◌∷◌, ◌++◌, codes, Ok, decimal}
use Rattle.std.specs.Prelude.{◌==◌, ◌||◌, not, if◌then◌else◌}
use Rattle.std.specs.Str.{bytes_eq}
use Rattle.trop_text.specs.Bytes.{is_letter, is_digit, is_line_feed, is_blank, is_hash}
use Rattle.trop_text.specs.Name.{is_name, is_word}
use Rattle.trop_text.specs.Names.{place_of}
use Rattle.trop_text.specs.Lexed.{are_digits}
use Rattle.trop_text.specs.Tokens.{is_long_sign, is_short_sign}
use Rattle.trop_text.specs.Pieces.{Token}
use Rattle.trop_text.specs.declared.token.TokenKind.TheVariants.{Word}
use Rattle.trop_text.proofs.Written.{tok}
use Rattle.trop_text.proofs.WrittenTokens.{IsShort, IsLong}
use Rattle.prog_texts.specs.Words.{Before, Counted, behind}
use Rattle.prog_texts.specs.Judges.{coordinate}
use Rattle.prog_texts.specs.Inks.{Ink, Says, Name, Number, Blank, Feed, name_text}

-- How what stands before ends: apart from what follows, with a word or a number, or with a sign that a longer one may
-- begin with.
pub data Edge : Type 0 where
  Apart : Edge
  Wordy : Edge
  Open : Edge

abbrev pub is_opening : List ℕ → Bool
is_opening w = bytes_eq w (codes "<") || bytes_eq w (codes ">") || bytes_eq w (codes "=") || bytes_eq w (codes "!")

abbrev pub edge_of_word : List ℕ → Edge
edge_of_word w = if is_word w then Wordy else (if is_opening w then Open else Apart)

abbrev pub edge_of : Ink → Edge
edge_of (Says w) = edge_of_word w
edge_of (Name i) = Wordy
edge_of (Number n) = Wordy
edge_of Blank = Apart
edge_of Feed = Apart

-- a byte with which a sign may go on
abbrev pub goes_further : ℕ → Bool
goes_further b = (b == 61) || (b == 62)

abbrev pub begins_further : List ℕ → Bool
begins_further [] = false
begins_further (b ∷ bs) = goes_further b

abbrev pub may_follow : Edge → Ink → Bool
may_follow Apart i = true
may_follow Wordy (Says w) = not (is_word w)
may_follow Wordy (Name i) = false
may_follow Wordy (Number n) = false
may_follow Wordy Blank = true
may_follow Wordy Feed = true
may_follow Open (Says w) = not (begins_further w)
may_follow Open (Name i) = true
may_follow Open (Number n) = true
may_follow Open Blank = true
may_follow Open Feed = true

-- a sign of one byte with which a longer one begins only before such a byte
pub record IsOpening (b : ℕ) : Type 0 where
  pub stands : (is_line_feed b ≡ false) × (is_blank b ≡ false) × (is_hash b ≡ false)
  pub no_letter : is_letter b ≡ false
  pub no_digit : is_digit b ≡ false
  pub short : is_short_sign b ≡ true
  pub alone : (c : ℕ) → goes_further c ≡ false → is_long_sign b c ≡ false

abbrev pub IsAlone : List ℕ → Type 0
IsAlone [] = ⊥
IsAlone (b ∷ []) = IsShort b
IsAlone (b ∷ c ∷ []) = IsLong b c
IsAlone (b ∷ c ∷ d ∷ bs) = ⊥

abbrev pub IsOpen : List ℕ → Type 0
IsOpen [] = ⊥
IsOpen (b ∷ []) = IsOpening b
IsOpen (b ∷ c ∷ bs) = ⊥

abbrev pub IsToken : Edge → List ℕ → Type 0
IsToken Wordy w = is_word w ≡ true
IsToken Apart w = IsAlone w
IsToken Open w = IsOpen w

-- what stands behind a token of this text
abbrev pub after : Before → List ℕ → Before
after b w = let t : Counted = record { piece = Token (tok Word w 0 0); before = b } in behind t

module _ (bound : ℕ) (names : List (List ℕ)) where
  abbrev pub after_ink : Before → Ink → Before
  after_ink b (Says w) = after b w
  after_ink b (Name i) = after b (name_text names i)
  after_ink b (Number n) = after b (decimal n)
  after_ink b Blank = b
  after_ink b Feed = b

  abbrev pub IsSound : Ink → Type 0
  IsSound (Says w) = IsToken (edge_of_word w) w × (are_digits w ≡ false)
  IsSound (Name i) = (is_name (name_text names i) ≡ true) × (coordinate (place_of (name_text names i) names) ≡ Ok i)
  IsSound (Number n) = n ≤ bound
  IsSound Blank = Unit {0}
  IsSound Feed = Unit {0}

  -- from b and e on, and P holds of where it ends
  abbrev pub Walks : Before → Edge → List Ink → (Before → Edge → Type 0) → Type 0
  Walks b e [] P = P b e
  Walks b e (i ∷ is) P = (may_follow e i ≡ true) × IsSound i × Walks (after_ink b i) (edge_of i) is P

  pub walks_more : (P Q : Before → Edge → Type 0) (is js : List Ink) (b : Before) (e : Edge) → Walks b e is Q →
      ((d : Before) (f : Edge) → Q d f → Walks d f js P) → Walks b e (is ++ js) P
  walks_more P Q [] js b e h k = k b e h
  walks_more P Q (i ∷ is) js b e h k =
      (h.0, h.1, walks_more P Q is js (after_ink b i) (edge_of i) h.2 k)

  pub walks_as : (P Q : Before → Edge → Type 0) (is : List Ink) (b : Before) (e : Edge) → Walks b e is Q →
      ((d : Before) (f : Edge) → Q d f → P d f) → Walks b e is P
  walks_as P Q [] b e h k = k b e h
  walks_as P Q (i ∷ is) b e h k = (h.0, h.1, walks_as P Q is (after_ink b i) (edge_of i) h.2 k)

  abbrev pub after_inks : Before → List Ink → Before
  after_inks b [] = b
  after_inks b (i ∷ is) = after_inks (after_ink b i) is

  abbrev pub last_edge : Edge → List Ink → Edge
  last_edge e [] = e
  last_edge e (i ∷ is) = last_edge (edge_of i) is

  pub walked : (P : Before → Edge → Type 0) (is : List Ink) (b : Before) (e : Edge) → Walks b e is P →
      P (after_inks b is) (last_edge e is)
  walked P [] b e h = h
  walked P (i ∷ is) b e h = walked P is (after_ink b i) (edge_of i) h.2
