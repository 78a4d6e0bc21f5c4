-- What the command `tangent` means: the tangent hypergraph of a system at a solution, its types and whether it is
-- extreme; or the first inequality that fails.
use Rattle.std.specs.Prelude.{◌≡◌, ◌⊎◌, ◌↔◌, ◌+◌, ◌<◌, ℕ, zero, suc, Bool, true, false, if◌then◌else◌, List, [], ◌∷◌, ◌++◌, length, take, All, IsTrue, codes, decimal, slice_index_or, slice_get, Some}
use Rattle.trop_theory.specs.Semiring.{Semiring}
use Rattle.trop_theory.specs.Inequalities.{Inequality, IsTrueAt, Solves}
use Rattle.trop_theory.specs.Extreme.{IsExtreme, IsType}
use Rattle.trop_criterion.specs.Tangents.{Attains, IsTight}
use Rattle.trop_text.specs.Pieces.{pieces_of}
use Rattle.trop_spelling.specs.Over.{Holds}
use Rattle.trop_reading.specs.Outcome.{IsFault}
use Rattle.trop_files.specs.AtFiles.{AtText, SpellsAt, at_file_at}
use Rattle.tplib_reply.specs.Meaning.{Meaning, never}

-- the name of a coordinate; coordinate 0, that of the constants, is named 0
abbrev pub coordinate_name : List (List ℕ) → ℕ → List ℕ
coordinate_name names zero = codes "0"
coordinate_name names (suc k) = slice_index_or names k []

-- the names of those coordinates below n that pass the test, in order, each behind a space
unfoldable pub names_of : List (List ℕ) → (ℕ → Bool) → ℕ → List ℕ
names_of names test zero = []
names_of names test (suc i) = names_of names test i ++ (if test i then codes " " ++ coordinate_name names i else [])

-- of the coordinates below n the test passes just those with P
abbrev pub Tells : ℕ → (ℕ → Bool) → (ℕ → Type 0) → Type 0
Tells n test P = (i : ℕ) → i < n → IsTrue (test i) ↔ P i

-- the line of a hyperedge: the number of its inequality, its tail and its head
abbrev pub edge_line : List (List ℕ) → ℕ → ℕ → (ℕ → Bool) → (ℕ → Bool) → List ℕ
edge_line names n k tail head = codes "edge " ++ decimal k ++ codes ":" ++ names_of names tail n ++ codes " ->"
    ++ names_of names head n ++ codes "\n"

-- the line of inequality number k, which is tight at x
pub record IsEdgeLine {V : Type 0} (R : Semiring V) (names : List (List ℕ)) (x : List V) (k : ℕ) (p : Inequality V)
    (line : List ℕ) : Type 0 where
  pub tight : IsTight R p x
  pub tail : ℕ → Bool
  pub head : ℕ → Bool
  pub tail_is : Tells (length x) tail (Attains R p.right x)
  pub head_is : Tells (length x) head (Attains R p.left x)
  pub text : line ≡ edge_line names (length x) k tail head

-- no line where it is not tight
abbrev pub MayBeEdgeLine : {V : Type 0} → Semiring V → List (List ℕ) → List V → ℕ → Inequality V → List ℕ → Type 0
MayBeEdgeLine R names x k p line = IsEdgeLine R names x k p line ⊎ ((IsTight R p x → ⊥) × (line ≡ []))

-- the lines of the inequalities in their order, the first of which has number k
abbrev pub AreEdgeLines : {V : Type 0} → Semiring V → List (List ℕ) → List V → ℕ → List (Inequality V) → List ℕ → Type 0
AreEdgeLines R names x k [] text = text ≡ []
AreEdgeLines R names x k (p ∷ system) text = (line : List ℕ) × (rest : List ℕ) × (text ≡ line ++ rest)
    × MayBeEdgeLine R names x k p line × AreEdgeLines R names x (k + 1) system rest

-- the names, or a word where there are none
abbrev pub or_none : List ℕ → List ℕ
or_none [] = codes " none"
or_none (b ∷ names) = b ∷ names

abbrev pub types_line : List (List ℕ) → ℕ → (ℕ → Bool) → List ℕ
types_line names n types = codes "types:" ++ or_none (names_of names types n) ++ codes "\n"

-- the line of the types of x among the solutions
pub record IsTypesLine {V : Type 0} (R : Semiring V) (names : List (List ℕ)) (n : ℕ) (system : List (Inequality V))
    (x : List V) (line : List ℕ) : Type 0 where
  pub types : ℕ → Bool
  pub types_are : Tells n types (IsType R (Solves R n system) x)
  pub text : line ≡ types_line names n types

-- whether x is extreme among the solutions
abbrev pub IsExtremeLine : {V : Type 0} → Semiring V → ℕ → List (Inequality V) → List V → List ℕ → Type 0
IsExtremeLine R n system x line =
    (IsExtreme R (Solves R n system) x × (line ≡ codes "extreme: yes\n"))
    ⊎ ((IsExtreme R (Solves R n system) x → ⊥) × (line ≡ codes "extreme: no\n"))

-- the answer at a solution
pub record IsSolutionText {V : Type 0} (R : Semiring V) (names : List (List ℕ)) (n : ℕ) (system : List (Inequality V))
    (x : List V) (text : List ℕ) : Type 0 where
  pub solves : Solves R n system x
  pub edges : List ℕ
  pub types : List ℕ
  pub extreme : List ℕ
  pub edges_are : AreEdgeLines R names x 1 system edges
  pub types_are : IsTypesLine R names n system x types
  pub extreme_is : IsExtremeLine R n system x extreme
  pub whole : text ≡ edges ++ types ++ extreme

-- inequality k, from 0, is the first that fails at x
pub record IsFirstFailing {V : Type 0} (R : Semiring V) (system : List (Inequality V)) (x : List V)
    (k : ℕ) : Type 0 where
  pub within : k < length system
  pub before : All (λ p. IsTrueAt R p x) (take k system)
  pub fails : (p : Inequality V) → slice_get system k ≡ Some p → IsTrueAt R p x → ⊥

-- the answer where x is no solution
pub record IsFailureText {V : Type 0} (R : Semiring V) (system : List (Inequality V)) (x : List V)
    (text : List ℕ) : Type 0 where
  pub number : ℕ
  pub first : IsFirstFailing R system x number
  pub whole : text ≡ codes "not a solution: inequality " ++ decimal (number + 1) ++ codes "\n"

-- the answer, and whether x is a solution
abbrev pub IsTangentAnswer : {V : Type 0} → Semiring V → List (List ℕ) → ℕ → List (Inequality V) → List V → Bool →
    List ℕ → Type 0
IsTangentAnswer R names n system x true text = IsSolutionText R names n system x text
IsTangentAnswer R names n system x false text = IsFailureText R system x text

-- the same at the vector of a file, in its semiring
abbrev pub IsTangentFile : AtText → Bool → List ℕ → Type 0
IsTangentFile file solves text = Holds (λ V kind R N p. IsTangentAnswer R file.names
    (length file.names + 1) p.inequalities p.row solves text) file.body

abbrev pub tangent_meaning : Meaning AtText
tangent_meaning = record {
  spells = λ bytes file. SpellsAt (pieces_of bytes) file;
  faulty = IsFault SpellsAt at_file_at;
  stops = never;
  answers = IsTangentFile;
}
