-- The table of the words of each command.
use Rattle.std.specs.Prelude.{◌≡◌, ◌≤◌, ◌⊎◌, ℕ, true, false, List, [], ◌∷◌, ◌++◌, codes, decimal, Option, MatchOption}
use Rattle.trop_words.specs.declared.command.Command.{Command}
use Rattle.trop_words.specs.declared.command.Command.TheVariants.{Reduce, Ext, Int, Tangent, Include, Equal, Join, Meet, Forget, Trace, Analyze, Check, Sample}
use Rattle.trop_words.specs.declared.command.Mode.{Mode}
use Rattle.trop_words.specs.declared.command.Mode.TheVariants.{Max, Min, Mixed, Zone}
use Rattle.trop_words.specs.Names.{IsName}

-- the word of a key and its number
abbrev pub key_word : List ℕ → ℕ → List ℕ
key_word key n = key ++ decimal n

abbrev pub mode_word : Mode → List ℕ
mode_word Max = codes "mode=max"
mode_word Min = codes "mode=min"
mode_word Mixed = codes "mode=mixed"
mode_word Zone = codes "mode=zone"

-- The words of a key and its number: none, where it may be left out and the number is the default.
abbrev pub MaySpell : List ℕ → ℕ → ℕ → List (List ℕ) → Type 0
MaySpell key default n words = ((words ≡ []) × (n ≡ default)) ⊎ (words ≡ key_word key n ∷ [])

-- the words spell this command
abbrev pub IsSpelled : List (List ℕ) → Command → Type 0
IsSpelled words Reduce = words ≡ codes "reduce" ∷ []
IsSpelled words Ext = words ≡ codes "ext" ∷ []
IsSpelled words (Int false) = words ≡ codes "int" ∷ []
IsSpelled words (Int true) = words ≡ codes "int" ∷ codes "lean=on" ∷ []
IsSpelled words Tangent = words ≡ codes "tangent" ∷ []
IsSpelled words Check = words ≡ codes "check" ∷ []
IsSpelled words Include = words ≡ codes "op" ∷ codes "include" ∷ []
IsSpelled words Equal = words ≡ codes "op" ∷ codes "equal" ∷ []
IsSpelled words Join = words ≡ codes "op" ∷ codes "join" ∷ []
IsSpelled words Meet = words ≡ codes "op" ∷ codes "meet" ∷ []
IsSpelled words (Forget var) = IsName var.now × (words ≡ codes "op" ∷ codes "forget" ∷ (codes "var=" ++ var.now) ∷ [])
IsSpelled words (Trace turns) = (turns ≤ 10000) × (words ≡ codes "trace" ∷ key_word (codes "turns=") turns ∷ [])
IsSpelled words (Analyze mode delay narrow) =
    (delay ≤ 1000) × (narrow ≤ 100)
    × ((first : List (List ℕ)) × (second : List (List ℕ)) × MaySpell (codes "delay=") 2 delay first
    × MaySpell (codes "narrow=") 0 narrow second
    × (words ≡ codes "analyze" ∷ mode_word mode ∷ (first ++ second)))
IsSpelled words (Sample seed vars rows) =
    (seed ≤ 2147483647) × (1 ≤ vars) × (vars ≤ 31) × (rows ≤ 1024)
    × (words ≡ codes "sample" ∷ key_word (codes "seed=") seed ∷ key_word (codes "vars=") vars ∷ key_word
    (codes "rows=") rows ∷ [])

-- a command that the words spell, or none where they spell none
abbrev pub IsReading : List (List ℕ) → Option Command → Type 0
IsReading words result = MatchOption result ((command : Command) → IsSpelled words command → ⊥)
    (λ command. IsSpelled words command)
