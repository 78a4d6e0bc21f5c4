-- Files: a header, and what its kind of file has behind it, over the semiring that the header names.
use Rattle.std.specs.Prelude.{ℕ, List}
use Rattle.trop_grammar.specs.Reading.{Reading, ◌>>=◌, gives}
use Rattle.trop_grammar.specs.Grammar.{Empty, Then}
use Rattle.trop_text.specs.Pieces.{Piece}
use Rattle.trop_text.specs.declared.fault.FaultKind.{FaultKind}
use Rattle.trop_spelling.specs.Over.{Over, Grammars, InKind, Readings, in_kind_at}
use Rattle.trop_files.specs.Header.{Header, IsHeader, header_at}

-- A header of this kind of file, and a text of the grammar G in its semiring. They say what `file` makes of both.
abbrev pub SpellsFile : {F : Type 0 → Type 0} → {A : Type 0} → List ℕ → (Header → Grammars F) → (Header → Over F → A) →
    List Piece → A → Type 0
SpellsFile kind G file = Then (IsHeader kind) (λ h. Then (InKind (G h) h.ring) (λ body. Empty (file h body)))

-- ---- reading

unfoldable pub file_rest_at : {F : Type 0 → Type 0} → {A : Type 0} → (Header → Readings F) → (Header → Over F → A) →
    Header → List Piece → Reading Piece FaultKind A
file_rest_at read file h = in_kind_at (read h) h.ring >>= λ body. gives (file h body)

unfoldable pub file_at : {F : Type 0 → Type 0} → {A : Type 0} → List ℕ → (Header → Readings F) → (Header → Over F → A) →
    List Piece → Reading Piece FaultKind A
file_at kind read file = header_at kind >>= file_rest_at read file
