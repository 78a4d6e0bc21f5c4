-- A header and what stands behind it, up to the end of the input, are a file.
use Rattle.std.proofs.Common.{◌≡◌, ℕ, List, [], ◌∷◌, ◌++◌, refl, sym, ap, ◌∙◌, append_assoc, append-nil}
use Rattle.trop_text.specs.Pieces.{Piece, InputEnd}
use Rattle.trop_spelling.specs.Over.{Over, Grammars, InKind}
use Rattle.trop_files.specs.Header.{Header, IsHeader}
use Rattle.trop_files.specs.Files.{SpellsFile}

-- a header and what stands behind it
pub record AreParts (file_kind : List ℕ) (header : Header) (Body : List Piece → Type 0) (us : List Piece) : Type 0 where
  pub head : List Piece
  pub items : List Piece
  pub whole : us ≡ head ++ items
  pub first : IsHeader file_kind head header
  pub body : Body items

pub file_spelled : {F : Type 0 → Type 0} {A : Type 0} (file_kind : List ℕ) (G : Header → Grammars F)
    (file : Header → Over F → A) (header : Header) (any : Over F) (Body : List Piece → Type 0) →
    ((items : List Piece) → Body items → InKind (G header) header.ring (items ++ InputEnd ∷ []) any) →
    (us : List Piece) → AreParts file_kind header Body us →
    SpellsFile file_kind G file (us ++ InputEnd ∷ []) (file header any)
file_spelled file_kind G file header any Body to us h =
    let rest = h.items ++ InputEnd ∷ [] in
    record {
      front = h.head;
      back = rest;
      value = header;
      whole = ap (λ ps. ps ++ InputEnd ∷ []) h.whole ∙ append_assoc h.head h.items (InputEnd ∷ []);
      first = h.first;
      second = record {
        front = rest;
        back = [];
        value = any;
        whole = sym (append-nil rest);
        first = to h.items h.body;
        second = record { none = refl; is = refl };
      };
    }
