-- Lists of distinct names.
use Rattle.std.specs.Prelude.{◌≡◌, ◌<◌, ◌≤◌, ◌^◌, ℕ, true, List, [], length, Option}
use Rattle.std.specs.List.{All, slice_index_or, position}
use Rattle.std.specs.Str.{bytes_eq}
use Rattle.trop_text.specs.Name.{is_name}

-- each is a name of a variable, no two are the same, and 32 bits number them
pub record AreNames (texts : List (List ℕ)) : Type 0 where
  pub each : All (λ text. is_name text ≡ true) texts
  pub distinct : (i j : ℕ) → i < length texts → j < length texts →
      slice_index_or texts i [] ≡ slice_index_or texts j [] → i ≡ j
  pub few : length texts ≤ 2 ^ 31

-- the place of a text among others, from 0
abbrev pub place_of : List ℕ → List (List ℕ) → Option ℕ
place_of text texts = position (bytes_eq text) texts
