-- Copies of lists, and of a double description.
use Rattle.std.proofs.Common.{◌≡◌, ◌<◌, ◌+◌, ℕ, List, [], ◌∷◌, ◌++◌, length, take, sym, ap, ◌∙◌, subst, get_or}
use Rattle.std.proofs.lemmas.List.{take_more}
use Rattle.trop_theory.specs.Semiring.{Semiring}
use Rattle.trop_theory.specs.Inequalities.{Inequality}
use Rattle.trop_dd.specs.Description.{Description}
use Rattle.trop_dd.specs.Sound.{IsSound}

-- one more element is copied
pub copied_more : {X : Type 0} (xs old new : List X) (i : ℕ) (x y : X) → i < length xs → x ≡ get_or xs i x → y ≡ x →
    old ≡ take i xs → new ≡ old ++ y ∷ [] → new ≡ take (i + 1) xs
copied_more xs old new i x y l read same h e = e ∙ ap (λ o. o ++ y ∷ []) h ∙ ap (λ z. take i xs ++ z ∷ []) (same ∙ read)
    ∙ sym (take_more xs i x l)

module _ {V : Type 0} (n m : ℕ) (system others : List (Inequality V)) (rows copies : List (List V)) (en : m ≡ n)
    (es : others ≡ system) (er : copies ≡ rows) where
  pub same_description : (d : Description V) → record { n = n; system = system; rows = rows } ≡ d →
      record { n = m; system = others; rows = copies } ≡ d
  same_description d e =
      ap (λ k. record { n = k; system = others; rows = copies }) en
      ∙ ap (λ s. record { n = n; system = s; rows = copies }) es
      ∙ ap (λ r. record { n = n; system = system; rows = r }) er ∙ e

  pub copied_sound : (R : Semiring V) → IsSound R n system rows → IsSound R m others copies
  copied_sound R h = subst (λ k. IsSound R k others copies) (sym en)
      (subst (λ s. IsSound R n s copies) (sym es) (subst (IsSound R n system) (sym er) h))
