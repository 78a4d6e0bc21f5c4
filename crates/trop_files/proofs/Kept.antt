-- A filter that goes over a list from its end.
use Rattle.std.proofs.Common.{◌≡◌, ◌<◌, Bool, true, false, cond, List, [], ◌∷◌, ◌++◌, length, reverse, refl, sym, ap, subst, ◌∙◌, append_assoc, arith, length-append, All}
use Rattle.std.specs.Prelude.{filter}
use Rattle.std.proofs.Math.ListN.{get_or-append}
use Rattle.std.proofs.lemmas.List.{reverse-append}

cond-append : {X : Type 0} (b : Bool) (x : X) (ys : List X) → cond b (x ∷ ys) ys ≡ cond b (x ∷ []) [] ++ ys
cond-append true x ys = refl
cond-append false x ys = refl

pub filter-last : {X : Type 0} (p : X → Bool) (front rest : List X) (x : X) (whole lines : List X) →
    lines ≡ rest ++ x ∷ [] → front ++ filter p (reverse lines) ≡ whole →
    (front ++ filter p (x ∷ [])) ++ filter p (reverse rest) ≡ whole
filter-last p front rest x whole lines split h =
    append_assoc front (filter p (x ∷ [])) (filter p (reverse rest))
    ∙ ap (λ z. front ++ z) (sym (cond-append (p x) x (filter p (reverse rest)))
    ∙ ap (filter p) (sym (reverse-append rest (x ∷ [])) ∙ ap reverse (sym split))) ∙ h

pub all-front : {X : Type 0} (P : X → Type 0) (lines rest : List X) (x : X) → lines ≡ rest ++ x ∷ [] → All P lines →
    All P rest
all-front {X} P lines rest x split h = λ k d below.
    let all = subst (All P) split h in
    let within : k < length (rest ++ x ∷ []) = omega (arith, length-append {A = X}) in
    subst P (get_or-append rest (x ∷ []) d k below) (all k d within)
