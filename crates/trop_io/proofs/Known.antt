-- Reads and writes one after another.
use Rattle.std.proofs.Common.{ℕ, List, [], ◌++◌, Option, Some, None, refl, sym, ap, ◌∙◌, append_assoc, rules}
use Rattle.std.specs.Io.KnownBytes.{Consumes, Appends, Keeps}

pub Consumes-none : (a : Option (List ℕ)) → Consumes a a []
Consumes-none None = tt
Consumes-none (Some xs) = refl

pub Consumes-more : (a b c : Option (List ℕ)) (xs ys : List ℕ) → Consumes a b xs → Consumes b c ys →
    Consumes a c (xs ++ ys)
Consumes-more None b c xs ys p q = tt
Consumes-more (Some us) None c xs ys p q = absurd p
Consumes-more (Some us) (Some vs) None xs ys p q = absurd q
Consumes-more (Some us) (Some vs) (Some ws) xs ys p q = p ∙ ap (λ zs. xs ++ zs) q ∙ sym (append_assoc xs ys ws)

pub Consumes-kept : (a b c : Option (List ℕ)) (xs : List ℕ) → Consumes a b xs → Keeps b c → Consumes a c xs
Consumes-kept None b c xs p q = tt
Consumes-kept (Some us) None c xs p q = absurd p
Consumes-kept (Some us) (Some vs) None xs p q = absurd q
Consumes-kept (Some us) (Some vs) (Some ws) xs p q = p ∙ ap (λ zs. xs ++ zs) (sym q)

pub Appends-none : (a : Option (List ℕ)) → Appends a a []
Appends-none None = tt
Appends-none (Some xs) = search rules

pub Appends-more : (a b c : Option (List ℕ)) (xs ys : List ℕ) → Appends a b xs → Appends b c ys → Appends a c (xs ++ ys)
Appends-more None b c xs ys p q = tt
Appends-more (Some us) None c xs ys p q = absurd p
Appends-more (Some us) (Some vs) None xs ys p q = absurd q
Appends-more (Some us) (Some vs) (Some ws) xs ys p q = q ∙ ap (λ zs. zs ++ ys) p ∙ append_assoc us xs ys

pub Appends-kept : (a b c : Option (List ℕ)) (xs : List ℕ) → Appends a b xs → Keeps b c → Appends a c xs
Appends-kept None b c xs p q = tt
Appends-kept (Some us) None c xs p q = absurd p
Appends-kept (Some us) (Some vs) None xs p q = absurd q
Appends-kept (Some us) (Some vs) (Some ws) xs p q = q ∙ p
