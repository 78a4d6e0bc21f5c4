-- Operations in general.
use Rattle.std.proofs.Common.{◌≡◌, ◌≢◌, ◌⊎◌, inl, inr, sym, ap, ◌∙◌, ⊎_elim}

-- four terms of a commutative operation, regrouped
pub swap_middle : {A : Type 0} (op : A → A → A) → ((a b c : A) → op (op a b) c ≡ op a (op b c)) →
    ((a b : A) → op a b ≡ op b a) → (a b c d : A) → op (op a b) (op c d) ≡ op (op a c) (op b d)
swap_middle op assoc comm a b c d =
    assoc a b (op c d)
    ∙ ap (op a) (sym (assoc b c d) ∙ ap (λ e. op e d) (comm b c) ∙ assoc c b d)
    ∙ sym (assoc a c (op b d))
