-- What is said of a value over one of the three semirings, in the semiring itself.
use Rattle.trop_theory.specs.Semiring.{Semiring}
use Rattle.trop_theory.specs.Numbers.{Numbering}
use Rattle.trop_spelling.specs.declared.ring_kind.RingKind.{RingKind}
use Rattle.trop_spelling.specs.Over.{Embedding, IsOneOfThree, Holds}

pub Holds-under : {V : Type 0} {kind : RingKind} {R : Semiring V} {N : Numbering V} {over : Embedding V} →
    IsOneOfThree V kind R N over → {F : Type 0 → Type 0}
    (P : (V : Type 0) → RingKind → Semiring V → Numbering V → F V → Type 0) (x : F V) → Holds P (over F x) →
    P V kind R N x
Holds-under one {F} P = one (λ V kind R N over. (x : F V) → Holds P (over F x) → P V kind R N x) (λ x h. h) (λ x h. h)
    (λ x h. h)
