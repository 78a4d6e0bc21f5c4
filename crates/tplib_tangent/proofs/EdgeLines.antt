-- One more line behind the lines of the hyperedges.
use Rattle.std.proofs.Common.{◌≡◌, ◌<◌, ◌+◌, ◌++◌, ◌∷◌, [], ℕ, suc, List, Some, length, take, sym, ap, ◌∙◌, refl, subst, append_assoc, arith}
use Rattle.std.specs.Prelude.{slice_get}
use Rattle.std.proofs.lemmas.List.{append-nil, take_more, length-take-le}
use Rattle.std.proofs.lemmas.Option.{get_or_from_slice_get, slice_get_within}
use Rattle.trop_theory.specs.Semiring.{Semiring}
use Rattle.trop_theory.specs.Inequalities.{Inequality}
use Rattle.tplib_tangent.specs.Adds.{Adds}
use Rattle.tplib_tangent.specs.Tangent.{MayBeEdgeLine, AreEdgeLines}

module _ {V : Type 0} (R : Semiring V) (names : List (List ℕ)) (x : List V) where
  AreEdgeLines-push : (k m : ℕ) (system : List (Inequality V)) (p : Inequality V) (text line : List ℕ) →
      m ≡ k + length system → AreEdgeLines R names x k system text → MayBeEdgeLine R names x m p line →
      AreEdgeLines R names x k (system ++ p ∷ []) (text ++ line)
  AreEdgeLines-push k m [] p text line e h l = (
    line,
    [],
    ap (λ z. z ++ line) h ∙ sym (append-nil line),
    subst (λ j. MayBeEdgeLine R names x j p line) (let z : m ≡ k = omega arith in z) l,
    refl,
  )
  AreEdgeLines-push k m (q ∷ system) p text line e h l = (
    h.0,
    h.1 ++ line,
    ap (λ z. z ++ line) h.2 ∙ append_assoc h.0 h.1 line,
    h.3,
    AreEdgeLines-push (k + 1) m system p h.1 line (omega arith) h.4 l,
  )

  -- the same of the first inequalities of a system, behind an older text
  pub edges_more : (system : List (Inequality V)) (p : Inequality V) (k : ℕ) (old now next : List ℕ) →
      slice_get system k ≡ Some p → Adds old now (AreEdgeLines R names x 1 (take k system)) →
      Adds now next (MayBeEdgeLine R names x (k + 1) p) → Adds old next (AreEdgeLines R names x 1 (take (k + 1) system))
  edges_more system p k old now next e h l =
      let within : k < length system = slice_get_within system k p e in
      let taken : take (k + 1) system ≡ take k system ++ p ∷ [] =
      take_more system k p within ∙ ap (λ z. take k system ++ z ∷ []) (get_or_from_slice_get system k p p e) in (
        h.0 ++ l.0,
        l.1 ∙ ap (λ z. z ++ l.0) h.1 ∙ append_assoc old h.0 l.0,
        subst (λ z. AreEdgeLines R names x 1 z (h.0 ++ l.0)) (sym taken)
            (AreEdgeLines-push 1 (k + 1) (take k system) p h.0 l.0 (count k system within) h.2 l.2),
      )
    where
      count : (k : ℕ) (system : List (Inequality V)) → k < length system → k + 1 ≡ 1 + length (take k system)
      count k system l = omega (arith, length-take-le k system)
