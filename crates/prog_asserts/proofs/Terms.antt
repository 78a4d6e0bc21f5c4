-- What holds of each term of a program holds of each term of its asserts.
use Rattle.std.proofs.Common.{⊎_elim, ℕ, List, [], ◌∷◌, sym, subst, Contains}
use Rattle.std.specs.Prelude.{All}
use Rattle.std.proofs.lemmas.List.Elements.{Contains-append_cases}
use Rattle.prog_theory.specs.States.{Term}
use Rattle.prog_theory.specs.Statements.{Stmt, Set, Havoc, Assume, Assert, If, While, Skip, Program}
use Rattle.prog_theory.specs.Each.{EachStmt, EachBlock}
use Rattle.prog_theory.specs.Places.{Place}
use Rattle.prog_theory.specs.Graph.{program_places}
use Rattle.prog_theory.proofs.Elements.{Contains-none, Contains-here, Contains-there, Contains-cases}
use Rattle.prog_theory.proofs.Fitting.{each_statement}
use Rattle.cone_reports.specs.Asserts.{Assertion, own_asserts, asserts_of, asserts}

module _ (V : ℕ → Type 0) (T : Term → Type 0) where
  abbrev EachSide : Assertion → Type 0
  EachSide a = All T a.claim.left.terms × All T a.claim.right.terms

  own_terms : (p k : ℕ) (st : Stmt) (a : Assertion) → EachStmt V T st → Contains (own_asserts p k st) a → EachSide a
  own_terms p k (Assert c) a f d = ⊎_elim
      (λ e. subst EachSide (sym e) f)
      (λ m. absurd (Contains-none a m))
      (Contains-cases (record { point = p; number = k; claim = c }) [] a d)
  own_terms p k (Set x t) a f d = absurd (Contains-none a d)
  own_terms p k (Havoc x) a f d = absurd (Contains-none a d)
  own_terms p k (Assume c) a f d = absurd (Contains-none a d)
  own_terms p k (If c b e) a f d = absurd (Contains-none a d)
  own_terms p k (While c b) a f d = absurd (Contains-none a d)
  own_terms p k Skip a f d = absurd (Contains-none a d)

  terms_of : (ls : List Place) → ((l : Place) → Contains ls l → EachStmt V T l.stmt) → (a : Assertion)
      → Contains (asserts_of ls) a → EachSide a
  terms_of [] each a d = absurd (Contains-none a d)
  terms_of (l ∷ ls) each a d = ⊎_elim
      (own_terms l.point l.number l.stmt a (each l (Contains-here l ls)))
      (terms_of ls (λ m c. each m (Contains-there l ls m c)) a)
      (Contains-append_cases (own_asserts l.point l.number l.stmt) (asserts_of ls) a d)

  -- of the terms of an assert's claim
  pub each_claim : (P : Program) → EachBlock V T P.body → (a : Assertion) → Contains (asserts P) a
      → All T a.claim.left.terms × All T a.claim.right.terms
  each_claim P each a d = terms_of (program_places P) (each_statement P V T each) a d
