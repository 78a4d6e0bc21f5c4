-- The causes of faults behind more, and inside more.
use Rattle.std.proofs.Common.{ℕ, zero, suc, List, [], ◌∷◌, ◌++◌, refl, sym, ap, ◌∙◌, append_assoc}
use Rattle.trop_text.specs.declared.fault.FaultKind.{FaultKind}
use Rattle.trop_text.specs.declared.fault.FaultKind.TheVariants.{Syntax, NumberRange, UnknownName, DuplicateName, TooManyVars, TooManyLines, WrongKind, TooManyStatements, TooManyAtoms, TooDeep, AssertMode, ReportFault}
use Rattle.shape_grammar.proofs.Laws.{Grows}
use Rattle.prog_theory.specs.Limits.{Limits}
use Rattle.prog_texts.specs.AssertRule.{AssertRule}
use Rattle.prog_texts.specs.Words.{Counted}
use Rattle.prog_texts.specs.Causes.{IsOpen, IsInside, IsCause}

IsInside-grows : (d : ℕ) (us before : List Counted) (t : Counted) → IsInside d before t → IsInside d (us ++ before) t
IsInside-grows zero us before t h = tt
IsInside-grows (suc d) us before t h = (
  us ++ h.0,
  h.1,
  h.2,
  (ap (λ (z : List Counted). us ++ z) h.3 ∙ sym (append_assoc us h.0 (h.2 ∷ h.1))),
  h.4,
  h.5,
)

module _ (L : Limits) (rule : AssertRule) (names : List (List ℕ)) where
  grown : (d : ℕ) (us : List Counted) (w : FaultKind) (before : List Counted) (t : Counted) →
      IsCause L rule names d w before t → IsCause L rule names d w (us ++ before) t
  grown d us TooDeep before t h = (h.0, IsInside-grows d us before t h.1)
  grown d us NumberRange before t h = h
  grown d us UnknownName before t h = h
  grown d us TooManyStatements before t h = h
  grown d us TooManyAtoms before t h = h
  grown d us Syntax before t h = h
  grown d us DuplicateName before t h = h
  grown d us TooManyVars before t h = h
  grown d us TooManyLines before t h = h
  grown d us WrongKind before t h = h
  grown d us AssertMode before t h = h
  grown d us ReportFault before t h = h

  pub cause_grows : (d : ℕ) → Grows (IsCause L rule names d)
  cause_grows d = record { behind = grown d }

  -- one sign more around it
  pub under : (d : ℕ) (front : List Counted) (s : Counted) (before : List Counted) (t : Counted) →
      IsOpen s (before ++ t ∷ []) → (w : FaultKind) → IsCause L rule names d w before t →
      IsCause L rule names (suc d) w (front ++ s ∷ before) t
  under d front s before t inside TooDeep h = (h.0, (front, before, s, refl, inside, h.1))
  under d front s before t inside NumberRange h = h
  under d front s before t inside UnknownName h = h
  under d front s before t inside TooManyStatements h = h
  under d front s before t inside TooManyAtoms h = h
  under d front s before t inside Syntax h = h
  under d front s before t inside DuplicateName h = h
  under d front s before t inside TooManyVars h = h
  under d front s before t inside TooManyLines h = h
  under d front s before t inside WrongKind h = h
  under d front s before t inside AssertMode h = h
  under d front s before t inside ReportFault h = h
