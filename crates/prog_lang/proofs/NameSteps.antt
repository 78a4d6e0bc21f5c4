-- What readers of names follow.
use Rattle.std.proofs.Common.{◌≡◌, ◌≤◌, ◌<◌, ℕ, Bool, true, false, cond, Option, Some, None, List, [], ◌∷◌, ◌++◌, length, Result, Ok, Err, refl, sym, ap, subst, ◌∙◌, nat_le, arith}
use Rattle.std.specs.Prelude.{IsSome, IfOk, IfSome}
use Rattle.trop_text.specs.Name.{is_name}
use Rattle.trop_text.specs.Names.{place_of}
use Rattle.trop_text.specs.declared.fault.FaultKind.{FaultKind}
use Rattle.trop_text.specs.declared.fault.FaultKind.TheVariants.{Syntax, NumberRange, UnknownName, DuplicateName, TooManyVars, TooManyLines, WrongKind, TooManyStatements, TooManyAtoms, TooDeep, AssertMode, ReportFault}
use Rattle.trop_grammar.specs.Reading.{Reading, gives}
use Rattle.shape_grammar.specs.Past.{past}
use Rattle.shape_grammar.proofs.Loops.{IsOnWay, way_begins, way_ends, way_wrong, way_goes_on}
use Rattle.prog_theory.specs.Limits.{program_limits}
use Rattle.prog_texts.specs.Words.{Counted, text, skipped, is_variable}
use Rattle.prog_texts.specs.Programs.{undeclared, new_name, declared_at}
use Rattle.prog_reading.specs.Left.{left, source_of}
use Rattle.prog_reading.specs.Gives.{Fails, IsBad, NoneBegins}
use Rattle.prog_lang.specs.Naming.{IsAdded, IsNameFault, Adds, Declares}
use Rattle.prog_lang.specs.ReadParts.{names_at}
use Rattle.prog_reading.specs.declared.at.At.{At}
use Rattle.prog_reading.specs.declared.read_err.ReadErr.{ReadErr}
use Rattle.prog_reading.specs.declared.read_err.ReadErr.TheVariants as errors
use Rattle.prog_reading.proofs.Follow.{fails_is, bad_here, begun_here}

abbrev judge : List (List ℕ) → Counted → Option (Result (List ℕ) FaultKind)
judge names = new_name program_limits names

-- ---- names

module _ (names : List (List ℕ)) (t : Counted) where
  pub name_none : is_name (text t) ≡ false → judge names t ≡ None
  name_none e = rw e refl

  pub name_many : is_name (text t) ≡ true → nat_le 63 (length names) ≡ true → judge names t ≡ Some (Err TooManyVars)
  name_many e k = rw (e, k) refl

  twice : (o : Option ℕ) → place_of (text t) names ≡ o → (i : ℕ) → o ≡ Some i →
      undeclared (place_of (text t) names) (text t) ≡ Err DuplicateName
  twice o e i k = ap (λ z. undeclared z (text t)) (e ∙ k)

  pub name_twice : (i : ℕ) → is_name (text t) ≡ true → nat_le 63 (length names) ≡ false →
      place_of (text t) names ≡ Some i → judge names t ≡ Some (Err DuplicateName)
  name_twice i e k p = rw (e, k, p) refl

  pub name_new : is_name (text t) ≡ true → nat_le 63 (length names) ≡ false → place_of (text t) names ≡ None →
      judge names t ≡ Some (Ok (text t))
  name_new e k p = rw (e, k, p) refl

placed : (names : List (List ℕ)) (name : List ℕ) → IsSome (place_of name names) → (i : ℕ) ×
    (place_of name names ≡ Some i)
placed names name h = at (place_of name names) h refl
  where
    at : (o : Option ℕ) → IsSome o → place_of name names ≡ o → (i : ℕ) × (place_of name names ≡ Some i)
    at (Some i) k e = (i, e)
    at None k e = absurd cc

fault_is : (names : List (List ℕ)) (t : Counted) (what : FaultKind) → is_name (text t) ≡ true →
    IsNameFault names (text t) what → judge names t ≡ Some (Err what)
fault_is names t TooManyVars e h = name_many names t e h
fault_is names t DuplicateName e h = let p = placed names (text t) h.1 in name_twice names t p.0 e h.0 p.1
fault_is names t Syntax e h = absurd h
fault_is names t NumberRange e h = absurd h
fault_is names t UnknownName e h = absurd h
fault_is names t TooManyLines e h = absurd h
fault_is names t WrongKind e h = absurd h
fault_is names t TooManyStatements e h = absurd h
fault_is names t TooManyAtoms e h = absurd h
fault_is names t TooDeep e h = absurd h
fault_is names t AssertMode e h = absurd h
fault_is names t ReportFault e h = absurd h

-- a name that is added is declared
pub adds_declares : (old new : List (List ℕ)) (ts : List Counted) (here rest : At) (t : Counted)
    (r : Result (Option At) ReadErr) → left here ≡ past skipped ts → left here ≡ t ∷ left rest →
    is_name (text t) ≡ true → Adds old (text t) here rest r new → Declares old ts r new
adds_declares old new ts here rest t (Ok None) e k n h = absurd h
adds_declares old new ts here rest t (Ok (Some at)) e k n h =
    record {
      name = text t;
      begun = begun_here (judge old) ts (left here) t (left at) (text t) e (k ∙ ap (λ (z : At). t ∷ left z) (sym h.0))
          (name_new old t n h.1 h.2);
      added = h.3;
    }
adds_declares old new ts here rest t (Err errors.NoMemory) e k n h = tt
adds_declares old new ts here rest t (Err (errors.Wrong what at)) e k n h =
    subst (λ (z : At). IsBad (judge old) ts what (left z)) (sym h.0)
    (bad_here (judge old) ts (left here) t (left rest) what e k (fault_is old t what n h.1))

-- where the reader goes on
pub adds_shorter : (old new : List (List ℕ)) (name : List ℕ) (ts : List Counted) (here rest : At)
    (r : Result (Option At) ReadErr) → length (left rest) < length ts → Adds old name here rest r new →
    IfOk r (λ o. IfSome o (λ at. length (left at) < length ts))
adds_shorter old new name ts here rest (Ok None) l h = absurd h
adds_shorter old new name ts here rest (Ok (Some at)) l h = subst (λ (z : At). length (left z) < length ts) (sym h.0) l
adds_shorter old new name ts here rest (Err e) l h = tt

pub adds_source : (old new : List (List ℕ)) (name source : List ℕ) (here rest : At) (r : Result (Option At) ReadErr) →
    source_of rest ≡ source → Adds old name here rest r new → IfOk r (λ o. IfSome o (λ at. source_of at ≡ source))
adds_source old new name source here rest (Ok None) l h = absurd h
adds_source old new name source here rest (Ok (Some at)) l h = subst (λ (z : At). source_of z ≡ source) (sym h.0) l
adds_source old new name source here rest (Err e) l h = tt

-- what the loop over names keeps
abbrev pub IsNaming : List (List ℕ) → List Counted → Reading Counted FaultKind (List (List ℕ)) → Type 0
IsNaming names ts read = IsOnWay skipped judge declared_at names ts read

pub naming_start : (names : List (List ℕ)) (ts : List Counted) → names ≡ [] → IsNaming names ts (names_at ts)
naming_start names ts e = subst (λ z. IsNaming z ts (names_at ts)) (sym e) (way_begins skipped judge declared_at [] ts)

pub naming_done : (names new : List (List ℕ)) (ts : List Counted) (read : Reading Counted FaultKind (List (List ℕ))) →
    IsNaming names ts read → NoneBegins (judge names) ts → new ≡ names → read ≡ Ok (new, ts)
naming_done names new ts read w h e =
    subst (λ z. read ≡ Ok (z, ts)) (sym e) (way_ends skipped judge declared_at names ts read w h)

abbrev missed : FaultKind → List Counted → Reading Counted FaultKind (List (List ℕ))
missed what us = Err (record { what = what; rest = us })

pub naming_wrong : (e : ReadErr) (names new : List (List ℕ)) (ts : List Counted)
    (read : Reading Counted FaultKind (List (List ℕ))) → IsNaming names ts read → Declares names ts (Err e) new →
    Fails e read
naming_wrong errors.NoMemory names new ts read w h = tt
naming_wrong (errors.Wrong what at) names new ts read w h =
    fails_is what at read (way_wrong skipped judge declared_at names ts read h.token h.behind what w h.whole h.is
    ∙ ap (missed what) (sym h.here))

declared_ok : (names : List (List ℕ)) (name : List ℕ) (us : List Counted) →
    declared_at names name us ≡ Ok (names ++ name ∷ [], us)
unfolding declared_at gives
declared_ok names name us = refl

pub naming_more : (names new : List (List ℕ)) (ts rest : List Counted)
    (read : Reading Counted FaultKind (List (List ℕ))) → IsNaming names ts read → IsAdded names ts new rest →
    IsNaming new rest read
naming_more names new ts rest read w h =
    subst (λ z. IsNaming z rest read) (sym h.added)
    (way_goes_on skipped judge declared_at names ts read h.begun.token rest h.name (names ++ h.name ∷ []) rest w
    h.begun.whole h.begun.is (declared_ok names h.name rest) (omega arith))
