-- Programs are read right, and each stop is at the first fault.
-- Index: declaration_reads, IsOver, over_led, over_none_left, program_reads, some_program, whole_program_reads,
-- whole_program_only, whole_program_found, whole_program_fault.
use Rattle.std.proofs.Common.{◌≡◌, ◌≤◌, ◌<◌, ◌+◌, ℕ, zero, suc, Bool, true, false, cond, Option, Some, None, List, [], ◌∷◌, ◌++◌, length, length-append, get_or, codes, Ok, Err, refl, sym, ap, subst, ◌∙◌, append_assoc, ◌⊎◌, inl, inr, arith, nat_le}
use Rattle.std.specs.Str.{bytes_eq}
use Rattle.std.proofs.lemmas.Bool.Decides.{nat_tests}
use Rattle.std.proofs.lemmas.List.Quantifiers.{position-Some}
use Rattle.std.proofs.lemmas.Slice.Eq.{bytes_eq-Decides}
use Rattle.trop_text.specs.Name.{is_name}
use Rattle.trop_text.specs.Names.{place_of}
use Rattle.trop_text.specs.declared.fault.FaultKind.{FaultKind}
use Rattle.trop_text.specs.declared.fault.FaultKind.TheVariants.{Syntax, NumberRange, UnknownName, DuplicateName, TooManyVars, TooManyLines, WrongKind, TooManyStatements, TooManyAtoms, TooDeep, AssertMode, ReportFault}
use Rattle.trop_grammar.specs.Reading.{Miss}
use Rattle.trop_grammar.specs.Grammar.{Empty}
use Rattle.shape_grammar.specs.Past.{past}
use Rattle.shape_grammar.specs.Steps.{many_past}
use Rattle.shape_grammar.specs.Shape.{Shape, Has, Begins, Nothing, Never, Next, Often, Both, Part}
use Rattle.shape_grammar.specs.Shape as shapes
use Rattle.shape_grammar.specs.Reads.{Reads, Heads}
use Rattle.shape_grammar.specs.Faults.{IsFirstFault}
use Rattle.shape_grammar.proofs.Laws.{Reads-gives, Reads-bind, Reads-weaker}
use Rattle.shape_grammar.proofs.TokenLaws.{Behind}
use Rattle.shape_grammar.proofs.MaybeLaws.{Reads-many}
use Rattle.shape_grammar.proofs.Choices.{Reads-map, FitsMaybe, Begins_it, Blames_it, Leaves_it, choose_maybe, maybe_behind, maybe_bad, maybe_none}
use Rattle.shape_grammar.proofs.Whole.{found, only, first_fault}
use Rattle.prog_theory.specs.Statements as tree
use Rattle.prog_theory.specs.Limits.{Limits}
use Rattle.prog_texts.specs.AssertRule.{AssertRule}
use Rattle.prog_texts.specs.Words.{Counted, text, skipped, is_variable, one_more}
use Rattle.prog_texts.specs.Shapes.{language, sign, declaration, program, whole_program}
use Rattle.prog_texts.specs.Causes.{IsCause}
use Rattle.prog_theory.specs.Named.{Named}
use Rattle.prog_texts.specs.Programs.{undeclared, new_name, AreNew, IsDeclaration, IsProgram, IsWholeProgram, declared_at, declaration_at, program_at, whole_program_at, IsAmong, names_in, IsBodyCause, IsProgramCause}
use Rattle.prog_texts.proofs.Signs.{Anything, said_reads, end_reads, IsLed, led_sign, led_end, quiet_led, quiet_none}
use Rattle.prog_texts.proofs.ConditionLaws.{link_of, Quiet}
use Rattle.prog_texts.proofs.StatementLaws.{NoMore, is_verb, no_verb, statements_reads}

-- ---- declared names

abbrev IsIn : List ℕ → List (List ℕ) → Type 0
IsIn name [] = ⊥
IsIn name (x ∷ xs) = (x ≡ name) ⊎ IsIn name xs

in_at : (name : List ℕ) (xs : List (List ℕ)) (i : ℕ) → i < length xs → bytes_eq name (get_or xs i []) ≡ true →
    IsIn name xs
in_at name [] i h e = absurd (omega arith)
in_at name (x ∷ xs) zero h e = inl (sym ((bytes_eq-Decides name x).0 e))
in_at name (x ∷ xs) (suc i) h e = inr (in_at name xs i (omega arith) e)

in_place : (name : List ℕ) (xs : List (List ℕ)) (i : ℕ) → place_of name xs ≡ Some i → IsIn name xs
in_place name xs i e = let p = position-Some (bytes_eq name) xs i [] e in in_at name xs i p.0 p.1

in_snoc : (name x : List ℕ) (xs : List (List ℕ)) → IsIn name (xs ++ x ∷ []) → IsIn name xs ⊎ (x ≡ name)
in_snoc name x [] (inl e) = inr e
in_snoc name x [] (inr h) = absurd h
in_snoc name x (y ∷ ys) (inl e) = inl (inl e)
in_snoc name x (y ∷ ys) (inr h) = elim (in_snoc name x ys h) [ inl k ↦ inl (inr k) | inr e ↦ inr e ]

among_behind : (us before : List Counted) (t : Counted) → IsAmong before t → IsAmong (us ++ before) t
among_behind us before t h = record {
  front = us ++ h.front;
  same = h.same;
  back = h.back;
  whole =
      ap (λ (z : List Counted). us ++ z) h.whole ∙ sym (append_assoc us h.front (h.same ∷ h.back));
  is = h.is;
}

one_more-least : (b : Bool) (m n : ℕ) → m ≤ n → m ≤ one_more b n
one_more-least true m n h = omega arith
one_more-least false m n h = h

names_in-behind : (us before : List Counted) → names_in before ≤ names_in (us ++ before)
names_in-behind [] before = omega arith
names_in-behind (u ∷ us) before = one_more-least (is_variable u) (names_in before) (names_in (us ++ before))
    (names_in-behind us before)

-- a name that stands before, or among the names so far; or one behind as many as there may be
abbrev IsNewCause : Limits → List (List ℕ) → FaultKind → List Counted → Counted → Type 0
IsNewCause L names what before t =
    (is_variable t ≡ true) × (((what ≡ DuplicateName) × (IsIn (text t) names ⊎ IsAmong before t))
    ⊎ ((what ≡ TooManyVars) × (L.vars ≤ length names + names_in before)))

-- no name follows
abbrev NoName : List Counted → Type 0
NoName vs = Heads (λ t. is_variable t ≡ false) (past skipped vs)

heads_map : {P Q : Counted → Type 0} → ((t : Counted) → P t → Q t) → (ts : List Counted) → Heads P ts → Heads Q ts
heads_map to [] h = tt
heads_map to (t ∷ ts) h = to t h

no_name_sign : (ws vs : List Counted) → Has language (sign (codes ";")) ws → NoName (ws ++ vs)
no_name_sign ws vs h = let k = led_sign (codes ";") ws vs h in rw k.whole (ap is_name k.is)

limit : (a b : ℕ) → nat_le a b ≡ true → a ≤ b
limit a b e = grind (arith, nat_tests)

module _ (L : Limits) where
  unnamed : (names : List (List ℕ)) (t : Counted) → is_variable t ≡ false → new_name L names t ≡ None
  unnamed names t e = rw e refl

  abbrev NameFits : ℕ → List (List ℕ) → Counted → Type 0
  NameFits n names t = FitsMaybe language Syntax n Anything (declared_at names) (λ name. Empty (names ++ name ∷ []))
      (IsNewCause L names) t (new_name L names t) (cond (is_variable t) Nothing Never)

  name_fits : (n : ℕ) (names : List (List ℕ)) (t : Counted) → is_variable t ≡ true → (b : Bool) →
      nat_le L.vars (length names) ≡ b → (place : Option ℕ) → place_of (text t) names ≡ place
      → FitsMaybe language Syntax n Anything (declared_at names) (λ name. Empty (names ++ name ∷ []))
      (IsNewCause L names) t (Some (cond b (Err TooManyVars) (undeclared place (text t)))) Nothing
  unfolding declared_at
  name_fits n names t e true k place p = Blames_it TooManyVars refl
      (record {
        some = record { more = []; is = shapes.Empty refl };
        cause =
            λ front. (e, inr (refl, (let h = limit L.vars (length names) k in omega arith)));
      })
  name_fits n names t e false k None p = Begins_it (text t) refl
      (Reads-gives language Syntax n (names ++ text t ∷ []) tt)
  name_fits n names t e false k (Some i) p = Blames_it DuplicateName refl
      (record {
        some = record { more = []; is = shapes.Empty refl };
        cause =
            λ front. (e, inl (refl, inl (in_place (text t) names i p)));
      })

  step_fits : (n : ℕ) (names : List (List ℕ)) (t : Counted) → NameFits n names t
  step_fits n names t = choose_maybe language Syntax (is_variable t)
      (λ e. name_fits n names t e (nat_le L.vars (length names)) refl (place_of (text t) names) refl)
      (λ e. Leaves_it refl refl)

  name_is : (b c : Bool) (place : Option ℕ) (name x : List ℕ) →
      cond b (Some (cond c (Err TooManyVars) (undeclared place name))) None ≡ Some (Ok x) → (x ≡ name) × (b ≡ true)
  name_is true false None name x e = (cc, refl)
  name_is true false (Some i) name x e = absurd cc
  name_is true true place name x e = absurd cc
  name_is false c place name x e = absurd cc

  later_new : (names : List (List ℕ)) (t : Counted) (a : List ℕ) → new_name L names t ≡ Some (Ok a) →
      (ws : List Counted) (z : List (List ℕ)) → Empty (names ++ a ∷ []) ws z →
      (w : FaultKind) (before : List Counted) (u : Counted) → IsNewCause L z w before u →
      Behind (IsNewCause L names) t w (ws ++ before) u
  later_new names t a e ws z h w before u c front = (c.0, at c.1)
    where
      is : (a ≡ text t) × (is_variable t ≡ true)
      is = name_is (is_variable t) (nat_le L.vars (length names)) (place_of (text t) names) (text t) a e

      twice : IsIn (text u) z ⊎ IsAmong before u → IsIn (text u) names ⊎ IsAmong (front ++ t ∷ (ws ++ before)) u
      twice (inl k) =
          let k0 : IsIn (text u) (names ++ a ∷ []) = subst (λ (y : List (List ℕ)). IsIn (text u) y) h.is k in
          elim (in_snoc (text u) a names k0) [
            | inl m ↦ inl m
            | inr m ↦ inr (record { front = front; same = t; back = ws ++ before; whole = refl; is = sym is.0 ∙ m })
          ]
      twice (inr k) = inr (subst (λ (y : List Counted). IsAmong y u) (append_assoc front (t ∷ ws) before)
          (among_behind (front ++ t ∷ ws) before u k))

      more : L.vars ≤ length z + names_in before → L.vars ≤ length names + names_in (front ++ t ∷ (ws ++ before))
      more k =
          let size : length z ≡ length (names ++ a ∷ []) = ap length h.is in
          let one : names_in (t ∷ (ws ++ before)) ≡ names_in (ws ++ before) + 1 =
          ap (λ b. one_more b (names_in (ws ++ before))) is.1 in
          omega (
            arith,
            k,
            size,
            one,
            length-append names (a ∷ []),
            names_in-behind ws before,
            names_in-behind front (t ∷ (ws ++ before)),
          )

      at : ((w ≡ DuplicateName) × (IsIn (text u) z ⊎ IsAmong before u))
          ⊎ ((w ≡ TooManyVars) × (L.vars ≤ length z + names_in before)) →
          ((w ≡ DuplicateName) × (IsIn (text u) names ⊎ IsAmong (front ++ t ∷ (ws ++ before)) u))
          ⊎ ((w ≡ TooManyVars) × (L.vars ≤ length names + names_in (front ++ t ∷ (ws ++ before))))
      at (inl k) = inl (k.0, twice k.1)
      at (inr k) = inr (k.0, more k.1)

  names_reads : (n : ℕ) → Reads language Syntax n NoName (many_past skipped (new_name L) declared_at []) (AreNew L [])
      (Often (λ t. cond (is_variable t) Nothing Never)) (IsNewCause L [])
  unfolding past
  names_reads n = Reads-many language Syntax n Anything NoName (record {
    behind = λ x t a e k le. maybe_behind language Syntax t (new_name L x t) (cond (is_variable t) Nothing Never) a e
        (step_fits k x t);
    later = later_new;
    none = λ x t e. maybe_none language Syntax t (new_name L x t) (cond (is_variable t) Nothing Never) e
        (step_fits n x t);
    bad = λ x t w e. maybe_bad language Syntax t (new_name L x t) (cond (is_variable t) Nothing Never) w e
        (step_fits n x t);
    quiet = λ x vs ends. heads_map (unnamed x) (past skipped vs) ends;
    fits = λ ws vs h ends. tt;
    end = tt;
  }) []

  -- the same over no names
  abbrev IsNameCause : FaultKind → List Counted → Counted → Type 0
  IsNameCause what before t = (is_variable t ≡ true)
      × (((what ≡ DuplicateName) × IsAmong before t) ⊎ ((what ≡ TooManyVars) × (L.vars ≤ names_in before)))

  over_none : (w : FaultKind) (before : List Counted) (t : Counted) → IsNewCause L [] w before t →
      IsNameCause w before t
  over_none w before t c = (
    c.0,
    elim c.1 [
      | inl k ↦ inl (k.0, elim k.1 [ inl m ↦ absurd m | inr m ↦ m ])
      | inr k ↦
          inr (k.0, (let h = k.1 in omega arith))
    ],
  )

  name_behind : (us : List Counted) (w : FaultKind) (before : List Counted) (t : Counted) → IsNameCause w before t →
      IsNameCause w (us ++ before) t
  name_behind us w before t c = (
    c.0,
    elim c.1 [
      | inl k ↦ inl (k.0, among_behind us before t k.1)
      | inr k ↦
          inr (k.0, (let h = k.1 in omega (arith, h, names_in-behind us before)))
    ],
  )

  pub declaration_reads : (n : ℕ) → Reads language Syntax n Anything (declaration_at L)
      (IsDeclaration L) declaration IsNameCause
  unfolding declaration_at
  declaration_reads n =
      Reads-bind language Syntax n Anything Anything {B₁ = IsNameCause} IsNameCause tt
      (said_reads n (codes "vars") refl tt)
      (λ u. Reads-bind language Syntax n NoName Anything {B₂ = λ x w before t. ⊥} IsNameCause [] (names_reads n)
      (λ names. Reads-map language Syntax (λ v. names) tt (said_reads n (codes ";") refl tt))
      (λ ws vs h ends. no_name_sign ws vs h) (λ w before t begins c. over_none w before t c)
      (λ x us w before t h c. absurd c))
      (λ ws vs h ends. tt) (λ w before t begins c. c) (λ x us w before t h c. name_behind us w before t c)

-- ---- programs

-- no statement and no `else` follows, whatever the names are
pub record IsOver (vs : List Counted) : Type 0 where
  pub statement : Heads (λ t. is_verb (text t) ≡ false) (past skipped vs)
  pub other : Quiet (codes "else") vs

pub over_led : (word : List ℕ) → is_verb word ≡ false → link_of (codes "else") word ≡ None → (vs : List Counted) →
    IsLed word vs → IsOver vs
over_led word e k vs h = record {
  statement = rw h.whole (ap is_verb h.is ∙ e);
  other =
      quiet_led (link_of (codes "else")) word k vs h;
}

pub over_none_left : IsOver []
unfolding past
over_none_left = record { statement = tt; other = quiet_none (link_of (codes "else")) }

over_more : (L : Limits) (names : List (List ℕ)) (vs : List Counted) → IsOver vs → NoMore L names vs
over_more L names vs h = record {
  statement = heads_map (no_verb L names) (past skipped vs) h.statement;
  other =
      h.other;
}

module _ (L : Limits) (rule : AssertRule) where
  from_name : (w : FaultKind) (before : List Counted) (t : Counted) → Begins language declaration (before ++ t ∷ []) →
      IsNameCause L w before t → IsProgramCause L rule w before t
  from_name w before t begins c = elim c.1 [
    | inl k ↦ subst (λ z. IsProgramCause L rule z before t) (sym k.0) ((c.0, begins), k.1)
    | inr k ↦ subst (λ z. IsProgramCause L rule z before t) (sym k.0) ((c.0, begins), k.1)
  ]

  body : (names : List (List ℕ)) (us : List Counted) (w : FaultKind) (before : List Counted) (t : Counted) →
      IsDeclaration L us names → IsCause L rule names L.depth w before t → IsBodyCause L rule w (us ++ before) t
  body names us w before t h c = record {
    names = names;
    front = us;
    back = before;
    whole = refl;
    declared = h;
    cause =
        c;
  }

  from_body : (names : List (List ℕ)) (us : List Counted) (w : FaultKind) (before : List Counted) (t : Counted) →
      IsDeclaration L us names → IsCause L rule names L.depth w before t → IsProgramCause L rule w (us ++ before) t
  from_body names us DuplicateName before t h c = absurd c
  from_body names us TooManyVars before t h c = absurd c
  from_body names us TooDeep before t h c = body names us TooDeep before t h c
  from_body names us NumberRange before t h c = body names us NumberRange before t h c
  from_body names us UnknownName before t h c = body names us UnknownName before t h c
  from_body names us TooManyStatements before t h c = body names us TooManyStatements before t h c
  from_body names us TooManyAtoms before t h c = body names us TooManyAtoms before t h c
  from_body names us AssertMode before t h c = body names us AssertMode before t h c
  from_body names us Syntax before t h c = absurd c
  from_body names us TooManyLines before t h c = absurd c
  from_body names us WrongKind before t h c = absurd c
  from_body names us ReportFault before t h c = absurd c

  pub program_reads : (n : ℕ) → Reads language Syntax n IsOver (program_at L rule) (IsProgram L rule) program
      (IsProgramCause L rule)
  unfolding program_at
  program_reads n =
      Reads-bind language Syntax n Anything IsOver (IsProgramCause L rule) [] (declaration_reads L n)
      (λ names. Reads-map language Syntax (λ xs. record { names = names; body = xs }) tree.Empty
      (Reads-weaker language Syntax n over_none_left (over_more L names) (statements_reads L rule names L.depth n)))
      (λ ws vs h ends. tt) (λ w before t begins c. from_name w before t begins c) from_body

  pub some_program : Named
  some_program = record { names = []; body = tree.Empty }

  pub whole_program_reads : (n : ℕ) → Reads language Syntax n Anything (whole_program_at L rule)
      (IsWholeProgram L rule) whole_program (IsProgramCause L rule)
  unfolding whole_program_at
  whole_program_reads n =
      Reads-bind language Syntax n IsOver Anything {B₂ = λ x w before t. ⊥} (IsProgramCause L rule) some_program
      (program_reads n) (λ p. Reads-map language Syntax (λ u. p) tt (end_reads n))
      (λ ws vs h ends. over_led [] refl refl (ws ++ vs) (led_end ws vs h)) (λ w before t begins c. c)
      (λ x us w before t h c. absurd c)

  -- what is spelled is read
  pub whole_program_only : (ts : List Counted) (p : Named) → IsWholeProgram L rule ts p →
      whole_program_at L rule ts ≡ Ok (p, [])
  whole_program_only ts p h = only language Syntax whole_program_reads ts p h

  -- what is read is spelled
  pub whole_program_found : (ts : List Counted) (p : Named) → whole_program_at L rule ts ≡ Ok (p, []) →
      IsWholeProgram L rule ts p
  whole_program_found ts p e = found language Syntax whole_program_reads ts p [] e refl

  -- a stop is the first fault
  pub whole_program_fault : (ts : List Counted) (miss : Miss Counted FaultKind) →
      whole_program_at L rule ts ≡ Err miss → IsFirstFault language Syntax (IsWholeProgram L rule) whole_program
      (IsProgramCause L rule) ts miss.what miss.rest
  whole_program_fault ts miss e = first_fault language Syntax whole_program_reads ts miss e
