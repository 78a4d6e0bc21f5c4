-- What the first token of a statement stands for.
use Rattle.std.specs.Prelude.{Bool, ◌||◌, codes}
use Rattle.prog_texts.specs.Words.{Counted, says, is_variable}
use Rattle.prog_texts.specs.Statements as statements
use Rattle.prog_lang.specs.declared.verbs.Verb.{Verb}
use Rattle.prog_lang.specs.declared.verbs.Verb.TheVariants.{Havocs, Assumes, Asserts, Asks, Loops, Skips, Sets}

abbrev pub verb_of : Verb → statements.Verb
verb_of Havocs = statements.Havocs
verb_of Assumes = statements.Assumes
verb_of Asserts = statements.Asserts
verb_of Asks = statements.Asks
verb_of Loops = statements.Loops
verb_of Skips = statements.Skips
verb_of (Sets i) = statements.Sets i

-- whether a statement may begin with the token
abbrev pub is_start : Counted → Bool
is_start t =
    says (codes "havoc") t || says (codes "assume") t || says (codes "assert") t || says (codes "if") t || says
    (codes "while") t || says (codes "skip") t
    || is_variable t
