-- What the values that a program holds are seen as.
use Rattle.std.specs.Prelude.{◌≡◌, ◌+◌, ℕ, List, length}
use Rattle.trop_spelling.specs.declared.ring_kind.RingKind.TheVariants.{Max as MaxKind, Min as MinKind, Bool as BoolKind}
use Rattle.trop_spelling.specs.Over.{OverMax, OverMin, OverBool}
use Rattle.trop_files.specs.declared.header.Header.{Header}
use Rattle.trop_files.specs.declared.generators.AnyGens.{AnyGens}
use Rattle.trop_files.specs.declared.generators.AnyGens.TheVariants as gens
use Rattle.trop_files.specs.declared.inequalities.AnyIneqs.{AnyIneqs}
use Rattle.trop_files.specs.declared.inequalities.AnyIneqs.TheVariants as ineqs
use Rattle.trop_files.specs.declared.pair.PairFile.{PairFile}
use Rattle.trop_files.specs.declared.pair.AnyPair.{AnyPair}
use Rattle.trop_files.specs.declared.pair.AnyPair.TheVariants as pairs
use Rattle.trop_files.specs.declared.at.AtFile.{AtFile}
use Rattle.trop_files.specs.declared.at.AnyAt.{AnyAt}
use Rattle.trop_files.specs.declared.at.AnyAt.TheVariants as ats
use Rattle.trop_files.specs.declared.ineq_lines.AnyIneqLines.{AnyIneqLines}
use Rattle.trop_files.specs.declared.ineq_lines.AnyIneqLines.TheVariants as lines
use Rattle.trop_files.specs.Header as spec
use Rattle.trop_files.specs.Generators.{GeneratorFile}
use Rattle.trop_files.specs.InequalityFiles.{InequalityFile}
use Rattle.trop_files.specs.PairFiles.{Two, TwoFile}
use Rattle.trop_files.specs.AtFiles.{At, AtText}
use Rattle.trop_files.specs.InequalityLines.{IsOpened}

abbrev pub header_of : Header → spec.Header
header_of h = record { ring = h.ring; names = h.names; vars_line = h.vars_line }

-- ---- files of generators

abbrev pub generator_file_of : AnyGens → GeneratorFile
generator_file_of (gens.Max f) = record { names = f.names; vars_line = f.vars_line; rows = OverMax f.gens.rows }
generator_file_of (gens.Min f) = record { names = f.names; vars_line = f.vars_line; rows = OverMin f.gens.rows }
generator_file_of (gens.Bool f) = record { names = f.names; vars_line = f.vars_line; rows = OverBool f.gens.rows }

-- its vectors have an entry for each variable and one for coordinate 0
abbrev pub IsWideGens : AnyGens → Type 0
IsWideGens (gens.Max f) = f.gens.n ≡ length f.names + 1
IsWideGens (gens.Min f) = f.gens.n ≡ length f.names + 1
IsWideGens (gens.Bool f) = f.gens.n ≡ length f.names + 1

-- ---- files of inequalities

abbrev pub inequality_file_of : AnyIneqs → InequalityFile
inequality_file_of (ineqs.Max f) = record { names = f.names; inequalities = OverMax f.system.inequalities }
inequality_file_of (ineqs.Min f) = record { names = f.names; inequalities = OverMin f.system.inequalities }
inequality_file_of (ineqs.Bool f) = record { names = f.names; inequalities = OverBool f.system.inequalities }

-- its inequalities have a coordinate for each variable and coordinate 0
abbrev pub IsWideIneqs : AnyIneqs → Type 0
IsWideIneqs (ineqs.Max f) = f.system.n ≡ length f.names + 1
IsWideIneqs (ineqs.Min f) = f.system.n ≡ length f.names + 1
IsWideIneqs (ineqs.Bool f) = f.system.n ≡ length f.names + 1

-- the reader of the semiring that the header names stands behind the header
abbrev pub IsOpenedAny : List ℕ → AnyIneqLines → Type 0
IsOpenedAny bytes (lines.Max l) = IsOpened MaxKind bytes l
IsOpenedAny bytes (lines.Min l) = IsOpened MinKind bytes l
IsOpenedAny bytes (lines.Bool l) = IsOpened BoolKind bytes l

-- ---- files of two lists of generators

abbrev pub two_of : {V Store : Type 0} → PairFile V Store → Two V
two_of f = record { left = f.left.rows; right = f.right.rows }

abbrev pub two_file_of : AnyPair → TwoFile
two_file_of (pairs.Max f) = record { names = f.names; lists = OverMax (two_of f) }
two_file_of (pairs.Min f) = record { names = f.names; lists = OverMin (two_of f) }
two_file_of (pairs.Bool f) = record { names = f.names; lists = OverBool (two_of f) }

-- its vectors have an entry for each variable and one for coordinate 0
abbrev pub IsWidePair : AnyPair → Type 0
IsWidePair (pairs.Max f) = (f.left.n ≡ length f.names + 1) × (f.right.n ≡ length f.names + 1)
IsWidePair (pairs.Min f) = (f.left.n ≡ length f.names + 1) × (f.right.n ≡ length f.names + 1)
IsWidePair (pairs.Bool f) = (f.left.n ≡ length f.names + 1) × (f.right.n ≡ length f.names + 1)

-- ---- files of a vector with inequalities

abbrev pub at_of : {V Store : Type 0} → AtFile V Store → At V
at_of f = record { inequalities = f.system.inequalities; row = f.row }

abbrev pub at_text_of : AnyAt → AtText
at_text_of (ats.Max f) = record { names = f.names; body = OverMax (at_of f) }
at_text_of (ats.Min f) = record { names = f.names; body = OverMin (at_of f) }
at_text_of (ats.Bool f) = record { names = f.names; body = OverBool (at_of f) }

-- its inequalities and its vector have a coordinate for each variable and coordinate 0
abbrev pub IsWideAt : AnyAt → Type 0
IsWideAt (ats.Max f) = (f.system.n ≡ length f.names + 1) × (length f.row ≡ length f.names + 1)
IsWideAt (ats.Min f) = (f.system.n ≡ length f.names + 1) × (length f.row ≡ length f.names + 1)
IsWideAt (ats.Bool f) = (f.system.n ≡ length f.names + 1) × (length f.row ≡ length f.names + 1)
