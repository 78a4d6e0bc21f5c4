-- Computations that stop nowhere.
use Rattle.std.proofs.Common.{ℕ}
use Rattle.tplib_reply.specs.declared.stop.Stop.{Stop}
use Rattle.tplib_reply.specs.declared.stop.Stop.TheVariants.{Rows, Polar}
use Rattle.tplib_reply.specs.Meaning.{Cause, OverLimit, OutOfRange, at_rows, at_rows_or_polars}

pub at_rows-none : {A : Type 0} (rows : A → ℕ → Type 0) (said : A) → ((k : ℕ) → rows said k → ⊥) →
    (cause : Cause) (stop : Stop) → at_rows rows said cause stop → ⊥
at_rows-none rows said h OverLimit (Rows k) s = h k s
at_rows-none rows said h _ stop s = absurd s

pub at_rows_or_polars-none : {A : Type 0} (rows : A → ℕ → Type 0) (polars : A → ℕ → ℕ → Type 0) (said : A) →
    ((k : ℕ) → rows said k → ⊥) → ((i k : ℕ) → polars said i k → ⊥) → (cause : Cause) (stop : Stop) →
    at_rows_or_polars rows polars said cause stop → ⊥
at_rows_or_polars-none rows polars said h g OverLimit (Rows k) s = h k s
at_rows_or_polars-none rows polars said h g OverLimit (Polar i k) s = g i k s
at_rows_or_polars-none rows polars said h g _ stop s = absurd s
