-- What `check` says of a report that is inductive.
use Rattle.std.specs.Prelude.{◌≡◌, ℕ, List, codes}
use Rattle.tplib_reply.specs.declared.stop.Stop.{Stop}

abbrev pub IsFoundInductive : List ℕ → Type 0
IsFoundInductive text = text ≡ codes "inductive\n"

abbrev pub NoStop : Stop → Type 0
NoStop stop = ⊥
