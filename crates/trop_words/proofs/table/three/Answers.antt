use Rattle.std.proofs.Common.{rules}
use Rattle.trop_words.proofs.Spelled.{first_key, second_key}
use Rattle.trop_words.proofs.table.three.Goals as goal

pub returns-in-Some : goal.returns-in-Some
returns-in-Some c = search (rules, first_key)

pub returns-in_ok-narrow-in-analyze : goal.returns-in_ok-narrow-in-analyze
returns-in_ok-narrow-in-analyze c = search (rules, second_key)
