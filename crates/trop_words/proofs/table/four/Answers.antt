use Rattle.std.proofs.Common.{rules}
use Rattle.trop_words.proofs.Spelled.{both_keys}
use Rattle.trop_words.proofs.table.four.Goals as goal

pub returns-in_ok-narrow-in-analyze : goal.returns-in_ok-narrow-in-analyze
returns-in_ok-narrow-in-analyze c = search (rules, both_keys)
