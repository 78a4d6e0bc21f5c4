use Rattle.std.proofs.Common.{rules}
use Rattle.trop_words.proofs.Spelled.{neither_key}
use Rattle.trop_words.proofs.table.two.Goals as goal

pub returns-in_ok-mode-in-analyze : goal.returns-in_ok-mode-in-analyze
returns-in_ok-mode-in-analyze c = search (rules, neither_key)
