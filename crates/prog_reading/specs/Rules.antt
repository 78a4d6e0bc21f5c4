-- The rule that a rule of the program stands for.
use Rattle.prog_texts.specs.AssertRule as rules
use Rattle.prog_reading.specs.declared.assert_rule.AssertRule.{AssertRule}
use Rattle.prog_reading.specs.declared.assert_rule.AssertRule.TheVariants.{MaxOnly, MinOnly, Any}

abbrev pub rule_of : AssertRule → rules.AssertRule
rule_of MaxOnly = rules.MaxOnly
rule_of MinOnly = rules.MinOnly
rule_of Any = rules.Either
