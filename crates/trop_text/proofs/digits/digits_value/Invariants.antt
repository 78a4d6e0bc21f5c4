use Rattle.std.proofs.Common.{◌≡◌, ◌≤◌, take}
use Rattle.trop_text.specs.Digits.{number_of}
use Rattle.trop_text.proofs.digits.digits_value.Given as goal

abbrev pub invariant-loop-digit : goal.invariant-loop-digit
invariant-loop-digit l = record {
  value : l.value ≡ number_of (take l.digit-index l.text);
  within : l.value ≤ l.bound;
}
