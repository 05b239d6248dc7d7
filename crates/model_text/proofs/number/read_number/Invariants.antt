-- The digits so far gave the value.
use Rattle.std.proofs.Common.{◌≡◌, ◌<◌, ◌^◌, drop}
use Rattle.model_text.specs.Numbers.{digits_from}
use Rattle.model_text.proofs.number.read_number.Given as goal

abbrev pub invariant-loop-b : goal.invariant-loop-b
invariant-loop-b l = record {
  digits : digits_from l.value (drop l.b-index l.field) ≡ digits_from 0 l.field;
  small : l.value < 10 ^ l.b-index;
}
