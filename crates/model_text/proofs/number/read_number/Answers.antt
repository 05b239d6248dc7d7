use Rattle.std.proofs.Common.{◌+◌, ◌*◌, ◌∙◌, length, drop, arith, sym, ap}
use Rattle.std.proofs.lemmas.Bool.{eqb-false}
use Rattle.model_text.specs.Numbers.{digits_from}
use Rattle.model_text.proofs.NumberLemmas.{digits-bad, digits-good, digits-end, ten-more, ten-small, number-within}
use Rattle.model_text.proofs.number.read_number.Goals as goal

pub returns-then-not-is_ascii_digit : goal.returns-then-not-is_ascii_digit
returns-then-not-is_ascii_digit c = grind (arith, digits-bad, number-within)

pub overflow_mul-value : goal.overflow_mul-value
overflow_mul-value c = let h = c.loop-b.invariant.small in let g = ten-small c.loop-b.b-index (omega arith) in omega arith

pub overflow_add-value : goal.overflow_add-value
overflow_add-value c = grind (arith, ten-small)

pub loop-b-preserved : goal.loop-b-preserved
loop-b-preserved c =
    let v = c.loop-b.value in let xs = c.args.field.now in let i = c.loop-b.b-index in
    let digit = c.from.ensures in
    record {
      digits = ap (λ d. digits_from (v * 10 + d) (drop (i + 1) xs)) digit ∙ digits-good v xs i c.loop-b-test.true (sym c.if-not-is_ascii_digit.ensures.value) ∙ c.loop-b.invariant.digits;
      small = ten-more i v c.from.result c.loop-b.invariant.small (omega (arith, c.if-not-is_ascii_digit.ensures.cases));
    }

pub returns : goal.returns
returns c = let some = eqb-false (length c.args.field.now) 0 (sym c.if-is_empty.ensures) in sym (number-within c.args.field.now (omega arith) (omega arith) ∙ sym c.loop-b.invariant.digits ∙ digits-end c.loop-b.value c.args.field.now c.loop-b.b-index (omega arith))
