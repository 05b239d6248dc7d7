use Rattle.std.proofs.Common.{arith, ◌∙◌}
use Rattle.evac_law.specs.Names.{name_text}
use Rattle.evac_law.proofs.NameLemmas.{IsFront, behind_front, length-kind_text, name_short, named_front, short_floor, short_number, taken_front}
use Rattle.evac_law.proofs.name.NodeName.print.Goals as goal

pub put-requires : goal.put-requires
put-requires c = grind (arith, length-kind_text, short_number, short_floor)

-- the name stands in front
front : (c : goal.After-digits-4-1) → IsFront c.args.into.now (name_text c.args.self.now) c.put.new.into c.put.result
front c =
    named_front c.args.self.now c.args.into.now c.put-at.new.into c.put-at-2.new.into c.put-at-3.new.into c.put.new.into c.letters.result
    c.as_bytes.result.now c.as_bytes-2.result.now c.put-at.result c.put-at-2.result c.put-at-3.result c.put.result c.letters.ensures
    (c.as_bytes.ensures.value ∙ c.format.ensures.text) (c.as_bytes-2.ensures.value ∙ c.format-2.ensures.text) c.put-at.ensures.end
    c.put-at.ensures.written c.put-at-2.ensures.end c.put-at-2.ensures.written c.put-at-3.ensures.end c.put-at-3.ensures.written
    c.put.ensures.end c.put.ensures.written

pub returns-clause-length : goal.returns-clause-length
returns-clause-length c = (front c).count

pub returns-clause-short : goal.returns-clause-short
returns-clause-short c = omega (arith, (front c).count, name_short c.args.self.now c.requires.name)

pub returns-clause-text : goal.returns-clause-text
returns-clause-text c = taken_front _ _ _ _ (front c)

pub returns-clause-behind : goal.returns-clause-behind
returns-clause-behind c = behind_front _ _ _ _ (front c)
