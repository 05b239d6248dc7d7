use Rattle.std.proofs.Common.{◌≡◌, ℕ, List, ◌∙◌, ap, take, drop}
use Rattle.std.specs.List.{after_first, before_first}
use Rattle.model_text.specs.NameFields.{is_dot, name_of}
use Rattle.model_text.proofs.name.read_name.Goals as goal

pub returns : goal.returns
unfolding name_of
returns c =
    let field : List ℕ = c.args.field.now in
    let letters : c.letters.result.0.now ≡ take 2 field = c.letters.ensures.front in
    let number : c.parted.result.0.now ≡ before_first is_dot (drop 2 field) = c.parted.ensures.front ∙ ap (before_first is_dot) c.letters.ensures.back in
    let floor : c.parted.result.1.now ≡ after_first is_dot (drop 2 field) = c.parted.ensures.back ∙ ap (after_first is_dot) c.letters.ensures.back in
    rw (← letters, ← number, ← floor) c.name_of_parts.ensures
