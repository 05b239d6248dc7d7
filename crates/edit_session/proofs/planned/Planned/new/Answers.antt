use Rattle.std.proofs.Common.{ℕ, ◌+◌, ◌*◌, replicate, refl, ap, ◌∙◌}
use Rattle.evac_law.specs.LabelTable.{LabelTable, unset}
use Rattle.edit_session.proofs.planned.Planned.new.Goals as goal

pub returns : goal.returns
returns c =
    let m = c.args.model in
    let blank : ℕ → LabelTable = λ n. record { nodes = n; horizon = m.horizon; list = replicate (n * (m.horizon + 1)) unset } in
    record {
      model = refl;
      of = c.in_ok-net.ensures.of;
      empty = c.in_ok-net.ensures.empty;
      labels = c.in_ok-labels.ensures ∙ ap blank c.node_count.ensures.count;
      refused = c.in_ok-refused.ensures ∙ ap blank c.node_count-2.ensures.count;
      scratch = c.in_ok-scratch.ensures;
    }
