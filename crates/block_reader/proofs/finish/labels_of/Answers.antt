use Rattle.std.proofs.Common.{◌≡◌, ◌≤◌, List, get_or, Some, ap, ◌∙◌, arith}
use Rattle.std.specs.List.{slice_get}
use Rattle.std.proofs.lemmas.List.{take_all}
use Rattle.std.proofs.lemmas.Option.{slice_get-get_or, slice_get_within}
use Rattle.evac_law.specs.LabelTable.{LabelTable}
use Rattle.block_reader.specs.declared.run.Run.{Run}
use Rattle.block_reader.specs.Drafts.{filled, no_run}
use Rattle.block_reader.proofs.LabelLemmas.{filled-else, outside-behind}
use Rattle.block_reader.proofs.RunLabels.{filled-run, fresh, fresh-label, fresh-full, label-none, stop-in}
use Rattle.block_reader.proofs.finish.labels_of.Goals as goal

pub loop-place-init : goal.loop-place-init
unfolding fresh
loop-place-init c = grind (arith, fresh, fresh-full, fresh-label, label-none)

pub fill-requires-clause-stop_in : goal.fill-requires-clause-stop_in
fill-requires-clause-stop_in c =
    omega (arith, c.run_stop.ensures, stop-in c.args.model.now c.args.cleared c.args.runs.now c.loop-place.place c.requires.runs, c.loop-place.invariant.horizon, c.requires.cleared_in)

pub loop-place-preserved : goal.loop-place-preserved
loop-place-preserved c =
    let runs : List Run = c.args.runs.now in
    let l : LabelTable = c.loop-place.labels in
    let i = c.loop-place.place in
    let inv = c.loop-place.invariant in
    let fill = c.fill.ensures in
    let r : Run = get_or runs i no_run in
    let e : slice_get runs i ≡ Some r = slice_get-get_or runs i no_run (omega arith) in
    let stop : c.run_stop.result ≤ c.args.cleared = omega (arith, c.run_stop.ensures, stop-in c.args.model.now c.args.cleared runs i c.requires.runs) in
    record {
      nodes = fill.nodes ∙ inv.nodes;
      horizon = fill.horizon ∙ inv.horizon;
      full = record { full = fill.full };
      early = λ n t a b o.
          fill.labels n t (omega (arith, b, inv.horizon, c.requires.cleared_in)) ∙ ap (λ k. filled l r k n t) c.run_stop.ensures
          ∙ filled-run runs l i c.args.cleared n t r e b o (λ p. inv.early n t a b p);
      late = λ n t a b d.
          fill.labels n t (omega (arith, d, inv.horizon)) ∙ filled-else l r c.run_stop.result n t (outside-behind r c.run_stop.result n t (omega (arith, b, stop)))
          ∙ inv.late n t a b d;
    }

pub returns : goal.returns
returns c = grind (arith, slice_get_within, take_all)
