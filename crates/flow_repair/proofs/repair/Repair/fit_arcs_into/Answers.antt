use Rattle.std.proofs.Common.{◌≡◌, ◌≢◌, ◌+◌, ◌<◌, ◌≤◌, ℕ, length, eqb, ltb, ◌&&◌, ap, sym, subst, arith, ◌∙◌}
use Rattle.std.proofs.lemmas.Grind.{common_steps}
use Rattle.evac_law.specs.declared.model.ArcRow.{ArcRow}
use Rattle.evac_law.specs.declared.model.Model.{Model}
use Rattle.evac_law.specs.Building.{head}
use Rattle.time_expansion.specs.Expansion.{to_at}
use Rattle.residual_net.specs.declared.place.Place.{Place}
use Rattle.residual_net.specs.Site.{Site, arc_count}
use Rattle.residual_net.specs.Start.{is_kind, row_of}
use Rattle.residual_net.specs.declared.start.Kind.TheVariants as kinds
use Rattle.residual_net.proofs.Held.{to_is}
use Rattle.flow_repair.specs.declared.repair.Repair.{Repair}
use Rattle.flow_repair.specs.Repairing.{Refits}
use Rattle.flow_repair.proofs.Arcs.{arcs_done, arcs_skip, arcs_step}
use Rattle.flow_repair.proofs.Repairing.{refits_by, refits_then, still_can_fit}
use Rattle.flow_repair.proofs.repair.Repair.fit_arcs_into.Goals as goal
use Rattle.flow_repair.proofs.repair.Repair.fit_arcs_into.Goals.{then-arc-node, else-arc-node}

pub fit_row-requires-clause-fittable : goal.fit_row-requires-clause-fittable
fit_row-requires-clause-fittable g c = still_can_fit c.loop-arc.invariant c.requires.fittable

pub loop-arc-preserved : goal.loop-arc-preserved
loop-arc-preserved g c =
    let r = c.args.self.now in
    let m = r.model.now in
    let a = c.loop-arc.arc in
    let n = c.args.node in
    let f = λ (i : ℕ). to_at r.net.now.site.shape i in
    let so_far = λ (j : ℕ) (p : Place). (is_kind kinds.Arc p && eqb (f (row_of p)) n) && ltb (row_of p) j in
    let old = c.loop-arc.invariant in
    let in_arcs : a < length m.arcs = omega (arith, c.loop-arc-test.true, c.loop-arc.auto.arc-end, c.arc_count-arc-end.ensures.count) in
    let there : f a ≡ c.arc.result.now.to =
    ap (λ (z : Site). to_at z.shape a) c.requires.fittable.between.of_model ∙ to_is m a in_arcs
    ∙ ap (λ (x : Model). head x a) (sym old.goes_on.same.model) ∙ sym (ap (λ (x : ArcRow). x.to) c.arc.ensures) in
    elim c.if-arc-node.branch [
      | then-arc-node w ↦
          let leads : f a ≡ n = there ∙ w.if-arc-node.true in
          subst (λ (t : Repair _). Refits (so_far (a + 1)) r t) (sym w.self-is) (refits_then (so_far (a + 1)) old w.fit_row.ensures
          (λ p _. arcs_step f (is_kind kinds.Arc p) (row_of p) a n leads))
      | else-arc-node w ↦
          let leads : f a ≢ n = λ e. w.if-arc-node.false (sym there ∙ e) in
          subst (λ (t : Repair _). Refits (so_far (a + 1)) r t) (sym w.self-is)
          (refits_by (so_far (a + 1)) old (λ p _. arcs_skip f (is_kind kinds.Arc p) (row_of p) a n leads))
    ]

pub returns : goal.returns
returns g c =
    let s = c.args.self.now.net.now.site in
    let all : arc_count s ≤ c.loop-arc.arc = grind (arith, common_steps, c.requires.fittable.between.of_model) in
    refits_by (λ p. is_kind kinds.Arc p && eqb (to_at s.shape (row_of p)) c.args.node) c.loop-arc.invariant (λ p i. arcs_done s (to_at s.shape) c.loop-arc.arc c.args.node p all i)
