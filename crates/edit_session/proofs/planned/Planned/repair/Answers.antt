use Rattle.std.proofs.Common.{◌≡◌, ℕ, ◌+◌, ◌-◌, ◌≤◌, ap, subst, sym, arith, ◌∙◌}
use Rattle.evac_law.specs.Plans.{violation}
use Rattle.residual_net.specs.Network.{Network, arrived_by, flow_at, flow_out, saved_of}
use Rattle.residual_net.specs.OfModel.{IsNetOf, last_move, plan_of}
use Rattle.residual_net.specs.Site.{Site, IsPlace, is_source}
use Rattle.residual_net.proofs.SentLemmas.{arrived_all_sent}
use Rattle.residual_net.proofs.Kept.{same_saved}
use Rattle.residual_net.proofs.LastArrival.{last_fits}
use Rattle.terminal_augment.specs.Settled.{IsClosedBelow, IsLabelsOf}
use Rattle.lex_flow.specs.Outcomes.{IsCleared}
use Rattle.lex_flow.specs.Settling.{IsRelabelled, arrivals_below}
use Rattle.flow_repair.specs.Refit.{IsEditOfNet}
use Rattle.flow_repair.specs.Opened.{IsLeastOpened}
use Rattle.evac_law.specs.LabelTable.{LabelTable}
use Rattle.terminal_augment.proofs.KeptLemmas.{net_of_kept}
use Rattle.flow_repair.proofs.Whole.{valid_now}
use Rattle.edit_session.specs.declared.work.Work.{Work}
use Rattle.edit_session.specs.Mended.{last_arrival_of}
use Rattle.edit_session.proofs.Saved.{arrived_saved, edit_saved, flow_saved, of_saved, plan_saved, reshapable_saved, sources_saved}
use Rattle.edit_session.proofs.RepairLemmas.{IsBrought, least_saved, repair_of}
use Rattle.edit_session.proofs.Thrifty.{spent, thrifty}
use Rattle.edit_session.proofs.planned.Planned.repair.Goals as goal

-- relabelled labels of a network are for another with the same nodes and moments
relabelled_for : {s r : Site} {k l m : LabelTable} {from past : ℕ} → s ≡ r → l.nodes ≡ k.nodes → l.horizon ≡ k.horizon → IsRelabelled l m from past → IsLabelsOf s k
    → IsLabelsOf r m
relabelled_for {r} {m} site nodes horizon more labels = grind arith

pub reshape-taken-requires : goal.reshape-taken-requires
reshape-taken-requires g c =
    rw (c.recall.ensures, c.save.ensures) (reshapable_saved c.args.self.now.scratch.path.room c.requires.repairable c.requires.scratch.room)

pub settle_all-requires : goal.settle_all-requires
settle_all-requires g c = grind (arith, plan_saved, last_fits)

pub returns-in-Cleared-clause-mended : goal.returns-in-Cleared-clause-mended
returns-in-Cleared-clause-mended g c =
    let m = c.args.self.now.model in
    let w = c.args.self.now.net in
    let s = c.save.new.self in
    let v = c.reshape-taken.new.net in
    let u = c.settle_all.new.net in
    let l = c.settle_all.new.labels in
    let old = c.args.self.now.labels in
    let least = c.reshape-taken.result.least_label in
    let taken = c.reshape-taken.ensures in
    let done = c.in-Cleared.ensures in
    let edited : IsEditOfNet m c.args.edit s = rw c.save.ensures (edit_saved c.requires.repairable) in
    let valid = valid_now edited in
    let of_u = net_of_kept m v u done.net.limits taken.net.of in
    let answer = done.answer m valid taken.net.of in
    let same : s.site ≡ w.site = ap (λ (z : Network). z.site) c.save.ensures in
    let site : u.site ≡ w.site = done.net.limits.site ∙ taken.net.site ∙ same in
    record {
      site = site;
      saved = done.net.limits.saved ∙ taken.net.saved ∙ ap (λ (z : Network). z.saved) c.save.ensures;
      standing = record {
        valid = valid;
        net = done.net.net;
        of = of_u;
        within = done.net.within;
        sent = arrived_all_sent m u valid done.net.net of_u done.net.within answer.arrived;
        cleared = subst (λ (k : ℕ). IsCleared m u l k) answer.last answer;
        labels = relabelled_for (sym site) (ap (λ z. z.nodes) c.copy_from.ensures) (ap (λ z. z.horizon) c.copy_from.ensures) done.labels.labels
            c.requires.repairable.standing.labels;
        closed = subst (λ (k : ℕ). IsClosedBelow u l (k + 1)) answer.last done.labels.closed;
      };
      repaired = λ b standing.
          let brought : IsBrought b m w v old = record {
            standing = standing;
            valid = valid;
            net = taken.net.net;
            of = taken.net.of;
            within = taken.net.within;
            site = taken.net.site ∙ same;
            flows = λ p i.
                omega (
                  arith,
                  taken.taken.flows p (subst (λ (z : Site). IsPlace z p) (sym same) i),
                  ap (λ (z : Network). flow_at z p) c.save.ensures,
                  flow_saved w p,
                );
          } in
          let opened = least_saved w (subst (λ (z : Network). IsLeastOpened old z v (last_arrival_of z + 1) least) c.save.ensures taken.labels.least) in
          let relabelled = subst (λ (z : LabelTable). IsRelabelled z l least (c.in-Cleared.moment + 1)) c.copy_from.ensures done.labels.labels in
          repair_of c.reshape-taken.result.cancelled brought
          (taken.taken.exact ∙ ap (λ (z : Network). flow_out z is_source) c.save.ensures ∙ sources_saved w) (ap (λ p. last_move w.site p + 1) (plan_saved w)) opened relabelled;
      thrifty = λ b valid_b of_b.
          let of_s : IsNetOf b s = rw c.save.ensures (of_saved of_b) in
          let work : Work = record { cancelled = c.reshape-taken.result.cancelled; pushes = c.in-Cleared.pushes } in
          thrifty b m w v u (last_arrival_of u) work valid_b valid c.requires.repairable.standing.net done.net.net of_b of_u (taken.net.site ∙ same)
          (subst (λ z. c.reshape-taken.result.cancelled ≤ violation b z m) (ap plan_of c.save.ensures ∙ plan_saved w) (taken.taken.few b valid_b of_s))
          (λ k. omega (arith, taken.taken.arrivals k, ap (λ (z : Network). arrived_by z k) c.save.ensures, arrived_saved w k))
          (λ e p i. taken.taken.idle e p (subst (λ (z : Site). IsPlace z p) (sym same) i) ∙ ap (λ (z : Network). flow_at z p) c.save.ensures ∙ flow_saved w p)
          (subst (λ (k : ℕ). c.in-Cleared.pushes + arrivals_below v (k + 1) ≤ arrivals_below u (k + 1)) answer.last done.net.bounded) done.net.idle;
    }

pub returns-in-Short-clause-mended : goal.returns-in-Short-clause-mended
returns-in-Short-clause-mended g c =
    let m = c.args.self.now.model in
    let w = c.args.self.now.net in
    let s = c.save.new.self in
    let taken = c.reshape-taken.ensures.net in
    let done = c.in-Short.ensures in
    let edited : IsEditOfNet m c.args.edit s = rw c.save.ensures (edit_saved c.requires.repairable) in
    let answer = done.answer m (valid_now edited) taken.of in
    let same : s.site ≡ w.site = ap (λ (z : Network). z.site) c.save.ensures in
    let of_w = sym (taken.site ∙ same) ∙ taken.of.site in
    let labels = relabelled_for of_w (ap (λ z. z.nodes) c.copy_from.ensures) (ap (λ z. z.horizon) c.copy_from.ensures) done.labels.labels
    c.requires.repairable.standing.labels in
    record {
      net = c.restore.ensures ∙ same_saved s c.settle_all.new.net (done.net.limits.site ∙ taken.site) (done.net.limits.saved ∙ taken.saved) ∙ ap saved_of c.save.ensures;
      shown = record {
        table = record { nodes = labels.nodes; horizon = labels.horizon };
        barred_by = answer.1;
      };
    }

pub returns-in-Short-clause-counted : goal.returns-in-Short-clause-counted
returns-in-Short-clause-counted g c =
    let m = c.args.self.now.model in
    let w = c.args.self.now.net in
    let s = c.save.new.self in
    let v = c.reshape-taken.new.net in
    let u = c.settle_all.new.net in
    let most = c.in-Short.most in
    let pushes = c.in-Short.pushes in
    let taken = c.reshape-taken.ensures in
    let done = c.in-Short.ensures in
    let edited : IsEditOfNet m c.args.edit s = rw c.save.ensures (edit_saved c.requires.repairable) in
    let answer = done.answer m (valid_now edited) taken.net.of in
    let fewer : c.settle_all.new.steps - c.args.steps.now ≤ c.reshape-taken.result.cancelled + pushes = omega (arith, taken.steps.ticked, done.ticked) in (
      omega (arith, taken.steps.counted, done.ticked),
      λ b valid_b of_b.
          let of_s : IsNetOf b s = rw c.save.ensures (of_saved of_b) in
          let same : u.site.shape.horizon ≡ b.horizon = ap (λ (z : Site). z.shape.horizon) (done.net.limits.site ∙ taken.net.site ∙ of_s.site) in
          let other : m.horizon ≡ b.horizon = ap (λ (z : Site). z.shape.horizon) (sym taken.net.of.site ∙ taken.net.site ∙ of_s.site) in
          let all : arrived_by u b.horizon ≤ most = omega (arith, ap (arrived_by u) (sym other), answer.0) in
          let bound : pushes + arrivals_below v (b.horizon + 1) ≤ arrivals_below u (b.horizon + 1) =
          subst (λ h. pushes + arrivals_below v (h + 1) ≤ arrivals_below u (h + 1)) same done.net.bounded in
          spent b m w v u c.reshape-taken.result.cancelled pushes most (c.settle_all.new.steps - c.args.steps.now) valid_b c.requires.repairable.standing.net of_b
          (subst (λ z. c.reshape-taken.result.cancelled ≤ violation b z m) (ap plan_of c.save.ensures ∙ plan_saved w) (taken.taken.few b valid_b of_s))
          (λ k. omega (arith, taken.taken.arrivals k, ap (λ (z : Network). arrived_by z k) c.save.ensures, arrived_saved w k))
          bound all fewer,
    )
