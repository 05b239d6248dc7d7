use Rattle.std.proofs.Common.{ℕ, ◌+◌, ◌≤◌, ap, subst, sym, refl, arith, ◌∙◌}
use Rattle.evac_law.specs.declared.model.Model.{Model}
use Rattle.evac_law.specs.Certificates.{IsTableOf}
use Rattle.evac_law.specs.LabelTable.{LabelTable}
use Rattle.residual_net.specs.OfModel.{site_of}
use Rattle.residual_net.specs.Site.{Site}
use Rattle.terminal_augment.specs.Settled.{IsSearchOf, SearchSize}
use Rattle.lex_flow.specs.Settling.{arrivals_below}
use Rattle.edit_session.specs.declared.scratch.Scratch.{Scratch}
use Rattle.edit_session.specs.declared.work.Work.{Work}
use Rattle.edit_session.specs.Mended.{IsScratchOf, IsStanding, last_arrival_of}
use Rattle.edit_session.specs.Sessions.{kept_limit}
use Rattle.edit_session.proofs.Going.{session_begun}
use Rattle.edit_session.proofs.Standing.{begun_by, not_cleared_by}
use Rattle.edit_session.proofs.Thrifty.{spent_opening}
use Rattle.edit_session.proofs.session.Session.begin.Goals as goal

pub settle_all-requires : goal.settle_all-requires
settle_all-requires g c = grind arith

pub invariant_of-result : goal.invariant_of-result
unfolding kept_limit
invariant_of-result g c =
    let m = c.args.model in
    let planned = c.in-Ok-new.planned in
    let fresh = c.in-Ok-new.ensures in
    let done = c.in-Cleared.ensures in
    let l = c.settle_all.new.labels in
    let table : IsTableOf m l = record {
      nodes = done.labels.labels.nodes ∙ ap (λ (z : LabelTable). z.nodes) fresh.labels;
      horizon = done.labels.labels.horizon ∙ ap (λ (z : LabelTable). z.horizon) fresh.labels;
    } in
    let refused : IsTableOf m planned.refused = record {
      nodes = ap (λ (z : LabelTable). z.nodes) fresh.refused;
      horizon = ap (λ (z : LabelTable). z.horizon) fresh.refused;
    } in
    let x : Scratch = record { labels = planned.scratch.labels; search = c.settle_all.new.search; path = planned.scratch.path } in
    let scratch : IsScratchOf (site_of m) x = record {
      labels = fresh.scratch.labels;
      search = subst (λ (z : SearchSize). IsSearchOf (site_of m) z) (sym done.search) fresh.scratch.search;
      room = fresh.scratch.room;
    } in
    rw fresh.model (session_begun c.in-Ok.ring.items c.in-Ok.ring.capacity c.requires c.settle_all.ensures.net.net fresh.of
    done.net.limits done.net.within (done.answer m c.requires fresh.of) table done.labels.closed refused (ap (λ z. z.items) c.in-Ok.ensures)
    (ap (λ z. z.capacity) c.in-Ok.ensures) scratch)

pub returns-in-Cleared : goal.returns-in-Cleared
returns-in-Cleared g c =
    let m = c.args.model in
    let planned = c.in-Ok-new.planned in
    let fresh = c.in-Ok-new.ensures in
    let done = c.in-Cleared.ensures in
    let u = c.settle_all.new.net in
    let pushes = c.in-Cleared.pushes in
    let session = invariant_of-result g c in
    let standing = subst (λ (z : Model). IsStanding z u c.settle_all.new.labels) fresh.model session.standing in
    let answer = done.answer m c.requires fresh.of in
    let bounded : pushes + arrivals_below planned.net (last_arrival_of u + 1) ≤ arrivals_below u (last_arrival_of u + 1) =
    subst (λ (k : ℕ). pushes + arrivals_below planned.net (k + 1) ≤ arrivals_below u (k + 1)) answer.last done.net.bounded in
    let work : Work = record { cancelled = 0; pushes = pushes } in (
      pushes,
      done.ticked,
      rw fresh.model (
        begun_by planned.net c.in-Ok.ring.items work standing (ap (λ z. z.items) c.in-Ok.ensures) refl bounded,
        fresh.refused,
        refl,
      ),
    )

pub returns-in-Short : goal.returns-in-Short
returns-in-Short g c =
    let m = c.args.model in
    let planned = c.in-Ok-new.planned in
    let fresh = c.in-Ok-new.ensures in
    let done = c.in-Short.ensures in
    let u = c.settle_all.new.net in
    let pushes = c.in-Short.pushes in
    let most = c.in-Short.most in
    let answer = done.answer m c.requires fresh.of in
    let bound : pushes + arrivals_below planned.net (m.horizon + 1) ≤ arrivals_below u (m.horizon + 1) =
    subst (λ (h : ℕ). pushes + arrivals_below planned.net (h + 1) ≤ arrivals_below u (h + 1))
    (ap (λ (s : Site). s.shape.horizon) (done.net.limits.site ∙ fresh.of.site)) done.net.bounded in (
      pushes,
      done.ticked,
      rw c.into_short.ensures (
        fresh.model,
        record {
          nodes = done.labels.labels.nodes ∙ ap (λ (l : LabelTable). l.nodes) fresh.labels;
          horizon = done.labels.labels.horizon ∙ ap (λ (l : LabelTable). l.horizon) fresh.labels;
        },
        not_cleared_by c.settle_all.new.labels answer.1,
        spent_opening m planned.net u pushes most answer.0 bound,
      ),
    )
