use Rattle.std.proofs.Common.{◌≡◌, refl, subst, sym, Ok, Err, ap}
use Rattle.std.proofs.lemmas.Result.{err_from_is_err_and}
use Rattle.evac_law.specs.Edits.{IsEditOf}
use Rattle.evac_law.proofs.EditLemmas.{inverse_undoes}
use Rattle.edit_session.specs.Kept.{view_of}
use Rattle.edit_session.specs.Sessions.{SessionView, TrialEnds}
use Rattle.edit_session.proofs.Going.{ends_refused, ends_tried, session_refused, session_tried, trial_kept, taken_back}
use Rattle.edit_session.proofs.session.Session.trial.Goals as goal

pub invariant_of-self : goal.invariant_of-self
invariant_of-self g c =
    let d = c.make_edit.new.self in
    let made = c.in_err-made.ensures.made in
    rw c.in_err-made.ensures.labels (session_refused d.model c.args.edit d.net c.in_err-made.field-0.0 made.0
    c.self.invariant made.2 c.in_err-made.ensures.refused c.in_err-made.ensures.scratch)

pub apply-requires-clause-in_range : goal.apply-requires-clause-in_range
apply-requires-clause-in_range g c =
    let r = c.self.inside in
    let s = r.planned in
    let done = c.in_ok-made.ensures.made.2 in
    let in_range = subst (λ (z : SessionView). IsEditOf z.state.model c.args.edit) (sym c.self.view_is) c.requires in
    (inverse_undoes s.model c.make_edit.new.self.model c.args.edit c.in_ok-made.made.inverse c.self.invariant.standing.valid in_range done.0).0

pub invariant_of-self-2 : goal.invariant_of-self-2
invariant_of-self-2 g c =
    let d = c.make_edit.new.self in
    let m' = d.model in
    let n = c.apply.new.model in
    let e = c.args.edit in
    let made = c.in_ok-made.made in
    let done = c.in_ok-made.ensures.made.2 in
    let in_range = subst (λ (z : SessionView). IsEditOf z.state.model e) (sym c.self.view_is) c.requires in
    let back = taken_back m' n e made.inverse c.apply.result c.self.invariant.standing.valid in_range done.0 c.apply.ensures.ok c.apply.ensures.fault in
    rw c.in_ok-made.ensures.labels (session_tried n c.restore.new.self
    c.self.invariant done.1 c.restore.ensures back c.in_ok-made.ensures.refused c.in_ok-made.ensures.scratch)

pub returns-in_err-made-clause-ends : goal.returns-in_err-made-clause-ends
returns-in_err-made-clause-ends g c =
    let r = c.self.inside in
    let s = r.planned in
    let d = c.make_edit.new.self in
    let made = c.in_err-made.ensures.made in
    let why = c.in_err-made.field-0.0 in
    let p = err_from_is_err_and c.from_residual.result c.from_residual.ensures.1 in
    let is : c.from_residual.result ≡ Err why = rw (p.1, p.2) refl in
    let ends = ends_refused s.model d.model c.args.edit s.net d.net s.labels s.refused d.refused d.scratch.labels r.ring.items r.work why made.0 made.2 in (
      made.0,
      made.1,
      rw (is, c.in_err-made.ensures.labels) (subst (λ (z : SessionView). TrialEnds z c.args.edit (Err why) (view_of d.model d.net s.labels d.refused r.ring.items r.work) made.0) c.self.view_is ends),
    )

pub returns-in_err-made-clause-unchanged : goal.returns-in_err-made-clause-unchanged
returns-in_err-made-clause-unchanged g c = trial_kept _ _ _ _ _ (returns-in_err-made-clause-ends g c).2

pub returns-clause-ends : goal.returns-clause-ends
returns-clause-ends g c =
    let r = c.self.inside in
    let s = r.planned in
    let d = c.make_edit.new.self in
    let m' = d.model in
    let n = c.apply.new.model in
    let u = c.restore.new.self in
    let e = c.args.edit in
    let last = c.last_arrival-last.result in
    let made = c.in_ok-made.made in
    let all = c.in_ok-made.ensures.made in
    let done = all.2 in
    let in_range = subst (λ (z : SessionView). IsEditOf z.state.model e) (sym c.self.view_is) c.requires in
    let back = taken_back m' n e made.inverse c.apply.result c.self.invariant.standing.valid in_range done.0 c.apply.ensures.ok c.apply.ensures.fault in
    let ends = ends_tried n e made.inverse u s.refused d.refused r.ring.items r.work last all.0
    c.self.invariant.standing done.1 in_range done.0 done.3 c.last_arrival-last.ensures.last c.restore.ensures back done.2 in (
      all.0,
      all.1,
      rw c.in_ok-made.ensures.labels (subst (λ (z : SessionView). TrialEnds z e (Ok last) (view_of n u s.labels d.refused r.ring.items r.work) all.0) c.self.view_is ends),
    )

pub returns-clause-unchanged : goal.returns-clause-unchanged
returns-clause-unchanged g c = let ends = returns-clause-ends g c in ap (λ (z : SessionView). z.state) ends.2.1
