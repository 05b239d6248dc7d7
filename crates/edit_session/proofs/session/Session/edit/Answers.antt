use Rattle.std.proofs.Common.{◌≡◌, ◌∷◌, ◌∙◌, take, ap, refl, subst, sym, Ok, Err}
use Rattle.std.proofs.lemmas.Result.{err_from_is_err_and}
use Rattle.evac_law.specs.Edits.{IsEditOf}
use Rattle.edit_session.specs.declared.scratch.Scratch.{Scratch}
use Rattle.edit_session.specs.Kept.{view_of}
use Rattle.edit_session.specs.Sessions.{EditEnds, SessionView}
use Rattle.edit_session.proofs.Going.{ends_edited, ends_refused, scratch_after, session_edited, session_refused, state_kept}
use Rattle.edit_session.proofs.session.Session.edit.Goals as goal

pub invariant_of-self : goal.invariant_of-self
invariant_of-self g c =
    let d = c.make_edit.new.self in
    let made = c.in_err-made.ensures.made in
    rw c.in_err-made.ensures.labels (session_refused d.model c.args.edit d.net c.in_err-made.field-0.0 made.0
    c.self.invariant made.2 c.in_err-made.ensures.refused c.in_err-made.ensures.scratch)

pub invariant_of-self-2 : goal.invariant_of-self-2
invariant_of-self-2 g c =
    let d = c.make_edit.new.self in
    let made = c.in_ok-made.made in
    let done = c.in_ok-made.ensures.made.2 in
    let in_range = subst (λ (z : SessionView). IsEditOf z.state.model c.args.edit) (sym c.self.view_is) c.requires in
    let y : Scratch = record { labels = c.swap.new.y; search = d.scratch.search; path = d.scratch.path } in
    let scratch = scratch_after c.swap.new.y c.self.invariant.standing done.1
    (c.swap.ensures.y_after ∙ c.in_ok-made.ensures.labels) c.in_ok-made.ensures.scratch in
    rw (c.push_front.ensures.items, c.swap.ensures.x_after, done.2) (session_edited c.args.edit made.inverse
    c.self.invariant done.1 scratch in_range done.0)

pub returns-in_err-made-clause-ends : goal.returns-in_err-made-clause-ends
returns-in_err-made-clause-ends g c =
    let r = c.self.inside in
    let s = r.planned in
    let d = c.make_edit.new.self in
    let made = c.in_err-made.ensures.made in
    let why = c.in_err-made.field-0.0 in
    let p = err_from_is_err_and c.from_residual.result c.from_residual.ensures.1 in
    let is : c.from_residual.result ≡ Err why = rw (p.1, p.2) refl in
    let ends = ends_refused s.model d.model c.args.edit s.net d.net s.labels s.refused d.refused d.scratch.labels r.ring.items r.work why made.0 made.2 in (
      made.0,
      made.1,
      rw (is, c.in_err-made.ensures.labels) (subst (λ (z : SessionView). EditEnds z c.args.edit (Err why) (view_of d.model d.net s.labels d.refused r.ring.items r.work) made.0) c.self.view_is ends),
    )

pub returns-in_err-made-clause-unchanged : goal.returns-in_err-made-clause-unchanged
returns-in_err-made-clause-unchanged g c = state_kept _ _ _ _ _ (returns-in_err-made-clause-ends g c).2

pub returns-clause-ends : goal.returns-clause-ends
returns-clause-ends g c =
    let r = c.self.inside in
    let s = r.planned in
    let d = c.make_edit.new.self in
    let made = c.in_ok-made.made in
    let e = c.args.edit in
    let done = c.in_ok-made.ensures.made in
    let k = d.scratch.labels in
    let ring = take r.ring.capacity (made.inverse ∷ r.ring.items) in
    let in_range = subst (λ (z : SessionView). IsEditOf z.state.model e) (sym c.self.view_is) c.requires in
    let ends = ends_edited e made.inverse r.work done.0 c.self.invariant done.2.1 in_range done.2.0 done.2.3 in
    let items : c.push_front.new.self.items ≡ ring = ap (λ z. z.items) c.push_front.ensures.items in (
      done.0,
      done.1,
      rw (items, c.swap.ensures.x_after, done.2.2)
          (subst (λ (z : SessionView). EditEnds z e (Ok made.work) (view_of d.model d.net k s.refused ring made.work) done.0) c.self.view_is ends),
    )
