use Rattle.std.proofs.Common.{◌≡◌, ◌-◌, List, drop, ap, subst, sym, arith, ◌∙◌, Ok}
use Rattle.evac_law.specs.declared.edit.Edit.{Edit}
use Rattle.evac_law.specs.declared.model.Model.{Model}
use Rattle.evac_law.specs.Edits.{edited, inverse_of}
use Rattle.edit_session.specs.Kept.{view_of}
use Rattle.edit_session.specs.Mended.{IsCarried, IsRefused, IsRepairable}
use Rattle.edit_session.specs.Sessions.{SessionView, UndoEnds}
use Rattle.edit_session.proofs.Going.{ends_undone, first_kept, made_kept, never_barred, repairable, scratch_after, session_kept, session_undone}
use Rattle.edit_session.proofs.session.Session.undo.Goals as goal

pub repair-requires-clause-repairable : goal.repair-requires-clause-repairable
repair-requires-clause-repairable g c =
    let r = c.self.inside in
    let s = r.planned in
    let e = c.in-Some.back in
    let all = session_kept e (sym c.pop_front.ensures.value ∙ c.in-Some.is) c.self.invariant in
    let model = made_kept c.apply.new.model c.apply.result all c.apply.ensures.ok c.apply.ensures.fault in
    subst (λ (z : Model). IsRepairable z e s.net s.labels) (sym model)
    (repairable (edited s.model e) e (inverse_of s.model e) all.standing all.back.0 all.back.1)

pub invariant_of-self-in-Cleared : goal.invariant_of-self-in-Cleared
invariant_of-self-in-Cleared g c = grind (arith, session_kept, made_kept, scratch_after, session_undone)

pub unreachable-requires : goal.unreachable-requires
unreachable-requires g c =
    let r = c.self.inside in
    let s = r.planned in
    let e = c.in-Some.back in
    let v = c.repair.new.self.net in
    let cut = c.repair.new.self.scratch.labels in
    let all = session_kept e (sym c.pop_front.ensures.value ∙ c.in-Some.is) c.self.invariant in
    let model = made_kept c.apply.new.model c.apply.result all c.apply.ensures.ok c.apply.ensures.fault in
    let short = subst (λ (z : Model). IsRefused z s.net v cut c.in-Short.most) model c.in-Short.ensures.mended in
    never_barred s.model e s.net v s.labels s.refused cut (drop 1 r.ring.items) r.ring.capacity c.in-Short.most s.scratch all short

pub returns-clause-ends : goal.returns-clause-ends
returns-clause-ends g c =
    let r = c.self.inside in
    let s = r.planned in
    let e = c.in-Some.back in
    let v = c.repair.new.self.net in
    let k = c.repair.new.self.scratch.labels in
    let work = c.in-Cleared.work in
    let steps = c.repair.new.steps - c.args.steps.now in
    let rest = drop 1 r.ring.items in
    let all = session_kept e (sym c.pop_front.ensures.value ∙ c.in-Some.is) c.self.invariant in
    let model = made_kept c.apply.new.model c.apply.result all c.apply.ensures.ok c.apply.ensures.fault in
    let items : c.pop_front.new.self.items ≡ rest = ap (λ z. z.items) c.pop_front.ensures.items in
    let done = subst (λ (z : Model). IsCarried z s.net v s.labels k work) model c.in-Cleared.ensures.mended in
    let ends = ends_undone e rest r.work steps all done c.in-Cleared.ensures.counted.1 in
    let from_ring = subst (λ (z : List Edit). UndoEnds (view_of s.model s.net s.labels s.refused z r.work) (Ok work)
    (view_of (edited s.model e) v k s.refused rest work) steps) (sym (first_kept r.ring.items e (sym c.pop_front.ensures.value ∙ c.in-Some.is))) ends in
    let from_view = subst (λ (z : SessionView). UndoEnds z (Ok work) (view_of (edited s.model e) v k s.refused rest work) steps) c.self.view_is from_ring in
    (steps, omega (arith, c.in-Cleared.ensures.counted.0), rw (c.in-Cleared.ensures.model ∙ model, items, c.swap.ensures.x_after, c.in-Cleared.ensures.refused) from_view)
