-- What is on a desk is of one building, before an edit and after it.
use Rattle.std.proofs.Common.{◌≡◌, ℕ, refl, sym, ap, subst, Result, Ok, Err}
use Rattle.evac_law.specs.declared.edit.Edit.{Edit}
use Rattle.evac_law.specs.declared.model.Model.{Model}
use Rattle.evac_law.specs.Shapes.{HasSameShape}
use Rattle.building_table.specs.Names.{NameTable, NamesFit}
use Rattle.building_table.proofs.FitLemmas.{names_kept}
use Rattle.edit_session.specs.declared.faults.EditRefusal.{EditRefusal}
use Rattle.edit_session.specs.declared.faults.EditRefusal.TheVariants.{Fault, NotCleared}
use Rattle.edit_session.specs.declared.faults.UndoRefusal.{UndoRefusal}
use Rattle.edit_session.specs.declared.faults.UndoRefusal.TheVariants.{NothingToUndo}
use Rattle.edit_session.specs.declared.work.Work.{Work}
use Rattle.edit_session.specs.Sessions.{Begins, EditEnds, SessionState, SessionView, UndoEnds}
use Rattle.plan_layout.specs.Layouts.{IsSameSite}
use Rattle.route_decompose.specs.Routes.{RoutesView}
use Rattle.session_text.specs.Laws.{IsOfBuilding}
use Rattle.session_text.specs.Spaces.{IsSpace, SpaceView}
use Rattle.session_text.proofs.Serving.{begins_of_building, edit_keeps_building, shape_serves, undo_keeps_building}
use Rattle.talk.specs.SessionDesks.{DeskView, HasTables, IsDesk}

-- ---- models of one shape

shape-back : (m m' : Model) → HasSameShape m m' → HasSameShape m' m
shape-back m m' h = record {
  names = sym h.names;
  ways = sym h.ways;
  horizon = sym h.horizon;
  seconds = sym h.seconds;
  entrants = sym h.entrants;
}

-- ---- at the model that stands

pub desk_seen : {d d' : DeskView} {v : SessionView} → d ≡ d' → IsDesk d' v → IsDesk d v
desk_seen {v = v} same h = let P : DeskView → Type 0 = λ x. IsDesk x v in subst P (sym same) h

pub desk_fit : (d : DeskView) (v : SessionView) → IsDesk d v → NamesFit d.names v.state.model
desk_fit d v h = names_kept d.names h.building v.state.model h.of_building.same_shape h.names_fit

pub desk_site : (d : DeskView) (v : SessionView) → IsDesk d v → IsSameSite v.state.model d.routes.model
desk_site d v h = (shape_serves h.building v.state.model h.of_building.same_shape).site d.routes.model h.site

pub desk_space : (d : DeskView) (v : SessionView) → IsDesk d v → IsSpace v.state.model d.names d.space
desk_space d v h = (shape_serves h.building v.state.model h.of_building.same_shape).space d.names d.space h.space

pub with_routes : (d : DeskView) (routes : RoutesView) (v : SessionView) → IsDesk d v → routes.model ≡ v.state.model → IsDesk (record d { routes = routes }) v
with_routes d routes v h same = record {
  building = h.building;
  of_building = h.of_building;
  names_fit = h.names_fit;
  site = subst (IsSameSite h.building) (sym same) (shape_serves h.building v.state.model h.of_building.same_shape).same_site;
  space = h.space;
}

pub with_space : (d : DeskView) (space : SpaceView) (v : SessionView) → IsDesk d v → IsSpace v.state.model d.names space → IsDesk (record d { space = space }) v
with_space d space v h fits = record {
  building = h.building;
  of_building = h.of_building;
  names_fit = h.names_fit;
  site = h.site;
  space = (shape_serves v.state.model h.building (shape-back h.building v.state.model h.of_building.same_shape)).space d.names space fits;
}

-- the index is no part of it
pub with_index : (d d' : DeskView) (v : SessionView) → d' ≡ record d { index = d'.index } → IsDesk d v → IsDesk d' v
with_index d d' v same h =
    desk_seen same (record { building = h.building; of_building = h.of_building; names_fit = h.names_fit; site = h.site; space = h.space })

-- ---- after an edit

with_state : (d : DeskView) (v v' : SessionView) (h : IsDesk d v) → IsOfBuilding h.building v'.state → IsDesk d v'
with_state d v v' h of = record { building = h.building; of_building = of; names_fit = h.names_fit; site = h.site; space = h.space }

stays_of : (m : Model) (s s' : SessionState) → s' ≡ s → IsOfBuilding m s → IsOfBuilding m s'
stays_of m s s' same h = subst (IsOfBuilding m) (sym same) h

pub with_edited : (d : DeskView) (v v' : SessionView) (e : Edit) (result : Result Work EditRefusal) (steps : ℕ) → IsDesk d v → EditEnds v e result v' steps → IsDesk d v'
with_edited d v v' e (Ok w) steps h ends = with_state d v v' h (edit_keeps_building h.building v.state v'.state e h.of_building ends.0)
with_edited d v v' e (Err (Fault fault)) steps h ends =
    with_state d v v' h (stays_of h.building v.state v'.state (ap (λ (x : SessionView). x.state) ends.1) h.of_building)
with_edited d v v' e (Err (NotCleared all most)) steps h ends = with_state d v v' h (stays_of h.building v.state v'.state ends.1 h.of_building)

pub with_undone : (d : DeskView) (v v' : SessionView) (result : Result Work UndoRefusal) (steps : ℕ) → IsDesk d v → UndoEnds v result v' steps → IsDesk d v'
with_undone d v v' (Ok w) steps h ends = with_state d v v' h (undo_keeps_building h.building v.state v'.state h.of_building ends.0)
with_undone d v v' (Err NothingToUndo) steps h ends =
    with_state d v v' h (stays_of h.building v.state v'.state (ap (λ (x : SessionView). x.state) ends.1) h.of_building)

-- a desk that is laid for the model with which a session begins
pub desk_opened : (names : NameTable) (m : Model) (d : DeskView) (v : SessionView) → NamesFit names m → d.names ≡ names → HasTables m d → Begins m v.state → IsDesk d v
desk_opened names m d v fit same tables begins = record {
  building = m;
  of_building = begins_of_building m v.state begins;
  names_fit = subst (λ (x : NameTable). NamesFit x m) (sym same) fit;
  site = subst (IsSameSite m) (sym tables.routes) (record { horizon = refl; nodes = refl; ends = refl; entrants = refl });
  space = tables.space;
}
