-- What serves a model serves another of the same shape, and the models of a session have one shape.
use Rattle.std.proofs.Common.{◌≡◌, ℕ, suc, ◌+◌, ◌==◌, List, [], ◌∷◌, length, map, get_or, refl, ap, ap₂, sym, subst, ◌∙◌, arith, Ok}
use Rattle.std.specs.List.{All, filter}
use Rattle.std.proofs.Math.ListN.{get_or-map}
use Rattle.std.proofs.lemmas.List.{length-map}
use Rattle.std.proofs.lemmas.List.Elements.{All-cons, All-nil, All-take, filter_agree}
use Rattle.evac_law.specs.declared.edit.Edit.{Edit}
use Rattle.evac_law.specs.declared.model.Model.{Model}
use Rattle.evac_law.specs.declared.name.NodeName.{NodeName}
use Rattle.evac_law.specs.Building.{no_node, node_at}
use Rattle.evac_law.specs.Edits.{applied}
use Rattle.evac_law.specs.Shapes.{HasSameShape, name_of_row, way_of_row}
use Rattle.evac_law.specs.Sums.{below, places}
use Rattle.evac_law.proofs.ShapeLemmas.{applied_keeps_shape, same_shape-trans}
use Rattle.building_table.specs.Names.{NameTable}
use Rattle.edit_session.specs.Sessions.{Begins, IsEdited, IsUndone, SessionState, kept_limit}
use Rattle.floor_index.specs.Floors.{is_on, nodes_on}
use Rattle.plan_layout.specs.Layouts.{IsSameSite}
use Rattle.plan_layout.proofs.ShapeLemmas.{site_of_shape}
use Rattle.session_text.specs.Spaces.{IsSpace, SpaceView}
use Rattle.session_text.specs.Laws.{IsOfBuilding, Serves}

-- ---- models of one shape

nodes_same : (m m' : Model) → HasSameShape m m' → length m'.nodes ≡ length m.nodes
nodes_same m m' h = sym (length-map m'.nodes name_of_row) ∙ ap length h.names ∙ length-map m.nodes name_of_row

arcs_same : (m m' : Model) → HasSameShape m m' → length m'.arcs ≡ length m.arcs
arcs_same m m' h = sym (length-map m'.arcs way_of_row) ∙ ap length h.ways ∙ length-map m.arcs way_of_row

name_same : (m m' : Model) (n : ℕ) → HasSameShape m m' → (node_at m' n).name ≡ (node_at m n).name
name_same m m' n h =
    sym (get_or-map name_of_row m'.nodes n no_node) ∙ ap (λ (l : List NodeName). get_or l n no_node.name) h.names ∙ get_or-map name_of_row m.nodes n no_node

floor_same : (m m' : Model) (floor : ℕ) → HasSameShape m m' → nodes_on m' floor ≡ nodes_on m floor
unfolding nodes_on
floor_same m m' floor h =
    ap (λ (k : ℕ). filter (is_on m' floor) (below k)) (nodes_same m m' h)
    ∙ filter_agree (is_on m' floor) (is_on m floor) (λ n. ap (λ (name : NodeName). name.floor == floor) (name_same m m' n h)) (places m.nodes)

floors_same : (m m' : Model) (floors : List ℕ) → HasSameShape m m' → map (nodes_on m') floors ≡ map (nodes_on m) floors
floors_same m m' [] h = refl
floors_same m m' (f ∷ floors) h = ap₂ (λ (l : List ℕ) (ls : List (List ℕ)). l ∷ ls) (floor_same m m' f h) (floors_same m m' floors h)

space_kept : (m m' : Model) (names : NameTable) (t : SpaceView) → HasSameShape m m' → IsSpace m names t → IsSpace m' names t
space_kept m m' names t h s = record {
  nodes_fit = s.nodes_fit ∙ sym (nodes_same m m' h);
  floors_are = s.floors_are ∙ ap (λ (l : List (List ℕ)). record { floors = names.floors; lists = l }) (sym (floors_same m m' names.floors h));
  room = record {
    arcs_fit = s.room.arcs_fit ∙ sym (arcs_same m m' h);
    holds_fit = s.room.holds_fit ∙ sym (nodes_same m m' h);
    periods_fit = s.room.periods_fit ∙ ap (λ (k : ℕ). k + 1) (sym h.horizon);
  };
}

site-back : (m m' : Model) → IsSameSite m' m → IsSameSite m m'
site-back m m' h = record { horizon = sym h.horizon; nodes = sym h.nodes; ends = sym h.ends; entrants = sym h.entrants }

site-then : (m m' o : Model) → IsSameSite m' m → IsSameSite m o → IsSameSite m' o
site-then m m' o h g = record {
  horizon = h.horizon ∙ g.horizon;
  nodes = h.nodes ∙ g.nodes;
  ends = h.ends ∙ g.ends;
  entrants = h.entrants ∙ g.entrants;
}

pub shape_serves : (m m' : Model) → HasSameShape m m' → Serves m m'
shape_serves m m' h = record {
  space = λ names t s. space_kept m m' names t h s;
  site = λ o g. site-then m m' o (site_of_shape m' m h) g;
  same_site = site-back m m' (site_of_shape m' m h);
  names = record { names = h.names; horizon = h.horizon };
}

pub edit_serves : (m m' : Model) (e e' : Edit) → applied m e ≡ Ok (m', e') → Serves m m'
edit_serves m m' e e' h = shape_serves m m' (applied_keeps_shape m m' e e' h)

-- ---- the models of a session

shape-refl : (m : Model) → HasSameShape m m
shape-refl m = record { names = refl; ways = refl; horizon = refl; seconds = refl; entrants = refl }

pub begins_of_building : (m : Model) (s : SessionState) → Begins m s → IsOfBuilding m s
begins_of_building m s h = record {
  same_shape = subst (HasSameShape m) (sym h.begun) (shape-refl m);
  former_same = subst (All (HasSameShape m)) (sym h.none_former) (All-nil (HasSameShape m));
}

pub edit_keeps_building : (m : Model) (s s' : SessionState) (e : Edit) → IsOfBuilding m s → IsEdited s e s' → IsOfBuilding m s'
edit_keeps_building m s s' e h g =
    let there = same_shape-trans m s.model g.edited h.same_shape (applied_keeps_shape s.model g.edited e g.inverse g.accepted) in
    let former = All-take (HasSameShape m) kept_limit (s.model ∷ s.former) (All-cons (HasSameShape m) s.model s.former h.same_shape h.former_same) in
    record {
      same_shape = subst (HasSameShape m) (sym g.goes_on.gone) there;
      former_same = subst (All (HasSameShape m)) (sym g.goes_on.kept) former;
    }

pub undo_keeps_building : (m : Model) (s s' : SessionState) → IsOfBuilding m s → IsUndone s s' → IsOfBuilding m s'
undo_keeps_building m s s' h g =
    let former : All (HasSameShape m) (g.before ∷ g.earlier) = subst (All (HasSameShape m)) g.last_kept h.former_same in
    let earlier : All (HasSameShape m) g.earlier = λ i d l. former (suc i) d (omega (arith, l)) in
    record {
      same_shape = subst (HasSameShape m) (sym g.goes_on.gone) (former 0 m (omega arith));
      former_same = subst (All (HasSameShape m)) (sym g.goes_on.kept) earlier;
    }
