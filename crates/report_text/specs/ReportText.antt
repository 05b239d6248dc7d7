-- The texts of the reports on an answer: its cuts, routes, cards, clearing, bottlenecks and summary, and the work of an edit.
use Rattle.std.specs.Prelude.{◌≡◌, ℕ, ◌+◌, ◌*◌, ◌≤◌, ◌==◌, if◌then◌else◌, List, [], ◌∷◌, ◌++◌, length, codes, decimal, Some, None}
use Rattle.std.specs.declared.option.Option.{Option}
use Rattle.std.specs.List.{flat_map}
use Rattle.line_io.specs.Text.{line_text}
use Rattle.evac_law.specs.declared.cut.CutItem.{CutItem}
use Rattle.evac_law.specs.declared.cut.CutItem.TheVariants.{Arc, Entry, Hold}
use Rattle.evac_law.specs.declared.model.Model.{Model}
use Rattle.evac_law.specs.declared.plan.Move.{Move}
use Rattle.evac_law.specs.Building.{head, is_exit_at, people, tail}
use Rattle.evac_law.specs.Cuts.{Cut, cut_items, cut_value}
use Rattle.evac_law.specs.LabelTable.{LabelTable}
use Rattle.evac_law.specs.Plans.{person_periods}
use Rattle.evac_law.specs.Sums.{places}
use Rattle.certificate_text.specs.BlockText.{end_line, name_of_node}
use Rattle.bottleneck_report.specs.Crossings.{arc_periods, hold_periods}
use Rattle.clearing_report.specs.Clearing.{floor_occupied, last_occupied}
use Rattle.cards.specs.Cards.{CardView, IsFairDeal}
use Rattle.route_decompose.specs.declared.route.RouteStep.{RouteStep}
use Rattle.route_decompose.specs.Routes.{Covers, RouteView, places_of}

-- a word and a number
unfoldable pub number_line : List ℕ → ℕ → List ℕ
number_line word number = line_text (word ∷ decimal number ∷ [])

-- ---- the cut of a period

-- a cut's moment and value
unfoldable pub cut_line : ℕ → ℕ → List ℕ
cut_line k value = line_text (codes "cut" ∷ decimal k ∷ decimal value ∷ [])

-- people who come in outside the cut
unfoldable pub entry_line : List ℕ → ℕ → List ℕ
entry_line name people = line_text (codes "entry" ∷ name ∷ decimal people ∷ [])

-- a node that leaves the cut after a moment, with its capacity
unfoldable pub hold_line : List ℕ → ℕ → ℕ → List ℕ
hold_line name moment capacity = line_text (codes "hold" ∷ name ∷ decimal moment ∷ decimal capacity ∷ [])

-- an arc that leaves the cut at a moment, with its rate
unfoldable pub arc_line : ℕ → List ℕ → List ℕ → ℕ → List ℕ
arc_line moment from to rate = line_text (codes "arc" ∷ decimal moment ∷ from ∷ to ∷ decimal rate ∷ [])

-- an item of a cut
abbrev pub item_line : Model → CutItem → List ℕ
item_line m (Entry n p) = entry_line (name_of_node m n) p
item_line m (Hold n t c) = hold_line (name_of_node m n) t c
item_line m (Arc a t r) = arc_line t (name_of_node m (tail m a)) (name_of_node m (head m a)) r

-- a cut of moment k with its value and its items
unfoldable pub cut_text : Model → Cut → ℕ → List ℕ
cut_text m x k = cut_line k (cut_value m x k) ++ flat_map (item_line m) (cut_items m x k) ++ end_line

-- ---- routes

-- some people and the node where they come in, with the moment where it isn't 0
unfoldable pub route_line : ℕ → List ℕ → ℕ → List ℕ
route_line people name moment =
    line_text (codes "route" ∷ decimal people ∷ name ∷ (if moment == 0 then [] else (decimal moment ∷ [])))

-- the moment at which they enter an arc, and its ends
unfoldable pub step_line : ℕ → List ℕ → List ℕ → List ℕ
step_line moment from to = line_text (codes "step" ∷ decimal moment ∷ from ∷ to ∷ [])

-- a step of a route
abbrev pub step_part : Model → RouteStep → List ℕ
step_part m s = step_line s.moment (name_of_node m (tail m s.arc)) (name_of_node m (head m s.arc))

-- a route and its steps
abbrev pub route_lines : Model → RouteView → List ℕ
route_lines m r = route_line r.people (name_of_node m r.start) r.entered ++ flat_map (step_part m) r.steps

unfoldable pub routes_text : ℕ → Model → List RouteView → List ℕ
routes_text index m routes = number_line (codes "routes") index ++ flat_map (route_lines m) routes ++ end_line

-- the text lists some routes that make up the plan, no more than there are places that it uses
pub record SaysRoutes (index : ℕ) (m : Model) (p : List Move) (text : List ℕ) : Type 0 where
  pub routes : List RouteView
  pub cover : Covers m p routes
  pub few : length routes ≤ places_of m p
  pub says : text ≡ routes_text index m routes

-- ---- cards

-- a card's number, and the node where its person comes in, with the moment where it isn't 0
unfoldable pub card_line : ℕ → List ℕ → ℕ → List ℕ
card_line number name moment =
    line_text (codes "card" ∷ decimal number ∷ name ∷ (if moment == 0 then [] else (decimal moment ∷ [])))

-- a card and its steps
abbrev pub card_lines : Model → ℕ → CardView → List ℕ
card_lines m number c = card_line number (name_of_node m c.start) c.entered ++ flat_map (step_part m) c.steps

-- cards one after another, the first with a number
abbrev pub cards_from : Model → ℕ → List CardView → List ℕ
cards_from m number [] = []
cards_from m number (c ∷ cards) = card_lines m number c ++ cards_from m (number + 1) cards

-- all cards, numbered from 1
unfoldable pub cards_text : ℕ → Model → List CardView → List ℕ
cards_text index m cards = number_line (codes "cards") index ++ cards_from m 1 cards ++ end_line

-- the text lists the cards of a first in first out deal of the plan
pub record SaysCards (index : ℕ) (m : Model) (p : List Move) (text : List ℕ) : Type 0 where
  pub cards : List CardView
  pub fair : IsFairDeal m p cards
  pub says : text ≡ cards_text index m cards

-- ---- clearing

-- a moment, where there is one
abbrev pub moment_field : Option ℕ → List ℕ
moment_field (Some t) = decimal t
moment_field None = codes "none"

-- when somebody is in a node last
unfoldable pub node_clear_line : List ℕ → Option ℕ → List ℕ
node_clear_line name moment = line_text (codes "node" ∷ name ∷ moment_field moment ∷ [])

-- when somebody is on a floor last
unfoldable pub floor_clear_line : ℕ → Option ℕ → List ℕ
floor_clear_line floor moment = line_text (codes "floor" ∷ decimal floor ∷ moment_field moment ∷ [])

-- a node that is no exit, by the last moment of each
abbrev pub node_clear_part : Model → (ℕ → Option ℕ) → ℕ → List ℕ
node_clear_part m last n = if is_exit_at m n then [] else node_clear_line (name_of_node m n) (last n)

-- a floor, by the last moment of each
abbrev pub floor_clear_part : (ℕ → Option ℕ) → ℕ → List ℕ
floor_clear_part last floor = floor_clear_line floor (last floor)

-- the nodes that are no exits, and these floors
unfoldable pub clearing_text : ℕ → List ℕ → Model → List Move → List ℕ
clearing_text index floors m p =
    number_line (codes "clearing") index ++ flat_map (node_clear_part m (last_occupied m p)) (places m.nodes)
    ++ flat_map (floor_clear_part (floor_occupied m p)) floors ++ end_line

-- ---- bottlenecks

-- in how many periods an arc is an item
unfoldable pub arc_periods_line : List ℕ → List ℕ → ℕ → List ℕ
arc_periods_line from to periods = line_text (codes "arc" ∷ from ∷ to ∷ decimal periods ∷ [])

-- in how many periods waiting in a node is an item
unfoldable pub hold_periods_line : List ℕ → ℕ → List ℕ
hold_periods_line name periods = line_text (codes "hold" ∷ name ∷ decimal periods ∷ [])

-- an arc that is an item of some period, by the number of each
abbrev pub arc_periods_part : Model → (ℕ → ℕ) → ℕ → List ℕ
arc_periods_part m periods a =
    if periods a == 0 then [] else arc_periods_line (name_of_node m (tail m a)) (name_of_node m (head m a)) (periods a)

-- a node that is an item of some period, by the number of each
abbrev pub hold_periods_part : Model → (ℕ → ℕ) → ℕ → List ℕ
hold_periods_part m periods n = if periods n == 0 then [] else hold_periods_line (name_of_node m n) (periods n)

-- what is an item in the periods below c by labels
unfoldable pub bottlenecks_text : ℕ → Model → LabelTable → ℕ → List ℕ
bottlenecks_text index m l c =
    number_line (codes "bottlenecks") index ++ flat_map (arc_periods_part m (arc_periods m l c)) (places m.arcs)
    ++ flat_map (hold_periods_part m (hold_periods m l c)) (places m.nodes) ++ end_line

-- ---- summary

-- a title, where there is one
unfoldable pub title_line : Option (List ℕ) → List ℕ
title_line (Some text) = line_text (codes "title" ∷ text ∷ [])
title_line None = []

-- the people of a model, the moment by which they are out, and its seconds
abbrev pub outcome_lines : Model → ℕ → List ℕ
outcome_lines m c = number_line (codes "people") (people m) ++ number_line (codes "cleared") c ++ number_line (codes "seconds") (c * m.seconds)

-- of a plan that has everybody out by c, with the time of those who would meet nobody and the person-periods
unfoldable pub summary_text : ℕ → Option (List ℕ) → Model → List Move → ℕ → ℕ → List ℕ
summary_text index title m p c uncongested =
    number_line (codes "summary") index ++ title_line title ++ outcome_lines m c ++ number_line (codes "uncongested") uncongested
    ++ number_line (codes "personperiods") (person_periods m p) ++ end_line

-- ---- work

-- the people who were taken back, and those who were sent anew
unfoldable pub work_text : ℕ → ℕ → List ℕ
work_text cancelled pushes = line_text (codes "work" ∷ decimal cancelled ∷ decimal pushes ∷ [])
