-- Where everybody is sent, the plan of a net is feasible in its model, and the net stands for it.
use Rattle.std.proofs.Common.{◌≡◌, ℕ, ◌<◌, ◌≤◌, true, false, ◌||◌, eqb, max, List, [], ◌∷◌, length, refl, ap, sym, ◌∙◌, arith, pos}
use Rattle.std.specs.List.{All}
use Rattle.std.proofs.lemmas.List.Elements.{All-head, All-tail}
use Rattle.std.proofs.lemmas.Int.{ints}
use Rattle.evac_law.specs.declared.model.Model.{Model}
use Rattle.evac_law.specs.declared.plan.Move.{Move}
use Rattle.evac_law.specs.Building.{IsValid, is_exit_at, arrival, entry}
use Rattle.evac_law.specs.Plans.{IsFeasible, held, last_arrival}
use Rattle.evac_law.specs.Stands.{Fits}
use Rattle.evac_law.proofs.MoveLemmas.{ordered-moves_of}
use Rattle.residual_net.specs.declared.place.Place.TheVariants.{Arc, Hold, Supply}
use Rattle.residual_net.specs.Site.{Site, IsPlace, arc_count, arrival_at, exit_at}
use Rattle.residual_net.specs.Network.{Network, IsAllSent, IsNet, IsWithinLimits, flow_at}
use Rattle.residual_net.specs.OfModel.{IsNetOf, last_move, plan_of, stand_of}
use Rattle.residual_net.proofs.Held.{came_left, arcs_same, nodes_same, horizon_same, exit_is, arrival_is}
use Rattle.residual_net.proofs.Law.{moved_is, flow_rate, hold_capacity, arcs_in}

module _ (m : Model) (w : Network) (valid : IsValid m) (net : IsNet w) (of : IsNetOf m w) (within : IsWithinLimits w) (all : IsAllSent w) where
  place_in : (n t : ℕ) → n < length m.nodes → t ≤ m.horizon → IsPlace w.site (Supply n t)
  place_in n t i l = (omega (arith, nodes_same m w net of valid, i), omega (arith, horizon_same m w net of valid, l))

  entry_sent : (n t : ℕ) → n < length m.nodes → t ≤ m.horizon → entry m n t ≡ flow_at w (Supply n t)
  entry_sent n t i l = grind (arith, place_in)

  held_is : (n t : ℕ) → n < length m.nodes → is_exit_at m n ≡ false → t ≤ m.horizon → held m (plan_of w) n t ≡ pos (flow_at w (Hold n t))
  unfolding held
  held_is n t i e l =
      let c = came_left m w net of valid m.nodes m.entrants n t i e l (λ s h. entry_sent n s i (omega arith)) in
      omega (arith, ints, c)

  pub feasible : IsFeasible m (plan_of w) m.horizon
  feasible = grind (arith, arcs_in, moved_is, flow_rate, held_is, hold_capacity, ints)

  same_last : (p : List Move) → All (λ (v : Move). v.arc < length m.arcs) p → last_move w.site p ≡ last_arrival m p
  unfolding last_move last_arrival
  same_last [] a = refl
  same_last (v ∷ p) a =
      let here : arrival_at w.site v.arc v.moment ≡ arrival m v.arc v.moment =
      ap (λ (z : Site). arrival_at z v.arc v.moment) of.site ∙ arrival_is m v.arc v.moment (All-head (λ (v : Move). v.arc < length m.arcs) v p a) in
      let rest = same_last p (All-tail (λ (v : Move). v.arc < length m.arcs) v p a) in
      ap (λ z. max z (last_move w.site p)) here ∙ ap (λ z. max (arrival m v.arc v.moment) z) rest

  pub fits : Fits m (stand_of w)
  fits = record {
    nodes_same = nodes_same m w net of valid;
    arcs_same = arcs_same m w net of valid;
    horizon_same = horizon_same m w net of valid;
    ordered = ordered-moves_of (arc_count w.site) w.site.shape.horizon (λ a t. flow_at w (Arc a t));
    inside = λ n t i j e.
        sym (held_is n t (omega (arith, nodes_same m w net of valid, i)) e (omega (arith, horizon_same m w net of valid, j)));
    exits_hold_none = λ n t i j e.
        let in_m : n < length m.nodes = omega (arith, nodes_same m w net of valid, i) in
        let exit : exit_at w.site n ≡ true = ap (λ (z : Site). exit_at z n) of.site ∙ exit_is m n in_m ∙ e in
        (net.barred (Hold n t) (i, j) (ap (λ b. b || eqb t w.site.shape.horizon) exit)).0;
    last_same = same_last (plan_of w) (arcs_in m w valid net of within);
  }
