-- The plan of a net holds in each node what the net's holds say, where everyone who starts is sent.
use Rattle.std.proofs.Common.{◌≡◌, ◌≢◌, ℕ, zero, suc, ◌+◌, ◌<◌, ◌≤◌, Bool, true, false, cond, ◌&&◌, eqb, List, length, refl, ap, sym, ◌∙◌, arith}
use Rattle.std.proofs.lemmas.List.{get_or-map, length-map}
use Rattle.std.proofs.lemmas.Bool.{ne_eqb}
use Rattle.std.proofs.lemmas.Bool.Decides.{nat_tests}
use Rattle.evac_law.specs.declared.entrant.Entrant.{Entrant}
use Rattle.evac_law.specs.declared.model.Model.{Model}
use Rattle.evac_law.specs.declared.plan.Move.{Move}
use Rattle.std.proofs.lemmas.List.Elements.{All-get_or}
use Rattle.evac_law.specs.declared.model.NodeRow.{NodeRow}
use Rattle.evac_law.specs.Building.{IsValid, IsArc, is_exit_at, no_node, no_arc, tail, head, arrival, entry}
use Rattle.evac_law.specs.Names.{is_exit}
use Rattle.evac_law.specs.Plans.{came, coming, leaving, left}
use Rattle.evac_law.proofs.SumLemmas.{sum2, sum2-nothing, sum2-same, sum2-same_in}
use Rattle.evac_law.proofs.WeakDuality.{came-zero, came-suc, left-zero, left-suc}
use Rattle.time_expansion.specs.Expansion.{from_at, to_at, no_ends}
use Rattle.residual_net.specs.declared.place.Place.TheVariants.{Arc, Hold, Supply}
use Rattle.residual_net.specs.Site.{Site, at, head_of, tail_of, exit_at, arrival_at, arc_count, sum_places}
use Rattle.residual_net.specs.declared.end.End.TheVariants.{Pair, Door}
use Rattle.residual_net.specs.Network.{Network, IsNet, flow_at, flow_into, flow_out}
use Rattle.residual_net.specs.OfModel.{site_of, IsNetOf, plan_of}
use Rattle.evac_law.proofs.MoveLemmas.{sum_moves, sum2-at}

-- ---- the network of a model

pub to_is : (m : Model) (a : ℕ) → a < length m.arcs → to_at (site_of m).shape a ≡ head m a
to_is m a l = ap (λ z. z.to) (get_or-map (λ (r : Rattle.evac_law.specs.declared.model.ArcRow.ArcRow). record { from = r.from; to = r.to }) m.arcs a no_arc no_ends l)

pub from_is : (m : Model) (a : ℕ) → a < length m.arcs → from_at (site_of m).shape a ≡ tail m a
from_is m a l = ap (λ z. z.from) (get_or-map (λ (r : Rattle.evac_law.specs.declared.model.ArcRow.ArcRow). record { from = r.from; to = r.to }) m.arcs a no_arc no_ends l)

pub arrival_is : (m : Model) (a t : ℕ) → a < length m.arcs → arrival_at (site_of m) a t ≡ arrival m a t
arrival_is m a t l = ap (λ z. t + z) (get_or-map (λ (r : Rattle.evac_law.specs.declared.model.ArcRow.ArcRow). r.travel) m.arcs a no_arc 0 l)

pub exit_is : (m : Model) (n : ℕ) → n < length m.nodes → exit_at (site_of m) n ≡ is_exit_at m n
exit_is m n l = get_or-map (λ (r : Rattle.evac_law.specs.declared.model.NodeRow.NodeRow). is_exit r.name.kind) m.nodes n no_node false l

-- ---- conservation in the model's words

module _ (m : Model) (w : Network) (net : IsNet w) (of : IsNetOf m w) (valid : IsValid m) where
  abbrev plan : List Move
  plan = plan_of w

  abbrev flow : ℕ → ℕ → ℕ
  flow a t = flow_at w (Arc a t)

  pub arcs_same : arc_count w.site ≡ length m.arcs
  arcs_same = ap arc_count of.site ∙ length-map m.arcs (λ (r : Rattle.evac_law.specs.declared.model.ArcRow.ArcRow). record { from = r.from; to = r.to })

  pub horizon_same : w.site.shape.horizon ≡ m.horizon
  horizon_same = ap (λ (z : Site). z.shape.horizon) of.site

  pub nodes_same : w.site.shape.nodes ≡ length m.nodes
  nodes_same = ap (λ (z : Site). z.shape.nodes) of.site

  -- the plan's people who come to a node at a moment, and who leave it
  coming_is : (n t : ℕ) → coming m plan n t ≡ sum2 (arc_count w.site) (w.site.shape.horizon + 1) (λ a s. cond (eqb (head m a) n && eqb (arrival m a s) t) (flow a s) 0)
  unfolding coming
  coming_is n t = sum_moves (arc_count w.site) w.site.shape.horizon flow (λ a s. eqb (head m a) n && eqb (arrival m a s) t)

  leaving_is : (n t : ℕ) → leaving m plan n t ≡ sum2 (arc_count w.site) (w.site.shape.horizon + 1) (λ a s. cond (eqb (tail m a) n && eqb s t) (flow a s) 0)
  unfolding leaving
  leaving_is n t = sum_moves (arc_count w.site) w.site.shape.horizon flow (λ a s. eqb (tail m a) n && eqb s t)

  -- the hold from the moment before
  abbrev before : ℕ → ℕ → ℕ
  before n zero = 0
  before n (suc t) = flow_at w (Hold n t)

  abbrev k : ℕ
  k = w.site.shape.horizon + 1

  pub head_is : (a s : ℕ) → a < length m.arcs
      → head_of w.site (Arc a s) ≡ cond (is_exit_at m (head m a)) (Door (arrival m a s)) (Pair (head m a) (arrival m a s))
  head_is a s l =
      let to = to_is m a l in
      let arr = arrival_is m a s l in
      let arc = All-get_or (IsArc m.nodes) m.arcs a no_arc l valid.arcs in
      let ex = exit_is m (head m a) arc.to_in in
      ap (λ z. head_of z (Arc a s)) of.site
      ∙ ap (λ z. cond (exit_at (site_of m) z) (Door (arrival_at (site_of m) a s)) (Pair z (arrival_at (site_of m) a s))) to
      ∙ ap (λ z. cond (exit_at (site_of m) (head m a)) (Door z) (Pair (head m a) z)) arr
      ∙ ap (λ b. cond b (Door (arrival m a s)) (Pair (head m a) (arrival m a s))) ex

  pub tail_is : (a s : ℕ) → a < length m.arcs → tail_of w.site (Arc a s) ≡ Pair (tail m a) s
  tail_is a s l = ap (λ z. tail_of z (Arc a s)) of.site ∙ ap (λ z. Pair z s) (from_is m a l)

  arc_term : (ex : Bool) (h n arr t f : ℕ) → (ex ≡ true → h ≢ n)
      → cond (at (Pair n t) (cond ex (Door arr) (Pair h arr))) f 0 ≡ cond (eqb h n && eqb arr t) f 0
  arc_term true h n arr t f d = ap (λ b. cond (b && eqb arr t) f 0) (sym (ne_eqb h n (d refl)))
  arc_term false h n arr t f d = grind (arith, nat_tests)

  tail_term : (h n s t f : ℕ) → cond (eqb n h && eqb t s) f 0 ≡ cond (eqb h n && eqb s t) f 0
  tail_term h n s t f = grind (arith, nat_tests)

  pick : (f : ℕ → ℕ → ℕ) (n t : ℕ) → n < w.site.shape.nodes → t < k → sum2 w.site.shape.nodes k (λ i j. cond (eqb n i && eqb t j) (f i j) 0) ≡ f n t
  pick f n t i j = sum2-same w.site.shape.nodes k _ _ (λ a s. tail_term a n s t (f a s)) ∙ sum2-at w.site.shape.nodes k f n t i j

  no_exit : (n a : ℕ) → is_exit_at m n ≡ false → is_exit_at m (head m a) ≡ true → head m a ≢ n
  no_exit n a e h same = cc

  into_arcs : (n t : ℕ) → is_exit_at m n ≡ false
      → sum2 (arc_count w.site) k (λ a s. cond (at (Pair n t) (head_of w.site (Arc a s))) (flow a s) 0) ≡ coming m plan n t
  into_arcs n t e = grind (arith, sum2-same_in, head_is, arcs_same, arc_term, no_exit, coming_is)

  out_arcs : (n t : ℕ) → sum2 (arc_count w.site) k (λ a s. cond (at (Pair n t) (tail_of w.site (Arc a s))) (flow a s) 0) ≡ leaving m plan n t
  out_arcs n t =
      sum2-same_in (arc_count w.site) k _ _
      (λ a s i j. ap (λ z. cond (at (Pair n t) z) (flow a s) 0) (tail_is a s (omega (arith, arcs_same, i))) ∙ tail_term (tail m a) n s t (flow a s))
      ∙ sym (leaving_is n t)

  before_is : (n t : ℕ) → n < w.site.shape.nodes → t < k
      → sum2 w.site.shape.nodes k (λ i j. cond (eqb n i && eqb t (j + 1)) (flow_at w (Hold i j)) 0) ≡ before n t
  before_is n zero i l = sum2-same w.site.shape.nodes k _ (λ _ _. 0) (λ a s. never a s (flow_at w (Hold a s))) ∙ sum2-nothing w.site.shape.nodes k
    where
      never : (a s f : ℕ) → cond (eqb n a && eqb 0 (s + 1)) f 0 ≡ 0
      never a s f = grind (arith, nat_tests)
  before_is n (suc t) i l =
      sum2-same w.site.shape.nodes k _ (λ a s. cond (eqb n a && eqb t s) (flow_at w (Hold a s)) 0) (λ a s. next a s (flow_at w (Hold a s)))
      ∙ pick (λ a s. flow_at w (Hold a s)) n t i (omega arith)
    where
      next : (a s f : ℕ) → cond (eqb n a && eqb (suc t) (s + 1)) f 0 ≡ cond (eqb n a && eqb t s) f 0
      next a s f = grind (arith, nat_tests)

  into_pair : (n t : ℕ) → n < length m.nodes → is_exit_at m n ≡ false → t ≤ m.horizon
      → flow_into w (at (Pair n t)) ≡ coming m plan n t + (before n t + flow_at w (Supply n t))
  unfolding flow_into sum_places
  into_pair n t i e l =
      omega (
        arith,
        into_arcs n t e,
        before_is n t (omega (arith, nodes_same, i)) (omega (arith, horizon_same, l)),
        pick (λ a s. flow_at w (Supply a s)) n t (omega (arith, nodes_same, i)) (omega (arith, horizon_same, l)),
      )

  out_pair : (n t : ℕ) → n < length m.nodes → is_exit_at m n ≡ false → t ≤ m.horizon
      → flow_out w (at (Pair n t)) ≡ leaving m plan n t + flow_at w (Hold n t)
  unfolding flow_out sum_places
  out_pair n t i e l =
      omega (
        arith,
        out_arcs n t,
        pick (λ a s. flow_at w (Hold a s)) n t (omega (arith, nodes_same, i)) (omega (arith, horizon_same, l)),
        sum2-nothing w.site.shape.nodes k,
      )

  step : (n t : ℕ) → n < length m.nodes → is_exit_at m n ≡ false → t ≤ m.horizon
      → coming m plan n t + (before n t + flow_at w (Supply n t)) ≡ leaving m plan n t + flow_at w (Hold n t)
  step n t i e l = omega (arith, into_pair n t i e l, out_pair n t i e l, net.conserved.pairs n t)

  -- who came and hasn't left is in the node, where those come in whom the supplies send
  pub came_left : (ns : List NodeRow) (es : List Entrant) → (n t : ℕ) → n < length m.nodes → is_exit_at m n ≡ false → t ≤ m.horizon
      → ((s : ℕ) → s ≤ t → entry (record m { nodes = ns; entrants = es }) n s ≡ flow_at w (Supply n s))
      → came (record m { nodes = ns; entrants = es }) plan n t ≡ left (record m { nodes = ns; entrants = es }) plan n t + flow_at w (Hold n t)
  unfolding leaving coming
  came_left ns es n zero i e l sent =
      let o = record m { nodes = ns; entrants = es } in
      omega (arith, came-zero o plan n, left-zero o plan n, step n 0 i e l, sent 0 (omega arith))
  came_left ns es n (suc t) i e l sent =
      let o = record m { nodes = ns; entrants = es } in
      let low : t ≤ m.horizon = omega arith in
      omega (
        arith,
        came-suc o plan n t,
        left-suc o plan n t,
        step n (suc t) i e l,
        sent (suc t) (omega arith),
        came_left ns es n t i e low (λ s h. sent s (omega arith)),
      )
