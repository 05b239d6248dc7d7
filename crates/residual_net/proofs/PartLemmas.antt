-- Those who arrive in a net get out of the building in which the others aren't.
use Rattle.std.proofs.Common.{◌≡◌, ◌+◌, ap, sym, ◌∙◌, arith}
use Rattle.evac_law.specs.declared.model.Model.{Model}
use Rattle.evac_law.specs.Building.{IsValid, entry, people}
use Rattle.evac_law.proofs.SumLemmas as sums
use Rattle.evac_law.proofs.SumLemmas.{sum2-same_in}
use Rattle.residual_net.specs.declared.place.Place.TheVariants.{Supply}
use Rattle.residual_net.specs.Network.{Network, IsNet, IsWithinLimits, arrived_by, flow_at, flow_out}
use Rattle.residual_net.specs.OfModel.{IsNetOf}
use Rattle.residual_net.proofs.Sent.{sent_model}
use Rattle.residual_net.specs.Site.{arc_count, sum_places}
use Rattle.residual_net.specs.NetLaws.{ArrivedGetOut}
use Rattle.residual_net.proofs.Begin.{entries_are_people}
use Rattle.residual_net.proofs.Held.{horizon_same, nodes_same}
use Rattle.residual_net.proofs.Law.{arrived_is_out, count_same, entry_sent, feasible, out_same, part, valid_sent}
use Rattle.residual_net.proofs.SentLemmas.{arrived_is_sent}

module _ (m : Model) (w : Network) (valid : IsValid m) (net : IsNet w) (of : IsNetOf m w) (within : IsWithinLimits w) where
  abbrev some : Model
  some = sent_model m w

  pub is_valid : IsValid some
  is_valid = valid_sent m w valid net of within

  pub people_sent : people some ≡ arrived_by w m.horizon
  unfolding flow_out sum_places
  people_sent =
      let k = w.site.shape.horizon + 1 in
      let nodes = nodes_same m w net of valid in
      let horizon = horizon_same m w net of valid in
      let same = sum2-same_in w.site.shape.nodes k (entry some) (λ n t. flow_at w (Supply n t))
      (λ n t i j. entry_sent m w valid net of within n t (omega (arith, i, nodes)) (omega (arith, j, horizon))) in
      omega (
        arith,
        sums.sum2-nothing (arc_count w.site) k,
        sums.sum2-nothing w.site.shape.nodes k,
        entries_are_people some w.site.shape.nodes w.site.shape.horizon is_valid (nodes ∙ sym (count_same m w valid net of)) horizon,
        same,
        arrived_is_sent w net,
        ap (λ z. arrived_by w z) horizon,
      )

pub arrived_get_out : ArrivedGetOut
arrived_get_out m w valid net of within = record {
  some = sent_model m w;
  valid = is_valid m w valid net of within;
  part = part m w valid net of within;
  feasible = feasible m w valid net of within m.horizon (omega arith);
  all_out =
      out_same m w valid net of m.horizon ∙ sym (arrived_is_out m w valid net of m.horizon) ∙ sym (people_sent m w valid net of within);
  count = people_sent m w valid net of within;
}
