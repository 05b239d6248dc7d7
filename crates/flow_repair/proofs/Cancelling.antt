-- What a cancel does to places, and to what is above the limits of a model.
use Rattle.std.proofs.Common.{◌≡◌, ℕ, ◌+◌, ◌<◌, ◌≤◌, false, List, length, get_or, ap, ◌∙◌, arith, subst}
use Rattle.std.specs.List.{All}
use Rattle.residual_net.specs.declared.place.Place.{Place}
use Rattle.residual_net.specs.declared.place.PathStep.{PathStep}
use Rattle.residual_net.specs.Site.{IsPlace, is_barred}
use Rattle.residual_net.specs.Network.{Network, IsNet, excess_at, flow_at}
use Rattle.residual_net.specs.Change.{IsCancelled}
use Rattle.residual_net.proofs.Steps.{added_on}
use Rattle.residual_net.proofs.Quiet.{open_flow}

module _ (w v : Network) (p : Place) (path : List PathStep) (x : ℕ) (c : IsCancelled w v p path x) where
  forwards : All (λ r. r.back ≡ false) path
  forwards = c.arrives.1.forwards

  -- each place of the path loses the people
  pub on_path : (i : ℕ) (d : PathStep) → i < length path → flow_at v (get_or path i d).place + x ≤ flow_at w (get_or path i d).place
  on_path i d l = omega (arith, c.taken.flows (get_or path i d).place (c.arrives.1.places i d l), added_on path x i d forwards l)

  pub here : flow_at v p + x ≤ flow_at w p
  here = grind (arith, on_path)

  pub falls : (q : Place) → IsPlace w.site q → flow_at v q ≤ flow_at w q
  falls q i = omega (arith, c.taken.flows q i)

  pub open_path : IsNet w → All (λ r. is_barred v.site r.place ≡ false) path
  open_path net i d l = grind (arith, open_flow, on_path)

  pub less_over : x + excess_at v p ≤ excess_at w p
  less_over = omega (arith, here, c.most, c.taken.limits p in_site)
    where
      in_site : IsPlace w.site p
      in_site =
          let t = c.through in
          let same : (get_or path t.0 t.1).place ≡ p = ap (λ (r : PathStep). r.place) t.3 ∙ t.4 in
          subst (λ q. IsPlace w.site q) same (c.arrives.1.places t.0 t.1 t.2)
