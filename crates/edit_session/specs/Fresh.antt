-- A model in which nobody moves yet, with what a session works with.
use Rattle.std.specs.Prelude.{◌≡◌}
use Rattle.evac_law.specs.declared.model.Model.{Model}
use Rattle.residual_net.specs.declared.place.Place.{Place}
use Rattle.residual_net.specs.Network.{flow_at}
use Rattle.residual_net.specs.OfModel.{IsNetOf, site_of}
use Rattle.residual_net.specs.Site.{IsPlace}
use Rattle.edit_session.specs.declared.planned.Planned.{Planned}
use Rattle.edit_session.specs.Mended.{IsScratchOf}
use Rattle.edit_session.specs.Sessions.{no_labels}

-- the net has the model's limits and no flow, and no label is set
pub record IsUnplanned (m : Model) (p : Planned) : Type 0 where
  pub model : p.model ≡ m
  pub of : IsNetOf m p.net
  pub empty : (q : Place) → IsPlace p.net.site q → flow_at p.net q ≡ 0
  pub labels : p.labels ≡ no_labels m
  pub refused : p.refused ≡ no_labels m
  pub scratch : IsScratchOf (site_of m) p.scratch
