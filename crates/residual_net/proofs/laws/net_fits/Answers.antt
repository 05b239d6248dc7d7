use Rattle.residual_net.proofs.Fit.{fits}
use Rattle.residual_net.proofs.laws.net_fits.Goals as goal

pub returns : goal.returns
returns c m w valid net of within all = fits m w valid net of within all
