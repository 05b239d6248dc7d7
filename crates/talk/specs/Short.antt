-- The refusal of a building that can't be cleared, in place of a talk.
use Rattle.std.specs.Prelude.{◌≡◌, ℕ, List}
use Rattle.evac_law.specs.declared.model.Model.{Model}
use Rattle.evac_law.specs.Certificates.{label_cut}
use Rattle.evac_law.specs.Cuts.{Cut}
use Rattle.evac_law.specs.Parts.{IsBarredBy}
use Rattle.certificate_text.specs.BlockText.{shortfall_text}
use Rattle.edit_session.specs.Thrift.{IsSpentOpening}
use Rattle.edit_session.specs.declared.faults.Short.{Short}
use Rattle.talk.specs.Talks.{Spoken}

-- the text is the refusal of a model that can't be cleared, at a line, with a cut that is worth `most` at the horizon, fewer than the people: so many
-- can get out when the others aren't there, and no more
pub record IsShortText (m : Model) (line most : ℕ) (text : List ℕ) : Type 0 where
  pub cut : Cut
  pub barred_by : IsBarredBy m cut most
  pub block : text ≡ shortfall_text line m cut most

-- that refusal, by what a session says of the model
abbrev pub short_text : ℕ → Short → List ℕ
short_text line s = shortfall_text line s.model (label_cut s.model s.labels s.model.horizon) s.most

-- a model is refused at a line, as one that can't be cleared
pub record OpensShort (m : Model) (line : ℕ) (x : Spoken) : Type 0 where
  pub most : ℕ
  pub refused : x.status ≡ 1
  pub short : IsShortText m line most x.text
  pub spent : IsSpentOpening m most x.steps
