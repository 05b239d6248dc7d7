-- What edits and undos keep: the tables and the routes of a building's models, and its names.
use Rattle.std.specs.Prelude.{◌≡◌, Ok}
use Rattle.std.specs.List.{All}
use Rattle.evac_law.specs.declared.edit.Edit.{Edit}
use Rattle.evac_law.specs.declared.model.Model.{Model}
use Rattle.evac_law.specs.Edits.{applied}
use Rattle.evac_law.specs.Shapes.{HasSameShape}
use Rattle.building_table.specs.Names.{NameTable}
use Rattle.certificate_text.specs.Short.{HasSameNames}
use Rattle.edit_session.specs.Sessions.{Begins, IsEdited, IsUndone, SessionState}
use Rattle.plan_layout.specs.Layouts.{IsSameSite}
use Rattle.session_text.specs.Spaces.{IsSpace, SpaceView}

-- the model of a state and those before its kept edits have the shape of one model
pub record IsOfBuilding (m : Model) (s : SessionState) : Type 0 where
  pub same_shape : HasSameShape m s.model
  pub former_same : All (HasSameShape m) s.former

-- what serves a model serves another of the same shape: tables for its reports, its routes, and its names
pub record Serves (m m' : Model) : Type 0 where
  pub space : (names : NameTable) (t : SpaceView) → IsSpace m names t → IsSpace m' names t
  pub site : (o : Model) → IsSameSite m o → IsSameSite m' o
  pub same_site : IsSameSite m m'
  pub names : HasSameNames m m'

abbrev pub ShapeServes : Type 0
ShapeServes = (m m' : Model) → HasSameShape m m' → Serves m m'

-- what serves a model serves the edited one
abbrev pub EditServes : Type 0
EditServes = (m m' : Model) (e e' : Edit) → applied m e ≡ Ok (m', e') → Serves m m'

-- a session begins with one model, and edits and undos keep its shape
abbrev pub BeginsOfBuilding : Type 0
BeginsOfBuilding = (m : Model) (s : SessionState) → Begins m s → IsOfBuilding m s

abbrev pub EditKeepsBuilding : Type 0
EditKeepsBuilding = (m : Model) (s s' : SessionState) (e : Edit) → IsOfBuilding m s → IsEdited s e s' → IsOfBuilding m s'

abbrev pub UndoKeepsBuilding : Type 0
UndoKeepsBuilding = (m : Model) (s s' : SessionState) → IsOfBuilding m s → IsUndone s s' → IsOfBuilding m s'
