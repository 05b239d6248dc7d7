-- A desk serves what is left of a building once its tables are made for it.
use Rattle.std.proofs.Common.{◌≡◌, List, [], ◌∷◌, map, refl, sym, ap, ◌∙◌, subst, ℕ}
use Rattle.evac_law.specs.declared.model.Model.{Model}
use Rattle.evac_law.specs.declared.model.NodeRow.{NodeRow}
use Rattle.evac_law.specs.declared.name.NodeName.{NodeName}
use Rattle.evac_law.specs.declared.plan.Move.{Move}
use Rattle.building_table.specs.Names.{NameTable, NamesFit}
use Rattle.edit_session.specs.Sessions.{Begins, SessionView}
use Rattle.replan.specs.Rest.{without_start, rest}
use Rattle.talk.specs.SessionDesks.{DeskView, HasTables, IsDesk}
use Rattle.talk.proofs.DeskLemmas.{desk_fit, desk_opened}

same-names : (nodes : List NodeRow) → map (λ n. n.name) (map without_start nodes) ≡ map (λ n. n.name) nodes
same-names [] = refl
same-names (n ∷ nodes) = ap (λ (l : List NodeName). n.name ∷ l) (same-names nodes)

-- the names are those of what is left
pub rest_named : (names : NameTable) (m : Model) (p : List Move) (s : ℕ) → NamesFit names m → NamesFit names (rest m p s)
rest_named names m p s fit = record { nodes = fit.nodes ∙ sym (same-names m.nodes); ends = fit.ends }

pub rest_desk : (d d' : DeskView) (v v' : SessionView) (m : Model) (s : ℕ) → IsDesk d v → d'.names ≡ d.names → Begins (rest v.state.model v.state.plan s) v'.state → m ≡ v'.state.model
    → HasTables m d' → IsDesk d' v'
rest_desk d d' v v' m s h names begins is tables =
    let left = rest v.state.model v.state.plan s in
    let fit : NamesFit d.names left = rest_named d.names v.state.model v.state.plan s (desk_fit d v h) in
    let Q : Model → Type 0 = λ x. HasTables x d' in
    desk_opened d.names left d' v' fit names (subst Q (is ∙ begins.begun) tables) begins
