-- The tables of what is asked for after a block.
use Rattle.std.specs.Prelude.{◌≡◌, is_some, IfSome}
use Rattle.building_table.specs.Names.{NameTable}
use Rattle.edit_session.specs.Sessions.{SessionState}
use Rattle.plan_layout.specs.Layouts.{IsSameSite}
use Rattle.session_text.specs.Spaces.{IsSpace}
use Rattle.evac_top.specs.declared.report_tables.Tables.{Tables}
use Rattle.evac_top.specs.declared.words.Flags.{Flags}

-- there are tables exactly for what is asked for: room for the routes of a session's plan, for its cards and for the reports on it
pub record HasTablesAsked (flags : Flags) (names : NameTable) (s : SessionState) (t : Tables) : Type 0 where
  pub routes_asked : is_some t.routes ≡ flags.routes
  pub site : IfSome t.routes (λ r. IsSameSite s.model r.model)
  pub cards_asked : is_some t.cards ≡ flags.cards
  pub cards_site : IfSome t.cards (λ c. IsSameSite s.model c.model)
  pub reports_asked : is_some t.reports ≡ flags.reports
  pub space : IfSome t.reports (IsSpace s.model names)
