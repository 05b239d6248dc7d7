-- What is said of where a session stands: the texts of its state.
use Rattle.std.specs.Prelude.{◌≡◌, ℕ, List, ◌++◌, Some}
use Rattle.building_table.specs.Names.{NameTable}
use Rattle.certificate_text.specs.BlockText.{answer_text}
use Rattle.clearing_report.specs.Walks.{IsUncongested}
use Rattle.edit_session.specs.Sessions.{SessionState}
use Rattle.evac_law.specs.Certificates.{stated_cut}
use Rattle.report_text.specs.ReportText.{SaysRoutes, bottlenecks_text, clearing_text, cut_text, summary_text, work_text}

-- the block of a state, with its index
abbrev pub block_text : ℕ → SessionState → List ℕ
block_text index s = answer_text index s.model s.plan s.labels s.last

-- the cut of a period
abbrev pub cut_of : SessionState → ℕ → List ℕ
cut_of s k = cut_text s.model (stated_cut s.model s.labels s.last k) k

-- the work that it took to come to a state
abbrev pub work_of : SessionState → List ℕ
work_of s = work_text s.work.cancelled s.work.pushes

-- when each node and each floor is empty
abbrev pub clearing_of : NameTable → ℕ → SessionState → List ℕ
clearing_of names index s = clearing_text index names.floors s.model s.plan

-- what bounds the people out, and how often
abbrev pub bottlenecks_of : ℕ → SessionState → List ℕ
bottlenecks_of index s = bottlenecks_text index s.model s.labels s.last

-- the text lists some routes that make up the plan
abbrev pub SaysRoutesOf : ℕ → SessionState → List ℕ → Type 0
SaysRoutesOf index s text = SaysRoutes index s.model s.plan text

-- the text has the plan's numbers
abbrev pub SaysSummary : NameTable → ℕ → SessionState → List ℕ → Type 0
SaysSummary names index s text = (u : ℕ) × IsUncongested s.model (Some u) × (text ≡ summary_text index names.title s.model s.plan s.last u)

-- the text is the three reports, one after another
abbrev pub SaysReports : NameTable → ℕ → SessionState → List ℕ → Type 0
SaysReports names index s text =
    (summary : List ℕ) × SaysSummary names index s summary × (text ≡ clearing_of names index s ++ bottlenecks_of index s ++ summary)
