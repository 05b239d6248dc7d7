-- The texts of a study: what a building comes to without each exit, and the least rate of an arc.
use Rattle.std.specs.Prelude.{◌≡◌, ℕ, zero, suc, ◌++◌, List, [], ◌∷◌, codes, decimal, length, map}
use Rattle.std.specs.List.{All, flat_map, filter}
use Rattle.evac_law.specs.declared.model.Model.{Model}
use Rattle.evac_law.specs.Building.{head, is_exit_at, tail}
use Rattle.evac_law.specs.Certificates.{label_cut}
use Rattle.evac_law.specs.Cuts.{cut_value}
use Rattle.evac_law.specs.LabelTable.{LabelTable}
use Rattle.evac_law.specs.Limits.{rate_limit}
use Rattle.evac_law.specs.Sums.{places}
use Rattle.line_io.specs.Text.{line_text}
use Rattle.line_io.specs.Writer.{Writes}
use Rattle.line_io.specs.declared.outside.Sink.{Ghosts}
use Rattle.line_io.specs.declared.writer.Writer.{Writer}
use Rattle.certificate_text.specs.BlockText.{end_line, in_lines, move_lines, name_of_node}
use Rattle.report_text.specs.ReportText.{cut_line, number_line}
use Rattle.exit_study.specs.Exits.{IsExitRow, without_exit}
use Rattle.exit_study.specs.Rates.{IsClearedBy, IsLeastRate, IsNoRate, IsTooSlow, at_rate}
use Rattle.exit_study.specs.declared.exits.ExitRow.{ExitRow}
use Rattle.exit_study.specs.declared.exits.ExitRow.TheVariants.{Clears, Short}
use Rattle.exit_study.specs.declared.rates.Least.{Least}
use Rattle.exit_study.specs.declared.rates.Least.TheVariants.{Rate, Never}

-- ---- lines

-- everybody is out by a moment without an exit
unfoldable pub exit_line : List ℕ → ℕ → List ℕ
exit_line name moment = line_text (codes "exit" ∷ name ∷ decimal moment ∷ [])

-- at most so many get out without an exit
unfoldable pub exit_short_line : List ℕ → ℕ → List ℕ
exit_short_line name most = line_text (codes "exit" ∷ name ∷ codes "short" ∷ decimal most ∷ [])

-- the least rate of the arc between two nodes at which everybody is out by k, and that there is none
unfoldable pub least_line : List ℕ → List ℕ → ℕ → ℕ → List ℕ
least_line from to k rate = line_text (codes "least" ∷ from ∷ to ∷ decimal k ∷ decimal rate ∷ [])

unfoldable pub never_line : List ℕ → List ℕ → ℕ → List ℕ
never_line from to k = line_text (codes "least" ∷ from ∷ to ∷ decimal k ∷ codes "never" ∷ [])

-- the same of an arc of a model
abbrev pub arc_least_line : Model → ℕ → ℕ → ℕ → List ℕ
arc_least_line m a k rate = least_line (name_of_node m (tail m a)) (name_of_node m (head m a)) k rate

abbrev pub arc_never_line : Model → ℕ → ℕ → List ℕ
arc_never_line m a k = never_line (name_of_node m (tail m a)) (name_of_node m (head m a)) k

-- ---- exits

-- a row of a study: an exit, what the model comes to without it, and the labels of a cut that shows it
pub record Row : Type 0 where
  pub exit : ℕ
  pub outcome : ExitRow
  pub cut : LabelTable

-- the exits of a model, in file order
abbrev pub exits_of : Model → List ℕ
exits_of m = filter (is_exit_at m) (places m.nodes)

-- a row in lines; a cut comes after its line
abbrev pub outcome_text : Model → ℕ → LabelTable → ExitRow → List ℕ
outcome_text m x l (Clears moment) = exit_line (name_of_node m x) moment
outcome_text m x l (Short people most) =
    let w = without_exit m x in exit_short_line (name_of_node m x) most ++ in_lines w (label_cut w l w.horizon)

abbrev pub row_text : Model → Row → List ℕ
row_text m r = outcome_text m r.exit r.cut r.outcome

-- the row of an exit was written, and it is right
abbrev pub WritesRow : {K : Type 0} → Ghosts K → Model → ℕ → Writer K → Writer K → Type 0
WritesRow g m exit w w' = (row : Row) × (row.exit ≡ exit) × IsExitRow m row.exit row.cut row.outcome × Writes g w (row_text m row) w'

-- there is a row for each exit, in file order, and each is right
pub record AreRows (m : Model) (xs : List ℕ) (rows : List Row) : Type 0 where
  pub exits : map (λ r. r.exit) rows ≡ xs
  pub right : All (λ r. IsExitRow m r.exit r.cut r.outcome) rows

-- the text says what the model comes to without each of its exits
pub record SaysExits (m : Model) (text : List ℕ) : Type 0 where
  pub rows : List Row
  pub all : AreRows m (exits_of m) rows
  pub says : text ≡ number_line (codes "exits") (length (exits_of m)) ++ flat_map (row_text m) rows ++ end_line

-- ---- the least rate

-- the text says the moves of a best plan that has everybody out by k
pub record SaysMoves (m : Model) (k : ℕ) (text : List ℕ) : Type 0 where
  pub cleared : IsClearedBy m k
  pub says : text ≡ move_lines m cleared.plan

-- the text says a cut at k or at the horizon that is worth less than the people, with no pair later than that moment
pub record SaysCut (m : Model) (k : ℕ) (text : List ℕ) : Type 0 where
  pub shown : IsTooSlow m k
  pub says : text ≡ cut_line shown.moment (cut_value m shown.cut shown.moment) ++ in_lines m shown.cut

-- the cut of the rate below one, where there is a rate below it
abbrev pub SaysCutBelow : Model → ℕ → ℕ → ℕ → List ℕ → Type 0
SaysCutBelow m a k zero text = text ≡ []
SaysCutBelow m a k (suc q) text = SaysCut (at_rate m a q) k text

-- the text says that a rate of an arc is the least: its moves, and the cut of the rate below it
pub record SaysRate (m : Model) (a k r : ℕ) (text : List ℕ) : Type 0 where
  pub least : IsLeastRate m a k r
  pub moves : List ℕ
  pub cut : List ℕ
  pub says_moves : SaysMoves (at_rate m a r) k moves
  pub says_cut : SaysCutBelow m a k r cut
  pub says : text ≡ arc_least_line m a k r ++ moves ++ cut ++ end_line

-- the text says that no rate of an arc is enough: the cut of the greatest one
pub record SaysNever (m : Model) (a k : ℕ) (text : List ℕ) : Type 0 where
  pub none : IsNoRate m a k
  pub cut : List ℕ
  pub says_cut : SaysCut (at_rate m a rate_limit) k cut
  pub says : text ≡ arc_never_line m a k ++ cut ++ end_line

-- the text says the least rate of an arc, or that there is none
abbrev pub SaysLeast : Model → ℕ → ℕ → Least → List ℕ → Type 0
SaysLeast m a k (Rate r) text = SaysRate m a k r text
SaysLeast m a k Never text = SaysNever m a k text
