-- What a building is like that lines of a bounded length describe.
use Rattle.std.specs.Prelude.{◌≡◌, ◌≢◌, ℕ, ◌+◌, ◌<◌, ◌≤◌, ◌==◌, true, false, List, length, decimal, Ok, Err, MatchOption, ⊤}
use Rattle.std.specs.List.{All, AllPairs, list_any}
use Rattle.evac_law.specs.Building.{IsValid}
use Rattle.evac_law.specs.Limits.{floor_limit, floor_number_limit}
use Rattle.evac_law.specs.Names.{is_exit}
use Rattle.model_text.specs.Fields.{text_of}
use Rattle.model_text.specs.Readings.{Line}
use Rattle.model_text.specs.Taken.{Description}

-- a line's content has at most so many bytes, and no LF, the byte 10, is among them
abbrev pub IsContentWithin : ℕ → Line → Type 0
IsContentWithin limit (Ok content) = (length content ≤ limit) × (list_any (λ b. b == 10) content ≡ false)
IsContentWithin limit (Err code) = ⊤

-- a text that a line of at most so many bytes may say after so many others: some bytes, none of them an LF, and no blank in front or at its end
pub record IsTextBehind (limit before : ℕ) (text : List ℕ) : Type 0 where
  pub some : 0 < length text
  pub whole : text_of text ≡ text
  pub one_line : list_any (λ b. b == 10) text ≡ false
  pub fits : before + length text ≤ limit

-- a valid building in which nothing is shut, with an exit, and with a floor listed once for each floor on which there is a node; its texts fit
-- after the word and the number of their lines
pub record IsPlain (limit : ℕ) (d : Description) : Type 0 where
  pub valid : IsValid d.model
  pub nodes_open : All (λ n. n.shut ≡ false) d.model.nodes
  pub arcs_open : All (λ a. a.shut ≡ false) d.model.arcs
  pub has_exit : list_any (λ n. is_exit n.name.kind) d.model.nodes ≡ true
  pub title : MatchOption d.title ⊤ (λ text. IsTextBehind limit 6 text)
  pub few_floors : length d.floors ≤ floor_limit
  pub floors_fit : All (λ f. f.0 ≤ floor_number_limit) d.floors
  pub floors_differ : AllPairs (λ f g. f.0 ≢ g.0) d.floors
  pub floor_texts : All (λ f. IsTextBehind limit (7 + length (decimal f.0)) f.1) d.floors
  pub floors_listed : All (λ n. list_any (λ f. f.0 == n.name.floor) d.floors ≡ true) d.model.nodes
