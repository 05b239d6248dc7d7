-- What is read from a text in memory.
use Rattle.std.proofs.Common.{◌≡◌, ℕ, false, List, [], Result, Ok, Err, Some, None, ap, ◌∙◌, subst}
use Rattle.std.specs.declared.option.Option.{Option}
use Rattle.evac_law.specs.declared.code.Code.{Code}
use Rattle.line_io.specs.Line.{Line, lines_of}
use Rattle.line_io.specs.Reader.{lines_left}
use Rattle.line_io.specs.View.{Reader}
use Rattle.building_table.specs.declared.building.Building.{Building}
use Rattle.building_table.specs.declared.faults.ModelFault.{ModelFault}
use Rattle.building_table.specs.declared.faults.ModelFault.TheVariants.{Named}
use Rattle.building_table.specs.Passes.{ReadsModel}
use Rattle.what_if.specs.declared.answer.WhatIfFault.TheVariants.{Text}
use Rattle.what_if.specs.WhatIf.{Describes}

-- a reader that has taken nothing yet
abbrev pub fresh : Reader
fresh = record { pending = []; ended = false; given = 0; number = 0; text = [] }

-- to a fresh reader all lines are left
pub all-left : (r : Reader) (bytes text : List ℕ) → r ≡ fresh → bytes ≡ text → lines_left r (Some bytes) ≡ Some (lines_of text)
all-left r bytes text new same = ap (λ (x : Reader). lines_left x (Some bytes)) new ∙ ap (λ (x : List ℕ). Some (lines_of x)) same

-- the reading of a fresh reader is that of the text
pub of-text : (r : Reader) (bytes text : List ℕ) (result : Result Building ModelFault) (n : ℕ) (after : Option (List Line)) → r ≡ fresh → bytes ≡ text
    → ReadsModel result r.number n (lines_left r (Some bytes)) after → ReadsModel result 0 n (Some (lines_of text)) after
of-text r bytes text result n after new same reads =
    let here = subst (λ (x : Reader). ReadsModel result x.number n (lines_left x (Some bytes)) after) new reads in
    subst (λ (x : List ℕ). ReadsModel result 0 n (Some (lines_of x)) after) same here

first-fault : (text : List ℕ) (code : Code) (line n : ℕ) (after : Option (List Line)) → ReadsModel (Err (Named code line)) 0 n (Some (lines_of text)) after
    → Describes text (Err (Text code line))
first-fault text code line n None reads = absurd reads
first-fault text code line n (Some rest) reads = reads

pub described : (text : List ℕ) (building : Building) (n : ℕ) (after : Option (List Line)) → ReadsModel (Ok building) 0 n (Some (lines_of text)) after
    → Describes text (Ok building)
described text building n None reads = absurd reads
described text building n (Some rest) (d, e, is) = (d, n, rest, e, is)

pub refused : (text : List ℕ) (fault : ModelFault) (code : Code) (line n : ℕ) (after : Option (List Line)) → fault ≡ Named code line
    → ReadsModel (Err fault) 0 n (Some (lines_of text)) after → Describes text (Err (Text code line))
refused text fault code line n after is reads = first-fault text code line n after (subst (λ (x : ModelFault). ReadsModel (Err x) 0 n (Some (lines_of text)) after) is reads)
