-- What a reader of lines answers, by what a line says.
use Rattle.std.specs.Prelude.{◌≡◌, Result, Ok, Err}
use Rattle.model_text.specs.declared.fault.TextFault.{TextFault}
use Rattle.model_text.specs.declared.part.Part.{Part}
use Rattle.model_text.specs.declared.part.Part.TheVariants.{Title, Period, Horizon, Floor, Node, Exit, Arc, Window, Entrant}
use Rattle.model_text.specs.declared.statement.Statement.{Statement}
use Rattle.model_text.specs.declared.statement.Statement.TheVariants as statements
use Rattle.model_text.specs.Grammar as grammar
use Rattle.model_text.specs.Grammar.{Said, SaidPart}

-- a part without where it lies in memory
abbrev pub said_part : Part → SaidPart
said_part (Title text) = grammar.Title text.now
said_part (Period seconds) = grammar.Period seconds
said_part (Horizon moments) = grammar.Horizon moments
said_part (Floor floor text) = grammar.Floor floor text.now
said_part (Node name capacity start) = grammar.Node name capacity start
said_part (Exit name) = grammar.Exit name
said_part (Arc start finish travel rate) = grammar.Arc start finish travel rate
said_part (Window start finish first until) = grammar.Window start finish first until
said_part (Entrant name moment people) = grammar.Entrant name moment people

-- a statement without where it lies in memory
abbrev pub said : Statement → Said
said statements.Blank = grammar.Blank
said (statements.Header version) = grammar.Header version
said (statements.Part part) = grammar.Part (said_part part)
said statements.End = grammar.End

-- the answer is the part, a fault its first fault
abbrev pub ReadsPart : Result Part TextFault → Result SaidPart TextFault → Type 0
ReadsPart (Ok part) read = read ≡ Ok (said_part part)
ReadsPart (Err fault) read = read ≡ Err fault

-- the answer is what the line says, a fault its first fault
abbrev pub Reads : Result Statement TextFault → Result Said TextFault → Type 0
Reads (Ok statement) read = read ≡ Ok (said statement)
Reads (Err fault) read = read ≡ Err fault
