-- A building as a text of version 2.
use Rattle.std.specs.Prelude.{ℕ, nat_eq, if◌then◌else◌, List, [], ◌∷◌, ◌++◌, length, map, slice_index_or, Some, None, codes, decimal, ⊤}
use Rattle.std.specs.declared.option.Option.{Option}
use Rattle.std.specs.List.{ends_with, flat_map}
use Rattle.evac_law.specs.Sums.{below}
use Rattle.building_table.specs.declared.building.Building.{Building}
use Rattle.building_table.specs.Names.{NameTable}
use Rattle.evac_law.specs.Building.{node_at}
use Rattle.evac_law.specs.Names.{IsName, is_exit, name_text}
use Rattle.evac_law.specs.declared.entrant.Entrant.{Entrant as Coming}
use Rattle.evac_law.specs.declared.model.ArcRow.{ArcRow}
use Rattle.evac_law.specs.declared.model.Model.{Model}
use Rattle.evac_law.specs.declared.model.NodeRow.{NodeRow}
use Rattle.evac_law.specs.declared.name.NodeName.{NodeName}
use Rattle.evac_law.specs.declared.window.Window.{Window as Closed}
use Rattle.line_io.specs.Text.{fields}
use Rattle.model_text.specs.Grammar.{Said, SaidPart, Blank, Header, Part, Title, Period, Horizon, Floor, Node, Exit, Arc, Window, Entrant, End}
use Rattle.model_text.specs.Taken.{Description}

-- ---- the parts that say a building, in the order of its text

abbrev pub title_said : Option (List ℕ) → List SaidPart
title_said None = []
title_said (Some text) = Title text ∷ []

abbrev pub floor_said : ℕ × List ℕ → SaidPart
floor_said f = Floor f.0 f.1

abbrev pub node_said : NodeRow → SaidPart
node_said n = if is_exit n.name.kind then Exit n.name else Node n.name n.capacity n.start

-- the name of the node at a place
abbrev pub name_at : Model → ℕ → NodeName
name_at m n = (node_at m n).name

abbrev pub arc_said : Model → ArcRow → SaidPart
arc_said m a = Arc (name_at m a.from) (name_at m a.to) a.travel a.rate

-- the windows of an arc, in the order of their first moments
abbrev pub window_said : Model → ArcRow → Closed → SaidPart
window_said m a w = Window (name_at m a.from) (name_at m a.to) w.from w.until

abbrev pub windows_said : Model → ArcRow → List SaidPart
windows_said m a = map (window_said m a) a.windows.items

abbrev pub entrant_said : Model → Coming → SaidPart
entrant_said m e = Entrant (name_at m e.node) e.moment e.people

-- the settings, the floors, the nodes, the arcs, the windows by arc, and the entrants
abbrev pub parts_said : Description → List SaidPart
parts_said d =
    title_said d.title
    ++ (Period d.model.seconds ∷ Horizon d.model.horizon
    ∷ (map floor_said d.floors
    ++ (map node_said d.model.nodes
    ++ (map (arc_said d.model) d.model.arcs
    ++ (flat_map (windows_said d.model) d.model.arcs
    ++ map (entrant_said d.model) d.model.entrants)))))

-- the statements: the header of version 2, these, and the end
abbrev pub said_of : Description → List Said
said_of d = Header 2 ∷ (map Part (parts_said d) ++ (End ∷ []))

-- ---- the lines that say them

-- the line of a part, its fields with one space between them
abbrev pub part_line : SaidPart → List ℕ
part_line (Title text) = fields (codes "title" ∷ text ∷ [])
part_line (Period seconds) = fields (codes "period" ∷ decimal seconds ∷ [])
part_line (Horizon moments) = fields (codes "horizon" ∷ decimal moments ∷ [])
part_line (Floor floor text) = fields (codes "floor" ∷ decimal floor ∷ text ∷ [])
part_line (Node name capacity start) = fields (codes "node" ∷ name_text name ∷ decimal capacity ∷ decimal start ∷ [])
part_line (Exit name) = fields (codes "node" ∷ name_text name ∷ [])
part_line (Arc start finish travel rate) = fields (codes "arc" ∷ name_text start ∷ name_text finish ∷ decimal travel ∷ decimal rate ∷ [])
part_line (Window start finish first until) =
    fields (codes "window" ∷ name_text start ∷ name_text finish ∷ decimal first ∷ decimal until ∷ [])
part_line (Entrant name moment people) = fields (codes "entrant" ∷ name_text name ∷ decimal moment ∷ decimal people ∷ [])

-- the line of a statement
abbrev pub said_line : Said → List ℕ
said_line Blank = []
said_line (Header version) = fields (codes "evacplan" ∷ decimal version ∷ [])
said_line (Part part) = part_line part
said_line End = fields (codes "end" ∷ [])

-- the end of a line, which is LF, the byte 10; after a line that ends with CR, the byte 13, one further CR stands before it
abbrev pub line_end : List ℕ → List ℕ
line_end line = if ends_with nat_eq line (13 ∷ []) then 13 ∷ 10 ∷ [] else 10 ∷ []

-- a line with its end
abbrev pub ended : List ℕ → List ℕ
ended line = line ++ line_end line

-- the line of a statement with its end
abbrev pub said_text : Said → List ℕ
said_text s = ended (said_line s)

-- the line of a part with its end
abbrev pub part_text : SaidPart → List ℕ
part_text p = ended (part_line p)

-- the text of a building in version 2
unfoldable pub model_text : Description → List ℕ
model_text d = flat_map said_text (said_of d)

-- ---- its parts, each a text for one row

abbrev pub title_text : Option (List ℕ) → List ℕ
title_text title = flat_map part_text (title_said title)

abbrev pub floor_text : List ℕ → List (List ℕ) → ℕ → List ℕ
floor_text floors texts i = part_text (Floor (slice_index_or floors i 0) (slice_index_or texts i []))

abbrev pub node_text : NodeRow → List ℕ
node_text n = part_text (node_said n)

abbrev pub arc_text : Model → ArcRow → List ℕ
arc_text m a = part_text (arc_said m a)

abbrev pub window_text : Model → ArcRow → Closed → List ℕ
window_text m a w = part_text (window_said m a w)

abbrev pub windows_text : Model → ArcRow → List ℕ
windows_text m a = flat_map (window_text m a) a.windows.items

abbrev pub entrant_text : Model → Coming → List ℕ
entrant_text m e = part_text (entrant_said m e)

-- the header, the title where there is one, and the settings
abbrev pub settings_text : Building → List ℕ
settings_text b =
    ((said_text (Header 2) ++ title_text b.names.title) ++ part_text (Period b.model.seconds)) ++ part_text (Horizon b.model.horizon)

abbrev pub floors_text : NameTable → List ℕ
floors_text names = flat_map (floor_text names.floors names.texts) (below (length names.floors))

-- the nodes, the arcs, the windows and the entrants
abbrev pub rows_text : Model → List ℕ
rows_text m =
    ((flat_map node_text m.nodes ++ flat_map (arc_text m) m.arcs) ++ flat_map (windows_text m) m.arcs) ++ flat_map (entrant_text m) m.entrants

-- the text of a building with its names, part by part
abbrev pub building_text : Building → List ℕ
building_text b = ((settings_text b ++ floors_text b.names) ++ rows_text b.model) ++ said_text End

-- the fields of a line, with the text after them where there is one
abbrev pub line_with : List ℕ → Option (List ℕ) → List ℕ
line_with line None = line
line_with line (Some text) = line ++ (32 ∷ text)

-- the names that a part says are names of nodes
abbrev pub HasNames : SaidPart → Type 0
HasNames (Node name capacity start) = IsName name
HasNames (Exit name) = IsName name
HasNames (Arc start finish travel rate) = IsName start × IsName finish
HasNames (Window start finish first until) = IsName start × IsName finish
HasNames (Entrant name moment people) = IsName name
HasNames _ = ⊤

-- the same of a statement
abbrev pub SaysNames : Said → Type 0
SaysNames (Part part) = HasNames part
SaysNames _ = ⊤
