-- What the reader keeps of a block up to some line, and what one more line makes of it.
use Rattle.std.specs.Prelude.{◌≡◌, ℕ, ◌+◌, ◌-◌, ◌*◌, ◌<◌, ◌≤◌, Bool, true, false, not, ◌&&◌, ◌||◌, ◌==◌, nat_lt, nat_le, if◌then◌else◌, List, [], ◌∷◌, ◌++◌, length, fold, slice_get, slice_index_or, Some, None}
use Rattle.std.specs.declared.option.Option.{Option}
use Rattle.std.specs.List.{list_all, position}
use Rattle.evac_law.specs.declared.model.Model.{Model}
use Rattle.evac_law.specs.declared.name.NodeName.{NodeName}
use Rattle.evac_law.specs.declared.plan.Move.{Move}
use Rattle.evac_law.specs.Building.{is_exit_at}
use Rattle.evac_law.specs.Certificates.{IsTableOf}
use Rattle.evac_law.specs.LabelTable.{LabelTable, label_at, unset}
use Rattle.evac_law.specs.Sums.{below}
use Rattle.building_table.specs.Names.{arc_ends, node_names}
use Rattle.model_text.specs.NameFields.{◌>>=◌}
use Rattle.model_text.specs.Taken.{same_name}
use Rattle.certificate_text.specs.declared.block.Block.{Block}
use Rattle.certificate_text.specs.declared.entry.Entry.{Entry}
use Rattle.certificate_text.specs.declared.entry.Entry.TheVariants as entries
use Rattle.block_reader.specs.declared.run.Run.{Run}
use Rattle.block_reader.specs.declared.stage.Stage.{Stage}
use Rattle.block_reader.specs.declared.stage.Stage.TheVariants as stages

-- which line comes next, the numbers of the first three lines where they stood, the people out by each period, the runs of labels and the moves
pub record Draft : Type 0 where
  pub stage : Stage
  pub index : ℕ
  pub people : ℕ
  pub cleared : ℕ
  pub outs : List ℕ
  pub runs : List Run
  pub moves : List Move

-- a block of which nothing was read
abbrev pub no_draft : Draft
no_draft = record { stage = stages.Index; index = 0; people = 0; cleared = 0; outs = []; runs = []; moves = [] }

-- which line comes next: `answer`, `people`, `cleared`, or one of the lists
abbrev pub is_index : Stage → Bool
is_index stages.Index = true
is_index _ = false

abbrev pub is_people : Stage → Bool
is_people stages.People = true
is_people _ = false

abbrev pub is_cleared : Stage → Bool
is_cleared stages.Cleared = true
is_cleared _ = false

abbrev pub is_lists : Stage → Bool
is_lists stages.Lists = true
is_lists _ = false

-- ---- the first lines

abbrev pub with_index : Draft → ℕ → Option Draft
with_index d i = if is_index d.stage then Some (record d { stage = stages.People; index = i }) else None

abbrev pub with_people : Draft → ℕ → Option Draft
with_people d p = if is_people d.stage then Some (record d { stage = stages.Cleared; people = p }) else None

-- the moment isn't above the horizon
abbrev pub with_cleared : Model → Draft → ℕ → Option Draft
with_cleared m d c = if is_cleared d.stage && nat_le c m.horizon then Some (record d { stage = stages.Lists; cleared = c }) else None

-- the periods come in order, up to the cleared moment
abbrev pub with_out : Draft → ℕ → ℕ → Option Draft
with_out d k n = if is_lists d.stage && (k == length d.outs && nat_le k d.cleared) then Some (record d { outs = d.outs ++ (n ∷ []) }) else None

-- ---- labels

-- the last of a list
abbrev pub last_of : {A : Type 0} → List A → Option A
last_of xs = slice_get xs (length xs - 1)

-- the place of the node of a name
abbrev pub node_of : Model → NodeName → Option ℕ
node_of m name = position (λ n. same_name n name) (node_names m)

-- whether the places from one on, up to another, are those of exits
unfoldable pub only_exits : Model → ℕ → ℕ → Bool
only_exits m start finish = list_all (λ n. nat_lt n start || is_exit_at m n) (below finish)

-- whether a run may stand after another one: a further run of its node, at a later moment and with another label,
-- or the first run of the next node that is no exit, at moment 0
abbrev pub follows_run : Model → Option Run → ℕ → ℕ → ℕ → Bool
follows_run m None n t v = t == 0 && only_exits m 0 n
follows_run m (Some r) n t v =
    if n == r.node then nat_lt r.moment t && not (v == r.label)
    else nat_lt r.node n && (t == 0 && only_exits m (r.node + 1) n)

-- the people out by each period stand, and no move
abbrev pub is_empty : {A : Type 0} → List A → Bool
is_empty [] = true
is_empty (x ∷ xs) = false

abbrev pub is_curve : Draft → Bool
is_curve d = is_lists d.stage && length d.outs == d.cleared + 1

-- whether a node may have a label from a moment on: the moment is before the cleared one, and the label isn't above it
abbrev pub is_run : Model → Draft → ℕ → ℕ → ℕ → Bool
is_run m d n t v =
    is_curve d && (is_empty d.moves && (not (is_exit_at m n) && (nat_lt t d.cleared && (nat_le v d.cleared && follows_run m (last_of d.runs) n t v))))

abbrev pub with_run : Model → Draft → ℕ → ℕ → ℕ → Option Draft
with_run m d n t v = if is_run m d n t v then Some (record d { runs = d.runs ++ (record { node = n; moment = t; label = v } ∷ []) }) else None

-- the label that runs give a node at a moment: that of the node's last run that has begun by then
unfoldable pub run_label : List Run → ℕ → ℕ → ℕ
run_label runs n t = fold (λ label r. if r.node == n && nat_le r.moment t then r.label else label) unset runs

-- the moment at which the label of a run stops: that of the run after it, where this is of the same node, or else c
abbrev pub stop_by : Option Run → Run → ℕ → ℕ
stop_by None r c = c
stop_by (Some next) r c = if next.node == r.node then next.moment else c

-- past the end of a list of runs
abbrev pub no_run : Run
no_run = record { node = 0; moment = 0; label = 0 }

abbrev pub run_stop : List Run → ℕ → ℕ → ℕ
run_stop runs i c = stop_by (slice_get runs (i + 1)) (slice_index_or runs i no_run) c

-- the labels of a table, with that of a run from its moment up to a stop
abbrev pub filled : LabelTable → Run → ℕ → ℕ → ℕ → ℕ
filled l r stop n t = if r.node == n && (nat_le r.moment t && nat_lt t stop) then r.label else label_at l n t

-- ---- moves

-- the place after the last node that has a run
abbrev pub behind_run : Option Run → ℕ
behind_run None = 0
behind_run (Some r) = r.node + 1

-- whether the curve stands, and the runs of every node that is no exit, where the cleared moment is above 0
abbrev pub is_full : Model → Draft → Bool
is_full m d = is_curve d && (d.cleared == 0 || only_exits m (behind_run (last_of d.runs)) (length m.nodes))

-- the place of the arc between two places
abbrev pub arc_of : Model → ℕ → ℕ → Option ℕ
arc_of m start finish = position (λ e. e.0 == start && e.1 == finish) (arc_ends m)

-- the place of the arc between the nodes of two names
abbrev pub arc_between : Model → NodeName → NodeName → Option ℕ
arc_between m start finish = node_of m start >>= λ i. node_of m finish >>= λ j. arc_of m i j

-- whether a moment and an arc stand after those of a move
abbrev pub follows_move : Option Move → ℕ → ℕ → Bool
follows_move None t a = true
follows_move (Some v) t a = nat_lt v.moment t || (v.moment == t && nat_lt v.arc a)

-- whether somebody may enter an arc at a moment: the moves begin once the rest is there, and none is of nobody or past the horizon
abbrev pub is_move : Model → Draft → ℕ → ℕ → ℕ → Bool
is_move m d t a n =
    (not (is_empty d.moves) || is_full m d) && (nat_le t m.horizon && (nat_lt 0 n && follows_move (last_of d.moves) t a))

abbrev pub with_move : Model → Draft → ℕ → ℕ → ℕ → Option Draft
with_move m d t a n = if is_move m d t a n then Some (record d { moves = d.moves ++ (record { moment = t; arc = a; people = n } ∷ []) }) else None

-- the block ends where all of it is there
abbrev pub with_end : Model → Draft → Option Draft
with_end m d = if is_full m d then Some d else None

-- ---- one line more

-- the block with what a line says, if it may stand there
unfoldable pub with_entry : Model → Draft → Entry → Option Draft
with_entry m d entries.Blank = Some d
with_entry m d (entries.Index index) = with_index d index
with_entry m d (entries.People people) = with_people d people
with_entry m d (entries.Cleared moment) = with_cleared m d moment
with_entry m d (entries.Out period people) = with_out d period people
with_entry m d (entries.Label name moment label) = node_of m name >>= λ n. with_run m d n moment label
with_entry m d (entries.Move moment start finish people) = arc_between m start finish >>= λ a. with_move m d moment a people
with_entry m d entries.End = with_end m d

-- ---- the whole block

-- there is a label for each node and moment: up to moment c that of the node's runs, and from c on none
pub record AreRunLabels (m : Model) (c : ℕ) (runs : List Run) (l : LabelTable) : Type 0 where
  pub table : IsTableOf m l
  pub full : length l.list ≡ l.nodes * (l.horizon + 1)
  pub early : (n t : ℕ) → n < length m.nodes → t < c → label_at l n t ≡ run_label runs n t
  pub late : (n t : ℕ) → n < length m.nodes → c ≤ t → t ≤ m.horizon → label_at l n t ≡ unset

-- a block has what a draft has
pub record IsStated (m : Model) (d : Draft) (b : Block) : Type 0 where
  pub index : b.index ≡ d.index
  pub people : b.people ≡ d.people
  pub cleared : b.cleared ≡ d.cleared
  pub outs : b.outs ≡ d.outs
  pub labels : AreRunLabels m d.cleared d.runs b.labels
  pub moves : b.moves ≡ d.moves
