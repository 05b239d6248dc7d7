-- The texts of blocks: of an answer, and of a cut that shows that not everybody can get out.
use Rattle.std.specs.Prelude.{ℕ, zero, suc, ◌+◌, ◌-◌, Bool, not, ◌&&◌, ◌||◌, ◌==◌, if◌then◌else◌, min, List, [], ◌∷◌, ◌++◌, codes, decimal}
use Rattle.std.specs.List.{flat_map}
use Rattle.evac_law.specs.declared.code.Code.TheVariants.{NotCleared}
use Rattle.evac_law.specs.declared.code.Code.{Code}
use Rattle.line_io.specs.Text.{line_text}
use Rattle.evac_law.specs.declared.model.Model.{Model}
use Rattle.evac_law.specs.declared.plan.Move.{Move}
use Rattle.evac_law.specs.Building.{is_exit_at, head, node_at, people, tail}
use Rattle.evac_law.specs.Codes.{code_number}
use Rattle.evac_law.specs.Cuts.{Cut}
use Rattle.evac_law.specs.LabelTable.{LabelTable, label_at}
use Rattle.evac_law.specs.Names.{name_text}
use Rattle.evac_law.specs.Plans.{moved, out_by}
use Rattle.evac_law.specs.Sums.{below, moments_to, places}

-- ---- lines

-- the name of the node at a place
abbrev pub name_of_node : Model → ℕ → List ℕ
name_of_node m n = name_text (node_at m n).name

unfoldable pub answer_line : ℕ → List ℕ
answer_line index = line_text (codes "answer" ∷ decimal index ∷ [])

unfoldable pub people_line : ℕ → List ℕ
people_line people = line_text (codes "people" ∷ decimal people ∷ [])

unfoldable pub cleared_line : ℕ → List ℕ
cleared_line moment = line_text (codes "cleared" ∷ decimal moment ∷ [])

-- so many people are out by a period
unfoldable pub out_line : ℕ → ℕ → List ℕ
out_line period out = line_text (codes "out" ∷ decimal period ∷ decimal out ∷ [])

-- the label of a node from a moment on
unfoldable pub label_line : List ℕ → ℕ → ℕ → List ℕ
label_line name moment label = line_text (codes "label" ∷ name ∷ decimal moment ∷ decimal label ∷ [])

-- people who enter the arc between two nodes at a moment
unfoldable pub move_line : ℕ → List ℕ → List ℕ → ℕ → List ℕ
move_line moment from to people = line_text (codes "move" ∷ decimal moment ∷ from ∷ to ∷ decimal people ∷ [])

unfoldable pub end_line : List ℕ
end_line = line_text (codes "end" ∷ [])

-- a refusal by its code, at a line of the input
unfoldable pub refusal_line : Code → ℕ → List ℕ
refusal_line code line = line_text (codes "refused" ∷ decimal (code_number code) ∷ decimal line ∷ [])

-- the value of a cut at the horizon
unfoldable pub most_line : ℕ → List ℕ
most_line most = line_text (codes "most" ∷ decimal most ∷ [])

-- a node that is in a cut from one moment to another
unfoldable pub in_line : List ℕ → ℕ → ℕ → List ℕ
in_line name first last = line_text (codes "in" ∷ name ∷ decimal first ∷ decimal last ∷ [])

-- ---- the answer block

-- the people out by each period up to c
abbrev pub out_lines : Model → List Move → ℕ → List ℕ
out_lines m p c = flat_map (λ k. out_line k (out_by m p k)) (moments_to c)

-- a label as it is shown: c where it is greater
abbrev pub shown_label : LabelTable → ℕ → ℕ → ℕ → ℕ
shown_label l c n t = min (label_at l n t) c

-- whether a moment is the first of a run of moments with the same label
abbrev pub begins_run : (ℕ → ℕ) → ℕ → Bool
begins_run label t = (t == 0) || not (label t == label (t - 1))

-- the line of a run at its first moment
abbrev pub label_part : Model → LabelTable → ℕ → ℕ → ℕ → List ℕ
label_part m l c n t = if begins_run (shown_label l c n) t then label_line (name_of_node m n) t (shown_label l c n t) else []

-- the runs of a node, within the moments below c
abbrev pub node_labels : Model → LabelTable → ℕ → ℕ → List ℕ
node_labels m l c n = if is_exit_at m n then [] else flat_map (label_part m l c n) (below c)

abbrev pub label_lines : Model → LabelTable → ℕ → List ℕ
label_lines m l c = flat_map (node_labels m l c) (places m.nodes)

-- the people who enter an arc at a moment, where there are any
abbrev pub move_part : Model → List Move → ℕ → ℕ → List ℕ
move_part m p t a = if moved p a t == 0 then [] else move_line t (name_of_node m (tail m a)) (name_of_node m (head m a)) (moved p a t)

abbrev pub moment_moves : Model → List Move → ℕ → List ℕ
moment_moves m p t = flat_map (move_part m p t) (places m.arcs)

-- by moment and then by arc
abbrev pub move_lines : Model → List Move → List ℕ
move_lines m p = flat_map (moment_moves m p) (moments_to m.horizon)

-- the block of a plan of a model with its labels, which has everybody out by c
unfoldable pub answer_text : ℕ → Model → List Move → LabelTable → ℕ → List ℕ
answer_text index m p l c =
    answer_line index ++ people_line (people m) ++ cleared_line c ++ out_lines m p c ++ label_lines m l c ++ move_lines m p ++ end_line

-- ---- the block of a shortfall

-- whether a moment is the first of a run of moments inside
abbrev pub opens_run : (ℕ → Bool) → ℕ → Bool
opens_run inside t = inside t && ((t == 0) || not (inside (t - 1)))

-- the last moment of a run that a moment is in, so many moments further at most
unfoldable pub run_end : (ℕ → Bool) → ℕ → ℕ → ℕ
run_end inside t zero = t
run_end inside t (suc further) = if inside (t + 1) then run_end inside (t + 1) further else t

-- the line of a run at its first moment
abbrev pub in_part : Model → Cut → ℕ → ℕ → List ℕ
in_part m x n t = if opens_run (x n) t then in_line (name_of_node m n) t (run_end (x n) t (m.horizon - t)) else []

-- the runs of a node, up to the horizon
abbrev pub node_in : Model → Cut → ℕ → List ℕ
node_in m x n = if is_exit_at m n then [] else flat_map (in_part m x n) (moments_to m.horizon)

abbrev pub in_lines : Model → Cut → List ℕ
in_lines m x = flat_map (node_in m x) (places m.nodes)

-- the refusal of a model at a line, with a cut that is worth `most` at the horizon
unfoldable pub shortfall_text : ℕ → Model → Cut → ℕ → List ℕ
shortfall_text line m x most = refusal_line NotCleared line ++ people_line (people m) ++ most_line most ++ in_lines m x ++ end_line
