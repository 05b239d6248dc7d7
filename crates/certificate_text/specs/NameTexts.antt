-- The names of a model's nodes as texts, and the lines of labels and moves by them.
use Rattle.std.specs.Prelude.{ℕ, ◌==◌, if◌then◌else◌, List, [], ◌∷◌, ◌++◌, map}
use Rattle.evac_law.specs.declared.model.Model.{Model}
use Rattle.evac_law.specs.declared.plan.Move.{Move}
use Rattle.evac_law.specs.Building.{head, tail}
use Rattle.evac_law.specs.LabelTable.{LabelTable}
use Rattle.certificate_text.specs.BlockText.{begins_run, label_line, move_line, name_of_node, shown_label}

-- the names of the ends of the arcs, in their order
abbrev pub ends_texts : Model → List (List ℕ)
ends_texts m = map (λ a. name_of_node m a.from ++ (32 ∷ name_of_node m a.to)) m.arcs

-- the line of a run at its first moment, by the name of its node
abbrev pub run_line : List ℕ → LabelTable → ℕ → ℕ → ℕ → List ℕ
run_line name l c n t = if begins_run (shown_label l c n) t then label_line name t (shown_label l c n t) else []

-- the line of a move, where anybody moves
abbrev pub entering_line : Model → Move → List ℕ
entering_line m v = if v.people == 0 then [] else move_line v.moment (name_of_node m (tail m v.arc)) (name_of_node m (head m v.arc)) v.people
