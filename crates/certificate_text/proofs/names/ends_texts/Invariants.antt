-- The names so far.
use Rattle.std.proofs.Common.{◌≡◌, ◌++◌, ◌∷◌, map, take}
use Rattle.evac_law.specs.declared.model.ArcRow.{ArcRow}
use Rattle.certificate_text.specs.BlockText.{name_of_node}
use Rattle.certificate_text.proofs.names.ends_texts.Given as goal

abbrev pub invariant-loop-arc : goal.invariant-loop-arc
invariant-loop-arc l = l.texts.items ≡ map (λ (a : ArcRow). name_of_node l.model a.from ++ (32 ∷ name_of_node l.model a.to)) (take l.arc l.model.arcs)
