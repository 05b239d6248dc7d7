use Rattle.std.proofs.Common.{◌≡◌, take}
use Rattle.evac_law.proofs.model.ArcRow.copy.Given as goal

abbrev pub invariant-loop-window : goal.invariant-loop-window
invariant-loop-window l = l.windows.items ≡ take l.window-index l.self.windows.items
