-- What an edit does to a model, when it is refused, and which edit undoes it.
use Rattle.std.specs.Prelude.{◌≡◌, ℕ, ◌+◌, ◌-◌, ◌<◌, Bool, true, false, not, ◌||◌, if◌then◌else◌, ◌==◌, nat_le, nat_lt, List, [], ◌∷◌, length, slice_set, Result, Ok, Err, IfOk, IfErr, OnErr}
use Rattle.std.specs.List.{list_any}
use Rattle.evac_law.specs.declared.code.Code.{Code}
use Rattle.evac_law.specs.declared.code.Code.TheVariants as codes
use Rattle.evac_law.specs.declared.model.NodeRow.{NodeRow}
use Rattle.evac_law.specs.declared.model.ArcRow.{ArcRow}
use Rattle.evac_law.specs.declared.model.Model.{Model}
use Rattle.evac_law.specs.declared.edit.Edit.{Edit}
use Rattle.evac_law.specs.declared.edit.Edit.TheVariants.{Shut, Reopen, ShutExit, ReopenExit, Rate, Room, Shift, Enter, Leave, Window, Unwindow}
use Rattle.evac_law.specs.declared.edit.EditFault.{EditFault}
use Rattle.evac_law.specs.declared.window.Window.{Window as ClosureWindow}
use Rattle.evac_law.specs.declared.edit.EditFault.TheVariants.{OutOfRange, OverFull, SameNode, TooMany, AlreadyShut, AlreadyOpen, NotExit, ExitNamed, TooFew, BadWindow, WindowOverlap, TooManyWindows, NoWindow}
use Rattle.evac_law.specs.Building.{node_at, arc_at, is_exit_at, capacity, start, people}
use Rattle.evac_law.specs.Limits.{horizon_limit, rate_limit, capacity_limit, people_limit, window_limit}
use Rattle.evac_law.specs.Windows.{window_of, overlaps, is_same_window, with_window, without_window}

-- the places that an edit names are places of the model
abbrev pub IsEditOf : Model → Edit → Type 0
IsEditOf m (Shut a) = a < length m.arcs
IsEditOf m (Reopen a) = a < length m.arcs
IsEditOf m (ShutExit n) = n < length m.nodes
IsEditOf m (ReopenExit n) = n < length m.nodes
IsEditOf m (Rate a r) = a < length m.arcs
IsEditOf m (Room n c) = n < length m.nodes
IsEditOf m (Shift a b p) = (a < length m.nodes) × (b < length m.nodes)
IsEditOf m (Enter n p) = n < length m.nodes
IsEditOf m (Leave n p) = n < length m.nodes
IsEditOf m (Window a p q) = a < length m.arcs
IsEditOf m (Unwindow a p q) = a < length m.arcs

-- whether a number can't be the people of an edit: 0, or above the limit of a node
abbrev pub is_no_count : ℕ → Bool
is_no_count p = (p == 0) || nat_lt capacity_limit p

-- the windows of the arc at a place
abbrev pub windows_at : Model → ℕ → List ClosureWindow
windows_at m a = (arc_at m a).windows.items

-- whether a number can't be the first moment of a window, or its end
abbrev pub is_no_first : ℕ → Bool
is_no_first p = nat_lt horizon_limit p

abbrev pub is_no_end : ℕ → Bool
is_no_end q = (q == 0) || nat_lt (horizon_limit + 1) q

-- the checks of an edit in their order, each with its fault
abbrev pub checks : Model → Edit → List (Bool × EditFault)
checks m (Shut a) = ((arc_at m a).shut, AlreadyShut) ∷ []
checks m (Reopen a) = (not (arc_at m a).shut, AlreadyOpen) ∷ []
checks m (ShutExit n) = (not (is_exit_at m n), NotExit) ∷ ((node_at m n).shut, AlreadyShut) ∷ []
checks m (ReopenExit n) = (not (is_exit_at m n), NotExit) ∷ (not (node_at m n).shut, AlreadyOpen) ∷ []
checks m (Rate a r) = (nat_lt rate_limit r, OutOfRange) ∷ []
checks m (Room n c) = (is_exit_at m n, ExitNamed) ∷ (nat_lt capacity_limit c, OutOfRange) ∷ (nat_lt c (start m n), OverFull) ∷ []
checks m (Shift a b p) =
    (a == b, SameNode) ∷ (is_exit_at m a || is_exit_at m b, ExitNamed) ∷ (is_no_count p, OutOfRange)
    ∷ (nat_lt (start m a) p, TooFew) ∷ (nat_lt (capacity m b) (start m b + p), OverFull) ∷ []
checks m (Enter n p) =
    (is_exit_at m n, ExitNamed) ∷ (is_no_count p, OutOfRange) ∷ (nat_lt people_limit (people m + p), TooMany)
    ∷ (nat_lt (capacity m n) (start m n + p), OverFull) ∷ []
checks m (Leave n p) = (is_exit_at m n, ExitNamed) ∷ (is_no_count p, OutOfRange) ∷ (nat_lt (start m n) p, TooFew) ∷ []
checks m (Window a p q) =
    (is_no_first p || is_no_end q, OutOfRange) ∷ (nat_le q p, BadWindow)
    ∷ (list_any (λ v. overlaps v (window_of p q)) (windows_at m a), WindowOverlap)
    ∷ (nat_le window_limit (length (windows_at m a)), TooManyWindows) ∷ []
checks m (Unwindow a p q) =
    (not (list_any (λ v. is_same_window v (window_of p q)) (windows_at m a)), NoWindow) ∷ []

-- x, or the fault of the first check that holds
abbrev pub unless : {A : Type 0} → List (Bool × EditFault) → A → Result A EditFault
unless [] x = Ok x
unless (c ∷ cs) x = if c.0 then Err c.1 else unless cs x

-- the model with another arc at a place, with another node, and with another start in a node
abbrev pub with_arc : Model → ℕ → ArcRow → Model
with_arc m a row = record m { arcs = slice_set m.arcs a row }

abbrev pub with_node : Model → ℕ → NodeRow → Model
with_node m n row = record m { nodes = slice_set m.nodes n row }

abbrev pub with_start : Model → ℕ → ℕ → Model
with_start m n s = with_node m n (record (node_at m n) { start = s })

-- the model with other windows of an arc
abbrev pub with_windows : Model → ℕ → List ClosureWindow → Model
with_windows m a ws = with_arc m a (record (arc_at m a) { windows = record { items = ws } })

-- the model after an edit that is not refused
abbrev pub edited : Model → Edit → Model
edited m (Shut a) = with_arc m a (record (arc_at m a) { shut = true })
edited m (Reopen a) = with_arc m a (record (arc_at m a) { shut = false })
edited m (ShutExit n) = with_node m n (record (node_at m n) { shut = true })
edited m (ReopenExit n) = with_node m n (record (node_at m n) { shut = false })
edited m (Rate a r) = with_arc m a (record (arc_at m a) { rate = r })
edited m (Room n c) = with_node m n (record (node_at m n) { capacity = c })
edited m (Shift a b p) = with_start (with_start m a (start m a - p)) b (start m b + p)
edited m (Enter n p) = with_start m n (start m n + p)
edited m (Leave n p) = with_start m n (start m n - p)
edited m (Window a p q) = with_windows m a (with_window (windows_at m a) (window_of p q))
edited m (Unwindow a p q) = with_windows m a (without_window (windows_at m a) (window_of p q))

-- the edit that gives the old model back
abbrev pub inverse_of : Model → Edit → Edit
inverse_of m (Shut a) = Reopen a
inverse_of m (Reopen a) = Shut a
inverse_of m (ShutExit n) = ReopenExit n
inverse_of m (ReopenExit n) = ShutExit n
inverse_of m (Rate a r) = Rate a (arc_at m a).rate
inverse_of m (Room n c) = Room n (capacity m n)
inverse_of m (Shift a b p) = Shift b a p
inverse_of m (Enter n p) = Leave n p
inverse_of m (Leave n p) = Enter n p
inverse_of m (Window a p q) = Unwindow a p q
inverse_of m (Unwindow a p q) = Window a p q

-- the edited model and the edit that undoes the edit, or the first fault
abbrev pub applied : Model → Edit → Result (Model × Edit) EditFault
applied m e = unless (checks m e) (edited m e, inverse_of m e)

-- what the answer of an edit says: the edited model is there, and the edit that undoes it; or the first fault, and the model is as it was
pub record Applies (m : Model) (e : Edit) (r : Result Edit EditFault) (m' : Model) : Type 0 where
  pub ok : IfOk r (λ inverse. applied m e ≡ Ok (m', inverse))
  pub fault : IfErr r (λ fault. applied m e ≡ Err fault)
  pub unchanged : OnErr r (m' ≡ m)

-- the code by which a refusal names a fault
abbrev pub fault_code : EditFault → Code
fault_code OutOfRange = codes.OutOfRange
fault_code OverFull = codes.OverFull
fault_code SameNode = codes.SameNode
fault_code TooMany = codes.TooMany
fault_code AlreadyShut = codes.AlreadyShut
fault_code AlreadyOpen = codes.AlreadyOpen
fault_code NotExit = codes.NotExit
fault_code ExitNamed = codes.ExitNamed
fault_code TooFew = codes.TooFew
fault_code BadWindow = codes.BadWindow
fault_code WindowOverlap = codes.WindowOverlap
fault_code TooManyWindows = codes.TooManyWindows
fault_code NoWindow = codes.NoWindow
