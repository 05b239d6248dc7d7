-- Each place is within the model.
use Rattle.building_table.proofs.commands.edit_of.Goals as goal

pub returns-in_ok-arc_of-in-Shut-clause-within : goal.returns-in_ok-arc_of-in-Shut-clause-within
returns-in_ok-arc_of-in-Shut-clause-within c = c.in_ok-arc_of-in-Shut.ensures.within

pub returns-in_ok-arc_of-in-Reopen-clause-within : goal.returns-in_ok-arc_of-in-Reopen-clause-within
returns-in_ok-arc_of-in-Reopen-clause-within c = c.in_ok-arc_of-in-Reopen.ensures.within

pub returns-in_ok-node_of-in-ShutExit-clause-within : goal.returns-in_ok-node_of-in-ShutExit-clause-within
returns-in_ok-node_of-in-ShutExit-clause-within c = c.in_ok-node_of-in-ShutExit.ensures.within

pub returns-in_ok-node_of-in-ReopenExit-clause-within : goal.returns-in_ok-node_of-in-ReopenExit-clause-within
returns-in_ok-node_of-in-ReopenExit-clause-within c = c.in_ok-node_of-in-ReopenExit.ensures.within

pub returns-in_ok-arc_of-in-Rate-clause-within : goal.returns-in_ok-arc_of-in-Rate-clause-within
returns-in_ok-arc_of-in-Rate-clause-within c = c.in_ok-arc_of-in-Rate.ensures.within

pub returns-in_ok-node_of-in-Room-clause-within : goal.returns-in_ok-node_of-in-Room-clause-within
returns-in_ok-node_of-in-Room-clause-within c = c.in_ok-node_of-in-Room.ensures.within

pub returns-in_ok-from-in-Shift-clause-within : goal.returns-in_ok-from-in-Shift-clause-within
returns-in_ok-from-in-Shift-clause-within c = c.in_ok-from-in-Shift.ensures.within

pub returns-in_ok-node_of-in-Enter-clause-within : goal.returns-in_ok-node_of-in-Enter-clause-within
returns-in_ok-node_of-in-Enter-clause-within c = c.in_ok-node_of-in-Enter.ensures.within

pub returns-in_ok-node_of-in-Leave-clause-within : goal.returns-in_ok-node_of-in-Leave-clause-within
returns-in_ok-node_of-in-Leave-clause-within c = c.in_ok-node_of-in-Leave.ensures.within

pub returns-in_ok-arc_of-in-Window-clause-within : goal.returns-in_ok-arc_of-in-Window-clause-within
returns-in_ok-arc_of-in-Window-clause-within c = c.in_ok-arc_of-in-Window.ensures.within

pub returns-in_ok-arc_of-in-Unwindow-clause-within : goal.returns-in_ok-arc_of-in-Unwindow-clause-within
returns-in_ok-arc_of-in-Unwindow-clause-within c = c.in_ok-arc_of-in-Unwindow.ensures.within
