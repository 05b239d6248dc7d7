use Rattle.building_table.proofs.TakeLemmas.{take-part, same-title, same-period, same-horizon, same-floor, same-room, same-exit, same-arc, same-window, same-entrant}
use Rattle.building_table.proofs.builder.Builder.take.Goals as goal

pub returns-in-Title : goal.returns-in-Title
returns-in-Title c = rw c.in-Title.is (take-part c.take_title.result _ _ c.args.self.now c.take_title.new.self _ c.take_title.ensures (same-title c.in-Title.text.now c.args.self.now))

pub returns-in-Period : goal.returns-in-Period
returns-in-Period c = rw c.in-Period.is (take-part c.take_period.result _ _ c.args.self.now c.take_period.new.self _ c.take_period.ensures (same-period c.in-Period.seconds c.args.self.now))

pub returns-in-Horizon : goal.returns-in-Horizon
returns-in-Horizon c = rw c.in-Horizon.is (take-part c.take_horizon.result _ _ c.args.self.now c.take_horizon.new.self _ c.take_horizon.ensures (same-horizon c.in-Horizon.moments c.args.self.now))

pub returns-in-Floor : goal.returns-in-Floor
returns-in-Floor c = rw c.in-Floor.is (take-part c.take_floor.result _ _ c.args.self.now c.take_floor.new.self _ c.take_floor.ensures (same-floor c.in-Floor.floor c.in-Floor.text.now c.args.self.now))

pub returns-in-Node : goal.returns-in-Node
returns-in-Node c = rw c.in-Node.is (take-part c.take_room.result _ _ c.args.self.now c.take_room.new.self _ c.take_room.ensures (same-room c.in-Node.name c.in-Node.capacity c.in-Node.start c.args.self.now))

pub returns-in-Exit : goal.returns-in-Exit
returns-in-Exit c = rw c.in-Exit.is (take-part c.take_exit.result _ _ c.args.self.now c.take_exit.new.self _ c.take_exit.ensures (same-exit c.in-Exit.name c.args.self.now))

pub returns-in-Arc : goal.returns-in-Arc
returns-in-Arc c = rw c.in-Arc.is (take-part c.take_arc.result _ _ c.args.self.now c.take_arc.new.self _ c.take_arc.ensures (same-arc c.in-Arc.from c.in-Arc.to c.in-Arc.travel c.in-Arc.rate c.args.self.now))

pub returns-in-Window : goal.returns-in-Window
returns-in-Window c = rw c.in-Window.is (take-part c.take_window.result _ _ c.args.self.now c.take_window.new.self _ c.take_window.ensures (same-window c.in-Window.from c.in-Window.to c.in-Window.first c.in-Window.until c.args.self.now))

pub returns-in-Entrant : goal.returns-in-Entrant
returns-in-Entrant c = rw c.in-Entrant.is (take-part c.take_entrant.result _ _ c.args.self.now c.take_entrant.new.self _ c.take_entrant.ensures (same-entrant c.in-Entrant.name c.in-Entrant.moment c.in-Entrant.people c.args.self.now))
