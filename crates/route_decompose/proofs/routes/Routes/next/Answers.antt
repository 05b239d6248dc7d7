use Rattle.std.proofs.Common.{subst}
use Rattle.route_decompose.specs.Routes.{IsUsedUp}
use Rattle.route_decompose.proofs.Handing.{hands_out, routes_on}
use Rattle.route_decompose.proofs.UsedUp.{nobody_left}
use Rattle.route_decompose.proofs.routes.Routes.next.Goals as goal

pub returns-in_default-clause-none : goal.returns-in_default-clause-none
returns-in_default-clause-none c =
    λ no. subst IsUsedUp c.self.view_is
    (record { none_left = nobody_left c.self.inside.store c.self.invariant.left c.in_default.ensures.none; none_wait = c.in_default.ensures.none })

pub invariant_of-self-2 : goal.invariant_of-self-2
invariant_of-self-2 c =
    let led = c.lead_out-people.ensures in
    let taken = c.take_start.ensures in
    routes_on c.take_start.new.self c.lead_out-people.new.trail c.starting.ensures.same c.self.invariant c.in-Some.ensures.some.0 c.in-Some.ensures.some.2
    led.led led.room led.some c.start-most.ensures led.emptied taken.model taken.left taken.holds taken.less

pub returns-clause-route : goal.returns-clause-route
returns-clause-route c =
    λ yes.
    let led = c.lead_out-people.ensures in
    let taken = c.take_start.ensures in
    rw (← c.self.view_is)
    (hands_out c.take_start.new.self c.lead_out-people.new.trail c.starting.ensures.same c.self.invariant c.in-Some.ensures.some.0 c.in-Some.ensures.some.2
    led.led led.room led.some c.start-most.ensures led.emptied taken.model taken.left taken.holds taken.less _)
