use Rattle.residual_net.proofs.Begin.{empty_kept}
use Rattle.residual_net.proofs.net.Net.new.Goals as goal

pub invariant_of-result : goal.invariant_of-result
invariant_of-result c =
    rw c.people-supplies.ensures
    (empty_kept c.args.model.now c.in_ok-grid.grid c.in_ok-arrivals.arrivals.items c.in_ok-saved_arrivals.saved_arrivals.items c.requires c.in_ok-grid.ensures
    (c.in_ok-arrivals.ensures.items_if_clones_equal (λ y h. h)) (c.in_ok-saved_arrivals.ensures.items_if_clones_equal (λ y h. h)))
