use Rattle.std.proofs.Common.{◌≡◌, ap, sym, ◌∙◌}
use Rattle.std.proofs.lemmas.Bool.{eqb-true, eq-eqb}
use Rattle.residual_net.specs.Network.{arrived_by}
use Rattle.residual_net.proofs.LastArrival.{arrived_by_last, last_by_arrived}
use Rattle.terminal_augment.proofs.all_out.are_all_out.Goals as goal

pub returns-then-is_all_sent : goal.returns-then-is_all_sent
returns-then-is_all_sent c =
    let w = c.args.net.now in
    let net = c.shape.ensures.net in
    let early : c.arrived.result ≡ arrived_by w c.args.k = c.arrived.ensures in
    let last : c.horizon-horizon.result ≡ w.site.shape.horizon = rw c.shape.ensures.shape at c.horizon-horizon.ensures in
    let all : c.arrived-then-is_all_sent.result ≡ arrived_by w w.site.shape.horizon = c.arrived-then-is_all_sent.ensures ∙ ap (arrived_by w) last in (
      λ t. record {
        sent = c.is_all_sent.ensures.0 c.if-is_all_sent.true;
        last = last_by_arrived w net c.args.k (sym early ∙ eqb-true c.arrived.result c.arrived-then-is_all_sent.result t ∙ all);
      },
      λ o. eq-eqb c.arrived.result c.arrived-then-is_all_sent.result (early ∙ arrived_by_last w net c.args.k o.last ∙ sym all),
    )
