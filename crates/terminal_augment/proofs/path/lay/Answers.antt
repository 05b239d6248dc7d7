use Rattle.std.proofs.Common.{◌++◌, ◌∷◌, [], ◌<◌, ◌≤◌, ap, append_assoc, arith, length, length-append, min, subst, sym, ◌∙◌}
use Rattle.std.proofs.lemmas.List.Elements.{All-append}
use Rattle.residual_net.specs.declared.place.PathStep.{PathStep}
use Rattle.residual_net.specs.Network.{residual_room}
use Rattle.terminal_augment.specs.declared.spot.Met.{Met}
use Rattle.terminal_augment.proofs.ChainLemmas.{way_over, way_past}
use Rattle.terminal_augment.proofs.SpotLemmas.{all_cons}
use Rattle.terminal_augment.proofs.path.lay.Goals as goal
use Rattle.terminal_augment.proofs.path.lay.Goals.{then-is_at, else-is_at}

pub loop-number-preserved : goal.loop-number-preserved
loop-number-preserved c =
    let old = c.loop-number.invariant in
    let w = c.args.net.now in
    let ms = c.args.queue.now.list in
    let i = c.loop-number.number in
    let past = c.loop-number.path.steps in
    let met = c.from_back.result in
    let few : i < length ms = omega (arith, c.loop-number-test.true, c.len-number-end.ensures) in
    elim c.if-is_at.branch [
      | then-is_at b ↦
          let least = min c.loop-number.people (residual_room w met.step) in
          let way = way_over w.site c.loop-number.end ms i few c.from_back.ensures (sym c.is_at.ensures ∙ b.if-is_at.true) in
          let some = subst (λ (m : Met). 0 < residual_room w m.step) (sym c.from_back.ensures) (c.requires.met i met few).1 in
          rw (b.path-is, b.people-is, b.end-is, b.add-then-is_at.ensures, b.stop-end-then-is_at.ensures, b.min-people.ensures, b.room.ensures) (record {
            space = old.space;
            few = omega (arith, old.few, length-append past (met.step ∷ []));
            way = rw append_assoc (ap (λ z. past ++ z) (sym way) ∙ old.way);
            some = omega (arith, old.some, some);
            room = All-append (λ (y : PathStep). least ≤ residual_room w y) past (met.step ∷ []) (λ j d l. omega (arith, old.room j d l))
                (all_cons (λ (y : PathStep). least ≤ residual_room w y) met.step [] (omega arith) (λ j d l. absurd (omega (arith, l))));
          })
      | else-is_at b ↦
          let way = way_past w.site c.loop-number.end ms i few c.from_back.ensures (sym c.is_at.ensures ∙ b.if-is_at.false) in
          rw (b.path-is, b.people-is, b.end-is) (record {
            space = old.space;
            few = omega (arith, old.few);
            way = ap (λ z. past ++ z) (sym way) ∙ old.way;
            some = old.some;
            room = old.room;
          })
    ]
