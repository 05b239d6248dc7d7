use Rattle.std.proofs.Common.{◌≡◌, ◌+◌, ◌∙◌, ◌++◌, [], ◌∷◌, ap, append_assoc, append-nil, arith, codes, length, refl, subst, sym}
use Rattle.line_io.proofs.WriterLemmas.{writes_is, writes_then}
use Rattle.cards.specs.Cards.{CardView}
use Rattle.cards.proofs.Given.{all_given_fair, none_given, one_more}
use Rattle.report_text.specs.Parts.{IsCardIn}
use Rattle.report_text.specs.ReportText.{card_lines, cards_from, cards_text, number_line}
use Rattle.report_text.proofs.CardParts.{cards_one, few_given, next_in}
use Rattle.report_text.proofs.person_cards.put_cards.Goals as goal

pub loop-number-init : goal.loop-number-init
loop-number-init g c =
    let head = number_line (codes "cards") c.args.index in (
      [],
      none_given c.args.model.now (g.F.Standing.stand c.args.standing.now).plan c.begin.new.self c.begin.ensures,
      writes_is (ap (number_line (codes "cards")) c.from.ensures ∙ sym (append-nil head)) c.put_number.ensures,
      sym c.begin.ensures.none_given,
    )

pub overflow_add-number : goal.overflow_add-number
overflow_add-number g c =
    let h = c.loop-number.invariant in
    let few = few_given c.args.model.now (g.F.Standing.stand c.args.standing.now).plan h.0 c.loop-number.cards c.next.new.self c.requires.stands.valid h.1
    (c.next.ensures.card c.loop-number-test.true) in
    omega (arith, few.1, h.3)

pub put_card-requires-clause-card : goal.put_card-requires-clause-card
put_card-requires-clause-card g c =
    let h = c.loop-number.invariant in
    let m = c.args.model.now in
    subst (λ (x : CardView). IsCardIn m x) (sym c.card.ensures)
    (next_in m (g.F.Standing.stand c.args.standing.now).plan h.0 c.loop-number.cards c.next.new.self h.1 (c.next.ensures.card c.loop-number-test.true))

pub loop-number-preserved : goal.loop-number-preserved
loop-number-preserved g c =
    let m = c.args.model.now in
    let p = (g.F.Standing.stand c.args.standing.now).plan in
    let h = c.loop-number.invariant in
    let w = c.loop-number.cards in
    let v = c.next.new.self in
    let next = c.next.ensures.card c.loop-number-test.true in
    let head = number_line (codes "cards") c.args.index in
    let same : c.loop-number.number + 1 ≡ 1 + length h.0 = omega (arith, h.3, h.1.count) in
    let line : head ++ cards_from m 1 h.0 ++ card_lines m (c.loop-number.number + 1) c.card.result ≡ head ++ cards_from m 1 (h.0 ++ v.card ∷ []) =
    ap (λ r. head ++ cards_from m 1 h.0 ++ card_lines m (c.loop-number.number + 1) r) c.card.ensures
    ∙ ap (λ i. head ++ cards_from m 1 h.0 ++ card_lines m i v.card) same
    ∙ append_assoc head (cards_from m 1 h.0) (card_lines m (1 + length h.0) v.card)
    ∙ ap (λ l. head ++ l) (sym (cards_one m 1 h.0 v.card)) in (
      h.0 ++ v.card ∷ [],
      one_more m p h.0 w v h.1 next,
      writes_is line (writes_then h.2 c.put_card.ensures),
      omega (arith, h.3, next.one_more),
    )

pub returns-clause-text : goal.returns-clause-text
unfolding cards_text
returns-clause-text g c =
    let m = c.args.model.now in
    let p = (g.F.Standing.stand c.args.standing.now).plan in
    let h = c.loop-number.invariant in (
      cards_text c.args.index m h.0,
      record { cards = h.0; fair = all_given_fair m p h.0 c.loop-number.cards h.1 (c.next.ensures.none c.loop-number-test.false); says = refl },
      writes_then h.2 c.put_end.ensures,
    )

pub returns-clause-model : goal.returns-clause-model
returns-clause-model g c = grind arith
