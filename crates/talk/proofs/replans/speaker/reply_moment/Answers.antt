use Rattle.std.proofs.Common.{◌≡◌, ℕ, Err, refl, arith, subst}
use Rattle.replan.specs.declared.faults.AdvanceFault.{AdvanceFault}
use Rattle.talk.proofs.Back.{back}
use Rattle.talk.specs.declared.replans.speaker.ReplanTalk.{ReplanTalk}
use Rattle.talk.specs.ReplanTalking.{TalkAdvances}
use Rattle.talk.proofs.Advancing.{advance_said, barred_said}
use Rattle.talk.proofs.ReplanGoing.{served_same}
use Rattle.talk.proofs.replans.speaker.reply_moment.Goals as goal

-- what carrying a plan out came to, by its fault
by-fault : (t t' : ReplanTalk) (p n : ℕ) (why named : AdvanceFault) → why ≡ named → TalkAdvances t p (Err why) t' n → TalkAdvances t p (Err named) t' n
by-fault t t' p n why named is h = let P : AdvanceFault → Type 0 = λ f. TalkAdvances t p (Err f) t' n in subst P is h

pub returns-in-Ok-clause-says : goal.returns-in-Ok-clause-says
returns-in-Ok-clause-says g c =
    let e = c.in-Ok.ensures in
    let text = c.put_advanced.ensures in
    λ before. advance_said back c.args.line c.args.moment text.0 e.0 c.args.steps.now _ c.args.talk.now c.advance.new.self _ _ before c.requires.line e.2.0 e.2.1 e.2.2 e.1
    text.1 text.2

pub returns-in-Err-BadMoment-clause-says : goal.returns-in-Err-BadMoment-clause-says
returns-in-Err-BadMoment-clause-says g c =
    let e = c.in-Err-BadMoment.ensures in
    let h = by-fault c.args.talk.now c.advance.new.self c.args.moment e.0 c.in-Err-BadMoment.field-0 _ c.in-Err-BadMoment.field-0-is e.2 in
    λ before. barred_said c.args.line _ c.args.moment e.0 c.args.steps.now _ c.args.talk.now c.advance.new.self _ _ h.0 h.1 h.2 h.3 e.1 refl c.put_refusal.ensures

pub returns-in-Err-BadMoment-clause-desk : goal.returns-in-Err-BadMoment-clause-desk
returns-in-Err-BadMoment-clause-desk g c =
    let e = c.in-Err-BadMoment.ensures in
    let h = by-fault c.args.talk.now c.advance.new.self c.args.moment e.0 c.in-Err-BadMoment.field-0 _ c.in-Err-BadMoment.field-0-is e.2 in
    served_same c.args.talk.now c.advance.new.self h.1 h.2 c.requires.desk

pub returns-in-Err-Memory-clause-says : goal.returns-in-Err-Memory-clause-says
returns-in-Err-Memory-clause-says g c =
    let e = c.in-Err-Memory.ensures in
    let h = by-fault c.args.talk.now c.advance.new.self c.args.moment e.0 c.in-Err-Memory.field-0 _ c.in-Err-Memory.field-0-is e.2 in
    λ before. (h.0, record { kept = h.1; writer = refl; steps = omega (arith, e.1) })
