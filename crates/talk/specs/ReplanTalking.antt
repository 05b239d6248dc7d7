-- What carrying out a replan's plan comes to, with the desk at which its replies are made.
use Rattle.std.specs.Prelude.{◌≡◌, ℕ, ◌+◌, ◌<◌, ◌^◌, Result, Ok, Err, IsTrue, IsFalse}
use Rattle.replan.specs.declared.faults.AdvanceFault.{AdvanceFault}
use Rattle.replan.specs.declared.faults.AdvanceFault.TheVariants.{BadMoment, Memory}
use Rattle.replan.specs.Replans.{IsAdvanced}
use Rattle.talk.specs.SessionDesks.{IsDesk}
use Rattle.talk.specs.declared.replans.speaker.ReplanTalk.{ReplanTalk}
use Rattle.talk.specs.ReplanDesks.{replanned}
use Rattle.talk.specs.ReplanTalks.{bars_moment}

-- the plan is carried out up to a moment, the desk serves what is left, and its block is counted
pub record GoesUpTo (t : ReplanTalk) (p : ℕ) (t' : ReplanTalk) : Type 0 where
  pub advanced : IsAdvanced t.replan p t'.replan
  pub names_same : t'.desk.names ≡ t.desk.names
  pub next : t.desk.index + 1 < 2 ^ 32 → t'.desk.index ≡ t.desk.index + 1
  pub serves : IsDesk t'.desk t'.replan.session

-- or the moment is barred, with all as it was, or there is no memory
abbrev pub TalkAdvances : ReplanTalk → ℕ → Result (Unit {0}) AdvanceFault → ReplanTalk → ℕ → Type 0
TalkAdvances t p (Ok done) t' steps =
    IsFalse (bars_moment (replanned t.desk t.replan) p) × GoesUpTo t p t' × (steps ≡ t'.replan.session.state.work.pushes)
TalkAdvances t p (Err BadMoment) t' steps =
    IsTrue (bars_moment (replanned t.desk t.replan) p) × (t'.desk ≡ t.desk) × (t'.replan ≡ t.replan) × (steps ≡ 0)
TalkAdvances t p (Err Memory) t' steps = IsFalse (bars_moment (replanned t.desk t.replan) p) × (t'.desk.names ≡ t.desk.names)
