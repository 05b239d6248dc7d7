-- What a replan does at a line.
use Rattle.std.specs.Prelude.{◌≡◌, ℕ, ◌≤◌, Bool, true, false, List, Result, Ok, Err}
use Rattle.evac_law.specs.declared.model.Model.{Model}
use Rattle.evac_law.specs.declared.code.Code.TheVariants.{Committed}
use Rattle.evac_law.specs.declared.edit.Edit.{Edit}
use Rattle.evac_law.specs.Edits.{applied}
use Rattle.line_io.specs.declared.outside.Sink.{Ghosts}
use Rattle.line_io.specs.declared.writer.Writer.{Writer}
use Rattle.building_table.specs.Names.{NameTable}
use Rattle.replan.specs.Replans.{ReplanView}
use Rattle.talk.specs.SessionDesks.{DeskView, desk_state}
use Rattle.talk.specs.Sessions.{Edits, State}
use Rattle.talk.specs.ReplanTalks.{IsLastGone, Replanned, carried_on}
use Rattle.talk.specs.Speaking.{PutsNothing, PutsSome, Speaking, speaking}
use Rattle.talk.specs.Talks.{Reply, refuses}

-- where a replan is whose replies are made on a desk
abbrev pub replanned : DeskView → ReplanView → Replanned
replanned d v = record { session = desk_state d v.session; moment = v.moment; gone = v.gone }

-- what is shown of a desk and a replan
abbrev pub shown_replan : {X : Type 0} → DeskView → ReplanView → Writer X → ℕ → Speaking NameTable Replanned X
shown_replan d v writer steps = speaking d.names (replanned d v) writer steps

-- the first moment by which as many are out as by the horizon
abbrev pub IsLastOut : ReplanView → ℕ → Type 0
IsLastOut v moment = IsLastGone v.gone v.session.state.model.horizon moment

-- a replan on a building keeps its names, and no more blocks are written than lines are answered
abbrev pub ReplanReaches : NameTable → Model → ℕ → NameTable → Replanned → Type 0
ReplanReaches names m before kept s = (kept ≡ names) × (s.session.index ≤ before)

-- ---- parts of a line's answer

-- an edit, by whether it comes too late
abbrev pub EditsUnless : ℕ → Replanned → Edit → Bool → Reply Replanned → Type 0
EditsUnless line s e true r = r ≡ refuses s Committed line
EditsUnless line s e false r = (q : Reply State) × Edits line s.session (applied s.session.standing.model e) q × (r ≡ carried_on s q)

-- one of these replies was put; or there was no memory, and nothing was put
abbrev pub AnswersSome : {N S X E : Type 0} → Ghosts X → (Reply S → Type 0) → Type 0 → Result (Unit {0}) E → Speaking N S X → Speaking N S X → Type 0
AnswersSome g Gets Lacks (Ok done) s s' = PutsSome g Gets s s'
AnswersSome g Gets Lacks (Err fault) s s' = Lacks × PutsNothing s s'
