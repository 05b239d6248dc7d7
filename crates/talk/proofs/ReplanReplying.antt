-- No line gets more than one block, and a line that is replied to is answered.
use Rattle.std.proofs.Common.{◌≡◌, ℕ, ◌+◌, ◌≤◌, Bool, true, false, ◌&&◌, nat_lt, List, Result, Ok, Err, sym, ap, ◌∙◌, subst, arith}
use Rattle.evac_law.specs.declared.model.Model.{Model}
use Rattle.line_io.specs.declared.outside.Sink.{Ghosts}
use Rattle.model_text.specs.declared.command.Command.{Command}
use Rattle.model_text.specs.declared.fault.TextFault.{TextFault}
use Rattle.building_table.specs.Names.{NameTable}
use Rattle.talk.proofs.SessionReplying.{reply-index}
use Rattle.talk.specs.ReplanDesks.{ReplanReaches}
use Rattle.talk.specs.ReplanTalks.{AdvancesTo, AsksSession, ReplanReplies, Replanned, RowOf, asks_of_people, bars_moment, request_of}
use Rattle.talk.specs.declared.replans.request.Request.{Request}
use Rattle.talk.specs.declared.replans.request.Request.TheVariants.{Advance, Session}
use Rattle.talk.specs.Speaking.{PutsReply, PutsSome, Speaking}
use Rattle.talk.specs.Talks.{Reply, says}

-- ---- no line gets more than one block

says-no-more : (s : Replanned) (text : List ℕ) (r : Reply Replanned) → r ≡ says s text → r.after.session.index ≤ s.session.index + 1
says-no-more s text r is = let e : r.after.session.index ≡ s.session.index = ap (λ (x : Reply Replanned). x.after.session.index) is in omega (arith, e)

advance-index : (line : ℕ) (s : Replanned) (p : ℕ) (barred : Bool) (r : Reply Replanned) → AdvancesTo line s p barred r → r.after.session.index ≤ s.session.index + 1
advance-index line s p true r h = says-no-more s _ r h
advance-index line s p false r h = omega (arith, h.next)

session-index : (names : NameTable) (line : ℕ) (s : Replanned) (c : Command) (late : Bool) (r : Reply Replanned) → AsksSession names line s c late r
    → r.after.session.index ≤ s.session.index + 1
session-index names line s c true r h = says-no-more s _ r h
session-index names line s c false r h =
    let e : r.after.session.index ≡ h.0.after.index = ap (λ (x : Reply Replanned). x.after.session.index) h.2 in omega (arith, e, reply-index names line s.session (Ok c) h.0 h.1)

row-index : (names : NameTable) (line : ℕ) (s : Replanned) (q : Result Request TextFault) (r : Reply Replanned) → RowOf names line s q r → r.after.session.index ≤ s.session.index + 1
row-index names line s (Err fault) r h = says-no-more s _ r h
row-index names line s (Ok (Advance p)) r h = advance-index line s p (bars_moment s p) r h
row-index names line s (Ok (Session c)) r h = session-index names line s c (nat_lt 0 s.moment && asks_of_people names c) r h

-- ---- a line that is replied to is answered

-- a line that asks for a command, by what was matched
pub asks_command : {r : Result Request TextFault} {q : Request} {c d : Command} → q ≡ Session c → c ≡ d → Ok q ≡ r → Ok (Session d) ≡ r
asks_command is named e = let P : Command → Result Request TextFault = λ x. Ok (Session x) in sym (ap P named) ∙ (sym (ap Ok is) ∙ e)

pub answers : {X : Type 0} {G : Ghosts X} (x y : Speaking NameTable Replanned X) (names : NameTable) (m : Model) (before line : ℕ) (text : List ℕ) (q : Result Request TextFault)
    → q ≡ request_of text → line ≡ before + 1 → ReplanReaches names m before x.kept x.state → PutsSome G (RowOf x.kept line x.state q) x y
    → (r : Reply Replanned) × ReplanReplies names line x.state text r × PutsReply G x r y × ReplanReaches names m line y.kept y.state
answers x y names m before line text q is at reaches h =
    let e = ap (λ (s : Replanned). s.session.index) h.2.state in
    let P : Result Request TextFault → Type 0 = λ z. RowOf x.kept line x.state z h.0 in
    let Q : NameTable → Type 0 = λ z. ReplanReplies z line x.state text h.0 in
    (h.0, subst Q reaches.0 (subst P is h.1), h.2, (h.2.kept ∙ reaches.0, omega (arith, row-index x.kept line x.state q h.0 h.1, e, reaches.1, at)))
