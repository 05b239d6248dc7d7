-- The rows of a session come after those of a replan.
use Rattle.std.proofs.Common.{◌≡◌, ℕ, Bool, true, false, ◌&&◌, nat_lt, Result, Ok, Err, refl, sym, ap, ◌∙◌, subst}
use Rattle.std.proofs.Math.Bool.{and-false}
use Rattle.evac_law.specs.declared.code.Code.TheVariants as codes
use Rattle.evac_law.specs.declared.edit.Edit.{Edit}
use Rattle.evac_law.specs.Edits.{applied}
use Rattle.model_text.specs.declared.command.Command.{Command}
use Rattle.model_text.specs.declared.command.Command.TheVariants as commands
use Rattle.model_text.specs.declared.named_edit.NamedEdit.{NamedEdit}
use Rattle.building_table.specs.declared.faults.NameFault.{NameFault}
use Rattle.building_table.specs.Built.{name_code}
use Rattle.building_table.specs.EditNames.{edit_named}
use Rattle.building_table.specs.Names.{NameTable}
use Rattle.replan.specs.Replans.{is_of_people}
use Rattle.talk.specs.Sessions.{AsksEdit, Edits, Replies}
use Rattle.talk.specs.ReplanDesks.{EditsUnless}
use Rattle.talk.specs.ReplanTalks.{AsksSession, Replanned, SessionRow, asks_of_people, is_named_of_people}
use Rattle.talk.proofs.Carrying.{Carries}
use Rattle.talk.specs.Talks.{Reply, refuses}

-- ---- a row by whether it comes too late

free-row : (names : NameTable) (line : ℕ) (s : Replanned) (c : Command) (people : Bool) (r : Reply Replanned) → people ≡ false → Carries s (Replies names line s.session (Ok c)) r
    → AsksSession names line s c (nat_lt 0 s.moment && people) r
free-row names line s c people r none h =
    let P : Bool → Type 0 = λ b. AsksSession names line s c b r in subst P (sym (ap (λ (b : Bool). nat_lt 0 s.moment && b) none ∙ and-false (nat_lt 0 s.moment))) h

-- a line that is no edit of people gets what a session says
pub session_row : (names : NameTable) (line : ℕ) (s : Replanned) (c : Command) → asks_of_people names c ≡ false → (r : Reply Replanned)
    → Carries s (Replies names line s.session (Ok c)) r → SessionRow names line s c r
session_row names line s c none r h = free-row names line s c (asks_of_people names c) r none h

-- ---- an edit by names, by what they name

edit-row : (names : NameTable) (line : ℕ) (s : Replanned) (c : NamedEdit) (late : Bool) (e : Edit) (r : Reply Replanned) → edit_named names c ≡ Ok e → EditsUnless line s e late r
    → AsksSession names line s (commands.Edit c) late r
edit-row names line s c true e r named h = h
edit-row names line s c false e r named h =
    let P : Result Edit NameFault → Type 0 = λ x. AsksEdit line s.session x h.0 in (h.0, subst P (sym named) h.1, h.2)

pub named_row : (names : NameTable) (line : ℕ) (s : Replanned) (c : NamedEdit) (e : Edit) (made : Result Edit NameFault) → made ≡ Ok e → made ≡ edit_named names c → (r : Reply Replanned)
    → EditsUnless line s e (nat_lt 0 s.moment && is_of_people e) r → SessionRow names line s (commands.Edit c) r
named_row names line s c e made ok edit r h =
    let named : edit_named names c ≡ Ok e = sym edit ∙ ok in
    let P : Result Edit NameFault → Type 0 = λ x. AsksSession names line s (commands.Edit c) (nat_lt 0 s.moment && is_named_of_people x) r in
    subst P (sym named) (edit-row names line s c (nat_lt 0 s.moment && is_of_people e) e r named h)

pub unknown_row : (names : NameTable) (line : ℕ) (s : Replanned) (c : NamedEdit) (fault : NameFault) (made : Result Edit NameFault) → made ≡ Err fault → made ≡ edit_named names c
    → SessionRow names line s (commands.Edit c) (refuses s (name_code fault) line)
unknown_row names line s c fault made err edit =
    let named : edit_named names c ≡ Err fault = sym edit ∙ err in
    let q = refuses s.session (name_code fault) line in
    let P : Result Edit NameFault → Type 0 = λ x. AsksEdit line s.session x q in
    session_row names line s (commands.Edit c) (ap is_named_of_people named) (refuses s (name_code fault) line) (q, subst P (sym named) refl, refl)

-- an edit that doesn't come too late, and one that does
pub edits_now : (line : ℕ) (s : Replanned) (e : Edit) (late : Bool) → late ≡ false → (r : Reply Replanned) → Carries s (Edits line s.session (applied s.session.standing.model e)) r → EditsUnless line s e late r
edits_now line s e late free r h = let P : Bool → Type 0 = λ b. EditsUnless line s e b r in subst P (sym free) h

pub edits_late : (line : ℕ) (s : Replanned) (e : Edit) (late : Bool) (r : Reply Replanned) → late ≡ true → r ≡ refuses s codes.Committed line → EditsUnless line s e late r
edits_late line s e late r is h = let P : Bool → Type 0 = λ b. EditsUnless line s e b r in subst P (sym is) h
