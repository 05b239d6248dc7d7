-- Whatever plans, labels, routes and cuts are chosen: sessions over the same lines have the same models, indexes, last moments and people out.
use Rattle.std.specs.Prelude.{Bool, true, false, if◌then◌else◌, nat_lt}
use Rattle.std.proofs.Common.{◌≡◌, ℕ, ◌+◌, List, [], ◌∷◌, Ok, Err, Result, refl, sym, ap, ◌∙◌, subst, inl, inr, take}
use Rattle.evac_law.specs.declared.edit.Edit.{Edit}
use Rattle.evac_law.specs.declared.edit.EditFault.{EditFault}
use Rattle.evac_law.specs.declared.model.Model.{Model}
use Rattle.evac_law.specs.Certificates.{IsCertified, IsClearable}
use Rattle.evac_law.specs.Edits.{applied}
use Rattle.evac_law.specs.Plans.{out_by}
use Rattle.building_table.specs.declared.faults.NameFault.{NameFault}
use Rattle.building_table.specs.Names.{NameTable}
use Rattle.building_table.specs.EditNames.{edit_named}
use Rattle.edit_session.specs.Sessions.{IsSolved, kept_limit, with_former}
use Rattle.model_text.specs.declared.command.Command.{Command}
use Rattle.model_text.specs.declared.command.Command.TheVariants as commands
use Rattle.model_text.specs.declared.command.Report.{Report}
use Rattle.model_text.specs.declared.command.Report.TheVariants.{Routes, Clearing, Bottlenecks, Summary}
use Rattle.model_text.specs.declared.fault.TextFault.{TextFault}
use Rattle.model_text.specs.Commands.{command_of}
use Rattle.talk.specs.Sessions.{Advances, AsksEdit, Edits, Opens, Replies, Reports, State, StaysBefore, Undoes, cut_reply, session}
use Rattle.talk.specs.Talks.{RepliesTo, Reply, says}
use Rattle.talk.specs.SessionLaws.{AreAlike, EditsApart, SessionsAgree}
use Rattle.evac_law.proofs.Optimal.{certified_plans_agree, certified_is_clearable}

-- two states of one model, each solved, with the same index and the same models before
alike : (a b : State) → a.index ≡ b.index → a.standing.model ≡ b.standing.model → a.standing.former ≡ b.standing.former → IsSolved a.standing → IsSolved b.standing → AreAlike a b
alike a b index models former h g =
    let x = a.standing in
    let y = b.standing in
    let P : Model → Type 0 = λ m. IsCertified m y.plan y.labels y.last in
    let both = certified_plans_agree x.model x.plan y.plan x.labels y.labels x.last y.last h.valid h.certified (subst P (sym models) g.certified) in
    record { index = index; model = models; former = former; last = both.0; outs = λ k. both.1 k ∙ ap (λ m. out_by m y.plan k) models }

advances : (s t : State) (m n : Model) (before after : List Model) (r q : Reply State) → AreAlike s t → m ≡ n → before ≡ after
    → Advances s m before r → Advances t n after q → AreAlike r.after q.after
advances s t m n before after r q same e f h g =
    alike r.after q.after (h.next ∙ ap (λ i. i + 1) same.index ∙ sym g.next) (h.goes_on.gone ∙ e ∙ sym g.goes_on.gone) (h.goes_on.kept ∙ f ∙ sym g.goes_on.kept)
    h.goes_on.solved g.goes_on.solved

-- nothing changed
stays : (s t : State) (a b : State) → AreAlike s t → a ≡ s → b ≡ t → AreAlike a b
stays s t a b same e f = let P : State → Type 0 = λ c. AreAlike c b in let Q : State → Type 0 = λ c. AreAlike s c in subst P (sym e) (subst Q (sym f) same)

said : (s t : State) (u v : List ℕ) (r q : Reply State) → AreAlike s t → r ≡ says s u → q ≡ says t v → AreAlike r.after q.after
said s t u v r q same e f = stays s t r.after q.after same (ap (λ (a : Reply State). a.after) e) (ap (λ (a : Reply State). a.after) f)

apart : (s t : State) (m n : Model) (earlier : List Model) (line : ℕ) (r q : Reply State) → m ≡ n → Advances s m earlier r
    → StaysBefore t n line q → ⊥
apart s t m n earlier line r q e h g =
    let x = r.after.standing in
    g.short.barred_by.not_clearable (subst IsClearable (h.goes_on.gone ∙ e) (certified_is_clearable x.model x.plan x.labels x.last h.goes_on.solved.valid h.goes_on.solved.certified))

with_former_same : (s t : State) → AreAlike s t → with_former s.standing ≡ with_former t.standing
with_former_same s t same =
    ap (λ (m : Model). take kept_limit (m ∷ s.standing.former)) same.model ∙ ap (λ (l : List Model). take kept_limit (t.standing.model ∷ l)) same.former

-- an edit
edits : (line : ℕ) (s t : State) (made : Result (Model × Edit) EditFault) (r q : Reply State) → AreAlike s t
    → Edits line s made r → Edits line t made q → AreAlike r.after q.after
edits line s t (Err fault) r q same h g = said s t _ _ r q same h g
edits line s t (Ok m) r q same (inl h) (inl g) =
    advances s t m.0 m.0 (with_former s.standing) (with_former t.standing) r q same refl (with_former_same s t same) h g
edits line s t (Ok m) r q same (inl h) (inr g) = absurd (apart s t m.0 m.0 (with_former s.standing) line r q refl h g)
edits line s t (Ok m) r q same (inr h) (inl g) = absurd (apart t s m.0 m.0 (with_former t.standing) line q r refl g h)
edits line s t (Ok m) r q same (inr h) (inr g) = stays s t r.after q.after same h.same g.same

named : (line : ℕ) (s t : State) (named : Result Edit NameFault) (r q : Reply State) → AreAlike s t
    → AsksEdit line s named r → AsksEdit line t named q → AreAlike r.after q.after
named line s t (Err fault) r q same h g = said s t _ _ r q same h g
named line s t (Ok e) r q same h g =
    let P : Model → Type 0 = λ m. Edits line t (applied m e) q in edits line s t (applied s.standing.model e) r q same h (subst P (sym same.model) g)

-- an undo
undoes : (line : ℕ) (s t : State) (former : List Model) (r q : Reply State) → AreAlike s t → Undoes line s former r → Undoes line t former q
    → AreAlike r.after q.after
undoes line s t [] r q same h g = said s t _ _ r q same h g
undoes line s t (m ∷ earlier) r q same h g = advances s t m m earlier earlier r q same refl refl h g

either : (b : Bool) (s : State) (x y : Reply State) → x.after ≡ s → y.after ≡ s → (if b then x else y).after ≡ s
either true s x y e f = e
either false s x y e f = f

-- the cut of a period leaves the state
pub cut_stays : (line : ℕ) (s : State) (k : ℕ) → (cut_reply line s k).after ≡ s
cut_stays line s k = either (nat_lt s.standing.model.horizon k) s _ _ refl refl

-- a report
reports : (names : NameTable) (s t : State) (report : Report) (r q : Reply State) → AreAlike s t → Reports names s report r → Reports names t report q
    → AreAlike r.after q.after
reports names s t Routes r q same h g = said s t h.0 g.0 r q same h.2 g.2
reports names s t Clearing r q same h g = said s t _ _ r q same h g
reports names s t Bottlenecks r q same h g = said s t _ _ r q same h g
reports names s t Summary r q same h g = said s t h.0 g.0 r q same h.2 g.2

-- a line
pub one_line : (names : NameTable) (line : ℕ) (s t : State) (c : Result Command TextFault) (r q : Reply State) → AreAlike s t
    → Replies names line s c r → Replies names line t c q → AreAlike r.after q.after
one_line names line s t (Err fault) r q same h g = said s t _ _ r q same h g
one_line names line s t (Ok commands.Blank) r q same h g = said s t _ _ r q same h g
one_line names line s t (Ok (commands.Edit edit)) r q same h g = named line s t (edit_named names edit) r q same h g
one_line names line s t (Ok commands.Undo) r q same h g =
    let P : List Model → Type 0 = λ l. Undoes line t l q in undoes line s t s.standing.former r q same h (subst P (sym same.former) g)
one_line names line s t (Ok (commands.Cut k)) r q same h g =
    stays s t r.after q.after same (ap (λ (a : Reply State). a.after) h ∙ cut_stays line s k) (ap (λ (a : Reply State). a.after) g ∙ cut_stays line t k)
one_line names line s t (Ok (commands.Report report)) r q same h g = reports names s t report r q same h g
one_line names line s t (Ok commands.Work) r q same h g = said s t _ _ r q same h g
one_line names line s t (Ok commands.Quit) r q same h g = absurd h

-- all lines
pub all_lines : (names : NameTable) (m : Model) (before : ℕ) (s t : State) (lines : List (List ℕ)) (r q : Reply State) → AreAlike s t
    → RepliesTo (session names m).Gets before s lines r → RepliesTo (session names m).Gets before t lines q → AreAlike r.after q.after
unfolding RepliesTo
all_lines names m before s t [] r q same h g = said s t _ _ r q same h g
all_lines names m before s t (line ∷ lines) r q same h g =
    let first = one_line names (before + 1) s t (command_of line) h.0 g.0 same h.1 g.1 in
    let more = all_lines names m (before + 1) h.0.after g.0.after lines h.2.0 g.2.0 first h.2.1 g.2.1 in
    stays h.2.0.after g.2.0.after r.after q.after more (ap (λ (a : Reply State). a.after) h.2.2) (ap (λ (a : Reply State). a.after) g.2.2)

-- an opening
openings : (m : Model) (r q : Reply State) → Opens m r → Opens m q → AreAlike r.after q.after
openings m r q h g =
    alike r.after q.after (h.first ∙ sym g.first) (h.begins.begun ∙ sym g.begins.begun) (h.begins.none_former ∙ sym g.begins.none_former) h.begins.solved g.begins.solved

pub sessions_agree : SessionsAgree
sessions_agree names m before lines r q h g =
    let first = openings m h.opening g.opening h.opens g.opens in
    let more = all_lines names m before h.opening.after g.opening.after lines h.more g.more first h.replies g.replies in
    stays h.more.after g.more.after r.after q.after more (ap (λ (a : Reply State). a.after) h.all) (ap (λ (a : Reply State). a.after) g.all)

pub edits_apart : EditsApart
edits_apart s m earlier line r q h g = apart s s m m earlier line r q refl h g
