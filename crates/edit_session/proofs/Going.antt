-- How what a session keeps goes on, and what its calls come to.
use Rattle.std.proofs.Common.{◌≡◌, ℕ, ◌+◌, List, [], ◌∷◌, take, drop, Some, None, slice_get, refl, ap, ap₂, sym, ◌∙◌, subst, Result, Ok, Err, IfOk, IfErr, OnErr}
use Rattle.evac_law.specs.declared.edit.Edit.{Edit}
use Rattle.evac_law.specs.declared.edit.EditFault.{EditFault}
use Rattle.evac_law.specs.declared.model.Model.{Model}
use Rattle.evac_law.specs.Building.{IsValid}
use Rattle.evac_law.specs.Edits.{IsEditOf, applied, edited, inverse_of}
use Rattle.evac_law.proofs.EditLemmas.{inverse_undoes}
use Rattle.evac_law.specs.LabelTable.{LabelTable}
use Rattle.evac_law.specs.Certificates.{IsTableOf}
use Rattle.residual_net.specs.Labelled.{IsClosedBelow, IsLabelsOf}
use Rattle.residual_net.specs.Network.{Network, IsNet, IsWithinLimits, flow_at, saved_of, with_saved}
use Rattle.residual_net.proofs.Kept.{same_saved}
use Rattle.residual_net.specs.OfModel.{IsNetOf, site_of}
use Rattle.residual_net.proofs.SentLemmas.{arrived_all_sent}
use Rattle.terminal_augment.specs.Settled.{KeepsLimits}
use Rattle.lex_flow.specs.Outcomes.{IsCleared}
use Rattle.terminal_augment.proofs.KeptLemmas.{net_of_kept}
use Rattle.residual_net.specs.Site.{Site}
use Rattle.edit_session.specs.declared.faults.EditRefusal.{EditRefusal}
use Rattle.edit_session.specs.declared.faults.EditRefusal.TheVariants.{Fault, NotCleared}
use Rattle.edit_session.specs.declared.scratch.Scratch.{Scratch}
use Rattle.edit_session.specs.declared.work.Work.{Work}
use Rattle.edit_session.specs.Kept.{IsSession, LeadBack, state_of, view_of}
use Rattle.edit_session.specs.Making.{IsMade}
use Rattle.edit_session.specs.Mended.{IsCarried, IsRefused, IsRepairable, IsScratchOf, IsStanding, last_arrival_of}
use Rattle.edit_session.specs.Sessions.{EditEnds, IsEdited, SessionState, SessionView, TrialEnds, UndoEnds, kept_limit}
use Rattle.edit_session.specs.Thrift.{IsCounted}
use Rattle.edit_session.proofs.Ring.{back_more, back_take, edited_is}
use Rattle.edit_session.proofs.Standing.{barred_by, clearable_by, edited_by, standing_saved, undone_by}

-- ---- the ring

pub first_kept : (ring : List Edit) (e : Edit) → slice_get ring 0 ≡ Some e → ring ≡ e ∷ drop 1 ring
first_kept [] e h = absurd (cc)
first_kept (x ∷ xs) e h = let same : x ≡ e = cc in ap (λ z. z ∷ xs) same

pub none_kept : (ring : List Edit) → slice_get ring 0 ≡ None → ring ≡ []
none_kept [] h = refl
none_kept (x ∷ xs) h = absurd (cc)

-- where an edit is known to lead to a model, it is made and leads there
pub made : (m m' m'' : Model) (e e' : Edit) (r : Result Edit EditFault) → applied m e ≡ Ok (m', e') → IfOk r (λ i. applied m e ≡ Ok (m'', i))
    → IfErr r (λ f. applied m e ≡ Err f) → m'' ≡ m'
made m m' m'' e e' (Ok i) h ok fault = (edited_is m m'' e i ok).0 ∙ sym (edited_is m m' e e' h).0
made m m' m'' e e' (Err f) h ok fault = absurd (cc)

-- a session by the first edit that it keeps, and the model to which that leads
pub session_kept : {m : Model} {w : Network} {l refused : LabelTable} {ring : List Edit} {room : ℕ} {x : Scratch} (e : Edit) → slice_get ring 0 ≡ Some e
    → IsSession m w l refused ring room x → IsSession m w l refused (e ∷ drop 1 ring) room x
session_kept {m} {w} {l} {refused} {ring} {room} {x} e h session =
    subst (λ (z : List Edit). IsSession m w l refused z room x) (first_kept ring e h) session

pub made_kept : {m : Model} {w : Network} {l refused : LabelTable} {ring : List Edit} {room : ℕ} {x : Scratch} {e : Edit} (n : Model) (r : Result Edit EditFault)
    → IsSession m w l refused (e ∷ ring) room x → IfOk r (λ i. applied m e ≡ Ok (n, i)) → IfErr r (λ f. applied m e ≡ Err f) → n ≡ edited m e
made_kept {m} {e} n r session ok fault = made m (edited m e) n e (inverse_of m e) r session.back.1 ok fault

-- the inverse of an edit that was made gives the model back
pub taken_back : {m : Model} (m' n : Model) (e e' : Edit) (r : Result Edit EditFault) → IsValid m → IsEditOf m e → applied m e ≡ Ok (m', e')
    → IfOk r (λ i. applied m' e' ≡ Ok (n, i)) → IfErr r (λ f. applied m' e' ≡ Err f) → n ≡ m
taken_back {m} m' n e e' r valid in_range accepted ok fault =
    made m' m n e' e r (inverse_undoes m m' e e' valid in_range accepted).1 ok fault

-- ---- a session begins

pub session_begun : {m : Model} {w u : Network} {l refused : LabelTable} (ring : List Edit) (room : ℕ) {x : Scratch} {moment : ℕ} → IsValid m → IsNet u
    → IsNetOf m w → KeepsLimits w u → IsWithinLimits u → IsCleared m u l moment → IsTableOf m l → IsClosedBelow u l (moment + 1) → IsTableOf m refused
    → ring ≡ [] → room ≡ kept_limit → IsScratchOf (site_of m) x → IsSession m u l refused ring room x
session_begun {m} {w} {u} {l} {refused} ring room {x} valid net of limits within cleared table closed refused_table none all_room scratch =
    let of_u = net_of_kept m w u limits of in
    record {
      standing = record {
        valid = valid;
        net = net;
        of = of_u;
        within = within;
        sent = arrived_all_sent m u valid net of_u within cleared.arrived;
        cleared = subst (λ (k : ℕ). IsCleared m u l k) cleared.last cleared;
        labels = in_site of_u.site l table;
        closed = subst (λ (k : ℕ). IsClosedBelow u l (k + 1)) cleared.last closed;
      };
      back = subst (λ (z : List Edit). LeadBack m z) (sym none) tt;
      refused_labels = in_site of_u.site refused refused_table;
      room = all_room;
      scratch = subst (λ (s : Site). IsScratchOf s x) (sym of_u.site) scratch;
    }
  where
    in_site : u.site ≡ site_of m → (k : LabelTable) → IsTableOf m k → IsLabelsOf u.site k
    in_site e k h = record { nodes = h.nodes ∙ ap (λ (s : Site). s.shape.nodes) (sym e); horizon = h.horizon ∙ ap (λ (s : Site). s.shape.horizon) (sym e) }

-- ---- an edit is made

-- scratch with other labels of the network
pub scratch_with : {s : Site} {x : Scratch} {l : LabelTable} → IsScratchOf s x → IsLabelsOf s l
    → IsScratchOf s (record { labels = l; search = x.search; path = x.path })
scratch_with h labels = record { labels = labels; search = h.search; room = h.room }

-- and with those of the plan before
pub scratch_after : {m m' : Model} {w v : Network} {l k : LabelTable} (y : LabelTable) {x : Scratch} {work : Work} → IsStanding m w l → IsCarried m' w v l k work → y ≡ l
    → IsScratchOf v.site x → IsScratchOf v.site (record { labels = y; search = x.search; path = x.path })
scratch_after {v} {l} y h done same scratch =
    scratch_with scratch
    (subst (λ (z : LabelTable). IsLabelsOf v.site z) (sym same) (subst (λ (s : Site). IsLabelsOf s l) (sym done.site) h.labels))

pub repairable : {m : Model} (m' : Model) (e e' : Edit) {w : Network} {l : LabelTable} → IsStanding m w l → IsEditOf m e → applied m e ≡ Ok (m', e')
    → IsRepairable m' e w l
repairable {m} m' e e' h in_range accepted = record { before = m; inverse = e'; in_range = in_range; edited = accepted; standing = h }

pub session_edited : {m m' : Model} (e e' : Edit) {w v : Network} {l k refused : LabelTable} {ring : List Edit} {room : ℕ} {x y : Scratch} {work : Work}
    → IsSession m w l refused ring room x → IsCarried m' w v l k work → IsScratchOf v.site y → IsEditOf m e → applied m e ≡ Ok (m', e')
    → IsSession m' v k refused (take room (e' ∷ ring)) room y
session_edited {m'} e e' {refused} {ring} {room} h done scratch in_range accepted = record {
  standing = done.standing;
  back = back_take room m' (e' ∷ ring) (back_more m' e e' ring h.standing.valid in_range accepted (clearable_by h.standing) h.back);
  refused_labels = subst (λ (s : Site). IsLabelsOf s refused) (sym done.site) h.refused_labels;
  room = h.room;
  scratch = scratch;
}

pub ends_edited : {m m' : Model} (e e' : Edit) {w v : Network} {l k refused : LabelTable} {ring : List Edit} {room : ℕ} {x : Scratch} (old : Work) {work : Work} (steps : ℕ)
    → IsSession m w l refused ring room x → IsCarried m' w v l k work → IsEditOf m e → applied m e ≡ Ok (m', e') → IsCounted work steps
    → EditEnds (view_of m w l refused ring old) e (Ok work) (view_of m' v k refused (take room (e' ∷ ring)) work) steps
ends_edited {m} {m'} e e' {w} {v} {l} {k} {ring} {room} old {work} steps h done in_range accepted counted =
    let made = edited_by e e' ring old h.standing done in_range accepted in (
      subst (λ z. IsEdited (state_of m w l ring old) e (state_of m' v k (take z (e' ∷ ring)) work)) (sym h.room) made,
      refl,
      refl,
      counted,
    )

-- ---- a net goes back to what was saved

-- a net with its flow and limits saved is no other state
state_saved : (m : Model) (w v : Network) (l : LabelTable) (ring : List Edit) (work : Work) → v ≡ with_saved w → state_of m v l ring work ≡ state_of m w l ring work
unfolding flow_at
state_saved m w v l ring work h = ap (λ (z : Network). state_of m z l ring work) h

state_back : (m n : Model) (w v : Network) (l : LabelTable) (ring : List Edit) (work : Work) → n ≡ m → v ≡ with_saved w
    → state_of n v l ring work ≡ state_of m w l ring work
state_back m n w v l ring work back h = ap (λ (z : Model). state_of z v l ring work) back ∙ state_saved m w v l ring work h

standing_back : {m : Model} (n : Model) {w : Network} (v : Network) {l : LabelTable} → IsStanding m w l → n ≡ m → v ≡ with_saved w → IsStanding n v l
standing_back {m} n v {l} h back same =
    subst (λ (z : Model). IsStanding z v l) (sym back) (subst (λ (z : Network). IsStanding m z l) (sym same) (standing_saved h))

-- ---- an edit is refused

standing_refused : {m : Model} (n : Model) (e : Edit) {w : Network} (v : Network) {l : LabelTable} (refused cut y : LabelTable) (why : EditRefusal) (steps : ℕ) → IsStanding m w l
    → IsMade m e w l refused (Err why) n v cut y steps → IsStanding n v l × (n ≡ m)
standing_refused {m} n e v {l} refused cut y (Fault fault) steps h made =
    (subst (λ (z : Model). IsStanding z v l) (sym made.1) (subst (λ (z : Network). IsStanding m z l) (sym made.2) h), made.1)
standing_refused n e v refused cut y (NotCleared all most) steps h made = (standing_back n v h made.back made.refused.net, made.back)

pub session_refused : {m : Model} (n : Model) (e : Edit) {w : Network} (v : Network) {l refused cut : LabelTable} {ring : List Edit} {room : ℕ} {x y : Scratch} (why : EditRefusal) (steps : ℕ)
    → IsSession m w l refused ring room x → IsMade m e w l refused (Err why) n v cut y.labels steps → IsLabelsOf v.site cut → IsScratchOf v.site y
    → IsSession n v l cut ring room y
session_refused n e v {refused} {cut} {ring} {room} {y} why steps h made labels scratch =
    let stands = standing_refused n e v refused cut y.labels why steps h.standing made in
    record {
      standing = stands.0;
      back = subst (λ (z : Model). LeadBack z ring) (sym stands.1) h.back;
      refused_labels = labels;
      room = h.room;
      scratch = scratch;
    }

pub ends_refused : (m n : Model) (e : Edit) (w v : Network) (l refused cut y : LabelTable) (ring : List Edit) (old : Work) (why : EditRefusal) (steps : ℕ)
    → IsMade m e w l refused (Err why) n v cut y steps → EditEnds (view_of m w l refused ring old) e (Err why) (view_of n v l cut ring old) steps
ends_refused m n e w v l refused cut y ring old (Fault fault) steps made = (
  made.0,
  ap (λ (z : Model). view_of z v l cut ring old) made.1
      ∙ ap₂ (λ (z : Network) (k : LabelTable). view_of m z l k ring old) made.2 made.3,
  made.4,
)
ends_refused m n e w v l refused cut y ring old (NotCleared all most) steps made = (
  barred_by m e made.inverse l ring old all steps made.valid made.count made.refused made.spent made.accepted,
  state_back m n w v l ring old made.back made.refused.net,
)

-- a refused edit leaves the state as it was
pub state_kept : (v v' : SessionView) (e : Edit) (r : Result Work EditRefusal) (steps : ℕ) → EditEnds v e r v' steps → OnErr r (v'.state ≡ v.state)
state_kept v v' e (Ok work) steps h = tt
state_kept v v' e (Err (Fault fault)) steps h = ap (λ (z : SessionView). z.state) h.1
state_kept v v' e (Err (NotCleared all most)) steps h = h.1

-- and so does a trial
pub trial_kept : (v v' : SessionView) (e : Edit) (r : Result ℕ EditRefusal) (steps : ℕ) → TrialEnds v e r v' steps → v'.state ≡ v.state
trial_kept v v' e (Ok last) steps h = ap (λ (z : SessionView). z.state) h.1
trial_kept v v' e (Err (Fault fault)) steps h = ap (λ (z : SessionView). z.state) h.1
trial_kept v v' e (Err (NotCleared all most)) steps h = h.1

-- ---- an edit is tried

-- what was saved is the net before
restored : {m : Model} {w v : Network} (u : Network) {old l : LabelTable} {work : Work} → IsCarried m w v old l work → u ≡ saved_of v → u ≡ with_saved w
restored {w} {v} u h is = is ∙ same_saved (with_saved w) v h.site h.saved

pub session_tried : {m m' : Model} (n : Model) {w v : Network} (u : Network) {l k refused cut : LabelTable} {ring : List Edit} {room : ℕ} {x y : Scratch} {work : Work}
    → IsSession m w l refused ring room x → IsCarried m' w v l k work → u ≡ saved_of v → n ≡ m → IsLabelsOf v.site cut → IsScratchOf v.site y
    → IsSession n u l cut ring room y
session_tried n {v} u {cut} {ring} {room} {y} h done is back labels scratch =
    let same : u.site ≡ v.site = ap (λ (z : Network). z.site) is in
    record {
      standing = standing_back n u h.standing back (restored u done is);
      back = subst (λ (z : Model). LeadBack z ring) (sym back) h.back;
      refused_labels = subst (λ (s : Site). IsLabelsOf s cut) (sym same) labels;
      room = h.room;
      scratch = subst (λ (s : Site). IsScratchOf s y) (sym same) scratch;
    }

pub ends_tried : {m m' : Model} (n : Model) (e e' : Edit) {w v : Network} (u : Network) {l k : LabelTable} (refused cut : LabelTable) (ring : List Edit) (old : Work) {work : Work} (last steps : ℕ)
    → IsStanding m w l → IsCarried m' w v l k work → IsEditOf m e → applied m e ≡ Ok (m', e') → IsCounted work steps → last ≡ last_arrival_of v
    → u ≡ saved_of v → n ≡ m → cut ≡ refused
    → TrialEnds (view_of m w l refused ring old) e (Ok last) (view_of n u l cut ring old) steps
ends_tried {m} {m'} n e e' {w} {v} u {l} {k} refused cut ring old {work} last steps h done in_range accepted counted is_last is back same = (
  record {
    after = state_of m' v k (take kept_limit (e' ∷ ring)) work;
    edited = edited_by e e' ring old h done in_range accepted;
    out = sym is_last;
    counted = counted;
  },
  ap₂ (λ (s : SessionState) (c : LabelTable). record { state = s; refused = c }) (state_back m n w u l ring old back (restored u done is)) same,
)

-- ---- an edit is undone

pub session_undone : {m : Model} (e : Edit) {w v : Network} {l k refused : LabelTable} (ring : List Edit) {room : ℕ} {x y : Scratch} {work : Work}
    → IsSession m w l refused (e ∷ ring) room x → IsCarried (edited m e) w v l k work → IsScratchOf v.site y
    → IsSession (edited m e) v k refused ring room y
session_undone e {refused} ring {room} h done scratch = record {
  standing = done.standing;
  back = h.back.3;
  refused_labels = subst (λ (s : Site). IsLabelsOf s refused) (sym done.site) h.refused_labels;
  room = h.room;
  scratch = scratch;
}

pub ends_undone : {m : Model} (e : Edit) {w v : Network} {l k refused : LabelTable} (ring : List Edit) {room : ℕ} {x : Scratch} (old : Work) {work : Work} (steps : ℕ)
    → IsSession m w l refused (e ∷ ring) room x → IsCarried (edited m e) w v l k work → IsCounted work steps
    → UndoEnds (view_of m w l refused (e ∷ ring) old) (Ok work) (view_of (edited m e) v k refused ring work) steps
ends_undone e ring old steps h done counted = (undone_by e ring old h.standing done, refl, refl, counted)

-- the model before can be cleared
pub never_barred : (m : Model) (e : Edit) (w v : Network) (l refused cut : LabelTable) (ring : List Edit) (room most : ℕ) (x : Scratch)
    → IsSession m w l refused (e ∷ ring) room x → IsRefused (edited m e) w v cut most → ⊥
never_barred m e w v l refused cut ring room most x h short =
    short.shown.barred_by.not_clearable h.back.2
