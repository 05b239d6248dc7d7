-- What carrying a plan out comes to with its desk.
use Rattle.std.proofs.Common.{◌≡◌, ℕ, ◌+◌, ◌<◌, ◌^◌, Ok, sym, ap, ◌∙◌, subst}
use Rattle.replan.specs.Replans.{AdvanceEnds, ReplanView}
use Rattle.evac_law.specs.declared.model.Model.{Model}
use Rattle.talk.specs.SessionDesks.{DeskView, HasTables, IsDesk, IsSameDesk}
use Rattle.talk.specs.declared.replans.speaker.ReplanTalk.{ReplanTalk}
use Rattle.talk.specs.ReplanTalking.{TalkAdvances}
use Rattle.talk.proofs.Resting.{rest_desk}

-- it is carried out, and the desk's tables are made anew
pub advance_served : (t t' : ReplanTalk) (p : ℕ) (n : ℕ) (m : Model) (d : DeskView) → IsDesk t.desk t.replan.session → IsSameDesk t.desk d → HasTables m d → m ≡ t'.replan.session.state.model
    → (d.index + 1 < 2 ^ 32 → t'.desk.index ≡ d.index + 1) → t'.desk ≡ record d { index = t'.desk.index } → AdvanceEnds t.replan p (Ok tt) t'.replan n → TalkAdvances t p (Ok tt) t' n
advance_served t t' p n m d desk same tables is next counted h =
    let names : t'.desk.names ≡ t.desk.names = ap (λ (x : DeskView). x.names) counted ∙ same.names in
    let there : HasTables m (record d { index = t'.desk.index }) = record { routes = tables.routes; space = tables.space } in
    let tables' : HasTables m t'.desk = (let P : DeskView → Type 0 = λ x. HasTables m x in subst P (sym counted) there) in
    let Q : ℕ → Type 0 = λ i. i + 1 < 2 ^ 32 → t'.desk.index ≡ i + 1 in (
      h.0,
      record {
        advanced = h.1;
        names_same = names;
        next = subst Q same.index next;
        serves = rest_desk t.desk t'.desk t.replan.session t'.replan.session m p desk names h.1.begins is tables';
      },
      h.2,
    )

-- a talk that is as it was
pub served_same : (t t' : ReplanTalk) → t'.desk ≡ t.desk → t'.replan ≡ t.replan → IsDesk t.desk t.replan.session → IsDesk t'.desk t'.replan.session
served_same t t' desk replan h =
    let P : DeskView → Type 0 = λ d. IsDesk d t'.replan.session in
    let Q : ReplanView → Type 0 = λ v. IsDesk t.desk v.session in subst P (sym desk) (subst Q (sym replan) h)
