-- A plan that was carried out is answered by who is gone and by the block of what is left.
use Rattle.std.proofs.Common.{◌≡◌, ℕ, ◌+◌, ◌<◌, ◌≤◌, ◌^◌, Bool, true, false, List, ◌++◌, refl, sym, ap, subst, arith}
use Rattle.evac_law.specs.declared.code.Code.{Code}
use Rattle.evac_law.specs.declared.code.Code.TheVariants as codes
use Rattle.evac_law.specs.declared.model.Model.{Model}
use Rattle.line_io.specs.Line.{input_limit}
use Rattle.line_io.specs.Writer.{Writes}
use Rattle.line_io.specs.declared.outside.Sink.{Ghosts}
use Rattle.line_io.specs.declared.writer.Writer.{Writer}
use Rattle.certificate_text.specs.Block.{number_field_limit}
use Rattle.certificate_text.specs.BlockLaws.{BlockReadsBack}
use Rattle.certificate_text.specs.BlockText.{refusal_line}
use Rattle.replan.specs.Replans.{ReplanView}
use Rattle.session_text.specs.StateTexts.{block_text}
use Rattle.talk.specs.SessionDesks.{DeskView}
use Rattle.talk.proofs.Bridge.{answer_of}
use Rattle.talk.proofs.Saying.{few_blocks}
use Rattle.talk.specs.declared.replans.speaker.ReplanTalk.{ReplanTalk}
use Rattle.talk.specs.ReplanDesks.{replanned, shown_replan}
use Rattle.talk.specs.ReplanTalks.{AdvancesTo, CarriesOut, IsLastGone, Replanned, gone_text, bars_moment}
use Rattle.talk.specs.ReplanTalking.{GoesUpTo}
use Rattle.talk.proofs.Carrying.{code_said}
use Rattle.talk.specs.Speaking.{PutsSome}
use Rattle.talk.specs.Talks.{Reply, refuses}

few_numbers : (index line : ℕ) → index < line → line ≤ input_limit → index + 1 < 2 ^ 32
unfolding input_limit
few_numbers index line before short = omega (arith, before, short)

-- by a moment that isn't barred
free-moment : (line : ℕ) (s : Replanned) (p : ℕ) (barred : Bool) (r : Reply Replanned) → barred ≡ false → CarriesOut s p r → AdvancesTo line s p barred r
free-moment line s p barred r free h = let P : Bool → Type 0 = λ b. AdvancesTo line s p b r in subst P (sym free) h

pub advance_said : BlockReadsBack → {X : Type 0} {G : Ghosts X} (line p last steps n k : ℕ) (t t' : ReplanTalk) (a b : Writer X)
    → t.desk.index < line → line ≤ input_limit → bars_moment (replanned t.desk t.replan) p ≡ false → GoesUpTo t p t' → steps ≡ t'.replan.session.state.work.pushes → k ≡ n + steps
    → IsLastGone t'.replan.gone t'.replan.session.state.model.horizon last
    → Writes G a (gone_text t'.replan.moment t'.replan.gone last ++ block_text t'.desk.index t'.replan.session.state) b
    → PutsSome G (AdvancesTo line (replanned t.desk t.replan) p (bars_moment (replanned t.desk t.replan) p)) (shown_replan t.desk t.replan a n) (shown_replan t'.desk t'.replan b k)
advance_said back {X} {G} line p last steps n k t t' a b before short free goes counted all last_gone put =
    let s = replanned t.desk t.replan in
    let s' = replanned t'.desk t'.replan in
    let v = t.replan in
    let v' = t'.replan in
    let next = goes.next (few_numbers t.desk.index line before short) in
    let horizon : v'.session.state.model.horizon ≡ v.session.state.model.horizon = ap (λ (m : Model). m.horizon) goes.advanced.begins.begun in
    let block = block_text t'.desk.index v'.session.state in
    let few : t'.desk.index ≤ number_field_limit = subst (λ (i : ℕ). i ≤ number_field_limit) (sym next) (few_blocks t.desk.index line before short) in
    let text = gone_text p v'.gone last ++ block in
    let r : Reply Replanned = record { text = text; after = s'; steps = steps } in
    let out : CarriesOut s p r = record {
      begins = goes.advanced.begins;
      best = goes.advanced.best;
      next = next;
      moment = goes.advanced.moment;
      moments = goes.advanced.size;
      gone = goes.advanced.gone;
      last = last;
      last_gone = subst (λ (h : ℕ). IsLastGone v'.gone h last) horizon last_gone;
      block = block;
      answer = answer_of back s'.session few goes.advanced.begins.solved;
      text = refl;
      counted = counted;
    } in
    let said = subst (λ (i : ℕ). Writes G a (gone_text i v'.gone last ++ block) b) goes.advanced.moment put in (
      r,
      free-moment line s p (bars_moment s p) r free out,
      record { kept = goes.names_same; state = refl; put = said; steps = all },
    )

-- a moment that is barred
pub barred_said : {X : Type 0} {G : Ghosts X} (line : ℕ) (code : Code) (p steps n k : ℕ) (t t' : ReplanTalk) (a b : Writer X)
    → bars_moment (replanned t.desk t.replan) p ≡ true → t'.desk ≡ t.desk → t'.replan ≡ t.replan → steps ≡ 0 → k ≡ n + steps → code ≡ codes.BadMoment
    → Writes G a (refusal_line code line) b
    → PutsSome G (AdvancesTo line (replanned t.desk t.replan) p (bars_moment (replanned t.desk t.replan) p)) (shown_replan t.desk t.replan a n) (shown_replan t'.desk t'.replan b k)
barred_said {X} {G} line code p steps n k t t' a b barred desk replan none counted is put =
    let s = replanned t.desk t.replan in
    let Gets = AdvancesTo line s p (bars_moment s p) in
    let gets : Gets (refuses s codes.BadMoment line) = (let P : Bool → Type 0 = λ b. AdvancesTo line s p b (refuses s codes.BadMoment line) in subst P (sym barred) refl) in
    let D : DeskView → Type 0 = λ x. PutsSome G Gets (shown_replan t.desk t.replan a n) (shown_replan x t'.replan b k) in
    let V : ReplanView → Type 0 = λ x. PutsSome G Gets (shown_replan t.desk t.replan a n) (shown_replan t.desk x b k) in
    let K : ℕ → Type 0 = λ i. PutsSome G Gets (shown_replan t.desk t.replan a n) (shown_replan t.desk t.replan b i) in
    let same : k ≡ n = omega (arith, counted, none) in
    subst D (sym desk) (subst V (sym replan) (subst K (sym same) (code_said Gets line code n t.desk t.replan codes.BadMoment a b is gets put)))
