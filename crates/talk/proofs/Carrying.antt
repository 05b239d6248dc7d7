-- What a session says is said by a replan, with all that was carried out as before.
use Rattle.std.proofs.Common.{◌≡◌, ℕ, List, refl, sym, ap, ◌∙◌, subst}
use Rattle.line_io.specs.Writer.{Writes}
use Rattle.line_io.specs.declared.outside.Sink.{Ghosts}
use Rattle.line_io.specs.declared.writer.Writer.{Writer}
use Rattle.certificate_text.specs.BlockText.{refusal_line}
use Rattle.std.proofs.Math.Nat.{add-zero}
use Rattle.evac_law.specs.declared.code.Code.{Code}
use Rattle.replan.specs.Replans.{ReplanView}
use Rattle.talk.specs.SessionDesks.{DeskView, desk_state, shown_of}
use Rattle.talk.specs.Sessions.{State}
use Rattle.talk.specs.ReplanDesks.{replanned, shown_replan}
use Rattle.talk.specs.ReplanTalks.{Replanned, carried_on}
use Rattle.talk.specs.Speaking.{PutsSome, Speaking}
use Rattle.talk.specs.Talks.{Reply, refuses}

-- where a replan is, by its parts
pub same_replanned : (x y : State) (m n : ℕ) (g h : List ℕ) → x ≡ y → m ≡ n → g ≡ h
    → let a : Replanned = record { session = x; moment = m; gone = g } in let b : Replanned = record { session = y; moment = n; gone = h } in a ≡ b
same_replanned x y m n g h e f k =
    ap (λ (s : State). let a : Replanned = record { session = s; moment = m; gone = g } in a) e
    ∙ ap (λ (i : ℕ). let a : Replanned = record { session = y; moment = i; gone = g } in a) f
    ∙ ap (λ (l : List ℕ). let a : Replanned = record { session = y; moment = n; gone = l } in a) k

-- one of some replies of a session
abbrev pub Carries : Replanned → (Reply State → Type 0) → Reply Replanned → Type 0
Carries s Gets r = (q : Reply State) × Gets q × (r ≡ carried_on s q)

pub lifted : {X : Type 0} {G : Ghosts X} (Gets : Reply State → Type 0) (d d' : DeskView) (v v' : ReplanView) (a b : Writer X) (n k : ℕ)
    → v'.moment ≡ v.moment → v'.gone ≡ v.gone → PutsSome G Gets (shown_of d v.session a n) (shown_of d' v'.session b k)
    → PutsSome G (Carries (replanned d v) Gets) (shown_replan d v a n) (shown_replan d' v' b k)
lifted Gets d d' v v' a b n k moment gone h = (
  carried_on (replanned d v) h.0,
  (h.0, h.1, refl),
  record {
    kept = h.2.kept;
    state = same_replanned (desk_state d' v'.session) h.0.after v'.moment v.moment v'.gone v.gone h.2.state moment gone;
    put = h.2.put;
    steps = h.2.steps;
  },
)

-- more replies
pub widened : {N S X : Type 0} {G : Ghosts X} (P Q : Reply S → Type 0) (x y : Speaking N S X) → ((r : Reply S) → P r → Q r) → PutsSome G P x y → PutsSome G Q x y
widened P Q x y f h = (h.0, f h.0 h.1, h.2)

-- ---- refusals by a code

pub code_said : {X : Type 0} {G : Ghosts X} (Gets : Reply Replanned → Type 0) (line : ℕ) (code : Code) (n : ℕ) (d : DeskView) (v : ReplanView) (named : Code) (a b : Writer X)
    → code ≡ named → Gets (refuses (replanned d v) named line) → Writes G a (refusal_line code line) b
    → PutsSome G Gets (shown_replan d v a n) (shown_replan d v b n)
code_said {X} {G} Gets line code n d v named a b is gets put =
    let s = replanned d v in
    let text = subst (λ (i : Code). Writes G a (refusal_line i line) b) is put in (
      refuses s named line,
      gets,
      record { kept = refl; state = refl; put = text; steps = sym (add-zero n) },
    )
