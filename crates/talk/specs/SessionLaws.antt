-- The laws on sessions.
use Rattle.std.specs.Prelude.{◌≡◌, ℕ, List, ◌++◌}
use Rattle.evac_law.specs.declared.model.Model.{Model}
use Rattle.evac_law.specs.Plans.{out_by}
use Rattle.building_table.specs.Names.{NameTable}
use Rattle.talk.specs.Sessions.{Advances, SessionGoes, State, StaysBefore, session}
use Rattle.talk.specs.Parts.{IsParted}
use Rattle.talk.specs.Talks.{Reply}

-- an edited model that a session goes on to isn't refused as well
abbrev pub EditsApart : Type 0
EditsApart =
    (s : State) (m : Model) (earlier : List Model) (line : ℕ) (r q : Reply State) → Advances s m earlier r → StaysBefore s m line q → ⊥

-- a session over lines is one over the first of them, with the replies to the others after it
abbrev pub SessionsPart : Type 0
SessionsPart =
    (names : NameTable) (m : Model) (before : ℕ) (xs ys : List (List ℕ)) (r : Reply State) → SessionGoes names m before (xs ++ ys) r
    → IsParted (session names m) before xs ys r

-- two states have the same index, model and models before, and plans with the same people out by each period
pub record AreAlike (s t : State) : Type 0 where
  pub index : s.index ≡ t.index
  pub model : s.standing.model ≡ t.standing.model
  pub former : s.standing.former ≡ t.standing.former
  pub last : s.standing.last ≡ t.standing.last
  pub outs : (k : ℕ) → out_by s.standing.model s.standing.plan k ≡ out_by t.standing.model t.standing.plan k

-- whatever plans, labels, routes and cuts are chosen, sessions over the same lines come to states that are alike
abbrev pub SessionsAgree : Type 0
SessionsAgree =
    (names : NameTable) (m : Model) (before : ℕ) (lines : List (List ℕ)) (r q : Reply State) → SessionGoes names m before lines r
    → SessionGoes names m before lines q → AreAlike r.after q.after
