-- What a part does to what a builder holds is what it does to the parts.
use Rattle.std.proofs.Common.{◌≡◌, ℕ, Bool, nat_le, List, [], ◌∷◌, ◌++◌, map, Result, Ok, Err, Some, None, OnOk, OnErr, IfErr, refl, sym, ap, subst, ◌∙◌}
use Rattle.std.proofs.lemmas.List.{length-map, map-append}
use Rattle.evac_law.specs.declared.code.Code.{Code}
use Rattle.evac_law.specs.declared.code.Code.TheVariants.{RepeatedSetting, TooMany}
use Rattle.evac_law.specs.Limits.{floor_limit}
use Rattle.evac_law.specs.declared.name.NodeName.{NodeName}
use Rattle.building_table.specs.declared.faults.BuildFault.{BuildFault}
use Rattle.building_table.specs.Built.{Built, built_of, build_code}
use Rattle.building_table.specs.Taking.{TakesPart, title_checks, period_checks, horizon_checks, floor_checks, room_checks, exit_checks, arc_checks, window_checks, entrant_checks, with_floor, adding_node, adding_arc, adding_window, adding_entrant, holds_floor}
use Rattle.model_text.specs.Grammar.{SaidPart, Title, Period, Horizon, Floor, Node, Exit, Arc, Window, Entrant}
use Rattle.model_text.specs.Taken.{first_code, part_fault, floors_of}

-- the checks and what is held then are those of the parts
pub IsSame : SaidPart → List (Bool × Code) → Built → Built → Type 0
IsSame s checks old after = (before : List SaidPart) → old ≡ built_of before → (part_fault before s ≡ first_code checks) × (after ≡ built_of (s ∷ before))

-- what a part does is what its checks say
pub take-part : (result : Result (Unit {0}) BuildFault) (s : SaidPart) (checks : List (Bool × Code)) (old new after : Built) → TakesPart result checks old new after → IsSame s checks old after
    → record {
      taken : OnOk result ((before : List SaidPart) → old ≡ built_of before → (part_fault before s ≡ None) × (new ≡ built_of (s ∷ before)));
      fault : IfErr result (λ f. (before : List SaidPart) → old ≡ built_of before → part_fault before s ≡ build_code f);
      unchanged : OnErr result (new ≡ old);
    }
unfolding IsSame
take-part (Ok u) s checks old new after t same =
    record { taken = λ before e. let k = same before e in (k.0 ∙ t.right, t.made ∙ k.1); fault = tt; unchanged = tt }
take-part (Err f) s checks old new after t same = record { taken = tt; fault = λ before e. let k = same before e in k.0 ∙ t.fault; unchanged = t.same }

-- what is so of the parts so far is so of what is held
same-by : (s : SaidPart) (checks : Built → List (Bool × Code)) (step : Built → Built)
    → ((before : List SaidPart) → (part_fault before s ≡ first_code (checks (built_of before))) × (step (built_of before) ≡ built_of (s ∷ before)))
    → (old : Built) → IsSame s (checks old) old (step old)
unfolding IsSame
same-by s checks step at old = λ before e.
    let P : Built → Type 0 = λ b. (part_fault before s ≡ first_code (checks b)) × (step b ≡ built_of (s ∷ before)) in subst P (sym e) (at before)

pub same-title : (t : List ℕ) (old : Built) → IsSame (Title t) (title_checks old) old (record old { title = Some t })
unfolding part_fault
same-title t = same-by (Title t) title_checks (λ b. record b { title = Some t }) (λ before. (refl, refl))

pub same-period : (n : ℕ) (old : Built) → IsSame (Period n) (period_checks old) old (record old { seconds = Some n })
unfolding part_fault
same-period n = same-by (Period n) period_checks (λ b. record b { seconds = Some n }) (λ before. (refl, refl))

pub same-horizon : (n : ℕ) (old : Built) → IsSame (Horizon n) (horizon_checks old) old (record old { horizon = Some n })
unfolding part_fault
same-horizon n = same-by (Horizon n) horizon_checks (λ b. record b { horizon = Some n }) (λ before. (refl, refl))

-- floors without their texts, and the texts
floor-held : (f : ℕ) (t : List ℕ) (before : List SaidPart) → with_floor (built_of before) f t ≡ built_of (Floor f t ∷ before)
floor-held f t before =
    ap (λ l. record (built_of before) { floors = l; texts = map (λ x. x.1) (floors_of before) ++ (t ∷ []) }) (sym (map-append (λ (x : ℕ × List ℕ). x.0) (floors_of before) ((f, t) ∷ [])))
    ∙ ap (λ l. record (built_of before) { floors = map (λ x. x.0) (floors_of before ++ ((f, t) ∷ [])); texts = l }) (sym (map-append (λ (x : ℕ × List ℕ). x.1) (floors_of before) ((f, t) ∷ [])))

pub same-floor : (f : ℕ) (t : List ℕ) (old : Built) → IsSame (Floor f t) (floor_checks old f) old (with_floor old f t)
unfolding part_fault
same-floor f t = same-by (Floor f t) (λ b. floor_checks b f) (λ b. with_floor b f t) (λ before. (
  ap (λ n. first_code ((holds_floor (built_of before) f, RepeatedSetting) ∷ (nat_le floor_limit n, TooMany) ∷ [])) (sym (length-map (floors_of before) (λ (x : ℕ × List ℕ). x.0))),
  floor-held f t before,
))

pub same-room : (name : NodeName) (capacity start : ℕ) (old : Built) → IsSame (Node name capacity start) (room_checks old name capacity start) old (adding_node old name capacity start)
unfolding part_fault
same-room name capacity start = same-by (Node name capacity start) (λ b. room_checks b name capacity start) (λ b. adding_node b name capacity start) (λ before. (refl, refl))

pub same-exit : (name : NodeName) (old : Built) → IsSame (Exit name) (exit_checks old name) old (adding_node old name 0 0)
unfolding part_fault
same-exit name = same-by (Exit name) (λ b. exit_checks b name) (λ b. adding_node b name 0 0) (λ before. (refl, refl))

pub same-arc : (start finish : NodeName) (travel rate : ℕ) (old : Built) → IsSame (Arc start finish travel rate) (arc_checks old start finish) old (adding_arc old start finish travel rate)
unfolding part_fault
same-arc start finish travel rate = same-by (Arc start finish travel rate) (λ b. arc_checks b start finish) (λ b. adding_arc b start finish travel rate) (λ before. (refl, refl))

pub same-window : (start finish : NodeName) (first until : ℕ) (old : Built) → IsSame (Window start finish first until) (window_checks old start finish first until) old (adding_window old start finish first until)
unfolding part_fault
same-window start finish first until =
    same-by (Window start finish first until) (λ b. window_checks b start finish first until) (λ b. adding_window b start finish first until) (λ before. (refl, refl))

pub same-entrant : (name : NodeName) (moment people : ℕ) (old : Built) → IsSame (Entrant name moment people) (entrant_checks old name moment people) old (adding_entrant old name moment people)
unfolding part_fault
same-entrant name moment people =
    same-by (Entrant name moment people) (λ b. entrant_checks b name moment people) (λ b. adding_entrant b name moment people) (λ before. (refl, refl))
