use Rattle.std.proofs.Common.{◌≡◌, ℕ, ◌++◌, ◌∷◌, [], List, map, ap, sym, ◌∙◌, append_assoc, append-nil}
use Rattle.evac_law.specs.declared.entrant.Entrant.{Entrant}
use Rattle.building_table.specs.EntrantRows.{entrant_row}
use Rattle.building_table.proofs.entrants.EntrantTable.rows.Goals as goal

-- one more row
row-more : (rows rows' all : List Entrant) (left left' : List ((ℕ × ℕ) × ℕ)) (e : (ℕ × ℕ) × ℕ) → rows' ≡ rows ++ (entrant_row e ∷ []) → left ≡ e ∷ left'
    → rows ++ map entrant_row left ≡ all → rows' ++ map entrant_row left' ≡ all
row-more rows rows' all left left' e pushed next so-far =
    ap (λ l. l ++ map entrant_row left') pushed ∙ append_assoc rows (entrant_row e ∷ []) (map entrant_row left') ∙ sym (ap (λ l. rows ++ map entrant_row l) next) ∙ so-far

row-all : (rows all : List Entrant) (left : List ((ℕ × ℕ) × ℕ)) → left ≡ [] → rows ++ map entrant_row left ≡ all → rows ≡ all
row-all rows all left none so-far = sym (append-nil rows) ∙ sym (ap (λ l. rows ++ map entrant_row l) none) ∙ so-far

pub loop-key-init : goal.loop-key-init
loop-key-init c =
    let begun : c.into_iter-key-iterator.result ≡ c.self.inside.people.entries = c.into_iter-key-iterator.ensures.into_iter_gives.0 in
    let none : c.new-rows.result.items ≡ [] = c.new-rows.ensures.items in
    ap (λ l. l ++ map entrant_row c.into_iter-key-iterator.result) none ∙ ap (map entrant_row) begun ∙ c.self.view_is

pub loop-key-preserved : goal.loop-key-preserved
loop-key-preserved c =
    row-more c.loop-key.rows.items c.push.new.self.items c.args.self.now c.loop-key.key-iterator c.next.new.self (c.in-Some.key.now, c.in-Some.people.now)
    c.in_ok-push.ensures.items c.in-Some.ensures.steps c.loop-key.invariant

pub returns : goal.returns
returns c =
    let none : c.loop-key.key-iterator ≡ [] = c.in-None.ensures.steps.0 in
    c.new.ensures ∙ row-all c.loop-key.rows.items c.args.self.now c.loop-key.key-iterator none c.loop-key.invariant
