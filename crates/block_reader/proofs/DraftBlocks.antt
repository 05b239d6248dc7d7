-- What a draft says begins a block of the model's, and all of a whole one is said where it is full.
use Rattle.std.proofs.Common.{◌≡◌, ℕ, ◌+◌, ◌-◌, ◌<◌, ◌≤◌, zero, suc, Bool, true, false, ◌||◌, cond, nat_eq, nat_le, List, [], ◌∷◌, ◌++◌, length, map, Some, None, refl, sym, subst, ap, ap₂, ◌∙◌, inl, inr, arith, append_assoc, append-nil, length-append}
use Rattle.std.specs.declared.option.Option.{Option}
use Rattle.std.specs.List.{All}
use Rattle.std.proofs.lemmas.Bool.{and_from, and_parts, cases_eq, eq-eqb, eqb-true, le-leb, or_cases, or_left, or_right}
use Rattle.std.proofs.lemmas.List.Elements.{All-head}
use Rattle.evac_law.specs.declared.model.Model.{Model}
use Rattle.evac_law.specs.Building.{IsValid, is_exit_at, node_at}
use Rattle.evac_law.specs.LabelTable.{label_at}
use Rattle.certificate_text.specs.declared.block.Block.{Block}
use Rattle.certificate_text.specs.declared.entry.Entry.{Entry}
use Rattle.certificate_text.specs.declared.entry.Entry.TheVariants as entries
use Rattle.block_reader.specs.declared.run.Run.{Run}
use Rattle.block_reader.specs.declared.stage.Stage.{Stage}
use Rattle.block_reader.specs.declared.stage.Stage.TheVariants as stages
use Rattle.certificate_text.specs.BlockEntries.{entries_of, label_entries, entry_of_move, out_entries}
use Rattle.block_reader.specs.DraftFacts.{IsDraft, IsRun, all_runs, node_runs}
use Rattle.block_reader.proofs.DraftEntries.{IsEntry, draft_entries, head_entries, run_entry}
use Rattle.block_reader.specs.Drafts.{Draft, IsStated, behind_run, is_cleared, is_curve, is_empty, is_full, is_index, is_lists, is_people, last_of, no_draft, only_exits, run_label, with_entry}
use Rattle.block_reader.proofs.BlockWalks.{IsCurve, label-taken, out-taken}
use Rattle.block_reader.proofs.DraftLemmas.{IsPart, entry-next, none-draft}
use Rattle.block_reader.proofs.LastLemmas.{last-in, last-push}
use Rattle.certificate_text.proofs.ListParts.{below-stop}
use Rattle.block_reader.proofs.RunOrder.{LastBefore, before-exit, before-next, first-follows, no-exits, whole-own}
use Rattle.block_reader.proofs.Runs.{label_entries-runs, runs-same}
use Rattle.block_reader.proofs.Walks.{walk, walk-none, walk-one, walk-then}

-- ---- a draft that these entries lead to

pub record IsAt (m : Model) (d : Draft) (es : List Entry) : Type 0 where
  pub draft : IsDraft m d
  pub entries : draft_entries m d ≡ es
  pub walks : walk m no_draft es ≡ Some d

pub at-none : (m : Model) → IsAt m no_draft []
at-none m = record { draft = none-draft m; entries = refl; walks = walk-none m no_draft }

pub at-next : (m : Model) (d : Draft) (es : List Entry) (e : Entry) (new : Draft) → IsAt m d es → IsPart e → IsEntry e → with_entry m d e ≡ Some new → IsAt m new (es ++ (e ∷ []))
at-next m d es e new at part fits h =
    let next = entry-next m d e new part fits at.draft h in record {
      draft = next.draft;
      entries = next.entries ∙ ap (λ x. x ++ (e ∷ [])) at.entries;
      walks = walk-then m no_draft d new es (e ∷ []) at.walks (walk-one m d new e h);
    }

-- ---- how it can go on to a full one

pub record CanEnd (m : Model) (es : List Entry) : Type 0 where
  pub left : List Entry
  pub last : Draft
  pub at : IsAt m last (es ++ left)
  pub full : is_full m last ≡ true

can-full : (m : Model) (d : Draft) (es : List Entry) → IsAt m d es → is_full m d ≡ true → CanEnd m es
can-full m d es at full = record { left = []; last = d; at = subst (IsAt m d) (sym (append-nil es)) at; full = full }

can-next : (m : Model) (d : Draft) (es : List Entry) (e : Entry) (new : Draft) → IsAt m d es → IsPart e → IsEntry e → with_entry m d e ≡ Some new
    → (IsAt m new (es ++ (e ∷ [])) → CanEnd m (es ++ (e ∷ []))) → CanEnd m es
can-next m d es e new at part fits h more =
    let c = more (at-next m d es e new at part fits h) in
    record { left = e ∷ c.left; last = c.last; at = subst (IsAt m c.last) (append_assoc es (e ∷ []) c.left) c.at; full = c.full }

can-node : (m : Model) (n : ℕ) (d : Draft) (es : List Entry) (b : Bool) → IsValid m → n < length m.nodes → IsAt m d es → IsCurve m d → 0 < d.cleared → LastBefore m n (last_of d.runs)
    → is_exit_at m n ≡ b → ((x : Draft) (xs : List Entry) → IsAt m x xs → IsCurve m x → 0 < x.cleared → LastBefore m (suc n) (last_of x.runs) → CanEnd m xs) → CanEnd m es
can-node m n d es true valid l at curve pos before e more = more d es at curve pos (before-exit m n (last_of d.runs) e before)
can-node m n d es false valid l at curve pos before e more =
    let r : Run = record { node = n; moment = 0; label = 0 } in
    let new : Draft = record d { runs = d.runs ++ (r ∷ []) } in
    can-next m d es (entries.Label (node_at m n).name 0 0) new at (record { is_said = refl; no_end = refl }) (omega arith)
    (label-taken m d n 0 0 valid curve l e pos (omega arith) (first-follows m (last_of d.runs) n 0 before.behind before.exits))
    (λ next. more new (es ++ (entries.Label (node_at m n).name 0 0 ∷ [])) next (record { curve = curve.curve; no_moves = curve.no_moves }) pos
    (before-next m n (last_of new.runs) r (last-push d.runs r) refl))

-- the nodes from one on get the label 0
can-nodes : (m : Model) (k n : ℕ) (d : Draft) (es : List Entry) → IsValid m → n + k ≡ length m.nodes → IsAt m d es → IsCurve m d → 0 < d.cleared → LastBefore m n (last_of d.runs) → CanEnd m es
can-nodes m zero n d es valid l at curve pos before = grind (arith, can-full, at, and_from, or_right)
can-nodes m (suc k) n d es valid l at curve pos before =
    can-node m n d es (is_exit_at m n) valid (omega (arith, l)) at curve pos before refl
    (λ x xs at_x curve_x pos_x before_x. can-nodes m k (suc n) x xs valid (omega (arith, l)) at_x curve_x pos_x before_x)

behind-in : (m : Model) (c : ℕ) (rs : List Run) (o : Option Run) → last_of rs ≡ o → All (IsRun m c) rs → behind_run o ≤ length m.nodes
behind-in m c rs None e all = omega arith
behind-in m c rs (Some r) e all = let is = last-in (IsRun m c) rs r all e in let l = is.node_in in omega (arith, l)

-- the curve stands
can-curve : (m : Model) (d : Draft) (es : List Entry) (b : Bool) → IsValid m → IsAt m d es → is_curve d ≡ true → is_full m d ≡ b → CanEnd m es
can-curve m d es true valid at curve full = can-full m d es at full
can-curve m d es false valid at curve not_full =
    let n = behind_run (last_of d.runs) in
    let none : is_empty d.moves ≡ true = ap is_empty (at.draft.no_moves not_full) in
    elim (cases_eq d.cleared 0) [
      | inl z ↦ let all : is_full m d ≡ true = and_from (is_curve d) _ curve (or_left (nat_eq d.cleared 0) (only_exits m n (length m.nodes)) (eq-eqb d.cleared 0 z)) in can-full m d es at all
      | inr ne ↦ can-nodes m (length m.nodes - n) n d es valid (let l = behind-in m d.cleared d.runs (last_of d.runs) refl at.draft.runs.each in omega (arith, l)) at (record { curve = curve; no_moves = none })
          (omega (arith, ne)) (record { behind = omega arith; exits = no-exits m n n (omega arith) })
    ]

-- so many periods are left
can-outs : (m : Model) (k : ℕ) (d : Draft) (es : List Entry) → IsValid m → IsAt m d es → is_lists d.stage ≡ true → length d.outs + k ≡ d.cleared + 1 → CanEnd m es
can-outs m zero d es valid at lists l =
    can-curve m d es (is_full m d) valid at (and_from (is_lists d.stage) (nat_eq (length d.outs) (d.cleared + 1)) lists (eq-eqb (length d.outs) (d.cleared + 1) (omega (arith, l)))) refl
can-outs m (suc k) d es valid at lists l =
    let size = length-append d.outs (0 ∷ []) in
    let new : Draft = record d { outs = d.outs ++ (0 ∷ []) } in
    can-next m d es (entries.Out (length d.outs) 0) new at (record { is_said = refl; no_end = refl }) (omega arith) (out-taken m d d.outs 0 lists (omega (arith, l)))
    (λ next. can-outs m k new (es ++ (entries.Out (length d.outs) 0 ∷ [])) valid next lists (omega (arith, size, l)))

can-lists : (m : Model) (d : Draft) (es : List Entry) → IsValid m → IsAt m d es → is_lists d.stage ≡ true → CanEnd m es
can-lists m d es valid at lists = can-outs m (d.cleared + 1 - length d.outs) d es valid at lists (let l = at.draft.outs.few in omega (arith, l))

can-cleared : (m : Model) (d : Draft) (es : List Entry) → IsValid m → IsAt m d es → is_cleared d.stage ≡ true → CanEnd m es
unfolding with_entry
can-cleared m d es valid at e =
    let new : Draft = record d { stage = stages.Lists; cleared = 0 } in
    can-next m d es (entries.Cleared 0) new at (record { is_said = refl; no_end = refl }) (omega arith)
    (ap (λ b. cond b (Some new) None) (and_from (is_cleared d.stage) (nat_le 0 m.horizon) e (le-leb 0 m.horizon (omega arith)))) (λ next. can-lists m new _ valid next refl)

can-people : (m : Model) (d : Draft) (es : List Entry) → IsValid m → IsAt m d es → is_people d.stage ≡ true → CanEnd m es
unfolding with_entry
can-people m d es valid at e =
    let new : Draft = record d { stage = stages.Cleared; people = 0 } in
    can-next m d es (entries.People 0) new at (record { is_said = refl; no_end = refl }) (omega arith) (ap (λ b. cond b (Some new) None) e) (λ next. can-cleared m new _ valid next refl)

can-index : (m : Model) (d : Draft) (es : List Entry) → IsValid m → IsAt m d es → is_index d.stage ≡ true → CanEnd m es
unfolding with_entry
can-index m d es valid at e =
    let new : Draft = record d { stage = stages.People; index = 0 } in
    can-next m d es (entries.Index 0) new at (record { is_said = refl; no_end = refl }) (omega arith) (ap (λ b. cond b (Some new) None) e) (λ next. can-people m new _ valid next refl)

can-by : (m : Model) (d : Draft) (es : List Entry) (s : Stage) → d.stage ≡ s → IsValid m → IsAt m d es → CanEnd m es
can-by m d es stages.Index e valid at = can-index m d es valid at (ap is_index e)
can-by m d es stages.People e valid at = can-people m d es valid at (ap is_people e)
can-by m d es stages.Cleared e valid at = can-cleared m d es valid at (ap is_cleared e)
can-by m d es stages.Lists e valid at = can-lists m d es valid at (ap is_lists e)

pub can-end : (m : Model) (d : Draft) (es : List Entry) → IsValid m → IsAt m d es → CanEnd m es
can-end m d es valid at = can-by m d es d.stage refl valid at

-- ---- a full draft says all of its block

at-lists : (s : Stage) (index people cleared : ℕ) → is_lists s ≡ true → head_entries s index people cleared ≡ entries.Index index ∷ entries.People people ∷ entries.Cleared cleared ∷ []
at-lists stages.Lists index people cleared h = refl
at-lists _ index people cleared h = cc

none-before : (m : Model) (rs : List Run) → All (IsRun m 0) rs → rs ≡ []
none-before m [] all = refl
none-before m (r ∷ rs) all = let l = (All-head (IsRun m 0) r rs all).moment_in in absurd (omega (arith, l))

no-part : (b : Bool) → cond b [] [] ≡ (let none : List Run = [] in none)
no-part true = refl
no-part false = refl

-- the runs of a full draft are those of its labels
full-own : (m : Model) (d : Draft) → IsDraft m d → is_full m d ≡ true → all_runs m (run_label d.runs) d.cleared (length m.nodes) ≡ d.runs
full-own m d h full =
    let n = behind_run (last_of d.runs) in
    let p = and_parts (is_curve d) (nat_eq d.cleared 0 || only_exits m n (length m.nodes)) full in
    elim (or_cases (nat_eq d.cleared 0) (only_exits m n (length m.nodes)) p.1) [
      | inl z ↦
          let e : d.cleared ≡ 0 = eqb-true d.cleared 0 z in
          ap (λ c. all_runs m (run_label d.runs) c (length m.nodes)) e
          ∙ below-stop (node_runs m (run_label d.runs) 0) 0 (length m.nodes) (omega arith) (λ i a b. no-part (is_exit_at m i))
          ∙ sym (none-before m d.runs (subst (λ c. All (IsRun m c) d.runs) e h.runs.each))
      | inr x ↦ whole-own m d.runs d.cleared (length m.nodes) (record { behind = behind-in m d.cleared d.runs (last_of d.runs) refl h.runs.each; exits = x }) h.runs.own
    ]

parts : List Entry → List Entry → List Entry → List Entry → List Entry
parts hs outs labels moves = hs ++ outs ++ labels ++ moves

pub full-says : (m : Model) (d : Draft) (es : List Entry) (b : Block) → IsAt m d es → is_full m d ≡ true → IsStated m d b → entries_of m b ≡ es ++ (entries.End ∷ [])
unfolding parts
full-says m d es b at full is =
    let p = and_parts (is_curve d) (nat_eq d.cleared 0 || only_exits m (behind_run (last_of d.runs)) (length m.nodes)) full in
    let q = and_parts (is_lists d.stage) (nat_eq (length d.outs) (d.cleared + 1)) p.0 in
    let N = length m.nodes in
    let hs : entries.Index b.index ∷ entries.People b.people ∷ entries.Cleared b.cleared ∷ [] ≡ head_entries d.stage d.index d.people d.cleared =
    ap₂ (λ i k. entries.Index i ∷ entries.People k ∷ entries.Cleared b.cleared ∷ []) is.index is.people ∙ ap (λ c. entries.Index d.index ∷ entries.People d.people ∷ entries.Cleared c ∷ []) is.cleared
    ∙ sym (at-lists d.stage d.index d.people d.cleared q.0) in
    let labels : label_entries m (label_at b.labels) b.cleared ≡ map (run_entry m) d.runs =
    ap (label_entries m (label_at b.labels)) is.cleared ∙ label_entries-runs m (label_at b.labels) d.cleared
    ∙ ap (map (run_entry m)) (runs-same m (label_at b.labels) (run_label d.runs) d.cleared N (λ n t a k. is.labels.early n t a k) ∙ full-own m d at.draft full) in
    ap (λ x. x ++ (entries.End ∷ []))
    (ap₂ (λ x o. parts x o (label_entries m (label_at b.labels) b.cleared) (map (entry_of_move m) b.moves)) hs (ap out_entries is.outs)
    ∙ ap₂ (λ x v. parts (head_entries d.stage d.index d.people d.cleared) (out_entries d.outs) x v) labels (ap (map (entry_of_move m)) is.moves)
    ∙ at.entries)
