-- What one line more makes of a draft, and what it says then.
use Rattle.std.proofs.Common.{◌≡◌, ℕ, ◌+◌, ◌<◌, ◌≤◌, Bool, true, false, not, ◌&&◌, ◌||◌, cond, nat_eq, nat_le, nat_lt, List, [], ◌∷◌, ◌++◌, length, map, Some, None, refl, sym, subst, ap, ap₂, ◌∙◌, arith, append_assoc, append-nil, length-append}
use Rattle.std.specs.declared.option.Option.{Option}
use Rattle.std.specs.Bool.{IsFalse}
use Rattle.std.specs.List.{All, AllPairs}
use Rattle.std.specs.Option.{option_and_then}
use Rattle.std.proofs.lemmas.Bool.{and_left, and_parts, and_right, cases_eq, cases_lt, eqb-true, leb-true, ltb-true, not-true, or_cases, ne_eqb}
use Rattle.std.proofs.lemmas.List.{length-map, map-append}
use Rattle.std.proofs.lemmas.List.Elements.{All-nil, All-push}
use Rattle.std.proofs.lemmas.List.Quantifiers.{all_pairs_push, position-Some}
use Rattle.evac_law.specs.declared.model.Model.{Model}
use Rattle.evac_law.specs.declared.name.NodeName.{NodeName}
use Rattle.evac_law.specs.declared.plan.Move.{Move}
use Rattle.evac_law.specs.Building.{is_exit_at}
use Rattle.evac_law.specs.Stands.{Before}
use Rattle.certificate_text.specs.declared.entry.Entry.{Entry}
use Rattle.certificate_text.specs.declared.entry.Entry.TheVariants as entries
use Rattle.block_reader.specs.declared.run.Run.{Run}
use Rattle.block_reader.specs.declared.stage.Stage.{Stage}
use Rattle.block_reader.specs.declared.stage.Stage.TheVariants as stages
use Rattle.certificate_text.specs.Block.{number_field_limit}
use Rattle.certificate_text.specs.BlockEntries.{entry_of_move, out_entries}
use Rattle.certificate_text.specs.BlockReadings.{says_something}
use Rattle.block_reader.specs.DraftFacts.{AreHeads, AreMoves, AreRuns, IsDraft, IsRun}
use Rattle.block_reader.proofs.DraftEntries.{IsEntry, draft_entries, head_entries, run_entry}
use Rattle.block_reader.specs.Drafts.{Draft, arc_of, behind_run, follows_move, follows_run, is_cleared, is_curve, is_empty, is_full, is_index, is_lists, is_move, is_people, is_run, last_of, arc_between, no_draft, node_of, only_exits, run_label, with_cleared, with_entry, with_index, with_move, with_out, with_people, with_run}
use Rattle.certificate_text.specs.Entries.{is_end}
use Rattle.block_reader.proofs.ExitLemmas.{exits-at}
use Rattle.block_reader.proofs.LastLemmas.{before-all, last-none, last-push}
use Rattle.certificate_text.proofs.ListParts.{enumerate-push}
use Rattle.block_reader.proofs.OptionLemmas.{chosen, follows}
use Rattle.certificate_text.proofs.OrderedMoves.{before-trans}
use Rattle.block_reader.proofs.PlacesBack.{joined, named}
use Rattle.block_reader.proofs.RunLabels.{label-before, label-other, label-own}
use Rattle.block_reader.proofs.RunOrder.{IsFirst, follows-how, push-own}

-- ---- parts of it

no-runs : (m : Model) (c : ℕ) → AreRuns m c []
no-runs m c = record { each = All-nil (IsRun m c); own = refl; covered = λ n t l e. absurd (omega (arith, l)) }

no-moves : (m : Model) → AreMoves m []
no-moves m = grind arith

uncurved : (m : Model) (d : Draft) → is_curve d ≡ false → is_full m d ≡ false
uncurved m d e = and_left (is_curve d) (nat_eq d.cleared 0 || only_exits m (behind_run (last_of d.runs)) (length m.nodes)) e

-- a draft before its lists has none
record IsBare (outs : List ℕ) (runs : List Run) (moves : List Move) : Type 0 where
  no_outs : outs ≡ []
  no_runs : runs ≡ []
  no_moves : moves ≡ []

is-bare : (m : Model) (d : Draft) → IsDraft m d → is_lists d.stage ≡ false → IsBare d.outs d.runs d.moves
is-bare m d h e =
    let flat : is_curve d ≡ false = and_left (is_lists d.stage) (nat_eq (length d.outs) (d.cleared + 1)) e in
    record { no_outs = h.no_outs e; no_runs = h.no_runs flat; no_moves = h.no_moves (uncurved m d flat) }

bare-draft : (m : Model) (d : Draft) → AreHeads m d.index d.people d.cleared → IsBare d.outs d.runs d.moves → IsDraft m d
bare-draft m d heads bare = record {
  heads = heads;
  outs = rw bare.no_outs (record { fit = All-nil (λ n. n ≤ number_field_limit); few = omega arith });
  no_outs = λ _. bare.no_outs;
  runs = subst (AreRuns m d.cleared) (sym bare.no_runs) (no-runs m d.cleared);
  no_runs = λ _. bare.no_runs;
  moves = subst (AreMoves m) (sym bare.no_moves) (no-moves m);
  no_moves = λ _. bare.no_moves;
}

pub none-draft : (m : Model) → IsDraft m no_draft
none-draft m = bare-draft m no_draft (record { in_horizon = omega arith; index_fits = omega arith; people_fit = omega arith }) (record { no_outs = refl; no_runs = refl; no_moves = refl })

says : Model → List Entry → List ℕ → List Run → List Move → List Entry
says m hs outs runs moves = hs ++ out_entries outs ++ map (run_entry m) runs ++ map (entry_of_move m) moves

bare-says : (m : Model) (d : Draft) → IsBare d.outs d.runs d.moves → draft_entries m d ≡ head_entries d.stage d.index d.people d.cleared
unfolding says
bare-says m d h = grind (arith, head_entries, says, append-nil)

-- the next draft, which says one entry more
pub record IsNext (m : Model) (d : Draft) (e : Entry) (new : Draft) : Type 0 where
  pub draft : IsDraft m new
  pub entries : draft_entries m new ≡ draft_entries m d ++ (e ∷ [])

next-is : (m : Model) (d : Draft) (e : Entry) (a b : Draft) → a ≡ b → IsNext m d e a → IsNext m d e b
next-is m d e a b q h = subst (IsNext m d e) q h

-- ---- the first lines

at-index : (s : Stage) (i p c : ℕ) → is_index s ≡ true → (is_lists s ≡ false) × (head_entries s i p c ≡ [])
at-index stages.Index i p c h = (refl, refl)
at-index _ i p c h = cc

at-people : (s : Stage) (i p c : ℕ) → is_people s ≡ true → (is_lists s ≡ false) × (head_entries s i p c ≡ entries.Index i ∷ [])
at-people stages.People i p c h = (refl, refl)
at-people _ i p c h = cc

at-cleared : (s : Stage) (i p c : ℕ) → is_cleared s ≡ true → (is_lists s ≡ false) × (head_entries s i p c ≡ entries.Index i ∷ entries.People p ∷ [])
at-cleared stages.Cleared i p c h = (refl, refl)
at-cleared _ i p c h = cc

-- the next draft of one that has no list says the next of the first lines
head-next : (m : Model) (d : Draft) (s : Stage) (i p c : ℕ) (e : Entry) (new : Draft) → IsDraft m d → is_lists d.stage ≡ false → AreHeads m i p c
    → head_entries s i p c ≡ head_entries d.stage d.index d.people d.cleared ++ (e ∷ []) → record d { stage = s; index = i; people = p; cleared = c } ≡ new → IsNext m d e new
head-next m d s i p c e new h flat heads says is =
    let bare = is-bare m d h flat in
    let next : Draft = record d { stage = s; index = i; people = p; cleared = c } in
    next-is m d e next new is (record {
      draft = bare-draft m next heads bare;
      entries = bare-says m next bare ∙ says ∙ ap (λ x. x ++ (e ∷ [])) (sym (bare-says m d bare));
    })

index-next : (m : Model) (d : Draft) (i : ℕ) (new : Draft) → i ≤ number_field_limit → IsDraft m d → with_index d i ≡ Some new → IsNext m d (entries.Index i) new
index-next m d i new l h e = grind (arith, chosen, at-index, head-next)

people-next : (m : Model) (d : Draft) (p : ℕ) (new : Draft) → p ≤ number_field_limit → IsDraft m d → with_people d p ≡ Some new → IsNext m d (entries.People p) new
people-next m d p new l h e = grind (arith, chosen, at-people, head-next)

cleared-next : (m : Model) (d : Draft) (c : ℕ) (new : Draft) → IsDraft m d → with_cleared m d c ≡ Some new → IsNext m d (entries.Cleared c) new
cleared-next m d c new h e = grind (arith, chosen, and_parts, at-cleared, head-next, leb-true)

-- ---- the curve

outs-push : (xs : List ℕ) (k n : ℕ) → k ≡ length xs → out_entries (xs ++ (n ∷ [])) ≡ out_entries xs ++ (entries.Out k n ∷ [])
outs-push xs k n e = grind (arith, enumerate-push, map-append)

-- a draft that has neither runs nor moves
curve-says : (m : Model) (d : Draft) → d.runs ≡ [] → d.moves ≡ [] → draft_entries m d ≡ head_entries d.stage d.index d.people d.cleared ++ out_entries d.outs
unfolding says
curve-says m d runs moves = grind (arith, head_entries, says, append-nil)

unfinished : (d : Draft) → length d.outs ≤ d.cleared → is_curve d ≡ false
unfinished d l = and_right (is_lists d.stage) (nat_eq (length d.outs) (d.cleared + 1)) (ne_eqb (length d.outs) (d.cleared + 1) (λ q. omega (arith, q, l)))

out-next : (m : Model) (d : Draft) (k n : ℕ) (new : Draft) → n ≤ number_field_limit → IsDraft m d → with_out d k n ≡ Some new → IsNext m d (entries.Out k n) new
out-next m d k n new l h e =
    let next : Draft = record d { outs = d.outs ++ (n ∷ []) } in
    let c = chosen (is_lists d.stage && (nat_eq k (length d.outs) && nat_le k d.cleared)) next new e in
    let p = and_parts (is_lists d.stage) (nat_eq k (length d.outs) && nat_le k d.cleared) c.test in
    let q = and_parts (nat_eq k (length d.outs)) (nat_le k d.cleared) p.1 in
    let place : k ≡ length d.outs = eqb-true k (length d.outs) q.0 in
    let flat : is_curve d ≡ false = unfinished d (let b = leb-true k d.cleared q.1 in omega (arith, b, place)) in
    let runs : d.runs ≡ [] = h.no_runs flat in
    let moves : d.moves ≡ [] = h.no_moves (uncurved m d flat) in
    let hs = head_entries d.stage d.index d.people d.cleared in
    next-is m d (entries.Out k n) next new c.value (record {
      draft = record {
        heads = h.heads;
        outs = record { fit = All-push (λ x. x ≤ number_field_limit) d.outs n h.outs.fit l; few = omega (arith, leb-true k d.cleared q.1, place, length-append d.outs (n ∷ [])) };
        no_outs = λ no. (let z : true ≡ false = sym p.0 ∙ no in cc);
        runs = h.runs;
        no_runs = λ _. runs;
        moves = h.moves;
        no_moves = λ _. moves;
      };
      entries = curve-says m next runs moves ∙ ap (λ x. hs ++ x) (outs-push d.outs k n place) ∙ sym (append_assoc hs (out_entries d.outs) (entries.Out k n ∷ []))
          ∙ ap (λ x. x ++ (entries.Out k n ∷ [])) (sym (curve-says m d runs moves));
    })

-- ---- runs

Covers : Model → ℕ → List Run → Type 0
Covers m c rs = (n t : ℕ) → n < behind_run (last_of rs) → IsFalse (is_exit_at m n) → run_label rs n t ≤ c

-- the label of a node that isn't before a new run's
push-own-node : (m : Model) (c : ℕ) (rs : List Run) (r : Run) (n t : ℕ) → IsFirst m (last_of rs) r.node r.moment → r.node ≡ n → r.label ≤ c → run_label (rs ++ (r ∷ [])) n t ≤ c
push-own-node m c rs r n t h q fits = let x = label-own rs r n t q (omega (arith, h.moment)) in omega (arith, x, fits)

push-covers : (m : Model) (c : ℕ) (rs : List Run) (r : Run) → follows_run m (last_of rs) r.node r.moment r.label ≡ true → r.label ≤ c → Covers m c rs → Covers m c (rs ++ (r ∷ []))
unfolding Covers
push-covers m c rs r f fits h = grind (arith, last-push, follows-how, cases_eq, push-own-node, label-other, cases_lt, exits-at, label-before, label-own)

push-runs : (m : Model) (c : ℕ) (rs : List Run) (r : Run) → IsRun m c r → follows_run m (last_of rs) r.node r.moment r.label ≡ true → AreRuns m c rs → AreRuns m c (rs ++ (r ∷ []))
unfolding Covers
push-runs m c rs r is f h = record {
  each = All-push (IsRun m c) rs r h.each is;
  own = push-own m rs r c is.no_exit is.moment_in f h.own;
  covered = push-covers m c rs r f is.label_fits h.covered;
}

node-within : (m : Model) (name : NodeName) (n : ℕ) → node_of m name ≡ Some n → n < length m.nodes
node-within m name n e = grind (arith, position-Some, length-map)

empty-is : {X : Type 0} (xs : List X) → is_empty xs ≡ true → xs ≡ []
empty-is [] h = refl
empty-is (x ∷ xs) h = cc

-- a draft that has no moves
runs-say : (m : Model) (d : Draft) → d.moves ≡ [] → draft_entries m d ≡ (head_entries d.stage d.index d.people d.cleared ++ out_entries d.outs) ++ map (run_entry m) d.runs
unfolding says
runs-say m d moves = grind (arith, head_entries, says, append-nil, run_entry)

-- a list with one more after other entries
map-push : {X : Type 0} (f : X → Entry) (hs : List Entry) (xs : List X) (x : X) → hs ++ map f (xs ++ (x ∷ [])) ≡ (hs ++ map f xs) ++ (f x ∷ [])
map-push f hs xs x = ap (λ l. hs ++ l) (map-append f xs (x ∷ [])) ∙ sym (append_assoc hs (map f xs) (f x ∷ []))

run-next : (m : Model) (d : Draft) (name : NodeName) (t v : ℕ) (new : Draft) → IsDraft m d → option_and_then (λ n. with_run m d n t v) (node_of m name) ≡ Some new → IsNext m d (entries.Label name t v) new
run-next m d name t v new h e =
    let next : ℕ → Draft = λ n. record d { runs = d.runs ++ (record { node = n; moment = t; label = v } ∷ []) } in
    let f = follows (node_of m name) (λ n. with_run m d n t v) new e in
    let n = f.first in
    let r : Run = record { node = n; moment = t; label = v } in
    let k = chosen (is_run m d n t v) (next n) new f.then_value in
    let p0 = and_parts (is_curve d) (is_empty d.moves && (not (is_exit_at m n) && (nat_lt t d.cleared && (nat_le v d.cleared && follows_run m (last_of d.runs) n t v)))) k.test in
    let p1 = and_parts (is_empty d.moves) (not (is_exit_at m n) && (nat_lt t d.cleared && (nat_le v d.cleared && follows_run m (last_of d.runs) n t v))) p0.1 in
    let p2 = and_parts (not (is_exit_at m n)) (nat_lt t d.cleared && (nat_le v d.cleared && follows_run m (last_of d.runs) n t v)) p1.1 in
    let p3 = and_parts (nat_lt t d.cleared) (nat_le v d.cleared && follows_run m (last_of d.runs) n t v) p2.1 in
    let p4 = and_parts (nat_le v d.cleared) (follows_run m (last_of d.runs) n t v) p3.1 in
    let run : IsRun m d.cleared r = record {
      node_in = node-within m name n f.given;
      no_exit = not-true (is_exit_at m n) p2.0;
      moment_in = ltb-true t d.cleared p3.0;
      label_fits = leb-true v d.cleared p4.0;
    } in
    let moves : d.moves ≡ [] = empty-is d.moves p1.0 in
    let hs = head_entries d.stage d.index d.people d.cleared ++ out_entries d.outs in
    next-is m d (entries.Label name t v) (next n) new k.value (record {
      draft = record {
        heads = h.heads;
        outs = h.outs;
        no_outs = h.no_outs;
        runs = push-runs m d.cleared d.runs r run p4.1 h.runs;
        no_runs = λ no. (let z : true ≡ false = sym p0.0 ∙ no in cc);
        moves = h.moves;
        no_moves = λ _. moves;
      };
      entries = runs-say m (next n) moves ∙ map-push (run_entry m) hs d.runs r ∙ ap₂ (λ x y. x ++ (entries.Label y t v ∷ [])) (sym (runs-say m d moves)) (named m name n f.given);
    })

-- ---- moves

move-before : (q x : Move) → follows_move (Some q) x.moment x.arc ≡ true → Before q x
move-before q x h = grind (arith, or_cases, ltb-true, and_parts, eqb-true)

all-before : (p : List Move) (x : Move) (o : Option Move) → last_of p ≡ o → follows_move o x.moment x.arc ≡ true → AllPairs Before p → All (λ v. Before v x) p
all-before p x None e h pairs = last-none (λ v. Before v x) p e
all-before p x (Some q) e h pairs = before-all Before before-trans p q x pairs e (move-before q x h)

arc-within : (m : Model) (i j a : ℕ) → arc_of m i j ≡ Some a → a < length m.arcs
arc-within m i j a e = grind (arith, position-Some, length-map)

-- moves stand only after all the rest
may-move : (m : Model) (d : Draft) → IsDraft m d → (not (is_empty d.moves) || is_full m d) ≡ true → is_full m d ≡ true
may-move m d h test = full-by (is_full m d) refl
  where
    full-by : (b : Bool) → is_full m d ≡ b → is_full m d ≡ true
    full-by true e = e
    full-by false e = sym (ap (λ (v : List Move). not (is_empty v) || is_full m d) (h.no_moves e)) ∙ test

push-moves : (m : Model) (moves : List Move) (x : Move) → x.arc < length m.arcs → x.moment ≤ m.horizon → 0 < x.people → x.people ≤ number_field_limit
    → follows_move (last_of moves) x.moment x.arc ≡ true → AreMoves m moves → AreMoves m (moves ++ (x ∷ []))
push-moves m moves x arc_in moment_in some few f h = record {
  ordered = record {
    sorted = all_pairs_push Before moves x h.ordered.sorted (all-before moves x (last_of moves) refl f h.ordered.sorted);
    in_range = All-push (λ (v : Move). (v.arc < length m.arcs) × (v.moment ≤ m.horizon)) moves x h.ordered.in_range (arc_in, moment_in);
    somebody = All-push (λ (v : Move). 0 < v.people) moves x h.ordered.somebody some;
  };
  fit = All-push (λ (v : Move). v.people ≤ number_field_limit) moves x h.fit few;
}

move-named : (m : Model) (start finish : NodeName) (i j : ℕ) (x : Move) → node_of m start ≡ Some i → node_of m finish ≡ Some j → arc_of m i j ≡ Some x.arc
    → entry_of_move m x ≡ entries.Move x.moment start finish x.people
move-named m start finish i j x is_start is_finish is_arc = grind (arith, joined, named)

move-push : (m : Model) (d : Draft) (start finish : NodeName) (i j t a n : ℕ) (new : Draft) → n ≤ number_field_limit → IsDraft m d → node_of m start ≡ Some i → node_of m finish ≡ Some j
    → arc_of m i j ≡ Some a → cond (is_move m d t a n) (Some (record d { moves = d.moves ++ (record { moment = t; arc = a; people = n } ∷ []) })) None ≡ Some new
    → IsNext m d (entries.Move t start finish n) new
move-push m d start finish i j t a n new l h is_start is_finish is_arc e =
    let x : Move = record { moment = t; arc = a; people = n } in
    let next : Draft = record d { moves = d.moves ++ (x ∷ []) } in
    let k = chosen (is_move m d t a n) next new e in
    let p0 = and_parts (not (is_empty d.moves) || is_full m d) (nat_le t m.horizon && (nat_lt 0 n && follows_move (last_of d.moves) t a)) k.test in
    let p1 = and_parts (nat_le t m.horizon) (nat_lt 0 n && follows_move (last_of d.moves) t a) p0.1 in
    let p2 = and_parts (nat_lt 0 n) (follows_move (last_of d.moves) t a) p1.1 in
    let full = may-move m d h p0.0 in
    let hs = (head_entries d.stage d.index d.people d.cleared ++ out_entries d.outs) ++ map (run_entry m) d.runs in
    next-is m d (entries.Move t start finish n) next new k.value (record {
      draft = record {
        heads = h.heads;
        outs = h.outs;
        no_outs = h.no_outs;
        runs = h.runs;
        no_runs = h.no_runs;
        moves = push-moves m d.moves x (arc-within m i j a is_arc) (leb-true t m.horizon p1.0) (ltb-true 0 n p2.0) l p2.1 h.moves;
        no_moves = λ no. (let z : true ≡ false = sym full ∙ no in cc);
      };
      entries = map-push (entry_of_move m) hs d.moves x ∙ ap (λ y. draft_entries m d ++ (y ∷ [])) (move-named m start finish i j x is_start is_finish is_arc);
    })

move-next : (m : Model) (d : Draft) (t : ℕ) (start finish : NodeName) (n : ℕ) (new : Draft) → n ≤ number_field_limit → IsDraft m d → option_and_then (λ a. with_move m d t a n) (arc_between m start finish) ≡ Some new
    → IsNext m d (entries.Move t start finish n) new
move-next m d t start finish n new l h e =
    let f = follows (arc_between m start finish) (λ a. with_move m d t a n) new e in
    let g = follows (node_of m start) (λ i. option_and_then (λ j. arc_of m i j) (node_of m finish)) f.first f.given in
    let k = follows (node_of m finish) (λ j. arc_of m g.first j) f.first g.then_value in
    move-push m d start finish g.first k.first t f.first n new l h g.given k.given k.then_value f.then_value

-- ---- one line more

-- an entry that is said, and not the end
pub record IsPart (e : Entry) : Type 0 where
  pub is_said : says_something (Some e) ≡ true
  pub no_end : is_end e ≡ false

pub entry-next : (m : Model) (d : Draft) (e : Entry) (new : Draft) → IsPart e → IsEntry e → IsDraft m d → with_entry m d e ≡ Some new → IsNext m d e new
unfolding with_entry
entry-next m d entries.Blank new s l h e = let z = s.is_said in cc
entry-next m d (entries.Index i) new s l h e = index-next m d i new l h e
entry-next m d (entries.People p) new s l h e = people-next m d p new l h e
entry-next m d (entries.Cleared c) new s l h e = cleared-next m d c new h e
entry-next m d (entries.Out k n) new s l h e = out-next m d k n new l h e
entry-next m d (entries.Label name t v) new s l h e = run-next m d name t v new h e
entry-next m d (entries.Move t start finish n) new s l h e = move-next m d t start finish n new l h e
entry-next m d entries.End new s l h e = let z = s.no_end in cc

-- a blank line leaves a draft
pub blank-stays : (m : Model) (d : Draft) (e : Entry) → says_something (Some e) ≡ false → with_entry m d e ≡ Some d
unfolding with_entry
blank-stays m d entries.Blank h = refl
blank-stays m d _ h = cc

-- the end leaves one that is full
pub end-full : (m : Model) (d : Draft) (e : Entry) (new : Draft) → is_end e ≡ true → with_entry m d e ≡ Some new → (e ≡ entries.End) × (is_full m d ≡ true) × (new ≡ d)
unfolding with_entry
end-full m d entries.End new h e = let c = chosen (is_full m d) d new e in (refl, c.test, sym c.value)
end-full m d _ new h e = cc
