-- The runs of labels: their entries, and the labels that they give.
use Rattle.std.proofs.Common.{◌≡◌, ℕ, ◌-◌, ◌<◌, ◌≤◌, zero, suc, Bool, true, false, not, ◌&&◌, ◌||◌, cond, min, nat_eq, nat_le, List, [], ◌∷◌, ◌++◌, length, fold, map, refl, sym, ap, ap₂, ◌∙◌, inl, inr, arith, append_assoc, append-nil}
use Rattle.std.specs.List.{All, flat_map}
use Rattle.std.proofs.lemmas.Bool.{and_from, cases_eq, cases_lt, eq-eqb, eqb-true, le-leb, lt-leb, ne_eqb, not-false, not_from_true, or_from}
use Rattle.std.proofs.lemmas.Grind.{fold-append}
use Rattle.std.proofs.lemmas.List.Elements.{All-nil, All-push}
use Rattle.evac_law.specs.declared.model.Model.{Model}
use Rattle.evac_law.specs.Building.{is_exit_at, node_at}
use Rattle.evac_law.specs.LabelTable.{unset}
use Rattle.evac_law.specs.Sums.{below}
use Rattle.evac_law.proofs.PartLemmas.{flat_map-none, flat_map-suc}
use Rattle.certificate_text.specs.declared.entry.Entry.TheVariants as entries
use Rattle.block_reader.specs.declared.run.Run.{Run}
use Rattle.certificate_text.specs.BlockEntries.{label_entries, label_entry_at}
use Rattle.certificate_text.specs.BlockText.{begins_run}
use Rattle.block_reader.specs.DraftFacts.{all_runs, node_runs, run_part, run_parts}
use Rattle.block_reader.proofs.DraftEntries.{run_entry}
use Rattle.block_reader.specs.Drafts.{run_label}
use Rattle.block_reader.proofs.BlockLemmas.{fold-other}
use Rattle.certificate_text.proofs.ListParts.{below-same, map-flat_map}
use Rattle.certificate_text.proofs.OrderedMoves.{all-below}
use Rattle.block_reader.proofs.RunLabels.{label-none, label-push}

-- ---- entries

part-entry : (m : Model) (f : ℕ → ℕ → ℕ) (n t : ℕ) (b : Bool)
    → cond b (entries.Label (node_at m n).name t (f n t) ∷ []) [] ≡ map (run_entry m) (cond b (record { node = n; moment = t; label = f n t } ∷ []) [])
part-entry m f n t true = refl
part-entry m f n t false = refl

node-entry : (m : Model) (f : ℕ → ℕ → ℕ) (c n : ℕ) (b : Bool) → cond b [] (flat_map (label_entry_at m f n) (below c)) ≡ map (run_entry m) (cond b [] (run_parts f n c))
node-entry m f c n true = refl
node-entry m f c n false = grind (arith, below-same, run_entry, part-entry, map-flat_map)

-- the entries of labels are those of their runs
pub label_entries-runs : (m : Model) (f : ℕ → ℕ → ℕ) (c : ℕ) → label_entries m f c ≡ map (run_entry m) (all_runs m f c (length m.nodes))
label_entries-runs m f c = grind (arith, below-same, run_entry, node-entry, map-flat_map)

-- ---- where a run begins

pub begins-zero : (f : ℕ → ℕ) → begins_run f 0 ≡ true
begins-zero f = refl

pub begins-not : (f : ℕ → ℕ) (t : ℕ) → 0 < t → f t ≡ f (t - 1) → begins_run f t ≡ false
begins-not f t pos e = or_from (nat_eq t 0) (not (nat_eq (f t) (f (t - 1)))) (ne_eqb t 0 (λ q. omega (arith, q, pos))) (not_from_true (nat_eq (f t) (f (t - 1))) (eq-eqb (f t) (f (t - 1)) e))

pub stays : (f : ℕ → ℕ) (t : ℕ) → begins_run f t ≡ false → f t ≡ f (t - 1)
stays f t h = grind (arith, cases_eq, eq-eqb, eqb-true, not-false, ne_eqb)

pub later-part : (f : ℕ → ℕ) (t : ℕ) → begins_run f t ≡ false → 0 < t
later-part f t h = grind (arith, cases_eq, begins-zero)

pub parts-more : (f : ℕ → ℕ → ℕ) (n t : ℕ) (b : Bool) → begins_run (f n) t ≡ b
    → run_parts f n (suc t) ≡ run_parts f n t ++ cond b (record { node = n; moment = t; label = f n t } ∷ []) []
parts-more f n t b e = flat_map-suc (run_part f n) t ∙ ap (λ x. run_parts f n t ++ cond x (record { node = n; moment = t; label = f n t } ∷ []) []) e

part-same : (f g : ℕ → ℕ → ℕ) (n t : ℕ) → f n t ≡ g n t → f n (t - 1) ≡ g n (t - 1) → run_part f n t ≡ run_part g n t
part-same f g n t e h = ap₂ (λ x y. cond (nat_eq t 0 || not (nat_eq x y)) (record { node = n; moment = t; label = x } ∷ []) []) e h

pub parts-same : (f g : ℕ → ℕ → ℕ) (n c : ℕ) → ((t : ℕ) → t < c → f n t ≡ g n t) → run_parts f n c ≡ run_parts g n c
parts-same f g n c h = below-same (run_part f n) (run_part g n) c (λ t l. part-same f g n t (h t l) (h (t - 1) (omega (arith, l))))

pub runs-same : (m : Model) (f g : ℕ → ℕ → ℕ) (c k : ℕ) → ((n t : ℕ) → n < k → t < c → f n t ≡ g n t) → all_runs m f c k ≡ all_runs m g c k
runs-same m f g c k h = below-same (node_runs m f c) (node_runs m g c) k (λ n l. ap (λ x. cond (is_exit_at m n) [] x) (parts-same f g n c (λ t e. h n t l e)))

-- ---- the labels that runs give

one-of-node : (f : ℕ → ℕ → ℕ) (n t : ℕ) (b : Bool) → All (λ (r : Run). r.node ≡ n) (cond b (record { node = n; moment = t; label = f n t } ∷ []) [])
one-of-node f n t true = All-push (λ (r : Run). r.node ≡ n) [] (record { node = n; moment = t; label = f n t }) (All-nil (λ (r : Run). r.node ≡ n)) refl
one-of-node f n t false = All-nil (λ (r : Run). r.node ≡ n)

all-of-node : (m : Model) (f : ℕ → ℕ → ℕ) (c n : ℕ) (w : Bool) → All (λ (r : Run). r.node ≡ n) (cond w [] (run_parts f n c))
all-of-node m f c n true = All-nil (λ (r : Run). r.node ≡ n)
all-of-node m f c n false = all-below (λ (r : Run). r.node ≡ n) (run_part f n) c (λ t b. one-of-node f n t (begins_run (f n) t))

fold-more : (n t : ℕ) (xs ys : List Run) → run_label (xs ++ ys) n t ≡ fold (λ (x : ℕ) (r : Run). cond (nat_eq r.node n && nat_le r.moment t) r.label x) (run_label xs n t) ys
unfolding run_label
fold-more n t xs ys = fold-append (λ (x : ℕ) (r : Run). cond (nat_eq r.node n && nat_le r.moment t) r.label x) unset xs ys

-- the runs of another node leave a label
other-node : (m : Model) (f : ℕ → ℕ → ℕ) (c k n t : ℕ) → (k ≡ n → ⊥) → run_label (all_runs m f c (suc k)) n t ≡ run_label (all_runs m f c k) n t
other-node m f c k n t ne = grind (arith, flat_map-suc, fold-more, fold-other, all-of-node)

later-given : (m : Model) (f : ℕ → ℕ → ℕ) (c k n t : ℕ) → k ≤ n → run_label (all_runs m f c k) n t ≡ unset
later-given m f c zero n t h = ap (λ x. run_label x n t) (flat_map-none (node_runs m f c)) ∙ label-none n t
later-given m f c (suc k) n t h = other-node m f c k n t (λ e. omega (arith, e, h)) ∙ later-given m f c k n t (omega (arith, h))

exit-by : (m : Model) (f : ℕ → ℕ → ℕ) (c n t : ℕ) → is_exit_at m n ≡ true → run_label (all_runs m f c (suc n)) n t ≡ unset
exit-by m f c n t e = grind (arith, flat_map-suc, append-nil, later-given)

-- an exit has none
pub exit-given : (m : Model) (f : ℕ → ℕ → ℕ) (c k n t : ℕ) → is_exit_at m n ≡ true → run_label (all_runs m f c k) n t ≡ unset
exit-given m f c zero n t e = later-given m f c 0 n t (omega arith)
exit-given m f c (suc k) n t e =
    elim (cases_eq k n) [
      | inl q ↦ ap (λ i. run_label (all_runs m f c (suc i)) n t) q ∙ exit-by m f c n t e
      | inr ne ↦ other-node m f c k n t ne ∙ exit-given m f c k n t e
    ]

reached-run : (f : ℕ → ℕ → ℕ) (n t s : ℕ) (xs : List Run) → begins_run (f n) s ≡ true
    → run_label (xs ++ run_parts f n (suc s)) n t ≡ cond (nat_eq n n && nat_le s t) (f n s) (run_label (xs ++ run_parts f n s) n t)
reached-run f n t s xs b =
    let r : Run = record { node = n; moment = s; label = f n s } in
    ap (λ y. run_label (xs ++ y) n t) (parts-more f n s true b) ∙ ap (λ y. run_label y n t) (sym (append_assoc xs (run_parts f n s) (r ∷ []))) ∙ label-push (xs ++ run_parts f n s) r n t

reached-by : (f : ℕ → ℕ → ℕ) (n t s : ℕ) (xs : List Run) (b : Bool) → begins_run (f n) s ≡ b → (0 < s → run_label (xs ++ run_parts f n s) n t ≡ f n (min t (s - 1)))
    → run_label (xs ++ run_parts f n (suc s)) n t ≡ f n (min t s)
reached-by f n t s xs true e h = grind (arith, reached-run, cases_lt, eq-eqb, lt-leb, and_from, le-leb)
reached-by f n t s xs false e h =
    let pos = later-part (f n) s e in
    ap (λ y. run_label (xs ++ y) n t) (parts-more f n s false e ∙ append-nil (run_parts f n s)) ∙ h pos ∙ elim (cases_lt t s) [
      | inl l ↦ ap (f n) (let q : min t (s - 1) ≡ min t s = omega (arith, l) in q)
      | inr l ↦ ap (f n) (let q : min t (s - 1) ≡ s - 1 = omega (arith, l, pos) in q) ∙ sym (stays (f n) s e) ∙ ap (f n) (let q : s ≡ min t s = omega (arith, l) in q)
    ]

-- the runs of a node up to a moment give its label there, or at the last moment that they reach
reached : (f : ℕ → ℕ → ℕ) (n t s : ℕ) (xs : List Run) → 0 < s → run_label (xs ++ run_parts f n s) n t ≡ f n (min t (s - 1))
reached f n t zero xs h = absurd (omega (arith, h))
reached f n t (suc s) xs h = reached-by f n t s xs (begins_run (f n) s) refl (λ k. reached f n t s xs k) ∙ ap (λ k. f n (min t k)) (let q : s ≡ suc s - 1 = omega arith in q)

own-given : (m : Model) (f : ℕ → ℕ → ℕ) (c n t : ℕ) → is_exit_at m n ≡ false → t < c → run_label (all_runs m f c (suc n)) n t ≡ f n t
own-given m f c n t e h = grind (arith, flat_map-suc, reached)

-- the runs of labels give them back
pub runs-given : (m : Model) (f : ℕ → ℕ → ℕ) (c k n t : ℕ) → n < k → is_exit_at m n ≡ false → t < c → run_label (all_runs m f c k) n t ≡ f n t
runs-given m f c zero n t a e h = absurd (omega (arith, a))
runs-given m f c (suc k) n t a e h =
    elim (cases_eq k n) [
      | inl q ↦ ap (λ i. run_label (all_runs m f c (suc i)) n t) q ∙ own-given m f c n t e h
      | inr ne ↦ other-node m f c k n t ne ∙ runs-given m f c k n t (omega (arith, a, ne)) e h
    ]
