-- Which run may stand after the ones before it.
use Rattle.std.proofs.Common.{◌≡◌, ℕ, ◌+◌, ◌-◌, ◌<◌, ◌≤◌, ◌⊎◌, zero, suc, Bool, true, false, not, ◌&&◌, cond, nat_eq, nat_lt, List, [], ◌∷◌, ◌++◌, Some, None, refl, sym, subst, ap, ◌∙◌, inl, inr, arith, append_assoc, append-nil}
use Rattle.std.specs.declared.option.Option.{Option}
use Rattle.std.proofs.lemmas.Bool.{and_from, and_parts, cases_eq, cases_lt, eq-eqb, eqb-false, eqb-true, lt-ltb, ltb-true, ne_eqb, not-true}
use Rattle.evac_law.specs.declared.model.Model.{Model}
use Rattle.evac_law.specs.Building.{is_exit_at}
use Rattle.block_reader.specs.declared.run.Run.{Run}
use Rattle.certificate_text.specs.BlockText.{begins_run}
use Rattle.block_reader.specs.DraftFacts.{all_runs, node_runs, run_parts}
use Rattle.block_reader.specs.Drafts.{behind_run, follows_run, last_of, only_exits, run_label}
use Rattle.block_reader.proofs.ExitLemmas.{exits-at, exits-from}
use Rattle.block_reader.proofs.LastLemmas.{last-push, last-split}
use Rattle.certificate_text.proofs.ListParts.{below-stop}
use Rattle.block_reader.proofs.RunLabels.{label-before, label-other, label-own}
use Rattle.block_reader.proofs.Runs.{begins-not, begins-zero, later-part, parts-more, parts-same, runs-same, stays}
use Rattle.evac_law.proofs.PartLemmas.{flat_map-suc}

-- ---- how a run follows

-- a run is the first of its node, with only exits before it that have none, at moment 0
pub record IsFirst (m : Model) (o : Option Run) (n t : ℕ) : Type 0 where
  pub moment : t ≡ 0
  pub behind : behind_run o ≤ n
  pub exits : only_exits m (behind_run o) n ≡ true

-- a run is a further one of its node, at a later moment and with another label
pub record IsFurther (o : Option Run) (n t v : ℕ) : Type 0 where
  pub last : Run
  pub is : o ≡ Some last
  pub node : last.node ≡ n
  pub moment : last.moment < t
  pub differs : v ≡ last.label → ⊥

pub follows-how : (m : Model) (o : Option Run) (n t v : ℕ) → follows_run m o n t v ≡ true → IsFirst m o n t ⊎ IsFurther o n t v
follows-how m None n t v h =
    let p = and_parts (nat_eq t 0) (only_exits m 0 n) h in inl (record { moment = eqb-true t 0 p.0; behind = omega arith; exits = p.1 })
follows-how m (Some r) n t v h = elim (cases_eq n r.node) [
  | inl q ↦ let p = and_parts (nat_lt r.moment t) (not (nat_eq v r.label)) (rw (eq-eqb n r.node q) at h) in
      inr (record { last = r; is = refl; node = sym q; moment = ltb-true r.moment t p.0; differs = eqb-false v r.label (not-true (nat_eq v r.label) p.1) })
  | inr ne ↦ let p = and_parts (nat_lt r.node n) (nat_eq t 0 && only_exits m (r.node + 1) n) (rw (ne_eqb n r.node ne) at h) in
      let q = and_parts (nat_eq t 0) (only_exits m (r.node + 1) n) p.1 in
      inl (record { moment = eqb-true t 0 q.0; behind = (let l = ltb-true r.node n p.0 in omega (arith, l)); exits = q.1 })
]

pub first-follows : (m : Model) (o : Option Run) (n v : ℕ) → behind_run o ≤ n → only_exits m (behind_run o) n ≡ true → follows_run m o n 0 v ≡ true
first-follows m None n v l h = h
first-follows m (Some r) n v l h = grind (arith, ne_eqb, and_from, lt-ltb)

further-follows : (m : Model) (r : Run) (n t v : ℕ) → r.node ≡ n → r.moment < t → not (nat_eq v r.label) ≡ true → follows_run m (Some r) n t v ≡ true
further-follows m r n t v e l h = grind (arith, eq-eqb, and_from, lt-ltb)

-- ---- the last of a block's runs

pub record LastWithin (f : ℕ → ℕ → ℕ) (n t : ℕ) (o : Option Run) : Type 0 where
  pub run : Run
  pub is : o ≡ Some run
  pub node : run.node ≡ n
  pub moment : run.moment < t
  pub label : run.label ≡ f n (t - 1)

within-by : (f : ℕ → ℕ → ℕ) (n t : ℕ) (xs : List Run) (b : Bool) → begins_run (f n) t ≡ b
    → (0 < t → LastWithin f n t (last_of (xs ++ run_parts f n t))) → LastWithin f n (suc t) (last_of (xs ++ run_parts f n (suc t)))
within-by f n t xs true e h = record {
  run = record { node = n; moment = t; label = f n t };
  is = ap (λ y. last_of (xs ++ y)) (parts-more f n t true e)
      ∙ ap last_of (sym (append_assoc xs (run_parts f n t) (record { node = n; moment = t; label = f n t } ∷ []))) ∙ last-push (xs ++ run_parts f n t) (record { node = n; moment = t; label = f n t });
  node = refl;
  moment = omega arith;
  label = ap (f n) (let q : t ≡ suc t - 1 = omega arith in q);
}
within-by f n t xs false e h =
    let w = h (later-part (f n) t e) in record {
      run = w.run;
      is = ap (λ y. last_of (xs ++ y)) (parts-more f n t false e ∙ append-nil (run_parts f n t)) ∙ w.is;
      node = w.node;
      moment = omega (arith, w.moment);
      label = w.label ∙ sym (stays (f n) t e) ∙ ap (f n) (let q : t ≡ suc t - 1 = omega arith in q);
    }

-- within a node the last run is of it, and has its label at the moment before
pub last-within : (f : ℕ → ℕ → ℕ) (n t : ℕ) (xs : List Run) → 0 < t → LastWithin f n t (last_of (xs ++ run_parts f n t))
last-within f n zero xs h = absurd (omega (arith, h))
last-within f n (suc t) xs h = within-by f n t xs (begins_run (f n) t) refl (λ k. last-within f n t xs k)

-- before a node the last run leaves only exits
pub record LastBefore (m : Model) (n : ℕ) (o : Option Run) : Type 0 where
  pub behind : behind_run o ≤ n
  pub exits : only_exits m (behind_run o) n ≡ true

pub no-exits : (m : Model) (a n : ℕ) → n ≤ a → only_exits m a n ≡ true
no-exits m a n l = exits-from m a n (λ i k g. absurd (omega (arith, l, k, g)))

-- past an exit
pub before-exit : (m : Model) (n : ℕ) (o : Option Run) → is_exit_at m n ≡ true → LastBefore m n o → LastBefore m (suc n) o
before-exit m n o e h = record {
  behind = omega (arith, h.behind);
  exits = exits-from m (behind_run o) (suc n) (λ i k g. elim (cases_lt i n) [
    | inl b ↦ exits-at m (behind_run o) n i h.exits g b
    | inr b ↦ let q : i ≡ n = omega (arith, k, b) in ap (is_exit_at m) q ∙ e
  ]);
}

-- after a run of it
pub before-next : (m : Model) (n : ℕ) (o : Option Run) (r : Run) → o ≡ Some r → r.node ≡ n → LastBefore m (suc n) o
before-next m n o r is e =
    let at : behind_run o ≡ suc n = ap behind_run is ∙ (let q : r.node + 1 ≡ suc n = omega (arith, e) in q) in
    record { behind = omega (arith, at); exits = ap (λ a. only_exits m a (suc n)) at ∙ no-exits m (suc n) (suc n) (omega arith) }

before-by : (m : Model) (f : ℕ → ℕ → ℕ) (c n : ℕ) (b : Bool) → is_exit_at m n ≡ b → 0 < c → LastBefore m n (last_of (all_runs m f c n))
    → LastBefore m (suc n) (last_of (all_runs m f c n ++ cond b [] (run_parts f n c)))
before-by m f c n true e pos h = grind (arith, append-nil, before-exit)
before-by m f c n false e pos h =
    let w = last-within f n c (all_runs m f c n) pos in before-next m n (last_of (all_runs m f c n ++ run_parts f n c)) w.run w.is w.node

pub last-before : (m : Model) (f : ℕ → ℕ → ℕ) (c n : ℕ) → 0 < c → LastBefore m n (last_of (all_runs m f c n))
last-before m f c zero pos = record { behind = omega arith; exits = no-exits m 0 0 (omega arith) }
last-before m f c (suc n) pos =
    subst (λ (xs : List Run). LastBefore m (suc n) (last_of xs)) (sym (flat_map-suc (node_runs m f c) n)) (before-by m f c n (is_exit_at m n) refl pos (last-before m f c n pos))

differs : (f : ℕ → ℕ) (t x : ℕ) → begins_run f t ≡ true → 0 < t → x ≡ f (t - 1) → not (nat_eq (f t) x) ≡ true
differs f t x h pos e = grind (arith, ne_eqb)

-- a run of a block's labels may stand after those before it
pub runs-follow : (m : Model) (f : ℕ → ℕ → ℕ) (c n t : ℕ) → t < c → begins_run (f n) t ≡ true → follows_run m (last_of (all_runs m f c n ++ run_parts f n t)) n t (f n t) ≡ true
runs-follow m f c n zero h b = grind (arith, last-before, append-nil, first-follows)
runs-follow m f c n (suc t) h b =
    let w = last-within f n (suc t) (all_runs m f c n) (omega arith) in
    ap (λ o. follows_run m o n (suc t) (f n (suc t))) w.is ∙ further-follows m w.run n (suc t) (f n (suc t)) w.node w.moment (differs (f n) (suc t) w.run.label b (omega arith) w.label)

-- ---- runs that follow each other are those of the labels that they give

abbrev pub AreOwn : Model → ℕ → List Run → Type 0
AreOwn m c rs = all_runs m (run_label rs) c (behind_run (last_of rs)) ≡ rs

quiet : (f : ℕ → ℕ → ℕ) (n a c : ℕ) → 0 < a → a ≤ c → ((i : ℕ) → a ≤ i → f n i ≡ f n (i - 1)) → run_parts f n c ≡ run_parts f n a
quiet f n a c pos l same =
    below-stop (λ t. cond (begins_run (f n) t) (record { node = n; moment = t; label = f n t } ∷ []) []) a c l
    (λ i b k. ap (λ w. cond w (record { node = n; moment = i; label = f n i } ∷ []) []) (begins-not (f n) i (omega (arith, pos, b)) (same i b)))

-- the last run gives its label from its moment on
last-given : (rs : List Run) (r : Run) (t : ℕ) → last_of rs ≡ Some r → r.moment ≤ t → run_label rs r.node t ≡ r.label
last-given rs r t e l = let s = last-split rs r e in ap (λ x. run_label x r.node t) s.1 ∙ label-own s.0 r r.node t refl l

run : ℕ → ℕ → ℕ → Run
run n t v = record { node = n; moment = t; label = v }

-- the node of a new run has the runs up to its moment, and it
node-tail : (m : Model) (rs : List Run) (r : Run) (c : ℕ) → is_exit_at m r.node ≡ false → r.moment < c → begins_run (run_label (rs ++ (r ∷ [])) r.node) r.moment ≡ true
    → node_runs m (run_label (rs ++ (r ∷ []))) c r.node ≡ run_parts (run_label rs) r.node r.moment ++ (r ∷ [])
unfolding run
node-tail m rs r c e l begins =
    let f = run_label (rs ++ (r ∷ [])) in
    let n = r.node in
    let t = r.moment in
    let given = λ (s : ℕ) (k : t ≤ s). label-own rs r n s refl k in
    ap (λ b. cond b [] (run_parts f n c)) e
    ∙ quiet f n (suc t) c (omega arith) (omega arith) (λ i k. given i (omega (arith, k)) ∙ sym (given (i - 1) (omega (arith, k))))
    ∙ parts-more f n t true begins
    ∙ ap (λ v. run_parts f n t ++ (run n t v ∷ [])) (given t (omega arith))
    ∙ ap (λ ps. ps ++ (r ∷ [])) (parts-same f (run_label rs) n t (λ s k. label-before rs r n s k))

-- the nodes before that of a new run keep theirs
nodes-kept : (m : Model) (rs : List Run) (r : Run) (c k : ℕ) → k ≤ r.node → all_runs m (run_label (rs ++ (r ∷ []))) c k ≡ all_runs m (run_label rs) c k
nodes-kept m rs r c k l = runs-same m (run_label (rs ++ (r ∷ []))) (run_label rs) c k (λ n t h g. label-other rs r n t (λ e. omega (arith, e, h, l)))

push-by : (m : Model) (rs : List Run) (r : Run) (c : ℕ) → is_exit_at m r.node ≡ false → r.moment < c → begins_run (run_label (rs ++ (r ∷ [])) r.node) r.moment ≡ true
    → all_runs m (run_label rs) c r.node ++ run_parts (run_label rs) r.node r.moment ≡ rs → AreOwn m c (rs ++ (r ∷ []))
push-by m rs r c e l begins before =
    let f = run_label (rs ++ (r ∷ [])) in
    ap (all_runs m f c) (ap behind_run (last-push rs r) ∙ (let q : r.node + 1 ≡ suc r.node = omega arith in q))
    ∙ flat_map-suc (node_runs m f c) r.node
    ∙ ap (λ x. x ++ node_runs m f c r.node) (nodes-kept m rs r c r.node (omega arith))
    ∙ ap (λ x. all_runs m (run_label rs) c r.node ++ x) (node-tail m rs r c e l begins)
    ∙ sym (append_assoc (all_runs m (run_label rs) c r.node) (run_parts (run_label rs) r.node r.moment) (r ∷ []))
    ∙ ap (λ x. x ++ (r ∷ [])) before

first-own : (m : Model) (rs : List Run) (r : Run) (c : ℕ) → is_exit_at m r.node ≡ false → r.moment < c → IsFirst m (last_of rs) r.node r.moment → AreOwn m c rs → AreOwn m c (rs ++ (r ∷ []))
first-own m rs r c e l h own = grind (arith, push-by, begins-zero, append-nil, below-stop, exits-at)

further-own : (m : Model) (rs : List Run) (r : Run) (c : ℕ) → is_exit_at m r.node ≡ false → r.moment < c → IsFurther (last_of rs) r.node r.moment r.label → AreOwn m c rs → AreOwn m c (rs ++ (r ∷ []))
further-own m rs r c e l h own =
    let f = run_label rs in
    let n = r.node in
    let t = r.moment in
    let q = h.last in
    let given = λ (s : ℕ) (k : q.moment ≤ s). ap (λ i. run_label rs i s) (sym h.node) ∙ last-given rs q s h.is k in
    let pos : 0 < t = omega (arith, h.moment) in
    let here : run_label (rs ++ (r ∷ [])) n t ≡ r.label = label-own rs r n t refl (omega arith) in
    let before : run_label (rs ++ (r ∷ [])) n (t - 1) ≡ q.label = label-before rs r n (t - 1) (omega (arith, pos)) ∙ given (t - 1) (omega (arith, h.moment)) in
    let ends : behind_run (last_of rs) ≡ suc n = ap behind_run h.is ∙ (let k : q.node + 1 ≡ suc n = omega (arith, h.node) in k) in
    push-by m rs r c e l (apart (run_label (rs ++ (r ∷ [])) n) t (λ k. h.differs (sym here ∙ k ∙ before)))
    (ap (λ ps. all_runs m f c n ++ ps) (sym (ap (λ b. cond b [] (run_parts f n c)) e ∙ quiet f n t c pos (omega (arith, l)) (λ i k. given i (omega (arith, k, h.moment)) ∙ sym (given (i - 1) (omega (arith, k, h.moment))))))
    ∙ sym (flat_map-suc (node_runs m f c) n) ∙ ap (all_runs m f c) (sym ends) ∙ own)
  where
    apart : (g : ℕ → ℕ) (t : ℕ) → (g t ≡ g (t - 1) → ⊥) → begins_run g t ≡ true
    apart g t h = apart-by g t (begins_run g t) refl h
      where
        apart-by : (g : ℕ → ℕ) (t : ℕ) (b : Bool) → begins_run g t ≡ b → (g t ≡ g (t - 1) → ⊥) → begins_run g t ≡ true
        apart-by g t true e h = e
        apart-by g t false e h = absurd (h (stays g t e))

-- with one run more
pub push-own : (m : Model) (rs : List Run) (r : Run) (c : ℕ) → is_exit_at m r.node ≡ false → r.moment < c → follows_run m (last_of rs) r.node r.moment r.label ≡ true → AreOwn m c rs → AreOwn m c (rs ++ (r ∷ []))
push-own m rs r c e l h own = grind (arith, follows-how, first-own, further-own)

-- all of the runs, where only exits come after the last one
pub whole-own : (m : Model) (rs : List Run) (c n : ℕ) → LastBefore m n (last_of rs) → AreOwn m c rs → all_runs m (run_label rs) c n ≡ rs
whole-own m rs c n h own = grind (arith, below-stop, exits-at)
