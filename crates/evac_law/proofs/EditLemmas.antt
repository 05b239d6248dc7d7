-- An edit keeps a model valid, and its inverse undoes it.
use Rattle.std.proofs.Common.{◌≡◌, ◌≢◌, ℕ, zero, suc, ◌+◌, ◌-◌, ◌<◌, ◌≤◌, Bool, true, false, cond, not, ◌||◌, eqb, leb, ltb, List, [], ◌∷◌, length, get_or, set, refl, ap, ap₂, sym, ◌∙◌, arith, subst, Result, Ok, Err, Some, None, IfOk, OnOk, IsTrue}
use Rattle.std.specs.List.{list_any, position, remove}
use Rattle.std.proofs.lemmas.List.{length-set, get_or-set_same, get_or-set_other, set-set, set-get_or}
use Rattle.std.proofs.lemmas.List.Sums.{sum_by-set}
use Rattle.std.proofs.lemmas.List.Elements.{All-weaker, All-get_or, All-set}
use Rattle.std.proofs.lemmas.Bool.{ltb-false, leb-false, le-ltb, lt-leb, eqb-false, ne_eqb, not-false, both_ways, cond-false, or_parts, or_from}
use Rattle.evac_law.specs.declared.model.NodeRow.{NodeRow}
use Rattle.evac_law.specs.declared.model.ArcRow.{ArcRow}
use Rattle.evac_law.specs.declared.model.Model.{Model}
use Rattle.evac_law.specs.declared.edit.Edit.{Edit}
use Rattle.evac_law.specs.declared.edit.Edit.TheVariants.{Shut, Reopen, ShutExit, ReopenExit, Rate, Room, Shift, Enter, Leave, Window, Unwindow}
use Rattle.evac_law.specs.declared.edit.EditFault.{EditFault}
use Rattle.evac_law.specs.declared.edit.EditFault.TheVariants.{NoWindow}
use Rattle.evac_law.specs.Limits.{horizon_limit, rate_limit, capacity_limit, people_limit, window_limit}
use Rattle.evac_law.specs.Building.{start, IsValid, IsNode, IsArc, IsEntrant, is_exit_at, node_at, arc_at, no_node, no_arc, tail, head, capacity, people}
use Rattle.evac_law.specs.Names.{is_exit}
use Rattle.evac_law.specs.Edits.{IsEditOf, applied, unless, checks, edited, inverse_of, windows_at, with_arc, with_node, with_start, with_windows}
use Rattle.evac_law.specs.Windows.{AreWindows, IsWindow, is_same_window, overlaps, with_window, without_window, window_of}
use Rattle.evac_law.proofs.WindowLemmas.{fewer_without, has_none, has_some, has_with, none_without, remove_some, window_among, windows_with, windows_without, with_without, without_with}
use Rattle.evac_law.specs.declared.window.Window.{Window as ClosureWindow}
use Rattle.evac_law.proofs.ValidLemmas.{node_is}

-- no check holds
abbrev pub NoneHolds : List (Bool × EditFault) → Type 0
NoneHolds [] = Unit {0}
NoneHolds (c ∷ cs) = (c.0 ≡ false) × NoneHolds cs

passed : {A : Type 0} (b : Bool) (f : EditFault) (x : Result A EditFault) (y : A) → cond b (Err f) x ≡ Ok y → (b ≡ false) × (x ≡ Ok y)
passed true f x y e = absurd (cc)
passed false f x y e = (refl, e)

pub unless-Ok : {A : Type 0} (cs : List (Bool × EditFault)) (x y : A) → unless cs x ≡ Ok y → NoneHolds cs × (x ≡ y)
unless-Ok [] x y e = (tt, cc)
unless-Ok (c ∷ cs) x y e =
    let first = passed c.0 c.1 (unless cs x) y e in
    let rest = unless-Ok cs x y first.1 in
    ((first.0, rest.0), rest.1)

pub unless-none : {A : Type 0} (cs : List (Bool × EditFault)) (x : A) → NoneHolds cs → unless cs x ≡ Ok x
unless-none [] x h = refl
unless-none (c ∷ cs) x h = cond-false c.0 (Err c.1) (unless cs x) h.0 ∙ unless-none cs x h.1

-- what a write keeps of each element
pub at-set : {X Y : Type 0} (f : X → Y) (xs : List X) (n : ℕ) (y d : X) → f y ≡ f (get_or xs n d)
    → (i : ℕ) → f (get_or (set xs n y) i d) ≡ f (get_or xs i d)
at-set f [] n y d e i = refl
at-set f (x ∷ xs) zero y d e zero = e
at-set f (x ∷ xs) zero y d e (suc i) = refl
at-set f (x ∷ xs) (suc n) y d e zero = refl
at-set f (x ∷ xs) (suc n) y d e (suc i) = at-set f xs n y d e i

pub people-set : (m : Model) (n : ℕ) (row : NodeRow) → n < length m.nodes → people (with_node m n row) + start m n ≡ people m + row.start
unfolding people
people-set m n row l = omega (arith, sum_by-set (λ r. r.start) m.nodes n row no_node l)

-- ---- valid after a write

pub valid_node : (m : Model) (n : ℕ) (row : NodeRow) → IsValid m → n < length m.nodes → row.name ≡ (node_at m n).name
    → IsNode row → people (with_node m n row) ≤ people_limit → IsValid (with_node m n row)
valid_node m n row v l same node few =
    let long = length-set m.nodes n row in
    let name_at = at-set (λ r. r.name) m.nodes n row no_node same in
    record {
      seconds = v.seconds;
      horizon = v.horizon;
      nodes_fit = omega (arith, long, v.nodes_fit);
      arcs_fit = v.arcs_fit;
      cells_fit = rw long v.cells_fit;
      people_fit = few;
      nodes = All-set IsNode m.nodes n row node v.nodes;
      names_differ = λ i j a b e. v.names_differ i j a (omega (arith, long, b)) (sym (name_at i) ∙ e ∙ name_at j);
      arcs = All-weaker (IsArc m.nodes) (IsArc (set m.nodes n row))
          (λ a h. record {
            from_in = omega (arith, long, h.from_in);
            to_in = omega (arith, long, h.to_in);
            apart = h.apart;
            from_no_exit = ap (λ z. is_exit z.kind) (name_at a.from) ∙ h.from_no_exit;
            travel_fits = h.travel_fits;
            rate_fits = h.rate_fits;
            windows = h.windows;
          }) m.arcs v.arcs;
      ends_differ = v.ends_differ;
      entrants = All-weaker (IsEntrant m.nodes m.horizon) (IsEntrant (set m.nodes n row) m.horizon)
          (λ e h. record {
            node_in = omega (arith, long, h.node_in);
            no_exit = ap (λ z. is_exit z.kind) (name_at e.node) ∙ h.no_exit;
            later = h.later;
            in_horizon = h.in_horizon;
            somebody = h.somebody;
          }) m.entrants v.entrants;
      entrants_sorted = v.entrants_sorted;
    }

pub valid_arc : (m : Model) (a : ℕ) (row : ArcRow) → IsValid m → a < length m.arcs → row.from ≡ tail m a → row.to ≡ head m a
    → row.travel ≡ (arc_at m a).travel → row.rate ≤ rate_limit → AreWindows row.windows.items → IsValid (with_arc m a row)
unfolding people
valid_arc m a row v l from to travel few apart =
    let long = length-set m.arcs a row in
    let old = All-get_or (IsArc m.nodes) m.arcs a no_arc l v.arcs in
    let from_at = at-set (λ r. r.from) m.arcs a row no_arc from in
    let to_at = at-set (λ r. r.to) m.arcs a row no_arc to in
    let new : IsArc m.nodes row = record {
      from_in = rw from old.from_in;
      to_in = rw to old.to_in;
      apart = rw (from, to) old.apart;
      from_no_exit = rw from old.from_no_exit;
      travel_fits = rw travel old.travel_fits;
      rate_fits = few;
      windows = apart;
    } in
    record {
      seconds = v.seconds;
      horizon = v.horizon;
      nodes_fit = v.nodes_fit;
      arcs_fit = omega (arith, long, v.arcs_fit);
      cells_fit = rw long v.cells_fit;
      people_fit = v.people_fit;
      nodes = v.nodes;
      names_differ = v.names_differ;
      arcs = All-set (IsArc m.nodes) m.arcs a row new v.arcs;
      ends_differ = λ i j p q e d. v.ends_differ i j p (omega (arith, long, q)) (sym (from_at i) ∙ e ∙ from_at j) (sym (to_at i) ∙ d ∙ to_at j);
      entrants = v.entrants;
      entrants_sorted = v.entrants_sorted;
    }

pub rate_of : (m : Model) (a : ℕ) → IsValid m → a < length m.arcs → (arc_at m a).rate ≤ rate_limit
rate_of m a v l = (All-get_or (IsArc m.nodes) m.arcs a no_arc l v.arcs).rate_fits

windows_of : (m : Model) (a : ℕ) → IsValid m → a < length m.arcs → AreWindows (windows_at m a)
windows_of m a v l = (All-get_or (IsArc m.nodes) m.arcs a no_arc l v.arcs).windows

valid_windows : (m : Model) (a : ℕ) (ws : List ClosureWindow) → IsValid m → a < length m.arcs → AreWindows ws → IsValid (with_windows m a ws)
valid_windows m a ws v l are = valid_arc m a (record (arc_at m a) { windows = record { items = ws } }) v l refl refl refl (rate_of m a v l) are

-- the numbers that the checks let through are those of a window
window_is : (p q : ℕ) → (ltb horizon_limit p || (eqb q 0 || ltb (horizon_limit + 1) q)) ≡ false → leb q p ≡ false → IsWindow (window_of p q)
window_is p q range order = grind (arith, or_parts, leb-false, ltb-false)

-- and the checks let the numbers of a window through
in_range : (p q : ℕ) → IsWindow (window_of p q) → (ltb horizon_limit p || (eqb q 0 || ltb (horizon_limit + 1) q)) ≡ false
in_range p q is = grind (arith, or_from, le-ltb, ne_eqb)

pub valid_shut : (m : Model) (n : ℕ) (b : Bool) → IsValid m → n < length m.nodes → (IsTrue b → IsTrue (is_exit_at m n))
    → IsValid (with_node m n (record (node_at m n) { shut = b }))
valid_shut m n b v l exit =
    let old = node_is m n v l in
    valid_node m n (record (node_at m n) { shut = b }) v l refl
    (record {
      name = old.name;
      start_fits = old.start_fits;
      capacity_fits = old.capacity_fits;
      exit_is_empty = old.exit_is_empty;
      only_exits_shut = exit;
    })
    (omega (arith, people-set m n (record (node_at m n) { shut = b }) l, v.people_fit))

pub valid_start : (m : Model) (n s : ℕ) → IsValid m → n < length m.nodes → s ≤ capacity m n
    → people m + s ≤ people_limit + start m n → IsValid (with_start m n s)
valid_start m n s v l fits few =
    let old = node_is m n v l in
    valid_node m n (record (node_at m n) { start = s }) v l refl
    (record {
      name = old.name;
      start_fits = fits;
      capacity_fits = old.capacity_fits;
      exit_is_empty = old.exit_is_empty;
      only_exits_shut = old.only_exits_shut;
    })
    (omega (arith, people-set m n (record (node_at m n) { start = s }) l))

-- ---- valid after an edit

pub valid_edited : (m : Model) (e : Edit) → IsValid m → IsEditOf m e → NoneHolds (checks m e) → IsValid (edited m e)
valid_edited m (Shut a) v l h =
    valid_arc m a (record (arc_at m a) { shut = true }) v l refl refl refl (rate_of m a v l) (windows_of m a v l)
valid_edited m (Reopen a) v l h =
    valid_arc m a (record (arc_at m a) { shut = false }) v l refl refl refl (rate_of m a v l) (windows_of m a v l)
valid_edited m (ShutExit n) v l h = valid_shut m n true v l (λ _. not-false _ h.0)
valid_edited m (ReopenExit n) v l h = valid_shut m n false v l (λ _. not-false _ h.0)
valid_edited m (Rate a r) v l h =
    valid_arc m a (record (arc_at m a) { rate = r }) v l refl refl refl (omega (arith, ltb-false rate_limit r h.0)) (windows_of m a v l)
valid_edited m (Room n c) v l h =
    let old = node_is m n v l in
    valid_node m n (record (node_at m n) { capacity = c }) v l refl
    (record {
      name = old.name;
      start_fits = ltb-false c (start m n) h.1.1.0;
      capacity_fits = ltb-false capacity_limit c h.1.0;
      exit_is_empty = λ e. absurd (both_ways _ h.0 e);
      only_exits_shut = old.only_exits_shut;
    })
    (omega (arith, people-set m n (record (node_at m n) { capacity = c }) l, v.people_fit))
valid_edited m (Shift a b p) v l h =
    let apart = eqb-false a b h.0 in
    let enough = ltb-false (start m a) p h.1.1.1.0 in
    let room = ltb-false (capacity m b) (start m b + p) h.1.1.1.1.0 in
    let less = with_start m a (start m a - p) in
    let old = node_is m a v l.0 in
    let fits : start m a - p ≤ capacity m a = omega (arith, old.start_fits) in
    let valid_less = valid_start m a (start m a - p) v l.0 fits (omega (arith, v.people_fit)) in
    let same : node_at less b ≡ node_at m b =
    get_or-set_other m.nodes a b (record (node_at m a) { start = start m a - p }) no_node (λ e. apart (sym e)) in
    let b_in : b < length less.nodes = omega (arith, l.1, length-set m.nodes a (record (node_at m a) { start = start m a - p })) in
    let people_less = people-set m a (record (node_at m a) { start = start m a - p }) l.0 in
    valid_start less b (start m b + p) valid_less b_in
    (omega (arith, room, ap (λ r. r.capacity) same))
    (omega (arith, people_less, enough, v.people_fit, ap (λ r. r.start) same))
valid_edited m (Enter n p) v l h =
    let few = ltb-false people_limit (people m + p) h.1.1.0 in
    let room = ltb-false (capacity m n) (start m n + p) h.1.1.1.0 in
    valid_start m n (start m n + p) v l (omega arith) (omega arith)
valid_edited m (Leave n p) v l h =
    let old = node_is m n v l in
    valid_start m n (start m n - p) v l (omega (arith, old.start_fits)) (omega (arith, v.people_fit))
valid_edited m (Window a p q) v l h =
    let ws = windows_at m a in
    let are = windows_with ws (window_of p q) (windows_of m a v l) (window_is p q h.0 h.1.0) h.1.1.0 (leb-false window_limit (length ws) h.1.1.1.0) in
    valid_windows m a (with_window ws (window_of p q)) v l are
valid_edited m (Unwindow a p q) v l h =
    valid_windows m a _ v l (windows_without (windows_at m a) (window_of p q) (windows_of m a v l))

-- ---- an edit that is accepted

pub is_edited : (m m' : Model) (e e' : Edit) → applied m e ≡ Ok (m', e') → edited m e ≡ m'
is_edited m m' e e' h = ap (λ t. t.0) (unless-Ok (checks m e) (edited m e, inverse_of m e) (m', e') h).1

pub valid_applied : (m : Model) (e : Edit) (m' : Model) (r : Result Edit EditFault) → IsValid m → IsEditOf m e
    → IfOk r (λ e'. applied m e ≡ Ok (m', e')) → OnOk r (IsValid m')
valid_applied m e m' (Ok e') v l h =
    let done = unless-Ok (checks m e) (edited m e, inverse_of m e) (m', e') h in
    subst IsValid (ap (λ t. t.0) done.1) (valid_edited m e v l done.0)
valid_applied m e m' (Err f) v l h = tt

-- ---- a window that is taken away

pub unwindow_some : (m : Model) (a p q i : ℕ) → position (λ v. is_same_window v (window_of p q)) (windows_at m a) ≡ Some i
    → applied m (Unwindow a p q) ≡ Ok (with_windows m a (remove (windows_at m a) i), Window a p q)
unwindow_some m a p q i e = grind (arith, has_some, remove_some)

pub unwindow_none : (m : Model) (a p q : ℕ) → position (λ v. is_same_window v (window_of p q)) (windows_at m a) ≡ None
    → applied m (Unwindow a p q) ≡ Err NoWindow
unwindow_none m a p q e = rw (has_none (windows_at m a) (window_of p q) e) refl

-- ---- the inverse undoes an edit

set_back : {X : Type 0} (xs : List X) (i : ℕ) (y z d : X) → z ≡ get_or xs i d → set (set xs i y) i z ≡ xs
set_back xs i y z d e = set-set xs i y z ∙ ap (set xs i) e ∙ set-get_or xs i d

-- the edit's inverse in the edited model: it is accepted there, gives the old model, and its inverse is the edit
pub record Undoes (m : Model) (e : Edit) : Type 0 where
  pub in_range : IsEditOf (edited m e) (inverse_of m e)
  pub accepted : NoneHolds (checks (edited m e) (inverse_of m e))
  pub model : edited (edited m e) (inverse_of m e) ≡ m
  pub edit : inverse_of (edited m e) (inverse_of m e) ≡ e

read_arc : (m : Model) (a : ℕ) (new : ArcRow) → a < length m.arcs → arc_at (with_arc m a new) a ≡ new
read_arc m a new l = get_or-set_same m.arcs a new no_arc l

read_node : (m : Model) (n : ℕ) (new : NodeRow) → n < length m.nodes → node_at (with_node m n new) n ≡ new
read_node m n new l = get_or-set_same m.nodes n new no_node l

arc_back : (m : Model) (a : ℕ) (new again : ArcRow) → again ≡ arc_at m a → with_arc (with_arc m a new) a again ≡ m
arc_back m a new again e = ap (λ (z : List ArcRow). record m { arcs = z }) (set_back m.arcs a new again no_arc e)

node_back : (m : Model) (n : ℕ) (new again : NodeRow) → again ≡ node_at m n → with_node (with_node m n new) n again ≡ m
node_back m n new again e = ap (λ (z : List NodeRow). record m { nodes = z }) (set_back m.nodes n new again no_node e)

-- a new start, and the old one again
start_back : (m : Model) (n s t : ℕ) → n < length m.nodes → t ≡ start m n → with_start (with_start m n s) n t ≡ m
start_back m n s t l e = grind (arith, node_back, read_node)

nodes_long : (m : Model) (n s : ℕ) → length (with_start m n s).nodes ≡ length m.nodes
nodes_long m n s = length-set m.nodes n (record (node_at m n) { start = s })

people-start : (m : Model) (n s : ℕ) → n < length m.nodes → people (with_start m n s) + start m n ≡ people m + s
people-start m n s l = people-set m n (record (node_at m n) { start = s }) l

start_at : (m : Model) (n s : ℕ) → n < length m.nodes → start (with_start m n s) n ≡ s
start_at m n s l = ap (λ (r : NodeRow). r.start) (read_node m n (record (node_at m n) { start = s }) l)

kind_kept : (m : Model) (n s i : ℕ) → is_exit_at (with_start m n s) i ≡ is_exit_at m i
kind_kept m n s i = at-set (λ (r : NodeRow). is_exit r.name.kind) m.nodes n (record (node_at m n) { start = s }) no_node refl i

capacity_kept : (m : Model) (n s i : ℕ) → capacity (with_start m n s) i ≡ capacity m i
capacity_kept m n s i = at-set (λ (r : NodeRow). r.capacity) m.nodes n (record (node_at m n) { start = s }) no_node refl i

start_other : (m : Model) (n s i : ℕ) → i ≢ n → start (with_start m n s) i ≡ start m i
start_other m n s i e = grind (arith, get_or-set_other)

pub undoes : (m : Model) (e : Edit) → IsValid m → IsEditOf m e → NoneHolds (checks m e) → Undoes m e
undoes m (Shut a) v l h =
    let new = record (arc_at m a) { shut = true } in
    let read = read_arc m a new l in
    record {
      in_range = omega (arith, l, length-set m.arcs a new);
      accepted = (ap (λ (r : ArcRow). not r.shut) read, tt);
      model = arc_back m a new _
          (ap (λ (r : ArcRow). record r { shut = false }) read ∙ ap (λ (b : Bool). record (arc_at m a) { shut = b }) (sym h.0));
      edit = refl;
    }
undoes m (Reopen a) v l h =
    let new = record (arc_at m a) { shut = false } in
    let read = read_arc m a new l in
    record {
      in_range = omega (arith, l, length-set m.arcs a new);
      accepted = (ap (λ (r : ArcRow). r.shut) read, tt);
      model = arc_back m a new _
          (ap (λ (r : ArcRow). record r { shut = true }) read
          ∙ ap (λ (b : Bool). record (arc_at m a) { shut = b }) (sym (not-false (arc_at m a).shut h.0)));
      edit = refl;
    }
undoes m (ShutExit n) v l h =
    let new = record (node_at m n) { shut = true } in
    let read = read_node m n new l in
    record {
      in_range = omega (arith, l, length-set m.nodes n new);
      accepted = (ap (λ (r : NodeRow). not (is_exit r.name.kind)) read ∙ h.0, (ap (λ (r : NodeRow). not r.shut) read, tt));
      model = node_back m n new _
          (ap (λ (r : NodeRow). record r { shut = false }) read ∙ ap (λ (b : Bool). record (node_at m n) { shut = b }) (sym h.1.0));
      edit = refl;
    }
undoes m (ReopenExit n) v l h =
    let new = record (node_at m n) { shut = false } in
    let read = read_node m n new l in
    record {
      in_range = omega (arith, l, length-set m.nodes n new);
      accepted = (ap (λ (r : NodeRow). not (is_exit r.name.kind)) read ∙ h.0, (ap (λ (r : NodeRow). r.shut) read, tt));
      model = node_back m n new _
          (ap (λ (r : NodeRow). record r { shut = true }) read
          ∙ ap (λ (b : Bool). record (node_at m n) { shut = b }) (sym (not-false (node_at m n).shut h.1.0)));
      edit = refl;
    }
undoes m (Rate a r) v l h =
    let new = record (arc_at m a) { rate = r } in
    let read = read_arc m a new l in
    record {
      in_range = omega (arith, l, length-set m.arcs a new);
      accepted = (le-ltb rate_limit (arc_at m a).rate (rate_of m a v l), tt);
      model = arc_back m a new _ (ap (λ (z : ArcRow). record z { rate = (arc_at m a).rate }) read);
      edit = ap (λ (z : ArcRow). Rate a z.rate) read;
    }
undoes m (Room n c) v l h =
    let new = record (node_at m n) { capacity = c } in
    let read = read_node m n new l in
    let old = node_is m n v l in
    record {
      in_range = omega (arith, l, length-set m.nodes n new);
      accepted = (
        ap (λ (r : NodeRow). is_exit r.name.kind) read ∙ h.0,
        (
          le-ltb capacity_limit (capacity m n) old.capacity_fits,
          (ap (λ (r : NodeRow). ltb (capacity m n) r.start) read ∙ le-ltb (capacity m n) (start m n) old.start_fits, tt),
        ),
      );
      model = node_back m n new _ (ap (λ (z : NodeRow). record z { capacity = capacity m n }) read);
      edit = ap (λ (z : NodeRow). Room n z.capacity) read;
    }
undoes m (Shift a b p) v l h =
    let apart = eqb-false a b h.0 in
    let exits = or_parts (is_exit_at m a) (is_exit_at m b) h.1.0 in
    let enough = ltb-false (start m a) p h.1.1.1.0 in
    let old = node_is m a v l.0 in
    let less = with_start m a (start m a - p) in
    let new = with_start less b (start m b + p) in
    let b_in : b < length less.nodes = omega (arith, l.1, nodes_long m a (start m a - p)) in
    let b_less = start_other m a (start m a - p) b (λ e. apart (sym e)) in
    let b_new = start_at less b (start m b + p) b_in in
    let a_new = start_other less b (start m b + p) a apart ∙ start_at m a (start m a - p) l.0 in
    record {
      in_range = (
        omega (arith, b_in, nodes_long less b (start m b + p)),
        omega (arith, l.0, nodes_long m a (start m a - p), nodes_long less b (start m b + p)),
      );
      accepted = (
        ne_eqb b a (λ e. apart (sym e)),
        (
          or_from _ _ (kind_kept less b (start m b + p) b ∙ kind_kept m a (start m a - p) b ∙ exits.1)
              (kind_kept less b (start m b + p) a ∙ kind_kept m a (start m a - p) a ∙ exits.0),
          (
            h.1.1.0,
            (
              le-ltb (start new b) p (omega (arith, b_new)),
              (
                le-ltb (capacity new a) (start new a + p)
                    (omega (arith, a_new, enough, old.start_fits, capacity_kept less b (start m b + p) a, capacity_kept m a (start m a - p) a)),
                tt,
              ),
            ),
          ),
        ),
      );
      model =
          ap (λ (z : Model). with_start z a (start new a + p))
          (start_back less b (start m b + p) (start new b - p) b_in (omega (arith, b_new, b_less)))
          ∙ start_back m a (start m a - p) (start new a + p) l.0 (omega (arith, a_new, enough));
      edit = refl;
    }
undoes m (Enter n p) v l h =
    let room = ltb-false (capacity m n) (start m n + p) h.1.1.1.0 in
    let more = start m n + p in
    record {
      in_range = omega (arith, l, nodes_long m n more);
      accepted =
          (kind_kept m n more n ∙ h.0, (h.1.0, (le-ltb (start (with_start m n more) n) p (omega (arith, start_at m n more l)), tt)));
      model = start_back m n more _ l (omega (arith, start_at m n more l));
      edit = refl;
    }
undoes m (Leave n p) v l h =
    let enough = ltb-false (start m n) p h.1.1.0 in
    let less = start m n - p in
    let old = node_is m n v l in
    record {
      in_range = omega (arith, l, nodes_long m n less);
      accepted = (
        kind_kept m n less n ∙ h.0,
        (
          h.1.0,
          (
            le-ltb people_limit (people (with_start m n less) + p) (omega (arith, people-start m n less l, v.people_fit)),
            (
              le-ltb (capacity (with_start m n less) n) (start (with_start m n less) n + p)
                  (omega (arith, start_at m n less l, capacity_kept m n less n, old.start_fits)),
              tt,
            ),
          ),
        ),
      );
      model = start_back m n less _ l (omega (arith, start_at m n less l));
      edit = refl;
    }
undoes m (Window a p q) v l h =
    let ws = windows_at m a in
    let w = window_of p q in
    let new = record (arc_at m a) { windows = record { items = with_window ws w } } in
    let read = read_arc m a new l in
    record {
      in_range = omega (arith, l, length-set m.arcs a new);
      accepted = (
        ap (λ (r : ArcRow). not (list_any (λ v. is_same_window v w) r.windows.items)) read ∙ ap (λ b. not b) (has_with ws w),
        tt,
      );
      model = arc_back m a new _
          (ap (λ (r : ArcRow). record r { windows = record { items = without_window r.windows.items w } }) read
          ∙ ap (λ (z : List ClosureWindow). record (arc_at m a) { windows = record { items = z } })
          (without_with ws w (window_is p q h.0 h.1.0) h.1.1.0));
      edit = refl;
    }
undoes m (Unwindow a p q) v l h =
    let ws = windows_at m a in
    let w = window_of p q in
    let are = windows_of m a v l in
    let has = not-false (list_any (λ v. is_same_window v w) ws) h.0 in
    let is = window_among ws w are has in
    let new = record (arc_at m a) { windows = record { items = without_window ws w } } in
    let read = read_arc m a new l in
    record {
      in_range = omega (arith, l, length-set m.arcs a new);
      accepted = (
        in_range p q is,
        (
          lt-leb q p is.ordered,
          (
            ap (λ (r : ArcRow). list_any (λ v. overlaps v w) r.windows.items) read ∙ none_without ws w are.apart has,
            (
              ap (λ (r : ArcRow). leb window_limit (length r.windows.items)) read
                  ∙ lt-leb window_limit (length (without_window ws w)) (omega (arith, fewer_without ws w has, are.few)),
              tt,
            ),
          ),
        ),
      );
      model = arc_back m a new _
          (ap (λ (r : ArcRow). record r { windows = record { items = with_window r.windows.items w } }) read
          ∙ ap (λ (z : List ClosureWindow). record (arc_at m a) { windows = record { items = z } }) (with_without ws w are.each are.apart has));
      edit = refl;
    }

pub inverse_undoes : (m m' : Model) (e e' : Edit) → IsValid m → IsEditOf m e → applied m e ≡ Ok (m', e')
    → IsEditOf m' e' × (applied m' e' ≡ Ok (m, e))
inverse_undoes m m' e e' v l h =
    let done = unless-Ok (checks m e) (edited m e, inverse_of m e) (m', e') h in
    let back = undoes m e v l done.0 in
    let at_new : IsEditOf (edited m e) (inverse_of m e) × (applied (edited m e) (inverse_of m e) ≡ Ok (m, e)) =
    (back.in_range, unless-none (checks (edited m e) (inverse_of m e)) _ back.accepted ∙ ap₂ (λ x y. Ok (x, y)) back.model back.edit) in
    subst (λ t. IsEditOf t.0 t.1 × (applied t.0 t.1 ≡ Ok (m, e))) done.1 at_new

pub undone : (m : Model) (e : Edit) (m' : Model) (r : Result Edit EditFault) → IsValid m → IsEditOf m e
    → IfOk r (λ inverse. applied m e ≡ Ok (m', inverse)) → IfOk r (λ inverse. IsEditOf m' inverse × (applied m' inverse ≡ Ok (m, e)))
undone m e m' (Ok inverse) valid is h = inverse_undoes m m' e inverse valid is h
undone m e m' (Err fault) valid is h = tt
