-- Windows of arcs one after the other.
use Rattle.std.proofs.Common.{◌≡◌, ◌≤◌, true, false, cond, not, nat_le, nat_lt, List, [], ◌∷◌, ◌++◌, length, map, refl, sym, ap, subst, ◌∙◌, arith, append_assoc, length-append, eq-eqb}
use Rattle.std.specs.List.{All, AllPairs, flat_map, list_any}
use Rattle.std.proofs.Math.Seq.{get_or-append_seam, set-append_seam}
use Rattle.std.proofs.lemmas.Bool.{le-ltb, lt-leb}
use Rattle.std.proofs.lemmas.List.{get_or_append_left}
use Rattle.std.proofs.lemmas.List.Elements.{All-head, All-tail}
use Rattle.std.proofs.lemmas.List.Folds.{list_any_at}
use Rattle.std.proofs.lemmas.List.Sums.{position_or_len_is}
use Rattle.evac_law.specs.Building.{IsArc, no_arc}
use Rattle.evac_law.specs.Limits.{horizon_limit, window_limit}
use Rattle.evac_law.specs.Windows.{AreWindows, EndsBefore, IsWindow, overlaps, with_window}
use Rattle.evac_law.specs.declared.model.ArcRow.{ArcRow}
use Rattle.evac_law.specs.declared.model.Model.{Model}
use Rattle.evac_law.specs.declared.window.Window.{Window as Closed}
use Rattle.model_text.specs.Grammar.{SaidPart, IsSaidPart, Window}
use Rattle.model_text.specs.Taken.{arc_windows, closing, joins, place_of_arc, place_of_node, same_name, part_checks, part_fault}
use Rattle.model_text.proofs.InsertLemmas.{none-passes}
use Rattle.model_writer.specs.ModelText.{name_at, window_said, windows_said}
use Rattle.model_writer.proofs.Adding.{Adds, AddsAll, Gathered, adds-append, adds-each, adds-is, adds-none, all-front, all-one, before-one, gathered, no-code, none-before, second-fails}
use Rattle.model_writer.proofs.ArcsGo.{AreNamed, EndsDiffer, IsPlainArc, apart-ends, bare, known-name}

-- an arc with some of its windows
abbrev pub with_windows : ArcRow → List Closed → ArcRow
with_windows a ws = record (bare a) { windows = record { items = ws } }

-- ---- the place of an arc after others

joins-self : (a : ArcRow) (ws : List Closed) → joins a.from a.to (with_windows a ws) ≡ true
joins-self a ws = rw (eq-eqb a.from a.from refl, eq-eqb a.to a.to refl) refl

-- the arcs before one, it with some of its windows, and those after it
abbrev arcs_around : List ArcRow → ArcRow → List Closed → List ArcRow → List ArcRow
arcs_around done a ws rest = done ++ (with_windows a ws ∷ rest)

arc-listed : (done : List ArcRow) (a : ArcRow) (ws : List Closed) (rest : List ArcRow) → list_any (joins a.from a.to) (arcs_around done a ws rest) ≡ true
arc-listed done a ws rest =
    let size = length-append done (with_windows a ws ∷ rest) in
    list_any_at (joins a.from a.to) (arcs_around done a ws rest) (length done) no_arc (omega arith)
    (ap (joins a.from a.to) (get_or-append_seam done (with_windows a ws) rest no_arc) ∙ joins-self a ws)

arc-place : (done : List ArcRow) (a : ArcRow) (ws : List Closed) (rest : List ArcRow) → list_any (joins a.from a.to) done ≡ false
    → place_of_arc (arcs_around done a ws rest) a.from a.to ≡ length done
arc-place done a ws rest new =
    let size = length-append done (with_windows a ws ∷ rest) in
    position_or_len_is (joins a.from a.to) (arcs_around done a ws rest) (length done) no_arc (omega arith)
    (λ k before. ap (joins a.from a.to) (get_or_append_left done (with_windows a ws ∷ rest) no_arc k before) ∙ none-passes (joins a.from a.to) done new k no_arc before)
    (λ _. ap (joins a.from a.to) (get_or-append_seam done (with_windows a ws) rest no_arc) ∙ joins-self a ws)

-- ---- a window

-- a window that begins after all others comes last
window-last : (ws : List Closed) (w : Closed) → All (λ v. v.from ≤ w.from) ws → with_window ws w ≡ ws ++ (w ∷ [])
window-last [] w later = refl
window-last (v ∷ ws) w later =
    ap (λ t. cond t (w ∷ v ∷ ws) (v ∷ with_window ws w)) (le-ltb w.from v.from (All-head (λ v. v.from ≤ w.from) v ws later))
    ∙ ap (λ l. v ∷ l) (window-last ws w (All-tail (λ v. v.from ≤ w.from) v ws later))

begins-later : (ws : List Closed) (w : Closed) (more : List Closed) → AreWindows (ws ++ (w ∷ more)) → All (λ v. v.from ≤ w.from) ws
begins-later ws w more are k d within =
    let ended = before-one EndsBefore ws w more are.apart k d within in
    let window = all-front IsWindow ws (w ∷ more) are.each k d within in
    let ordered = window.ordered in
    omega arith

closed-place : (done : List ArcRow) (a : ArcRow) (ws : List Closed) (rest : List ArcRow) (w : Closed) → All (λ v. v.from ≤ w.from) ws
    → closing (arcs_around done a ws rest) (length done) w ≡ arcs_around done a (ws ++ (w ∷ [])) rest
closed-place done a ws rest w later = grind (arith, get_or-append_seam, set-append_seam, window-last)

apart-windows : (v w : Closed) → EndsBefore v w → overlaps v w ≡ false
apart-windows v w ended = second-fails (nat_lt v.from w.until) (nat_lt w.from v.until) (le-ltb w.from v.until ended)

window-adds : (m : Model) (g : Gathered) (done rest : List ArcRow) (a : ArcRow) (ws : List Closed) (w : Closed) (more : List Closed) (taken : List SaidPart) → AreNamed m.nodes
    → gathered taken ≡ record g { nodes = m.nodes; arcs = arcs_around done a ws rest } → IsArc m.nodes a → list_any (joins a.from a.to) done ≡ false → AreWindows (ws ++ (w ∷ more))
    → Adds taken (window_said m a w) (record g { nodes = m.nodes; arcs = arcs_around done a (ws ++ (w ∷ [])) rest })
unfolding part_fault
window-adds m g done rest a ws w more taken named is valid new are =
    let size = length-append ws (w ∷ more) in
    let arcs = arcs_around done a ws rest in
    let from = name_at m a.from in
    let to = name_at m a.to in
    let tail = known-name m a.from named valid.from_in in
    let head = known-name m a.to named valid.to_in in
    let window = all-one IsWindow ws w more are.each in
    let ordered = window.ordered in
    let fits = window.until_fits in
    let few = are.few in
    let said : IsSaidPart (Window from to w.from w.until) = (tail.named, head.named, (let l : w.from ≤ horizon_limit = omega arith in l), (let l : 1 ≤ w.until = omega arith in l), fits) in
    let place : place_of_arc arcs (place_of_node m.nodes from) (place_of_node m.nodes to) ≡ length done =
    ap (λ i. place_of_arc arcs i (place_of_node m.nodes to)) tail.placed ∙ ap (place_of_arc arcs a.from) head.placed ∙ arc-place done a ws rest new in
    let closures : arc_windows arcs (place_of_arc arcs (place_of_node m.nodes from) (place_of_node m.nodes to)) ≡ ws =
    ap (arc_windows arcs) place ∙ ap (λ (x : ArcRow). x.windows.items) (get_or-append_seam done (with_windows a ws) rest no_arc) in
    let windows-of : Gathered → List Closed = λ x. arc_windows x.arcs (place_of_arc x.arcs (place_of_node x.nodes from) (place_of_node x.nodes to)) in
    record {
      spelled = said;
      none = no-code (part_checks taken (window_said m a w)) (
        ap (λ (x : Gathered). not (list_any (λ n. same_name n.name from) x.nodes)) is ∙ ap not tail.listed,
        (
          ap (λ (x : Gathered). not (list_any (λ n. same_name n.name to) x.nodes)) is ∙ ap not head.listed,
          (
            ap (λ (x : Gathered). not (list_any (joins (place_of_node x.nodes from) (place_of_node x.nodes to)) x.arcs)) is
                ∙ ap (λ i. not (list_any (joins i (place_of_node m.nodes to)) arcs)) tail.placed
                ∙ ap (λ j. not (list_any (joins a.from j) arcs)) head.placed ∙ ap not (arc-listed done a ws rest),
            (
              lt-leb w.until w.from ordered,
              (
                ap (λ (x : Gathered). list_any (λ v. overlaps v w) (windows-of x)) is ∙ ap (list_any (λ v. overlaps v w)) closures
                    ∙ none-before EndsBefore (λ v. overlaps v w) ws w more (λ v ended. apart-windows v w ended) are.apart,
                (
                  ap (λ (x : Gathered). nat_le window_limit (length (windows-of x))) is ∙ ap (λ l. nat_le window_limit (length l)) closures
                      ∙ lt-leb window_limit (length ws) (omega arith),
                  tt,
                ),
              ),
            ),
          ),
        ),
      );
      is = ap (λ (x : Gathered). record x { arcs = closing x.arcs (place_of_arc x.arcs (place_of_node x.nodes from) (place_of_node x.nodes to)) w }) is
          ∙ ap (λ i. record g { nodes = m.nodes; arcs = closing arcs i w }) place
          ∙ ap (λ l. record g { nodes = m.nodes; arcs = l }) (closed-place done a ws rest w (begins-later ws w more are));
    }

-- ---- windows

-- the windows of one arc
windows-of-go : (m : Model) (g : Gathered) (done rest : List ArcRow) (a : ArcRow) (all : List Closed) (taken : List SaidPart) → AreNamed m.nodes
    → gathered taken ≡ record g { nodes = m.nodes; arcs = arcs_around done a [] rest } → IsArc m.nodes a → list_any (joins a.from a.to) done ≡ false → AreWindows all
    → AddsAll taken (map (window_said m a) all) (record g { nodes = m.nodes; arcs = arcs_around done a all rest })
windows-of-go m g done rest a all taken named is valid new are =
    adds-each (window_said m a) (λ l. record g { nodes = m.nodes; arcs = arcs_around done a l rest }) all [] all taken refl is (λ ws w more before split at.
    window-adds m g done rest a ws w more before named at valid new (subst AreWindows split are))

-- an arc that isn't shut, with all of its windows
whole-arc : (a : ArcRow) → a.shut ≡ false → with_windows a a.windows.items ≡ a
whole-arc a unshut = ap (λ b. record a { shut = b }) (sym unshut)

-- the windows of arcs, arc by arc
pub windows-go : (m : Model) (g : Gathered) (as' done : List ArcRow) (taken : List SaidPart) → AreNamed m.nodes → gathered taken ≡ record g { nodes = m.nodes; arcs = done ++ map bare as' }
    → All (IsPlainArc m.nodes) as' → AllPairs EndsDiffer (done ++ as') → AddsAll taken (flat_map (windows_said m) as') (record g { nodes = m.nodes; arcs = done ++ as' })
windows-go m g [] done taken named is plain differ = adds-none taken _ is
windows-go m g (a ∷ as') done taken named is plain differ =
    let joined : (done ++ (a ∷ [])) ++ as' ≡ done ++ (a ∷ as') = append_assoc done (a ∷ []) as' in
    let first = All-head (IsPlainArc m.nodes) a as' plain in
    let new : list_any (joins a.from a.to) done ≡ false = none-before EndsDiffer (joins a.from a.to) done a as' (λ x apart. apart-ends x a apart) differ in
    let with-arcs : List ArcRow → Gathered = λ l. record g { nodes = m.nodes; arcs = l } in
    let next : arcs_around done a a.windows.items (map bare as') ≡ (done ++ (a ∷ [])) ++ map bare as' =
    ap (λ x. done ++ (x ∷ map bare as')) (whole-arc a first.unshut) ∙ sym (append_assoc done (a ∷ []) (map bare as')) in
    adds-append taken (windows_said m a) (flat_map (windows_said m) as') _ _ (windows-of-go m g done (map bare as') a a.windows.items taken named is first.valid new first.valid.windows)
    (λ now. adds-is _ (flat_map (windows_said m) as') _ _ (ap with-arcs joined)
    (windows-go m g as' (done ++ (a ∷ [])) _ named (now ∙ ap with-arcs next) (All-tail (IsPlainArc m.nodes) a as' plain) (subst (AllPairs EndsDiffer) (sym joined) differ)))
