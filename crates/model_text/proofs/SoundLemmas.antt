-- Parts that were taken describe a valid model.
use Rattle.std.proofs.Common.{◌≡◌, ◌≢◌, ℕ, ◌+◌, ◌<◌, ◌≤◌, Bool, true, false, not, ◌||◌, nat_lt, nat_le, IsTrue, IsFalse, List, [], ◌∷◌, ◌++◌, length, get_or, Some, None, is_none, unwrap_or, refl, sym, ap, subst, ◌∙◌, arith, eq-eqb}
use Rattle.std.specs.declared.option.Option.{Option}
use Rattle.std.specs.List.{list_any, sum_by, All, AllPairs}
use Rattle.std.proofs.lemmas.Bool.{ltb-false, leb-false, or_parts}
use Rattle.std.proofs.lemmas.List.{get_or_append_left, length-set}
use Rattle.std.proofs.lemmas.List.Sums.{passes_at_first, sum_by-append}
use Rattle.std.proofs.lemmas.List.Elements.{All-get_or, All-nil, All-push, All-set, All-weaker}
use Rattle.evac_law.specs.declared.code.Code.{Code}
use Rattle.evac_law.specs.declared.code.Code.TheVariants.{UnknownFloor, RepeatedNode, OverFull, UnknownNode, SameNode, FromExit, RepeatedArc, TooMany, MissingSetting, NoExit, TooLarge, BadWindow, WindowOverlap, TooManyWindows, EntrantLate, RepeatedEntrant, NoArc, ExitNamed}
use Rattle.evac_law.specs.Building.{IsNode, IsArc, IsValid, arc_row, node_row, no_node, no_arc, people}
use Rattle.evac_law.specs.Entrants.{ComesBefore}
use Rattle.evac_law.specs.Limits.{seconds_limit, horizon_limit, node_limit, arc_limit, travel_limit, rate_limit, capacity_limit, people_limit, cell_limit, window_limit}
use Rattle.evac_law.specs.Names.{IsName, is_exit}
use Rattle.evac_law.specs.Windows.{IsWindow, overlaps, window_of, with_window}
use Rattle.evac_law.specs.declared.entrant.Entrant.{Entrant}
use Rattle.evac_law.specs.declared.name.NodeName.{NodeName}
use Rattle.evac_law.specs.declared.model.NodeRow.{NodeRow}
use Rattle.evac_law.specs.declared.model.ArcRow.{ArcRow}
use Rattle.evac_law.specs.declared.window.Window.{Window as ClosureWindow}
use Rattle.evac_law.proofs.EditLemmas.{at-set}
use Rattle.evac_law.proofs.WindowLemmas.{windows_with}
use Rattle.model_text.specs.Grammar.{SaidPart, Period, Horizon, Node, Exit, Arc, Window, Entrant as Comes}
use Rattle.model_text.specs.Taken.{same_name, seconds_of, horizon_of, nodes_of, place_of_node, place_of_arc, joins, arc_windows, closing, arcs_of, with_entrant, entrant_of, entrants_of, is_coming, windows_of, has_floor, has_node, has_arc, has_entrant, people_of, first_code, part_fault, cells_of, end_fault, model_taken, AreTaken}
use Rattle.model_text.proofs.EntrantLemmas.{IsComing, all-with_entrant, coming-kept, sorted-with_entrant, sum-with_entrant}
use Rattle.model_text.proofs.InsertLemmas.{none-passes}
use Rattle.model_text.proofs.ListFacts.{found, length-push, missing, not-false, push-pairs, same-name-is, same-name-self}

-- no code: the first check didn't hold, and neither did one of the others
pub first-none : (t : Bool) (code : Code) (cs : List (Bool × Code)) → first_code ((t, code) ∷ cs) ≡ None → (t ≡ false) × (first_code cs ≡ None)
first-none true code cs h = cc
first-none false code cs h = (refl, h)

pub none-three : (a b c : Bool) (p q r : Code) → first_code ((a, p) ∷ (b, q) ∷ (c, r) ∷ []) ≡ None → (a ≡ false) × (b ≡ false) × (c ≡ false)
none-three a b c p q r h = grind (arith, first-none)

pub none-four : (a b c d : Bool) (p q r s : Code) → first_code ((a, p) ∷ (b, q) ∷ (c, r) ∷ (d, s) ∷ []) ≡ None → (a ≡ false) × (b ≡ false) × (c ≡ false) × (d ≡ false)
none-four a b c d p q r s h = grind (arith, first-none, none-three)

none-six : (a b c d e f : Bool) (p q r s t u : Code) → first_code ((a, p) ∷ (b, q) ∷ (c, r) ∷ (d, s) ∷ (e, t) ∷ (f, u) ∷ []) ≡ None
    → (a ≡ false) × (b ≡ false) × (c ≡ false) × (d ≡ false) × (e ≡ false) × (f ≡ false)
none-six a b c d e f p q r s t u h = grind (arith, first-none, none-four)

-- ---- settings

-- the seconds and the horizon keep their ranges
seconds-within : (taken : List SaidPart) (s : ℕ) → AreTaken taken → seconds_of taken ≡ Some s → (1 ≤ s) × (s ≤ seconds_limit)
seconds-within [] s are h = cc
seconds-within (Period n ∷ before) s are h = let e : n ≡ s = cc in let P : ℕ → Type 0 = λ k. (1 ≤ k) × (k ≤ seconds_limit) in subst P e are.0
seconds-within (_ ∷ before) s are h = seconds-within before s are.2 h

horizon-within : (taken : List SaidPart) (s : ℕ) → AreTaken taken → horizon_of taken ≡ Some s → s ≤ horizon_limit
horizon-within [] s are h = cc
horizon-within (Horizon n ∷ before) s are h = let e : n ≡ s = cc in let P : ℕ → Type 0 = λ k. k ≤ horizon_limit in subst P e are.0
horizon-within (_ ∷ before) s are h = horizon-within before s are.2 h

-- ---- nodes and arcs

abbrev NamesDiffer : NodeRow → NodeRow → Type 0
NamesDiffer a b = a.name ≢ b.name

abbrev EndsDiffer : ArcRow → ArcRow → Type 0
EndsDiffer a b = a.from ≡ b.from → a.to ≢ b.to

-- nodes, arcs and entrants as a valid model has them
pub record IsSound (ns : List NodeRow) (as' : List ArcRow) (es : List Entrant) : Type 0 where
  pub nodes_fit : length ns ≤ node_limit
  pub arcs_fit : length as' ≤ arc_limit
  pub people_fit : sum_by (λ n. n.start) ns + sum_by (λ e. e.people) es ≤ people_limit
  pub nodes : All IsNode ns
  pub names_differ : (i j : ℕ) → i < j → j < length ns → NamesDiffer (get_or ns i no_node) (get_or ns j no_node)
  pub arcs : All (IsArc ns) as'
  pub ends_differ : (i j : ℕ) → i < j → j < length as' → EndsDiffer (get_or as' i no_arc) (get_or as' j no_arc)
  pub entrants : All (IsComing ns) es
  pub entrants_sorted : AllPairs ComesBefore es

sound-none : IsSound [] [] []
sound-none = record {
  nodes_fit = omega arith;
  arcs_fit = omega arith;
  people_fit = omega arith;
  nodes = All-nil IsNode;
  names_differ = λ i j before within. absurd (omega arith);
  arcs = All-nil (IsArc []);
  ends_differ = λ i j before within. absurd (omega arith);
  entrants = All-nil (IsComing []);
  entrants_sorted = λ i j d before within. absurd (omega arith);
}

-- an arc stays right where a node follows
arc-kept : (nodes : List NodeRow) (row : NodeRow) (a : ArcRow) → IsArc nodes a → IsArc (nodes ++ (row ∷ [])) a
arc-kept nodes row a is = grind (arith, length-push, nodes, get_or_append_left)

-- one more node
sound-node : (nodes : List NodeRow) (arcs : List ArcRow) (es : List Entrant) (row : NodeRow) → IsSound nodes arcs es → IsNode row → list_any (λ n. same_name n.name row.name) nodes ≡ false
    → length nodes < node_limit → sum_by (λ n. n.start) nodes + sum_by (λ e. e.people) es + row.start ≤ people_limit → IsSound (nodes ++ (row ∷ [])) arcs es
sound-node nodes arcs es row sound is new fits people-fit =
    record {
      nodes_fit = let longer = length-push nodes row in omega arith;
      arcs_fit = sound.arcs_fit;
      people_fit = let e = sum_by-append (λ (n : NodeRow). n.start) nodes (row ∷ []) in omega arith;
      nodes = All-push IsNode nodes row sound.nodes is;
      names_differ = push-pairs NamesDiffer nodes row no_node sound.names_differ (λ i within same.
          missing (λ n. same_name n.name row.name) nodes i no_node new within (ap (λ n. same_name n row.name) same ∙ same-name-self row.name));
      arcs = All-weaker (IsArc nodes) (IsArc (nodes ++ (row ∷ []))) (arc-kept nodes row) arcs sound.arcs;
      ends_differ = sound.ends_differ;
      entrants = All-weaker (IsComing nodes) (IsComing (nodes ++ (row ∷ []))) (coming-kept nodes row) es sound.entrants;
      entrants_sorted = sound.entrants_sorted;
    }

-- one more arc
sound-arc : (nodes : List NodeRow) (arcs : List ArcRow) (es : List Entrant) (row : ArcRow) → IsSound nodes arcs es → IsArc nodes row
    → list_any (joins row.from row.to) arcs ≡ false → length arcs < arc_limit → IsSound nodes (arcs ++ (row ∷ [])) es
sound-arc nodes arcs es row sound is new fits =
    record {
      nodes_fit = sound.nodes_fit;
      arcs_fit = let longer = length-push arcs row in omega arith;
      people_fit = sound.people_fit;
      nodes = sound.nodes;
      names_differ = sound.names_differ;
      arcs = All-push (IsArc nodes) arcs row sound.arcs is;
      ends_differ = push-pairs EndsDiffer arcs row no_arc sound.ends_differ (λ i within starts finishes.
          missing (joins row.from row.to) arcs i no_arc new within (rw (eq-eqb _ row.from starts, eq-eqb _ row.to finishes) refl));
      entrants = sound.entrants;
      entrants_sorted = sound.entrants_sorted;
    }

-- one more window of an arc
sound-window : (nodes : List NodeRow) (arcs : List ArcRow) (es : List Entrant) (place : ℕ) (w : ClosureWindow) → IsSound nodes arcs es → place < length arcs → IsWindow w
    → list_any (λ v. overlaps v w) (arc_windows arcs place) ≡ false → length (arc_windows arcs place) < window_limit → IsSound nodes (closing arcs place w) es
sound-window nodes arcs es place w sound within is apart few =
    let old : ArcRow = get_or arcs place no_arc in
    let row : ArcRow = record old { windows = record { items = with_window (arc_windows arcs place) w } } in
    let same-length = length-set arcs place row in
    let from-at = at-set (λ (a : ArcRow). a.from) arcs place row no_arc refl in
    let to-at = at-set (λ (a : ArcRow). a.to) arcs place row no_arc refl in
    let was : IsArc nodes old = All-get_or (IsArc nodes) arcs place no_arc within sound.arcs in
    record {
      nodes_fit = sound.nodes_fit;
      arcs_fit = omega (arith, same-length, sound.arcs_fit);
      people_fit = sound.people_fit;
      nodes = sound.nodes;
      names_differ = sound.names_differ;
      arcs = All-set (IsArc nodes) arcs place row (record {
        from_in = was.from_in;
        to_in = was.to_in;
        apart = was.apart;
        from_no_exit = was.from_no_exit;
        travel_fits = was.travel_fits;
        rate_fits = was.rate_fits;
        windows = windows_with (arc_windows arcs place) w was.windows is apart few;
      }) sound.arcs;
      ends_differ = λ i j before inside starts finishes.
          sound.ends_differ i j before (omega (arith, same-length, inside)) (sym (from-at i) ∙ starts ∙ from-at j) (sym (to-at i) ∙ finishes ∙ to-at j);
      entrants = sound.entrants;
      entrants_sorted = sound.entrants_sorted;
    }

-- one more entrant
sound-entrant : (nodes : List NodeRow) (arcs : List ArcRow) (es : List Entrant) (e : Entrant) → IsSound nodes arcs es → IsComing nodes e
    → list_any (is_coming e.node e.moment) es ≡ false → sum_by (λ n. n.start) nodes + sum_by (λ f. f.people) es + e.people ≤ people_limit
    → IsSound nodes arcs (with_entrant es e)
sound-entrant nodes arcs es e sound is new people-fit =
    record {
      nodes_fit = sound.nodes_fit;
      arcs_fit = sound.arcs_fit;
      people_fit = let more = sum-with_entrant es e in omega arith;
      nodes = sound.nodes;
      names_differ = sound.names_differ;
      arcs = sound.arcs;
      ends_differ = sound.ends_differ;
      entrants = all-with_entrant (IsComing nodes) es e sound.entrants is;
      entrants_sorted = sorted-with_entrant es e new sound.entrants_sorted;
    }

-- the node at the place of a name has that name
place-name : (nodes : List NodeRow) (name : NodeName) → place_of_node nodes name < length nodes → (get_or nodes (place_of_node nodes name) no_node).name ≡ name
place-name nodes name within = same-name-is _ name (passes_at_first (λ n. same_name n.name name) nodes no_node within)

-- an arc between two known, different names
arc-between : (nodes : List NodeRow) (start finish : NodeName) (t r : ℕ) → list_any (λ n. same_name n.name start) nodes ≡ true → list_any (λ n. same_name n.name finish) nodes ≡ true
    → same_name start finish ≡ false → is_exit start.kind ≡ false → (1 ≤ t) × (t ≤ travel_limit) → r ≤ rate_limit
    → IsArc nodes (arc_row (place_of_node nodes start) (place_of_node nodes finish) t r)
arc-between nodes start finish t r has-start has-finish apart inside travel rate =
    let from-in = found (λ n. same_name n.name start) nodes has-start in
    let to-in = found (λ n. same_name n.name finish) nodes has-finish in
    let from-name = place-name nodes start from-in in
    let to-name = place-name nodes finish to-in in
    record {
      from_in = from-in;
      to_in = to-in;
      apart = λ same.
          let e : start ≡ finish = sym from-name ∙ ap (λ i. (get_or nodes i no_node).name) same ∙ to-name in
          let yes' : same_name start finish ≡ true = ap (same_name start) (sym e) ∙ same-name-self start in cc;
      from_no_exit = ap (λ n. is_exit n.kind) from-name ∙ inside;
      travel_fits = travel;
      rate_fits = rate;
      windows = record { few = omega arith; each = All-nil IsWindow; apart = λ i j d before within. absurd (omega arith) };
    }

pub below-limit : (limit n : ℕ) → nat_le limit n ≡ false → n < limit
below-limit limit n h = leb-false limit n h

room-sound : (before : List SaidPart) (name : NodeName) (capacity start : ℕ) → IsSound (nodes_of before) (arcs_of before) (entrants_of before) → IsName name → IsFalse (is_exit name.kind) → capacity ≤ capacity_limit
    → has_node before name ≡ false → start ≤ capacity → length (nodes_of before) < node_limit → people_of before + start ≤ people_limit
    → IsSound (nodes_of (Node name capacity start ∷ before)) (arcs_of before) (entrants_of before)
room-sound before name capacity start sound is room fits new start-fits few people-fit =
    sound-node (nodes_of before) (arcs_of before) (entrants_of before) (node_row name capacity start) sound
    (record { name = is; start_fits = start-fits; capacity_fits = fits; exit_is_empty = λ exit. cc; only_exits_shut = λ shut. cc }) new few people-fit

exit-sound : (before : List SaidPart) (name : NodeName) → IsSound (nodes_of before) (arcs_of before) (entrants_of before) → IsName name → IsTrue (is_exit name.kind)
    → has_node before name ≡ false → length (nodes_of before) < node_limit → IsSound (nodes_of (Exit name ∷ before)) (arcs_of before) (entrants_of before)
exit-sound before name sound is exit new few =
    sound-node (nodes_of before) (arcs_of before) (entrants_of before) (node_row name 0 0) sound
    (record { name = is; start_fits = omega arith; capacity_fits = omega arith; exit_is_empty = λ out. refl; only_exits_shut = λ shut. exit }) new few
    (let h = sound.people_fit in omega arith)

-- what was taken is sound
pub sound-of : (taken : List SaidPart) → AreTaken taken → IsSound (nodes_of taken) (arcs_of taken) (entrants_of taken)
unfolding part_fault
sound-of [] are = sound-none
sound-of (Node name capacity start ∷ before) are =
    let full = nat_le node_limit (length (nodes_of before)) in
    let crowded = nat_lt people_limit (people_of before + start) in
    let h = none-four (not (has_floor before name.floor)) (has_node before name) (nat_lt capacity start) (full || crowded) UnknownFloor RepeatedNode OverFull TooMany are.1 in
    let fits = or_parts full crowded h.3 in
    room-sound before name capacity start (sound-of before are.2) are.0.0 are.0.1 are.0.2 h.1 (ltb-false capacity start h.2)
    (below-limit node_limit (length (nodes_of before)) fits.0) (ltb-false people_limit (people_of before + start) fits.1)
sound-of (Exit name ∷ before) are =
    let full = nat_le node_limit (length (nodes_of before)) in
    let h = none-three (not (has_floor before name.floor)) (has_node before name) full UnknownFloor RepeatedNode TooMany are.1 in
    exit-sound before name (sound-of before are.2) are.0.0 are.0.1 h.1 (below-limit node_limit (length (nodes_of before)) h.2)
sound-of (Arc start finish travel rate ∷ before) are =
    let full = nat_le arc_limit (length (arcs_of before)) in
    let h = none-six (not (has_node before start)) (not (has_node before finish)) (same_name start finish) (is_exit start.kind) (has_arc before start finish) full
    UnknownNode UnknownNode SameNode FromExit RepeatedArc TooMany are.1 in
    sound-arc (nodes_of before) (arcs_of before) (entrants_of before) _ (sound-of before are.2)
    (arc-between (nodes_of before) start finish travel rate (not-false _ h.0) (not-false _ h.1) h.2 h.3 (are.0.2, are.0.3) are.0.4)
    h.4 (below-limit arc_limit (length (arcs_of before)) h.5)
sound-of (Window start finish first until ∷ before) are =
    let place : ℕ = place_of_arc (arcs_of before) (place_of_node (nodes_of before) start) (place_of_node (nodes_of before) finish) in
    let shared = list_any (λ v. overlaps v (window_of first until)) (windows_of before start finish) in
    let full = nat_le window_limit (length (windows_of before start finish)) in
    let h = none-six (not (has_node before start)) (not (has_node before finish)) (not (has_arc before start finish)) (nat_le until first) shared full
    UnknownNode UnknownNode NoArc BadWindow WindowOverlap TooManyWindows are.1 in
    sound-window (nodes_of before) (arcs_of before) (entrants_of before) place (window_of first until) (sound-of before are.2)
    (found (joins (place_of_node (nodes_of before) start) (place_of_node (nodes_of before) finish)) (arcs_of before) (not-false _ h.2))
    (record { ordered = leb-false until first h.3; until_fits = are.0.4 }) h.4 (below-limit window_limit (length (windows_of before start finish)) h.5)
sound-of (Comes name moment people ∷ before) are =
    let crowded = nat_lt people_limit (people_of before + people) in
    let h = none-four (not (has_node before name)) (is_exit name.kind) (has_entrant before name moment) crowded UnknownNode ExitNamed RepeatedEntrant TooMany are.1 in
    let inside = found (λ n. same_name n.name name) (nodes_of before) (not-false _ h.0) in
    sound-entrant (nodes_of before) (arcs_of before) (entrants_of before) (entrant_of (place_of_node (nodes_of before) name) moment people) (sound-of before are.2)
    (record {
      node_in = inside;
      no_exit = ap (λ n. is_exit n.kind) (place-name (nodes_of before) name inside) ∙ h.1;
      later = are.0.1;
      somebody = are.0.3;
    }) h.2 (ltb-false people_limit (people_of before + people) h.3)
sound-of (_ ∷ before) are = sound-of before are.2

some-of : (o : Option ℕ) → is_none o ≡ false → o ≡ Some (unwrap_or o 0)
some-of (Some x) h = refl
some-of None h = cc

-- what holds of parts that may end
pub record MayEnd (taken : List SaidPart) : Type 0 where
  pub seconds : seconds_of taken ≡ Some (unwrap_or (seconds_of taken) 0)
  pub horizon : horizon_of taken ≡ Some (unwrap_or (horizon_of taken) 0)
  pub has_exit : list_any (λ n. is_exit n.name.kind) (nodes_of taken) ≡ true
  pub cells_fit : cells_of taken ≤ cell_limit
  pub none_late : All (λ e. e.moment ≤ unwrap_or (horizon_of taken) 0) (entrants_of taken)

pub may-end : (taken : List SaidPart) → end_fault taken ≡ None → MayEnd taken
unfolding end_fault
may-end taken h =
    let unset = is_none (seconds_of taken) || is_none (horizon_of taken) in
    let closed = not (list_any (λ n. is_exit n.name.kind) (nodes_of taken)) in
    let last : ℕ = unwrap_or (horizon_of taken) 0 in
    let late = list_any (λ e. nat_lt last e.moment) (entrants_of taken) in
    let n = none-four unset closed (nat_lt cell_limit (cells_of taken)) late MissingSetting NoExit TooLarge EntrantLate h in
    let settings = or_parts (is_none (seconds_of taken)) (is_none (horizon_of taken)) n.0 in
    record {
      seconds = some-of (seconds_of taken) settings.0;
      horizon = some-of (horizon_of taken) settings.1;
      has_exit = not-false _ n.1;
      cells_fit = ltb-false cell_limit (cells_of taken) n.2;
      none_late = All-weaker (λ e. nat_lt last e.moment ≡ false) (λ e. e.moment ≤ last) (λ e. ltb-false last e.moment) (entrants_of taken)
          (none-passes (λ e. nat_lt last e.moment) (entrants_of taken) n.3);
    }

-- parts that were taken and may end describe a valid model
pub taken-valid : (taken : List SaidPart) → AreTaken taken → end_fault taken ≡ None → IsValid (model_taken taken)
unfolding model_taken people
taken-valid taken are h =
    let ends = may-end taken h in
    let sound = sound-of taken are in
    record {
      seconds = seconds-within taken _ are ends.seconds;
      horizon = horizon-within taken _ are ends.horizon;
      nodes_fit = sound.nodes_fit;
      arcs_fit = sound.arcs_fit;
      cells_fit = ends.cells_fit;
      people_fit = sound.people_fit;
      nodes = sound.nodes;
      names_differ = sound.names_differ;
      arcs = sound.arcs;
      ends_differ = sound.ends_differ;
      entrants = λ k d within. let is = sound.entrants k d within in record {
        node_in = is.node_in;
        no_exit = is.no_exit;
        later = is.later;
        in_horizon = ends.none_late k d within;
        somebody = is.somebody;
      };
      entrants_sorted = sound.entrants_sorted;
    }
