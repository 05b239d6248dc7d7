-- The lines of a plain building's text keep the limits on a line and on an input.
use Rattle.std.proofs.Common.{◌≡◌, ℕ, ◌+◌, ◌*◌, ◌^◌, ◌<◌, ◌≤◌, Bool, true, false, cond, List, [], ◌∷◌, ◌++◌, length, map, get_or, arith, length-append}
use Rattle.std.specs.Prelude.{decimal, MatchOption, Some, None, ⊤}
use Rattle.std.specs.declared.option.Option.{Option}
use Rattle.std.specs.List.{All, flat_map, sum_by}
use Rattle.std.proofs.lemmas.List.{length-map}
use Rattle.std.proofs.lemmas.List.Concat.{length-flat_map}
use Rattle.std.proofs.lemmas.List.Elements.{All-append, All-cons, All-head, All-map, All-nil, All-tail}
use Rattle.std.proofs.lemmas.List.Folds.{list_any-append}
use Rattle.std.proofs.lemmas.List.Sums.{sum_by-cons, sum_by-le}
use Rattle.evac_law.specs.Building.{IsArc, IsEntrant, people}
use Rattle.evac_law.specs.Limits.{arc_limit, floor_limit, floor_number_limit, node_limit, people_limit, window_limit}
use Rattle.evac_law.specs.Names.{is_exit}
use Rattle.evac_law.specs.declared.entrant.Entrant.{Entrant as Coming}
use Rattle.evac_law.specs.declared.model.ArcRow.{ArcRow}
use Rattle.evac_law.specs.declared.model.Model.{Model}
use Rattle.evac_law.specs.declared.model.NodeRow.{NodeRow}
use Rattle.evac_law.proofs.MoveLemmas.{All-flat_map_at}
use Rattle.certificate_text.proofs.LineTexts.{IsLine, decimal-field, kept-whole, word-kept}
use Rattle.line_io.specs.Line.{input_limit, line_limit}
use Rattle.model_text.specs.Grammar.{Said, SaidPart, Header, Part, Title, Period, Horizon, Floor, Node, Exit, Arc, Window, Entrant, End}
use Rattle.model_text.specs.Plain.{IsPlain, IsTextBehind}
use Rattle.model_text.specs.Taken.{Description}
use Rattle.model_text.proofs.TextLemmas.{HasText}
use Rattle.model_writer.specs.Laws.{AreFine, IsContent, IsSpelledPart}
use Rattle.model_writer.specs.ModelText.{arc_said, entrant_said, floor_said, node_said, part_line, parts_said, said_line, said_of, said_text, title_said, window_said, windows_said}
use Rattle.model_writer.proofs.EndedLemmas.{ended-size}
use Rattle.model_writer.proofs.SaidBack.{spells-end, spells-header, spells-part}

-- ---- the line of a statement

line-content : (x : List ℕ) → IsLine x → IsContent x
unfolding line_limit
line-content x is = (is.short, kept-whole x is.kept)

floor-content : (floor : ℕ) (text : List ℕ) → floor ≤ floor_number_limit → IsTextBehind line_limit (7 + length (decimal floor)) text → IsContent (part_line (Floor floor text))
unfolding floor_number_limit
floor-content floor text few is = grind (arith, decimal-field, length-append, list_any-append, kept-whole, word-kept)

pub content-part : (p : SaidPart) → IsSpelledPart p → HasText line_limit p → IsContent (part_line p)
content-part (Title text) is fits = ((let short = fits.fits in omega arith), fits.one_line)
content-part (Period seconds) is text = line-content _ (spells-part (Period seconds) is).line
content-part (Horizon moments) is text = line-content _ (spells-part (Horizon moments) is).line
content-part (Floor floor text) is fits = floor-content floor text is.0.0 fits
content-part (Node name capacity start) is text = line-content _ (spells-part (Node name capacity start) is).line
content-part (Exit name) is text = line-content _ (spells-part (Exit name) is).line
content-part (Arc start finish travel rate) is text = line-content _ (spells-part (Arc start finish travel rate) is).line
content-part (Window start finish first until) is text = line-content _ (spells-part (Window start finish first until) is).line
content-part (Entrant name moment people) is text = line-content _ (spells-part (Entrant name moment people) is).line

-- ---- the texts of the parts

title-texts : (limit : ℕ) (title : Option (List ℕ)) → MatchOption title ⊤ (λ text. IsTextBehind limit 6 text) → All (HasText limit) (title_said title)
title-texts limit None is = All-nil (HasText limit)
title-texts limit (Some text) is = All-cons (HasText limit) (Title text) [] is (All-nil (HasText limit))

node-text : (limit : ℕ) (n : NodeRow) (t : Bool) → HasText limit (cond t (Exit n.name) (Node n.name n.capacity n.start))
node-text limit n true = tt
node-text limit n false = tt

windows-texts : (limit : ℕ) (m : Model) → All (HasText limit) (flat_map (windows_said m) m.arcs)
windows-texts limit m =
    All-flat_map_at (HasText limit) (windows_said m) m.arcs
    (λ k a within. let arc = get_or m.arcs k a in All-map (HasText limit) (window_said m arc) arc.windows.items (λ j w inside. tt))

parts-texts : (limit : ℕ) (d : Description) → IsPlain limit d → All (HasText limit) (parts_said d)
parts-texts limit d plain =
    let m = d.model in
    let es = map (entrant_said m) m.entrants in
    let ws = flat_map (windows_said m) m.arcs in
    let as' = map (arc_said m) m.arcs in
    let ns = map node_said m.nodes in
    let fs = map floor_said d.floors in
    let rows = fs ++ (ns ++ (as' ++ (ws ++ es))) in
    All-append (HasText limit) (title_said d.title) (Period m.seconds ∷ Horizon m.horizon ∷ rows) (title-texts limit d.title plain.title)
    (All-cons (HasText limit) (Period m.seconds) (Horizon m.horizon ∷ rows) tt (All-cons (HasText limit) (Horizon m.horizon) rows tt
    (All-append (HasText limit) fs (ns ++ (as' ++ (ws ++ es))) (All-map (HasText limit) floor_said d.floors plain.floor_texts)
    (All-append (HasText limit) ns (as' ++ (ws ++ es))
    (All-map (HasText limit) node_said m.nodes (λ k n within. let node = get_or m.nodes k n in node-text limit node (is_exit node.name.kind)))
    (All-append (HasText limit) as' (ws ++ es) (All-map (HasText limit) (arc_said m) m.arcs (λ k a within. tt))
    (All-append (HasText limit) ws es (windows-texts limit m) (All-map (HasText limit) (entrant_said m) m.entrants (λ k e within. tt))))))))

-- ---- all lines

fine-content : (taken ps : List SaidPart) → AreFine taken ps → All (HasText line_limit) ps → All (λ p. IsContent (part_line p)) ps
fine-content taken [] fine texts = All-nil (λ p. IsContent (part_line p))
fine-content taken (p ∷ ps) fine texts =
    All-cons (λ p. IsContent (part_line p)) p ps (content-part p fine.0 (All-head (HasText line_limit) p ps texts))
    (fine-content (p ∷ taken) ps fine.2 (All-tail (HasText line_limit) p ps texts))

pub contents : (d : Description) → IsPlain line_limit d → AreFine [] (parts_said d) → All (λ s. IsContent (said_line s)) (said_of d)
contents d plain fine =
    let P : Said → Type 0 = λ s. IsContent (said_line s) in
    let parts : All P (map Part (parts_said d)) = All-map P Part (parts_said d) (fine-content [] (parts_said d) fine (parts-texts line_limit d plain)) in
    All-cons P (Header 2) (map Part (parts_said d) ++ (End ∷ [])) (line-content _ (spells-header 2 (omega arith)).line)
    (All-append P (map Part (parts_said d)) (End ∷ []) parts (All-cons P End [] (line-content _ spells-end.line) (All-nil P)))

-- ---- how many they are

title-few : (title : Option (List ℕ)) → length (title_said title) ≤ 1
title-few None = omega arith
title-few (Some text) = omega arith

windows-few : (m : Model) (arcs : List ArcRow) → All (IsArc m.nodes) arcs → length (flat_map (windows_said m) arcs) ≤ length arcs * window_limit
windows-few m arcs each = grind (arith, length-flat_map, sum_by-le, length-map)

entrants-few : (nodes : List NodeRow) (horizon : ℕ) (es : List Coming) → All (IsEntrant nodes horizon) es → length es ≤ sum_by (λ e. e.people) es
entrants-few nodes horizon [] each = omega arith
entrants-few nodes horizon (e ∷ es) each =
    let more = entrants-few nodes horizon es (All-tail (IsEntrant nodes horizon) e es each) in
    let somebody = (All-head (IsEntrant nodes horizon) e es each).somebody in
    let whole = sum_by-cons (λ (f : Coming). f.people) e es in
    omega arith

parts-few : (d : Description) → length (parts_said d)
    ≡ length (title_said d.title) + (2 + (length d.floors + (length d.model.nodes + (length d.model.arcs + (length (flat_map (windows_said d.model) d.model.arcs) + length d.model.entrants)))))
parts-few d = simp (length-append, length-map) (omega arith)

pub few-said : (limit : ℕ) (d : Description) → IsPlain limit d → length (said_of d) < 2 ^ 17
unfolding floor_limit node_limit arc_limit window_limit people_limit people
few-said limit d plain =
    let m = d.model in
    let valid = plain.valid in
    omega (
      arith,
      parts-few d,
      title-few d.title,
      windows-few m m.arcs valid.arcs,
      entrants-few m.nodes m.horizon m.entrants valid.entrants,
      plain.few_floors,
      valid.nodes_fit,
      valid.arcs_fit,
      valid.people_fit,
      length-append (map Part (parts_said d)) (End ∷ []),
      length-map (parts_said d) Part,
    )

-- lines within the limit, fewer than some number
texts-fit : (ss : List Said) → All (λ s. IsContent (said_line s)) ss → length ss < 2 ^ 17 → length (flat_map said_text ss) ≤ input_limit
unfolding line_limit input_limit
texts-fit ss each few =
    let whole = length-flat_map said_text ss in
    let most = sum_by-le (λ s. length (said_text s)) 202 ss (λ k s within.
    let short = (each k s within).0 in
    let size = ended-size (said_line (get_or ss k s)) in
    omega arith) in
    omega arith

pub text-fits : (d : Description) → IsPlain line_limit d → All (λ s. IsContent (said_line s)) (said_of d) → length (flat_map said_text (said_of d)) ≤ input_limit
text-fits d plain each = texts-fit (said_of d) each (few-said line_limit d plain)
