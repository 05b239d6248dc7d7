-- The short block of a model is that of each other with the same names and so many people.
use Rattle.std.proofs.Common.{◌≡◌, ℕ, ◌++◌, List, [], length, get_or, if◌then◌else◌, sym, ap, ◌∙◌, ap₂}
use Rattle.std.specs.Prelude.{◌-◌, not, ◌&&◌, nat_le, nat_lt}
use Rattle.std.specs.List.{flat_map}
use Rattle.std.proofs.Math.ListN.{get_or-map}
use Rattle.std.proofs.Math.Path.{fun_ext}
use Rattle.std.proofs.lemmas.List.{length-map}
use Rattle.evac_law.specs.declared.code.Code.TheVariants.{NotCleared}
use Rattle.evac_law.specs.declared.model.Model.{Model}
use Rattle.evac_law.specs.declared.model.NodeRow.{NodeRow}
use Rattle.evac_law.specs.declared.name.NodeName.{NodeName}
use Rattle.evac_law.specs.Building.{no_node, node_at, people}
use Rattle.evac_law.specs.Certificates.{label_cut}
use Rattle.evac_law.specs.LabelTable.{LabelTable, label_at}
use Rattle.evac_law.specs.Names.{is_exit, name_text}
use Rattle.evac_law.specs.Sums.{below, moments_to}
use Rattle.certificate_text.specs.BlockText.{end_line, in_line, in_lines, most_line, opens_run, people_line, refusal_line, run_end, shortfall_text}
use Rattle.certificate_text.specs.Short.{HasSameNames}

-- the cut of moment k by labels, of nodes with these names, in lines
abbrev named_lines : LabelTable → ℕ → (ℕ → NodeName) → ℕ → ℕ → List ℕ
named_lines l k name nodes horizon = flat_map (λ n. if is_exit (name n).kind then [] else
    let inside = λ (t : ℕ). nat_le t k && (not (is_exit (name n).kind) && nat_lt k (label_at l n t)) in
    flat_map (λ t. if opens_run inside t then in_line (name_text (name n)) t (run_end inside t (horizon - t)) else []) (moments_to horizon))
    (below nodes)

name-same : (m other : Model) → HasSameNames m other → (n : ℕ) → (node_at m n).name ≡ (node_at other n).name
name-same m other same n =
    let name = λ (row : NodeRow). row.name in
    sym (get_or-map name m.nodes n no_node) ∙ ap (λ (x : List NodeName). get_or x n no_node.name) (sym same.names) ∙ get_or-map name other.nodes n no_node

count-same : (m other : Model) → HasSameNames m other → length m.nodes ≡ length other.nodes
count-same m other same =
    let name = λ (row : NodeRow). row.name in
    sym (length-map m.nodes name) ∙ ap (λ (x : List NodeName). length x) (sym same.names) ∙ length-map other.nodes name

pub lines-same : (m other : Model) (l : LabelTable) (k : ℕ) → HasSameNames m other → in_lines m (label_cut m l k) ≡ in_lines other (label_cut other l k)
lines-same m other l k same =
    ap (λ (name : ℕ → NodeName). named_lines l k name (length m.nodes) m.horizon) (fun_ext (name-same m other same))
    ∙ ap₂ (λ (nodes horizon : ℕ). named_lines l k (λ n. (node_at other n).name) nodes horizon) (count-same m other same) (sym same.horizon)

-- the short block of a model with so many people in the place of its own
unfoldable pub short_text : ℕ → Model → ℕ → LabelTable → ℕ → List ℕ
short_text line m all l most = refusal_line NotCleared line ++ people_line all ++ most_line most ++ in_lines m (label_cut m l m.horizon) ++ end_line

pub short-same : (line : ℕ) (m other : Model) (all : ℕ) (l : LabelTable) (most : ℕ) → HasSameNames m other → people other ≡ all
    → short_text line m all l most ≡ shortfall_text line other (label_cut other l other.horizon) most
unfolding short_text shortfall_text
short-same line m other all l most same few =
    ap₂ (λ (p : ℕ) (x : List ℕ). refusal_line NotCleared line ++ people_line p ++ most_line most ++ x ++ end_line) (sym few)
    (lines-same m other l m.horizon same ∙ ap (λ (k : ℕ). in_lines other (label_cut other l k)) (sym same.horizon))
