-- The items of a cut, and those of the cut of no pair.
use Rattle.std.proofs.Common.{◌≡◌, ℕ, suc, ◌+◌, Bool, true, false, cond, List, [], ◌∷◌, ◌++◌, length, refl, ◌∙◌, subst, arith, append-nil}
use Rattle.std.specs.List.{All, flat_map}
use Rattle.std.proofs.lemmas.Grind.{flat_map-append}
use Rattle.std.proofs.lemmas.List.Elements.{All-append, All-cons, All-nil}
use Rattle.evac_law.specs.declared.cut.CutItem.{CutItem}
use Rattle.evac_law.specs.declared.cut.CutItem.TheVariants.{Arc, Entry, Hold}
use Rattle.evac_law.specs.declared.model.Model.{Model}
use Rattle.evac_law.specs.Building.{capacity, entry, rate}
use Rattle.evac_law.specs.Cuts.{Cut, arc_items, cut_items, entry_items, entry_part, hold_items}
use Rattle.evac_law.specs.Sums.{below, moments_to, places}
use Rattle.certificate_text.specs.BlockText.{name_of_node}
use Rattle.certificate_text.proofs.OrderedMoves.{all-below}
use Rattle.certificate_text.proofs.ListParts.{flat_map-flat_map}
use Rattle.report_text.specs.Parts.{IsItemOf, entry_text, no_pair}
use Rattle.report_text.specs.ReportText.{entry_line, item_line}
use Rattle.report_text.proofs.Parts.{parts-nothing, parts-same}

-- ---- the items are of the model

all_one : {X : Type 0} (P : X → Type 0) (b : Bool) (x : X) → P x → All P (cond b (x ∷ []) [])
all_one P true x h = All-cons P x [] h (All-nil P)
all_one P false x h = All-nil P

all_other : {X : Type 0} (P : X → Type 0) (b : Bool) (x : X) → P x → All P (cond b [] (x ∷ []))
all_other P true x h = All-nil P
all_other P false x h = All-cons P x [] h (All-nil P)

pub items_are : (m : Model) (x : Cut) (k : ℕ) → All (IsItemOf m) (cut_items m x k)
unfolding cut_items
items_are m x k =
    All-append (IsItemOf m) (entry_items m x k) (hold_items m x k ++ arc_items m x k)
    (all-below (IsItemOf m) _ (length m.nodes) (λ n l. all-below (IsItemOf m) _ (k + 1) (λ t h. all_other (IsItemOf m) _ (Entry n (entry m n t)) l)))
    (All-append (IsItemOf m) (hold_items m x k) (arc_items m x k)
    (all-below (IsItemOf m) _ (length m.nodes) (λ n l. all-below (IsItemOf m) _ k (λ t h. all_one (IsItemOf m) _ (Hold n t (capacity m n)) l)))
    (all-below (IsItemOf m) _ (k + 1) (λ t h. all-below (IsItemOf m) _ (length m.arcs) (λ a l. all_one (IsItemOf m) _ (Arc a t (rate m a t)) l))))

-- ---- the first of some items

pub head_is : (m : Model) (items more : List CutItem) (item : CutItem) → items ≡ item ∷ more → All (IsItemOf m) items → IsItemOf m item
head_is m items more item e h = let all : All (IsItemOf m) (item ∷ more) = subst (All (IsItemOf m)) e h in all 0 item (omega arith)

pub tail_is : (m : Model) (items more : List CutItem) (item : CutItem) → items ≡ item ∷ more → All (IsItemOf m) items → All (IsItemOf m) more
tail_is m items more item e h =
    let all : All (IsItemOf m) (item ∷ more) = subst (All (IsItemOf m)) e h in λ k d l. all (suc k) d (omega (arith, l))

-- those before it, it and those after it
pub parted : (m : Model) (done items more whole : List CutItem) (item : CutItem) → items ≡ item ∷ more → done ++ items ≡ whole
    → flat_map (item_line m) done ++ (item_line m item ++ flat_map (item_line m) more) ≡ flat_map (item_line m) whole
parted m done items more whole item e h = grind (arith, flat_map-append)

-- ---- the cut of no pair

one_line : (m : Model) (n t : ℕ) (b : Bool) → flat_map (item_line m) (cond b [] (Entry n (entry m n t) ∷ [])) ≡ cond b [] (entry_line (name_of_node m n) (entry m n t))
one_line m n t true = refl
one_line m n t false = append-nil (entry_line (name_of_node m n) (entry m n t))

node_lines : (m : Model) (n k : ℕ) → flat_map (item_line m) (flat_map (entry_part m no_pair n) (moments_to k)) ≡ flat_map (entry_text m n) (moments_to k)
node_lines m n k = grind (arith, flat_map-flat_map, parts-same, one_line)

no_holds : (m : Model) (k : ℕ) → hold_items m no_pair k ≡ []
no_holds m k = parts-same _ (λ _. []) (places m.nodes) (λ n. parts-nothing (below k)) ∙ parts-nothing (places m.nodes)

no_arcs : (m : Model) (k : ℕ) → arc_items m no_pair k ≡ []
no_arcs m k = parts-same _ (λ _. []) (moments_to k) (λ t. parts-nothing (places m.arcs)) ∙ parts-nothing (moments_to k)

pub entry_lines : (m : Model) (k : ℕ) → flat_map (λ n. flat_map (entry_text m n) (moments_to k)) (places m.nodes) ≡ flat_map (item_line m) (cut_items m no_pair k)
unfolding cut_items
entry_lines m k = grind (arith, flat_map-flat_map, parts-same, node_lines, no_holds, no_arcs, append-nil)
