-- An answer block that was written reads back.
use Rattle.std.proofs.Common.{◌≡◌, ℕ, ◌+◌, ◌<◌, ◌≤◌, zero, suc, Bool, true, false, ◌||◌, cond, nat_eq, List, [], ◌∷◌, ◌++◌, length, get_or, map, not, ◌-◌, Ok, refl, sym, subst, ap, ap₂, ◌∙◌, arith, append_assoc, append-nil, length-append}
use Rattle.std.specs.Prelude.{nat_le}
use Rattle.std.specs.List.{All, flat_map}
use Rattle.std.proofs.lemmas.Bool.{le-leb, lt-leb, or_from, or_left, or_right}
use Rattle.std.proofs.lemmas.Grind.{flat_map-append}
use Rattle.std.proofs.Math.Seq.{take-append_seam}
use Rattle.std.proofs.lemmas.List.{length-map, map-append}
use Rattle.std.proofs.lemmas.List.Elements.{All-map, All-nil, All-push, All-take}
use Rattle.std.proofs.lemmas.List.Folds.{flat_map-map}
use Rattle.std.proofs.lemmas.List.FromFn.{length-map-range_with_len}
use Rattle.evac_law.specs.declared.model.Model.{Model}
use Rattle.evac_law.specs.declared.plan.Move.{Move}
use Rattle.evac_law.specs.Building.{IsValid, head, is_exit_at, node_at, people, tail}
use Rattle.evac_law.specs.Certificates.{IsCertified}
use Rattle.evac_law.specs.LabelTable.{LabelTable, label_at, unset}
use Rattle.evac_law.specs.Limits.{people_limit, rate_limit}
use Rattle.evac_law.specs.Moves.{move_of, moves_of}
use Rattle.evac_law.specs.Plans.{moved, out_by}
use Rattle.evac_law.specs.Stands.{IsOrdered}
use Rattle.evac_law.specs.Sums.{below, moments_to}
use Rattle.evac_law.proofs.Optimal.{certified_is_feasible, out_le_people}
use Rattle.evac_law.proofs.SumLemmas.{below-suc}
use Rattle.line_io.specs.Line.{Line, input_limit, lines_after, pieces, text_lines}
use Rattle.line_io.proofs.PassLemmas.{text_lines-append}
use Rattle.certificate_text.specs.declared.block.Block.{Block}
use Rattle.certificate_text.specs.declared.entry.Entry.{Entry}
use Rattle.certificate_text.specs.declared.entry.Entry.TheVariants as entries
use Rattle.certificate_text.specs.Block.{AreLabelsOf, HasAllLabels, IsBlockOf, number_field_limit}
use Rattle.certificate_text.specs.BlockEntries.{entries_of, label_entries, label_entry_at, entry_of_move, out_entries}
use Rattle.certificate_text.specs.BlockLaws.{IsAnswerBlock, ReadsBack, block_limit}
use Rattle.certificate_text.specs.BlockReadings.{ReadsAs, Stated, as_said, said_by}
use Rattle.certificate_text.specs.BlockText.{answer_line, answer_text, begins_run, cleared_line, end_line, label_line, label_lines, label_part, moment_moves, move_line, move_lines, move_part, name_of_node, out_line, people_line, shown_label}
use Rattle.certificate_text.proofs.BlockSize.{answer_size, rate-most}
use Rattle.certificate_text.proofs.CertifiedBack.{shown-certified}
use Rattle.certificate_text.proofs.EntryTexts.{IsWritable, body, entries-written, entry_text, texts-lines, texts-say}
use Rattle.certificate_text.proofs.LineTexts.{ended, lines-back}
use Rattle.certificate_text.proofs.ListParts.{below-same, enumerate-push, flat_map-flat_map}
use Rattle.certificate_text.proofs.OrderedMoves.{all-below, ordered-table}
use Rattle.certificate_text.proofs.SaidLemmas.{as_said-append}
use Rattle.certificate_text.proofs.Tables.{is-table, table-at, table-full, table_of}

-- ---- the text of a block's entries

pub entry_line : Entry → List ℕ
entry_line e = ended (entry_text e)

pub block_text : Model → Block → List ℕ
block_text m b = flat_map entry_line (entries_of m b)

text-spelled : (m : Model) (b : Block) → flat_map ended (map entry_text (entries_of m b)) ≡ block_text m b
unfolding block_text entry_line
text-spelled m b = flat_map-map ended entry_text (entries_of m b)

text-lines : (m : Model) (b : Block) (given : ℕ) → IsValid m → IsBlockOf m b → given + length (block_text m b) ≤ input_limit
    → lines_after given (pieces (block_text m b)) ≡ text_lines (map entry_text (body m b)) ++ (Ok (entry_text entries.End) ∷ [])
text-lines m b given valid of room =
    let texts = map entry_text (entries_of m b) in
    let size = ap (λ (x : List ℕ). length x) (text-spelled m b) in
    ap (λ x. lines_after given (pieces x)) (sym (text-spelled m b))
    ∙ lines-back given texts (texts-lines (entries_of m b) (entries-written m b valid of)) (omega (arith, size, room))
    ∙ ap text_lines (map-append entry_text (body m b) (entries.End ∷ [])) ∙ text_lines-append (map entry_text (body m b)) (entry_text entries.End ∷ [])

-- the text of a block states it, wherever it stands in an input
block-reads : (m : Model) (b : Block) (given before : ℕ) (rest : List Line) → IsValid m → IsBlockOf m b → HasAllLabels b → given + length (block_text m b) ≤ input_limit
    → ReadsAs m before (lines_after given (pieces (block_text m b)) ++ rest) (Stated b (before + length (entries_of m b)) rest)
block-reads m b given before rest valid of all room =
    let texts = map entry_text (body m b) in
    let whole : said_by (texts ++ (entry_text entries.End ∷ [])) ≡ as_said (entries_of m b) =
    ap said_by (sym (map-append entry_text (body m b) (entries.End ∷ []))) ∙ texts-say (entries_of m b) (entries-written m b valid of) in
    let written : All IsWritable (body m b) =
    subst (All IsWritable) (take-append_seam (body m b) (entries.End ∷ [])) (All-take IsWritable (length (body m b)) (entries_of m b) (entries-written m b valid of)) in
    let front : said_by texts ≡ as_said (body m b) = texts-say (body m b) written in
    record {
      texts = texts;
      behind = Ok (entry_text entries.End) ∷ rest;
      parts = ap (λ x. x ++ rest) (text-lines m b given valid of room) ∙ append_assoc (text_lines texts) (Ok (entry_text entries.End) ∷ []) rest;
      begins = record {
        block = b;
        next = entries.End;
        left = [];
        says = record { is_block = of; all_labels = all; entries = as_said-append (body m b) (entries.End ∷ []) ∙ ap (λ x. x ++ as_said (entries.End ∷ [])) (sym front) };
      };
      ends = (
        (let size = length-append (body m b) (entries.End ∷ []) in let count : length texts ≡ length (body m b) = length-map (body m b) entry_text in omega (arith, size, count)),
        (entry_text entries.End, refl, record { is_block = of; all_labels = all; entries = sym whole ∙ sym (append-nil (said_by (texts ++ (entry_text entries.End ∷ [])))) }),
      );
    }

-- ---- the block of an answer

-- its labels: as they are shown before c, and none for exits and from c on
answer_cell : Model → LabelTable → ℕ → ℕ → ℕ → ℕ
answer_cell m l c n t = cond (is_exit_at m n || nat_le c t) unset (shown_label l c n t)

cell-shown : (m : Model) (l : LabelTable) (c n t : ℕ) → is_exit_at m n ≡ false → t < c → answer_cell m l c n t ≡ shown_label l c n t
unfolding answer_cell
cell-shown m l c n t e k = ap (λ b. cond b unset (shown_label l c n t)) (or_from (is_exit_at m n) (nat_le c t) e (lt-leb c t k))

cell-exit : (m : Model) (l : LabelTable) (c n t : ℕ) → is_exit_at m n ≡ true → answer_cell m l c n t ≡ unset
unfolding answer_cell
cell-exit m l c n t e = ap (λ b. cond b unset (shown_label l c n t)) (or_left (is_exit_at m n) (nat_le c t) e)

cell-late : (m : Model) (l : LabelTable) (c n t : ℕ) → c ≤ t → answer_cell m l c n t ≡ unset
unfolding answer_cell
cell-late m l c n t k = ap (λ b. cond b unset (shown_label l c n t)) (or_right (is_exit_at m n) (nat_le c t) (le-leb c t k))

abbrev answer_labels : Model → LabelTable → ℕ → LabelTable
answer_labels m l c = table_of m (answer_cell m l c)

abbrev answer_block : ℕ → Model → List Move → LabelTable → ℕ → Block
answer_block index m p l c = record { index = index; people = people m; cleared = c; outs = map (out_by m p) (moments_to c); labels = answer_labels m l c; moves = p }

labels-shown : (m : Model) (l : LabelTable) (c n t : ℕ) → c ≤ m.horizon → n < length m.nodes → is_exit_at m n ≡ false → t < c → label_at (answer_labels m l c) n t ≡ shown_label l c n t
labels-shown m l c n t inside a e k = table-at m (answer_cell m l c) n t a (omega (arith, inside, k)) ∙ cell-shown m l c n t e k

labels-are : (m : Model) (l : LabelTable) (c : ℕ) → c ≤ m.horizon → AreLabelsOf m c (answer_labels m l c)
labels-are m l c inside = grind (arith, is-table, table-at, cell-exit, cell-late, labels-shown)

people-few : (n : ℕ) → n ≤ people_limit → n ≤ number_field_limit
unfolding people_limit number_field_limit
people-few n h = omega (arith, h)

rate-few : (n : ℕ) → n ≤ rate_limit → n ≤ number_field_limit
unfolding rate_limit number_field_limit
rate-few n h = omega (arith, h)

move-few : (f : ℕ → ℕ → ℕ) (t a : ℕ) (b : Bool) → f a t ≤ number_field_limit → All (λ (v : Move). v.people ≤ number_field_limit) (cond b [] (record { moment = t; arc = a; people = f a t } ∷ []))
move-few f t a true h = All-nil (λ (v : Move). v.people ≤ number_field_limit)
move-few f t a false h = All-push (λ (v : Move). v.people ≤ number_field_limit) [] (record { moment = t; arc = a; people = f a t }) (All-nil (λ (v : Move). v.people ≤ number_field_limit)) h

table-few : (arcs horizon : ℕ) (f : ℕ → ℕ → ℕ) → ((a t : ℕ) → a < arcs → t ≤ horizon → f a t ≤ number_field_limit) → All (λ (v : Move). v.people ≤ number_field_limit) (moves_of arcs horizon f)
unfolding moves_of
table-few arcs horizon f h =
    let P : Move → Type 0 = λ v. v.people ≤ number_field_limit in
    all-below P (λ t. flat_map (λ a. move_of f t a) (below arcs)) (horizon + 1) (λ t k.
    all-below P (λ a. move_of f t a) arcs (λ a l. move-few f t a (nat_eq (f a t) 0) (h a t l (omega (arith, k)))))

answer-is : (index : ℕ) (m : Model) (p : List Move) (l : LabelTable) (c : ℕ) → index ≤ number_field_limit → IsValid m → IsCertified m p l c → IsOrdered (length m.arcs) m.horizon p
    → IsBlockOf m (answer_block index m p l c)
answer-is index m p l c few valid cert ordered = record {
  in_horizon = cert.in_horizon;
  index_fits = few;
  people_fit = people-few (people m) valid.people_fit;
  outs_full = length-map-range_with_len (out_by m p) 0 (c + 1);
  outs_fit = All-map (λ n. n ≤ number_field_limit) (out_by m p) (moments_to c) (λ i d h.
      people-few _ (let a = out_le_people m p (get_or (moments_to c) i d) valid (certified_is_feasible m p l c (get_or (moments_to c) i d) valid cert) in let b = valid.people_fit in omega (arith, a, b)));
  labels = labels-are m l c cert.in_horizon;
  ordered = ordered;
  moves_fit = subst (λ (v : List Move). All (λ w. w.people ≤ number_field_limit) v) (sym (ordered-table (length m.arcs) m.horizon p ordered))
      (table-few (length m.arcs) m.horizon (moved p) (λ a t h k.
      rate-few (moved p a t) (let x = (certified_is_feasible m p l c m.horizon valid cert).rates a t h k in let y = rate-most m a t valid h in omega (arith, x, y))));
}

answer-answers : (index : ℕ) (m : Model) (p : List Move) (l : LabelTable) (c : ℕ) → IsValid m → IsCertified m p l c → IsAnswerBlock index m p l c (answer_block index m p l c)
answer-answers index m p l c valid cert =
    let labels = labels-are m l c cert.in_horizon in
    let shown = λ (n t : ℕ) (a : n < length m.nodes) (e : is_exit_at m n ≡ false) (k : t < c). labels-shown m l c n t cert.in_horizon a e k in
    record {
      index_same = refl;
      people_same = refl;
      cleared_same = refl;
      outs_same = refl;
      table = labels.table;
      shown = shown;
      exits_unset = λ n t a e k. labels.exits_unset n t a k e;
      late_unset = λ n t a k h. labels.late_unset n t a h k;
      certified = shown-certified m p l (answer_labels m l c) c valid cert shown;
      moves_same = refl;
    }

-- ---- the text of an answer is that of its block's entries

outs-text : (f : ℕ → ℕ) (n : ℕ) → flat_map entry_line (out_entries (map f (below n))) ≡ flat_map (λ k. out_line k (f k)) (below n)
unfolding entry_line out_line
outs-text f zero = refl
outs-text f (suc n) =
    let size : 0 + length (map f (below n)) ≡ n = (let q = length-map-range_with_len f 0 n in omega (arith, q)) in
    let outs : out_entries (map f (below (suc n))) ≡ out_entries (map f (below n)) ++ (entries.Out n (f n) ∷ []) =
    ap (λ x. out_entries (map f x)) (below-suc n) ∙ ap out_entries (map-append f (below n) (n ∷ []))
    ∙ ap (map (λ (o : ℕ × ℕ). entries.Out o.0 o.1)) (enumerate-push 0 (map f (below n)) (f n)) ∙ map-append (λ (o : ℕ × ℕ). entries.Out o.0 o.1) _ ((0 + length (map f (below n)), f n) ∷ [])
    ∙ ap (λ k. out_entries (map f (below n)) ++ (entries.Out k (f n) ∷ [])) size in
    ap (flat_map entry_line) outs ∙ flat_map-append entry_line (out_entries (map f (below n))) (entries.Out n (f n) ∷ [])
    ∙ ap₂ (λ x y. x ++ y) (outs-text f n) refl
    ∙ sym (ap (flat_map (λ k. out_line k (f k))) (below-suc n) ∙ flat_map-append (λ k. out_line k (f k)) (below n) (n ∷ []))

label-text : (m : Model) (f g : ℕ → ℕ) (n t : ℕ) (b : Bool) → f t ≡ g t
    → flat_map entry_line (cond b (entries.Label (node_at m n).name t (f t) ∷ []) []) ≡ cond b (label_line (name_of_node m n) t (g t)) []
unfolding entry_line label_line
label-text m f g n t true e = append-nil _ ∙ ap (λ v. entry_line (entries.Label (node_at m n).name t v)) e
label-text m f g n t false e = refl

begins-same : (f g : ℕ → ℕ) (t : ℕ) → f t ≡ g t → f (t - 1) ≡ g (t - 1) → begins_run f t ≡ begins_run g t
begins-same f g t e h = ap₂ (λ x y. nat_eq t 0 || not (nat_eq x y)) e h

node-text : (m : Model) (f : ℕ → ℕ → ℕ) (l : LabelTable) (c n : ℕ) (w : Bool) → (w ≡ false → (t : ℕ) → t < c → f n t ≡ shown_label l c n t)
    → flat_map entry_line (cond w [] (flat_map (label_entry_at m f n) (below c))) ≡ cond w [] (flat_map (label_part m l c n) (below c))
node-text m f l c n true same = refl
node-text m f l c n false same = grind (arith, flat_map-flat_map, entry_line, below-same, label-text, begins-same)

labels-text : (m : Model) (l : LabelTable) (c : ℕ) → c ≤ m.horizon → flat_map entry_line (label_entries m (label_at (answer_labels m l c)) c) ≡ label_lines m l c
labels-text m l c inside = grind (arith, flat_map-flat_map, entry_line, below-same, node-text, labels-shown)

move-text : (m : Model) (f : ℕ → ℕ → ℕ) (t a : ℕ) (b : Bool)
    → flat_map (λ v. entry_line (entry_of_move m v)) (cond b [] (record { moment = t; arc = a; people = f a t } ∷ []))
    ≡ cond b [] (move_line t (name_of_node m (tail m a)) (name_of_node m (head m a)) (f a t))
unfolding entry_line move_line
move-text m f t a true = refl
move-text m f t a false = append-nil _

moves-text : (m : Model) (p : List Move) → IsOrdered (length m.arcs) m.horizon p → flat_map entry_line (map (entry_of_move m) p) ≡ move_lines m p
unfolding moves_of
moves-text m p ordered =
    let f = moved p in
    let arcs = length m.arcs in
    let g : Move → List ℕ = λ v. entry_line (entry_of_move m v) in
    flat_map-map entry_line (entry_of_move m) p ∙ ap (flat_map g) (ordered-table arcs m.horizon p ordered)
    ∙ flat_map-flat_map g (λ t. flat_map (λ a. move_of f t a) (below arcs)) (moments_to m.horizon)
    ∙ below-same (λ t. flat_map g (flat_map (λ a. move_of f t a) (below arcs))) (moment_moves m p) (m.horizon + 1) (λ t k.
    flat_map-flat_map g (λ a. move_of f t a) (below arcs)
    ∙ below-same (λ a. flat_map g (move_of f t a)) (move_part m p t) arcs (λ a h. move-text m f t a (nat_eq (f a t) 0)))

heads-text : (index n c : ℕ) → flat_map entry_line (entries.Index index ∷ entries.People n ∷ entries.Cleared c ∷ []) ≡ (answer_line index ++ people_line n) ++ cleared_line c
unfolding entry_line answer_line people_line cleared_line
heads-text index n c = ap (λ x. entry_line (entries.Index index) ++ (entry_line (entries.People n) ++ x)) (append-nil (entry_line (entries.Cleared c)))
    ∙ sym (append_assoc (entry_line (entries.Index index)) (entry_line (entries.People n)) (entry_line (entries.Cleared c)))

end-text : flat_map entry_line (entries.End ∷ []) ≡ end_line
unfolding entry_line end_line
end-text = append-nil _

five : (a b c d e : List Entry) → flat_map entry_line ((((a ++ b) ++ c) ++ d) ++ e)
    ≡ (((flat_map entry_line a ++ flat_map entry_line b) ++ flat_map entry_line c) ++ flat_map entry_line d) ++ flat_map entry_line e
five a b c d e = grind (arith, flat_map-append, entry_line)

-- the text of an answer says the entries of its block
answer-spelled : (index : ℕ) (m : Model) (p : List Move) (l : LabelTable) (c : ℕ) → c ≤ m.horizon → IsOrdered (length m.arcs) m.horizon p
    → block_text m (answer_block index m p l c) ≡ answer_text index m p l c
unfolding block_text answer_text
answer-spelled index m p l c inside ordered =
    five (entries.Index index ∷ entries.People (people m) ∷ entries.Cleared c ∷ []) (out_entries (map (out_by m p) (moments_to c))) (label_entries m (label_at (answer_labels m l c)) c)
    (map (entry_of_move m) p) (entries.End ∷ [])
    ∙ ap₂ (λ x y. x ++ y) (ap₂ (λ x y. x ++ y) (ap₂ (λ x y. x ++ y) (ap₂ (λ x y. x ++ y) (heads-text index (people m) c) (outs-text (out_by m p) (c + 1))) (labels-text m l c inside)) (moves-text m p ordered)) end-text

-- where the text is within the limit of a block
sized-back : (index : ℕ) (m : Model) (p : List Move) (l : LabelTable) (c : ℕ) → index ≤ number_field_limit → IsValid m → IsCertified m p l c
    → IsOrdered (length m.arcs) m.horizon p → length (answer_text index m p l c) ≤ block_limit → ReadsBack index m p l c
sized-back index m p l c few valid cert ordered size =
    let b = answer_block index m p l c in
    let of = answer-is index m p l c few valid cert ordered in
    let spelled = answer-spelled index m p l c cert.in_horizon ordered in
    let same = ap (λ (x : List ℕ). length x) spelled in
    record {
      block = b;
      count = length (entries_of m b);
      reads = λ given before rest room.
          subst (λ (x : List ℕ). ReadsAs m before (lines_after given (pieces x) ++ rest) (Stated b (before + length (entries_of m b)) rest)) spelled
          (block-reads m b given before rest valid of (record { full = table-full m (answer_cell m l c) }) (omega (arith, size, room, same)));
      answer = answer-answers index m p l c valid cert;
    }

pub reads_back : (index : ℕ) (m : Model) (p : List Move) (l : LabelTable) (c : ℕ) → index ≤ number_field_limit → IsValid m → IsCertified m p l c → IsOrdered (length m.arcs) m.horizon p
    → ReadsBack index m p l c
reads_back index m p l c few valid cert ordered = sized-back index m p l c few valid cert ordered (answer_size index m p l c few valid cert)
