-- Entries tell the block, and lines are read in one way.
use Rattle.std.proofs.Common.{◌≡◌, ℕ, ◌+◌, ◌⊎◌, true, false, List, [], ◌∷◌, ◌++◌, length, map, Ok, Err, Some, refl, sym, subst, ap, ap₂, ◌∙◌, inl, inr, append_assoc, append-nil}
use Rattle.std.specs.List.{All, enumerate_from}
use Rattle.std.proofs.lemmas.List.Elements.{All-append, All-cons, All-head, All-map, All-nil, All-tail}
use Rattle.evac_law.specs.declared.code.Code.{Code}
use Rattle.evac_law.specs.declared.model.Model.{Model}
use Rattle.evac_law.specs.Building.{IsValid}
use Rattle.evac_law.specs.LabelTable.{label_at}
use Rattle.line_io.specs.Line.{Line, text_lines}
use Rattle.certificate_text.specs.declared.block.Block.{Block}
use Rattle.certificate_text.specs.declared.entry.Entry.{Entry}
use Rattle.certificate_text.specs.declared.entry.Entry.TheVariants as entries
use Rattle.certificate_text.specs.Block.{HasAllLabels, IsBlockOf}
use Rattle.certificate_text.specs.BlockEntries.{entries_of, label_entries, entry_of_move, out_entries}
use Rattle.certificate_text.specs.BlockReadings.{Begins, BlockReading, EndsBlock, ReadsAs, Refused, Refuses, Says, Stated, as_said, said_by}
use Rattle.certificate_text.proofs.EntryTexts.{body}
use Rattle.block_reader.specs.DraftFacts.{all_runs}
use Rattle.block_reader.proofs.DraftEntries.{run_entry}
use Rattle.block_reader.specs.Drafts.{Draft, IsStated, no_draft}
use Rattle.certificate_text.specs.Entries.{is_end}
use Rattle.block_reader.proofs.BlockWalks.{block-stated, block-walk, block_draft}
use Rattle.block_reader.proofs.OneBlock.{states_one}
use Rattle.block_reader.proofs.OptionLemmas.{some-same}
use Rattle.block_reader.proofs.Runs.{label_entries-runs}
use Rattle.certificate_text.proofs.SaidLemmas.{as_said-end, as_said-same, as_said-split, said_by-append}
use Rattle.block_reader.proofs.Walks.{walk}

-- ---- blocks by their entries

pub one_block : (m : Model) (b other : Block) → IsValid m → IsBlockOf m b → HasAllLabels b → IsBlockOf m other → HasAllLabels other → entries_of m b ≡ entries_of m other → b ≡ other
one_block m b other valid of all of_other all_other e =
    let same : block_draft m b ≡ block_draft m other = some-same (block_draft m b) (block_draft m other) (sym (block-walk m b valid of) ∙ ap (walk m no_draft) e ∙ block-walk m other valid of_other) in
    states_one m (block_draft m b) b other (block-stated m b of all) (subst (λ (d : Draft). IsStated m d other) (sym same) (block-stated m other of_other all_other))

-- ---- the end is the last entry

abbrev NoEnd : Entry → Type 0
NoEnd e = is_end e ≡ false

body-goes-on : (m : Model) (b : Block) → All NoEnd (body m b)
body-goes-on m b =
    let runs = all_runs m (label_at b.labels) b.cleared (length m.nodes) in
    let heads = entries.Index b.index ∷ entries.People b.people ∷ entries.Cleared b.cleared ∷ [] in
    All-append NoEnd ((heads ++ out_entries b.outs) ++ label_entries m (label_at b.labels) b.cleared) (map (entry_of_move m) b.moves)
    (All-append NoEnd (heads ++ out_entries b.outs) (label_entries m (label_at b.labels) b.cleared)
    (All-append NoEnd heads (out_entries b.outs)
    (All-cons NoEnd (entries.Index b.index) (entries.People b.people ∷ entries.Cleared b.cleared ∷ []) refl
    (All-cons NoEnd (entries.People b.people) (entries.Cleared b.cleared ∷ []) refl (All-cons NoEnd (entries.Cleared b.cleared) [] refl (All-nil NoEnd))))
    (All-map NoEnd (λ (o : ℕ × ℕ). entries.Out o.0 o.1) (enumerate_from 0 b.outs) (λ i d l. refl)))
    (subst (All NoEnd) (sym (label_entries-runs m (label_at b.labels) b.cleared)) (All-map NoEnd (run_entry m) runs (λ i d l. refl))))
    (All-map NoEnd (entry_of_move m) b.moves (λ i d l. refl))

never-none : {X : Type 0} (ys : List X) (x : X) (zs : List X) → [] ≡ ys ++ (x ∷ zs) → ⊥
never-none [] x zs e = cc
never-none (y ∷ ys) x zs e = cc

end-last : (xs ys : List Entry) (e : Entry) (zs : List Entry) → All NoEnd xs → is_end e ≡ true → xs ++ (entries.End ∷ []) ≡ ys ++ (e ∷ zs) → zs ≡ []
end-last [] [] e zs all is same = cc
end-last [] (y ∷ ys) e zs all is same = let more : [] ≡ ys ++ (e ∷ zs) = cc in absurd (never-none ys e zs more)
end-last (x ∷ xs) [] e zs all is same =
    let first : x ≡ e = cc in
    let z : true ≡ false = sym is ∙ ap is_end (sym first) ∙ All-head NoEnd x xs all in cc
end-last (x ∷ xs) (y ∷ ys) e zs all is same = let more : xs ++ (entries.End ∷ []) ≡ ys ++ (e ∷ zs) = cc in end-last xs ys e zs (All-tail NoEnd x xs all) is more

-- no block begins with all of another one and goes on
whole-last : (m : Model) (texts : List (List ℕ)) (b other : Block) (left : List Entry) → Says m texts b [] → Says m texts other left → left ≡ []
whole-last m texts b other left says goes_on =
    let all : as_said (entries_of m b) ≡ said_by texts = says.entries ∙ append-nil (said_by texts) in
    let split = as_said-split (entries_of m other) (entries_of m b) (as_said left) (goes_on.entries ∙ ap (λ x. x ++ as_said left) (sym all)) in
    let none : split.0 ≡ [] = end-last (body m other) (body m b) entries.End split.0 (body-goes-on m other) refl (split.1 ∙ append_assoc (body m b) (entries.End ∷ []) split.0) in
    as_said-same left [] (sym split.2 ∙ ap as_said none)

-- ---- lines that begin in two ways

-- texts that go on where others stop
record GoesOn (xs ys : List (List ℕ)) (a b : List Line) : Type 0 where
  text : List ℕ
  more : List (List ℕ)
  texts : ys ≡ xs ++ (text ∷ more)
  lines : a ≡ Ok text ∷ (text_lines more ++ b)

goes-more : (x : List ℕ) (xs ys : List (List ℕ)) (a b : List Line) → GoesOn xs ys a b → GoesOn (x ∷ xs) (x ∷ ys) a b
goes-more x xs ys a b h = record { text = h.text; more = h.more; texts = ap (λ l. x ∷ l) h.texts; lines = h.lines }

meet : (xs ys : List (List ℕ)) (a b : List Line) → text_lines xs ++ a ≡ text_lines ys ++ b → ((xs ≡ ys) × (a ≡ b)) ⊎ (GoesOn xs ys a b ⊎ GoesOn ys xs b a)
meet [] [] a b e = inl (refl, e)
meet [] (y ∷ ys) a b e = inr (inl (record { text = y; more = ys; texts = refl; lines = e }))
meet (x ∷ xs) [] a b e = inr (inr (record { text = x; more = xs; texts = refl; lines = sym e }))
meet (x ∷ xs) (y ∷ ys) a b e =
    let first : x ≡ y = cc in
    let rest : text_lines xs ++ a ≡ text_lines ys ++ b = cc in
    elim (meet xs ys a b rest) [
      | inl s ↦ inl (ap₂ (λ h t. h ∷ t) first s.0, s.1)
      | inr s ↦ elim s [
        | inl g ↦ inr (inl (subst (λ (z : List ℕ). GoesOn (x ∷ xs) (z ∷ ys) a b) first (goes-more x xs ys a b g)))
        | inr g ↦ inr (inr (subst (λ (z : List ℕ). GoesOn (z ∷ ys) (x ∷ xs) b a) first (goes-more x ys xs b a g)))
      ]
    ]

-- what a front of lines says is a part of a block, and more is left
front-says : (m : Model) (xs more : List (List ℕ)) (text : List ℕ) (b : Block) (next : Entry) (left : List Entry) → Says m (xs ++ (text ∷ more)) b (next ∷ left)
    → (rest : List Entry) × Says m (xs ++ (text ∷ [])) b rest × (as_said rest ≡ said_by more ++ as_said (next ∷ left))
front-says m xs more text b next left h =
    let whole : as_said (entries_of m b) ≡ said_by (xs ++ (text ∷ [])) ++ (said_by more ++ as_said (next ∷ left)) =
    h.entries ∙ ap (λ z. said_by z ++ as_said (next ∷ left)) (sym (append_assoc xs (text ∷ []) more)) ∙ ap (λ z. z ++ as_said (next ∷ left)) (said_by-append (xs ++ (text ∷ [])) more)
    ∙ append_assoc (said_by (xs ++ (text ∷ []))) (said_by more) (as_said (next ∷ left)) in
    let end = as_said-end (entries_of m b) (said_by (xs ++ (text ∷ []))) (said_by more ++ as_said (next ∷ left)) whole in
    (end.0, record { is_block = h.is_block; all_labels = h.all_labels; entries = whole ∙ ap (λ z. said_by (xs ++ (text ∷ [])) ++ z) end.1 }, sym end.1)

ended-by : (m : Model) (xs more : List (List ℕ)) (text : List ℕ) (lines rest : List Line) (number : ℕ) (r : BlockReading) (b : Block) (next : Entry) (left : List Entry)
    → EndsBlock m xs lines number r → lines ≡ Ok text ∷ rest → Says m (xs ++ (text ∷ more)) b (next ∷ left) → ⊥
ended-by m xs more text lines rest number (Stated block last behind) b next left h is says =
    let f = front-says m xs more text b next left says in
    let same : h.1.0 ≡ text = (let e = sym h.1.1 ∙ is in cc) in
    let none = whole-last m (xs ++ (text ∷ [])) block b f.0 (subst (λ (t : List ℕ). Says m (xs ++ (t ∷ [])) block []) same h.1.2) f.1 in
    never-none (said_by more) (Some next) (as_said left) (sym (ap as_said none) ∙ f.2)
ended-by m xs more text lines rest number (Refused code line) b next left h is says =
    let f = front-says m xs more text b next left says in
    (subst (λ (l : List Line). Refuses m xs l code) is h.1).1 b f.0 f.1

too-far : (m : Model) (xs ys : List (List ℕ)) (a b : List Line) (number : ℕ) (r : BlockReading) → EndsBlock m xs a number r → Begins m ys → GoesOn xs ys a b → ⊥
too-far m xs ys a b number r h begins g =
    ended-by m xs g.more g.text a (text_lines g.more ++ b) number r begins.block begins.next begins.left h g.lines (subst (λ (z : List (List ℕ)). Says m z begins.block (begins.next ∷ begins.left)) g.texts begins.says)

-- ---- one end

one-code : (m : Model) (xs : List (List ℕ)) (lines : List Line) (code other : Code) → Refuses m xs lines code → Refuses m xs lines other → code ≡ other
one-code m xs [] code other h g = h ∙ sym g
one-code m xs (Err fault ∷ lines) code other h g = h ∙ sym g
one-code m xs (Ok text ∷ lines) code other h g = h.0 ∙ sym g.0

stated-or : (m : Model) (xs : List (List ℕ)) (lines : List Line) (number : ℕ) (block : Block) (last : ℕ) (rest : List Line) (code : Code)
    → EndsBlock m xs lines number (Stated block last rest) → Refuses m xs lines code → ⊥
stated-or m xs lines number block last rest code h refuses = (subst (λ (l : List Line). Refuses m xs l code) h.1.1 refuses).1 block [] h.1.2

one-end : (m : Model) (xs : List (List ℕ)) (lines : List Line) (number : ℕ) (r s : BlockReading) → IsValid m → EndsBlock m xs lines number r → EndsBlock m xs lines number s → r ≡ s
one-end m xs lines number (Stated b last rest) (Stated c at behind) valid h g =
    let both = sym h.1.1 ∙ g.1.1 in
    let text : h.1.0 ≡ g.1.0 = cc in
    let same : rest ≡ behind = cc in
    let says = h.1.2 in
    let also = subst (λ (t : List ℕ). Says m (xs ++ (t ∷ [])) c []) (sym text) g.1.2 in
    let block = one_block m b c valid says.is_block says.all_labels also.is_block also.all_labels (as_said-same (entries_of m b) (entries_of m c) (says.entries ∙ sym also.entries)) in
    ap₂ (λ x k. Stated x k rest) block (h.0 ∙ sym g.0) ∙ ap (Stated c at) same
one-end m xs lines number (Stated b last rest) (Refused code line) valid h g = absurd (stated-or m xs lines number b last rest code h g.1)
one-end m xs lines number (Refused code line) (Stated b last rest) valid h g = absurd (stated-or m xs lines number b last rest code g h.1)
one-end m xs lines number (Refused code line) (Refused other at) valid h g = ap₂ Refused (one-code m xs lines code other h.1 g.1) (h.0 ∙ sym g.0)

pub one-reading : (m : Model) (before : ℕ) (lines : List Line) (r s : BlockReading) → IsValid m → ReadsAs m before lines r → ReadsAs m before lines s → r ≡ s
one-reading m before lines r s valid h g =
    elim (meet h.texts g.texts h.behind g.behind (sym h.parts ∙ g.parts)) [
      | inl e ↦ one-end m h.texts h.behind (before + length h.texts + 1) r s valid h.ends
          (subst (λ (xs : List (List ℕ)). EndsBlock m xs h.behind (before + length xs + 1) s) (sym e.0) (subst (λ (l : List Line). EndsBlock m g.texts l (before + length g.texts + 1) s) (sym e.1) g.ends))
      | inr e ↦ elim e [
        | inl far ↦ absurd (too-far m h.texts g.texts h.behind g.behind _ r h.ends g.begins far)
        | inr far ↦ absurd (too-far m g.texts h.texts g.behind h.behind _ s g.ends h.begins far)
      ]
    ]
