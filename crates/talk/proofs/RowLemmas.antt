-- The rows of the exits, one after another.
use Rattle.std.proofs.Common.{◌≡◌, ℕ, ◌+◌, Bool, true, false, List, [], ◌∷◌, ◌++◌, length, refl, set, ap, ap₂, sym, ◌∙◌, subst, arith, length-append, append_assoc, codes}
use Rattle.std.specs.List.{All, filter, flat_map}
use Rattle.std.proofs.lemmas.List.{map-append, set-get_or}
use Rattle.std.proofs.lemmas.List.Elements.{All-append, All-cons, All-nil}
use Rattle.evac_law.specs.declared.edit.Edit.{Edit}
use Rattle.evac_law.specs.declared.edit.Edit.TheVariants.{ShutExit}
use Rattle.evac_law.specs.declared.model.Model.{Model}
use Rattle.evac_law.specs.declared.model.NodeRow.{NodeRow}
use Rattle.evac_law.specs.Building.{is_exit_at, no_node, node_at}
use Rattle.evac_law.specs.Certificates.{label_cut}
use Rattle.evac_law.specs.Edits.{edited}
use Rattle.evac_law.specs.LabelTable.{LabelTable}
use Rattle.evac_law.specs.Sums.{below}
use Rattle.evac_law.proofs.ShapeLemmas.{edited_keeps_shape}
use Rattle.certificate_text.specs.BlockText.{end_line, in_lines, name_of_node}
use Rattle.certificate_text.specs.Short.{HasSameNames}
use Rattle.certificate_text.proofs.ExitLemmas.{filter_no, filter_yes}
use Rattle.certificate_text.proofs.ShortLemmas.{lines-same}
use Rattle.edit_session.specs.Sessions.{IsSolved, SessionState}
use Rattle.exit_study.specs.Exits.{IsClearedAt, IsExitRow, without_exit}
use Rattle.exit_study.specs.declared.exits.ExitRow.{ExitRow}
use Rattle.exit_study.specs.declared.exits.ExitRow.TheVariants.{Short}
use Rattle.line_io.specs.Writer.{Writes}
use Rattle.line_io.specs.declared.outside.Sink.{Ghosts}
use Rattle.line_io.specs.declared.writer.Writer.{Writer}
use Rattle.line_io.proofs.WriterLemmas.{writes_is, writes_then}
use Rattle.report_text.proofs.Parts.{parts-one}
use Rattle.report_text.specs.ReportText.{number_line}
use Rattle.talk.specs.StudyTexts.{AreRows, Row, SaysExits, exit_short_line, exits_of, outcome_text, row_text}

-- ---- the names of an edited model

pub edited_names : (m : Model) (e : Edit) → HasSameNames m (edited m e)
edited_names m e = let h = edited_keeps_shape m e in record { names = h.names; horizon = h.horizon }

-- the cut of an edited model, in lines, is printed by the names of the model
pub lines_edited : (m : Model) (e : Edit) (l : LabelTable) (k : ℕ) → in_lines m (label_cut m l k) ≡ in_lines (edited m e) (label_cut (edited m e) l k)
lines_edited m e l k = lines-same m (edited m e) l k (edited_names m e)

-- the row of an exit without which not everybody gets out, as the names of the model give it
pub short_row : (m : Model) (x : ℕ) (l : LabelTable) (row : ExitRow) (all most : ℕ) → row ≡ Short all most
    → exit_short_line (name_of_node m x) most ++ in_lines m (label_cut m l m.horizon) ≡ outcome_text m x l row
short_row m x l row all most is =
    ap (λ (t : List ℕ). exit_short_line (name_of_node m x) most ++ t) (lines_edited m (ShutExit x) l m.horizon) ∙ sym (ap (outcome_text m x l) is)

-- ---- an exit that is shut already

shut-same : (r : NodeRow) → r.shut ≡ true → record r { shut = true } ≡ r
shut-same r e = ap (λ (b : Bool). record r { shut = b }) (sym e)

pub shut_already : (m : Model) (x : ℕ) → (node_at m x).shut ≡ true → without_exit m x ≡ m
shut_already m x e =
    ap (λ (row : NodeRow). record m { nodes = set m.nodes x row }) (shut-same (node_at m x) e)
    ∙ ap (λ (nodes : List NodeRow). record m { nodes = nodes }) (set-get_or m.nodes x no_node)

pub cleared_already : (s : SessionState) (x : ℕ) → IsSolved s → (node_at s.model x).shut ≡ true → IsClearedAt (without_exit s.model x) s.last
cleared_already s x h e =
    subst (λ (m : Model). IsClearedAt m s.last) (sym (shut_already s.model x e)) (record { plan = s.plan; labels = s.labels; certified = h.certified })

-- the row of a model is that of an equal one
pub row_as : {X : Type 0} {G : Ghosts X} (m n : Model) (node : ℕ) (l : LabelTable) (row : ExitRow) (a b : Writer X) → n ≡ m
    → Writes G a (outcome_text n node l row) b → Writes G a (outcome_text m node l row) b
row_as m n node l row a b e h = writes_is (ap (λ (z : Model). outcome_text z node l row) e) h

-- ---- one more node

pub count_more : (p : ℕ → Bool) (n count : ℕ) → p n ≡ true → count ≡ length (filter p (below n)) → count + 1 ≡ length (filter p (below (n + 1)))
count_more p n count e h = rw (filter_yes p n e, length-append) (omega (arith, h))

pub count_same : (p : ℕ → Bool) (n count : ℕ) → p n ≡ false → count ≡ length (filter p (below n)) → count ≡ length (filter p (below (n + 1)))
count_same p n count e h = h ∙ ap length (sym (filter_no p n e))

pub rows_none : (m : Model) → AreRows m (filter (is_exit_at m) (below 0)) []
rows_none m = record { exits = refl; right = All-nil (λ (r : Row). IsExitRow m r.exit r.cut r.outcome) }

one : (m : Model) (row : Row) → IsExitRow m row.exit row.cut row.outcome → All (λ (r : Row). IsExitRow m r.exit r.cut r.outcome) (row ∷ [])
one m row right = let P : Row → Type 0 = λ r. IsExitRow m r.exit r.cut r.outcome in All-cons P row [] right (All-nil P)

pub rows_more : (m : Model) (n : ℕ) (rows : List Row) (row : Row) → AreRows m (filter (is_exit_at m) (below n)) rows → is_exit_at m n ≡ true → row.exit ≡ n
    → IsExitRow m row.exit row.cut row.outcome → AreRows m (filter (is_exit_at m) (below (n + 1))) (rows ++ row ∷ [])
rows_more m n rows row h e is right = record {
  exits = map-append (λ (r : Row). r.exit) rows (row ∷ []) ∙ ap₂ (λ (x y : List ℕ). x ++ y) h.exits (ap (λ (i : ℕ). i ∷ []) is) ∙ sym (filter_yes (is_exit_at m) n e);
  right = All-append (λ (r : Row). IsExitRow m r.exit r.cut r.outcome) rows (row ∷ []) h.right (one m row right);
}

pub rows_same : (m : Model) (n : ℕ) (rows : List Row) → AreRows m (filter (is_exit_at m) (below n)) rows → is_exit_at m n ≡ false
    → AreRows m (filter (is_exit_at m) (below (n + 1))) rows
rows_same m n rows h e = subst (λ (l : List ℕ). AreRows m l rows) (sym (filter_no (is_exit_at m) n e)) h

-- the row of one more exit was put after those before it
pub rows_put : {X : Type 0} {G : Ghosts X} (m of : Model) (n : ℕ) (head : List ℕ) (rows : List Row) (w a b : Writer X)
    → AreRows m (filter (is_exit_at m) (below n)) rows → is_exit_at m n ≡ true → of ≡ m
    → (row : Row) × (row.exit ≡ n) × IsExitRow of row.exit row.cut row.outcome × Writes G a (row_text of row) b
    → Writes G w (head ++ flat_map (row_text m) rows) a
    → (more : List Row) × AreRows m (filter (is_exit_at m) (below (n + 1))) more × Writes G w (head ++ flat_map (row_text m) more) b
rows_put m of n head rows w a b are exit is (row, place, right, puts) put =
    let here = subst (λ (z : Model). IsExitRow z row.exit row.cut row.outcome) is right in
    let texts = writes_is (ap (λ (z : Model). row_text z row) is) puts in
    let line : head ++ flat_map (row_text m) rows ++ row_text m row ≡ head ++ flat_map (row_text m) (rows ++ row ∷ []) =
    append_assoc head (flat_map (row_text m) rows) (row_text m row) ∙ ap (λ (l : List ℕ). head ++ l) (sym (parts-one (row_text m) rows row)) in
    (rows ++ row ∷ [], rows_more m n rows row are exit place here, writes_is line (writes_then put texts))

-- ---- all exits

abbrev pub exits_text : Model → List Row → List ℕ
exits_text m rows = number_line (codes "exits") (length (exits_of m)) ++ flat_map (row_text m) rows ++ end_line

pub rows_said : (m : Model) (n : ℕ) (rows : List Row) → n ≡ length m.nodes → AreRows m (filter (is_exit_at m) (below n)) rows → SaysExits m (exits_text m rows)
rows_said m n rows all h = record { rows = rows; all = subst (λ (i : ℕ). AreRows m (filter (is_exit_at m) (below i)) rows) all h; says = refl }
