-- A table of labels by a number for each node and moment.
use Rattle.std.proofs.Common.{◌≡◌, ℕ, ◌+◌, ◌<◌, ◌≤◌, length, map, refl, ap₂, ◌∙◌, arith}
use Rattle.std.specs.Prelude.{◌*◌, ◌/◌, ◌%◌}
use Rattle.std.proofs.lemmas.List.FromFn.{get_or-map-range_with_len, length-map-range_with_len}
use Rattle.std.proofs.lemmas.Nat.{div-mul-add, mod-mul-add, row_fits}
use Rattle.evac_law.specs.declared.model.Model.{Model}
use Rattle.evac_law.specs.Certificates.{IsTableOf}
use Rattle.evac_law.specs.LabelTable.{LabelTable, label_at}
use Rattle.evac_law.specs.Sums.{below}

pub table_of : Model → (ℕ → ℕ → ℕ) → LabelTable
table_of m f = record {
  nodes = length m.nodes;
  horizon = m.horizon;
  list = map (λ i. f (i / (m.horizon + 1)) (i % (m.horizon + 1))) (below (length m.nodes * (m.horizon + 1)));
}

pub table-at : (m : Model) (f : ℕ → ℕ → ℕ) (n t : ℕ) → n < length m.nodes → t ≤ m.horizon → label_at (table_of m f) n t ≡ f n t
unfolding table_of
table-at m f n t h k =
    let w = m.horizon + 1 in
    let g = λ (i : ℕ). f (i / w) (i % w) in
    get_or-map-range_with_len g 0 (length m.nodes * w) (n * w + t) (n * w + t) 0 (let r = row_fits n w (length m.nodes) w h (omega arith) in omega (arith, r, k)) (omega arith)
    ∙ ap₂ f (div-mul-add n w t (omega arith)) (mod-mul-add n w t (omega arith))

pub is-table : (m : Model) (f : ℕ → ℕ → ℕ) → IsTableOf m (table_of m f)
unfolding table_of
is-table m f = record { nodes = refl; horizon = refl }

pub table-full : (m : Model) (f : ℕ → ℕ → ℕ) → length (table_of m f).list ≡ (table_of m f).nodes * ((table_of m f).horizon + 1)
unfolding table_of
table-full m f = length-map-range_with_len (λ i. f (i / (m.horizon + 1)) (i % (m.horizon + 1))) 0 (length m.nodes * (m.horizon + 1))
