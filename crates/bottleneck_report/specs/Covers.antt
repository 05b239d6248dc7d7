-- Which periods are in some span, by how far the spans that begin in each period reach.
use Rattle.std.specs.Prelude.{ℕ, Bool, nat_lt, List, slice_index_or}
use Rattle.std.specs.List.{list_any}
use Rattle.evac_law.specs.Sums.{moments_to}

-- whether a span that begins by a period reaches past it
abbrev pub covers : List ℕ → ℕ → Bool
covers ends k = list_any (λ f. nat_lt k (slice_index_or ends f 0)) (moments_to k)
