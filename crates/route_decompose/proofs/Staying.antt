-- People who stay are taken off, the latest moment first.
use Rattle.std.proofs.Common.{◌≡◌, ℕ, ◌+◌, ◌<◌, ◌≤◌, ◌⊎◌, inl, inr, min, ◌∙◌, subst, sym, arith}
use Rattle.std.proofs.lemmas.Bool.{cases_lt}
use Rattle.route_decompose.specs.Stocks.{AllStay, IsLessHeld, LedEarlier, Stay, Stock, used}
use Rattle.plan_layout.specs.Tables.{people_at}
use Rattle.route_decompose.proofs.Leading.{led_by_hold, other_cell}
use Rattle.route_decompose.proofs.PlaceLemmas.{emptied-hold, least-is, less-held}

-- who stay at a moment t, the last of some, are taken off
module _ (u v w : Stock) (n from t p : ℕ) (less : IsLessHeld v w n t p) where
  as_before : (k : ℕ) → k < t → people_at w.holds n k ≡ people_at v.holds n k
  as_before k l = other_cell (people_at w.holds n k) (people_at v.holds n k) n t p n k (inl l) (less.less.cells n k)

  pub stay-still : Stay v n from (t + 1) p → Stay w n from t p
  stay-still h k from_in l = omega (arith, as_before k l, h k from_in (omega (arith, l)))

  pub led-earlier : (until : ℕ) → LedEarlier u v n (t + 1) until p → LedEarlier u w n t until p
  led-earlier until h s steps led = led_by_hold s v w n t p steps (h s steps led) less

  pub fewer-used : used v ≤ used u → used w ≤ used u
  fewer-used h = omega (arith, h, less-held v w n t p less)

  pub emptied-or-all : n < v.holds.rows → t ≤ v.holds.last → 1 ≤ p → used v ≤ used u → (used v + 1 ≤ used u) ⊎ AllStay v n from (t + 1) p
      → (used w + 1 ≤ used u) ⊎ AllStay w n from t p
  emptied-or-all row moment some few (inl h) = inl (omega (arith, h, less-held v w n t p less))
  emptied-or-all row moment some few (inr (k, from_in, l, all)) = by (cases_lt k t)
    where
      by : (k < t) ⊎ (t ≤ k) → (used w + 1 ≤ used u) ⊎ AllStay w n from t p
      by (inl earlier) = inr (k, from_in, earlier, as_before k earlier ∙ all)
      by (inr late) =
          let here : k ≡ t = omega (arith, l, late) in
          inl (omega (arith, few, emptied-hold v w n t p less row moment some (subst (λ j. people_at v.holds n j ≡ p) here all)))

-- ---- how long people stay

-- some stay at a moment u too, up to which p may stay; the fewer of these two may stay one moment longer
module _ (s : Stock) (n from u p held most least : ℕ) (here : people_at s.holds n u ≡ held) (is : least ≡ min p held) where
  pub stay-longer : Stay s n from u p → Stay s n from (u + 1) least
  stay-longer h k from_in l = grind arith

  pub all-longer : from ≤ u → (p ≡ most) ⊎ AllStay s n from u p → (least ≡ most) ⊎ AllStay s n from (u + 1) least
  all-longer later h = by (least-is p held least is) h
    where
      by : (least ≡ p) ⊎ (least ≡ held) → (p ≡ most) ⊎ AllStay s n from u p → (least ≡ most) ⊎ AllStay s n from (u + 1) least
      by (inr e) h = inr (u, later, omega arith, here ∙ sym e)
      by (inl e) (inl all) = inl (e ∙ all)
      by (inl e) (inr (k, from_in, l, all)) = inr (k, from_in, omega (arith, l), all ∙ sym e)
