-- A plan that has everybody out, as a stock: it is balanced, nobody stays, and everybody arrives in time.
use Rattle.std.proofs.Common.{◌≡◌, ℕ, zero, suc, ◌+◌, ◌-◌, ◌<◌, ◌≤◌, ◌⊎◌, inl, inr, Bool, true, false, cond, ◌&&◌, eqb, leb, List, length, ap, ◌∙◌, arith, pos}
use Rattle.std.specs.List.{All}
use Rattle.std.proofs.lemmas.Bool.{cases_Bool}
use Rattle.std.proofs.lemmas.Bool.Decides.{nat_tests}
use Rattle.std.proofs.lemmas.Int.{ints}
use Rattle.std.proofs.lemmas.List.Elements.{All-weaker}
use Rattle.evac_law.specs.declared.model.Model.{Model}
use Rattle.evac_law.specs.declared.plan.Move.{Move}
use Rattle.evac_law.specs.Building.{arc_at, entry, head, is_exit_at, tail}
use Rattle.evac_law.specs.Plans.{NobodyIsLeft, came, held, left, moved}
use Rattle.evac_law.specs.Stands.{Stand, Stands}
use Rattle.evac_law.specs.Sums.{places}
use Rattle.evac_law.proofs.Conserved.{all_out_leaves_nobody}
use Rattle.evac_law.proofs.SumLemmas.{by_place, cond_nothing, sum_by-same}
use Rattle.evac_law.proofs.Entries.{exit_entry}
use Rattle.evac_law.specs.Plans as plans
use Rattle.evac_law.proofs.WeakDuality.{came-suc, came-zero, left-suc, left-zero}
use Rattle.route_decompose.proofs.Arrivals.{arrives}
use Rattle.plan_layout.specs.Tables.{people_at}
use Rattle.route_decompose.specs.Stocks.{IsClosing, IsOpen, IsStock, Stock, before, left_coming, going}

-- ---- who comes and who goes

come_test : (e : Bool) (d t k w : ℕ) → cond ((e && leb d t) && eqb k (t - d)) w 0 ≡ cond (e && eqb (k + d) t) w 0
come_test e d t k w = grind (arith, nat_tests)

module _ (s : Stock) (p : List Move) (arcs : All (λ (v : Move). v.arc < length s.model.arcs) p) (moves : (a t : ℕ) → people_at s.left a t ≡ moved p a t) where
  coming_of : (n t : ℕ) → left_coming s n t ≡ plans.coming s.model p n t
  unfolding left_coming moved plans.coming
  coming_of n t =
      let m = s.model in
      sum_by-same _ _ (places m.arcs) (λ a. ap (λ z. cond (eqb (head m a) n && leb (arc_at m a).travel t) z 0) (moves a (t - (arc_at m a).travel)))
      ∙ by_place (λ a. eqb (head m a) n && leb (arc_at m a).travel t) (λ (v : Move). v.arc) (λ v. v.people) (λ a v. eqb v.moment (t - (arc_at m a).travel)) (length m.arcs) p arcs
      ∙ sum_by-same _ _ p (λ v. come_test (eqb (head m v.arc) n) (arc_at m v.arc).travel t v.moment v.people)

  going_of : (n t : ℕ) → going s n t ≡ plans.leaving s.model p n t
  unfolding going moved plans.leaving
  going_of n t =
      let m = s.model in
      sum_by-same _ _ (places m.arcs) (λ a. ap (λ z. cond (eqb (tail m a) n) z 0) (moves a t))
      ∙ by_place (λ a. eqb (tail m a) n) (λ (v : Move). v.arc) (λ v. v.people) (λ a v. eqb v.moment t) (length m.arcs) p arcs

nobody_there : (x : ℕ) → pos x ≡ pos 0 → x ≡ 0
nobody_there x e = omega (arith, ints, e)

came_is : (m : Model) (p : List Move) (n t x : ℕ) → pos x ≡ held m p n t → came m p n t ≡ left m p n t + x
unfolding held
came_is m p n t x e = omega (arith, ints, e)

-- what is known of a plan that is handed out, by a stand that fits
pub record IsTaken (f : Stand) (s : Stock) : Type 0 where
  pub stands : Stands s.model f
  pub moves : (a t : ℕ) → people_at s.left a t ≡ moved f.plan a t
  pub stays : (n t : ℕ) → n < length s.model.nodes → t ≤ s.model.horizon → people_at s.holds n t ≡ f.contents n t
  pub starts : (n t : ℕ) → people_at s.waiting n t ≡ entry s.model n t

module _ (f : Stand) (s : Stock) (h : IsTaken f s) where
  abbrev model : Model
  model = s.model

  abbrev p : List Move
  p = f.plan

  abbrev arcs : All (λ (v : Move). v.arc < length model.arcs) p
  arcs = h.stands.plan.feasible.arcs

  contents : (n t : ℕ) → n < length model.nodes → is_exit_at model n ≡ false → t ≤ model.horizon → pos (f.contents n t) ≡ held model p n t
  contents n t l e k = h.stands.fits.inside n t (omega (arith, l, h.stands.fits.nodes_same)) (omega (arith, k, h.stands.fits.horizon_same)) e

  in_node : (n t : ℕ) → n < length model.nodes → is_exit_at model n ≡ false → t ≤ model.horizon → came model p n t ≡ left model p n t + people_at s.holds n t
  in_node n t l e k = omega (arith, h.stays n t l k, came_is model p n t (f.contents n t) (contents n t l e k))

  at_node : (n t : ℕ) → n < length model.nodes → is_exit_at model n ≡ false → t ≤ model.horizon
      → before s n t + left_coming s n t ≡ people_at s.holds n t + going s n t
  at_node n zero l e k =
      omega (arith, came-zero model p n, coming_of s p arcs h.moves n 0, left-zero model p n, going_of s p arcs h.moves n 0, in_node n 0 l e k, h.starts n 0)
  at_node n (suc t) l e k =
      omega (
        arith,
        came-suc model p n t,
        coming_of s p arcs h.moves n (suc t),
        left-suc model p n t,
        going_of s p arcs h.moves n (suc t),
        h.starts n (suc t),
        in_node n t l e (omega (arith, k)),
        in_node n (suc t) l e k,
      )

  -- ---- everybody is out: nobody stays at the horizon, and nobody is on the way

  nobody : NobodyIsLeft model p model.horizon
  nobody = all_out_leaves_nobody model p model.horizon h.stands.valid h.stands.plan.feasible h.stands.plan.all_out

  closing_of : IsClosing s
  closing_of = record {
    none_stay = λ n l e.
        h.stays n model.horizon l (omega arith) ∙ nobody_there (f.contents n model.horizon) (contents n model.horizon l e (omega arith) ∙ nobody.nobody_inside n l e);
    in_time = λ a t l some.
        arrives model p nobody
        (All-weaker (λ (v : Move). (v.arc < f.arcs) × (v.moment ≤ f.horizon)) (λ v. v.moment ≤ model.horizon) (λ v b. omega (arith, b.1, h.stands.fits.horizon_same)) p
        h.stands.fits.ordered.in_range) a t
        (omega (arith, h.moves a t, some));
    from_inside = λ n t l some. starts_inside n t l some (cases_Bool (is_exit_at model n));
  }
    where
      starts_inside : (n t : ℕ) → n < length model.nodes → 0 < people_at s.waiting n t → (is_exit_at model n ≡ true) ⊎ (is_exit_at model n ≡ false)
          → is_exit_at model n ≡ false
      starts_inside n t l some (inl e) = absurd (omega (arith, exit_entry model n t h.stands.valid l e, h.starts n t, some))
      starts_inside n t l some (inr e) = e

  pub whole_of : IsStock s → IsOpen s
  whole_of stock = grind (arith, at_node, cond_nothing, closing_of)
