-- After the moves made before a moment, as many are held as in what is left of the building.
use Rattle.std.proofs.Common.{◌≡◌, ℕ, zero, suc, ◌+◌, ◌-◌, ◌<◌, ◌≤◌, Bool, true, false, cond, ◌&&◌, ◌||◌, eqb, leb, ltb, IsFalse, List, length, get_or, ap, ap₂, ◌∙◌, ◌⊎◌, inl, inr, arith, pos, ◌-ℤ◌, ◌+ℤ◌}
use Rattle.std.specs.List.{All, sum_by}
use Rattle.std.proofs.lemmas.List.Elements.{All-filter, All-weaker}
use Rattle.std.proofs.lemmas.Bool.Decides.{nat_tests}
use Rattle.std.proofs.lemmas.Int.{ints}
use Rattle.evac_law.specs.declared.model.ArcRow.{ArcRow}
use Rattle.evac_law.specs.declared.model.Model.{Model}
use Rattle.evac_law.specs.declared.plan.Move.{Move}
use Rattle.evac_law.specs.Building.{IsValid, arc_at, capacity, entry, head, is_exit_at, no_arc, node_at, rate, tail}
use Rattle.evac_law.specs.Plans.{TakesAllOut, above, came, coming, held, inside, leaving, left, out_by}
use Rattle.evac_law.specs.Sums.{moments_to}
use Rattle.evac_law.specs.Windows.{is_closed_at}
use Rattle.evac_law.proofs.SumLemmas.{sum_by-same, sum_by-same_all, sum_moments-zero, sum_moments-suc}
use Rattle.evac_law.proofs.ValidLemmas.{arc_is}
use Rattle.evac_law.proofs.WeakDuality.{within}
use Rattle.replan.specs.Committed.{moves_before, moves_from}
use Rattle.replan.specs.Rest.{rest_entry}
use Rattle.replan.proofs.Parted.{IsBehind, arrived, arrived_behind, arrived_not_yet, arrived_suc, before_is, came_is, from_late, leaving_behind, leaving_over, left_behind, left_now, own_behind}

-- ---- two buildings with the same arcs and the same exits

-- what is left of a building, part by part
pub record IsLeft (m : Model) (p : List Move) (s : ℕ) (m' : Model) : Type 0 where
  pub arcs : m'.arcs ≡ m.arcs
  pub size : length m'.nodes ≡ length m.nodes
  pub horizon : m'.horizon ≡ m.horizon
  pub exits : (n : ℕ) → is_exit_at m' n ≡ is_exit_at m n
  pub rooms : (n : ℕ) → capacity m' n ≡ capacity m n
  pub shut : (n : ℕ) → (node_at m' n).shut ≡ (node_at m n).shut
  pub entries : (n t : ℕ) → n < length m.nodes → entry m' n t ≡ rest_entry m p s n t

same_arc : (m m' : Model) (a : ℕ) → m'.arcs ≡ m.arcs → arc_at m' a ≡ arc_at m a
same_arc m m' a e = ap (λ (l : List ArcRow). get_or l a no_arc) e

pub same_rate : {m m' : Model} {p : List Move} {s : ℕ} (a t : ℕ) → IsLeft m p s m' → rate m' a t ≡ rate m a t
same_rate {m} {m'} a t of =
    let row = same_arc m m' a of.arcs in
    let to = of.shut (head m' a) ∙ ap (λ (r : ArcRow). (node_at m r.to).shut) row in
    ap₂ (λ (r : ArcRow) b. cond ((r.shut || b) || is_closed_at r.windows.items t) 0 r.rate) row to

-- whatever is counted of moves by their arcs is the same
same_counted : (m m' : Model) (T : ArcRow → ℕ → Bool) (r : List Move) → m'.arcs ≡ m.arcs
    → sum_by (λ v. cond (T (arc_at m' v.arc) v.moment) v.people 0) r ≡ sum_by (λ v. cond (T (arc_at m v.arc) v.moment) v.people 0) r
same_counted m m' T r e = ap (λ (l : List ArcRow). sum_by (λ v. cond (T (get_or l v.arc no_arc) v.moment) v.people 0) r) e

pub same_left : (m m' : Model) (r : List Move) (n t : ℕ) → m'.arcs ≡ m.arcs → left m' r n t ≡ left m r n t
unfolding left
same_left m m' r n t e = same_counted m m' (λ x i. eqb x.from n && leb i t) r e

pub same_arrived : (m m' : Model) (r : List Move) (n t : ℕ) → m'.arcs ≡ m.arcs → arrived m' r n t ≡ arrived m r n t
unfolding arrived
same_arrived m m' r n t e = same_counted m m' (λ x i. eqb x.to n && leb (i + x.travel) t) r e

pub same_leaving : (m m' : Model) (r : List Move) (n t : ℕ) → m'.arcs ≡ m.arcs → leaving m' r n t ≡ leaving m r n t
unfolding leaving
same_leaving m m' r n t e = same_counted m m' (λ x i. eqb x.from n && eqb i t) r e

pub same_coming : (m m' : Model) (r : List Move) (n t : ℕ) → m'.arcs ≡ m.arcs → coming m' r n t ≡ coming m r n t
unfolding coming
same_coming m m' r n t e = same_counted m m' (λ x i. eqb x.to n && eqb (i + x.travel) t) r e

pub same_out : {m m' : Model} {p : List Move} (r : List Move) {s : ℕ} (k : ℕ) → IsLeft m p s m' → out_by m' r k ≡ out_by m r k
unfolding out_by
same_out {m} {m'} r k of =
    sum_by-same _ _ r
    (λ v. let row = same_arc m m' v.arc of.arcs in
    ap₂ (λ (x : ArcRow) b. cond (b && leb (v.moment + x.travel) k) v.people 0) row
    (of.exits (head m' v.arc) ∙ ap (λ (x : ArcRow). is_exit_at m x.to) row))

-- ---- who comes into the rest, by cases

entry_none : (e : Bool) (s t i c : ℕ) → (e ≡ true) ⊎ (t < s) → cond (e || ltb t s) 0 (cond (eqb t s) i c) ≡ 0
entry_none e s t i c (inl h) = grind (arith, nat_tests)
entry_none e s t i c (inr h) = grind (arith, nat_tests)

entry_now : (e : Bool) (s i c : ℕ) → e ≡ false → cond (e || ltb s s) 0 (cond (eqb s s) i c) ≡ i
entry_now e s i c h = grind (arith, nat_tests)

entry_later : (e : Bool) (s t i c : ℕ) → e ≡ false → s < t → cond (e || ltb t s) 0 (cond (eqb t s) i c) ≡ c
entry_later e s t i c h l = grind (arith, nat_tests)

module _ (m : Model) (p : List Move) (s n : ℕ) where
  pub rest_none : (t : ℕ) → (is_exit_at m n ≡ true) ⊎ (t < s) → rest_entry m p s n t ≡ 0
  rest_none t h = entry_none (is_exit_at m n) s t (inside m p n s) (entry m n t + coming m (moves_before s p) n t) h

  pub rest_now : is_exit_at m n ≡ false → rest_entry m p s n s ≡ inside m p n s
  rest_now h = entry_now (is_exit_at m n) s (inside m p n s) (entry m n s + coming m (moves_before s p) n s) h

  pub rest_later : (t : ℕ) → is_exit_at m n ≡ false → s < t → rest_entry m p s n t ≡ entry m n t + coming m (moves_before s p) n t
  rest_later t h l = entry_later (is_exit_at m n) s t (inside m p n s) (entry m n t + coming m (moves_before s p) n t) h l

-- ---- who is inside at s

pub nothing_to : (g : ℕ → ℕ) (t : ℕ) → ((i : ℕ) → i ≤ t → g i ≡ 0) → sum_by g (moments_to t) ≡ 0
nothing_to g zero h = sum_moments-zero g ∙ h 0 (omega arith)
nothing_to g (suc t) h = omega (arith, sum_moments-suc g t, nothing_to g t (λ i l. h i (omega (arith, l))), h (suc t) (omega arith))

up_to : (g : ℕ → ℕ) (s : ℕ) → ((i : ℕ) → i < s → g i ≡ 0) → sum_by g (moments_to s) ≡ g s
up_to g zero h = sum_moments-zero g
up_to g (suc s) h = omega (arith, sum_moments-suc g s, nothing_to g s (λ i l. h i (omega (arith, l))))

above_zero : (c l d : ℕ) → l ≤ c → above ((pos c -ℤ pos l) +ℤ pos d) 0 + l ≡ c + d
above_zero c l d h =
    let whole : ((pos c -ℤ pos l) +ℤ pos d) ≡ pos ((c + d) - l) = omega (arith, ints) in
    rw whole (omega arith)

inside_is : (m : Model) (p : List Move) (n t : ℕ) → left m p n t ≤ came m p n t
    → inside m p n t + left m p n t ≡ came m p n t + leaving m p n t
unfolding held
inside_is m p n t h = above_zero (came m p n t) (left m p n t) (leaving m p n t) h

stays : (b : Bool) (x s t p : ℕ) → x < s → s ≤ t + 1 → cond (b && leb x (suc t)) p 0 ≡ cond (b && leb x t) p 0
stays b x s t p h l = grind (arith, nat_tests)

left_stays : (m : Model) (p : List Move) (n s t : ℕ) → All (λ v. v.moment < s) p → s ≤ t + 1 → left m p n (suc t) ≡ left m p n t
unfolding left
left_stays m p n s t h l =
    sum_by-same_all _ _ p (λ i d k. let v = get_or p i d in stays (eqb (tail m v.arc) n) v.moment s t v.people (h i d k) l)

-- each move takes time
pub slow : {m : Model} (r : List Move) → IsValid m → All (λ v. v.arc < length m.arcs) r → All (λ v. 1 ≤ (arc_at m v.arc).travel) r
slow {m} r valid arcs =
    All-weaker (λ v. v.arc < length m.arcs) (λ v. 1 ≤ (arc_at m v.arc).travel) (λ v l. (arc_is m v.arc valid l).travel_fits.0) r arcs

module _ (m : Model) (p : List Move) (s : ℕ) (valid : IsValid m) (in_horizon : s ≤ m.horizon) (all : TakesAllOut m p) (n : ℕ)
    (node_in : n < length m.nodes) (no_exit : IsFalse (is_exit_at m n)) where
  abbrev made : List Move
  made = moves_before s p

  -- whoever is inside at s came by the entries and the moves made, and hasn't left by these
  inside_now : inside m p n s + left m made n s ≡ sum_by (entry m n) (moments_to s) + arrived m made n s
  inside_now =
      let after = moves_from s p in
      let own = own_behind m p s all.feasible.arcs in
      omega (
        arith,
        inside_is m p n s (within m p n s (capacity m n) (all.feasible.holds n s node_in no_exit in_horizon)).0,
        came_is m p n s,
        arrived_behind m p after p s own n s,
        arrived_not_yet m after n s (from_late s p)
            (All-filter (λ v. leb s v.moment) (λ v. 1 ≤ (arc_at m v.arc).travel) p (slow p valid all.feasible.arcs)),
        left_behind m p after p s own n s,
        left_now m after n s (from_late s p),
        leaving_behind m p after p s own n s,
        leaving_over m p n s s (omega arith),
      )

  -- from s on: the entries of the rest, and who left by the moves made, are the entries and the arrivals
  pub shifted : (d : ℕ) → sum_by (rest_entry m p s n) (moments_to (s + d)) + left m made n (s + d)
      ≡ sum_by (entry m n) (moments_to (s + d)) + arrived m made n (s + d)
  shifted zero =
      let same : s + 0 ≡ s = omega arith in
      rw same (omega (arith, up_to (rest_entry m p s n) s (λ t l. rest_none m p s n t (inr l)), rest_now m p s n no_exit, inside_now))
  shifted (suc d) =
      let same : s + suc d ≡ suc (s + d) = omega arith in
      rw same (omega (
        arith,
        sum_moments-suc (rest_entry m p s n) (s + d),
        sum_moments-suc (entry m n) (s + d),
        arrived_suc m made n (s + d),
        left_stays m made n s (s + d) (before_is s p) (omega arith),
        rest_later m p s n (suc (s + d)) no_exit (omega arith),
        shifted d,
      ))

  -- as many are held after the moves made as in the rest, whatever moves come after them
  pub held_shifts : (r w : List Move) (d : ℕ) → IsBehind m p s r w
      → (sum_by (rest_entry m p s n) (moments_to (s + d)) + arrived m r n (s + d)) + left m w n (s + d) ≡ came m w n (s + d) + left m r n (s + d)
  held_shifts r w d behind =
      omega (arith, came_is m w n (s + d), arrived_behind m p r w s behind n (s + d), left_behind m p r w s behind n (s + d), shifted d)
