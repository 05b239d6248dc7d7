-- Taking off and pushing, added up over the moments.
use Rattle.std.proofs.Common.{◌≡◌, ℕ, zero, suc, ◌+◌, ◌*◌, ◌<◌, ◌≤◌, refl, sym, arith, add-one}
use Rattle.std.specs.List.{flat_map}
use Rattle.evac_law.specs.declared.model.Model.{Model}
use Rattle.evac_law.specs.Building.{IsValid}
use Rattle.evac_law.specs.Moves.{move_of, moves_of}
use Rattle.evac_law.specs.Plans.{out_by, violation}
use Rattle.evac_law.specs.Sums.{below, moments_to}
use Rattle.evac_law.proofs.SumLemmas.{All-below, sum_by-same}
use Rattle.evac_law.proofs.PartLemmas.{flat_map-same}
use Rattle.residual_net.specs.declared.place.Place.{Place}
use Rattle.residual_net.specs.Network.{Network, IsNet, arrived_by, flow_at}
use Rattle.residual_net.specs.OfModel.{IsNetOf, plan_of}
use Rattle.residual_net.specs.Site.{IsPlace}
use Rattle.residual_net.proofs.LastArrival.{arrived_rises}
use Rattle.residual_net.proofs.Law.{arrived_is_out}
use Rattle.lex_flow.specs.Settling.{arrivals_below}
use Rattle.lex_flow.proofs.SettleLemmas.{below_le, below_more, below_none}
use Rattle.edit_session.specs.declared.work.Work.{Work}
use Rattle.edit_session.specs.Thrift.{IsSpent, IsSpentOpening, IsThrifty, IsThriftyOpening, outs_to}

-- ---- sums of arrivals

pub below_most : (w : Network) (n k most : ℕ) → n ≤ k + 1 → arrived_by w k ≤ most → arrivals_below w n ≤ n * most
below_most w zero k most l e = omega (arith, below_none w)
below_most w (suc n) k most l e =
    let rise = arrived_rises w n k (omega (arith, l)) in
    rw (sym (add-one n)) (omega (arith, below_more w n, below_most w n k most (omega (arith, l)) e, rise, e))

pub outs_are : {m : Model} {w : Network} (k : ℕ) → IsValid m → IsNet w → IsNetOf m w → outs_to m (plan_of w) k ≡ arrivals_below w (k + 1)
unfolding outs_to arrivals_below
outs_are {m} {w} k valid net of =
    sum_by-same (λ t. out_by m (plan_of w) t) (λ t. arrived_by w t) (below (k + 1)) (λ t. sym (arrived_is_out m w valid net of t))

-- ---- the same flows have the same moves

move_same : (f g : ℕ → ℕ → ℕ) (t a : ℕ) → f a t ≡ g a t → move_of f t a ≡ move_of g t a
move_same f g t a e = rw e refl

moves_same : (n k : ℕ) (f g : ℕ → ℕ → ℕ) → ((a t : ℕ) → a < n → t ≤ k → f a t ≡ g a t) → moves_of n k f ≡ moves_of n k g
unfolding moves_of
moves_same n k f g h =
    flat_map-same (λ t. flat_map (λ a. move_of f t a) (below n)) (λ t. flat_map (λ a. move_of g t a) (below n)) (moments_to k)
    (All-below _ (k + 1) (λ t i. flat_map-same (λ a. move_of f t a) (λ a. move_of g t a) (below n)
    (All-below _ n (λ a j. move_same f g t a (h a t j (omega (arith, i)))))))

pub plan_same : (w v : Network) → v.site ≡ w.site → ((p : Place) → IsPlace w.site p → flow_at v p ≡ flow_at w p) → plan_of v ≡ plan_of w
plan_same w v site same = grind (arith, moves_same)

-- ---- what a repair costs

-- w before, v after people were taken off, u after pushes
pub thrifty : (m n : Model) (w v u : Network) (c : ℕ) (work : Work) → IsValid m → IsValid n → IsNet w → IsNet u → IsNetOf m w → IsNetOf n u
    → v.site ≡ w.site → work.cancelled ≤ violation m (plan_of w) n → ((k : ℕ) → arrived_by w k ≤ arrived_by v k + work.cancelled)
    → (work.cancelled ≡ 0 → (p : Place) → IsPlace w.site p → flow_at v p ≡ flow_at w p)
    → work.pushes + arrivals_below v (c + 1) ≤ arrivals_below u (c + 1) → (work.pushes ≡ 0 → u ≡ v)
    → IsThrifty m (plan_of w) n (plan_of u) c work
thrifty m n w v u c work valid now net_w net_u of_w of_u site few falls idle bounded same = grind (arith, outs_are, below_le, plan_same)

pub spent : (m n : Model) (w v u : Network) (cancelled pushes most steps : ℕ) → IsValid m → IsNet w → IsNetOf m w
    → cancelled ≤ violation m (plan_of w) n → ((k : ℕ) → arrived_by w k ≤ arrived_by v k + cancelled)
    → pushes + arrivals_below v (m.horizon + 1) ≤ arrivals_below u (m.horizon + 1) → arrived_by u m.horizon ≤ most → steps ≤ cancelled + pushes
    → IsSpent m (plan_of w) n most steps
spent m n w v u cancelled pushes most steps valid net of few falls bounded all fewer =
    let times : (m.horizon + 2) * cancelled ≤ (m.horizon + 2) * violation m (plan_of w) n = times_le (m.horizon + 2) cancelled (violation m (plan_of w) n) few in
    omega (
      arith,
      outs_are m.horizon valid net of,
      below_le w v (m.horizon + 1) cancelled falls,
      below_most u (m.horizon + 1) m.horizon most (omega arith) all,
      bounded,
      fewer,
      times,
    )
  where
    times_le : (a b c : ℕ) → b ≤ c → a * b ≤ a * c
    times_le zero b c l = omega arith
    times_le (suc a) b c l = rw (sym (add-one a)) (omega (arith, times_le a b c l, l))

-- ---- what the beginning costs

-- u after pushes from w
pub thrifty_opening : {m : Model} (w : Network) {u : Network} (c : ℕ) (work : Work) → IsValid m → IsNet u → IsNetOf m u → work.cancelled ≡ 0
    → work.pushes + arrivals_below w (c + 1) ≤ arrivals_below u (c + 1) → IsThriftyOpening m (plan_of u) c work
thrifty_opening w c work valid net of none bounded = grind (arith, outs_are)

pub spent_opening : (m : Model) (w u : Network) (pushes most : ℕ) → arrived_by u m.horizon ≡ most
    → pushes + arrivals_below w (m.horizon + 1) ≤ arrivals_below u (m.horizon + 1) → IsSpentOpening m most pushes
spent_opening m w u pushes most all bounded =
    omega (arith, below_most u (m.horizon + 1) m.horizon most (omega arith) (omega (arith, all)), bounded)
