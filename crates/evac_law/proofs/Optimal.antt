-- A certified plan is best at every moment, and a model with a shortfall is not clearable.
use Rattle.std.proofs.Common.{◌≡◌, ℕ, zero, suc, ◌+◌, ◌<◌, ◌≤◌, Bool, true, false, cond, ◌&&◌, eqb, ltb, leb, List, get_or, ap, sym, ◌∙◌, arith, inl, inr, ◌⊎◌, ◌*◌, add-one, [], ◌∷◌, length, refl, ap₂, subst, pos, ◌-ℤ◌, ◌≤ℤ◌, IsTrue}
use Rattle.std.specs.List.{sum_by, All, Any}
use Rattle.std.proofs.lemmas.List.Sums.{sum_by-cons}
use Rattle.std.proofs.lemmas.Bool.{and_parts, cases_lt, cases_order, le-leb, le-ltb, leb-true, lt-leb, lt-ltb, not-true}
use Rattle.std.proofs.lemmas.Bool.Decides.{nat_tests}
use Rattle.evac_law.specs.declared.model.Model.{Model}
use Rattle.evac_law.specs.declared.plan.Move.{Move}
use Rattle.evac_law.specs.LabelTable.{LabelTable}
use Rattle.evac_law.specs.Sums.{below}
use Rattle.evac_law.specs.Laws.{SomeoneArrivesFrom}
use Rattle.evac_law.specs.Building.{capacity, rate, IsValid, is_exit_at, head, arrival, entry, people}
use Rattle.evac_law.specs.Certificates.{IsCertified, IsShortfall, IsClearable, label_cut, stated_cut}
use Rattle.evac_law.specs.Cuts.{Cut, IsCut, cut_value}
use Rattle.std.proofs.lemmas.List.Elements.{All-head, All-tail}
use Rattle.evac_law.specs.Plans.{last_arrival, moved, came, left, held, IsEarliest, IsFeasible, out_by, person_periods}
use Rattle.evac_law.proofs.SumLemmas.{cond_le, sum_by-add, sum_by-exchange, sum_by-same, sum_by-same_all, sum_by-nothing, sum_below-suc, sum_by-le_all, sum_moments-stays, sum_by-times, times_cond, All-below}
use Rattle.evac_law.proofs.Conserved.{all_out_leaves_nobody}
use Rattle.evac_law.proofs.Entries.{empty_cut_is, entered_le}
use Rattle.evac_law.proofs.WeakDuality.{out_le_value}

-- ---- good plans

pub out_le_people : (m : Model) (q : List Move) (k : ℕ) → IsValid m → IsFeasible m q k → out_by m q k ≤ people m
out_le_people m q k valid feasible = omega (arith, out_le_value m (λ _ _. false) q k valid feasible, empty_cut_is m k, entered_le m k)

later : (e : Bool) (r b c p : ℕ) → b ≤ c → cond (e && leb r b) p 0 ≤ cond (e && leb r c) p 0
later e r b c p l = grind (arith, nat_tests)

pub out_le_out : (m : Model) (p : List Move) (b c : ℕ) → b ≤ c → out_by m p b ≤ out_by m p c
unfolding out_by
out_le_out m p b c l = grind (arith, sum_by-le_all, later)

pub certified_is_best : (m : Model) (p : List Move) (l : LabelTable) (c : ℕ) → IsValid m → IsCertified m p l c → IsEarliest m p
certified_is_best m p l c valid good q k feasible = grind (arith, cases_lt, out_le_value, out_le_people, out_le_out)

pub shortfall_bars_clearing : (m : Model) (x : Cut) (v : ℕ) → IsValid m → IsShortfall m x v → ¬ IsClearable m
shortfall_bars_clearing m x v valid short plan = grind (arith, out_le_value)

-- ---- all good plans are alike

pub lawful_down : (m : Model) (p : List Move) (b c : ℕ) → b ≤ c → IsFeasible m p c → IsFeasible m p b
lawful_down m p b c l h = grind arith

-- a sum over moves that are over by c counts them all from c on
stays : (e : Bool) (r c t w : ℕ) → r ≤ c → c ≤ t → cond (e && leb r t) w 0 ≡ cond (e && leb r c) w 0
stays e r c t w i j = grind (arith, nat_tests)

-- nobody gets out later than the last arrival
pub out_stays : (m : Model) (p : List Move) (c k : ℕ) → c ≤ k → All (λ v. arrival m v.arc v.moment ≤ c) p → out_by m p k ≡ out_by m p c
unfolding out_by
out_stays m p c k l a = grind (arith, sum_by-same_all, stays)

-- a good plan has everybody out by each moment from its last on
good_out : (m : Model) (p : List Move) (l : LabelTable) (c k : ℕ) → IsCertified m p l c → c ≤ k → out_by m p k ≡ people m
good_out m p l c k good i = out_stays m p c k i good.arrives ∙ good.all_out

-- before its last moment a good plan has somebody inside, and so has any feasible plan
still_inside : (m : Model) (p q : List Move) (l : LabelTable) (c b : ℕ) → IsValid m → IsCertified m p l c → b < c → IsFeasible m q b
    → out_by m q b < people m
still_inside m p q l (suc c) b valid good i feasible =
    omega (arith, good.least c (add-one c), out_le_out m p b c (omega arith), certified_is_best m p l (suc c) valid good q b feasible)
still_inside m p q l zero b valid good i feasible = absurd (omega arith)

not_later : (m : Model) (p q : List Move) (l i : LabelTable) (c d : ℕ) → IsValid m → IsCertified m p l c → IsCertified m q i d → c ≤ d
not_later m p q l i c d valid good other = elim (cases_lt d c) [
  | inl less ↦ absurd (omega (arith, still_inside m p q l c d valid good less other.feasible, other.all_out))
  | inr done ↦ done
]

pub certified_plans_agree : (m : Model) (p q : List Move) (l i : LabelTable) (c d : ℕ) → IsValid m → IsCertified m p l c → IsCertified m q i d
    → (c ≡ d) × ((k : ℕ) → out_by m p k ≡ out_by m q k)
certified_plans_agree m p q l i c d valid good other =
    let first = not_later m p q l i c d valid good other in
    let second = not_later m q p i l d c valid other good in
    let curve = λ (k : ℕ). same_out first second k (cases_lt k c) in
    (omega arith, curve)
  where
    same_out : c ≤ d → d ≤ c → (k : ℕ) → (k < c) ⊎ (c ≤ k) → out_by m p k ≡ out_by m q k
    same_out x y k (inl less) =
        omega (
          arith,
          certified_is_best m p l c valid good q k (lawful_down m q k d (omega arith) other.feasible),
          certified_is_best m q i d valid other p k (lawful_down m p k c (omega arith) good.feasible),
        )
    same_out x y k (inr more) = good_out m p l c k good more ∙ sym (good_out m q i d k other (omega arith))

-- ---- person-periods

-- one term of the sum below, where the arrival is h + 1, before it or after it
tail_more : (e : Bool) (r w h s : ℕ) → cond (e && leb r h) (w * r) 0 + s ≡ cond (e && leb r h) (h * w) 0
    → cond (e && leb r (suc h)) (w * r) 0 + (s + cond (e && leb r h) w 0) ≡ cond (e && leb r (suc h)) (suc h * w) 0
tail_more false r w h s i = omega arith
tail_more true r w h s i = grind (arith, cases_order, le-leb, lt-leb)

tail_none : (e : Bool) (r w : ℕ) → cond (e && leb r 0) (w * r) 0 + 0 ≡ cond (e && leb r 0) (0 * w) 0
tail_none e r w = grind (arith, nat_tests)

-- at each moment before h the people who are not out yet, added up
tail_sum : (e : Bool) (r w h : ℕ)
    → cond (e && leb r h) (w * r) 0 + sum_by (λ k. cond (e && leb r k) w 0) (below h) ≡ cond (e && leb r h) (h * w) 0
tail_sum e r w zero = tail_none e r w
tail_sum e r w (suc h) =
    ap (λ z. cond (e && leb r (suc h)) (w * r) 0 + z) (sum_below-suc (λ k. cond (e && leb r k) w 0) h)
    ∙ tail_more e r w h (sum_by (λ k. cond (e && leb r k) w 0) (below h)) (tail_sum e r w h)

periods_and_outs : (m : Model) (p : List Move)
    → person_periods m p + sum_by (λ k. out_by m p k) (below m.horizon) ≡ m.horizon * out_by m p m.horizon
unfolding person_periods out_by
periods_and_outs m p =
    let h = m.horizon in
    let e = λ (v : Move). is_exit_at m (head m v.arc) in
    let r = λ (v : Move). arrival m v.arc v.moment in
    let late = λ (v : Move). cond (e v && leb (r v) h) (v.people * r v) 0 in
    let outs = λ (v : Move). sum_by (λ k. cond (e v && leb (r v) k) v.people 0) (below h) in
    let all = λ (v : Move). cond (e v && leb (r v) h) v.people 0 in
    let times = sum_by-times h all p in
    let each = λ (v : Move). tail_sum (e v) (r v) v.people h ∙ times_cond (e v && leb (r v) h) h v.people in
    ap (λ z. sum_by late p + z) (sum_by-exchange (λ k (v : Move). cond (e v && leb (r v) k) v.people 0) (below h) p)
    ∙ sym (sum_by-add late outs p)
    ∙ sum_by-same (λ v. late v + outs v) (λ v. h * all v) p each
    ∙ times

-- where a sum is greater, one of its terms is
some_more : {X : Type 0} (f g : X → ℕ) (xs : List X) → sum_by f xs < sum_by g xs → Any (λ x. f x < g x) xs
some_more f g [] h = absurd (omega (arith, h))
some_more f g (x ∷ xs) h = elim (cases_lt (f x) (g x)) [
  | inl less ↦ (0, x, omega arith, refl, less)
  | inr more ↦ further (some_more f g xs (omega (arith, h, more, sum_by-cons f x xs, sum_by-cons g x xs)))
]
  where
    further : Any (λ x. f x < g x) xs → Any (λ x. f x < g x) (x ∷ xs)
    further (k, y, l, e, p) = (suc k, y, omega (arith, l), e, p)

-- whom a later moment counts and an earlier one doesn't, arrives in between
in_between : (e : Bool) (r b h w : ℕ) → cond (e && leb r b) w 0 < cond (e && leb r h) w 0 → (0 < w) × (e ≡ true) × (b + 1 ≤ r) × (r ≤ h)
in_between false r b h w l = absurd (omega arith)
in_between true r b h w l = grind (arith, cases_lt, lt-leb, le-leb, cond_le)

pub someone_arrives : (m : Model) (q : List Move) (b : ℕ) → out_by m q b < out_by m q m.horizon → SomeoneArrivesFrom m q (b + 1)
unfolding out_by
someone_arrives m q b less = named (some_more _ _ q less)
  where
    e : Move → Bool
    e v = is_exit_at m (head m v.arc)

    r : Move → ℕ
    r v = arrival m v.arc v.moment

    named : Any (λ v. cond (e v && leb (r v) b) v.people 0 < cond (e v && leb (r v) m.horizon) v.people 0) q → SomeoneArrivesFrom m q (b + 1)
    named (k, v, l, s, p) = (k, v, l, s, in_between (e v) (r v) b m.horizon v.people p)

pub certified_is_quickest : (m : Model) (p q : List Move) (l : LabelTable) (c : ℕ) → IsValid m → IsCertified m p l c → IsFeasible m q m.horizon
    → out_by m q m.horizon ≡ people m
    → (0 < c → SomeoneArrivesFrom m q c) × (person_periods m p ≤ person_periods m q)
certified_is_quickest m p q l c valid good feasible everybody =
    let h = m.horizon in
    let down = λ (k : ℕ) (i : k ≤ h). lawful_down m q k h i feasible in
    let fewer = sum_by-le_all (λ k. out_by m q k) (λ k. out_by m p k) (below h)
    (All-below (λ k. out_by m q k ≤ out_by m p k) h (λ k i. certified_is_best m p l c valid good q k (down k (omega arith)))) in
    let in_time = good_out m p l c h good good.in_horizon in
    let same : h * out_by m p h ≡ h * out_by m q h = ap (λ z. h * z) (in_time ∙ sym everybody) in (
      λ some. last c some good.in_horizon (λ b i. still_inside m p q l c b valid good i (down b (omega (arith, good.in_horizon)))),
      omega (arith, periods_and_outs m p, periods_and_outs m q, fewer, same),
    )
  where
    last : (c : ℕ) → 0 < c → c ≤ m.horizon → ((b : ℕ) → b < c → out_by m q b < people m) → SomeoneArrivesFrom m q c
    last zero some i inside = absurd (omega arith)
    last (suc b) some i inside = subst (λ (k : ℕ). SomeoneArrivesFrom m q k) (add-one b) (someone_arrives m q b (omega (arith, inside b (omega arith), everybody)))

-- ---- a certified plan clears the model

came_stays : (m : Model) (p : List Move) (n c t : ℕ) → c ≤ t → All (λ v. arrival m v.arc v.moment ≤ c) p → ((s : ℕ) → c < s → entry m n s ≡ 0)
    → came m p n t ≡ came m p n c
unfolding came
came_stays m p n c t l a none = grind (arith, sum_moments-stays, sum_by-same_all, stays)

left_stays : (m : Model) (p : List Move) (n c t : ℕ) → c ≤ t → All (λ v. arrival m v.arc v.moment ≤ c) p → left m p n t ≡ left m p n c
unfolding left
left_stays m p n c t l a = grind (arith, sum_by-same_all, stays)

held_stays : (m : Model) (p : List Move) (n c t : ℕ) → c ≤ t → All (λ v. arrival m v.arc v.moment ≤ c) p → ((s : ℕ) → c < s → entry m n s ≡ 0)
    → held m p n t ≡ held m p n c
unfolding held
held_stays m p n c t l a none = ap₂ (λ x y. pos x -ℤ pos y) (came_stays m p n c t l a none) (left_stays m p n c t l a)

over : (e : Bool) (s c t w : ℕ) → s ≤ c → c < t → cond (e && eqb s t) w 0 ≡ 0
over e s c t w i j = grind (arith, nat_tests)

nobody_moves : (m : Model) (p : List Move) (a c t : ℕ) → c < t → All (λ v. arrival m v.arc v.moment ≤ c) p → moved p a t ≡ 0
unfolding moved
nobody_moves m p a c t l all =
    sum_by-same_all _ (λ _. 0) p (λ i d h. let v = get_or p i d in over (eqb v.arc a) v.moment c t v.people (omega (arith, all i d h)) l)
    ∙ sum_by-nothing p

pub certified_is_feasible : (m : Model) (p : List Move) (l : LabelTable) (c k : ℕ) → IsValid m → IsCertified m p l c → IsFeasible m p k
certified_is_feasible m p l c k valid good = record {
  arcs = good.feasible.arcs;
  rates = λ a t i j. by_rate a t i (cases_lt c t);
  holds = λ n t i e j. by_hold n t i e (cases_lt c t);
}
  where
    by_rate : (a t : ℕ) → a < length m.arcs → (c < t) ⊎ (t ≤ c) → moved p a t ≤ rate m a t
    by_rate a t i (inl late) = omega (arith, nobody_moves m p a c t late good.arrives)
    by_rate a t i (inr soon) = good.feasible.rates a t i soon

    by_hold : (n t : ℕ) → n < length m.nodes → is_exit_at m n ≡ false → (c < t) ⊎ (t ≤ c)
        → (pos 0 ≤ℤ held m p n t) × (held m p n t ≤ℤ pos (capacity m n))
    by_hold n t i e (inl late) = grind (arith, over, all_out_leaves_nobody, held_stays)
    by_hold n t i e (inr soon) = good.feasible.holds n t i e soon

pub certified_is_clearable : (m : Model) (p : List Move) (l : LabelTable) (c : ℕ) → IsValid m → IsCertified m p l c → IsClearable m
certified_is_clearable m p l c valid good =
    (p, certified_is_feasible m p l c m.horizon valid good, good_out m p l c m.horizon good good.in_horizon)

-- ---- the cuts that a block states

pub label_cut_is_cut : (m : Model) (l : LabelTable) (k : ℕ) → k ≤ m.horizon → IsCut m (label_cut m l k)
label_cut_is_cut m l k h = grind (arith, not-true, and_parts, leb-true)

pub stated_cut_is_worth : (m : Model) (p : List Move) (l : LabelTable) (c k : ℕ) → IsValid m → IsCertified m p l c
    → (k ≤ m.horizon → IsCut m (stated_cut m l c k)) × (cut_value m (stated_cut m l c k) k ≡ out_by m p k)
stated_cut_is_worth m p l c k valid good = (is_cut, worth (cases_lt k c))
  where
    is_cut : k ≤ m.horizon → IsCut m (stated_cut m l c k)
    is_cut h =
        let cut = label_cut_is_cut m l k h in
        let both = λ (n t : ℕ) (x : IsTrue (stated_cut m l c k n t)). and_parts (ltb k c) (label_cut m l k n t) x in
        record { no_exits = λ n t x. cut.no_exits n t (both n t x).1; in_horizon = λ n t x. cut.in_horizon n t (both n t x).1 }

    worth_by : (b : Bool) → ltb k c ≡ b → cut_value m (λ n t. b && label_cut m l k n t) k ≡ out_by m p k
        → cut_value m (stated_cut m l c k) k ≡ out_by m p k
    worth_by b e h = subst (λ (z : Bool). cut_value m (λ n t. z && label_cut m l k n t) k ≡ out_by m p k) (sym e) h

    worth : (k < c) ⊎ (c ≤ k) → cut_value m (stated_cut m l c k) k ≡ out_by m p k
    worth (inl before) = worth_by true (lt-ltb k c before) (sym (good.cuts k before))
    worth (inr after) =
        let out = good_out m p l c k good after in
        let enough = out_le_value m (λ _ _. false) p k valid (certified_is_feasible m p l c k valid good) in
        worth_by false (le-ltb k c after) (omega (arith, out, enough, empty_cut_is m k, entered_le m k))

-- ---- the last arrival of a certified plan

last_by : (m : Model) (c : ℕ) (p : List Move) → All (λ v. arrival m v.arc v.moment ≤ c) p → last_arrival m p ≤ c
unfolding last_arrival
last_by m c [] all = omega arith
last_by m c (v ∷ p) all =
    let first = All-head (λ v. arrival m v.arc v.moment ≤ c) v p all in
    omega (arith, first, last_by m c p (All-tail (λ v. arrival m v.arc v.moment ≤ c) v p all))

-- no move arrives after the last arrival
pub at_most_last : (m : Model) (p : List Move) (i : ℕ) (e : Move) → i < length p → arrival m (get_or p i e).arc (get_or p i e).moment ≤ last_arrival m p
unfolding last_arrival
at_most_last m [] i e l = absurd (omega (arith, l))
at_most_last m (v ∷ p) zero e l = omega arith
at_most_last m (v ∷ p) (suc i) e l = omega (arith, at_most_last m p i e (omega (arith, l)))

-- a plan that is over by c and has somebody inside a period before has its last arrival at c
pub last_is : (m : Model) (p : List Move) (c : ℕ) → c ≤ m.horizon → All (λ v. arrival m v.arc v.moment ≤ c) p
    → ((b : ℕ) → b + 1 ≡ c → out_by m p b < out_by m p m.horizon) → last_arrival m p ≡ c
last_is m p zero l all before = omega (arith, last_by m 0 p all)
last_is m p (suc b) l all before = omega (arith, last_by m (suc b) p all, reached (someone_arrives m p b (before b (add-one b))))
  where
    reached : SomeoneArrivesFrom m p (b + 1) → suc b ≤ last_arrival m p
    reached (i, v, j, same, found) = omega (arith, found.2, ap (λ w. arrival m w.arc w.moment) same, at_most_last m p i v j)
