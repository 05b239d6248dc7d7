-- Times of walks.
use Rattle.std.proofs.Common.{◌≡◌, ℕ, ◌+◌, ◌*◌, ◌<◌, ◌≤◌, ◌⊎◌, inl, inr, Bool, true, false, cond, max, List, [], ◌∷◌, length, refl, ap, sym, subst, ◌∙◌, arith, Option, Some, None, MatchOption, IfSome}
use Rattle.std.proofs.Math.ListN.{set}
use borrow.Author.Count.{below_more}
use Rattle.std.proofs.lemmas.Bool.{cases_eq, cases_lt, true≢false}
use Rattle.std.proofs.lemmas.List.{get_or-set_other, get_or-set_same, get_or_past, length-set}
use Rattle.std.proofs.lemmas.List.Sums.{sum_by-cons, sum_by-set}
use Rattle.evac_law.specs.declared.model.Model.{Model}
use Rattle.evac_law.specs.Building.{IsValid, arc_at, head, is_exit_at, tail}
use Rattle.evac_law.specs.Limits.{travel_limit}
use Rattle.evac_law.proofs.ValidLemmas.{arc_is}
use Rattle.clearing_report.specs.declared.times.Way.{Way}
use Rattle.clearing_report.specs.Distances.{AllFound, AreTimes, IsNearest, IsWay, time_at, unknown, unknowns}
use Rattle.clearing_report.specs.Walks.{IsStartNode, IsUncongested, Walk, walk_time}

pub none_some : (d : ℕ) → ◌≡◌ {A = Option ℕ} None (Some d) → ⊥
none_some d e = cc

pub same_some : (d e : ℕ) → ◌≡◌ {A = Option ℕ} (Some d) (Some e) → d ≡ e
same_some d e f = cc

pub time_cons : (m : Model) (a : ℕ) (arcs : List ℕ) → walk_time m (a ∷ arcs) ≡ (arc_at m a).travel + walk_time m arcs
time_cons m a arcs = sum_by-cons (λ b. (arc_at m b).travel) a arcs

pub way_unique : (m : Model) (times : List (Option ℕ)) (a d e : ℕ) → IsWay m times a d → IsWay m times a e → d ≡ e
way_unique m times a d e v w = let same = same_some v.rest w.rest (sym v.to ∙ w.to) in omega (arith, v.time, w.time, same)

module _ (m : Model) (times : List (Option ℕ)) (valid : IsValid m) (are : AreTimes m times) where
  no_exit : (n : ℕ) → n < length m.nodes → time_at times n ≡ None → is_exit_at m n ≡ true → ⊥
  no_exit n l e f = none_some 0 (sym e ∙ are.exits n l f)

  -- a walk from a node whose time isn't known comes to one whose time is
  module _ (d : ℕ) (h : (b e : ℕ) → IsWay m times b e → d ≤ e) where
    by_arc : (n a : ℕ) (arcs : List ℕ) → time_at times n ≡ None → Walk m n (a ∷ arcs) → (time_at times (head m a) ≡ None → d ≤ walk_time m arcs)
        → (t : Option ℕ) → time_at times (head m a) ≡ t → d ≤ walk_time m (a ∷ arcs)
    by_arc n a arcs e w more None f = omega (arith, time_cons m a arcs, more f)
    by_arc n a arcs e w more (Some r) f =
        let from : time_at times (tail m a) ≡ None = ap (time_at times) w.2 ∙ e in
        let by = h a ((arc_at m a).travel + r) (record { arc_in = w.0; opened = w.1; from = from; rest = r; to = f; time = refl }) in
        omega (arith, time_cons m a arcs, by, are.least (head m a) r f arcs w.3)

    pub not_below : (n : ℕ) (arcs : List ℕ) → n < length m.nodes → time_at times n ≡ None → Walk m n arcs → d ≤ walk_time m arcs
    not_below n [] l e w = absurd (no_exit n l e w)
    not_below n (a ∷ arcs) l e w =
        by_arc n a arcs e w (λ f. not_below (head m a) arcs (arc_is m a valid w.0).to_in f w.3) (time_at times (head m a)) refl

  module _ (h : AllFound m times) where
    by_first : (n a : ℕ) (arcs : List ℕ) → time_at times n ≡ None → Walk m n (a ∷ arcs) → (time_at times (head m a) ≡ None → ⊥)
        → (t : Option ℕ) → time_at times (head m a) ≡ t → ⊥
    by_first n a arcs e w more None f = more f
    by_first n a arcs e w more (Some r) f =
        let from : time_at times (tail m a) ≡ None = ap (time_at times) w.2 ∙ e in
        h a ((arc_at m a).travel + r) (record { arc_in = w.0; opened = w.1; from = from; rest = r; to = f; time = refl })

    pub no_walk : (n : ℕ) (arcs : List ℕ) → n < length m.nodes → time_at times n ≡ None → Walk m n arcs → ⊥
    no_walk n [] l e w = no_exit n l e w
    no_walk n (a ∷ arcs) l e w =
        by_first n a arcs e w (λ f. no_walk (head m a) arcs (arc_is m a valid w.0).to_in f w.3) (time_at times (head m a)) refl

  -- ---- one time more

  module _ (a d : ℕ) (near : IsNearest m times a d) where
    abbrev pub with_time : List (Option ℕ)
    with_time = set times (tail m a) (Some d)

    in_times : tail m a < length times
    in_times = omega (arith, (arc_is m a valid near.way.arc_in).from_in, are.size)

    here : (n e : ℕ) → n ≡ tail m a → time_at with_time n ≡ Some e → d ≡ e
    here n e f g = same_some d e (sym (get_or-set_same times (tail m a) (Some d) None in_times) ∙ ap (time_at with_time) (sym f) ∙ g)

    there : (n : ℕ) → (n ≡ tail m a → ⊥) → time_at with_time n ≡ time_at times n
    there n f = get_or-set_other times (tail m a) n (Some d) None f

    fewer : unknowns with_time + 1 ≡ unknowns times
    fewer = grind (arith, sum_by-set, in_times)

    walks_on : (n e : ℕ) → time_at with_time n ≡ Some e → (arcs : List ℕ) × Walk m n arcs × (walk_time m arcs ≡ e)
    walks_on n e g = split (cases_eq n (tail m a))
      where
        split : (n ≡ tail m a) ⊎ (n ≡ tail m a → ⊥) → (arcs : List ℕ) × Walk m n arcs × (walk_time m arcs ≡ e)
        split (inl f) =
            let way = near.way in
            let rest = are.walks (head m a) way.rest way.to in
            (a ∷ rest.0, (way.arc_in, way.opened, sym f, rest.1), omega (arith, time_cons m a rest.0, rest.2, way.time, here n e f g))
        split (inr f) = are.walks n e (sym (there n f) ∙ g)

    least_on : (n e : ℕ) → time_at with_time n ≡ Some e → (arcs : List ℕ) → Walk m n arcs → e ≤ walk_time m arcs
    least_on n e g arcs w = split (cases_eq n (tail m a))
      where
        split : (n ≡ tail m a) ⊎ (n ≡ tail m a → ⊥) → e ≤ walk_time m arcs
        split (inl f) =
            let l : n < length m.nodes = omega (arith, f, (arc_is m a valid near.way.arc_in).from_in) in
            omega (arith, not_below d near.nearest n arcs l (ap (time_at times) f ∙ near.way.from) w, here n e f g)
        split (inr f) = are.least n e (sym (there n f) ∙ g) arcs w

    exits_on : (n : ℕ) → n < length m.nodes → is_exit_at m n ≡ true → time_at with_time n ≡ Some 0
    exits_on n l e = there n (λ f. true≢false (sym e ∙ ap (is_exit_at m) f ∙ (arc_is m a valid near.way.arc_in).from_no_exit)) ∙ are.exits n l e

    few_on : (n e : ℕ) → time_at with_time n ≡ Some e → e + travel_limit * unknowns with_time ≤ travel_limit * length m.nodes
    unfolding travel_limit
    few_on n e g = split (cases_eq n (tail m a))
      where
        split : (n ≡ tail m a) ⊎ (n ≡ tail m a → ⊥) → e + 600 * unknowns with_time ≤ 600 * length m.nodes
        split (inl f) =
            omega (arith, fewer, here n e f g, near.way.time, (arc_is m a valid near.way.arc_in).travel_fits.1, are.few (head m a) near.way.rest near.way.to)
        split (inr f) = omega (arith, fewer, are.few n e (sym (there n f) ∙ g))

    pub are_on : AreTimes m with_time
    are_on = grind (arith, length-set, walks_on, least_on, exits_on, few_on)

-- ---- the first times

unknowns_le : (times : List (Option ℕ)) → unknowns times ≤ length times
unknowns_le [] = omega arith
unknowns_le (t ∷ times) = omega (arith, sum_by-cons unknown t times, at_most t, unknowns_le times)
  where
    at_most : (t : Option ℕ) → unknown t ≤ 1
    at_most None = omega arith
    at_most (Some d) = omega arith

abbrev pub first_time : Bool → Option ℕ
first_time b = cond b (Some 0) None

pub first_times : (m : Model) (times : List (Option ℕ)) → length times ≡ length m.nodes
    → ((n : ℕ) → n < length m.nodes → time_at times n ≡ first_time (is_exit_at m n)) → AreTimes m times
unfolding travel_limit
first_times m times size h = record {
  size = size;
  walks = λ n d e. let z = of_exit n d e in ([], z.0, sym z.1);
  least = λ n d e arcs w. let z = of_exit n d e in omega (arith, z.1);
  exits = λ n l e. h n l ∙ ap first_time e;
  few = λ n d e. let z = of_exit n d e in omega (arith, z.1, unknowns_le times, size);
}
  where
    of_exit : (n d : ℕ) → time_at times n ≡ Some d → (is_exit_at m n ≡ true) × (d ≡ 0)
    of_exit n d e = place (cases_lt n (length m.nodes))
      where
        by_kind : (b : Bool) → is_exit_at m n ≡ b → first_time b ≡ Some d → (is_exit_at m n ≡ true) × (d ≡ 0)
        by_kind true f g = (f, sym (same_some 0 d g))
        by_kind false f g = absurd (none_some d g)

        place : (n < length m.nodes) ⊎ (length m.nodes ≤ n) → (is_exit_at m n ≡ true) × (d ≡ 0)
        place (inl l) = by_kind (is_exit_at m n) refl (sym (h n l) ∙ e)
        place (inr l) = absurd (none_some d (sym (get_or_past times n None (omega (arith, l, size))) ∙ e))

-- ---- the farthest of those who start

pub record IsFarthest (m : Model) (times : List (Option ℕ)) (i far : ℕ) : Type 0 where
  pub enough : (n : ℕ) → n < i → IsStartNode m n → (d : ℕ) × (time_at times n ≡ Some d) × (d ≤ far)
  pub reached : (far ≡ 0) ⊎ ((n : ℕ) × IsStartNode m n × (time_at times n ≡ Some far))

pub farthest_is : (m : Model) (times : List (Option ℕ)) (far : ℕ) → AreTimes m times → IsFarthest m times (length m.nodes) far → IsUncongested m (Some far)
farthest_is m times far are h = record {
  enough = λ n s.
      let known = h.enough n s.0 s in
      let walk = are.walks n known.0 known.1 in
      (walk.0, walk.1, omega (arith, walk.2, known.2));
  least = split h.reached;
}
  where
    split : (far ≡ 0) ⊎ ((n : ℕ) × IsStartNode m n × (time_at times n ≡ Some far)) → (far ≡ 0) ⊎ ((n : ℕ) × IsStartNode m n × ((arcs : List ℕ) → Walk m n arcs → far ≤ walk_time m arcs))
    split (inl e) = inl e
    split (inr w) = inr (w.0, w.1, λ arcs v. are.least w.0 far w.2 arcs v)

-- ---- the shortest way of the first arcs

abbrev pub IsBest : Model → List (Option ℕ) → ℕ → Option Way → Type 0
IsBest m times i best =
    MatchOption best ((a d : ℕ) → a < i → IsWay m times a d → ⊥)
    (λ w. IsWay m times w.arc w.time × ((a d : ℕ) → a < i → IsWay m times a d → w.time ≤ d))

module _ (m : Model) (times : List (Option ℕ)) (i : ℕ) where
  pub best_keeps : (best : Option Way) → IsBest m times i best → ((d : ℕ) → IsWay m times i d → ⊥) → IsBest m times (i + 1) best
  best_keeps None h none = λ a d l. below_more (λ k. IsWay m times k d → ⊥) i (λ k j. h k d j) (none d) a l
  best_keeps (Some b) h none = (h.0, λ a d l. below_more (λ k. IsWay m times k d → b.time ≤ d) i (λ k j. h.1 k d j) (λ w. absurd (none d w)) a l)

  pub best_takes : (best : Option Way) (way r : Way) → IsBest m times i best → IsWay m times way.arc way.time → way.arc ≡ i → (r ≡ way) ⊎ (best ≡ Some r)
      → r.time ≤ way.time → IfSome best (λ b. r.time ≤ b.time) → IsBest m times (i + 1) (Some r)
  best_takes best way r h is at one short less = (
    is_way best h one,
    λ a d l. below_more (λ k. IsWay m times k d → r.time ≤ d) i (λ k j. before best h less k d j) (λ w. omega (arith, last d w, short)) a l,
  )
    where
      is_way : (best : Option Way) → IsBest m times i best → (r ≡ way) ⊎ (best ≡ Some r) → IsWay m times r.arc r.time
      is_way best h (inl e) = subst (λ (x : Way). IsWay m times x.arc x.time) (sym e) is
      is_way None h (inr e) = absurd cc
      is_way (Some b) h (inr e) = let same : b ≡ r = cc in subst (λ (x : Way). IsWay m times x.arc x.time) same h.0

      before : (best : Option Way) → IsBest m times i best → IfSome best (λ b. r.time ≤ b.time) → (a d : ℕ) → a < i → IsWay m times a d → r.time ≤ d
      before None h less a d l w = absurd (h a d l w)
      before (Some b) h less a d l w = omega (arith, h.1 a d l w, less)

      last : (d : ℕ) → IsWay m times i d → way.time ≡ d
      last d w = way_unique m times way.arc way.time d is (subst (λ z. IsWay m times z d) (sym at) w)

pub best_all : (m : Model) (times : List (Option ℕ)) (i : ℕ) (best : Option Way) → length m.arcs ≤ i → IsBest m times i best
    → MatchOption best (AllFound m times) (λ w. IsNearest m times w.arc w.time)
best_all m times i None l h = λ a d w. h a d (omega (arith, l, w.arc_in)) w
best_all m times i (Some b) l h = record { way = h.0; nearest = λ a d w. h.1 a d (omega (arith, l, w.arc_in)) w }

-- ---- one node more

pub farthest_takes : (m : Model) (times : List (Option ℕ)) (i far d : ℕ) → IsFarthest m times i far → IsStartNode m i → time_at times i ≡ Some d → IsFarthest m times (i + 1) (max far d)
farthest_takes m times i far d h s f = record {
  enough = below_more (λ n. IsStartNode m n → (e : ℕ) × (time_at times n ≡ Some e) × (e ≤ max far d)) i
      (λ n l b. let known = h.enough n l b in (known.0, known.1, omega (arith, known.2))) (λ b. (d, f, omega arith));
  reached = reach h.reached (cases_lt far d);
}
  where
    reach : (far ≡ 0) ⊎ ((n : ℕ) × IsStartNode m n × (time_at times n ≡ Some far)) → (far < d) ⊎ (d ≤ far)
        → (max far d ≡ 0) ⊎ ((n : ℕ) × IsStartNode m n × (time_at times n ≡ Some (max far d)))
    reach r (inl l) = let same : d ≡ max far d = omega (arith, l) in inr (i, s, f ∙ ap (λ z. Some z) same)
    reach (inl e) (inr l) = inl (omega (arith, e, l))
    reach (inr w) (inr l) = let same : far ≡ max far d = omega (arith, l) in inr (w.0, w.1, w.2 ∙ ap (λ z. Some z) same)

pub not_some : (times : List (Option ℕ)) (n : ℕ) → ((x : ℕ) → time_at times n ≡ Some x → ⊥) → time_at times n ≡ None
not_some times n h = split (time_at times n) refl
  where
    split : (t : Option ℕ) → time_at times n ≡ t → time_at times n ≡ None
    split None e = e
    split (Some x) e = absurd (h x e)
