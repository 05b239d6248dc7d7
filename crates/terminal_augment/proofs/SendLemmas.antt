-- A push along what a search found.
use Rattle.std.proofs.Common.{◌≡◌, ◌≢◌, ℕ, zero, suc, ◌+◌, ◌<◌, ◌≤◌, Bool, true, false, true≢false, cond, ◌&&◌, eqb, leb, List, [], ◌∷◌, ap, sym, subst, ◌∙◌, ◌⊎◌, refl, arith, inl, inr}
use Rattle.std.specs.List.{All, AllPairs}
use Rattle.std.proofs.lemmas.Bool.{cases_Bool, cases_lt, le-leb, lt-leb, and_from, eq-eqb, or_parts}
use Rattle.std.proofs.lemmas.List.Kept.{AllPairs-cons}
use Rattle.residual_net.specs.declared.place.PathStep.{PathStep}
use Rattle.evac_law.specs.LabelTable.{LabelTable}
use Rattle.residual_net.specs.Closed.{reached}
use Rattle.residual_net.specs.Network.{Network, IsNet, IsWithinLimits, arrived_by, residual_room}
use Rattle.residual_net.specs.Route.{IsAugmentingPath, IsOrigin, IsPushed, Leads}
use Rattle.residual_net.specs.declared.end.End.{End}
use Rattle.residual_net.specs.declared.end.End.TheVariants.{Source, Pair, Door}
use Rattle.residual_net.specs.Site.{Site, IsPlace, door_by, head_of, start_of, stop_of, tail_of}
use Rattle.time_expansion.specs.declared.limits.TheConstants.{HORIZON_LIMIT}
use Rattle.time_expansion.proofs.Cells.{sizes}
use Rattle.residual_net.specs.Limits.{supply_limit}
use Rattle.evac_law.proofs.SumLemmas.{cond_le}
use Rattle.residual_net.proofs.Arrivals.{arrived_all, arrivals_fit}
use Rattle.residual_net.proofs.Effects.{push_moves}
use Rattle.residual_net.proofs.Survive.{closed_survives}
use Rattle.terminal_augment.specs.declared.spot.Met.{Met}
use Rattle.terminal_augment.specs.Chains.{AreMet, IsChain, IsFound, spots, steps_of, top_end, way_on}
use Rattle.terminal_augment.specs.Settled.{IsCountedOn, IsPushedOn, IsSettledBelow}
use Rattle.terminal_augment.specs.Spots.{has}
use Rattle.terminal_augment.proofs.ChainLemmas.{leads_on}
use Rattle.terminal_augment.proofs.KeptLemmas.{limits_stay, limits_then}
use Rattle.terminal_augment.proofs.SpotLemmas.{all_cons, all_rest}

-- ---- the path

pub chain_places : (s : Site) (k : ℕ) (ms : List Met) → IsChain s k ms → All (λ (m : Met). IsPlace s m.step.place) ms
chain_places s k [] c j d l = absurd (omega (arith, l))
chain_places s k (m ∷ ms) c zero d l = c.0.place
chain_places s k (m ∷ ms) c (suc j) d l = chain_places s k ms c.1 j d (omega (arith, l))

chain_leads : (s : Site) (k : ℕ) (ms : List Met) → IsChain s k ms → Leads s (top_end k ms) (steps_of ms) (Door k)
chain_leads s k [] c = refl
chain_leads s k (m ∷ ms) c = (c.0.start, subst (λ (e : End). Leads s e (steps_of ms) (Door k)) (sym c.0.stop) (chain_leads s k ms c.1))

over_steps : (P : PathStep → Type 0) (ms : List Met) → All (λ (m : Met). P m.step) ms → All P (steps_of ms)
over_steps P [] h j d l = absurd (omega (arith, l))
over_steps P (m ∷ ms) h zero d l = h 0 m (omega arith)
over_steps P (m ∷ ms) h (suc j) d l = over_steps P ms (all_rest (λ (r : Met). P r.step) m ms h) j d (omega (arith, l))

-- an end that is none of the pairs of the frames, nor the arrival
abbrev IsOff : ℕ → List Met → End → Type 0
IsOff k [] e = e ≢ Door k
IsOff k (m ∷ ms) e = (e ≢ Pair m.spot.node m.spot.moment) × IsOff k ms e

off_top : (k : ℕ) (ms : List Met) (e : End) → IsOff k ms e → e ≢ top_end k ms
off_top k [] e o = o
off_top k (m ∷ ms) e o = o.0

same_ends : (s : Site) (y z : PathStep) → y.place ≡ z.place → (start_of s y ≡ start_of s z) ⊎ (start_of s y ≡ stop_of s z)
same_ends s y z e = by (cases_Bool y.back) (cases_Bool z.back)
  where
    by : (y.back ≡ true) ⊎ (y.back ≡ false) → (z.back ≡ true) ⊎ (z.back ≡ false) → (start_of s y ≡ start_of s z) ⊎ (start_of s y ≡ stop_of s z)
    by (inl a) (inl b) = inl (rw (a, b) (ap (head_of s) e))
    by (inl a) (inr b) = inr (rw (a, b) (ap (head_of s) e))
    by (inr a) (inl b) = inr (rw (a, b) (ap (tail_of s) e))
    by (inr a) (inr b) = inl (rw (a, b) (ap (tail_of s) e))

off_places : (s : Site) (k : ℕ) (ms : List Met) (y : PathStep) → IsChain s k ms → IsOff k ms (start_of s y) → All (λ (z : PathStep). y.place ≢ z.place) (steps_of ms)
off_places s k [] y c o j d l e = absurd (omega (arith, l))
off_places s k (m ∷ ms) y c o zero d l e = grind (arith, same_ends, off_top)
off_places s k (m ∷ ms) y c o (suc j) d l e = off_places s k ms y c.1 o.1 j d (omega (arith, l)) e

pair_off : (k : ℕ) (ms : List Met) (n t : ℕ) → has (spots ms) n t ≡ false → IsOff k ms (Pair n t)
pair_off k [] n t h = λ e. cc
pair_off k (m ∷ ms) n t h =
    let both = or_parts (eqb m.spot.node n && eqb m.spot.moment t) (has (spots ms) n t) h in (
      (λ q. let node : m.spot.node ≡ n = cc in
          let moment : m.spot.moment ≡ t = cc in
          true≢false (sym (and_from _ _ (eq-eqb _ _ node) (eq-eqb _ _ moment)) ∙ both.0)),
      pair_off k ms n t both.1,
    )

chain_apart : (s : Site) (k : ℕ) (ms : List Met) → IsChain s k ms → AllPairs (λ (y z : PathStep). y.place ≢ z.place) (steps_of ms)
chain_apart s k [] c = λ i j d l q. absurd (omega (arith, q))
chain_apart s k (m ∷ ms) c =
    let off : IsOff k ms (start_of s m.step) = subst (λ (e : End). IsOff k ms e) (sym c.0.start) (pair_off k ms m.spot.node m.spot.moment c.0.fresh) in
    AllPairs-cons (λ (y z : PathStep). y.place ≢ z.place) m.step (steps_of ms) (off_places s k ms m.step c.1 off) (chain_apart s k ms c.1)

origin_off : (k : ℕ) (ms : List Met) (e : End) → IsOrigin k e → IsOff k ms e
origin_off k [] Source o = λ q. cc
origin_off k [] (Pair n t) o = absurd o
origin_off k [] (Door j) o = λ q. let same : j ≡ k = cc in omega (arith, o, same)
origin_off k (m ∷ ms) Source o = ((λ q. cc), origin_off k ms Source o)
origin_off k (m ∷ ms) (Pair n t) o = absurd o
origin_off k (m ∷ ms) (Door j) o = ((λ q. cc), origin_off k ms (Door j) o)

-- a step that leads from the source or from a later arrival to a chain
pub record IsBegun (w : Network) (k : ℕ) (ms : List Met) (y : PathStep) : Type 0 where
  pub place : IsPlace w.site y.place
  pub stop : stop_of w.site y ≡ top_end k ms
  pub origin : IsOrigin k (start_of w.site y)

chain_augments : {w : Network} {k : ℕ} {ms : List Met} {y : PathStep} (people : ℕ) → IsBegun w k ms y → IsChain w.site k ms
    → All (λ (z : PathStep). people ≤ residual_room w z) (y ∷ steps_of ms) → IsAugmentingPath w (y ∷ steps_of ms) people (start_of w.site y) k
chain_augments {w} {k} {ms} {y} people begun chain room = record {
  origin = begun.origin;
  leads = (refl, subst (λ (e : End). Leads w.site e (steps_of ms) (Door k)) (sym begun.stop) (chain_leads w.site k ms chain));
  places = all_cons (λ (z : PathStep). IsPlace w.site z.place) y (steps_of ms) begun.place
      (over_steps (λ (z : PathStep). IsPlace w.site z.place) ms (chain_places w.site k ms chain));
  room = room;
  apart = AllPairs-cons (λ (a b : PathStep). a.place ≢ b.place) y (steps_of ms)
      (off_places w.site k ms y chain (origin_off k ms (start_of w.site y) begun.origin)) (chain_apart w.site k ms chain);
}

pub augments : (w : Network) (k : ℕ) (ms : List Met) (y : PathStep) (people : ℕ) (path : List PathStep) → IsBegun w k ms y → IsChain w.site k ms
    → path ≡ y ∷ steps_of ms → All (λ (z : PathStep). people ≤ residual_room w z) path → IsAugmentingPath w path people (start_of w.site y) k
augments w k ms y people path begun chain same room =
    let here = chain_augments people begun chain (subst (λ (p : List PathStep). All (λ (z : PathStep). people ≤ residual_room w z) p) same room) in
    subst (λ (p : List PathStep). IsAugmentingPath w p people (start_of w.site y) k) (sym same) here

-- the path by which a flood came to somebody
pub found_augments : {w : Network} {k : ℕ} {ms : List Met} {y : PathStep} (people : ℕ) (path : List PathStep) → AreMet w k ms → IsFound w k ms y
    → path ≡ y ∷ steps_of (way_on w.site (stop_of w.site y) ms) → All (λ (z : PathStep). people ≤ residual_room w z) path
    → IsAugmentingPath w path people (start_of w.site y) k
found_augments {w} {k} {ms} {y} people path met found same room =
    let way = leads_on w k (stop_of w.site y) ms met found.stop in
    augments w k (way_on w.site (stop_of w.site y) ms) y people path (record { place = found.place; stop = sym way.top; origin = found.origin }) way.chain same room

-- ---- what a push brings

early : (k i : ℕ) (e : End) → IsOrigin k e → i ≤ k → door_by i e ≡ false
early k i Source o l = refl
early k i (Pair n t) o l = absurd o
early k i (Door j) o l = lt-leb j i (omega (arith, o, l))

unreached : (s : ℕ → ℕ → Bool) (k i : ℕ) (e : End) → IsOrigin k e → i < k → reached s i e ≡ false
unreached s k i Source o l = refl
unreached s k i (Pair n t) o l = absurd o
unreached s k i (Door j) o l = lt-leb j i (omega (arith, o, l))

cond_none : (b : Bool) (x : ℕ) → b ≡ false → cond b x 0 ≡ 0
cond_none true x e = absurd (cc)
cond_none false x e = refl

cond_all : (b : Bool) (x : ℕ) → b ≡ true → cond b x 0 ≡ x
cond_all true x e = refl
cond_all false x e = absurd (cc)

pub pushed_on : {w v : Network} {path : List PathStep} {x : ℕ} {e : End} {k : ℕ} → IsNet v → IsWithinLimits v → 1 ≤ x
    → IsAugmentingPath w path x e k → IsPushed w v path x → IsPushedOn w v k 1
pushed_on {w} {v} {path} {x} {e} {k} net within one p a = record {
  limits = record { site = a.site; saved = a.saved; limits = a.limits };
  within = within;
  net = net;
  sent = record {
    earlier = λ i l. omega (arith, moves i, cond_none (door_by i e) x (early k i e p.origin (omega (arith, l))), cond_none (leb k i) x (lt-leb k i l));
    later = λ i. by i (cases_lt i k);
    risen = omega (arith, moves k, cond_none (door_by k e) x (early k k e p.origin (omega arith)), cond_all (leb k k) x (le-leb k k (omega arith)), one);
    idle = λ q. absurd (omega (arith, q));
  };
  closed = λ s i l closed. closed_survives w s i closed v path x one (e, k, p) a (unreached s k i e p.origin l);
}
  where
    moves : (j : ℕ) → arrived_by v j + cond (door_by j e) x 0 ≡ arrived_by w j + cond (leb k j) x 0
    moves j = push_moves w v path x e k p a j

    by : (i : ℕ) → (i < k) ⊎ (k ≤ i) → arrived_by w i ≤ arrived_by v i
    by i (inl l) = omega (arith, moves i, cond_none (door_by i e) x (early k i e p.origin (omega (arith, l))), cond_none (leb k i) x (lt-leb k i l))
    by i (inr l) = omega (arith, moves i, cond_le (door_by i e) x, cond_all (leb k i) x (le-leb k i l))

pub pushed_none : {w : Network} (k : ℕ) → IsNet w → IsWithinLimits w → IsPushedOn w w k 0
pushed_none {w} k net within = grind (arith, limits_stay)

pub pushed_more : {w v u : Network} {k a b : ℕ} (c : ℕ) → IsPushedOn w v k a → IsPushedOn v u k b → a + b ≡ c → IsPushedOn w u k c
pushed_more {w} {v} {u} c p q e = record {
  limits = limits_then w v u p.limits q.limits;
  within = q.within;
  net = q.net;
  sent = record {
    earlier = λ i l. q.sent.earlier i l ∙ p.sent.earlier i l;
    later = λ i. omega (arith, q.sent.later i, p.sent.later i);
    risen = omega (arith, q.sent.risen, p.sent.risen, e);
    idle = λ z. q.sent.idle (omega (arith, e, z)) ∙ p.sent.idle (omega (arith, e, z));
  };
  closed = λ s i l closed. q.closed s i l (p.closed s i l closed);
}

pub counted_none : {w : Network} (k before : ℕ) → IsNet w → IsWithinLimits w → IsCountedOn w w k 0 before before
counted_none k before net within = record { pushed = pushed_none k net within; ticked = omega arith }

pub counted_more : {w v u : Network} {k a b : ℕ} (c : ℕ) {before next after : ℕ} → IsCountedOn w v k a before next → IsCountedOn v u k b next after → a + b ≡ c
    → IsCountedOn w u k c before after
counted_more c p q e = record {
  pushed = pushed_more c p.pushed q.pushed e;
  ticked = omega (arith, p.ticked, q.ticked, e);
}

-- no more arrive than may be sent
pub few_by : (w : Network) (k : ℕ) → IsNet w → arrived_by w k ≤ supply_limit
few_by w k n = omega (arith, arrived_all w k, arrivals_fit w (k + 1) n)

-- how late a net's last moment may be
pub horizon_small : (w : Network) → IsNet w → w.site.shape.horizon ≤ HORIZON_LIMIT
horizon_small w n = (sizes w.site.shape n.site.shape).horizon

-- what is settled stays so by pushes to the moment after
pub settled_pushed : {w v : Network} {l : LabelTable} {k pushes : ℕ} → IsPushedOn w v k pushes → IsSettledBelow w l k → IsSettledBelow v l k
settled_pushed {l} {k} p old = grind arith
