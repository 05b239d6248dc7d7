-- The way on from a pair that was met leads to an arrival, and comes to no pair twice.
use Rattle.std.proofs.Common.{◌≡◌, ℕ, zero, suc, ◌+◌, ◌<◌, true, false, true≢false, ◌&&◌, eqb, List, [], ◌∷◌, length, get_or, drop, drop-cons, add-one, ap, sym, ◌∙◌, ◌⊎◌, refl, arith, inl, inr}
use Rattle.std.specs.List.{All}
use Rattle.std.proofs.lemmas.Bool.{cases_Bool, and_parts, eqb-true, or_cases, or_left, or_right}
use Rattle.residual_net.specs.declared.place.PathStep.{PathStep}
use Rattle.residual_net.specs.Network.{Network, residual_room}
use Rattle.residual_net.specs.declared.end.End.{End}
use Rattle.residual_net.specs.declared.end.End.TheVariants.{Source, Pair, Door}
use Rattle.residual_net.specs.Site.{Site, IsPlace, stop_of}
use Rattle.terminal_augment.specs.declared.spot.Met.{Met}
use Rattle.terminal_augment.specs.declared.spot.Spot.{Spot}
use Rattle.terminal_augment.specs.Chains.{AreMet, IsAmong, IsChain, IsLink, is_at, spots, steps_of, top_end, way_on}
use Rattle.terminal_augment.specs.Spots.{has}

pub at_same : (e : End) (p : Spot) → is_at e p ≡ true → e ≡ Pair p.node p.moment
at_same Source p h = absurd (cc)
at_same (Pair n t) p h = grind (arith, and_parts, eqb-true)
at_same (Door j) p h = absurd (cc)

-- an end that isn't the first of some pairs is among the rest
among_rest : (k : ℕ) (e : End) (m : Met) (ms : List Met) → is_at e m.spot ≡ false → IsAmong k (spots (m ∷ ms)) e → IsAmong k (spots ms) e
among_rest k (Pair n t) m ms off h = grind (arith, or_cases)
among_rest k _ m ms off h = h

-- the way on goes over some of the pairs
way_has : (s : Site) (e : End) (ms : List Met) (n t : ℕ) → has (spots (way_on s e ms)) n t ≡ true → has (spots ms) n t ≡ true
way_has s e [] n t h = h
way_has s e (m ∷ ms) n t h = elim (cases_Bool (is_at e m.spot)) [
  | inl q ↦ elim (or_cases (eqb m.spot.node n && eqb m.spot.moment t) (has (spots (way_on s (stop_of s m.step) ms)) n t) (rw q at h)) [
    | inl here ↦ or_left _ _ here
    | inr later ↦ or_right (eqb m.spot.node n && eqb m.spot.moment t) _ (way_has s (stop_of s m.step) ms n t later)
  ]
  | inr q ↦ or_right (eqb m.spot.node n && eqb m.spot.moment t) _ (way_has s e ms n t (rw q at h))
]

-- the way on from an end among the pairs leads from that end to an arrival
pub record LeadsOn (s : Site) (k : ℕ) (e : End) (ms : List Met) : Type 0 where
  pub chain : IsChain s k (way_on s e ms)
  pub top : top_end k (way_on s e ms) ≡ e

pub leads_on : (w : Network) (k : ℕ) (e : End) (ms : List Met) → AreMet w k ms → IsAmong k (spots ms) e → LeadsOn w.site k e ms
leads_on w k Source [] met among = absurd among
leads_on w k (Pair n t) [] met among = absurd (cc)
leads_on w k (Door j) [] met among = record { chain = tt; top = ap (λ i. Door i) (sym among) }
leads_on w k e (m ∷ ms) met among = elim (cases_Bool (is_at e m.spot)) [
  | inl q ↦
      let rest = leads_on w k (stop_of w.site m.step) ms met.1 met.0.stop in
      let link : IsLink w.site k m (way_on w.site (stop_of w.site m.step) ms) = record {
        inside = met.0.inside;
        place = met.0.place;
        start = met.0.start;
        stop = sym rest.top;
        fresh = not_met (cases_Bool (has (spots (way_on w.site (stop_of w.site m.step) ms)) m.spot.node m.spot.moment));
      } in
      record { chain = rw q (link, rest.chain); top = rw q (sym (at_same e m.spot q)) }
  | inr q ↦ (let later = leads_on w k e ms met.1 (among_rest k e m ms q among) in record { chain = rw q later.chain; top = rw q later.top })
]
  where
    not_met : (has (spots (way_on w.site (stop_of w.site m.step) ms)) m.spot.node m.spot.moment ≡ true)
        ⊎ (has (spots (way_on w.site (stop_of w.site m.step) ms)) m.spot.node m.spot.moment ≡ false)
        → has (spots (way_on w.site (stop_of w.site m.step) ms)) m.spot.node m.spot.moment ≡ false
    not_met (inl h) = absurd (true≢false (sym (way_has w.site (stop_of w.site m.step) ms m.spot.node m.spot.moment h) ∙ met.0.fresh))
    not_met (inr h) = h

pub met_steps : (w : Network) (k : ℕ) (ms : List Met) → AreMet w k ms → All (λ (m : Met). IsPlace w.site m.step.place × (0 < residual_room w m.step)) ms
met_steps w k [] met j d l = absurd (omega (arith, l))
met_steps w k (m ∷ ms) met zero d l = (met.0.place, met.0.room)
met_steps w k (m ∷ ms) met (suc j) d l = met_steps w k ms met.1 j d (omega (arith, l))

-- ---- the way on, pair by pair

-- the way on from an end, over the pairs from a number on
abbrev pub way_from : Site → End → List Met → ℕ → List PathStep
way_from s e ms i = steps_of (way_on s e (drop i ms))

-- the way on goes over the pair that it comes to, and past another one
pub way_over : (s : Site) (e : End) (ms : List Met) (i : ℕ) {m : Met} → i < length ms → m ≡ get_or ms i m → is_at e m.spot ≡ true → way_from s e ms i ≡ m.step ∷ way_from s (stop_of s m.step) ms (i + 1)
way_over s e ms i {m} few is here = rw (add-one, drop-cons ms i m few, sym is, here) refl

pub way_past : (s : Site) (e : End) (ms : List Met) (i : ℕ) {m : Met} → i < length ms → m ≡ get_or ms i m → is_at e m.spot ≡ false → way_from s e ms i ≡ way_from s e ms (i + 1)
way_past s e ms i {m} few is off = rw (add-one, drop-cons ms i m few, sym is, off) refl
