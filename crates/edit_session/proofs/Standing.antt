-- What a net that stands for a plan gives to a session.
use Rattle.std.proofs.Common.{◌≡◌, ℕ, ◌+◌, ◌<◌, ◌≤◌, cond, pos, arith, inl, inr, List, [], ◌∷◌, length, take, refl, ap, sym, ◌∙◌, subst, Ok}
use Rattle.evac_law.specs.declared.edit.Edit.{Edit}
use Rattle.evac_law.specs.declared.model.Model.{Model}
use Rattle.std.proofs.lemmas.Bool.{cases_Bool}
use Rattle.evac_law.specs.Building.{IsValid, is_exit_at, people}
use Rattle.evac_law.specs.Parts.{IsBarredBy}
use Rattle.evac_law.specs.Plans.{TakesAllOut, above, held}
use Rattle.evac_law.specs.Certificates.{IsClearable, IsTableOf, label_cut}
use Rattle.evac_law.specs.Edits.{IsEditOf, applied, edited}
use Rattle.evac_law.specs.LabelTable.{LabelTable}
use Rattle.evac_law.specs.Stands.{Fits, IsOrdered, Stands}
use Rattle.evac_law.proofs.Optimal.{certified_is_clearable, certified_is_feasible, out_stays}
use Rattle.evac_law.proofs.WeakDuality.{above_pos}
use Rattle.residual_net.specs.Labelled.{IsLabelsOf}
use Rattle.residual_net.specs.Network.{Network, flow_at, flow_into, flow_out, limit_at, supply_limits, with_saved}
use Rattle.residual_net.specs.declared.place.Place.TheVariants.{Hold}
use Rattle.residual_net.specs.OfModel.{plan_of, stand_of}
use Rattle.edit_session.specs.declared.work.Work.{Work}
use Rattle.edit_session.specs.Kept.{former_of, state_of}
use Rattle.edit_session.specs.Mended.{IsCarried, IsRefused, IsStanding, last_arrival_of}
use Rattle.edit_session.specs.Sessions.{Begins, IsBarred, IsEdited, IsNetOfState, IsNotCleared, IsSolved, IsUndone, SessionState, kept_limit, stand_of_state}
use Rattle.edit_session.specs.Thrift.{IsSpent}
use Rattle.lex_flow.specs.Settling.{arrivals_below}
use Rattle.edit_session.proofs.Ring.{former_more}
use Rattle.edit_session.proofs.Thrifty.{thrifty_opening}

pub table_of : {m : Model} {w : Network} {l k : LabelTable} → IsStanding m w l → IsLabelsOf w.site k → IsTableOf m k
table_of h labels = record { nodes = labels.nodes ∙ h.cleared.fits.nodes_same; horizon = labels.horizon ∙ h.cleared.fits.horizon_same }

pub solved_by : {m : Model} {w : Network} {l : LabelTable} (ring : List Edit) (work : Work) → IsStanding m w l → IsSolved (state_of m w l ring work)
solved_by {m} {w} ring work h =
    let fits = h.cleared.fits in
    let arcs : IsOrdered (length m.arcs) w.site.shape.horizon (plan_of w) =
    subst (λ z. IsOrdered z w.site.shape.horizon (plan_of w)) fits.arcs_same fits.ordered in
    record {
      valid = h.valid;
      ordered = subst (λ z. IsOrdered (length m.arcs) z (plan_of w)) fits.horizon_same arcs;
      table = table_of h h.labels;
      certified = h.cleared.certified;
    }

pub net_by : {m : Model} {w : Network} {l : LabelTable} (ring : List Edit) (work : Work) → IsStanding m w l
    → IsNetOfState (state_of m w l ring work) w
net_by ring work h = record { net = h.net; limits = h.of; within = h.within; sent = h.sent; same_plan = refl }

pub clearable_by : {m : Model} {w : Network} {l : LabelTable} → IsStanding m w l → IsClearable m
clearable_by {m} {w} {l} h = certified_is_clearable m (plan_of w) l (last_arrival_of w) h.valid h.cleared.certified

-- ---- the session as a standing plan

pub takes_all_out : {s : SessionState} → IsSolved s → TakesAllOut s.model s.plan
takes_all_out {s} h =
    let good = h.certified in record {
      feasible = certified_is_feasible s.model s.plan s.labels s.last s.model.horizon h.valid good;
      all_out = out_stays s.model s.plan s.last s.model.horizon good.in_horizon good.arrives ∙ good.all_out;
    }

pub stands_of : (s : SessionState) (m : Model) → m ≡ s.model → IsSolved s → Fits s.model (stand_of_state s) → Stands m (stand_of_state s)
stands_of s m e h fits =
    subst (λ (x : Model). Stands x (stand_of_state s)) (sym e) (record { valid = h.valid; fits = fits; plan = takes_all_out h })

-- the contents are the flows of the holds
pub contents_by : {m : Model} {w : Network} {l : LabelTable} (ring : List Edit) (work : Work) (n t : ℕ) → IsStanding m w l → n < length m.nodes
    → t ≤ m.horizon → (stand_of_state (state_of m w l ring work)).contents n t ≡ flow_at w (Hold n t)
contents_by {m} {w} ring work n t h i j = elim (cases_Bool (is_exit_at m n)) [
  | inl e ↦ ap (λ b. cond b 0 (above (held m (plan_of w) n t) 0)) e ∙ sym (fits.exits_hold_none n t in_nodes in_horizon e)
  | inr e ↦
      ap (λ b. cond b 0 (above (held m (plan_of w) n t) 0)) e
      ∙ above_pos (flow_at w (Hold n t)) (held m (plan_of w) n t) (fits.inside n t in_nodes in_horizon e)
]
  where
    fits : Fits m (stand_of w)
    fits = h.cleared.fits

    in_nodes : n < w.site.shape.nodes
    in_nodes = omega (arith, fits.nodes_same, i)

    in_horizon : t ≤ w.site.shape.horizon
    in_horizon = omega (arith, fits.horizon_same, j)

pub stands_by : {m : Model} {w : Network} {l : LabelTable} (ring : List Edit) (work : Work) → IsStanding m w l
    → Fits m (stand_of_state (state_of m w l ring work))
stands_by {m} {w} ring work h =
    let fits = h.cleared.fits in
    record {
      nodes_same = refl;
      arcs_same = refl;
      horizon_same = refl;
      ordered = (solved_by ring work h).ordered;
      inside = λ n t i j e.
          ap pos (contents_by ring work n t h i j) ∙ fits.inside n t (omega (arith, fits.nodes_same, i)) (omega (arith, fits.horizon_same, j)) e;
      exits_hold_none = λ n t i j e. ap (λ b. cond b 0 (above (held m (plan_of w) n t) 0)) e;
      last_same = fits.last_same;
    }

-- ---- a net with its flow and limits saved stands as before

pub standing_saved : {m : Model} {w : Network} {l : LabelTable} → IsStanding m w l → IsStanding m (with_saved w) l
unfolding flow_at limit_at flow_into flow_out supply_limits
standing_saved h = record {
  valid = h.valid;
  net = record {
    site = h.net.site;
    full = h.net.full;
    conserved = record { pairs = h.net.conserved.pairs; sent = h.net.conserved.sent };
    barred = h.net.barred;
    supplies = h.net.supplies;
    few_sent = h.net.few_sent;
  };
  of = record { site = h.of.site; limits = h.of.limits };
  within = h.within;
  sent = h.sent;
  cleared = record { arrived = h.cleared.arrived; last = h.cleared.last; fits = h.cleared.fits; certified = h.cleared.certified };
  labels = h.labels;
  closed = h.closed;
}

-- ---- how a session begins

pub begun_by : {m : Model} (w : Network) {u : Network} {l : LabelTable} (ring : List Edit) (work : Work) → IsStanding m u l → ring ≡ [] → work.cancelled ≡ 0
    → work.pushes + arrivals_below w (last_arrival_of u + 1) ≤ arrivals_below u (last_arrival_of u + 1) → Begins m (state_of m u l ring work)
begun_by {m} w {u} ring work h none idle bounded = record {
  begun = refl;
  solved = solved_by ring work h;
  none_former = ap (former_of m) none;
  thrifty = thrifty_opening w (last_arrival_of u) work h.valid h.net h.of idle bounded;
}

-- labels that show that not everybody gets out of a model
pub not_cleared_by : {m : Model} (l : LabelTable) {most : ℕ} → IsBarredBy m (label_cut m l m.horizon) most → IsNotCleared m l (people m) most
not_cleared_by l h = record { count = refl; barred_by = h }

-- ---- how a session goes on

pub edited_by : {m m' : Model} (e e' : Edit) {w v : Network} {l k : LabelTable} (ring : List Edit) (old : Work) {work : Work} → IsStanding m w l
    → IsCarried m' w v l k work → IsEditOf m e → applied m e ≡ Ok (m', e')
    → IsEdited (state_of m w l ring old) e (state_of m' v k (take kept_limit (e' ∷ ring)) work)
edited_by {m} {m'} e e' ring old {work} h done in_range accepted = grind (arith, solved_by, former_more)

pub undone_by : {m : Model} (e : Edit) {w v : Network} {l k : LabelTable} (ring : List Edit) (old : Work) {work : Work} → IsStanding m w l
    → IsCarried (edited m e) w v l k work → IsUndone (state_of m w l (e ∷ ring) old) (state_of (edited m e) v k ring work)
undone_by {m} e ring old {work} h done = record {
  before = edited m e;
  earlier = former_of (edited m e) ring;
  last_kept = refl;
  goes_on = record {
    gone = refl;
    solved = solved_by ring work done.standing;
    kept = refl;
    repaired = done.repaired m h;
    thrifty = done.thrifty m h.valid h.of;
  };
}

pub barred_by : (m : Model) {m' : Model} (e e' : Edit) {w v : Network} (l : LabelTable) {cut : LabelTable} (ring : List Edit) (old : Work) (all : ℕ) {most : ℕ} (steps : ℕ)
    → IsValid m' → all ≡ people m' → IsRefused m' w v cut most → IsSpent m (plan_of w) m' most steps → applied m e ≡ Ok (m', e')
    → IsBarred (state_of m w l ring old) e cut all most steps
barred_by m {m'} e e' l {cut} ring old all {most} steps valid count short spent accepted = record {
  edited = m';
  inverse = e';
  accepted = accepted;
  table = short.shown.table;
  not_cleared = subst (λ (n : ℕ). IsNotCleared m' cut n most) (sym count) (not_cleared_by cut short.shown.barred_by);
  spent = spent;
}
