-- Two exits shut together cost at least what each costs alone, added up.
use Rattle.std.proofs.Common.{◌≡◌, ℕ, ◌<◌, ◌≤◌, Bool, true, false, cond, not, ◌&&◌, ◌||◌, eqb, length, refl, ap, sym, ◌∙◌, arith, inl, inr, subst, Ok}
use Rattle.std.proofs.lemmas.Bool.{both_ways, cases_Bool, eqb-true, eqb-false, eq-eqb, not-false}
use Rattle.std.proofs.lemmas.List.{length-set, get_or-set_same, get_or-set_other}
use Rattle.evac_law.specs.declared.edit.Edit.{Edit}
use Rattle.evac_law.specs.declared.edit.Edit.TheVariants.{ShutExit}
use Rattle.evac_law.specs.declared.model.Model.{Model}
use Rattle.evac_law.specs.Building.{IsValid, arc_at, head, is_exit_at, no_node, node_at, rate}
use Rattle.evac_law.specs.Edits.{applied, checks, edited, inverse_of, with_node}
use Rattle.evac_law.specs.Entrants.{entering}
use Rattle.evac_law.specs.Names.{is_exit}
use Rattle.evac_law.specs.Windows.{is_closed_at}
use Rattle.evac_law.proofs.EditLemmas.{at-set, unless-Ok, valid_edited}
use Rattle.evac_law.proofs.WeakDuality.{out_le_value}
use Rattle.building_laws.specs.Doors.{KeepsOpen}
use Rattle.building_laws.specs.Exits.{TwoExitsCostMost}
use Rattle.building_laws.proofs.Doors.{all_kept, join, kept_is, kept_meet_join, meet}
use Rattle.building_laws.proofs.Duality.{cut_of}

module _ (m : Model) (e : ℕ) (l : e < length m.nodes) (exit : is_exit_at m e ≡ true) where
  abbrev shut : Model
  shut = with_node m e (record (node_at m e) { shut = true })

  pick : (b p q c : Bool) (h : Bool) (w : ℕ) → h ≡ cond b true q → cond (p || h || c) 0 w ≡ cond (not b) (cond (p || q || c) 0 w) 0
  pick b p q c h w i = grind arith

  shut_at : (n : ℕ) → (node_at shut n).shut ≡ cond (eqb e n) true (node_at m n).shut
  shut_at n = grind (arith, cases_Bool, eqb-true, get_or-set_same, eq-eqb, get_or-set_other, eqb-false)

  shut_rate : (a t : ℕ) → rate shut a t ≡ cond (not (eqb e (head m a))) (rate m a t) 0
  shut_rate a t =
      pick (eqb e (head m a)) (arc_at m a).shut (node_at m (head m a)).shut (is_closed_at (arc_at m a).windows.items t)
      (node_at shut (head m a)).shut (arc_at m a).rate (shut_at (head m a))

  -- an exit that is shut leaves the others as they were
  keeps_others : KeepsOpen m shut (λ n. not (eqb e n))
  keeps_others = record {
    at_doors = record {
      shape = record {
        places = sym (length-set m.nodes e (record (node_at m e) { shut = true }));
        exits = λ n. sym (at-set (λ r. is_exit r.name.kind) m.nodes e (record (node_at m e) { shut = true }) no_node refl n);
        arcs = refl;
        tails = λ a. refl;
        heads = λ a. refl;
      };
      horizon = refl;
      travels = λ a. refl;
      entries = λ n t. ap (λ s. cond (eqb t 0) s (entering m.entrants n t)) (sym (at-set (λ r. r.start) m.nodes e (record (node_at m e) { shut = true }) no_node refl n));
      capacities = λ n. sym (at-set (λ r. r.capacity) m.nodes e (record (node_at m e) { shut = true }) no_node refl n);
      inner = λ a t _ _ i. sym (shut_rate a t ∙ ap (λ b. cond (not b) (rate m a t) 0) (elsewhere (head m a) i));
    };
    rates = λ a t _ _ _. shut_rate a t;
  }
    where
      elsewhere : (n : ℕ) → is_exit_at m n ≡ false → eqb e n ≡ false
      elsewhere n i = elim (cases_Bool (eqb e n)) [
        | inl same ↦ absurd (both_ways (is_exit_at m e) (ap (is_exit_at m) (eqb-true e n same) ∙ i) exit)
        | inr other ↦ other
      ]

accepted : (m s : Model) (e : ℕ) (i : Edit) → IsValid m → e < length m.nodes → applied m (ShutExit e) ≡ Ok (s, i)
    → IsValid s × KeepsOpen m s (λ n. not (eqb e n))
accepted m s e i valid l h =
    let both = unless-Ok (checks m (ShutExit e)) (edited m (ShutExit e), inverse_of m (ShutExit e)) (s, i) h in
    let same : edited m (ShutExit e) ≡ s = ap (λ t. t.0) both.1 in (
      subst IsValid same (valid_edited m (ShutExit e) valid l both.0),
      subst (λ s. KeepsOpen m s (λ n. not (eqb e n))) same (keeps_others m e l (not-false (is_exit_at m e) both.0.0)),
    )

-- of the exits that the first leaves open, those of the second
both_keep : (m s w : Model) (f g : ℕ → Bool) → KeepsOpen m s f → KeepsOpen s w g → KeepsOpen m w (λ n. f n && g n)
both_keep m s w f g d h =
    let one = d.at_doors in
    let other = h.at_doors in record {
      at_doors = record {
        shape = record {
          places = one.shape.places ∙ other.shape.places;
          exits = λ n. one.shape.exits n ∙ other.shape.exits n;
          arcs = one.shape.arcs ∙ other.shape.arcs;
          tails = λ a. one.shape.tails a ∙ other.shape.tails a;
          heads = λ a. one.shape.heads a ∙ other.shape.heads a;
        };
        horizon = one.horizon ∙ other.horizon;
        travels = λ a. one.travels a ∙ other.travels a;
        entries = λ n t. one.entries n t ∙ other.entries n t;
        capacities = λ n. one.capacities n ∙ other.capacities n;
        inner = λ a t i j e. one.inner a t i j e ∙ other.inner a t (in_arcs a i) (in_time t j) (sym (same_exit a) ∙ e);
      };
      rates = λ a t i j e.
          h.rates a t (in_arcs a i) (in_time t j) (sym (same_exit a) ∙ e)
          ∙ ap (λ n. cond (g n) (rate s a t) 0) (sym (one.shape.heads a))
          ∙ ap (λ r. cond (g (head m a)) r 0) (d.rates a t i j e)
          ∙ nested (f (head m a)) (g (head m a)) (rate m a t);
    }
  where
    same_exit : (a : ℕ) → is_exit_at m (head m a) ≡ is_exit_at s (head s a)
    same_exit a = d.at_doors.shape.exits (head m a) ∙ ap (is_exit_at s) (d.at_doors.shape.heads a)

    in_arcs : (a : ℕ) → a < length m.arcs → a < length s.arcs
    in_arcs a i = omega (arith, i, d.at_doors.shape.arcs)

    in_time : (t : ℕ) → t ≤ m.horizon → t ≤ s.horizon
    in_time t j = omega (arith, j, d.at_doors.horizon)

    nested : (b c : Bool) (r : ℕ) → cond c (cond b r 0) 0 ≡ cond (b && c) r 0
    nested b c r = grind arith

pub two_exits_cost_most : TwoExitsCostMost
two_exits_cost_most m one other both e f i j g valid in_e in_f apart shut_e shut_f shut_both p q u v k l feasible within best_one best_other =
    let first = accepted m one e i valid in_e shut_e in
    let second = accepted m other f j valid in_f shut_f in
    let third = accepted one both f g first.0 (omega (arith, in_f, first.1.at_doors.shape.places)) shut_both in
    let x = cut_of one u k first.0 (omega (arith, l, first.1.at_doors.horizon)) best_one in
    let y = cut_of other v k second.0 (omega (arith, l, second.1.at_doors.horizon)) best_other in
    omega (
      arith,
      out_le_value m (meet x.0 y.0) p k valid feasible,
      out_le_value both (join x.0 y.0) q k third.0 within,
      all_kept m (meet x.0 y.0) k l,
      kept_is m both (λ n. not (eqb e n) && not (eqb f n)) (join x.0 y.0) k (both_keep m one both _ _ first.1 third.1) l,
      kept_is m one (λ n. not (eqb e n)) x.0 k first.1 l,
      kept_is m other (λ n. not (eqb f n)) y.0 k second.1 l,
      kept_meet_join m (λ _. true) (λ n. not (eqb e n)) (λ n. not (eqb f n)) (λ n. not (eqb e n) && not (eqb f n)) x.0 y.0 k (record {
        in_one = λ n _. not_both (eqb e n) (eqb f n) (λ a b. apart (eqb-true e n a ∙ sym (eqb-true f n b)));
        one_more = λ n h. (and_left (not (eqb e n)) (not (eqb f n)) h);
        other_more = λ n h. (and_right (not (eqb e n)) (not (eqb f n)) h);
      }),
      x.1,
      y.1,
    )
  where
    not_both : (b c : Bool) → (b ≡ true → c ≡ true → ⊥) → (not b || not c) ≡ true
    not_both b c h = grind arith

    and_left : (b c : Bool) → (b && c) ≡ true → b ≡ true
    and_left b c h = grind arith

    and_right : (b c : Bool) → (b && c) ≡ true → c ≡ true
    and_right b c h = grind arith
