-- One person who is too many goes on: steps from flow to flow.
use Rattle.std.proofs.Common.{◌≡◌, ℕ, ◌+◌, ◌<◌, ◌≤◌, true, length, ap, ap₂, sym, ◌∙◌, arith}
use Rattle.std.proofs.lemmas.Bool.{both_ways, cases_Bool}
use Rattle.std.proofs.lemmas.Bool.Decides.{nat_tests}
use Rattle.evac_law.specs.declared.model.Model.{Model}
use Rattle.evac_law.specs.Building.{arrival, capacity, head, is_exit_at, rate, tail}
use Rattle.evac_law.proofs.SumLemmas.{same_pair}
use Rattle.building_laws.proofs.Tables.{IsFlow, IsMore, before_more, comes_more, goes_more, point}

-- one more at a pair is within bounds where there was room
pub within_more : (f g : ℕ → ℕ → ℕ) (a t b s most : ℕ) → IsMore f g a t → f b s ≤ most → (a ≡ b → t ≡ s → f b s < most) → g b s ≤ most
within_more f g a t b s most more fits room = grind (arith, cases_Bool, same_pair, point)

less_of_more : (f g : ℕ → ℕ → ℕ) (a t b s most : ℕ) → IsMore g f a t → f b s ≤ most → g b s ≤ most
less_of_more f g a t b s most more fits = omega (arith, more b s, fits)

pub off_pair : (p n t s : ℕ) → (p ≡ n → t ≡ s → ⊥) → point p t n s ≡ 0
off_pair p n t s h = grind (arith, nat_tests)

abbrev pub nobody : ℕ → ℕ → ℕ
nobody _ _ = 0

module _ (m : Model) (k : ℕ) (f g h : ℕ → ℕ → ℕ) (a t : ℕ) (i : a < length m.arcs) where
  -- along an arc, and back
  pub go : IsMore f g a t → f a t < rate m a t → IsFlow m k f h (point (tail m a) t) → IsFlow m k g h (point (head m a) (arrival m a t))
  go more room flow = record {
    rates = λ b s j l. within_more f g a t b s (rate m b s) more (flow.rates b s j l) (λ e d. omega (arith, room, ap₂ f e d, ap₂ (rate m) e d));
    rooms = flow.rooms;
    balance = λ n s j e l. omega (arith, flow.balance n s j e l, goes_more m f g a t n s i more, comes_more m f g a t n s i more);
  }

  pub go_back : IsMore g f a t → IsFlow m k f h (point (head m a) (arrival m a t)) → IsFlow m k g h (point (tail m a) t)
  go_back more flow = record {
    rates = λ b s j l. less_of_more f g a t b s (rate m b s) more (flow.rates b s j l);
    rooms = flow.rooms;
    balance = λ n s j e l. omega (arith, flow.balance n s j e l, goes_more m g f a t n s i more, comes_more m g f a t n s i more);
  }

  -- into an exit
  pub go_out : is_exit_at m (head m a) ≡ true → IsMore f g a t → f a t < rate m a t → IsFlow m k f h (point (tail m a) t) → IsFlow m k g h nobody
  go_out exit more room flow = record {
    rates = λ b s j l. within_more f g a t b s (rate m b s) more (flow.rates b s j l) (λ e d. omega (arith, room, ap₂ f e d, ap₂ (rate m) e d));
    rooms = flow.rooms;
    balance = λ n s j e l.
        let off = off_pair (head m a) n (arrival m a t) s (λ p q. both_ways (is_exit_at m n) e (sym (ap (is_exit_at m) p) ∙ exit)) in
        omega (arith, flow.balance n s j e l, goes_more m f g a t n s i more, comes_more m f g a t n s i more, off);
  }

  -- one who went out stays inside
  pub come_back : is_exit_at m (head m a) ≡ true → IsMore g f a t → IsFlow m k f h nobody → IsFlow m k g h (point (tail m a) t)
  come_back exit more flow = record {
    rates = λ b s j l. less_of_more f g a t b s (rate m b s) more (flow.rates b s j l);
    rooms = flow.rooms;
    balance = λ n s j e l.
        let off = off_pair (head m a) n (arrival m a t) s (λ p q. both_ways (is_exit_at m n) e (sym (ap (is_exit_at m) p) ∙ exit)) in
        omega (arith, flow.balance n s j e l, goes_more m g f a t n s i more, comes_more m g f a t n s i more, off);
  }

  -- one who would be under way after k doesn't set out
  pub stay_back : k < arrival m a t → IsMore g f a t → IsFlow m k f h nobody → IsFlow m k g h (point (tail m a) t)
  stay_back late more flow = record {
    rates = λ b s j l. less_of_more f g a t b s (rate m b s) more (flow.rates b s j l);
    rooms = flow.rooms;
    balance = λ n s j e l.
        let off = off_pair (head m a) n (arrival m a t) s (λ p q. omega (arith, late, l, q)) in
        omega (arith, flow.balance n s j e l, goes_more m g f a t n s i more, comes_more m g f a t n s i more, off);
  }

module _ (m : Model) (k : ℕ) (f h j : ℕ → ℕ → ℕ) (n t : ℕ) where
  -- wait, or don't
  pub wait : IsMore h j n t → h n t < capacity m n → IsFlow m k f h (point n t) → IsFlow m k f j (point n (t + 1))
  wait more room flow = record {
    rates = flow.rates;
    rooms = λ b s i e l. within_more h j n t b s (capacity m b) more (flow.rooms b s i e l) (λ p q. omega (arith, room, ap₂ h p q, ap (capacity m) p));
    balance = λ b s i e l. omega (arith, flow.balance b s i e l, before_more h j n t more b s, more b s);
  }

  pub wait_back : IsMore j h n t → IsFlow m k f h (point n (t + 1)) → IsFlow m k f j (point n t)
  wait_back more flow = grind (arith, less_of_more, before_more)

  -- one who is in the node at the end is too many
  pub end_here : t ≡ k → IsMore j h n t → IsFlow m k f h nobody → IsFlow m k f j (point n t)
  end_here last more flow = grind (arith, less_of_more, off_pair, before_more)
