-- The arcs into a node, one after another.
use Rattle.std.proofs.Common.{◌≡◌, ◌≢◌, ℕ, ◌+◌, ◌≤◌, Bool, ◌&&◌, ◌||◌, eqb, ltb, refl, arith}
use Rattle.std.proofs.lemmas.Bool.Decides.{nat_tests}
use Rattle.residual_net.specs.declared.place.Place.{Place}
use Rattle.residual_net.specs.declared.place.Place.TheVariants.{Arc, Hold, Supply}
use Rattle.residual_net.specs.declared.start.Kind.TheVariants as kinds
use Rattle.residual_net.specs.Site.{Site, IsPlace, arc_count}
use Rattle.residual_net.specs.Start.{is_kind, row_of}

-- one arc more that leads there
pub arcs_step : (f : ℕ → ℕ) (k : Bool) (n a x : ℕ) → f a ≡ x
    → ((k && eqb (f n) x) && ltb n (a + 1)) ≡ ((k && eqb n a) || ((k && eqb (f n) x) && ltb n a))
arcs_step f k n a x e = grind (arith, nat_tests)

-- and one that doesn't
pub arcs_skip : (f : ℕ → ℕ) (k : Bool) (n a x : ℕ) → f a ≢ x → ((k && eqb (f n) x) && ltb n (a + 1)) ≡ ((k && eqb (f n) x) && ltb n a)
arcs_skip f k n a x e = grind (arith, nat_tests)

-- once all are gone through
pub arcs_done : (s : Site) (f : ℕ → ℕ) (a x : ℕ) (p : Place) → arc_count s ≤ a → IsPlace s p
    → (is_kind kinds.Arc p && eqb (f (row_of p)) x) ≡ ((is_kind kinds.Arc p && eqb (f (row_of p)) x) && ltb (row_of p) a)
arcs_done s f a x (Arc n t) few i = grind (arith, nat_tests)
arcs_done s f a x (Hold n t) few i = refl
arcs_done s f a x (Supply n t) few i = refl
