-- In which periods' cuts an item is, by labels.
use Rattle.std.proofs.Common.{◌≡◌, ℕ, ◌+◌, ◌<◌, ◌≤◌, Bool, true, false, not, ◌&&◌, ◌||◌, leb, ltb, max, arith}
use Rattle.std.proofs.lemmas.Bool.Decides.{nat_tests}

-- an entry of a node that is no exit, and of an exit
pub entry_inside : (t l h k : ℕ) (e : Bool) → e ≡ false → k ≤ h
    → (leb (max t l) k && ltb k (h + 1)) ≡ (leb t k && not (leb t k && (not e && ltb k l)))
entry_inside t l h k e work b = grind (arith, nat_tests)

pub entry_exit : (t l h k : ℕ) (e : Bool) → e ≡ true → k ≤ h
    → (leb t k && ltb k (h + 1)) ≡ (leb t k && not (leb t k && (not e && ltb k l)))
entry_exit t l h k e exit b = grind (arith, nat_tests)

-- a hold of a node that is no exit, and of an exit
pub hold_inside : (t l r k : ℕ) (e : Bool) → e ≡ false
    → (leb (max (t + 1) r) k && ltb k l) ≡ (ltb t k && ((leb t k && (not e && ltb k l)) && not (leb (t + 1) k && (not e && ltb k r))))
hold_inside t l r k e work = grind (arith, nat_tests)

pub hold_exit : (t l r k : ℕ) (e : Bool) → e ≡ true
    → (leb 0 k && ltb k 0) ≡ (ltb t k && ((leb t k && (not e && ltb k l)) && not (leb (t + 1) k && (not e && ltb k r))))
hold_exit t l r k e exit = grind (arith, nat_tests)

-- an arc whose head is no exit, one into an exit, and one that arrives too late
pub arc_inside : (t s l r k : ℕ) (f e : Bool) → f ≡ false → e ≡ false → t ≤ s
    → (leb (max s r) k && ltb k l) ≡ ((leb t k && (not f && ltb k l)) && (leb s k && (e || not (leb s k && (not e && ltb k r)))))
arc_inside t s l r k f e inside work b = grind (arith, nat_tests)

pub arc_out : (t s l r k : ℕ) (f e : Bool) → f ≡ false → e ≡ true → t ≤ s
    → (leb s k && ltb k l) ≡ ((leb t k && (not f && ltb k l)) && (leb s k && (e || not (leb s k && (not e && ltb k r)))))
arc_out t s l r k f e inside exit b = grind (arith, nat_tests)

pub arc_late : (t s l r h k : ℕ) (f e : Bool) → h < s → k ≤ h
    → (leb 0 k && ltb k 0) ≡ ((leb t k && (not f && ltb k l)) && (leb s k && (e || not (leb s k && (not e && ltb k r)))))
arc_late t s l r h k f e b d = grind (arith, nat_tests)

pub ruleset entry_spans = (entry_inside, entry_exit)

pub ruleset hold_spans = (hold_inside, hold_exit)

pub ruleset arc_spans = (arc_inside, arc_out, arc_late)
