-- Yes and a certified plan, and one verdict of a block.
use Rattle.std.proofs.Common.{◌≡◌, ℕ, ◌<◌, refl, sym, subst, arith, List, ◌⊎◌, inl, inr, Result, Ok, Err, IfOk}
use Rattle.std.specs.Prelude.{◌↔◌}
use Rattle.evac_law.specs.declared.model.Model.{Model}
use Rattle.evac_law.specs.declared.plan.Move.{Move}
use Rattle.evac_law.specs.Building.{IsValid}
use Rattle.evac_law.proofs.Optimal.{certified_is_best, certified_is_quickest, certified_plans_agree, out_le_people}
use Rattle.certificate_text.specs.declared.block.Block.{Block}
use Rattle.certificate_text.specs.Block.{IsBlockOf}
use Rattle.plan_checker.specs.declared.verdict.Verdict.{Verdict}
use Rattle.plan_checker.specs.declared.verdict.Verdict.TheVariants.{Yes, PeopleWrong, RateBroken, HeldBroken, NotAllOut, OutWrong, CutWrong}
use Rattle.plan_checker.specs.VerdictLaws.{IsOptimal, OneVerdict, YesIsCertified}
use Rattle.plan_checker.specs.Parts.{Earlier, IsFirstRate, IsFirstHold}
use Rattle.plan_checker.specs.Verdicts.{IsRight, IsVerdict}
use Rattle.std.proofs.lemmas.Bool.{cases_order}

forwards : (m : Model) (b : Block) → IsValid m → IsBlockOf m b → IsVerdict m b Yes → IsRight m b
forwards m b valid block (((kept, out), outs), cuts) = grind (arith, out_le_people)

backwards : (m : Model) (b : Block) → IsRight m b → IsVerdict m b Yes
backwards m b right = grind arith

pub yes_is_certified : YesIsCertified
yes_is_certified m b valid block = (forwards m b valid block, backwards m b)

yes_is_optimal : (m : Model) (b : Block) → IsValid m → IsBlockOf m b → IsVerdict m b Yes → IsOptimal m b.moves b.cleared
yes_is_optimal m b valid block h =
    let good = (forwards m b valid block h).certified in
    record {
      best = certified_is_best m b.moves b.labels b.cleared valid good;
      quickest = λ q feasible everybody. certified_is_quickest m b.moves q b.labels b.cleared valid good feasible everybody;
      alike = λ q l d other. certified_plans_agree m q b.moves l b.labels d b.cleared valid other good;
    }

-- ---- one verdict

-- the parts in their order
abbrev rank : Verdict → ℕ
rank PeopleWrong = 0
rank (RateBroken t a) = 1
rank (HeldBroken t n) = 2
rank NotAllOut = 3
rank (OutWrong k) = 4
rank (CutWrong k) = 5
rank Yes = 6

one_number : (i j : ℕ) → (i < j → ⊥) → (j < i → ⊥) → i ≡ j
one_number i j h k = grind (arith, cases_order)

-- no verdict of a later part stands beside one: what the first says is wrong is right by the second
apart : (m : Model) (b : Block) (w v : Verdict) → rank v < rank w → IsVerdict m b v → IsVerdict m b w → ⊥
apart m b (RateBroken t a) PeopleWrong l h k = h k.0
apart m b (HeldBroken t n) PeopleWrong l h k = h k.0
apart m b NotAllOut PeopleWrong l h k = h k.0.0
apart m b (OutWrong j) PeopleWrong l h k = h k.0.0.0
apart m b (CutWrong j) PeopleWrong l h k = h k.0.0.0.0
apart m b Yes PeopleWrong l h k = h k.0.0.0.0
apart m b (HeldBroken s n) (RateBroken t a) l h k = omega (arith, h.1.broken, k.1 a t h.1.arc_in h.1.in_time)
apart m b NotAllOut (RateBroken t a) l h k = omega (arith, h.1.broken, k.0.1 a t h.1.arc_in h.1.in_time)
apart m b (OutWrong j) (RateBroken t a) l h k = omega (arith, h.1.broken, k.0.0.1 a t h.1.arc_in h.1.in_time)
apart m b (CutWrong j) (RateBroken t a) l h k = omega (arith, h.1.broken, k.0.0.0.1 a t h.1.arc_in h.1.in_time)
apart m b Yes (RateBroken t a) l h k = omega (arith, h.1.broken, k.0.0.0.1 a t h.1.arc_in h.1.in_time)
apart m b NotAllOut (HeldBroken t n) l h k = h.2.broken (k.0.2 n t h.2.node_in h.2.no_exit h.2.in_time)
apart m b (OutWrong j) (HeldBroken t n) l h k = h.2.broken (k.0.0.2 n t h.2.node_in h.2.no_exit h.2.in_time)
apart m b (CutWrong j) (HeldBroken t n) l h k = h.2.broken (k.0.0.0.2 n t h.2.node_in h.2.no_exit h.2.in_time)
apart m b Yes (HeldBroken t n) l h k = h.2.broken (k.0.0.0.2 n t h.2.node_in h.2.no_exit h.2.in_time)
apart m b (OutWrong j) NotAllOut l h k = h.1 k.0.1
apart m b (CutWrong j) NotAllOut l h k = h.1 k.0.0.1
apart m b Yes NotAllOut l h k = h.1 k.0.0.1
apart m b (CutWrong j) (OutWrong i) l h k = h.1.wrong (k.0.1 i h.1.in_time)
apart m b Yes (OutWrong i) l h k = h.1.wrong (k.0.1 i h.1.in_time)
apart m b Yes (CutWrong i) l h k = h.1.wrong (k.1 i h.1.in_time)
apart m b w v l h k = absurd (omega (arith, l))

same_rank : (m : Model) (b : Block) (v w : Verdict) → IsVerdict m b v → IsVerdict m b w → rank v ≡ rank w
same_rank m b v w h k = one_number (rank v) (rank w) (λ l. apart m b w v l h k) (λ l. apart m b v w l k h)

-- two places of which neither is earlier are one
one_place : (s i t n : ℕ) → (Earlier s i t n → ⊥) → (Earlier t n s i → ⊥) → (s ≡ t) × (i ≡ n)
one_place s i t n f g = split (cases_order s t) (cases_order i n)
  where
    split : (s ≡ t) ⊎ ((s < t) ⊎ (t < s)) → (i ≡ n) ⊎ ((i < n) ⊎ (n < i)) → (s ≡ t) × (i ≡ n)
    split (inr (inl l)) _ = absurd (f (inl l))
    split (inr (inr l)) _ = absurd (g (inl l))
    split (inl e) (inr (inl j)) = absurd (f (inr (e, j)))
    split (inl e) (inr (inr j)) = absurd (g (inr (sym e, j)))
    split (inl e) (inl h) = (e, h)

one_rate : (m : Model) (p : List Move) (c s i t n : ℕ) → IsFirstRate m p c s i → IsFirstRate m p c t n → (s ≡ t) × (i ≡ n)
one_rate m p c s i t n h k = one_place s i t n (λ e. omega (arith, h.broken, k.kept i s h.arc_in e)) (λ e. omega (arith, k.broken, h.kept n t k.arc_in e))

one_hold : (m : Model) (p : List Move) (c s i t n : ℕ) → IsFirstHold m p c s i → IsFirstHold m p c t n → (s ≡ t) × (i ≡ n)
one_hold m p c s i t n h k = one_place s i t n (λ e. h.broken (k.kept i s h.node_in h.no_exit e)) (λ e. k.broken (h.kept n t k.node_in k.no_exit e))

agree : (m : Model) (b : Block) (v w : Verdict) → rank v ≡ rank w → IsVerdict m b v → IsVerdict m b w → v ≡ w
agree m b PeopleWrong PeopleWrong e h k = refl
agree m b (RateBroken s i) (RateBroken t n) e h k = grind (arith, one_rate)
agree m b (HeldBroken s i) (HeldBroken t n) e h k = grind (arith, one_hold)
agree m b NotAllOut NotAllOut e h k = refl
agree m b (OutWrong i) (OutWrong j) e h k = grind (arith, one_number)
agree m b (CutWrong i) (CutWrong j) e h k = grind (arith, one_number)
agree m b Yes Yes e h k = refl
agree m b v w e h k = absurd (omega (arith, e))

pub one_verdict : OneVerdict
one_verdict m b v w h k = agree m b v w (same_rank m b v w h k) h k

-- a verdict is yes exactly where the block is right
pub yes_where_right : {E : Type 0} (m : Model) (b : Block) (r : Result Verdict E) → IsValid m → IsBlockOf m b → IfOk r (IsVerdict m b)
    → IfOk r (λ v. (v ≡ Yes) ↔ IsRight m b)
yes_where_right m b (Ok v) valid block h = grind (arith, forwards, one_verdict, backwards)
yes_where_right m b (Err e) valid block h = tt

-- after a yes the plan is optimal
pub optimal_where_yes : {E : Type 0} (m : Model) (b : Block) (r : Result Verdict E) → IsValid m → IsBlockOf m b → IfOk r (IsVerdict m b)
    → IfOk r (λ v. v ≡ Yes → IsOptimal m b.moves b.cleared)
optimal_where_yes m b (Ok v) valid block h = λ e. yes_is_optimal m b valid block (subst (IsVerdict m b) e h)
optimal_where_yes m b (Err e) valid block h = tt
