-- Where a run ends.
use Rattle.std.proofs.Common.{◌≡◌, ℕ, ◌+◌, ◌-◌, ◌<◌, ◌≤◌, zero, suc, Bool, true, false, cond, refl, sym, ap, ◌∙◌, arith}
use Rattle.certificate_text.specs.BlockText.{run_end}

suc-more : (x : ℕ → Bool) (t k : ℕ) → run_end x t (suc k) ≡ cond (x (t + 1)) (run_end x (t + 1) k) t
unfolding run_end
suc-more x t k = refl

zero-more : (x : ℕ → Bool) (t : ℕ) → run_end x t zero ≡ t
unfolding run_end
zero-more x t = refl

step-is : (t h : ℕ) → t < h → h - t ≡ suc (h - (t + 1))
step-is t h l = omega arith

-- a moment further
pub run_end-more : (x : ℕ → Bool) (t h : ℕ) → t < h → x (t + 1) ≡ true → run_end x (t + 1) (h - (t + 1)) ≡ run_end x t (h - t)
run_end-more x t h l e =
    sym (ap (λ k. run_end x t k) (step-is t h l) ∙ suc-more x t (h - (t + 1)) ∙ ap (λ b. cond b (run_end x (t + 1) (h - (t + 1))) t) e)

-- the last moment of the run
pub run_end-stop : (x : ℕ → Bool) (t h : ℕ) → t < h → x (t + 1) ≡ false → t ≡ run_end x t (h - t)
run_end-stop x t h l e =
    sym (ap (λ k. run_end x t k) (step-is t h l) ∙ suc-more x t (h - (t + 1)) ∙ ap (λ b. cond b (run_end x (t + 1) (h - (t + 1))) t) e)

-- the last moment of all
pub run_end-last : (x : ℕ → Bool) (t h : ℕ) → h ≤ t → t ≡ run_end x t (h - t)
run_end-last x t h l = let e : h - t ≡ 0 = omega arith in sym (ap (λ k. run_end x t k) e ∙ zero-more x t)
