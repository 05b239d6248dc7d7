-- The kept edits lead back to the models before them.
use Rattle.std.proofs.Common.{◌≡◌, ℕ, zero, suc, List, [], ◌∷◌, length, take, refl, ap, ap₂, sym, ◌∙◌, subst, Ok}
use Rattle.evac_law.specs.declared.edit.Edit.{Edit}
use Rattle.evac_law.specs.declared.model.Model.{Model}
use Rattle.evac_law.specs.Building.{IsValid}
use Rattle.evac_law.specs.Certificates.{IsClearable}
use Rattle.evac_law.specs.Edits.{IsEditOf, applied, checks, edited, inverse_of}
use Rattle.evac_law.proofs.EditLemmas.{inverse_undoes, unless-Ok}
use Rattle.edit_session.specs.Kept.{LeadBack, former_of}
use Rattle.edit_session.specs.Sessions.{kept_limit}

-- ---- the latest of some edits

former_take : (n : ℕ) (m : Model) (es : List Edit) → former_of m (take n es) ≡ take n (former_of m es)
former_take zero m es = refl
former_take (suc n) m [] = refl
former_take (suc n) m (e ∷ es) = ap (λ z. edited m e ∷ z) (former_take n (edited m e) es)

pub former_length : (m : Model) (es : List Edit) → length (former_of m es) ≡ length es
former_length m [] = refl
former_length m (e ∷ es) = ap suc (former_length (edited m e) es)

pub back_take : (n : ℕ) (m : Model) (es : List Edit) → LeadBack m es → LeadBack m (take n es)
back_take zero m es h = tt
back_take (suc n) m [] h = tt
back_take (suc n) m (e ∷ es) h = (h.0, h.1, h.2, back_take n (edited m e) es h.3)

-- ---- an edit that is accepted

pub edited_is : (m m' : Model) (e e' : Edit) → applied m e ≡ Ok (m', e') → (m' ≡ edited m e) × (e' ≡ inverse_of m e)
edited_is m m' e e' h =
    let done = unless-Ok (checks m e) (edited m e, inverse_of m e) (m', e') h in
    (sym (ap (λ z. z.0) done.1), sym (ap (λ z. z.1) done.1))

-- its inverse leads back
pub back_more : {m : Model} (m' : Model) (e e' : Edit) (ring : List Edit) → IsValid m → IsEditOf m e → applied m e ≡ Ok (m', e') → IsClearable m
    → LeadBack m ring → LeadBack m' (e' ∷ ring)
back_more {m} m' e e' ring valid in_range h clear back =
    let undone = inverse_undoes m m' e e' valid in_range h in
    let was = edited_is m' m e' e undone.1 in (
      undone.0,
      undone.1 ∙ ap₂ (λ x y. Ok (x, y)) was.0 was.1,
      subst IsClearable was.0 clear,
      subst (λ z. LeadBack z ring) was.0 back,
    )

-- and the models that the latest edits lead back to are the one before and those before it
pub former_more : {m : Model} (m' : Model) (e e' : Edit) (ring : List Edit) → IsValid m → IsEditOf m e → applied m e ≡ Ok (m', e')
    → former_of m' (take kept_limit (e' ∷ ring)) ≡ take kept_limit (m ∷ former_of m ring)
former_more {m} m' e e' ring valid in_range h =
    let undone = inverse_undoes m m' e e' valid in_range h in
    let was = edited_is m' m e' e undone.1 in
    former_take kept_limit m' (e' ∷ ring) ∙ ap (λ z. take kept_limit (z ∷ former_of z ring)) (sym was.0)
