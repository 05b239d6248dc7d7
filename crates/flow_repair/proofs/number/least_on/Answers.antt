use Rattle.std.proofs.Common.{◌≡◌, false, get_or, min, ap, sym, ◌∙◌, arith, inl, inr}
use Rattle.std.proofs.lemmas.List.{get_or_default}
use Rattle.std.proofs.lemmas.Bool.{cases_lt}
use Rattle.residual_net.specs.declared.place.Place.TheVariants.{Arc}
use Rattle.residual_net.specs.declared.place.PathStep.{PathStep}
use Rattle.flow_repair.specs.Opened.{head_number}
use Rattle.flow_repair.proofs.Numbers.{least_of}
use Rattle.flow_repair.proofs.number.least_on.Goals as goal

abbrev blank : PathStep
blank = record { place = Arc 0 0; back = false }

pub loop-step-preserved : goal.loop-step-preserved
loop-step-preserved c =
    let path = c.args.path.now in
    let f = λ (r : PathStep). head_number c.args.labels.now c.args.net.now.site r.place in
    let i = c.loop-step.step-index in
    let old = c.loop-step.invariant in
    let here : c.head_number.result ≡ f (get_or path i blank) = c.head_number.ensures in
    let least : c.min-least.result ≡ min c.loop-step.least c.head_number.result = c.min-least.ensures in
    let both = least_of c.min-least.result c.loop-step.least c.head_number.result least in
    record {
      most = omega (arith, both.0, old.most);
      all = λ j d l. elim (cases_lt j i) [
        | inl before ↦ omega (arith, both.0, old.all j d before)
        | inr last ↦
            let at : j ≡ i = omega (arith, l, last) in
            let same : get_or path j d ≡ get_or path i blank = ap (λ z. get_or path z d) at ∙ get_or_default path i d blank c.loop-step-test.true in
            let there : f (get_or path j d) ≡ c.head_number.result = ap f same ∙ sym here in
            omega (arith, both.1, there)
      ];
      one = elim both.2 [
        | inl e ↦ elim old.one [
          | inl g ↦ inl (e ∙ g)
          | inr g ↦ inr (g.0, g.1, omega (arith, g.2), g.3, e ∙ g.4)
        ]
        | inr e ↦ inr (i, get_or path i blank, omega arith, get_or_default path i (get_or path i blank) blank c.loop-step-test.true, e ∙ here)
      ];
    }
