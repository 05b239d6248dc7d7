use Rattle.std.proofs.Common.{refl, sym, subst}
use Rattle.evac_law.specs.declared.edit.Edit.{Edit}
use Rattle.evac_law.specs.declared.edit.Edit.TheVariants.{Shift}
use Rattle.residual_net.specs.declared.start.Kind.TheVariants as kinds
use Rattle.flow_repair.specs.Repairing.{Refits}
use Rattle.flow_repair.specs.Touched.{touches}
use Rattle.flow_repair.proofs.Repairing.{refits_then}
use Rattle.flow_repair.proofs.repair.Repair.fit_edit.Goals as goal

pub returns-in-Shift : goal.returns-in-Shift
returns-in-Shift g c =
    let r = c.args.self.now in
    let t = c.fit_row-in-Shift-2.new.self in
    let from = c.in-Shift.from in
    let to = c.in-Shift.to in
    let site = r.net.now.site in
    let both = refits_then
    (touches site (Shift from to c.in-Shift.people)) c.fit_row-in-Shift.ensures c.fit_row-in-Shift-2.ensures (λ p _. refl) in
    subst (λ (e : Edit). Refits (touches site e) r t) (sym c.in-Shift.is) both
