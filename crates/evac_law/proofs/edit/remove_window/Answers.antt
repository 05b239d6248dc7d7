use Rattle.std.proofs.Common.{ap, sym, refl, ◌∙◌}
use Rattle.std.specs.List.{position}
use Rattle.evac_law.specs.Windows.{is_same_window, window_of}
use Rattle.evac_law.proofs.EditLemmas.{unwindow_none, unwindow_some}
use Rattle.evac_law.proofs.edit.remove_window.Goals as goal

pub returns-in-None : goal.returns-in-None
returns-in-None c =
    let same = c.as_slice.ensures.value ∙ ap (λ r. r.windows.items) c.arc.ensures in
    let fault =
    unwindow_none c.args.model.now c.args.arc c.args.from c.args.until
    (ap (position (λ v. is_same_window v (window_of c.args.from c.args.until))) (sym same) ∙ sym c.place_of.ensures ∙ c.in-None.is) in
    record { answer = record { ok = tt; fault = fault; unchanged = refl } }

pub returns-in-Some : goal.returns-in-Some
returns-in-Some c =
    let same = c.as_slice.ensures.value ∙ ap (λ r. r.windows.items) c.arc.ensures in
    record {
      answer =
          record {
            ok =
                rw c.remove_window.ensures
                (unwindow_some c.args.model.now c.args.arc c.args.from c.args.until c.in-Some.place
                (ap (position (λ v. is_same_window v (window_of c.args.from c.args.until))) (sym same) ∙ sym c.place_of.ensures ∙ c.in-Some.is));
            fault = tt;
            unchanged = tt;
          };
    }
