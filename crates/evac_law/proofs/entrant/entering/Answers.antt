use Rattle.std.proofs.Common.{◌<◌, ◌≤◌, length, rules, ap, sym, ◌∙◌}
use Rattle.std.proofs.lemmas.Bool.{ltb-true, ltb-false}
use Rattle.std.proofs.lemmas.List.Sorted.{IsPartitionPoint-from_clause}
use Rattle.evac_law.proofs.EntrantLemmas.{entering_at, entering_past, is_before, parted, people_at}
use Rattle.evac_law.proofs.entrant.entering.Goals as goal

pub returns-in-Some : goal.returns-in-Some
returns-in-Some c =
    let n = c.args.node in
    let t = c.args.moment in
    let es = c.args.entrants.now in
    let place = c.partition_point-place.result in
    let point = IsPartitionPoint-from_clause (is_before n t) es place c.partition_point-place.ensures.partitioned (parted n t es c.requires)
    (λ a r q k. search rules) in
    let found = c.in-Some.ensures.lookup in
    let inside : place < length es = ltb-true place (length es) (sym found.0) in
    c.people_at.ensures ∙ ap (people_at n t) found.1 ∙ sym (entering_at n t es place c.requires point c.in-Some.entrant.now inside)

pub returns-in-None : goal.returns-in-None
returns-in-None c =
    let n = c.args.node in
    let t = c.args.moment in
    let es = c.args.entrants.now in
    let place = c.partition_point-place.result in
    let point = IsPartitionPoint-from_clause (is_before n t) es place c.partition_point-place.ensures.partitioned (parted n t es c.requires)
    (λ a r q k. search rules) in
    let past : length es ≤ place = ltb-false place (length es) (sym c.in-None.ensures.lookup.0) in
    sym (entering_past n t es place c.requires point past)
