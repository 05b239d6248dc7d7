use Rattle.std.proofs.Common.{◌≡◌, ◌<◌, ◌≤◌, ◌+◌, arith, subst, sym}
use Rattle.evac_law.specs.declared.model.ArcRow.{ArcRow}
use Rattle.evac_law.specs.Building.{arc_at}
use Rattle.evac_law.specs.Limits.{rate_limit}
use Rattle.exit_study.specs.Rates.{IsSearch}
use Rattle.exit_study.proofs.Trying.{search_from_enough, search_from_slow}
use Rattle.exit_study.proofs.rates.first_range.Goals as goal

pub returns-then-cleared-by-clause-search : goal.returns-then-cleared-by-clause-search
returns-then-cleared-by-clause-search c =
    let s = c.args.session.now.state in
    let row : c.arc.result.now ≡ arc_at s.model c.args.arc = (let e = c.arc.ensures in let m = c.model.ensures.model in cc) in
    let last : c.cleared.result ≡ s.last = c.cleared.ensures in
    let soon : s.last ≤ c.args.by = omega (arith, c.if-cleared-by.true, last) in
    subst (λ (z : ArcRow). IsSearch s.model c.args.arc c.args.by 0 z.rate) (sym row)
    (search_from_enough c.args.arc c.args.by c.model.ensures.solved c.requires soon)

pub returns-else-cleared-by-clause-search : goal.returns-else-cleared-by-clause-search
unfolding rate_limit
returns-else-cleared-by-clause-search c =
    let s = c.args.session.now.state in
    let row : c.arc.result.now ≡ arc_at s.model c.args.arc = (let e = c.arc.ensures in let m = c.model.ensures.model in cc) in
    let last : c.cleared.result ≡ s.last = c.cleared.ensures in
    let late : c.args.by < s.last = omega (arith, c.if-cleared-by.false, last) in
    subst (λ (z : ArcRow). IsSearch s.model c.args.arc c.args.by (z.rate + 1) (rate_limit + 1)) (sym row)
    (search_from_slow c.args.arc c.args.by c.model.ensures.solved c.requires late)
