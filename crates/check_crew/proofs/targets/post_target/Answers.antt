use Rattle.std.proofs.Common.{sym, ◌∙◌, subst}
use Rattle.case_core.specs.Leaves.{IsTargetAt}
use Rattle.case_core.specs.Target.{Target}
use Rattle.case_core.specs.Judged.{Judged}
use Rattle.case_core.specs.Case.{CaseOf}
use Rattle.case_core.specs.Finding.{IsFoundBy, target_of}
use Rattle.board_hall.specs.declared.view.CutCase.{CutCase}
use Rattle.board_hall.specs.Halls.{core_of, view_of}
use Rattle.check_crew.specs.Examined.{HasSeenAs}
use Rattle.check_crew.specs.Seen.{HasSeenMark}
use Rattle.check_crew.proofs.TargetsSeen.{seen_as, found_at}
use Rattle.check_crew.proofs.targets.post_target.Goals as goal

pub post_found-requires-clause-section : goal.post_found-requires-clause-section
post_found-requires-clause-section g c = λ needs.
    absurd (rw c.requires.elsewhere at needs)

pub returns-then-post_found-clause-examined : goal.returns-then-post_found-clause-examined
returns-then-post_found-clause-examined g c =
    let k : CutCase = core_of c.args.site.core.now in
    let target : Target = c.args.target in
    let finding = c.args.read.finding in
    let judged : Judged = c.judged-judged.result in
    let here : IsTargetAt k.case.tree finding.node target =
    subst (λ (t : Target). IsTargetAt k.case.tree finding.node t) c.requires.of.1
    (subst (λ (z : CaseOf). IsTargetAt z.tree finding.node (target_of finding.leaf finding.node))
    (c.requires.of.0 ∙ c.requires.case) finding.here) in
    let mark : HasSeenMark (view_of c.post_found.new.pass) finding.node judged =
    subst (λ (j : Judged). HasSeenMark (view_of c.post_found.new.pass) finding.node j)
    (sym c.judged-judged.ensures.value) (c.post_found.ensures.new c.if-post_found.true) in
    let seen : HasSeenAs (view_of c.post_found.new.pass) target judged =
    seen_as k (view_of c.post_found.new.pass) finding.node target judged
    c.post_found.ensures.own.1 here mark in
    λ known found.
    found_at known k c.args.site.case.now (view_of c.post_found.new.pass) c.args.target judged
    found.text c.post_found.ensures.own.1 c.requires.case found.given found.plain c.requires.free
    (subst (λ (j : Judged). IsFoundBy c.args.site.case.now target found.text j)
    (sym c.judged-judged.ensures.value) found.found) seen
