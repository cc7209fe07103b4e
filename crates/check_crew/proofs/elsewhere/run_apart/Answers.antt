use Rattle.std.proofs.Common.{◌≡◌, ◌<◌, ℕ, ap, arith, length, rules, subst, sym, ◌∙◌}
use Rattle.std.specs.Prelude.{IfSome}
use Rattle.case_core.specs.SplitTree.{size}
use Rattle.case_core.specs.Target.{Target}
use Rattle.proof_folder.specs.Given.{AreFoundApart}
use Rattle.board_hall.specs.declared.view.CutCase.{CutCase}
use Rattle.board_hall.specs.declared.view.Proofs.TheVariants.{Elsewhere as AnyElsewhere}
use Rattle.board_hall.specs.Terms.{cut_case_as}
use Rattle.board_hall.specs.Halls.{HallOf, hall_of}
use Rattle.check_crew.proofs.ApartFound.{absent_known, apart_boards}
use Rattle.check_crew.proofs.elsewhere.run_apart.Goals as goal

pub right_alone-requires : goal.right_alone-requires
right_alone-requires g c =
    let closed = c.in_ok-boards.ensures.closed in
    let case : c.in_ok-boards.boards.case ≡ c.args.case.now =
    closed.gathered.hold.case ∙ ap (λ (k : CutCase). k.case) c.in_ok-hall.ensures.hall.0 in
    let long : length c.in_ok-targets.field-0.absent.items ≡ size c.args.case.now.tree =
    omega (arith, c.in_ok-targets.ensures.long, c.in_ok-targets.field-0.absent.ok.0) in
    rw (c.deref-2.ensures.value, case) long

pub returns-clause-apart : goal.returns-clause-apart
returns-clause-apart g c = λ known all.
    let hall : HallOf = hall_of c.in_ok-hall.hall in
    let is =
    c.in_ok-hall.ensures.hall.0
    ∙ ap (λ (cut : ℕ). cut_case_as AnyElsewhere c.args.case.now cut) c.cut.ensures.0 in
    let closed = c.in_ok-boards.ensures.closed in
    let some : 0 < length c.args.proofs.items = search rules in
    let first : (target : Target) →
    g.P.TargetProofs.held c.index.result.now target ≡ known target =
    subst (λ one. (target : Target) → g.P.TargetProofs.held one target ≡ known target)
    (sym c.index.ensures) (all 0 c.index.result.now some) in
    subst
    (λ (k : CutCase). IfSome c.in_ok-right_alone.field-0 (λ boards.
    (boards.case ≡ k.case) × (boards.cut ≡ k.cut) × AreFoundApart known k.case boards.marks)) is
    (apart_boards hall closed.passes c.in_ok-boards.boards known c.in_ok-right_alone.field-0 _
    closed.gathered closed.own closed.seen c.in_ok-right_alone.ensures.same
    c.in_ok-right_alone.ensures.right
    (λ right.
    right known
    (rw (c.deref.ensures.value, closed.gathered.hold.case)
    (c.in_ok-boards.ensures.lists known all))
    (rw c.deref-2.ensures.value
    (absent_known (g.P.TargetProofs.held c.index.result.now) known
    c.in_ok-targets.field-0.absent.items first
    c.in_ok-targets.ensures.absent))))
