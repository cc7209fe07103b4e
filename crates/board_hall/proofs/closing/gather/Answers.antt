use Rattle.std.proofs.Common.{rules, ◌≡◌, All, None, List, [], ◌∷◌, ◌++◌, ◌∙◌, subst}
use Rattle.board_hall.specs.declared.pass.Pass.{Pass}
use Rattle.board_hall.specs.Halls.{view_of}
use Rattle.board_hall.proofs.ClosingBoards.{gathered_more, moved_over, all_front}
use Rattle.board_hall.proofs.closing.gather.Goals as goal

pub loop-pass-preserved : goal.loop-pass-preserved
loop-pass-preserved c =
    let i = c.loop-pass.invariant in let p = c.in-Some.pass in
    let rest : List Pass = c.pop.new.self.items in
    let items : c.loop-pass.others.items ≡ rest ++ p ∷ [] = search rules in
    let P : Pass → Type 0 = λ q. q.seat.table_id ≡ c.args.shared.now.table_id in
    let Q : Pass → Type 0 = λ q. (view_of q).owes ≡ None in (
      c.meet.ensures.own.0 ∙ i.0,
      (
        p ∷ i.1.0,
        moved_over c.args.others.items c.loop-pass.others.items rest i.1.0 p i.1.1 items,
        gathered_more c.args.first p i.1.0 c.loop-pass.seat.me c.meet.new.seat.me i.1.2 p.rests.2
            c.meet.ensures.met,
      ),
      all_front P rest p (subst (All P) items i.2),
      all_front Q rest p (subst (All Q) items i.3),
    )
