use Rattle.std.proofs.Common.{◌≡◌, ◌∙◌, [], ap, false, rules, sym, true}
use Rattle.byte_flow.specs.Device.{GrewBy}
use Rattle.case_core.proofs.LabelledParts.{part_behind}
use Rattle.check_crew.proofs.WhileRead.{out_read, part_read}
use Rattle.check_crew.proofs.WhileReadMarks.{ok_with}
use Rattle.check_crew.proofs.reader.Reader.read_section.Goals as goal

pub returns-then-most-eq0-clause-read : goal.returns-then-most-eq0-clause-read
returns-then-most-eq0-clause-read g c =
    ok_with _ _ c.judge_part.result c.judge_part.ensures.posted (λ posted icnf begun start below.
    part_read c.args.self.now.kept.boards c.judge_part.new.self.kept.boards
    c.args.self.now.kept.given.items c.judge_part.new.self.kept.given.items icnf
    (GrewBy (g.S.Stream.gives start) begun)
    (g.S.Stream.gives c.args.source.now) (g.S.Stream.gives c.args.source.now)
    (g.S.Stream.gives c.judge_part.new.source) c.args.text.now c.args.text.now
    c.judge_part.new.text c.args.target [] below (λ bytes part. part) posted
    (rw c.requires.reader.boards c.requires.target)
    (c.judge_part.ensures.reader.boards ∙ sym c.requires.reader.boards)
    (ap (λ given. given.items) c.judge_part.ensures.given))

pub returns-then-not-taken-clause-read : goal.returns-then-not-taken-clause-read
returns-then-not-taken-clause-read g c =
    let judged = c.judge_part-then-not-taken in
    let more : c.in_ok-taken.taken.is_part ≡ false = search rules in
    let front = rw more at c.in_ok-taken.ensures.taken in
    ok_with _ _ judged.result judged.ensures.posted (λ posted icnf begun start below.
    part_read c.args.self.now.kept.boards judged.new.self.kept.boards
    c.args.self.now.kept.given.items judged.new.self.kept.given.items icnf
    (GrewBy (g.S.Stream.gives start) begun)
    (g.S.Stream.gives c.args.source.now) (g.S.Stream.gives c.front_within.new.source)
    (g.S.Stream.gives judged.new.source) c.args.text.now c.front_within.new.self
    judged.new.text c.args.target c.in_ok-taken.taken.lines.items below
    (λ bytes part. part_behind _ _ _ _ _ _ _ bytes front.0 part)
    (rw c.deref.ensures.value at posted)
    (rw c.requires.reader.boards c.requires.target)
    (judged.ensures.reader.boards ∙ sym c.requires.reader.boards)
    (ap (λ given. given.items) judged.ensures.given))

pub returns-clause-read : goal.returns-clause-read
returns-clause-read g c = λ icnf begun start below.
    let all : c.in_ok-taken.taken.is_part ≡ true = search rules in
    out_read c.args.self.now.kept.boards c.hand_out.new.self.kept.boards
    c.args.self.now.kept.given.items c.hand_out.new.self.kept.given.items icnf
    (GrewBy (g.S.Stream.gives start) begun)
    (g.S.Stream.gives c.args.source.now) (g.S.Stream.gives c.front_within.new.source)
    c.args.text.now c.front_within.new.self c.args.target c.in_ok-taken.taken.lines.items
    c.in_ok-proof.proof below (rw all at c.in_ok-taken.ensures.taken)
    (rw c.requires.reader.boards c.requires.target) c.in_ok-proof.ensures.0
    c.in_ok-proof.ensures.1 c.in_ok-hand_out.ensures.marks
