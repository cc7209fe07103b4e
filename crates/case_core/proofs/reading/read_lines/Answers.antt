use Rattle.std.proofs.Common.{◌≡◌, ◌+◌, ◌∙◌, refl, length, rules, true, false}
use Rattle.case_core.proofs.ReadingProofs.{lines_done, lines_more, lines_none}
use Rattle.case_core.proofs.reading.read_lines.Goals as goal

pub loop-longer-init : goal.loop-longer-init
loop-longer-init g c = record { same = refl; count = refl; read = lines_none _ _ _ }

pub returns-then-not-branch-clause-read : goal.returns-then-not-branch-clause-read
returns-then-not-branch-clause-read g c =
    let more : c.in_ok-advance.field-0 ≡ false = search rules in
    let ready = c.ready-ready.ensures.value in
    let long : c.in-Some.longer ≡ c.loop-longer.length + length c.loop-longer.text.ready =
    search rules in
    lines_done _ c.loop-longer.text c.advance.new.self _ _ _ _ c.loop-longer.judging
    c.more.new.self c.loop-longer.length _ c.loop-longer.invariant.read
    (rw more at c.in_ok-advance.ensures.gone) c.ready-ready.ensures.plain
    (rw ready at c.in_ok-more.ensures.told) long c.in_ok-judged.ensures.told

pub loop-longer-preserved : goal.loop-longer-preserved
loop-longer-preserved g c =
    let more : c.in_ok-advance.field-0 ≡ true = search rules in
    let ready = c.ready-ready.ensures.value in
    let long : c.in-Some.longer ≡ c.loop-longer.length + length c.loop-longer.text.ready =
    search rules in record {
      same = c.in_ok-more.ensures.same ∙ c.loop-longer.invariant.same;
      count = c.in_ok-advance.ensures.ok ∙ c.loop-longer.invariant.count;
      read =
          lines_more _ c.loop-longer.text c.advance.new.self _ _ _ _ c.loop-longer.judging
          c.more.new.self c.loop-longer.length _ c.loop-longer.invariant.read
          (rw more at c.in_ok-advance.ensures.gone) c.ready-ready.ensures.plain
          (rw ready at c.in_ok-more.ensures.told) long;
    }
