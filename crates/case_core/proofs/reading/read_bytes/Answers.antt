use Rattle.std.proofs.Common.{◌≡◌, ◌<◌, ◌+◌, ◌∙◌, List, ap, length, refl, rules, subst, take, ℕ}
use Rattle.std.specs.Io.KnownBytes.{Consumes}
use Rattle.case_core.proofs.ReadingProofs.{bytes_done, bytes_more, bytes_none}
use Rattle.case_core.proofs.reading.read_bytes.Goals as goal

pub loop-count-init : goal.loop-count-init
loop-count-init g c = record {
  same = refl;
  count = refl;
  room = search rules;
  read = bytes_none _ c.args.judging.now c.args.handed;
}

pub returns-then-count-eq0-clause-read : goal.returns-then-count-eq0-clause-read
returns-then-count-eq0-clause-read g c =
    let none : c.in-Ok.count ≡ 0 = search rules in
    let some : 0 < length c.read.new.buffer = search rules in
    bytes_done _ _ _ c.args.judging.now c.loop-count.judging c.args.handed _
    c.loop-count.invariant.read
    (subst (λ (t : List ℕ). Consumes (g.S.Source.remaining c.loop-count.source)
    (g.S.Source.remaining c.read.new.self) t) (ap (λ (n : ℕ). take n c.read.new.buffer) none)
    c.in-Ok.ensures.bytes.0)
    (c.in-Ok.ensures.bytes.1 none some) c.in_ok-judged.ensures.told

pub loop-count-preserved : goal.loop-count-preserved
loop-count-preserved g c =
    let bytes = take c.in-Ok.count c.read.new.buffer in
    let long : c.in-Some.longer ≡ c.loop-count.length + length bytes = search rules in record {
      same = c.in_ok-more_binary.ensures.same ∙ c.loop-count.invariant.same;
      count = c.in-Ok.ensures.count ∙ c.loop-count.invariant.count;
      room = search rules;
      read =
          bytes_more _ _ _ _ c.loop-count.judging _ c.args.handed c.loop-count.length _ bytes
          c.loop-count.invariant.read c.in-Ok.ensures.bytes.0 c.in_ok-more_binary.ensures.told long;
    }
