use Rattle.std.proofs.Common.{◌≡◌, ◌∙◌, sym}
use Rattle.check_crew.proofs.WhileReadMarks.{settled}
use Rattle.check_crew.proofs.reader.Kept.take_back.Goals as goal

pub returns-in-Some : goal.returns-in-Some
returns-in-Some g c =
    let at = rw c.deref.ensures.value at c.in-Some.ensures in
    let target : at.1.target ≡ c.args.found.now.target = rw c.proof.ensures at at.3 in
    let text : at.1.proof ≡ c.args.found.now.proof = rw c.proof.ensures at at.4 in
    settled c.args.self.now.boards c.post.new.self c.args.self.now.given.items
    c.in-Some.place at.1 c.finding.result c.post.result at.0 at.2
    (c.finding.ensures.case ∙ sym c.requires) (c.finding.ensures.target ∙ sym target)
    (rw (c.requires, target, text) c.finding.ensures.found) c.post.ensures.same.0
    c.post.ensures.new c.post.ensures.marks c.post.ensures.same.1
