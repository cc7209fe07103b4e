use Rattle.std.proofs.Common.{◌∙◌, ◌≤◌, ap, length, refl, rules}
use Rattle.std.proofs.lemmas.List.{drop_all}
use Rattle.file_store.specs.Folder.{names_left}
use Rattle.file_store.proofs.FolderGiven.{all_given, leaf_goes_on, nothing_given, on_err}
use Rattle.file_store.proofs.FolderGiven.{some_given}
use Rattle.file_store.proofs.folder.FolderTextStream.read.Goals as goal

pub loop-self-init : goal.loop-self-init
loop-self-init g c = record {
  same = record { known = refl; lies = refl; folder = refl };
  failed = refl;
  given = λ whole is. is;
}

pub returns-in_err-read_next-clause-kept : goal.returns-in_err-read_next-clause-kept
returns-in_err-read_next-clause-kept g c =
    let few : length c.loop-self.self.part.items ≤ c.loop-self.self.at = search rules in
    let empty = drop_all c.loop-self.self.at c.loop-self.self.part.items few in
    let kept = c.in_err-read_next.ensures.kept in
    on_err c.from_residual.result _
    (nothing_given g.F.Opener.knows g.F.Opener.files c.args.self.now c.loop-self.self
    c.read_next.new.self c.loop-self.invariant.same c.loop-self.invariant.given (record {
      known = c.read_next.ensures.knows;
      lies = c.read_next.ensures.files;
      folder = c.read_next.ensures.folder;
    }) (ap names_left kept.0) empty kept.1)

pub returns-then-not-branch-clause-bytes : goal.returns-then-not-branch-clause-bytes
returns-then-not-branch-clause-bytes g c =
    let few : length c.loop-self.self.part.items ≤ c.loop-self.self.at = search rules in
    let empty = drop_all c.loop-self.self.at c.loop-self.self.part.items few in
    let over = c.in_ok-read_next.ensures.over (search rules) in
    rw over.1
    (nothing_given g.F.Opener.knows g.F.Opener.files c.args.self.now c.loop-self.self
    c.loop-self.self c.loop-self.invariant.same c.loop-self.invariant.given
    (record { known = refl; lies = refl; folder = refl }) refl empty empty)

pub returns-then-not-branch-clause-end : goal.returns-then-not-branch-clause-end
returns-then-not-branch-clause-end g c = λ zero some.
    let few : length c.loop-self.self.part.items ≤ c.loop-self.self.at = search rules in
    let empty = drop_all c.loop-self.self.at c.loop-self.self.part.items few in
    let over = c.in_ok-read_next.ensures.over (search rules) in
    rw over.1
    (all_given g.F.Opener.knows g.F.Opener.files c.loop-self.self over.0 empty)

pub loop-self-preserved : goal.loop-self-preserved
loop-self-preserved g c =
    let few : length c.loop-self.self.part.items ≤ c.loop-self.self.at = search rules in
    let empty = drop_all c.loop-self.self.at c.loop-self.self.part.items few in
    let read = c.in_ok-read_next.ensures.read (search rules) in record {
      same = record {
        known = c.read_next.ensures.knows ∙ c.loop-self.invariant.same.known;
        lies = c.read_next.ensures.files ∙ c.loop-self.invariant.same.lies;
        folder = c.read_next.ensures.folder ∙ c.loop-self.invariant.same.folder;
      };
      failed = c.in_ok-read_next.ensures.ok ∙ c.loop-self.invariant.failed;
      given =
          leaf_goes_on g.F.Opener.knows g.F.Opener.files c.args.self.now c.loop-self.self
          c.read_next.new.self read.0 c.loop-self.invariant.same c.loop-self.invariant.given empty
          read.1 read.2 read.3;
    }

pub returns-clause-bytes : goal.returns-clause-bytes
returns-clause-bytes g c =
    some_given g.F.Opener.knows g.F.Opener.files c.args.self.now c.loop-self.self c.give.new.self
    c.give.result _ c.loop-self.invariant.same c.loop-self.invariant.given c.give.ensures.same
    c.give.ensures.bytes
