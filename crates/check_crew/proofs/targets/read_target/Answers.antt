use Rattle.std.proofs.Common.{arith}
use Rattle.check_crew.proofs.TargetsSeen.{err_in, failed_reads, found_given, ok_in}
use Rattle.check_crew.proofs.targets.read_target.Goals as goal

pub close-requires : goal.close-requires
close-requires g c =
    let few =
    failed_reads c.examine_read-read.result (g.P.TargetProofs.failures c.args.proofs.now)
    (g.P.Proof.Source.failures c.examine_read-read.new.source)
    (rw c.requires.fresh at c.examine_read-read.ensures.ok)
    (rw c.requires.fresh at c.examine_read-read.ensures.err) in
    omega (arith, few.0, c.requires.count)

pub returns-clause-found : goal.returns-clause-found
returns-clause-found g c =
    rw c.found_in.ensures
    (found_given c.examine_read-read.result
    (g.P.TargetProofs.held c.args.proofs.now c.args.opened.target)
    (g.P.Proof.Source.remaining c.args.opened.proof) c.args.examiner.now c.args.opened.target
    g.P.TargetProofs.takes_binary c.form-form.result c.form-form.ensures c.requires.left
    c.examine_read-read.ensures.read)

pub returns-clause-ok : goal.returns-clause-ok
returns-clause-ok g c =
    rw (c.found_in.ensures, c.close.ensures.failures)
    (ok_in c.examine_read-read.result _
    (failed_reads c.examine_read-read.result (g.P.TargetProofs.failures c.args.proofs.now)
    (g.P.Proof.Source.failures c.examine_read-read.new.source)
    (rw c.requires.fresh at c.examine_read-read.ensures.ok)
    (rw c.requires.fresh at c.examine_read-read.ensures.err)).1)

pub returns-clause-err : goal.returns-clause-err
returns-clause-err g c =
    rw (c.found_in.ensures, c.close.ensures.failures)
    (err_in c.examine_read-read.result _
    (failed_reads c.examine_read-read.result (g.P.TargetProofs.failures c.args.proofs.now)
    (g.P.Proof.Source.failures c.examine_read-read.new.source)
    (rw c.requires.fresh at c.examine_read-read.ensures.ok)
    (rw c.requires.fresh at c.examine_read-read.ensures.err)).2)
