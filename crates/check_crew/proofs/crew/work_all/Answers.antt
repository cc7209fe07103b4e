use denote.Exit.{no}
use denote.Param.Send.{arg_send, arg_sync, param_send, param_sync}
use Rattle.std.proofs.Common.{Some}
use Rattle.std.proofs.lemmas.List.Elements.{All-pop}
use Rattle.check_crew.specs.Inner.Crew.{IsDealtBy}
use Rattle.check_crew.proofs.ApartHanded.{handed_by, own_handed_by}
use Rattle.check_crew.proofs.crew.work_all.Goals as goal

pub work_beside-requires-clause-own : goal.work_beside-requires-clause-own
work_beside-requires-clause-own g c κs within = λ fault.
    let dealt = All-pop (IsDealtBy c.args.crew g.P.TargetProofs.failures) _ _
    (Some c.in-Some.job) c.in-Some.ensures.items c.requires.jobs in
    let bounds = c.type_bounds in (
      dealt.1.is,
      (
        param_send 2 _ (arg_send _ no _ bounds.send-P),
        param_send 3 _ (arg_send _ no _ bounds.send-P-Proof),
        param_sync 0 _ (arg_sync _ no _ bounds.sync-R),
        param_sync 1 _ (arg_sync _ no _ bounds.sync-G),
      ),
    )

pub work_beside-requires-clause-others : goal.work_beside-requires-clause-others
work_beside-requires-clause-others g c κs within = λ k d less.
    let dealt = All-pop (IsDealtBy c.args.crew g.P.TargetProofs.failures) _ _
    (Some c.in-Some.job) c.in-Some.ensures.items c.requires.jobs in
    let bounds = c.type_bounds in (
      (dealt.0 k d less).is,
      (
        param_send 2 _ (arg_send _ no _ bounds.send-P),
        param_send 3 _ (arg_send _ no _ bounds.send-P-Proof),
        param_sync 0 _ (arg_sync _ no _ bounds.sync-R),
        param_sync 1 _ (arg_sync _ no _ bounds.sync-G),
      ),
    )

pub work_beside-requires-clause-promised : goal.work_beside-requires-clause-promised
work_beside-requires-clause-promised g c κs within = λ k d less t is.
    let dealt = All-pop (IsDealtBy c.args.crew g.P.TargetProofs.failures) _ _
    (Some c.in-Some.job) c.in-Some.ensures.items c.requires.jobs in
    handed_by c.args.crew g.P.TargetProofs.held g.P.TargetProofs.failures _ t
    (dealt.0 k d less) is

pub returns-clause-own : goal.returns-clause-own
returns-clause-own g c =
    let dealt = All-pop (IsDealtBy c.args.crew g.P.TargetProofs.failures) _ _
    (Some c.in-Some.job) c.in-Some.ensures.items c.requires.jobs in
    own_handed_by c.args.crew g.P.TargetProofs.held g.P.TargetProofs.failures c.in-Some.job
    c.work_beside.result.0 dealt.1 c.work_beside.ensures.own.1.1
