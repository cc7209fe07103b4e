use Rattle.std.proofs.Common.{◌≡◌, ◌∙◌, map, refl}
use Rattle.clap.specs.Words.{kind_of}
use Rattle.clap.specs.declared.error.kind.ErrorKind.TheVariants.{OutOfMemory}
use Rattle.command_words.specs.Words.{AreTaken}
use Rattle.command_words.proofs.WordsRequests.{clash_untaken, flag_asked, found_asked, handed_on}
use Rattle.command_words.proofs.WordsRequests.{number_asked, parsed_taken, taken_fails}
use Rattle.command_words.proofs.words.request_of.Goals as goal

pub returns-in_err-matches-clause-refused : goal.returns-in_err-matches-clause-refused
returns-in_err-matches-clause-refused g c =
    handed_on c.from_residual-in_err-matches.result
    (λ error. AreTaken (map g.S.AsStr.text c.args.words.now) → kind_of error ≡ OutOfMemory)
    c.in_err-matches.field-0.0
    (λ taken. taken_fails _ _ c.in_err-matches.field-0.0 c.in_ok-parser.ensures
    c.in_err-matches.ensures.kinds taken) c.from_residual-in_err-matches.ensures.1

pub returns-in-Some-clause-refused : goal.returns-in-Some-clause-refused
returns-in-Some-clause-refused g c = λ taken.
    let asked = c.request_in-request.ensures.asked
    ∙ found_asked _ _ _ c.in_ok-parser.ensures c.in_ok-matches.ensures.matches in
    absurd (clash_untaken _ _ asked c.in-Some.ensures.some taken)

pub returns : goal.returns
returns g c =
    let asked = c.request_in-request.ensures.asked
    ∙ found_asked _ _ _ c.in_ok-parser.ensures c.in_ok-matches.ensures.matches in
    record {
      asked = asked;
      settings = λ workers cut says_workers least most says_cut top.
          c.request_in-request.ensures.settings workers cut
          (number_asked _ _ _ _ workers c.in_ok-parser.ensures c.in_ok-matches.ensures.matches
          says_workers)
          least most
          (number_asked _ _ _ _ cut c.in_ok-parser.ensures c.in_ok-matches.ensures.matches says_cut)
          top;
      progress = λ asked says.
          c.request_in-request.ensures.progress asked
          (flag_asked _ _ _ _ asked c.in_ok-parser.ensures c.in_ok-matches.ensures.matches says);
      explain = λ asked says.
          c.request_in-request.ensures.explain asked
          (flag_asked _ _ _ _ asked c.in_ok-parser.ensures c.in_ok-matches.ensures.matches says);
      taken = parsed_taken _ _ _ c.in_ok-parser.ensures c.in_ok-matches.ensures.kinds asked
          (c.in-None.ensures.none refl);
      refused = tt;
    }
