use Rattle.std.proofs.Common.{◌∙◌, ap}
use Rattle.command_words.specs.Words.{is_given}
use Rattle.command_words.proofs.words.request_in.Goals as goal

pub returns-clause-settings : goal.returns-clause-settings
returns-clause-settings c = λ workers cut of_workers least most of_cut top. (
  c.settings_in.ensures.workers workers cut of_workers least most of_cut top,
  c.settings_in.ensures.cut workers cut of_workers least most of_cut top,
)

pub returns-clause-asked : goal.returns-clause-asked
returns-clause-asked c =
    let formula = c.get_str.ensures in
    let proof = c.get_str-2.ensures in
    let folder = c.get_str-3.ensures in
    let file = c.get_str-4.ensures in
    let picture = c.get_str-6.ensures in
    let out = c.get_str-7.ensures in
    let log = c.get_str-8.ensures in
    let lists = c.is_given.ensures ∙ ap is_given c.get_str-5.ensures in
    λ i. record {
      formula = formula i;
      file = file i;
      proof = proof i;
      folder = folder i;
      picture = picture i;
      out = out i;
      log = log i;
      lists = lists i;
    }
