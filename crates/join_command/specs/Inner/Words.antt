-- What the parser has found, and what was made of it.
use Rattle.std.specs.Prelude.{List, [], codes, map, option_map, unwrap_or}
use Rattle.clap.specs.Words.{Text, matched_of, raw_values}
use Rattle.clap.specs.declared.parser.matches.Found.{Found}
use Rattle.join_command.specs.declared.words.Request.{Request}
use Rattle.join_command.specs.Words.{JoinAsked}

-- the RECORDs
abbrev pub records_found : Found → List Text
records_found found = unwrap_or (option_map raw_values (matched_of found (codes "records"))) []

-- what a request asks for
abbrev pub asked_in : Request → JoinAsked
asked_in request = record {
  formula = option_map (λ path. path.now) request.formula;
  file = request.file.now;
  records = map (λ path. path.now) request.records.items;
  unbound = request.unbound;
}
