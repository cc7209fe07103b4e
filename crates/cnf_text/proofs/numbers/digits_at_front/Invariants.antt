use Rattle.std.proofs.Common.{◌≡◌, take, true}
use Rattle.std.specs.List.{list_all}
use Rattle.std.specs.Char.{is_ascii_digit}
use Rattle.cnf_text.specs.Numbers.{digits_value}
use Rattle.cnf_text.proofs.numbers.digits_at_front.Given as goal

abbrev pub invariant-loop-index : goal.invariant-loop-index
invariant-loop-index l = record {
  digits : list_all is_ascii_digit (take l.index l.text) ≡ true;
  value : l.value ≡ digits_value (take l.index l.text);
}
