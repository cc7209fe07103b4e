use Rattle.std.proofs.Common.{◌≡◌, ◌≤◌, ℕ, List, ◌++◌, drop, take, length}
use Rattle.lrat_binary.specs.Decoder.{text_left}
use Rattle.lrat_binary.proofs.decoder.Decoder.append.Given as goal

abbrev pub invariant-loop-byte : goal.invariant-loop-byte
invariant-loop-byte l = record {
  written : (more : List ℕ) → (l.text.items ++ take l.used l.page)
      ++ text_left l.self (drop l.byte-index l.bytes ++ more)
      ≡ l.initial.text.items ++ text_left l.fn.self (l.bytes ++ more);
  within : l.used ≤ length l.page;
  room : length l.page ≡ 4096;
}
