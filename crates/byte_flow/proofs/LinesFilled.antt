-- How the room of a buffer is filled, read by read.
use Rattle.std.proofs.Common.{◌≡◌, ◌∙◌, sym, ap, ℕ, ◌+◌, ◌-◌, ◌≤◌, ◌<◌, ◌^◌, List, []}
use Rattle.std.proofs.Common.{◌++◌, length, take, drop, arith}
use Rattle.std.proofs.Common.{append-nil, append_assoc, false, refl, true, Result, Ok, Err, IfOk}
use Rattle.std.proofs.Math.Seq.{take-append-add, take-add, paste, take-paste}
use Rattle.std.proofs.lemmas.List.{drop-take, drop_all, length-append, length-drop, length-take-le}
use Rattle.std.specs.Io.{ReadsAtMost}
use Rattle.byte_flow.specs.Device.{HasGiven}
use Rattle.byte_flow.specs.Lines.{EndsWithLine, IsBegunFurther, IsNextBlock, LinesOf}
use Rattle.byte_flow.specs.Inner.Lines.{IsReadAt, IsReadBehind}
use Rattle.byte_flow.proofs.DeviceGiven.{given_both}

-- a read into the rest of a room
read_behind : (before after : List ℕ → Type 0) (old front buffer : List ℕ) (from count : ℕ)
    → front ≡ old → length front ≡ from → count ≤ length buffer
    → HasGiven before after (take count buffer) → (count ≡ 0 → after [])
    → IsReadAt before after old (front ++ buffer) from count
read_behind before after old front buffer from count is long few given last = record {
  read = take count buffer;
  given = given;
  long = length-take-le count buffer few;
  within = omega (arith, long, few, length-append front buffer);
  behind = ap (λ (n : ℕ). take (n + count) (front ++ buffer)) (sym long)
      ∙ take-append-add front buffer count ∙ ap (λ (f : List ℕ). f ++ take count buffer) is;
  last = last;
}

-- the same of what a read answered
pub result_behind : {E : Type 0} (result : Result ℕ E) (before after : List ℕ → Type 0)
    (old front buffer : List ℕ) (from : ℕ) → front ≡ old → length front ≡ from → 0 < length buffer
    → ReadsAtMost result buffer
    → IfOk result (λ count. HasGiven before after (take count buffer))
    → IfOk result (λ count. count ≡ 0 → 0 < length buffer → after [])
    → IfOk result (IsReadAt before after old (front ++ buffer) from)
result_behind (Ok count) before after old front buffer from is long some few given last =
    read_behind before after old front buffer from count is long few.0 given
    (λ none. last none some)
result_behind (Err fault) before after old front buffer from is long some few given last = tt

split_at : (block filled : ℕ) → block ≤ filled → block + (filled - block) ≡ filled
split_at block filled within = omega arith

-- the line that is begun goes to the front
pub moved_front : (room : List ℕ) (block filled : ℕ) → block ≤ filled → filled ≤ length room →
    take (filled - block) (paste room 0 (drop block room) (filled - block))
    ≡ drop block (take filled room)
moved_front room block filled within few =
    ap (λ (n : ℕ). take n (paste room 0 (drop block room) (filled - block))) (from_front _)
    ∙ take-paste room 0 (drop block room) (filled - block) (omega arith)
    (omega (arith, within, few, length-drop block room))
    ∙ sym (drop-take block (filled - block) room)
    ∙ ap (λ (n : ℕ). drop block (take n room)) (split_at block filled within)
  where
    from_front : (n : ℕ) → n ≡ 0 + n
    from_front n = omega arith

-- ---- no block

-- where no byte is in the block, it is none
no_block : (room : List ℕ) (block filled : ℕ) → block ≤ filled → filled ≤ length room →
    take block room ≡ [] → block ≡ 0
no_block room block filled within few none =
    let long : length (take block room) ≡ block = length-take-le block room (omega arith) in
    let zero : length (take block room) ≡ 0 = ap length none in omega (arith, long, zero)

-- so many bytes of a room as a block and what is begun behind it
abbrev pub as_lines : List ℕ → ℕ → ℕ → LinesOf
as_lines room block filled =
    record { block = take block room; begun = drop block (take filled room) }

-- then all bytes are begun
all_begun : (room : List ℕ) (block filled : ℕ) (old : LinesOf) → block ≤ filled
    → filled ≤ length room → as_lines room block filled ≡ old → old.block ≡ []
    → (block ≡ 0) × (take filled room ≡ old.begun)
all_begun room block filled old within few is none =
    let zero : block ≡ 0 =
    no_block room block filled within few (ap (λ (l : LinesOf). l.block) is ∙ none) in (
      zero,
      ap (λ (n : ℕ). drop n (take filled room)) (sym zero) ∙ ap (λ (l : LinesOf). l.begun) is,
    )

in_two : (room : List ℕ) (block filled : ℕ) → block ≤ filled →
    take filled room ≡ take block room ++ drop block (take filled room)
in_two room block filled within =
    let whole = split_at block filled within in
    ap (λ (n : ℕ). take n room) (sym whole)
    ∙ take-add block (filled - block) room
    ∙ ap (λ (t : List ℕ). take block room ++ t) (sym (drop-take block (filled - block) room))
    ∙ ap (λ (n : ℕ). take block room ++ drop block (take n room)) whole

-- a block that ends among them
pub cut_at : (room : List ℕ) (block filled end : ℕ) (old : LinesOf) → block ≤ filled
    → filled ≤ length room → as_lines room block filled ≡ old → old.block ≡ [] → end ≤ filled
    → take end room ++ drop end (take filled room) ≡ old.begun
cut_at room block filled end old within few is none before =
    sym (in_two room end filled before) ∙ (all_begun room block filled old within few is none).1

-- nothing was read
pub begun_same : (before after : List ℕ → Type 0) (room other : List ℕ) (block filled : ℕ)
    (old : LinesOf) → block ≤ filled → filled ≤ length room → as_lines room block filled ≡ old
    → old.block ≡ [] → HasGiven before after [] → take filled other ≡ take filled room
    → IsBegunFurther before after old.begun (as_lines other block filled)
begun_same before after room other block filled old within few is none keeps same =
    let all = all_begun room block filled old within few is none in record {
      read = [];
      given = keeps;
      none = ap (λ (n : ℕ). take n other) all.0;
      parts =
          ap (λ (n : ℕ). drop n (take filled other)) all.0 ∙ same ∙ all.1
          ∙ sym (append-nil old.begun);
    }

-- so many bytes were read
pub begun_behind : (before after : List ℕ → Type 0) (room between other : List ℕ)
    (block filled count : ℕ) (old : LinesOf) → block ≤ filled → filled ≤ length room
    → as_lines room block filled ≡ old → old.block ≡ []
    → take filled between ≡ take filled room → length other < 2 ^ 64
    → IsReadAt before after (take filled between) other filled count
    → IsReadBehind before after old (as_lines other block (filled + count)) count
begun_behind before after room between other block filled count old within few is none same long
    read =
    let all = all_begun room block filled old within few is none in
    let begun : drop block (take (filled + count) other) ≡ old.begun ++ read.read =
    ap (λ (n : ℕ). drop n (take (filled + count) other)) all.0 ∙ read.behind
    ∙ ap (λ (t : List ℕ). t ++ read.read) (same ∙ all.1) in record {
      read = read.read;
      given = read.given;
      long = read.long;
      none = ap (λ (n : ℕ). take n other) all.0;
      parts = begun;
      few =
          let cut : length (take (filled + count) other) ≡ filled + count =
          length-take-le (filled + count) other read.within in
          let whole : length (drop block (take (filled + count) other)) ≡ filled + count =
          ap (λ (n : ℕ). length (drop n (take (filled + count) other))) all.0 ∙ cut in
          omega (arith, whole, read.within, long);
      last = read.last;
    }

-- and so many more
pub begun_more : (first before after : List ℕ → Type 0) (begun : List ℕ) (was more : LinesOf)
    (count : ℕ) → IsBegunFurther first before begun was → IsReadBehind before after was more count
    → IsBegunFurther first after begun more
begun_more first before after begun was more count so_far read = record {
  read = so_far.read ++ read.read;
  given =
      given_both first before after so_far.read read.read so_far.given read.given;
  none = read.none;
  parts = read.parts ∙ ap (λ (t : List ℕ). t ++ read.read) so_far.parts
      ∙ append_assoc begun so_far.read read.read;
}

-- a read failed
pub begun_kept : (first before after : List ℕ → Type 0) (begun : List ℕ) (was more : LinesOf)
    → IsBegunFurther first before begun was → IsBegunFurther before after was.begun more
    → IsBegunFurther first after begun more
begun_kept first before after begun was more so_far read = record {
  read = so_far.read ++ read.read;
  given =
      given_both first before after so_far.read read.read so_far.given read.given;
  none = read.none;
  parts = read.parts ∙ ap (λ (t : List ℕ). t ++ read.read) so_far.parts
      ∙ append_assoc begun so_far.read read.read;
}

-- ---- the next block

-- at the source's end all that is begun is the last block
last_block : (first before after : List ℕ → Type 0) (begun : List ℕ) (was more new : LinesOf)
    → IsBegunFurther first before begun was → IsReadBehind before after was more 0
    → new.block ≡ more.begun → new.begun ≡ [] → IsNextBlock first after begun new false
last_block first before after begun was more new so_far read block rest =
    let both = begun_more first before after begun was more 0 so_far read in record {
      read = both.read;
      given = both.given;
      parts = sym both.parts ∙ sym block ∙ sym (append-nil new.block)
          ∙ ap (λ (t : List ℕ). new.block ++ t) (sym rest);
      whole = λ yes. absurd (cc);
      last = λ no. (rest, read.last refl);
    }

-- all that a room is filled with, as the last block
pub room_last : (first before after : List ℕ → Type 0) (begun room : List ℕ) (block filled : ℕ)
    (was more : LinesOf) → block ≤ filled → filled ≤ length room
    → as_lines room block filled ≡ more → IsBegunFurther first before begun was
    → IsReadBehind before after was more 0
    → IsNextBlock first after begun (as_lines room filled filled) false
room_last first before after begun room block filled was more within few is so_far read =
    last_block first before after begun was more (as_lines room filled filled) so_far read
    (all_begun room block filled more within few is read.none).1
    (drop_all filled (take filled room)
    (omega (arith, few, length-take-le filled room few)))

-- a line ended among what was read
pub whole_block : (first before after : List ℕ → Type 0) (begun : List ℕ)
    (was more new : LinesOf) (count : ℕ) → IsBegunFurther first before begun was
    → IsReadBehind before after was more count → new.block ++ new.begun ≡ more.begun
    → EndsWithLine new.block → IsNextBlock first after begun new true
whole_block first before after begun was more new count so_far read parts whole =
    let both = begun_more first before after begun was more count so_far read in record {
      read = both.read;
      given = both.given;
      parts = sym both.parts ∙ sym parts;
      whole = λ yes. whole;
      last = λ no. absurd (cc);
    }
