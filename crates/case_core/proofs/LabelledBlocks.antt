-- A block, and the places in it between which no line is a label line.
use Rattle.std.proofs.Common.{◌≡◌, ◌≢◌, ◌∙◌, sym, ap, subst, refl, ℕ, ◌+◌, ◌-◌, ◌≤◌, ◌<◌, Bool}
use Rattle.std.proofs.Common.{true, false, not, List, [], ◌∷◌, ◌++◌, ◌⊎◌, Option, None, Some, Bor}
use Rattle.std.proofs.Common.{MatchOption, append-nil, append_assoc, inl, inr, length, take, drop}
use Rattle.std.proofs.Common.{arith, take-append-drop, ◌==◌, ◌||◌}
use Rattle.std.specs.Prelude.{count_by}
use Rattle.std.proofs.Math.Seq.{take-append_seam, drop-append_seam}
use Rattle.std.proofs.lemmas.Bool.{ne_eqb}
use Rattle.std.proofs.lemmas.List.{drop-append-le, drop-drop, drop-take, drop_all, length-append}
use Rattle.std.proofs.lemmas.List.{length-drop, length-take-le, take_all}
use Rattle.std.proofs.lemmas.List.Splits.{slice_split_none}
use Rattle.byte_flow.specs.Lines.{EndsWithLine, IsNextBlock, LinesOf}
use Rattle.byte_flow.proofs.DeviceGiven.{given_none}
use Rattle.cnf_text.specs.Tokens.{is_line_end}
use Rattle.case_core.specs.Bundle.{BeginsWithLabel, is_label, lines_of, text_before}
use Rattle.case_core.specs.Inner.Bundle.{FirstLabel, HasNoLabel, IsCutAtLine}
use Rattle.case_core.specs.Inner.Labelled.{HasAdvanced, IsCutFrom, IsTextKept, between}
use Rattle.case_core.specs.Inner.Labelled.{labelled_text, some_bytes}
use Rattle.case_core.specs.Labelled.{IsAtLabel, IsBehindLabel, IsLabelTaken, LabelledOf, Stands}
use Rattle.case_core.specs.Bundle.{AreWholeLines}
use Rattle.case_core.proofs.LabelFirst.{IsSplit, line_begins, no_label, not_whole}
use Rattle.case_core.proofs.LabelFirst.{whole_behind}
use Rattle.case_core.proofs.BundleLines.{first_no_end, front_plain, join, join_lines}

-- ---- places

-- where a block goes on from a place
record HasParts (block front back : List ℕ) (at : ℕ) : Type 0 where
  within : at + length front ≤ length block
  front_is : between block at (at + length front) ≡ front
  back_is : drop (at + length front) block ≡ back

parts_at : (block front back : List ℕ) (at : ℕ) → at ≤ length block
    → drop at block ≡ front ++ back → HasParts block front back at
parts_at block front back at within parts =
    let long = length-drop at block in
    let both : length (drop at block) ≡ length front + length back =
    ap length parts ∙ length-append front back in record {
      within = omega (arith, long, both, within);
      front_is = drop-take at (length front) block ∙ ap (take (length front)) parts
          ∙ take-append_seam front back;
      back_is = sym (drop-drop (length front) at block) ∙ ap (drop (length front)) parts
          ∙ drop-append_seam front back;
    }

pub cut_behind : (block rest front : List ℕ) (at : ℕ) (label : Option (Bor (List ℕ)))
    → at ≤ length block → rest ≡ drop at block → front ≡ text_before (lines_of rest)
    → MatchOption label (HasNoLabel rest) (λ l. FirstLabel rest l.now)
    → MatchOption label (front ≡ rest) (λ l. IsCutAtLine rest front l.now)
    → IsCutFrom block at (at + length front)
cut_behind block rest front at None within is before label whole =
    let parts =
    parts_at block front [] at within (sym is ∙ sym whole ∙ sym (append-nil front)) in record {
      ordered = omega arith;
      within = parts.within;
      plain = subst HasNoLabel (sym before ∙ sym parts.front_is) (front_plain rest);
      whole = λ some. absurd (some parts.back_is);
      label = λ some. absurd (some parts.back_is);
    }
cut_behind block rest front at (Some l) within is before label whole =
    let parts = parts_at block front l.now at within (sym is ∙ whole.parts) in record {
      ordered = omega arith;
      within = parts.within;
      plain = subst HasNoLabel (sym before ∙ sym parts.front_is) (front_plain rest);
      whole = λ _. subst AreWholeLines (sym parts.front_is) whole.at_line;
      label = λ _. subst BeginsWithLabel (sym parts.back_is) label.begins;
    }

-- how a slice is told
pub rest_at : (block : List ℕ) (at : ℕ) → take (length block - at) (drop at block) ≡ drop at block
rest_at block at =
    let long = length-drop at block in take_all (length block - at) (drop at block) (omega arith)

pub slice_at : (block : List ℕ) (at end : ℕ) → at ≤ end
    → take (end - at) (drop at block) ≡ between block at end
slice_at block at end ordered =
    let whole : at + (end - at) ≡ end = omega arith in
    sym (drop-take at (end - at) block) ∙ ap (λ (n : ℕ). drop at (take n block)) whole

none_between : (block : List ℕ) (at : ℕ) → at ≤ length block → between block at at ≡ []
none_between block at within =
    let long = length-take-le at block within in drop_all at (take at block) (omega arith)

both_parts : (block : List ℕ) (at end : ℕ) → at ≤ end → end ≤ length block
    → between block at end ++ drop end block ≡ drop at block
both_parts block at end ordered within =
    let long = length-take-le end block within in
    sym (drop-append-le at (take end block) (drop end block) (omega arith))
    ∙ ap (drop at) (take-append-drop end block)

-- ---- what is kept

pub nothing_kept : (buffer : LinesOf) (is_last : Bool) → buffer.block ≡ [] → is_last ≡ false
    → IsTextKept buffer 0 0 is_last
nothing_kept buffer is_last none more = record {
  cut = record {
    ordered = omega arith;
    within = omega arith;
    plain = no_label;
    whole = λ some. absurd (some none);
    label = λ some. absurd (some none);
  };
  whole = λ _. inl none;
  last = λ yes. absurd (cc);
}

pub kept_at_end : (buffer : LinesOf) (at end : ℕ) (is_last : Bool)
    → IsTextKept buffer at end is_last → IsTextKept buffer end end is_last
kept_at_end buffer at end is_last kept =
    let none = none_between buffer.block end kept.cut.within in record {
      cut = record {
        ordered = omega arith;
        within = kept.cut.within;
        plain = subst HasNoLabel (sym none) no_label;
        whole = λ _. inl none;
        label = kept.cut.label;
      };
      whole = kept.whole;
      last = kept.last;
    }

pub kept_next : (before after : List ℕ → Type 0) (begun : List ℕ) (buffer : LinesOf) (end : ℕ)
    (is_whole : Bool) → IsNextBlock before after begun buffer is_whole
    → IsCutFrom buffer.block 0 end → IsTextKept buffer 0 end (not is_whole)
kept_next before after begun buffer end true next cut = record {
  cut = cut;
  whole = λ _. inr (next.whole refl);
  last = λ yes. absurd (cc);
}
kept_next before after begun buffer end false next cut = record {
  cut = cut;
  whole = λ no. absurd (cc);
  last = λ _. (next.last refl).0;
}

-- a text that begins with a label line goes on with another line, or is that line alone
first_line : (text line : List ℕ) (others : List (List ℕ)) → lines_of text ≡ line ∷ others
    → is_label line ≡ true → (below : List ℕ) × IsBehindLabel text line below
first_line text line [] lines is = (
  [],
  record {
    alone = slice_split_none is_line_end line (first_no_end text line [] lines);
    is = is;
    parts = inr (sym (join_lines text) ∙ ap join lines, refl);
  },
)
first_line text line (next ∷ more) lines is = (
  join (next ∷ more),
  record {
    alone = slice_split_none is_line_end line (first_no_end text line (next ∷ more) lines);
    is = is;
    parts = inl (sym (join_lines text) ∙ ap join lines);
  },
)

longer : (line below : List ℕ) → line ++ 10 ∷ below ≡ line → ⊥
longer line below e =
    let both : length (line ++ 10 ∷ below) ≡ length line + length (10 ∷ below) =
    length-append line (10 ∷ below) in
    let same : length (line ++ 10 ∷ below) ≡ length line = ap length e in
    absurd (omega (arith, both, same))

-- a label line stands there, with whatever is begun behind the block
label_behind : (buffer : LinesOf) (at end lines : ℕ) (is_last : Bool)
    → IsTextKept buffer at end is_last → drop end buffer.block ≢ []
    → IsAtLabel (labelled_text buffer at end is_last lines)
label_behind buffer at end lines is_last kept some = by_last is_last kept.whole kept.last
  where
    begins : BeginsWithLabel (drop end buffer.block)
    begins = kept.cut.label some

    first : (below : List ℕ) × IsBehindLabel (drop end buffer.block) begins.line below
    first = first_line (drop end buffer.block) begins.line begins.others begins.lines begins.is

    by_last : (last : Bool) → (last ≡ false → AreWholeLines buffer.block)
        → (last ≡ true → buffer.begun ≡ []) → IsAtLabel (labelled_text buffer at end last lines)
    by_last true whole none = record {
      line = begins.line;
      below = first.0;
      begins =
          subst (λ (t : List ℕ). IsBehindLabel t begins.line first.0)
          (sym (ap (λ (b : List ℕ). drop end buffer.block ++ b) (none refl)
          ∙ append-nil (drop end buffer.block))) first.1;
      whole = λ _. refl;
    }
    by_last false whole none = ended first.1.parts
      where
        lines_whole : AreWholeLines (drop end buffer.block)
        lines_whole =
            whole_behind (take end buffer.block) (drop end buffer.block)
            (subst AreWholeLines (sym (take-append-drop end buffer.block)) (whole refl))

        ended : (drop end buffer.block ≡ begins.line ++ 10 ∷ first.0)
            ⊎ ((drop end buffer.block ≡ begins.line) × (first.0 ≡ []))
            → IsAtLabel (labelled_text buffer at end false lines)
        ended (inl on) =
            let all : drop end buffer.block ++ buffer.begun
            ≡ begins.line ++ 10 ∷ (first.0 ++ buffer.begun) =
            ap (λ (t : List ℕ). t ++ buffer.begun) on
            ∙ append_assoc begins.line (10 ∷ first.0) buffer.begun in record {
              line = begins.line;
              below = first.0 ++ buffer.begun;
              begins = record { alone = first.1.alone; is = first.1.is; parts = inl all };
              whole = λ alone.
                  absurd (longer begins.line (first.0 ++ buffer.begun) (sym all ∙ alone));
            }
        ended (inr alone) =
            absurd (not_whole (drop end buffer.block) begins.line begins
            (ap lines_of alone.0 ∙ first.1.alone) lines_whole)

stands_by : (bytes : List ℕ) (buffer : LinesOf) (at start end lines : ℕ) (is_last : Bool)
    → IsTextKept buffer at end is_last → (is_last ≡ true) ⊎ (drop end buffer.block ≢ [])
    → (drop end buffer.block ≢ [] → AreWholeLines bytes)
    → Stands bytes (labelled_text buffer start end is_last lines)
stands_by bytes buffer at start end lines is_last kept over whole =
    by_next (drop end buffer.block) refl
  where
    -- whatever of the block was handed out
    label_there : (start : ℕ) → IsAtLabel (labelled_text buffer at end is_last lines)
        → IsAtLabel (labelled_text buffer start end is_last lines)
    label_there start label = record {
      line = label.line;
      below = label.below;
      begins = label.begins;
      whole = label.whole;
    }

    last : drop end buffer.block ≡ [] → (is_last ≡ true) ⊎ (drop end buffer.block ≢ [])
        → is_last ≡ true
    last none (inl is) = is
    last none (inr some) = absurd (some none)

    by_next : (next : List ℕ) → drop end buffer.block ≡ next
        → Stands bytes (labelled_text buffer start end is_last lines)
    by_next [] none =
        inl (
          ap (λ (n : List ℕ). n ++ buffer.begun) none ∙ kept.last (last none over),
          ap some_bytes none,
          last none over,
        )
    by_next (b ∷ bs) is =
        let some : drop end buffer.block ≢ [] = λ none. cc in
        inr (
          whole some,
          ap some_bytes is,
          label_there start (label_behind buffer at end lines is_last kept some),
        )

-- ---- behind what is ready

-- what the code asks, of the block as it is told
empty_rest : (rest : List ℕ) → true ≡ (length rest == 0) → rest ≡ []
empty_rest [] e = refl
empty_rest (x ∷ rest) e =
    let no : (length (x ∷ rest) == 0) ≡ false = ne_eqb (length (x ∷ rest)) 0 (λ z. omega arith) in
    absurd (cc)

pub some_rest : (block told : List ℕ) (end : ℕ) → told ≡ block
    → false ≡ (length (take (length told - end) (drop end told)) == 0) → drop end block ≢ []
some_rest block told end same e none =
    let rest : take (length told - end) (drop end told) ≡ [] =
    rest_at told end ∙ ap (drop end) same ∙ none in
    let yes : (length (take (length told - end) (drop end told)) == 0) ≡ true =
    ap (λ (r : List ℕ). length r == 0) rest in absurd (cc)

pub is_over_by : (block told : List ℕ) (end : ℕ) (is_last empty : Bool) → told ≡ block
    → empty ≡ (length (take (length told - end) (drop end told)) == 0)
    → (is_last || not empty) ≡ true → (is_last ≡ true) ⊎ (drop end block ≢ [])
is_over_by block told end true empty same e over = inl refl
is_over_by block told end false true same e over = absurd (cc)
is_over_by block told end false false same e over = inr (some_rest block told end same e)

pub goes_on_by : (block told : List ℕ) (end : ℕ) (is_last empty : Bool) → told ≡ block
    → empty ≡ (length (take (length told - end) (drop end told)) == 0)
    → (is_last || not empty) ≡ false → (is_last ≡ false) × (drop end block ≡ [])
goes_on_by block told end true empty same e over = absurd (cc)
goes_on_by block told end false true same e over =
    (refl, ap (drop end) (sym same) ∙ sym (rest_at told end) ∙ empty_rest _ e)
goes_on_by block told end false false same e over = absurd (cc)

pub counted_by : (block told : List ℕ) (at end lines ends more : ℕ) → told ≡ block → at ≤ end
    → ends ≡ count_by is_line_end (take (end - at) (drop at told)) → more ≡ lines + ends
    → more ≡ lines + count_by is_line_end (between block at end)
counted_by block told at end lines ends more same ordered count sum =
    sum ∙ ap (λ (n : ℕ). lines + n) (count ∙ ap (count_by is_line_end) (slice_at told at end ordered
    ∙ ap (λ (b : List ℕ). between b at end) same))

-- up to a label line, or up to the end
pub passed_ready : (old : LabelledOf) (buffer : LinesOf) (at end lines more : ℕ) (is_last : Bool)
    (left : List ℕ → Type 0) → labelled_text buffer at end is_last lines ≡ old
    → IsTextKept buffer at end is_last → (is_last ≡ true) ⊎ (drop end buffer.block ≢ [])
    → more ≡ lines + count_by is_line_end (between buffer.block at end)
    → HasAdvanced old (labelled_text buffer end end is_last more) left left false
passed_ready old buffer at end lines more is_last left is kept over counted =
    subst (λ (o : LabelledOf). HasAdvanced o (labelled_text buffer end end is_last more) left left
    false) is record {
      passed = record {
        read = [];
        given = given_none left;
        parts = append-nil (between buffer.block at end ++ behind)
            ∙ ap (λ (r : List ℕ). between buffer.block at end ++ (r ++ behind)) (sym none);
        lines = counted;
        over = λ was. was;
        last = λ last. (refl, last);
      };
      whole = λ yes. absurd (cc);
      some = λ yes. absurd (cc);
      none = λ _. none;
      stands = λ _.
          stands_by (between buffer.block at end) buffer at end end more is_last kept over
          kept.cut.whole;
    }
  where
    behind : List ℕ
    behind = drop end buffer.block ++ buffer.begun

    none : between buffer.block end end ≡ []
    none = none_between buffer.block end kept.cut.within

some_block : (block : List ℕ) → EndsWithLine block → block ≢ []
some_block block whole none = some whole.0 (sym none ∙ whole.1)
  where
    some : (lines : List ℕ) → [] ≡ lines ++ 10 ∷ [] → ⊥
    some [] e = cc
    some (x ∷ lines) e = cc

-- up to the block's end, behind which comes another block
pub next_ready : (old : LabelledOf) (buffer new : LinesOf) (at end lines front more : ℕ)
    (is_last is_whole some : Bool) (before after : List ℕ → Type 0)
    → labelled_text buffer at end is_last lines ≡ old → IsTextKept buffer at end is_last
    → is_last ≡ false → drop end buffer.block ≡ []
    → IsNextBlock before after buffer.begun new is_whole → IsCutFrom new.block 0 front
    → more ≡ lines + count_by is_line_end (between buffer.block at end)
    → (some ≡ true → 0 < front) → (some ≡ false → front ≡ 0)
    → HasAdvanced old (labelled_text new 0 front (not is_whole) more) before after some
next_ready old buffer new at end lines front more is_last is_whole some before after is kept going
    none next cut counted filled empty =
    subst (λ (o : LabelledOf). HasAdvanced o (labelled_text new 0 front (not is_whole) more) before
    after some) is record {
      passed = record {
        read = next.read;
        given = next.given;
        parts =
            append_assoc ready (drop end buffer.block ++ buffer.begun) next.read
            ∙ ap (λ (b : List ℕ). ready ++ ((b ++ buffer.begun) ++ next.read)) none
            ∙ ap (λ (t : List ℕ). ready ++ t) (next.parts
            ∙ ap (λ (b : List ℕ). b ++ new.begun) (sym (take-append-drop front new.block))
            ∙ append_assoc (take front new.block) (drop front new.block) new.begun);
        lines = counted;
        over = λ _. over is_whole next;
        last = λ last. absurd (cc (sym going ∙ last));
      };
      whole = λ _. whole;
      some = λ is_some void.
          let long = length-take-le front new.block cut.within in
          let zero : length (take front new.block) ≡ 0 = ap length void in
          let above = filled is_some in absurd (omega arith);
      none = λ is_none. ap (λ (n : ℕ). take n new.block) (empty is_none);
      stands = λ is_none.
          stands_by ready new 0 0 front more (not is_whole)
          (kept_next before after buffer.begun new front is_whole next cut)
          (stops is_whole next (empty is_none)) (λ _. whole);
    }
  where
    ready : List ℕ
    ready = between buffer.block at end

    over : (w : Bool) → IsNextBlock before after buffer.begun new w → not w ≡ true → after []
    over true next is = absurd (cc)
    over false next is = (next.last refl).1

    stops : (w : Bool) → IsNextBlock before after buffer.begun new w → front ≡ 0
        → (not w ≡ true) ⊎ (drop front new.block ≢ [])
    stops true next zero =
        inr (λ void. some_block new.block (next.whole refl)
        (ap (λ (n : ℕ). drop n new.block) (sym zero) ∙ void))
    stops false next zero = inl refl

    whole : AreWholeLines ready
    whole =
        whole_behind (take at buffer.block) ready
        (subst AreWholeLines
        (sym (take-append-drop at buffer.block)
        ∙ ap (λ (t : List ℕ). take at buffer.block ++ t)
        (sym (both_parts buffer.block at end kept.cut.ordered kept.cut.within)
        ∙ ap (λ (t : List ℕ). ready ++ t) none ∙ append-nil ready))
        (kept.whole going))

-- ---- behind a label line

-- where a text ends with what stands below a line
below_at : (block text line below : List ℕ) (end start : ℕ) → drop end block ≡ text
    → text ≡ line ++ 10 ∷ below → start + length below ≡ length block → drop start block ≡ below
below_at block text line below end start is parts place =
    let whole : block ≡ (take end block ++ (line ++ 10 ∷ [])) ++ below =
    sym (take-append-drop end block)
    ∙ ap (λ (t : List ℕ). take end block ++ t) (is ∙ parts
    ∙ sym (append_assoc line (10 ∷ []) below))
    ∙ sym (append_assoc (take end block) (line ++ 10 ∷ []) below) in
    let long : length block ≡ length (take end block ++ (line ++ 10 ∷ [])) + length below =
    ap length whole ∙ length-append (take end block ++ (line ++ 10 ∷ [])) below in
    let same : start ≡ length (take end block ++ (line ++ 10 ∷ [])) = omega (arith, long, place) in
    ap (λ (n : ℕ). drop n block) same
    ∙ ap (drop (length (take end block ++ (line ++ 10 ∷ [])))) whole
    ∙ drop-append_seam (take end block ++ (line ++ 10 ∷ [])) below

pub label_taken : (old : LabelledOf) (buffer : LinesOf) (at end lines start front more : ℕ)
    (is_last : Bool) (line : List ℕ) (below : Option (Bor (List ℕ)))
    → labelled_text buffer at end is_last lines ≡ old → IsTextKept buffer at end is_last
    → drop end buffer.block ≢ [] → IsSplit (drop end buffer.block) line below
    → MatchOption below (start ≡ length buffer.block)
    (λ rest. start + length rest.now ≡ length buffer.block)
    → IsCutFrom buffer.block start front → more ≡ lines + 1
    → IsLabelTaken old (labelled_text buffer start front is_last more) line lines
label_taken old buffer at end lines start front more is_last line below is kept some split place cut
    counted =
    subst (λ (o : LabelledOf). IsLabelTaken o (labelled_text buffer start front is_last more) line
    lines) is record {
      stood = stood text refl;
      behind = record { alone = first.0; is = first.1; parts = by_split below split place };
      last = last below split;
      same = refl;
      before = refl;
      counted = counted;
    }
  where
    text : List ℕ
    text = drop end buffer.block

    first : (lines_of line ≡ line ∷ []) × (is_label line ≡ true)
    first = line_begins text line below (kept.cut.label some) split

    stood : (next : List ℕ) → text ≡ next → some_bytes text ≡ true
    stood [] none = absurd (some none)
    stood (b ∷ bytes) is = ap some_bytes is

    -- the last line of a block has no end only where no block comes behind it
    over : (l : Bool) → (l ≡ false → AreWholeLines buffer.block) → lines_of text ≡ line ∷ []
        → l ≡ true
    over true whole one = refl
    over false whole one =
        absurd (not_whole text line (kept.cut.label some) one
        (whole_behind (take end buffer.block) text
        (subst AreWholeLines (sym (take-append-drop end buffer.block)) (whole refl))))

    rest : between buffer.block start front ++ (drop front buffer.block ++ buffer.begun)
        ≡ drop start buffer.block ++ buffer.begun
    rest =
        sym (append_assoc (between buffer.block start front) (drop front buffer.block)
        buffer.begun)
        ∙ ap (λ (t : List ℕ). t ++ buffer.begun)
        (both_parts buffer.block start front cut.ordered cut.within)

    behind : List ℕ
    behind = between buffer.block start front ++ (drop front buffer.block ++ buffer.begun)

    by_split : (b : Option (Bor (List ℕ))) → IsSplit text line b
        → MatchOption b (start ≡ length buffer.block)
        (λ rest. start + length rest.now ≡ length buffer.block)
        → (text ++ buffer.begun ≡ line ++ 10 ∷ behind)
        ⊎ ((text ++ buffer.begun ≡ line) × (behind ≡ []))
    by_split None split place =
        let none : buffer.begun ≡ [] = kept.last (over is_last kept.whole split.0) in
        inr (
          ap (λ (b : List ℕ). text ++ b) none ∙ append-nil text ∙ sym split.1,
          rest
              ∙ ap (λ (t : List ℕ). t ++ buffer.begun)
              (drop_all start buffer.block (omega arith)) ∙ none,
        )
    by_split (Some below) split place =
        inl (ap (λ (t : List ℕ). t ++ buffer.begun) split.1
        ∙ append_assoc line (10 ∷ below.now) buffer.begun
        ∙ ap (λ (t : List ℕ). line ++ 10 ∷ t) (sym (rest
        ∙ ap (λ (t : List ℕ). t ++ buffer.begun)
        (below_at buffer.block text line below.now end start refl split.1 place))))

    last : (b : Option (Bor (List ℕ))) → IsSplit text line b → text ++ buffer.begun ≡ line
        → is_last ≡ true
    last None split same = over is_last kept.whole split.0
    last (Some below) split same =
        absurd (longer line (below.now ++ buffer.begun)
        (sym (append_assoc line (10 ∷ below.now) buffer.begun)
        ∙ ap (λ (t : List ℕ). t ++ buffer.begun) (sym split.1) ∙ same))
