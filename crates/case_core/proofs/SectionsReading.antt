-- The sections of a bundle, read label line after label line.
use Rattle.std.proofs.Common.{◌≡◌, ℕ, suc, ◌+◌, ◌<◌, List, [], ◌∷◌, ◌++◌, true, length, refl, sym}
use Rattle.std.proofs.Common.{◌∙◌, ap, subst, arith, append_assoc, length-append, Option, Bor}
use Rattle.std.proofs.Common.{MatchOption, None, Some}
use Rattle.std.specs.Prelude.{IfSome}
use Rattle.cnf_text.specs.Tokens.{words}
use Rattle.split_tree.specs.SplitTree.{SplitTree}
use Rattle.case_core.specs.Bundle.{lines_of, is_label, text_before, Labelled, labelled, labels_of}
use Rattle.case_core.specs.Bundle.{BeginsWithLabel}
use Rattle.case_core.specs.Inner.Bundle.{HasNoLabel, FirstLabel, at_line, OneLabel}
use Rattle.case_core.specs.Inner.Bundle.{NextLabel}
use Rattle.case_core.specs.Case.{SectionOf, AreSections}
use Rattle.case_core.specs.Label.{label_name}
use Rattle.case_core.specs.Inner.Sections.{GoesOn, LabelAt}
use Rattle.case_core.specs.Sections.{IsSectionOf, AreLabelled, AreSectionsOf}

one_labelled : (number : ℕ) (line : List ℕ) (lines : List (List ℕ)) → is_label line ≡ true
    →
    labelled number (line ∷ lines)
    ≡ record { line = number; label = words line; section = text_before lines }
    ∷ labelled (number + 1) lines
one_labelled number line lines is = rw is refl

same_line : (a b : List ℕ) (x y : List (List ℕ)) → a ∷ x ≡ b ∷ y → a ≡ b
same_line a b x y e = cc

begins_is : (text line : List ℕ) (others : List (List ℕ)) → BeginsWithLabel text →
    lines_of text ≡ line ∷ others → is_label line ≡ true
begins_is text line others b e =
    subst (λ (l : List ℕ). is_label l ≡ true)
    (same_line b.line line b.others others (sym b.lines ∙ e)) b.is

-- the last line of a text, as its last label
pub last_part : (text line : List ℕ) → BeginsWithLabel text → lines_of text ≡ line ∷ [] →
    OneLabel text line []
last_part text line b split number =
    ap (labelled number) split ∙ one_labelled number line [] (begins_is text line [] b split)

two_steps : (n s : ℕ) → (n + 1) + s ≡ n + suc s
two_steps n s = omega arith

-- a label's line, its section, and the next label behind it
pub next_part : (text line below section : List ℕ) (next : Option (Bor (List ℕ))) →
    BeginsWithLabel text → lines_of text ≡ line ∷ lines_of below → text ≡ line ++ 10 ∷ below
    → section ≡ text_before (lines_of below) →
    MatchOption next (HasNoLabel below) (λ at. FirstLabel below at.now)
    → MatchOption next (OneLabel text line section) (λ at. NextLabel text line section at.now)
next_part text line below section None b split whole is none = λ number.
    ap (labelled number) split
    ∙ one_labelled number line (lines_of below) (begins_is text line _ b split)
    ∙ ap (λ rest.
    record { line = number; label = words line; section = text_before (lines_of below) } ∷ rest)
    (none (number + 1))
    ∙ ap (λ s. at_line number line s ∷ []) (sym is)
next_part text line below section (Some at) b split whole is first = record {
  ends = record {
    front = line ++ 10 ∷ first.ends.front;
    parts =
        whole ∙ ap (λ r. line ++ 10 ∷ r) first.ends.parts
        ∙ sym (append_assoc line (10 ∷ first.ends.front) at.now);
  };
  skipped = suc first.skipped;
  counted = let count : length (lines_of text) ≡ suc (length (lines_of below)) = ap length split in
      omega (arith, first.counted);
  labels = λ number.
      ap (labelled number) split
      ∙ one_labelled number line (lines_of below) (begins_is text line _ b split)
      ∙ ap (λ rest.
      record { line = number; label = words line; section = text_before (lines_of below) } ∷ rest)
      (first.labels (number + 1)
      ∙ ap (λ n. labelled n (lines_of at.now)) (two_steps number first.skipped))
      ∙ ap (λ s. at_line number line s ∷ labelled (number + suc first.skipped) (lines_of at.now))
      (sym is);
  begins = first.begins;
}

-- what is left from the next label on is shorter
pub next_shorter : (text below : List ℕ) (next : Option (Bor (List ℕ))) →
    length below < length text → MatchOption next (HasNoLabel below) (λ at. FirstLabel below at.now)
    → IfSome next (λ at. length at.now < length text)
next_shorter text below None less first = tt
next_shorter text below (Some at) less first =
    let size : length below ≡ length first.ends.front + length at.now =
    ap length first.ends.parts ∙ length-append first.ends.front at.now in omega arith

-- ---- one section more

-- one more label line and its section
pub labelled_more : (tree : SplitTree) (labels : List Labelled) (sections : List SectionOf)
    (label : Labelled) (section : SectionOf) → AreLabelled tree labels sections →
    IsSectionOf tree label section
    → AreLabelled tree (labels ++ label ∷ []) (sections ++ section ∷ [])
labelled_more tree [] [] label section h s = (s, tt)
labelled_more tree [] (x ∷ sections) label section h s = absurd h
labelled_more tree (l ∷ labels) [] label section h s = absurd h
labelled_more tree (l ∷ labels) (x ∷ sections) label section h s =
    (h.0, labelled_more tree labels sections label section h.1 s)

one_more : (tree : SplitTree) (before : List Labelled) (old new : List SectionOf) (label : Labelled)
    (line proof : List ℕ) (number : ℕ) → AreSectionsOf tree before old
    → GoesOn tree old new (label_name (words line)) proof → AreSections tree new →
    AreSectionsOf tree (before ++ at_line number line proof ∷ []) new
one_more tree before old new label line proof number so_far g apart = record {
  labelled =
      rw g.added (labelled_more tree before old (at_line number line proof) g.section
      so_far.labelled (record { target = g.target; proof = g.text }));
  apart = apart;
}

-- one more section was read
pub read_on : (tree : SplitTree) (bundle text line section : List ℕ) (old new : List SectionOf)
    (next : Option (Bor (List ℕ))) → LabelAt tree bundle old text
    → MatchOption next (OneLabel text line section) (λ at. NextLabel text line section at.now) →
    GoesOn tree old new (label_name (words line)) section → AreSections tree new
    →
    MatchOption next (AreSectionsOf tree (labels_of bundle) new)
    (λ at. LabelAt tree bundle new at.now)
read_on tree bundle text line section old new None at one g apart =
    let whole : labels_of bundle ≡ at.before ++ at_line at.number line section ∷ [] =
    at.parts ∙ ap (λ l. at.before ++ l) (one at.number) in
    subst (λ (labels : List Labelled). AreSectionsOf tree labels new) (sym whole)
    (one_more tree at.before old new (at_line at.number line section) line section at.number
    at.so_far g apart)
read_on tree bundle text line section old new (Some rest) at n g apart = record {
  before = at.before ++ at_line at.number line section ∷ [];
  number = at.number + n.skipped;
  so_far =
      one_more tree at.before old new (at_line at.number line section) line section at.number
      at.so_far g apart;
  parts =
      at.parts ∙ ap (λ l. at.before ++ l) (n.labels at.number)
      ∙ sym (append_assoc at.before (at_line at.number line section ∷ [])
      (labelled (at.number + n.skipped) (lines_of rest.now)));
  counted = omega (arith, at.counted, n.counted);
  ends =
      record {
        front = at.ends.front ++ n.ends.front;
        parts =
            at.ends.parts ∙ ap (λ r. at.ends.front ++ r) n.ends.parts
            ∙ sym (append_assoc at.ends.front n.ends.front rest.now);
      };
  begins = n.begins;
}

-- at first no section was read
pub nothing_read : (tree : SplitTree) (bundle : List ℕ) (sections : List SectionOf)
    (first : Option (Bor (List ℕ))) → sections ≡ [] →
    MatchOption first (HasNoLabel bundle) (λ at. FirstLabel bundle at.now)
    →
    MatchOption first (AreSectionsOf tree (labels_of bundle) sections)
    (λ at. LabelAt tree bundle sections at.now)
nothing_read tree bundle sections None e none =
    rw (e, none 1) (record { labelled = tt; apart = λ i l. absurd (omega arith) })
nothing_read tree bundle sections (Some at) e first = record {
  before = [];
  number = 1 + first.skipped;
  so_far = rw e (record { labelled = tt; apart = λ i l. absurd (omega arith) });
  parts = first.labels 1;
  counted = omega (arith, first.counted);
  ends = first.ends;
  begins = first.begins;
}
