-- The marks of a bundle that goes on with one section more, but for proofs that others have.
use Rattle.std.proofs.Common.{◌≡◌, ◌≢◌, ◌∙◌, sym, ap, subst, refl, ℕ, ◌<◌, List, [], ◌∷◌, ◌++◌}
use Rattle.std.proofs.Common.{Option, None, Some, Bool, true, false, get_or, inl, inr, length}
use Rattle.std.proofs.Common.{Result, Ok, Err}
use Rattle.std.proofs.Common.{get_or-set_other, get_or-set_same}
use Rattle.std.proofs.lemmas.List.{length-replicate, length-set}
use Rattle.std.specs.Prelude.{IfErr, IsErrAnd, OnOk, replicate, slice_set}
use Rattle.std.proofs.lemmas.Bool.{cases_Bool, cases_eq}
use Rattle.case_core.specs.Bundle.{labels_of}
use Rattle.case_core.specs.Case.{CaseOf, SectionOf, proof_for, same_target}
use Rattle.case_core.specs.Finding.{HasSection, IsFoundBy, target_of}
use Rattle.case_core.specs.Judged.{Judged}
use Rattle.case_core.specs.Judged.TheVariants.{Refuted, Rejected}
use Rattle.case_core.specs.Judgement.{judgement}
use Rattle.case_core.specs.Label.{IsTargetOf, label_name}
use Rattle.case_core.specs.Labelled.{IsBehindLabel, LabelledOf}
use Rattle.case_core.specs.Reading.{IsPartRead}
use Rattle.case_core.specs.declared.examiner.ReadFinding.{ReadFinding}
use Rattle.case_core.specs.Leaves.{HasTarget, IsPathOf, IsTargetAt}
use Rattle.case_core.specs.Literal.{Literal}
use Rattle.case_core.specs.Bundle.{AreWholeLines}
use Rattle.case_core.specs.Sections.{AreLabelled, IsCaseOf}
use Rattle.case_core.specs.SplitTree.{SplitTree, size}
use Rattle.case_core.specs.Target.{Target}
use Rattle.case_core.specs.Tokens.{words}
use Rattle.case_core.specs.declared.finding.Finding.{Finding}
use Rattle.case_core.proofs.CaseTables.{one_target, proof_added, proof_kept}
use Rattle.case_core.proofs.CaseTables.{same_target-true}
use Rattle.case_core.proofs.SectionsMore.{one_more}
use Rattle.mark_board.specs.Boards.{BoardsOf, marks_with}
use Rattle.mark_board.specs.Findings.{IsMarkOf, mark_as}
use Rattle.mark_board.specs.Marking.{mark_at}
use Rattle.mark_board.specs.declared.mark.Mark.{Mark}
use Rattle.mark_board.specs.declared.mark.Mark.TheVariants.{Open}
use Rattle.mark_board.proofs.BoardsGathered.{target_inside}
use Rattle.mark_board.proofs.BoardsMarks.{none_marked}
use Rattle.proof_folder.specs.Given.{IsJudgedAs}
use Rattle.check_crew.specs.One.{IsFoundOn}
use Rattle.check_crew.specs.Inner.WhileRead.{AreMarksBut, IsMarkedOrOut, IsOut, IsPutOut}
use Rattle.check_crew.specs.Inner.WhileRead.{IsPartPosted, KeepsMarks}
use Rattle.check_crew.proofs.OneAtWork.{found_on}

-- ---- before the first section

no_section : (tree : SplitTree) (sections : List SectionOf) → AreLabelled tree [] sections
    → sections ≡ []
no_section tree [] are = refl
no_section tree (section ∷ sections) are = absurd are

pub bare : (bundle : List ℕ) (case : CaseOf) → IsCaseOf bundle case → labels_of bundle ≡ []
    → case.sections ≡ []
bare bundle case is plain =
    no_section case.tree case.sections
    (rw plain at is.sections.labelled)

none_is_some : (o : Option SectionOf) (s : SectionOf) → o ≡ None → o ≡ Some s → ⊥
none_is_some o s none some = let e : None ≡ Some s = sym none ∙ some in cc

none_is_text : (o : Option (List ℕ)) (text : List ℕ) → o ≡ None → o ≡ Some text → ⊥
none_is_text o text none some = let e : None ≡ Some text = sym none ∙ some in cc

pub nothing_marked : (boards : BoardsOf) (out : List (Option SectionOf)) (bundle : List ℕ)
    (case : CaseOf) → IsCaseOf bundle case → labels_of bundle ≡ [] → boards.case ≡ case
    → boards.marks ≡ replicate (size case.tree) Open → ((place : ℕ) → get_or out place None ≡ None)
    → AreMarksBut boards out bundle
nothing_marked boards out bundle case is plain same marks empty = record {
  whole = case;
  is = is;
  formula = ap (λ (k : CaseOf). k.formula) (sym same);
  tree = ap (λ (k : CaseOf). k.tree) (sym same);
  long =
      ap length marks ∙ length-replicate (size case.tree) Open
      ∙ ap (λ (k : CaseOf). size k.tree) (sym same);
  each = λ node target at. inl (
    rw (ap (λ (s : List SectionOf). proof_for s target) none)
        (ap (λ (m : List Mark). mark_at m node) marks ∙ none_marked (size case.tree) node),
    λ is_open. ap (λ (s : List SectionOf). proof_for s target) none,
  );
  sections = λ place proof here. absurd (none_is_some _ proof (empty place) here);
}
  where
    none : case.sections ≡ []
    none = bare bundle case is plain

-- ---- one target and the others

not_open : (judged : Judged) → mark_as judged ≡ Open → ⊥
not_open Refuted e = cc
not_open (Rejected step reason) e = cc

-- where a target's section is the same, and its mark, and who has its proof, it is marked as before
stays : (whole longer : CaseOf) (out now : List (Option SectionOf)) (one : Target)
    (mark marked : Mark) → longer.formula ≡ whole.formula → longer.tree ≡ whole.tree
    → proof_for longer.sections one ≡ proof_for whole.sections one → marked ≡ mark
    → ((text : List ℕ) → IsOut out one text → IsOut now one text)
    → IsMarkedOrOut whole out one mark → IsMarkedOrOut longer now one marked
stays whole longer out now one mark marked formula tree same mark_is outs (inl was) = inl (
  rw (same, formula, tree, mark_is) was.0,
  λ is_open. same ∙ was.1 (sym mark_is ∙ is_open),
)
stays whole longer out now one mark marked formula tree same mark_is outs (inr was) = inr (
  mark_is ∙ was.0,
  (was.1.0, same ∙ was.1.1, outs was.1.0 was.1.2),
)

-- ---- one section more

module _ (boards : BoardsOf) (out : List (Option SectionOf))
    (done text line section : List ℕ) (target : Target) (whole : AreWholeLines done)
    (is : IsBehindLabel text line section) (plain : labels_of section ≡ [])
    (named : IsTargetOf boards.case.tree (label_name (words line)) target)
    (has : HasTarget boards.case.tree target) (marks : AreMarksBut boards out done)
    (free : proof_for marks.whole.sections target ≡ None) where
  abbrev more : SectionOf
  more = record { target = target; proof = section }

  abbrev longer : CaseOf
  longer = record {
    formula = marks.whole.formula;
    tree = marks.whole.tree;
    sections = marks.whole.sections ++ more ∷ [];
  }

  is_case : IsCaseOf (done ++ text) longer
  is_case =
      one_more done text line section whole is marks.whole target marks.is plain
      (subst (λ (t : SplitTree). IsTargetOf t (label_name (words line)) target) (sym marks.tree)
      named)
      (subst (λ (t : SplitTree). HasTarget t target) (sym marks.tree) has) free

  now_there : proof_for longer.sections target ≡ Some section
  now_there = proof_added marks.whole.sections more free

  else_kept : (one : Target) → same_target target one ≡ false
      → proof_for longer.sections one ≡ proof_for marks.whole.sections one
  else_kept one other = proof_kept marks.whole.sections more one other

  -- a proof that others have is of another target
  section_kept : (place : ℕ) (proof : SectionOf) → get_or out place None ≡ Some proof
      → proof_for longer.sections proof.target ≡ Some proof.proof
  section_kept place proof here = elim (cases_Bool (same_target target proof.target)) [
    | inl same ↦
        let e : target ≡ proof.target = same_target-true target proof.target same in
        absurd
        (none_is_text (proof_for marks.whole.sections target) proof.proof free
        (ap (proof_for marks.whole.sections) e ∙ marks.sections place proof here))
    | inr other ↦ else_kept proof.target other ∙ marks.sections place proof here
  ]

  -- ---- somebody has its proof

  module _ (now : List (Option SectionOf)) (put : IsPutOut out now more) where
    set_here : get_or now put.place None ≡ Some more
    set_here =
        ap (λ (o : List (Option SectionOf)). get_or o put.place None) put.set
        ∙ get_or-set_same out put.place (Some more) None put.within

    set_else : (place : ℕ) → place ≢ put.place → get_or now place None ≡ get_or out place None
    set_else place other =
        ap (λ (o : List (Option SectionOf)). get_or o place None) put.set
        ∙ get_or-set_other out put.place place (Some more) None other

    still_out : (one : Target) (bytes : List ℕ) → IsOut out one bytes → IsOut now one bytes
    still_out one bytes was = record {
      place = was.place;
      proof = was.proof;
      here =
          set_else was.place
          (λ same. none_is_some _ was.proof put.empty
          (ap (λ (n : ℕ). get_or out n None) (sym same) ∙ was.here))
          ∙ was.here;
      of = was.of;
      is = was.is;
    }

    target_out : (one : Target) (mark : Mark) → target ≡ one
        → IsMarkedOrOut marks.whole out one mark → IsMarkedOrOut longer now one mark
    target_out one mark same was = elim was [
      | inl marked ↦ inr (
        (rw (ap (proof_for marks.whole.sections) (sym same) ∙ free) at marked.0),
        (
          section,
          ap (proof_for longer.sections) (sym same) ∙ now_there,
          record { place = put.place; proof = more; here = set_here; of = same; is = refl },
        ),
      )
      | inr held ↦ absurd
          (none_is_text (proof_for marks.whole.sections target) held.1.0 free
          (ap (proof_for marks.whole.sections) same ∙ held.1.1))
    ]

    pub section_out : AreMarksBut boards now (done ++ text)
    section_out = record {
      whole = longer;
      is = is_case;
      formula = marks.formula;
      tree = marks.tree;
      long = marks.long;
      each = λ node one at. elim (cases_Bool (same_target target one)) [
        | inl same ↦
            target_out one (mark_at boards.marks node) (same_target-true target one same)
            (marks.each node one at)
        | inr other ↦
            stays marks.whole longer out now one (mark_at boards.marks node)
            (mark_at boards.marks node) refl refl (else_kept one other) refl (still_out one)
            (marks.each node one at)
      ];
      sections = λ place proof here. elim (cases_eq place put.place) [
        | inl same ↦
            let e : Some more ≡ Some proof =
            sym set_here ∙ ap (λ (n : ℕ). get_or now n None) (sym same) ∙ here in
            let is_more : more ≡ proof = cc in
            subst (λ (s : SectionOf). proof_for longer.sections s.target ≡ Some s.proof) is_more
            now_there
        | inr other ↦ section_kept place proof (sym (set_else place other) ∙ here)
      ];
    }

  -- ---- it is judged at once

  module _ (new : BoardsOf) (found : IsFoundOn boards new target section)
      (same : new.case ≡ boards.case) where
    inside : found.node < length boards.marks
    inside =
        subst (λ (n : ℕ). found.node < n) (sym marks.long)
        (target_inside boards.case.tree found.node target found.here)

    marked_here : mark_at new.marks found.node ≡ mark_as found.judged
    marked_here =
        ap (λ (m : List Mark). mark_at m found.node) found.marks
        ∙ get_or-set_same boards.marks found.node (mark_as found.judged) Open inside

    marked_else : (node : ℕ) → node ≢ found.node
        → mark_at new.marks node ≡ mark_at boards.marks node
    marked_else node other =
        ap (λ (m : List Mark). mark_at m node) found.marks
        ∙ get_or-set_other boards.marks found.node node (mark_as found.judged) Open other

    mark_here : IsMarkOf longer target (mark_at new.marks found.node)
    mark_here = rw now_there (λ path proof on of.
        marked_here
        ∙ ap mark_as (found.found path proof
        (subst (λ (t : SplitTree). IsPathOf t target path) marks.tree on) of
        ∙ ap (λ (f : List (List Literal)). judgement f path proof) (sym marks.formula)))

    each_mark : (node : ℕ) (one : Target) → IsTargetAt boards.case.tree node one
        → IsMarkedOrOut longer out one (mark_at new.marks node)
    each_mark node one at = elim (cases_eq node found.node) [
      | inl here ↦
          let one_is : one ≡ target =
          one_target boards.case.tree found.node one target
          (subst (λ (n : ℕ). IsTargetAt boards.case.tree n one) here at) found.here in inl (
            subst (λ (t : Target). IsMarkOf longer t (mark_at new.marks node)) (sym one_is)
                (subst (λ (n : ℕ). IsMarkOf longer target (mark_at new.marks n)) (sym here)
                mark_here),
            λ is_open. absurd (not_open found.judged
                (sym marked_here ∙ ap (mark_at new.marks) (sym here) ∙ is_open)),
          )
      | inr other ↦ elim (cases_Bool (same_target target one)) [
        | inl equal ↦ absurd
            (other (found.only node
            (subst (λ (t : Target). IsTargetAt boards.case.tree node t)
            (sym (same_target-true target one equal)) at)))
        | inr apart ↦
            stays marks.whole longer out out one (mark_at boards.marks node)
            (mark_at new.marks node) refl refl (else_kept one apart) (marked_else node other)
            (λ bytes was. was) (marks.each node one at)
      ]
    ]

    pub section_marked : AreMarksBut new out (done ++ text)
    section_marked = record {
      whole = longer;
      is = is_case;
      formula = marks.formula ∙ ap (λ (k : CaseOf). k.formula) (sym same);
      tree = marks.tree ∙ ap (λ (k : CaseOf). k.tree) (sym same);
      long =
          ap length found.marks
          ∙ length-set boards.marks found.node (mark_as found.judged) ∙ marks.long
          ∙ ap (λ (k : CaseOf). size k.tree) (sym same);
      each = λ node one at.
          each_mark node one (subst (λ (k : CaseOf). IsTargetAt k.tree node one) same at);
      sections = section_kept;
    }

-- ---- what others have found

module _ (boards new : BoardsOf) (out : List (Option SectionOf)) (place : ℕ) (proof : SectionOf)
    (finding : Finding) (posted : Bool) (within : place < length out)
    (here : get_or out place None ≡ Some proof) (of_case : finding.case.now ≡ boards.case)
    (of_target : target_of finding.leaf finding.node ≡ proof.target)
    (found : IsFoundBy boards.case proof.target proof.proof finding.judged)
    (same : new.case ≡ boards.case)
    (post_is : (posted ≡ true → mark_at boards.marks finding.node ≡ Open)
    × (mark_at boards.marks finding.node ≡ Open → posted ≡ true))
    (marks_are : new.marks
    ≡ marks_with posted boards.marks finding.node (mark_as finding.judged)) where
  abbrev now : List (Option SectionOf)
  now = slice_set out place None

  at_node : IsTargetAt boards.case.tree finding.node proof.target
  at_node =
      subst (λ (t : Target). IsTargetAt boards.case.tree finding.node t) of_target
      (subst (λ (k : CaseOf). IsTargetAt k.tree finding.node
      (target_of finding.leaf finding.node)) of_case finding.here)

  only_node : (other : ℕ) → IsTargetAt boards.case.tree other proof.target → other ≡ finding.node
  only_node other at =
      finding.only other
      (subst (λ (k : CaseOf). IsTargetAt k.tree other (target_of finding.leaf finding.node))
      (sym of_case)
      (subst (λ (t : Target). IsTargetAt boards.case.tree other t) (sym of_target) at))

  is_empty : get_or now place None ≡ None
  is_empty = get_or-set_same out place None None within

  is_else : (other : ℕ) → other ≢ place → get_or now other None ≡ get_or out other None
  is_else other apart = get_or-set_other out place other None None apart

  mark_else : (b : Bool) (node : ℕ) → node ≢ finding.node
      → mark_at (marks_with b boards.marks finding.node (mark_as finding.judged)) node
      ≡ mark_at boards.marks node
  mark_else true node other =
      get_or-set_other boards.marks finding.node node (mark_as finding.judged) Open other
  mark_else false node other = refl

  long_same : (b : Bool)
      → length (marks_with b boards.marks finding.node (mark_as finding.judged))
      ≡ length boards.marks
  long_same true = length-set boards.marks finding.node (mark_as finding.judged)
  long_same false = refl

  module _ (bundle : List ℕ) (marks : AreMarksBut boards out bundle) where
    there : proof_for marks.whole.sections proof.target ≡ Some proof.proof
    there = marks.sections place proof here

    -- the node's mark is that of its proof
    marked_now : (b : Bool) → posted ≡ b
        → IsMarkedOrOut marks.whole now proof.target
        (mark_at (marks_with b boards.marks finding.node (mark_as finding.judged)) finding.node)
    marked_now true is_true =
        let set : mark_at (slice_set boards.marks finding.node (mark_as finding.judged))
        finding.node ≡ mark_as finding.judged =
        get_or-set_same boards.marks finding.node (mark_as finding.judged) Open
        (subst (λ (n : ℕ). finding.node < n) (sym marks.long)
        (target_inside boards.case.tree finding.node proof.target at_node)) in inl (
          rw there (λ path proved on of.
              set
              ∙ ap mark_as (found path proved
              (subst (λ (t : SplitTree). IsPathOf t proof.target path) marks.tree on) of
              ∙ ap (λ (f : List (List Literal)). judgement f path proved) (sym marks.formula))),
          λ is_open. absurd (not_open finding.judged (sym set ∙ is_open)),
        )
    marked_now false is_false = elim (marks.each finding.node proof.target at_node) [
      | inl marked ↦ inl marked
      | inr held ↦ absurd (let e : true ≡ false = sym (post_is.1 held.0) ∙ is_false in cc)
    ]

    outs : (node : ℕ) (one : Target) → IsTargetAt boards.case.tree node one
        → node ≢ finding.node → (bytes : List ℕ) → IsOut out one bytes → IsOut now one bytes
    outs node one at other bytes was = elim (cases_eq was.place place) [
      | inl equal ↦
          let e : Some proof ≡ Some was.proof =
          sym here ∙ ap (λ (n : ℕ). get_or out n None) (sym equal) ∙ was.here in
          let is_proof : proof ≡ was.proof = cc in
          absurd
          (other (only_node node
          (subst (λ (t : Target). IsTargetAt boards.case.tree node t)
          (sym was.of ∙ ap (λ (s : SectionOf). s.target) (sym is_proof)) at)))
      | inr apart ↦ record {
        place = was.place;
        proof = was.proof;
        here = is_else was.place apart ∙ was.here;
        of = was.of;
        is = was.is;
      }
    ]

    each_now : (node : ℕ) (one : Target) → IsTargetAt boards.case.tree node one
        → IsMarkedOrOut marks.whole now one (mark_at new.marks node)
    each_now node one at = elim (cases_eq node finding.node) [
      | inl equal ↦
          let one_is : one ≡ proof.target =
          one_target boards.case.tree finding.node one proof.target
          (subst (λ (n : ℕ). IsTargetAt boards.case.tree n one) equal at) at_node in
          subst (λ (t : Target). IsMarkedOrOut marks.whole now t (mark_at new.marks node))
          (sym one_is)
          (subst (λ (m : Mark). IsMarkedOrOut marks.whole now proof.target m)
          (sym (ap (λ (m : List Mark). mark_at m node) marks_are
          ∙ ap (mark_at (marks_with posted boards.marks finding.node (mark_as finding.judged)))
          equal))
          (marked_now posted refl))
      | inr other ↦
          stays marks.whole marks.whole out now one (mark_at boards.marks node)
          (mark_at new.marks node) refl refl refl
          (ap (λ (m : List Mark). mark_at m node) marks_are ∙ mark_else posted node other)
          (outs node one at other) (marks.each node one at)
    ]

    marks_now : AreMarksBut new now bundle
    marks_now = record {
      whole = marks.whole;
      is = marks.is;
      formula = marks.formula ∙ ap (λ (k : CaseOf). k.formula) (sym same);
      tree = marks.tree ∙ ap (λ (k : CaseOf). k.tree) (sym same);
      long =
          ap length marks_are ∙ long_same posted ∙ marks.long
          ∙ ap (λ (k : CaseOf). size k.tree) (sym same);
      each = λ node one at.
          each_now node one (subst (λ (k : CaseOf). IsTargetAt k.tree node one) same at);
      sections = λ other kept at. elim (cases_eq other place) [
        | inl equal ↦ absurd
            (none_is_some _ kept is_empty (ap (λ (n : ℕ). get_or now n None) (sym equal) ∙ at))
        | inr apart ↦ marks.sections other kept (sym (is_else other apart) ∙ at)
      ];
    }

  pub settled : new.cut ≡ boards.cut → KeepsMarks boards new out now
  settled cut = record { case = same; cut = cut; marks = marks_now }

pub on_ok : {T E : Type 0} (P : Type 0) (result : Result T E) → P → OnOk result P
on_ok P (Ok value) holds = holds
on_ok P (Err fault) holds = tt

-- a fault that is told is this one
pub told_as : {T E : Type 0} (result : Result T E) (P : E → Type 0) (fault : E)
    → IsErrAnd result (λ told. told ≡ fault) → P fault → IfErr result P
told_as (Ok value) P fault is holds = tt
told_as (Err told) P fault is holds = subst P (sym is) holds

pub ok_with : {T E : Type 0} (P Q : Type 0) (result : Result T E) → OnOk result P → (P → Q)
    → OnOk result Q
ok_with P Q (Ok value) holds so = so holds
ok_with P Q (Err fault) holds so = tt

-- a part of a text that was judged where it stands, and posted
pub part_posted : (case : CaseOf) (old new : BoardsOf) (target : Target) (front : List ℕ)
    (before after : LabelledOf) (left rest : List ℕ → Type 0) (read : ReadFinding)
    (finding : Finding) (posted : Bool)
    → IsPartRead case target front before after left rest read → old.case ≡ case
    → finding.case.now ≡ read.finding.case.now → finding.leaf ≡ read.finding.leaf
    → finding.node ≡ read.finding.node → finding.judged ≡ read.finding.judged
    → ((node : ℕ) → IsTargetAt case.tree node target → mark_at old.marks node ≡ Open)
    → (mark_at old.marks finding.node ≡ Open → posted ≡ true)
    → new.marks ≡ marks_with posted old.marks finding.node (mark_as finding.judged)
    → IsPartPosted old new target front before after left rest
part_posted case old new target front before after left rest read finding posted is of same_case
    leaf node judged is_open post marks = record {
      bytes = is.bytes;
      part = is.part;
      found =
          found_on old new target (front ++ is.bytes) finding (of_case ∙ sym of) of_target
          (rw (of, judged) is.found)
          (marks
          ∙ ap (λ (b : Bool). marks_with b old.marks finding.node (mark_as finding.judged))
          posted_it);
    }
  where
    of_case : finding.case.now ≡ case
    of_case = same_case ∙ is.of_case

    of_target : target_of finding.leaf finding.node ≡ target
    of_target = rw (leaf, node) is.of_target

    at : IsTargetAt case.tree finding.node target
    at =
        subst (λ (t : Target). IsTargetAt case.tree finding.node t) of_target
        (subst (λ (k : CaseOf). IsTargetAt k.tree finding.node
        (target_of finding.leaf finding.node)) of_case finding.here)

    posted_it : posted ≡ true
    posted_it = post (is_open finding.node at)

pub keeps_none : (boards : BoardsOf) (out : List (Option SectionOf))
    → KeepsMarks boards boards out out
keeps_none boards out = record { case = refl; cut = refl; marks = λ bundle marks. marks }

pub keeps_both : (first second third : BoardsOf) (out middle last : List (Option SectionOf))
    → KeepsMarks first second out middle → KeepsMarks second third middle last
    → KeepsMarks first third out last
keeps_both first second third out middle last one two = record {
  case = two.case ∙ one.case;
  cut = two.cut ∙ one.cut;
  marks = λ bundle marks. two.marks bundle (one.marks bundle marks);
}

-- ---- which targets are named

pub not_named : (boards : BoardsOf) (out : List (Option SectionOf)) (bundle : List ℕ)
    (target : Target) (node : ℕ) → IsTargetAt boards.case.tree node target
    → mark_at boards.marks node ≡ Open
    → ((place : ℕ) (proof : SectionOf) → get_or out place None ≡ Some proof
    → proof.target ≢ target)
    → (marks : AreMarksBut boards out bundle) → proof_for marks.whole.sections target ≡ None
not_named boards out bundle target node at is_open nobody marks =
    elim (marks.each node target at) [
      | inl marked ↦ marked.1 is_open
      | inr held ↦ absurd
          (nobody held.1.2.place held.1.2.proof held.1.2.here held.1.2.of)
    ]

pub named_marked : (boards : BoardsOf) (out : List (Option SectionOf)) (bundle : List ℕ)
    (target : Target) (node : ℕ) → IsTargetAt boards.case.tree node target
    → mark_at boards.marks node ≢ Open → (marks : AreMarksBut boards out bundle)
    → HasSection marks.whole target
named_marked boards out bundle target node at posted marks none =
    elim (marks.each node target at) [
      | inl marked ↦ posted (rw none at marked.0)
      | inr held ↦ posted held.0
    ]

pub named_out : (boards : BoardsOf) (out : List (Option SectionOf)) (bundle : List ℕ)
    (target : Target) (place : ℕ) (proof : SectionOf) → get_or out place None ≡ Some proof
    → proof.target ≡ target → (marks : AreMarksBut boards out bundle)
    → HasSection marks.whole target
named_out boards out bundle target place proof here of marks none =
    none_is_text (proof_for marks.whole.sections target) proof.proof none
    (ap (proof_for marks.whole.sections) (sym of) ∙ marks.sections place proof here)

-- ---- where nobody has a proof any more

pub all_settled : (boards : BoardsOf) (out : List (Option SectionOf)) (bundle : List ℕ)
    → ((place : ℕ) → get_or out place None ≡ None) → AreMarksBut boards out bundle
    → IsJudgedAs bundle boards.case boards.marks
all_settled boards out bundle empty marks = record {
  whole = marks.whole;
  is = marks.is;
  formula = marks.formula;
  tree = marks.tree;
  findings = record {
    long = marks.long ∙ ap size (sym marks.tree);
    each = λ node target at.
        elim (marks.each node target
        (subst (λ (t : SplitTree). IsTargetAt t node target) marks.tree at)) [
          | inl marked ↦ marked.0
          | inr held ↦ absurd
              (none_is_some _ held.1.2.proof (empty held.1.2.place) held.1.2.here)
        ];
  };
}
