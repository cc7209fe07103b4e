-- What a worker has seen after it posted the finding of a target's proof.
use Rattle.std.proofs.Common.{◌≡◌, ℕ, List, [], ◌∷◌, ◌++◌, Option, None, Some, Bool}
use Rattle.std.proofs.Common.{sym, ap, All, ◌∙◌, subst, ◌+◌, ◌≤◌, arith, inl, inr}
use Rattle.std.proofs.Common.{Result, Ok, Err, IfOk, IfErr, OnOk}
use Rattle.std.specs.Prelude.{IfSome, option_map}
use Rattle.std.proofs.lemmas.List.Elements.{All-push, All-weaker}
use Rattle.case_core.specs.Leaves.{IsTargetAt}
use Rattle.case_core.specs.Target.{Target}
use Rattle.case_core.specs.Judged.{Judged}
use Rattle.case_core.specs.Bundle.{labels_of}
use Rattle.case_core.specs.Case.{CaseOf, proof_for}
use Rattle.case_core.specs.Finding.{IsFoundBy}
use Rattle.board_hall.specs.declared.view.CutCase.{CutCase}
use Rattle.board_hall.specs.declared.view.View.{View}
use Rattle.board_hall.specs.Clauses.{Stays}
use Rattle.byte_flow.specs.Device.{IsDeviceFault, IsLeft}
use Rattle.byte_flow.specs.declared.fault.DeviceFault.{DeviceFault}
use Rattle.case_core.specs.Reading.{IsReadProof}
use Rattle.case_core.specs.declared.examiner.ReadProof.{ReadProof}
use Rattle.case_core.specs.declared.examiner.ReadProof.TheVariants.{Found as FoundBy, Labelled}
use Rattle.case_core.specs.Form.{text_in_form}
use Rattle.case_core.specs.ProofForm.{ProofForm}
use Rattle.proof_folder.specs.TargetProofs.{IsGiven, IsLeftOf, IsOpenedOf}
use Rattle.check_crew.specs.Examined.{HasSeenAs, IsFoundAt}
use Rattle.proof_folder.specs.TargetProofs.{Known, left_text, text_by}
use Rattle.check_crew.specs.Examined.{IsExamined}
use Rattle.check_crew.specs.Inner.Apart.{IsFoundOf, found_in}
use Rattle.check_crew.specs.declared.targets.ExaminedTarget.{ExaminedTarget}
use Rattle.check_crew.specs.declared.targets.Examined.{Examined}
use Rattle.check_crew.specs.declared.targets.Examined.TheVariants.{Absent, Found, Other}
use Rattle.check_crew.specs.Seen.{HasSeenMark}
use Rattle.check_crew.proofs.SeenPosted.{mark_stays}

-- the text of what was read to its end is what is known to lie there
left_given : (turned : List ℕ → List ℕ) (known : Option (Option (List ℕ)))
    (left : Option (List ℕ)) (bytes : List ℕ) → IsLeftOf known (option_map turned left) →
    IsLeft left bytes → IsGiven known (Some (turned bytes))
left_given turned None left bytes of is = tt
left_given turned (Some lies) None bytes of is = absurd (cc of.2)
left_given turned (Some lies) (Some all) bytes of is =
    ap (λ (b : List ℕ). Some (turned b)) is ∙ of.2 ∙ sym of.1

-- what was found by it is found by what is known to lie there
pub found_given : (result : Result ReadProof DeviceFault) (known : Option (Option (List ℕ)))
    (left : Option (List ℕ)) (case : CaseOf) (target : Target) (binary : Bool) (form : ProofForm)
    → ((bytes : List ℕ) → text_in_form form bytes ≡ text_by binary bytes)
    → IsLeftOf known (left_text binary left)
    → IfOk result (λ proof. (bytes : List ℕ) × IsLeft left bytes
    × IsReadProof case target form bytes proof)
    → IfOk (found_in result) (λ some. IfSome some (λ read. IsFoundOf known case target read))
found_given (Err fault) known left case target binary form opened of read = tt
found_given (Ok (Labelled label)) known left case target binary form opened of read = tt
found_given (Ok (FoundBy found)) known left case target binary form opened of read =
    let is = read.2 in record {
      of_case = is.0;
      of_target = is.1;
      text = text_in_form form read.0;
      given =
          subst (λ (text : List ℕ). IsGiven known (Some text)) (sym (opened read.0))
          (left_given (text_by binary) known left read.0 of read.1);
      plain = is.2;
      found = is.4;
    }

-- and its calls have failed as they did
pub ok_in : (result : Result ReadProof DeviceFault) (So : Type 0) → OnOk result So →
    OnOk (found_in result) So
ok_in (Err fault) So is = tt
ok_in (Ok (Labelled label)) So is = is
ok_in (Ok (FoundBy found)) So is = is

pub err_in : (result : Result ReadProof DeviceFault) (So : DeviceFault → Type 0) →
    IfErr result So → IfErr (found_in result) So
err_in (Err fault) So is = is
err_in (Ok (Labelled label)) So is = tt
err_in (Ok (FoundBy found)) So is = tt

-- of a target for which nothing was opened there is none
pub none_opened : {T : Type 0} (known : Option (Option (List ℕ))) (left : T → Option (List ℕ))
    (found : Option T) → IsOpenedOf known left found → found ≡ None → IsGiven known None
none_opened known left None is none = is
none_opened known left (Some one) is none = absurd (cc)

-- how many of its reads have failed
pub failed_reads : {T : Type 0} (result : Result T DeviceFault) (before failed : ℕ) →
    OnOk result (failed ≡ 0) → IfErr result (λ fault. IsDeviceFault 0 failed fault) →
    (failed ≤ 1) × OnOk result (before + failed ≡ before)
    × IfErr result (λ fault. IsDeviceFault before (before + failed) fault)
failed_reads (Ok value) before failed ok err = (rw ok (omega arith), rw ok (omega arith), tt)
failed_reads (Err fault) before failed ok (inl memory) =
    (rw memory.1 (omega arith), tt, inl (memory.0, rw memory.1 (omega arith)))
failed_reads (Err fault) before failed ok (inr device) =
    (rw device.1 (omega arith), tt, inr (device.0, rw device.1 (omega arith)))

-- what was seen of a target stays seen
pub as_stays : (before after : View) (target : Target) (judged : Judged) → Stays before after →
    HasSeenAs before target judged → HasSeenAs after target judged
as_stays before after target judged stays seen = record {
  node = seen.node;
  here = rw stays.of_same seen.here;
  mark = mark_stays before after seen.node judged stays seen.mark;
}

-- a mark that was seen at a target's node
pub seen_as : (k : CutCase) (v : View) (node : ℕ) (target : Target) (judged : Judged) → v.of ≡ k →
    IsTargetAt k.case.tree node target → HasSeenMark v node judged → HasSeenAs v target judged
seen_as k v node target judged same here seen = record {
  node = node;
  here = rw same here;
  mark = seen;
}

-- what was found of the target's proof
pub found_at : (known : Option (Option (List ℕ))) (k : CutCase) (case : CaseOf) (v : View)
    (target : Target) (judged : Judged) (text : List ℕ) → v.of ≡ k → case ≡ k.case →
    IsGiven known (Some text) → labels_of text ≡ [] → proof_for case.sections target ≡ None
    → IsFoundBy case target text judged → HasSeenAs v target judged →
    IsFoundAt known v target judged
found_at known k case v target judged text same of given plain free found seen =
    let there : case ≡ v.of.case = of ∙ ap (λ (c : CutCase). c.case) (sym same) in record {
      text = text;
      given = given;
      plain = plain;
      free = subst (λ (c : CaseOf). proof_for c.sections target ≡ None) there free;
      found = subst (λ (c : CaseOf). IsFoundBy c target text judged) there found;
      seen = seen;
    }

-- what was found of a target stays so
pub examined_stays : (known : Option (Option (List ℕ))) (before after : View) (target : Target)
    (examined : Examined) → Stays before after → IsExamined known before target examined →
    IsExamined known after target examined
examined_stays known before after target Absent stays is = is
examined_stays known before after target (Found judged) stays is =
    let of : before.of.case ≡ after.of.case = ap (λ (c : CutCase). c.case) (sym stays.of_same) in
    record {
      text = is.text;
      given = is.given;
      plain = is.plain;
      free = subst (λ (c : CaseOf). proof_for c.sections target ≡ None) of is.free;
      found = subst (λ (c : CaseOf). IsFoundBy c target is.text judged) of is.found;
      seen = as_stays before after target judged stays is.seen;
    }
examined_stays known before after target Other stays is = is

-- so it is of each of a list
pub all_examined_stay : (known : Known) (before after : View) (list : List ExaminedTarget) →
    Stays before after
    → All (λ one. IsExamined (known one.target) before one.target one.examined) list
    → All (λ one. IsExamined (known one.target) after one.target one.examined) list
all_examined_stay known before after list stays =
    All-weaker (λ one. IsExamined (known one.target) before one.target one.examined)
    (λ one. IsExamined (known one.target) after one.target one.examined)
    (λ one. examined_stays (known one.target) before after one.target one.examined stays) list

-- and of one target more
pub examined_more : (known : Known) (before after : View) (list : List ExaminedTarget)
    (next : ExaminedTarget) → Stays before after
    → All (λ one. IsExamined (known one.target) before one.target one.examined) list
    → IsExamined (known next.target) after next.target next.examined
    → All (λ one. IsExamined (known one.target) after one.target one.examined) (list ++ next ∷ [])
examined_more known before after list next stays were is =
    All-push (λ one. IsExamined (known one.target) after one.target one.examined) list next
    (all_examined_stay known before after list stays were) is
