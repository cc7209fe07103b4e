-- A judgement of a text that is handed over part by part.
use Rattle.std.specs.Prelude.{◌≡◌, ◌++◌, ℕ, zero, suc, refl, List, Option, None, Some}
use Rattle.std.specs.Coded.{Coded, code_by, coded×, coded_ℕ, coded_list, coded_option}
use Rattle.cnf_text.specs.Literal.{Literal, literal_code}
use Rattle.lrat_text.specs.Open.{proof_left}
use Rattle.lrat_binary_words.specs.Binary.{text_of}
use Rattle.hint_check.specs.Live.{Live}
use Rattle.hint_check.specs.Inner.Table.{live_code}
use Rattle.hint_check.specs.Judgement.{judged_from}
use Rattle.hint_check.specs.declared.Judged.{Judged}
use Rattle.hint_check.specs.declared.Judged.TheVariants.{Refuted, Rejected}
use Rattle.hint_check.specs.declared.Reason.{Reason}
use Rattle.hint_check.specs.declared.Reason.TheVariants as reasons

-- a formula, and how far a judgement is: what is decided, the live clauses, the number of the step
-- that comes next, and what isn't judged yet, of a text and of the bytes of a binary proof
pub record JudgingOf : Type 0 where
  pub formula : List (List Literal)
  pub decided : Option Judged
  pub live : Live
  pub number : ℕ
  pub unread : List ℕ
  pub begun : List ℕ

-- what is said of a text from step `number` on
abbrev pub judged_left : Live → ℕ → List ℕ → Judged
judged_left live number text =
    judged_from live number (proof_left text).steps (proof_left text).blank

-- what was decided, or else this
abbrev pub decided_or : Option Judged → Judged → Judged
decided_or None other = other
decided_or (Some judged) other = judged

-- what is said of the text where this follows what was handed over
abbrev pub says : JudgingOf → List ℕ → Judged
says j rest = decided_or j.decided (judged_left j.live j.number (j.unread ++ rest))

-- what is said of a binary proof where these bytes follow those that were handed over, by the text
-- that it stands for
abbrev pub says_binary : JudgingOf → List ℕ → Judged
says_binary j rest =
    decided_or j.decided (judged_left j.live j.number (text_of (j.begun ++ rest)))

abbrev reason_number : Reason → ℕ
reason_number reasons.Unreadable = 0
reason_number reasons.Id = 1
reason_number reasons.Hint = 2
reason_number reasons.Unit = 3
reason_number reasons.Empty = 4
reason_number reasons.Group = 5
reason_number reasons.Candidate = 6
reason_number reasons.End = 7

abbrev number_reason : ℕ → Reason
number_reason zero = reasons.Unreadable
number_reason (suc zero) = reasons.Id
number_reason (suc (suc zero)) = reasons.Hint
number_reason (suc (suc (suc zero))) = reasons.Unit
number_reason (suc (suc (suc (suc zero)))) = reasons.Empty
number_reason (suc (suc (suc (suc (suc zero))))) = reasons.Group
number_reason (suc (suc (suc (suc (suc (suc zero)))))) = reasons.Candidate
number_reason (suc (suc (suc (suc (suc (suc (suc n))))))) = reasons.End

pub reason_again : (r : Reason) → number_reason (reason_number r) ≡ r
reason_again reasons.Unreadable = refl
reason_again reasons.Id = refl
reason_again reasons.Hint = refl
reason_again reasons.Unit = refl
reason_again reasons.Empty = refl
reason_again reasons.Group = refl
reason_again reasons.Candidate = refl
reason_again reasons.End = refl

abbrev reason_code : Coded Reason
reason_code = code_by ℕ coded_ℕ reason_number number_reason reason_again

abbrev judged_option : Judged → Option (ℕ × Reason)
judged_option Refuted = None
judged_option (Rejected step reason) = Some (step, reason)

abbrev option_judged : Option (ℕ × Reason) → Judged
option_judged None = Refuted
option_judged (Some rejected) = Rejected rejected.0 rejected.1

pub judged_again : (j : Judged) → option_judged (judged_option j) ≡ j
judged_again Refuted = refl
judged_again (Rejected step reason) = refl

abbrev pub judged_code : Coded Judged
judged_code =
    code_by (Option (ℕ × Reason)) (coded_option (coded× coded_ℕ reason_code)) judged_option
    option_judged judged_again

abbrev pub judging_code : Coded JudgingOf
judging_code =
    code_by
    (List (List Literal) × (Option Judged × (Live × (ℕ × (List ℕ × List ℕ)))))
    (coded× (coded_list (coded_list literal_code)) (coded× (coded_option judged_code)
    (coded× live_code (coded× coded_ℕ (coded× (coded_list coded_ℕ) (coded_list coded_ℕ))))))
    (λ j. (j.formula, (j.decided, (j.live, (j.number, (j.unread, j.begun))))))
    (λ p. record {
      formula = p.0;
      decided = p.1.0;
      live = p.1.1.0;
      number = p.1.1.1.0;
      unread = p.1.1.1.1.0;
      begun = p.1.1.1.1.1;
    }) (λ _. refl)
