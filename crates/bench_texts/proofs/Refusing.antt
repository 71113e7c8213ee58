-- Refusals by the limits.
use Rattle.std.proofs.lemmas.Grind.{common_steps}
use Rattle.std.proofs.Common.{arith, refl, ℕ, ◌≤◌, ◌^◌, nat_lt, None, ◌≡◌, ◌⊎◌, inl, inr, Bool, true, false, ◌||◌, Some, None, Result, Ok, Err, IfOk, if◌then◌else◌, sym, ap, subst, ◌∙◌}
use Rattle.std.specs.declared.alloc.AllocError.{AllocError}
use Rattle.bench_texts.specs.declared.fault.EditFault.{EditFault}
use Rattle.bench_texts.specs.declared.fault.EditFault.TheVariants as faults
use Rattle.bench_texts.specs.BenchTexts.{BenchTexts}
use Rattle.bench_texts.specs.Limits.{is_full, is_spent}
use Rattle.bench_texts.specs.declared.change.Change.{Change}
use Rattle.bench_texts.specs.declared.texts.Texts.{Texts}
use Rattle.bench_texts.specs.Changes.{changed_texts, IsChangeReady}
use Rattle.bench_texts.specs.Edits.{Edit, missing_fault, EditMakes, limit_fault, Applies, RefusesEdit, IsWanting, has_text}
use Rattle.bench_texts.specs.Answers.{Answers, IsChangeBy, IsLimited}

-- a fault of the limits is one of two
refused_so : (full spent : Bool) (f : EditFault)
    → (if full then Some faults.Full else (if spent then Some faults.Spent else None)) ≡ Some f
    → (f ≡ faults.Full) ⊎ (f ≡ faults.Spent)
refused_so true spent f e = inl cc
refused_so false true f e = inr cc
refused_so false false f e = cc

pub refused_by_limit : (t new : BenchTexts) (spent : Bool) (e : Edit) (f : EditFault)
    → missing_fault t e ≡ None → EditMakes t e new → limit_fault t spent new ≡ Some f → RefusesEdit t spent e f
refused_by_limit t new spent e f there makes limit =
    elim (refused_so (is_full new) (spent || is_spent t) f limit) [
      | inl h ↦ subst (λ g. RefusesEdit t spent e g) (sym h) (
        there,
        record { new = new; makes = makes; limit = limit ∙ ap Some h },
      )
      | inr h ↦ subst (λ g. RefusesEdit t spent e g) (sym h) (
        there,
        record { new = new; makes = makes; limit = limit ∙ ap Some h },
      )
    ]

-- where an edit is accepted, memory may be wanted for it
wanting : (t new : BenchTexts) (spent : Bool) (e : Edit) (reads : Bool) → Applies t spent e new
    → IsWanting t spent e reads
wanting t new spent e true a = tt
wanting t new spent e false a = (new, a)

pub is_all_there : (t new : BenchTexts) (spent : Bool) (e : Edit) → Applies t spent e new
    → missing_fault t e ≡ None
is_all_there t new spent e a = a.all_there

pub is_wanting : (t new : BenchTexts) (spent : Bool) (e : Edit) → Applies t spent e new
    → IsWanting t spent e (has_text e)
is_wanting t new spent e a = wanting t new spent e (has_text e) a

pub wants_memory : (t new : BenchTexts) (spent : Bool) (e : Edit) (error : AllocError)
    → Applies t spent e new → RefusesEdit t spent e (faults.OutOfMemory error)
wants_memory t new spent e error a = (a.all_there, is_wanting t new spent e a)

pub limited_answers : (t : BenchTexts) (spent : Bool) (e : Edit) (change : Change)
    (r : Result Change EditFault) → missing_fault t e ≡ None → EditMakes t e (changed_texts change t)
    → IsChangeBy t e change → IsLimited t spent change (changed_texts change t) r
    → Answers t spent e r
limited_answers t spent e change (Ok c) there makes by l =
    subst (λ d. Applies t spent e (changed_texts d t) × IsChangeBy t e d) (sym l.0)
    (record { all_there = there; makes = makes; within = l.1 }, by)
limited_answers t spent e change (Err f) there makes by l =
    refused_by_limit t (changed_texts change t) spent e f there makes l

pub limited_ready : (t : BenchTexts) (texts : Texts) (spent : Bool) (change : Change)
    (new : BenchTexts) (r : Result Change EditFault) → IsChangeReady texts change
    → IsLimited t spent change new r → IfOk r (IsChangeReady texts)
limited_ready t texts spent change new (Ok c) ready l = subst (IsChangeReady texts) (sym l.0) ready
limited_ready t texts spent change new (Err f) ready l = tt

pub limited_is : (t : BenchTexts) (spent : Bool) (change : Change) (new : BenchTexts)
    (r : Result Change EditFault) → IsLimited t spent change new r → IfOk r (λ c. c ≡ change)
limited_is t spent change new (Ok c) l = l.0
limited_is t spent change new (Err f) l = tt

-- where what is asked holds of texts within the limits
pub limited_ready_within : (t : BenchTexts) (texts : Texts) (spent : Bool) (change : Change)
    (new : BenchTexts) (r : Result Change EditFault)
    → (limit_fault t spent new ≡ None → IsChangeReady texts change) → IsLimited t spent change new r
    → IfOk r (IsChangeReady texts)
limited_ready_within t texts spent change new (Ok c) ready l =
    subst (IsChangeReady texts) (sym l.0) (ready l.1)
limited_ready_within t texts spent change new (Err f) ready l = tt

-- texts within the limits have item numbers left
unspent_by : (b : Bool) (n : ℕ) → nat_lt (2 ^ 63) n ≡ b
    → (if b then Some faults.Spent else None) ≡ None → n ≤ 2 ^ 63
unspent_by true n s e = cc
unspent_by false n s e = grind (arith, common_steps)

unspent_so : (full spent : Bool) (n : ℕ)
    → (if full then Some faults.Full
    else (if spent || nat_lt (2 ^ 63) n then Some faults.Spent else None)) ≡ None
    → n ≤ 2 ^ 63
unspent_so true spent n e = cc
unspent_so false true n e = cc
unspent_so false false n e = unspent_by (nat_lt (2 ^ 63) n) n refl e

pub unspent : (t new : BenchTexts) (spent : Bool) → limit_fault t spent new ≡ None → t.next ≤ 2 ^ 63
unspent t new spent e = unspent_so (is_full new) spent t.next e
