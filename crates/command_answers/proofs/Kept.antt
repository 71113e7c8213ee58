-- What is kept of an input decides what is said of it.
use Rattle.std.proofs.Common.{◌≡◌, ℕ, zero, suc, ◌+◌, ◌-◌, ◌<◌, ◌≤◌, ◌⊎◌, inl, inr, List, length, take, drop, get_or, Bool, Option, Some, None, Result, Ok, Err, IfSome, sym, ap, ◌∙◌, subst, refl, arith}
use Rattle.std.proofs.lemmas.Bool.{cases_order}
use Rattle.std.proofs.lemmas.List.{take_all, length-take-le, length-drop, take-take, get_or-take}
use Rattle.litmus_grammar.specs.Texts as tests
use Rattle.litmus_grammar.specs.Texts.{IsTestFault}
use Rattle.litmus_tokens.specs.declared.rule.LitmusRule.{LitmusRule}
use Rattle.cat_grammar.specs.declared.form.Form.TheVariants.{Model}
use Rattle.cat_tokens.specs.declared.rule.CatRule.{CatRule}
use Rattle.cat_grammar.specs.Reads as models
use Rattle.cat_grammar.specs.Reads.{FaultAt}
use Rattle.command_line.specs.declared.fault.SessionFault.{SessionFault}
use Rattle.command_line.specs.declared.fault.SessionFault.TheVariants as faults
use Rattle.command_answers.specs.Answer.{IsModelRefused, IsTestRefused, IsEvalAnswer, IsEvaluated, RefusesModel, RefusesTest, AreAnsweredAlike, IsEvalWritten, IsStreamed}
use Rattle.command_answers.specs.Cut.{IsDotLine, HasNoDotLine, IsCutAt, IsInputCut}
use Rattle.command_answers.proofs.Answering.{streamed}

-- ---- texts that are too long

test_fault : (test whole : List ℕ) (rule : LitmusRule) (offset : ℕ) → 65536 < length test
    → 65536 < length whole → IsTestFault test rule offset → IsTestFault whole rule offset
test_fault test whole rule offset long more (tests.IsTooLong h r p) = tests.IsTooLong more r p
test_fault test whole rule offset long more (tests.IsGrammar short f) = absurd (omega arith)
test_fault test whole rule offset long more (tests.IsLater short f) = absurd (omega arith)

test_refused : (test whole : List ℕ) (rule : LitmusRule) (offset : ℕ) → 65536 < length test
    → 65536 < length whole → IsTestRefused test rule offset → IsTestRefused whole rule offset
test_refused test whole rule offset long more h =
    record { unread = λ v r. let short = r.short in omega arith; fault = test_fault test whole rule offset long more h.fault }

model_fault : (model whole : List ℕ) (rule : CatRule) (offset : ℕ) → 65536 < length model
    → 65536 < length whole → FaultAt Model model rule offset → FaultAt Model whole rule offset
model_fault model whole rule offset long more (models.IsLong h r p) = models.IsLong more r p
model_fault model whole rule offset long more (models.InText short f) = absurd (omega arith)

model_refused : (model whole : List ℕ) (rule : CatRule) (offset : ℕ) → 65536 < length model
    → 65536 < length whole → IsModelRefused model rule offset → IsModelRefused whole rule offset
model_refused model whole rule offset long more h =
    record { unread = λ v r. let short = r.short in omega arith; fault = model_fault model whole rule offset long more h.fault }

-- two models that are both too long, with any tests
long_models : (model test m t : List ℕ) → 65536 < length model → 65536 < length m
    → AreAnsweredAlike model test m t
long_models model test m t long more text refused (IsEvaluated e log) =
    let short = log.model_read.short in absurd (omega arith)
long_models model test m t long more text refused (RefusesModel e rule offset fault line) =
    RefusesModel e rule offset (model_refused model m rule offset long more fault) line
long_models model test m t long more text refused (RefusesTest e rule offset (v, read) fault line) =
    let short = read.short in absurd (omega arith)

-- one model, and two tests that are both too long
long_tests : (model test t : List ℕ) → 65536 < length test → 65536 < length t
    → AreAnsweredAlike model test model t
long_tests model test t long more text refused (IsEvaluated e log) =
    let short = log.test_read.short in absurd (omega arith)
long_tests model test t long more text refused (RefusesModel e rule offset fault line) =
    RefusesModel e rule offset fault line
long_tests model test t long more text refused (RefusesTest e rule offset is_model fault line) =
    RefusesTest e rule offset is_model (test_refused test t rule offset long more fault) line

-- a prefix of a text is all of it, or both are too long
prefix_of : (n : ℕ) (whole : List ℕ) → 65536 < n
    → (take n whole ≡ whole) ⊎ ((65536 < length (take n whole)) × (65536 < length whole))
prefix_of n whole most = by_length (cases_order n (length whole))
  where
    by_length : (n ≡ length whole) ⊎ ((n < length whole) ⊎ (length whole < n))
        → (take n whole ≡ whole) ⊎ ((65536 < length (take n whole)) × (65536 < length whole))
    by_length (inl same) = inl (take_all n whole (omega arith))
    by_length (inr (inr less)) = inl (take_all n whole (omega arith))
    by_length (inr (inl more)) =
        let l = length-take-le n whole (omega arith) in inr (omega arith, omega arith)

test_prefix : (n : ℕ) (model test : List ℕ) → 65536 < n
    → AreAnsweredAlike model (take n test) model test
test_prefix n model test most = by_prefix (prefix_of n test most)
  where
    by_prefix : (take n test ≡ test) ⊎ ((65536 < length (take n test)) × (65536 < length test))
        → AreAnsweredAlike model (take n test) model test
    by_prefix (inl same) =
        λ text refused h. subst (λ (t : List ℕ). IsEvalAnswer model t text refused) same h
    by_prefix (inr (long, more)) = long_tests model (take n test) test long more

pub prefixes_decide : (n : ℕ) (model test : List ℕ) → 65536 < n
    → AreAnsweredAlike (take n model) (take n test) model test
prefixes_decide n model test most = by_prefix (prefix_of n model most)
  where
    by_prefix : (take n model ≡ model) ⊎ ((65536 < length (take n model)) × (65536 < length model))
        → AreAnsweredAlike (take n model) (take n test) model test
    by_prefix (inl same) =
        λ text refused h. test_prefix n model test most text refused (subst
        (λ (m : List ℕ). IsEvalAnswer m (take n test) text refused) same h)
    by_prefix (inr (long, more)) = long_models (take n model) (take n test) model test long more

-- ---- every input has a cut

dot_or_not : (bytes : List ℕ) (n : ℕ) → IsDotLine bytes n ⊎ (IsDotLine bytes n → ⊥)
dot_or_not bytes n = by_place (cases_order n (length bytes))
  where
    ends : n < length bytes → get_or bytes n 0 ≡ 46 → (0 < n → get_or bytes (n - 1) 0 ≡ 10)
        → (n + 1 ≡ length bytes) ⊎ ((n + 1 < length bytes) ⊎ (length bytes < n + 1))
        → (get_or bytes (n + 1) 0 ≡ 10)
        ⊎ ((get_or bytes (n + 1) 0 < 10) ⊎ (10 < get_or bytes (n + 1) 0))
        → IsDotLine bytes n ⊎ (IsDotLine bytes n → ⊥)
    ends inside dot begins offset (inl ten) =
        inl (record { inside = inside; dot = dot; begins = begins; ends = λ h. ten })
    ends inside dot begins (inl last) byte =
        inl (record {
          inside = inside;
          dot = dot;
          begins = begins;
          ends = λ h. absurd (omega arith);
        })
    ends inside dot begins (inr (inr past)) byte =
        inl (record {
          inside = inside;
          dot = dot;
          begins = begins;
          ends = λ h. absurd (omega arith);
        })
    ends inside dot begins (inr (inl more)) (inr (inl less)) =
        inr (λ d. let e = d.ends more in omega arith)
    ends inside dot begins (inr (inl more)) (inr (inr above)) =
        inr (λ d. let e = d.ends more in omega arith)

    begins : n < length bytes → get_or bytes n 0 ≡ 46 → (n ≡ 0) ⊎ ((n < 0) ⊎ (0 < n))
        → (get_or bytes (n - 1) 0 ≡ 10)
        ⊎ ((get_or bytes (n - 1) 0 < 10) ⊎ (10 < get_or bytes (n - 1) 0))
        → IsDotLine bytes n ⊎ (IsDotLine bytes n → ⊥)
    begins inside dot offset (inl ten) =
        ends inside dot (λ h. ten) (cases_order (n + 1) (length bytes))
        (cases_order (get_or bytes (n + 1) 0) 10)
    begins inside dot (inl first) byte =
        ends inside dot (λ h. absurd (omega arith)) (cases_order (n + 1) (length bytes))
        (cases_order (get_or bytes (n + 1) 0) 10)
    begins inside dot (inr (inl none)) byte = absurd (omega arith)
    begins inside dot (inr (inr later)) (inr (inl less)) =
        inr (λ d. let e = d.begins later in omega arith)
    begins inside dot (inr (inr later)) (inr (inr above)) =
        inr (λ d. let e = d.begins later in omega arith)

    by_byte : n < length bytes
        → (get_or bytes n 0 ≡ 46) ⊎ ((get_or bytes n 0 < 46) ⊎ (46 < get_or bytes n 0))
        → IsDotLine bytes n ⊎ (IsDotLine bytes n → ⊥)
    by_byte inside (inl dot) =
        begins inside dot (cases_order n 0) (cases_order (get_or bytes (n - 1) 0) 10)
    by_byte inside (inr (inl less)) = inr (λ d. let e = d.dot in omega arith)
    by_byte inside (inr (inr above)) = inr (λ d. let e = d.dot in omega arith)

    by_place : (n ≡ length bytes) ⊎ ((n < length bytes) ⊎ (length bytes < n))
        → IsDotLine bytes n ⊎ (IsDotLine bytes n → ⊥)
    by_place (inl end) = inr (λ d. let e = d.inside in omega arith)
    by_place (inr (inr past)) = inr (λ d. let e = d.inside in omega arith)
    by_place (inr (inl inside)) = by_byte inside (cases_order (get_or bytes n 0) 46)

-- the first line of a full stop that begins before this offset, or none
abbrev FirstBefore : List ℕ → ℕ → Type 0
FirstBefore bytes n =
    ((i : ℕ) × (i < n) × IsDotLine bytes i × HasNoDotLine bytes i) ⊎ HasNoDotLine bytes n

none_after : (bytes : List ℕ) (n : ℕ) → HasNoDotLine bytes n → (IsDotLine bytes n → ⊥)
    → HasNoDotLine bytes (suc n)
none_after bytes n none here j before d = by_place (cases_order j n)
  where
    by_place : (j ≡ n) ⊎ ((j < n) ⊎ (n < j)) → ⊥
    by_place (inl same) = here (subst (λ (k : ℕ). IsDotLine bytes k) same d)
    by_place (inr (inl less)) = none j less d
    by_place (inr (inr more)) = omega arith

first_before : (bytes : List ℕ) (n : ℕ) → FirstBefore bytes n
first_before bytes zero = inr (λ j h d. omega arith)
first_before bytes (suc n) = go_on (first_before bytes n)
  where
    at_end : HasNoDotLine bytes n → (IsDotLine bytes n ⊎ (IsDotLine bytes n → ⊥))
        → FirstBefore bytes (suc n)
    at_end none (inl here) = inl (n, omega arith, here, none)
    at_end none (inr absent) = inr (none_after bytes n none absent)

    go_on : FirstBefore bytes n → FirstBefore bytes (suc n)
    go_on (inl (i, h, here, none)) = inl (i, omega arith, here, none)
    go_on (inr none) = at_end none (dot_or_not bytes n)

-- ---- the first bytes of an input

-- where no such line begins among the first bytes, the model is too long
record LongCut (bytes : List ℕ) : Type 0 where
  model : List ℕ
  test : List ℕ
  cut : IsInputCut bytes model test
  long : 65536 < length model

long_cut : (bytes : List ℕ) → 65536 < length bytes → HasNoDotLine bytes 65537 → LongCut bytes
long_cut bytes many none = by_first (first_before bytes (length bytes))
  where
    by_first : FirstBefore bytes (length bytes) → LongCut bytes
    by_first (inr absent) =
        record {
          model = bytes;
          test = _;
          cut = inr (record { none = absent; whole = refl; empty = refl });
          long = many;
        }
    by_first (inl (i, h, here, first)) =
        let behind : 65536 < i = by_order (cases_order i 65537) in
        let l = length-take-le i bytes (omega arith) in
        record { model = take i bytes; test = drop (i + 2) bytes; cut = inl (i, record { here = here; first = first; before = refl; after = refl }); long = omega arith }
      where
        by_order : (i ≡ 65537) ⊎ ((i < 65537) ⊎ (65537 < i)) → 65536 < i
        by_order (inl same) = omega arith
        by_order (inr (inl less)) = absurd (none i less here)
        by_order (inr (inr more)) = omega arith

-- a line of a full stop in a prefix that ends behind it, and in the whole
dot_in_whole : (n : ℕ) (all : List ℕ) (i : ℕ) → n < length all → i + 1 < n
    → IsDotLine (take n all) i → IsDotLine all i
dot_in_whole n all i more inside d =
    record {
      inside = omega arith;
      dot = sym (get_or-take n all i 0 (omega arith)) ∙ d.dot;
      begins = λ h. sym (get_or-take n all (i - 1) 0 (omega arith)) ∙ d.begins h;
      ends =
          λ h. sym (get_or-take n all (i + 1) 0 inside)
          ∙ d.ends (let l = length-take-le n all (omega arith) in omega arith);
    }

dot_in_front : (n : ℕ) (all : List ℕ) (i : ℕ) → n < length all → i + 1 < n → IsDotLine all i
    → IsDotLine (take n all) i
dot_in_front n all i more inside d =
    record {
      inside = let l = length-take-le n all (omega arith) in omega arith;
      dot = get_or-take n all i 0 (omega arith) ∙ d.dot;
      begins = λ h. get_or-take n all (i - 1) 0 (omega arith) ∙ d.begins h;
      ends = λ h. get_or-take n all (i + 1) 0 inside ∙ d.ends (omega arith);
    }

-- the cut of an input of which a cut of its first bytes says all
record Decided (all model test : List ℕ) : Type 0 where
  m : List ℕ
  t : List ℕ
  cut : IsInputCut all m t
  alike : AreAnsweredAlike model test m t

decided : (all model test : List ℕ) → IsInputCut (take 131075 all) model test → Decided all model test
decided all model test h = by_length (cases_order 131075 (length all))
  where
    whole : length all ≤ 131075 → Decided all model test
    whole few =
        record {
          m = model;
          t = test;
          cut = subst (λ (l : List ℕ). IsInputCut l model test) (take_all 131075 all few) h;
          alike = λ text refused a. a;
        }

    prefix : 131075 < length all → Decided all model test
    prefix many = by_cut h
      where
        full : length (take 131075 all) ≡ 131075
        full = length-take-le 131075 all (omega arith)

        too_long : 65536 < length model → HasNoDotLine (take 131075 all) 65537
            → Decided all model test
        too_long long none =
            let l = long_cut all (omega arith) (λ j before d. none j before (dot_in_front 131075 all j many (omega arith) d)) in
            record { m = l.model; t = l.test; cut = l.cut; alike = long_models model test l.model l.test long l.long }

        near : (i : ℕ) → i ≤ 65536 → IsCutAt (take 131075 all) model test i → Decided all model test
        near i low at_i =
            let same_model : model ≡ take i all = at_i.before ∙ take-take i 131075 all (omega arith) in
            let same_test : test ≡ drop (i + 2) (take 131075 all) = at_i.after in
            let length_kept = length-drop (i + 2) (take 131075 all) in
            let length_test = ap (λ (l : List ℕ). length l) same_test in
            let length_whole = length-drop (i + 2) all in
            let is_full = full in
            let cut_here : IsCutAt all model (drop (i + 2) all) i = record { here = dot_in_whole 131075 all i many (omega arith) at_i.here; first = λ j before d. at_i.first j before (dot_in_front 131075 all j many (omega arith) d); before = same_model; after = refl } in
            record { m = model; t = drop (i + 2) all; cut = inl (i, cut_here); alike = long_tests model test (drop (i + 2) all) (omega arith) (omega arith) }

        far : (i : ℕ) → 65536 < i → IsCutAt (take 131075 all) model test i → Decided all model test
        far i high at_i =
            let inside = at_i.here.inside in
            let length_kept = length-take-le i (take 131075 all) (omega arith) in
            let length_model = ap (λ (l : List ℕ). length l) at_i.before in
            too_long (omega arith) (λ j before d. at_i.first j (omega arith) d)

        by_order : (i : ℕ) → IsCutAt (take 131075 all) model test i
            → (i ≡ 65536) ⊎ ((i < 65536) ⊎ (65536 < i)) → Decided all model test
        by_order i at_i (inl same) = near i (omega arith) at_i
        by_order i at_i (inr (inl less)) = near i (omega arith) at_i
        by_order i at_i (inr (inr more)) = far i more at_i

        by_cut : IsInputCut (take 131075 all) model test → Decided all model test
        by_cut (inl (i, at_i)) = by_order i at_i (cases_order i 65536)
        by_cut (inr uncut) =
            let is_full = full in
            let length_model = ap (λ (l : List ℕ). length l) uncut.whole in
            too_long (omega arith) (λ j before d. uncut.none j (omega arith) d)

    by_length : (131075 ≡ length all) ⊎ ((131075 < length all) ⊎ (length all < 131075))
        → Decided all model test
    by_length (inl same) = whole (omega arith)
    by_length (inr (inl many)) = prefix many
    by_length (inr (inr few)) = whole (omega arith)

-- ---- what is written

written_alike : (model test m t : List ℕ) (old new : Option (List ℕ)) (r : Result Bool SessionFault)
    → AreAnsweredAlike model test m t → IsEvalWritten model test old new r → IsEvalWritten m t old new r
written_alike model test m t old new (Ok refused) alike (text, answer, appended) =
    (text, alike text refused answer, appended)
written_alike model test m t old new (Err faults.Write) alike (text, refused, answer, prefix) =
    (text, refused, alike text refused answer, prefix)
written_alike model test m t old new (Err faults.Read) alike h = h
written_alike model test m t old new (Err faults.Memory) alike h = h
written_alike model test m t old new (Err faults.Shared) alike h = h

-- the answer to the cut of the first bytes that were left is that to the cut of all
pub streamed_prefix : (left old new : Option (List ℕ)) (r : Result Bool SessionFault)
    (kept model test : List ℕ) → IfSome left (λ all. kept ≡ take 131075 all)
    → IsInputCut kept model test → IsEvalWritten model test old new r → IsStreamed left old new r
streamed_prefix None old new r kept model test prefix cut h = streamed None old new r model test tt h
streamed_prefix (Some all) old new r kept model test prefix cut h =
    let d = decided all model test (subst (λ (l : List ℕ). IsInputCut l model test) prefix cut) in
    streamed (Some all) old new r d.m d.t d.cut
    (written_alike model test d.m d.t old new r d.alike h)
