-- What is written of the same bytes is one.
use Rattle.std.proofs.Common.{◌≡◌, ℕ, ◌+◌, ◌<◌, ◌⊎◌, inl, inr, List, ◌++◌, take, drop, take-append-drop, Bool, Option, Some, None, refl, sym, ap, ◌∙◌, subst, append_assoc}
use Rattle.std.proofs.lemmas.Bool.{cases_order}
use Rattle.std.specs.Io.KnownBytes.{Appends}
use Rattle.command_answers.specs.Answer.{IsEvalAnswer, IsEvalWritten, IsStreamed}
use Rattle.command_answers.specs.Cut.{IsCutAt, IsInputCut}
use Rattle.session_script.specs.Written.{WritesPrefix}
use Rattle.session_laws.specs.Answers.{LeaveOne, LeavePrefixes}
use Rattle.session_laws.proofs.TextAnswers.{one_answer}

-- ---- cuts

-- the texts before and after the cut
record AreTexts (model other test also : List ℕ) : Type 0 where
  models : model ≡ other
  tests : test ≡ also

one_place : (bytes model other test also : List ℕ) (i j : ℕ) → IsCutAt bytes model test i
    → IsCutAt bytes other also j → (i ≡ j) ⊎ ((i < j) ⊎ (j < i))
    → AreTexts model other test also
one_place bytes model other test also i j h g (inl same) =
    record {
      models = h.before ∙ ap (λ (k : ℕ). take k bytes) same ∙ sym g.before;
      tests = h.after ∙ ap (λ (k : ℕ). drop (k + 2) bytes) same ∙ sym g.after;
    }
one_place bytes model other test also i j h g (inr (inl less)) = absurd (g.first i less h.here)
one_place bytes model other test also i j h g (inr (inr more)) = absurd (h.first j more g.here)

one_cut : (bytes model other test also : List ℕ) → IsInputCut bytes model test → IsInputCut bytes other also
    → AreTexts model other test also
one_cut bytes model other test also (inl (i, h)) (inl (j, g)) =
    one_place bytes model other test also i j h g (cases_order i j)
one_cut bytes model other test also (inl (i, h)) (inr g) = absurd (g.none i h.here.inside h.here)
one_cut bytes model other test also (inr h) (inl (j, g)) = absurd (h.none j g.here.inside g.here)
one_cut bytes model other test also (inr h) (inr g) =
    record { models = h.whole ∙ sym g.whole; tests = h.empty ∙ sym g.empty }

-- ---- bytes behind bytes

appended : (old text more : List ℕ) (new other : Option (List ℕ)) → text ≡ more
    → Appends (Some old) new text → Appends (Some old) other more → new ≡ other
appended old text more None other e h g = absurd h
appended old text more (Some x) None e h g = absurd g
appended old text more (Some x) (Some y) e h g =
    let one : x ≡ y = h ∙ ap (λ (l : List ℕ). old ++ l) e ∙ sym g in λ i. Some (one i)

-- what is written is what stands there, and the rest
goes_on : (old text more x y : List ℕ) (n : ℕ) → text ≡ more → x ≡ old ++ take n text
    → y ≡ old ++ more → y ≡ x ++ drop n text
goes_on old text more x y n e h g =
    g ∙ ap (λ (l : List ℕ). old ++ l) (sym e ∙ sym (take-append-drop n text))
    ∙ sym (append_assoc old (take n text) (drop n text))
    ∙ ap (λ (l : List ℕ). l ++ drop n text) (sym h)

-- the prefix, and what is written behind it
record IsStop (new other : Option (List ℕ)) : Type 0 where
  prefix : List ℕ
  rest : List ℕ
  here : new ≡ Some prefix
  whole : other ≡ Some (prefix ++ rest)

stopped : (old text more : List ℕ) (new other : Option (List ℕ)) → text ≡ more
    → WritesPrefix (Some old) new text → Appends (Some old) other more → IsStop new other
stopped old text more None other e h g = absurd h.2
stopped old text more (Some x) None e h g = absurd g
stopped old text more (Some x) (Some y) e h g =
    let all = goes_on old text more x y h.0 e h.2 g in
    record { prefix = x; rest = drop h.0 text; here = refl; whole = (λ i. Some (all i)) }

-- ---- what is written

pub one_writing : (model test written : List ℕ) → LeaveOne (IsEvalWritten model test (Some written))
one_writing model test written new other refused also h g =
    let one = one_answer model test h.0 g.0 refused also h.1 g.1 in
    (appended written h.0 g.0 new other one.0 h.2 g.2, one.1)

moved : (model other test more text : List ℕ) (refused : Bool) → AreTexts model other test more
    → IsEvalAnswer other more text refused → IsEvalAnswer model test text refused
moved model other test more text refused same h =
    subst (λ (m : List ℕ). IsEvalAnswer m test text refused) (sym same.models)
    (subst (λ (t : List ℕ). IsEvalAnswer other t text refused) (sym same.tests) h)

-- of texts that are one, the answers are one
one_answer_moved : (model other test more text told : List ℕ) (refused also : Bool)
    → AreTexts model other test more → IsEvalAnswer model test text refused
    → IsEvalAnswer other more told also → (text ≡ told) × (refused ≡ also)
one_answer_moved model other test more text told refused also same h g =
    one_answer model test text told refused also h (moved model other test more told also same g)

pub one_stream : (input written : List ℕ) → LeaveOne (IsStreamed (Some input) (Some written))
one_stream input written new other refused also h g =
    let same = one_cut input h.model g.model h.test g.test h.cut g.cut in
    let one = one_answer_moved _ _ _ _ _ _ _ _ same h.written.1 g.written.1 in
    (appended written h.written.0 g.written.0 new other one.0 h.written.2 g.written.2, one.1)

pub prefixes_of_writing : (model test written : List ℕ)
    → LeavePrefixes (IsEvalWritten model test (Some written))
prefixes_of_writing model test written new other refused h g =
    let one = one_answer model test _ _ _ _ h.2 g.1 in
    let stop = stopped written _ _ new other one.0 h.3 g.2 in
    (stop.prefix, stop.rest, stop.here, stop.whole)

pub prefixes_of_stream : (input written : List ℕ)
    → LeavePrefixes (IsStreamed (Some input) (Some written))
prefixes_of_stream input written new other refused h g =
    let same = one_cut input h.model g.model h.test g.test h.cut g.cut in
    let one = one_answer_moved _ _ _ _ _ _ _ _ same h.written.2 g.written.1 in
    let stop = stopped written _ _ new other one.0 h.written.3 g.written.2 in
    (stop.prefix, stop.rest, stop.here, stop.whole)
