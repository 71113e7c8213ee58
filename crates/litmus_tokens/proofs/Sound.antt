-- Tokens that the machine takes are spelled by a tree.
use Rattle.std.proofs.Common.{◌≡◌, ℕ, ◌+◌, ◌<◌, ◌≤◌, Bool, true, false, List, [], ◌∷◌, Option, Some, None, refl, sym, ap, ◌∙◌, subst, arith}
use Rattle.std.specs.Prelude.{nat_lt, codes, if◌then◌else◌}
use Rattle.std.specs.Str.{bytes_eq}
use Rattle.std.proofs.lemmas.Slice.Eq.{bytes_eq-Decides}
use Rattle.std.proofs.lemmas.Bool.{ltb-true}
use Rattle.text_values.specs.declared.test.Place.{Place}
use Rattle.text_values.specs.declared.test.Place.TheVariants as places
use Rattle.text_values.specs.declared.test.Value as declared_value
use Rattle.text_values.specs.declared.test.Connective.{Connective}
use Rattle.text_values.specs.declared.test.Connective.TheVariants as connectives
use Rattle.text_values.specs.TestValue.{Formula, Constant, Holds, level}
use Rattle.litmus_tokens.specs.declared.token.Token.{Token}
use Rattle.litmus_tokens.specs.declared.token.Token.TheVariants as tokens
use Rattle.litmus_tokens.specs.declared.token.Mark.TheVariants as marks
use Rattle.litmus_tokens.specs.Words.{decimal}
use Rattle.litmus_tokens.specs.declared.place.PlaceExpectation.{PlaceExpectation}
use Rattle.litmus_tokens.specs.declared.place.PlaceExpectation.TheVariants.{WantsColon}
use Rattle.litmus_tokens.specs.declared.place.PlaceStep.{PlaceStep}
use Rattle.litmus_tokens.specs.declared.place.PlaceStep.TheVariants as steps
use Rattle.litmus_tokens.specs.Conditions.{PlaceTree, Location, spelled_place, place_meaning, value_meaning, IsPlaceTree, HasThread, FormulaTree, Word, Atom, Group, constant_word, connective_token, spelled, tree_formula, tightness, IsGrouped, HasAtoms, depth, operators, Limits, IsFormulaTree, IsProposition}
use Rattle.litmus_tokens.specs.PlaceMachine.{place_step, place_of, value_read}
use Rattle.litmus_tokens.specs.ConditionMachine.{ConditionFrame, InGroup, InPrefix, ConditionExpectation, Wants, HasConstant, HasNot, InPlace, WantsEquals, WantsValue, Has, ConditionStepResult, Goes, Ends, Refuses, open_count, fold_to, condition_opened, expected_after_word, expected_after_place, in_place, place_result, operand, left_frames, joins, condition_closed, condition_ended, behind_operand, after_constant, after_not, after_place, atom_read, proposition_step, whole_at, go_on, proposition}
use Rattle.litmus_tokens.proofs.Places.{within, StepStands, place_stands, ExpectationThread, WrittenThread, StepThread, place_thread, has_thread, place_of_written, ValueStands, value_stands}
use Rattle.litmus_tokens.proofs.Branches.{Branch, BGroup, BPrefix, BLeft, frame, frames, before, need, opens, count, Fine, Stops, open_count-frames, level-le, need-le, opens-le, Folded, folded}

-- an operand is wanted here
pub record Open (most : Limits) (threads : ℕ) (whole rest : List Token) (fs : List ConditionFrame) (used : ℕ)
    : Type 0 where
  pub bs : List Branch
  pub is : frames bs ≡ fs
  pub fine : Fine most threads bs
  pub counted : count bs ≡ used
  pub short : used ≤ most.operators
  pub whole_is : whole ≡ before bs rest

-- a place was read, and then these tokens stand before the rest
pub record AtPlace (most : Limits) (threads : ℕ) (whole : List Token) (rest : List Token)
    (fs : List ConditionFrame) (used : ℕ) (p : Place) : Type 0 where
  pub tree : PlaceTree
  pub fine : IsPlaceTree tree
  pub thread : HasThread threads tree
  pub means : place_meaning tree ≡ p
  pub here : Open most threads whole (spelled_place tree rest) fs used

-- an operand was read
pub record Full (most : Limits) (threads : ℕ) (whole rest : List Token) (fs : List ConditionFrame) (used : ℕ)
    (v : Formula) : Type 0 where
  pub bs : List Branch
  pub t : FormulaTree
  pub is : frames bs ≡ fs
  pub means : tree_formula t ≡ v
  pub fine : Fine most threads bs
  pub grouped : IsGrouped t
  pub atoms : HasAtoms threads t
  pub tight : 5 ≤ tightness t
  pub shallow : opens bs + depth t ≤ most.nesting
  pub counted : count bs + operators t ≡ used
  pub short : used ≤ most.operators
  pub whole_is : whole ≡ before bs (spelled t rest)

abbrev pub Stands : Limits → ℕ → List Token → List Token → List ConditionFrame → ℕ → ConditionExpectation → Type 0
Stands most threads whole rest fs used Wants = Open most threads whole rest fs used
Stands most threads whole rest fs used (HasConstant b) =
    Open most threads whole (tokens.Word (constant_word b) ∷ rest) fs used
Stands most threads whole rest fs used HasNot =
    Open most threads whole (tokens.Word (codes "not") ∷ rest) fs used
Stands most threads whole rest fs used (InPlace expected) =
    ExpectationThread threads expected × Open most threads whole (within expected rest) fs used
Stands most threads whole rest fs used (WantsEquals p) = AtPlace most threads whole rest fs used p
Stands most threads whole rest fs used (WantsValue p) =
    AtPlace most threads whole (tokens.Mark marks.Equals ∷ rest) fs used p
Stands most threads whole rest fs used (Has v) = Full most threads whole rest fs used v

-- a proposition was read
pub record Ended (most : Limits) (threads : ℕ) (whole rest : List Token) (v : Formula)
    : Type 0 where
  pub t : FormulaTree
  pub is : IsFormulaTree most threads t
  pub means : tree_formula t ≡ v
  pub whole_is : whole ≡ spelled t rest

abbrev pub ResultStands : Limits → ℕ → List Token → List Token → ConditionStepResult → Type 0
ResultStands most threads whole rest (Goes fs used expected) =
    Stands most threads whole rest fs used expected
ResultStands most threads whole rest (Ends v) = Ended most threads whole (tokens.End ∷ rest) v
ResultStands most threads whole rest Refuses = Unit {0}

-- the operand of an operator fits where the operator stands
new_need : (op : Connective) (bs : List Branch) → Stops (level op + 1) bs → need bs ≤ level op
new_need op [] h = omega arith
new_need op (BGroup ∷ bs) h = omega arith
new_need op (BPrefix tilde ∷ bs) h = absurd h
new_need op (BLeft o a ∷ bs) h = omega arith

module _ (most : Limits) (threads : ℕ) (few : threads < 18446744073709551616) (whole : List Token)
  where
    -- an atom or a word was read
    single : (t : FormulaTree) (rest : List Token) (fs : List ConditionFrame) (used : ℕ) → IsGrouped t
        → HasAtoms threads t → 5 ≤ tightness t → depth t ≡ 0 → operators t ≡ 0
        → Open most threads whole (spelled t rest) fs used
        → Full most threads whole rest fs used (tree_formula t)
    single t rest fs used grouped atoms tight flat none o =
        let deep = opens-le most threads o.bs o.fine in
        let sum = o.counted in
        record { bs = o.bs; t = t; is = o.is; means = refl; fine = o.fine; grouped = grouped; atoms = atoms; tight = tight; shallow = omega arith; counted = omega arith; short = o.short; whole_is = o.whole_is }

    -- one more is open
    deeper : (b : Branch) (f : ConditionFrame) (rest : List Token) (fs : List ConditionFrame) (used : ℕ)
        (bs : List Branch) → frame b ≡ f → frames bs ≡ fs → open_count fs < most.nesting
        → (opens bs < most.nesting → Fine most threads (b ∷ bs)) → count (b ∷ bs) ≡ used
        → used ≤ most.operators → whole ≡ before (b ∷ bs) rest
        → Open most threads whole rest (f ∷ fs) used
    deeper b f rest fs used bs e is lt grown counted short whole_is =
        let n : open_count fs ≡ opens bs = ap open_count (sym is) ∙ open_count-frames bs in
        record { bs = b ∷ bs; is = ap (λ (g : ConditionFrame). g ∷ frames bs) e ∙ ap (λ (gs : List ConditionFrame). f ∷ gs) is; fine = grown (omega arith); counted = counted; short = short; whole_is = whole_is }

    opened_stands : (rest : List Token) (fs : List ConditionFrame) (next : ConditionStepResult)
        → (open_count fs < most.nesting → ResultStands most threads whole rest next)
        → ResultStands most threads whole rest (condition_opened most fs next)
    opened_stands rest fs next h = choose (nat_lt (open_count fs) most.nesting) refl
      where
        choose : (x : Bool) → nat_lt (open_count fs) most.nesting ≡ x
            → ResultStands most threads whole rest (if x then next else Refuses)
        choose true e = h (ltb-true _ _ e)
        choose false e = tt

    word_stands : (w : List ℕ) (rest : List Token) (fs : List ConditionFrame) (used : ℕ)
        → Open most threads whole (tokens.Word w ∷ rest) fs used
        → Stands most threads whole rest fs used (expected_after_word w)
    word_stands w rest fs used o =
        first (bytes_eq w (codes "true")) ((bytes_eq-Decides w (codes "true")).0)
      where
        spelled_so : (u : List ℕ) → w ≡ u → Open most threads whole (tokens.Word u ∷ rest) fs used
        spelled_so u e =
            subst (λ (x : List ℕ). Open most threads whole (tokens.Word x ∷ rest) fs used) e o

        third : (x : Bool) → (x ≡ true → w ≡ codes "not")
            → Stands most threads whole rest fs used
            (if x then HasNot else WantsEquals (places.Location w))
        third true h = spelled_so (codes "not") (h refl)
        third false h =
            record { tree = Location false w; fine = tt; thread = tt; means = refl; here = o }

        second : (x : Bool) → (x ≡ true → w ≡ codes "false")
            → Stands most threads whole rest fs used (if x then HasConstant false
            else (if bytes_eq w (codes "not") then HasNot
            else WantsEquals (places.Location w)))
        second true h = spelled_so (codes "false") (h refl)
        second false h = third (bytes_eq w (codes "not")) ((bytes_eq-Decides w (codes "not")).0)

        first : (x : Bool) → (x ≡ true → w ≡ codes "true")
            → Stands most threads whole rest fs used (if x then HasConstant true
            else (if bytes_eq w (codes "false") then HasConstant false
            else (if bytes_eq w (codes "not") then HasNot
            else WantsEquals (places.Location w))))
        first true h = spelled_so (codes "true") (h refl)
        first false h = second (bytes_eq w (codes "false")) ((bytes_eq-Decides w (codes "false")).0)

    -- a token within a place
    place_result_stands : (expected : PlaceExpectation) (t : Token) (rest : List Token)
        (fs : List ConditionFrame) (used : ℕ) → StepThread threads (place_step expected t)
        → Open most threads whole (within expected (t ∷ rest)) fs used
        → ResultStands most threads whole rest (place_result fs used expected t)
    place_result_stands expected t rest fs used th o =
        by_step (place_step expected t) (place_stands expected t rest) th
      where
        by_step : (s : Option PlaceStep) → StepStands (within expected (t ∷ rest)) rest s
            → StepThread threads s
            → ResultStands most threads whole rest (in_place fs used (expected_after_place s))
        by_step (Some (steps.Goes h)) e k =
            (k, subst (λ (l : List Token). Open most threads whole l fs used) e o)
        by_step (Some (steps.Ends w)) r k =
            let there : HasThread threads r.tree = has_thread threads r.tree (subst (WrittenThread threads) (sym r.means) k) in
            record {
              tree = r.tree;
              fine = r.fine;
              thread = there;
              means = sym (place_of_written threads r.tree few there) ∙ ap place_of r.means;
              here = subst (λ (l : List Token). Open most threads whole l fs used) r.whole_is o;
            }
        by_step None e k = tt

    operand_stands : (t : Token) (rest : List Token) (fs : List ConditionFrame) (used : ℕ)
        → Open most threads whole (t ∷ rest) fs used
        → ResultStands most threads whole rest (operand most threads fs used t)
    operand_stands (tokens.Word w) rest fs used o = word_stands w rest fs used o
    operand_stands (tokens.Mark marks.Tilde) rest fs used o =
        opened_stands rest fs (Goes (InPrefix ∷ fs) used Wants) (λ lt. deeper (BPrefix true)
        InPrefix
        rest fs used o.bs refl o.is lt (λ h. (h, o.fine)) o.counted o.short o.whole_is)
    operand_stands (tokens.Mark marks.Open) rest fs used o =
        opened_stands rest fs (Goes (InGroup ∷ fs) used Wants) (λ lt. deeper BGroup InGroup rest fs
        used o.bs refl o.is lt (λ h. (h, o.fine)) o.counted o.short o.whole_is)
    operand_stands (tokens.Mark marks.OpenBracket) rest fs used o = (tt, o)
    operand_stands (tokens.Number false t) rest fs used o = choose (nat_lt (decimal t) threads) refl
      where
        choose : (x : Bool) → nat_lt (decimal t) threads ≡ x
            → ResultStands most threads whole rest (if x then Goes fs used (InPlace (WantsColon t))
            else Refuses)
        choose true e = (ltb-true _ _ e, o)
        choose false e = tt
    operand_stands _ rest fs used o = tt

    -- what is open once everything that binds this tightly is joined
    folded_full : (l : ℕ) (rest : List Token) (fs : List ConditionFrame) (used : ℕ) (v : Formula) → l ≤ 4
        → Full most threads whole rest fs used v
        → Folded most threads l whole rest (fold_to l fs v) used
    folded_full l rest fs used v low f =
        let at_tree = folded most threads l whole rest used f.bs f.t low (let h = f.tight in omega arith) f.fine f.grouped f.atoms (let h = f.tight in let n = need-le f.bs in omega arith) f.shallow f.counted f.whole_is in
        subst (λ (g : List ConditionFrame). Folded most threads l whole rest (fold_to l g v) used) f.is
        (subst
        (λ (w : Formula). Folded most threads l whole rest (fold_to l (frames f.bs) w) used)
        f.means at_tree)

    -- an operator was read
    joins_stands : (op : Connective) (rest : List Token) (fs : List ConditionFrame) (used : ℕ) (v : Formula)
        → Full most threads whole (connective_token op ∷ rest) fs used v
        → ResultStands most threads whole rest (joins most fs used v op)
    joins_stands op rest fs used v f = choose (nat_lt used most.operators) refl
      where
        choose : (x : Bool) → nat_lt used most.operators ≡ x
            → ResultStands most threads whole rest (if x then Goes
            (left_frames op (fold_to (level op + 1) fs v)) (used + 1) Wants
            else Refuses)
        choose true e =
            let lt = ltb-true _ _ e in
            let low = level-le op in
            let d = folded_full (level op + 1) (connective_token op ∷ rest) fs used v (omega arith) f in
            record { bs = BLeft op d.t ∷ d.bs; is = sym (ap (left_frames op) d.is); fine = (d.grouped, d.tight, new_need op d.bs d.stops, d.shallow, d.atoms, d.fine); counted = (let h = d.counted in omega arith); short = omega arith; whole_is = d.whole_is }
        choose false e = tt

    ended_stands : (rest : List Token) (used : ℕ) (p : List ConditionFrame × Formula) → used ≤ most.operators
        → Folded most threads 0 whole (tokens.End ∷ rest) p used
        → ResultStands most threads whole rest (condition_ended p)
    ended_stands rest used p short d =
        subst (λ (q : List ConditionFrame × Formula). ResultStands most threads whole rest (condition_ended q))
        (sym d.is) (by_branches d.bs d.shallow d.counted d.whole_is)
      where
        by_branches : (bs : List Branch) → opens bs + depth d.t ≤ most.nesting
            → count bs + operators d.t ≡ used → whole ≡ before bs (spelled d.t (tokens.End ∷ rest))
            → ResultStands most threads whole rest (condition_ended (frames bs, tree_formula d.t))
        by_branches [] shallow counted is =
            record { t = d.t; is = record { grouped = d.grouped; atoms = d.atoms; shallow = omega arith; short = omega arith }; means = refl; whole_is = is }
        by_branches (b ∷ bs) shallow counted is = tt

    closed_stands : (rest : List Token) (used : ℕ) (p : List ConditionFrame × Formula)
        → used ≤ most.operators
        → Folded most threads 0 whole (tokens.Mark marks.Close ∷ rest) p used
        → ResultStands most threads whole rest (condition_closed used p)
    closed_stands rest used p short d =
        subst (λ (q : List ConditionFrame × Formula). ResultStands most threads whole rest (condition_closed used q))
        (sym d.is) (by_branches d.bs d.fine d.shallow d.counted d.whole_is)
      where
        by_branches : (bs : List Branch) → Fine most threads bs
            → opens bs + depth d.t ≤ most.nesting
            → count bs + operators d.t ≡ used
            → whole ≡ before bs (spelled d.t (tokens.Mark marks.Close ∷ rest))
            → ResultStands most threads whole rest (condition_closed used (frames bs, tree_formula d.t))
        by_branches [] fine shallow counted is = tt
        by_branches (BGroup ∷ bs) fine shallow counted is =
            record { bs = bs; t = Group d.t; is = refl; means = refl; fine = fine.1; grouped = d.grouped; atoms = d.atoms; tight = omega arith; shallow = omega arith; counted = counted; short = short; whole_is = is }
        by_branches (BPrefix tilde ∷ bs) fine shallow counted is = tt
        by_branches (BLeft op a ∷ bs) fine shallow counted is = tt

    behind_stands : (t : Token) (rest : List Token) (fs : List ConditionFrame) (used : ℕ) (v : Formula)
        → Full most threads whole (t ∷ rest) fs used v
        → ResultStands most threads whole rest (behind_operand most fs used v t)
    behind_stands (tokens.Mark marks.And) rest fs used v f =
        joins_stands connectives.And rest fs used v f
    behind_stands (tokens.Mark marks.Or) rest fs used v f =
        joins_stands connectives.Or rest fs used v f
    behind_stands (tokens.Mark marks.Implies) rest fs used v f =
        joins_stands connectives.Implies rest fs used v f
    behind_stands (tokens.Mark marks.Close) rest fs used v f =
        closed_stands rest used (fold_to 0 fs v) f.short (folded_full 0
        (tokens.Mark marks.Close ∷ rest) fs used v (omega arith) f)
    behind_stands tokens.End rest fs used v f =
        ended_stands rest used (fold_to 0 fs v) f.short (folded_full 0 (tokens.End ∷ rest) fs used v
        (omega arith) f)
    behind_stands _ rest fs used v f = tt

    -- a word before an equals sign is a location
    named : (w : List ℕ) (rest : List Token) (fs : List ConditionFrame) (used : ℕ)
        → Open most threads whole (tokens.Word w ∷ tokens.Mark marks.Equals ∷ rest) fs used
        → AtPlace most threads whole (tokens.Mark marks.Equals ∷ rest) fs used (places.Location w)
    named w rest fs used o =
        record { tree = Location false w; fine = tt; thread = tt; means = refl; here = o }

    constant_stands : (t : Token) (rest : List Token) (fs : List ConditionFrame) (used : ℕ) (b : Bool)
        → Open most threads whole (tokens.Word (constant_word b) ∷ t ∷ rest) fs used
        → ResultStands most threads whole rest (after_constant most fs used b t)
    constant_stands (tokens.Mark marks.Equals) rest fs used b o =
        named (constant_word b) rest fs used o
    constant_stands t rest fs used b o =
        behind_stands t rest fs used (Constant b) (single (Word b) (t ∷ rest) fs used tt tt
        (omega arith) refl refl o)

    not_stands : (t : Token) (rest : List Token) (fs : List ConditionFrame) (used : ℕ)
        → Open most threads whole (tokens.Word (codes "not") ∷ t ∷ rest) fs used
        → ResultStands most threads whole rest (after_not most threads fs used t)
    not_stands (tokens.Mark marks.Equals) rest fs used o = named (codes "not") rest fs used o
    not_stands t rest fs used o =
        opened_stands rest fs (operand most threads (InPrefix ∷ fs) used t)
        (λ lt. operand_stands t rest (InPrefix ∷ fs) used (deeper (BPrefix false) InPrefix
        (t ∷ rest)
        fs used o.bs refl o.is lt (λ h. (h, o.fine)) o.counted o.short o.whole_is))

    equals_stands : (t : Token) (rest : List Token) (fs : List ConditionFrame) (used : ℕ) (p : Place)
        → AtPlace most threads whole (t ∷ rest) fs used p
        → ResultStands most threads whole rest (after_place fs used p t)
    equals_stands (tokens.Mark marks.Equals) rest fs used p a = a
    equals_stands _ rest fs used p a = tt

    atom_stands : (t : Token) (rest : List Token) (fs : List ConditionFrame) (used : ℕ) (p : Place)
        → AtPlace most threads whole (tokens.Mark marks.Equals ∷ t ∷ rest) fs used p
        → ResultStands most threads whole rest (atom_read fs used p (value_read t))
    atom_stands t rest fs used p a = by_value (value_read t) (value_stands t rest)
      where
        by_value : (o : Option declared_value.Value) → ValueStands (t ∷ rest) rest o
            → ResultStands most threads whole rest (atom_read fs used p o)
        by_value (Some v) r =
            let here = subst (λ (l : List Token). Open most threads whole (spelled_place a.tree (tokens.Mark marks.Equals ∷ l)) fs used) r.whole_is a.here in
            let f = single (Atom a.tree r.tree) rest fs used tt (a.fine, a.thread, r.fine) (omega arith) refl refl here in
            subst (λ (w : Formula). Full most threads whole rest fs used w)
            (ap (λ (q : Place). Holds q (value_meaning r.tree)) a.means ∙ ap (Holds p) r.means) f
        by_value None r = tt

    pub step_stands : (t : Token) (rest : List Token) (fs : List ConditionFrame) (used : ℕ)
        (expected : ConditionExpectation) → Stands most threads whole (t ∷ rest) fs used expected
        → ResultStands most threads whole rest (proposition_step most threads fs used expected t)
    step_stands t rest fs used Wants h = operand_stands t rest fs used h
    step_stands t rest fs used (HasConstant b) h = constant_stands t rest fs used b h
    step_stands t rest fs used HasNot h = not_stands t rest fs used h
    step_stands t rest fs used (InPlace expected) h =
        place_result_stands expected t rest fs used (place_thread threads expected t h.0) h.1
    step_stands t rest fs used (WantsEquals p) h = equals_stands t rest fs used p h
    step_stands t rest fs used (WantsValue p) h = atom_stands t rest fs used p h
    step_stands t rest fs used (Has v) h = behind_stands t rest fs used v h

    pub run_stands : (ts : List Token) (fs : List ConditionFrame) (used : ℕ) (expected : ConditionExpectation)
        (v : Formula) → Stands most threads whole ts fs used expected
        → proposition most threads fs used expected ts ≡ Some v
        → Ended most threads whole (tokens.End ∷ []) v
    run_stands [] fs used expected v h e = absurd cc
    run_stands (t ∷ ts) fs used expected v h e =
        by_result (proposition_step most threads fs used expected t)
        (step_stands t ts fs used expected h) e (λ gs u k. run_stands ts gs u k v)
      where
        by_end : (w : Formula) (us : List Token) → Ended most threads whole (tokens.End ∷ us) w
            → whole_at w us ≡ Some v → Ended most threads whole (tokens.End ∷ []) v
        by_end w [] x e' =
            let same : w ≡ v = cc in
            subst (λ (y : Formula). Ended most threads whole (tokens.End ∷ []) y) same x
        by_end w (u ∷ us) x e' = absurd cc

        by_result : (x : ConditionStepResult) → ResultStands most threads whole ts x
            → go_on (λ gs u k. proposition most threads gs u k ts) ts x ≡ Some v
            → ((gs : List ConditionFrame) (u : ℕ) (k : ConditionExpectation) → Stands most threads whole ts gs u k
            → proposition most threads gs u k ts ≡ Some v
            → Ended most threads whole (tokens.End ∷ []) v)
            → Ended most threads whole (tokens.End ∷ []) v
        by_result (Goes gs u k) s e' later = later gs u k s e'
        by_result (Ends w) s e' later = by_end w ts s e'
        by_result Refuses s e' later = absurd cc

-- what the machine takes to its end is a proposition that means the formula
pub sound : (most : Limits) (threads : ℕ) → threads < 18446744073709551616
    → (ts : List Token) (v : Formula) → proposition most threads [] 0 Wants ts ≡ Some v
    → IsProposition most threads ts v
sound most threads few ts v e =
    let x = run_stands most threads few ts ts [] 0 Wants v (record { bs = []; is = refl; fine = tt; counted = refl; short = omega arith; whole_is = refl }) e in
    record { tree = x.t; fine = x.is; whole = x.whole_is; meant = x.means }
