-- What checks and flags say over all candidates, from what they say over fewer.
use Rattle.std.proofs.Common.{ℕ, ◌≡◌, List, [], ◌∷◌, ◌++◌, Bool, Option, Some, None, refl, sym, subst}
use Rattle.std.specs.List.{AllZip, Contains}
use Rattle.std.proofs.lemmas.List.Elements.{Contains-append_left, Contains-push}
use Rattle.std.proofs.lemmas.Slice.Zip.{all_zipped_more}
use Rattle.binding_graph.specs.declared.resolved.CheckCode.{CheckCode}
use Rattle.binding_graph.specs.declared.resolved.ResolvedItem.{ResolvedItem}
use Rattle.binding_graph.specs.declared.resolved.Role.{Role}
use Rattle.binding_graph.specs.declared.resolved.Role.TheVariants as roles
use Rattle.candidate_spaces.specs.declared.candidate.Space.{Space}
use Rattle.candidate_spaces.specs.Space.{candidates_in}
use Rattle.outcome_states.specs.Kept.{Flag}
use Rattle.from_scratch.specs.Answers.{AreItemColumns, HasAnswers, IsSaidAs, IsSaidBy, AreSaid}
use Rattle.order_growth.specs.Coded.{AreOfExpressions}
use Rattle.whole_outcomes.specs.Whole.{AreAmong, AreAnswersKept}
use Rattle.whole_outcomes.proofs.Columns.{answers_over_all}

module _ (indexes : List (Option ℕ)) where
  abbrev pub AreChecksKept : List (List Bool) → List (List Bool) → Type 0
  AreChecksKept checks less = AllZip (AreAnswersKept indexes) checks less

  abbrev pub IsFlagKept : Flag → Flag → Type 0
  IsFlagKept f g = (f.0 ≡ g.0) × AreAnswersKept indexes f.1 g.1

  abbrev pub AreFlagsKept : List Flag → List Flag → Type 0
  AreFlagsKept flags lower = AllZip IsFlagKept flags lower

  -- some checks and flags so said have the same answers where candidates stay
  abbrev IsSaidOverAll : (List (List Bool) → List Flag → Type 0) → List (List Bool) → List Flag → Type 0
  IsSaidOverAll Said less lower =
      (checks : List (List Bool)) × (flags : List Flag) × Said checks flags
      × AreChecksKept checks less × AreFlagsKept flags lower

  module _ (few many : List Bool → Type 0) (Before After : List (List Bool) → List Flag → Type 0)
      (answer : (less : List Bool) → few less
      → (answers : List Bool) × many answers × AreAnswersKept indexes answers less)
      (before : (less : List (List Bool)) (lower : List Flag) → Before less lower
      → IsSaidOverAll After less lower) where
    said_as : (flag : Option (List ℕ)) (less : List (List Bool)) (lower : List Flag)
        → IsSaidAs flag few Before less lower
        → IsSaidOverAll (λ cs fs. IsSaidAs flag many After cs fs) less lower
    said_as None less lower (first, last, e, is, rest) =
        let (checks, flags, said, kept, names) = before first lower rest in
        let (answers, are, same) = answer last is in (
          checks ++ answers ∷ [],
          flags,
          (checks, answers, refl, are, said),
          subst (λ (xs : List (List Bool)). AreChecksKept (checks ++ answers ∷ []) xs) (sym e)
              (all_zipped_more (AreAnswersKept indexes) checks first answers last kept same),
          names,
        )
    said_as (Some name) less lower (first, last, e, is, rest) =
        let (checks, flags, said, kept, names) = before less first rest in
        let (answers, are, same) = answer last is in (
          checks,
          flags ++ (name, answers) ∷ [],
          (flags, answers, refl, are, said),
          kept,
          subst (λ (xs : List Flag). AreFlagsKept (flags ++ (name, answers) ∷ []) xs) (sym e)
              (all_zipped_more IsFlagKept flags first (name, answers) (name, last) names (refl, same)),
        )

    said_by : (role : Role) (less : List (List Bool)) (lower : List Flag)
        → IsSaidBy role few Before less lower
        → IsSaidOverAll (λ cs fs. IsSaidBy role many After cs fs) less lower
    said_by (roles.Group recursive bodies) less lower h = before less lower h
    said_by (roles.Check check) less lower h = said_as check.flag less lower h
    said_by roles.Silent less lower h = before less lower h

-- ---- of all items

module _ (indexes : List (Option ℕ)) (all fewer : Space)
    (among : AreAmong indexes (candidates_in all.combinations.items)
    (candidates_in fewer.combinations.items)) where
  pub said_over_all : (rs : List ResolvedItem) → AreOfExpressions rs → (less : List (List Bool))
      (lower : List Flag) → AreSaid fewer rs less lower
      → IsSaidOverAll indexes (λ cs fs. AreSaid all rs cs fs) less lower
  said_over_all [] es less lower h = (
    [],
    [],
    (refl, refl),
    subst (λ (xs : List (List Bool)). AreChecksKept indexes [] xs) (sym h.0) tt,
    subst (λ (xs : List Flag). AreFlagsKept indexes [] xs) (sym h.1) tt,
  )
  said_over_all (r ∷ rs) es less lower h =
      said_by indexes (HasAnswers fewer (λ j cs. AreItemColumns fewer rs j cs) r)
      (HasAnswers all (λ j cs. AreItemColumns all rs j cs) r) (λ cs fs. AreSaid fewer rs cs fs)
      (λ cs fs. AreSaid all rs cs fs) (answers_over_all indexes all fewer among rs r es.0 es.1)
      (said_over_all rs es.1) r.role less lower h

-- ---- the answers of one check

module _ (space : Space) (rs : List ResolvedItem) (r : ResolvedItem) where
  -- some of the checks are the answers of the item
  abbrev pub HasItsAnswers : List (List Bool) → Type 0
  HasItsAnswers checks =
      (answers : List Bool) × Contains checks answers
      × HasAnswers space (λ j cs. AreItemColumns space rs j cs) r answers

  answers_here : (Before : List (List Bool) → List Flag → Type 0) (role : Role) (check : CheckCode)
      (checks : List (List Bool)) (flags : List Flag) → role ≡ roles.Check check
      → check.flag ≡ None
      → IsSaidBy role (HasAnswers space (λ j cs. AreItemColumns space rs j cs) r) Before checks flags
      → HasItsAnswers checks
  answers_here Before role check checks flags is none h =
      let (first, last, e, are, rest) = subst (λ (f : Option (List ℕ)). IsSaidAs f (HasAnswers space (λ j cs. AreItemColumns space rs j cs) r) Before checks flags) none
      (subst (λ (x : Role). IsSaidBy x (HasAnswers space (λ j cs. AreItemColumns space rs j cs) r) Before checks flags) is h) in (
        last,
        subst (λ (xs : List (List Bool)). Contains xs last) (sym e) (Contains-push first last),
        are,
      )

  in_longer : (first : List (List Bool)) (last : List Bool) (checks : List (List Bool))
      → checks ≡ first ++ last ∷ [] → HasItsAnswers first → HasItsAnswers checks
  in_longer first last checks e h = (
    h.0,
    subst (λ (xs : List (List Bool)). Contains xs h.0) (sym e)
        (Contains-append_left first (last ∷ []) h.0 h.1),
    h.2,
  )

  later_as : (Answers : List Bool → Type 0) (Before : List (List Bool) → List Flag → Type 0)
      → ((checks : List (List Bool)) (flags : List Flag) → Before checks flags
      → HasItsAnswers checks) → (flag : Option (List ℕ)) (checks : List (List Bool))
      (flags : List Flag) → IsSaidAs flag Answers Before checks flags → HasItsAnswers checks
  later_as Answers Before before None checks flags (first, last, e, are, rest) =
      in_longer first last checks e (before first flags rest)
  later_as Answers Before before (Some name) checks flags (first, last, e, are, rest) =
      before checks first rest

  later_by : (Answers : List Bool → Type 0) (Before : List (List Bool) → List Flag → Type 0)
      → ((checks : List (List Bool)) (flags : List Flag) → Before checks flags
      → HasItsAnswers checks) → (role : Role) (checks : List (List Bool)) (flags : List Flag)
      → IsSaidBy role Answers Before checks flags → HasItsAnswers checks
  later_by Answers Before before (roles.Group recursive bodies) checks flags h = before checks flags h
  later_by Answers Before before (roles.Check check) checks flags h =
      later_as Answers Before before check.flag checks flags h
  later_by Answers Before before roles.Silent checks flags h = before checks flags h

  pub its_answers : (check : CheckCode) → r.role ≡ roles.Check check → check.flag ≡ None
      → (later : List ResolvedItem) (checks : List (List Bool)) (flags : List Flag)
      → AreSaid space (later ++ r ∷ rs) checks flags → HasItsAnswers checks
  its_answers check is none [] checks flags h =
      answers_here (λ cs fs. AreSaid space rs cs fs) r.role check checks flags is none h
  its_answers check is none (x ∷ later) checks flags h =
      later_by (HasAnswers space (λ j cs. AreItemColumns space (later ++ r ∷ rs) j cs) x)
      (λ cs fs. AreSaid space (later ++ r ∷ rs) cs fs) (its_answers check is none later) x.role
      checks flags h
