-- An evaluation over candidates, without some that a check refuses, is one over all.
use Rattle.std.proofs.Common.{ℕ, ◌≡◌, ◌<◌, ◌+◌, zero, suc, List, [], ◌∷◌, ◌++◌, length, get_or, reverse, Bool, true, false, Option, Some, None, refl, sym, ap, ap₂, ◌∙◌, subst, arith}
use Rattle.std.specs.Prelude.{◌&&◌, slice_get, unwrap_or}
use Rattle.std.specs.List.{list_all}
use Rattle.std.proofs.lemmas.Option.{unwrap_or-slice_get, get_or_from_slice_get}
use Rattle.text_values.specs.TestValue.{formula_of}
use Rattle.binding_graph.specs.declared.resolved.CheckCode.{CheckCode}
use Rattle.binding_graph.specs.declared.resolved.ResolvedItem.{ResolvedItem}
use Rattle.binding_graph.specs.declared.resolved.Role.TheVariants.{Check}
use Rattle.candidate_spaces.specs.declared.candidate.Space.{Space}
use Rattle.candidate_spaces.specs.Space.{Candidate, Shown, candidates_in, shown_of, shown_in}
use Rattle.verdict.specs.Evaluated.{IsEvaluation}
use Rattle.outcome_states.specs.Kept.{Flag, holds_at, is_kept, kept}
use Rattle.whole_outcomes.specs.Fewer.{AgreeAt, FlagsAgreeAt, flag_names, AreFewer}
use Rattle.whole_outcomes.proofs.Counted as counting
use Rattle.from_scratch.specs.Answers.{AreSaid}
use Rattle.from_scratch.proofs.Ordered.{all_reverse}
use Rattle.order_growth.specs.Coded.{IsOfExpressions, AreOfExpressions}
use Rattle.whole_outcomes.specs.Whole.{AreAlike, AreAmong, AreAnswersKept}
use Rattle.whole_outcomes.specs.Cut.{IsRefusedAt, IsCut}
use Rattle.whole_outcomes.specs.Laws.{EvaluationOverCut}
use Rattle.whole_outcomes.proofs.Leaving.{indexes_of, as_many, stands, with_indexes, mapped}
use Rattle.whole_outcomes.proofs.Saying.{AreChecksKept, AreFlagsKept, said_over_all, its_answers}

-- ---- checks and flags at an index

same_at : (indexes : List (Option ℕ)) (xs ys : List Bool) (i j : ℕ) → AreAnswersKept indexes xs ys
    → slice_get indexes i ≡ Some (Some j) → holds_at i xs ≡ holds_at j ys
same_at indexes xs ys i j h stays =
    sym (unwrap_or-slice_get xs i false)
    ∙ (ap (λ (o : Option Bool). unwrap_or o false) (h i j stays)
    ∙ unwrap_or-slice_get ys j false)

checks_agree : (indexes : List (Option ℕ)) (checks less : List (List Bool)) (i j : ℕ)
    → AreChecksKept indexes checks less → slice_get indexes i ≡ Some (Some j)
    → AgreeAt checks less i j
checks_agree indexes [] [] i j h stays = tt
checks_agree indexes [] (y ∷ ys) i j h stays = absurd h
checks_agree indexes (x ∷ xs) [] i j h stays = absurd h
checks_agree indexes (x ∷ xs) (y ∷ ys) i j h stays =
    (same_at indexes x y i j h.0 stays, checks_agree indexes xs ys i j h.1 stays)

flags_agree : (indexes : List (Option ℕ)) (flags lower : List Flag) (i j : ℕ)
    → AreFlagsKept indexes flags lower → slice_get indexes i ≡ Some (Some j)
    → FlagsAgreeAt flags lower i j
flags_agree indexes [] [] i j h stays = tt
flags_agree indexes [] (y ∷ ys) i j h stays = absurd h
flags_agree indexes (x ∷ xs) [] i j h stays = absurd h
flags_agree indexes (x ∷ xs) (y ∷ ys) i j h stays =
    (same_at indexes x.1 y.1 i j h.0.1 stays, flags_agree indexes xs ys i j h.1 stays)

names_same : (indexes : List (Option ℕ)) (flags lower : List Flag)
    → AreFlagsKept indexes flags lower → flag_names flags ≡ flag_names lower
names_same indexes [] [] h = refl
names_same indexes [] (y ∷ ys) h = absurd h
names_same indexes (x ∷ xs) [] h = absurd h
names_same indexes (x ∷ xs) (y ∷ ys) h =
    ap₂ (λ (n : List ℕ) (ns : List (List ℕ)). n ∷ ns) h.0.0 (names_same indexes xs ys h.1)

and_false : (b : Bool) → (b && false) ≡ false
and_false true = refl
and_false false = refl

-- where one test fails, not all hold
some_fails : (test : List Bool → Bool) (xs : List (List Bool)) (k : ℕ) (x : List Bool)
    → k < length xs → get_or xs k x ≡ x → test x ≡ false → list_all test xs ≡ false
some_fails test [] k x lt is fails = absurd (omega (arith, lt))
some_fails test (y ∷ ys) zero x lt is fails =
    ap (λ (b : Bool). b && list_all test ys) (ap test is ∙ fails)
some_fails test (y ∷ ys) (suc k) x lt is fails =
    ap (λ (b : Bool). test y && b) (some_fails test ys k x (omega (arith, lt)) is fails)
    ∙ and_false (test y)

-- ---- spaces

alike : (all fewer : Space) (one two : Candidate)
    → shown_of all.registers.items one ≡ shown_of fewer.registers.items two → AreAlike one two
alike all fewer one two e = record {
  events = ap (λ (s : Shown). s.events) e;
  dependencies = ap (λ (s : Shown). s.dependencies) e;
  reads = ap (λ (s : Shown). s.reads_from) e;
  coherence = ap (λ (s : Shown). s.coherence) e;
}

module _ (rs : List ResolvedItem) (r : ResolvedItem) (all fewer : Space)
    (cut : IsCut rs r all fewer) where
  abbrev ShowAlike : Candidate → Candidate → Type 0
  ShowAlike x y = shown_of all.registers.items x ≡ shown_of fewer.registers.items y

  abbrev IsGone : ℕ → Candidate → Type 0
  IsGone i x = IsRefusedAt rs r all i

  abbrev indexes : List (Option ℕ)
  indexes = indexes_of ShowAlike IsGone cut.stay

  among : AreAmong indexes (candidates_in all.combinations.items)
      (candidates_in fewer.combinations.items)
  among = record {
    long = as_many ShowAlike IsGone cut.stay;
    same = λ k j one here stays.
        let at = stands ShowAlike IsGone cut.stay k j one here stays in (
          at.other,
          subst (λ (m : ℕ). slice_get (candidates_in fewer.combinations.items) m ≡ Some at.other)
              (let e : at.index ≡ j = omega (arith, at.is) in e) at.there,
          alike all fewer one at.other at.alike,
        );
  }

  module _ (later : List ResolvedItem) (check : CheckCode) (role : r.role ≡ Check check)
      (plain : check.flag ≡ None) (checks less : List (List Bool)) (flags lower : List Flag)
      (said : AreSaid all (later ++ r ∷ rs) checks flags)
      (kept_checks : AreChecksKept indexes checks less)
      (kept_flags : AreFlagsKept indexes flags lower) where
    -- a check refuses what is left out
    is_refused : (i : ℕ) (x : Candidate)
        → IsGone i x × (slice_get (candidates_in all.combinations.items) i ≡ Some x)
        → is_kept checks i ≡ false
    is_refused i x (gone, there) =
        let mine = its_answers all rs r check role plain later checks flags said in
        some_fails (λ answers. holds_at i answers) checks mine.1.0 mine.0 mine.1.1 mine.1.2
        (get_or_from_slice_get mine.0 i false false (gone mine.0 mine.2))

    pub are_fewer : AreFewer checks less flags lower (shown_in all) (shown_in fewer)
    are_fewer = record {
      names = names_same indexes flags lower kept_flags;
      stay = mapped (shown_of all.registers.items) (shown_of fewer.registers.items)
          (λ i x j y. ShowAlike x y × (slice_get indexes i ≡ Some (Some j)))
          (λ i x. IsGone i x × (slice_get (candidates_in all.combinations.items) i ≡ Some x))
          (λ i x j y. (x ≡ y) × AgreeAt checks less i j × FlagsAgreeAt flags lower i j)
          (λ i x. is_kept checks i ≡ false)
          (λ i x j y same. (
            same.0,
            checks_agree indexes checks less i j kept_checks same.1,
            flags_agree indexes flags lower i j kept_flags same.1,
          )) is_refused
          (with_indexes ShowAlike IsGone indexes (candidates_in all.combinations.items) cut.stay
          (λ p. at_start indexes p) (λ p. at_start (candidates_in all.combinations.items) p));
    }
      where
        at_start : {Z : Type 0} (zs : List Z) (p : ℕ) → slice_get zs (0 + p) ≡ slice_get zs p
        at_start zs p = ap (λ (m : ℕ). slice_get zs m) (omega arith)

pub evaluation_kept : EvaluationOverCut
evaluation_kept items later rs r check all fewer test e is es role plain cut
    (less, lower, said, evaluation) =
    let turned : AreOfExpressions (reverse items) = all_reverse (λ x. IsOfExpressions x.role) items es in
    let found = said_over_all (indexes rs r all fewer cut) all fewer (among rs r all fewer cut)
    (reverse items) turned less lower said in
    let (checks, flags, over_all, kept_checks, kept_flags) = found in
    let fewer_so : AreFewer checks less flags lower (shown_in all) (shown_in fewer) =
    are_fewer rs r all fewer cut later check role plain checks less flags lower
    (subst (λ (xs : List ResolvedItem). AreSaid all xs checks flags) is over_all) kept_checks
    kept_flags in
    let (shown, are_shown, says) = subst (λ (names : List (List ℕ)).
    IsEvaluation names (shown_in fewer) test.condition.quantifier
    (formula_of test.condition.proposition) test.observed.items less lower e) (sym cut.locations) evaluation in (
      checks,
      flags,
      over_all,
      (
        shown,
        are_shown,
        counting.said all.locations.items test.condition.quantifier
            (formula_of test.condition.proposition) shown checks less flags lower
            (kept checks (shown_in all)) (kept less (shown_in fewer)) fewer_so.names
            (counting.kept_alike checks less flags lower fewer_so.stay) e says,
      ),
    )
