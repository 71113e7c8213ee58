-- Of the executions without some that a check refuses, as many are kept in each state.
use Rattle.std.proofs.Common.{ℕ, ◌≡◌, ◌<◌, ◌∙◌, zero, suc, List, [], ◌∷◌, length, get_or, Bool, true, false, cond, refl, sym, ap, ap₂, subst, arith}
use Rattle.std.specs.Prelude.{◌&&◌, ◌||◌, not}
use Rattle.std.specs.List.{AllZip, Contains, filter, enumerate_from}
use Rattle.text_values.specs.declared.test.Quantifier.{Quantifier}
use Rattle.text_values.specs.TestValue.{Formula}
use Rattle.candidate_spaces.specs.Space.{Shown}
use Rattle.verdict.specs.Evaluated.{number_that, is_satisfied, values_of, IsStateOf, Says, IsEvaluation, IsEvaluatedAs}
use Rattle.outcome_states.specs.Final.{final_state}
use Rattle.outcome_states.specs.Kept.{Flag, holds_at, is_kept, is_raised, kept, each_once, names_of_flags, raised_names}
use Rattle.outcome_states.specs.Order.{is_state}
use Rattle.outcome_states.specs.declared.answer.CountedState.{CountedState}
use Rattle.outcome_states.specs.declared.answer.Evaluation.{Evaluation}
use Rattle.outcome_states.specs.declared.answer.OutcomeResult.{OutcomeResult}
use Rattle.outcome_states.specs.declared.answer.OutcomeResult.TheVariants.{Refused, Evaluated}
use Rattle.outcome_states.specs.declared.observable.Observable.{Observable}
use Rattle.whole_outcomes.specs.Sublists.{LeavesOut, nothing_left, stays, is_left}
use Rattle.whole_outcomes.specs.Fewer.{AgreeAt, FlagsAgreeAt, flag_names}
use Rattle.whole_outcomes.specs.FewerLaws.{OutcomeOverFewer}

-- ---- lists of two kinds side by side

zip_map : {X Y : Type 0} (R S : X → Y → Type 0) → ((x : X) (y : Y) → R x y → S x y) → (xs : List X)
    (ys : List Y) → AllZip R xs ys → AllZip S xs ys
zip_map R S more [] [] h = tt
zip_map R S more [] (y ∷ ys) h = absurd h
zip_map R S more (x ∷ xs) [] h = absurd h
zip_map R S more (x ∷ xs) (y ∷ ys) h = (more x y h.0, zip_map R S more xs ys h.1)

zip_at : {X Y : Type 0} (R : X → Y → Type 0) (xs : List X) (ys : List Y) → AllZip R xs ys → (k : ℕ)
    (c : X) (d : Y) → k < length xs → (k < length ys) × R (get_or xs k c) (get_or ys k d)
zip_at R [] ys h k c d lt = absurd (omega (arith, lt))
zip_at R (x ∷ xs) [] h k c d lt = absurd h
zip_at R (x ∷ xs) (y ∷ ys) h zero c d lt = (omega arith, h.0)
zip_at R (x ∷ xs) (y ∷ ys) h (suc k) c d lt =
    let t = zip_at R xs ys h.1 k c d (omega (arith, lt)) in (omega (arith, t.0), t.1)

-- ---- those that are kept

-- put before lists, if it passes
put : {X Y : Type 0} (R : X → Y → Type 0) (b d : Bool) → b ≡ d → (x : X) (y : Y) (xs : List X)
    (ys : List Y) → R x y → AllZip R xs ys → AllZip R (cond b (x ∷ xs) xs) (cond d (y ∷ ys) ys)
put R true true e x y xs ys r h = (r, h)
put R false false e x y xs ys r h = h
put R true false e x y xs ys r h = absurd (let f : true ≡ false = e in cc)
put R false true e x y xs ys r h = absurd (let f : false ≡ true = e in cc)

pass : {X Y : Type 0} (R : X → Y → Type 0) (b : Bool) → b ≡ false → (x : X) (xs : List X)
    (ys : List Y) → AllZip R xs ys → AllZip R (cond b (x ∷ xs) xs) ys
pass R true e x xs ys h = absurd (let f : true ≡ false = e in cc)
pass R false e x xs ys h = h

kept_same : (checks less : List (List Bool)) (i j : ℕ) → AgreeAt checks less i j
    → is_kept checks i ≡ is_kept less j
kept_same [] [] i j h = refl
kept_same [] (b ∷ less) i j h = absurd h
kept_same (a ∷ checks) [] i j h = absurd h
kept_same (a ∷ checks) (b ∷ less) i j h =
    ap₂ (λ (x y : Bool). x && y) h.0 (kept_same checks less i j h.1)

module _ (checks less : List (List Bool)) (flags lower : List Flag) where
  abbrev Stays : ℕ → Shown → ℕ → Shown → Type 0
  Stays i x j y = (x ≡ y) × AgreeAt checks less i j × FlagsAgreeAt flags lower i j

  abbrev IsLeft : ℕ → Shown → Type 0
  IsLeft i x = is_kept checks i ≡ false

  -- one execution, and flags that say the same of it
  abbrev Alike : ℕ × Shown → ℕ × Shown → Type 0
  Alike p q = (p.1 ≡ q.1) × FlagsAgreeAt flags lower p.0 q.0

  pub kept_alike : {i j : ℕ} {xs ys : List Shown} → LeavesOut Stays IsLeft i xs j ys
      → AllZip Alike (filter (λ x. is_kept checks x.0) (enumerate_from i xs))
      (filter (λ y. is_kept less y.0) (enumerate_from j ys))
  kept_alike nothing_left = tt
  kept_alike (stays {i = i} {j = j} {x = x} {y = y} same rest) =
      put Alike (is_kept checks i) (is_kept less j) (kept_same checks less i j same.1) (i, x) (j, y) _ _
      (same.0, same.2) (kept_alike rest)
  kept_alike (is_left {i = i} {x = x} left rest) =
      pass Alike (is_kept checks i) left (i, x) _ _ (kept_alike rest)

-- ---- what is said of them

-- pairs of one execution
abbrev IsOne : ℕ × Shown → ℕ × Shown → Type 0
IsOne p q = p.1 ≡ q.1

counted : {X : Type 0} (b d : Bool) → b ≡ d → (x y : X) (xs ys : List X) → length xs ≡ length ys
    → length (cond b (x ∷ xs) xs) ≡ length (cond d (y ∷ ys) ys)
counted true true e x y xs ys long = ap suc long
counted false false e x y xs ys long = long
counted true false e x y xs ys long = absurd (let f : true ≡ false = e in cc)
counted false true e x y xs ys long = absurd (let f : false ≡ true = e in cc)

number_same : (test : Shown → Bool) (ps qs : List (ℕ × Shown)) → AllZip IsOne ps qs
    → number_that test ps ≡ number_that test qs
number_same test [] [] h = refl
number_same test [] (q ∷ qs) h = absurd h
number_same test (p ∷ ps) [] h = absurd h
number_same test (p ∷ ps) (q ∷ qs) h =
    counted (test p.1) (test q.1) (ap test h.0) p q _ _ (number_same test ps qs h.1)

raised_same : (f g : Flag) (ps qs : List (ℕ × Shown))
    → AllZip (λ p q. holds_at p.0 f.1 ≡ holds_at q.0 g.1) ps qs → is_raised ps f ≡ is_raised qs g
raised_same f g [] [] h = refl
raised_same f g [] (q ∷ qs) h = absurd h
raised_same f g (p ∷ ps) [] h = absurd h
raised_same f g (p ∷ ps) (q ∷ qs) h =
    ap₂ (λ (x y : Bool). x || y) h.0 (raised_same f g ps qs h.1)

named : (b d : Bool) → b ≡ d → (f g : Flag) (fs gs : List Flag) → f.0 ≡ g.0
    → flag_names fs ≡ flag_names gs
    → flag_names (cond b (f ∷ fs) fs) ≡ flag_names (cond d (g ∷ gs) gs)
named true true e f g fs gs name names = ap₂ (λ (x : List ℕ) (xs : List (List ℕ)). x ∷ xs) name names
named false false e f g fs gs name names = names
named true false e f g fs gs name names = absurd (let x : true ≡ false = e in cc)
named false true e f g fs gs name names = absurd (let x : false ≡ true = e in cc)

head_same : (x y : List ℕ) (xs ys : List (List ℕ)) → x ∷ xs ≡ y ∷ ys → x ≡ y
head_same x y xs ys e = ap (λ (zs : List (List ℕ)). get_or zs 0 x) e

abbrev rest_of : List (List ℕ) → List (List ℕ)
rest_of [] = []
rest_of (x ∷ xs) = xs

-- flags say the same of two
abbrev Agreeing : List Flag → List Flag → ℕ × Shown → ℕ × Shown → Type 0
Agreeing flags lower p q = FlagsAgreeAt flags lower p.0 q.0

raised_names_same : (ps qs : List (ℕ × Shown)) (flags lower : List Flag)
    → flag_names flags ≡ flag_names lower
    → AllZip (Agreeing flags lower) ps qs
    → flag_names (filter (is_raised ps) flags) ≡ flag_names (filter (is_raised qs) lower)
raised_names_same ps qs [] [] e h = refl
raised_names_same ps qs [] (g ∷ gs) e h =
    absurd (let x : [] ≡ g.0 ∷ flag_names gs = e in cc)
raised_names_same ps qs (f ∷ fs) [] e h =
    absurd (let x : f.0 ∷ flag_names fs ≡ [] = e in cc)
raised_names_same ps qs (f ∷ fs) (g ∷ gs) e h =
    named (is_raised ps f) (is_raised qs g)
    (raised_same f g ps qs (zip_map (Agreeing (f ∷ fs) (g ∷ gs)) (λ p q. holds_at p.0 f.1 ≡ holds_at q.0 g.1)
    (λ p q agree. agree.0) ps qs h)) f g (filter (is_raised ps) fs) (filter (is_raised qs) gs)
    (head_same f.0 g.0 (flag_names fs) (flag_names gs) e)
    (raised_names_same ps qs fs gs (ap rest_of e) (zip_map (Agreeing (f ∷ fs) (g ∷ gs))
    (Agreeing fs gs) (λ p q agree. agree.1) ps qs h))

module _ (locations : List (List ℕ)) (kind : Quantifier) (proposition : Formula)
    (shown : List Observable) (checks less : List (List Bool)) (flags lower : List Flag)
    (ps qs : List (ℕ × Shown)) (names : flag_names flags ≡ flag_names lower)
    (alike : AllZip (Alike checks less flags lower) ps qs) where
  ones : AllZip IsOne ps qs
  ones = zip_map (Alike checks less flags lower) IsOne (λ p q same. same.0) ps qs alike

  raises : raised_names qs lower ≡ raised_names ps flags
  unfolding names_of_flags
  raises =
      ap each_once (sym (raised_names_same ps qs flags lower names
      (zip_map (Alike checks less flags lower) (Agreeing flags lower)
      (λ p q same. same.1) ps qs alike)))

  state_same : (s : CountedState) → IsStateOf locations proposition shown qs s
      → IsStateOf locations proposition shown ps s
  state_same s h = record {
    text = h.text;
    count = h.count ∙ sym (number_same (λ x. is_state s.values (final_state shown x)) ps qs ones);
    above = h.above;
    holds = h.holds;
  }

  pub said : (e : Evaluation) → Says locations kind proposition shown qs lower e
      → Says locations kind proposition shown ps flags e
  said e h = record {
    rising = h.rising;
    states = λ k d lt. state_same (get_or e.states k d) (h.states k d lt);
    ended = λ k d lt.
        let t = zip_at IsOne ps qs ones k d d lt in
        subst (λ (x : Shown). Contains (values_of e.states) (final_state shown x)) (sym t.1)
        (h.ended k d t.0);
    positive = h.positive ∙ sym (number_same (is_satisfied locations proposition) ps qs ones);
    negative = h.negative
        ∙ sym (number_same (λ x. not (is_satisfied locations proposition x)) ps qs ones);
    names = h.names ∙ raises;
    judged = h.judged;
  }

evaluated_as : (P Q : Evaluation → Type 0) → ((e : Evaluation) → P e → Q e) → (r : OutcomeResult)
    → IsEvaluatedAs P r → IsEvaluatedAs Q r
evaluated_as P Q more (Refused x) h = h
evaluated_as P Q more (Evaluated e) h = more e h

pub outcome_kept : OutcomeOverFewer
outcome_kept locations all fewer kind proposition observed checks less flags lower o are h = record {
  kind_is = h.kind_is;
  text = h.text;
  result = evaluated_as
      (IsEvaluation locations fewer kind proposition observed less lower)
      (IsEvaluation locations all kind proposition observed checks flags) (λ e g. (
        g.0,
        g.1,
        said locations kind proposition g.0 checks less flags lower (kept checks all) (kept less fewer)
            are.names (kept_alike checks less flags lower are.stay) e g.2,
      )) o.result h.result;
}
