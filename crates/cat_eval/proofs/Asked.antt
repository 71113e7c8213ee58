-- One candidate more, of which it is asked whether a check holds, or not.
use Rattle.std.proofs.Common.{ℕ, ◌≡◌, ◌<◌, ◌+◌, ◌-◌, ◌++◌, ◌∙◌, ◌&&◌, List, [], ◌∷◌, length, length-append, get_or, zero, suc, Bool, true, false, IsTrue, refl, sym, ap, subst, arith}
use Rattle.std.specs.Prelude.{Option, Some, None, slice_get, unwrap_or}
use Rattle.std.proofs.lemmas.Option.{none-some, same_Some}
use Rattle.std.proofs.Math.Bool.{and-false}
use denote.Ref.{Bor}
use Rattle.binding_graph.specs.declared.resolved.CheckCode.{CheckCode}
use Rattle.cat_machine.specs.declared.column.Column.{Column}
use Rattle.cat_eval.specs.Kept.{AreWhere, AreAskedOver, IsLastAnswer, is_asked_at}
use Rattle.cat_eval.specs.OverNames.{IsAnswerOver}
use Rattle.cat_machine.specs.Seen.{NamedValues}
use Rattle.cat_machine.specs.Steady.{HaveSameInputs, IsSteady, HasAsLast}
use Rattle.cat_eval.proofs.Columns.{get_last}
use Rattle.cat_eval.proofs.Deciding.{some_answer}
use Rattle.cat_eval.proofs.Repeating.{answer_again, ends_long}
use Rattle.cat_eval.proofs.Visits.{answers_more, no_answers}

each_more : (is_kept : ℕ → Bool) (all answers : List Bool) (x answer : Bool)
    → length answers ≡ length all
    → ((k : ℕ) → get_or answers k false ≡ (is_kept k && get_or all k false))
    → answer ≡ (is_kept (length answers) && x) → (k : ℕ)
    → get_or (answers ++ answer ∷ []) k false ≡ (is_kept k && get_or (all ++ x ∷ []) k false)
each_more is_kept [] [] x answer long each e zero = e
each_more is_kept [] [] x answer long each e (suc k) = sym (and-false (is_kept (suc k)))
each_more is_kept (y ∷ ys) [] x answer long each e k = absurd (omega (arith, long))
each_more is_kept [] (a ∷ bs) x answer long each e k = absurd (omega (arith, long))
each_more is_kept (y ∷ ys) (a ∷ bs) x answer long each e zero = each zero
each_more is_kept (y ∷ ys) (a ∷ bs) x answer long each e (suc k) =
    each_more (λ j. is_kept (suc j)) ys bs x answer (omega (arith, long)) (λ j. each (suc j)) e k

where_more : (is_kept : ℕ → Bool) (all answers : List Bool) (x answer : Bool)
    → AreWhere is_kept all answers → answer ≡ (is_kept (length answers) && x)
    → AreWhere is_kept (all ++ x ∷ []) (answers ++ answer ∷ [])
where_more is_kept all answers x answer given e = record {
  long =
      length-append answers (answer ∷ []) ∙ ap (λ (n : ℕ). n + 1) given.long
      ∙ sym (length-append all (x ∷ []));
  each = each_more is_kept all answers x answer given.long given.each e;
}

-- where all are asked, these are all answers
pub where_all : (all answers : List Bool) → AreWhere (λ k. true) all answers → answers ≡ all
where_all all answers given = same all answers given.long given.each
  where
    same : (all answers : List Bool) → length answers ≡ length all
        → ((k : ℕ) → get_or answers k false ≡ get_or all k false) → answers ≡ all
    same [] [] long each = refl
    same [] (a ∷ bs) long each = absurd (omega (arith, long))
    same (y ∷ ys) [] long each = absurd (omega (arith, long))
    same (y ∷ ys) (a ∷ bs) long each =
        ap (λ (b : Bool). b ∷ bs) (each 0)
        ∙ ap (λ (rest : List Bool). y ∷ rest) (same ys bs (omega (arith, long)) (λ k. each (suc k)))

pub asked_none : (check : CheckCode) (inputs : List (Bor Column)) (kept : Option (Bor (List Bool)))
    → AreAskedOver check inputs kept [] []
asked_none check inputs kept = (
  [],
  no_answers check inputs,
  record { long = refl; each = λ k. sym (and-false (is_asked_at kept k)) },
)

-- what is known is the answer, and else it can be told
told : (check : CheckCode) (inputs : List (Bor Column)) (base : NamedValues) (n : ℕ) (known : Option Bool)
    → ((answer : Bool) → known ≡ Some answer
    → IsAnswerOver check inputs base n check.code.kind answer)
    → (x : Bool) × IsAnswerOver check inputs base n check.code.kind x
    × ((answer : Bool) → known ≡ Some answer → x ≡ answer)
told check inputs base n None right =
    let (x, is) = some_answer check inputs base n check.code.kind in
    (x, is, λ answer e. absurd (none-some answer e))
told check inputs base n (Some a) right = (a, right a refl, λ answer e. same_Some a answer e)

held : (asked : Bool) (known : Option Bool) (x : Bool) → (IsTrue asked → known ≡ None → ⊥)
    → ((answer : Bool) → known ≡ Some answer → x ≡ answer)
    → (asked && unwrap_or known false) ≡ (asked && x)
held false known x some is = refl
held true None x some is = absurd (some refl refl)
held true (Some a) x some is = sym (is a refl)

pub asked_more : (check : CheckCode) (inputs : List (Bor Column)) (kept : Option (Bor (List Bool)))
    (bases : List NamedValues) (base : NamedValues) (answers new : List Bool) (known : Option Bool) (n : ℕ)
    (asked answer : Bool) → n ≡ length answers → AreAskedOver check inputs kept bases answers
    → ((a : Bool) → known ≡ Some a → IsAnswerOver check inputs base n check.code.kind a)
    → (IsTrue asked → known ≡ None → ⊥) → asked ≡ is_asked_at kept n
    → answer ≡ (asked && unwrap_or known false) → new ≡ answers ++ answer ∷ []
    → AreAskedOver check inputs kept (bases ++ base ∷ []) new
asked_more check inputs kept bases base answers new known n asked answer here (all, are, given)
    right some ask is grown =
    let (x, so, same) = told check inputs base n known right in
    let at : n ≡ length all = here ∙ given.long in
    let now : IsAnswerOver check inputs base (length all) check.code.kind x = subst (λ (m : ℕ). IsAnswerOver check inputs base m check.code.kind x) at so in
    let last : answer ≡ (is_asked_at kept (length answers) && x) = is ∙ held asked known x some same ∙ ap (λ (b : Bool). b && x) (ask ∙ ap (is_asked_at kept) here) in (
      all ++ x ∷ [],
      answers_more check inputs bases all base x are now,
      subst (λ (bs : List Bool). AreWhere (is_asked_at kept) (all ++ x ∷ []) bs) (sym grown)
          (where_more (is_asked_at kept) all answers x answer given last),
    )

-- the answer of the last candidate, where the next one is the same
pub answer_before : (check : CheckCode) (inputs : List (Bor Column)) (bases : List NamedValues)
    (base : NamedValues) (known : Option Bool) (answer : Bool) (n steady : ℕ) → n ≡ length bases
    → HasAsLast bases base → IsLastAnswer check inputs bases known → IsSteady inputs n steady
    → n < steady → known ≡ Some answer → IsAnswerOver check inputs base n check.code.kind answer
answer_before check inputs bases base known answer n steady here ends last still lt e =
    let same : HaveSameInputs inputs (n - 1) n = still n (omega arith) lt in
    let before : IsAnswerOver check inputs base (n - 1) check.code.kind answer = subst (λ (m : ℕ). IsAnswerOver check inputs base (m - 1) check.code.kind answer) (sym here) (last answer base e ends) in
    answer_again base inputs (n - 1) n same check check.code.kind answer before

-- what is known of the next one is known of the last one then
pub last_now : (check : CheckCode) (inputs : List (Bor Column)) (bases : List NamedValues) (base : NamedValues)
    (known : Option Bool) (n : ℕ) → n ≡ length bases
    → ((a : Bool) → known ≡ Some a → IsAnswerOver check inputs base n check.code.kind a)
    → IsLastAnswer check inputs (bases ++ base ∷ []) known
last_now check inputs bases base known n here right = λ answer one e ends.
    let (long, at) = ends_long (bases ++ base ∷ []) one ends in
    let many : length (bases ++ base ∷ []) ≡ length bases + 1 = length-append bases (base ∷ []) in
    let prefix : length bases ≡ length ends.0 = omega (arith, long, many) in
    let same : base ≡ one = same_Some base one (sym (get_last bases base) ∙ ap (λ (k : ℕ). slice_get (bases ++ base ∷ []) k) prefix ∙ at) in
    let place : n ≡ length (bases ++ base ∷ []) - 1 = omega (arith, here, many) in
    subst (λ (m : ℕ). IsAnswerOver check inputs one m check.code.kind answer) place
    (subst (λ (b : NamedValues). IsAnswerOver check inputs b n check.code.kind answer) same
    (right answer e))

-- the same check and inputs, by another name
module _ (c d : Bor CheckCode) (xs ys : Bor (List (Bor Column))) (e : c ≡ d) (f : xs ≡ ys)
    (bases : List NamedValues) where
  pub asked_moved : (k l : Option (Bor (List Bool))) → k ≡ l → (answers : List Bool)
      → AreAskedOver c.now xs.now k bases answers → AreAskedOver d.now ys.now l bases answers
  asked_moved k l g answers h =
      subst (λ (z : Option (Bor (List Bool))). AreAskedOver d.now ys.now z bases answers) g
      (subst (λ (x : Bor CheckCode). AreAskedOver x.now ys.now k bases answers) e
      (subst (λ (y : Bor (List (Bor Column))). AreAskedOver c.now y.now k bases answers) f
      h))

  pub last_moved : (known : Option Bool) → IsLastAnswer c.now xs.now bases known
      → IsLastAnswer d.now ys.now bases known
  last_moved known h =
      subst (λ (x : Bor CheckCode). IsLastAnswer x.now ys.now bases known) e
      (subst (λ (y : Bor (List (Bor Column))). IsLastAnswer c.now y.now bases known) f h)
