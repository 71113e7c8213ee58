-- A claim that is given is out until it is returned or lost.
use Rattle.std.proofs.Common.{◌≡◌, ◌≢◌, ℕ, ◌+◌, ◌<◌, Bool, true, false, ◌==◌, inl, inr, List, [], ◌∷◌, ◌++◌, Some, None, refl, ap, sym, subst, ◌∙◌, eqb-true, eq-eqb, arith}
use Rattle.std.specs.List.{AllByRecursion as Each}
use Rattle.std.proofs.lemmas.Bool.{cases_Bool}
use Rattle.memo_core.specs.declared.keys.Node.{Node}
use Rattle.memo_core.specs.declared.keys.Key.{Key}
use Rattle.memo_core.specs.declared.claims.Finish.{Finish}
use Rattle.memo_core.specs.declared.claims.Finish.TheVariants.{Unknown, Stale, Same, Stored}
use Rattle.memo_core.specs.Graph.{present_inputs}
use Rattle.memo_core.specs.Step.{OpenClaim, MemoState, Return, claim_of, without_claim, AreClaimsNumbered, FinishesReturn, Loses}
use Rattle.memo_core.specs.Run.{Bench, MemoEvent, Edit, Claim, NoClaim, Returned, Lose, Renew, Refused, TextsMeaning, MemoRun, Step, state_in}
use Rattle.memo_core.specs.Work.{IsJobEvent}
use Rattle.bench_laws.specs.Jobs.{LeavesClaim, ClaimsStayOut}
use Rattle.bench_laws.proofs.Ready.{apart_after}

left_claim : (n m : ℕ) (cs : List OpenClaim) (c : OpenClaim) → m ≢ n → claim_of n cs ≡ Some c
    → claim_of n (without_claim m cs) ≡ Some c
left_claim n m [] c ne e = e
left_claim n m (d ∷ cs) c ne e = elim (cases_Bool (m == d.number)) [
  | inl same ↦ rw same (elim (cases_Bool (n == d.number)) [
    | inl t ↦ absurd (ne (eqb-true m d.number same ∙ sym (eqb-true n d.number t)))
    | inr f ↦ rw f at e
  ])
  | inr apart ↦ rw apart (elim (cases_Bool (n == d.number)) [
    | inl t ↦ rw t (rw t at e)
    | inr f ↦ rw f (left_claim n m cs c ne (rw f at e))
  ])
]

claim_before : (n : ℕ) (cs : List OpenClaim) (c d : OpenClaim) → claim_of n cs ≡ Some c
    → claim_of n (cs ++ d ∷ []) ≡ Some c
claim_before n [] c d e = absurd (none e)
  where
    none : None ≡ Some c → ⊥
    none e = cc
claim_before n (x ∷ cs) c d e = elim (cases_Bool (n == x.number)) [
  | inl t ↦ rw t (rw t at e)
  | inr f ↦ rw f (claim_before n cs c d (rw f at e))
]

-- a claim of a new number is found
claim_last : (taken : ℕ) (cs : List OpenClaim) (c : OpenClaim) → taken < c.number
    → AreClaimsNumbered taken cs → claim_of c.number (cs ++ c ∷ []) ≡ Some c
claim_last taken [] c lt a = rw (eq-eqb c.number c.number refl) refl
claim_last taken (d ∷ cs) c lt a = elim (cases_Bool (c.number == d.number)) [
  | inl t ↦ (let same : c.number ≡ d.number = eqb-true c.number d.number t in
      absurd (omega (arith, lt, same, a.0)))
  | inr f ↦ rw f (claim_last taken cs c lt a.1)
]

module _ {T E V G : Type 0} (means : TextsMeaning T E V G) where
  finish_leaves : (number : ℕ) (c : OpenClaim) (old new : MemoState V G) (r : Return V G) (f : Finish)
      → r.claim ≢ number → claim_of number old.claims ≡ Some c → FinishesReturn old r f new
      → claim_of number new.claims ≡ Some c
  finish_leaves number c old new r Unknown ne e h = rw h.1 e
  finish_leaves number c old new r (Stale stamp) ne e h =
      rw h.3 (left_claim number r.claim old.claims c ne e)
  finish_leaves number c old new r Same ne e h =
      rw (h.0).after (left_claim number r.claim old.claims c ne e)
  finish_leaves number c old new r (Stored names) ne e h =
      rw (h.0).after (left_claim number r.claim old.claims c ne e)

  lose_leaves : (number : ℕ) (c : OpenClaim) (old new : MemoState V G) (n : ℕ) (b : Bool) → n ≢ number
      → claim_of number old.claims ≡ Some c → Loses old n b new
      → claim_of number new.claims ≡ Some c
  lose_leaves number c old new n true ne e h = rw h.2 (left_claim number n old.claims c ne e)
  lose_leaves number c old new n false ne e h = rw h.1 e

  pub step_leaves : (number : ℕ) (c : OpenClaim) (old new : Bench T V) (e : MemoEvent E V G) → IsJobEvent e
      → LeavesClaim number e → claim_of number old.claims ≡ Some c → Step means old e new
      → claim_of number new.claims ≡ Some c
  step_leaves number c old new (Edit e) job leaves is h = absurd job
  step_leaves number c old new (Claim other n given keys values) job leaves is h =
      let claim : OpenClaim = record { number = other; node = n; inputs = present_inputs (means.net old.texts) old.memos ((means.net old.texts).inputs n) } in
      subst (λ (cs : List OpenClaim). claim_of number cs ≡ Some c)
      (sym (ap (λ (s : MemoState V G). s.claims) (h.1).after))
      (claim_before number old.claims c claim is)
  step_leaves number c old new NoClaim job leaves is h = rw h.1 is
  step_leaves number c old new (Returned r answer) job leaves is h =
      finish_leaves number c (state_in means old) (state_in means new) r answer leaves is h.2
  step_leaves number c old new (Lose n answer) job leaves is h =
      lose_leaves number c (state_in means old) (state_in means new) n answer leaves is h.1
  step_leaves number c old new Renew job leaves is h = absurd job
  step_leaves number c old new Refused job leaves is h = rw h.claims is

  run_leaves : (number : ℕ) (c : OpenClaim) (es : List (MemoEvent E V G)) (old new : Bench T V)
      → Each IsJobEvent es → Each (LeavesClaim number) es → claim_of number old.claims ≡ Some c
      → MemoRun means old es new → claim_of number new.claims ≡ Some c
  run_leaves number c [] old new jobs leaves is h = rw h is
  run_leaves number c (e ∷ es) old new jobs leaves is h =
      run_leaves number c es h.0 new jobs.1 leaves.1
      (step_leaves number c old h.0 e jobs.0 leaves.0 is h.1) h.2

  -- the claim that a node gets now
  abbrev pub opened : Bench T V → ℕ → Node → OpenClaim
  opened b number n =
      record {
        number = number;
        node = n;
        inputs = present_inputs (means.net b.texts) b.memos ((means.net b.texts).inputs n);
      }

  pub given_found : (old new : Bench T V) (number : ℕ) (n : Node) (given : G) (keys : List Key)
      (values : List V) → AreClaimsNumbered old.taken old.claims
      → Step means old (Claim number n given keys values) new
      → claim_of number new.claims ≡ Some (opened old number n)
  given_found old new number n given keys values numbered h =
      let g = h.1 in
      let is : number ≡ old.taken + 1 = g.number_is in
      subst (λ (cs : List OpenClaim). claim_of number cs ≡ Some (opened old number n))
      (sym (ap (λ (s : MemoState V G). s.claims) g.after))
      (claim_last old.taken old.claims (opened old number n) (omega (arith, is)) numbered)

  pub claims_stay_out : ClaimsStayOut means
  claims_stay_out earlier later first old start end number n given keys values s run claimed more
      jobs leaves =
      let numbered = (apart_after means earlier first old s run).numbered in
      let begun = given_found old start number n given keys values numbered claimed in (
        opened old number n,
        run_leaves number (opened old number n) later start end jobs leaves begun more,
      )
