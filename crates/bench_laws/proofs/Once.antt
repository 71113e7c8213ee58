-- No job is given of a node that is settled, and none twice of one node unless a claim is lost.
use Rattle.std.proofs.Common.{◌≡◌, ◌≢◌, ℕ, ◌+◌, ◌<◌, ◌⊎◌, inl, inr, Bool, true, false, ◌==◌, List, [], ◌∷◌, Some, refl, ap, sym, subst, ◌∙◌, eqb-true, eq-eqb, arith}
use Rattle.std.specs.List.{AllByRecursion as Each}
use Rattle.std.proofs.lemmas.Bool.{cases_Bool}
use Rattle.memo_core.specs.declared.keys.Node.{Node}
use Rattle.memo_core.specs.declared.keys.Key.{Key}
use Rattle.memo_core.specs.declared.claims.Finish.{Finish}
use Rattle.memo_core.specs.declared.claims.Finish.TheVariants.{Unknown, Stale, Same, Stored}
use Rattle.memo_core.specs.Graph.{present_inputs, input_nodes, IsSettled}
use Rattle.memo_core.specs.Step.{OpenClaim, MemoState, Return, claim_of, Accepts, FinishesReturn, Loses}
use Rattle.memo_core.specs.Run.{Bench, MemoEvent, Edit, Claim, NoClaim, Returned, Lose, Renew, Refused, IsFreshFrom, TextsMeaning, MemoRun, Step, state_in}
use Rattle.memo_core.specs.Work.{IsJobEvent}
use Rattle.memo_core.proofs.Exact.{AreApart}
use Rattle.memo_core.proofs.Progress.{unmatched, progress_made}
use Rattle.bench_laws.specs.Jobs.{LeavesClaim}
use Rattle.bench_laws.specs.Locked.{LosesOther}
use Rattle.bench_laws.proofs.Ready.{found_in, IsReadyAbove, AreReadyAbove, not_stale, above_given, above_none, accept_stays, step_apart, step_above}
use Rattle.bench_laws.proofs.OpenClaims.{opened, given_found, step_leaves}

-- ---- what is settled stays so

finish_settled : {V G : Type 0} (old new : MemoState V G) (r : Return V G) (f : Finish)
    → IsFreshFrom old.memos old.claims → FinishesReturn old r f new → (n : Node)
    → IsSettled old.net old.memos n → IsSettled new.net new.memos n
finish_settled old new r Unknown fresh h n s = rw h.1 s
finish_settled old new r (Stale stamp) fresh h n s = rw h.3 s
finish_settled old new r Same fresh h n s = accept_stays old new r fresh h.0 n s
finish_settled old new r (Stored names) fresh h n s = accept_stays old new r fresh h.0 n s

lose_settled : {V G : Type 0} (old new : MemoState V G) (m : ℕ) (b : Bool) → Loses old m b new
    → (n : Node) → IsSettled old.net old.memos n → IsSettled new.net new.memos n
lose_settled old new m true h n s = rw h.2 s
lose_settled old new m false h n s = rw h.1 s

module _ {T E V G : Type 0} (means : TextsMeaning T E V G) where
  abbrev Settled : Bench T V → Node → Type 0
  Settled b n = IsSettled (means.net b.texts) b.memos n

  step_settled : (old new : Bench T V) (e : MemoEvent E V G) → IsJobEvent e
      → IsFreshFrom old.memos old.claims → Step means old e new → (n : Node)
      → Settled old n → Settled new n
  step_settled old new (Edit e) job fresh h n s = absurd job
  step_settled old new (Claim number m given keys values) job fresh h n s =
      subst (λ (x : MemoState V G). IsSettled x.net x.memos n) (sym (h.1).after) s
  step_settled old new NoClaim job fresh h n s = rw h.1 s
  step_settled old new (Returned r answer) job fresh h n s =
      finish_settled (state_in means old) (state_in means new) r answer fresh h.2 n s
  step_settled old new (Lose m answer) job fresh h n s =
      lose_settled (state_in means old) (state_in means new) m answer h.1 n s
  step_settled old new Renew job fresh h n s = absurd job
  step_settled old new Refused job fresh h n s = rw (h.texts.net, h.memos) s

  pub run_settled : (es : List (MemoEvent E V G)) (old new : Bench T V) → Each IsJobEvent es
      → AreApart (state_in means old) → MemoRun means old es new → (n : Node)
      → Settled old n → Settled new n
  run_settled [] old new jobs apart h n s = rw h s
  run_settled (e ∷ es) old new jobs apart h n s =
      run_settled es h.0 new jobs.1 (step_apart means old h.0 e apart h.1) h.2 n
      (step_settled old h.0 e jobs.0 apart.fresh h.1 n s)

  pub given_open : (old new : Bench T V) (number : ℕ) (n : Node) (given : G) (keys : List Key)
      (values : List V) → Step means old (Claim number n given keys values) new → Settled old n → ⊥
  given_open old new number n given keys values step =
      unmatched (means.net old.texts) old.memos n
      (present_inputs (means.net old.texts) old.memos ((means.net old.texts).inputs n))
      (step.1).work.unmatched refl

-- ---- a node whose job is out, or that is settled

-- the claim of this number, which is of the node, is out
record IsNodeOut (number : ℕ) (n : Node) (cs : List OpenClaim) : Type 0 where
  claim : OpenClaim
  found : claim_of number cs ≡ Some claim
  node : claim.node ≡ n

false_true : false ≡ true → ⊥
false_true e = cc

some_same : (c d : OpenClaim) → Some c ≡ Some d → c ≡ d
some_same c d e = cc

module _ {V G : Type 0} (first : ℕ) (old new : MemoState V G) (r : Return V G) (n : Node)
    (fresh : IsFreshFrom old.memos old.claims) (all : AreReadyAbove first old)
    (lt : first < r.claim) (out : IsNodeOut r.claim n old.claims) where
  there : IsReadyAbove first old out.claim × (r.claim ≡ (out.claim).number)
  there = found_in (IsReadyAbove first old) r.claim old.claims out.claim all out.found

  higher : first < (out.claim).number
  higher = let same = there.1 in omega (arith, lt, same)

  -- an accepted return of its job settles the node
  accepted_settles : Accepts old r new → IsSettled new.net new.memos n
  accepted_settles a =
      let same : a.claim ≡ out.claim = some_same a.claim out.claim (sym (a.out.found) ∙ out.found) in
      let node : r.node ≡ n = sym (a.out.same) ∙ (ap (λ (c : OpenClaim). c.node) same ∙ out.node) in
      let inputs : Each (IsSettled old.net old.memos) (input_nodes (old.net.inputs r.node)) = subst (λ (m : Node). Each (IsSettled old.net old.memos) (input_nodes (old.net.inputs m))) (out.node ∙ sym node) (there.0 higher).settled in
      subst (λ (m : Node). IsSettled new.net new.memos m) node
      (progress_made old new r fresh a inputs).after

  returned_or_out : (f : Finish) → FinishesReturn old r f new
      → IsNodeOut r.claim n new.claims ⊎ IsSettled new.net new.memos n
  returned_or_out Unknown h =
      inl (subst (λ (s : MemoState V G). IsNodeOut r.claim n s.claims) (sym h.1) out)
  returned_or_out (Stale stamp) h =
      let c = h.0 in
      let same : out.claim ≡ c = some_same out.claim c (sym (out.found) ∙ (h.1).found) in
      absurd (not_stale old c stamp
      (subst (λ (d : OpenClaim). IsReadyAbove first old d) same there.0
      (subst (λ (d : OpenClaim). first < d.number) same higher)) h.2)
  returned_or_out Same h = inr (accepted_settles h.0)
  returned_or_out (Stored names) h = inr (accepted_settles h.0)

module _ {T E V G : Type 0} (means : TextsMeaning T E V G) where
  record IsGiven (first number : ℕ) (n : Node) (b : Bench T V) : Type 0 where
    apart : AreApart (state_in means b)
    all : AreReadyAbove first (state_in means b)
    here : IsNodeOut number n b.claims ⊎ Settled means b n

  out_leaves : (number : ℕ) (n : Node) (old new : Bench T V) (e : MemoEvent E V G) → IsJobEvent e
      → LeavesClaim number e → IsNodeOut number n old.claims → Step means old e new
      → IsNodeOut number n new.claims
  out_leaves number n old new e job leaves out h = record {
    claim = out.claim;
    found = step_leaves means number out.claim old new e job leaves out.found h;
    node = out.node;
  }

  out_stays : (first number : ℕ) (n : Node) (old new : Bench T V) (e : MemoEvent E V G) → IsJobEvent e
      → LosesOther number e → first < number → AreApart (state_in means old)
      → AreReadyAbove first (state_in means old) → IsNodeOut number n old.claims
      → Step means old e new → IsNodeOut number n new.claims ⊎ Settled means new n
  out_stays first number n old new (Edit e) job other lt apart all out h = absurd job
  out_stays first number n old new (Claim k m given keys values) job other lt apart all out h =
      inl (out_leaves number n old new (Claim k m given keys values) job tt out h)
  out_stays first number n old new NoClaim job other lt apart all out h =
      inl (out_leaves number n old new NoClaim job tt out h)
  out_stays first number n old new (Returned r answer) job other lt apart all out h =
      elim (cases_Bool (r.claim == number)) [
        | inl t ↦ (let is : number ≡ r.claim = sym (eqb-true r.claim number t) in
            subst (λ (k : ℕ). IsNodeOut k n new.claims ⊎ Settled means new n) (sym is)
            (returned_or_out first (state_in means old) (state_in means new) r n apart.fresh all
            (subst (λ (k : ℕ). first < k) is lt)
            (subst (λ (k : ℕ). IsNodeOut k n old.claims) is out) answer h.2))
        | inr f ↦ inl (out_leaves number n old new (Returned r answer) job
            (λ is. false_true (sym f ∙ eq-eqb r.claim number is)) out h)
      ]
  out_stays first number n old new (Lose m answer) job other lt apart all out h =
      inl (out_leaves number n old new (Lose m answer) job other out h)
  out_stays first number n old new Renew job other lt apart all out h = absurd job
  out_stays first number n old new Refused job other lt apart all out h =
      inl (out_leaves number n old new Refused job tt out h)

  step_given : (first number : ℕ) (n : Node) (old new : Bench T V) (e : MemoEvent E V G)
      → IsJobEvent e → LosesOther number e → first < number → IsGiven first number n old
      → Step means old e new → IsGiven first number n new
  step_given first number n old new e job other lt was h = record {
    apart = step_apart means old new e was.apart h;
    all = step_above means first old new e job (was.apart).fresh was.all h;
    here = elim was.here [
      | inl out ↦ out_stays first number n old new e job other lt was.apart was.all out h
      | inr s ↦ inr (step_settled means old new e job (was.apart).fresh h n s)
    ];
  }

  run_given : (first number : ℕ) (n : Node) (es : List (MemoEvent E V G)) (old new : Bench T V)
      → Each IsJobEvent es → Each (LosesOther number) es → first < number
      → IsGiven first number n old → MemoRun means old es new → IsGiven first number n new
  run_given first number n [] old new jobs others lt was h = rw h was
  run_given first number n (e ∷ es) old new jobs others lt was h =
      run_given first number n es h.0 new jobs.1 others.1 lt
      (step_given first number n old h.0 e jobs.0 others.0 lt was h.1) h.2

  begun : (old new : Bench T V) (number : ℕ) (n : Node) (given : G) (keys : List Key)
      (values : List V) → AreApart (state_in means old)
      → Step means old (Claim number n given keys values) new → IsGiven old.taken number n new
  begun old new number n given keys values apart h = record {
    apart = step_apart means old new (Claim number n given keys values) apart h;
    all =
        above_given old.taken (state_in means old) (state_in means new) number n given keys values
        (above_none (state_in means old) old.claims apart.numbered) h.1;
    here =
        inl (record {
          claim = opened means old number n;
          found = given_found means old new number n given keys values apart.numbered h;
          node = refl;
        });
  }

  -- the claim is ready where it has such a number, and its inputs are not the present ones of a node
  -- that has work
  abbrev IsBusy : ℕ → Node → Bench T V → OpenClaim → Type 0
  IsBusy first m b c =
      IsReadyAbove first (state_in means b) c
      × (c.node ≡ m
      → c.inputs ≢ present_inputs (means.net b.texts) b.memos ((means.net b.texts).inputs m))

  busy : (first : ℕ) (m : Node) (b : Bench T V) (cs : List OpenClaim)
      → Each (IsReadyAbove first (state_in means b)) cs
      → Each (λ c. c.node ≡ m
      → c.inputs ≢ present_inputs (means.net b.texts) b.memos ((means.net b.texts).inputs m)) cs
      → Each (IsBusy first m b) cs
  busy first m b [] all free = tt
  busy first m b (c ∷ cs) all free = ((all.0, free.0), busy first m b cs all.1 free.1)

  -- there is no work at such a node
  none_given : (first number other : ℕ) (n m : Node) (old new : Bench T V) (given : G)
      (keys : List Key) (values : List V) → first < number → IsGiven first number n old
      → Step means old (Claim other m given keys values) new → m ≢ n
  none_given first number other n m old new given keys values lt was h e = elim was.here [
    | inr s ↦ given_open means old new other m given keys values h
        (subst (λ (k : Node). Settled means old k) (sym e) s)
    | inl out ↦ (let there = found_in (IsBusy first m old) number old.claims out.claim (busy first m old old.claims was.all ((h.1).work).not_out) out.found in
        let higher : first < (out.claim).number = (let same = there.1 in omega (arith, lt, same)) in
        let ready = (there.0).0 higher in
        let node : (out.claim).node ≡ m = out.node ∙ sym e in
        (there.0).1 node (ready.present
        ∙ ap (λ (k : Node). present_inputs (means.net old.texts) old.memos
        ((means.net old.texts).inputs k)) node))
  ]

  pub once_given : (later : List (MemoEvent E V G)) (old start mid end : Bench T V)
      (number other : ℕ) (n m : Node) (given more : G) (keys others : List Key)
      (values rest : List V)
      → AreApart (state_in means old) → Step means old (Claim number n given keys values) start
      → MemoRun means start later mid → Each IsJobEvent later → Each (LosesOther number) later
      → Step means mid (Claim other m more others rest) end → m ≢ n
  once_given later old start mid end number other n m given more keys others values rest apart claimed
      run jobs kept again =
      let is : number ≡ old.taken + 1 = (claimed.1).number_is in
      let lt : old.taken < number = omega (arith, is) in
      none_given old.taken number other n m mid end more others rest lt
      (run_given old.taken number n later start mid jobs kept lt
      (begun old start number n given keys values apart claimed) run) again
