-- No more jobs are given than used nodes are unsettled.
use Rattle.std.proofs.Common.{◌≡◌, ◌≢◌, ℕ, ◌+◌, ◌<◌, ◌≤◌, inl, inr, Bool, true, false, not, ◌==◌, List, [], ◌∷◌, ◌++◌, length, Some, None, if◌then◌else◌, refl, ap, sym, subst, ◌∙◌, arith}
use Rattle.std.specs.Prelude.{nat_lt}
use Rattle.std.specs.List.{AllByRecursion as Each}
use Rattle.std.proofs.lemmas.Bool.{cases_Bool, ltb-true, ltb-false}
use Rattle.std.proofs.lemmas.List.{length-append}
use Rattle.memo_core.specs.declared.keys.Node.{Node}
use Rattle.memo_core.specs.declared.keys.Key.{Key}
use Rattle.memo_core.specs.declared.claims.Finish.{Finish}
use Rattle.memo_core.specs.declared.claims.Finish.TheVariants.{Unknown, Stale, Same, Stored}
use Rattle.memo_core.specs.Names.{same_node}
use Rattle.memo_core.specs.Graph.{Net, present_inputs, input_nodes, IsSettled}
use Rattle.memo_core.specs.Laws.{DecidesSettled}
use Rattle.memo_core.specs.Step.{OpenClaim, MemoState, Return, claim_of, without_claim, AreClaimsNumbered, Accepts, FinishesReturn, Gives, Loses}
use Rattle.memo_core.specs.Run.{Bench, MemoEvent, Edit, Claim, NoClaim, Returned, Lose, Renew, Refused, IsFreshFrom, IsLawfulMeaning, TextsMeaning, MemoRun, Step, count_unsettled, state_in}
use Rattle.memo_core.specs.Work.{IsJobEvent, number_given, numbers_given}
use Rattle.memo_core.proofs.Counts.{count_no_more, count_less, progress_lowers}
use Rattle.memo_core.proofs.Exact.{AreApart, HasRanks, decided_by, decides}
use Rattle.memo_core.proofs.Headline.{untouched_edit}
use Rattle.memo_core.proofs.Honest.{step_goes}
use Rattle.memo_core.proofs.Progress.{unmatched}
use Rattle.memo_core.proofs.Runs.{run_since}
use Rattle.memo_core.proofs.Tests.{same_node_exact, same_node_refl}
use Rattle.bench_laws.specs.Jobs.{UnsettledIsGiven, given_count, lost_by, lost_count, GivenIsBounded, EditBoundsGiven}
use Rattle.cells.proofs.Listed.{runs_on}
use Rattle.bench_laws.proofs.Once.{given_open}
use Rattle.bench_laws.proofs.Ready.{found_in, IsReady, IsReadyAbove, AreReadyAbove, not_stale, above_none, accept_stays, net_stays, step_apart, step_above, apart_after}

-- ---- how many claims are given

abbrev above : ℕ → ℕ → ℕ
above first number = if nat_lt first number then 1 else 0

-- how many claims that are out have a number above the first
abbrev out_above : ℕ → List OpenClaim → ℕ
out_above first [] = 0
out_above first (c ∷ cs) = above first c.number + out_above first cs

above_yes : (first n : ℕ) → nat_lt first n ≡ true → above first n ≡ 1
above_yes first n t = rw t refl

above_no : (first n : ℕ) → nat_lt first n ≡ false → above first n ≡ 0
above_no first n f = rw f refl

above_most : (first n : ℕ) → above first n ≤ 1
above_most first n =
    elim (cases_Bool (nat_lt first n)) [
      | inl t ↦ (let e = above_yes first n t in omega (arith, e))
      | inr f ↦ (let e = above_no first n f in omega (arith, e))
    ]

above_lt : (first n : ℕ) → first < n → above first n ≡ 1
above_lt first n lt =
    elim (cases_Bool (nat_lt first n)) [
      | inl t ↦ above_yes first n t
      | inr f ↦
          (let le : n ≤ first = ltb-false first n f in absurd (omega (arith, lt, le)))
    ]

count_closed : (first n : ℕ) (cs : List OpenClaim) (c : OpenClaim) → claim_of n cs ≡ Some c
    → out_above first cs ≡ above first c.number + out_above first (without_claim n cs)
count_closed first n [] c h = absurd (none h)
  where
    none : None ≡ Some c → ⊥
    none e = cc
count_closed first n (d ∷ cs) c h = elim (cases_Bool (n == d.number)) [
  | inl t ↦ (let q : d ≡ c = some_inj d c (rw t at h) in
      rw t (ap (λ (x : OpenClaim). above first x.number + out_above first cs) q))
  | inr f ↦ (let rest = count_closed first n cs c (rw f at h) in
      rw f (swap (above first d.number) (out_above first cs) (above first c.number)
      (out_above first (without_claim n cs)) rest))
]
  where
    some_inj : (x y : OpenClaim) → Some x ≡ Some y → x ≡ y
    some_inj x y h = cc

    swap : (a b c d : ℕ) → b ≡ c + d → a + b ≡ c + (a + d)
    swap a b c d e = omega (arith, e)

count_last : (first : ℕ) (cs : List OpenClaim) (c : OpenClaim)
    → out_above first (cs ++ c ∷ []) ≡ out_above first cs + above first c.number
count_last first [] c = omega arith
count_last first (d ∷ cs) c =
    more (above first d.number) (out_above first (cs ++ c ∷ [])) (out_above first cs)
    (above first c.number) (count_last first cs c)
  where
    more : (a b c d : ℕ) → b ≡ c + d → a + b ≡ (a + c) + d
    more a b c d e = omega (arith, e)

count_none : (first : ℕ) (cs : List OpenClaim) → AreClaimsNumbered first cs → out_above first cs ≡ 0
count_none first [] a = refl
count_none first (c ∷ cs) a = elim (cases_Bool (nat_lt first c.number)) [
  | inl t ↦ (let lt : first < c.number = ltb-true first c.number t in
      absurd (omega (arith, lt, a.0)))
  | inr f ↦ (let rest = count_none first cs a.1 in
      let e = above_no first c.number f in omega (arith, rest, e))
]

-- a claim more, or a node settled or a claim lost for each that is gone
abbrev Balances : {V G : Type 0} → ℕ → (given lost : ℕ) → MemoState V G → MemoState V G → (Node → Bool)
    → (Node → Bool) → Type 0
Balances first given lost old new p q =
    out_above first old.claims + given + count_unsettled q new.net.used
    ≤ out_above first new.claims + lost + count_unsettled p old.net.used

-- where what was settled still is
no_more : {V G : Type 0} (old new : MemoState V G) (p q : Node → Bool) → new.net ≡ old.net
    → ((n : Node) → IsSettled old.net old.memos n → IsSettled new.net new.memos n)
    → DecidesSettled old p → DecidesSettled new q
    → count_unsettled q new.net.used ≤ count_unsettled p old.net.used
no_more old new p q net still before after =
    rw net (count_no_more p q (λ n t. (after n).1 (still n ((before n).0 t))) old.net.used)

settled_same : {V G : Type 0} (old new : MemoState V G) → new.net ≡ old.net → new.memos ≡ old.memos
    → (n : Node) → IsSettled old.net old.memos n → IsSettled new.net new.memos n
settled_same old new net memos n s = rw (net, memos) s

-- nothing is given, and what is out is the same
same_balances : {V G : Type 0} (first : ℕ) (old new : MemoState V G) (p q : Node → Bool)
    → new.net ≡ old.net → new.memos ≡ old.memos → new.claims ≡ old.claims → DecidesSettled old p
    → DecidesSettled new q → Balances first 0 0 old new p q
same_balances first old new p q net memos claims before after =
    let low = no_more old new p q net (settled_same old new net memos) before after in
    let out : out_above first new.claims ≡ out_above first old.claims = ap (λ (cs : List OpenClaim). out_above first cs) claims in
    omega (arith, low, out)

accept_balances : {V G : Type 0} (first : ℕ) (old new : MemoState V G) (r : Return V G)
    (p q : Node → Bool) → IsFreshFrom old.memos old.claims → AreReadyAbove first old
    → Accepts old r new → DecidesSettled old p → DecidesSettled new q
    → Balances first 0 0 old new p q
accept_balances {V} {G} first old new r p q fresh all a before after =
    let c = a.claim in
    let net : new.net ≡ old.net = net_stays old new r fresh a in
    let closed = count_closed first r.claim old.claims c a.out.found in
    let out : out_above first new.claims ≡ out_above first (without_claim r.claim old.claims) = ap (λ (s : MemoState V G). out_above first s.claims) a.after in
    let low = no_more old new p q net (accept_stays old new r fresh a) before after in
    let most = above_most first c.number in
    elim (cases_Bool (nat_lt first c.number)) [
      | inl t ↦ (let there =
          found_in (IsReadyAbove first old) r.claim old.claims c all a.out.found in
          let ready = there.0 (ltb-true first c.number t) in
          let inputs : Each (IsSettled old.net old.memos) (input_nodes (old.net.inputs r.node)) = subst (λ (n : Node). Each (IsSettled old.net old.memos) (input_nodes (old.net.inputs n))) a.out.same ready.settled in
          let less = progress_lowers old new r p q before after fresh a inputs in
          let used : count_unsettled q new.net.used ≡ count_unsettled q old.net.used = ap (λ (n : Net G). count_unsettled q n.used) net in
          omega (arith, closed, out, less, used, most))
      | inr f ↦ (let none = above_no first c.number f in omega (arith, closed, out, low, none))
    ]

finish_balances : {V G : Type 0} (first : ℕ) (old new : MemoState V G) (r : Return V G) (f : Finish)
    (p q : Node → Bool) → IsFreshFrom old.memos old.claims → AreReadyAbove first old
    → FinishesReturn old r f new → DecidesSettled old p → DecidesSettled new q
    → Balances first 0 0 old new p q
finish_balances {V} {G} first old new r Unknown p q fresh all h before after =
    same_balances first old new p q (ap (λ (s : MemoState V G). s.net) h.1)
    (ap (λ (s : MemoState V G). s.memos) h.1) (ap (λ (s : MemoState V G). s.claims) h.1) before after
finish_balances {V} {G} first old new r (Stale stamp) p q fresh all h before after =
    let c = h.0 in
    let closed = count_closed first r.claim old.claims c (h.1).found in
    let out : out_above first new.claims ≡ out_above first (without_claim r.claim old.claims) = ap (λ (s : MemoState V G). out_above first s.claims) h.3 in
    let low = no_more old new p q (ap (λ (s : MemoState V G). s.net) h.3) (settled_same old new (ap (λ (s : MemoState V G). s.net) h.3) (ap (λ (s : MemoState V G). s.memos) h.3)) before after in
    elim (cases_Bool (nat_lt first c.number)) [
      | inl t ↦ (
          let there = found_in (IsReadyAbove first old) r.claim old.claims c all (h.1).found in
          absurd (not_stale old c stamp (there.0 (ltb-true first c.number t)) h.2))
      | inr f ↦ (let none = above_no first c.number f in omega (arith, closed, out, low, none))
    ]
finish_balances first old new r Same p q fresh all h before after =
    accept_balances first old new r p q fresh all h.0 before after
finish_balances first old new r (Stored names) p q fresh all h before after =
    accept_balances first old new r p q fresh all h.0 before after

lose_balances : {V G : Type 0} (first : ℕ) (old new : MemoState V G) (n : ℕ) (b : Bool)
    (p q : Node → Bool) → Loses old n b new → DecidesSettled old p → DecidesSettled new q
    → Balances first 0 (if b then 1 else 0) old new p q
lose_balances {V} {G} first old new n true p q h before after =
    let closed = count_closed first n old.claims h.0 h.1 in
    let out : out_above first new.claims ≡ out_above first (without_claim n old.claims) = ap (λ (s : MemoState V G). out_above first s.claims) h.2 in
    let low = no_more old new p q (ap (λ (s : MemoState V G). s.net) h.2) (settled_same old new (ap (λ (s : MemoState V G). s.net) h.2) (ap (λ (s : MemoState V G). s.memos) h.2)) before after in
    let most = above_most first (h.0).number in
    omega (arith, closed, out, low, most)
lose_balances {V} {G} first old new n false p q h before after =
    same_balances first old new p q (ap (λ (s : MemoState V G). s.net) h.1)
    (ap (λ (s : MemoState V G). s.memos) h.1) (ap (λ (s : MemoState V G). s.claims) h.1) before after

gives_balances : {V G : Type 0} (first : ℕ) (old new : MemoState V G) (number : ℕ) (n : Node)
    (given : G) (keys : List Key) (values : List V) (p q : Node → Bool) → first ≤ old.taken
    → Gives old number n given keys values new → DecidesSettled old p → DecidesSettled new q
    → Balances first 1 0 old new p q
gives_balances {V} {G} first old new number n given keys values p q le g before after =
    let claim : OpenClaim = record { number = number; node = n; inputs = present_inputs old.net old.memos (old.net.inputs n) } in
    let out : out_above first new.claims ≡ out_above first (old.claims ++ claim ∷ []) = ap (λ (s : MemoState V G). out_above first s.claims) g.after in
    let last = count_last first old.claims claim in
    let is : number ≡ old.taken + 1 = g.number_is in
    let one = above_lt first number (omega (arith, is, le)) in
    let low = no_more old new p q (ap (λ (s : MemoState V G). s.net) g.after) (settled_same old new (ap (λ (s : MemoState V G). s.net) g.after) (ap (λ (s : MemoState V G). s.memos) g.after)) before after in
    omega (arith, out, last, one, low)

-- distinct nodes that are used and not settled are no more than all that are
module _ {V G : Type 0} (s : MemoState V G) (first : ℕ) where
  abbrev IsFree : (Node → Bool) → OpenClaim → Type 0
  IsFree q c = first < c.number → q c.node ≡ false

  module _ (c : OpenClaim) (q : Node → Bool) (ready : IsReady s c.node c.inputs) where
    abbrev with_node : Node → Bool
    with_node m = if same_node m c.node then true else q m

    with_more : (m : Node) → q m ≡ true → with_node m ≡ true
    with_more m t = elim (cases_Bool (same_node m c.node)) [ inl y ↦ rw y refl | inr n ↦ rw n t ]

    free_on : (ds : List OpenClaim) → Each (λ d. d.node ≡ c.node → d.inputs ≢ c.inputs) ds
        → Each (IsReadyAbove first s) ds → Each (IsFree q) ds → Each (IsFree with_node) ds
    free_on [] unlike all free = tt
    free_on (d ∷ ds) unlike all free = (
      (λ lt. elim (cases_Bool (same_node d.node c.node)) [
        | inl y ↦ (let e : d.node ≡ c.node = same_node_exact d.node c.node y in
            let inputs : d.inputs ≡ c.inputs = (all.0 lt).present ∙ ap (λ (n : Node). present_inputs s.net s.memos (s.net.inputs n)) e ∙ sym ready.present in
            absurd (unlike.0 e inputs))
        | inr n ↦ rw n (free.0 lt)
      ]),
      free_on ds unlike.1 all.1 free.1,
    )

  out_few : (cs : List OpenClaim) (q : Node → Bool) → IsFreshFrom s.memos cs
      → Each (IsReadyAbove first s) cs → Each (IsFree q) cs
      → out_above first cs ≤ count_unsettled q s.net.used
  out_few [] q fresh all free = omega arith
  out_few (c ∷ cs) q fresh all free = elim (cases_Bool (nat_lt first c.number)) [
    | inl t ↦ (let lt : first < c.number = ltb-true first c.number t in
        let ready = all.0 lt in
        let less = count_less q (with_node c q ready) (with_more c q ready) c.node (free.0 lt) (rw (same_node_refl c.node) refl) s.net.used ready.used in
        let rest = out_few cs (with_node c q ready) fresh.2 all.1 (free_on c q ready cs fresh.1 all.1 free.1) in
        let most = above_most first c.number in
        omega (arith, less, rest, most))
    | inr f ↦ (let rest = out_few cs q fresh.2 all.1 free.1 in
        let none = above_no first c.number f in omega (arith, rest, none))
  ]

  all_free : (cs : List OpenClaim) (q : Node → Bool) → DecidesSettled s q → IsFreshFrom s.memos cs
      → Each (IsReadyAbove first s) cs → Each (IsFree q) cs
  all_free [] q decides fresh all = tt
  all_free (c ∷ cs) q decides fresh all = (
    (λ lt. elim (cases_Bool (q c.node)) [
      | inl t ↦ absurd (unmatched s.net s.memos c.node c.inputs fresh.0 (all.0 lt).present
          ((decides c.node).0 t))
      | inr f ↦ f
    ]),
    all_free cs q decides fresh.2 all.1,
  )

module _ {T E V G : Type 0} (means : TextsMeaning T E V G) where
  pub unsettled_given : UnsettledIsGiven means
  unsettled_given es first old new number n given keys values s run step =
      ((step.1).work.used, given_open means old new number n given keys values step)

  step_balances : (first : ℕ) (old new : Bench T V) (e : MemoEvent E V G) (p q : Node → Bool)
      → IsJobEvent e → first ≤ old.taken → IsFreshFrom old.memos old.claims
      → AreReadyAbove first (state_in means old) → Step means old e new
      → DecidesSettled (state_in means old) p → DecidesSettled (state_in means new) q
      → Balances first (length (number_given e)) (lost_by e) (state_in means old)
      (state_in means new) p q
  step_balances first old new (Edit e) p q job le fresh all h before after = absurd job
  step_balances first old new (Claim number n given keys values) p q job le fresh all h before
      after =
      gives_balances first (state_in means old) (state_in means new) number n given keys values p q
      le h.1 before after
  step_balances first old new NoClaim p q job le fresh all h before after =
      same_balances first (state_in means old) (state_in means new) p q
      (ap (λ (b : Bench T V). means.net b.texts) h.1) (ap (λ (b : Bench T V). b.memos) h.1)
      (ap (λ (b : Bench T V). b.claims) h.1) before after
  step_balances first old new (Returned r answer) p q job le fresh all h before after =
      finish_balances first (state_in means old) (state_in means new) r answer p q fresh all h.2
      before after
  step_balances first old new (Lose n answer) p q job le fresh all h before after =
      lose_balances first (state_in means old) (state_in means new) n answer p q h.1 before after
  step_balances first old new Renew p q job le fresh all h before after = absurd job
  step_balances first old new Refused p q job le fresh all h before after =
      same_balances first (state_in means old) (state_in means new) p q h.texts.net h.memos h.claims
      before after

not_true : (b : Bool) → not b ≡ true → b ≡ false
not_true true h = cc
not_true false h = refl

module _ {T E V G : Type 0} (means : TextsMeaning T E V G) (keeps : IsLawfulMeaning means) (rank : T → Node → ℕ)
    (ranks : HasRanks means rank) where
  abbrev pub decision : Bench T V → Node → Bool
  decision b n = decided_by (rank b.texts n + 1) (means.net b.texts) b.memos n

  pub decision_is : (b : Bench T V) → means.is_valid b.texts
      → DecidesSettled (state_in means b) (decision b)
  decision_is b valid n =
      decides (means.net b.texts) b.memos (rank b.texts) (ranks.falls b.texts valid) n

  valid_on : (es : List (MemoEvent E V G)) (old new : Bench T V) → means.is_valid old.texts
      → MemoRun means old es new → means.is_valid new.texts
  valid_on es old new valid h =
      (run_since means keeps es old new old.texts (valid, keeps.since_same old.texts valid) h).0

  -- the balance of a list, with what is ready at its end
  record HasBalance (first given lost : ℕ) (old new : Bench T V) (p : Node → Bool) : Type 0 where
    balance : Balances first given lost (state_in means old) (state_in means new) p (decision new)
    apart : AreApart (state_in means new)
    all : AreReadyAbove first (state_in means new)

  run_balances : (first : ℕ) (es : List (MemoEvent E V G)) (old new : Bench T V) (p : Node → Bool)
      → means.is_valid old.texts → Each IsJobEvent es → first ≤ old.taken
      → AreApart (state_in means old) → AreReadyAbove first (state_in means old)
      → MemoRun means old es new → DecidesSettled (state_in means old) p
      → HasBalance first (length (numbers_given es)) (lost_count es) old new p
  run_balances first [] old new p valid jobs le apart all h before = record {
    balance =
        same_balances first (state_in means old) (state_in means new) p (decision new)
        (ap (λ (b : Bench T V). means.net b.texts) h) (ap (λ (b : Bench T V). b.memos) h)
        (ap (λ (b : Bench T V). b.claims) h) before
        (decision_is new (valid_on [] old new valid h));
    apart = rw h apart;
    all = rw h all;
  }
  run_balances first (e ∷ es) old new p valid jobs le apart all h before =
      let mid = h.0 in
      let later : means.is_valid mid.texts = valid_on (e ∷ []) old mid valid (mid, h.1, refl) in
      let more = (step_goes means old mid e h.1).more in
      let one = step_balances means first old mid e p (decision mid) jobs.0 le apart.fresh all h.1 before (decision_is mid later) in
      let rest = run_balances first es mid new (decision mid) later jobs.1 (omega (arith, le, more)) (step_apart means old mid e apart h.1) (step_above means first old mid e jobs.0 apart.fresh all h.1) h.2 (decision_is mid later) in
      let both = length-append (number_given e) (numbers_given es) in
      let two = rest.balance in
      record { balance = omega (arith, one, two, both); apart = rest.apart; all = rest.all }

  pub bounded_from : (es : List (MemoEvent E V G)) (start end : Bench T V) (p : Node → Bool)
      → means.is_valid start.texts → AreApart (state_in means start) → MemoRun means start es end
      → Each IsJobEvent es → DecidesSettled (state_in means start) p
      → given_count es ≤ count_unsettled p (means.net start.texts).used + lost_count es
  bounded_from es start end p valid apart more jobs before =
      let all = above_none (state_in means start) start.claims apart.numbered in
      let b = run_balances start.taken es start end p valid jobs (omega arith) apart all more before in
      let now = decision_is end (valid_on es start end valid more) in
      let free = all_free (state_in means end) start.taken end.claims (decision end) now (b.apart).fresh b.all in
      let few = out_few (state_in means end) start.taken end.claims (decision end) (b.apart).fresh b.all free in
      let none = count_none start.taken start.claims apart.numbered in
      let balance = b.balance in
      omega (arith, balance, few, none)

  pub given_bounded : GivenIsBounded means
  given_bounded earlier es first start end p s run more jobs before =
      bounded_from es start end p (valid_on earlier first start s.valid run)
      (apart_after means earlier first start s run) more jobs before

  pub edit_bounds_given : EditBoundsGiven means
  edit_bounds_given earlier es first old start end e is_open s run step settled more jobs =
      let all = runs_on means earlier (Edit e ∷ []) first old start run (start, step, refl) in
      let now = decision_is start (valid_on (earlier ++ Edit e ∷ []) first start s.valid all) in
      let low = given_bounded (earlier ++ Edit e ∷ []) es first start end (decision start) s all more jobs now in
      let still : (n : Node) → not (is_open n) ≡ true → decision start n ≡ true =
      λ n t.
      let was = settled n (not_true (is_open n) t) in
      (now n).1
      (untouched_edit (means.keeps start.texts) (state_in means old) (state_in means start) n
      step.1 was.1 was.0) in
      let fewer = count_no_more (λ n. not (is_open n)) (decision start) still (means.net start.texts).used in
      omega (arith, low, fewer)
