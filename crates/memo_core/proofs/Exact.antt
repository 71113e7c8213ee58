use Rattle.std.proofs.Common.{◌≡◌, ◌↔◌, ℕ, zero, suc, ◌+◌, ◌<◌, ◌≤◌, ◌⊎◌, inl, inr, Bool, true, false, ◌&&◌, ◌==◌, ◌++◌, List, [], ◌∷◌, Some, None, if◌then◌else◌, refl, ap, subst, sym, eqb-true, arith}
use Rattle.std.specs.List.{AllByRecursion as Each}
use Rattle.std.proofs.lemmas.Bool.{and_from, cases_Bool}
use Rattle.memo_core.specs.declared.keys.Node.{Node}
use Rattle.memo_core.specs.declared.keys.Key.{Key}
use Rattle.memo_core.specs.declared.claims.Finish.{Finish}
use Rattle.memo_core.specs.declared.claims.Finish.TheVariants.{Unknown, Stale, Same, Stored}
use Rattle.memo_core.specs.Graph.{Memo, Net, present_inputs, input_nodes, IsSettled, IsSettledBy, put_memo}
use Rattle.memo_core.specs.Tests.{is_match, all_nodes}
use Rattle.memo_core.specs.Step.{OpenClaim, MemoState, Return, Has, claim_of, without_claim, AreClaimsNumbered, Accepts, FinishesReturn, Gives, Loses, Edits}
use Rattle.memo_core.specs.Run.{Bench, MemoEvent, Edit, Claim, NoClaim, Returned, Lose, Renew, Refused, TextsMeaning, state_in, Step, MemoRun, IsNewBench, IsLawfulMeaning, IsFreshFrom, count_unsettled}
use Rattle.memo_core.specs.Laws.{DecidesSettled, Falls, IsUsedClosed}
use Rattle.memo_core.specs.Work.{IsJobEvent, numbers_given, has_number, is_accepted, accepted_by, accepted_count, ReturnsLowerInRuns, WorkIsBounded, WorkUnsettlesNone, SettledIsDecided, QuietRunIsSettled}
use Rattle.memo_core.proofs.Tests.{and_true}
use Rattle.memo_core.proofs.Depth.{match_is, all_to, all_from}
use Rattle.memo_core.proofs.Headline.{settled_stays}
use Rattle.memo_core.proofs.ClaimLemmas.{numbered_later, numbered_closed, numbered_opened}
use Rattle.memo_core.proofs.Progress.{each_closed, fresh_closed, keep_fresh, accepts_fresh, gives_fresh, accept_unsettled}
use Rattle.memo_core.proofs.Counts.{count_no_more, progress_lowers}
use Rattle.memo_core.proofs.Honest.{step_goes}
use Rattle.memo_core.proofs.Runs.{run_since}
use Rattle.memo_core.proofs.Quiet.{all_quiet}

-- whether a node is settled, so many steps down
abbrev pub decided_by : {V G : Type 0} → ℕ → Net G → List (Memo V) → Node → Bool
decided_by zero net ms n = false
decided_by (suc d) net ms n = is_match net ms n && all_nodes (decided_by d net ms) (net.inputs n)

false_true : false ≡ true → ⊥
false_true e = cc

each_two : (A C : Node → Type 0) → (xs : List Node) → Each A xs → Each C xs
    → Each (λ x. A x × C x) xs
each_two A C [] a c = tt
each_two A C (x ∷ xs) a c = ((a.0, c.0), each_two A C xs a.1 c.1)

module _ {V G : Type 0} (net : Net G) (ms : List (Memo V)) where
  by_sound : (d : ℕ) (n : Node) → decided_by d net ms n ≡ true → IsSettledBy d net ms n
  by_sound zero n h = absurd (false_true h)
  by_sound (suc d) n h =
      let e = and_true (is_match net ms n) (all_nodes (decided_by d net ms) (net.inputs n)) h in (
        (match_is net ms n).0 e.0,
        all_to (decided_by d net ms) (IsSettledBy d net ms) (λ m t. by_sound d m t)
            (net.inputs n) e.1,
      )

  by_full : (rank : Node → ℕ) → Falls net rank → (d e : ℕ) (n : Node) → rank n < d
      → IsSettledBy e net ms n → decided_by d net ms n ≡ true
  by_full rank falls zero e n lt s = absurd (omega arith)
  by_full rank falls (suc d) zero n lt s = absurd s
  by_full rank falls (suc d) (suc e) n lt s =
      and_from (is_match net ms n) (all_nodes (decided_by d net ms) (net.inputs n))
      ((match_is net ms n).1 s.0)
      (all_from (decided_by d net ms) (λ m. (rank m < rank n) × IsSettledBy e net ms m)
      (λ m t. by_full rank falls d e m (omega (arith, t.0, lt)) t.1) (net.inputs n)
      (each_two (λ m. rank m < rank n) (IsSettledBy e net ms) (input_nodes (net.inputs n)) (falls n)
      s.1))

  pub decides : (rank : Node → ℕ) → Falls net rank → (n : Node)
      → (decided_by (rank n + 1) net ms n ≡ true) ↔ IsSettled net ms n
  decides rank falls n = (
    (λ t. (rank n + 1, by_sound (rank n + 1) n t)),
    (λ s. by_full rank falls (rank n + 1) s.0 n (omega arith) s.1),
  )

-- open claims stay apart, and their numbers were given
pub record AreApart {V G : Type 0} (s : MemoState V G) : Type 0 where
  pub fresh : IsFreshFrom s.memos s.claims
  pub numbered : AreClaimsNumbered s.taken s.claims

accepts_apart : {V G : Type 0} (old new : MemoState V G) (r : Return V G) → AreApart old
    → Accepts old r new → AreApart new
accepts_apart {V} {G} old new r w a = record {
  fresh = accepts_fresh old new r w.fresh a;
  numbered =
      rw a.after (numbered_later old.taken (without_claim r.claim old.claims)
      (numbered_closed old.taken r.claim old.claims w.numbered));
}

closed_apart : {V G : Type 0} (net : Net G) (ms : List (Memo V)) (cs : List OpenClaim) (taken n : ℕ)
    → IsFreshFrom ms cs → AreClaimsNumbered taken cs
    → AreApart (record { net = net; memos = ms; claims = without_claim n cs; taken = taken })
closed_apart net ms cs taken n f a =
    record { fresh = fresh_closed ms n cs f; numbered = numbered_closed taken n cs a }

finish_apart : {V G : Type 0} (old new : MemoState V G) (r : Return V G) (f : Finish) → AreApart old
    → FinishesReturn old r f new → AreApart new
finish_apart old new r Unknown w h = rw h.1 w
finish_apart old new r (Stale stamp) w h =
    rw h.3 (closed_apart old.net old.memos old.claims old.taken r.claim w.fresh w.numbered)
finish_apart old new r Same w h = accepts_apart old new r w h.0
finish_apart old new r (Stored names) w h = accepts_apart old new r w h.0

lose_apart : {V G : Type 0} (old new : MemoState V G) (n : ℕ) (b : Bool) → AreApart old
    → Loses old n b new → AreApart new
lose_apart old new n true w h =
    rw h.2 (closed_apart old.net old.memos old.claims old.taken n w.fresh w.numbered)
lose_apart old new n false w h = rw h.1 w

gives_apart : {V G : Type 0} (old new : MemoState V G) (number : ℕ) (n : Node) (given : G)
    (keys : List Key) (values : List V) → AreApart old
    → Gives old number n given keys values new → AreApart new
gives_apart old new number n given keys values w g = record {
  fresh = gives_fresh old new number n given keys values w.fresh g;
  numbered =
      rw (g.after, g.number_is) (numbered_opened old.taken
      (record {
        number = old.taken + 1;
        node = n;
        inputs = present_inputs old.net old.memos (old.net.inputs n);
      }) old.claims refl
      w.numbered);
}

edits_apart : {V G : Type 0} (keep : Node → Bool) (old new : MemoState V G) → AreApart old
    → Edits keep old new → AreApart new
edits_apart keep old new w h = record {
  fresh = rw (h.memos, h.claims) (keep_fresh keep old.memos old.claims w.fresh);
  numbered = rw (h.claims, h.taken) (numbered_later old.taken old.claims w.numbered);
}

renew_apart : {V G : Type 0} (old new : MemoState V G)
    → new ≡ record { net = old.net; memos = []; claims = []; taken = old.taken } → AreApart new
renew_apart old new h = rw h (record { fresh = tt; numbered = tt })

module _ {T E V G : Type 0} (means : TextsMeaning T E V G) where
  step_apart : (old new : Bench T V) (e : MemoEvent E V G) → AreApart (state_in means old)
      → Step means old e new → AreApart (state_in means new)
  step_apart old new (Edit e) w h =
      edits_apart (means.keeps new.texts) (state_in means old) (state_in means new) w h.1
  step_apart old new (Claim number n given keys values) w h =
      gives_apart (state_in means old) (state_in means new) number n given keys values w h.1
  step_apart old new NoClaim w h = rw h.1 w
  step_apart old new (Returned r answer) w h =
      finish_apart (state_in means old) (state_in means new) r answer w h.2
  step_apart old new (Lose n answer) w h =
      lose_apart (state_in means old) (state_in means new) n answer w h.1
  step_apart old new Renew w h = renew_apart (state_in means old) (state_in means new) h.1
  step_apart old new Refused w h =
      record {
        fresh = rw (h.memos, h.claims) w.fresh;
        numbered = rw (h.claims, h.taken) w.numbered;
      }

  pub run_apart : (es : List (MemoEvent E V G)) (old new : Bench T V) → AreApart (state_in means old)
      → MemoRun means old es new → AreApart (state_in means new)
  run_apart [] old new w h = rw h w
  run_apart (e ∷ es) old new w h = run_apart es h.0 new (step_apart old h.0 e w h.1) h.2

-- a claim with a number above the first has settled inputs
abbrev HasSettledInputs : {V G : Type 0} → ℕ → Net G → List (Memo V) → OpenClaim → Type 0
HasSettledInputs first net ms c =
    first < c.number → Each (IsSettled net ms) (input_nodes (net.inputs c.node))

abbrev AreReady : {V G : Type 0} → ℕ → Net G → List (Memo V) → List OpenClaim → Type 0
AreReady first net ms cs = Each (HasSettledInputs first net ms) cs

each_last : (P : OpenClaim → Type 0) (cs : List OpenClaim) (c : OpenClaim) → Each P cs → P c
    → Each P (cs ++ c ∷ [])
each_last P [] c e p = (p, tt)
each_last P (d ∷ cs) c e p = (e.0, each_last P cs c e.1 p)

each_on : (P Q : OpenClaim → Type 0) → ((c : OpenClaim) → P c → Q c) → (cs : List OpenClaim)
    → Each P cs → Each Q cs
each_on P Q f [] e = tt
each_on P Q f (c ∷ cs) e = (f c e.0, each_on P Q f cs e.1)

nodes_on : (P Q : Node → Type 0) → ((n : Node) → P n → Q n) → (ns : List Node) → Each P ns
    → Each Q ns
nodes_on P Q f [] e = tt
nodes_on P Q f (n ∷ ns) e = (f n e.0, nodes_on P Q f ns e.1)

-- what holds of each claim holds of the one that is found, which has the number
found_each : (P : OpenClaim → Type 0) (n : ℕ) (cs : List OpenClaim) (c : OpenClaim) → Each P cs
    → claim_of n cs ≡ Some c → P c × (n ≡ c.number)
found_each P n [] c e h = absurd (none h)
  where
    none : None ≡ Some c → ⊥
    none e = cc
found_each P n (d ∷ cs) c e h = elim (cases_Bool (n == d.number)) [
  | inl t ↦ (let q : d ≡ c = some_inj d c (rw t at h) in
      subst (λ (x : OpenClaim). P x × (n ≡ x.number)) q (e.0, eqb-true n d.number t))
  | inr f ↦ found_each P n cs c e.1 (rw f at h)
]
  where
    some_inj : (x y : OpenClaim) → Some x ≡ Some y → x ≡ y
    some_inj x y h = cc

-- an accepted return unsettles none
accept_others : {V G : Type 0} (old new : MemoState V G) (r : Return V G)
    → IsFreshFrom old.memos old.claims → Accepts old r new → (k : Node)
    → IsSettled old.net old.memos k → IsSettled new.net new.memos k
accept_others {V} old new r fresh a k s =
    let m : Memo V = record { node = r.node; inputs = a.claim.inputs; outputs = a.outputs } in
    let before = accept_unsettled old new r fresh a in
    rw a.after (s.0, settled_stays old.net old.memos m before s.0 k s.1)

-- a state in which the claims above the first number have settled inputs
pub record IsWorking {V G : Type 0} (first : ℕ) (s : MemoState V G) : Type 0 where
  pub apart : AreApart s
  pub low : first ≤ s.taken
  pub ready : AreReady first s.net s.memos s.claims

accepts_ready : {V G : Type 0} (first : ℕ) (old new : MemoState V G) (r : Return V G)
    → IsFreshFrom old.memos old.claims → AreReady first old.net old.memos old.claims
    → Accepts old r new → AreReady first new.net new.memos new.claims
accepts_ready {V} {G} first old new r fresh ready a =
    let m : Memo V = record { node = r.node; inputs = a.claim.inputs; outputs = a.outputs } in
    let before = accept_unsettled old new r fresh a in
    let still : (k : Node) → IsSettled old.net old.memos k → IsSettled old.net (put_memo m old.memos) k = λ k s. (s.0, settled_stays old.net old.memos m before s.0 k s.1) in
    let one : (c : OpenClaim) → HasSettledInputs first old.net old.memos c → HasSettledInputs first old.net (put_memo m old.memos) c =
    λ c f lt. nodes_on (IsSettled old.net old.memos) (IsSettled old.net (put_memo m old.memos))
    still (input_nodes (old.net.inputs c.node)) (f lt) in
    rw a.after (each_closed (HasSettledInputs first old.net (put_memo m old.memos)) r.claim
    old.claims
    (each_on (HasSettledInputs first old.net old.memos)
    (HasSettledInputs first old.net (put_memo m old.memos)) one old.claims ready))

accepts_works : {V G : Type 0} (first : ℕ) (old new : MemoState V G) (r : Return V G)
    → IsWorking first old → Accepts old r new → IsWorking first new
accepts_works first old new r w a = record {
  apart = accepts_apart old new r w.apart a;
  low = (let l = w.low in rw a.after (omega arith));
  ready = accepts_ready first old new r (w.apart).fresh w.ready a;
}

closed_works : {V G : Type 0} (first : ℕ) (old : MemoState V G) (n : ℕ) → IsWorking first old
    → IsWorking first (record {
      net = old.net;
      memos = old.memos;
      claims = without_claim n old.claims;
      taken = old.taken;
    })
closed_works first old n w = record {
  apart = closed_apart old.net old.memos old.claims old.taken n (w.apart).fresh (w.apart).numbered;
  low = w.low;
  ready = each_closed (HasSettledInputs first old.net old.memos) n old.claims w.ready;
}

finish_works : {V G : Type 0} (first : ℕ) (old new : MemoState V G) (r : Return V G) (f : Finish)
    → IsWorking first old → FinishesReturn old r f new → IsWorking first new
finish_works first old new r Unknown w h = rw h.1 w
finish_works first old new r (Stale stamp) w h = rw h.3 (closed_works first old r.claim w)
finish_works first old new r Same w h = accepts_works first old new r w h.0
finish_works first old new r (Stored names) w h = accepts_works first old new r w h.0

lose_works : {V G : Type 0} (first : ℕ) (old new : MemoState V G) (n : ℕ) (b : Bool)
    → IsWorking first old → Loses old n b new → IsWorking first new
lose_works first old new n true w h = rw h.2 (closed_works first old n w)
lose_works first old new n false w h = rw h.1 w

gives_ready : {V G : Type 0} (first : ℕ) (old new : MemoState V G) (number : ℕ) (n : Node) (given : G)
    (keys : List Key) (values : List V) → AreReady first old.net old.memos old.claims
    → Gives old number n given keys values new → AreReady first new.net new.memos new.claims
gives_ready first old new number n given keys values ready g =
    rw g.after (each_last (HasSettledInputs first old.net old.memos) old.claims
    (record {
      number = number;
      node = n;
      inputs = present_inputs old.net old.memos (old.net.inputs n);
    }) ready
    (λ lt. g.work.inputs_settled))

gives_works : {V G : Type 0} (first : ℕ) (old new : MemoState V G) (number : ℕ) (n : Node) (given : G)
    (keys : List Key) (values : List V) → IsWorking first old
    → Gives old number n given keys values new → IsWorking first new
gives_works first old new number n given keys values w g = record {
  apart = gives_apart old new number n given keys values w.apart g;
  low = (let l = w.low in rw (g.after, g.number_is) (omega arith));
  ready = gives_ready first old new number n given keys values w.ready g;
}

-- what was settled still is, and by so many the number of unsettled used nodes falls
pub record Lowers {V G : Type 0} (by : ℕ) (old new : MemoState V G) (p q : Node → Bool) : Type 0 where
  pub still : (n : Node) → p n ≡ true → q n ≡ true
  pub fewer : by + count_unsettled q new.net.used ≤ count_unsettled p old.net.used

same_lowers : {V G : Type 0} (old new : MemoState V G) (p q : Node → Bool) → new.net ≡ old.net
    → new.memos ≡ old.memos → DecidesSettled old p → DecidesSettled new q → Lowers 0 old new p q
same_lowers {V} {G} old new p q net memos before after =
    let still : (n : Node) → p n ≡ true → q n ≡ true = λ n t. (after n).1 (rw (net, memos) ((before n).0 t)) in
    let fewer = count_no_more p q still old.net.used in
    record { still = still; fewer = rw net (omega (arith, fewer)) }

accept_lowers : {V G : Type 0} (first : ℕ) (numbers : List ℕ) (old new : MemoState V G) (r : Return V G)
    (p q : Node → Bool) → (has_number r.claim numbers ≡ true → first < r.claim)
    → IsWorking first old → Accepts old r new
    → DecidesSettled old p → DecidesSettled new q
    → Lowers (if has_number r.claim numbers then 1 else 0) old new p q
accept_lowers {V} {G} first numbers old new r p q above w a before after =
    let net : new.net ≡ old.net = ap (λ (s : MemoState V G). s.net) a.after in
    let still : (n : Node) → p n ≡ true → q n ≡ true = λ n t. (after n).1 (accept_others old new r (w.apart).fresh a n ((before n).0 t)) in
    elim (cases_Bool (has_number r.claim numbers)) [
      | inl t ↦ (let c =
          found_each (HasSettledInputs first old.net old.memos) r.claim old.claims a.claim w.ready
          a.out.found in
          let ins : Each (IsSettled old.net old.memos) (input_nodes (old.net.inputs r.node)) = rw a.out.same at (c.0 (subst (λ (k : ℕ). first < k) c.1 (above t))) in
          let less = progress_lowers old new r p q before after (w.apart).fresh a ins in
          record { still = still; fewer = rw (t, net) (omega (arith, less)) })
      | inr f ↦ (let fewer = count_no_more p q still old.net.used in
          record { still = still; fewer = rw (f, net) (omega (arith, fewer)) })
    ]

finish_lowers : {V G : Type 0} (first : ℕ) (numbers : List ℕ) (old new : MemoState V G) (r : Return V G)
    (f : Finish) (p q : Node → Bool) → (has_number r.claim numbers ≡ true → first < r.claim)
    → IsWorking first old → FinishesReturn old r f new
    → DecidesSettled old p → DecidesSettled new q
    → Lowers (if is_accepted f && has_number r.claim numbers then 1 else 0) old new p q
finish_lowers {V} {G} first numbers old new r Unknown p q above w h before after =
    same_lowers old new p q (ap (λ (s : MemoState V G). s.net) h.1)
    (ap (λ (s : MemoState V G). s.memos) h.1) before after
finish_lowers {V} {G} first numbers old new r (Stale stamp) p q above w h before after =
    same_lowers old new p q (ap (λ (s : MemoState V G). s.net) h.3)
    (ap (λ (s : MemoState V G). s.memos) h.3) before after
finish_lowers first numbers old new r Same p q above w h before after =
    accept_lowers first numbers old new r p q above w h.0 before after
finish_lowers first numbers old new r (Stored names) p q above w h before after =
    accept_lowers first numbers old new r p q above w h.0 before after

lose_lowers : {V G : Type 0} (old new : MemoState V G) (n : ℕ) (b : Bool) (p q : Node → Bool)
    → Loses old n b new → DecidesSettled old p → DecidesSettled new q → Lowers 0 old new p q
lose_lowers {V} {G} old new n true p q h before after =
    same_lowers old new p q (ap (λ (s : MemoState V G). s.net) h.2)
    (ap (λ (s : MemoState V G). s.memos) h.2) before after
lose_lowers {V} {G} old new n false p q h before after =
    same_lowers old new p q (ap (λ (s : MemoState V G). s.net) h.1)
    (ap (λ (s : MemoState V G). s.memos) h.1) before after

gives_lowers : {V G : Type 0} (old new : MemoState V G) (number : ℕ) (n : Node) (given : G)
    (keys : List Key) (values : List V) (p q : Node → Bool)
    → Gives old number n given keys values new → DecidesSettled old p → DecidesSettled new q
    → Lowers 0 old new p q
gives_lowers {V} {G} old new number n given keys values p q g before after =
    same_lowers old new p q (ap (λ (s : MemoState V G). s.net) g.after)
    (ap (λ (s : MemoState V G). s.memos) g.after) before after

-- a number that is given is in the rest or is the event's
either_number : (n : ℕ) (m : ℕ) (ms : List ℕ) → has_number n (m ∷ ms) ≡ true
    → (n ≡ m) ⊎ (has_number n ms ≡ true)
either_number n m ms h =
    elim (cases_Bool (n == m)) [ inl t ↦ inl (eqb-true n m t) | inr f ↦ inr (rw f at h) ]

module _ {T E V G : Type 0} (means : TextsMeaning T E V G) where
  -- the claims that a list gives have numbers above those taken before it
  given_above : (first : ℕ) (es : List (MemoEvent E V G)) (old new : Bench T V) → first ≤ old.taken
      → MemoRun means old es new → (n : ℕ) → has_number n (numbers_given es) ≡ true → first < n
  given_above first [] old new low h n has = absurd (false_true has)
  given_above first (Edit e ∷ es) old new low h n has =
      let more = (step_goes means old h.0 (Edit e) h.1).more in
      given_above first es h.0 new (omega (arith, more)) h.2 n has
  given_above first (Claim number m given keys values ∷ es) old new low h n has =
      let more = (step_goes means old h.0 (Claim number m given keys values) h.1).more in
      let is : number ≡ old.taken + 1 = ((h.1).1).number_is in
      elim (either_number n number (numbers_given es) has) [
        | inl e ↦ omega (arith, e, is, low)
        | inr
            rest ↦ given_above first es h.0 new (omega (arith, more)) h.2 n rest
      ]
  given_above first (NoClaim ∷ es) old new low h n has =
      let more = (step_goes means old h.0 NoClaim h.1).more in
      given_above first es h.0 new (omega (arith, more)) h.2 n has
  given_above first (Returned r answer ∷ es) old new low h n has =
      let more = (step_goes means old h.0 (Returned r answer) h.1).more in
      given_above first es h.0 new (omega (arith, more)) h.2 n has
  given_above first (Lose m answer ∷ es) old new low h n has =
      let more = (step_goes means old h.0 (Lose m answer) h.1).more in
      given_above first es h.0 new (omega (arith, more)) h.2 n has
  given_above first (Renew ∷ es) old new low h n has =
      let more = (step_goes means old h.0 Renew h.1).more in
      given_above first es h.0 new (omega (arith, more)) h.2 n has
  given_above first (Refused ∷ es) old new low h n has =
      let more = (step_goes means old h.0 Refused h.1).more in
      given_above first es h.0 new (omega (arith, more)) h.2 n has

  step_works : (first : ℕ) (old new : Bench T V) (e : MemoEvent E V G) → IsJobEvent e
      → IsWorking first (state_in means old) → Step means old e new
      → IsWorking first (state_in means new)
  step_works first old new (Edit e) job w h = absurd job
  step_works first old new (Claim number n given keys values) job w h =
      gives_works first (state_in means old) (state_in means new) number n given keys values w h.1
  step_works first old new NoClaim job w h = rw h.1 w
  step_works first old new (Returned r answer) job w h =
      finish_works first (state_in means old) (state_in means new) r answer w h.2
  step_works first old new (Lose n answer) job w h =
      lose_works first (state_in means old) (state_in means new) n answer w h.1
  step_works first old new Renew job w h = absurd job
  step_works first old new Refused job w h = record {
    apart = step_apart means old new Refused w.apart h;
    low = omega (arith, w.low, h.taken);
    ready = rw (h.texts.net, h.memos, h.claims) w.ready;
  }

  step_valid : (old new : Bench T V) (e : MemoEvent E V G) → IsJobEvent e → means.is_valid old.texts
      → Step means old e new → means.is_valid new.texts
  step_valid old new (Edit e) job valid h = absurd job
  step_valid old new (Claim number n given keys values) job valid h = rw h.0 valid
  step_valid old new NoClaim job valid h = rw h.1 valid
  step_valid old new (Returned r answer) job valid h = rw h.1 valid
  step_valid old new (Lose n answer) job valid h = rw h.0 valid
  step_valid old new Renew job valid h = absurd job
  step_valid old new Refused job valid h = h.texts.valid valid

  step_lowers : (first : ℕ) (numbers : List ℕ) (old new : Bench T V) (e : MemoEvent E V G)
      (p q : Node → Bool) → ((n : ℕ) → has_number n numbers ≡ true → first < n) → IsJobEvent e
      → IsWorking first (state_in means old) → Step means old e new
      → DecidesSettled (state_in means old) p → DecidesSettled (state_in means new) q
      → Lowers (accepted_by numbers e) (state_in means old) (state_in means new) p q
  step_lowers first numbers old new (Edit e) p q above job w h before after = absurd job
  step_lowers first numbers old new (Claim number n given keys values) p q above job w h before
      after =
      gives_lowers (state_in means old) (state_in means new) number n given keys values p q h.1
      before after
  step_lowers first numbers old new NoClaim p q above job w h before after =
      same_lowers (state_in means old) (state_in means new) p q
      (ap (λ (b : Bench T V). means.net b.texts) h.1) (ap (λ (b : Bench T V). b.memos) h.1)
      before after
  step_lowers first numbers old new (Returned r answer) p q above job w h before after =
      finish_lowers first numbers (state_in means old) (state_in means new) r answer p q
      (above r.claim) w h.2 before after
  step_lowers first numbers old new (Lose n answer) p q above job w h before after =
      lose_lowers (state_in means old) (state_in means new) n answer p q h.1 before after
  step_lowers first numbers old new Renew p q above job w h before after = absurd job
  step_lowers first numbers old new Refused p q above job w h before after =
      same_lowers (state_in means old) (state_in means new) p q h.texts.net h.memos before after

-- what texts owe: ranks fall, and the input nodes of used nodes are used
pub record HasRanks {T E V G : Type 0} (means : TextsMeaning T E V G) (rank : T → Node → ℕ)
    : Type 0 where
  pub falls : (t : T) → means.is_valid t → Falls (means.net t) (rank t)
  pub used_closed : (t : T) → means.is_valid t → IsUsedClosed (means.net t)

module _ {T E V G : Type 0} (means : TextsMeaning T E V G) (rank : T → Node → ℕ)
    (ranks : HasRanks means rank) where
  abbrev decision : Bench T V → Node → Bool
  decision b n = decided_by (rank b.texts n + 1) (means.net b.texts) b.memos n

  decision_is : (b : Bench T V) → means.is_valid b.texts
      → DecidesSettled (state_in means b) (decision b)
  decision_is b valid n =
      decides (means.net b.texts) b.memos (rank b.texts) (ranks.falls b.texts valid) n

  run_lowers : (first : ℕ) (numbers : List ℕ) (es : List (MemoEvent E V G)) (old new : Bench T V)
      (p q : Node → Bool) → ((n : ℕ) → has_number n numbers ≡ true → first < n)
      → means.is_valid old.texts → Each IsJobEvent es → IsWorking first (state_in means old)
      → MemoRun means old es new → DecidesSettled (state_in means old) p
      → DecidesSettled (state_in means new) q
      → Lowers (accepted_count numbers es) (state_in means old) (state_in means new) p q
  run_lowers first numbers [] old new p q above valid jobs w h before after =
      same_lowers (state_in means old) (state_in means new) p q
      (ap (λ (b : Bench T V). means.net b.texts) h) (ap (λ (b : Bench T V). b.memos) h) before
      after
  run_lowers first numbers (e ∷ es) old new p q above valid jobs w h before after =
      let mid = h.0 in
      let later : means.is_valid mid.texts = step_valid means old mid e jobs.0 valid h.1 in
      let now = decision_is mid later in
      let one = step_lowers means first numbers old mid e p (decision mid) above jobs.0 w h.1 before now in
      let rest = run_lowers first numbers es mid new (decision mid) q above later jobs.1 (step_works means first old mid e jobs.0 w h.1) h.2 now after in
      record { still = λ n t. rest.still n (one.still n t); fewer = omega (arith, one.fewer, rest.fewer) }

module _ {T E V G : Type 0} (means : TextsMeaning T E V G) (keeps : IsLawfulMeaning means) (rank : T → Node → ℕ)
    (ranks : HasRanks means rank) where
  valid_after : (es : List (MemoEvent E V G)) (first end : Bench T V)
      → IsNewBench means.is_valid means.net first → MemoRun means first es end → means.is_valid end.texts
  valid_after es first end s h =
      (run_since means keeps es first end first.texts
      (s.valid, keeps.since_same first.texts s.valid) h).0

  works_after : (es : List (MemoEvent E V G)) (first end : Bench T V)
      → IsNewBench means.is_valid means.net first → MemoRun means first es end
      → IsWorking end.taken (state_in means end)
  works_after es first end s h =
      let apart = run_apart means es first end (record { fresh = rw s.no_claims tt; numbered = rw s.no_claims tt }) h in
      record { apart = apart; low = omega arith; ready = none_above end.claims apart.numbered }
    where
      none_above : (cs : List OpenClaim) → AreClaimsNumbered end.taken cs
          → AreReady end.taken (means.net end.texts) end.memos cs
      none_above [] a = tt
      none_above (c ∷ cs) a = ((λ lt. absurd (omega (arith, lt, a.0))), none_above cs a.1)

  bounded : WorkIsBounded means
  bounded earlier es first start end p q s run more jobs before after =
      (run_lowers means rank ranks start.taken (numbers_given es) es start end p q
      (given_above means start.taken es start end (omega arith) more)
      (valid_after earlier first start s run) jobs (works_after earlier first start s run)
      more before after).fewer

  unsettles_none : WorkUnsettlesNone means
  unsettles_none earlier es first start end s run more jobs n settled =
      let now = decision_is means rank ranks start (valid_after earlier first start s run) in
      let later = decision_is means rank ranks end (run_valid es start end (valid_after earlier first start s run) more) in
      let low = run_lowers means rank ranks start.taken [] es start end (decision means rank ranks start) (decision means rank ranks end) (λ n has. absurd (false_true has)) (valid_after earlier first start s run) jobs (works_after earlier first start s run) more now later in
      (later n).0 (low.still n ((now n).1 settled))
    where
      run_valid : (es : List (MemoEvent E V G)) (old new : Bench T V) → means.is_valid old.texts
          → MemoRun means old es new → means.is_valid new.texts
      run_valid es old new valid h =
          (run_since means keeps es old new old.texts (valid, keeps.since_same old.texts valid) h).0

  decided : SettledIsDecided means
  decided es first end s run = (
    decision means rank ranks end,
    decision_is means rank ranks end (valid_after es first end s run),
  )

  quiet_run : QuietRunIsSettled means
  quiet_run es first before end s run step quiet n has =
      let valid = valid_after es first before s run in
      let has_before : Has (means.net before.texts).used n = subst (λ (b : Bench T V). Has (means.net b.texts).used n) step.1 has in
      let is = all_quiet (state_in means before) (rank before.texts) (ranks.falls before.texts valid) (ranks.used_closed before.texts valid) quiet step.0 (rank before.texts n + 1) n (omega arith) has_before in
      subst (λ (b : Bench T V). IsSettled (means.net b.texts) b.memos n) (sym step.1) is

  finish_less : (old new : Bench T V) (r : Return V G) (answer : Finish) (p q : Node → Bool)
      → IsFreshFrom old.memos old.claims
      → FinishesReturn (state_in means old) r answer (state_in means new) → is_accepted answer ≡ true
      → Each (IsSettled (means.net old.texts) old.memos)
      (input_nodes ((means.net old.texts).inputs r.node))
      → DecidesSettled (state_in means old) p → DecidesSettled (state_in means new) q
      → count_unsettled q (means.net old.texts).used
      < count_unsettled p (means.net old.texts).used
  finish_less old new r Unknown p q fresh h accepted ins before after = absurd (false_true accepted)
  finish_less old new r (Stale stamp) p q fresh h accepted ins before after =
      absurd (false_true accepted)
  finish_less old new r Same p q fresh h accepted ins before after =
      progress_lowers (state_in means old) (state_in means new) r p q before after fresh h.0 ins
  finish_less old new r (Stored names) p q fresh h accepted ins before after =
      progress_lowers (state_in means old) (state_in means new) r p q before after fresh h.0 ins

  lowers_in_runs : ReturnsLowerInRuns means
  lowers_in_runs es first old new r answer p q s run step accepted ins before after =
      let apart = (works_after es first old s run).apart in
      let less = finish_less old new r answer p q apart.fresh step.2 accepted ins before after in
      subst
      (λ (t : T). count_unsettled q (means.net t).used
      < count_unsettled p (means.net old.texts).used)
      (sym step.1) less

  pub exact_laws : ReturnsLowerInRuns means × WorkIsBounded means × WorkUnsettlesNone means
      × SettledIsDecided means × QuietRunIsSettled means
  exact_laws = (lowers_in_runs, bounded, unsettles_none, decided, quiet_run)
