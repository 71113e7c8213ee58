-- The claims that a list of job events gives stay ready: their nodes are used, with settled inputs,
-- which are the present ones.
use Rattle.std.proofs.Common.{◌≡◌, ℕ, ◌<◌, inl, inr, Bool, true, false, ◌==◌, List, [], ◌∷◌, ◌++◌, Option, Some, None, refl, ap, sym, subst, ◌∙◌, eqb-true, arith}
use Rattle.std.specs.List.{AllByRecursion as Each}
use Rattle.std.proofs.lemmas.Bool.{cases_Bool}
use Rattle.memo_core.specs.declared.keys.Node.{Node}
use Rattle.memo_core.specs.declared.keys.Key.{Key}
use Rattle.memo_core.specs.declared.keys.Key.TheVariants.{Part, Output}
use Rattle.memo_core.specs.declared.keys.Input.{Input}
use Rattle.memo_core.specs.declared.claims.Finish.{Finish}
use Rattle.memo_core.specs.declared.claims.Finish.TheVariants.{Unknown, Stale, Same, Stored}
use Rattle.memo_core.specs.Names.{same_node}
use Rattle.memo_core.specs.Graph.{Memo, Net, stored_output, at, present_inputs, input_nodes, put_memo, IsSettled}
use Rattle.memo_core.specs.Right.{ArePresent}
use Rattle.memo_core.specs.Step.{OpenClaim, MemoState, Return, Has, claim_of, without_claim, IsStale, AreClaimsNumbered, Accepts, FinishesReturn, Gives, Loses}
use Rattle.memo_core.specs.Run.{Bench, MemoEvent, Edit, Claim, NoClaim, Returned, Lose, Renew, Refused, IsFreshFrom, IsNewBench, TextsMeaning, MemoRun, Step, state_in}
use Rattle.memo_core.specs.Work.{IsJobEvent}
use Rattle.memo_core.proofs.Exact.{AreApart, run_apart}
use Rattle.memo_core.proofs.Headline.{settled_stays, same_present}
use Rattle.memo_core.proofs.Progress.{accept_unsettled, each_closed, one_depth}
use Rattle.memo_core.proofs.Tests.{same_node_exact}
use Rattle.memo_core.proofs.Theory.{put_other}

pub each_on : {X : Type 0} (P Q : X → Type 0) → ((x : X) → P x → Q x) → (xs : List X) → Each P xs
    → Each Q xs
each_on P Q f [] all = tt
each_on P Q f (x ∷ xs) all = (f x all.0, each_on P Q f xs all.1)

pub each_last : {X : Type 0} (P : X → Type 0) (xs : List X) (x : X) → Each P xs → P x
    → Each P (xs ++ x ∷ [])
each_last P [] x all p = (p, tt)
each_last P (y ∷ ys) x all p = (all.0, each_last P ys x all.1 p)

-- what holds of each claim holds of the one that is found, which has the number
pub found_in : (P : OpenClaim → Type 0) (n : ℕ) (cs : List OpenClaim) (c : OpenClaim) → Each P cs
    → claim_of n cs ≡ Some c → P c × (n ≡ c.number)
found_in P n [] c all h = absurd (none h)
  where
    none : None ≡ Some c → ⊥
    none e = cc
found_in P n (d ∷ cs) c all h = elim (cases_Bool (n == d.number)) [
  | inl t ↦ (let q : d ≡ c = some_inj d c (rw t at h) in
      subst (λ (x : OpenClaim). P x × (n ≡ x.number)) q (all.0, eqb-true n d.number t))
  | inr f ↦ found_in P n cs c all.1 (rw f at h)
]
  where
    some_inj : (x y : OpenClaim) → Some x ≡ Some y → x ≡ y
    some_inj x y h = cc

-- ---- what an accepted return leaves

module _ {V G : Type 0} (net : Net G) (ms : List (Memo V)) (new : Memo V)
    (unsettled : IsSettled net ms new.node → ⊥) where
  other : (n : Node) → IsSettled net ms n → same_node n new.node ≡ false
  other n s = elim (cases_Bool (same_node n new.node)) [
    | inl t ↦ absurd (unsettled (subst (λ (m : Node). IsSettled net ms m)
        (same_node_exact n new.node t) s))
    | inr f ↦ f
  ]

  -- the values of settled inputs stay present
  values_stay : (ks : List Key) (vs : List V) → Each (IsSettled net ms) (input_nodes ks)
      → ArePresent (at ms) ks vs → ArePresent (at (put_memo new ms)) ks vs
  values_stay [] [] s p = tt
  values_stay [] (v ∷ vs) s p = p
  values_stay (Part a b ∷ ks) vs s p = values_stay ks vs s p
  values_stay (Output n x ∷ ks) [] s p = p
  values_stay (Output n x ∷ ks) (v ∷ vs) s p = (
    ((p.0).0, ap (stored_output x) (put_other new n ms (other n s.0)) ∙ (p.0).1),
    values_stay ks vs s.1 p.1,
  )

-- the node is used and its inputs are settled, and these are its present inputs
pub record IsReady {V G : Type 0} (s : MemoState V G) (n : Node) (inputs : List Input) : Type 0 where
  pub used : Has s.net.used n
  pub settled : Each (IsSettled s.net s.memos) (input_nodes (s.net.inputs n))
  pub present : inputs ≡ present_inputs s.net s.memos (s.net.inputs n)

-- what the job of a node is given now
pub record IsJobNow {V G : Type 0} (s : MemoState V G) (n : Node) (given : G) (keys : List Key)
    (values : List V) : Type 0 where
  pub gives : s.net.gives n given ≡ true
  pub keys_are : keys ≡ s.net.inputs n
  pub settled : Each (IsSettled s.net s.memos) (input_nodes (s.net.inputs n))
  pub present : ArePresent (at s.memos) (s.net.inputs n) values

module _ {V G : Type 0} (old new : MemoState V G) (r : Return V G)
    (fresh : IsFreshFrom old.memos old.claims) (a : Accepts old r new) where
  abbrev stored : Memo V
  stored = record { node = r.node; inputs = a.claim.inputs; outputs = a.outputs }

  pub accept_stays : (n : Node) → IsSettled old.net old.memos n → IsSettled new.net new.memos n
  accept_stays n s =
      let before = accept_unsettled old new r fresh a in
      rw a.after (s.0, settled_stays old.net old.memos stored before s.0 n s.1)

  each_stays : (ns : List Node) → Each (IsSettled old.net old.memos) ns
      → Each (IsSettled new.net new.memos) ns
  each_stays ns s =
      each_on (IsSettled old.net old.memos) (IsSettled new.net new.memos) accept_stays ns s

  pub net_stays : new.net ≡ old.net
  net_stays = ap (λ (s : MemoState V G). s.net) a.after

  accept_ready : (n : Node) (is : List Input) → IsReady old n is → IsReady new n is
  accept_ready n is h =
      let before = accept_unsettled old new r fresh a in
      let depth = one_depth old.net old.memos (input_nodes (old.net.inputs n)) h.settled in
      let same : is ≡ present_inputs old.net (put_memo stored old.memos) (old.net.inputs n) = h.present ∙ sym (same_present old.net old.memos stored before depth.0 (old.net.inputs n) depth.1) in
      record {
        used = rw net_stays h.used;
        settled =
            subst (λ (net : Net G). Each (IsSettled new.net new.memos) (input_nodes (net.inputs n)))
            (sym net_stays) (each_stays (input_nodes (old.net.inputs n)) h.settled);
        present = rw a.after same;
      }

  pub accept_job : (n : Node) (given : G) (keys : List Key) (values : List V)
      → IsJobNow old n given keys values → IsJobNow new n given keys values
  accept_job n given keys values h =
      let before = accept_unsettled old new r fresh a in
      record {
        gives = rw net_stays h.gives;
        keys_are = rw net_stays h.keys_are;
        settled =
            subst (λ (net : Net G). Each (IsSettled new.net new.memos) (input_nodes (net.inputs n)))
            (sym net_stays) (each_stays (input_nodes (old.net.inputs n)) h.settled);
        present =
            rw a.after (values_stay old.net old.memos stored before (old.net.inputs n) values
            h.settled h.present);
      }

-- ---- claims above a number are ready

abbrev pub IsReadyAbove : {V G : Type 0} → ℕ → MemoState V G → OpenClaim → Type 0
IsReadyAbove first s c = first < c.number → IsReady s c.node c.inputs

abbrev pub AreReadyAbove : {V G : Type 0} → ℕ → MemoState V G → Type 0
AreReadyAbove first s = Each (IsReadyAbove first s) s.claims

-- a ready claim is not stale
pub not_stale : {V G : Type 0} (s : MemoState V G) (c : OpenClaim) (stamp : Option ℕ)
    → IsReady s c.node c.inputs → IsStale s c stamp → ⊥
not_stale s c None ready stale = stale ready.used
not_stale s c (Some stamp) ready stale = stale.1 ready.present

-- where the net and the memos are the same
ready_same : {V G : Type 0} (old new : MemoState V G) (n : Node) (is : List Input) → new.net ≡ old.net
    → new.memos ≡ old.memos → IsReady old n is → IsReady new n is
ready_same old new n is net memos h =
    record {
      used = rw net h.used;
      settled = rw (net, memos) h.settled;
      present = rw (net, memos) h.present;
    }

above_same : {V G : Type 0} (first : ℕ) (old new : MemoState V G) (cs : List OpenClaim)
    → new.net ≡ old.net → new.memos ≡ old.memos → Each (IsReadyAbove first old) cs
    → Each (IsReadyAbove first new) cs
above_same first old new cs net memos all =
    each_on (IsReadyAbove first old) (IsReadyAbove first new)
    (λ c f lt. ready_same old new c.node c.inputs net memos (f lt)) cs all

above_closed : {V G : Type 0} (first : ℕ) (old new : MemoState V G) (n : ℕ)
    → new ≡ record {
      net = old.net;
      memos = old.memos;
      claims = without_claim n old.claims;
      taken = old.taken;
    } → AreReadyAbove first old → AreReadyAbove first new
above_closed {V} {G} first old new n is all =
    let later = above_same first old new old.claims (ap (λ (s : MemoState V G). s.net) is) (ap (λ (s : MemoState V G). s.memos) is) all in
    subst (λ (cs : List OpenClaim). Each (IsReadyAbove first new) cs)
    (sym (ap (λ (s : MemoState V G). s.claims) is))
    (each_closed (IsReadyAbove first new) n old.claims later)

above_accepted : {V G : Type 0} (first : ℕ) (old new : MemoState V G) (r : Return V G)
    → IsFreshFrom old.memos old.claims → AreReadyAbove first old → Accepts old r new
    → AreReadyAbove first new
above_accepted {V} {G} first old new r fresh all a =
    let later = each_on (IsReadyAbove first old) (IsReadyAbove first new) (λ c f lt. accept_ready old new r fresh a c.node c.inputs (f lt)) old.claims all in
    subst (λ (cs : List OpenClaim). Each (IsReadyAbove first new) cs)
    (sym (ap (λ (s : MemoState V G). s.claims) a.after)) (each_closed (IsReadyAbove first new)
    r.claim old.claims later)

above_finished : {V G : Type 0} (first : ℕ) (old new : MemoState V G) (r : Return V G) (f : Finish)
    → IsFreshFrom old.memos old.claims → AreReadyAbove first old → FinishesReturn old r f new
    → AreReadyAbove first new
above_finished first old new r Unknown fresh all h = rw h.1 all
above_finished first old new r (Stale stamp) fresh all h =
    above_closed first old new r.claim h.3 all
above_finished first old new r Same fresh all h = above_accepted first old new r fresh all h.0
above_finished first old new r (Stored names) fresh all h =
    above_accepted first old new r fresh all h.0

above_lost : {V G : Type 0} (first : ℕ) (old new : MemoState V G) (n : ℕ) (b : Bool)
    → AreReadyAbove first old → Loses old n b new → AreReadyAbove first new
above_lost first old new n true all h = above_closed first old new n h.2 all
above_lost first old new n false all h = rw h.1 all

pub above_given : {V G : Type 0} (first : ℕ) (old new : MemoState V G) (number : ℕ) (n : Node)
    (given : G) (keys : List Key) (values : List V) → AreReadyAbove first old
    → Gives old number n given keys values new → AreReadyAbove first new
above_given {V} {G} first old new number n given keys values all g =
    let net : new.net ≡ old.net = ap (λ (s : MemoState V G). s.net) g.after in
    let memos : new.memos ≡ old.memos = ap (λ (s : MemoState V G). s.memos) g.after in
    let claim : OpenClaim = record { number = number; node = n; inputs = present_inputs old.net old.memos (old.net.inputs n) } in
    let ready : IsReady old n claim.inputs = record { used = g.work.used; settled = g.work.inputs_settled; present = refl } in
    let later = above_same first old new old.claims net memos all in
    subst (λ (cs : List OpenClaim). Each (IsReadyAbove first new) cs)
    (sym (ap (λ (s : MemoState V G). s.claims) g.after))
    (each_last (IsReadyAbove first new) old.claims claim later
    (λ lt. ready_same old new n claim.inputs net memos ready))

-- claims whose numbers were given are not above the last number
pub above_none : {V G : Type 0} (s : MemoState V G) (cs : List OpenClaim) → AreClaimsNumbered s.taken cs
    → Each (IsReadyAbove s.taken s) cs
above_none s [] a = tt
above_none s (c ∷ cs) a = ((λ lt. absurd (omega (arith, lt, a.0))), above_none s cs a.1)

-- ---- over an event

module _ {T E V G : Type 0} (means : TextsMeaning T E V G) where
  -- the states before and after an event
  pub step_apart : (old new : Bench T V) (e : MemoEvent E V G) → AreApart (state_in means old)
      → Step means old e new → AreApart (state_in means new)
  step_apart old new e apart h = run_apart means (e ∷ []) old new apart (new, h, refl)

  pub step_above : (first : ℕ) (old new : Bench T V) (e : MemoEvent E V G) → IsJobEvent e
      → IsFreshFrom old.memos old.claims → AreReadyAbove first (state_in means old)
      → Step means old e new → AreReadyAbove first (state_in means new)
  step_above first old new (Edit e) job fresh all h = absurd job
  step_above first old new (Claim number n given keys values) job fresh all h =
      above_given first (state_in means old) (state_in means new) number n given keys values all h.1
  step_above first old new NoClaim job fresh all h = rw h.1 all
  step_above first old new (Returned r answer) job fresh all h =
      above_finished first (state_in means old) (state_in means new) r answer fresh all h.2
  step_above first old new (Lose n answer) job fresh all h =
      above_lost first (state_in means old) (state_in means new) n answer all h.1
  step_above first old new Renew job fresh all h = absurd job
  step_above first old new Refused job fresh all h =
      subst (λ (cs : List OpenClaim). Each (IsReadyAbove first (state_in means new)) cs)
      (sym h.claims)
      (above_same first (state_in means old) (state_in means new) old.claims h.texts.net h.memos
      all)

  pub apart_after : (es : List (MemoEvent E V G)) (first end : Bench T V)
      → IsNewBench means.is_valid means.net first → MemoRun means first es end
      → AreApart (state_in means end)
  apart_after es first end s run =
      run_apart means es first end
      (record { fresh = rw s.no_claims tt; numbered = rw s.no_claims tt }) run
