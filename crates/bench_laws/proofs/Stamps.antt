-- No stamp that is stored is above the last number that was taken.
use Rattle.std.proofs.Common.{ℕ, ◌+◌, ◌≤◌, Bool, true, false, List, [], ◌∷◌, ◌++◌, subst, sym, arith}
use Rattle.std.specs.List.{AllByRecursion as Each}
use Rattle.memo_core.specs.declared.keys.Node.{Node}
use Rattle.memo_core.specs.declared.keys.Key.{Key}
use Rattle.memo_core.specs.declared.keys.Input.{Input}
use Rattle.memo_core.specs.declared.claims.Finish.{Finish}
use Rattle.memo_core.specs.declared.claims.Finish.TheVariants.{Unknown, Stale, Same, Stored}
use Rattle.memo_core.specs.Graph.{at, present_inputs}
use Rattle.memo_core.specs.Right.{IsRightMemo}
use Rattle.memo_core.specs.Step.{OpenClaim, MemoState, Return, without_claim, Accepts, FinishesReturn, Gives, Loses}
use Rattle.memo_core.specs.Run.{Bench, MemoEvent, Edit, Claim, NoClaim, Returned, Lose, Renew, Refused, IsLawfulMeaning, IsNewBench, TextsMeaning, MemoRun, Step, counting_on, state_in}
use Rattle.memo_core.proofs.Exact.{run_apart}
use Rattle.memo_core.proofs.Headline.{stamps_low}
use Rattle.memo_core.proofs.Honest.{step_goes}
use Rattle.memo_core.proofs.Progress.{each_closed}
use Rattle.memo_core.proofs.Runs.{RightState, step_right}
use Rattle.bench_values.specs.Givens.{GivenContent}
use Rattle.bench_values.specs.Values.{NodeContent}
use Rattle.bench_texts.specs.declared.edit.Edit.{Edit as Code}
use Rattle.bench_instance.specs.StampedTexts.{AreSoundTexts, stamped_net}
use Rattle.bench_laws.specs.Live.{live_meaning}
use Rattle.bench_laws.specs.There.{LiveState}
use Rattle.bench_laws.specs.Stamps.{AreLow, HasLowStamps, ChangedOutputIsNewer}
use Rattle.bench_laws.proofs.Runs.{kept, right_after}

each_on : {X : Type 0} (P Q : X → Type 0) → ((x : X) → P x → Q x) → (xs : List X) → Each P xs
    → Each Q xs
each_on P Q f [] all = tt
each_on P Q f (x ∷ xs) all = (f x all.0, each_on P Q f xs all.1)

each_last : {X : Type 0} (P : X → Type 0) (xs : List X) (x : X) → Each P xs → P x
    → Each P (xs ++ x ∷ [])
each_last P [] x all p = (p, tt)
each_last P (y ∷ ys) x all p = (all.0, each_last P ys x all.1 p)

-- ---- claims

abbrev IsLow : ℕ → OpenClaim → Type 0
IsLow taken c = AreLow taken c.inputs

abbrev LowClaims : {V G : Type 0} → MemoState V G → Type 0
LowClaims s = Each (IsLow s.taken) s.claims

inputs_later : (taken : ℕ) (is : List Input) → AreLow taken is → AreLow (taken + 1) is
inputs_later taken is low =
    each_on (λ i. i.stamp ≤ taken) (λ i. i.stamp ≤ taken + 1) (λ i l. omega (arith, l)) is low

claims_later : (taken : ℕ) (cs : List OpenClaim) → Each (IsLow taken) cs
    → Each (IsLow (taken + 1)) cs
claims_later taken cs low =
    each_on (IsLow taken) (IsLow (taken + 1)) (λ c l. inputs_later taken c.inputs l) cs low

accepts_low : {V G : Type 0} (old new : MemoState V G) (r : Return V G) → LowClaims old
    → Accepts old r new → LowClaims new
accepts_low old new r low a =
    rw a.after (claims_later old.taken (without_claim r.claim old.claims)
    (each_closed (IsLow old.taken) r.claim old.claims low))

finish_low : {V G : Type 0} (old new : MemoState V G) (r : Return V G) (f : Finish) → LowClaims old
    → FinishesReturn old r f new → LowClaims new
finish_low old new r Unknown low h = rw h.1 low
finish_low old new r (Stale stamp) low h =
    rw h.3 (each_closed (IsLow old.taken) r.claim old.claims low)
finish_low old new r Same low h = accepts_low old new r low h.0
finish_low old new r (Stored names) low h = accepts_low old new r low h.0

lose_low : {V G : Type 0} (old new : MemoState V G) (n : ℕ) (b : Bool) → LowClaims old
    → Loses old n b new → LowClaims new
lose_low old new n true low h = rw h.2 (each_closed (IsLow old.taken) n old.claims low)
lose_low old new n false low h = rw h.1 low

gives_low : {V G : Type 0} (old new : MemoState V G) (number : ℕ) (n : Node) (given : G)
    (keys : List Key) (values : List V)
    → AreLow old.taken (present_inputs old.net old.memos (old.net.inputs n)) → LowClaims old
    → Gives old number n given keys values new → LowClaims new
gives_low old new number n given keys values present low g =
    let claim : OpenClaim = record { number = old.taken + 1; node = n; inputs = present_inputs old.net old.memos (old.net.inputs n) } in
    rw (g.after, g.number_is) (each_last (IsLow (old.taken + 1)) old.claims claim
    (claims_later old.taken old.claims low) (inputs_later old.taken claim.inputs present))

-- ---- any list of events

module _ {T E V G : Type 0} (means : TextsMeaning T E V G) (keeps : IsLawfulMeaning means) where
  abbrev IsRightBench : Bench T V → Type 0
  IsRightBench b = means.is_valid b.texts × RightState (counting_on means b.texts) (state_in means b)

  step_low : (old new : Bench T V) (e : MemoEvent E V G) → IsRightBench old
      → LowClaims (state_in means old) → Step means old e new → LowClaims (state_in means new)
  step_low old new (Edit e) right low h =
      rw (h.1.claims, h.1.taken) (claims_later old.taken old.claims low)
  step_low old new (Claim number n given keys values) right low h =
      gives_low (state_in means old) (state_in means new) number n given keys values
      (stamps_low (counting_on means old.texts) (means.net old.texts) old.memos old.taken right.1
      ((means.net old.texts).inputs n)) low h.1
  step_low old new NoClaim right low h = rw h.1 low
  step_low old new (Returned r answer) right low h =
      finish_low (state_in means old) (state_in means new) r answer low h.2
  step_low old new (Lose n answer) right low h =
      lose_low (state_in means old) (state_in means new) n answer low h.1
  step_low old new Renew right low h = subst (λ (s : MemoState V G). LowClaims s) (sym h.1) tt
  step_low old new Refused right low h = rw (h.claims, h.taken) low

  run_low : (es : List (MemoEvent E V G)) (old new : Bench T V) → IsRightBench old
      → LowClaims (state_in means old) → MemoRun means old es new → LowClaims (state_in means new)
  run_low [] old new right low h = rw h low
  run_low (e ∷ es) old new right low h =
      run_low es h.0 new (step_right means keeps old h.0 e right h.1)
      (step_low old h.0 e right low h.1) h.2

pub low_after : (events : List (MemoEvent Code NodeContent GivenContent)) (start end : LiveState)
    → IsNewBench AreSoundTexts stamped_net start → MemoRun live_meaning start events end → HasLowStamps end
low_after events start end s run =
    let right = (right_after events start end s run).1 in
    let memo = IsRightMemo (counting_on live_meaning end.texts) (at end.memos) end.taken in
    record {
      parts = right.parts;
      inputs = each_on memo (λ m. AreLow end.taken m.inputs) (λ m h. h.low) end.memos right.each;
      outputs =
          each_on memo (λ m. Each (λ o. o.stamp ≤ end.taken) m.outputs) (λ m h. h.stamps) end.memos
          right.each;
      claims =
          run_low live_meaning kept events start end
          (s.valid, record { each = rw s.no_memos tt; parts = s.parts }) (rw s.no_claims tt) run;
      numbers =
          (run_apart live_meaning events start end
          (record { fresh = rw s.no_claims tt; numbered = rw s.no_claims tt }) run).numbered;
    }

pub changed_newer : ChangedOutputIsNewer
changed_newer event old new step = (step_goes live_meaning old new event step).on
