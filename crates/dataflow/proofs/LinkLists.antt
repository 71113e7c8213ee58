-- From the words of the events to the lists of pairs.
use Rattle.std.proofs.Common.{ℕ, zero, suc, ◌≡◌, ◌<◌, ◌+◌, inl, inr, Bool, true, false, List, refl, sym, ap, subst, ◌∙◌, arith, IsTrue, length, get_or, if◌then◌else◌}
use Rattle.std.specs.List.{Contains}
use Rattle.std.proofs.lemmas.Bool.{false≢true, cases_lt}
use Rattle.std.proofs.lemmas.List.{get_or_past}
use Rattle.thread_runs.specs.declared.instruction.Instruction.{Instruction}
use Rattle.thread_runs.specs.declared.instruction.Instruction.TheVariants.{Immediate, Move, AddImmediate, Operate, Load, LoadIndexed, Store, StoreIndexed, Compare, CompareImmediate, Branch, Jump, Fence}
use Rattle.thread_runs.specs.declared.instruction.RunStep.{RunStep}
use Rattle.thread_runs.specs.Machine.{is_load}
use Rattle.thread_runs.specs.Runs.{executed, no_step}
use Rattle.taints.specs.Chains.{Executed, Resource, event_index, is_event, LoadReaches, IsCtrl, IsCtrlIsync, IsPairListOf, OfEvents}
use Rattle.taints.specs.Taints.{AreLoadWordsOf, reads_of}
use Rattle.bit_rows.specs.Relation.{Bit}
use Rattle.dataflow.specs.Dependencies.{ArePairsOfWords}
use Rattle.taints.proofs.ReachLoop.{place_lt}

-- past the end of a run nothing is an event
pub event_within : (steps : List RunStep) (i : ℕ) → is_event (executed steps i) ≡ true
    → i < length steps
event_within steps i event = elim (cases_lt i (length steps)) [
  | inl lt ↦ lt
  | inr ge ↦ absurd (false≢true (sym (ap (λ (x : RunStep). is_event x.instruction)
      (get_or_past steps i no_step ge)) ∙ event))
]

-- each place below the number of events is that of an event
abbrev pub EventAt : Executed → ℕ → ℕ → Type 0
EventAt f n e = (j : ℕ) × (j < n) × IsTrue (is_event (f j)) × (event_index f j ≡ e)

event_later : (f : Executed) (n e : ℕ) → EventAt f n e → EventAt f (suc n) e
event_later f n e x = let (j, before, event, index) = x in (j, omega (arith, before), event, index)

event_here : (f : Executed) (n e : ℕ) (b : Bool) → is_event (f n) ≡ b
    → (e < event_index f n → EventAt f n e)
    → e < (if b then event_index f n + 1 else event_index f n) → EventAt f (suc n) e
event_here f n e true is earlier less = elim (cases_lt e (event_index f n)) [
  | inl before ↦ event_later f n e (earlier before)
  | inr ge ↦ (n, omega arith, is, omega (arith, ge, less))
]
event_here f n e false is earlier less = event_later f n e (earlier less)

event_at : (f : Executed) (n e : ℕ) → e < event_index f n → EventAt f n e
event_at f zero e lt = absurd (omega (arith, lt))
event_at f (suc n) e lt = event_here f n e (is_event (f n)) refl (event_at f n e) lt

-- a relation of a load and an event
abbrev pub OfLoads : (Executed → ℕ → ℕ → Type 0) → Executed → Type 0
OfLoads R f = (i j : ℕ) → R f i j → IsTrue (is_event (f i)) × IsTrue (is_event (f j))

pub listed : (R : Executed → ℕ → ℕ → Type 0) (steps : List RunStep) (words : List ℕ)
    (ps : List (ℕ × ℕ)) → OfLoads R (executed steps)
    → AreLoadWordsOf R (executed steps) (length steps) words
    → ArePairsOfWords words (event_index (executed steps) (length steps)) ps
    → IsPairListOf R (executed steps) ps
listed R steps words ps loads columns found =
    record { rising = found.rising; exact = λ p. (forth p, back p) }
  where
    f : Executed
    f = executed steps

    forth : (p : ℕ × ℕ) → Contains ps p → OfEvents R f p
    forth p here =
        let (l, r, b) = (found.exact p).0 here in
        let (j, lt, event, index) = event_at f (length steps) p.1 r in
        let (i, at, related) = (columns j lt event p.0).0 (subst (λ (k : ℕ). Bit (get_or words k 0) p.0) (sym index) b) in
        (i, j, related, sym at, sym index)

    back : (p : ℕ × ℕ) → OfEvents R f p → Contains ps p
    back p x =
        let (i, j, related, from, to) = x in
        let (load, event) = loads i j related in
        let inside : j < length steps = event_within steps j event in
        (found.exact p).1 (
          subst (λ (k : ℕ). k < event_index f (length steps)) (sym from)
              (place_lt f i (length steps) load (event_within steps i load)),
          subst (λ (k : ℕ). k < event_index f (length steps)) (sym to)
              (place_lt f j (length steps) event inside),
          subst (λ (k : ℕ). Bit (get_or words k 0) p.0) (sym to)
              ((columns j inside event p.0).1 (i, sym from, related)),
        )

-- the same, over what the loops were given
pub list_of : (R : Executed → ℕ → ℕ → Type 0) (steps counted given : List RunStep) (words : List ℕ)
    (count : ℕ) (ps : List (ℕ × ℕ)) → ((f : Executed) → OfLoads R f) → counted ≡ steps
    → given ≡ steps
    → count ≡ event_index (executed counted) (length counted)
    → AreLoadWordsOf R (executed given) (length given) words → ArePairsOfWords words count ps
    → IsPairListOf R (executed steps) ps
list_of R steps counted given words count ps loads same_counted same_given many columns found =
    listed R steps words ps (loads (executed steps))
    (subst (λ (xs : List RunStep). AreLoadWordsOf R (executed xs) (length xs) words) same_given
    columns)
    (subst (λ (n : ℕ). ArePairsOfWords words n ps)
    (many ∙ ap (λ (xs : List RunStep). event_index (executed xs) (length xs)) same_counted)
    found)

load_event : (i : Instruction) → is_load i ≡ true → is_event i ≡ true
load_event (Load d a) l = refl
load_event (LoadIndexed d a b) l = refl
load_event (Immediate d m) l = absurd (false≢true l)
load_event (Move d a) l = absurd (false≢true l)
load_event (AddImmediate d a m) l = absurd (false≢true l)
load_event (Operate o d a b) l = absurd (false≢true l)
load_event (Store d a) l = refl
load_event (StoreIndexed d a b) l = refl
load_event (Compare a b) l = absurd (false≢true l)
load_event (CompareImmediate a m) l = absurd (false≢true l)
load_event (Branch c m) l = absurd (false≢true l)
load_event (Jump m) l = absurd (false≢true l)
load_event (Fence f) l = refl

access_event : (stored : Bool) (i : Instruction) (p : Resource) → reads_of stored i p
    → is_event i ≡ true
access_event stored (Load d a) p r = refl
access_event stored (LoadIndexed d a b) p r = refl
access_event stored (Store d a) p r = refl
access_event stored (StoreIndexed d a b) p r = refl
access_event stored (Fence f) p r = refl
access_event true (Immediate d m) p r = absurd r
access_event true (Move d a) p r = absurd r
access_event true (AddImmediate d a m) p r = absurd r
access_event true (Operate o d a b) p r = absurd r
access_event true (Compare a b) p r = absurd r
access_event true (CompareImmediate a m) p r = absurd r
access_event true (Branch c m) p r = absurd r
access_event true (Jump m) p r = absurd r
access_event false (Immediate d m) p r = absurd r
access_event false (Move d a) p r = absurd r
access_event false (AddImmediate d a m) p r = absurd r
access_event false (Operate o d a b) p r = absurd r
access_event false (Compare a b) p r = absurd r
access_event false (CompareImmediate a m) p r = absurd r
access_event false (Branch c m) p r = absurd r
access_event false (Jump m) p r = absurd r

pub reach_loads : (passes : Instruction → Bool) (stored : Bool) (f : Executed)
    → OfLoads (LoadReaches passes (reads_of stored)) f
reach_loads passes stored f i j x =
    let (load, rest) = x in
    let (p, reads, reaches) = rest in (load_event (f i) load, access_event stored (f j) p reads)

pub ctrl_loads : (f : Executed) → OfLoads IsCtrl f
ctrl_loads f i j x =
    let (event, behind) = x in
    let (b, lt, branch, reaches) = behind in (load_event (f i) reaches.0, event)

pub ctrlisync_loads : (f : Executed) → OfLoads IsCtrlIsync f
ctrlisync_loads f i j x =
    let (event, behind) = x in
    let (s, lt, sync, ctrl) = behind in ((ctrl_loads f i s ctrl).0, event)
