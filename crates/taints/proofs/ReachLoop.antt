-- One step of the loop that notes what reaches each event.
use Rattle.std.proofs.Common.{ℕ, zero, suc, ◌≡◌, ◌<◌, ◌≤◌, ◌+◌, ◌↔◌, inl, inr, Bool, true, false, List, [], ◌∷◌, refl, sym, ap, subst, ◌∙◌, arith, length, get_or, set, get_or-set_same, get_or-set_other, if◌then◌else◌, add-one}
use Rattle.std.proofs.lemmas.List.{length-set}
use Rattle.std.proofs.lemmas.Bool.{false≢true, cases_eq}
use Rattle.thread_runs.specs.declared.instruction.Instruction.{Instruction}
use Rattle.thread_runs.specs.declared.instruction.Instruction.TheVariants.{Immediate, Move, AddImmediate, Operate, Load, LoadIndexed, Store, StoreIndexed, Compare, CompareImmediate, Branch, Jump, Fence}
use Rattle.thread_runs.specs.declared.instruction.RunStep.{RunStep}
use Rattle.taints.specs.declared.taints.Taints.{Taints}
use Rattle.thread_runs.specs.Machine.{is_load}
use Rattle.thread_runs.specs.Runs.{executed, no_step}
use Rattle.taints.specs.Chains.{Executed, Resource, IsOperand, event_index, is_event, LoadReaches}
use Rattle.taints.specs.Taints.{IsInFile, AreTaints, AreLoadWords, AreLoadWordsOf, IsUnion, HasRegistersInFile, IsTaintStep, IsWrittenBetween, clean_taints, passes_of, reads_of, read_word, taints_after}
use Rattle.bit_rows.specs.Relation.{Bit}
use Rattle.taints.proofs.TaintSteps.{read_word-union, noted-step, taints_more, taints_first}
use Rattle.taints.proofs.Cleaning.{no_word, written_first, written_next}

pub same_element : (xs : List RunStep) (k : ℕ) (d e : RunStep) → k < length xs
    → get_or xs k d ≡ get_or xs k e
same_element [] k d e lt = absurd (omega arith)
same_element (x ∷ xs) zero d e lt = refl
same_element (x ∷ xs) (suc k) d e lt = same_element xs k d e (omega arith)

pub place_suc : (f : Executed) (n : ℕ) → event_index f n ≤ event_index f (suc n)
place_suc f n = go (is_event (f n))
  where
    go : (b : Bool) → event_index f n ≤ (if b then event_index f n + 1 else event_index f n)
    go true = omega arith
    go false = omega arith

pub place_event : (f : Executed) (n : ℕ) → is_event (f n) ≡ true
    → event_index f (suc n) ≡ event_index f n + 1
place_event f n e = ap (λ (b : Bool). if b then event_index f n + 1 else event_index f n) e

pub place_other : (f : Executed) (n : ℕ) → is_event (f n) ≡ false
    → event_index f (suc n) ≡ event_index f n
place_other f n e = ap (λ (b : Bool). if b then event_index f n + 1 else event_index f n) e

-- an event has a smaller place than what is behind it
pub place_lt : (f : Executed) (j n : ℕ) → is_event (f j) ≡ true → j < n
    → event_index f j < event_index f n
place_lt f j zero e lt = absurd (omega arith)
place_lt f j (suc n) e lt = elim (cases_eq j n) [
  | inl same ↦ subst (λ (k : ℕ). event_index f j < event_index f (suc k)) same
      (omega (arith, place_event f j e))
  | inr ne ↦
      let before : event_index f j < event_index f n = place_lt f j n e (omega arith) in
      omega (arith, place_suc f n)
]

pub columns_first : (R : Executed → ℕ → ℕ → Type 0) (f : Executed) (words : List ℕ)
    → AreLoadWordsOf R f zero words
columns_first R f words j lt = absurd (omega arith)

pub columns_other : (R : Executed → ℕ → ℕ → Type 0) (f : Executed) (n : ℕ) (words : List ℕ)
    → is_event (f n) ≡ false → AreLoadWordsOf R f n words → AreLoadWordsOf R f (suc n) words
columns_other R f n words none old j lt ev e = elim (cases_eq j n) [
  | inl same ↦ absurd (false≢true (sym none ∙ subst (λ (k : ℕ). is_event (f k) ≡ true) same ev))
  | inr ne ↦ old j (omega arith) ev e
]

-- the loads of which the relation holds at an event, by their places
abbrev pub Found : (Executed → ℕ → ℕ → Type 0) → Executed → ℕ → ℕ → Type 0
Found R f j e = (i : ℕ) × (event_index f i ≡ e) × R f i j

pub columns_event : (R : Executed → ℕ → ℕ → Type 0) (f : Executed) (n : ℕ) (words : List ℕ) (w : ℕ)
    → is_event (f n) ≡ true → event_index f n < length words
    → ((e : ℕ) → Bit w e ↔ Found R f n e) → AreLoadWordsOf R f n words
    → AreLoadWordsOf R f (suc n) (set words (event_index f n) w)
columns_event R f n words w event lt here old j j_lt ev e = elim (cases_eq j n) [
  | inl same ↦ subst
      (λ (k : ℕ). Bit (get_or (set words (event_index f n) w) (event_index f k) 0) e
      ↔ Found R f k e)
      (sym same)
      (subst (λ (x : ℕ). Bit x e ↔ Found R f n e)
      (sym (get_or-set_same words (event_index f n) w 0 lt)) (here e))
  | inr ne ↦
      let less : event_index f j < event_index f n = place_lt f j n ev (omega arith) in
      subst (λ (x : ℕ). Bit x e ↔ Found R f j e)
      (sym (get_or-set_other words (event_index f n) (event_index f j) w 0
      (λ eq. absurd (omega arith))))
      (old j (omega arith) ev e)
]

-- the word of those places that an instruction reads so has the loads that reach one of them
pub union_found : (narrow : Bool) (Reads : Instruction → Resource → Type 0) (f : Executed) (n : ℕ)
    (t : Taints) (w : ℕ) → ((p : Resource) → Reads (f n) p → IsInFile p)
    → AreTaints (passes_of narrow) f n t → IsUnion Reads (f n) t w → (e : ℕ)
    → Bit w e ↔ Found (LoadReaches (passes_of narrow) Reads) f n e
union_found narrow Reads f n t w inside taints u e = (forth, back)
  where
    forth : Bit w e → Found (LoadReaches (passes_of narrow) Reads) f n e
    forth b =
        let (a, reads, bit) = (u e).0 b in
        let (i, load, index, x) = (taints a (inside a reads) e).0 bit in
        (i, index, (load, (a, reads, x)))

    back : Found (LoadReaches (passes_of narrow) Reads) f n e → Bit w e
    back y =
        let (i, index, reaches) = y in
        let (load, rest) = reaches in
        let (a, reads, x) = rest in
        (u e).1 (a, reads, (taints a (inside a reads) e).1 (i, load, index, x))

within : (stored : Bool) (i : Instruction) → HasRegistersInFile i → (p : Resource) → reads_of stored i p
    → IsInFile p
within true i w p r = w.stored p r
within false i w p r = w.addresses p r

load_is_event : (i : Instruction) → is_load i ≡ true → is_event i ≡ false → ⊥
load_is_event (Load d a) l e = false≢true (sym e)
load_is_event (LoadIndexed d a b) l e = false≢true (sym e)
load_is_event (Immediate d m) l e = absurd (false≢true l)
load_is_event (Move d a) l e = absurd (false≢true l)
load_is_event (AddImmediate d a m) l e = absurd (false≢true l)
load_is_event (Operate o d a b) l e = absurd (false≢true l)
load_is_event (Store d a) l e = absurd (false≢true l)
load_is_event (StoreIndexed d a b) l e = absurd (false≢true l)
load_is_event (Compare a b) l e = absurd (false≢true l)
load_is_event (CompareImmediate a m) l e = absurd (false≢true l)
load_is_event (Branch c m) l e = absurd (false≢true l)
load_is_event (Jump m) l e = absurd (false≢true l)
load_is_event (Fence f) l e = absurd (false≢true l)

pub load_place : (i : Instruction) (index : ℕ) → is_event i ≡ false → is_load i ≡ true → index < 128
load_place i index e l = absurd (load_is_event i l e)

-- what reaches each place, behind one instruction more
pub taints_next : (narrow : Bool) (f : Executed) (n : ℕ) (t : Taints) (index : ℕ) (i : Instruction)
    → i ≡ f n → HasRegistersInFile i → (is_load i ≡ true → index < 128) → index ≡ event_index f n
    → length t.registers ≡ 256
    → AreTaints (passes_of narrow) f n t
    → AreTaints (passes_of narrow) f (suc n) (taints_after narrow i index t)
taints_next narrow f n t index i same inside fits here height old =
    taints_more narrow f n t (taints_after narrow i index t)
    (λ a operand. inside.operands a (subst (λ (j : Instruction). IsOperand j a) (sym same) operand))
    old
    (subst (λ (j : Instruction). IsTaintStep narrow j (event_index f n) t (taints_after narrow i index t)) same
    (subst (λ (k : ℕ). IsTaintStep narrow i k t (taints_after narrow i index t)) here
    (noted-step narrow i index t fits height)))

-- what holds in the loop
pub record IsReached (narrow stored : Bool) (f : Executed) (n : ℕ) (t : Taints) (words : List ℕ)
    (index : ℕ) : Type 0 where
  pub taints : AreTaints (passes_of narrow) f n t
  pub written : IsWrittenBetween f 0 n t
  pub width : length words ≡ 128
  pub here : index ≡ event_index f n
  pub columns : AreLoadWords narrow stored f n words

pub reached_first : (narrow stored : Bool) (f : Executed) (t : Taints) (words : List ℕ)
    → t ≡ clean_taints → length words ≡ 128 → IsReached narrow stored f 0 t words 0
reached_first narrow stored f t words none width =
    subst (λ (u : Taints). IsReached narrow stored f 0 u words 0) (sym none) (record {
      taints = taints_first (passes_of narrow) f clean_taints no_word;
      written = written_first f;
      width = width;
      here = refl;
      columns = columns_first (LoadReaches (passes_of narrow) (reads_of stored)) f words;
    })

pub reached_event : (narrow stored : Bool) (f : Executed) (n : ℕ) (t : Taints) (words : List ℕ)
    (index : ℕ) (i : Instruction) → i ≡ f n → is_event i ≡ true → event_index f n < 128
    → HasRegistersInFile i
    → IsReached narrow stored f n t words index
    → IsReached narrow stored f (n + 1) (taints_after narrow i index t)
    (set words index (read_word stored i t)) (index + 1)
reached_event narrow stored f n t words index i same event lt inside x = rw add-one (record {
  taints =
      taints_next narrow f n t index i same inside (λ load. omega (arith, lt, x.here)) x.here
      x.written.height x.taints;
  written = written_next f n i _ t same x.written;
  width = length-set words index (read_word stored i t) ∙ x.width;
  here =
      omega (
        arith,
        x.here,
        place_event f n (subst (λ (j : Instruction). is_event j ≡ true) same event),
      );
  columns =
      subst (λ (k : ℕ). AreLoadWords narrow stored f (suc n) (set words k (read_word stored i t)))
      (sym x.here)
      (columns_event (LoadReaches (passes_of narrow) (reads_of stored)) f n words
      (read_word stored i t) (subst (λ (j : Instruction). is_event j ≡ true) same event)
      (omega (arith, lt, x.width))
      (union_found narrow (reads_of stored) f n t (read_word stored i t)
      (within stored (f n) (subst (λ (j : Instruction). HasRegistersInFile j) same inside)) x.taints
      (subst (λ (j : Instruction). IsUnion (reads_of stored) j t (read_word stored i t)) same
      (read_word-union stored i t)))
      x.columns);
})

pub reached_other : (narrow stored : Bool) (f : Executed) (n : ℕ) (t : Taints) (words : List ℕ)
    (index : ℕ) (i : Instruction) → i ≡ f n → is_event i ≡ false → HasRegistersInFile i
    → IsReached narrow stored f n t words index
    → IsReached narrow stored f (n + 1) (taints_after narrow i index t) words index
reached_other narrow stored f n t words index i same event inside x = rw add-one (record {
  taints =
      taints_next narrow f n t index i same inside (load_place i index event) x.here
      x.written.height x.taints;
  written = written_next f n i _ t same x.written;
  width = x.width;
  here =
      omega (
        arith,
        x.here,
        place_other f n (subst (λ (j : Instruction). is_event j ≡ false) same event),
      );
  columns =
      columns_other (LoadReaches (passes_of narrow) (reads_of stored)) f n words
      (subst (λ (j : Instruction). is_event j ≡ false) same event) x.columns;
})

-- the instruction at a place, whatever stands past the end
pub instruction_at : (steps : List RunStep) (n : ℕ) (d : RunStep) → n < length steps
    → (get_or steps n d).instruction ≡ executed steps n
instruction_at steps n d lt =
    ap (λ (x : RunStep). x.instruction) (same_element steps n d no_step lt)

pub below_128 : (steps : List RunStep) (n : ℕ) (i : Instruction) → i ≡ executed steps n
    → is_event i ≡ true → n < length steps → event_index (executed steps) (length steps) ≤ 128
    → event_index (executed steps) n < 128
below_128 steps n i same event lt few =
    let less : event_index (executed steps) n < event_index (executed steps) (length steps) = place_lt (executed steps) n (length steps) (subst (λ (j : Instruction). is_event j ≡ true) same event) lt in
    omega arith

pub reached_as : (narrow stored : Bool) (f : Executed) (n : ℕ) (t u : Taints) (xs ys : List ℕ)
    (k m : ℕ) → u ≡ t → ys ≡ xs → m ≡ k → IsReached narrow stored f n t xs k
    → IsReached narrow stored f n u ys m
reached_as narrow stored f n t u xs ys k m p q r x =
    subst (λ (v : Taints). IsReached narrow stored f n v ys m) (sym p) (subst
    (λ (zs : List ℕ). IsReached narrow stored f n t zs m) (sym q)
    (subst (λ (l : ℕ). IsReached narrow stored f n t xs l) (sym r) x))
