-- A register has the same value in two runs of the same instructions, if the loads that reach it
-- have.
use Rattle.std.proofs.Common.{ℕ, zero, suc, ◌≡◌, ◌<◌, inl, inr, Bool, true, false, not, List, [], ◌∷◌, ◌++◌, length, get_or, set, refl, sym, ap, subst, ◌∙◌, arith, if◌then◌else◌, IsTrue, get_or-set_same, get_or-set_other}
use Rattle.std.proofs.lemmas.Bool.{cases_eq, cases_lt}
use Rattle.std.proofs.lemmas.List.{length-set, get_or_past}
use Rattle.thread_runs.specs.declared.value.Value.{Value}
use Rattle.thread_runs.specs.declared.value.Value.TheVariants.{Number}
use Rattle.thread_runs.specs.declared.instruction.Instruction.{Instruction}
use Rattle.thread_runs.specs.declared.instruction.Instruction.TheVariants.{Immediate, Move, AddImmediate, Operate, Load, LoadIndexed, Store, StoreIndexed, Compare, CompareImmediate, Branch, Jump, Fence}
use Rattle.thread_runs.specs.declared.state.State.{State}
use Rattle.thread_runs.specs.Machine.{state_after, register, with_register, is_load, cancels, operation_value, sum_of}
use Rattle.taints.specs.Chains.{Executed, Resource, Register, Chain, FeedsOnward, WriteReaches, IsLastWriter, WritesTo, IsOperand, is_narrow}
use Rattle.taints.specs.Law.{state_at, StoresTheSame}

-- both lists, written at the same place
set_same : (xs ys : List Value) (d r : ℕ) (v w : Value) → length xs ≡ length ys → v ≡ w → r ≡ d
    → get_or (set xs d v) r (Number 0) ≡ get_or (set ys d w) r (Number 0)
set_same xs ys d r v w long same here = elim (cases_lt d (length xs)) [
  | inl lt ↦ let lt' : d < length ys = omega arith in
      subst (λ (q : ℕ). get_or (set xs d v) q (Number 0) ≡ get_or (set ys d w) q (Number 0))
      (sym here) (get_or-set_same xs d v (Number 0) lt ∙ same
      ∙ sym (get_or-set_same ys d w (Number 0) lt'))
  | inr ge ↦
      get_or_past (set xs d v) r (Number 0) (omega (arith, length-set xs d v, here))
      ∙ sym (get_or_past (set ys d w) r (Number 0) (omega (arith, length-set ys d w, here, long)))
]

register_same : (t u : State) (d r : ℕ) (v w : Value) → length t.registers ≡ length u.registers
    → ((r ≡ d → ⊥) → register t r ≡ register u r) → (r ≡ d → v ≡ w)
    → register (with_register t d v) r ≡ register (with_register u d w) r
register_same t u d r v w long other here = elim (cases_eq r d) [
  | inl e ↦ set_same t.registers u.registers d r v w long (here e) e
  | inr ne ↦ get_or-set_other t.registers d r v (Number 0) ne ∙ other ne
      ∙ sym (get_or-set_other u.registers d r w (Number 0) ne)
]

register_is : (r d : ℕ) → Register r ≡ Register d → r ≡ d
register_is r d e = cc

chosen_same : (c : Bool) (z x y : Value) → (IsTrue (not c) → x ≡ y)
    → (if c then z else x) ≡ (if c then z else y)
chosen_same true z x y e = refl
chosen_same false z x y e = e refl

-- one instruction: the register is unchanged, or its value comes from the operands, or from the
-- load
one_step : (i : Instruction) (v w : Value) (t u : State) (r : ℕ)
    → length t.registers ≡ length u.registers
    → ((WritesTo i (Register r) → ⊥) → register t r ≡ register u r)
    → (WritesTo i (Register r) → IsTrue (is_narrow i) → (a : ℕ) → IsOperand i (Register a)
    → register t a ≡ register u a)
    → (WritesTo i (Register r) → IsTrue (is_load i) → v ≡ w)
    → register (state_after i v t) r ≡ register (state_after i w u) r
one_step (Immediate d n) v w t u r long other operands own =
    register_same t u d r _ _ long (λ ne. other (λ e. ne (register_is r d e))) (λ e. refl)
one_step (Move d a) v w t u r long other operands own =
    register_same t u d r _ _ long (λ ne. other (λ e. ne (register_is r d e)))
    (λ e. operands (ap Register e) refl a refl)
one_step (AddImmediate d a n) v w t u r long other operands own =
    register_same t u d r _ _ long (λ ne. other (λ e. ne (register_is r d e)))
    (λ e. ap (λ (x : Value). sum_of x (Number n)) (operands (ap Register e) refl a refl))
one_step (Operate o d a b) v w t u r long other operands own =
    register_same t u d r _ _ long (λ ne. other (λ e. ne (register_is r d e)))
    (λ e. chosen_same (cancels o a b) (Number 0) _ _ (λ narrow.
    ap (λ (x : Value). operation_value o x (register t b)) (operands (ap Register e) narrow a (inl refl))
    ∙ ap (λ (x : Value). operation_value o (register u a) x)
    (operands (ap Register e) narrow b (inr refl))))
one_step (Load d a) v w t u r long other operands own =
    register_same t u d r _ _ long (λ ne. other (λ e. ne (register_is r d e)))
    (λ e. own (ap Register e) refl)
one_step (LoadIndexed d a b) v w t u r long other operands own =
    register_same t u d r _ _ long (λ ne. other (λ e. ne (register_is r d e)))
    (λ e. own (ap Register e) refl)
one_step (Store d a) v w t u r long other operands own = other (λ e. e)
one_step (StoreIndexed d a b) v w t u r long other operands own = other (λ e. e)
one_step (Compare a b) v w t u r long other operands own = other (λ e. absurd cc)
one_step (CompareImmediate a n) v w t u r long other operands own = other (λ e. absurd cc)
one_step (Branch c l) v w t u r long other operands own = other (λ e. e)
one_step (Jump l) v w t u r long other operands own = other (λ e. e)
one_step (Fence f) v w t u r long other operands own = other (λ e. e)

-- no instruction changes how many registers there are
after-long : (i : Instruction) (v : Value) (t : State)
    → length (state_after i v t).registers ≡ length t.registers
after-long (Immediate d n) v t = length-set _ _ _
after-long (Move d a) v t = length-set _ _ _
after-long (AddImmediate d a n) v t = length-set _ _ _
after-long (Operate o d a b) v t = length-set _ _ _
after-long (Load d a) v t = length-set _ _ _
after-long (LoadIndexed d a b) v t = length-set _ _ _
after-long (Store d a) v t = refl
after-long (StoreIndexed d a b) v t = refl
after-long (Compare a b) v t = refl
after-long (CompareImmediate a n) v t = refl
after-long (Branch c l) v t = refl
after-long (Jump l) v t = refl
after-long (Fence f) v t = refl

-- a chain grows at its end
Chain-push : (F : ℕ → ℕ → Type 0) (i : ℕ) (ks : List ℕ) (j k : ℕ) → Chain F i ks j → F j k
    → Chain F i (ks ++ k ∷ []) k
Chain-push F i [] j k e f = (subst (λ (y : ℕ). F y k) (sym e) f, refl)
Chain-push F i (x ∷ xs) j k c f = (c.0, Chain-push F x xs j k c.1 f)

module _ (passes : Instruction → Bool) (at : Executed) where
  -- a place that is not written is reached as before
  pub reaches_more : (i : ℕ) (p : Resource) (n : ℕ) → (WritesTo (at n) p → ⊥)
      → WriteReaches passes at i p n → WriteReaches passes at i p (suc n)
  reaches_more i p n not_here x = record {
    writer = x.writer;
    through = x.through;
    chain = x.chain;
    writes = record {
      before = omega (arith, x.writes.before);
      writes = x.writes.writes;
      last = λ k after before. elim (cases_eq k n) [
        | inl e ↦ (λ w. not_here (subst (λ (y : ℕ). WritesTo (at y) p) e w))
        | inr ne ↦ x.writes.last k after (omega arith)
      ];
    };
  }

  -- the place that an instruction writes was last written there
  just_written : (p : Resource) (n : ℕ) → WritesTo (at n) p → IsLastWriter at p n (suc n)
  just_written p n w =
      record { before = omega arith; writes = w; last = λ k after before. absurd (omega arith) }

  -- what reaches an operand reaches what is written
  pub reaches_through : (i : ℕ) (a p : Resource) (n : ℕ) → IsTrue (passes (at n)) → IsOperand (at n) a
      → WritesTo (at n) p
      → WriteReaches passes at i a n → WriteReaches passes at i p (suc n)
  reaches_through i a p n ok operand w x = record {
    writer = n;
    through = x.through ++ n ∷ [];
    chain =
        Chain-push (FeedsOnward passes at) i x.through x.writer n x.chain
        (ok, (a, operand, x.writes));
    writes = just_written p n w;
  }

  pub reaches_own : (n : ℕ) (p : Resource) → WritesTo (at n) p → WriteReaches passes at n p (suc n)
  reaches_own n p w = record { writer = n; through = []; chain = refl; writes = just_written p n w }

module _ (at : Executed) (s : State) (loaded loaded' : ℕ → Value) where
  same_long : (n : ℕ)
      → length (state_at at loaded s n).registers ≡ length (state_at at loaded' s n).registers
  same_long zero = refl
  same_long (suc n) =
      after-long (at n) (loaded n) _ ∙ same_long n ∙ sym (after-long (at n) (loaded' n) _)

  pub agree : (n r : ℕ)
      → ((i : ℕ) → IsTrue (is_load (at i)) → WriteReaches is_narrow at i (Register r) n
      → loaded i ≡ loaded' i)
      → register (state_at at loaded s n) r ≡ register (state_at at loaded' s n) r
  agree zero r same = refl
  agree (suc n) r same =
      one_step (at n) (loaded n) (loaded' n) _ _ r (same_long n)
      (λ not_here. agree n r (λ i load x.
      same i load (reaches_more is_narrow at i (Register r) n not_here x)))
      (λ here narrow a operand. agree n a (λ i load x. same i load (reaches_through is_narrow at i
      (Register a) (Register r) n narrow operand here x)))
      (λ here load. same n load (reaches_own is_narrow at n (Register r) here))

  -- a store of the same instructions stores the same, if the loads that it needs have the same
  -- values
  pub stores_the_same : (j : ℕ) → StoresTheSame at s loaded loaded' j
  stores_the_same j same r stored = agree j r (λ i load x. same i (load, (Register r, stored, x)))
