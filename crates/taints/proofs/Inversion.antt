-- What reaches a place behind one instruction more: either it goes through that instruction, or it
-- reached the place before.
use Rattle.std.proofs.Common.{ℕ, zero, suc, ◌≡◌, ◌⊎◌, inl, inr, Bool, true, false, List, [], ◌∷◌, refl, sym, ap, subst, arith, IsTrue}
use Rattle.std.proofs.lemmas.Bool.{cases_eq, false≢true}
use Rattle.thread_runs.specs.declared.instruction.Instruction.{Instruction}
use Rattle.thread_runs.specs.declared.instruction.Instruction.TheVariants.{Immediate, Move, AddImmediate, Operate, Load, LoadIndexed, Store, StoreIndexed, Compare, CompareImmediate, Branch, Jump, Fence}
use Rattle.thread_runs.specs.Machine.{is_load}
use Rattle.taints.specs.Chains.{Executed, Resource, Register, Cr0, Chain, FeedsOnward, WriteReaches, WritesTo, IsOperand, IsNeed, IsStoredRegister, is_narrow}
use Rattle.taints.proofs.Agreement.{reaches_more, reaches_through, reaches_own}

-- the last link of a chain
Chain-last : (F : ℕ → ℕ → Type 0) (i : ℕ) (ks : List ℕ) (j : ℕ) → Chain F i ks j
    → (i ≡ j) ⊎ ((k : ℕ) × (ls : List ℕ) × Chain F i ls k × F k j)
Chain-last F i [] j e = inl e
Chain-last F i (x ∷ xs) j c = elim (Chain-last F x xs j c.1) [
  | inl e ↦ inr (i, [], refl, subst (λ (y : ℕ). F i y) e c.0)
  | inr t ↦ let (k, ls, d, f) = t in inr (k, x ∷ ls, (c.0, d), f)
]

module _ (passes : Instruction → Bool) (at : Executed) where
  -- the place was written by the last instruction: by the load itself, or from an operand that it
  -- reaches
  abbrev pub Through : ℕ → ℕ → Type 0
  Through i n =
      (i ≡ n)
      ⊎ (IsTrue (passes (at n)) × ((a : Resource) × IsOperand (at n) a × WriteReaches passes at i a n))

  pub through_last : (i : ℕ) (p : Resource) (n : ℕ) → WritesTo (at n) p
      → WriteReaches passes at i p (suc n) → Through i n
  through_last i p n here x = elim (cases_eq x.writer n) [
    | inl e ↦ elim
        (Chain-last (FeedsOnward passes at) i x.through n (subst
        (λ (y : ℕ). Chain (FeedsOnward passes at) i x.through y) e x.chain)) [
          | inl same ↦ inl same
          | inr t ↦
              let (k, ls, c, f) = t in
              inr (
                f.0,
                (
                  f.1.0,
                  f.1.1,
                  record { writer = k; through = ls; chain = c; writes = f.1.2 },
                ),
              )
        ]
    | inr ne ↦ absurd (x.writes.last n (let b = x.writes.before in omega arith) (omega arith) here)
  ]

  pub before_last : (i : ℕ) (p : Resource) (n : ℕ) → (WritesTo (at n) p → ⊥)
      → WriteReaches passes at i p (suc n) → WriteReaches passes at i p n
  before_last i p n not_here x = record {
    writer = x.writer;
    through = x.through;
    chain = x.chain;
    writes = record {
      before = elim (cases_eq x.writer n) [
        | inl e ↦ absurd (not_here (subst (λ (y : ℕ). WritesTo (at y) p) e x.writes.writes))
        | inr ne ↦ let b = x.writes.before in omega arith
      ];
      writes = x.writes.writes;
      last = λ k after before. x.writes.last k after (omega arith);
    };
  }

  pub from_through : (i : ℕ) (p : Resource) (n : ℕ) → WritesTo (at n) p → Through i n
      → WriteReaches passes at i p (suc n)
  from_through i p n here (inl e) =
      subst (λ (y : ℕ). WriteReaches passes at y p (suc n)) (sym e) (reaches_own passes at n p here)
  from_through i p n here (inr t) =
      let (ok, rest) = t in
      let (a, operand, x) = rest in reaches_through passes at i a p n ok operand here x

  -- nothing reaches a place before the first instruction
  pub none_first : (i : ℕ) (p : Resource) → WriteReaches passes at i p zero → ⊥
  none_first i p x = let b = x.writes.before in omega arith

-- decisions
abbrev pub Decision : Type 0 → Type 0
Decision A = A ⊎ (A → ⊥)

place_is : (p q : Resource) → Decision (p ≡ q)
place_is (Register a) (Register b) =
    elim (cases_eq a b) [ inl e ↦ inl (ap Register e) | inr ne ↦ inr (λ e. ne (inside a b e)) ]
  where
    inside : (a b : ℕ) → Register a ≡ Register b → a ≡ b
    inside a b e = cc
place_is (Register a) Cr0 = inr (λ e. absurd cc)
place_is Cr0 (Register b) = inr (λ e. absurd cc)
place_is Cr0 Cr0 = inl refl

none : Decision ⊥
none = inr (λ e. e)

pub is_written : (i : Instruction) (p : Resource) → Decision (WritesTo i p)
is_written (Immediate d n) p = place_is p (Register d)
is_written (Move d a) p = place_is p (Register d)
is_written (AddImmediate d a n) p = place_is p (Register d)
is_written (Operate o d a b) p = place_is p (Register d)
is_written (Load d a) p = place_is p (Register d)
is_written (LoadIndexed d a b) p = place_is p (Register d)
is_written (Store d a) p = none
is_written (StoreIndexed d a b) p = none
is_written (Compare a b) p = place_is p Cr0
is_written (CompareImmediate a n) p = place_is p Cr0
is_written (Branch c l) p = none
is_written (Jump l) p = none
is_written (Fence f) p = none

-- some place of those has a fact that can be decided
at_one : (P : Resource → Type 0) (a : Resource) → Decision (P a) → Decision ((p : Resource) × (p ≡ a) × P p)
at_one P a (inl y) = inl (a, refl, y)
at_one P a (inr nay) = inr (λ t. nay (subst P t.1 t.2))

at_two : (P : Resource → Type 0) (a b : Resource) → Decision (P a) → Decision (P b)
    → Decision ((p : Resource) × ((p ≡ a) ⊎ (p ≡ b)) × P p)
at_two P a b (inl y) d = inl (a, inl refl, y)
at_two P a b (inr nay) (inl y) = inl (b, inr refl, y)
at_two P a b (inr nay) (inr nor) =
    inr (λ t. elim t.1 [ inl e ↦ nay (subst P e t.2) | inr e ↦ nor (subst P e t.2) ])

at_none : (P : Resource → Type 0) → Decision ((p : Resource) × ⊥ × P p)
at_none P = inr (λ t. t.1)

pub some_operand : (P : Resource → Type 0) → ((p : Resource) → Decision (P p)) → (i : Instruction)
    → Decision ((p : Resource) × IsOperand i p × P p)
some_operand P dec (Immediate d n) = at_none P
some_operand P dec (Move d a) = at_one P (Register a) (dec (Register a))
some_operand P dec (AddImmediate d a n) = at_one P (Register a) (dec (Register a))
some_operand P dec (Operate o d a b) =
    at_two P (Register a) (Register b) (dec (Register a)) (dec (Register b))
some_operand P dec (Load d a) = at_none P
some_operand P dec (LoadIndexed d a b) = at_none P
some_operand P dec (Store d a) = at_none P
some_operand P dec (StoreIndexed d a b) = at_none P
some_operand P dec (Compare a b) =
    at_two P (Register a) (Register b) (dec (Register a)) (dec (Register b))
some_operand P dec (CompareImmediate a n) = at_one P (Register a) (dec (Register a))
some_operand P dec (Branch c l) = at_one P Cr0 (dec Cr0)
some_operand P dec (Jump l) = at_none P
some_operand P dec (Fence f) = at_none P

is_true : (b : Bool) → Decision (IsTrue b)
is_true true = inl refl
is_true false = inr (λ e. false≢true e)

module _ (passes : Instruction → Bool) (at : Executed) where
  decide_through : (i n : ℕ) → ((p : Resource) → Decision (WriteReaches passes at i p n))
      → Decision (Through passes at i n)
  decide_through i n dec =
      go (cases_eq i n) (is_true (passes (at n)))
      (some_operand (λ p. WriteReaches passes at i p n) dec (at n))
    where
      go : Decision (i ≡ n) → Decision (IsTrue (passes (at n)))
          → Decision ((p : Resource) × IsOperand (at n) p × WriteReaches passes at i p n)
          → Decision (Through passes at i n)
      go (inl e) d f = inl (inl e)
      go (inr ne) (inl ok) (inl y) = inl (inr (ok, y))
      go (inr ne) (inl ok) (inr nay) = inr (λ t. elim t [ inl e ↦ ne e | inr y ↦ nay y.1 ])
      go (inr ne) (inr not_ok) f = inr (λ t. elim t [ inl e ↦ ne e | inr y ↦ not_ok y.0 ])

  pub decide_reaches : (n i : ℕ) (p : Resource) → Decision (WriteReaches passes at i p n)
  decide_reaches zero i p = inr (none_first passes at i p)
  decide_reaches (suc n) i p =
      go (is_written (at n) p) (decide_through i n (λ q. decide_reaches n i q))
      (decide_reaches n i p)
    where
      go : Decision (WritesTo (at n) p) → Decision (Through passes at i n)
          → Decision (WriteReaches passes at i p n) → Decision (WriteReaches passes at i p (suc n))
      go (inl here) (inl t) d = inl (from_through passes at i p n here t)
      go (inl here) (inr nay) d = inr (λ x. nay (through_last passes at i p n here x))
      go (inr not_here) t (inl y) = inl (reaches_more passes at i p n not_here y)
      go (inr not_here) t (inr nay) = inr (λ x. nay (before_last passes at i p n not_here x))

some_stored : (P : Resource → Type 0) → ((p : Resource) → Decision (P p)) → (i : Instruction)
    → Decision ((p : Resource) × IsStoredRegister i p × P p)
some_stored P dec (Immediate d n) = at_none P
some_stored P dec (Move d a) = at_none P
some_stored P dec (AddImmediate d a n) = at_none P
some_stored P dec (Operate o d a b) = at_none P
some_stored P dec (Load d a) = at_none P
some_stored P dec (LoadIndexed d a b) = at_none P
some_stored P dec (Store d a) = at_one P (Register d) (dec (Register d))
some_stored P dec (StoreIndexed d a b) = at_one P (Register d) (dec (Register d))
some_stored P dec (Compare a b) = at_none P
some_stored P dec (CompareImmediate a n) = at_none P
some_stored P dec (Branch c l) = at_none P
some_stored P dec (Jump l) = at_none P
some_stored P dec (Fence f) = at_none P

-- whether a store needs a load
pub decide_need : (at : Executed) (i j : ℕ) → Decision (IsNeed at i j)
decide_need at i j =
    go (is_true (is_load (at i))) (some_stored (λ p. WriteReaches is_narrow at i p j)
    (λ p. decide_reaches is_narrow at j i p) (at j))
  where
    go : Decision (IsTrue (is_load (at i)))
        → Decision ((p : Resource) × IsStoredRegister (at j) p × WriteReaches is_narrow at i p j)
        → Decision (IsNeed at i j)
    go (inl load) (inl y) = inl (load, y)
    go (inl load) (inr nay) = inr (λ t. nay t.1)
    go (inr not_load) d = inr (λ t. not_load t.0)
