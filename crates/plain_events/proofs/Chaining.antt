-- Last writers, and chains of instructions each of which feeds the next.
use Rattle.std.proofs.Common.{◌≡◌, ◌↔◌, ◌⊎◌, inl, inr, ℕ, ◌+◌, ◌<◌, List, [], ◌∷◌, ◌++◌, length, get_or, Bool, true, false, refl, sym, ap, subst, ◌∙◌, arith}
use Rattle.std.specs.Prelude.{IsTrue, Option, Some, None, option_map, unwrap_or, if◌then◌else◌}
use Rattle.std.proofs.lemmas.Option.{slice_get-map, slice_get-get_or}
use Rattle.text_values.specs.declared.instruction.Instruction.TheVariants as texts
use Rattle.meaning.specs.Runs as runs
use Rattle.meaning.specs.Dependencies.{Slot, Instructions, IsWritten, IsOperand, IsLastWriter, Feeds, IsChain}
use Rattle.meaning_plain.specs.Lists.{Grows}
use Rattle.meaning_plain.proofs.Growing.{grows_as, grows_then}
use Rattle.plain_runs.specs.declared.run.Instance.{Instance}
use Rattle.plain_runs.specs.Runs.{instance_as}
use Rattle.plain_events.specs.declared.slot.Slot as code
use Rattle.plain_events.specs.declared.slot.Slots.{Slots}
use Rattle.plain_events.specs.declared.slot.Slots.TheVariants.{One, Two}
use Rattle.plain_events.specs.declared.slot.Reads.{Reads}
use Rattle.plain_events.specs.declared.slot.Passes.{Passes}
use Rattle.plain_events.specs.Slots.{slot_as, IsAmong, IsReadBy, passes_of, instructions_as}
use Rattle.plain_events.specs.Reaching.{IsWriterFound, HasChain, IsFedBy, ReachesSlot, ReachesOneOf}

pub instruction_at : (instances : List Instance) (k : ℕ) (d : Instance) → k < length instances
    → instructions_as instances k ≡ (get_or instances k d).instruction.now
instruction_at instances k d lt =
    ap (λ (o : Option runs.Instance). unwrap_or (option_map (λ j. j.instruction) o) (texts.Branch []))
    (slice_get-map instance_as instances k
    ∙ ap (λ (o : Option Instance). option_map instance_as o) (slice_get-get_or instances k d lt))

below_more : (n k : ℕ) → k < n + 1 → (k < n) ⊎ (k ≡ n)
below_more n k lt = grind arith

-- ---- last writers

module _ (at : Instructions) (p : Slot) where
  module _ (k : ℕ) where
    not_written : (b : Bool) → b ≡ false → IsTrue b ↔ IsWritten (at k) p → (i : ℕ)
        → (i < k → IsWritten (at i) p → ⊥) → i < k + 1 → IsWritten (at i) p → ⊥
    not_written b isnt dec i before lt writes = split (below_more k i lt)
      where
        split : (i < k) ⊎ (i ≡ k) → ⊥
        split (inl less) = before less writes
        split (inr same) =
            let h : false ≡ true =
            sym isnt ∙ dec.1 (subst (λ (j : ℕ). IsWritten (at j) p) same writes) in cc

    found_more : (b : Bool) (found : Option ℕ) → IsTrue b ↔ IsWritten (at k) p
        → IsWriterFound at p k found
        → IsWriterFound at p (k + 1) (if b then Some k else found)
    found_more true found dec before = record {
      before = omega arith;
      writes = dec.0 refl;
      last = λ j above below writes. absurd (omega (arith, above, below));
    }
    found_more false None dec before =
        λ i lt writes. not_written false refl dec i (before i) lt writes
    found_more false (Some w) dec before = record {
      before = (let lt : _ = before.before in omega (arith, lt));
      writes = before.writes;
      last = λ j above below writes. not_written false refl dec j (λ less. before.last j above less) below writes;
    }

    pub writer_more : (b : Bool) (found new : Option ℕ) → IsTrue b ↔ IsWritten (at k) p
        → new ≡ (if b then Some k else found) → IsWriterFound at p k found
        → IsWriterFound at p (k + 1) new
    writer_more b found new dec e before =
        subst (λ (o : Option ℕ). IsWriterFound at p (k + 1) o) (sym e)
        (found_more b found dec before)

  one_writer : (j v w : ℕ) → IsLastWriter at p v j → IsLastWriter at p w j → v ≡ w
  one_writer j v w first second = cases (either v w)
    where
      either : (a b : ℕ) → (a < b) ⊎ ((b < a) ⊎ (a ≡ b))
      either a b = grind arith

      cases : (v < w) ⊎ ((w < v) ⊎ (v ≡ w)) → v ≡ w
      cases (inl lt) = absurd (first.last w lt second.before second.writes)
      cases (inr (inl gt)) = absurd (second.last v gt first.before first.writes)
      cases (inr (inr same)) = same

-- ---- chains

chain_push : (R : ℕ → ℕ → Type 0) (i : ℕ) (ks : List ℕ) (k j : ℕ) → IsChain R i ks k → R k j
    → IsChain R i (ks ++ j ∷ []) j
chain_push R i [] k j chain step = (subst (λ (n : ℕ). R n j) (sym chain) step, refl)
chain_push R i (m ∷ ks) k j (first, rest) step = (first, chain_push R m ks k j rest step)

chain_last : (R : ℕ → ℕ → Type 0) (i k : ℕ) (ks : List ℕ) (j : ℕ) → IsChain R i (k ∷ ks) j
    → (m : ℕ) × R m j × ((through : List ℕ) × IsChain R i through m)
chain_last R i k [] j (first, same) = (i, subst (λ (n : ℕ). R i n) same first, ([], refl))
chain_last R i k (l ∷ ks) j (first, rest) =
    let found : (m : ℕ) × R m j × ((through : List ℕ) × IsChain R k through m) =
    chain_last R k l ks j rest in
    (found.0, found.1, (k ∷ found.2.0, (first, found.2.1)))

module _ (passes : Passes) (at : Instructions) (j : ℕ) where
  abbrev Step : ℕ → ℕ → Type 0
  Step = Feeds (passes_of passes) at

  to_chain : (i : ℕ) → (i ≡ j) ⊎ IsFedBy passes at j i → HasChain passes at j i
  to_chain i (inl same) = ([], same)
  to_chain i (inr (k, step, (through, chain))) =
      (through ++ j ∷ [], chain_push Step i through k j chain step)

  from_chain : (i : ℕ) → HasChain passes at j i → (i ≡ j) ⊎ IsFedBy passes at j i
  from_chain i ([], same) = inl same
  from_chain i (k ∷ ks, chain) = inr (chain_last Step i k ks j chain)

  -- an instruction, and where chains to what feeds it begin
  pub sources_grow : (old mid new : List ℕ) → Grows (λ i. i ≡ j) old mid
      → Grows (IsFedBy passes at j) mid new → Grows (HasChain passes at j) old new
  sources_grow old mid new first second =
      grows_as (λ i. (i ≡ j) ⊎ IsFedBy passes at j i) (HasChain passes at j) old new
      (λ i. (to_chain i, from_chain i))
      (grows_then (λ i. i ≡ j) (IsFedBy passes at j) old mid new first second)

  pub fed_grow : (slots : Slots) (old new : List ℕ) → (passes_of passes (at j) ≡ false → ⊥)
      → ((p : Slot) → IsAmong slots p ↔ IsOperand (at j) p)
      → Grows (ReachesOneOf passes at j (IsAmong slots)) old new
      → Grows (IsFedBy passes at j) old new
  fed_grow slots old new passed read =
      grows_as (ReachesOneOf passes at j (IsAmong slots)) (IsFedBy passes at j) old new
      (λ i. (to i, from i))
    where
      is_true : (b : Bool) → (b ≡ false → ⊥) → IsTrue b
      is_true true other = refl
      is_true false other = absurd (other refl)

      to : (i : ℕ) → ReachesOneOf passes at j (IsAmong slots) i → IsFedBy passes at j i
      to i (p, among, reaches) = (
        reaches.writer,
        (is_true (passes_of passes (at j)) passed, (p, (read p).0 among, reaches.writes)),
        (reaches.through, reaches.chain),
      )

      from : (i : ℕ) → IsFedBy passes at j i → ReachesOneOf passes at j (IsAmong slots) i
      from i (k, (may, (p, operand, writes)), (through, chain)) = (
        p,
        (read p).1 operand,
        record { writer = k; through = through; chain = chain; writes = writes },
      )

  -- where chains to the last writer of a slot begin
  pub slot_grow : (p : Slot) (w : ℕ) (old new : List ℕ) → IsLastWriter at p w j
      → Grows (HasChain passes at w) old new → Grows (ReachesSlot passes at j p) old new
  slot_grow p w old new writes =
      grows_as (HasChain passes at w) (ReachesSlot passes at j p) old new (λ i. (to i, from i))
    where
      to : (i : ℕ) → HasChain passes at w i → ReachesSlot passes at j p i
      to i (through, chain) =
          record { writer = w; through = through; chain = chain; writes = writes }

      from : (i : ℕ) → ReachesSlot passes at j p i → HasChain passes at w i
      from i reaches =
          subst (λ (v : ℕ). HasChain passes at v i)
          (one_writer at p j reaches.writer w reaches.writes writes)
          (reaches.through, reaches.chain)

  -- where chains to the last writers of slots begin
  reaches_same : (s p : Slot) (i : ℕ) → p ≡ s → ReachesSlot passes at j p i
      → ReachesSlot passes at j s i
  reaches_same s p i e reaches = subst (λ (q : Slot). ReachesSlot passes at j q i) e reaches

  pub one_grow : (slots : Slots) (s : code.Slot) (old new : List ℕ) → slots ≡ One s
      → Grows (ReachesSlot passes at j (slot_as s)) old new
      → Grows (ReachesOneOf passes at j (IsAmong slots)) old new
  one_grow slots s old new e grows =
      subst (λ (l : Slots). Grows (ReachesOneOf passes at j (IsAmong l)) old new) (sym e)
      (grows_as (ReachesSlot passes at j (slot_as s)) (ReachesOneOf passes at j (IsAmong (One s)))
      old new
      (λ i. ((λ reaches. (slot_as s, refl, reaches)), λ is. reaches_same (slot_as s) is.0 i is.1 is.2))
      grows)

  pub two_grow : (slots : Slots) (s t : code.Slot) (old mid new : List ℕ) → slots ≡ Two s t
      → Grows (ReachesSlot passes at j (slot_as s)) old mid
      → Grows (ReachesSlot passes at j (slot_as t)) mid new
      → Grows (ReachesOneOf passes at j (IsAmong slots)) old new
  two_grow slots s t old mid new e first second =
      subst (λ (l : Slots). Grows (ReachesOneOf passes at j (IsAmong l)) old new) (sym e)
      (grows_as
      (λ i. ReachesSlot passes at j (slot_as s) i ⊎ ReachesSlot passes at j (slot_as t) i)
      (ReachesOneOf passes at j (IsAmong (Two s t))) old new (λ i. (to i, from i))
      (grows_then (ReachesSlot passes at j (slot_as s)) (ReachesSlot passes at j (slot_as t)) old mid new first second))
    where
      to : (i : ℕ)
          → ReachesSlot passes at j (slot_as s) i ⊎ ReachesSlot passes at j (slot_as t) i
          → ReachesOneOf passes at j (IsAmong (Two s t)) i
      to i (inl reaches) = (slot_as s, inl refl, reaches)
      to i (inr reaches) = (slot_as t, inr refl, reaches)

      from : (i : ℕ) → ReachesOneOf passes at j (IsAmong (Two s t)) i
          → ReachesSlot passes at j (slot_as s) i ⊎ ReachesSlot passes at j (slot_as t) i
      from i (p, inl is, reaches) = inl (reaches_same (slot_as s) p i is reaches)
      from i (p, inr is, reaches) = inr (reaches_same (slot_as t) p i is reaches)

  pub read_grow : (reads : Reads) (slots : Slots) (none new : List ℕ) → none ≡ []
      → ((p : Slot) → IsAmong slots p ↔ IsReadBy reads (at j) p)
      → Grows (ReachesOneOf passes at j (IsAmong slots)) none new
      → Grows (ReachesOneOf passes at j (IsReadBy reads (at j))) [] new
  read_grow reads slots none new e read grows =
      grows_as (ReachesOneOf passes at j (IsAmong slots))
      (ReachesOneOf passes at j (IsReadBy reads (at j))) [] new (λ i. (to i, from i))
      (subst (λ (l : List ℕ). Grows (ReachesOneOf passes at j (IsAmong slots)) l new) e grows)
    where
      to : (i : ℕ) → ReachesOneOf passes at j (IsAmong slots) i
          → ReachesOneOf passes at j (IsReadBy reads (at j)) i
      to i (p, among, reaches) = (p, (read p).0 among, reaches)

      from : (i : ℕ) → ReachesOneOf passes at j (IsReadBy reads (at j)) i
          → ReachesOneOf passes at j (IsAmong slots) i
      from i (p, is, reaches) = (p, (read p).1 is, reaches)
