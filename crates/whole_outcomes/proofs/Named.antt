-- What the names of an item stand for in a candidate can be told, where its inputs have events below
-- those of the candidate alone.
use Rattle.std.proofs.Common.{ℕ, ◌≡◌, ◌<◌, inl, inr, zero, suc, List, [], ◌∷◌, length, get_or, Option, Some, None, Bor, arith}
use Rattle.std.specs.Prelude.{slice_get}
use Rattle.std.proofs.lemmas.Bool.{cases_eq}
use Rattle.bit_rows.specs.Relation.{Relation, Events, Has, IsMember, IsRegular, no_slot}
use Rattle.bit_rows.proofs.Bits.{Bit_cases}
use Rattle.base_names.specs.Known.{EventsFound}
use Rattle.base_names.specs.Candidate.{SetIn, RelationIn}
use Rattle.whole_outcomes.specs.NameLaws.{Told}
use Rattle.whole_outcomes.proofs.Telling.{told_both}
use Rattle.whole_outcomes.proofs.Names.{names_told}
use Rattle.predefined_names.specs.declared.predefined.Predefined.{Predefined}
use Rattle.predefined_names.specs.declared.predefined.Predefined.TheVariants as names
use Rattle.binding_graph.specs.declared.resolved.Source.{Source}
use Rattle.binding_graph.specs.declared.resolved.Source.TheVariants as sources
use Rattle.store_orders.specs.declared.combination.Combination.{Combination}
use Rattle.candidate_spaces.specs.Space.{Candidate}
use Rattle.cat_machine.specs.declared.column.Column.{Column}
use Rattle.cat_machine.specs.declared.column.Column.TheVariants as columns
use Rattle.cat_machine.specs.Executions.{EventsAt, PairsAt}
use Rattle.cat_machine.specs.Least.{AreRelationsOn}
use Rattle.cat_machine.specs.Named.{ColumnEvents, ColumnPairs, InputEvents, InputPairs, PairsFound, OwnPairs, WithOwn}
use Rattle.whole_outcomes.specs.Values.{AreInputsBelow}
use Rattle.whole_outcomes.proofs.Trees.{IsToldSet, IsTold, no_events, no_pairs}

-- ---- predefined names

-- pairs of a relation are pairs of events below n
relation_within : (name : Predefined) (n : ℕ) (c : Combination) (reads order : List ℕ) (a b : ℕ)
    → RelationIn name n c reads order a b → (a < n) × (b < n)
relation_within names.ReadsFrom n c reads order a b h = (h.0, h.1)
relation_within names.Coherence n c reads order a b h = (h.0, h.1)
relation_within names.FromReads n c reads order a b h = (h.1.1, h.2.1)
relation_within names.ReadsFromExternal n c reads order a b h = (h.0.0, h.0.1)
relation_within names.ReadsFromInternal n c reads order a b h = (h.0.0, h.0.1)
relation_within names.CoherenceExternal n c reads order a b h = (h.0.0, h.0.1)
relation_within names.CoherenceInternal n c reads order a b h = (h.0.0, h.0.1)
relation_within names.FromReadsExternal n c reads order a b h = (h.0.0, h.0.1)
relation_within names.FromReadsInternal n c reads order a b h = (h.0.0, h.0.1)
relation_within names.Communication n c reads order a b h = elim h [
  | inl k ↦ elim k [ inl r ↦ (r.0, r.1) | inr o ↦ (o.0, o.1) ]
  | inr f ↦ (f.1.1, f.2.1)
]
relation_within _ n c reads order a b h = (h.0, h.1)

-- ---- values

told_events : (o : Option Events) (n a : ℕ) → Told (EventsFound o n a)
told_events None n a = inr (λ h. h)
told_events (Some s) n a = told_both (s.count ≡ n) (IsMember s a) (cases_eq s.count n) (Bit_cases s.word a)

told_pairs : (o : Option Relation) (n a b : ℕ) → Told (PairsFound o n a b)
told_pairs None n a b = inr (λ h. h)
told_pairs (Some r) n a b = told_both (r.count ≡ n) (Has r a b) (cases_eq r.count n) (Bit_cases (get_or r.rows a 0) b)

column_events : (c : Column) (k n a : ℕ) → Told (ColumnEvents c k n a)
column_events (columns.Sets values) k n a = told_events (slice_get values k) n a
column_events (columns.Relations values) k n a = inr (λ h. h)

column_pairs : (c : Column) (k n a b : ℕ) → Told (ColumnPairs c k n a b)
column_pairs (columns.Sets values) k n a b = inr (λ h. h)
column_pairs (columns.Relations values) k n a b = told_pairs (slice_get values k) n a b

input_events : (o : Option (Bor Column)) (k n a : ℕ) → Told (InputEvents o k n a)
input_events None k n a = inr (λ h. h)
input_events (Some column) k n a = column_events column.now k n a

input_pairs : (o : Option (Bor Column)) (k n a b : ℕ) → Told (InputPairs o k n a b)
input_pairs None k n a b = inr (λ h. h)
input_pairs (Some column) k n a b = column_pairs column.now k n a b

-- the values of the names of the group itself
own_within : (n : ℕ) (values : List Relation) → AreRelationsOn n values → (x a b : ℕ)
    → OwnPairs n values x a b → (a < n) × (b < n)
own_within n [] on zero a b h = absurd h
own_within n [] on (suc x) a b h = absurd h
own_within n (v ∷ vs) on zero a b h =
    let here = on 0 (omega arith) in
    let w = here.1.within a b h.1 in
    (omega (arith, w.0, here.0), omega (arith, w.1, here.0))
own_within n (v ∷ vs) on (suc x) a b h =
    own_within n vs (λ y lt. on (suc y) (omega (arith, lt))) x a b h

pub own_told : (n : ℕ) (values : List Relation) → AreRelationsOn n values → (x : ℕ)
    → IsTold n (OwnPairs n values x)
own_told n values on x = record {
  within = own_within n values on x;
  told = λ a b. told_pairs (slice_get values x) n a b;
}

-- ---- names

module _ (one : Candidate) (n : ℕ) (inputs : List (Bor Column)) (k : ℕ) (below : AreInputsBelow n inputs k) where
  pub sets_told : (source : Source) → IsToldSet n (EventsAt n one inputs k source)
  sets_told (sources.Predefined name) = record {
    within = λ a h. h.0;
    told = (names_told one.0 n one.1.0 one.1.1 name).0;
  }
  sets_told (sources.Input index) = record {
    within = below.events index;
    told = λ a. input_events (slice_get inputs index) k n a;
  }
  sets_told (sources.Own position) = no_events n

  pub pairs_told : (own : ℕ → ℕ → ℕ → Type 0) → ((x : ℕ) → IsTold n (own x)) → (source : Source)
      → IsTold n (WithOwn (PairsAt n one inputs k) own source)
  pairs_told own told (sources.Predefined name) = record {
    within = relation_within name n one.0 one.1.0 one.1.1;
    told = (names_told one.0 n one.1.0 one.1.1 name).1;
  }
  pairs_told own told (sources.Input index) = record {
    within = below.pairs index;
    told = λ a b. input_pairs (slice_get inputs index) k n a b;
  }
  pairs_told own told (sources.Own position) = told position
