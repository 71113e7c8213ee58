-- The relations that are held are those of the candidate.
use Rattle.std.proofs.Common.{ℕ, ◌↔◌, ◌⊎◌, List, inl, inr}
use Rattle.bit_rows.specs.Relation.{Has}
use Rattle.predefined_names.specs.declared.predefined.Predefined.{Predefined}
use Rattle.predefined_names.specs.declared.predefined.Predefined.TheVariants as names
use Rattle.store_orders.specs.declared.combination.Combination.{Combination}
use Rattle.base_names.specs.Known.{Known, AreMatching, KnownPairs}
use Rattle.base_names.specs.Candidate.{IsEntered, HasReadsFrom, HasCoherence, SuppliesName, RelationIn, FromReadsIn}

pub both : {A B C D : Type 0} → (A ↔ C) → (B ↔ D) → (A × B) ↔ (C × D)
both p q = ((λ h. (p.0 h.0, q.0 h.1)), (λ h. (p.1 h.0, q.1 h.1)))

pub either : {A B C D : Type 0} → (A ↔ C) → (B ↔ D) → (A ⊎ B) ↔ (C ⊎ D)
either p q = (
  (λ h. elim h [ inl x ↦ inl (p.0 x) | inr y ↦ inr (q.0 y) ]),
  (λ h. elim h [ inl x ↦ inl (p.1 x) | inr y ↦ inr (q.1 y) ]),
)

pub from_reads_meant : (known : Known) (c : Combination) (reads_from coherence : List ℕ)
    → AreMatching known.count known.reads_from known.read_by known.coherence known.from_reads
    → HasReadsFrom known c reads_from → HasCoherence known c coherence → (a b : ℕ)
    → Has known.from_reads a b ↔ FromReadsIn c known.count reads_from coherence a b
from_reads_meant known c reads_from coherence are reads ordered a b = (
  (λ h.
      let k = (are.made.pairs a b).0 h in
      (k.0, (reads.pairs k.0 a).0 ((are.turned.pairs a k.0).0 k.1), (ordered.pairs k.0 b).0 k.2)),
  (λ k. (are.made.pairs a b).1 (
    k.0,
    (are.turned.pairs a k.0).1 ((reads.pairs k.0 a).1 k.1),
    (ordered.pairs k.0 b).1 k.2,
  )),
)

pub relation_meant : (known : Known) (c : Combination) (reads_from coherence : List ℕ)
    → AreMatching known.count known.reads_from known.read_by known.coherence known.from_reads
    → IsEntered known c → HasReadsFrom known c reads_from → HasCoherence known c coherence → (name : Predefined)
    → SuppliesName known name → (a b : ℕ)
    → KnownPairs known name a b ↔ RelationIn name known.count c reads_from coherence a b
relation_meant known c reads_from coherence are entered reads ordered names.Loads given a b =
    entered.shared names.Loads given a b
relation_meant known c reads_from coherence are entered reads ordered names.Stores given a b =
    entered.shared names.Stores given a b
relation_meant known c reads_from coherence are entered reads ordered names.Accesses given a b =
    entered.shared names.Accesses given a b
relation_meant known c reads_from coherence are entered reads ordered names.Fences given a b =
    entered.shared names.Fences given a b
relation_meant known c reads_from coherence are entered reads ordered names.InitialStores given a b =
    entered.shared names.InitialStores given a b
relation_meant known c reads_from coherence are entered reads ordered names.SyncFences given a b =
    entered.shared names.SyncFences given a b
relation_meant known c reads_from coherence are entered reads ordered names.LwsyncFences given a b =
    entered.shared names.LwsyncFences given a b
relation_meant known c reads_from coherence are entered reads ordered names.EieioFences given a b =
    entered.shared names.EieioFences given a b
relation_meant known c reads_from coherence are entered reads ordered names.IsyncFences given a b =
    entered.shared names.IsyncFences given a b
relation_meant known c reads_from coherence are entered reads ordered names.Identity given a b =
    ((λ h. (h.0, rw (← h.1) h.0, h)), (λ h. h.2))
relation_meant known c reads_from coherence are entered reads ordered names.ProgramOrder given a b =
    entered.shared names.ProgramOrder given a b
relation_meant known c reads_from coherence are entered reads ordered names.SameLocation given a b =
    entered.shared names.SameLocation given a b
relation_meant known c reads_from coherence are entered reads ordered names.ProgramOrderSameLocation given
    a b = entered.shared names.ProgramOrderSameLocation given a b
relation_meant known c reads_from coherence are entered reads ordered names.Internal given a b =
    entered.shared names.Internal given a b
relation_meant known c reads_from coherence are entered reads ordered names.External given a b =
    entered.shared names.External given a b
relation_meant known c reads_from coherence are entered reads ordered names.ReadsFrom given a b =
    reads.pairs a b
relation_meant known c reads_from coherence are entered reads ordered names.Coherence given a b =
    ordered.pairs a b
relation_meant known c reads_from coherence are entered reads ordered names.FromReads given a b =
    from_reads_meant known c reads_from coherence are reads ordered a b
relation_meant known c reads_from coherence are entered reads ordered names.ReadsFromExternal given a b =
    both (entered.shared names.External given a b) (reads.pairs a b)
relation_meant known c reads_from coherence are entered reads ordered names.ReadsFromInternal given a b =
    both (entered.shared names.Internal given a b) (reads.pairs a b)
relation_meant known c reads_from coherence are entered reads ordered names.CoherenceExternal given a b =
    both (entered.shared names.External given a b) (ordered.pairs a b)
relation_meant known c reads_from coherence are entered reads ordered names.CoherenceInternal given a b =
    both (entered.shared names.Internal given a b) (ordered.pairs a b)
relation_meant known c reads_from coherence are entered reads ordered names.FromReadsExternal given a b =
    both (entered.shared names.External given a b) (from_reads_meant known c reads_from coherence are reads
    ordered a b)
relation_meant known c reads_from coherence are entered reads ordered names.FromReadsInternal given a b =
    both (entered.shared names.Internal given a b) (from_reads_meant known c reads_from coherence are reads
    ordered a b)
relation_meant known c reads_from coherence are entered reads ordered names.Communication given a b =
    either (either (reads.pairs a b) (ordered.pairs a b)) (from_reads_meant known c reads_from coherence
    are reads ordered a b)
relation_meant known c reads_from coherence are entered reads ordered names.AddressDependency given a b =
    entered.shared names.AddressDependency given a b
relation_meant known c reads_from coherence are entered reads ordered names.DataDependency given a b =
    entered.shared names.DataDependency given a b
relation_meant known c reads_from coherence are entered reads ordered names.ControlDependency given a b =
    entered.shared names.ControlDependency given a b
relation_meant known c reads_from coherence are entered reads ordered names.ControlIsyncDependency given a
    b = entered.shared names.ControlIsyncDependency given a b
relation_meant known c reads_from coherence are entered reads ordered names.SyncOrder given a b =
    entered.shared names.SyncOrder given a b
relation_meant known c reads_from coherence are entered reads ordered names.LwsyncOrder given a b =
    entered.shared names.LwsyncOrder given a b
relation_meant known c reads_from coherence are entered reads ordered names.EieioOrder given a b =
    entered.shared names.EieioOrder given a b
relation_meant known c reads_from coherence are entered reads ordered names.IsyncOrder given a b =
    entered.shared names.IsyncOrder given a b
