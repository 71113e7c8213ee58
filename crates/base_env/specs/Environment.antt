-- All predefined names of one candidate.
use Rattle.std.specs.Prelude.{ℕ, ◌≡◌, ◌<◌, List}
use Rattle.bit_rows.specs.Relation.{IsRelation, IsEvents}
use Rattle.predefined_names.specs.declared.predefined.Predefined.TheVariants as names
use Rattle.taints.specs.DependencyLists.{dependency_lists}
use Rattle.store_orders.specs.declared.combination.Combination.{Combination}
use Rattle.candidate_spaces.specs.declared.execution.Execution.{Execution}
use Rattle.base_env.specs.declared.env.BaseEnv.{BaseEnv}
use Rattle.base_names.specs.Candidate.{SetIn, RelationIn}

-- the combination has the events and the dependencies of the execution
pub record HasFacts (c : Combination) (e : Execution) : Type 0 where
  pub events : c.events.items ≡ e.events.items
  pub dependencies : dependency_lists c.dependencies ≡ dependency_lists e.dependencies

-- each set and each relation is that of its name among the first n events of the candidate
pub record IsEnvironment (env : BaseEnv) (n : ℕ) (c : Combination) (reads_from coherence : List ℕ)
    : Type 0 where
  pub all_set : IsEvents env.all_set n (λ a. a < n)
  pub r_set : IsEvents env.r_set n (SetIn c n names.Loads)
  pub w_set : IsEvents env.w_set n (SetIn c n names.Stores)
  pub m_set : IsEvents env.m_set n (SetIn c n names.Accesses)
  pub f_set : IsEvents env.f_set n (SetIn c n names.Fences)
  pub iw_set : IsEvents env.iw_set n (SetIn c n names.InitialStores)
  pub sync_set : IsEvents env.sync_set n (SetIn c n names.SyncFences)
  pub lwsync_set : IsEvents env.lwsync_set n (SetIn c n names.LwsyncFences)
  pub eieio_set : IsEvents env.eieio_set n (SetIn c n names.EieioFences)
  pub isync_set : IsEvents env.isync_set n (SetIn c n names.IsyncFences)
  pub id_rel : IsRelation env.id_rel n (RelationIn names.Identity n c reads_from coherence)
  pub po_rel : IsRelation env.po_rel n (RelationIn names.ProgramOrder n c reads_from coherence)
  pub loc_rel : IsRelation env.loc_rel n (RelationIn names.SameLocation n c reads_from coherence)
  pub po_loc_rel : IsRelation env.po_loc_rel n (RelationIn names.ProgramOrderSameLocation n c
      reads_from coherence)
  pub int_rel : IsRelation env.int_rel n (RelationIn names.Internal n c reads_from coherence)
  pub ext_rel : IsRelation env.ext_rel n (RelationIn names.External n c reads_from coherence)
  pub rf_rel : IsRelation env.rf_rel n (RelationIn names.ReadsFrom n c reads_from coherence)
  pub co_rel : IsRelation env.co_rel n (RelationIn names.Coherence n c reads_from coherence)
  pub fr_rel : IsRelation env.fr_rel n (RelationIn names.FromReads n c reads_from coherence)
  pub rfe_rel : IsRelation env.rfe_rel n
      (RelationIn names.ReadsFromExternal n c reads_from coherence)
  pub rfi_rel : IsRelation env.rfi_rel n
      (RelationIn names.ReadsFromInternal n c reads_from coherence)
  pub coe_rel : IsRelation env.coe_rel n
      (RelationIn names.CoherenceExternal n c reads_from coherence)
  pub coi_rel : IsRelation env.coi_rel n
      (RelationIn names.CoherenceInternal n c reads_from coherence)
  pub fre_rel : IsRelation env.fre_rel n
      (RelationIn names.FromReadsExternal n c reads_from coherence)
  pub fri_rel : IsRelation env.fri_rel n
      (RelationIn names.FromReadsInternal n c reads_from coherence)
  pub com_rel : IsRelation env.com_rel n (RelationIn names.Communication n c reads_from coherence)
  pub addr_rel : IsRelation env.addr_rel n
      (RelationIn names.AddressDependency n c reads_from coherence)
  pub data_rel : IsRelation env.data_rel n
      (RelationIn names.DataDependency n c reads_from coherence)
  pub ctrl_rel : IsRelation env.ctrl_rel n
      (RelationIn names.ControlDependency n c reads_from coherence)
  pub ctrlisync_rel : IsRelation env.ctrlisync_rel n
      (RelationIn names.ControlIsyncDependency n c reads_from coherence)
  pub sync_rel : IsRelation env.sync_rel n (RelationIn names.SyncOrder n c reads_from coherence)
  pub lwsync_rel : IsRelation env.lwsync_rel n
      (RelationIn names.LwsyncOrder n c reads_from coherence)
  pub eieio_rel : IsRelation env.eieio_rel n (RelationIn names.EieioOrder n c reads_from coherence)
  pub isync_rel : IsRelation env.isync_rel n (RelationIn names.IsyncOrder n c reads_from coherence)
