use Rattle.std.proofs.Common.{ℕ, ◌<◌, refl, subst}
use Rattle.bit_rows.specs.Relation.{IsEvents}
use Rattle.predefined_names.specs.declared.predefined.Predefined.TheVariants as names
use Rattle.base_env.proofs.env.env_of.Goals as goal

pub returns : goal.returns
returns c = λ k reads_from coherence entered reading ordered sets relations. record {
  all_set =
      subst (λ (m : ℕ). IsEvents c.all.result m (λ a. a < m)) c.count.ensures.value c.all.ensures;
  r_set = c.set.ensures.meant k entered (sets names.Loads refl);
  w_set = c.set-2.ensures.meant k entered (sets names.Stores refl);
  m_set = c.set-3.ensures.meant k entered (sets names.Accesses refl);
  f_set = c.set-4.ensures.meant k entered (sets names.Fences refl);
  iw_set = c.set-5.ensures.meant k entered (sets names.InitialStores refl);
  sync_set = c.set-6.ensures.meant k entered (sets names.SyncFences refl);
  lwsync_set = c.set-7.ensures.meant k entered (sets names.LwsyncFences refl);
  eieio_set = c.set-8.ensures.meant k entered (sets names.EieioFences refl);
  isync_set = c.set-9.ensures.meant k entered (sets names.IsyncFences refl);
  id_rel =
      c.relation.ensures k reads_from coherence entered reading ordered (relations names.Identity refl);
  po_rel =
      c.relation-2.ensures k reads_from coherence entered reading ordered
      (relations names.ProgramOrder refl);
  loc_rel =
      c.relation-3.ensures k reads_from coherence entered reading ordered
      (relations names.SameLocation refl);
  po_loc_rel =
      c.relation-4.ensures k reads_from coherence entered reading ordered
      (relations names.ProgramOrderSameLocation refl);
  int_rel =
      c.relation-5.ensures k reads_from coherence entered reading ordered (relations names.Internal refl);
  ext_rel =
      c.relation-6.ensures k reads_from coherence entered reading ordered (relations names.External refl);
  rf_rel =
      c.relation-7.ensures k reads_from coherence entered reading ordered (relations names.ReadsFrom refl);
  co_rel =
      c.relation-8.ensures k reads_from coherence entered reading ordered (relations names.Coherence refl);
  fr_rel =
      c.relation-9.ensures k reads_from coherence entered reading ordered (relations names.FromReads refl);
  rfe_rel =
      c.relation-10.ensures k reads_from coherence entered reading ordered
      (relations names.ReadsFromExternal refl);
  rfi_rel =
      c.relation-11.ensures k reads_from coherence entered reading ordered
      (relations names.ReadsFromInternal refl);
  coe_rel =
      c.relation-12.ensures k reads_from coherence entered reading ordered
      (relations names.CoherenceExternal refl);
  coi_rel =
      c.relation-13.ensures k reads_from coherence entered reading ordered
      (relations names.CoherenceInternal refl);
  fre_rel =
      c.relation-14.ensures k reads_from coherence entered reading ordered
      (relations names.FromReadsExternal refl);
  fri_rel =
      c.relation-15.ensures k reads_from coherence entered reading ordered
      (relations names.FromReadsInternal refl);
  com_rel =
      c.relation-16.ensures k reads_from coherence entered reading ordered
      (relations names.Communication refl);
  addr_rel =
      c.relation-17.ensures k reads_from coherence entered reading ordered
      (relations names.AddressDependency refl);
  data_rel =
      c.relation-18.ensures k reads_from coherence entered reading ordered
      (relations names.DataDependency refl);
  ctrl_rel =
      c.relation-19.ensures k reads_from coherence entered reading ordered
      (relations names.ControlDependency refl);
  ctrlisync_rel =
      c.relation-20.ensures k reads_from coherence entered reading ordered
      (relations names.ControlIsyncDependency refl);
  sync_rel =
      c.relation-21.ensures k reads_from coherence entered reading ordered
      (relations names.SyncOrder refl);
  lwsync_rel =
      c.relation-22.ensures k reads_from coherence entered reading ordered
      (relations names.LwsyncOrder refl);
  eieio_rel =
      c.relation-23.ensures k reads_from coherence entered reading ordered
      (relations names.EieioOrder refl);
  isync_rel =
      c.relation-24.ensures k reads_from coherence entered reading ordered
      (relations names.IsyncOrder refl);
}
