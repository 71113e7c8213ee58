-- All predefined names, and the sets among them.
use Rattle.std.proofs.Common.{List, [], ◌∷◌, Contains, IsTrue, arith, refl, sym}
use Rattle.std.proofs.lemmas.Bool.{true≢false}
use Rattle.predefined_names.specs.declared.predefined.Predefined.{Predefined}
use Rattle.predefined_names.specs.declared.predefined.Predefined.TheVariants as names
use Rattle.predefined_names.specs.PredefinedNames.{is_set}

abbrev pub all_names : List Predefined
all_names =
    names.Loads ∷ names.Stores ∷ names.Accesses ∷ names.Fences ∷ names.InitialStores
    ∷ names.SyncFences ∷ names.LwsyncFences ∷ names.EieioFences ∷ names.IsyncFences ∷ names.Identity
    ∷ names.ProgramOrder ∷ names.SameLocation ∷ names.ProgramOrderSameLocation ∷ names.Internal
    ∷ names.External ∷ names.ReadsFrom ∷ names.Coherence ∷ names.FromReads ∷ names.ReadsFromExternal
    ∷ names.ReadsFromInternal ∷ names.CoherenceExternal ∷ names.CoherenceInternal
    ∷ names.FromReadsExternal ∷ names.FromReadsInternal ∷ names.Communication
    ∷ names.AddressDependency ∷ names.DataDependency ∷ names.ControlDependency
    ∷ names.ControlIsyncDependency ∷ names.SyncOrder ∷ names.LwsyncOrder ∷ names.EieioOrder
    ∷ names.IsyncOrder ∷ []

abbrev pub all_sets : List Predefined
all_sets =
    names.Loads ∷ names.Stores ∷ names.Accesses ∷ names.Fences ∷ names.InitialStores
    ∷ names.SyncFences ∷ names.LwsyncFences ∷ names.EieioFences ∷ names.IsyncFences ∷ []

pub every_name : (name : Predefined) → Contains all_names name
every_name names.Loads = (0, omega arith, refl)
every_name names.Stores = (1, omega arith, refl)
every_name names.Accesses = (2, omega arith, refl)
every_name names.Fences = (3, omega arith, refl)
every_name names.InitialStores = (4, omega arith, refl)
every_name names.SyncFences = (5, omega arith, refl)
every_name names.LwsyncFences = (6, omega arith, refl)
every_name names.EieioFences = (7, omega arith, refl)
every_name names.IsyncFences = (8, omega arith, refl)
every_name names.Identity = (9, omega arith, refl)
every_name names.ProgramOrder = (10, omega arith, refl)
every_name names.SameLocation = (11, omega arith, refl)
every_name names.ProgramOrderSameLocation = (12, omega arith, refl)
every_name names.Internal = (13, omega arith, refl)
every_name names.External = (14, omega arith, refl)
every_name names.ReadsFrom = (15, omega arith, refl)
every_name names.Coherence = (16, omega arith, refl)
every_name names.FromReads = (17, omega arith, refl)
every_name names.ReadsFromExternal = (18, omega arith, refl)
every_name names.ReadsFromInternal = (19, omega arith, refl)
every_name names.CoherenceExternal = (20, omega arith, refl)
every_name names.CoherenceInternal = (21, omega arith, refl)
every_name names.FromReadsExternal = (22, omega arith, refl)
every_name names.FromReadsInternal = (23, omega arith, refl)
every_name names.Communication = (24, omega arith, refl)
every_name names.AddressDependency = (25, omega arith, refl)
every_name names.DataDependency = (26, omega arith, refl)
every_name names.ControlDependency = (27, omega arith, refl)
every_name names.ControlIsyncDependency = (28, omega arith, refl)
every_name names.SyncOrder = (29, omega arith, refl)
every_name names.LwsyncOrder = (30, omega arith, refl)
every_name names.EieioOrder = (31, omega arith, refl)
every_name names.IsyncOrder = (32, omega arith, refl)

pub every_set : (name : Predefined) → IsTrue (is_set name) → Contains all_sets name
every_set names.Loads holds = (0, omega arith, refl)
every_set names.Stores holds = (1, omega arith, refl)
every_set names.Accesses holds = (2, omega arith, refl)
every_set names.Fences holds = (3, omega arith, refl)
every_set names.InitialStores holds = (4, omega arith, refl)
every_set names.SyncFences holds = (5, omega arith, refl)
every_set names.LwsyncFences holds = (6, omega arith, refl)
every_set names.EieioFences holds = (7, omega arith, refl)
every_set names.IsyncFences holds = (8, omega arith, refl)
every_set _ holds = absurd (true≢false (sym holds))
