-- How the predefined names are written, and which are sets (the herd7 manual, chapter on cat).
use Rattle.std.specs.Prelude.{◌≡◌, ℕ, List, Bool, true, false, codes, Contains, AllPairs}
use Rattle.predefined_names.specs.declared.predefined.Predefined as declared
use Rattle.predefined_names.specs.declared.predefined.Predefined.TheVariants as names

abbrev pub spelling : declared.Predefined → List ℕ
spelling names.Loads = codes "R"
spelling names.Stores = codes "W"
spelling names.Accesses = codes "M"
spelling names.Fences = codes "F"
spelling names.InitialStores = codes "IW"
spelling names.SyncFences = codes "SYNC"
spelling names.LwsyncFences = codes "LWSYNC"
spelling names.EieioFences = codes "EIEIO"
spelling names.IsyncFences = codes "ISYNC"
spelling names.Identity = codes "id"
spelling names.ProgramOrder = codes "po"
spelling names.SameLocation = codes "loc"
spelling names.ProgramOrderSameLocation = codes "po-loc"
spelling names.Internal = codes "int"
spelling names.External = codes "ext"
spelling names.ReadsFrom = codes "rf"
spelling names.Coherence = codes "co"
spelling names.FromReads = codes "fr"
spelling names.ReadsFromExternal = codes "rfe"
spelling names.ReadsFromInternal = codes "rfi"
spelling names.CoherenceExternal = codes "coe"
spelling names.CoherenceInternal = codes "coi"
spelling names.FromReadsExternal = codes "fre"
spelling names.FromReadsInternal = codes "fri"
spelling names.Communication = codes "com"
spelling names.AddressDependency = codes "addr"
spelling names.DataDependency = codes "data"
spelling names.ControlDependency = codes "ctrl"
spelling names.ControlIsyncDependency = codes "ctrlisync"
spelling names.SyncOrder = codes "sync"
spelling names.LwsyncOrder = codes "lwsync"
spelling names.EieioOrder = codes "eieio"
spelling names.IsyncOrder = codes "isync"

-- a set of events, and no relation
abbrev pub is_set : declared.Predefined → Bool
is_set names.Loads = true
is_set names.Stores = true
is_set names.Accesses = true
is_set names.Fences = true
is_set names.InitialStores = true
is_set names.SyncFences = true
is_set names.LwsyncFences = true
is_set names.EieioFences = true
is_set names.IsyncFences = true
is_set _ = false

-- Each predefined name stands in the list, and none twice.
abbrev pub HasEachNameOnce : List declared.Predefined → Type 0
HasEachNameOnce ps =
    ((p : declared.Predefined) → Contains ps p) × AllPairs (λ p q. p ≡ q → ⊥) ps
