-- The table of predefined names.
use Rattle.std.proofs.Common.{ℕ, zero, suc, ◌≡◌, ◌<◌, ◌+◌, List, [], ◌∷◌, length, get_or, Contains, refl, ap, arith}
use Rattle.std.specs.Prelude.{AllPairs}
use Rattle.predefined_names.specs.declared.predefined.Predefined.{Predefined}
use Rattle.predefined_names.specs.declared.predefined.Predefined.TheVariants as names
use Rattle.predefined_names.specs.declared.predefined.TheConstants.{PREDEFINED}

-- the index of a name among all
abbrev index_of : Predefined → ℕ
index_of names.Loads = 0
index_of names.Stores = 1
index_of names.Accesses = 2
index_of names.Fences = 3
index_of names.InitialStores = 4
index_of names.SyncFences = 5
index_of names.LwsyncFences = 6
index_of names.EieioFences = 7
index_of names.IsyncFences = 8
index_of names.Identity = 9
index_of names.ProgramOrder = 10
index_of names.SameLocation = 11
index_of names.ProgramOrderSameLocation = 12
index_of names.Internal = 13
index_of names.External = 14
index_of names.ReadsFrom = 15
index_of names.Coherence = 16
index_of names.FromReads = 17
index_of names.ReadsFromExternal = 18
index_of names.ReadsFromInternal = 19
index_of names.CoherenceExternal = 20
index_of names.CoherenceInternal = 21
index_of names.FromReadsExternal = 22
index_of names.FromReadsInternal = 23
index_of names.Communication = 24
index_of names.AddressDependency = 25
index_of names.DataDependency = 26
index_of names.ControlDependency = 27
index_of names.ControlIsyncDependency = 28
index_of names.SyncOrder = 29
index_of names.LwsyncOrder = 30
index_of names.EieioOrder = 31
index_of names.IsyncOrder = 32

-- each name stands at its index
pub stands : (p : Predefined) → Contains PREDEFINED p
stands names.Loads = (0, omega arith, refl)
stands names.Stores = (1, omega arith, refl)
stands names.Accesses = (2, omega arith, refl)
stands names.Fences = (3, omega arith, refl)
stands names.InitialStores = (4, omega arith, refl)
stands names.SyncFences = (5, omega arith, refl)
stands names.LwsyncFences = (6, omega arith, refl)
stands names.EieioFences = (7, omega arith, refl)
stands names.IsyncFences = (8, omega arith, refl)
stands names.Identity = (9, omega arith, refl)
stands names.ProgramOrder = (10, omega arith, refl)
stands names.SameLocation = (11, omega arith, refl)
stands names.ProgramOrderSameLocation = (12, omega arith, refl)
stands names.Internal = (13, omega arith, refl)
stands names.External = (14, omega arith, refl)
stands names.ReadsFrom = (15, omega arith, refl)
stands names.Coherence = (16, omega arith, refl)
stands names.FromReads = (17, omega arith, refl)
stands names.ReadsFromExternal = (18, omega arith, refl)
stands names.ReadsFromInternal = (19, omega arith, refl)
stands names.CoherenceExternal = (20, omega arith, refl)
stands names.CoherenceInternal = (21, omega arith, refl)
stands names.FromReadsExternal = (22, omega arith, refl)
stands names.FromReadsInternal = (23, omega arith, refl)
stands names.Communication = (24, omega arith, refl)
stands names.AddressDependency = (25, omega arith, refl)
stands names.DataDependency = (26, omega arith, refl)
stands names.ControlDependency = (27, omega arith, refl)
stands names.ControlIsyncDependency = (28, omega arith, refl)
stands names.SyncOrder = (29, omega arith, refl)
stands names.LwsyncOrder = (30, omega arith, refl)
stands names.EieioOrder = (31, omega arith, refl)
stands names.IsyncOrder = (32, omega arith, refl)

-- each name of the list stands at its index, of which the first is that
abbrev AreNumbered : ℕ → List Predefined → Type 0
AreNumbered n [] = Unit {0}
AreNumbered n (p ∷ ps) = (index_of p ≡ n) × AreNumbered (suc n) ps

numbered : (n : ℕ) (ps : List Predefined) → AreNumbered n ps → (i : ℕ) (d : Predefined)
    → i < length ps → index_of (get_or ps i d) ≡ n + i
numbered n [] h i d lt = absurd (omega (arith, lt))
numbered n (p ∷ ps) h zero d lt = let e = h.0 in omega (arith, e)
numbered n (p ∷ ps) h (suc i) d lt =
    let e = numbered (suc n) ps h.1 i d (omega (arith, lt)) in omega (arith, e)

all_numbered : AreNumbered 0 PREDEFINED
all_numbered =
    (refl, (refl, (refl, (refl, (refl, (refl, (refl, (refl, (refl, (refl, (refl, (refl, (refl, (refl, (refl, (refl, (refl, (refl, (refl, (refl, (refl, (refl, (refl, (refl, (refl, (refl, (refl, (refl, (refl, (refl, (refl, (refl, (refl, tt)))))))))))))))))))))))))))))))))

pub stand_once : AllPairs (λ p q. p ≡ q → ⊥) PREDEFINED
stand_once i j d before lt e =
    let here = numbered 0 PREDEFINED all_numbered i d (omega (arith, before, lt)) in
    let there = numbered 0 PREDEFINED all_numbered j d lt in
    let same : i ≡ j = omega (arith, here, there, ap index_of e) in
    omega (arith, before, same)
