-- Two predefined names are the same or not.
use Rattle.std.proofs.Common.{ℕ, ◌≡◌, ◌⊎◌, List, [], ◌∷◌, get_or, inl, inr, refl, sym, ap, ◌∙◌}
use Rattle.std.proofs.lemmas.Bool.{cases_eq}
use Rattle.predefined_names.specs.declared.predefined.Predefined.{Predefined}
use Rattle.predefined_names.specs.declared.predefined.Predefined.TheVariants as names

number : Predefined → ℕ
number names.Loads = 0
number names.Stores = 1
number names.Accesses = 2
number names.Fences = 3
number names.InitialStores = 4
number names.SyncFences = 5
number names.LwsyncFences = 6
number names.EieioFences = 7
number names.IsyncFences = 8
number names.Identity = 9
number names.ProgramOrder = 10
number names.SameLocation = 11
number names.ProgramOrderSameLocation = 12
number names.Internal = 13
number names.External = 14
number names.ReadsFrom = 15
number names.Coherence = 16
number names.FromReads = 17
number names.ReadsFromExternal = 18
number names.ReadsFromInternal = 19
number names.CoherenceExternal = 20
number names.CoherenceInternal = 21
number names.FromReadsExternal = 22
number names.FromReadsInternal = 23
number names.Communication = 24
number names.AddressDependency = 25
number names.DataDependency = 26
number names.ControlDependency = 27
number names.ControlIsyncDependency = 28
number names.SyncOrder = 29
number names.LwsyncOrder = 30
number names.EieioOrder = 31
number names.IsyncOrder = 32

numbered : List Predefined
numbered =
    names.Loads ∷ names.Stores ∷ names.Accesses ∷ names.Fences ∷ names.InitialStores
    ∷ names.SyncFences ∷ names.LwsyncFences ∷ names.EieioFences ∷ names.IsyncFences ∷ names.Identity
    ∷ names.ProgramOrder ∷ names.SameLocation ∷ names.ProgramOrderSameLocation ∷ names.Internal
    ∷ names.External ∷ names.ReadsFrom ∷ names.Coherence ∷ names.FromReads ∷ names.ReadsFromExternal
    ∷ names.ReadsFromInternal ∷ names.CoherenceExternal ∷ names.CoherenceInternal
    ∷ names.FromReadsExternal ∷ names.FromReadsInternal ∷ names.Communication
    ∷ names.AddressDependency ∷ names.DataDependency ∷ names.ControlDependency
    ∷ names.ControlIsyncDependency ∷ names.SyncOrder ∷ names.LwsyncOrder ∷ names.EieioOrder
    ∷ names.IsyncOrder ∷ []

number_kept : (p : Predefined) → get_or numbered (number p) names.Loads ≡ p
unfolding numbered number
number_kept names.Loads = refl
number_kept names.Stores = refl
number_kept names.Accesses = refl
number_kept names.Fences = refl
number_kept names.InitialStores = refl
number_kept names.SyncFences = refl
number_kept names.LwsyncFences = refl
number_kept names.EieioFences = refl
number_kept names.IsyncFences = refl
number_kept names.Identity = refl
number_kept names.ProgramOrder = refl
number_kept names.SameLocation = refl
number_kept names.ProgramOrderSameLocation = refl
number_kept names.Internal = refl
number_kept names.External = refl
number_kept names.ReadsFrom = refl
number_kept names.Coherence = refl
number_kept names.FromReads = refl
number_kept names.ReadsFromExternal = refl
number_kept names.ReadsFromInternal = refl
number_kept names.CoherenceExternal = refl
number_kept names.CoherenceInternal = refl
number_kept names.FromReadsExternal = refl
number_kept names.FromReadsInternal = refl
number_kept names.Communication = refl
number_kept names.AddressDependency = refl
number_kept names.DataDependency = refl
number_kept names.ControlDependency = refl
number_kept names.ControlIsyncDependency = refl
number_kept names.SyncOrder = refl
number_kept names.LwsyncOrder = refl
number_kept names.EieioOrder = refl
number_kept names.IsyncOrder = refl

pub same_or_not : (p q : Predefined) → (p ≡ q) ⊎ (p ≡ q → ⊥)
same_or_not p q = elim (cases_eq (number p) (number q)) [
  | inl e ↦ inl (sym (number_kept p) ∙ ap (λ k. get_or numbered k names.Loads) e ∙ number_kept q)
  | inr n ↦ inr (λ e. n (ap number e))
]
