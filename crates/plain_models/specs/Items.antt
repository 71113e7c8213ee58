-- What the items of a model bind. Read next: Answers.
use Rattle.std.specs.Prelude.{ℕ, ◌≡◌, List, [], ◌∷◌, ◌++◌, length, map, true, false}
use Rattle.text_values.specs.declared.model.Item.{Item}
use Rattle.text_values.specs.declared.model.Item.TheVariants as items
use Rattle.text_values.specs.ModelValues.{binding_of}
use Rattle.meaning.specs.Sets as sets
use Rattle.meaning.specs.Names.{Name}
use Rattle.meaning.specs.Cat.{Names, Least}
use Rattle.plain_models.specs.declared.value.Value.{Value}
use Rattle.plain_models.specs.declared.scope.Bound.{Bound}
use Rattle.plain_models.specs.declared.scope.Bound.TheVariants as bounds
use Rattle.plain_models.specs.declared.scope.Named.{Named}
use Rattle.plain_models.specs.Values.{meaning_as, IsEvaluatedTo, HaveValues}
use Rattle.plain_models.specs.Groups.{name_of, body_of, AreRelations}

-- A name is bound to the value.
abbrev pub IsBoundTo : Value → Bound → Type 0
IsBoundTo v (bounds.Value w) = IsEvaluatedTo (meaning_as v) w
IsBoundTo v (bounds.Function i) = ⊥

-- The names are bound to the values, in their order.
abbrev pub AreBoundTo : List Name → List Value → List Named → Type 0
AreBoundTo [] [] [] = Unit {0}
AreBoundTo (n ∷ ns) (v ∷ vs) (b ∷ bs) =
    (b.name ≡ n) × IsBoundTo v b.bound × AreBoundTo ns vs bs
AreBoundTo ns vs bs = ⊥

-- The list grew by such names.
abbrev pub GrowsBy : List Name → List Value → List Named → List Named → Type 0
GrowsBy names values old new =
    (added : List Named) × (new ≡ old ++ added) × AreBoundTo names values added

-- The values are what the names of a group stand for behind these names. For another item there is
-- none.
abbrev pub AreBound : sets.Set ℕ → Names ℕ → Item → List Value → Type 0
AreBound all names (items.Let true group) vs =
    AreRelations (Least all names (map binding_of group.items)) (map name_of group.items) vs
AreBound all names (items.Let false group) vs =
    HaveValues all names (map body_of group.items) vs
AreBound all names _ vs = vs ≡ []

-- There are as many values as names in a group.
abbrev pub AreAsMany : Item → List Value → Type 0
AreAsMany (items.Let recursive group) vs = length group.items ≡ length vs
AreAsMany _ vs = Unit {0}

-- The list grew by a name that is bound to the function of that item.
abbrev pub GrowsByFunction : Name → ℕ → List Named → List Named → Type 0
GrowsByFunction n index old new =
    (b : Named) × (new ≡ old ++ b ∷ []) × (b.name ≡ n) × (b.bound ≡ bounds.Function index)

-- The list grew by what the item binds.
abbrev pub Binds : Item → ℕ → List Value → List Named → List Named → Type 0
Binds (items.Let recursive group) index vs old new = GrowsBy (map name_of group.items) vs old new
Binds (items.Function name parameters body) index vs old new = GrowsByFunction name index old new
Binds _ index vs old new = new ≡ old
