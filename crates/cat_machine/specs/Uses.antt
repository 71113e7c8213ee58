-- Which names of its own group an expression uses.
use Rattle.std.specs.Prelude.{ℕ, ◌≡◌, ◌<◌, min, List, [], length, Option, Some, None, slice_get, slice_index_or, Any}
use Rattle.std.specs.Int.{bit_at}
use Rattle.binding_graph.specs.declared.resolved.Step.{Step}
use Rattle.binding_graph.specs.declared.resolved.Step.TheVariants as steps
use Rattle.binding_graph.specs.declared.resolved.Body.{Body}
use Rattle.binding_graph.specs.declared.resolved.ResolvedItem.{ResolvedItem}
use Rattle.binding_graph.specs.declared.resolved.Role.{Role}
use Rattle.binding_graph.specs.declared.resolved.Role.TheVariants as roles
use Rattle.binding_graph.specs.declared.resolved.Source.{Source}
use Rattle.binding_graph.specs.declared.resolved.Source.TheVariants as sources

-- names whose positions share a bit: the 64th of a group and those behind it have the last one
abbrev pub ShareBit : ℕ → ℕ → Type 0
ShareBit position other = min position 63 ≡ min other 63

-- the name at this position of a group, or one that shares its bit, is among the names
unfoldable pub IsAmong : ℕ → ℕ → Type 0
IsAmong names position = bit_at names (min position 63) ≡ 1

-- it stands for one of these names of the group
abbrev pub StandsForOne : ℕ → Source → Type 0
StandsForOne names (sources.Predefined name) = ⊥
StandsForOne names (sources.Input index) = ⊥
StandsForOne names (sources.Own position) = IsAmong names position

-- the step uses one of these names of the group
abbrev pub UsesOne : ℕ → Step → Type 0
UsesOne names (steps.PushSet source) = StandsForOne names source
UsesOne names steps.PushEverything = ⊥
UsesOne names steps.PushNoEvents = ⊥
UsesOne names (steps.BlendSets how) = ⊥
UsesOne names steps.ComplementSet = ⊥
UsesOne names (steps.PushRelation source) = StandsForOne names source
UsesOne names steps.PushNoPairs = ⊥
UsesOne names (steps.BlendRelations how) = ⊥
UsesOne names steps.SequenceRelations = ⊥
UsesOne names steps.ProductOfSets = ⊥
UsesOne names steps.IdentityOn = ⊥
UsesOne names (steps.Close how) = ⊥
UsesOne names steps.ComplementRelation = ⊥

-- some step uses one of these names of the group
abbrev pub UsesAny : ℕ → List Step → Type 0
UsesAny names xs = Any (UsesOne names) xs

-- the body at this position of a group uses one of these names
abbrev pub UsesAt : ℕ → List Body → ℕ → Type 0
UsesAt names bodies position =
    (body : Body) × (position < length bodies) × (slice_index_or bodies position body ≡ body)
    × UsesAny names body.code.steps.items

-- this body, or one whose name shares the bit of its name, uses one of these names
abbrev pub UsesNear : ℕ → List Body → ℕ → Type 0
UsesNear names bodies position = (other : ℕ) × ShareBit other position × UsesAt names bodies other

-- the bodies of an item's group: none of an item without one
abbrev pub bodies_of : Role → List Body
bodies_of (roles.Group recursive bodies) = bodies.items
bodies_of (roles.Check check) = []
bodies_of roles.Silent = []

abbrev pub bodies_of_some : Option ResolvedItem → List Body
bodies_of_some (Some item) = bodies_of item.role
bodies_of_some None = []

-- those of the item at this index: none where no item stands there
abbrev pub bodies_at : List ResolvedItem → ℕ → List Body
bodies_at items item = bodies_of_some (slice_get items item)
