-- Which predefined names change with what the loads read, and which with the order of the stores.
use Rattle.std.specs.Prelude.{Bool, true, false, List, [], ◌∷◌, Contains}
use Rattle.std.specs.List.{list_any, flat_map}
use Rattle.predefined_names.specs.declared.predefined.Predefined.{Predefined}
use Rattle.predefined_names.specs.declared.predefined.Predefined.TheVariants as names
use Rattle.binding_graph.specs.declared.resolved.Body.{Body}
use Rattle.binding_graph.specs.declared.resolved.Role.{Role}
use Rattle.binding_graph.specs.declared.resolved.Role.TheVariants as roles
use Rattle.binding_graph.specs.declared.resolved.Source.{Source}
use Rattle.binding_graph.specs.declared.resolved.Source.TheVariants as sources
use Rattle.binding_graph.specs.declared.resolved.Step.{Step}
use Rattle.binding_graph.specs.declared.resolved.Step.TheVariants as steps

abbrev pub changes_with_reads : Predefined → Bool
changes_with_reads names.ReadsFrom = true
changes_with_reads names.ReadsFromExternal = true
changes_with_reads names.ReadsFromInternal = true
changes_with_reads names.FromReads = true
changes_with_reads names.FromReadsExternal = true
changes_with_reads names.FromReadsInternal = true
changes_with_reads names.Communication = true
changes_with_reads _ = false

abbrev pub changes_with_orders : Predefined → Bool
changes_with_orders names.Coherence = true
changes_with_orders names.CoherenceExternal = true
changes_with_orders names.CoherenceInternal = true
changes_with_orders names.FromReads = true
changes_with_orders names.FromReadsExternal = true
changes_with_orders names.FromReadsInternal = true
changes_with_orders names.Communication = true
changes_with_orders _ = false

-- whether the step pushes a predefined name that passes a test
abbrev pub source_passes : (Predefined → Bool) → Source → Bool
source_passes test (sources.Predefined name) = test name
source_passes test (sources.Input index) = false
source_passes test (sources.Own position) = false

abbrev pub step_passes : (Predefined → Bool) → Step → Bool
step_passes test (steps.PushSet source) = source_passes test source
step_passes test steps.PushEverything = false
step_passes test steps.PushNoEvents = false
step_passes test (steps.BlendSets how) = false
step_passes test steps.ComplementSet = false
step_passes test (steps.PushRelation source) = source_passes test source
step_passes test steps.PushNoPairs = false
step_passes test (steps.BlendRelations how) = false
step_passes test steps.SequenceRelations = false
step_passes test steps.ProductOfSets = false
step_passes test steps.IdentityOn = false
step_passes test (steps.Close how) = false
step_passes test steps.ComplementRelation = false

-- whether the expression uses a name that changes so
abbrev pub steps_read : List Step → Bool
steps_read xs = list_any (step_passes changes_with_reads) xs

abbrev pub steps_order : List Step → Bool
steps_order xs = list_any (step_passes changes_with_orders) xs

-- whether some expression of the item does
abbrev pub bodies_read : List Body → Bool
bodies_read bodies = list_any (λ body. steps_read body.code.steps.items) bodies

abbrev pub bodies_order : List Body → Bool
bodies_order bodies = list_any (λ body. steps_order body.code.steps.items) bodies

abbrev pub role_reads : Role → Bool
role_reads (roles.Group recursive bodies) = bodies_read bodies.items
role_reads (roles.Check check) = steps_read check.code.steps.items
role_reads roles.Silent = false

abbrev pub role_orders : Role → Bool
role_orders (roles.Group recursive bodies) = bodies_order bodies.items
role_orders (roles.Check check) = steps_order check.code.steps.items
role_orders roles.Silent = false

-- the predefined name that a step pushes, where it is one
abbrev pub source_names : Source → List Predefined
source_names (sources.Predefined name) = name ∷ []
source_names (sources.Input index) = []
source_names (sources.Own position) = []

abbrev pub step_names : Step → List Predefined
step_names (steps.PushSet source) = source_names source
step_names steps.PushEverything = []
step_names steps.PushNoEvents = []
step_names (steps.BlendSets how) = []
step_names steps.ComplementSet = []
step_names (steps.PushRelation source) = source_names source
step_names steps.PushNoPairs = []
step_names (steps.BlendRelations how) = []
step_names steps.SequenceRelations = []
step_names steps.ProductOfSets = []
step_names steps.IdentityOn = []
step_names (steps.Close how) = []
step_names steps.ComplementRelation = []

-- the predefined names in the expressions of an item
abbrev pub predefined_names_in : List Step → List Predefined
predefined_names_in xs = flat_map step_names xs

abbrev pub bodies_names : List Body → List Predefined
bodies_names bodies = flat_map (λ body. predefined_names_in body.code.steps.items) bodies

abbrev pub role_names : Role → List Predefined
role_names (roles.Group recursive bodies) = bodies_names bodies.items
role_names (roles.Check check) = predefined_names_in check.code.steps.items
role_names roles.Silent = []

-- all of these names are listed
abbrev pub ListsNeeded : List Predefined → List Predefined → Type 0
ListsNeeded list some = (name : Predefined) → Contains some name → Contains list name
