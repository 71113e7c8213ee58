-- What an item does whatever the kinds of the names that it uses (`role_shape`), and what it does where
-- the names have these kinds (`role_with`), which its shape decides. The calls of this crate and the
-- nodes of the bench cite it. Read `Contents` and `Lowering` of binding_graph first.
use Rattle.std.specs.Prelude.{List, [], ◌∷◌, map, get_or}
use Rattle.binding_kinds.specs.declared.kinds.Kind.{Kind}
use Rattle.binding_kinds.specs.declared.kinds.Kind.TheVariants.{OfSet, OfRelation}
use Rattle.binding_kinds.specs.Outermost.{kind_of_predefined}
use Rattle.binding_graph.specs.declared.resolved.Source.{Source}
use Rattle.binding_graph.specs.declared.resolved.Source.TheVariants as sources
use Rattle.binding_graph.specs.declared.resolved.Step.{Step}
use Rattle.binding_graph.specs.declared.resolved.Step.TheVariants as steps
use Rattle.binding_graph.specs.Contents.{CodeContent, BodyContent, RoleContent, Group, Check, Silent}
use Rattle.binding_graph.specs.Lowering.{LoweringState, top, below, with_step, with_either, with_blend, lowering_start}

-- ---- without kinds

-- a step that has one form for sets and one for relations has the latter
abbrev pub shape_of_step : Step → Step
shape_of_step (steps.PushSet source) = steps.PushRelation source
shape_of_step steps.PushEverything = steps.PushEverything
shape_of_step steps.PushNoEvents = steps.PushNoEvents
shape_of_step (steps.BlendSets how) = steps.BlendRelations how
shape_of_step steps.ComplementSet = steps.ComplementRelation
shape_of_step (steps.PushRelation source) = steps.PushRelation source
shape_of_step steps.PushNoPairs = steps.PushNoPairs
shape_of_step (steps.BlendRelations how) = steps.BlendRelations how
shape_of_step steps.SequenceRelations = steps.SequenceRelations
shape_of_step steps.ProductOfSets = steps.ProductOfSets
shape_of_step steps.IdentityOn = steps.IdentityOn
shape_of_step (steps.Close how) = steps.Close how
shape_of_step steps.ComplementRelation = steps.ComplementRelation

abbrev pub shape_of_code : CodeContent → CodeContent
shape_of_code c = record { kind = OfRelation; steps = map shape_of_step c.steps }

abbrev pub shape_of_body : BodyContent → BodyContent
shape_of_body b = record { name = b.name; code = shape_of_code b.code }

-- two items differ in kinds alone where their shapes are equal
abbrev pub role_shape : RoleContent → RoleContent
role_shape (Group recursive bodies) = Group recursive (map shape_of_body bodies)
role_shape (Check negated word code flag) = Check negated word (shape_of_code code) flag
role_shape Silent = Silent

-- ---- with kinds

-- the kind of what a name stands for, where the item's inputs have these kinds: a name of the item's
-- own recursive group is a relation
abbrev pub source_kind : List Kind → Source → Kind
source_kind ks (sources.Predefined p) = kind_of_predefined p
source_kind ks (sources.Input i) = get_or ks i OfRelation
source_kind ks (sources.Own j) = OfRelation

abbrev pub with_source : List Kind → Source → LoweringState → LoweringState
with_source ks source st =
    with_either st.kinds st.steps (source_kind ks source) (steps.PushSet source)
    (steps.PushRelation source)

abbrev pub with_complement : LoweringState → LoweringState
with_complement st =
    with_either (below st.kinds) st.steps (top st.kinds) steps.ComplementSet
    steps.ComplementRelation

-- one step more, in the form of the kinds of its operands
abbrev pub step_with : List Kind → Step → LoweringState → LoweringState
step_with ks (steps.PushSet source) st = with_source ks source st
step_with ks steps.PushEverything st = with_step st.kinds st.steps OfSet steps.PushEverything
step_with ks steps.PushNoEvents st = with_step st.kinds st.steps OfSet steps.PushNoEvents
step_with ks (steps.BlendSets how) st = with_blend how st
step_with ks steps.ComplementSet st = with_complement st
step_with ks (steps.PushRelation source) st = with_source ks source st
step_with ks steps.PushNoPairs st = with_step st.kinds st.steps OfRelation steps.PushNoPairs
step_with ks (steps.BlendRelations how) st = with_blend how st
step_with ks steps.SequenceRelations st =
    with_step (below (below st.kinds)) st.steps OfRelation steps.SequenceRelations
step_with ks steps.ProductOfSets st =
    with_step (below (below st.kinds)) st.steps OfRelation steps.ProductOfSets
step_with ks steps.IdentityOn st = with_step (below st.kinds) st.steps OfRelation steps.IdentityOn
step_with ks (steps.Close how) st = with_step (below st.kinds) st.steps OfRelation (steps.Close how)
step_with ks steps.ComplementRelation st = with_complement st

abbrev pub steps_with : List Kind → List Step → LoweringState → LoweringState
steps_with ks [] st = st
steps_with ks (s ∷ ss) st = steps_with ks ss (step_with ks s st)

-- the code has the kind of what it leaves
abbrev pub code_in : LoweringState → CodeContent
code_in st = record { kind = top st.kinds; steps = st.steps }

abbrev pub code_with : List Kind → CodeContent → CodeContent
code_with ks c = code_in (steps_with ks c.steps lowering_start)

abbrev pub body_with : List Kind → BodyContent → BodyContent
body_with ks b = record { name = b.name; code = code_with ks b.code }

-- what the item does where its inputs have these kinds
abbrev pub role_with : List Kind → RoleContent → RoleContent
role_with ks (Group recursive bodies) = Group recursive (map (body_with ks) bodies)
role_with ks (Check negated word code flag) = Check negated word (code_with ks code) flag
role_with ks Silent = Silent
