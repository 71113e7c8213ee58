-- How the pairs of a name or an expression may change from one candidate to another that has more
-- pairs of reads-from and of coherence. Read next: Within, Laws.
use Rattle.std.specs.Prelude.{◌≡◌, Bool, true, false, List, [], ◌∷◌, length, replicate, slice_index_or}
use Rattle.std.specs.List.{AllZip}
use Rattle.predefined_names.specs.declared.predefined.Predefined.{Predefined}
use Rattle.binding_graph.specs.declared.resolved.Blend.{Blend}
use Rattle.binding_graph.specs.declared.resolved.Blend.TheVariants as blends
use Rattle.binding_graph.specs.declared.resolved.Body.{Body}
use Rattle.binding_graph.specs.declared.resolved.Source.{Source}
use Rattle.binding_graph.specs.declared.resolved.Source.TheVariants as sources
use Rattle.binding_graph.specs.declared.resolved.Step.{Step}
use Rattle.binding_graph.specs.Trees.{RelTree, RelName, NoPair, BlendRelations, SequenceRelations, ProductOfSets, IdentityOn, Close, ComplementRelation, rel_code}
use Rattle.cat_eval.specs.Needs.{is_changing_name}
use Rattle.order_growth.specs.declared.growth.Growth.{Growth}
use Rattle.order_growth.specs.declared.growth.Growth.TheVariants.{Stays, Grows, Unknown}

-- what is known of a relation that has more pairs where one of two others has
abbrev pub growth_of_both : Growth → Growth → Growth
growth_of_both Stays g = g
growth_of_both Grows Unknown = Unknown
growth_of_both Grows g = Grows
growth_of_both Unknown g = Unknown

-- what is known of a complement
abbrev pub growth_of_complement : Growth → Growth
growth_of_complement Stays = Stays
growth_of_complement Grows = Unknown
growth_of_complement Unknown = Unknown

-- `\` has fewer pairs where the right operand has more
abbrev pub growth_of_blend : Blend → Growth → Growth → Growth
growth_of_blend blends.Union g h = growth_of_both g h
growth_of_blend blends.Intersection g h = growth_of_both g h
growth_of_blend blends.Difference g h = growth_of_both g (growth_of_complement h)

-- `rf`, `co`, `fr`, their parts and `com` grow; the others are fixed by the runs
abbrev pub growth_if : Bool → Growth
growth_if true = Grows
growth_if false = Stays

abbrev pub predefined_growth : Predefined → Growth
predefined_growth name = growth_if (is_changing_name name)

-- of a name in an item, where its inputs change so. The names of the group itself are taken as they
-- are
abbrev pub source_growth : List Growth → Source → Growth
source_growth inputs (sources.Predefined name) = predefined_growth name
source_growth inputs (sources.Input index) = slice_index_or inputs index Unknown
source_growth inputs (sources.Own position) = Stays

-- of an expression. Sets stay: none is made of relations
abbrev pub growth_of : (Source → Growth) → RelTree → Growth
growth_of named (RelName source) = named source
growth_of named NoPair = Stays
growth_of named (BlendRelations how e f) =
    growth_of_blend how (growth_of named e) (growth_of named f)
growth_of named (SequenceRelations e f) = growth_of_both (growth_of named e) (growth_of named f)
growth_of named (ProductOfSets s t) = Stays
growth_of named (IdentityOn s) = Stays
growth_of named (Close how e) = growth_of named e
growth_of named (ComplementRelation e) = growth_of_complement (growth_of named e)

-- of steps that are those of an expression
abbrev pub IsGrowthOf : List Growth → List Step → Growth → Type 0
IsGrowthOf inputs steps g =
    (e : RelTree) → steps ≡ rel_code e [] → g ≡ growth_of (source_growth inputs) e

-- what is known of all
abbrev pub growth_of_all : List Growth → Growth
growth_of_all [] = Stays
growth_of_all (g ∷ gs) = growth_of_both g (growth_of_all gs)

abbrev pub AreGrowthsOf : List Growth → List Body → List Growth → Type 0
AreGrowthsOf inputs bodies gs =
    AllZip (λ b g. IsGrowthOf inputs b.code.steps.items g) bodies gs

-- of the names of a group: in a recursive one each changes as all bodies do
abbrev pub AreGroupGrowths : List Growth → Bool → List Body → List Growth → Type 0
AreGroupGrowths inputs false bodies gs = AreGrowthsOf inputs bodies gs
AreGroupGrowths inputs true bodies gs =
    (each : List Growth) × AreGrowthsOf inputs bodies each
    × (gs ≡ replicate (length each) (growth_of_all each))
