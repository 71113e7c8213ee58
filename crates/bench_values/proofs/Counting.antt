-- How many values a node gives.
use Rattle.std.proofs.Common.{◌≡◌, Bool, List, [], length, map, Bor, ap, sym, ◌∙◌}
use Rattle.std.proofs.lemmas.List.{length-map}
use Rattle.binding_kinds.specs.declared.kinds.Kind.{Kind}
use Rattle.binding_graph.specs.declared.resolved.Role.{Role}
use Rattle.binding_graph.specs.declared.resolved.Role.TheVariants as roles
use Rattle.candidate_spaces.specs.declared.candidate.Space.{Space}
use Rattle.cat_machine.specs.declared.column.Column.{Column}
use Rattle.cat_machine.specs.Columns.{ColumnsOf}
use Rattle.bench_values.specs.Givens.{GivenContent, ForSpace, ForItem, ForVerdict, ForFault}
use Rattle.bench_items.specs.Items.{BodyContent, RoleContent, Group, Check, Silent, body_content, role_content}
use Rattle.binding_shapes.specs.Shapes.{shape_of_body, role_shape, body_with, role_with}
use Rattle.bench_values.specs.Makes.{column_kind, RoleMakes, Makes, output_names}
use Rattle.bench_items.specs.Naming.{SeenName, names_of_bodies, number_in_history, item_outputs}
use Rattle.bench_values.specs.Spaces.{SpaceContent}
use Rattle.bench_values.specs.Values.{NodeContent, column_value}

abbrev bodies_in : RoleContent → List BodyContent
bodies_in (Group recursive bodies) = bodies
bodies_in (Check negated word code flag) = []
bodies_in Silent = []

-- a column for each body
columns_many : (read : Role) (recursive : Bool) (bodies : List BodyContent) (ks : List Kind)
    (inputs : List (Bor Column)) (over : Space) (cs : List Column)
    → role_content read ≡ role_with ks (Group recursive bodies) → ColumnsOf read inputs over cs
    → length cs ≡ length bodies
columns_many (roles.Group r bs) recursive bodies ks inputs over cs is are =
    are.as_many ∙ sym (length-map bs.items body_content)
    ∙ ap (λ (role : RoleContent). length (bodies_in role)) is
    ∙ length-map bodies (body_with ks)
columns_many (roles.Check check) recursive bodies ks inputs over cs is are = cc
columns_many roles.Silent recursive bodies ks inputs over cs is are = cc

pub item_many : (role : RoleContent) (history : List SeenName) (space : SpaceContent)
    (columns : List Column) (outputs : List NodeContent)
    → RoleMakes (role_shape role) space columns outputs
    → length outputs ≡ length (item_outputs role history)
item_many (Group recursive bodies) history space columns outputs h =
    ap length h.1 ∙ length-map h.0 column_value
    ∙ columns_many h.2.read recursive (map shape_of_body bodies) (map column_kind columns) h.2.inputs
    h.2.over h.0 h.2.reading h.2.values
    ∙ length-map bodies shape_of_body
    ∙ sym (length-map (names_of_bodies bodies) (number_in_history history)
    ∙ length-map bodies (λ (b : BodyContent). b.name))
item_many (Check negated word code flag) history space columns outputs h = ap length h.1
item_many Silent history space columns outputs h = ap length h

pub makes_many : (given : GivenContent) (values outputs : List NodeContent)
    → Makes given values outputs → length outputs ≡ length (output_names given)
makes_many (ForSpace parts) values outputs h = ap length h.1
makes_many (ForItem shape numbers) values outputs h = h.1
makes_many (ForVerdict parts) values outputs h = ap length h.1
makes_many (ForFault parts) values outputs h = ap length h
