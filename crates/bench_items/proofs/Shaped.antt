-- The outputs of an item go by the same numbers whatever the kinds of its names.
use Rattle.std.proofs.Common.{◌≡◌, List, [], ◌∷◌, map, refl, sym, ap, ◌∙◌}
use Rattle.binding_shapes.specs.Shapes.{shape_of_body, role_shape}
use Rattle.bench_items.specs.Items.{BodyContent, RoleContent, Group, Check, Silent}
use Rattle.bench_items.specs.Naming.{SeenName, names_of_bodies, number_in_history, item_outputs}

names_by_shape : (bodies : List BodyContent)
    → names_of_bodies (map shape_of_body bodies) ≡ names_of_bodies bodies
names_by_shape [] = refl
names_by_shape (b ∷ bs) = ap (λ (l : List SeenName). b.name ∷ l) (names_by_shape bs)

outputs_by_shape : (role : RoleContent) (history : List SeenName)
    → item_outputs (role_shape role) history ≡ item_outputs role history
outputs_by_shape (Group recursive bodies) history =
    ap (map (number_in_history history)) (names_by_shape bodies)
outputs_by_shape (Check negated word code flag) history = refl
outputs_by_shape Silent history = refl

pub shaped_outputs : (a b : RoleContent) (history : List SeenName) → role_shape a ≡ role_shape b
    → item_outputs a history ≡ item_outputs b history
shaped_outputs a b history same =
    sym (outputs_by_shape a history)
    ∙ (ap (λ (r : RoleContent). item_outputs r history) same ∙ outputs_by_shape b history)
