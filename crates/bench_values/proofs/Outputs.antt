-- The outputs of two items of one shape.
use Rattle.std.proofs.Common.{◌≡◌, List, sym, ◌∙◌}
use Rattle.binding_shapes.specs.Shapes.{role_shape}
use Rattle.bench_items.specs.Items.{RoleContent}
use Rattle.bench_items.specs.Naming.{SeenName, item_outputs}
use Rattle.bench_items.proofs.Shaped.{shaped_outputs}

pub same_from : (a b : RoleContent) (h g : List SeenName) → role_shape a ≡ role_shape b
    → item_outputs a h ≡ item_outputs a g → item_outputs a h ≡ item_outputs b g
same_from a b h g shape same = same ∙ shaped_outputs a b g shape

pub same_back : (a b : RoleContent) (h g : List SeenName) → role_shape a ≡ role_shape b
    → item_outputs a h ≡ item_outputs b g → item_outputs a h ≡ item_outputs a g
same_back a b h g shape same = same ∙ sym (shaped_outputs a b g shape)
