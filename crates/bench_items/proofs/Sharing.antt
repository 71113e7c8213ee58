-- What an item of a model does.
use Rattle.std.proofs.Common.{ℕ, zero, suc, ◌<◌, ◌≡◌, List, [], ◌∷◌, length, slice_index_or, refl, ap, ◌∙◌, arith}
use Rattle.binding_graph.specs.declared.resolved.ResolvedItem.{ResolvedItem}
use Rattle.bench_items.specs.Items.{role_content}
use Rattle.bench_items.specs.Naming.{role_at}

role_there : (items : List ResolvedItem) (i : ℕ) (d : ResolvedItem) → i < length items
    → role_content (slice_index_or items i d).role ≡ role_at items i
role_there [] i d lt = absurd (omega arith)
role_there (r ∷ rs) zero d lt = refl
role_there (r ∷ rs) (suc i) d lt = role_there rs i d (omega arith)

pub shared_item : (items all : List ResolvedItem) (i : ℕ) (r : ResolvedItem) → items ≡ all
    → r ≡ slice_index_or items i r → i < length all → role_content r.role ≡ role_at all i
shared_item items all i r same is lt =
    ap (λ (x : ResolvedItem). role_content x.role) is
    ∙ ap (λ (l : List ResolvedItem). role_content (slice_index_or l i r).role) same
    ∙ role_there all i r lt
