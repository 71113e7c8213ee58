-- Checks and flags as they are named in the text, so far.
use Rattle.std.proofs.Common.{ℕ, ◌≡◌, ◌+◌, ◌<◌, ◌≤◌, List, [], ◌∷◌, ◌++◌, length, take, get_or}
use Rattle.std.specs.List.{AllZip}
use Rattle.std.proofs.lemmas.List.{take_more, take_all}
use Rattle.text_values.specs.declared.model.Item.{Item}
use Rattle.binding_graph.specs.declared.resolved.ResolvedItem.{ResolvedItem}
use Rattle.binding_graph.specs.Resolved.{IsLabelledAs, AreLabelledAs}

pub zip_push : {A B : Type 0} (R : A → B → Type 0) (xs : List A) (ys : List B) (x : A) (y : B)
    → AllZip R xs ys → R x y → AllZip R (xs ++ x ∷ []) (ys ++ y ∷ [])
zip_push R [] [] x y h r = (r, tt)
zip_push R [] (z ∷ zs) x y h r = absurd h
zip_push R (w ∷ ws) [] x y h r = absurd h
zip_push R (w ∷ ws) (z ∷ zs) x y h r = (h.0, zip_push R ws zs x y h.1 r)

pub labels_more : (items : List Item) (i : ℕ) (d : Item) (done all : List ResolvedItem)
    (r : ResolvedItem) → i < length items → AreLabelledAs (take i items) done
    → IsLabelledAs (get_or items i d) r → all ≡ done ++ r ∷ []
    → AreLabelledAs (take (i + 1) items) all
labels_more items i d done all r lt h one pushed =
    rw (pushed, take_more items i d lt) (zip_push IsLabelledAs (take i items) done
    (get_or items i d) r h one)

pub labels_all : (items : List Item) (i : ℕ) (done : List ResolvedItem) → length items ≤ i
    → AreLabelledAs (take i items) done → AreLabelledAs items done
labels_all items i done le h = rw (take_all i items le) at h
