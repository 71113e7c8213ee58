-- Rows of items by number, and rows for more items.
use Rattle.std.proofs.Common.{◌≡◌, ℕ, zero, suc, ◌+◌, ◌-◌, ◌==◌, ◌<◌, ◌≤◌, List, [], ◌∷◌, ◌++◌, Bool, true, false, not, cond, if◌then◌else◌, length, map, take, drop, get_or, add-one, Option, Some, None, slice_get, option_and_then, refl, ap, subst, ◌∙◌, arith}
use Rattle.std.proofs.Math.ListN.{set}
use Rattle.std.specs.List.{position_or_len}
use Rattle.memo_core.specs.declared.keys.Kind.{Kind}
use Rattle.binding_graph.specs.declared.resolved.ResolvedItem.{ResolvedItem}
use Rattle.bench_items.specs.declared.items.SharedItem.{SharedItem}
use Rattle.bench_items.specs.Items.{role_at}
use Rattle.bench_nodes.specs.declared.table.ItemRow.{ItemRow}
use Rattle.bench_nodes.specs.Nodes.{item_stamp}
use Rattle.bench_parts.specs.Contents.{PartContent, role_part, item_content}
use Rattle.bench_parts.specs.Stamps.{IsStampOf}
use Rattle.bench_parts.specs.Items.{ItemFact, IsItemMade, AreItemsMade, read_role}

-- ---- the first row of a number

abbrev pub found_role : Option (Option SharedItem) → Option PartContent
found_role o = role_part (option_and_then (λ r. r) o)

pub content_at : (is : List ItemRow) (rs : List (Option SharedItem)) (n i : ℕ)
    → position_or_len (λ x. x.number == n) is ≡ i → i < length is
    → item_content is rs n ≡ found_role (slice_get rs i)
content_at [] rs n i p lt = absurd (omega arith)
content_at (x ∷ xs) [] n i p lt = refl
content_at (x ∷ xs) (r ∷ rs) n zero p lt = by_test (x.number == n) p
  where
    by_test : (b : Bool) → cond (not b) (1 + position_or_len (λ x. x.number == n) xs) 0 ≡ 0
        → (if b then role_part r else item_content xs rs n) ≡ role_part r
    by_test true p = refl
    by_test false p = absurd (omega (arith, p))
content_at (x ∷ xs) (r ∷ rs) n (suc i) p lt =
    by_test (x.number == n) p (λ q. content_at xs rs n i q (omega (arith, lt)))
  where
    by_test : (b : Bool) → cond (not b) (1 + position_or_len (λ x. x.number == n) xs) 0 ≡ suc i
        → (position_or_len (λ x. x.number == n) xs ≡ i
        → item_content xs rs n ≡ found_role (slice_get rs i))
        → (if b then role_part r else item_content xs rs n) ≡ found_role (slice_get rs i)
    by_test true p later = absurd (omega (arith, p))
    by_test false p later = later (omega (arith, p))

pub content_past : (is : List ItemRow) (rs : List (Option SharedItem)) (n i : ℕ)
    → position_or_len (λ x. x.number == n) is ≡ i → length is ≤ i → item_content is rs n ≡ None
content_past [] rs n i p past = refl
content_past (x ∷ xs) [] n i p past = refl
content_past (x ∷ xs) (r ∷ rs) n i p past =
    by_test (x.number == n) p (λ q l. content_past xs rs n (i - 1) q l)
  where
    by_test : (b : Bool) → cond (not b) (1 + position_or_len (λ x. x.number == n) xs) 0 ≡ i
        → (position_or_len (λ x. x.number == n) xs ≡ i - 1 → length xs ≤ i - 1
        → item_content xs rs n ≡ None)
        → (if b then role_part r else item_content xs rs n) ≡ None
    by_test true p later = absurd (omega (arith, p, past))
    by_test false p later = later (omega (arith, p)) (omega (arith, p, past))

-- ---- roles

pub role_within : (rs : List ResolvedItem) (i : ℕ) → i < length rs
    → read_role (Some rs) i ≡ Some (role_at rs i)
role_within [] i lt = absurd (omega arith)
role_within (r ∷ rs) zero lt = refl
role_within (r ∷ rs) (suc i) lt = role_within rs i (omega arith)

pub role_past : (rs : List ResolvedItem) (i : ℕ) → length rs ≤ i → read_role (Some rs) i ≡ None
role_past [] i past = refl
role_past (r ∷ rs) zero past = absurd (omega arith)
role_past (r ∷ rs) (suc i) past = role_past rs i (omega arith)

-- ---- one item more

pub items_more : (fresh : ℕ) (rows : List ItemRow) (roles : List (Option SharedItem))
    (texts : ℕ → Option PartContent) (fs : List ItemFact) (is : List ItemRow)
    (rs : List (Option SharedItem)) (ks : List (Option Kind)) (f : ItemFact) (i : ItemRow)
    (r : Option SharedItem) (k : Option Kind) → AreItemsMade fresh rows roles texts fs is rs ks
    → IsItemMade fresh rows roles texts f i r → k ≡ f.kind
    → AreItemsMade fresh rows roles texts (fs ++ f ∷ []) (is ++ i ∷ []) (rs ++ r ∷ []) (ks ++ k ∷ [])
items_more fresh rows roles texts [] [] [] [] f i r k before item kind = (item, kind, tt)
items_more fresh rows roles texts [] [] [] (l ∷ ks) f i r k before item kind = absurd before
items_more fresh rows roles texts [] [] (s ∷ rs) ks f i r k before item kind = absurd before
items_more fresh rows roles texts [] (x ∷ is) rs ks f i r k before item kind = absurd before
items_more fresh rows roles texts (g ∷ fs) [] rs ks f i r k before item kind = absurd before
items_more fresh rows roles texts (g ∷ fs) (x ∷ is) [] ks f i r k before item kind = absurd before
items_more fresh rows roles texts (g ∷ fs) (x ∷ is) (s ∷ rs) [] f i r k before item kind =
    absurd before
items_more fresh rows roles texts (g ∷ fs) (x ∷ is) (s ∷ rs) (l ∷ ks) f i r k before item kind =
    (before.0, before.1, items_more fresh rows roles texts fs is rs ks f i r k before.2 item kind)

-- ---- one row more is changed

changed : (f : ItemRow → ItemRow) (xs : List ItemRow) (i : ℕ) (d : ItemRow) → i < length xs
    → set (map f (take i xs) ++ drop i xs) i (f (get_or (map f (take i xs) ++ drop i xs) i d))
    ≡ map f (take (suc i) xs) ++ drop (suc i) xs
changed f [] i d lt = absurd (omega arith)
changed f (x ∷ xs) zero d lt = refl
changed f (x ∷ xs) (suc i) d lt =
    ap (λ (zs : List ItemRow). f x ∷ zs) (changed f xs i d (omega arith))

pub changed_more : (f : ItemRow → ItemRow) (xs ys : List ItemRow) (i : ℕ) (y d : ItemRow)
    → i < length xs → ys ≡ map f (take i xs) ++ drop i xs → y ≡ f (get_or ys i d)
    → set ys i y ≡ map f (take (i + 1) xs) ++ drop (i + 1) xs
changed_more f xs ys i y d lt e is =
    rw add-one (ap (λ (v : ItemRow). set ys i v) is
    ∙ (ap (λ (zs : List ItemRow). set zs i (f (get_or zs i d))) e ∙ changed f xs i d lt))

pub stamp_along : (fresh : ℕ) (b d : Option PartContent) (w x : ℕ) (n m : Option PartContent)
    (s : ℕ) → b ≡ d → w ≡ x → n ≡ m → IsStampOf fresh b w n s → IsStampOf fresh d x m s
stamp_along fresh b d w x n m s p q r h =
    subst (λ o. IsStampOf fresh d x o s) r (subst (λ v. IsStampOf fresh d v n s) q
    (subst (λ o. IsStampOf fresh o w n s) p h))
