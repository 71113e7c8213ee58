-- The checks among items, and the relation names among names: one more.
use Rattle.std.proofs.Common.{ℕ, ◌≡◌, ◌<◌, ◌+◌, ◌∙◌, List, [], ◌∷◌, ◌++◌, length, get_or, take, refl, ap, sym, append_assoc, arith, cond, true, false}
use Rattle.std.proofs.lemmas.List.{append-nil, map-append, take_more, length-take-le}
use Rattle.std.proofs.lemmas.List.Elements.{filter_more}
use Rattle.predefined_names.specs.PredefinedNames.{is_set}
use Rattle.predefined_names.specs.declared.predefined.Predefined.{Predefined}
use Rattle.why_labels.specs.declared.label.PredefinedValue.{PredefinedValue}
use Rattle.why_forbidden.specs.Language.{is_relation_name, valued_names, relation_names}
use Rattle.binding_graph.specs.declared.resolved.ResolvedItem.{ResolvedItem}
use Rattle.why_forbidden.specs.declared.checks.CheckValues.{CheckValues}
use Rattle.why_forbidden.specs.Checked.{check_indexes, index_if, is_unnamed_check, checked_items}

indexes_more : (k : ℕ) (xs : List ResolvedItem) (x : ResolvedItem) (i : ℕ) → i ≡ k + length xs
    → check_indexes k (xs ++ x ∷ []) ≡ check_indexes k xs ++ index_if (is_unnamed_check x.role) i
indexes_more k [] x i e =
    append-nil (index_if (is_unnamed_check x.role) k)
    ∙ ap (index_if (is_unnamed_check x.role)) (let same : k ≡ i = omega arith in same)
indexes_more k (y ∷ ys) x i e =
    ap (λ (l : List ℕ). index_if (is_unnamed_check y.role) k ++ l)
    (indexes_more (k + 1) ys x i (omega arith))
    ∙ sym (append_assoc (index_if (is_unnamed_check y.role) k) (check_indexes (k + 1) ys)
    (index_if (is_unnamed_check x.role) i))

-- with what the next item adds
pub listed : (items : List ResolvedItem) (i : ℕ) (x : ResolvedItem) (checks more : List CheckValues)
    → i < length items → x ≡ get_or items i x → checked_items more ≡ index_if (is_unnamed_check x.role) i
    → checked_items checks ≡ check_indexes 0 (take i items)
    → checked_items (checks ++ more) ≡ check_indexes 0 (take (i + 1) items)
listed items i x checks more lt is here before =
    let long : length (take i items) ≡ i = length-take-le i items (omega arith) in
    let next : take (i + 1) items ≡ take i items ++ x ∷ [] = take_more items i x lt ∙ ap (λ (y : ResolvedItem). take i items ++ y ∷ []) (sym is) in
    map-append (λ c. c.item) checks more ∙ ap (λ (l : List ℕ). l ++ checked_items more) before
    ∙ ap (λ (l : List ℕ). check_indexes 0 (take i items) ++ l) here
    ∙ sym (indexes_more 0 (take i items) x i (omega arith)) ∙ ap (check_indexes 0) (sym next)

-- the relation names among names, one more
pub relation_names_more : (names : List Predefined) (i : ℕ) (d : Predefined) → i < length names
    → relation_names (take (i + 1) names)
    ≡ relation_names (take i names)
    ++ cond (is_relation_name (get_or names i d)) (get_or names i d ∷ []) []
relation_names_more names i d lt = filter_more is_relation_name names i d lt

-- with what a name adds to the values
pub named : (names : List Predefined) (i : ℕ) (d : Predefined) (values more : List PredefinedValue)
    → i < length names
    → valued_names more ≡ cond (is_relation_name (get_or names i d)) (get_or names i d ∷ []) []
    → valued_names values ≡ relation_names (take i names)
    → valued_names (values ++ more) ≡ relation_names (take (i + 1) names)
named names i d values more lt here before =
    map-append (λ v. v.name) values more ∙ ap (λ (l : List Predefined). l ++ valued_names more) before
    ∙ ap (λ (l : List Predefined). relation_names (take i names) ++ l) here
    ∙ sym (relation_names_more names i d lt)

-- a name that stands for a relation is added, and no other
pub adds : (x : Predefined) (v : PredefinedValue) → is_set x ≡ false → v.name ≡ x
    → valued_names (v ∷ []) ≡ cond (is_relation_name x) (x ∷ []) []
adds x v relation is = rw (relation, is) refl

pub adds_none : (x : Predefined) → is_set x ≡ true
    → valued_names [] ≡ cond (is_relation_name x) (x ∷ []) []
adds_none x one = rw one refl
