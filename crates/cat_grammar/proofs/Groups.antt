-- What stands between the parts of an item.
use Rattle.std.proofs.Common.{◌≡◌, ℕ, ◌+◌, ◌<◌, List, [], ◌∷◌, ◌++◌, Option, length, refl, ap, arith}
use Rattle.cat_tokens.specs.declared.token.Token.{Token}
use Rattle.cat_tokens.specs.declared.token.Token.TheVariants as tokens
use Rattle.text_values.specs.ModelValue.{Term, Clause}
use Rattle.cat_grammar.specs.Grammar.{Limits, IsExpressionTree, BindingTree, ShowTree, ItemTree, meaning, spelled_bound, spelled_group, spelled_parameters, spelled_one, spelled_shown, spelled_item, spelled_items, group_meaning, shown_meaning, item_meaning, items_meaning, AreBindingTrees, AreShowTrees, IsItemTree, AreItemTrees}

-- bindings, each with the `and` after it
abbrev pub before_group : List BindingTree → List Token → List Token
before_group [] rest = rest
before_group (b ∷ bs) rest = spelled_bound b (tokens.And ∷ before_group bs rest)

-- parameters, each with the comma after it
abbrev pub before_parameters : List (List ℕ) → List Token → List Token
before_parameters [] rest = rest
before_parameters (p ∷ ps) rest = tokens.Name p ∷ tokens.Comma ∷ before_parameters ps rest

-- expressions of a show, each with the comma after it
abbrev pub before_shown : List ShowTree → List Token → List Token
before_shown [] rest = rest
before_shown (s ∷ ss) rest = spelled_one s (tokens.Comma ∷ before_shown ss rest)

pub spelled_group-push : (bs : List BindingTree) (b : BindingTree) (rest : List Token)
    → spelled_group (bs ++ b ∷ []) rest ≡ before_group bs (spelled_bound b rest)
spelled_group-push [] b rest = refl
spelled_group-push (c ∷ []) b rest = refl
spelled_group-push (c ∷ d ∷ bs) b rest =
    ap (λ (ts : List Token). spelled_bound c (tokens.And ∷ ts)) (spelled_group-push (d ∷ bs) b rest)

pub before_group-push : (bs : List BindingTree) (b : BindingTree) (rest : List Token)
    → before_group (bs ++ b ∷ []) rest ≡ before_group bs (spelled_bound b (tokens.And ∷ rest))
before_group-push [] b rest = refl
before_group-push (c ∷ bs) b rest =
    ap (λ (ts : List Token). spelled_bound c (tokens.And ∷ ts)) (before_group-push bs b rest)

pub group_meaning-push : (bs : List BindingTree) (b : BindingTree)
    → group_meaning (bs ++ b ∷ []) ≡ group_meaning bs ++ (b.name, meaning b.body) ∷ []
group_meaning-push [] b = refl
group_meaning-push (c ∷ bs) b =
    ap (λ (x : List (List ℕ × Term)). (c.name, meaning c.body) ∷ x) (group_meaning-push bs b)

pub length-group_meaning : (bs : List BindingTree) → length (group_meaning bs) ≡ length bs
length-group_meaning [] = refl
length-group_meaning (b ∷ bs) = let i = length-group_meaning bs in omega arith

pub AreBound-push : (most : Limits) (bs : List BindingTree) (b : BindingTree) → AreBindingTrees most bs
    → IsExpressionTree most b.body → AreBindingTrees most (bs ++ b ∷ [])
AreBound-push most [] b each h = (h, tt)
AreBound-push most (c ∷ bs) b each h = (each.0, AreBound-push most bs b each.1 h)

pub spelled_parameters-push : (ps : List (List ℕ)) (p : List ℕ) (rest : List Token)
    → spelled_parameters (ps ++ p ∷ []) rest ≡ before_parameters ps (tokens.Name p ∷ rest)
spelled_parameters-push [] p rest = refl
spelled_parameters-push (q ∷ []) p rest = refl
spelled_parameters-push (q ∷ r ∷ ps) p rest =
    ap (λ (ts : List Token). tokens.Name q ∷ tokens.Comma ∷ ts)
    (spelled_parameters-push (r ∷ ps) p rest)

pub spelled_parameters-comma : (ps : List (List ℕ)) (rest : List Token) → 0 < length ps
    → spelled_parameters ps (tokens.Comma ∷ rest) ≡ before_parameters ps rest
spelled_parameters-comma [] rest h = absurd (omega arith)
spelled_parameters-comma (p ∷ []) rest h = refl
spelled_parameters-comma (p ∷ q ∷ ps) rest h =
    ap (λ (ts : List Token). tokens.Name p ∷ tokens.Comma ∷ ts)
    (spelled_parameters-comma (q ∷ ps) rest (omega arith))

pub spelled_shown-push : (ss : List ShowTree) (s : ShowTree) (rest : List Token)
    → spelled_shown (ss ++ s ∷ []) rest ≡ before_shown ss (spelled_one s rest)
spelled_shown-push [] s rest = refl
spelled_shown-push (u ∷ []) s rest = refl
spelled_shown-push (u ∷ v ∷ ss) s rest =
    ap (λ (ts : List Token). spelled_one u (tokens.Comma ∷ ts)) (spelled_shown-push (v ∷ ss) s rest)

pub spelled_shown-comma : (ss : List ShowTree) (rest : List Token) → 0 < length ss
    → spelled_shown ss (tokens.Comma ∷ rest) ≡ before_shown ss rest
spelled_shown-comma [] rest h = absurd (omega arith)
spelled_shown-comma (s ∷ []) rest h = refl
spelled_shown-comma (s ∷ u ∷ ss) rest h =
    ap (λ (ts : List Token). spelled_one s (tokens.Comma ∷ ts))
    (spelled_shown-comma (u ∷ ss) rest (omega arith))

pub shown_meaning-push : (ss : List ShowTree) (s : ShowTree)
    → shown_meaning (ss ++ s ∷ []) ≡ shown_meaning ss ++ (meaning s.body, s.label) ∷ []
shown_meaning-push [] s = refl
shown_meaning-push (u ∷ ss) s =
    ap (λ (x : List (Term × Option (List ℕ))). (meaning u.body, u.label) ∷ x)
    (shown_meaning-push ss s)

pub AreShown-push : (most : Limits) (ss : List ShowTree) (s : ShowTree) → AreShowTrees most ss
    → IsExpressionTree most s.body → AreShowTrees most (ss ++ s ∷ [])
AreShown-push most [] s each h = (h, tt)
AreShown-push most (u ∷ ss) s each h = (each.0, AreShown-push most ss s each.1 h)

pub length-push : {A : Type 0} (xs : List A) (x : A) → length (xs ++ x ∷ []) ≡ length xs + 1
length-push [] x = refl
length-push (y ∷ xs) x = let i = length-push xs x in omega arith

pub spelled_items-push : (is : List ItemTree) (i : ItemTree) (rest : List Token)
    → spelled_items (is ++ i ∷ []) rest ≡ spelled_items is (spelled_item i rest)
spelled_items-push [] i rest = refl
spelled_items-push (x ∷ is) i rest = ap (spelled_item x) (spelled_items-push is i rest)

pub items_meaning-push : (is : List ItemTree) (i : ItemTree)
    → items_meaning (is ++ i ∷ []) ≡ items_meaning is ++ item_meaning i ∷ []
items_meaning-push [] i = refl
items_meaning-push (x ∷ is) i =
    ap (λ (cs : List Clause). item_meaning x ∷ cs) (items_meaning-push is i)

pub length-items_meaning : (is : List ItemTree) → length (items_meaning is) ≡ length is
length-items_meaning [] = refl
length-items_meaning (x ∷ is) = let i = length-items_meaning is in omega arith

pub AreItems-push : (most : Limits) (is : List ItemTree) (i : ItemTree) → AreItemTrees most is
    → IsItemTree most i → AreItemTrees most (is ++ i ∷ [])
AreItems-push most [] i each h = (h, tt)
AreItems-push most (x ∷ is) i each h = (each.0, AreItems-push most is i each.1 h)
