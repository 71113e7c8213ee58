-- The tree that is printed for an item: it is grouped, and it means the item.
use Rattle.std.proofs.Common.{◌≡◌, ℕ, ◌+◌, ◌≤◌, Bool, true, false, List, [], ◌∷◌, length, refl, ap, ◌∙◌, arith}
use Rattle.std.specs.Prelude.{map, max, Option}
use Rattle.std.proofs.lemmas.List.{length-map}
use Rattle.text_values.specs.declared.model.Infix.{Infix}
use Rattle.text_values.specs.declared.model.Infix.TheVariants.{Union, Sequence, Difference, Intersection, Product}
use Rattle.text_values.specs.ModelValue as value
use Rattle.text_values.specs.ModelValue.{Term, Terms, Atom, AllEvents, EmptyRelation, EmptySet, Join, Mark, Not, On, Apply, NoTerm, OneMore, Checked, Clause, Binding, Checking, Flagging, Showing, Including}
use Rattle.cat_grammar.specs.Grammar as grammar
use Rattle.cat_grammar.specs.Grammar.{Tree, Trees, Word, Underscore, Zero, Braces, Pair, Post, Prefix, Group, Square, Application, Last, More, meaning, meanings, right_level, tightness, IsGrouped, AreGrouped, depth, depths, operators, operators_of, Limits, IsExpressionTree, BindingTree, CheckTree, ItemTree, Let, Check, Flag, Show, Include, group_meaning, shown_meaning, item_meaning, items_meaning, AreBindingTrees, IsItemTree, AreItemTrees}
use Rattle.cat_printing.specs.Printing.{is_binary, is_compound}
use Rattle.cat_laws.specs.Written as written
use Rattle.cat_laws.specs.Written.{IsTerm, AreTerms, AreBindings, IsWritable, AreWritable, nesting, nestings, joins, joins_of, deepest, most_joins, bodies, name_count, parameter_count, KeepsLimits, KeepLimits}
use Rattle.text_laws.specs.Counts.{one_where}
use Rattle.cat_grammar.proofs.Branches.{left_level-le}

abbrev pub grouped : Bool → Tree → Tree
grouped true t = Group t
grouped false t = t

abbrev mutual
  pub tree_of : Term → Tree
  tree_of (Atom n) = Word n
  tree_of AllEvents = Underscore
  tree_of EmptyRelation = Zero
  tree_of EmptySet = Braces
  tree_of (Join op a b) =
      Pair op (grouped (is_binary a) (tree_of a)) (grouped (is_binary b) (tree_of b))
  tree_of (Mark op a) = Post op (grouped (is_compound a) (tree_of a))
  tree_of (Not a) = Prefix (grouped (is_binary a) (tree_of a))
  tree_of (On a) = Square (tree_of a)
  tree_of (Apply n arguments) = Application n (trees_of arguments)

  pub trees_of : Terms → Trees
  trees_of NoTerm = Last Underscore
  trees_of (OneMore a NoTerm) = Last (tree_of a)
  trees_of (OneMore a (OneMore b others)) = More (tree_of a) (trees_of (OneMore b others))

meaning-grouped : (b : Bool) (t : Tree) → meaning (grouped b t) ≡ meaning t
meaning-grouped true t = refl
meaning-grouped false t = refl

mutual
  pub meaning-tree_of : (v : Term) → IsTerm v → meaning (tree_of v) ≡ v
  meaning-tree_of (Atom n) h = refl
  meaning-tree_of AllEvents h = refl
  meaning-tree_of EmptyRelation h = refl
  meaning-tree_of EmptySet h = refl
  meaning-tree_of (Join op a b) h =
      ap (λ (x : Term). Join op x (meaning (grouped (is_binary b) (tree_of b))))
      (meaning-grouped (is_binary a) (tree_of a) ∙ meaning-tree_of a h.0)
      ∙ ap (Join op a) (meaning-grouped (is_binary b) (tree_of b) ∙ meaning-tree_of b h.1)
  meaning-tree_of (Mark op a) h =
      ap (Mark op) (meaning-grouped (is_compound a) (tree_of a) ∙ meaning-tree_of a h)
  meaning-tree_of (Not a) h =
      ap Not (meaning-grouped (is_binary a) (tree_of a) ∙ meaning-tree_of a h)
  meaning-tree_of (On a) h = ap On (meaning-tree_of a h)
  meaning-tree_of (Apply n arguments) h = ap (Apply n) (meanings-trees_of arguments h.1)

  meanings-trees_of : (vs : Terms) → AreTerms vs → meanings (trees_of vs) ≡ vs
  meanings-trees_of NoTerm h = absurd h
  meanings-trees_of (OneMore a NoTerm) h =
      ap (λ (x : Term). OneMore x NoTerm) (meaning-tree_of a h.0)
  meanings-trees_of (OneMore a (OneMore b others)) h =
      ap (λ (x : Term). OneMore x (meanings (trees_of (OneMore b others)))) (meaning-tree_of a h.0)
      ∙ ap (OneMore a) (meanings-trees_of (OneMore b others) h.1)

IsGrouped-grouped : (b : Bool) (t : Tree) → IsGrouped t → IsGrouped (grouped b t)
IsGrouped-grouped true t h = h
IsGrouped-grouped false t h = h

tight_operand : (a : Term) → 6 ≤ tightness (grouped (is_binary a) (tree_of a))
tight_operand (Atom n) = omega arith
tight_operand AllEvents = omega arith
tight_operand EmptyRelation = omega arith
tight_operand EmptySet = omega arith
tight_operand (Join op a b) = omega arith
tight_operand (Mark op a) = omega arith
tight_operand (Not a) = omega arith
tight_operand (On a) = omega arith
tight_operand (Apply n arguments) = omega arith

tight_marked : (a : Term) → 7 ≤ tightness (grouped (is_compound a) (tree_of a))
tight_marked (Atom n) = omega arith
tight_marked AllEvents = omega arith
tight_marked EmptyRelation = omega arith
tight_marked EmptySet = omega arith
tight_marked (Join op a b) = omega arith
tight_marked (Mark op a) = omega arith
tight_marked (Not a) = omega arith
tight_marked (On a) = omega arith
tight_marked (Apply n arguments) = omega arith

right_most : (op : Infix) → right_level op ≤ 6
right_most Union = omega arith
right_most Sequence = omega arith
right_most Difference = omega arith
right_most Intersection = omega arith
right_most Product = omega arith

mutual
  pub IsGrouped-tree_of : (v : Term) → IsGrouped (tree_of v)
  IsGrouped-tree_of (Atom n) = tt
  IsGrouped-tree_of AllEvents = tt
  IsGrouped-tree_of EmptyRelation = tt
  IsGrouped-tree_of EmptySet = tt
  IsGrouped-tree_of (Join op a b) =
      let l = left_level-le op in
      let r = right_most op in
      let x = tight_operand a in
      let y = tight_operand b in (
        omega arith,
        omega arith,
        IsGrouped-grouped (is_binary a) (tree_of a) (IsGrouped-tree_of a),
        IsGrouped-grouped (is_binary b) (tree_of b) (IsGrouped-tree_of b),
      )
  IsGrouped-tree_of (Mark op a) =
      (tight_marked a, IsGrouped-grouped (is_compound a) (tree_of a) (IsGrouped-tree_of a))
  IsGrouped-tree_of (Not a) =
      (tight_operand a, IsGrouped-grouped (is_binary a) (tree_of a) (IsGrouped-tree_of a))
  IsGrouped-tree_of (On a) = IsGrouped-tree_of a
  IsGrouped-tree_of (Apply n arguments) = AreGrouped-trees_of arguments

  AreGrouped-trees_of : (vs : Terms) → AreGrouped (trees_of vs)
  AreGrouped-trees_of NoTerm = tt
  AreGrouped-trees_of (OneMore a NoTerm) = IsGrouped-tree_of a
  AreGrouped-trees_of (OneMore a (OneMore b others)) =
      (IsGrouped-tree_of a, AreGrouped-trees_of (OneMore b others))

-- ---- items

abbrev pub bound_of : List ℕ × Term → BindingTree
bound_of b = record { name = b.0; body = tree_of b.1 }

abbrev pub check_of : Checked → CheckTree
check_of c = record { negated = c.negated; word = c.word; body = tree_of c.body }

abbrev pub shown_of : Term × Option (List ℕ) → grammar.ShowTree
shown_of s = record { body = tree_of s.0; label = s.1 }

abbrev pub item_of : Clause → ItemTree
item_of (Binding recursive group) = Let recursive (map bound_of group)
item_of (value.Function n parameters body) = grammar.Function n parameters (tree_of body)
item_of (Checking check label) = Check (check_of check) label
item_of (Flagging check label) = Flag (check_of check) label
item_of (Showing hidden shown) = Show hidden (map shown_of shown)
item_of (Including path) = Include path

group_back : (group : List (List ℕ × Term)) → AreBindings group
    → group_meaning (map bound_of group) ≡ group
group_back [] h = refl
group_back (b ∷ bs) h =
    ap (λ (x : Term). (b.0, x) ∷ group_meaning (map bound_of bs)) (meaning-tree_of b.1 h.1)
    ∙ ap (λ (x : List (List ℕ × Term)). b ∷ x) (group_back bs h.2)

shown_back : (shown : List (Term × Option (List ℕ))) → written.AreShownTerms shown
    → shown_meaning (map shown_of shown) ≡ shown
shown_back [] h = refl
shown_back (s ∷ ss) h =
    ap (λ (x : Term). (x, s.1) ∷ shown_meaning (map shown_of ss)) (meaning-tree_of s.0 h.0)
    ∙ ap (λ (x : List (Term × Option (List ℕ))). s ∷ x) (shown_back ss h.2)

abbrev with_body : Checked → Term → Checked
with_body c v = record { negated = c.negated; word = c.word; body = v }

check_back : (c : Checked) → IsTerm c.body → grammar.check_meaning (check_of c) ≡ c
check_back c h = ap (with_body c) (meaning-tree_of c.body h)

item_back : (c : Clause) → IsWritable c → item_meaning (item_of c) ≡ c
item_back (Binding recursive group) h = ap (Binding recursive) (group_back group h.1)
item_back (value.Function n parameters body) h =
    ap (value.Function n parameters) (meaning-tree_of body h.3)
item_back (Checking check label) h = ap (λ (x : Checked). Checking x label) (check_back check h.0)
item_back (Flagging check label) h = ap (λ (x : Checked). Flagging x label) (check_back check h.0)
item_back (Showing hidden shown) h = ap (Showing hidden) (shown_back shown h.1)
item_back (Including path) h = refl

pub items_back : (cs : List Clause) → AreWritable cs → items_meaning (map item_of cs) ≡ cs
items_back [] h = refl
items_back (c ∷ cs) h =
    ap (λ (x : Clause). x ∷ items_meaning (map item_of cs)) (item_back c h.0)
    ∙ ap (λ (x : List Clause). c ∷ x) (items_back cs h.1)

-- ---- limits

depth-grouped : (b : Bool) (t : Tree) → depth (grouped b t) ≡ depth t + one_where b
depth-grouped true t = refl
depth-grouped false t = omega arith

operators-grouped : (b : Bool) (t : Tree) → operators (grouped b t) ≡ operators t
operators-grouped true t = refl
operators-grouped false t = refl

mutual
  depth_is : (v : Term) → depth (tree_of v) ≡ nesting v
  depth_is (Atom n) = refl
  depth_is AllEvents = refl
  depth_is EmptyRelation = refl
  depth_is EmptySet = refl
  depth_is (Join op a b) =
      let x = depth-grouped (is_binary a) (tree_of a) in
      let y = depth-grouped (is_binary b) (tree_of b) in
      let u = depth_is a in
      let v = depth_is b in
      omega arith
  depth_is (Mark op a) =
      let x = depth-grouped (is_compound a) (tree_of a) in
      let u = depth_is a in
      omega arith
  depth_is (Not a) =
      let x = depth-grouped (is_binary a) (tree_of a) in
      let u = depth_is a in
      omega arith
  depth_is (On a) =
      let u = depth_is a in
      omega arith
  depth_is (Apply n arguments) =
      let u = depths_are arguments in
      omega arith

  depths_are : (vs : Terms) → depths (trees_of vs) ≡ nestings vs
  depths_are NoTerm = refl
  depths_are (OneMore a NoTerm) =
      let u = depth_is a in
      omega arith
  depths_are (OneMore a (OneMore b others)) =
      let u = depth_is a in
      let v = depths_are (OneMore b others) in
      omega arith

mutual
  operators_are : (v : Term) → operators (tree_of v) ≡ joins v
  operators_are (Atom n) = refl
  operators_are AllEvents = refl
  operators_are EmptyRelation = refl
  operators_are EmptySet = refl
  operators_are (Join op a b) =
      let x = operators-grouped (is_binary a) (tree_of a) in
      let y = operators-grouped (is_binary b) (tree_of b) in
      let u = operators_are a in
      let v = operators_are b in
      omega arith
  operators_are (Mark op a) =
      let x = operators-grouped (is_compound a) (tree_of a) in
      let u = operators_are a in
      omega arith
  operators_are (Not a) = operators-grouped (is_binary a) (tree_of a) ∙ operators_are a
  operators_are (On a) = operators_are a
  operators_are (Apply n arguments) = operators_of_all arguments

  operators_of_all : (vs : Terms) → operators_of (trees_of vs) ≡ joins_of vs
  operators_of_all NoTerm = refl
  operators_of_all (OneMore a NoTerm) =
      let u = operators_are a in
      omega arith
  operators_of_all (OneMore a (OneMore b others)) =
      let u = operators_are a in
      let v = operators_of_all (OneMore b others) in
      omega arith

fits : (most : Limits) (v : Term) → nesting v ≤ most.nesting → joins v ≤ most.operators
    → IsExpressionTree most (tree_of v)
fits most v deep many =
    let x = depth_is v in
    let y = operators_are v in
    record { grouped = IsGrouped-tree_of v; shallow = omega arith; short = omega arith }

group_fits : (most : Limits) (group : List (List ℕ × Term))
    → deepest (map (λ b. b.1) group) ≤ most.nesting
    → most_joins (map (λ b. b.1) group) ≤ most.operators → AreBindingTrees most (map bound_of group)
group_fits most [] deep many = tt
group_fits most (b ∷ bs) deep many =
    (fits most b.1 (omega arith) (omega arith), group_fits most bs (omega arith) (omega arith))

shown_fits : (most : Limits) (shown : List (Term × Option (List ℕ)))
    → deepest (map (λ s. s.0) shown) ≤ most.nesting
    → most_joins (map (λ s. s.0) shown) ≤ most.operators
    → grammar.AreShowTrees most (map shown_of shown)
shown_fits most [] deep many = tt
shown_fits most (s ∷ ss) deep many =
    (fits most s.0 (omega arith) (omega arith), shown_fits most ss (omega arith) (omega arith))

one_fits : (most : Limits) (v : Term) → deepest (v ∷ []) ≤ most.nesting
    → most_joins (v ∷ []) ≤ most.operators → IsExpressionTree most (tree_of v)
one_fits most v deep many = fits most v (omega arith) (omega arith)

item_fits : (most : Limits) (c : Clause) → IsWritable c → KeepsLimits most c → IsItemTree most (item_of c)
item_fits most (Binding recursive group) h w =
    let l = length-map group bound_of in
    let some = h.0 in
    let few = w.names in
    (omega arith, omega arith, group_fits most group w.shallow w.few)
item_fits most (value.Function n parameters body) h w =
    (h.1, w.parameters, one_fits most body w.shallow w.few)
item_fits most (Checking check label) h w = one_fits most check.body w.shallow w.few
item_fits most (Flagging check label) h w = one_fits most check.body w.shallow w.few
item_fits most (Showing hidden shown) h w =
    let l = length-map shown shown_of in
    let some = h.0 in
    (omega arith, shown_fits most shown w.shallow w.few)
item_fits most (Including path) h w = h

pub items_fit : (most : Limits) (cs : List Clause) → AreWritable cs → KeepLimits most cs
    → AreItemTrees most (map item_of cs)
items_fit most [] h w = tt
items_fit most (c ∷ cs) h w = (item_fits most c h.0 w.0, items_fit most cs h.1 w.1)

-- ---- limits that are wide enough

-- these items keep them, however many items there may be
abbrev widened : Limits → Clause → Limits
widened a c = record {
  nesting = max a.nesting (deepest (bodies c));
  operators = max a.operators (most_joins (bodies c));
  items = a.items + 1;
  names = max a.names (name_count c);
  parameters = max a.parameters (parameter_count c);
}

abbrev pub enough : List Clause → Limits
enough [] = record { nesting = 0; operators = 0; items = 0; names = 0; parameters = 0 }
enough (c ∷ cs) = widened (enough cs) c

-- wider limits in all but the number of items
record IsWider (a b : Limits) : Type 0 where
  nesting : a.nesting ≤ b.nesting
  operators : a.operators ≤ b.operators
  names : a.names ≤ b.names
  parameters : a.parameters ≤ b.parameters

within_wider : (a b : Limits) → IsWider a b → (cs : List Clause) → KeepLimits a cs → KeepLimits b cs
within_wider a b h [] w = tt
within_wider a b h (c ∷ cs) w =
    let w1 = w.0.shallow in
    let w2 = w.0.few in
    let w3 = w.0.names in
    let w4 = w.0.parameters in
    let h1 = h.nesting in
    let h2 = h.operators in
    let h3 = h.names in
    let h4 = h.parameters in (
      record {
        shallow = omega arith;
        few = omega arith;
        names = omega arith;
        parameters = omega arith;
      },
      within_wider a b h cs w.1,
    )

pub is_enough : (cs : List Clause) → KeepLimits (enough cs) cs
is_enough [] = tt
is_enough (c ∷ cs) =
    let wider : IsWider (enough cs) (widened (enough cs) c) = record { nesting = omega arith; operators = omega arith; names = omega arith; parameters = omega arith } in (
      record {
        shallow = omega arith;
        few = omega arith;
        names = omega arith;
        parameters = omega arith;
      },
      within_wider (enough cs) (widened (enough cs) c) wider cs (is_enough cs),
    )

pub enough_items : (cs : List Clause) → (enough cs).items ≡ length cs
enough_items [] = refl
enough_items (c ∷ cs) =
    let e = enough_items cs in
    omega arith
