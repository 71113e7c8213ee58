-- What was read keeps the limits of number when it is printed, and so it is read again.
use Rattle.std.proofs.Common.{◌≡◌, ℕ, ◌+◌, ◌≤◌, List, [], ◌∷◌, length, refl, ap, subst, arith}
use Rattle.std.specs.Prelude.{map}
use Rattle.text_values.specs.ModelValue.{Clause}
use Rattle.cat_grammar.specs.Grammar as grammar
use Rattle.cat_grammar.specs.Grammar.{Tree, Trees, Word, Underscore, Zero, Braces, Pair, Post, Prefix, Group, Square, Application, Last, More, meaning, meanings, operators, operators_of, Limits, model_limits, BindingTree, ItemTree, Let, Function, Check, Flag, Show, Include, group_meaning, shown_meaning, item_meaning, items_meaning, AreBindingTrees, IsItemTree, AreItemTrees}
use Rattle.cat_printing.specs.Printing.{printed_item, printed_model}
use Rattle.cat_laws.specs.Written.{joins, joins_of, deepest, most_joins, bodies, KeepsLimits, KeepLimits, AreShallow, ItemStaysWithin, ModelStaysWithin, ReadsItem, ReadsModel}
use Rattle.cat_laws.proofs.Named.{item_was_written, model_was_written}
use Rattle.cat_laws.proofs.Printed.{item_reads, model_reads}
use Rattle.cat_grammar.proofs.Groups.{length-group_meaning, length-items_meaning}

mutual
  joins_meant : (t : Tree) → joins (meaning t) ≡ operators t
  joins_meant (Word n) = refl
  joins_meant Underscore = refl
  joins_meant Zero = refl
  joins_meant Braces = refl
  joins_meant (Pair op a b) =
      let x = joins_meant a in
      let y = joins_meant b in
      omega arith
  joins_meant (Post op a) = ap (λ (n : ℕ). n + 1) (joins_meant a)
  joins_meant (Prefix a) = joins_meant a
  joins_meant (Group a) = joins_meant a
  joins_meant (Square a) = joins_meant a
  joins_meant (Application n arguments) = all_joins_meant arguments

  all_joins_meant : (ts : Trees) → joins_of (meanings ts) ≡ operators_of ts
  all_joins_meant (Last a) =
      let x = joins_meant a in
      omega arith
  all_joins_meant (More a others) =
      let x = joins_meant a in
      let y = all_joins_meant others in
      omega arith

group_joins : (most : Limits) (g : List BindingTree) → AreBindingTrees most g
    → most_joins (map (λ b. b.1) (group_meaning g)) ≤ most.operators
group_joins most [] h = omega arith
group_joins most (b ∷ bs) h =
    let x = joins_meant b.body in
    let y = h.0.short in
    let z = group_joins most bs h.1 in
    omega arith

shown_joins : (most : Limits) (ss : List grammar.ShowTree) → grammar.AreShowTrees most ss
    → most_joins (map (λ s. s.0) (shown_meaning ss)) ≤ most.operators
shown_joins most [] h = omega arith
shown_joins most (s ∷ ss) h =
    let x = joins_meant s.body in
    let y = h.0.short in
    let z = shown_joins most ss h.1 in
    omega arith

-- an item of a text keeps every limit but that of nesting
item_within : (most : Limits) (i : ItemTree) → IsItemTree most i
    → deepest (bodies (item_meaning i)) ≤ most.nesting → KeepsLimits most (item_meaning i)
item_within most (Let recursive group) h deep =
    let n = length-group_meaning group in
    let few = h.1 in
    record { shallow = deep; few = group_joins most group h.2; names = omega arith; parameters = omega arith }
item_within most (Function n parameters body) h deep =
    let x = joins_meant body in
    let y = h.2.short in
    record { shallow = deep; few = omega arith; names = omega arith; parameters = h.1 }
item_within most (Check c label) h deep =
    let x = joins_meant c.body in
    let y = h.short in
    record { shallow = deep; few = omega arith; names = omega arith; parameters = omega arith }
item_within most (Flag c label) h deep =
    let x = joins_meant c.body in
    let y = h.short in
    record { shallow = deep; few = omega arith; names = omega arith; parameters = omega arith }
item_within most (Show hidden shown) h deep =
    record { shallow = deep; few = shown_joins most shown h.1; names = omega arith; parameters = omega arith }
item_within most (Include path) h deep =
    record { shallow = deep; few = omega arith; names = omega arith; parameters = omega arith }

items_within : (is : List ItemTree) → AreItemTrees model_limits is → AreShallow (items_meaning is)
    → KeepLimits model_limits (items_meaning is)
items_within [] h deep = tt
items_within (i ∷ is) h deep = (item_within model_limits i h.0 deep.0, items_within is h.1 deep.1)

pub item_again : (bytes : List ℕ) (c : Clause) → ReadsItem bytes c → ItemStaysWithin c
    → ReadsItem (printed_item c) c
item_again bytes c r s =
    let m = r.means in
    let all : KeepLimits model_limits (c ∷ []) = subst (λ (cs : List Clause). AreShallow cs → KeepLimits model_limits cs) m.meant (items_within m.items m.each) s.shallow in
    item_reads c (item_was_written bytes c r) (record { short = s.short; fits = all.0 })

pub model_again : (bytes : List ℕ) (cs : List Clause) → ReadsModel bytes cs → ModelStaysWithin cs
    → ReadsModel (printed_model cs) cs
model_again bytes cs r s =
    let m = r.means in
    let n = length-items_meaning m.items in
    let same = ap length m.meant in
    let few = m.form_is in
    model_reads cs (model_was_written bytes cs r) (record {
      short = s.short;
      few = omega arith;
      fits =
          subst (λ (cs : List Clause). AreShallow cs → KeepLimits model_limits cs) m.meant
          (items_within m.items m.each) s.shallow;
    })
