-- The functions that an item sees are those of the items before it.
use Rattle.std.proofs.Common.{ℕ, ◌≡◌, ◌+◌, ◌<◌, zero, suc, List, [], ◌∷◌, ◌++◌, length, map, Option, Some, None, refl, sym, ap, ◌∙◌, arith}
use Rattle.std.specs.Prelude.{slice_get, unwrap_or}
use Rattle.std.proofs.lemmas.List.{map-append}
use Rattle.std.proofs.lemmas.Option.{none-some}
use Rattle.text_values.specs.declared.model.Item.{Item}
use Rattle.text_values.specs.declared.model.Item.TheVariants as items
use Rattle.text_values.specs.ModelValue.{Term}
use Rattle.text_values.specs.ModelValues.{term_of}
use Rattle.binding_kinds.specs.Value.{BareItem, Group, Check, Mute, Defined, bare_item}
use Rattle.binding_kinds.specs.Senses.{Sense}
use Rattle.binding_kinds.specs.Faults.{senses_after}
use Rattle.binding_kinds.specs.Functions.{sense_of_function}
use Rattle.binding_graph.specs.Usages.{Usage, usage_of_function, usages_after}
use Rattle.binding_laws.specs.ItemLaws.{Scope, scope_after, scope_at, functions_before}

-- ---- lists that grow

pub get_kept : {X : Type 0} (xs ys : List X) (k : ℕ) (x : X) → slice_get xs k ≡ Some x
    → slice_get (xs ++ ys) k ≡ Some x
get_kept [] ys k x e = absurd (none-some x e)
get_kept (z ∷ zs) ys zero x e = e
get_kept (z ∷ zs) ys (suc k) x e = get_kept zs ys k x e

pub get_last : {X : Type 0} (xs : List X) (x : X) → slice_get (xs ++ x ∷ []) (length xs) ≡ Some x
get_last [] x = refl
get_last (z ∷ zs) x = get_last zs x

pub one_longer : {X : Type 0} (xs : List X) (x : X) → length (xs ++ x ∷ []) ≡ length xs + 1
one_longer [] x = refl
one_longer (z ∷ zs) x =
    let rest = one_longer zs x in
    let long : length (z ∷ zs ++ x ∷ []) ≡ suc (length (zs ++ x ∷ [])) = refl in
    let short : length (z ∷ zs) ≡ suc (length zs) = refl in
    omega (arith, rest, long, short)

sense_after : (s : Scope) (x : Item) (n : ℕ) (a : Sense) → slice_get s.senses n ≡ Some a
    → slice_get (senses_after s.senses s.names (bare_item x)) n ≡ Some a
sense_after s (items.Let r g) n a h = h
sense_after s (items.Function f ps b) n a h =
    get_kept s.senses (sense_of_function s.senses s.names ps.items (term_of b) ∷ []) n a h
sense_after s (items.Check c l) n a h = h
sense_after s (items.Flag c l) n a h = h
sense_after s (items.Show f t) n a h = h
sense_after s (items.Include f) n a h = h

usage_after : (s : Scope) (at : ℕ) (x : Item) (n : ℕ) (u : Usage) → slice_get s.usages n ≡ Some u
    → slice_get (usages_after s.usages s.names at (bare_item x)) n ≡ Some u
usage_after s at (items.Let r g) n u h = h
usage_after s at (items.Function f ps b) n u h =
    get_kept s.usages (usage_of_function s.usages s.names at ps.items (term_of b) ∷ []) n u h
usage_after s at (items.Check c l) n u h = h
usage_after s at (items.Flag c l) n u h = h
usage_after s at (items.Show f t) n u h = h
usage_after s at (items.Include f) n u h = h

-- senses and usages of functions have the same numbers of parameters
pub next_counts : (s : Scope) (at : ℕ) (c : BareItem)
    → map (λ (u : Usage). u.arity) s.usages ≡ map (λ (b : Sense). b.arity) s.senses
    → map (λ (u : Usage). u.arity) (usages_after s.usages s.names at c)
    ≡ map (λ (b : Sense). b.arity) (senses_after s.senses s.names c)
next_counts s at (Group r bs) e = e
next_counts s at (Check w t) e = e
next_counts s at Mute e = e
next_counts s at (Defined n ps b) e =
    let u = usage_of_function s.usages s.names at ps b in
    let a = sense_of_function s.senses s.names ps b in
    map-append (λ (v : Usage). v.arity) s.usages (u ∷ [])
    ∙ (ap (λ (l : List ℕ). l ++ length ps ∷ []) e
    ∙ sym (map-append (λ (v : Sense). v.arity) s.senses (a ∷ [])))

sense_kept : (s : Scope) (at : ℕ) (xs : List Item) (k n : ℕ) (a : Sense)
    → slice_get s.senses n ≡ Some a → slice_get (scope_at s at xs k).senses n ≡ Some a
sense_kept s at [] k n a h = h
sense_kept s at (x ∷ xs) zero n a h = h
sense_kept s at (x ∷ xs) (suc k) n a h =
    sense_kept (scope_after s at x) (at + 1) xs k n a (sense_after s x n a h)

usage_kept : (s : Scope) (at : ℕ) (xs : List Item) (k n : ℕ) (u : Usage)
    → slice_get s.usages n ≡ Some u → slice_get (scope_at s at xs k).usages n ≡ Some u
usage_kept s at [] k n u h = h
usage_kept s at (x ∷ xs) zero n u h = h
usage_kept s at (x ∷ xs) (suc k) n u h =
    usage_kept (scope_after s at x) (at + 1) xs k n u (usage_after s at x n u h)

-- ---- functions

-- the item of that index is a function, and those who see it before item `k` see it with those
-- numbers among senses and usages
pub record IsFunctionAt (s : Scope) (at : ℕ) (xs : List Item) (k n m i : ℕ) : Type 0 where
  pub behind : ℕ
  pub index : i ≡ at + behind
  pub before : behind < k
  pub item : Item
  pub text : slice_get xs behind ≡ Some item
  pub name : List ℕ
  pub parameters : List (List ℕ)
  pub body : Term
  pub clause : bare_item item ≡ Defined name parameters body
  pub sense : slice_get (scope_at s at xs k).senses n
      ≡ Some (sense_of_function (scope_at s at xs behind).senses (scope_at s at xs behind).names
      parameters body)
  pub usage : slice_get (scope_at s at xs k).usages m
      ≡ Some (usage_of_function (scope_at s at xs behind).usages (scope_at s at xs behind).names i
      parameters body)

later : (s : Scope) (at : ℕ) (x : Item) (xs : List Item) (k n m i : ℕ)
    → IsFunctionAt (scope_after s at x) (at + 1) xs k n m i
    → IsFunctionAt s at (x ∷ xs) (suc k) n m i
later s at x xs k n m i h = record {
  behind = suc h.behind;
  index = omega (arith, h.index);
  before = omega (arith, h.before);
  item = h.item;
  text = h.text;
  name = h.name;
  parameters = h.parameters;
  body = h.body;
  clause = h.clause;
  sense = h.sense;
  usage = h.usage;
}

pub function_at : (s : Scope) (at : ℕ) (xs : List Item) (k f n m i : ℕ) → n ≡ length s.senses + f
    → m ≡ length s.usages + f → slice_get (functions_before at xs k) f ≡ Some i
    → IsFunctionAt s at xs k n m i
function_at s at [] k f n m i e g h = absurd (let none : None ≡ Some i = h in cc)
function_at s at (x ∷ xs) zero f n m i e g h = absurd (let none : None ≡ Some i = h in cc)
function_at s at (items.Let r b ∷ xs) (suc k) f n m i e g h =
    later s at (items.Let r b) xs k n m i (function_at (scope_after s at (items.Let r b)) (at + 1)
    xs k f n m i e g h)
function_at s at (items.Function name ps b ∷ xs) (suc k) zero n m i e g h =
    let x = items.Function name ps b in
    let sense = sense_of_function s.senses s.names ps.items (term_of b) in
    let usage = usage_of_function s.usages s.names i ps.items (term_of b) in
    let is : at ≡ i = ap (λ (o : Option ℕ). unwrap_or o at) h in
    let numbered : n ≡ length s.senses = omega (arith, e) in
    let counted : m ≡ length s.usages = omega (arith, g) in
    let left : slice_get (scope_after s at x).senses n ≡ Some sense = ap (λ (l : ℕ). slice_get (scope_after s at x).senses l) numbered ∙ get_last s.senses sense in
    let right : slice_get (scope_after s at x).usages m ≡ Some usage =
    ap (λ (l : ℕ). slice_get (scope_after s at x).usages l) counted
    ∙ (get_last s.usages (usage_of_function s.usages s.names at ps.items (term_of b))
    ∙ ap (λ (l : ℕ). Some (usage_of_function s.usages s.names l ps.items (term_of b)))
    is) in
    record {
      behind = 0;
      index = omega (arith, is);
      before = omega arith;
      item = x;
      text = refl;
      name = name;
      parameters = ps.items;
      body = term_of b;
      clause = refl;
      sense = sense_kept (scope_after s at x) (at + 1) xs k n sense left;
      usage = usage_kept (scope_after s at x) (at + 1) xs k m usage right;
    }
function_at s at (items.Function name ps b ∷ xs) (suc k) (suc f) n m i e g h =
    let x = items.Function name ps b in
    let long = one_longer s.senses (sense_of_function s.senses s.names ps.items (term_of b)) in
    let many = one_longer s.usages (usage_of_function s.usages s.names at ps.items (term_of b)) in
    later s at x xs k n m i (function_at (scope_after s at x) (at + 1) xs k f n m i
    (omega (arith, e, long)) (omega (arith, g, many)) h)
function_at s at (items.Check c l ∷ xs) (suc k) f n m i e g h =
    later s at (items.Check c l) xs k n m i (function_at (scope_after s at (items.Check c l))
    (at + 1) xs k f n m i e g h)
function_at s at (items.Flag c l ∷ xs) (suc k) f n m i e g h =
    later s at (items.Flag c l) xs k n m i (function_at (scope_after s at (items.Flag c l)) (at + 1)
    xs k f n m i e g h)
function_at s at (items.Show b t ∷ xs) (suc k) f n m i e g h =
    later s at (items.Show b t) xs k n m i (function_at (scope_after s at (items.Show b t)) (at + 1)
    xs k f n m i e g h)
function_at s at (items.Include b ∷ xs) (suc k) f n m i e g h =
    later s at (items.Include b) xs k n m i (function_at (scope_after s at (items.Include b))
    (at + 1) xs k f n m i e g h)
