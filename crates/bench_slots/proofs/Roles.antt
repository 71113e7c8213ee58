-- An item with the keys that it had does what it did, where each text among them says what it said.
use Rattle.std.proofs.Common.{ℕ, zero, suc, ◌≡◌, inl, inr, List, [], ◌∷◌, ◌++◌, map, get_or, Option, Some, None, option_map, slice_get, refl, sym, ap, subst, ◌∙◌}
use Rattle.std.specs.List.{AllByRecursion as Each}
use Rattle.std.proofs.lemmas.Option.{none-some, same_Some, get_or_from_slice_get}
use mathlib.Core.List.{nil≢cons, head-eq_of_cons-eq, tail-eq_of_cons-eq}
use Rattle.text_values.specs.declared.model.Item.{Item}
use Rattle.predefined_names.specs.declared.predefined.Predefined.{Predefined}
use Rattle.memo_core.specs.declared.keys.Key.{Key}
use Rattle.memo_core.specs.declared.keys.Key.TheVariants.{Part, Output}
use Rattle.memo_core.specs.Step.{Has}
use Rattle.binding_kinds.specs.declared.scope.Input.{Input}
use Rattle.binding_kinds.specs.Value.{BareItem, bare_item}
use Rattle.binding_graph.specs.declared.resolved.Body.{Body}
use Rattle.binding_graph.specs.declared.resolved.ResolvedItem.{ResolvedItem}
use Rattle.binding_graph.specs.declared.resolved.Role.{Role}
use Rattle.binding_graph.specs.declared.resolved.Role.TheVariants as roles
use Rattle.binding_laws.specs.ItemLaws.{SayTheSame}
use Rattle.binding_laws.specs.Reread.{ReadModel, HasNumber, IsItemOf, bodies_of, seen_at, seen_input, seen_function, UseTheSame, IsSeenInput, IsSeenFunction}
use Rattle.binding_laws.proofs.Again.{items_again}
use Rattle.binding_laws.proofs.Visible.{uses_seen}
use Rattle.binding_shapes.specs.Shapes.{role_shape}
use Rattle.bench_items.proofs.Shaped.{shaped_outputs}
use Rattle.bench_items.specs.Items.{RoleContent, Group, Check, Silent, role_content}
use Rattle.bench_items.specs.Naming.{SeenName, seen_names_in, body_names, number_in_history, IsInHistory, AreInHistory, item_outputs}
use Rattle.bench_items.proofs.Naming.{number_stays, still_named, number_tells}
use Rattle.bench_nodes.specs.declared.table.SlotKey.{SlotKey}
use Rattle.bench_nodes.specs.Nodes.{keys_at}
use Rattle.bench_slots.specs.Slots.{no_name, name_of, input_name, number_at, function_key, name_key, space_key}
use Rattle.bench_slots.specs.Roles.{AreBeforeAndAfter, IsSaidAgain, AreSaidAgain, keys_in, RolesStay}

-- ---- keys

-- the parts before the first output among some keys, by their owners
abbrev owners_of : List Key → List ℕ
owners_of [] = []
owners_of (Part part of ∷ ks) = of ∷ owners_of ks
owners_of (Output n x ∷ ks) = []

-- the outputs among some keys, by their owners and their numbers
abbrev outputs_of : List Key → List (ℕ × ℕ)
outputs_of [] = []
outputs_of (Part part of ∷ ks) = outputs_of ks
outputs_of (Output n x ∷ ks) = (n.of, x) ∷ outputs_of ks

owners_are : (test : ℕ) (numbers fs : List ℕ) (rest : List SlotKey)
    → owners_of (keys_at test (map (function_key numbers) fs ++ space_key ∷ rest))
    ≡ map (number_at numbers) fs
owners_are test numbers [] rest = refl
owners_are test numbers (f ∷ fs) rest =
    ap (λ (l : List ℕ). number_at numbers f ∷ l) (owners_are test numbers fs rest)

has_function : (test : ℕ) (numbers fs : List ℕ) (rest : List SlotKey) (n : ℕ)
    → Has (map (number_at numbers) fs) n
    → Has (keys_at test (map (function_key numbers) fs ++ space_key ∷ rest)) (Part 0 n)
has_function test numbers [] rest n h = absurd h
has_function test numbers (f ∷ fs) rest n (inl e) = inl (ap (λ (k : ℕ). Part 0 k) e)
has_function test numbers (f ∷ fs) rest n (inr h) = inr (has_function test numbers fs rest n h)

outputs_behind : (test : ℕ) (numbers fs : List ℕ) (rest : List SlotKey)
    → outputs_of (keys_at test (map (function_key numbers) fs ++ space_key ∷ rest))
    ≡ (0, 0) ∷ outputs_of (keys_at test rest)
outputs_behind test numbers [] rest = refl
outputs_behind test numbers (f ∷ fs) rest = outputs_behind test numbers fs rest

-- a name that an item uses, by the number of its item and its own
abbrev name_part : (ℕ → List SeenName) → ReadModel → Input → ℕ × ℕ
name_part histories m i = (
  number_at m.numbers i.item,
  number_in_history (histories (number_at m.numbers i.item)) (input_name m.resolved i),
)

outputs_are : (test : ℕ) (histories : ℕ → List SeenName) (m : ReadModel) (is : List Input)
    → outputs_of (keys_at test (map (name_key histories m.numbers m.resolved) is))
    ≡ map (name_part histories m) is
outputs_are test histories m [] = refl
outputs_are test histories m (i ∷ is) =
    ap (λ (l : List (ℕ × ℕ)). name_part histories m i ∷ l) (outputs_are test histories m is)

-- ---- names as other items see them

behind : {A B : Type 0} (f : A → B) (o : Option A) (b : B) → option_map f o ≡ Some b
    → (a : A) × (o ≡ Some a) × (f a ≡ b)
behind f None b e = absurd (none-some b e)
behind f (Some a) b e = (a, refl, same_Some _ _ e)

body_seen : (bs : List Body) (p : ℕ) (s : List ℕ)
    → option_map (λ b. b.name) (slice_get bs p) ≡ Some s → get_or (body_names bs) p no_name ≡ s
body_seen [] p s e = absurd (none-some s e)
body_seen (b ∷ bs) zero s e = same_Some _ _ e
body_seen (b ∷ bs) (suc p) s e = body_seen bs p s e

role_seen : (role : Role) (p : ℕ) (s : List ℕ)
    → option_map (λ b. b.name) (slice_get (bodies_of role) p) ≡ Some s
    → get_or (seen_names_in (role_content role)) p no_name ≡ s
role_seen (roles.Group recursive bodies) p s e = body_seen bodies.items p s e
role_seen (roles.Check c) p s e = absurd (none-some s e)
role_seen roles.Silent p s e = absurd (none-some s e)

name_seen : (o : Option ResolvedItem) (p : ℕ) (s : List ℕ) → seen_at o p ≡ Some s
    → name_of o p ≡ s
name_seen None p s e = absurd (none-some s e)
name_seen (Some r) p s e = role_seen r.role p s e

body_named : (h : List SeenName) (bs : List Body) (p : ℕ) (s : List ℕ)
    → Each (IsInHistory h) (body_names bs) → option_map (λ b. b.name) (slice_get bs p) ≡ Some s
    → IsInHistory h (get_or (body_names bs) p no_name)
body_named h [] p s all e = absurd (none-some s e)
body_named h (b ∷ bs) zero s all e = all.0
body_named h (b ∷ bs) (suc p) s all e = body_named h bs p s all.1 e

role_named : (h : List SeenName) (role : Role) (p : ℕ) (s : List ℕ)
    → AreInHistory h (role_content role) → option_map (λ b. b.name) (slice_get (bodies_of role) p) ≡ Some s
    → IsInHistory h (get_or (seen_names_in (role_content role)) p no_name)
role_named h (roles.Group recursive bodies) p s all e = body_named h bodies.items p s all e
role_named h (roles.Check c) p s all e = absurd (none-some s e)
role_named h roles.Silent p s all e = absurd (none-some s e)

-- ---- histories

numbers_stay : (h more names : List SeenName) → Each (IsInHistory h) names
    → map (number_in_history (h ++ more)) names ≡ map (number_in_history h) names
numbers_stay h more [] all = refl
numbers_stay h more (n ∷ ns) all =
    let here : number_in_history (h ++ more) n ≡ number_in_history h n = number_stays h more n all.0 in
    let rest : map (number_in_history (h ++ more)) ns ≡ map (number_in_history h) ns = numbers_stay h more ns all.1 in
    λ i. here i ∷ rest i

outputs_stay : (role : RoleContent) (h more : List SeenName) → AreInHistory h role
    → item_outputs role (h ++ more) ≡ item_outputs role h
outputs_stay (Group recursive bodies) h more all =
    numbers_stay h more (seen_names_in (Group recursive bodies)) all
outputs_stay (Check negated word code flag) h more all = refl
outputs_stay Silent h more all = refl

-- ---- two models

module _ (ps : List Predefined) (m w : ReadModel) (histories later : ℕ → List SeenName)
    (beside : AreBeforeAndAfter ps m w histories later) where
  number_is : (r : ReadModel) (i n : ℕ) → HasNumber r i n → number_at r.numbers i ≡ n
  number_is r i n at = get_or_from_slice_get r.numbers i n 0 at

  -- ---- functions

  function_alike : (f g : ℕ) → IsSeenFunction m f → IsSeenFunction w g
      → number_at m.numbers f ≡ number_at w.numbers g → IsSaidAgain m w (number_at m.numbers f)
      → seen_function m f ≡ seen_function w g
  function_alike f g a b e said =
      let at_f : HasNumber m f a.number = ap (λ (p : Option ℕ × Option BareItem). p.0) a.seen in
      let at_g : HasNumber w g b.number = ap (λ (p : Option ℕ × Option BareItem). p.0) b.seen in
      let number : a.number ≡ b.number = sym (number_is m f a.number at_f) ∙ e ∙ number_is w g b.number at_g in
      let x = behind bare_item (slice_get m.items f) a.text (ap (λ (p : Option ℕ × Option BareItem). p.1) a.seen) in
      let y = behind bare_item (slice_get w.items g) b.text (ap (λ (p : Option ℕ × Option BareItem). p.1) b.seen) in
      let again : IsSaidAgain m w a.number = subst (IsSaidAgain m w) (number_is m f a.number at_f) said in
      let at_other : HasNumber w g a.number = at_g ∙ ap (λ (n : ℕ). Some n) (sym number) in
      let text : a.text ≡ b.text = sym x.2 ∙ (again f g x.0 y.0 at_f x.1 at_other y.1).0 ∙ y.2 in
      let pair : ◌≡◌ {A = Option ℕ × Option BareItem} (Some a.number, Some a.text) (Some b.number, Some b.text) = λ i. (Some (number i), Some (text i)) in
      a.seen ∙ pair ∙ sym b.seen

  functions_alike : (fs gs : List ℕ) → Each (IsSeenFunction m) fs → Each (IsSeenFunction w) gs
      → map (number_at m.numbers) fs ≡ map (number_at w.numbers) gs
      → ((n : ℕ) → Has (map (number_at m.numbers) fs) n → IsSaidAgain m w n)
      → map (seen_function m) fs ≡ map (seen_function w) gs
  functions_alike [] [] a b e said = refl
  functions_alike [] (g ∷ gs) a b e said = absurd (nil≢cons e)
  functions_alike (f ∷ fs) [] a b e said = absurd (nil≢cons (sym e))
  functions_alike (f ∷ fs) (g ∷ gs) a b e said =
      let here : seen_function m f ≡ seen_function w g = function_alike f g a.0 b.0 (head-eq_of_cons-eq e) (said (number_at m.numbers f) (inl refl)) in
      let rest : map (seen_function m) fs ≡ map (seen_function w) gs = functions_alike fs gs a.1 b.1 (tail-eq_of_cons-eq e) (λ n h. said n (inr h)) in
      λ i. here i ∷ rest i

  -- ---- inputs

  -- the name is in the history of its item
  input_named : (i : Input) → IsSeenInput m i
      → IsInHistory (histories (number_at m.numbers i.item)) (input_name m.resolved i)
  input_named i a =
      by_item (slice_get m.resolved i.item) refl
      (ap (λ (p : Option ℕ × Option (List ℕ)). p.1) a.seen)
    where
      by_item : (o : Option ResolvedItem) → slice_get m.resolved i.item ≡ o
          → seen_at o i.position ≡ Some a.name
          → IsInHistory (histories (number_at m.numbers i.item)) (name_of o i.position)
      by_item None at e = absurd (none-some a.name e)
      by_item (Some r) at e =
          role_named (histories (number_at m.numbers i.item)) r.role i.position a.name
          (beside.named i.item r at) e

  input_alike : (i j : Input) → IsSeenInput m i → IsSeenInput w j
      → name_part histories m i ≡ name_part later w j → seen_input m i ≡ seen_input w j
  input_alike i j a b e =
      let n : ℕ = number_at m.numbers i.item in
      let old : SeenName = input_name m.resolved i in
      let new : SeenName = input_name w.resolved j in
      let at_i : HasNumber m i.item a.number = ap (λ (p : Option ℕ × Option (List ℕ)). p.0) a.seen in
      let at_j : HasNumber w j.item b.number = ap (λ (p : Option ℕ × Option (List ℕ)). p.0) b.seen in
      let own : n ≡ number_at w.numbers j.item = ap (λ (p : ℕ × ℕ). p.0) e in
      let number : a.number ≡ b.number = sym (number_is m i.item a.number at_i) ∙ own ∙ number_is w j.item b.number at_j in
      let here : HasNumber m i.item n = at_i ∙ ap (λ (k : ℕ). Some k) (sym (number_is m i.item a.number at_i)) in
      let there : HasNumber w j.item n = at_j ∙ ap (λ (k : ℕ). Some k) (sym (number_is w j.item b.number at_j) ∙ sym own) in
      let more = beside.grown n i.item j.item here there in
      let named : IsInHistory (histories n) old = input_named i a in
      let still : IsInHistory (later n) old = subst (λ (h : List SeenName). IsInHistory h old) (sym more.1) (still_named (histories n) more.0 old named) in
      let stays : number_in_history (later n) old ≡ number_in_history (histories n) old = ap (λ (h : List SeenName). number_in_history h old) more.1 ∙ number_stays (histories n) more.0 old named in
      let same : number_in_history (later n) old ≡ number_in_history (later n) new = stays ∙ ap (λ (p : ℕ × ℕ). p.1) e ∙ ap (λ (k : ℕ). number_in_history (later k) new) (sym own) in
      let one : old ≡ new = number_tells (later n) old new still same in
      let old_is : old ≡ a.name = name_seen (slice_get m.resolved i.item) i.position a.name (ap (λ (p : Option ℕ × Option (List ℕ)). p.1) a.seen) in
      let new_is : new ≡ b.name = name_seen (slice_get w.resolved j.item) j.position b.name (ap (λ (p : Option ℕ × Option (List ℕ)). p.1) b.seen) in
      let name : a.name ≡ b.name = sym old_is ∙ one ∙ new_is in
      let pair : ◌≡◌ {A = Option ℕ × Option (List ℕ)} (Some a.number, Some a.name) (Some b.number, Some b.name) = λ d. (Some (number d), Some (name d)) in
      a.seen ∙ pair ∙ sym b.seen

  inputs_alike : (is js : List Input) → Each (IsSeenInput m) is → Each (IsSeenInput w) js
      → map (name_part histories m) is ≡ map (name_part later w) js
      → map (seen_input m) is ≡ map (seen_input w) js
  inputs_alike [] [] a b e = refl
  inputs_alike [] (j ∷ js) a b e = absurd (nil≢cons e)
  inputs_alike (i ∷ is) [] a b e = absurd (nil≢cons (sym e))
  inputs_alike (i ∷ is) (j ∷ js) a b e =
      let here : seen_input m i ≡ seen_input w j = input_alike i j a.0 b.0 (head-eq_of_cons-eq e) in
      let rest : map (seen_input m) is ≡ map (seen_input w) js = inputs_alike is js a.1 b.1 (tail-eq_of_cons-eq e) in
      λ d. here d ∷ rest d

  -- ---- items

  module _ (number k l : ℕ) (x y : Item) (r q : ResolvedItem) (at : IsItemOf m number k x r)
      (also : IsItemOf w number l y q) (test : ℕ)
      (keys : keys_in later w number q test ≡ keys_in histories m number r test)
      (said : AreSaidAgain m w (keys_in histories m number r test)) where
    owners_here : owners_of (keys_in histories m number r test)
        ≡ number ∷ map (number_at m.numbers) r.functions.items
    owners_here =
        ap (λ (ns : List ℕ). number ∷ ns) (owners_are test m.numbers r.functions.items
        (map (name_key histories m.numbers m.resolved) r.inputs.items))

    owners_there : owners_of (keys_in later w number q test)
        ≡ number ∷ map (number_at w.numbers) q.functions.items
    owners_there =
        ap (λ (ns : List ℕ). number ∷ ns) (owners_are test w.numbers q.functions.items
        (map (name_key later w.numbers w.resolved) q.inputs.items))

    functions_same : map (number_at m.numbers) r.functions.items
        ≡ map (number_at w.numbers) q.functions.items
    functions_same = tail-eq_of_cons-eq (sym owners_here ∙ ap owners_of (sym keys) ∙ owners_there)

    outputs_here : outputs_of (keys_in histories m number r test)
        ≡ (0, 0) ∷ map (name_part histories m) r.inputs.items
    outputs_here =
        outputs_behind test m.numbers r.functions.items (map
        (name_key histories m.numbers m.resolved) r.inputs.items)
        ∙ ap (λ (l : List (ℕ × ℕ)). (0, 0) ∷ l) (outputs_are test histories m r.inputs.items)

    outputs_there : outputs_of (keys_in later w number q test)
        ≡ (0, 0) ∷ map (name_part later w) q.inputs.items
    outputs_there =
        outputs_behind test w.numbers q.functions.items
        (map (name_key later w.numbers w.resolved) q.inputs.items)
        ∙ ap (λ (l : List (ℕ × ℕ)). (0, 0) ∷ l) (outputs_are test later w q.inputs.items)

    names_same : map (name_part histories m) r.inputs.items ≡ map (name_part later w) q.inputs.items
    names_same = tail-eq_of_cons-eq (sym outputs_here ∙ ap outputs_of (sym keys) ∙ outputs_there)

    uses_same : UseTheSame m w r q
    uses_same =
        let old = uses_seen ps m number k x r beside.sound at in
        let new = uses_seen ps w number l y q beside.still also in
        record {
          inputs = inputs_alike r.inputs.items q.inputs.items old.0 new.0 names_same;
          functions =
              functions_alike r.functions.items q.functions.items old.1 new.1 functions_same
              (λ n h. said n (inr (has_function test m.numbers r.functions.items
              (map (name_key histories m.numbers m.resolved) r.inputs.items) n h)));
        }

    say_same : SayTheSame x y
    say_same = said number (inl refl) k l x y at.has_number at.text also.has_number also.text

    role_again : role_shape (role_content q.role) ≡ role_shape (role_content r.role)
    role_again =
        sym (items_again ps m w number k l x y r q beside.sound beside.still beside.order at also
        say_same uses_same)

    outputs_again : item_outputs (role_content q.role) (later number)
        ≡ item_outputs (role_content r.role) (histories number)
    outputs_again =
        let more = beside.grown number k l at.has_number also.has_number in
        let named : AreInHistory (histories number) (role_content r.role) = subst (λ (n : ℕ). AreInHistory (histories n) (role_content r.role)) (number_is m k number at.has_number) (beside.named k r at.item) in
        shaped_outputs (role_content q.role) (role_content r.role) (later number) role_again
        ∙ ap (item_outputs (role_content r.role)) more.1
        ∙ outputs_stay (role_content r.role) (histories number) more.0 named

pub roles_again : RolesStay
roles_again ps m w histories later beside number k l x y r q at also test keys said = (
  role_again ps m w histories later beside number k l x y r q at also test keys said,
  outputs_again ps m w histories later beside number k l x y r q at also test keys said,
)
