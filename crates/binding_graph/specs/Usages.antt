-- What expressions use and apply, through the functions that they apply too, the latest first. The
-- names used are counted as in specs/Inputs.
use Rattle.std.specs.Prelude.{◌≡◌, ℕ, ◌==◌, List, [], ◌∷◌, ◌++◌, length, map, reverse, Bool, true, false, if◌then◌else◌, Option, Some, None, Result, Ok, Err, get_or, slice_get}
use Rattle.text_values.specs.ModelValue.{Term, Terms, Atom, AllEvents, EmptyRelation, EmptySet, Join, Mark, Not, On, Apply, NoTerm, OneMore}
use Rattle.binding_kinds.specs.declared.fault.ModelFault.{ModelFault}
use Rattle.binding_kinds.specs.declared.function.Function.{Function}
use Rattle.binding_kinds.specs.declared.scope.Used.{Used}
use Rattle.binding_kinds.specs.declared.scope.Found.{Found}
use Rattle.binding_kinds.specs.Value.{Naming, Bound, BareItem, Group, Check, Mute, Defined}
use Rattle.binding_kinds.specs.Kinds.{found}
use Rattle.binding_kinds.specs.Meanings.{parameter_of}
use Rattle.binding_kinds.specs.Applicable.{applied_of}
use Rattle.binding_kinds.specs.Senses.{count_of}
use Rattle.binding_graph.specs.Inputs.{with_used, with_name}

-- the names, one after another
abbrev pub with_all_used : List Used → List Used → List Used
with_all_used vs [] = vs
with_all_used vs (u ∷ us) = with_all_used (with_used vs u) us

abbrev pub is_among : List ℕ → ℕ → Bool
is_among [] item = false
is_among (i ∷ is) item = if i == item then true else is_among is item

-- one more function, by its item, unless it is there
abbrev pub with_item : List ℕ → ℕ → List ℕ
with_item fs item = if is_among fs item then fs else item ∷ fs

abbrev pub with_items : List ℕ → List ℕ → List ℕ
with_items fs [] = fs
with_items fs (i ∷ is) = with_items (with_item fs i) is

-- What a function is to those who apply it: how many parameters it has, its item, and the names of
-- other items that its body uses and the items of the functions that it applies, through those
-- functions too, each once, in the order of first use and of first application.
pub record Usage : Type 0 where
  pub arity : ℕ
  pub item : ℕ
  pub values : List Used
  pub functions : List ℕ

abbrev pub usage_at : List Usage → Result ℕ ModelFault → Option Usage
usage_at us (Ok f) = slice_get us f
usage_at us (Err k) = None

-- the function that a name with so many arguments applies, in an expression that sees the
-- parameters
abbrev pub usage_seen : List Usage → List Naming → List (List ℕ) → ℕ → List ℕ → Option Usage
usage_seen us names ps count x =
    usage_at us (applied_of (λ f. slice_get (map (λ u. u.arity) us) f) count
    (parameter_of (reverse ps) x) (found names x))

abbrev pub values_of : Option Usage → List Used
values_of None = []
values_of (Some u) = u.values

-- a function, and then those that its body applies
abbrev pub functions_of : Option Usage → List ℕ
functions_of None = []
functions_of (Some u) = u.item ∷ u.functions

-- A parameter hides any other name.
abbrev pub with_meaning : List Used → ℕ → Option ℕ → Option Found → List Used
with_meaning vs from (Some p) o = vs
with_meaning vs from None o = with_name vs from o

abbrev mutual
  -- the names that are used, with those of an expression: what the body of a function uses before
  -- what its arguments use
  pub with_values : List Usage → List Naming → List (List ℕ) → ℕ → Term → List Used → List Used
  with_values us names ps from (Atom x) vs =
      with_meaning vs from (parameter_of (reverse ps) x) (found names x)
  with_values us names ps from AllEvents vs = vs
  with_values us names ps from EmptyRelation vs = vs
  with_values us names ps from EmptySet vs = vs
  with_values us names ps from (Join op a b) vs =
      with_values us names ps from b (with_values us names ps from a vs)
  with_values us names ps from (Mark op a) vs = with_values us names ps from a vs
  with_values us names ps from (Not a) vs = with_values us names ps from a vs
  with_values us names ps from (On a) vs = with_values us names ps from a vs
  with_values us names ps from (Apply x ts) vs =
      with_values_among us names ps from ts (with_all_used vs
      (values_of (usage_seen us names ps (count_of ts) x)))

  pub with_values_among : List Usage → List Naming → List (List ℕ) → ℕ → Terms → List Used
      → List Used
  with_values_among us names ps from NoTerm vs = vs
  with_values_among us names ps from (OneMore a others) vs =
      with_values_among us names ps from others (with_values us names ps from a vs)

abbrev mutual
  -- the functions that are applied, with those of an expression: a function, what its body applies,
  -- and what its arguments apply
  pub with_functions : List Usage → List Naming → List (List ℕ) → Term → List ℕ → List ℕ
  with_functions us names ps (Atom x) fs = fs
  with_functions us names ps AllEvents fs = fs
  with_functions us names ps EmptyRelation fs = fs
  with_functions us names ps EmptySet fs = fs
  with_functions us names ps (Join op a b) fs =
      with_functions us names ps b (with_functions us names ps a fs)
  with_functions us names ps (Mark op a) fs = with_functions us names ps a fs
  with_functions us names ps (Not a) fs = with_functions us names ps a fs
  with_functions us names ps (On a) fs = with_functions us names ps a fs
  with_functions us names ps (Apply x ts) fs =
      with_functions_among us names ps ts (with_items fs
      (functions_of (usage_seen us names ps (count_of ts) x)))

  pub with_functions_among : List Usage → List Naming → List (List ℕ) → Terms → List ℕ → List ℕ
  with_functions_among us names ps NoTerm fs = fs
  with_functions_among us names ps (OneMore a others) fs =
      with_functions_among us names ps others (with_functions us names ps a fs)

-- the names that the bodies of a group use
abbrev pub with_all_values : List Usage → List Naming → ℕ → List Bound → List Used → List Used
with_all_values us names from [] vs = vs
with_all_values us names from (b ∷ bs) vs =
    with_all_values us names from bs (with_values us names [] from b.body vs)

-- the functions that the bodies of a group apply
abbrev pub with_all_functions : List Usage → List Naming → List Bound → List ℕ → List ℕ
with_all_functions us names [] fs = fs
with_all_functions us names (b ∷ bs) fs =
    with_all_functions us names bs (with_functions us names [] b.body fs)

-- the function of that item, from its parameters and its body
abbrev pub usage_of_function : List Usage → List Naming → ℕ → List (List ℕ) → Term → Usage
usage_of_function us names item ps body = record {
  arity = length ps;
  item = item;
  values = reverse (with_values us names ps (length names) body []);
  functions = reverse (with_functions us names ps body []);
}

-- the functions after the item of that number
abbrev pub usages_after : List Usage → List Naming → ℕ → BareItem → List Usage
usages_after us names item (Group r bs) = us
usages_after us names item (Check w e) = us
usages_after us names item Mute = us
usages_after us names item (Defined n ps b) = us ++ usage_of_function us names item ps b ∷ []

-- the table marks each function applied
abbrev pub IsListed : List Bool → List ℕ → Type 0
IsListed applied functions =
    (item : ℕ) → get_or applied item false ≡ is_among (reverse functions) item

abbrev pub usage_of : Function → Usage
usage_of f =
    record {
      arity = f.arity;
      item = f.item;
      values = f.values.items;
      functions = f.functions.items;
    }
