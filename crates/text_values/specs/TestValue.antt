-- What a test means, without its layout in memory: `content_of` is the meaning of a test, `Formula`
-- of a proposition.
use Rattle.std.specs.Prelude.{ℕ, List, map, Bool}
use Rattle.text_values.specs.declared.test.Place.{Place}
use Rattle.text_values.specs.declared.test.Value as declared_value
use Rattle.text_values.specs.declared.test.InitEntry.{InitEntry}
use Rattle.text_values.specs.declared.test.Step.{Step}
use Rattle.text_values.specs.declared.test.Thread.{Thread}
use Rattle.text_values.specs.declared.test.Quantifier.{Quantifier}
use Rattle.text_values.specs.declared.test.Connective.{Connective}
use Rattle.text_values.specs.declared.test.Connective.TheVariants as connectives
use Rattle.text_values.specs.declared.test.Proposition as code
use Rattle.text_values.specs.declared.test.Proposition.TheVariants as propositions
use Rattle.text_values.specs.declared.test.Test.{Test}

-- how tightly an operator binds: each groups to the right
abbrev pub level : Connective → ℕ
level connectives.And = 3
level connectives.Or = 2
level connectives.Implies = 1

-- a proposition
pub data Formula : Type 0 where
  Constant : (b : Bool) → Formula
  Holds : (place : Place) (value : declared_value.Value) → Formula
  Not : (a : Formula) → Formula
  Join : (op : Connective) (a b : Formula) → Formula

-- a test
pub record Content : Type 0 where
  pub name : List ℕ
  pub init : List InitEntry
  pub threads : List (List Step)
  pub observed : List Place
  pub quantifier : Quantifier
  pub condition : Formula

abbrev pub formula_of : code.Proposition → Formula
formula_of (propositions.Constant b) = Constant b
formula_of (propositions.Holds p v) = Holds p v
formula_of (propositions.Not' p a) = Not (formula_of a)
formula_of (propositions.Joined' op p a q b) = Join op (formula_of a) (formula_of b)

abbrev pub thread_steps : Thread → List Step
thread_steps t = t.steps.items

abbrev pub content_of : Test → Content
content_of t = record {
  name = t.name;
  init = t.init.items;
  threads = map thread_steps t.threads.items;
  observed = t.observed.items;
  quantifier = t.condition.quantifier;
  condition = formula_of t.condition.proposition;
}
