-- Small closed examples, of which the functions of src/examples.rt speak. No part of the meaning.
use Rattle.std.specs.Prelude.{ℕ, pos, ◌≡◌, ◌<◌, List, [], ◌∷◌, ◌++◌, codes, false, true, Option, Some, None, option_to_list}
use Rattle.text_values.specs.declared.model.CheckWord.TheVariants.{Acyclic, Empty}
use Rattle.text_values.specs.declared.model.Infix.TheVariants as infixes
use Rattle.text_values.specs.declared.instruction.Instruction.TheVariants as code
use Rattle.text_values.specs.declared.test.Step.{Step}
use Rattle.text_values.specs.declared.test.Step.TheVariants as steps
use Rattle.text_values.specs.declared.test.Place.TheVariants as observables
use Rattle.text_values.specs.declared.test.Value.TheVariants as written
use Rattle.text_values.specs.declared.test.Quantifier.TheVariants.{Exists}
use Rattle.text_values.specs.TestValue.{Content, Holds}
use Rattle.text_values.specs.ModelValue.{Term, Atom, Join, Not, Apply, NoTerm, OneMore, Clause, Binding, Function, Checking}
use Rattle.meaning.specs.Sets.{Set, Relation}
use Rattle.meaning.specs.Machine.{Value, Number, Address, Equal, State, stored_values}
use Rattle.meaning.specs.Runs.{Run, Instance, run_of, initial_state}
use Rattle.meaning.specs.Executions.{Event, Execution, Initial, Does, Stores, HasAction}
use Rattle.meaning.specs.Outcome.{CountedState, Evaluation, Always}
use Rattle.meaning.specs.Cat.{ARelation, Names, ToMeaning, HasPair, meaning_of, Least, names_after}

-- `acyclic e`
abbrev pub acyclic_of : Term → Clause
acyclic_of e = Checking (record { negated = false; word = Acyclic; body = e }) None

-- `twice(e)`
abbrev pub twice_of : Term → Term
twice_of e = Apply (codes "twice") (OneMore e NoTerm)

-- `let twice(x) = x;x`
abbrev pub twice : Clause
twice =
    Function (codes "twice") (codes "x" ∷ [])
    (Join infixes.Sequence (Atom (codes "x")) (Atom (codes "x")))

-- `let rec r = ~r`
abbrev pub complement_of_itself : Clause
complement_of_itself = Binding true ((codes "r", Not (Atom (codes "r"))) ∷ [])

-- There are two events, 0 and 1.
abbrev pub IsOneOfTwo : Set ℕ
IsOneOfTwo a = a < 2

-- Event 0 steps to event 1.
abbrev pub IsStep : Relation ℕ
IsStep a b = (a ≡ 0) × (b ≡ 1)

-- the names behind `let twice(x) = x;x`, where `r` is that relation
abbrev pub names_of_two : Names ℕ
names_of_two = names_after IsOneOfTwo ((codes "r", ToMeaning (ARelation IsStep)) ∷ []) twice

-- the relation `twice(r)`
abbrev pub TwiceR : Relation ℕ
TwiceR = HasPair (meaning_of IsOneOfTwo names_of_two (twice_of (Atom (codes "r"))))

-- `r | (p;p)`
abbrev pub body_of_p : Term
body_of_p =
    Join infixes.Union (Atom (codes "r"))
    (Join infixes.Sequence (Atom (codes "p")) (Atom (codes "p")))

-- the relation `p` of `let rec p = r | (p;p)`
abbrev pub LeastOfP : Relation ℕ
LeastOfP = Least IsOneOfTwo names_of_two ((codes "p", body_of_p) ∷ []) (codes "p")

-- `li r1,1` and `stw r1,0(r2)`
abbrev pub store_lines : List Step
store_lines =
    steps.Instruction (code.LoadImmediate 1 (pos 1)) ∷ steps.Instruction (code.Store 1 2) ∷ []

-- a state in which register 2 holds the address of x
abbrev pub state_at_x : State
state_at_x = record {
  registers = Number 0 ∷ Number 0 ∷ Address (codes "x") ∷ [];
  compared = Equal;
}

-- the values that a run stores
abbrev pub stored_in : Option Run → List Value
stored_in None = []
stored_in (Some r) = stored_by r.instances
  where
    stored_by : List Instance → List Value
    stored_by [] = []
    stored_by (i ∷ rest) = stored_values i.instruction i.before ++ stored_by rest

-- the test of that thread, in which register 2 holds the address of x, with `exists ([x]=1)`
abbrev pub store_test : Content
store_test = record {
  name = codes "S";
  init = record { place = observables.Register 0 2; value = written.Address (codes "x") } ∷ [];
  threads = store_lines ∷ [];
  observed = [];
  quantifier = Exists;
  condition = Holds (observables.Location (codes "x")) (written.Number (pos 1));
}

-- the run of the thread
abbrev pub store_run : Option Run
store_run = run_of store_lines None (initial_state store_test 0) []

-- the execution in which the initial store comes before the store of the thread
abbrev pub store_execution : Execution
store_execution = record {
  runs = option_to_list store_run;
  reads_from = [];
  coherence = (Initial (codes "x") ∷ Does 0 1 ∷ []) ∷ [];
}

-- The event stores that number at x.
abbrev pub StoresAtX : Event → ℕ → Type 0
StoresAtX e n = HasAction store_test store_execution e (Stores (codes "x") (Number n))

-- `empty rf`
abbrev pub store_items : List Clause
store_items =
    Checking (record { negated = false; word = Empty; body = Atom (codes "rf") }) None ∷ []

-- the final state, in which x holds 1
abbrev pub store_state : CountedState
store_state = record { values = Number 1 ∷ []; count = 1; holds = true }

-- what the test says under that model
abbrev pub store_evaluation : Evaluation
store_evaluation = record {
  states = store_state ∷ [];
  positive = 1;
  negative = 0;
  observation = Always;
  ok = true;
  flags = [];
}
