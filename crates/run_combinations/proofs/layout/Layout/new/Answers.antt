use Rattle.std.proofs.Common.{ℕ, List, Vec, ◌≡◌, Some, refl, subst}
use Rattle.std.specs.declared.alloc.Global.{Global}
use Rattle.thread_runs.specs.declared.value.Value.{Value}
use Rattle.thread_runs.specs.declared.run.Run.{Run}
use Rattle.run_combinations.specs.Keys.{HasKey, bit_of}
use Rattle.store_orders.specs.Events.{initial_stores, HasStore}
use Rattle.run_combinations.specs.Parts.{AreSiftedParts}
use Rattle.store_orders.specs.declared.combination.Event.{Event}
use Rattle.run_combinations.proofs.Laying.{AllFacts, all_facts, all_threads, all_keyed, left_out_there}
use Rattle.run_combinations.proofs.layout.Layout.new.Goals as goal

pub returns : goal.returns
returns c =
    let runs : List (Vec Run Global) = c.in_ok-threads.ensures.0 in
    let are : AreSiftedParts c.args.domain.now.values.items c.initial_keys-initial_store_keys.result runs c.in_ok-threads.threads.items = c.in_ok-threads.ensures.2 in
    let facts : AllFacts c.args.domain.now.values.items runs are.left = all_facts c.args.domain.now.values.items runs are.all are.left are.sketched are.sifted.some in
    let e1 : c.deref.result.now ≡ c.args.program.initial.items = c.deref.ensures.value in
    let e2 : c.deref-2.result.now ≡ c.args.domain.now.values.items = c.deref-2.ensures.value in
    let e3 : c.deref-3.result.now ≡ c.in_ok-initial.initial.items = c.deref-3.ensures.value in
    let first : c.in_ok-initial.initial.items ≡ initial_stores 0 c.deref.result.now = c.in_ok-initial.ensures in
    let keys : (location : ℕ) (value : Value) (a b : ℕ) → HasStore location value c.deref-3.result.now → bit_of c.deref-2.result.now location value ≡ Some (a, b) → HasKey c.initial_keys-initial_store_keys.result a b = c.initial_keys-initial_store_keys.ensures in
    let stores : (location : ℕ) (value : Value) (a b : ℕ) → HasStore location value c.in_ok-initial.initial.items → bit_of c.args.domain.now.values.items location value ≡ Some (a, b) → HasKey c.initial_keys-initial_store_keys.result a b =
    subst
    (λ (es : List Event). (location : ℕ) (value : Value) (a b : ℕ) → HasStore location value es
    → bit_of c.args.domain.now.values.items location value ≡ Some (a, b)
    → HasKey c.initial_keys-initial_store_keys.result a b) e3
    (subst
    (λ (vs : List Value). (location : ℕ) (value : Value) (a b : ℕ)
    → HasStore location value c.deref-3.result.now
    → bit_of vs location value ≡ Some (a, b)
    → HasKey c.initial_keys-initial_store_keys.result a b) e2 keys) in (
      runs,
      c.in_ok-threads.ensures.1,
      record {
        locations = refl;
        initial =
            subst (λ (vs : List Value). c.in_ok-initial.initial.items ≡ initial_stores 0 vs) e1
            first;
        threads =
            all_threads c.args.domain.now.values.items 0 runs are.left c.in_ok-threads.threads.items
            facts are.made;
        left_out =
            left_out_there c.args.domain.now.values.items c.in_ok-initial.initial.items
            c.initial_keys-initial_store_keys.result runs are.all are.left c.in_ok-threads.threads.items
            stores are.sketched are.sifted are.made;
      },
      record { initial = stores; threads = all_keyed c.args.domain.now.values.items 0 runs are.left c.in_ok-threads.threads.items facts are.made },
    )
