use Rattle.std.proofs.Common.{◌++◌, ◌∷◌, [], sym, subst}
use Rattle.run_combinations.specs.Keys.{AreKeys, bit_of}
use Rattle.store_orders.specs.declared.combination.Action.{Action}
use Rattle.run_combinations.proofs.Parting.{read_more, write_more, fence_more}
use Rattle.run_combinations.proofs.part.add_keys.Goals as goal

pub returns-in-Load : goal.returns-in-Load
returns-in-Load c =
    λ es thread k. subst
    (λ (a : Action). AreKeys (bit_of c.args.values.now)
    (es ++ record { thread = thread; action = a } ∷ []) c.insert_pair.new.self
    c.args.stores.now)
    (sym c.in-Load.is)
    (read_more (bit_of c.args.values.now) es thread c.in-Load.location c.in-Load.value
    c.args.loads.now c.insert_pair.new.self c.args.stores.now c.insert_pair.ensures k)

pub returns-in-Store : goal.returns-in-Store
returns-in-Store c =
    λ es thread k. subst
    (λ (a : Action). AreKeys (bit_of c.args.values.now)
    (es ++ record { thread = thread; action = a } ∷ []) c.args.loads.now
    c.insert_pair-in-Store.new.self)
    (sym c.in-Store.is)
    (write_more (bit_of c.args.values.now) es thread c.in-Store.location c.in-Store.value
    c.args.loads.now c.args.stores.now c.insert_pair-in-Store.new.self
    c.insert_pair-in-Store.ensures k)

pub returns-in-Fence : goal.returns-in-Fence
returns-in-Fence c =
    λ es thread k. fence_more (bit_of c.args.values.now) es
    (record { thread = thread; action = c.args.action }) c.args.loads.now c.args.stores.now
    (λ l v e. let f = c.in-Fence.is in absurd (cc)) k
