use Rattle.std.proofs.Common.{◌≡◌, ℕ, zero, suc, ◌+◌, ◌-◌, ◌*◌, ◌^◌, ◌<◌, ◌++◌, ◌∙◌, List, [], ◌∷◌, Vec, Global, Bool, false, length, map, ap, min, arith}
use Rattle.std.specs.Prelude.{if◌then◌else◌, ◌||◌, ◌==◌}
use Rattle.std.proofs.lemmas.List.{length-map, map_push}
use Rattle.store_orders.specs.Combinations.{CombinationLists, combination_lists}
use Rattle.store_orders.specs.Lists.{lists_of}
use Rattle.run_combinations.specs.Search.{PrefixLists, Tally, capped_tally_with, prefix_lists, runs_lists, tally}
use Rattle.run_combinations.proofs.search.Found.keep.Goals as goal

is_some : (n : ℕ) (b : Bool) → b ≡ (n == 0) → b ≡ false → 0 < n
is_some zero b test is = absurd cc
is_some (suc n) b test is = omega arith

-- a combination with read choices is counted, and kept unless there is a fault
counted : (b : PrefixLists) (read_choices : List (List ℕ)) (orders n : ℕ) (t new : Tally) → n ≡ length read_choices
    → 0 < n → new.count ≡ min (t.count + min (n * orders) (2 ^ 64 - 1)) (2 ^ 64 - 1)
    → new.faulted ≡ (t.faulted || b.faulted)
    → new.kept ≡ (if new.faulted then t.kept
    else t.kept ++ record b.combination { reads_from = read_choices } ∷ [])
    → new ≡ capped_tally_with b read_choices orders t
counted b [] orders n t new long some count faulted kept = absurd (omega (arith, long, some))
counted b (reads_from ∷ read_choices) orders n t new long some count faulted kept =
    let all : List CombinationLists = t.kept ++ record b.combination { reads_from = reads_from ∷ read_choices } ∷ [] in
    let keeps = kept ∙ ap (λ (f : Bool). if f then t.kept else all) faulted in
    let counts = count ∙ ap (λ (m : ℕ). min (t.count + min (m * orders) (2 ^ 64 - 1)) (2 ^ 64 - 1)) long in
    λ i. record { kept = keeps i; count = counts i; faulted = faulted i }

pub returns-then-self : goal.returns-then-self
returns-then-self c =
    let read_choices = c.args.read_choices in
    let some = is_some read_choices.len c.is_empty.result c.is_empty.ensures c.if-is_empty.false in
    let long = length-map read_choices.items (λ (v : Vec ℕ Global). v.items) in
    let kept = ap (map combination_lists) (ap (λ (v : Vec _ Global). v.items) c.count_read_choices.ensures.combinations) in
    counted (prefix_lists c.args.prefix.now) (lists_of read_choices.items) c.args.orders c.len.result
    (tally c.args.self.now) (tally c.count_read_choices.new.self)
    (omega (arith, long, read_choices.ok.0, c.len.ensures)) (omega (arith, some, c.len.ensures))
    c.count_read_choices.ensures.count c.count_read_choices.ensures.faulted (rw c.if-self.true kept)

pub returns : goal.returns
returns c =
    let read_choices = c.args.read_choices in
    let all = lists_of read_choices.items in
    let some = is_some read_choices.len c.is_empty.result c.is_empty.ensures c.if-is_empty.false in
    let long = length-map read_choices.items (λ (v : Vec ℕ Global). v.items) in
    let one = c.combination.ensures ∙ ap (λ (r : CombinationLists). record r { reads_from = all }) c.in_ok-runs.ensures in
    let kept : map combination_lists c.push.new.self.items ≡ map combination_lists c.args.self.now.combinations.items ++ record (runs_lists c.args.prefix.now.runs) { reads_from = all } ∷ [] = ap (map combination_lists) c.in_ok-push.ensures.items ∙ map_push combination_lists c.count_read_choices.new.self.combinations.items c.combination.result ∙ (λ i. map combination_lists (c.count_read_choices.ensures.combinations i).items ++ one i ∷ []) in
    let new : Tally = record { kept = map combination_lists c.push.new.self.items; count = c.count_read_choices.new.self.count; faulted = c.count_read_choices.new.self.is_faulted } in
    counted (prefix_lists c.args.prefix.now) all c.args.orders c.len.result (tally c.args.self.now)
    new (omega (arith, long, read_choices.ok.0, c.len.ensures)) (omega (arith, some, c.len.ensures))
    c.count_read_choices.ensures.count c.count_read_choices.ensures.faulted (rw c.if-self.false kept)
