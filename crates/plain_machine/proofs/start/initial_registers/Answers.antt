use Rattle.std.proofs.Common.{◌≡◌, ◌+◌, ◌<◌, ℕ, List, get_or, map, length, set, ap, ◌∙◌, arith}
use Rattle.std.proofs.lemmas.List.{map-set, length-map, length-set}
use Rattle.std.proofs.lemmas.List.Edits.{fill_by_more}
use Rattle.std.proofs.lemmas.List.FromFn.{fill_by_all}
use Rattle.text_values.specs.declared.test.Place.TheVariants as observables
use Rattle.text_values.specs.declared.test.InitEntry.{InitEntry}
use Rattle.text_values.specs.TestValue.{content_of}
use Rattle.meaning.specs.Machine.{Value, Number}
use Rattle.meaning.specs.Runs.{value_given, initial_value}
use Rattle.plain_machine.specs.declared.value.Value as code
use Rattle.plain_machine.specs.Values.{value_as}
use Rattle.plain_machine.proofs.start.initial_registers.Goals as goal

one_more : (f : ℕ → Value) (rs : List code.Value) (n m : ℕ) (v : code.Value) → length rs ≡ 32
    → n < 32 → m ≡ n → value_as v ≡ f n
    → ((k : ℕ) → k < n → get_or (map value_as rs) k (Number 0) ≡ f k) → (k : ℕ) → k < n + 1
    → get_or (map value_as (set rs m v)) k (Number 0) ≡ f k
one_more f rs n m v room lt at is before k less =
    ap (λ (l : List Value). get_or l k (Number 0)) same
    ∙ fill_by_more f (map value_as rs) n (Number 0) inside before k less
  where
    same : map value_as (set rs m v) ≡ set (map value_as rs) n (f n)
    same =
        map-set value_as rs m v ∙ ap (λ (j : ℕ). set (map value_as rs) j (value_as v)) at
        ∙ ap (λ (w : Value). set (map value_as rs) n w) is

    inside : n < length (map value_as rs)
    inside = let long : _ = length-map rs value_as in omega (arith, long, room, lt)

pub loop-number-preserved : goal.loop-number-preserved
loop-number-preserved c = record {
  room = length-set c.loop-number.registers c.from.result c.initial_value.result ∙ c.loop-number.invariant.room;
  filled = one_more
      (λ k. initial_value (content_of c.args.test.now) (observables.Register c.args.thread k))
      c.loop-number.registers c.loop-number.number c.from.result c.initial_value.result
      c.loop-number.invariant.room (omega arith) c.from.ensures
      (c.initial_value.ensures ∙ ap (λ (es : List InitEntry). value_given es (Number 0) (observables.Register c.args.thread c.new.result)) c.deref.ensures.value ∙ ap (λ (k : ℕ). value_given c.args.test.now.init.items (Number 0) (observables.Register c.args.thread k)) c.new.ensures)
      c.loop-number.invariant.filled;
}

pub returns : goal.returns
returns c =
    fill_by_all
    (λ k. initial_value (content_of c.args.test.now) (observables.Register c.args.thread k))
    (map value_as c.loop-number.registers) 32 (Number 0)
    (length-map c.loop-number.registers value_as ∙ c.loop-number.invariant.room)
    (λ k lt. c.loop-number.invariant.filled k (omega arith))
