use Rattle.std.proofs.Common.{◌≡◌, ◌∙◌, false, ℕ, ap, sym, refl}
use Rattle.memo_core.specs.declared.keys.Kind.{Kind}
use Rattle.bench_nodes.specs.declared.table.SlotKey.{SlotKey}
use Rattle.bench_nodes.specs.declared.table.SlotKey.TheVariants as keys
use Rattle.bench_nodes.specs.Slots.{is_output_of}
use Rattle.bench_nodes.specs.Places.{put_at}
use Rattle.bench_nodes.proofs.UserLists.{no_output, known_output, new_output}
use Rattle.bench_nodes.proofs.places.put_key.Goals as goal

no_value : (k : SlotKey) → ((kind : Kind) (of name : ℕ) → k ≡ keys.Value kind of name → ⊥)
    → (kind : Kind) (of : ℕ) → is_output_of kind of k ≡ false
no_value (keys.Test part) h kind of = refl
no_value (keys.Item number) h kind of = refl
no_value (keys.Fault id) h kind of = refl
no_value (keys.Value other from name) h kind of = absurd (h other from name refl)

pub returns-in_default : goal.returns-in_default
returns-in_default c =
    λ found all before. before
    ∙ sym (no_output c.args.name c.args.before.now c.args.key c.args.slots.now all
    (no_value c.args.key (λ kind of name e. c.in_default.not-Value kind of name e)))

pub returns-then-uses : goal.returns-then-uses
returns-then-uses c = λ found all before.
    rw c.in-Value.is (before
    ∙ sym (known_output c.args.name c.args.before.now c.in-Value.kind c.in-Value.of
    c.in-Value.field-2 c.args.slots.now all (sym c.uses.ensures ∙ c.if-uses.true)))

pub returns-in_ok-put_at-in-Some : goal.returns-in_ok-put_at-in-Some
returns-in_ok-put_at-in-Some c = λ found all before.
    rw c.in-Value.is (
    c.in_ok-put_at-in-Some.ensures ∙ ap (put_at c.in-Some.at c.args.name) before
    ∙ sym (new_output c.args.name c.args.before.now c.in-Value.kind c.in-Value.of c.in-Value.field-2
    c.in-Some.at c.args.slots.now all c.requires (sym c.uses.ensures ∙ c.if-uses.false)
    c.in-Some.ensures)
    )
