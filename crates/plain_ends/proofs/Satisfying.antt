-- Whether a value that was found is the one that is asked for.
use Rattle.std.proofs.Common.{◌≡◌, ◌↔◌, Bool, false, IsTrue, Some, None, sym, ap, true≢false}
use Rattle.std.proofs.lemmas.Option.{same_Some, none-some}
use Rattle.meaning.specs.Machine as machine
use Rattle.plain_machine.specs.declared.value.Value.{Value}
use Rattle.plain_machine.specs.Values.{value_as}
use Rattle.plain_ends.specs.Ends.{IsValueFound}

not_true : IsTrue false → ⊥
not_true is = true≢false (sym is)

-- the value that was found is the one that is asked for
pub found_is : (found : Value) (v : machine.Value) (b : Bool) (E : machine.Value → Type 0)
    → ((w : machine.Value) → IsValueFound (Some found) w ↔ E w)
    → IsTrue b ↔ (value_as found ≡ v) → IsTrue b ↔ E v
found_is found v b E ends is = (
  λ h. (ends v).0 (ap (λ (w : machine.Value). Some w) (is.0 h)),
  λ h. is.1 (same_Some _ _ ((ends v).1 h)),
)

pub nothing_is : (v : machine.Value) (E : machine.Value → Type 0)
    → ((w : machine.Value) → IsValueFound None w ↔ E w) → IsTrue false ↔ E v
nothing_is v E ends = (
  λ h. absurd (not_true h),
  λ h. absurd (none-some v ((ends v).1 h)),
)
