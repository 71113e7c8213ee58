-- Calls of a source, one after another.
use Rattle.std.proofs.Common.{◌≡◌, ℕ, ◌+◌, ◌-◌, ◌≤◌, ◌^◌, min, refl, subst, arith}
use Rattle.std.proofs.lemmas.Grind.{common_steps}
use Rattle.session_script.specs.Calls.{HasCalled, AreTurnsCalled}

below_itself : (a m : ℕ) → min a m ≤ a
below_itself a m = grind (arith, common_steps)

below_on : (a b c m : ℕ) → min a m ≤ b → min b m ≤ c → min a m ≤ c
below_on a b c m h k = grind (arith, common_steps, h, k)

-- no turn was taken
pub called_none : (turns calls : ℕ) → AreTurnsCalled turns turns calls calls
called_none turns calls = below_itself (calls + turns) (2 ^ 64 - 1)

pub called_on : (turns mid now calls between last : ℕ) → AreTurnsCalled turns mid calls between
    → AreTurnsCalled mid now between last → AreTurnsCalled turns now calls last
called_on turns mid now calls between last h k =
    below_on (calls + turns) (between + mid) (last + now) (2 ^ 64 - 1) h k

pub called_after : (turns before mid now calls between last : ℕ)
    → AreTurnsCalled turns before calls between → mid ≡ before → AreTurnsCalled mid now between last
    → AreTurnsCalled turns now calls last
called_after turns before mid now calls between last h e k =
    called_on turns before now calls between last h
    (subst (λ (n : ℕ). AreTurnsCalled n now between last) e k)

pub called_to_end : (turns mid calls between last : ℕ) → AreTurnsCalled turns mid calls between
    → HasCalled mid between last → HasCalled turns calls last
called_to_end turns mid calls between last h k =
    below_on (calls + turns) (between + mid) last (2 ^ 64 - 1) h k

-- where no turn is left
pub no_turn_called : (turns calls : ℕ) → turns ≡ 0 → HasCalled turns calls calls
no_turn_called turns calls e = grind (arith, common_steps, e)

-- a call more
pub one_called : (count calls between last : ℕ) → HasCalled count calls between
    → last ≡ min (between + 1) (2 ^ 64 - 1) → HasCalled (count + 1) calls last
one_called count calls between last h e = grind (arith, common_steps, h, e)

-- a turn that was a call
pub turn_called : (turns now calls last : ℕ) → now + 1 ≡ turns
    → last ≡ min (calls + 1) (2 ^ 64 - 1) → AreTurnsCalled turns now calls last
turn_called turns now calls last e c = grind (arith, common_steps, e, c)

-- a call that takes no turn
pub call_more : (turns calls last : ℕ) → last ≡ min (calls + 1) (2 ^ 64 - 1)
    → AreTurnsCalled turns turns calls last
call_more turns calls last c = grind (arith, common_steps, c)

-- no call yet
pub none_called : (calls : ℕ) → HasCalled 0 calls calls
none_called calls = no_turn_called 0 calls refl

-- as many calls as turns
pub all_called : (turns count calls last : ℕ) → count ≤ turns → HasCalled turns calls last
    → HasCalled count calls last
all_called turns count calls last few h = grind (arith, common_steps, few, h)
