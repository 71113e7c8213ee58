use Rattle.std.proofs.Common.{◌≡◌, ◌≤◌, length}
use Rattle.session_script.specs.Calls.{HasCalled}
use Rattle.session_script.proofs.Prefixes.{HasRead}
use Rattle.session_script.proofs.source.read_prefix.Given as goal

-- each turn has read a byte at least, of which the first are kept
abbrev pub invariant-loop-turn : goal.invariant-loop-turn
invariant-loop-turn g l =
    (g.S.ByteSource.failed_calls l.source ≡ g.S.ByteSource.failed_calls l.initial.source)
    × (length l.buffer ≡ 4096) × (length l.bytes.items ≤ l.most)
    × HasCalled l._turn (g.S.ByteSource.calls l.initial.source) (g.S.ByteSource.calls l.source)
    × HasRead l.most (g.S.ByteSource.remaining l.initial.source)
    (g.S.ByteSource.remaining l.source) l.bytes.items l._turn
