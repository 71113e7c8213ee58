use Rattle.std.proofs.Common.{rules, take}
use Rattle.std.proofs.lemmas.List.{length-take-le}
use Rattle.session_script.proofs.Prefixes.{read_on, is_kept, prefix_is_short}
use Rattle.session_script.proofs.Calls.{one_called}
use Rattle.session_script.proofs.source.read_prefix.Goals as goal

pub loop-turn-preserved : goal.loop-turn-preserved
loop-turn-preserved g c =
    let put = c.in_ok-put_prefix-in-Ok.ensures in
    let more = take c.in-Ok.n c.read_some.new.buffer in
    let count = length-take-le c.in-Ok.n c.read_some.new.buffer (search rules) in
    let read = c.in-Ok.ensures.bytes in
    let on = read_on c.args.most _ _ (g.S.ByteSource.remaining c.read_some.new.self) c.loop-turn.bytes.items more c.loop-turn._turn c.loop-turn.invariant.4 read.0 (search rules) in (
      search rules,
      search rules,
      prefix_is_short _ c.args.most _ put,
      one_called c.loop-turn._turn (g.S.ByteSource.calls c.args.source.now)
          (g.S.ByteSource.calls c.loop-turn.source)
          (g.S.ByteSource.calls c.read_some.new.self) c.loop-turn.invariant.3
          c.read_some.ensures.call,
      is_kept c.args.most _ _ _ _ _ put on,
    )
