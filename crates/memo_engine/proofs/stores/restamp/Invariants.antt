use Rattle.std.proofs.Common.{◌≡◌, ◌≤◌, ◌++◌, take, drop, vec_len, vec_capacity}
use Rattle.memo_core.specs.Views.{shown_outputs}
use Rattle.memo_core.specs.Tests.{stamped_outputs, changed_names}
use Rattle.memo_engine.proofs.stores.restamp.Given as goal

abbrev pub invariant-loop-i : goal.invariant-loop-i
invariant-loop-i g l =
    let same = g.T.Texts.same in
    record {
      outputs : shown_outputs (take l.i l.outputs)
          ++ stamped_outputs same (shown_outputs l.old) l.number
          (shown_outputs (drop l.i l.outputs))
          ≡ stamped_outputs same (shown_outputs l.old) l.number (shown_outputs l.fn.outputs);
      names : l.names.items
          ++ changed_names same (shown_outputs l.old) (shown_outputs (drop l.i l.outputs))
          ≡ changed_names same (shown_outputs l.old) (shown_outputs l.fn.outputs);
      few : vec_len l.names ≤ l.i;
      room : vec_capacity l.fn.names ≤ vec_capacity l.names;
    }
