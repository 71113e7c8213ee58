use Rattle.bench_parts.proofs.Numbering.{none_made, one_more}
use Rattle.bench_parts.proofs.jobs.outputs_of.Goals as goal

pub loop-value-init : goal.loop-value-init
loop-value-init c =
    none_made c.args.names.now c.in_ok-outputs.outputs.items c.in_ok-outputs.ensures.items

pub loop-value-preserved : goal.loop-value-preserved
loop-value-preserved c =
    one_more c.args.names.now c.loop-value.outputs.items c.loop-value.yielded
    c.put_output.new.outputs.items c.in-Some.value c.in_ok-put_output.ensures.named
    c.in_ok-put_output.ensures.past c.loop-value.invariant
