-- Why a model was not resolved.
use Rattle.binding_kinds.specs.declared.fault.ModelFault.{ModelFault}
use Rattle.binding_graph.specs.declared.fault.ResolveFault.{ResolveFault}
use Rattle.binding_graph.specs.declared.fault.ResolveFault.TheVariants as refusals

-- a fact of the model's fault, where it was not memory that ran out
abbrev pub IfRefused : ResolveFault → (ModelFault → Type 0) → Type 0
IfRefused (refusals.Refused k) P = P k
IfRefused (refusals.OutOfMemory e) P = Unit {0}
