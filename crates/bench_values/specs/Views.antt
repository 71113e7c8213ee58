-- What contracts see of what is held and of what is given.
use Rattle.binding_shapes.specs.Shapes.{role_shape}
use Rattle.bench_values.specs.Givens.{asked, faulted, VerdictPartsContent, FaultPartsContent, GivenContent, ForSpace, ForItem, ForVerdict, ForFault}
use Rattle.bench_items.specs.Items.{shared_role, shared_outputs}
use Rattle.bench_values.specs.Parts.{SpacePartsContent, parts_of}
use Rattle.bench_values.specs.Spaces.{space_content}
use Rattle.bench_values.specs.Values.{NodeContent, OfSpace, OfRefusal, OfColumn, OfCheck, OfOutcome}
use Rattle.bench_values.specs.declared.given.FaultParts.{FaultParts}
use Rattle.bench_values.specs.declared.given.GivenParts.{GivenParts}
use Rattle.bench_values.specs.declared.given.GivenParts.TheVariants as givens
use Rattle.bench_values.specs.declared.given.SpaceParts.{SpaceParts}
use Rattle.bench_values.specs.declared.given.VerdictParts.{VerdictParts}
use Rattle.bench_values.specs.declared.value.ValueContent.{ValueContent}
use Rattle.bench_values.specs.declared.value.ValueContent.TheVariants as contents

abbrev pub value_content : ValueContent → NodeContent
value_content (contents.Space space) = OfSpace (space_content space)
value_content (contents.Refused refusal) = OfRefusal refusal
value_content (contents.Column column) = OfColumn column
value_content (contents.Check answers) = OfCheck answers.items
value_content (contents.Outcome outcome) = OfOutcome outcome

abbrev pub space_parts : SpaceParts → SpacePartsContent
space_parts p = parts_of p.init.items p.threads.items p.locations.items

abbrev pub verdict_parts : VerdictParts → VerdictPartsContent
verdict_parts p = asked p.condition p.observed.items p.flags.items

abbrev pub fault_parts : FaultParts → FaultPartsContent
fault_parts p = faulted p.condition p.fault

abbrev pub given_content : GivenParts → GivenContent
given_content (givens.Space parts) = ForSpace (space_parts parts)
given_content (givens.Item item) = ForItem (role_shape (shared_role item)) (shared_outputs item)
given_content (givens.Verdict parts) = ForVerdict (verdict_parts parts)
given_content (givens.Fault parts) = ForFault (fault_parts parts)
