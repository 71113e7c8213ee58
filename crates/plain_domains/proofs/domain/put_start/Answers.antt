use Rattle.std.proofs.Common.{◌≡◌, List, ap, subst, ◌∙◌}
use Rattle.text_values.specs.declared.test.Place.TheVariants as places
use Rattle.text_values.specs.declared.test.InitEntry.{InitEntry}
use Rattle.meaning.specs.Machine as machine
use Rattle.meaning.specs.Runs.{value_given}
use Rattle.plain_domains.specs.Domains.{Adds}
use Rattle.plain_domains.proofs.domain.put_start.Goals as goal

pub returns : goal.returns
returns c =
    subst (λ (w : machine.Value). Adds (λ v. w ≡ v) c.args.values.now.items c.put_value.new.values.items)
    (c.initial_value-value.ensures ∙ ap (λ (es : List InitEntry). value_given es (machine.Number 0) (places.Location c.args.location.now)) c.deref.ensures.value)
    c.in_ok-put_value.ensures
