use Rattle.std.proofs.Common.{◌≡◌, ◌++◌, take}
use Rattle.std.specs.List.{flat_map}
use Rattle.escaped_texts.specs.Elements.{attribute_text}
use Rattle.escaped_texts.proofs.element.put_attributes.Given as goal

abbrev pub invariant-loop-attribute : goal.invariant-loop-attribute
invariant-loop-attribute l =
    l.text.items
    ≡ l.initial.text.items ++ flat_map attribute_text (take l.attribute-index l.attributes)
