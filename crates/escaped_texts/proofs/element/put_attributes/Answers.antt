use Rattle.std.proofs.Common.{◌<◌, length, arith}
use Rattle.escaped_texts.specs.Elements.{attribute_text}
use Rattle.escaped_texts.proofs.Loops.{printed_more, printed_all}
use Rattle.escaped_texts.proofs.element.put_attributes.Goals as goal

pub loop-attribute-preserved : goal.loop-attribute-preserved
loop-attribute-preserved c =
    let inside : c.loop-attribute.attribute-index < length c.args.attributes.now = omega (arith, c.loop-attribute-test.true) in
    printed_more attribute_text _ _ _ c.args.attributes.now c.loop-attribute.attribute-index
    c.attribute-item.result inside c.attribute-item.is c.loop-attribute.invariant
    c.in_ok-put_given.ensures

pub returns : goal.returns
returns c =
    printed_all attribute_text _ _ c.args.attributes.now c.loop-attribute.attribute-index
    (omega (arith, c.loop-attribute-test.false)) c.loop-attribute.invariant
