use Rattle.std.proofs.Common.{ap, sym, ◌∙◌, w32, to_z, of_z, to_z-of_z, FitsSigned, rules}
use Rattle.litmus_words.specs.Machine.{value_with}
use Rattle.litmus_words.proofs.Operands.{takes}
use Rattle.litmus_words.proofs.operand.Pending.take.Goals as goal

pub returns : goal.returns
returns c =
    let fits : FitsSigned w32 c.value_with-self.result = search rules in
    let fitted : FitsSigned w32 c.args.self.now.value = search rules in
    takes c.args.self.now.opcode c.args.self.now.read_count c.saturating_add-self.result
    c.args.self.now.registers.items c.keep_register.new.registers.items c.args.self.now.value
    (to_z w32 (of_z w32 c.value_with-self.result)) c.in-Some.want c.args.token.now
    (sym c.want.ensures ∙ c.in-Some.is) c.saturating_add-self.ensures
    (sym c.fits.ensures ∙ c.if-not-fits.false) c.in_ok-keep_register.ensures
    (to_z-of_z fits ∙ c.value_with-self.ensures
    ∙ ap (value_with c.args.token.now) (to_z-of_z fitted))
