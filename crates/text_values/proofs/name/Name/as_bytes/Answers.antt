use Rattle.std.proofs.Common.{ap, sym, ◌∙◌, ℕ, Vec, Global}
use Rattle.text_values.specs.Names.{name_bytes}
use Rattle.text_values.proofs.name.Name.as_bytes.Goals as goal

pub returns-in-Short : goal.returns-in-Short
returns-in-Short c = sym (ap name_bytes c.in-Short.is) ∙ c.self.view_is

pub returns-in-Long : goal.returns-in-Long
returns-in-Long c =
    c.as_slice.ensures.value ∙ ap (λ (v : Vec ℕ Global). v.items) c.deref.ensures
    ∙ sym (ap name_bytes c.in-Long.is) ∙ c.self.view_is
