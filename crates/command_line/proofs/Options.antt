-- Options by their names.
use Rattle.std.proofs.Common.{◌≡◌, ℕ, ◌+◌, ◌<◌, List, length, get_or, drop, true, Some, refl, sym, ap, ◌∙◌}
use Rattle.std.proofs.lemmas.List.{at_drop_more}
use Rattle.std.specs.Prelude.{if◌then◌else◌, Bool}
use Rattle.command_line.specs.declared.option.GivenOption.{GivenOption}
use Rattle.command_line.specs.declared.option.OptionName.{OptionName}
use Rattle.command_line.specs.declared.option.OptionName.TheVariants.{Shown, Forbidden, All, Deep, Svg, Tab, Json, Workers, Most, Nth, Poll, Dashes, Unknown}
use Rattle.command_line.specs.Options.{is_same_option, number_given}

is_itself : (name : OptionName) → is_same_option name name ≡ true
is_itself Shown = refl
is_itself Forbidden = refl
is_itself All = refl
is_itself Deep = refl
is_itself Svg = refl
is_itself Tab = refl
is_itself Json = refl
is_itself Workers = refl
is_itself Most = refl
is_itself Nth = refl
is_itself Poll = refl
is_itself Dashes = refl
is_itself Unknown = refl

-- the number of the first option that has the name
pub first_given : (name : OptionName) (options : List GivenOption) (i : ℕ) (o : GivenOption)
    → i < length options → (get_or options i o).name ≡ name
    → number_given name (drop i options) ≡ number_given name options
    → Some (get_or options i o).number ≡ number_given name options
first_given name options i o lt is h =
    let found = get_or options i o in
    let same : is_same_option found.name name ≡ true = ap (λ (n : OptionName). is_same_option n name) is ∙ is_itself name in
    ap (λ (b : Bool). if b then Some found.number else number_given name (drop (i + 1) options)) (sym same)
    ∙ sym (at_drop_more (number_given name) options i o lt) ∙ h
