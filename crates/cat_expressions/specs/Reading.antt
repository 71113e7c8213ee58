-- What the reader holds of an expression, as the machine sees it.
use Rattle.std.specs.Prelude.{ℕ, List, [], ◌∷◌, Bool, true, false, map, nat_le}
use Rattle.cat_expressions.specs.declared.frames.Frame as code_frame
use Rattle.cat_expressions.specs.declared.frames.Frame.TheVariants as frames
use Rattle.cat_expressions.specs.declared.frames.Expectation as code_expectation
use Rattle.cat_expressions.specs.declared.frames.Expectation.TheVariants as expectations
use Rattle.text_values.specs.ModelValues.{term_of}
use Rattle.cat_grammar.specs.Grammar.{infix_level}
use Rattle.cat_grammar.specs.Machine as machine

abbrev pub frame_of : code_frame.Frame → machine.TermFrame
frame_of frames.Group = machine.InGroup
frame_of frames.Square = machine.InSquare
frame_of frames.Prefix = machine.InPrefix
frame_of (frames.Left op a) = machine.LeftOf op (term_of a)
frame_of (frames.Applied n args) = machine.InArguments n (map term_of args.items)

-- the frames, the innermost first
abbrev pub stacked : List code_frame.Frame → List machine.TermFrame → List machine.TermFrame
stacked [] below = below
stacked (f ∷ fs) below = stacked fs (frame_of f ∷ below)

abbrev pub term_stack_of : List code_frame.Frame → List machine.TermFrame
term_stack_of fs = stacked fs []

abbrev pub term_expectation_of : code_expectation.Expectation → machine.TermExpectation
term_expectation_of expectations.Wants = machine.Wants
term_expectation_of expectations.Brace = machine.HasBrace
term_expectation_of (expectations.Named n) = machine.HasName n
term_expectation_of (expectations.Has a) = machine.Has (term_of a)
term_expectation_of (expectations.HasStar a) = machine.HasStar (term_of a)
term_expectation_of (expectations.HasStarTilde a) = machine.HasStarTilde (term_of a)

abbrev pub is_open : code_frame.Frame → Bool
is_open frames.Group = true
is_open frames.Square = true
is_open frames.Prefix = true
is_open (frames.Left op a) = false
is_open (frames.Applied n args) = true

abbrev pub is_square : code_frame.Frame → Bool
is_square frames.Group = false
is_square frames.Square = true
is_square frames.Prefix = false
is_square (frames.Left op a) = false
is_square (frames.Applied n args) = false

abbrev pub is_no_bracket : code_frame.Frame → Bool
is_no_bracket frames.Group = false
is_no_bracket frames.Square = false
is_no_bracket frames.Prefix = true
is_no_bracket (frames.Left op a) = true
is_no_bracket (frames.Applied n args) = false

-- the innermost frame takes an operand that binds at least this tightly
abbrev pub takes_operand : ℕ → List machine.TermFrame → Bool
takes_operand l [] = false
takes_operand l (machine.InGroup ∷ fs) = false
takes_operand l (machine.InSquare ∷ fs) = false
takes_operand l (machine.InPrefix ∷ fs) = true
takes_operand l (machine.LeftOf op a ∷ fs) = nat_le l (infix_level op)
takes_operand l (machine.InArguments n args ∷ fs) = false
