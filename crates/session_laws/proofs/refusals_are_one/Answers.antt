use Rattle.session_laws.proofs.TextAnswers.{one_why_refusal, one_picture_refusal}
use Rattle.session_laws.proofs.refusals_are_one.Goals as goal

pub returns : goal.returns
returns c =
    record {
      why = λ asked model test. one_why_refusal model test asked;
      draw = λ request model test. one_picture_refusal model test request;
    }
