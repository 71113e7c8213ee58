-- What is drawn of two texts.
use Rattle.std.proofs.Common.{ℕ, List, Bool, Result, Ok, Err, IfOk, IfErr, sym, subst}
use Rattle.std.specs.declared.alloc.AllocError.{AllocError}
use Rattle.std.specs.declared.alloc.Global.{Global}
use Rattle.std.specs.declared.vec.Vec.{Vec}
use Rattle.why_forbidden.specs.declared.drawing.DrawRequest.{DrawRequest}
use Rattle.command_answers.specs.declared.fault.EvalFault.{EvalFault}
use Rattle.command_answers.specs.declared.stream.Answer.{Answer}
use Rattle.command_answers.specs.Answer.{IsEvalRefusal, IsSaidOf}
use Rattle.command_answers.specs.Pictures.{IsPictureOf, IsPictureAnswer}
use Rattle.command_answers.proofs.Answering.{refused_so}

-- what is said of a report of drawings is what `draw` answers
pub pictured : (r : Result Answer AllocError) (report : Result (Vec ℕ Global) EvalFault)
    (request : DrawRequest) (model test : List ℕ)
    → IfOk report (λ text. IsPictureOf request model test text.items)
    → IfErr report (IsEvalRefusal model test)
    → IfOk r (λ a. IsSaidOf report a.text.items a.is_refused)
    → IfOk r (λ a. IsPictureAnswer request model test a.text.items a.is_refused)
pictured (Ok a) (Ok v) request model test picture refusal said =
    subst (λ (b : Bool). IsPictureAnswer request model test a.text.items b) (sym said.1)
    (subst (λ (l : List ℕ). IsPictureOf request model test l) (sym said.0) picture)
pictured (Ok a) (Err e) request model test picture refusal said =
    let h = refused_so a.text.items a.is_refused model test e refusal said in
    subst (λ (b : Bool). IsPictureAnswer request model test a.text.items b) (sym h.0) h.1
pictured (Err f) report request model test picture refusal said = tt
