use Rattle.std.proofs.Common.{List, ℕ, sym, ap, ◌∙◌, arith}
use Rattle.std.specs.Prelude.{Vec}
use Rattle.std.specs.declared.alloc.Global.{Global}
use Rattle.xa_log.specs.Believed.Pair.{generation}
use Rattle.xa_log.specs.Reading.{bodies_of}
use Rattle.xa_log.proofs.Absent.{found_new, found_no_second, found_second}
use Rattle.xa_log.proofs.opened.Opened.missing.Goals as goal

pub returns-then-self-gt0 : goal.returns-then-self-gt0
returns-then-self-gt0 c = λ first second found. sym (found_second first second c.args.self.now found c.if-not-self.false (omega (arith, c.if-self-gt0.true)))

pub returns-then-generation_of_bodies-gt1 : goal.returns-then-generation_of_bodies-gt1
returns-then-generation_of_bodies-gt1 c = λ first second found.
    let number = c.generation_of_bodies.ensures ∙ ap (λ (l : List (Vec ℕ Global)). generation (bodies_of l)) c.deref.ensures.value in
    sym (found_no_second first second c.args.self.now found c.if-not-self.false (omega (arith, c.if-self-gt0.false)) (omega (arith, c.if-generation_of_bodies-gt1.true, number)))

pub returns : goal.returns
returns c = λ first second found.
    let number = c.generation_of_bodies.ensures ∙ ap (λ (l : List (Vec ℕ Global)). generation (bodies_of l)) c.deref.ensures.value in
    sym (found_new first second c.args.self.now found c.if-not-self.false (omega (arith, c.if-self-gt0.false)) (omega (arith, c.if-generation_of_bodies-gt1.false, number)))
