use Rattle.std.proofs.Common.{◌≡◌, ◌-◌, ◌<◌, true, ◌⊎◌, inl, inr, arith}
use Rattle.std.proofs.lemmas.Bool.Decides.{nat_tests}
use Rattle.mv_chain.proofs.Looked.{target_late, target_decided, target_own, target_new}
use Rattle.mv_chain.proofs.changes.target_of.Goals as goal
use Rattle.mv_chain.proofs.changes.target_of.Goals.{then-late-via-then-late, then-late-via-else-late+then-count-versions, then-count-eq0-via-then-count-eq0, then-count-eq0-via-else-count-eq0+then-from-at}

pub returns-then-late-clause-slot : goal.returns-then-late-clause-slot
returns-then-late-clause-slot c = λ ts shown h e is.
    let look = c.args.look.now in
    let refused : (look.late ≡ true) ⊎ (c.args.versions < look.count) = elim c.then-late.branch [
      | then-late-via-then-late w ↦ inl w.if-late.true
      | then-late-via-else-late+then-count-versions w ↦ inr (omega (arith, w.if-count-versions.true))
    ] in
    target_late ts shown h look is c.args.versions e refused

pub returns-then-count-eq0-clause-slot : goal.returns-then-count-eq0-clause-slot
returns-then-count-eq0-clause-slot c = λ ts shown h e is.
    let look = c.args.look.now in
    let other : (look.count ≡ 0) ⊎ (look.from ≡ look.at → ⊥) = elim c.then-count-eq0.branch [
      | then-count-eq0-via-then-count-eq0 w ↦ inl (omega (arith, w.if-count-eq0.true))
      | then-count-eq0-via-else-count-eq0+then-from-at w ↦ inr (λ same. grind (arith, nat_tests, w.if-from-at.true, same))
    ] in
    target_new ts shown h look is c.args.versions e (omega (arith, c.if-count-versions.false)) c.if-late.false other

pub returns-then-pending-clause-slot : goal.returns-then-pending-clause-slot
returns-then-pending-clause-slot c = λ ts shown h e is.
    let look = c.args.look.now in
    target_own ts shown h look is (look.count - 1) (omega (arith, c.if-count-eq0.false)) (grind (arith, nat_tests, c.if-from-at.false)) c.if-pending.true c.if-late.false

pub returns-else-pending-clause-slot : goal.returns-else-pending-clause-slot
returns-else-pending-clause-slot c = λ ts shown h e is.
    let look = c.args.look.now in
    target_decided ts shown h look is (look.count - 1) (omega (arith, c.if-count-eq0.false)) (grind (arith, nat_tests, c.if-from-at.false)) c.if-pending.false
