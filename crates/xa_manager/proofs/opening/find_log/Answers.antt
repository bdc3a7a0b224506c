use Rattle.std.proofs.Common.{◌≡◌, ◌∙◌, ap, sym, subst, length, arith}
use Rattle.xa_manager.specs.Believed.Opening.{LogRefused}
use Rattle.xa_manager.proofs.Findings.{finding_read, finding_made, read_refused, handed_on}
use Rattle.xa_manager.proofs.opening.find_log.Goals as goal
use Rattle.xa_manager.proofs.opening.find_log.Goals.{else-len-eq0-via-then-len-eq0+else-other_len-eq0, else-len-eq0-via-else-len-eq0}

pub returns-in_err-opened-clause-leaves : goal.returns-in_err-opened-clause-leaves
returns-in_err-opened-clause-leaves g c = λ h.
    finding_made g.D.Disk _ _ _ _ _ _ (c.length.ensures.same h) (c.length.ensures.time h) (c.length-2.ensures.same h) (c.length-2.ensures.time h)
    (omega (arith, c.in_ok-len.ensures.value h, c.if-len-eq0.true)) (omega (arith, c.in_ok-other_len.ensures.value h, c.if-other_len-eq0.true))
    (c.create_on.ensures.torn h) (c.create_on.ensures.time h) (c.create_on.ensures.same_second h) (c.create_on.ensures.time_second h) (c.create_on.ensures.second_first h)

pub returns-then-other_len-eq0-clause-leaves : goal.returns-then-other_len-eq0-clause-leaves
returns-then-other_len-eq0-clause-leaves g c = λ h.
    finding_made g.D.Disk _ _ _ _ _ _ (c.length.ensures.same h) (c.length.ensures.time h) (c.length-2.ensures.same h) (c.length-2.ensures.time h)
    (omega (arith, c.in_ok-len.ensures.value h, c.if-len-eq0.true)) (omega (arith, c.in_ok-other_len.ensures.value h, c.if-other_len-eq0.true))
    (c.create_on.ensures.torn h) (c.create_on.ensures.time h) (c.create_on.ensures.same_second h) (c.create_on.ensures.time_second h) (c.create_on.ensures.second_first h)

pub returns-in_err-opened-2-clause-refused : goal.returns-in_err-opened-2-clause-refused
returns-in_err-opened-2-clause-refused g c = λ h.
    let some : length (g.D.Disk.seen c.args.first.now) ≡ 0 → length (g.D.Disk.seen c.args.second.now) ≡ 0 → ⊥ = elim c.else-len-eq0.branch [
      | else-len-eq0-via-then-len-eq0+else-other_len-eq0 w ↦ λ a b. omega (arith, c.in_ok-other_len.ensures.value h, ap length (c.length.ensures.same h), w.if-other_len-eq0.false, b)
      | else-len-eq0-via-else-len-eq0 w ↦ λ a b. omega (arith, c.in_ok-len.ensures.value h, w.if-len-eq0.false, a)
    ] in
    handed_on c.from_residual-in_err-opened-2.result c.in_err-opened-2.field-0.0 _ c.from_residual-in_err-opened-2.ensures.1
    (subst (λ b. LogRefused c.in_err-opened-2.field-0.0 c.args.log_bytes (g.D.Disk.seen c.args.first.now) b) (c.length-2.ensures.same h)
    (subst (λ a. LogRefused c.in_err-opened-2.field-0.0 c.args.log_bytes a (g.D.Disk.seen c.length-2.new.self)) (c.length.ensures.same h)
    (read_refused c.in_err-opened-2.field-0.0 c.args.log_bytes (g.D.Disk.seen c.length.new.self) (g.D.Disk.seen c.length-2.new.self) (c.in_err-opened-2.ensures.value h)
    (λ a b. some (ap length (sym (c.length.ensures.same h)) ∙ a) (ap length (sym (c.length-2.ensures.same h)) ∙ b)))))

pub returns-in_err-opened-2-clause-leaves : goal.returns-in_err-opened-2-clause-leaves
returns-in_err-opened-2-clause-leaves g c = λ h.
    finding_read g.D.Disk _ _ _ _ _ _ (c.length.ensures.same h) (c.length.ensures.time h) (c.length-2.ensures.same h) (c.length-2.ensures.time h)
    (c.open_on.ensures.same h) (c.open_on.ensures.time h) (c.open_on.ensures.same_second h) (c.open_on.ensures.time_second h)

pub returns-then-other_len-eq0-clause-made_of : goal.returns-then-other_len-eq0-clause-made_of
returns-then-other_len-eq0-clause-made_of g c = λ h new.
    let empty = c.in_ok-opened.ensures.empty h in
    (sym (c.length.ensures.same h) ∙ empty.0, sym (c.length-2.ensures.same h) ∙ empty.1)
