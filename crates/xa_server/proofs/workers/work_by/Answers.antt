use Rattle.std.proofs.Common.{◌≡◌, ◌⊎◌, inl, inr, refl, subst, sym, ◌∙◌, ap, List, Err}
use Rattle.std.specs.Prelude.{ℕ, Result, IsErrOf}
use Rattle.xa_history.specs.declared.receipt.Receipt.{Receipt}
use Rattle.xa_room.specs.Believed.Audit.{Audits}
use Rattle.xa_room.specs.Believed.Recorded.{Recorded}
use Rattle.xa_room.specs.declared.auditing.AuditFault.{AuditFault}
use Rattle.xa_room.specs.declared.auditing.AuditFault.TheVariants.{Memory}
use Rattle.xa_server.proofs.workers.work_by.Goals as goal

-- an audit that found memory answers what it is to answer
answered : (answer : Result (Unit {0}) AuditFault) (A : Type 0) → (answer ≡ Err Memory) ⊎ A → (IsErrOf answer Memory → ⊥) → A
answered answer A (inl memory) found = absurd (found memory)
answered answer A (inr audits) found = audits

pub returns-clause-served : goal.returns-clause-served
returns-clause-served g c =
    let served = c.in_ok-looped.ensures.served in
    let report = c.into_report-report.result in
    let room = c.in_ok-looped.room in
    let audits : Audits c.receipts.result.now c.lost.result c.as_slice.result.now report.dropped c.audit-answer.result =
    answered c.audit-answer.result _ c.audit-answer.ensures (c.is_memory.ensures c.if-is_memory.false) in
    record {
      serves = served.0;
      tells = record {
        calls_are = refl;
        dropped_are = refl;
        answer = c.audit-answer.result;
        audits =
            subst (λ (r : Recorded _). Audits r.kept r.lost report.receipts.items report.dropped c.audit-answer.result) (sym served.1)
            (subst (λ (kept : List Receipt). Audits kept room.lost report.receipts.items report.dropped c.audit-answer.result) c.receipts.ensures
            (subst (λ (lost : ℕ). Audits c.receipts.result.now lost report.receipts.items report.dropped c.audit-answer.result) c.lost.ensures
            (subst (λ (told : List Receipt). Audits c.receipts.result.now c.lost.result told report.dropped c.audit-answer.result) c.as_slice.ensures.value audits)));
        found = c.is_ok.ensures.value;
        history_is = c.into_receipts.ensures ∙ ap (λ (r : Recorded _). r.kept) (sym served.1);
      };
    }
