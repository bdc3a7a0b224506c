use Rattle.std.proofs.Common.{ℕ, ◌≡◌, ◌+◌, ◌≤◌, length}
use Rattle.std.specs.Prelude.{sum_by}
use Rattle.xa_handles.specs.Mail.{Mailed, slot_weight}
use Rattle.xa_handles.proofs.mail.put_all.Given as goal

abbrev pub invariant-loop-slot : goal.invariant-loop-slot
invariant-loop-slot g l = record {
  less : length l.letters.items ≤ length l.initial.letters.items;
  weighs : (weigh : Mailed → ℕ) → sum_by (slot_weight weigh) l.letters.items + sum_by (λ t. sum_by weigh t) l.trays
      ≡ sum_by (slot_weight weigh) l.initial.letters.items + sum_by (λ t. sum_by weigh t) l.initial.trays;
}

abbrev pub decreases-loop-slot : goal.decreases-loop-slot
decreases-loop-slot g l = length l.letters.items
