-- The room that the log keeps.
use Rattle.std.proofs.Common.{◌≡◌, ◌+◌, ◌≤◌, true, length, refl, arith}
use Rattle.std.specs.Prelude.{is_some}
use Rattle.xa_model.specs.State.{State, Phase, Working, Prepared, Committed, name_of, known_count}
use Rattle.xa_model.specs.Invariants.Sound.{IsSound, most_known}
use Rattle.xa_model.specs.Logging.{is_in_doubt, prepared_count}
use Rattle.xa_model.proofs.Counts.{count_less}

doubtful_named : (p : Phase) → is_in_doubt p ≡ true → is_some (name_of p) ≡ true
doubtful_named (Working xid work) e = refl
doubtful_named (Prepared xid) e = refl
doubtful_named Committed e = absurd (cc e)

-- prepared branches and those that the operator completed are known ones
pub few_kept : (s : State) → IsSound s → prepared_count s + length s.decided ≤ most_known
few_kept s sound =
    let fewer : prepared_count s ≤ known_count s.branches = count_less (λ b. is_in_doubt b.phase) (λ b. is_some (name_of b.phase)) (λ b e. doubtful_named b.phase e) s.branches in
    let known = sound.known in
    omega arith
