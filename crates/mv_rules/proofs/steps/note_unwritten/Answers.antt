use Rattle.std.proofs.Common.{◌≡◌, ◌∙◌, true, sym, ap}
use Rattle.std.specs.Prelude.{◌-◌}
use Rattle.mv_chain.specs.Idle.{is_idle}
use Rattle.mv_chain.specs.Pool.{versions_of}
use Rattle.mv_chain.proofs.Frames.{then_ok}
use Rattle.mv_rules.proofs.steps.note_unwritten.Goals as goal

pub returns-clause-noted : goal.returns-clause-noted
returns-clause-noted c =
    then_ok c.note_read.result c.note_read.ensures.noted
    (λ noted. record {
      unknown = λ idle. rw c.in_ok-from_slice.ensures.key at noted;
      known = λ busy.
          let versions = versions_of c.args.pool.now c.args.chain.now in
          let idle : is_idle (c.args.ts - 1) versions ≡ true = ap (λ m. is_idle m versions) (sym c.saturating_sub.ensures) ∙ (sym c.is_idle.ensures ∙ c.if-not-is_idle.false) in
          absurd (cc (idle, busy));
    })
