use Rattle.std.proofs.Common.{inl, refl, List, ℕ}
use Rattle.xa_log.specs.LogFields.{shown}
use Rattle.xa_log.specs.Believed.LogView.{LogView}
use Rattle.xa_log.specs.Written.{HasWritten}
use Rattle.xa_log.proofs.Room.{keeps_refilled}
use Rattle.xa_log.proofs.Settled.{Settles, left, less, long, passed, within, settled_kept, settled_refused, settled_lost}
use Rattle.xa_log.proofs.Viewed.{of_fields}
use Rattle.xa_log.proofs.log.Log.settle.Goals as goal
use Rattle.xa_log.proofs.log.Log.settle.Goals.{After-settle_at-outcome}

module _ (g : _) (c : goal.After-settle_at-outcome g) (before : LogView g.row.D.Denot) (group : List (List ℕ))
    (was : HasWritten g.D.Disk group c.args.written before c.args.self.now) where
  written : HasWritten g.D.Disk group c.args.written before (shown c.self.inside)
  written = of_fields (λ l. HasWritten g.D.Disk group c.args.written before l) c.self.view_is was

  settles : Settles g.D.Disk group before (shown c.self.inside) c.settle_at-outcome.result c.settle_at-outcome.new.disk
  settles =
      let log = shown c.self.inside in
      let settled = c.settle_at-outcome.ensures in
      record {
        not_full = settled.not_full;
        went = λ honest.
            settled.went honest before.disk _ _ (long g.D.Disk group c.args.written before log written) (less g.D.Disk group c.args.written before log written)
            (left g.D.Disk group c.args.written before log written honest);
        time = λ honest.
            settled.time honest before.disk _ (within g.D.Disk group c.args.written before log written)
            (passed g.D.Disk group c.args.written before log written honest);
        calls = settled.calls before.disk _ written.calls;
      }

pub returns-in-Kept-clause-group : goal.returns-in-Kept-clause-group
returns-in-Kept-clause-group g c before group was =
    let at = (goal.at.returns-in-Kept-clause-group g c).After-settle_at-outcome in
    settled_kept g.D.Disk g.met.D.Disk.tears_torn g.met.D.Disk.only_now group c.args.written before (shown c.self.inside) _ (written g at before group was) _
    (settles g at before group was) refl (keeps_refilled (shown c.self.inside) c.self.inside.buffer c.settle_at-outcome.new.bytes refl)
    c.in-Kept.is refl refl refl refl c.max-self-inside.ensures

pub returns-in-Refused-clause-group : goal.returns-in-Refused-clause-group
returns-in-Refused-clause-group g c before group was =
    let at = (goal.at.returns-in-Refused-clause-group g c).After-settle_at-outcome in
    settled_refused g.D.Disk g.met.D.Disk.tears_torn g.met.D.Disk.only_now group c.args.written before (shown c.self.inside) _ (written g at before group was) _
    (settles g at before group was) refl (keeps_refilled (shown c.self.inside) c.self.inside.buffer c.settle_at-outcome.new.bytes refl)
    refl refl refl refl (inl c.in-Refused.is) refl

pub returns-in-Lost-clause-group : goal.returns-in-Lost-clause-group
returns-in-Lost-clause-group g c before group was =
    let at = (goal.at.returns-in-Lost-clause-group g c).After-settle_at-outcome in
    settled_lost g.D.Disk g.met.D.Disk.tears_torn g.met.D.Disk.only_now group c.args.written before (shown c.self.inside) _ (written g at before group was) _
    (settles g at before group was) refl (keeps_refilled (shown c.self.inside) c.self.inside.buffer c.settle_at-outcome.new.bytes refl)
    refl refl refl refl c.in-Lost.is (written g at before group was).lost
