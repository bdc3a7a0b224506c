use Rattle.xa_log.proofs.chaining.next_record.Goals as goal

pub returns-clause-finds : goal.returns-clause-finds
returns-clause-finds g c h long caches =
    c.found_in.ensures.finds c.args.format c.args.prev.now (g.D.Disk.seen c.args.disk.now) c.next_at.new.window c.args.at (c.in_ok-next.ensures.stands h long caches)

pub returns-clause-fetched : goal.returns-clause-fetched
returns-clause-fetched g c start most f r =
    c.found_in.ensures.fetched c.args.len most start (g.D.Disk.counts c.next_at.new.disk) (c.in_ok-next.ensures.fetched start most f r)
