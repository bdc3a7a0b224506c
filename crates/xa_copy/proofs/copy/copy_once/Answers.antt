use Rattle.std.proofs.Common.{◌∙◌, sym, true, false}
use Rattle.xa_copy.proofs.Current.{chosen, first_some, second_some}
use Rattle.xa_copy.proofs.Finishing.{copies_chosen}
use Rattle.xa_copy.proofs.copy.copy_once.Goals as goal

pub returns-then-is_first-clause-copies : goal.returns-then-is_first-clause-copies
returns-then-is_first-clause-copies g c h k =
    let it = c.in_ok-copied.ensures in
    let head = c.in_ok-head in
    let other = c.in_ok-other in
    let first = g.S.Source.state c.head_of.new.source in
    let second = g.S.Source.state c.head_of-2.new.source in
    copies_chosen c.args.log_bytes (g.S.Source.state c.args.first.now) first (g.S.Source.state c.copy_file.new.source)
    (g.S.Source.state c.args.second.now) second second (g.D.Disk.seen c.copy_file.new.to) (g.D.Disk.seen c.copy_file.new.to_second)
    c.in_ok-copied.copied true (head.ensures.goes h) (other.ensures.goes h) it.on_first
    (sym c.if-is_first.true ∙ c.is_first.ensures ∙ chosen first.file second.file head.head other.other (head.ensures.head h) (other.ensures.head h) (first_some head.head other.other it.some))
    (it.copies h k (head.ensures.tells h) (head.ensures.head h))

pub returns-clause-copies : goal.returns-clause-copies
returns-clause-copies g c h k =
    let it = c.in_ok-copied-2.ensures in
    let head = c.in_ok-head in
    let other = c.in_ok-other in
    let first = g.S.Source.state c.head_of.new.source in
    let second = g.S.Source.state c.head_of-2.new.source in
    copies_chosen c.args.log_bytes (g.S.Source.state c.args.first.now) first first
    (g.S.Source.state c.args.second.now) second (g.S.Source.state c.copy_file-2.new.source) (g.D.Disk.seen c.copy_file-2.new.to) (g.D.Disk.seen c.copy_file-2.new.to_second)
    c.in_ok-copied-2.copied false (head.ensures.goes h) (other.ensures.goes h) it.on_first
    (sym c.if-is_first.false ∙ c.is_first.ensures ∙ chosen first.file second.file head.head other.other (head.ensures.head h) (other.ensures.head h) (second_some head.head other.other it.some))
    (it.copies h k (other.ensures.tells h) (other.ensures.head h))
