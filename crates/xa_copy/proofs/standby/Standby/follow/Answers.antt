use Rattle.std.proofs.Common.{◌∙◌, inl, inr, sym, true, false}
use Rattle.xa_copy.proofs.Current.{chosen, first_some, second_some}
use Rattle.xa_copy.proofs.Following.{goes_stay}
use Rattle.xa_copy.proofs.Rounds.{beside_still, beside_swap, follows_chosen}
use Rattle.xa_copy.proofs.Standing.{on_err, standby_on}
use Rattle.xa_copy.proofs.Finishing.{goes_chosen}
use Rattle.xa_copy.proofs.standby.Standby.follow.Goals as goal

pub returns-in_err-head-clause-stays : goal.returns-in_err-head-clause-stays
returns-in_err-head-clause-stays g c h k bodies stood s =
    let second = g.S.Source.state c.args.second.now in
    on_err c.from_residual.result _
    (beside_still g.D.Disk bodies stood (g.S.Source.state c.args.first.now) (g.S.Source.state c.head_of.new.source) second second c.args.self.now s
    (c.head_of.ensures.goes h) (goes_stay second))

pub returns-in_err-other-clause-stays : goal.returns-in_err-other-clause-stays
returns-in_err-other-clause-stays g c h k bodies stood s =
    on_err c.from_residual-in_err-other.result _
    (beside_still g.D.Disk bodies stood (g.S.Source.state c.args.first.now) (g.S.Source.state c.head_of.new.source)
    (g.S.Source.state c.args.second.now) (g.S.Source.state c.head_of-2.new.source) c.args.self.now s
    (c.head_of.ensures.goes h) (c.head_of-2.ensures.goes h))

pub returns-in_err-is_anew-clause-stays : goal.returns-in_err-is_anew-clause-stays
returns-in_err-is_anew-clause-stays g c h k bodies stood s =
    let first = g.S.Source.state c.args.first.now in
    let first_then = g.S.Source.state c.head_of.new.source in
    let second = g.S.Source.state c.args.second.now in
    let second_then = g.S.Source.state c.head_of-2.new.source in
    let b = c.args.self.now.copied.on_first in
    let then = standby_on g.D.Disk bodies stood _ _ c.args.self.now s
    (goes_chosen b first first_then second second_then (c.in_ok-head.ensures.goes h) (c.in_ok-other.ensures.goes h)) in
    on_err c.from_residual-in_err-is_anew.result _
    (c.in_err-is_anew.ensures.stays h k (c.in_ok-head.ensures.tells h) (c.in_ok-head.ensures.head h) bodies stood second_then then)

pub returns-then-is_first-clause-follows : goal.returns-then-is_first-clause-follows
returns-then-is_first-clause-follows g c h k bodies stood s =
    let first = g.S.Source.state c.args.first.now in
    let first_then = g.S.Source.state c.head_of.new.source in
    let second = g.S.Source.state c.args.second.now in
    let second_then = g.S.Source.state c.head_of-2.new.source in
    let b = c.args.self.now.copied.on_first in
    let then = standby_on g.D.Disk bodies stood _ _ c.args.self.now s
    (goes_chosen b first first_then second second_then (c.in_ok-head.ensures.goes h) (c.in_ok-other.ensures.goes h)) in
    let it = c.in_ok-is_anew.ensures in
    let head = c.in_ok-head in
    let other = c.in_ok-other in
    follows_chosen g.D.Disk first first_then (g.S.Source.state c.follow_file.new.source) second second_then second_then bodies c.follow_file.new.self c.followed.result
    true c.in_ok-is_anew.is_anew c.args.self.now.copied.records (head.ensures.goes h) (other.ensures.goes h) it.on_first
    (sym c.if-is_first.true ∙ c.is_first.ensures ∙ chosen first_then.file second_then.file head.head other.other (head.ensures.head h) (other.ensures.head h) (first_some head.head other.other it.some))
    (it.follows h k (head.ensures.tells h) (head.ensures.head h) bodies stood second_then then) s.marks.records
    c.followed.ensures.records c.followed.ensures.is_anew c.followed.ensures.end c.followed.ensures.number

pub returns-in_err-is_anew-2-clause-stays : goal.returns-in_err-is_anew-2-clause-stays
returns-in_err-is_anew-2-clause-stays g c h k bodies stood s =
    let first = g.S.Source.state c.args.first.now in
    let first_then = g.S.Source.state c.head_of.new.source in
    let second = g.S.Source.state c.args.second.now in
    let second_then = g.S.Source.state c.head_of-2.new.source in
    let b = c.args.self.now.copied.on_first in
    let then = standby_on g.D.Disk bodies stood _ _ c.args.self.now s
    (goes_chosen b first first_then second second_then (c.in_ok-head.ensures.goes h) (c.in_ok-other.ensures.goes h)) in
    on_err c.from_residual-in_err-is_anew-2.result _
    (beside_swap g.D.Disk bodies (g.S.Source.state c.follow_file-2.new.source) first_then c.follow_file-2.new.self
    (c.in_err-is_anew-2.ensures.stays h k (c.in_ok-other.ensures.tells h) (c.in_ok-other.ensures.head h) bodies stood first_then then))

pub returns-clause-follows : goal.returns-clause-follows
returns-clause-follows g c h k bodies stood s =
    let first = g.S.Source.state c.args.first.now in
    let first_then = g.S.Source.state c.head_of.new.source in
    let second = g.S.Source.state c.args.second.now in
    let second_then = g.S.Source.state c.head_of-2.new.source in
    let b = c.args.self.now.copied.on_first in
    let then = standby_on g.D.Disk bodies stood _ _ c.args.self.now s
    (goes_chosen b first first_then second second_then (c.in_ok-head.ensures.goes h) (c.in_ok-other.ensures.goes h)) in
    let it = c.in_ok-is_anew-2.ensures in
    let head = c.in_ok-head in
    let other = c.in_ok-other in
    follows_chosen g.D.Disk first first_then first_then second second_then (g.S.Source.state c.follow_file-2.new.source) bodies c.follow_file-2.new.self c.followed-2.result
    false c.in_ok-is_anew-2.is_anew c.args.self.now.copied.records (head.ensures.goes h) (other.ensures.goes h) it.on_first
    (sym c.if-is_first.false ∙ c.is_first.ensures ∙ chosen first_then.file second_then.file head.head other.other (head.ensures.head h) (other.ensures.head h) (second_some head.head other.other it.some))
    (it.follows h k (other.ensures.tells h) (other.ensures.head h) bodies stood first_then then) s.marks.records
    c.followed-2.ensures.records c.followed-2.ensures.is_anew c.followed-2.ensures.end c.followed-2.ensures.number

pub returns-in_err-is_anew-clause-any_moment : goal.returns-in_err-is_anew-clause-any_moment
returns-in_err-is_anew-clause-any_moment g c h k bodies stood s =
    let first = g.S.Source.state c.args.first.now in
    let first_then = g.S.Source.state c.head_of.new.source in
    let second = g.S.Source.state c.args.second.now in
    let second_then = g.S.Source.state c.head_of-2.new.source in
    let b = c.args.self.now.copied.on_first in
    let then = standby_on g.D.Disk bodies stood _ _ c.args.self.now s
    (goes_chosen b first first_then second second_then (c.in_ok-head.ensures.goes h) (c.in_ok-other.ensures.goes h)) in
    inl (c.follow_file.ensures.any_moment h k (c.in_ok-head.ensures.tells h) (c.in_ok-head.ensures.head h) bodies stood second_then then)

pub returns-then-is_first-clause-any_moment : goal.returns-then-is_first-clause-any_moment
returns-then-is_first-clause-any_moment g c h k bodies stood s =
    let first = g.S.Source.state c.args.first.now in
    let first_then = g.S.Source.state c.head_of.new.source in
    let second = g.S.Source.state c.args.second.now in
    let second_then = g.S.Source.state c.head_of-2.new.source in
    let b = c.args.self.now.copied.on_first in
    let then = standby_on g.D.Disk bodies stood _ _ c.args.self.now s
    (goes_chosen b first first_then second second_then (c.in_ok-head.ensures.goes h) (c.in_ok-other.ensures.goes h)) in
    inl (c.follow_file.ensures.any_moment h k (c.in_ok-head.ensures.tells h) (c.in_ok-head.ensures.head h) bodies stood second_then then)

pub returns-in_err-is_anew-2-clause-any_moment : goal.returns-in_err-is_anew-2-clause-any_moment
returns-in_err-is_anew-2-clause-any_moment g c h k bodies stood s =
    let first = g.S.Source.state c.args.first.now in
    let first_then = g.S.Source.state c.head_of.new.source in
    let second = g.S.Source.state c.args.second.now in
    let second_then = g.S.Source.state c.head_of-2.new.source in
    let b = c.args.self.now.copied.on_first in
    let then = standby_on g.D.Disk bodies stood _ _ c.args.self.now s
    (goes_chosen b first first_then second second_then (c.in_ok-head.ensures.goes h) (c.in_ok-other.ensures.goes h)) in
    inr (c.follow_file-2.ensures.any_moment h k (c.in_ok-other.ensures.tells h) (c.in_ok-other.ensures.head h) bodies stood first_then then)

pub returns-clause-any_moment : goal.returns-clause-any_moment
returns-clause-any_moment g c h k bodies stood s =
    let first = g.S.Source.state c.args.first.now in
    let first_then = g.S.Source.state c.head_of.new.source in
    let second = g.S.Source.state c.args.second.now in
    let second_then = g.S.Source.state c.head_of-2.new.source in
    let b = c.args.self.now.copied.on_first in
    let then = standby_on g.D.Disk bodies stood _ _ c.args.self.now s
    (goes_chosen b first first_then second second_then (c.in_ok-head.ensures.goes h) (c.in_ok-other.ensures.goes h)) in
    inr (c.follow_file-2.ensures.any_moment h k (c.in_ok-other.ensures.tells h) (c.in_ok-other.ensures.head h) bodies stood first_then then)
