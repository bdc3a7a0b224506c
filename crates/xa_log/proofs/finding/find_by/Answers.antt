use Rattle.std.proofs.Common.{◌≡◌, ◌∙◌, List, ℕ, ap, length, subst, sym, true, Some}
use Rattle.std.proofs.lemmas.Bool.{or_left, or_right}
use Rattle.xa_log.specs.Looking.{AreShort, IsCurrent, IsHead, either_log}
use Rattle.xa_log.specs.Believed.Damage.{is_headless}
use Rattle.xa_log.proofs.Both.{count_on}
use Rattle.xa_log.proofs.Choosing.{fault_is, headless_log}
use Rattle.xa_log.proofs.Looks.{handed_on}
use Rattle.xa_log.proofs.Told.{current_read, first_lost, second_lost, told_fault}
use Rattle.xa_log.proofs.Torn.{same_then}
use Rattle.xa_log.proofs.finding.find_by.Goals as goal
use Rattle.xa_log.proofs.finding.find_by.Goals.{In_ok-lens, In_ok-read}

-- two files that weren't measured, or whose beginnings weren't read
pub returns-in_err-lens-clause-value : goal.returns-in_err-lens-clause-value
returns-in_err-lens-clause-value g c h = handed_on _ _ c.from_residual.result _ c.from_residual.ensures (c.in_err-lens.ensures.fault h)

-- neither is too long
short : (g : _) (c : In_ok-lens g) → g.D.Disk.honest → AreShort c.args.log_bytes (g.D.Disk.seen c.args.first.now) (g.D.Disk.seen c.args.second.now) c.in_ok-lens.lens.0 c.in_ok-lens.lens.1
short g c h =
    let one = c.in_ok-lens.ensures.first in
    let two = c.in_ok-lens.ensures.second in
    record { first_is = one.whole h; second_is = two.whole h; first_fits = one.fits; second_fits = two.fits }

pub returns-then-has_lost_first-clause-value : goal.returns-then-has_lost_first-clause-value
returns-then-has_lost_first-clause-value g c h =
    let a = g.D.Disk.seen c.args.first.now in
    ap Some c.first_record.ensures
    ∙ first_lost a (g.D.Disk.seen c.args.second.now) (sym (c.has_lost_first.ensures a c.read_both.new.window (c.in_ok-lens.ensures.first.begins h)) ∙ c.if-has_lost_first.true)

pub returns-then-has_lost_first-2-clause-value : goal.returns-then-has_lost_first-2-clause-value
returns-then-has_lost_first-2-clause-value g c h =
    let one = g.D.Disk.seen c.args.first.now in
    let two = g.D.Disk.seen c.args.second.now in
    ap Some c.first_record-then-has_lost_first-2.ensures
    ∙ second_lost one two (sym (c.has_lost_first.ensures one c.read_both.new.window (c.in_ok-lens.ensures.first.begins h)) ∙ c.if-has_lost_first.false)
    (sym (c.has_lost_first-2.ensures two c.read_both.new.other_window (c.in_ok-lens.ensures.second.begins h)) ∙ c.if-has_lost_first-2.true)

-- what was found of the two files
found : (g : _) (c : In_ok-read g) → g.D.Disk.honest → (either_log (g.D.Disk.seen c.args.first.now) (g.D.Disk.seen c.args.second.now) ≡ true)
    × IsCurrent (g.D.Disk.seen c.args.first.now) (g.D.Disk.seen c.args.second.now) c.in_ok-read.read.0 c.in_ok-read.read.1
found g c h =
    let seen = g.D.Disk.seen in
    let both = c.in_ok-lens.ensures in
    subst (λ (t : List ℕ). (either_log (seen c.args.first.now) t ≡ true) × IsCurrent (seen c.args.first.now) t c.in_ok-read.read.0 c.in_ok-read.read.1) (both.same_second h)
    (subst (λ (s : List ℕ). (either_log s (seen c.read_both.new.second) ≡ true) × IsCurrent s (seen c.read_both.new.second) c.in_ok-read.read.0 c.in_ok-read.read.1) (both.same h)
    (c.in_ok-read.ensures.value h (both.first.whole h ∙ ap (λ (s : List ℕ). length s) (sym (both.same h))) (both.second.whole h ∙ ap (λ (s : List ℕ). length s) (sym (both.same_second h)))
    (subst (λ (s : List ℕ). IsHead s c.read_both.new.window c.in_ok-lens.heads.0) (sym (both.same h)) (both.first.begins h))
    (subst (λ (s : List ℕ). IsHead s c.read_both.new.other_window c.in_ok-lens.heads.1) (sym (both.same_second h)) (both.second.begins h))))

pub returns-clause-value : goal.returns-clause-value
returns-clause-value g c h =
    let one = g.D.Disk.seen c.args.first.now in
    let two = g.D.Disk.seen c.args.second.now in
    current_read one two c.in_ok-read.read.0 c.in_ok-read.read.1 c.behind_records.result
    (sym (c.has_lost_first.ensures one c.read_both.new.window (c.in_ok-lens.ensures.first.begins h)) ∙ c.if-has_lost_first.false)
    (sym (c.has_lost_first-2.ensures two c.read_both.new.other_window (c.in_ok-lens.ensures.second.begins h)) ∙ c.if-has_lost_first-2.false)
    (found g (goal.at.returns-clause-value g c).In_ok-read h).1 c.behind_records.ensures

-- which fault an opening would tell of them
pub returns-then-has_lost_first-clause-fault : goal.returns-then-has_lost_first-clause-fault
returns-then-has_lost_first-clause-fault g c h =
    let one = g.D.Disk.seen c.args.first.now in
    let two = g.D.Disk.seen c.args.second.now in
    let lost : is_headless one ≡ true = sym (c.has_lost_first.ensures one c.read_both.new.window (c.in_ok-lens.ensures.first.begins h)) ∙ c.if-has_lost_first.true in
    told_fault c.args.log_bytes one two _ (ap Some c.first_record.ensures ∙ first_lost one two lost)
    (fault_is c.args.log_bytes one two _ _ (short g (goal.at.returns-then-has_lost_first-clause-fault g c).In_ok-lens h) (c.in_ok-lens.ensures.older h) true (headless_log one two (or_left (is_headless one) _ lost)))

pub returns-then-has_lost_first-2-clause-fault : goal.returns-then-has_lost_first-2-clause-fault
returns-then-has_lost_first-2-clause-fault g c h =
    let one = g.D.Disk.seen c.args.first.now in
    let two = g.D.Disk.seen c.args.second.now in
    let lost : is_headless two ≡ true = sym (c.has_lost_first-2.ensures two c.read_both.new.other_window (c.in_ok-lens.ensures.second.begins h)) ∙ c.if-has_lost_first-2.true in
    told_fault c.args.log_bytes one two _ (returns-then-has_lost_first-2-clause-value g c h)
    (fault_is c.args.log_bytes one two _ _ (short g (goal.at.returns-then-has_lost_first-2-clause-fault g c).In_ok-lens h) (c.in_ok-lens.ensures.older h) true (headless_log one two (or_right (is_headless one) _ lost)))

pub returns-clause-fault : goal.returns-clause-fault
returns-clause-fault g c h =
    let at = goal.at.returns-clause-fault g c in
    let one = g.D.Disk.seen c.args.first.now in
    let two = g.D.Disk.seen c.args.second.now in
    told_fault c.args.log_bytes one two c.behind_records.result (returns-clause-value g c h)
    (fault_is c.args.log_bytes one two _ _ (short g at.In_ok-lens h) (c.in_ok-lens.ensures.older h) true (found g at.In_ok-read h).0)

-- what stays of each of the two

pub returns-in_err-read-clause-same : goal.returns-in_err-read-clause-same
returns-in_err-read-clause-same g c h = c.in_err-read.ensures.same h ∙ c.in_ok-lens.ensures.same h

pub returns-in_err-read-clause-time : goal.returns-in_err-read-clause-time
returns-in_err-read-clause-time g c h = same_then (c.in_ok-lens.ensures.time h) (c.in_err-read.ensures.time h)

pub returns-clause-same : goal.returns-clause-same
returns-clause-same g c h = c.in_ok-read.ensures.same h ∙ c.in_ok-lens.ensures.same h

pub returns-clause-time : goal.returns-clause-time
returns-clause-time g c h = same_then (c.in_ok-lens.ensures.time h) (c.in_ok-read.ensures.time h)

pub returns-in_err-read-clause-same_second : goal.returns-in_err-read-clause-same_second
returns-in_err-read-clause-same_second g c h = c.in_err-read.ensures.same_second h ∙ c.in_ok-lens.ensures.same_second h

pub returns-in_err-read-clause-time_second : goal.returns-in_err-read-clause-time_second
returns-in_err-read-clause-time_second g c h = same_then (c.in_ok-lens.ensures.time_second h) (c.in_err-read.ensures.time_second h)

pub returns-clause-same_second : goal.returns-clause-same_second
returns-clause-same_second g c h = c.in_ok-read.ensures.same_second h ∙ c.in_ok-lens.ensures.same_second h

pub returns-clause-time_second : goal.returns-clause-time_second
returns-clause-time_second g c h = same_then (c.in_ok-lens.ensures.time_second h) (c.in_ok-read.ensures.time_second h)

-- which device failed

pub returns-in_err-read-clause-count : goal.returns-in_err-read-clause-count
returns-in_err-read-clause-count g c =
    count_on g.D.Disk.failures c.from_residual-in_err-read.result _ _ _ _ _ _ _ c.from_residual-in_err-read.ensures c.in_ok-lens.ensures.count c.in_err-read.ensures.count

pub returns-clause-count : goal.returns-clause-count
returns-clause-count g c = (c.in_ok-read.ensures.count.0 ∙ c.in_ok-lens.ensures.count.0, c.in_ok-read.ensures.count.1 ∙ c.in_ok-lens.ensures.count.1)
