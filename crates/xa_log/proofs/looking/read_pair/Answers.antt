use Rattle.std.proofs.Common.{arith, ◌∙◌, ◌||◌, ◌≡◌, ◌≤◌, inr, List, ℕ, ap, sym, subst, refl, length, true, false}
use Rattle.xa_log.specs.Calls.{MOST_BRIEF, OnlyReads, asked}
use Rattle.xa_log.specs.Believed.Damage.{is_headless}
use Rattle.xa_log.specs.Looking.{AreShort, IsHead, IsCurrent, either_log}
use Rattle.xa_log.specs.Believed.Pair.{pair_fault}
use Rattle.xa_log.proofs.Both.{count_on, only_then}
use Rattle.xa_log.proofs.Choosing.{fault_is, headless_log, headless_fault, broken_fault, by_both}
use Rattle.xa_log.proofs.Fetch.{head_some, reads_some}
use Rattle.xa_log.proofs.Torn.{same_then}
use Rattle.xa_log.proofs.Looks.{looks_by, looks_second, briefly, handed_on, little_by, current_kinds, current_short}
use Rattle.xa_log.proofs.looking.read_pair.Goals as goal
use Rattle.xa_log.proofs.looking.read_pair.Goals.{After-branch-read, After-is_either_lost, In_ok-lens, In_ok-read}

-- two files that weren't measured, or whose beginnings weren't read

pub returns-in_err-lens-clause-value : goal.returns-in_err-lens-clause-value
returns-in_err-lens-clause-value g c h = handed_on _ _ c.from_residual.result _ c.from_residual.ensures (c.in_err-lens.ensures.fault h)

pub returns-in_err-lens-clause-calls : goal.returns-in_err-lens-clause-calls
returns-in_err-lens-clause-calls g c = handed_on _ _ c.from_residual.result _ c.from_residual.ensures c.in_err-lens.ensures.calls

pub returns-in_err-lens-clause-calls_once : goal.returns-in_err-lens-clause-calls_once
returns-in_err-lens-clause-calls_once g c h = handed_on _ _ c.from_residual.result _ c.from_residual.ensures (c.in_err-lens.ensures.calls_once h)

pub returns-in_err-lens-clause-calls_second : goal.returns-in_err-lens-clause-calls_second
returns-in_err-lens-clause-calls_second g c = handed_on _ _ c.from_residual.result _ c.from_residual.ensures c.in_err-lens.ensures.calls_second

pub returns-in_err-lens-clause-calls_once_second : goal.returns-in_err-lens-clause-calls_once_second
returns-in_err-lens-clause-calls_once_second g c h = handed_on _ _ c.from_residual.result _ c.from_residual.ensures (c.in_err-lens.ensures.calls_once_second h)

-- neither is too long
short : (g : _) (c : In_ok-lens g) → g.D.Disk.honest → AreShort c.args.log_bytes (g.D.Disk.seen c.args.first.now) (g.D.Disk.seen c.args.second.now) c.in_ok-lens.lens.0 c.in_ok-lens.lens.1
short g c h =
    let one = c.in_ok-lens.ensures.first in
    let two = c.in_ok-lens.ensures.second in
    record { first_is = one.whole h; second_is = two.whole h; first_fits = one.fits; second_fits = two.fits }

-- the calls that were made by the end, of the first file
read_first : (g : _) (c : After-branch-read g) (most : ℕ) → c.in_ok-lens.lens.0 ≤ most → OnlyReads most (asked (g.D.Disk.counts c.args.first.now)) (g.D.Disk.counts c.read_current.new.first)
read_first g c most fits = reads_some _ _ _ _ _ fits refl (c.read_current.ensures.fetched _ MOST_BRIEF c.in_ok-lens.ensures.first.fetched)

-- the calls that were made by the end, of the second file
read_second : (g : _) (c : After-branch-read g) (most : ℕ) → c.in_ok-lens.lens.1 ≤ most → OnlyReads most (asked (g.D.Disk.counts c.args.second.now)) (g.D.Disk.counts c.read_current.new.second)
read_second g c most fits = reads_some _ _ _ _ _ fits refl (c.read_current.ensures.fetched_second _ MOST_BRIEF c.in_ok-lens.ensures.second.fetched)

pub returns-in_err-read-clause-calls : goal.returns-in_err-read-clause-calls
returns-in_err-read-clause-calls g c = looks_by c.from_residual-in_err-read.result _ _ _ (current_short _ (current_kinds _ _ c.from_residual-in_err-read.ensures.1 c.in_err-read.ensures.kinds)) (read_first g (goal.at.returns-in_err-read-clause-calls g c).After-branch-read _ c.in_ok-lens.ensures.first.fits)

pub returns-in_err-read-clause-calls_once : goal.returns-in_err-read-clause-calls_once
returns-in_err-read-clause-calls_once g c h = looks_by c.from_residual-in_err-read.result _ _ _ (current_short _ (current_kinds _ _ c.from_residual-in_err-read.ensures.1 c.in_err-read.ensures.kinds)) (read_first g (goal.at.returns-in_err-read-clause-calls_once g c).After-branch-read _ (omega (arith, c.in_ok-lens.ensures.first.whole h)))

pub returns-then-read-clause-calls : goal.returns-then-read-clause-calls
returns-then-read-clause-calls g c = read_first g (goal.at.returns-then-read-clause-calls g c).After-branch-read _ c.in_ok-lens.ensures.first.fits

pub returns-then-read-clause-calls_once : goal.returns-then-read-clause-calls_once
returns-then-read-clause-calls_once g c h = read_first g (goal.at.returns-then-read-clause-calls_once g c).After-branch-read _ (omega (arith, c.in_ok-lens.ensures.first.whole h))

pub returns-clause-calls : goal.returns-clause-calls
returns-clause-calls g c = read_first g (goal.at.returns-clause-calls g c).After-branch-read _ c.in_ok-lens.ensures.first.fits

pub returns-clause-calls_once : goal.returns-clause-calls_once
returns-clause-calls_once g c h = read_first g (goal.at.returns-clause-calls_once g c).After-branch-read _ (omega (arith, c.in_ok-lens.ensures.first.whole h))

pub returns-in_err-read-clause-calls_second : goal.returns-in_err-read-clause-calls_second
returns-in_err-read-clause-calls_second g c = looks_second c.from_residual-in_err-read.result _ _ _ (current_short _ (current_kinds _ _ c.from_residual-in_err-read.ensures.1 c.in_err-read.ensures.kinds)) (read_second g (goal.at.returns-in_err-read-clause-calls_second g c).After-branch-read _ c.in_ok-lens.ensures.second.fits)

pub returns-in_err-read-clause-calls_once_second : goal.returns-in_err-read-clause-calls_once_second
returns-in_err-read-clause-calls_once_second g c h = looks_second c.from_residual-in_err-read.result _ _ _ (current_short _ (current_kinds _ _ c.from_residual-in_err-read.ensures.1 c.in_err-read.ensures.kinds)) (read_second g (goal.at.returns-in_err-read-clause-calls_once_second g c).After-branch-read _ (omega (arith, c.in_ok-lens.ensures.second.whole h)))

pub returns-then-read-clause-calls_second : goal.returns-then-read-clause-calls_second
returns-then-read-clause-calls_second g c = inr (read_second g (goal.at.returns-then-read-clause-calls_second g c).After-branch-read _ c.in_ok-lens.ensures.second.fits)

pub returns-then-read-clause-calls_once_second : goal.returns-then-read-clause-calls_once_second
returns-then-read-clause-calls_once_second g c h = inr (read_second g (goal.at.returns-then-read-clause-calls_once_second g c).After-branch-read _ (omega (arith, c.in_ok-lens.ensures.second.whole h)))

pub returns-clause-calls_second : goal.returns-clause-calls_second
returns-clause-calls_second g c = read_second g (goal.at.returns-clause-calls_second g c).After-branch-read _ c.in_ok-lens.ensures.second.fits

pub returns-clause-calls_once_second : goal.returns-clause-calls_once_second
returns-clause-calls_once_second g c h = read_second g (goal.at.returns-clause-calls_once_second g c).After-branch-read _ (omega (arith, c.in_ok-lens.ensures.second.whole h))

pub returns-clause-fits : goal.returns-clause-fits
returns-clause-fits g c = c.in_ok-read.ensures.fits c.args.log_bytes c.in_ok-lens.ensures.first.fits c.in_ok-lens.ensures.second.fits

pub returns-clause-little : goal.returns-clause-little
returns-clause-little g c =
    let one = c.in_ok-lens.ensures.first in
    let two = c.in_ok-lens.ensures.second in
    little_by g.D.Disk c.in_ok-read.read.0 c.args.first.now c.args.second.now _ _ c.read_both.new.first c.read_both.new.second c.in_ok-read.ensures.other
    (briefly g.D.Disk c.args.first.now c.read_both.new.first c.in_ok-lens.lens.0 _ (g.D.Disk.seen c.args.first.now) c.in_ok-lens.heads.0 refl one.fetched one.little (λ h. refl))
    (briefly g.D.Disk c.args.second.now c.read_both.new.second c.in_ok-lens.lens.1 _ (g.D.Disk.seen c.args.second.now) c.in_ok-lens.heads.1 refl two.fetched two.little (λ h. refl))

-- whether they show a first record that doesn't chain
lost : (g : _) (c : After-is_either_lost g) → g.D.Disk.honest → c.is_either_lost.result ≡ (is_headless (g.D.Disk.seen c.args.first.now) || is_headless (g.D.Disk.seen c.args.second.now))
lost g c h =
    c.is_either_lost.ensures (g.D.Disk.seen c.args.first.now) c.read_both.new.window (g.D.Disk.seen c.args.second.now) c.read_both.new.other_window
    (c.in_ok-lens.ensures.first.begins h) (c.in_ok-lens.ensures.second.begins h)

pub returns-then-is_either_lost-clause-value : goal.returns-then-is_either_lost-clause-value
returns-then-is_either_lost-clause-value g c h =
    let at = goal.at.returns-then-is_either_lost-clause-value g c in
    let a = g.D.Disk.seen c.args.first.now in
    let o = g.D.Disk.seen c.args.second.now in
    let headless : (is_headless (g.D.Disk.seen c.args.first.now) || is_headless (g.D.Disk.seen c.args.second.now)) ≡ true = sym (lost g at.After-is_either_lost h) ∙ c.if-is_either_lost.true in
    headless_fault c.args.log_bytes a o headless (fault_is c.args.log_bytes a o _ _ (short g at.In_ok-lens h) (c.in_ok-lens.ensures.older h) true (headless_log a o headless))

-- what was found of the two files
found : (g : _) (c : In_ok-read g) → g.D.Disk.honest
    → (pair_fault c.args.log_bytes (g.D.Disk.seen c.args.first.now) (g.D.Disk.seen c.args.second.now) ≡ by_both (g.D.Disk.seen c.args.first.now) (g.D.Disk.seen c.args.second.now))
    × IsCurrent (g.D.Disk.seen c.args.first.now) (g.D.Disk.seen c.args.second.now) c.in_ok-read.read.0 c.in_ok-read.read.1
found g c h =
    let seen = g.D.Disk.seen in
    let both = c.in_ok-lens.ensures in
    let read =
    subst (λ (t : List ℕ). (either_log (seen c.args.first.now) t ≡ true) × IsCurrent (seen c.args.first.now) t c.in_ok-read.read.0 c.in_ok-read.read.1) (both.same_second h)
    (subst (λ (s : List ℕ). (either_log s (seen c.read_both.new.second) ≡ true) × IsCurrent s (seen c.read_both.new.second) c.in_ok-read.read.0 c.in_ok-read.read.1) (both.same h)
    (c.in_ok-read.ensures.value h (both.first.whole h ∙ ap (λ (s : List ℕ). length s) (sym (both.same h))) (both.second.whole h ∙ ap (λ (s : List ℕ). length s) (sym (both.same_second h)))
    (subst (λ (s : List ℕ). IsHead s c.read_both.new.window c.in_ok-lens.heads.0) (sym (both.same h)) (both.first.begins h))
    (subst (λ (s : List ℕ). IsHead s c.read_both.new.other_window c.in_ok-lens.heads.1) (sym (both.same_second h)) (both.second.begins h)))) in
    (fault_is c.args.log_bytes (seen c.args.first.now) (seen c.args.second.now) _ _ (short g (goal.at.In_ok-read g c).In_ok-lens h) (both.older h) true read.0, read.1)

pub returns-then-read-clause-value : goal.returns-then-read-clause-value
returns-then-read-clause-value g c h =
    let at = goal.at.returns-then-read-clause-value g c in
    let it = found g at.In_ok-read h in
    broken_fault c.args.log_bytes (g.D.Disk.seen c.args.first.now) (g.D.Disk.seen c.args.second.now) c.in_ok-read.read.1 c.in_ok-read.read.0 true c.if-read.true it.1
    (sym (lost g at.After-is_either_lost h) ∙ c.if-is_either_lost.false) it.0

pub returns-clause-value : goal.returns-clause-value
returns-clause-value g c h =
    let at = goal.at.returns-clause-value g c in
    let it = found g at.In_ok-read h in (
      broken_fault c.args.log_bytes (g.D.Disk.seen c.args.first.now) (g.D.Disk.seen c.args.second.now) c.in_ok-read.read.1 c.in_ok-read.read.0 false c.if-read.false it.1
          (sym (lost g at.After-is_either_lost h) ∙ c.if-is_either_lost.false) it.0,
      it.1,
    )

-- what stays of each of the two

pub returns-in_err-read-clause-same : goal.returns-in_err-read-clause-same
returns-in_err-read-clause-same g c h = c.in_err-read.ensures.same h ∙ c.in_ok-lens.ensures.same h

pub returns-in_err-read-clause-time : goal.returns-in_err-read-clause-time
returns-in_err-read-clause-time g c h = same_then (c.in_ok-lens.ensures.time h) (c.in_err-read.ensures.time h)

pub returns-then-read-clause-same : goal.returns-then-read-clause-same
returns-then-read-clause-same g c h = c.in_ok-read.ensures.same h ∙ c.in_ok-lens.ensures.same h

pub returns-then-read-clause-time : goal.returns-then-read-clause-time
returns-then-read-clause-time g c h = same_then (c.in_ok-lens.ensures.time h) (c.in_ok-read.ensures.time h)

pub returns-clause-same : goal.returns-clause-same
returns-clause-same g c h = c.in_ok-read.ensures.same h ∙ c.in_ok-lens.ensures.same h

pub returns-clause-time : goal.returns-clause-time
returns-clause-time g c h = same_then (c.in_ok-lens.ensures.time h) (c.in_ok-read.ensures.time h)

pub returns-clause-durable : goal.returns-clause-durable
returns-clause-durable g c h = only_then _ _ (c.in_ok-read.ensures.same h) (c.in_ok-lens.ensures.first.durable h) (c.in_ok-read.ensures.time h)

pub returns-in_err-read-clause-same_second : goal.returns-in_err-read-clause-same_second
returns-in_err-read-clause-same_second g c h = c.in_err-read.ensures.same_second h ∙ c.in_ok-lens.ensures.same_second h

pub returns-in_err-read-clause-time_second : goal.returns-in_err-read-clause-time_second
returns-in_err-read-clause-time_second g c h = same_then (c.in_ok-lens.ensures.time_second h) (c.in_err-read.ensures.time_second h)

pub returns-then-read-clause-same_second : goal.returns-then-read-clause-same_second
returns-then-read-clause-same_second g c h = c.in_ok-read.ensures.same_second h ∙ c.in_ok-lens.ensures.same_second h

pub returns-then-read-clause-time_second : goal.returns-then-read-clause-time_second
returns-then-read-clause-time_second g c h = same_then (c.in_ok-lens.ensures.time_second h) (c.in_ok-read.ensures.time_second h)

pub returns-clause-same_second : goal.returns-clause-same_second
returns-clause-same_second g c h = c.in_ok-read.ensures.same_second h ∙ c.in_ok-lens.ensures.same_second h

pub returns-clause-time_second : goal.returns-clause-time_second
returns-clause-time_second g c h = same_then (c.in_ok-lens.ensures.time_second h) (c.in_ok-read.ensures.time_second h)

pub returns-clause-durable_second : goal.returns-clause-durable_second
returns-clause-durable_second g c h = only_then _ _ (c.in_ok-read.ensures.same_second h) (c.in_ok-lens.ensures.second.durable h) (c.in_ok-read.ensures.time_second h)

-- which device failed

pub returns-in_err-read-clause-count : goal.returns-in_err-read-clause-count
returns-in_err-read-clause-count g c =
    count_on g.D.Disk.failures c.from_residual-in_err-read.result _ _ _ _ _ _ _ c.from_residual-in_err-read.ensures c.in_ok-lens.ensures.count c.in_err-read.ensures.count

pub returns-then-read-clause-count : goal.returns-then-read-clause-count
returns-then-read-clause-count g c = (c.in_ok-read.ensures.count.0 ∙ c.in_ok-lens.ensures.count.0, c.in_ok-read.ensures.count.1 ∙ c.in_ok-lens.ensures.count.1)

pub returns-clause-count : goal.returns-clause-count
returns-clause-count g c = (c.in_ok-read.ensures.count.0 ∙ c.in_ok-lens.ensures.count.0, c.in_ok-read.ensures.count.1 ∙ c.in_ok-lens.ensures.count.1)

-- of the heads alone

pub returns-then-is_either_lost-clause-calls : goal.returns-then-is_either_lost-clause-calls
returns-then-is_either_lost-clause-calls g c = reads_some _ _ _ _ _ c.in_ok-lens.ensures.first.fits refl (head_some _ MOST_BRIEF _ _ c.in_ok-lens.heads.0 c.in_ok-lens.ensures.first.fetched)

pub returns-then-is_either_lost-clause-calls_once : goal.returns-then-is_either_lost-clause-calls_once
returns-then-is_either_lost-clause-calls_once g c h = reads_some _ _ _ _ _ (omega (arith, c.in_ok-lens.ensures.first.whole h)) refl (head_some _ MOST_BRIEF _ _ c.in_ok-lens.heads.0 c.in_ok-lens.ensures.first.fetched)

pub returns-then-is_either_lost-clause-same : goal.returns-then-is_either_lost-clause-same
returns-then-is_either_lost-clause-same g c h = c.in_ok-lens.ensures.same h

pub returns-then-is_either_lost-clause-time : goal.returns-then-is_either_lost-clause-time
returns-then-is_either_lost-clause-time g c h = c.in_ok-lens.ensures.time h

pub returns-then-is_either_lost-clause-calls_second : goal.returns-then-is_either_lost-clause-calls_second
returns-then-is_either_lost-clause-calls_second g c = inr (reads_some _ _ _ _ _ c.in_ok-lens.ensures.second.fits refl (head_some _ MOST_BRIEF _ _ c.in_ok-lens.heads.1 c.in_ok-lens.ensures.second.fetched))

pub returns-then-is_either_lost-clause-calls_once_second : goal.returns-then-is_either_lost-clause-calls_once_second
returns-then-is_either_lost-clause-calls_once_second g c h = inr (reads_some _ _ _ _ _ (omega (arith, c.in_ok-lens.ensures.second.whole h)) refl (head_some _ MOST_BRIEF _ _ c.in_ok-lens.heads.1 c.in_ok-lens.ensures.second.fetched))

pub returns-then-is_either_lost-clause-same_second : goal.returns-then-is_either_lost-clause-same_second
returns-then-is_either_lost-clause-same_second g c h = c.in_ok-lens.ensures.same_second h

pub returns-then-is_either_lost-clause-time_second : goal.returns-then-is_either_lost-clause-time_second
returns-then-is_either_lost-clause-time_second g c h = c.in_ok-lens.ensures.time_second h
