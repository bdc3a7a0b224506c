-- The writes and the answered reads of the sequential resource manager's state as one history, and that both ways to
-- say it agree: what a timestamp reads of a key among branches is what it sees in the flat list of their writes, and a
-- write is late for the one exactly when it is for the other.
use Rattle.std.specs.Prelude.{◌≡◌, ℕ, max, not, List, [], ◌∷◌, ◌++◌, Option, Some, None, map}
use Rattle.mv_chain.specs.declared.fate.Fate.{Fate}
use Rattle.mv_chain.specs.declared.fate.Fate.TheVariants.{Committed as kept}
use Rattle.mv_chain.specs.Accesses.{Written, Answered, Seen, seen, is_late}
use Rattle.xa_model.specs.State.{State, Branch, Operation, Got, Walked, Wrote, Phase, Working, Prepared, Committed}
use Rattle.xa_model.specs.State.{Read}
use Rattle.xa_model.specs.Invariants.LowWater.{low_water, work_floor}
use Rattle.xa_model.specs.Source.{Version, source, source_read, is_late as is_late_among}
use Rattle.xa_model.specs.Invariants.Sound.{Descends}
use Rattle.mv_rules.specs.Accesses.{Accesses}

abbrev pub fate_of : Phase → Option Fate
fate_of (Working xid work) = None
fate_of (Prepared xid) = None
fate_of Committed = Some kept

-- the writes among the operations of a branch, the newest first
abbrev pub writes_by : ℕ → Option Fate → List Operation → List Written
writes_by t fate [] = []
writes_by t fate (Got key answer from ∷ older) = writes_by t fate older
writes_by t fate (Walked range found ∷ older) = writes_by t fate older
writes_by t fate (Wrote key value ∷ older) =
    record { timestamp = t; key = key; value = value; fate = fate } ∷ writes_by t fate older

abbrev pub writes_one : Branch → List Written
writes_one b = writes_by b.timestamp (fate_of b.phase) b.operations

abbrev pub writes_in : List Branch → List Written
writes_in [] = []
writes_in (b ∷ bs) = writes_one b ++ writes_in bs

abbrev pub read_as : Read → Answered
read_as r = record { reader = r.reader; source = λ key. source_read key r.over }

-- From here on the history counts: who reads or writes from now on has its timestamp neither below the floor of work
-- nor below the low water. What was overwritten before a restart isn't in the log, so records of a new boot don't show
-- it, whatever is in doubt; and no branch at work is of an earlier boot then.
abbrev pub low_of : State → ℕ
low_of s = max (work_floor s) (low_water s)

abbrev pub history_of : State → Accesses
history_of s = record { low = low_of s; writes = writes_in s.branches; reads = map read_as s.reads }

abbrev pub seen_as : Version → Seen
seen_as v = record { from = v.timestamp; value = v.value; pending = not v.committed }

abbrev pub OneSource : Type 0
OneSource =
    (key : List ℕ) (t limit : ℕ) (bs : List Branch)
    → Descends limit bs → seen key t (writes_in bs) ≡ seen_as (source key t bs)

abbrev pub OneLateness : Type 0
OneLateness = (key : List ℕ) (t : ℕ) (reads : List Read) → is_late key t (map read_as reads) ≡ is_late_among key t reads
