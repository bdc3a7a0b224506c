-- What survives a crash: what the log's records come to, and what a state would leave.
use Rattle.std.specs.Prelude.{◌≡◌, ℕ, ◌+◌, ◌≤◌, ◌/◌, ◌%◌, ◌==◌, nat_lt, nat_le, Bool, true, false, not, ◌&&◌}
use Rattle.std.specs.Prelude.{Option, Some, None, List, [], ◌∷◌, length, reverse, find, filter, filter_map, option_map}
use Rattle.std.specs.Prelude.{bytes_eq, if◌then◌else◌}
use Rattle.std.specs.Option.{option_or}
use Rattle.std.specs.List.{list_any, AllByRecursion}
use Rattle.std.specs.Cmp.Lexicographic.{slice_cmp}
use Rattle.std.specs.Ordering.{nat_cmp, is_lt}
use Rattle.xa_codes.specs.declared.write.Write.{Write}
use Rattle.xa_xid.specs.Triple.{Triple, xid_eq, xid_cmp}
use Rattle.xa_limits.specs.declared.TheConstants.{BOOT_TIMESTAMPS}
use Rattle.xa_model.specs.State.{State, Operation, Got, Walked, Wrote, Phase, Working, Prepared, Committed, Decided}

-- A committed branch, with those of its writes that are the last of their keys (a delete is a write without a value).
pub record CommittedBranch : Type 0 where
  pub timestamp : ℕ
  pub writes : List Write

-- A branch in doubt, with its writes, ascending by key.
pub record PreparedBranch : Type 0 where
  pub xid : Triple
  pub timestamp : ℕ
  pub writes : List Write

-- `boot` is the greatest that was logged, 0 if none was. Branches ascend by timestamp,
-- XIDs that the operator completed by XID. Committed branches stand by timestamp and not
-- their keys in one list, since a snapshot has a record per branch.
pub record Durable : Type 0 where
  pub boot : ℕ
  pub committed : List CommittedBranch
  pub prepared : List PreparedBranch
  pub decided : List Decided

-- Lists in order

-- x takes its place before the first that isn't before it
abbrev pub insert : {A : Type 0} → (A → A → Bool) → A → List A → List A
insert before x [] = x ∷ []
insert before x (y ∷ ys) = if before y x then y ∷ insert before x ys else x ∷ y ∷ ys

-- each member passes with each one after it
abbrev pub Pairwise : {A : Type 0} → (A → A → Bool) → List A → Type 0
Pairwise test [] = Unit {0}
Pairwise test (x ∷ xs) = AllByRecursion (λ y. test x y ≡ true) xs × Pairwise test xs

abbrev pub commits_before : CommittedBranch → CommittedBranch → Bool
commits_before a b = nat_lt a.timestamp b.timestamp

abbrev pub prepares_before : PreparedBranch → PreparedBranch → Bool
prepares_before a b = nat_lt a.timestamp b.timestamp

abbrev pub named_before : Decided → Decided → Bool
named_before a b = is_lt (xid_cmp a.xid b.xid)

abbrev pub keys_before : Write → Write → Bool
keys_before a b = is_lt (slice_cmp nat_cmp a.key b.key)

abbrev pub named_apart : PreparedBranch → PreparedBranch → Bool
named_apart a b = not (xid_eq a.xid b.xid)

-- The last write of each key

abbrev pub is_written_in : List ℕ → List Write → Bool
is_written_in key ws = list_any (λ w. bytes_eq key w.key) ws

-- one of the branches writes the key
abbrev pub is_written : List ℕ → List CommittedBranch → Bool
is_written key bs = list_any (λ b. is_written_in key b.writes) bs

-- the writes of keys that none of these branches writes
abbrev pub not_overwritten : List CommittedBranch → List Write → List Write
not_overwritten later ws = filter (λ w. not (is_written w.key later)) ws

-- a branch without writes is left out
abbrev pub with_writes : ℕ → List Write → List CommittedBranch → List CommittedBranch
with_writes t [] bs = bs
with_writes t (w ∷ ws) bs = record { timestamp = t; writes = w ∷ ws } ∷ bs

-- of branches that ascend by timestamp, the writes that are the last of their keys
abbrev pub last_writes : List CommittedBranch → List CommittedBranch
last_writes [] = []
last_writes (b ∷ later) = with_writes b.timestamp (not_overwritten later b.writes) (last_writes later)

-- what was last left at a key, by branches that ascend by timestamp, with the timestamp
abbrev pub value_in : List ℕ → List Write → Option (Option (List ℕ))
value_in key [] = None
value_in key (w ∷ ws) = if bytes_eq w.key key then Some w.value else value_in key ws

abbrev pub last_write : List ℕ → List CommittedBranch → Option (ℕ × Option (List ℕ))
last_write key [] = None
last_write key (b ∷ later) =
    option_or (last_write key later) (option_map (λ v. (b.timestamp, v)) (value_in key b.writes))

-- one more branch is committed
abbrev pub commit : CommittedBranch → List CommittedBranch → List CommittedBranch
commit b bs = last_writes (insert commits_before b bs)

-- What a state would leave

-- a write takes its place by key, or the place of an earlier write of its key
abbrev pub put_write : Write → List Write → List Write
put_write w [] = w ∷ []
put_write w (v ∷ vs) =
    if bytes_eq v.key w.key then w ∷ vs else if is_lt (slice_cmp nat_cmp v.key w.key) then v ∷ put_write w vs
    else w ∷ v ∷ vs

-- a branch's last write of each key, ascending by key
abbrev pub writes_of : List Operation → List Write
writes_of [] = []
writes_of (Got key answer source ∷ older) = writes_of older
writes_of (Walked range found ∷ older) = writes_of older
writes_of (Wrote key value ∷ older) = put_write (record { key = key; value = value }) (writes_of older)

abbrev pub committed_part : ℕ → List Write → Phase → Option CommittedBranch
committed_part t ws (Working xid work) = None
committed_part t ws (Prepared xid) = None
committed_part t ws Committed = Some (record { timestamp = t; writes = ws })

abbrev pub prepared_part : ℕ → List Write → Phase → Option PreparedBranch
prepared_part t ws (Working xid work) = None
prepared_part t ws (Prepared xid) = Some (record { xid = xid; timestamp = t; writes = ws })
prepared_part t ws Committed = None

abbrev pub by_name : List Decided → List Decided
by_name [] = []
by_name (d ∷ ds) = insert named_before d (by_name ds)

-- a state's branches stand by timestamp, the greatest first
abbrev pub durable : State → Durable
durable s = record {
  boot = s.logged_boot;
  committed =
      last_writes (reverse (filter_map (λ b. committed_part b.timestamp (writes_of b.operations) b.phase) s.branches));
  prepared = reverse (filter_map (λ b. prepared_part b.timestamp (writes_of b.operations) b.phase) s.branches);
  decided = by_name s.decided;
}

-- What every one has

-- of which boot a timestamp is, and which of its boot
abbrev pub boot_of : ℕ → ℕ
boot_of t = t / BOOT_TIMESTAMPS

abbrev pub number_of : ℕ → ℕ
number_of t = t % BOOT_TIMESTAMPS

-- a timestamp that a boot below this one gave
abbrev pub is_past : ℕ → ℕ → Bool
is_past boot t = nat_le 1 (boot_of t) && nat_lt (boot_of t) boot && not (number_of t == 0)

-- each branch has writes, each of them the last of its key
abbrev pub AreLast : List CommittedBranch → Type 0
AreLast [] = Unit {0}
AreLast (b ∷ later) =
    (1 ≤ length b.writes) × AllByRecursion (λ w. is_written w.key later ≡ false) b.writes × AreLast later

abbrev pub is_prepared : Triple → List PreparedBranch → Bool
is_prepared xid ps = list_any (λ p. xid_eq p.xid xid) ps

abbrev pub is_decided : Triple → List Decided → Bool
is_decided xid ds = list_any (λ d. xid_eq d.xid xid) ds

pub record IsDurable (d : Durable) : Type 0 where
  -- branches and XIDs ascend
  pub committed : Pairwise commits_before d.committed
  pub prepared : Pairwise prepares_before d.prepared
  pub decided : Pairwise named_before d.decided
  -- no committed branch has a prepared one's timestamp, and boots up to the greatest gave them all
  pub apart : AllByRecursion (λ b. AllByRecursion (λ p. (b.timestamp == p.timestamp) ≡ false) d.prepared) d.committed
  pub committed_past : AllByRecursion (λ b. is_past (d.boot + 1) b.timestamp ≡ true) d.committed
  pub prepared_past : AllByRecursion (λ p. is_past (d.boot + 1) p.timestamp ≡ true) d.prepared
  -- committed writes are the last of their keys
  pub last : AreLast d.committed
  -- no XID is known twice
  pub distinct : Pairwise named_apart d.prepared
  pub unknown : AllByRecursion (λ e. is_prepared e.xid d.prepared ≡ false) d.decided

-- each committed branch's writes ascend by key
abbrev pub IsByKey : Durable → Type 0
IsByKey d = AllByRecursion (λ b. Pairwise keys_before b.writes) d.committed

-- the same is found by each key and each XID
pub record HasSame (c d : Durable) : Type 0 where
  pub boot : c.boot ≡ d.boot
  pub committed : (key : List ℕ) → last_write key c.committed ≡ last_write key d.committed
  pub prepared : (xid : Triple) → find (λ p. xid_eq p.xid xid) c.prepared ≡ find (λ p. xid_eq p.xid xid) d.prepared
  pub decided : (xid : Triple) → find (λ e. xid_eq e.xid xid) c.decided ≡ find (λ e. xid_eq e.xid xid) d.decided
