-- What each call on all keys answers, and what it adds to the history.
use Rattle.std.specs.Prelude.{◌≡◌, ◌≢◌, ℕ, ◌+◌, Bool, true, false, not, ◌==◌, ◌&&◌, nat_le}
use Rattle.std.specs.Prelude.{List, [], ◌∷◌, Option, Some, None, bytes_eq, if◌then◌else◌}
use Rattle.std.specs.List.{AllByRecursion as Each}
use Rattle.std.specs.Cmp.Lexicographic.{slice_cmp}
use Rattle.std.specs.Ordering.{nat_cmp}
use Rattle.std.specs.declared.cmp.Ordering.TheVariants.{Less}
use Rattle.xa_limits.specs.declared.TheConstants.{MOST_WRITES}
use Rattle.xa_codes.specs.declared.write.Write.{Write}
use Rattle.mv_chain.specs.Accesses.{Written, Answered, Seen, read_by, seen, is_busy, is_late}
use Rattle.mv_chain.specs.Accesses.{is_undecided, has_undecided, IsUndecided}
pub use Rattle.mv_chain.specs.Accesses.{wrote}
use Rattle.mv_rules.specs.declared.answers.Got.{Got}
use Rattle.mv_rules.specs.declared.answers.Got.TheVariants.{Value, Absent, Busy, Memory}
use Rattle.mv_rules.specs.declared.answers.Put.{Put}
use Rattle.mv_rules.specs.declared.answers.Put.TheVariants.{Done, Late, Limit}

-- the writes of all keys with their fates and the answered reads, newest first; reads and writes below the low water
-- are over
pub record Accesses : Type 0 where
  pub low : ℕ
  pub writes : List Written
  pub reads : List Answered

-- the answer to a read at t that sees s
abbrev pub answer_by : Bool → ℕ → Option (List ℕ) → Got
answer_by true from value = Busy from
answer_by false from None = Absent
answer_by false from (Some v) = Value v

abbrev pub answer_of : ℕ → Seen → Got
answer_of t s = answer_by (is_busy t s) s.from s.value

-- an answered read is added to the reads
abbrev pub reads_after : Got → ℕ → List ℕ → ℕ → List Answered → List Answered
reads_after (Value v) t key from reads = read_by t key from ∷ reads
reads_after Absent t key from reads = read_by t key from ∷ reads
reads_after (Busy by) t key from reads = reads
reads_after Memory t key from reads = reads

-- the history that a get leaves
abbrev pub after_get : Got → ℕ → List ℕ → Accesses → Accesses
after_get got t key h = record h { reads = reads_after got t key (seen key t h.writes).from h.reads }

-- a get answers by what it sees, unless memory runs out
abbrev pub AnswersGet : Got → ℕ → List ℕ → Accesses → Type 0
AnswersGet got t key h = got ≢ Got.Memory → got ≡ answer_of t (seen key t h.writes)

-- how many keys the undecided branch has written
abbrev pub undecided_keys : ℕ → List Written → ℕ
undecided_keys t [] = 0
undecided_keys t (w ∷ older) =
    if (w.timestamp == t) && (is_undecided w.fate && not (has_undecided w.key t older)) then undecided_keys t older + 1
    else undecided_keys t older

-- the answer to a write: own says whether the branch wrote the key before, count how many keys it wrote
abbrev pub put_by : Bool → Bool → Put
put_by true late = Limit
put_by false true = Late
put_by false false = Done

abbrev pub put_of : Bool → ℕ → Bool → Put
put_of own count late = put_by (not own && nat_le MOST_WRITES count) late

-- an accepted write is added to the writes
abbrev pub after_put : Put → ℕ → List ℕ → Option (List ℕ) → Accesses → Accesses
after_put Done t key value h = record h { writes = wrote t key value ∷ h.writes }
after_put Late t key value h = h
after_put Limit t key value h = h
after_put Put.Memory t key value h = h

-- a put answers by the keys that the branch has written and by the answered reads, unless memory runs out
abbrev pub AnswersPut : Put → ℕ → List ℕ → Accesses → Type 0
AnswersPut put t key h =
    put ≢ Put.Memory
    → put ≡ put_of (has_undecided key t h.writes) (undecided_keys t h.writes) (is_late key t h.reads)

-- the value of the branch's last write of the key; None if it wrote none
abbrev pub last_write : List ℕ → ℕ → List Written → Option (Option (List ℕ))
last_write key t [] = None
last_write key t (w ∷ older) = if bytes_eq key w.key && (w.timestamp == t) then Some w.value else last_write key t older

-- the value that a list of writes gives the key
abbrev pub listed_value : List ℕ → List Write → Option (Option (List ℕ))
listed_value key [] = None
listed_value key (w ∷ rest) = if bytes_eq key w.key then Some w.value else listed_value key rest

-- strictly ascending by key: byte by byte, a proper prefix first
abbrev pub IsAscending : List Write → Type 0
IsAscending [] = Unit {0}
IsAscending (w ∷ rest) = Each (λ x. slice_cmp nat_cmp w.key x.key ≡ Less) rest × IsAscending rest

-- the branch's last write of each key, ascending by key
pub record IsWritesOf (t : ℕ) (writes : List Written) (listed : List Write) : Type 0 where
  pub ascending : IsAscending listed
  pub last : (key : List ℕ) → listed_value key listed ≡ last_write key t writes

-- a branch with an undecided write of the key has no write that is decided
abbrev pub IsWholeAt : List ℕ → List Written → Type 0
IsWholeAt key writes = (t : ℕ) → has_undecided key t writes ≡ true → IsUndecided t writes
