-- A manager that stands for a state, after a get.
use Rattle.std.proofs.Common.{◌≡◌, ◌≢◌, ℕ, ℤ, ◌+◌, Bool, true, false, List, ◌∷◌, map, Option, Some, None, refl, ap, sym, ◌∙◌, subst}
use Rattle.xa_codes.specs.declared.codes.TheConstants.{XA_RETRY, XAER_PROTO}
use Rattle.xa_codes.specs.declared.detail.Detail.TheVariants as detail
use Rattle.xa_xid.specs.Triple.{Triple}
use Rattle.xa_frame.specs.declared.body.Body.TheVariants as body
use Rattle.xa_frame.specs.declared.reply.Reply.{Reply}
use Rattle.mv_chain.specs.Accesses.{Written, Answered, seen, read_by}
use Rattle.mv_rules.specs.declared.answers.Got.{Got}
use Rattle.mv_rules.specs.declared.answers.Got.TheVariants as got_as
use Rattle.mv_rules.specs.Accesses.{answer_by, answer_of, reads_after}
use Rattle.mv_rules.specs.Records.{StandsFor as RecordsStandFor}
use Rattle.mv_rules.specs.Ties.{history_of, low_of, writes_in, read_as, seen_as}
use Rattle.mv_rules.proofs.Ties.{one_source}
use Rattle.mv_rules.proofs.Branches.{unwritten}
use Rattle.xa_model.specs.State.{State, Operation, Got as Read_op, Key, Read, is_known_as, own_branch, change, timestamp_of}
use Rattle.xa_model.specs.Source.{Version, source, is_busy}
use Rattle.xa_model.specs.Answer.{plain, detailed, carrying, answer, unless, marked}
use Rattle.xa_model.specs.Data.{having_done, value_body, busy_refusal, got, get_from, get_by}
use Rattle.xa_model.specs.Invariants.Loggable.{IsRecoverable}
use Rattle.xa_branch.specs.declared.working.Working.{Working as Kept_branch}
use Rattle.xa_branch.specs.Branches.{working_at}
use Rattle.xa_branch.proofs.Looks.{IsWorking}
use Rattle.xa_manager.specs.View.{View, own_at}
use Rattle.xa_manager.specs.Stands.{StandsFor, Follows, Stays}
use Rattle.xa_manager.proofs.Looks.{finds, own_works, own_is, no_own, own_mark, time_of, above_low}
use Rattle.xa_manager.proofs.Changed.{Gets, done_stands, stays_by}
use Rattle.xa_manager.proofs.Rows.{follows_by}

-- what the records see is the source
sees : (m : View) (s : State) (key : List ℕ) (t : ℕ) → StandsFor m s → seen key t (writes_in s.branches) ≡ seen_as (source key t s.branches)
sees m s key t st = one_source key t (timestamp_of s.boot s.given + 1) s.branches st.recoverable.sound.descends

answered : (m m' : View) (s : State) (xid : Triple) (w : Kept_branch) (key : List ℕ) (g : Got) → StandsFor m s → (x : IsWorking s xid w) → Gets m w.timestamp key g m' → g ≢ got_as.Memory
    → g ≡ answer_by (is_busy x.branch.timestamp (source key x.branch.timestamp s.branches)) (source key x.branch.timestamp s.branches).timestamp (source key x.branch.timestamp s.branches).value
answered m m' s xid w key g st x c some =
    c.answer (history_of s) st.records (above_low m s xid w st x) some
    ∙ ap (answer_of w.timestamp) (sees m s key w.timestamp st)
    ∙ ap (λ (t : ℕ). answer_of t (seen_as (source key t s.branches))) (time_of s xid w x)

abbrev from_or : ℕ → Got → ℕ
from_or n (got_as.Value v) = n
from_or n got_as.Absent = n
from_or n (got_as.Busy by) = n
from_or n got_as.Memory = n

value_of : (b : Bool) (from : ℕ) (o : Option (List ℕ)) (v : List ℕ) → got_as.Value v ≡ answer_by b from o → (b ≡ false) × (o ≡ Some v)
value_of true from o v h = absurd (cc h)
value_of false from None v h = absurd (cc h)
value_of false from (Some w) v h = let same : v ≡ w = cc h in (refl, ap Some (sym same))

absent_of : (b : Bool) (from : ℕ) (o : Option (List ℕ)) → got_as.Absent ≡ answer_by b from o → (b ≡ false) × (o ≡ None)
absent_of true from o h = absurd (cc h)
absent_of false from None h = (refl, refl)
absent_of false from (Some w) h = absurd (cc h)

busy_of : (b : Bool) (from by : ℕ) (o : Option (List ℕ)) → got_as.Busy by ≡ answer_by b from o → b ≡ true
busy_of true from by o h = refl
busy_of false from by None h = absurd (cc h)
busy_of false from by (Some w) h = absurd (cc h)

busy_refuses : (t : ℕ) (v : Version) → is_busy t v ≡ true → busy_refusal t v ≡ Some (detailed XA_RETRY detail.Busy)
busy_refuses t v h = rw h refl

busy_passes : (t : ℕ) (v : Version) → is_busy t v ≡ false → busy_refusal t v ≡ None
busy_passes t v h = rw h refl

busy_stands : (m m' : View) (s : State) (xid : Triple) (w : Kept_branch) (key : List ℕ) (by : ℕ) → StandsFor m s → (x : IsWorking s xid w) → Gets m w.timestamp key (got_as.Busy by) m' → StandsFor m' s
busy_stands m m' s xid w key by st x c = stays_by m m' s st c.same (c.records (history_of s) st.records (above_low m s xid w st x))

-- an unmarked branch gets
get_unmarked : (m : View) (s : State) (n : ℕ) (key : List ℕ) (xid : Triple) (w : Kept_branch) → StandsFor m s → own_at m n ≡ Some (xid, w) → w.mark ≡ None → (x : IsWorking s xid w)
    → get_by s key (own_branch s n) ≡ get_from s key xid x.branch (source key x.branch.timestamp s.branches)
get_unmarked m s n key xid w st h e x =
    ap (get_by s key) (own_is m s n xid w st h x)
    ∙ ap (λ (o : Option ℤ). marked o s (get_from s key xid x.branch (source key x.branch.timestamp s.branches))) (own_mark s xid w None x e)

pub get_alone : (m : View) (n : ℕ) (key : List ℕ) → own_at m n ≡ None → Follows m (λ s. get_by s key (own_branch s n)) (plain XAER_PROTO) m
get_alone m n key h =
    follows_by m m (λ s. get_by s key (own_branch s n)) (plain XAER_PROTO) refl (λ s st. (answer (plain XAER_PROTO) s, ap (get_by s key) (no_own m s n st h), refl, λ recoverable. st))

pub get_marked : (m : View) (n : ℕ) (key : List ℕ) (xid : Triple) (w : Kept_branch) (code : ℤ) → own_at m n ≡ Some (xid, w) → w.mark ≡ Some code → Follows m (λ s. get_by s key (own_branch s n)) (plain code) m
get_marked m n key xid w code h e =
    follows_by m m (λ s. get_by s key (own_branch s n)) (plain code) refl
    (λ s st.
    let x = finds m s xid w st (own_works m n xid w h).1 in (
      answer (plain code) s,
      ap (get_by s key) (own_is m s n xid w st h x)
          ∙ ap (λ (o : Option ℤ). marked o s (get_from s key xid x.branch (source key x.branch.timestamp s.branches))) (own_mark s xid w (Some code) x e),
      refl,
      λ recoverable. st,
    ))

pub get_busy : (m m' : View) (n : ℕ) (key : List ℕ) (xid : Triple) (w : Kept_branch) (by : ℕ) → own_at m n ≡ Some (xid, w) → w.mark ≡ None → Gets m w.timestamp key (got_as.Busy by) m'
    → Follows m (λ s. get_by s key (own_branch s n)) (detailed XA_RETRY detail.Busy) m'
get_busy m m' n key xid w by h e c =
    follows_by m m' (λ s. get_by s key (own_branch s n)) (detailed XA_RETRY detail.Busy) refl
    (λ s st.
    let x = finds m s xid w st (own_works m n xid w h).1 in
    let v = source key x.branch.timestamp s.branches in
    let busy = busy_of (is_busy x.branch.timestamp v) v.timestamp by v.value (answered m m' s xid w key (got_as.Busy by) st x c (λ q. cc q)) in (
      answer (detailed XA_RETRY detail.Busy) s,
      get_unmarked m s n key xid w st h e x ∙ ap (λ (o : Option Reply). unless o s (got s key xid x.branch v)) (busy_refuses x.branch.timestamp v busy),
      refl,
      λ recoverable. busy_stands m m' s xid w key by st x c,
    ))

-- an answered read is added to the reads
abbrev IsAnswered : Got → Type 0
IsAnswered g = (t from : ℕ) (key : List ℕ) (reads : List Answered) → reads_after g t key from reads ≡ read_by t key from ∷ reads

got_stands : (m m' : View) (s : State) (xid : Triple) (w : Kept_branch) (key : List ℕ) (g : Got) → StandsFor m s → working_at m.branches xid ≡ Some w → (x : IsWorking s xid w) → Gets m w.timestamp key g m' → IsAnswered g
    → IsRecoverable (got s key xid x.branch (source key x.branch.timestamp s.branches)).after → StandsFor m' (got s key xid x.branch (source key x.branch.timestamp s.branches)).after
got_stands m m' s xid w key g st h x c is recoverable =
    let b = x.branch in
    let v = source key b.timestamp s.branches in
    let op : Operation = Read_op key v.value v.timestamp in
    let reads : List Read = record { reader = b.timestamp; over = Key key v.timestamp } ∷ s.reads in
    let time = time_of s xid w x in
    let noted : RecordsStandFor (record { low = low_of s; writes = writes_in s.branches; reads = reads_after g w.timestamp key (seen key w.timestamp (writes_in s.branches)).from (map read_as s.reads) }) m'.records =
    c.records (history_of s) st.records (above_low m s xid w st x) in
    let added : reads_after g w.timestamp key (seen key w.timestamp (writes_in s.branches)).from (map read_as s.reads) ≡ map read_as reads =
    is w.timestamp (seen key w.timestamp (writes_in s.branches)).from key (map read_as s.reads)
    ∙ ap (λ (t : ℕ). read_by t key (seen key t (writes_in s.branches)).from ∷ map read_as s.reads) time
    ∙ ap (λ (y : ℕ). read_by b.timestamp key y ∷ map read_as s.reads) (ap (λ y. y.from) (sees m s key b.timestamp st)) in
    let moved : RecordsStandFor (record { low = low_of s; writes = writes_in s.branches; reads = map read_as reads }) m'.records =
    subst (λ (rs : List Answered). RecordsStandFor (record { low = low_of s; writes = writes_in s.branches; reads = rs }) m'.records) added noted in
    let same : writes_in (change (is_known_as xid) (having_done op) s.branches) ≡ writes_in s.branches = unwritten (is_known_as xid) (having_done op) (λ y. refl) s.branches in
    let records : RecordsStandFor (record { low = low_of s; writes = writes_in (change (is_known_as xid) (having_done op) s.branches); reads = map read_as reads }) m'.records =
    subst (λ (ws : List Written). RecordsStandFor (record { low = low_of s; writes = ws; reads = map read_as reads }) m'.records) (sym same) moved in
    done_stands m m' s xid op reads st c.same records recoverable

get_follows : (m m' : View) (n : ℕ) (key : List ℕ) (xid : Triple) (w : Kept_branch) (g : Got) (o : Option (List ℕ)) → own_at m n ≡ Some (xid, w) → w.mark ≡ None → Gets m w.timestamp key g m' → IsAnswered g → g ≢ got_as.Memory
    → ((b : Bool) (from : ℕ) (w : Option (List ℕ)) → g ≡ answer_by b from w → (b ≡ false) × (w ≡ o))
    → Follows m (λ s. get_by s key (own_branch s n)) (carrying (value_body o)) m'
get_follows m m' n key xid w g o h e c is some says =
    follows_by m m' (λ s. get_by s key (own_branch s n)) (carrying (value_body o)) refl
    (λ s st.
    let x = finds m s xid w st (own_works m n xid w h).1 in
    let v = source key x.branch.timestamp s.branches in
    let both = says (is_busy x.branch.timestamp v) v.timestamp v.value (answered m m' s xid w key g st x c some) in (
      got s key xid x.branch v,
      get_unmarked m s n key xid w st h e x ∙ ap (λ (r : Option Reply). unless r s (got s key xid x.branch v)) (busy_passes x.branch.timestamp v both.0),
      ap (λ (w : Option (List ℕ)). carrying (value_body w)) both.1,
      λ recoverable. got_stands m m' s xid w key g st (own_works m n xid w h).1 x c is recoverable,
    ))

pub get_value : (m m' : View) (n : ℕ) (key : List ℕ) (xid : Triple) (w : Kept_branch) (value : List ℕ) → own_at m n ≡ Some (xid, w) → w.mark ≡ None → Gets m w.timestamp key (got_as.Value value) m'
    → Follows m (λ s. get_by s key (own_branch s n)) (carrying (body.Value value)) m'
get_value m m' n key xid w value h e c =
    get_follows m m' n key xid w (got_as.Value value) (Some value) h e c (λ t from k reads. refl) (λ q. cc q) (λ b from w q. value_of b from w value q)

pub get_absent : (m m' : View) (n : ℕ) (key : List ℕ) (xid : Triple) (w : Kept_branch) → own_at m n ≡ Some (xid, w) → w.mark ≡ None → Gets m w.timestamp key got_as.Absent m'
    → Follows m (λ s. get_by s key (own_branch s n)) (carrying body.Absent) m'
get_absent m m' n key xid w h e c = get_follows m m' n key xid w got_as.Absent None h e c (λ t from k reads. refl) (λ q. cc q) (λ b from w q. absent_of b from w q)

pub get_stays : (m m' : View) (n : ℕ) (key : List ℕ) (xid : Triple) (w : Kept_branch) → own_at m n ≡ Some (xid, w) → Gets m w.timestamp key got_as.Memory m' → Stays m m'
get_stays m m' n key xid w h c s st =
    let x = finds m s xid w st (own_works m n xid w h).1 in stays_by m m' s st c.same (c.records (history_of s) st.records (above_low m s xid w st x))
