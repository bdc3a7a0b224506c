-- A manager that stands for a state, after a put or a delete.
use Rattle.std.proofs.Common.{◌≡◌, ◌≢◌, ℕ, ℤ, pos, ◌+◌, ◌&&◌, not, Bool, true, false, cond, List, ◌∷◌, map, Option, Some, None, refl, ap, sym, ◌∙◌, subst, arith}
use Rattle.std.specs.Prelude.{is_some, nat_lt, nat_le}
use Rattle.std.proofs.lemmas.Bool.Decides.{nat_tests}
use Rattle.xa_codes.specs.declared.codes.TheConstants.{XAER_INVAL, XAER_PROTO, XA_RBTRANSIENT}
use Rattle.xa_codes.specs.declared.detail.Detail.TheVariants as detail
use Rattle.xa_limits.specs.declared.TheConstants.{MOST_WRITES}
use Rattle.xa_xid.specs.Triple.{Triple}
use Rattle.mv_chain.specs.Accesses.{has_undecided, is_late, IsUnsettled}
use Rattle.mv_rules.specs.declared.answers.Put.{Put}
use Rattle.mv_rules.specs.declared.answers.Put.TheVariants as put_as
use Rattle.mv_rules.specs.Accesses.{undecided_keys, put_by, put_of, wrote}
use Rattle.mv_rules.specs.Records.{StandsFor as RecordsStandFor}
use Rattle.mv_rules.specs.Ties.{history_of, low_of, writes_in, read_as}
use Rattle.mv_rules.proofs.Ties.{one_lateness}
use Rattle.mv_rules.proofs.Moved.{stands_same}
use Rattle.mv_rules.proofs.Branches.{wrote_first}
use Rattle.mv_rules.proofs.Undecided.{at_work, unsettled}
use Rattle.xa_model.specs.State.{State, Operation, Wrote, is_known_as, own_branch, change, timestamp_of}
use Rattle.xa_model.specs.Source.{write_of, written_keys, is_late as is_late_among}
use Rattle.xa_model.specs.Answer.{Answer, plain, detailed, answer, unless, marked}
use Rattle.xa_model.specs.Data.{having_done, is_full, limit_refusal, came_late, written, if_late, put_from, put_by as put_row}
use Rattle.xa_model.specs.Invariants.Loggable.{IsRecoverable}
use Rattle.xa_branch.specs.declared.working.Working.{Working as Kept_branch}
use Rattle.xa_branch.specs.Branches.{working_at}
use Rattle.xa_branch.specs.Calls.{marked_with}
use Rattle.xa_branch.proofs.Looks.{IsWorking}
use Rattle.xa_manager.specs.View.{View, own_at}
use Rattle.xa_manager.specs.Stands.{StandsFor, Follows, Stays}
use Rattle.xa_manager.proofs.Looks.{finds, own_works, own_is, no_own, own_mark, time_of, open_fate, from_low}
use Rattle.xa_manager.proofs.Changed.{Puts, done_stands, stays_by}
use Rattle.xa_manager.proofs.Rows.{follows_by}

pub put_alone : (m : View) (n : ℕ) (key : List ℕ) (value : Option (List ℕ)) → own_at m n ≡ None → Follows m (λ s. put_row s key value (own_branch s n)) (plain XAER_PROTO) m
put_alone m n key value h =
    follows_by m m (λ s. put_row s key value (own_branch s n)) (plain XAER_PROTO) refl (λ s st. (answer (plain XAER_PROTO) s, ap (put_row s key value) (no_own m s n st h), refl, λ recoverable. st))

pub put_marked : (m : View) (n : ℕ) (key : List ℕ) (value : Option (List ℕ)) (xid : Triple) (w : Kept_branch) (code : ℤ) → own_at m n ≡ Some (xid, w) → w.mark ≡ Some code
    → Follows m (λ s. put_row s key value (own_branch s n)) (plain code) m
put_marked m n key value xid w code h e =
    follows_by m m (λ s. put_row s key value (own_branch s n)) (plain code) refl
    (λ s st.
    let x = finds m s xid w st (own_works m n xid w h).1 in (
      answer (plain code) s,
      ap (put_row s key value) (own_is m s n xid w st h x) ∙ ap (λ (o : Option ℤ). marked o s (put_from s key value xid x.branch)) (own_mark s xid w (Some code) x e),
      refl,
      λ recoverable. st,
    ))

-- an unmarked branch puts
put_unmarked : (m : View) (s : State) (n : ℕ) (key : List ℕ) (value : Option (List ℕ)) (xid : Triple) (w : Kept_branch) → StandsFor m s → own_at m n ≡ Some (xid, w) → w.mark ≡ None → (x : IsWorking s xid w)
    → put_row s key value (own_branch s n) ≡ put_from s key value xid x.branch
put_unmarked m s n key value xid w st h e x =
    ap (put_row s key value) (own_is m s n xid w st h x) ∙ ap (λ (o : Option ℤ). marked o s (put_from s key value xid x.branch)) (own_mark s xid w None x e)

judge_full : (full : Bool) (s : State) (a : Answer) → full ≡ true → unless (limit_refusal full) s a ≡ answer (detailed XAER_INVAL detail.Limit) s
judge_full full s a e = rw e refl

judge_rest : (full late : Bool) (s : State) (a b : Answer) (c : Bool) → full ≡ false → late ≡ c → unless (limit_refusal full) s (if_late late a b) ≡ cond c a b
judge_rest full late s a b true e h = rw (e, h) refl
judge_rest full late s a b false e h = rw (e, h) refl

-- what marking a late branch comes to
abbrev pub Marks : View → Triple → View → Type 0
Marks m xid m' = (s : State) → StandsFor m s → IsRecoverable (marked_with XA_RBTRANSIENT s xid) → StandsFor m' (marked_with XA_RBTRANSIENT s xid)

-- the branch's writes are open
open_at : (m : View) (s : State) (xid : Triple) (w : Kept_branch) → StandsFor m s → (x : IsWorking s xid w) → IsUnsettled w.timestamp (low_of s) (writes_in s.branches)
open_at m s xid w st x =
    subst (λ (t : ℕ). IsUnsettled t (low_of s) (writes_in s.branches)) (sym (time_of s xid w x))
    (unsettled xid x.branch (timestamp_of s.boot s.given + 1) (low_of s) s.branches st.recoverable.sound.descends x.found (open_fate s xid w x) (from_low s xid w x))

-- what a put answers, by whether the keys are used up and whether it is late
judged : (m m' : View) (s : State) (xid : Triple) (w : Kept_branch) (key : List ℕ) (value : Option (List ℕ)) (put : Put) → StandsFor m s → (x : IsWorking s xid w) → Puts m w.timestamp key value put m' → put ≢ put_as.Memory
    → put ≡ put_by (not (is_some (write_of key x.branch.operations)) && nat_le MOST_WRITES (written_keys x.branch.operations)) (is_late_among key x.branch.timestamp s.reads)
judged m m' s xid w key value put st x c some =
    let b = x.branch in
    let works = at_work xid b (timestamp_of s.boot s.given + 1) s.branches st.recoverable.sound.descends x.found (open_fate s xid w x) in
    c.answer (history_of s) st.records (open_at m s xid w st x) some
    ∙ ap (λ (t : ℕ). put_of (has_undecided key t (writes_in s.branches)) (undecided_keys t (writes_in s.branches)) (is_late key t (map read_as s.reads))) (time_of s xid w x)
    ∙ ap (λ (held : Bool). put_of held (undecided_keys b.timestamp (writes_in s.branches)) (is_late key b.timestamp (map read_as s.reads))) (works.held key)
    ∙ ap (λ (count : ℕ). put_of (is_some (write_of key b.operations)) count (is_late key b.timestamp (map read_as s.reads))) works.count
    ∙ ap (λ (late : Bool). put_of (is_some (write_of key b.operations)) (written_keys b.operations) late) (one_lateness key b.timestamp s.reads)

full_by : (old : Bool) (keys : ℕ) → (not old && not (nat_lt keys MOST_WRITES)) ≡ (not old && nat_le MOST_WRITES keys)
full_by old keys = ap (λ (b : Bool). not old && b) (grind (arith, nat_tests))

limit_of : (a b : Bool) → put_as.Limit ≡ put_by a b → a ≡ true
limit_of true b h = refl
limit_of false true h = absurd (cc h)
limit_of false false h = absurd (cc h)

late_of : (a b : Bool) → put_as.Late ≡ put_by a b → (a ≡ false) × (b ≡ true)
late_of true b h = absurd (cc h)
late_of false true h = (refl, refl)
late_of false false h = absurd (cc h)

done_of : (a b : Bool) → put_as.Done ≡ put_by a b → (a ≡ false) × (b ≡ false)
done_of true b h = absurd (cc h)
done_of false true h = absurd (cc h)
done_of false false h = (refl, refl)

pub put_full : (m m' : View) (n : ℕ) (key : List ℕ) (value : Option (List ℕ)) (xid : Triple) (w : Kept_branch) → own_at m n ≡ Some (xid, w) → w.mark ≡ None → Puts m w.timestamp key value put_as.Limit m'
    → Follows m (λ s. put_row s key value (own_branch s n)) (detailed XAER_INVAL detail.Limit) m'
put_full m m' n key value xid w h e c =
    follows_by m m' (λ s. put_row s key value (own_branch s n)) (detailed XAER_INVAL detail.Limit) refl
    (λ s st.
    let x = finds m s xid w st (own_works m n xid w h).1 in
    let ops = x.branch.operations in
    let full = limit_of (not (is_some (write_of key ops)) && nat_le MOST_WRITES (written_keys ops)) (is_late_among key x.branch.timestamp s.reads) (judged m m' s xid w key value put_as.Limit st x c (λ q. cc q)) in (
      answer (detailed XAER_INVAL detail.Limit) s,
      put_unmarked m s n key value xid w st h e x ∙ judge_full (is_full key ops) s _ (full_by (is_some (write_of key ops)) (written_keys ops) ∙ full),
      refl,
      λ recoverable. stays_by m m' s st c.same (c.records (history_of s) st.records (open_at m s xid w st x)),
    ))

-- the branch is marked after the put was answered
late_stands : (m mid m' : View) (s : State) (xid : Triple) (w : Kept_branch) (key : List ℕ) (value : Option (List ℕ)) → StandsFor m s → (x : IsWorking s xid w) → Puts m w.timestamp key value put_as.Late mid
    → Marks mid xid m' → IsRecoverable (came_late s xid).after → StandsFor m' (came_late s xid).after
late_stands m mid m' s xid w key value st x c k recoverable = k s (stays_by m mid s st c.same (c.records (history_of s) st.records (open_at m s xid w st x))) recoverable

pub put_late : (m mid m' : View) (n : ℕ) (key : List ℕ) (value : Option (List ℕ)) (xid : Triple) (w : Kept_branch) → own_at m n ≡ Some (xid, w) → w.mark ≡ None → Puts m w.timestamp key value put_as.Late mid
    → Marks mid xid m' → Follows m (λ s. put_row s key value (own_branch s n)) (detailed XA_RBTRANSIENT detail.Late) m'
put_late m mid m' n key value xid w h e c k =
    follows_by m m' (λ s. put_row s key value (own_branch s n)) (detailed XA_RBTRANSIENT detail.Late) refl
    (λ s st.
    let x = finds m s xid w st (own_works m n xid w h).1 in
    let ops = x.branch.operations in
    let both = late_of (not (is_some (write_of key ops)) && nat_le MOST_WRITES (written_keys ops)) (is_late_among key x.branch.timestamp s.reads) (judged m mid s xid w key value put_as.Late st x c (λ q. cc q)) in
    let free = full_by (is_some (write_of key ops)) (written_keys ops) ∙ both.0 in (
      came_late s xid,
      put_unmarked m s n key value xid w st h e x ∙ judge_rest (is_full key ops) (is_late_among key x.branch.timestamp s.reads) s (came_late s xid) (written s key value xid) true free both.1,
      refl,
      λ recoverable. late_stands m mid m' s xid w key value st x c k recoverable,
    ))

written_stands : (m m' : View) (s : State) (xid : Triple) (w : Kept_branch) (key : List ℕ) (value : Option (List ℕ)) → StandsFor m s → working_at m.branches xid ≡ Some w → (x : IsWorking s xid w) → Puts m w.timestamp key value put_as.Done m'
    → IsRecoverable (written s key value xid).after → StandsFor m' (written s key value xid).after
written_stands m m' s xid w key value st h x c recoverable =
    let b = x.branch in
    let limit = timestamp_of s.boot s.given + 1 in
    let op : Operation = Wrote key value in
    let added : RecordsStandFor (record { low = low_of s; writes = wrote w.timestamp key value ∷ writes_in s.branches; reads = map read_as s.reads }) m'.records = c.records (history_of s) st.records (open_at m s xid w st x) in
    let there : RecordsStandFor (record { low = low_of s; writes = wrote b.timestamp key value ∷ writes_in s.branches; reads = map read_as s.reads }) m'.records =
    subst (λ (t : ℕ). RecordsStandFor (record { low = low_of s; writes = wrote t key value ∷ writes_in s.branches; reads = map read_as s.reads }) m'.records) (time_of s xid w x) added in
    let records : RecordsStandFor (record { low = low_of s; writes = writes_in (change (is_known_as xid) (having_done op) s.branches); reads = map read_as s.reads }) m'.records =
    stands_same (low_of s) (wrote b.timestamp key value ∷ writes_in s.branches) (writes_in (change (is_known_as xid) (having_done op) s.branches)) (map read_as s.reads) m'.records
    (wrote_first xid b key value limit s.branches st.recoverable.sound.descends x.found (open_fate s xid w x)) there in
    done_stands m m' s xid op s.reads st c.same records recoverable

pub put_follows : (m m' : View) (n : ℕ) (key : List ℕ) (value : Option (List ℕ)) (xid : Triple) (w : Kept_branch) → own_at m n ≡ Some (xid, w) → w.mark ≡ None → Puts m w.timestamp key value put_as.Done m'
    → Follows m (λ s. put_row s key value (own_branch s n)) (plain (pos 0)) m'
put_follows m m' n key value xid w h e c =
    follows_by m m' (λ s. put_row s key value (own_branch s n)) (plain (pos 0)) refl
    (λ s st.
    let x = finds m s xid w st (own_works m n xid w h).1 in
    let ops = x.branch.operations in
    let both = done_of (not (is_some (write_of key ops)) && nat_le MOST_WRITES (written_keys ops)) (is_late_among key x.branch.timestamp s.reads) (judged m m' s xid w key value put_as.Done st x c (λ q. cc q)) in
    let free = full_by (is_some (write_of key ops)) (written_keys ops) ∙ both.0 in (
      written s key value xid,
      put_unmarked m s n key value xid w st h e x ∙ judge_rest (is_full key ops) (is_late_among key x.branch.timestamp s.reads) s (came_late s xid) (written s key value xid) false free both.1,
      refl,
      λ recoverable. written_stands m m' s xid w key value st (own_works m n xid w h).1 x c recoverable,
    ))

pub put_stays : (m m' : View) (n : ℕ) (key : List ℕ) (value : Option (List ℕ)) (xid : Triple) (w : Kept_branch) → own_at m n ≡ Some (xid, w) → Puts m w.timestamp key value put_as.Memory m' → Stays m m'
put_stays m m' n key value xid w h c s st =
    let x = finds m s xid w st (own_works m n xid w h).1 in stays_by m m' s st c.same (c.records (history_of s) st.records (open_at m s xid w st x))
