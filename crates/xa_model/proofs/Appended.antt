-- One record more: the log that backs a state, and the record that the state logs, back what comes of it.
use Rattle.std.proofs.Common.{◌≡◌, ℕ, ◌+◌, ◌<◌, ◌≤◌, ◌==◌, true, false, cond, Ok, Err, List, [], ◌∷◌, ◌++◌, length, Some, refl, ap, sym, ◌∙◌, subst, arith}
use Rattle.std.specs.List.{AllByRecursion}
use Rattle.std.proofs.lemmas.Bool.Decides.{nat_tests}
use Rattle.xa_codes.specs.declared.direction.Direction.TheVariants as direction
use Rattle.xa_codes.specs.declared.write.Write.{Write}
use Rattle.xa_record.specs.Limits.{IsRecord}
use Rattle.xa_record.specs.declared.record.Record.{Record}
use Rattle.xa_record.specs.declared.record.Record.TheVariants as logged
use Rattle.xa_xid.specs.Triple.{Triple}
use Rattle.xa_model.specs.State.{State, Branch, Phase, Working, Prepared, Committed, is_known_as, known_of, change, timestamp_of, is_working}
use Rattle.xa_model.specs.Phases.{as_prepared, as_committed, prepared_phase}
use Rattle.xa_model.specs.Invariants.Sound.{IsSound}
use Rattle.xa_model.specs.Durable.{durable}
use Rattle.xa_model.specs.Fold.{Reading, read, reading, unread, fits, fold, apply, is_used, timestamps_with, size_of, sizes}
use Rattle.xa_model.specs.Logging.{applied}
use Rattle.xa_model.specs.Invariants.MayLog.{IsIdle, MayLog}
use Rattle.xa_model.specs.Invariants.Loggable.{MayBeLast, is_boot}
use Rattle.xa_model.specs.Invariants.Backing.{IsNew, Backs}
use Rattle.xa_model.proofs.Inserts.{all_front, all_back, all_imply}
use Rattle.xa_model.proofs.Splits.{all_append}
use Rattle.xa_model.proofs.LogSizes.{sizes-append}
use Rattle.xa_model.proofs.Folds.{one_more}
use Rattle.xa_model.proofs.Times.{known_below}
use Rattle.xa_model.proofs.Applied.{IsAmong, among, idle_branch}
use Rattle.xa_model.proofs.AppliedAll.{applied_changes, applied_logged}
use Rattle.xa_model.proofs.AppliedDecisions.{applied_lasts}
use Rattle.xa_model.proofs.LoggedOrder.{LogsOn, in_order}
use Rattle.xa_model.proofs.Newer.{AreUnused, changed_unused, left_unused, committed_still}

-- what is read of one record more
reading_more : (x : Reading) (rs : List Record) (r : Record) → reading x (rs ++ r ∷ []) ≡ read r (reading x rs)
reading_more x [] r = refl
reading_more x (q ∷ rs) r = reading_more (read q x) rs r

-- the log's end

applied_end : (s : State) (r : Record) → is_boot r ≡ false → MayLog s r → (applied r s).end ≡ s.end + size_of r
applied_end s (logged.Opened boot) e may = absurd (cc e)
applied_end s (logged.Prepared xid t ws) e may = refl
applied_end s (logged.Committed xid t ws) e may = refl
applied_end s (logged.Completed xid direction.Commit) e may = refl
applied_end s (logged.Completed xid direction.Rollback) e may = refl
applied_end s (logged.Decided xid direction.Commit) e may = refl
applied_end s (logged.Decided xid direction.Rollback) e may = refl
applied_end s (logged.Forgotten xid) e may = refl
applied_end s (logged.Base t ws) e may = absurd may
applied_end s (logged.Held xid t ws) e may = absurd may
applied_end s (logged.Known xid direction) e may = absurd may

more_end : (rs : List Record) (r : Record) (end before : ℕ) → before ≡ 8 + sizes rs → end ≡ before + size_of r → end ≡ 8 + sizes (rs ++ r ∷ [])
more_end rs r end before h e =
    let both : sizes (rs ++ r ∷ []) ≡ sizes rs + sizes (r ∷ []) = sizes-append rs (r ∷ []) in
    let one : sizes (r ∷ []) ≡ size_of r + 0 = refl in
    omega (arith, both, one, h, e)

-- boots

applied_current : (s : State) (r : Record) → is_boot r ≡ false → (applied r s).logged_boot ≡ (applied r s).boot → s.logged_boot ≡ s.boot
applied_current s r other h = sym (applied_logged s r other) ∙ h ∙ ap (λ (t : State). t.boot) (applied_changes s r)

-- the timestamp of the record's branch is no other branch's

prepared_works : (p : Phase) → is_working (prepared_phase p) ≡ true → ⊥
prepared_works (Working xid work) e = cc e
prepared_works (Prepared xid) e = cc e
prepared_works Committed e = cc e

other_unused : (t u : ℕ) (ts : List ℕ) → (t == u) ≡ false → is_used u ts ≡ false → is_used u (t ∷ ts) ≡ false
other_unused t u ts e h = rw (e, h) refl

others_unused : (t : ℕ) (ts : List ℕ) (bs : List Branch) → AllByRecursion (λ (c : Branch). (t == c.timestamp) ≡ false) bs → AreUnused ts bs
    → AreUnused (t ∷ ts) bs
others_unused t ts [] other h = tt
others_unused t ts (b ∷ bs) other h = ((λ works. other_unused t b.timestamp ts other.0 (h.0 works)), others_unused t ts bs other.1 h.1)

less_apart : (t u : ℕ) → t < u → (t == u) ≡ false
less_apart t u h = grind (arith, nat_tests)

more_apart : (t u : ℕ) → u < t → (t == u) ≡ false
more_apart t u h = grind (arith, nat_tests)

settled_unused : (s : State) (xid : Triple) (b : Branch) (f : Branch → Branch) (ts : List ℕ) → IsAmong s xid b
    → ((c : Branch) → is_working (f c).phase ≡ true → ⊥) → AreUnused ts s.branches
    → AreUnused (b.timestamp ∷ ts) (change (is_known_as xid) f s.branches)
settled_unused s xid b f ts k gone h =
    let whole : AreUnused ts (k.here.front ++ b ∷ k.here.back) = subst (AreUnused ts) k.here.whole h in
    let back = all_back (λ (c : Branch). is_working c.phase ≡ true → is_used c.timestamp ts ≡ false) k.here.front (b ∷ k.here.back) whole in
    let front = all_front (λ (c : Branch). is_working c.phase ≡ true → is_used c.timestamp ts ≡ false) k.here.front (b ∷ k.here.back) whole in
    let above = all_imply (λ (c : Branch). b.timestamp < c.timestamp) (λ (c : Branch). (b.timestamp == c.timestamp) ≡ false)
    (λ c less. less_apart b.timestamp c.timestamp less) k.here.front k.above in
    let below = all_imply (λ (c : Branch). c.timestamp < b.timestamp) (λ (c : Branch). (b.timestamp == c.timestamp) ≡ false)
    (λ c less. more_apart b.timestamp c.timestamp less) k.here.back k.below in
    subst (AreUnused (b.timestamp ∷ ts)) (sym (k.here.changed f))
    (all_append (λ (c : Branch). is_working c.phase ≡ true → is_used c.timestamp (b.timestamp ∷ ts) ≡ false) k.here.front (f b ∷ k.here.back)
    (others_unused b.timestamp ts k.here.front above front)
    ((λ works. absurd (gone b works)), others_unused b.timestamp ts k.here.back below back.1))

-- what is new to the log stays so

record IsAlike (s t : State) : Type 0 where
  boot : t.boot ≡ s.boot
  given : t.given ≡ s.given

stay_given : (s t : State) (ts : List ℕ) → IsAlike s t → AllByRecursion (λ u. u ≤ timestamp_of s.boot s.given) ts
    → AllByRecursion (λ u. u ≤ timestamp_of t.boot t.given) ts
stay_given s t ts k h =
    all_imply (λ u. u ≤ timestamp_of s.boot s.given) (λ u. u ≤ timestamp_of t.boot t.given) (λ u less. omega (arith, less, k.boot, k.given)) ts h

one_given : (s : State) (xid : Triple) (b : Branch) → IsSound s → known_of s.branches xid ≡ Some b → b.timestamp ≤ timestamp_of s.boot s.given
one_given s xid b h found =
    let less : b.timestamp < timestamp_of s.boot s.given + 1 = known_below xid b
    (timestamp_of s.boot s.given + 1) s.branches h.descends found in omega (arith, less)

-- a branch at work is prepared, or committed
settled_new : (s t : State) (xid : Triple) (f : Branch → Branch) (time : ℕ) (ws : List Write) (ts : List ℕ) → IsSound s → IsIdle s xid time ws
    → ((c : Branch) → is_working (f c).phase ≡ true → ⊥)
    → t.branches ≡ change (is_known_as xid) f s.branches → IsAlike s t → IsNew s ts → IsNew t (time ∷ ts)
settled_new s t xid f time ws ts h idle gone same alike new =
    let i = idle_branch s xid time ws idle in
    let all : AreUnused (time ∷ ts) (change (is_known_as xid) f s.branches) =
    subst (λ u. AreUnused (u ∷ ts) (change (is_known_as xid) f s.branches)) i.time
    (settled_unused s xid i.branch f ts (among s xid i.branch h i.found) gone new.unused) in
    record {
      given = stay_given s t (time ∷ ts) alike (subst (λ u. u ≤ timestamp_of s.boot s.given) i.time (one_given s xid i.branch h i.found), new.given);
      unused = subst (AreUnused (time ∷ ts)) (sym same) all;
    }

-- a prepared branch is completed
completed_new : (s t : State) (ts : List ℕ) → AreUnused ts t.branches → IsAlike s t → IsNew s ts → IsNew t ts
completed_new s t ts unused alike new = record { given = stay_given s t ts alike new.given; unused = unused }

applied_new : (s : State) (r : Record) (ts : List ℕ) → IsSound s → is_boot r ≡ false → MayLog s r → IsNew s ts
    → IsNew (applied r s) (timestamps_with r ts)
applied_new s (logged.Opened boot) ts h e may new = absurd (cc e)
applied_new s (logged.Prepared xid t ws) ts h e may new =
    settled_new s (applied (logged.Prepared xid t ws) s) xid as_prepared t ws ts h may (λ c works. prepared_works c.phase works) refl
    (record { boot = refl; given = refl }) new
applied_new s (logged.Committed xid t ws) ts h e may new =
    settled_new s (applied (logged.Committed xid t ws) s) xid as_committed t ws ts h may (λ c works. cc works) refl
    (record { boot = refl; given = refl }) new
applied_new s (logged.Completed xid direction.Commit) ts h e may new =
    completed_new s _ ts (changed_unused xid as_committed committed_still ts s.branches new.unused) (record { boot = refl; given = refl }) new
applied_new s (logged.Completed xid direction.Rollback) ts h e may new =
    completed_new s _ ts (left_unused xid ts s.branches new.unused) (record { boot = refl; given = refl }) new
applied_new s (logged.Decided xid direction.Commit) ts h e may new =
    completed_new s _ ts (changed_unused xid as_committed committed_still ts s.branches new.unused) (record { boot = refl; given = refl }) new
applied_new s (logged.Decided xid direction.Rollback) ts h e may new =
    completed_new s _ ts (left_unused xid ts s.branches new.unused) (record { boot = refl; given = refl }) new
applied_new s (logged.Forgotten xid) ts h e may new = completed_new s _ ts new.unused (record { boot = refl; given = refl }) new
applied_new s (logged.Base t ws) ts h e may new = absurd may
applied_new s (logged.Held xid t ws) ts h e may new = absurd may
applied_new s (logged.Known xid direction) ts h e may new = absurd may

-- a record that is kept
pub appended_backed : (rs : List Record) (s : State) (r : Record) → LogsOn s → Backs rs s → MayBeLast s r → is_boot r ≡ false
    → Backs (rs ++ r ∷ []) (applied r s)
appended_backed rs s r h k last e =
    let fit : fits r (reading unread rs) ≡ true = in_order rs s r h k last in
    let more : fold (rs ++ r ∷ []) ≡ Ok (apply r (durable s)) =
    one_more rs r (durable s) k.lasts ∙ ap (λ c. cond c (Ok (apply r (durable s))) (Err (length rs))) fit in
    record {
      records = all_append IsRecord rs (r ∷ []) k.records (last.limits, tt);
      lasts = more ∙ ap (λ d. Ok d) (sym (applied_lasts s r h.sound last.may));
      end = more_end rs r (applied r s).end s.end k.end (applied_end s r e last.may);
      new = λ current. subst (λ (x : Reading). IsNew (applied r s) x.timestamps) (sym (reading_more unread rs r))
          (applied_new s r (reading unread rs).timestamps h.sound e last.may (k.new (applied_current s r e current)));
    }
