-- Branches that are committed one by one: their last writes are the same, whether those that were written over are left out
-- at once or at the end.
use Rattle.std.proofs.Common.{◌≡◌, ◌⊎◌, ℕ, ◌==◌, Bool, true, false, not, ◌||◌, cond, List, [], ◌∷◌, Some, refl, ap, sym, ◌∙◌, arith}
use Rattle.std.specs.Prelude.{filter, find, nat_lt}
use Rattle.std.specs.List.{AllByRecursion}
use Rattle.std.proofs.lemmas.Bool.Decides.{nat_tests}
use Rattle.xa_codes.specs.declared.write.Write.{Write}
use Rattle.xa_xid.specs.Triple.{Triple}
use Rattle.xa_model.specs.State.{without}
use Rattle.xa_model.specs.Durable.{CommittedBranch, PreparedBranch, Pairwise, insert, commits_before, prepares_before, is_written_in, is_written, not_overwritten, with_writes, last_writes, commit}
use Rattle.xa_model.specs.Fold.{Reading, prepare, commit_writes, prepared_as, is_used}
use Rattle.xa_model.proofs.Lists.{found_all, without_all}
use Rattle.xa_model.proofs.Inserts.{all_imply, all_both, all_filtered, filter_all, insert_all, insert_pairwise, found_others, both_ways}
use Rattle.xa_model.proofs.LastWrites.{last_written, last_are_last, last_same, last_all}
use Rattle.xa_model.proofs.Tests.{either_way, apart_back, less_apart, commits_transitive, used_apart, still_used, now_used}
use Rattle.xa_model.proofs.Readings.{IsRead}
use Rattle.xa_recovery.specs.Rebuilding.{Commits}

-- without the keys of one more branch
abbrev drop : CommittedBranch → List Write → List Write
drop b ws = filter (λ w. not (is_written_in w.key b.writes)) ws

swapped : (a b c : Bool) → (a || (b || c)) ≡ (b || (a || c))
swapped true true c = refl
swapped true false c = refl
swapped false b c = refl

written_by : (key : List ℕ) (b c : CommittedBranch) (bs cs : List CommittedBranch) (d : Bool) → is_written key cs ≡ (is_written_in key b.writes || is_written key bs)
    → is_written key (cond d (c ∷ cs) (b ∷ c ∷ bs)) ≡ (is_written_in key b.writes || is_written key (c ∷ bs))
written_by key b c bs cs true rest = ap (λ q. is_written_in key c.writes || q) rest ∙ swapped (is_written_in key c.writes) (is_written_in key b.writes) (is_written key bs)
written_by key b c bs cs false rest = refl

written_inserted : (key : List ℕ) (b : CommittedBranch) (bs : List CommittedBranch) → is_written key (insert commits_before b bs) ≡ (is_written_in key b.writes || is_written key bs)
written_inserted key b [] = refl
written_inserted key b (c ∷ bs) = written_by key b c bs (insert commits_before b bs) (commits_before c b) (written_inserted key b bs)

kept_by : (b : CommittedBranch) (w : Write) (ws vs : List Write) (c d e : Bool) → c ≡ (d || e) → is_written_in w.key b.writes ≡ d → ws ≡ drop b vs → cond (not c) (w ∷ ws) ws ≡ drop b (cond (not e) (w ∷ vs) vs)
kept_by b w ws vs c true true is here rest = let all : c ≡ true = is in rw all rest
kept_by b w ws vs c true false is here rest = let all : c ≡ true = is in rw (all, here) rest
kept_by b w ws vs c false true is here rest = let all : c ≡ true = is in rw all rest
kept_by b w ws vs c false false is here rest = let none : c ≡ false = is in rw (none, here) (ap (λ us. w ∷ us) rest)

left_inserted : (b : CommittedBranch) (bs : List CommittedBranch) (ws : List Write) → not_overwritten (insert commits_before b bs) ws ≡ drop b (not_overwritten bs ws)
left_inserted b bs [] = refl
left_inserted b bs (w ∷ ws) =
    kept_by b w (not_overwritten (insert commits_before b bs) ws) (not_overwritten bs ws) (is_written w.key (insert commits_before b bs)) (is_written_in w.key b.writes) (is_written w.key bs)
    (written_inserted w.key b bs) refl (left_inserted b bs ws)

-- last writes are left by last writes
still_left : (later : List CommittedBranch) (ws : List Write) → not_overwritten (last_writes later) (not_overwritten later ws) ≡ not_overwritten later ws
still_left later ws =
    filter_all (λ w. not (is_written w.key (last_writes later))) (not_overwritten later ws)
    (all_filtered (λ w. not (is_written w.key (last_writes later)) ≡ true) (λ w. not (is_written w.key later)) (λ w e. ap not (last_written w.key later) ∙ e) ws)

same_left : (later : List CommittedBranch) (ws : List Write) → not_overwritten (last_writes later) ws ≡ not_overwritten later ws
same_left later [] = refl
same_left later (w ∷ ws) =
    let here : is_written w.key (last_writes later) ≡ is_written w.key later = last_written w.key later in
    let rest : not_overwritten (last_writes later) ws ≡ not_overwritten later ws = same_left later ws in
    rw (here, rest) refl

commit_behind : (b : CommittedBranch) (t : ℕ) (ws : List Write) (bs : List CommittedBranch) → nat_lt t b.timestamp ≡ true → not_overwritten bs ws ≡ ws
    → commit b (with_writes t ws bs) ≡ with_writes t (drop b ws) (commit b bs)
commit_behind b t [] bs below left = refl
commit_behind b t (w ∷ ws) bs below left =
    let here : not_overwritten (insert commits_before b bs) (w ∷ ws) ≡ drop b (w ∷ ws) = left_inserted b bs (w ∷ ws) ∙ ap (drop b) left in
    rw (below, here) refl

insert_first : (b : CommittedBranch) (bs : List CommittedBranch) → AllByRecursion (λ c. nat_lt c.timestamp b.timestamp ≡ false) bs → insert commits_before b bs ≡ b ∷ bs
insert_first b [] h = refl
insert_first b (c ∷ bs) h = let here : nat_lt c.timestamp b.timestamp ≡ false = h.0 in rw here refl

not_below : (t u v : ℕ) → nat_lt t v ≡ false → nat_lt t u ≡ true → nat_lt u v ≡ false
not_below t u v e f = grind (arith, nat_tests)

commit_before : (b : CommittedBranch) (bs : List CommittedBranch) → AllByRecursion (λ c. nat_lt c.timestamp b.timestamp ≡ false) bs → last_writes (b ∷ bs) ≡ commit b (last_writes bs)
commit_before b bs h =
    let first : insert commits_before b (last_writes bs) ≡ b ∷ last_writes bs = insert_first b (last_writes bs) (last_all (λ u. nat_lt u b.timestamp ≡ false) bs h) in
    let left : not_overwritten (last_writes bs) b.writes ≡ not_overwritten bs b.writes = same_left bs b.writes in
    let same : last_writes (last_writes bs) ≡ last_writes bs = last_same (last_writes bs) (last_are_last bs) in
    let here : last_writes (b ∷ last_writes bs) ≡ last_writes (b ∷ bs) = ap (λ ws. with_writes b.timestamp ws (last_writes (last_writes bs))) left ∙ ap (λ cs. with_writes b.timestamp (not_overwritten bs b.writes) cs) same in
    sym (ap last_writes first ∙ here)

commit_by : (b c : CommittedBranch) (later : List CommittedBranch) (d : Bool) → nat_lt c.timestamp b.timestamp ≡ d → AllByRecursion (λ z. commits_before c z ≡ true) later
    → last_writes (insert commits_before b later) ≡ commit b (last_writes later)
    → last_writes (cond d (c ∷ insert commits_before b later) (b ∷ c ∷ later)) ≡ commit b (last_writes (c ∷ later))
commit_by b c later true e behind rest =
    ap (λ ws. with_writes c.timestamp ws (last_writes (insert commits_before b later))) (left_inserted b later c.writes)
    ∙ ap (λ cs. with_writes c.timestamp (drop b (not_overwritten later c.writes)) cs) rest
    ∙ sym (commit_behind b c.timestamp (not_overwritten later c.writes) (last_writes later) e (still_left later c.writes))
commit_by b c later false e behind rest =
    commit_before b (c ∷ later) (e, all_imply (λ z. commits_before c z ≡ true) (λ z. nat_lt z.timestamp b.timestamp ≡ false) (λ z f. not_below c.timestamp z.timestamp b.timestamp e f) later behind)

pub commit_last : (b : CommittedBranch) (bs : List CommittedBranch) → Pairwise commits_before bs → last_writes (insert commits_before b bs) ≡ commit b (last_writes bs)
commit_last b [] h = refl
commit_last b (c ∷ later) h = commit_by b c later (commits_before c b) refl h.0 (commit_last b later h.1)

-- what is committed, through what records do

abbrev pub committed : ℕ → List Write → Reading → Reading
committed t ws x = record { durable = commit_writes t ws x.durable; is_snapshot = x.is_snapshot; timestamps = t ∷ x.timestamps }

pub commits_more : (t : ℕ) (ws : List Write) (bs : List CommittedBranch) (x : Reading) → IsRead x → Commits bs x → is_used t x.timestamps ≡ false
    → Commits (insert commits_before (record { timestamp = t; writes = ws }) bs) (committed t ws x)
commits_more t ws bs x read h fresh =
    let b : CommittedBranch = record { timestamp = t; writes = ws } in
    record {
      ordered = insert_pairwise commits_before commits_transitive b bs
          (all_imply (λ c. is_used c.timestamp x.timestamps ≡ true) (λ c. (commits_before c b ≡ true) ⊎ (commits_before b c ≡ true)) (λ c used. either_way c.timestamp t (used_apart c.timestamp t x.timestamps used fresh)) bs h.used)
          h.ordered;
      last = commit_last b bs h.ordered ∙ ap (commit b) h.last;
      used = insert_all (λ c. is_used c.timestamp (t ∷ x.timestamps) ≡ true) commits_before b bs (now_used t x.timestamps)
          (all_imply (λ c. is_used c.timestamp x.timestamps ≡ true) (λ c. is_used c.timestamp (t ∷ x.timestamps) ≡ true) (λ c used. still_used t c.timestamp x.timestamps used) bs h.used);
      apart = insert_all (λ c. AllByRecursion (λ p. (c.timestamp == p.timestamp) ≡ false) x.durable.prepared) commits_before b bs
          (all_imply (λ p. is_used p.timestamp x.timestamps ≡ true) (λ p. (t == p.timestamp) ≡ false) (λ p used. apart_back p.timestamp t (used_apart p.timestamp t x.timestamps used fresh)) x.durable.prepared read.prepared)
          h.apart;
    }

abbrev pub prepared : Triple → ℕ → List Write → Reading → Reading
prepared xid t ws x = record { durable = prepare xid t ws x.durable; is_snapshot = x.is_snapshot; timestamps = t ∷ x.timestamps }

pub commits_prepared : (xid : Triple) (t : ℕ) (ws : List Write) (bs : List CommittedBranch) (x : Reading) → Commits bs x → is_used t x.timestamps ≡ false → Commits bs (prepared xid t ws x)
commits_prepared xid t ws bs x h fresh =
    let p : PreparedBranch = record { xid = xid; timestamp = t; writes = ws } in
    record {
      ordered = h.ordered;
      last = h.last;
      used = all_imply (λ c. is_used c.timestamp x.timestamps ≡ true) (λ c. is_used c.timestamp (t ∷ x.timestamps) ≡ true) (λ c used. still_used t c.timestamp x.timestamps used) bs h.used;
      apart = all_both (λ b. AllByRecursion (λ q. (b.timestamp == q.timestamp) ≡ false) x.durable.prepared) (λ b. is_used b.timestamp x.timestamps ≡ true)
          (λ b. AllByRecursion (λ q. (b.timestamp == q.timestamp) ≡ false) (insert prepares_before p x.durable.prepared))
          (λ b others used. insert_all (λ q. (b.timestamp == q.timestamp) ≡ false) prepares_before p x.durable.prepared (used_apart b.timestamp t x.timestamps used fresh) others) bs h.apart h.used;
    }

-- a branch in doubt is no longer
abbrev pub settled : Triple → Reading → Reading
settled xid x = record { durable = record x.durable { prepared = without (prepared_as xid) x.durable.prepared }; is_snapshot = x.is_snapshot; timestamps = x.timestamps }

pub commits_left : (xid : Triple) (bs : List CommittedBranch) (x : Reading) → Commits bs x → Commits bs (settled xid x)
commits_left xid bs x h = record {
  ordered = h.ordered;
  last = h.last;
  used = h.used;
  apart = all_imply (λ b. AllByRecursion (λ p. (b.timestamp == p.timestamp) ≡ false) x.durable.prepared) (λ b. AllByRecursion (λ p. (b.timestamp == p.timestamp) ≡ false) (without (prepared_as xid) x.durable.prepared))
      (λ b all. without_all (λ p. (b.timestamp == p.timestamp) ≡ false) (prepared_as xid) x.durable.prepared all) bs h.apart;
}

-- and its writes are committed
abbrev pub also : ℕ → List Write → Reading → Reading
also t ws x = record { durable = commit_writes t ws x.durable; is_snapshot = x.is_snapshot; timestamps = x.timestamps }

pub commits_completed : (xid : Triple) (p : PreparedBranch) (bs : List CommittedBranch) (x : Reading) → IsRead x → Commits bs x → find (prepared_as xid) x.durable.prepared ≡ Some p
    → Commits (insert commits_before (record { timestamp = p.timestamp; writes = p.writes }) bs) (also p.timestamp p.writes (settled xid x))
commits_completed xid p bs x read h found =
    let b : CommittedBranch = record { timestamp = p.timestamp; writes = p.writes } in
    let left = commits_left xid bs x h in
    record {
      ordered = insert_pairwise commits_before commits_transitive b bs
          (all_imply (λ c. AllByRecursion (λ q. (c.timestamp == q.timestamp) ≡ false) x.durable.prepared) (λ c. (commits_before c b ≡ true) ⊎ (commits_before b c ≡ true))
          (λ c all. either_way c.timestamp p.timestamp (found_all (λ q. (c.timestamp == q.timestamp) ≡ false) (prepared_as xid) p x.durable.prepared all found)) bs h.apart)
          h.ordered;
      last = commit_last b bs h.ordered ∙ ap (commit b) h.last;
      used = insert_all (λ c. is_used c.timestamp x.timestamps ≡ true) commits_before b bs (found_all (λ q. is_used q.timestamp x.timestamps ≡ true) (prepared_as xid) p x.durable.prepared read.prepared found) h.used;
      apart = insert_all (λ c. AllByRecursion (λ q. (c.timestamp == q.timestamp) ≡ false) (without (prepared_as xid) x.durable.prepared)) commits_before b bs
          (found_others (λ y z. (y.timestamp == z.timestamp) ≡ false) (prepared_as xid) p x.durable.prepared
          (both_ways (λ y z. (y.timestamp == z.timestamp) ≡ false) prepares_before (λ y z less. less_apart y.timestamp z.timestamp less) x.durable.prepared read.durable.prepared) found)
          left.apart;
    }
