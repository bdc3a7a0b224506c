-- What a record does keeps the one form of what lasts.
use Rattle.std.proofs.Common.{◌≡◌, ◌⊎◌, ℕ, ◌+◌, ◌<◌, ◌==◌, Bool, true, false, not, cond, List, [], ◌∷◌, Option, Some, None, refl, ap, subst, ◌∙◌}
use Rattle.std.specs.Prelude.{find}
use Rattle.std.specs.List.{AllByRecursion, list_all}
use Rattle.std.specs.Ordering.{is_lt}
use Rattle.std.proofs.lemmas.Bool.{not-true, not_from_false}
use Rattle.xa_codes.specs.declared.direction.Direction.{Direction}
use Rattle.xa_codes.specs.declared.direction.Direction.TheVariants.{Commit, Rollback}
use Rattle.xa_codes.specs.declared.write.Write.{Write}
use Rattle.xa_xid.specs.Triple.{Triple, xid_eq, xid_cmp}
use Rattle.xa_xid.proofs.Same.{xid_same}
use Rattle.xa_model.specs.State.{without}
use Rattle.xa_model.specs.State.{Decided as Decision}
use Rattle.xa_model.specs.Durable.{Durable, CommittedBranch, PreparedBranch, IsDurable, Pairwise, insert, commits_before, prepares_before, named_before, named_apart, is_prepared, is_decided, is_past}
use Rattle.xa_model.specs.Fold.{prepare, commit_writes, commit_prepared, complete, decide, prepared_as}
use Rattle.xa_model.proofs.Lists.{found_all, without_all}
use Rattle.xa_model.proofs.Inserts.{all_imply, all_both, none_passes, insert_all, insert_pairwise, insert_anywhere, without_pairwise, found_others, both_ways}
use Rattle.xa_model.proofs.LastWrites.{last_all, last_pairwise, last_are_last}
use Rattle.xa_model.proofs.Tests.{all_passed, none_passed, either_way, apart_back, less_apart, commits_transitive, prepares_transitive, past_more, xid_back, either_name, below_apart, names_transitive}

-- the timestamp is no branch's
abbrev pub IsFreshAmong : ℕ → List CommittedBranch → Type 0
IsFreshAmong t bs = AllByRecursion (λ b. (b.timestamp == t) ≡ false) bs

abbrev pub IsFreshIn : ℕ → List PreparedBranch → Type 0
IsFreshIn t ps = AllByRecursion (λ p. (p.timestamp == t) ≡ false) ps

pub record IsUnused (d : Durable) (t : ℕ) : Type 0 where
  pub past : is_past (d.boot + 1) t ≡ true
  pub committed : IsFreshAmong t d.committed
  pub prepared : IsFreshIn t d.prepared

-- a branch is prepared

not_inserted : (xid : Triple) (p : PreparedBranch) (ps : List PreparedBranch) → xid_eq p.xid xid ≡ false → is_prepared xid ps ≡ false → is_prepared xid (insert prepares_before p ps) ≡ false
not_inserted xid p ps here none =
    none_passes (λ q. xid_eq q.xid xid) (insert prepares_before p ps) (insert_all (λ q. xid_eq q.xid xid ≡ false) prepares_before p ps here (none_passed (λ q. xid_eq q.xid xid) ps none))

names_apart : (x y : Triple) → xid_eq x y ≡ false → (not (xid_eq x y) ≡ true) × (not (xid_eq y x) ≡ true)
names_apart x y e = (not_from_false (xid_eq x y) e, not_from_false (xid_eq y x) (xid_back x y e))

pub prepare_durable : (xid : Triple) (t : ℕ) (ws : List Write) (d : Durable) → IsDurable d → IsUnused d t → is_prepared xid d.prepared ≡ false → is_decided xid d.decided ≡ false
    → IsDurable (prepare xid t ws d)
prepare_durable xid t ws d h new unprepared undecided =
    let p : PreparedBranch = record { xid = xid; timestamp = t; writes = ws } in
    record {
      committed = h.committed;
      prepared = insert_pairwise prepares_before prepares_transitive p d.prepared
          (all_imply (λ q. (q.timestamp == t) ≡ false) (λ q. (prepares_before q p ≡ true) ⊎ (prepares_before p q ≡ true)) (λ q e. either_way q.timestamp t e) d.prepared new.prepared) h.prepared;
      decided = h.decided;
      apart = all_both (λ b. AllByRecursion (λ q. (b.timestamp == q.timestamp) ≡ false) d.prepared) (λ b. (b.timestamp == t) ≡ false)
          (λ b. AllByRecursion (λ q. (b.timestamp == q.timestamp) ≡ false) (insert prepares_before p d.prepared))
          (λ b others here. insert_all (λ q. (b.timestamp == q.timestamp) ≡ false) prepares_before p d.prepared here others) d.committed h.apart new.committed;
      committed_past = h.committed_past;
      prepared_past = insert_all (λ q. is_past (d.boot + 1) q.timestamp ≡ true) prepares_before p d.prepared new.past h.prepared_past;
      last = h.last;
      distinct = insert_anywhere named_apart prepares_before p d.prepared
          (all_imply (λ q. xid_eq q.xid xid ≡ false) (λ q. (named_apart q p ≡ true) × (named_apart p q ≡ true)) (λ q e. names_apart q.xid xid e) d.prepared
          (none_passed (λ q. xid_eq q.xid xid) d.prepared unprepared)) h.distinct;
      unknown = all_both (λ e. is_prepared e.xid d.prepared ≡ false) (λ e. xid_eq e.xid xid ≡ false) (λ e. is_prepared e.xid (insert prepares_before p d.prepared) ≡ false)
          (λ e none other. not_inserted e.xid p d.prepared (xid_back e.xid xid other) none) d.decided h.unknown (none_passed (λ e. xid_eq e.xid xid) d.decided undecided);
    }

-- writes are committed

pub commit_durable : (t : ℕ) (ws : List Write) (d : Durable) → IsDurable d → IsUnused d t → IsDurable (commit_writes t ws d)
commit_durable t ws d h new =
    let b : CommittedBranch = record { timestamp = t; writes = ws } in
    let all = insert commits_before b d.committed in
    record {
      committed = last_pairwise all (insert_pairwise commits_before commits_transitive b d.committed
          (all_imply (λ c. (c.timestamp == t) ≡ false) (λ c. (commits_before c b ≡ true) ⊎ (commits_before b c ≡ true)) (λ c e. either_way c.timestamp t e) d.committed new.committed) h.committed);
      prepared = h.prepared;
      decided = h.decided;
      apart = last_all (λ u. AllByRecursion (λ p. (u == p.timestamp) ≡ false) d.prepared) all
          (insert_all (λ c. AllByRecursion (λ p. (c.timestamp == p.timestamp) ≡ false) d.prepared) commits_before b d.committed
          (all_imply (λ p. (p.timestamp == t) ≡ false) (λ p. (t == p.timestamp) ≡ false) (λ p e. apart_back p.timestamp t e) d.prepared new.prepared) h.apart);
      committed_past = last_all (λ u. is_past (d.boot + 1) u ≡ true) all (insert_all (λ c. is_past (d.boot + 1) c.timestamp ≡ true) commits_before b d.committed new.past h.committed_past);
      prepared_past = h.prepared_past;
      last = last_are_last all;
      distinct = h.distinct;
      unknown = h.unknown;
    }

-- a prepared branch is completed

not_left : (xid : Triple) (q : PreparedBranch → Bool) (ps : List PreparedBranch) → is_prepared xid ps ≡ false → is_prepared xid (without q ps) ≡ false
not_left xid q ps none = none_passes (λ p. xid_eq p.xid xid) (without q ps) (without_all (λ p. xid_eq p.xid xid ≡ false) q ps (none_passed (λ p. xid_eq p.xid xid) ps none))

left_durable : (q : PreparedBranch → Bool) (d : Durable) → IsDurable d → IsDurable (record d { prepared = without q d.prepared })
left_durable q d h = record {
  committed = h.committed;
  prepared = without_pairwise prepares_before q d.prepared h.prepared;
  decided = h.decided;
  apart = all_imply (λ b. AllByRecursion (λ p. (b.timestamp == p.timestamp) ≡ false) d.prepared) (λ b. AllByRecursion (λ p. (b.timestamp == p.timestamp) ≡ false) (without q d.prepared))
      (λ b all. without_all (λ p. (b.timestamp == p.timestamp) ≡ false) q d.prepared all) d.committed h.apart;
  committed_past = h.committed_past;
  prepared_past = without_all (λ p. is_past (d.boot + 1) p.timestamp ≡ true) q d.prepared h.prepared_past;
  last = h.last;
  distinct = without_pairwise named_apart q d.prepared h.distinct;
  unknown = all_imply (λ e. is_prepared e.xid d.prepared ≡ false) (λ e. is_prepared e.xid (without q d.prepared) ≡ false) (λ e none. not_left e.xid q d.prepared none) d.decided h.unknown;
}

commit_prepared_durable : (xid : Triple) (d : Durable) (o : Option PreparedBranch) → find (prepared_as xid) d.prepared ≡ o → IsDurable d
    → IsDurable (commit_prepared o (record d { prepared = without (prepared_as xid) d.prepared }))
commit_prepared_durable xid d None e h = left_durable (prepared_as xid) d h
commit_prepared_durable xid d (Some p) e h =
    let new : IsUnused (record d { prepared = without (prepared_as xid) d.prepared }) p.timestamp = record {
      past = found_all (λ q. is_past (d.boot + 1) q.timestamp ≡ true) (prepared_as xid) p d.prepared h.prepared_past e;
      committed = all_imply (λ b. AllByRecursion (λ q. (b.timestamp == q.timestamp) ≡ false) d.prepared) (λ b. (b.timestamp == p.timestamp) ≡ false)
          (λ b all. found_all (λ q. (b.timestamp == q.timestamp) ≡ false) (prepared_as xid) p d.prepared all e) d.committed h.apart;
      prepared = found_others (λ x z. (z.timestamp == x.timestamp) ≡ false) (prepared_as xid) p d.prepared
          (both_ways (λ x z. (z.timestamp == x.timestamp) ≡ false) prepares_before (λ x z less. ((less_apart x.timestamp z.timestamp less).1, (less_apart x.timestamp z.timestamp less).0)) d.prepared h.prepared) e;
    } in
    commit_durable p.timestamp p.writes (record d { prepared = without (prepared_as xid) d.prepared }) (left_durable (prepared_as xid) d h) new

pub complete_durable : (xid : Triple) (direction : Direction) (d : Durable) → IsDurable d → IsDurable (complete xid direction d)
complete_durable xid Commit d h = commit_prepared_durable xid d (find (prepared_as xid) d.prepared) refl h
complete_durable xid Rollback d h = left_durable (prepared_as xid) d h

-- and no longer prepared

gone_by : (xid : Triple) (p : PreparedBranch) (ps rest : List PreparedBranch) (c : Bool) → xid_eq p.xid xid ≡ c → AllByRecursion (λ q. named_apart p q ≡ true) ps → is_prepared xid rest ≡ false
    → is_prepared xid (cond c ps (p ∷ rest)) ≡ false
gone_by xid p ps rest true e others h =
    let same : p.xid ≡ xid = xid_same p.xid xid e in
    let apart = subst (λ (x : Triple). AllByRecursion (λ q. not (xid_eq x q.xid) ≡ true) ps) same others in
    none_passes (λ q. xid_eq q.xid xid) ps (all_imply (λ q. not (xid_eq xid q.xid) ≡ true) (λ q. xid_eq q.xid xid ≡ false) (λ q k. xid_back xid q.xid (not-true (xid_eq xid q.xid) k)) ps apart)
gone_by xid p ps rest false e others h = rw (e, h) refl

gone : (xid : Triple) (ps : List PreparedBranch) → Pairwise named_apart ps → is_prepared xid (without (prepared_as xid) ps) ≡ false
gone xid [] h = refl
gone xid (p ∷ ps) h = gone_by xid p ps (without (prepared_as xid) ps) (xid_eq p.xid xid) refl h.0 (gone xid ps h.1)

commit_keeps : (o : Option PreparedBranch) (d : Durable) → (commit_prepared o d).prepared ≡ d.prepared
commit_keeps None d = refl
commit_keeps (Some p) d = refl

commit_knows : (o : Option PreparedBranch) (d : Durable) → (commit_prepared o d).decided ≡ d.decided
commit_knows None d = refl
commit_knows (Some p) d = refl

pub complete_gone : (xid : Triple) (direction : Direction) (d : Durable) → IsDurable d → is_prepared xid (complete xid direction d).prepared ≡ false
complete_gone xid Commit d h = ap (λ ps. is_prepared xid ps) (commit_keeps (find (prepared_as xid) d.prepared) (record d { prepared = without (prepared_as xid) d.prepared })) ∙ gone xid d.prepared h.distinct
complete_gone xid Rollback d h = gone xid d.prepared h.distinct

pub complete_knows : (xid : Triple) (direction : Direction) (d : Durable) → (complete xid direction d).decided ≡ d.decided
complete_knows xid Commit d = commit_knows (find (prepared_as xid) d.prepared) (record d { prepared = without (prepared_as xid) d.prepared })
complete_knows xid Rollback d = refl

-- the operator's decisions

pub decide_durable : (xid : Triple) (direction : Direction) (d : Durable) → IsDurable d → is_prepared xid d.prepared ≡ false → is_decided xid d.decided ≡ false → IsDurable (decide xid direction d)
decide_durable xid direction d h unprepared undecided =
    let e : Decision = record { xid = xid; direction = direction } in
    record {
      committed = h.committed;
      prepared = h.prepared;
      decided = insert_pairwise named_before names_transitive e d.decided
          (all_imply (λ f. xid_eq f.xid xid ≡ false) (λ f. (named_before f e ≡ true) ⊎ (named_before e f ≡ true)) (λ f k. either_name f.xid xid k) d.decided
          (none_passed (λ f. xid_eq f.xid xid) d.decided undecided)) h.decided;
      apart = h.apart;
      committed_past = h.committed_past;
      prepared_past = h.prepared_past;
      last = h.last;
      distinct = h.distinct;
      unknown = insert_all (λ f. is_prepared f.xid d.prepared ≡ false) named_before e d.decided unprepared h.unknown;
    }

pub forget_durable : (q : Decision → Bool) (d : Durable) → IsDurable d → IsDurable (record d { decided = without q d.decided })
forget_durable q d h = record {
  committed = h.committed;
  prepared = h.prepared;
  decided = without_pairwise named_before q d.decided h.decided;
  apart = h.apart;
  committed_past = h.committed_past;
  prepared_past = h.prepared_past;
  last = h.last;
  distinct = h.distinct;
  unknown = without_all (λ e. is_prepared e.xid d.prepared ≡ false) q d.decided h.unknown;
}

pub open_durable : (boot : ℕ) (d : Durable) → d.boot < boot → IsDurable d → IsDurable (record d { boot = boot })
open_durable boot d less h = record {
  committed = h.committed;
  prepared = h.prepared;
  decided = h.decided;
  apart = h.apart;
  committed_past = all_imply (λ b. is_past (d.boot + 1) b.timestamp ≡ true) (λ b. is_past (boot + 1) b.timestamp ≡ true) (λ b e. past_more d.boot boot b.timestamp less e) d.committed h.committed_past;
  prepared_past = all_imply (λ p. is_past (d.boot + 1) p.timestamp ≡ true) (λ p. is_past (boot + 1) p.timestamp ≡ true) (λ p e. past_more d.boot boot p.timestamp less e) d.prepared h.prepared_past;
  last = h.last;
  distinct = h.distinct;
  unknown = h.unknown;
}

-- XIDs that the operator completed and XIDs that are prepared are apart

undecided_by : (xid : Triple) (ps : List PreparedBranch) (e : Decision) (c : Bool) → xid_eq e.xid xid ≡ c → is_prepared xid ps ≡ true → is_prepared e.xid ps ≡ false → c ≡ false
undecided_by xid ps e false k some none = refl
undecided_by xid ps e true k some none = absurd (cc (ap (λ x. is_prepared x ps) (xid_same e.xid xid k), some, none))

pub undecided : (xid : Triple) (d : Durable) → IsDurable d → is_prepared xid d.prepared ≡ true → is_decided xid d.decided ≡ false
undecided xid d h some =
    none_passes (λ e. xid_eq e.xid xid) d.decided
    (all_imply (λ e. is_prepared e.xid d.prepared ≡ false) (λ e. xid_eq e.xid xid ≡ false) (λ e none. undecided_by xid d.prepared e (xid_eq e.xid xid) refl some none) d.decided h.unknown)

pub above_undecided : (xid : Triple) (ds : List Decision) → list_all (λ e. is_lt (xid_cmp e.xid xid)) ds ≡ true → is_decided xid ds ≡ false
above_undecided xid ds all =
    none_passes (λ e. xid_eq e.xid xid) ds
    (all_imply (λ e. is_lt (xid_cmp e.xid xid) ≡ true) (λ e. xid_eq e.xid xid ≡ false) (λ e less. below_apart e.xid xid less) ds (all_passed (λ e. is_lt (xid_cmp e.xid xid)) ds all))
