-- What was read stands in the maps, through what records do.
use Rattle.std.proofs.Common.{◌≡◌, ℕ, ◌==◌, Bool, true, false, ◌||◌, cond, List, [], ◌∷◌, Option, Some, None, map, refl, ap, sym, ◌∙◌, subst, arith}
use Rattle.std.specs.Prelude.{find, option_map, is_some}
use Rattle.std.specs.BTreeMap.{BTreeMap, get, insert_entry, is_at}
use Rattle.std.specs.BTreeSet.{BTreeSet, contains}
use Rattle.std.specs.Cmp.{nat_cmp_total}
use Rattle.std.specs.List.{AllByRecursion}
use Rattle.std.specs.Map.{lookup, remove_entry}
use Rattle.std.specs.Ordering.{nat_cmp, is_eq}
use Rattle.std.proofs.lemmas.Bool.Decides.{nat_tests}
use Rattle.xa_codes.specs.declared.direction.Direction.{Direction}
use Rattle.xa_codes.specs.declared.direction.Direction.TheVariants.{Commit, Rollback}
use Rattle.xa_codes.specs.declared.write.Write.{Write}
use Rattle.xa_xid.specs.Triple.{Triple, xid_eq, xid_cmp}
use Rattle.xa_xid.proofs.Same.{xid_same, xid_cmp_total}
use Rattle.xa_model.specs.State.{without}
use Rattle.xa_model.specs.State.{Decided as Decision}
use Rattle.xa_model.specs.Durable.{CommittedBranch, PreparedBranch, Pairwise, insert, commits_before, prepares_before, named_before, is_prepared, is_decided}
use Rattle.xa_model.specs.Fold.{Reading, prepared_as, is_used, complete, commit_prepared, decide}
use Rattle.xa_model.proofs.Xids.{cmp_is_eq, xid_apart}
use Rattle.xa_model.proofs.Finds.{find_without}
use Rattle.xa_model.proofs.Inserts.{all_imply}
use Rattle.xa_model.proofs.Lists.{found_all}
use Rattle.xa_model.proofs.OneForm.{complete_gone}
use Rattle.xa_model.proofs.Tests.{none_passed, used_apart, xid_back}
use Rattle.xa_model.proofs.Readings.{IsRead}
use Rattle.xa_recovery.specs.declared.durable.InDoubt.{InDoubt}
use Rattle.xa_recovery.specs.declared.rebuilding.Rebuilding.{Rebuilding}
use Rattle.xa_recovery.specs.Durable.{as_committed, as_prepared, as_decided}
use Rattle.xa_recovery.specs.Rebuilding.{Commits, StandsFor}
use Rattle.xa_recovery.proofs.Entries.{eq_nat, lt_nat, inserted, removed, IsAt, stands_at, find_inserted, find_none, found_some}
use Rattle.xa_recovery.proofs.Tests.{eq_back}
use Rattle.xa_recovery.proofs.Commits.{committed, prepared, settled, also, commits_more, commits_prepared, commits_left, commits_completed}

pub all_of : {E A : Type 0} (f : E → A) (P : A → Type 0) (Q : E → Type 0) → ((e : E) → P (f e) → Q e) → (es : List E) → AllByRecursion P (map f es) → AllByRecursion Q es
all_of f P Q h [] all = tt
all_of f P Q h (e ∷ es) all = (h e all.0, all_of f P Q h es all.1)

apart_key : (t u : ℕ) → (u == t) ≡ false → is_eq (nat_cmp t u) ≡ false
apart_key t u e = eq_nat t u ∙ grind (arith, nat_tests, e)

-- one more timestamp

used_by : (c d b : Bool) → c ≡ d → cond c true b ≡ (d || b)
used_by true true b e = refl
used_by true false b e = absurd (cc e)
used_by false true b e = absurd (cc e)
used_by false false b e = refl

used_more : (m : BTreeSet ℕ) (ts : List ℕ) (s : BTreeSet ℕ) (t : ℕ) → ((q : ℕ) → contains nat_cmp s q ≡ cond (is_eq (nat_cmp t q)) true (contains nat_cmp m q)) → ((q : ℕ) → contains nat_cmp m q ≡ is_used q ts)
    → (q : ℕ) → contains nat_cmp s q ≡ is_used q (t ∷ ts)
used_more m ts s t new old q = new q ∙ (used_by (is_eq (nat_cmp t q)) (t == q) (contains nat_cmp m q) (eq_nat t q) ∙ ap (λ b. (t == q) || b) (old q))

-- a branch is committed

commits_entries : (t : ℕ) (ws : List Write) (es : List (ℕ × List Write)) → AllByRecursion (λ b. (b.timestamp == t) ≡ false) (map as_committed es)
    → map as_committed (insert_entry nat_cmp es t ws) ≡ insert commits_before (record { timestamp = t; writes = ws }) (map as_committed es)
commits_entries t ws es apart =
    inserted nat_cmp nat_cmp_total as_committed commits_before (λ d e. lt_nat d.0 e.0) t ws es
    (all_of as_committed (λ b. (b.timestamp == t) ≡ false) (λ e. is_eq (nat_cmp t e.0) ≡ false) (λ e h. apart_key t e.0 h) es apart)

pub commit_stands : (m : Rebuilding) (x : Reading) (t : ℕ) (ws : List Write) (cs : BTreeMap ℕ (List Write)) (ts : BTreeSet ℕ) → IsRead x → StandsFor m x → is_used t x.timestamps ≡ false
    → cs.entries ≡ insert_entry nat_cmp m.committed.entries t ws → ((q : ℕ) → contains nat_cmp ts q ≡ cond (is_eq (nat_cmp t q)) true (contains nat_cmp m.timestamps q))
    → StandsFor (record m { committed = cs; timestamps = ts }) (committed t ws x)
commit_stands m x t ws cs ts read st fresh entries times =
    let bs = map as_committed m.committed.entries in
    let apart = all_imply (λ (b : CommittedBranch). is_used b.timestamp x.timestamps ≡ true) (λ b. (b.timestamp == t) ≡ false) (λ b used. used_apart b.timestamp t x.timestamps used fresh) bs st.committed.used in
    let same : map as_committed cs.entries ≡ insert commits_before (record { timestamp = t; writes = ws }) bs = ap (map as_committed) entries ∙ commits_entries t ws m.committed.entries apart in
    record {
      boot = st.boot;
      is_snapshot = st.is_snapshot;
      committed = subst (λ (l : List CommittedBranch). Commits l (committed t ws x)) (sym same) (commits_more t ws bs x read st.committed fresh);
      prepared = st.prepared;
      decided = st.decided;
      names = st.names;
      timestamps = used_more m.timestamps x.timestamps ts t times st.timestamps;
    }

-- a branch is prepared

named_by : (t : ℕ) (p : PreparedBranch) (c d : Bool) (o : Option ℕ) (f : Option PreparedBranch) → p.timestamp ≡ t → c ≡ d → o ≡ option_map (λ q. q.timestamp) f
    → cond c (Some t) o ≡ option_map (λ q. q.timestamp) (cond d (Some p) f)
named_by t p true true o f at same rest = ap Some (sym at)
named_by t p true false o f at same rest = absurd (cc same)
named_by t p false true o f at same rest = absurd (cc same)
named_by t p false false o f at same rest = rest

only_one : (xid q : Triple) (ps : List PreparedBranch) → is_prepared xid ps ≡ false → xid_eq xid q ≡ true → AllByRecursion (λ y. prepared_as q y ≡ false) ps
only_one xid q ps none e = subst (λ (z : Triple). AllByRecursion (λ y. prepared_as z y ≡ false) ps) (xid_same xid q e) (none_passed (prepared_as xid) ps none)

pub prepare_stands : (m : Rebuilding) (x : Reading) (xid : Triple) (t : ℕ) (ws : List Write) (ps : BTreeMap ℕ InDoubt) (ns : BTreeMap Triple ℕ) (ts : BTreeSet ℕ) → IsRead x → StandsFor m x
    → is_used t x.timestamps ≡ false → is_prepared xid x.durable.prepared ≡ false
    → ps.entries ≡ insert_entry nat_cmp m.prepared.entries t (record { xid = xid; writes = ws })
    → ((q : Triple) → get xid_cmp ns q ≡ cond (is_eq (xid_cmp xid q)) (Some t) (get xid_cmp m.names q))
    → ((q : ℕ) → contains nat_cmp ts q ≡ cond (is_eq (nat_cmp t q)) true (contains nat_cmp m.timestamps q))
    → StandsFor (record m { prepared = ps; names = ns; timestamps = ts }) (prepared xid t ws x)
prepare_stands m x xid t ws ps ns ts read st fresh unprepared entries named times =
    let p : PreparedBranch = record { xid = xid; timestamp = t; writes = ws } in
    let apart : AllByRecursion (λ q. (q.timestamp == t) ≡ false) x.durable.prepared =
    all_imply (λ q. is_used q.timestamp x.timestamps ≡ true) (λ q. (q.timestamp == t) ≡ false) (λ q used. used_apart q.timestamp t x.timestamps used fresh) x.durable.prepared read.prepared in
    let others : AllByRecursion (λ q. (q.timestamp == t) ≡ false) (map as_prepared m.prepared.entries) = subst (λ (l : List PreparedBranch). AllByRecursion (λ q. (q.timestamp == t) ≡ false) l) (sym st.prepared) apart in
    record {
      boot = st.boot;
      is_snapshot = st.is_snapshot;
      committed = commits_prepared xid t ws (map as_committed m.committed.entries) x st.committed fresh;
      prepared = ap (map as_prepared) entries
          ∙ (inserted nat_cmp nat_cmp_total as_prepared prepares_before (λ d e. lt_nat d.0 e.0) t (record { xid = xid; writes = ws }) m.prepared.entries
          (all_of as_prepared (λ q. (q.timestamp == t) ≡ false) (λ e. is_eq (nat_cmp t e.0) ≡ false) (λ e h. apart_key t e.0 h) m.prepared.entries others)
          ∙ ap (insert prepares_before p) st.prepared);
      decided = st.decided;
      names = λ q. named q
          ∙ (named_by t p (is_eq (xid_cmp xid q)) (xid_eq xid q) (get xid_cmp m.names q) (find (prepared_as q) x.durable.prepared) refl (cmp_is_eq xid q) (st.names q)
          ∙ ap (option_map (λ r. r.timestamp)) (sym (find_inserted (prepared_as q) prepares_before p x.durable.prepared (λ e. only_one xid q x.durable.prepared unprepared e))));
      timestamps = used_more m.timestamps x.timestamps ts t times st.timestamps;
    }

-- the operator decides

pub decide_stands : (m : Rebuilding) (x : Reading) (xid : Triple) (direction : Direction) (ds : BTreeMap Triple Direction) → StandsFor m x → is_decided xid x.durable.decided ≡ false
    → ds.entries ≡ insert_entry xid_cmp m.decided.entries xid direction
    → StandsFor (record m { decided = ds }) (record { durable = decide xid direction x.durable; is_snapshot = x.is_snapshot; timestamps = x.timestamps })
decide_stands m x xid direction ds st undecided entries =
    let apart : AllByRecursion (λ e. xid_eq e.xid xid ≡ false) (map as_decided m.decided.entries) =
    subst (λ (l : List Decision). AllByRecursion (λ e. xid_eq e.xid xid ≡ false) l) (sym st.decided) (none_passed (λ e. xid_eq e.xid xid) x.durable.decided undecided) in
    record {
      boot = st.boot;
      is_snapshot = st.is_snapshot;
      committed = record { ordered = st.committed.ordered; last = st.committed.last; used = st.committed.used; apart = st.committed.apart };
      prepared = st.prepared;
      decided = ap (map as_decided) entries
          ∙ (inserted xid_cmp xid_cmp_total as_decided named_before (λ d e. refl) xid direction m.decided.entries
          (all_of as_decided (λ e. xid_eq e.xid xid ≡ false) (λ e. is_eq (xid_cmp xid e.0) ≡ false) (λ e h. cmp_is_eq xid e.0 ∙ xid_back e.0 xid h) m.decided.entries apart)
          ∙ ap (insert named_before (record { xid = xid; direction = direction })) st.decided);
      names = st.names;
      timestamps = st.timestamps;
    }

-- and it is forgotten

pub forget_stands : (m : Rebuilding) (x : Reading) (xid : Triple) (ds : BTreeMap Triple Direction) → StandsFor m x → ds.entries ≡ remove_entry (is_at (xid_cmp xid)) m.decided.entries
    → StandsFor (record m { decided = ds }) (record { durable = record x.durable { decided = without (λ e. xid_eq e.xid xid) x.durable.decided }; is_snapshot = x.is_snapshot; timestamps = x.timestamps })
forget_stands m x xid ds st entries = record {
  boot = st.boot;
  is_snapshot = st.is_snapshot;
  committed = record { ordered = st.committed.ordered; last = st.committed.last; used = st.committed.used; apart = st.committed.apart };
  prepared = st.prepared;
  decided = ap (map as_decided) entries
      ∙ (removed as_decided (is_at (xid_cmp xid)) (λ e. xid_eq e.xid xid) (λ e. eq_back xid e.0) m.decided.entries ∙ ap (without (λ e. xid_eq e.xid xid)) st.decided);
  names = st.names;
  timestamps = st.timestamps;
}

-- the branch in doubt with this XID

pub record Named (m : Rebuilding) (x : Reading) (xid : Triple) (t : ℕ) : Type 0 where
  pub branch : PreparedBranch
  pub found : find (prepared_as xid) x.durable.prepared ≡ Some branch
  pub at : t ≡ branch.timestamp
  pub place : IsAt xid branch m.prepared.entries

pub named : (m : Rebuilding) (x : Reading) (xid : Triple) (t : ℕ) → IsRead x → StandsFor m x → Some t ≡ get xid_cmp m.names xid → Named m x xid t
named m x xid t read st has = by (find (prepared_as xid) x.durable.prepared) refl
  where
    by : (o : Option PreparedBranch) → find (prepared_as xid) x.durable.prepared ≡ o → Named m x xid t
    by None e = absurd (cc (has ∙ (st.names xid ∙ ap (option_map (λ p. p.timestamp)) e)))
    by (Some p) e =
        let is : Some t ≡ Some p.timestamp = has ∙ (st.names xid ∙ ap (option_map (λ q. q.timestamp)) e) in
        record {
          branch = p;
          found = e;
          at = cc is;
          place = stands_at xid p m.prepared.entries (subst (λ (l : List PreparedBranch). Pairwise prepares_before l) (sym st.prepared) read.durable.prepared)
              (ap (find (prepared_as xid)) st.prepared ∙ e);
        }

pub unnamed : (m : Rebuilding) (x : Reading) (xid : Triple) → StandsFor m x → None ≡ get xid_cmp m.names xid → is_prepared xid x.durable.prepared ≡ true → ⊥
unnamed m x xid st none some = by (find (prepared_as xid) x.durable.prepared) (sym (st.names xid) ∙ sym none) (found_some (prepared_as xid) x.durable.prepared ∙ some)
  where
    by : (o : Option PreparedBranch) → option_map (λ p. p.timestamp) o ≡ None → is_some o ≡ true → ⊥
    by None e f = cc f
    by (Some p) e f = cc e

-- and it is completed

names_by : (xid q : Triple) (ps : List PreparedBranch) (c : Bool) (o : Option ℕ) → xid_eq xid q ≡ c → is_prepared xid (without (prepared_as xid) ps) ≡ false → o ≡ option_map (λ p. p.timestamp) (find (prepared_as q) ps)
    → cond c None o ≡ option_map (λ p. p.timestamp) (find (prepared_as q) (without (prepared_as xid) ps))
names_by xid q ps true o e gone rest =
    let none : is_prepared q (without (prepared_as xid) ps) ≡ false = subst (λ (z : Triple). is_prepared z (without (prepared_as xid) ps) ≡ false) (xid_same xid q e) gone in
    sym (ap (option_map (λ p. p.timestamp)) (find_none (prepared_as q) (without (prepared_as xid) ps) none))
names_by xid q ps false o e gone rest = rest ∙ sym (ap (option_map (λ p. p.timestamp)) (find_without (prepared_as xid) (prepared_as q) (λ p f. xid_apart p.xid xid q f e) ps))

pub settle_stands : (m : Rebuilding) (x : Reading) (xid : Triple) (ps : BTreeMap ℕ InDoubt) (ns : BTreeMap Triple ℕ) → IsRead x → StandsFor m x
    → map as_prepared ps.entries ≡ without (prepared_as xid) x.durable.prepared
    → ((q : Triple) → get xid_cmp ns q ≡ cond (is_eq (xid_cmp xid q)) None (get xid_cmp m.names q))
    → StandsFor (record m { prepared = ps; names = ns }) (settled xid x)
settle_stands m x xid ps ns read st left named = record {
  boot = st.boot;
  is_snapshot = st.is_snapshot;
  committed = commits_left xid (map as_committed m.committed.entries) x st.committed;
  prepared = left;
  decided = st.decided;
  names = λ q. named q ∙ (ap (λ c. cond c None (get xid_cmp m.names q)) (cmp_is_eq xid q) ∙ names_by xid q x.durable.prepared (xid_eq xid q) (get xid_cmp m.names q) refl (complete_gone xid Rollback x.durable read.durable) (st.names q));
  timestamps = st.timestamps;
}

pub complete_stands : (m : Rebuilding) (x : Reading) (xid : Triple) (p : PreparedBranch) (cs : BTreeMap ℕ (List Write)) (ps : BTreeMap ℕ InDoubt) (ns : BTreeMap Triple ℕ) → IsRead x → StandsFor m x
    → find (prepared_as xid) x.durable.prepared ≡ Some p
    → cs.entries ≡ insert_entry nat_cmp m.committed.entries p.timestamp p.writes
    → map as_prepared ps.entries ≡ without (prepared_as xid) x.durable.prepared
    → ((q : Triple) → get xid_cmp ns q ≡ cond (is_eq (xid_cmp xid q)) None (get xid_cmp m.names q))
    → StandsFor (record m { committed = cs; prepared = ps; names = ns }) (record { durable = complete xid Commit x.durable; is_snapshot = x.is_snapshot; timestamps = x.timestamps })
complete_stands m x xid p cs ps ns read st found entries left named =
    let bs = map as_committed m.committed.entries in
    let apart = all_imply (λ (b : CommittedBranch). AllByRecursion (λ q. (b.timestamp == q.timestamp) ≡ false) x.durable.prepared) (λ b. (b.timestamp == p.timestamp) ≡ false)
    (λ b all. found_all (λ q. (b.timestamp == q.timestamp) ≡ false) (prepared_as xid) p x.durable.prepared all found) bs st.committed.apart in
    let same : map as_committed cs.entries ≡ insert commits_before (record { timestamp = p.timestamp; writes = p.writes }) bs = ap (map as_committed) entries ∙ commits_entries p.timestamp p.writes m.committed.entries apart in
    let after = settle_stands m x xid ps ns read st left named in
    let stands : StandsFor (record m { committed = cs; prepared = ps; names = ns }) (also p.timestamp p.writes (settled xid x)) = record {
      boot = st.boot;
      is_snapshot = st.is_snapshot;
      committed = subst (λ (l : List CommittedBranch). Commits l (also p.timestamp p.writes (settled xid x))) (sym same) (commits_completed xid p bs x read st.committed found);
      prepared = left;
      decided = st.decided;
      names = after.names;
      timestamps = st.timestamps;
    } in
    subst (λ (o : Option PreparedBranch). StandsFor (record m { committed = cs; prepared = ps; names = ns }) (record { durable = commit_prepared o (record x.durable { prepared = without (prepared_as xid) x.durable.prepared }); is_snapshot = x.is_snapshot; timestamps = x.timestamps }))
    (sym found) stands

-- whether the snapshot goes on

pub flag_stands : (m : Rebuilding) (x : Reading) (b : Bool) → StandsFor m x → StandsFor (record m { is_snapshot = b }) (record { durable = x.durable; is_snapshot = b; timestamps = x.timestamps })
flag_stands m x b st = record {
  boot = st.boot;
  is_snapshot = refl;
  committed = record { ordered = st.committed.ordered; last = st.committed.last; used = st.committed.used; apart = st.committed.apart };
  prepared = st.prepared;
  decided = st.decided;
  names = st.names;
  timestamps = st.timestamps;
}

pub flag_read : (x : Reading) (b : Bool) → IsRead x → IsRead (record { durable = x.durable; is_snapshot = b; timestamps = x.timestamps })
flag_read x b h = record { durable = h.durable; committed = h.committed; prepared = h.prepared }

-- what is left where the branch is taken out of the maps
pub record Left (m : Rebuilding) (x : Reading) (xid : Triple) (t : ℕ) (b : InDoubt) (ps : BTreeMap ℕ InDoubt) : Type 0 where
  pub branch : PreparedBranch
  pub found : find (prepared_as xid) x.durable.prepared ≡ Some branch
  pub at : t ≡ branch.timestamp
  pub writes : b.writes ≡ branch.writes
  pub left : map as_prepared ps.entries ≡ without (prepared_as xid) x.durable.prepared

pub left_of : (m : Rebuilding) (x : Reading) (xid : Triple) (t : ℕ) (b : InDoubt) (ps : BTreeMap ℕ InDoubt) → IsRead x → StandsFor m x → Some t ≡ get xid_cmp m.names xid
    → Some b ≡ lookup (is_at (nat_cmp t)) m.prepared.entries → ps.entries ≡ remove_entry (is_at (nat_cmp t)) m.prepared.entries → Left m x xid t b ps
left_of m x xid t b ps read st has value entries =
    let n = named m x xid t read st has in
    let p = n.branch in
    let is : Some b ≡ Some (record { xid = p.xid; writes = p.writes }) = value ∙ (ap (λ u. lookup (is_at (nat_cmp u)) m.prepared.entries) n.at ∙ n.place.kept) in
    let same : b ≡ record { xid = p.xid; writes = p.writes } = cc is in
    record {
      branch = p;
      found = n.found;
      at = n.at;
      writes = ap (λ (d : InDoubt). d.writes) same;
      left = ap (map as_prepared) entries ∙ (ap (λ u. map as_prepared (remove_entry (is_at (nat_cmp u)) m.prepared.entries)) n.at ∙ (n.place.left ∙ ap (without (prepared_as xid)) st.prepared));
    }

pub gone : (m : Rebuilding) (x : Reading) (xid : Triple) (t : ℕ) → IsRead x → StandsFor m x → Some t ≡ get xid_cmp m.names xid → None ≡ lookup (is_at (nat_cmp t)) m.prepared.entries → ⊥
gone m x xid t read st has none =
    let n = named m x xid t read st has in
    let p = n.branch in
    let is : None ≡ Some (record { xid = p.xid; writes = p.writes }) = none ∙ (ap (λ u. lookup (is_at (nat_cmp u)) m.prepared.entries) n.at ∙ n.place.kept) in
    cc is

pub placed : (es : List (ℕ × List Write)) (t : ℕ) (b : InDoubt) (p : PreparedBranch) → t ≡ p.timestamp → b.writes ≡ p.writes → insert_entry nat_cmp es t b.writes ≡ insert_entry nat_cmp es p.timestamp p.writes
placed es t b p at writes = ap (λ u. insert_entry nat_cmp es u b.writes) at ∙ ap (λ ws. insert_entry nat_cmp es p.timestamp ws) writes
