-- The state of a manager that was opened on what records come to.
use Rattle.std.proofs.Common.{◌≡◌, ℕ, ◌+◌, ◌<◌, ◌≤◌, Bool, true, false, cond, Ok, List, [], ◌∷◌, ◌++◌, length, refl, ap, sym, ◌∙◌, subst, arith}
use Rattle.std.specs.Prelude.{map, is_some}
use Rattle.std.specs.List.{AllByRecursion}
use Rattle.std.proofs.lemmas.Bool.{not-true}
use Rattle.std.proofs.lemmas.Bool.Decides.{nat_tests}
use Rattle.xa_codes.specs.declared.write.Write.{Write}
use Rattle.xa_record.specs.Limits.{AreWrites, IsStamped, IsBranch, IsRecord}
use Rattle.xa_record.specs.declared.record.Record.{Record}
use Rattle.xa_xid.specs.Triple.{Triple, xid_eq}
use Rattle.xa_xid.proofs.Same.{xid_same}
use Rattle.xa_model.specs.State.{Branch, Decided, count, is_known_as, known_count, name_of, timestamp_of, is_working}
use Rattle.xa_model.specs.Invariants.Sound.{IsSound, most_known}
use Rattle.xa_model.specs.Durable.{Durable, CommittedBranch, PreparedBranch, IsDurable, Pairwise, durable, last_writes, by_name, writes_of, keys_before, named_before, named_apart, is_prepared, is_past}
use Rattle.xa_model.specs.Fold.{fold, reading, unread, is_used, snapshot, sizes}
use Rattle.xa_model.specs.Invariants.Loggable.{AreShort, IsLoggable, IsRecoverable}
use Rattle.xa_model.specs.Invariants.Backing.{Backs}
use Rattle.xa_model.specs.Restarting.{wrote, committed_branch, prepared_branch, by_time, opening}
use Rattle.xa_model.specs.Invariants.Restored.{IsRestored}
use Rattle.xa_model.specs.Laws.Backing.{OpensRestored, OpensFresh}
use Rattle.xa_model.proofs.Inserts.{all_imply, none_passes}
use Rattle.xa_model.proofs.Counts.{count_nowhere}
use Rattle.xa_model.proofs.Splits.{all_append}
use Rattle.xa_model.proofs.LastWrites.{last_same}
use Rattle.xa_model.proofs.Tests.{below_apart}
use Rattle.xa_model.proofs.OneForm.{undecided}
use Rattle.xa_model.proofs.Readings.{fold_is_durable}
use Rattle.xa_model.proofs.Snapshots.{snapshot_folds}
use Rattle.xa_model.proofs.Written.{IsWritten, by_key, log_written, snapshot_is_written}
use Rattle.xa_model.proofs.Applied.{same_durable}
use Rattle.xa_model.proofs.Parts.{unheld_sound}
use Rattle.xa_model.proofs.Restarts.{with_none_open}
use Rattle.xa_model.proofs.ByTime.{AreApart, AreWithin, all_by_time, count_by_time, by_time_descends}
use Rattle.xa_model.proofs.Rebuilt.{all_map, by_name_same, wrote_same, are_apart, committed_same, prepared_same, none_committed}
use Rattle.xa_model.proofs.Booted.{past_given, snapshot_given}

-- What records within their limits come to, and the branches that are built of it
record IsKept (d : Durable) : Type 0 where
  form : IsDurable d
  written : IsWritten d

abbrev built : Durable → List Branch
built d = map committed_branch d.committed ++ map prepared_branch d.prepared

abbrev branches : Durable → List Branch
branches d = by_time (built d)

all_built : (P : Branch → Type 0) (d : Durable) → AllByRecursion (λ c. P (committed_branch c)) d.committed
    → AllByRecursion (λ p. P (prepared_branch p)) d.prepared → AllByRecursion P (built d)
all_built P d h k =
    all_append P (map committed_branch d.committed) (map prepared_branch d.prepared) (all_map P committed_branch d.committed h)
    (all_map P prepared_branch d.prepared k)

pub all_branches : (P : Branch → Type 0) (d : Durable) → AllByRecursion (λ c. P (committed_branch c)) d.committed
    → AllByRecursion (λ p. P (prepared_branch p)) d.prepared → AllByRecursion P (branches d)
all_branches P d h k = all_by_time P (built d) (all_built P d h k)

-- their timestamps

abbrev past_at : ℕ → ℕ → Type 0
past_at boot t = is_past (boot + 1) t ≡ true

timed : (P : ℕ → Type 0) (d : Durable) → IsDurable d → ((t : ℕ) → past_at d.boot t → P t) → AllByRecursion (λ (b : Branch). P b.timestamp) (built d)
timed P d h f =
    all_built (λ (b : Branch). P b.timestamp) d
    (all_imply (λ c. past_at d.boot c.timestamp) (λ c. P c.timestamp) (λ c past. f c.timestamp past) d.committed h.committed_past)
    (all_imply (λ p. past_at d.boot p.timestamp) (λ p. P p.timestamp) (λ p past. f p.timestamp past) d.prepared h.prepared_past)

above_zero : (boot t : ℕ) → past_at boot t → 0 < t
above_zero boot t past = grind (arith, nat_tests)

within : (d : Durable) → IsDurable d → AreWithin (timestamp_of (d.boot + 1) 0 + 1) (built d)
within d h =
    timed (λ t. (0 < t) × (t < timestamp_of (d.boot + 1) 0 + 1)) d h
    (λ t past. let given = past_given d.boot (d.boot + 1) t (omega arith) past in (above_zero d.boot t past, omega (arith, given)))

later_past : (boot t : ℕ) → past_at boot t → is_past (boot + 1 + 1) t ≡ true
later_past boot t past = grind (arith, nat_tests)

apart : (d : Durable) → IsDurable d → AreApart (built d)
apart d h = are_apart d.committed d.prepared h.committed h.prepared h.apart

-- their names

counted_append : (p : Branch → Bool) (xs ys : List Branch) → count p (xs ++ ys) ≡ count p xs + count p ys
counted_append p [] ys = omega arith
counted_append p (x ∷ xs) ys = let rest : count p (xs ++ ys) ≡ count p xs + count p ys = counted_append p xs ys in omega (arith, rest)

none_counted : (p : Branch → Bool) → ((c : CommittedBranch) → p (committed_branch c) ≡ false) → (cs : List CommittedBranch)
    → count p (map committed_branch cs) ≡ 0
none_counted p f [] = refl
none_counted p f (c ∷ cs) = let rest : count p (map committed_branch cs) ≡ 0 = none_counted p f cs in rw (f c, rest) refl

all_counted : (p : Branch → Bool) (q : PreparedBranch → Bool) → ((x : PreparedBranch) → p (prepared_branch x) ≡ q x) → (ps : List PreparedBranch)
    → count p (map prepared_branch ps) ≡ count q ps
all_counted p q f [] = refl
all_counted p q f (x ∷ xs) = let rest : count p (map prepared_branch xs) ≡ count q xs = all_counted p q f xs in rw (f x, rest) refl

-- only prepared ones are counted
counted : (p : Branch → Bool) (q : PreparedBranch → Bool) → ((c : CommittedBranch) → p (committed_branch c) ≡ false)
    → ((x : PreparedBranch) → p (prepared_branch x) ≡ q x) → (d : Durable)
    → count p (branches d) ≡ count q d.prepared
counted p q f g d =
    let cs = map committed_branch d.committed in
    let ps = map prepared_branch d.prepared in
    let none : count p cs ≡ 0 = none_counted p f d.committed in
    let all : count p ps ≡ count q d.prepared = all_counted p q g d.prepared in
    omega (arith, count_by_time p (cs ++ ps), counted_append p cs ps, none, all)

one_by : {A : Type 0} (q : A → Bool) (x : A) (xs : List A) (c : Bool) → q x ≡ c → (q x ≡ true → count q xs ≡ 0) → count q xs ≤ 1
    → cond c 1 0 + count q xs ≤ 1
one_by q x xs true e none rest = omega (arith, none e)
one_by q x xs false e none rest = omega (arith, rest)

-- of members that are apart one passes at the most
one : {A : Type 0} (test : A → A → Bool) (q : A → Bool) → ((x y : A) → test x y ≡ true → q x ≡ true → q y ≡ false) → (xs : List A)
    → Pairwise test xs → count q xs ≤ 1
one test q f [] h = omega arith
one test q f (x ∷ xs) h =
    one_by q x xs (q x) refl (λ passes. count_nowhere q xs
    (none_passes q xs (all_imply (λ y. test x y ≡ true) (λ y. q y ≡ false) (λ y k. f x y k passes) xs h.0))) (one test q f xs h.1)

other_by : (x y xid : Triple) (c : Bool) → xid_eq y xid ≡ c → xid_eq x y ≡ false → xid_eq x xid ≡ true → c ≡ false
other_by x y xid false e h k = refl
other_by x y xid true e h k = let same : y ≡ xid = xid_same y xid e in absurd (cc (ap (xid_eq x) same, h, k))

one_prepared : (xid : Triple) (ps : List PreparedBranch) → Pairwise named_apart ps → count (λ p. xid_eq p.xid xid) ps ≤ 1
one_prepared xid ps h =
    one named_apart (λ p. xid_eq p.xid xid)
    (λ x y k passes. other_by x.xid y.xid xid (xid_eq y.xid xid) refl (not-true (xid_eq x.xid y.xid) k) passes) ps h

one_decided : (xid : Triple) (ds : List Decided) → Pairwise named_before ds → count (λ e. xid_eq e.xid xid) ds ≤ 1
one_decided xid ds h =
    one named_before (λ e. xid_eq e.xid xid)
    (λ x y k passes. other_by x.xid y.xid xid (xid_eq y.xid xid) refl (below_apart x.xid y.xid k) passes) ds h

once_by : (xid : Triple) (d : Durable) (c : Bool) → is_prepared xid d.prepared ≡ c → IsDurable d
    → count (λ p. xid_eq p.xid xid) d.prepared + count (λ e. xid_eq e.xid xid) d.decided ≤ 1
once_by xid d true e h =
    let none : count (λ f. xid_eq f.xid xid) d.decided ≡ 0 = count_nowhere (λ f. xid_eq f.xid xid) d.decided (undecided xid d h e) in
    omega (arith, none, one_prepared xid d.prepared h.distinct)
once_by xid d false e h =
    let none : count (λ p. xid_eq p.xid xid) d.prepared ≡ 0 = count_nowhere (λ p. xid_eq p.xid xid) d.prepared e in
    omega (arith, none, one_decided xid d.decided h.decided)

once : (xid : Triple) (d : Durable) → IsDurable d → count (is_known_as xid) (branches d) + count (λ e. xid_eq e.xid xid) d.decided ≤ 1
once xid d h =
    let same : count (is_known_as xid) (branches d) ≡ count (λ p. xid_eq p.xid xid) d.prepared =
    counted (is_known_as xid) (λ p. xid_eq p.xid xid) (λ c. refl) (λ p. refl) d in
    omega (arith, same, once_by xid d (is_prepared xid d.prepared) refl h)

every_counted : {A : Type 0} (xs : List A) → count (λ x. true) xs ≡ length xs
every_counted [] = refl
every_counted (x ∷ xs) = let rest : count (λ x. true) xs ≡ length xs = every_counted xs in omega (arith, rest)

known : (d : Durable) → known_count (branches d) ≡ length d.prepared
known d = counted (λ b. is_some (name_of b.phase)) (λ p. true) (λ c. refl) (λ p. refl) d ∙ every_counted d.prepared

-- The state is sound

opening_sound : (d : Durable) (name : List ℕ) (log_bytes : ℕ) → IsDurable d → length d.prepared + length d.decided ≤ most_known
    → IsSound (opening d name log_bytes (d.boot + 1))
opening_sound d name log_bytes h few =
    unheld_sound (opening d name log_bytes (d.boot + 1)) (by_time_descends (timestamp_of (d.boot + 1) 0 + 1) (built d) (within d h) (apart d h)) (λ xid. once xid d h)
    (omega (arith, known d, few)) (omega arith)

-- and may be logged

short : (ws : List Write) → AreWrites ws → AreShort (writes_of (map wrote ws))
short ws h =
    let same : writes_of (map wrote ws) ≡ ws = wrote_same ws (by_key [] ws h.ascending) in
    let itself : AreShort ws = record { few = h.few; each = h.each } in
    subst AreShort (sym same) itself

all_short : (d : Durable) → IsWritten d → AllByRecursion (λ (b : Branch). AreShort (writes_of b.operations)) (branches d)
all_short d h =
    all_branches (λ (b : Branch). AreShort (writes_of b.operations)) d
    (all_imply (λ c. IsStamped c.timestamp c.writes) (λ c. AreShort (writes_of (map wrote c.writes)))
    (λ c stamped. short c.writes stamped.writes) d.committed h.committed)
    (all_imply (λ p. IsBranch p.xid p.timestamp p.writes) (λ p. AreShort (writes_of (map wrote p.writes)))
    (λ p branch. short p.writes branch.stamped.writes) d.prepared h.prepared)

pub every : {A : Type 0} (P : A → Type 0) → ((x : A) → P x) → (xs : List A) → AllByRecursion P xs
every P f [] = tt
every P f (x ∷ xs) = (f x, every P f xs)

idle : (d : Durable) → AllByRecursion (λ (b : Branch). is_working b.phase ≡ false) (branches d)
idle d = all_branches (λ (b : Branch). is_working b.phase ≡ false) d (every _ (λ c. refl) d.committed) (every _ (λ p. refl) d.prepared)

all_past : (next : ℕ) (d : Durable) → IsDurable d → ((t : ℕ) → past_at d.boot t → is_past next t ≡ true)
    → AllByRecursion (λ (b : Branch). is_past next b.timestamp ≡ true) (branches d)
all_past next d h f = all_by_time (λ (b : Branch). is_past next b.timestamp ≡ true) (built d) (timed (λ t. is_past next t ≡ true) d h f)

opening_loggable : (d : Durable) (name : List ℕ) (log_bytes : ℕ) → IsKept d → d.boot < 4294967295 → IsLoggable (opening d name log_bytes (d.boot + 1))
opening_loggable d name log_bytes h less = record {
  first = omega arith;
  boots = omega arith;
  last = omega (arith, less);
  past = all_past (d.boot + 1 + 1) d h.form (λ t past. later_past d.boot t past);
  written = all_short d h.written;
}

opening_recoverable : (d : Durable) (name : List ℕ) (log_bytes : ℕ) → IsKept d → d.boot < 4294967295 → length d.prepared + length d.decided ≤ most_known
    → IsRecoverable (opening d name log_bytes (d.boot + 1))
opening_recoverable d name log_bytes h less few =
    with_none_open (opening d name log_bytes (d.boot + 1)) (opening_sound d name log_bytes h.form few) (opening_loggable d name log_bytes h less) refl refl

-- What lasts of it is what lasted

opening_lasts : (d : Durable) (name : List ℕ) (log_bytes : ℕ) → IsKept d
    → durable (opening d name log_bytes (d.boot + 1)) ≡ record d { boot = d.boot + 1 }
opening_lasts d name log_bytes h =
    let limit = timestamp_of (d.boot + 1) 0 + 1 in
    let cs = map committed_branch d.committed in
    let ps = map prepared_branch d.prepared in
    let some = within d h.form in
    let others = apart d h.form in
    let keys = all_imply (λ c. IsStamped c.timestamp c.writes) (λ c. Pairwise keys_before c.writes)
    (λ c stamped. by_key [] c.writes stamped.writes.ascending) d.committed h.written.committed in
    let keys_in = all_imply (λ p. IsBranch p.xid p.timestamp p.writes) (λ p. Pairwise keys_before p.writes)
    (λ p branch. by_key [] p.writes branch.stamped.writes.ascending) d.prepared h.written.prepared in
    let none = none_committed limit d.prepared (behind_within limit cs ps some) (behind_apart cs ps others) in
    same_durable (d.boot + 1) _ d.committed _ d.prepared (by_name d.decided)
    (ap last_writes (committed_same limit d.committed ps h.form.committed keys some others none) ∙ last_same d.committed h.form.last)
    (prepared_same limit d.committed d.prepared h.form.prepared keys_in some others)
    ∙ ap (λ (ds : List Decided). record d { boot = d.boot + 1; decided = ds }) (by_name_same d.decided h.form.decided)
  where
    behind_within : (limit : ℕ) (xs ys : List Branch) → AreWithin limit (xs ++ ys) → AreWithin limit ys
    behind_within limit [] ys h = h
    behind_within limit (x ∷ xs) ys h = behind_within limit xs ys h.1

    behind_apart : (xs ys : List Branch) → AreApart (xs ++ ys) → AreApart ys
    behind_apart [] ys h = h
    behind_apart (x ∷ xs) ys h = behind_apart xs ys h.1

opening_restored : (d : Durable) (name : List ℕ) (log_bytes : ℕ) → IsKept d → d.boot < 4294967295 → length d.prepared + length d.decided ≤ most_known
    → IsRestored d (d.boot + 1) (opening d name log_bytes (d.boot + 1))
opening_restored d name log_bytes h less few = record {
  recoverable = opening_recoverable d name log_bytes h less few;
  lasts = opening_lasts d name log_bytes h;
  boot = refl;
  logged_boot = refl;
  given = refl;
  associations = refl;
  reads = refl;
  idle = idle d;
  past = all_past (d.boot + 1) d h.form (λ t past. past);
  standing = refl;
  open_records = refl;
  end = ap (λ (e : Durable). 8 + sizes (snapshot e (d.boot + 1))) (sym (opening_lasts d name log_bytes h));
}

-- and its snapshot stands after it

opening_backed : (rs : List Record) (d : Durable) (name : List ℕ) (log_bytes : ℕ) → AllByRecursion IsRecord rs → fold rs ≡ Ok d → IsKept d
    → d.boot < 4294967295
    → Backs (snapshot d (d.boot + 1)) (opening d name log_bytes (d.boot + 1))
opening_backed rs d name log_bytes k e h less = record {
  records = snapshot_is_written rs d (d.boot + 1) k e (omega arith) (omega (arith, less));
  lasts = snapshot_folds d (d.boot + 1) h.form (omega arith) ∙ ap (λ c. Ok c) (sym (opening_lasts d name log_bytes h));
  end = refl;
  new = λ current. record {
    given = snapshot_given d (d.boot + 1) h.form (omega arith);
    unused = all_imply (λ (b : Branch). is_working b.phase ≡ false)
        (λ (b : Branch). is_working b.phase ≡ true → is_used b.timestamp (reading unread (snapshot d (d.boot + 1))).timestamps ≡ false)
        (λ b still works. absurd (cc (still, works))) (branches d) (idle d);
  };
}

pub opens_restored : OpensRestored
opens_restored rs d name log_bytes k e less few =
    let h : IsKept d = record { form = fold_is_durable rs d e; written = log_written rs d k e } in
    (opening_restored d name log_bytes h less few, opening_backed rs d name log_bytes k e h less)

pub opens_fresh : OpensFresh
opens_fresh name log_bytes = record {
  name = refl;
  log_bytes = refl;
  boot = refl;
  given = refl;
  logged_boot = refl;
  sessions = refl;
  associations = refl;
  branches = refl;
  decided = refl;
  reads = refl;
  standing = refl;
  end = refl;
  open_records = refl;
  moment = refl;
}
