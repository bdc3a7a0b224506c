-- The room that a log keeps, counted: what each record takes of it.
use Rattle.std.proofs.Common.{◌≡◌, ℕ, ◌+◌, ◌*◌, ◌≤◌, Bool, true, false, cond, Ok, List, [], ◌∷◌, ◌++◌, length, Option, Some, None, refl, ap, sym, ◌∙◌, subst, arith}
use Rattle.std.specs.Prelude.{find, filter_map, option_map}
use Rattle.std.proofs.lemmas.Bool.Decides.{nat_tests}
use Rattle.std.proofs.lemmas.List.{length-append, length-reverse}
use Rattle.xa_codes.specs.declared.direction.Direction.{Direction}
use Rattle.xa_codes.specs.declared.direction.Direction.TheVariants as direction
use Rattle.xa_codes.specs.declared.write.Write.{Write}
use Rattle.xa_record.specs.Limits.{IsRecord}
use Rattle.xa_record.specs.Spelling.{direction_byte}
use Rattle.xa_record.specs.declared.record.Record.{Record}
use Rattle.xa_record.specs.declared.record.Record.TheVariants as logged
use Rattle.xa_xid.specs.Spelling.{bytes_of}
use Rattle.xa_xid.specs.Triple.{Triple, IsWithinLimits}
use Rattle.xa_model.specs.State.{State, Branch, Phase, Working, Prepared, Committed, Decided, InDoubt, Up, count, change, without, is_known_as, known_as, known_of, known_among, known_by, decided_of}
use Rattle.xa_model.specs.Phases.{as_prepared, as_committed, prepared, committed, completed, is_decision_of, forgotten}
use Rattle.xa_model.specs.Durable.{Durable, insert, named_before, by_name, durable}
use Rattle.xa_model.specs.Fold.{fold, nothing, size_of}
use Rattle.xa_model.specs.Logging.{log_room, has_room, is_in_doubt, prepared_count, snapshot_end, applied}
use Rattle.xa_limits.specs.declared.TheConstants.{DECIDED_ROOM, LENGTH_BYTES, PREPARED_ROOM}
use Rattle.xa_model.specs.Completions.{is_completed}
use Rattle.xa_model.specs.Invariants.MayLog.{MayLog}
use Rattle.xa_model.specs.Invariants.Loggable.{IsRecoverable, is_boot}
use Rattle.xa_model.specs.Invariants.Backing.{Backs}
use Rattle.xa_model.specs.Invariants.Room.{HasRoom, IsRoomy}
use Rattle.xa_model.proofs.Counts.{count_change, count_changed}
use Rattle.xa_model.proofs.Splits.{split}
use Rattle.xa_model.proofs.Applied.{prepared_of}
use Rattle.xa_model.proofs.LogSizes.{snapshot_is_short}

-- in numbers

pub room_is : (log_bytes end prepared decided : ℕ) → log_room log_bytes end prepared decided ≡ true
    → end + LENGTH_BYTES + PREPARED_ROOM * prepared + DECIDED_ROOM * decided ≤ log_bytes
room_is log_bytes end prepared decided e = grind (arith, nat_tests)

pub is_room : (log_bytes end prepared decided : ℕ) → end + LENGTH_BYTES + PREPARED_ROOM * prepared + DECIDED_ROOM * decided ≤ log_bytes
    → log_room log_bytes end prepared decided ≡ true
is_room log_bytes end prepared decided e = grind (arith, nat_tests)

pub less_room : (log_bytes end prepared decided size fewer more : ℕ) → log_room log_bytes end prepared decided ≡ true
    → size + PREPARED_ROOM * fewer + DECIDED_ROOM * more ≤ end + PREPARED_ROOM * prepared + DECIDED_ROOM * decided
    → log_room log_bytes size fewer more ≡ true
less_room log_bytes end prepared decided size fewer more e less =
    let room = room_is log_bytes end prepared decided e in is_room log_bytes size fewer more (omega (arith, room, less))

-- a state that takes no more of a log of as many bytes
pub still_room : (s t : State) → t.log_bytes ≡ s.log_bytes
    → t.end + PREPARED_ROOM * prepared_count t + DECIDED_ROOM * length t.decided
    ≤ s.end + PREPARED_ROOM * prepared_count s + DECIDED_ROOM * length s.decided
    → HasRoom s → HasRoom t
still_room s t bytes less h =
    subst (λ n. log_room n t.end (prepared_count t) (length t.decided) ≡ true) (sym bytes)
    (less_room s.log_bytes s.end (prepared_count s) (length s.decided) t.end (prepared_count t) (length t.decided) h less)

pub up_room : (s : State) → s.standing ≡ Up → IsRoomy s → HasRoom s
up_room s up h = (h (λ ended. absurd (cc (up, ended)))).room

-- sizes of records that complete a branch

name_size : (xid : Triple) → IsWithinLimits xid → length (bytes_of xid) ≤ 134
name_size xid h = omega (arith, length-append xid.gtrid xid.bqual, h.lengths.2, h.lengths.3)

completed_size : (xid : Triple) (d : Direction) → IsWithinLimits xid → size_of (logged.Completed xid d) ≤ 172
completed_size xid d h = omega (arith, length-append (bytes_of xid) (direction_byte d ∷ []), name_size xid h)

decided_size : (xid : Triple) (d : Direction) → IsWithinLimits xid → size_of (logged.Decided xid d) ≤ 172
decided_size xid d h = omega (arith, length-append (bytes_of xid) (direction_byte d ∷ []), name_size xid h)

forgotten_size : (xid : Triple) → IsWithinLimits xid → size_of (logged.Forgotten xid) ≤ 171
forgotten_size xid h = omega (arith, name_size xid h)

-- a member that is counted leaves, or changes and is counted no more

count_append : {A : Type 0} (q : A → Bool) (xs ys : List A) → count q (xs ++ ys) ≡ count q xs + count q ys
count_append q [] ys = omega arith
count_append q (x ∷ xs) ys = let rest : count q (xs ++ ys) ≡ count q xs + count q ys = count_append q xs ys in omega (arith, rest)

counted : {A : Type 0} (q : A → Bool) (x : A) (xs : List A) → q x ≡ true → count q (x ∷ xs) ≡ 1 + count q xs
counted q x xs e = rw e refl

uncounted : {A : Type 0} (q : A → Bool) (x : A) (xs : List A) → q x ≡ false → count q (x ∷ xs) ≡ count q xs
uncounted q x xs e = rw e (omega arith)

one_left : {A : Type 0} (p q : A → Bool) (x : A) (xs : List A) → find p xs ≡ Some x → q x ≡ true → count q (without p xs) + 1 ≡ count q xs
one_left p q x xs found e =
    let here = split p x xs found in
    let left : count q (without p xs) ≡ count q here.front + count q here.back = ap (count q) here.left ∙ count_append q here.front here.back in
    let whole : count q xs ≡ count q here.front + count q (x ∷ here.back) = ap (count q) here.whole ∙ count_append q here.front (x ∷ here.back) in
    omega (arith, left, whole, counted q x here.back e)

one_changed : {A : Type 0} (p q : A → Bool) (f : A → A) (x : A) (xs : List A) → find p xs ≡ Some x → q x ≡ true → q (f x) ≡ false
    → count q (change p f xs) + 1 ≡ count q xs
one_changed p q f x xs found e g =
    let here = split p x xs found in
    let changed : count q (change p f xs) ≡ count q here.front + count q (f x ∷ here.back)
    = ap (count q) (here.changed f) ∙ count_append q here.front (f x ∷ here.back) in
    let whole : count q xs ≡ count q here.front + count q (x ∷ here.back) = ap (count q) here.whole ∙ count_append q here.front (x ∷ here.back) in
    omega (arith, changed, whole, counted q x here.back e, uncounted q (f x) here.back g)

shorter : {A : Type 0} (p : A → Bool) (x : A) (xs : List A) → find p xs ≡ Some x → length (without p xs) + 1 ≡ length xs
shorter p x xs found =
    let here = split p x xs found in
    let left : length (without p xs) ≡ length here.front + length here.back = ap length here.left ∙ length-append here.front here.back in
    let whole : length xs ≡ length here.front + length (x ∷ here.back) = ap length here.whole ∙ length-append here.front (x ∷ here.back) in
    omega (arith, left, whole)

-- a branch in doubt is a prepared one, and one fewer is once it is completed

record IsDoubtful (s : State) (xid : Triple) : Type 0 where
  branch : Branch
  found : known_of s.branches xid ≡ Some branch
  doubt : is_in_doubt branch.phase ≡ true

doubt_of : (p : Phase) → known_by p ≡ InDoubt → is_in_doubt p ≡ true
doubt_of (Working x work) e = absurd (cc e)
doubt_of (Prepared x) e = refl
doubt_of Committed e = absurd (cc e)

doubtful_by : (s : State) (xid : Triple) (o : Option Branch) (d : Option Direction) → known_of s.branches xid ≡ o → known_among o d ≡ InDoubt
    → IsDoubtful s xid
doubtful_by s xid (Some b) d found e = record { branch = b; found = found; doubt = doubt_of b.phase e }
doubtful_by s xid None None found e = absurd (cc e)
doubtful_by s xid None (Some direction) found e = absurd (cc e)

doubtful : (s : State) (xid : Triple) → known_as s xid ≡ InDoubt → IsDoubtful s xid
doubtful s xid e = doubtful_by s xid (known_of s.branches xid) (decided_of s.decided xid) refl e

abbrev doubts : Branch → Bool
doubts b = is_in_doubt b.phase

pub completed_fewer : (s : State) (d : Direction) (xid : Triple) → known_as s xid ≡ InDoubt → prepared_count (completed s d xid) + 1 ≡ prepared_count s
completed_fewer s direction.Commit xid e =
    let here = doubtful s xid e in one_changed (is_known_as xid) doubts as_committed here.branch s.branches here.found here.doubt refl
completed_fewer s direction.Rollback xid e =
    let here = doubtful s xid e in one_left (is_known_as xid) doubts here.branch s.branches here.found here.doubt

-- what the operator completed is one of the decided XIDs, and one fewer is once it is forgotten

forgotten_by : (xid : Triple) (ds : List Decided) (o : Option Decided) → find (is_decision_of xid) ds ≡ o
    → is_completed (known_among None (option_map (λ d. d.direction) o)) ≡ true
    → length (without (is_decision_of xid) ds) + 1 ≡ length ds
forgotten_by xid ds None found e = absurd (cc e)
forgotten_by xid ds (Some d) found e = shorter (is_decision_of xid) d ds found

branch_completed : (p : Phase) → is_completed (known_by p) ≡ true → ⊥
branch_completed (Working x work) e = cc e
branch_completed (Prepared x) e = cc e
branch_completed Committed e = cc e

fewer_by : (s : State) (xid : Triple) (o : Option Branch) → is_completed (known_among o (decided_of s.decided xid)) ≡ true
    → length (forgotten s xid).decided + 1 ≡ length s.decided
fewer_by s xid (Some b) e = absurd (branch_completed b.phase e)
fewer_by s xid None e = forgotten_by xid s.decided (find (is_decision_of xid) s.decided) refl e

pub forgotten_fewer : (s : State) (xid : Triple) → is_completed (known_as s xid) ≡ true → length (forgotten s xid).decided + 1 ≡ length s.decided
forgotten_fewer s xid e = fewer_by s xid (known_of s.branches xid) e

-- Room for what completes a branch in doubt, and for forgetting what the operator completed

pub completion_fits : (s : State) (xid : Triple) (d : Direction) → HasRoom s → known_as s xid ≡ InDoubt → IsWithinLimits xid
    → s.end + size_of (logged.Completed xid d) + 4 ≤ s.log_bytes
completion_fits s xid d h e limits =
    omega (arith, room_is s.log_bytes s.end (prepared_count s) (length s.decided) h, completed_size xid d limits, completed_fewer s d xid e)

pub decision_fits : (s : State) (xid : Triple) (d : Direction) → HasRoom s → known_as s xid ≡ InDoubt → IsWithinLimits xid
    → s.end + size_of (logged.Decided xid d) + 4 ≤ s.log_bytes
decision_fits s xid d h e limits =
    omega (arith, room_is s.log_bytes s.end (prepared_count s) (length s.decided) h, decided_size xid d limits, completed_fewer s d xid e)

pub forgetting_fits : (s : State) (xid : Triple) → HasRoom s → is_completed (known_as s xid) ≡ true → IsWithinLimits xid
    → s.end + size_of (logged.Forgotten xid) + 4 ≤ s.log_bytes
forgetting_fits s xid h e limits =
    omega (arith, room_is s.log_bytes s.end (prepared_count s) (length s.decided) h, forgotten_size xid limits, forgotten_fewer s xid e)

-- A record that is appended leaves room: one that a row asks room for, and each that completes or forgets

abbrev pub HasRoomFor : State → Record → Type 0
HasRoomFor s (logged.Prepared xid t ws) = has_room s (logged.Prepared xid t ws) 1 ≡ true
HasRoomFor s (logged.Committed xid t ws) = has_room s (logged.Committed xid t ws) 0 ≡ true
HasRoomFor s _ = Unit {0}

prepared_leaves : (s : State) (xid : Triple) (t : ℕ) (ws : List Write) → has_room s (logged.Prepared xid t ws) 1 ≡ true
    → HasRoom (applied (logged.Prepared xid t ws) s)
prepared_leaves s xid t ws room =
    let more : count doubts (change (is_known_as xid) as_prepared s.branches) ≤ count doubts s.branches + 1
    = count_change (is_known_as xid) as_prepared doubts s.branches in
    let size = size_of (logged.Prepared xid t ws) in
    less_room s.log_bytes (s.end + size) (prepared_count s + 1) (length s.decided) (s.end + size)
    (prepared_count (prepared s xid)) (length s.decided) room (omega (arith, more))

committed_leaves : (s : State) (xid : Triple) (t : ℕ) (ws : List Write) → has_room s (logged.Committed xid t ws) 0 ≡ true
    → HasRoom (applied (logged.Committed xid t ws) s)
committed_leaves s xid t ws room =
    let fewer : count doubts (change (is_known_as xid) as_committed s.branches) ≤ count doubts s.branches
    = count_changed (is_known_as xid) as_committed doubts (λ b known no. absurd (cc no)) s.branches in
    let size = size_of (logged.Committed xid t ws) in
    less_room s.log_bytes (s.end + size) (prepared_count s + 0) (length s.decided) (s.end + size)
    (prepared_count (committed s xid)) (length s.decided) room (omega (arith, fewer))

completed_leaves : (s : State) (xid : Triple) (d : Direction) → HasRoom s → known_as s xid ≡ InDoubt → IsWithinLimits xid
    → HasRoom (applied (logged.Completed xid d) s)
completed_leaves s xid direction.Commit h e limits =
    still_room s (applied (logged.Completed xid direction.Commit) s) refl
    (omega (arith, completed_size xid direction.Commit limits, completed_fewer s direction.Commit xid e)) h
completed_leaves s xid direction.Rollback h e limits =
    still_room s (applied (logged.Completed xid direction.Rollback) s) refl
    (omega (arith, completed_size xid direction.Rollback limits, completed_fewer s direction.Rollback xid e)) h

decided_leaves : (s : State) (xid : Triple) (d : Direction) → HasRoom s → known_as s xid ≡ InDoubt → IsWithinLimits xid
    → HasRoom (applied (logged.Decided xid d) s)
decided_leaves s xid direction.Commit h e limits =
    still_room s (applied (logged.Decided xid direction.Commit) s) refl
    (omega (arith, decided_size xid direction.Commit limits, completed_fewer s direction.Commit xid e)) h
decided_leaves s xid direction.Rollback h e limits =
    still_room s (applied (logged.Decided xid direction.Rollback) s) refl
    (omega (arith, decided_size xid direction.Rollback limits, completed_fewer s direction.Rollback xid e)) h

forgotten_leaves : (s : State) (xid : Triple) → HasRoom s → is_completed (known_as s xid) ≡ true → IsWithinLimits xid
    → HasRoom (applied (logged.Forgotten xid) s)
forgotten_leaves s xid h e limits =
    still_room s (applied (logged.Forgotten xid) s) refl (omega (arith, forgotten_size xid limits, forgotten_fewer s xid e)) h

pub applied_room : (s : State) (r : Record) → HasRoom s → HasRoomFor s r → MayLog s r → IsRecord r → is_boot r ≡ false → HasRoom (applied r s)
applied_room s (logged.Opened boot) h room may limits other = absurd (cc other)
applied_room s (logged.Prepared xid t ws) h room may limits other = prepared_leaves s xid t ws room
applied_room s (logged.Committed xid t ws) h room may limits other = committed_leaves s xid t ws room
applied_room s (logged.Completed xid d) h room may limits other = completed_leaves s xid d h may limits
applied_room s (logged.Decided xid d) h room may limits other = decided_leaves s xid d h may limits
applied_room s (logged.Forgotten xid) h room may limits other = forgotten_leaves s xid h may limits
applied_room s (logged.Base t ws) h room may limits other = absurd may
applied_room s (logged.Held xid t ws) h room may limits other = absurd may
applied_room s (logged.Known xid d) h room may limits other = absurd may

-- The room is told by what lasts

made_by : (b : Branch) (p : Phase) (bs : List Branch) → b.phase ≡ p → length (filter_map prepared_of bs) ≡ count doubts bs
    → length (filter_map prepared_of (b ∷ bs)) ≡ count doubts (b ∷ bs)
made_by b (Working x work) bs e rest = rw e (omega (arith, rest))
made_by b (Prepared x) bs e rest = rw e (omega (arith, rest))
made_by b Committed bs e rest = rw e (omega (arith, rest))

made : (bs : List Branch) → length (filter_map prepared_of bs) ≡ count doubts bs
made [] = refl
made (b ∷ bs) = made_by b b.phase bs refl (made bs)

pub prepared_lasting : (s : State) → length (durable s).prepared ≡ prepared_count s
prepared_lasting s = length-reverse (filter_map prepared_of s.branches) ∙ made s.branches

inserted_by : (d e : Decided) (ds es : List Decided) (c : Bool) → length es ≡ 1 + length ds
    → length (cond c (e ∷ es) (d ∷ e ∷ ds)) ≡ 1 + length (e ∷ ds)
inserted_by d e ds es true same = omega (arith, same)
inserted_by d e ds es false same = omega arith

inserted : (d : Decided) (ds : List Decided) → length (insert named_before d ds) ≡ 1 + length ds
inserted d [] = refl
inserted d (e ∷ ds) = inserted_by d e ds (insert named_before d ds) (named_before e d) (inserted d ds)

named : (ds : List Decided) → length (by_name ds) ≡ length ds
named [] = refl
named (d ∷ ds) = let rest : length (by_name ds) ≡ length ds = named ds in omega (arith, rest, inserted d (by_name ds))

pub decided_lasting : (s : State) → length (durable s).decided ≡ length s.decided
decided_lasting s = named s.decided

-- where the same lasts, and the log ends where it did
pub lasting_room : (s t : State) → t.log_bytes ≡ s.log_bytes → t.end ≡ s.end → durable t ≡ durable s → HasRoom s → HasRoom t
lasting_room s t bytes end lasts h =
    let prepared : prepared_count t ≡ prepared_count s
    = sym (prepared_lasting t) ∙ ap (λ (d : Durable). length d.prepared) lasts ∙ prepared_lasting s in
    let decided : length t.decided ≡ length s.decided = sym (decided_lasting t) ∙ ap (λ (d : Durable). length d.decided) lasts ∙ decided_lasting s in
    still_room s t bytes (omega (arith, end, prepared, decided)) h

-- A snapshot takes no more of a file than the log that backs the state

some_records : (rs : List Record) (s : State) → IsRecoverable s → fold rs ≡ Ok (durable s) → 1 ≤ length rs
some_records [] s h lasts =
    let same : nothing ≡ durable s = cc lasts in
    let none : 0 ≡ s.logged_boot = ap (λ (d : Durable). d.boot) same in absurd (omega (arith, none, h.loggable.first, h.loggable.boots))
some_records (r ∷ rs) s h lasts = omega arith

pub snapshot_ends : (rs : List Record) (s : State) (boot : ℕ) → 1 ≤ length rs → Backs rs s → snapshot_end s boot ≤ s.end
snapshot_ends rs s boot some k = omega (arith, k.end, snapshot_is_short rs (durable s) boot some k.lasts)

pub recoverable_snapshot_ends : (rs : List Record) (s : State) (boot : ℕ) → IsRecoverable s → Backs rs s → snapshot_end s boot ≤ s.end
recoverable_snapshot_ends rs s boot h k = snapshot_ends rs s boot (some_records rs s h k.lasts) k
