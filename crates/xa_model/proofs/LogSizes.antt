-- A snapshot takes no more of a file than the records that it stands for: each record adds at least what it makes last.
use Rattle.std.proofs.Common.{◌≡◌, ℕ, ◌+◌, ◌≤◌, Bool, true, false, not, cond, Ok, List, [], ◌∷◌, ◌++◌, length, Option, Some, None, refl, ap, subst, sym, arith}
use Rattle.std.specs.Prelude.{map, find, filter, flat_map}
use Rattle.std.specs.Int.{w16, w64, to_be_bytes}
use Rattle.std.proofs.lemmas.List.{length-append}
use Rattle.xa_codes.specs.declared.direction.Direction.{Direction}
use Rattle.xa_codes.specs.declared.direction.Direction.TheVariants.{Commit, Rollback}
use Rattle.xa_codes.specs.declared.write.Write.{Write}
use Rattle.xa_xid.specs.Triple.{Triple, xid_eq}
use Rattle.xa_xid.specs.Spelling.{bytes_of}
use Rattle.xa_record.specs.Spelling.{spelled, write_bytes}
use Rattle.xa_record.specs.declared.record.Record.{Record}
use Rattle.xa_record.specs.declared.record.Record.TheVariants.{Opened, Prepared, Committed, Completed, Decided, Forgotten, Base, Held, Known}
use Rattle.xa_model.specs.State.{without}
use Rattle.xa_model.specs.Durable.{Durable, CommittedBranch, PreparedBranch, insert, commit, commits_before, prepares_before, named_before, is_written, not_overwritten, with_writes, last_writes}
use Rattle.xa_model.specs.Fold.{Reading, apply, complete, commit_prepared, prepared_as, read, is_new, fold_from, fold, unread, base, held, known, snapshot, size_of, sizes}
use Rattle.xa_model.specs.Laws.Durable.{SnapshotIsShort}
use Rattle.xa_model.proofs.Folds.{stepped}
use Rattle.xa_model.proofs.Tests.{none_past}

-- the bytes that a snapshot has after its first record
abbrev lasts : Durable → ℕ
lasts d = sizes (map base d.committed) + (sizes (map held d.prepared) + sizes (map known d.decided))

pub sizes-append : (rs ss : List Record) → sizes (rs ++ ss) ≡ sizes rs + sizes ss
sizes-append [] ss = omega arith
sizes-append (r ∷ rs) ss = let rest : sizes (rs ++ ss) ≡ sizes rs + sizes ss = sizes-append rs ss in omega arith

-- lists of records, by members that take their places or leave

inserted_by : {A : Type 0} (f : A → Record) (x y : A) (ys zs : List A) (c : Bool) → sizes (map f zs) ≡ size_of (f x) + sizes (map f ys)
    → sizes (map f (cond c (y ∷ zs) (x ∷ y ∷ ys))) ≡ size_of (f x) + (size_of (f y) + sizes (map f ys))
inserted_by f x y ys zs true e = omega arith
inserted_by f x y ys zs false e = refl

sizes_insert : {A : Type 0} (f : A → Record) (before : A → A → Bool) (x : A) (xs : List A) → sizes (map f (insert before x xs)) ≡ size_of (f x) + sizes (map f xs)
sizes_insert f before x [] = refl
sizes_insert f before x (y ∷ ys) = inserted_by f x y ys (insert before x ys) (before y x) (sizes_insert f before x ys)

left_by_one : {A : Type 0} (f : A → Record) (x : A) (xs ys : List A) (c : Bool) → sizes (map f ys) ≤ sizes (map f xs) → sizes (map f (cond c xs (x ∷ ys))) ≤ size_of (f x) + sizes (map f xs)
left_by_one f x xs ys true h = omega arith
left_by_one f x xs ys false h = omega arith

sizes_without : {A : Type 0} (f : A → Record) (p : A → Bool) (xs : List A) → sizes (map f (without p xs)) ≤ sizes (map f xs)
sizes_without f p [] = omega arith
sizes_without f p (x ∷ xs) = left_by_one f x xs (without p xs) (p x) (sizes_without f p xs)

found_by : {A : Type 0} (f : A → Record) (p : A → Bool) (x y : A) (xs : List A) (c : Bool) → (find p xs ≡ Some y → size_of (f y) + sizes (map f (without p xs)) ≡ sizes (map f xs))
    → cond c (Some x) (find p xs) ≡ Some y → size_of (f y) + sizes (map f (cond c xs (x ∷ without p xs))) ≡ size_of (f x) + sizes (map f xs)
found_by f p x y xs true rest e = let same : x ≡ y = cc e in ap (λ z. size_of (f z) + sizes (map f xs)) (sym same)
found_by f p x y xs false rest e = let here : size_of (f y) + sizes (map f (without p xs)) ≡ sizes (map f xs) = rest e in omega arith

sizes_found : {A : Type 0} (f : A → Record) (p : A → Bool) (y : A) (xs : List A) → find p xs ≡ Some y → size_of (f y) + sizes (map f (without p xs)) ≡ sizes (map f xs)
sizes_found f p y [] e = absurd (cc e)
sizes_found f p y (x ∷ xs) e = found_by f p x y xs (p x) (sizes_found f p y xs) e

-- fewer writes

fewer_by : (w : Write) (ws vs : List Write) (c : Bool) → length (flat_map write_bytes vs) ≤ length (flat_map write_bytes ws)
    → length (flat_map write_bytes (cond c (w ∷ vs) vs)) ≤ length (flat_map write_bytes (w ∷ ws))
fewer_by w ws vs true h = omega (arith, length-append (write_bytes w) (flat_map write_bytes vs), length-append (write_bytes w) (flat_map write_bytes ws))
fewer_by w ws vs false h = omega (arith, length-append (write_bytes w) (flat_map write_bytes ws))

fewer_bytes : (p : Write → Bool) (ws : List Write) → length (flat_map write_bytes (filter p ws)) ≤ length (flat_map write_bytes ws)
fewer_bytes p [] = omega arith
fewer_bytes p (w ∷ ws) = fewer_by w ws (filter p ws) (p w) (fewer_bytes p ws)

base_size : (t : ℕ) (ws : List Write) → size_of (Base t ws) ≡ length (flat_map write_bytes ws) + 47
base_size t ws = omega arith

with_size : (t : ℕ) (ws : List Write) (bs : List CommittedBranch) → sizes (map base (with_writes t ws bs)) ≤ size_of (Base t ws) + sizes (map base bs)
with_size t [] bs = omega arith
with_size t (w ∷ ws) bs = omega arith

last_size : (bs : List CommittedBranch) → sizes (map base (last_writes bs)) ≤ sizes (map base bs)
last_size [] = omega arith
last_size (b ∷ later) =
    let kept = not_overwritten later b.writes in
    let here : sizes (map base (with_writes b.timestamp kept (last_writes later))) ≤ size_of (Base b.timestamp kept) + sizes (map base (last_writes later)) = with_size b.timestamp kept (last_writes later) in
    let fewer : length (flat_map write_bytes kept) ≤ length (flat_map write_bytes b.writes) = fewer_bytes (λ w. not (is_written w.key later)) b.writes in
    let rest : sizes (map base (last_writes later)) ≤ sizes (map base later) = last_size later in
    let mine : size_of (Base b.timestamp kept) ≡ length (flat_map write_bytes kept) + 47 = base_size b.timestamp kept in
    let whole : size_of (Base b.timestamp b.writes) ≡ length (flat_map write_bytes b.writes) + 47 = base_size b.timestamp b.writes in
    omega (arith, here, fewer, rest, mine, whole)

commit_size : (b : CommittedBranch) (bs : List CommittedBranch) → sizes (map base (commit b bs)) ≤ size_of (base b) + sizes (map base bs)
commit_size b bs =
    let less : sizes (map base (commit b bs)) ≤ sizes (map base (insert commits_before b bs)) = last_size (insert commits_before b bs) in
    let all : sizes (map base (insert commits_before b bs)) ≡ size_of (base b) + sizes (map base bs) = sizes_insert base commits_before b bs in
    omega (arith, less, all)

-- what a record adds

branch_size : (x : Triple) (t : ℕ) (ws : List Write) → length (spelled (Prepared x t ws)) ≡ length (bytes_of x) + length (flat_map write_bytes ws) + 11
branch_size x t ws = omega (arith, length-append (bytes_of x) (to_be_bytes w64 t ++ (to_be_bytes w16 (length ws) ++ flat_map write_bytes ws)))

held_covers : (x : Triple) (t : ℕ) (ws : List Write) → size_of (Base t ws) ≤ size_of (Held x t ws)
held_covers x t ws =
    let branch : size_of (Held x t ws) ≡ length (bytes_of x) + length (flat_map write_bytes ws) + 47 = omega (arith, branch_size x t ws) in
    let mine : size_of (Base t ws) ≡ length (flat_map write_bytes ws) + 47 = base_size t ws in
    omega (arith, branch, mine)

commit_prepared_size : (p : PreparedBranch) (d : Durable) → lasts (commit_prepared (Some p) d) ≤ size_of (held p) + lasts d
commit_prepared_size p d =
    let b : CommittedBranch = record { timestamp = p.timestamp; writes = p.writes } in
    let more : sizes (map base (commit b d.committed)) ≤ size_of (base b) + sizes (map base d.committed) = commit_size b d.committed in
    let covers : size_of (Base p.timestamp p.writes) ≤ size_of (Held p.xid p.timestamp p.writes) = held_covers p.xid p.timestamp p.writes in
    omega (arith, more, covers)

committed_size : (xid : Triple) (d : Durable) (o : Option PreparedBranch) → find (prepared_as xid) d.prepared ≡ o
    → lasts (commit_prepared o (record d { prepared = without (prepared_as xid) d.prepared })) ≤ lasts d
committed_size xid d None e = let less : sizes (map held (without (prepared_as xid) d.prepared)) ≤ sizes (map held d.prepared) = sizes_without held (prepared_as xid) d.prepared in omega (arith, less)
committed_size xid d (Some p) e =
    let gone : size_of (held p) + sizes (map held (without (prepared_as xid) d.prepared)) ≡ sizes (map held d.prepared) = sizes_found held (prepared_as xid) p d.prepared e in
    let more = commit_prepared_size p (record d { prepared = without (prepared_as xid) d.prepared }) in
    omega (arith, gone, more)

complete_size : (xid : Triple) (direction : Direction) (d : Durable) → lasts (complete xid direction d) ≤ lasts d
complete_size xid Commit d = committed_size xid d (find (prepared_as xid) d.prepared) refl
complete_size xid Rollback d = let less : sizes (map held (without (prepared_as xid) d.prepared)) ≤ sizes (map held d.prepared) = sizes_without held (prepared_as xid) d.prepared in omega (arith, less)

decided_size : (xid : Triple) (direction : Direction) (d : Durable) → sizes (map known (insert named_before (record { xid = xid; direction = direction }) d.decided)) ≡ size_of (Known xid direction) + sizes (map known d.decided)
decided_size xid direction d = sizes_insert known named_before (record { xid = xid; direction = direction }) d.decided

prepared_size : (xid : Triple) (t : ℕ) (ws : List Write) (d : Durable)
    → sizes (map held (insert prepares_before (record { xid = xid; timestamp = t; writes = ws }) d.prepared)) ≡ size_of (Held xid t ws) + sizes (map held d.prepared)
prepared_size xid t ws d = sizes_insert held prepares_before (record { xid = xid; timestamp = t; writes = ws }) d.prepared

apply_size : (r : Record) (d : Durable) → lasts (apply r d) ≤ size_of r + lasts d
apply_size (Opened boot) d = omega arith
apply_size (Prepared xid t ws) d = omega (arith, prepared_size xid t ws d)
apply_size (Committed xid t ws) d = omega (arith, commit_size (record { timestamp = t; writes = ws }) d.committed, held_covers xid t ws)
apply_size (Completed xid direction) d = omega (arith, complete_size xid direction d)
apply_size (Decided xid direction) d = omega (arith, decided_size xid direction (complete xid direction d), complete_size xid direction d)
apply_size (Forgotten xid) d = omega (arith, sizes_without known (λ e. xid_eq e.xid xid) d.decided)
apply_size (Base t ws) d = omega (arith, commit_size (record { timestamp = t; writes = ws }) d.committed)
apply_size (Held xid t ws) d = omega (arith, prepared_size xid t ws d)
apply_size (Known xid direction) d = omega (arith, decided_size xid direction d)

-- all of them

fold_size : (i : ℕ) (x : Reading) (rs : List Record) (d : Durable) → fold_from i x rs ≡ Ok d → lasts d ≤ sizes rs + lasts x.durable
fold_size i x [] d e = let same : x.durable ≡ d = cc e in subst (λ (q : Durable). lasts q ≤ 0 + lasts x.durable) same (omega arith)
fold_size i x (r ∷ rs) d e =
    let both = stepped r x i rs d e in
    let rest : lasts d ≤ sizes rs + lasts (apply r x.durable) = fold_size (i + 1) (read r x) rs d both.1 in
    let here : lasts (apply r x.durable) ≤ size_of r + lasts x.durable = apply_size r x.durable in
    omega (arith, rest, here)

snapshot_size : (d : Durable) (boot : ℕ) → sizes (snapshot d boot) ≡ 41 + lasts d
snapshot_size d boot =
    omega (arith, sizes-append (map base d.committed) (map held d.prepared ++ map known d.decided), sizes-append (map held d.prepared) (map known d.decided))

-- the first record is of a boot

opened_first : (boot : ℕ) (rs : List Record) (d : Durable) → fold (Opened boot ∷ rs) ≡ Ok d → lasts d ≤ sizes rs
opened_first boot rs d e =
    let both = stepped (Opened boot) unread 0 rs d e in
    let rest : lasts d ≤ sizes rs + 0 = fold_size 1 (read (Opened boot) unread) rs d both.1 in
    omega (arith, rest)

-- before it there is no boot that could have given a timestamp
new_before : (xid : Triple) (t : ℕ) → is_new xid t unread ≡ false
new_before xid t = rw (none_past t) refl

pub snapshot_is_short : SnapshotIsShort
snapshot_is_short [] d boot some e = absurd (omega arith)
snapshot_is_short (Opened first ∷ rs) d boot some e = omega (arith, snapshot_size d boot, opened_first first rs d e)
snapshot_is_short (Prepared xid t ws ∷ rs) d boot some e = absurd (cc (new_before xid t, (stepped (Prepared xid t ws) unread 0 rs d e).0))
snapshot_is_short (Committed xid t ws ∷ rs) d boot some e = absurd (cc (new_before xid t, (stepped (Committed xid t ws) unread 0 rs d e).0))
snapshot_is_short (Completed xid direction ∷ rs) d boot some e = absurd (cc e)
snapshot_is_short (Decided xid direction ∷ rs) d boot some e = absurd (cc e)
snapshot_is_short (Forgotten xid ∷ rs) d boot some e = absurd (cc e)
snapshot_is_short (Base t ws ∷ rs) d boot some e = absurd (cc e)
snapshot_is_short (Held xid t ws ∷ rs) d boot some e = absurd (cc e)
snapshot_is_short (Known xid direction ∷ rs) d boot some e = absurd (cc e)
