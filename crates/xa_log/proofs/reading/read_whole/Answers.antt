use Rattle.std.proofs.Common.{◌≡◌, ◌∙◌, ◌+◌, ◌≤◌, ◌&&◌, ◌||◌, not, ℕ, Bool, Some, List, length, take, drop, sym, ap, subst, arith}
use Rattle.std.specs.Prelude.{is_some}
use Rattle.xa_log.specs.Believed.Chain.{format_of, start}
use Rattle.xa_log.specs.Believed.Damage.{lost_first}
use Rattle.xa_log.specs.Reading.{Finds, IsScan, bodies_of}
use Rattle.xa_log.proofs.Records.{rests_logged}
use Rattle.xa_log.specs.Window.{Caches}
use Rattle.xa_log.proofs.Choosing.{magic_of, names_no_fault}
use Rattle.xa_log.proofs.First.{front_read, lost_is}
use Rattle.xa_log.proofs.Told.{damaged_read, none_is}
use Rattle.std.proofs.lemmas.Result.{err_from_is_err_and}
use Rattle.xa_log.proofs.Fetch.{reads_none, reads_some, reads_upto, looked, looked_format, looked_front, looked_records, read_kinds, some_within, any_reach}
use Rattle.xa_log.proofs.Torn.{same_then}
use Rattle.xa_log.proofs.reading.read_whole.Goals as goal
use Rattle.xa_log.proofs.reading.read_whole.Goals.{In_ok-first, In_ok-scan}

pub returns-in_err-len-clause-calls : goal.returns-in_err-len-clause-calls
returns-in_err-len-clause-calls g c = looked c.from_residual.result _ _ _ c.from_residual.ensures c.in_err-len.ensures.calls

pub returns-in_err-len-clause-calls_once : goal.returns-in_err-len-clause-calls_once
returns-in_err-len-clause-calls_once g c h = looked c.from_residual.result _ _ _ c.from_residual.ensures c.in_err-len.ensures.calls

pub returns-then-len-clause-calls : goal.returns-then-len-clause-calls
returns-then-len-clause-calls g c = reads_none _ _ _ c.in_ok-len.ensures.calls

pub returns-then-len-clause-calls_once : goal.returns-then-len-clause-calls_once
returns-then-len-clause-calls_once g c h = reads_none _ _ _ c.in_ok-len.ensures.calls

pub returns-in_err-span-clause-time : goal.returns-in_err-span-clause-time
returns-in_err-span-clause-time g c h = same_then (c.in_ok-len.ensures.time h) (c.in_err-span.ensures.time h)

pub returns-in_err-format-clause-time : goal.returns-in_err-format-clause-time
returns-in_err-format-clause-time g c h = same_then (c.in_ok-len.ensures.time h) (c.in_ok-span.ensures.time h)

pub returns-in_err-first-clause-time : goal.returns-in_err-first-clause-time
returns-in_err-first-clause-time g c h = same_then (c.in_ok-len.ensures.time h) (same_then (c.in_ok-span.ensures.time h) (c.in_err-first.ensures.time h))

pub returns-in_err-scan-clause-time : goal.returns-in_err-scan-clause-time
returns-in_err-scan-clause-time g c h = same_then (c.in_ok-len.ensures.time h) (same_then (c.in_ok-span.ensures.time h) (same_then (c.in_ok-first.ensures.time h) (c.in_err-scan.ensures.time h)))

pub returns-clause-time : goal.returns-clause-time
returns-clause-time g c h = same_then (c.in_ok-len.ensures.time h) (same_then (c.in_ok-span.ensures.time h) (same_then (c.in_ok-first.ensures.time h) (c.in_ok-scan.ensures.time h)))

pub returns-in_err-span-clause-calls : goal.returns-in_err-span-clause-calls
returns-in_err-span-clause-calls g c =
    looked_front c.from_residual-in_err-span.result c.args.log_bytes _ _ c.from_residual-in_err-span.ensures
    (reads_some c.in_ok-len.len c.args.log_bytes _ _ _ (omega arith) c.in_ok-len.ensures.calls c.in_err-span.ensures.fetched)

pub returns-in_err-span-clause-calls_once : goal.returns-in_err-span-clause-calls_once
returns-in_err-span-clause-calls_once g c h =
    let most = length (g.D.Disk.seen c.args.disk.now) in
    let len : c.in_ok-len.len ≡ most = c.in_ok-len.ensures.value h in
    looked_front c.from_residual-in_err-span.result most _ _ c.from_residual-in_err-span.ensures
    (reads_some c.in_ok-len.len most _ _ _ (omega (arith, len)) c.in_ok-len.ensures.calls c.in_err-span.ensures.fetched)

pub returns-in_err-format-clause-calls : goal.returns-in_err-format-clause-calls
returns-in_err-format-clause-calls g c =
    let p = err_from_is_err_and c.from_residual-in_err-format.result c.from_residual-in_err-format.ensures.1 in
    rw (p.1, p.2)
    (looked_format (take 8 c.read_front.new.window) c.in_err-format.field-0.0 c.args.log_bytes _ _ c.in_err-format.ensures
    (reads_upto c.in_ok-len.len _ c.args.log_bytes _ _ _ (omega arith) c.in_ok-len.ensures.calls c.in_ok-span.ensures.fetched))

pub returns-in_err-format-clause-calls_once : goal.returns-in_err-format-clause-calls_once
returns-in_err-format-clause-calls_once g c h =
    let p = err_from_is_err_and c.from_residual-in_err-format.result c.from_residual-in_err-format.ensures.1 in
    let most = length (g.D.Disk.seen c.args.disk.now) in
    let len : c.in_ok-len.len ≡ most = c.in_ok-len.ensures.value h in
    rw (p.1, p.2)
    (looked_format (take 8 c.read_front.new.window) c.in_err-format.field-0.0 most _ _ c.in_err-format.ensures
    (reads_upto c.in_ok-len.len _ most _ _ _ (omega (arith, len)) c.in_ok-len.ensures.calls c.in_ok-span.ensures.fetched))

pub returns-in_err-first-clause-calls : goal.returns-in_err-first-clause-calls
returns-in_err-first-clause-calls g c =
    let f = c.in_ok-span.ensures.fetched in
    looked_records c.from_residual-in_err-first.result c.args.log_bytes _ _ (read_kinds _ _ c.from_residual-in_err-first.ensures.1 c.in_err-first.ensures.kinds)
    (reads_some c.in_ok-len.len c.args.log_bytes _ _ _ (omega arith) c.in_ok-len.ensures.calls
    (some_within _ _ _ _ (c.in_err-first.ensures.fetched _ (c.in_ok-len.len + 1048576) f (any_reach _ _ c.in_ok-len.len _ _ f.within (omega arith)))))

pub returns-in_err-first-clause-calls_once : goal.returns-in_err-first-clause-calls_once
returns-in_err-first-clause-calls_once g c h =
    let most = length (g.D.Disk.seen c.args.disk.now) in
    let len : c.in_ok-len.len ≡ most = c.in_ok-len.ensures.value h in
    let f = c.in_ok-span.ensures.fetched in
    looked_records c.from_residual-in_err-first.result most _ _ (read_kinds _ _ c.from_residual-in_err-first.ensures.1 c.in_err-first.ensures.kinds)
    (reads_some c.in_ok-len.len most _ _ _ (omega (arith, len)) c.in_ok-len.ensures.calls
    (some_within _ _ _ _ (c.in_err-first.ensures.fetched _ (c.in_ok-len.len + 1048576) f (any_reach _ _ c.in_ok-len.len _ _ f.within (omega arith)))))

pub returns-in_err-scan-clause-calls : goal.returns-in_err-scan-clause-calls
returns-in_err-scan-clause-calls g c =
    let f = c.in_ok-span.ensures.fetched in
    looked_records c.from_residual-in_err-scan.result c.args.log_bytes _ _ (read_kinds _ _ c.from_residual-in_err-scan.ensures.1 c.in_err-scan.ensures.kinds)
    (reads_some c.in_ok-len.len c.args.log_bytes _ _ _ (omega arith) c.in_ok-len.ensures.calls
    (c.read_records.ensures.fetched _ (c.in_ok-len.len + 1048576) (c.in_ok-first.ensures.fetched _ (c.in_ok-len.len + 1048576) f (any_reach _ _ c.in_ok-len.len _ _ f.within (omega arith)))))

pub returns-in_err-scan-clause-calls_once : goal.returns-in_err-scan-clause-calls_once
returns-in_err-scan-clause-calls_once g c h =
    let most = length (g.D.Disk.seen c.args.disk.now) in
    let len : c.in_ok-len.len ≡ most = c.in_ok-len.ensures.value h in
    let f = c.in_ok-span.ensures.fetched in
    looked_records c.from_residual-in_err-scan.result most _ _ (read_kinds _ _ c.from_residual-in_err-scan.ensures.1 c.in_err-scan.ensures.kinds)
    (reads_some c.in_ok-len.len most _ _ _ (omega (arith, len)) c.in_ok-len.ensures.calls
    (c.read_records.ensures.fetched _ (c.in_ok-len.len + 1048576) (c.in_ok-first.ensures.fetched _ (c.in_ok-len.len + 1048576) f (any_reach _ _ c.in_ok-len.len _ _ f.within (omega arith)))))

pub returns-clause-calls : goal.returns-clause-calls
returns-clause-calls g c =
    let f = c.in_ok-span.ensures.fetched in
    reads_some c.in_ok-len.len c.args.log_bytes _ _ _ (omega arith) c.in_ok-len.ensures.calls
    (c.in_ok-scan.ensures.fetched _ (c.in_ok-len.len + 1048576) (c.in_ok-first.ensures.fetched _ (c.in_ok-len.len + 1048576) f (any_reach _ _ c.in_ok-len.len _ _ f.within (omega arith))))

pub returns-clause-calls_once : goal.returns-clause-calls_once
returns-clause-calls_once g c h =
    let most = length (g.D.Disk.seen c.args.disk.now) in
    let len : c.in_ok-len.len ≡ most = c.in_ok-len.ensures.value h in
    let f = c.in_ok-span.ensures.fetched in
    reads_some c.in_ok-len.len most _ _ _ (omega (arith, len)) c.in_ok-len.ensures.calls
    (c.in_ok-scan.ensures.fetched _ (c.in_ok-len.len + 1048576) (c.in_ok-first.ensures.fetched _ (c.in_ok-len.len + 1048576) f (any_reach _ _ c.in_ok-len.len _ _ f.within (omega arith))))

-- the file's format, and its first record
first_found : (g : _) (c : In_ok-first g) → g.D.Disk.honest → (format_of (take 8 (g.D.Disk.seen c.args.disk.now)) ≡ Some c.in_ok-format.format)
    × Finds c.in_ok-format.format (start c.in_ok-format.format) (g.D.Disk.seen c.args.disk.now) 8 c.next_record.new.window c.in_ok-first.first
first_found g c h =
    let file : List ℕ = g.D.Disk.seen c.args.disk.now in
    let stays : g.D.Disk.seen c.synced_length.new.disk ≡ file = c.in_ok-len.ensures.same h in
    let then : g.D.Disk.seen c.read_front.new.disk ≡ file = c.in_ok-span.ensures.same h ∙ stays in
    let len : c.in_ok-len.len ≡ length file = c.in_ok-len.ensures.value h in
    let caches = subst (λ (f : List ℕ). Caches f c.read_front.new.window c.in_ok-span.span) (sym (c.in_ok-span.ensures.same h)) (c.in_ok-span.ensures.caches h) in
    let front : take 8 c.read_front.new.window ≡ take 8 file = c.in_ok-span.ensures.front h ∙ ap (λ (f : List ℕ). take 8 f) stays in (
      ap format_of (sym front) ∙ c.in_ok-format.ensures,
      subst (λ (d : List ℕ). Finds c.in_ok-format.format d file 8 c.next_record.new.window c.in_ok-first.first) c.first_digest-start.ensures
          (subst (λ (f : List ℕ). Finds c.in_ok-format.format c.first_digest-start.result f 8 c.next_record.new.window c.in_ok-first.first) then
          (c.in_ok-first.ensures.finds h (len ∙ ap (λ (f : List ℕ). length f) (sym then)) caches)),
    )

-- what was read is the file's log
found : (g : _) (c : In_ok-scan g) → g.D.Disk.honest → IsScan (g.D.Disk.seen c.args.disk.now) c.in_ok-scan.scan
found g c h =
    let file : List ℕ = g.D.Disk.seen c.args.disk.now in
    let then : g.D.Disk.seen c.next_record.new.disk ≡ file = c.in_ok-first.ensures.same h ∙ c.in_ok-span.ensures.same h ∙ c.in_ok-len.ensures.same h in
    let len : c.in_ok-len.len ≡ length file = c.in_ok-len.ensures.value h in
    let it = first_found g (goal.at.In_ok-scan g c).In_ok-first h in
    subst (λ (f : List ℕ). IsScan f c.in_ok-scan.scan) then
    (c.in_ok-scan.ensures.value h (len ∙ ap (λ (f : List ℕ). length f) (sym then)) (ap (λ (f : List ℕ). take 8 f) then ∙ magic_of (take 8 file) c.in_ok-format.format it.0)
    (subst (λ (f : List ℕ). Finds c.in_ok-format.format (start c.in_ok-format.format) f 8 c.next_record.new.window c.in_ok-first.first) (sym then) it.1))

pub returns-clause-value : goal.returns-clause-value
returns-clause-value g c h =
    let at = goal.at.returns-clause-value g c in
    let file : List ℕ = g.D.Disk.seen c.args.disk.now in
    let fits : length file ≤ c.args.log_bytes = omega (arith, c.in_ok-len.ensures.value h) in
    (names_no_fault c.args.log_bytes file c.in_ok-format.format fits (first_found g at.In_ok-first h).0, found g at.In_ok-scan h)

pub returns-clause-damaged : goal.returns-clause-damaged
returns-clause-damaged g c h =
    let at = goal.at.returns-clause-damaged g c in
    let file : List ℕ = g.D.Disk.seen c.args.disk.now in
    let it = first_found g at.In_ok-first h in
    let len : c.in_ok-len.len ≡ length file = c.in_ok-len.ensures.value h in
    let caches = subst (λ (f : List ℕ). Caches f c.read_front.new.window c.in_ok-span.span) (c.in_ok-len.ensures.same h) (c.in_ok-span.ensures.caches h) in
    let whole = c.in_ok-span.ensures.whole in
    let read = front_read file c.read_front.new.window c.in_ok-span.span c.min.result caches whole.0 (omega (arith, whole.1, len)) c.min.ensures (omega (arith, len)) in
    let shown : c.is_lost_first-shown.result ≡ lost_first c.in_ok-format.format (take 41 (drop 8 file)) = c.is_lost_first-shown.ensures ∙ ap (λ (l : List ℕ). lost_first c.in_ok-format.format l) read in
    let lost = lost_is file c.next_record.new.window c.in_ok-format.format c.in_ok-first.first c.is_lost_first-shown.result it.0 it.1 shown in
    c.is_either_broken-damaged.ensures
    ∙ ap (λ (b : Bool). (c.is_lost_first-shown.result && not b) || c.in_ok-scan.scan.broken) c.is_some-chains.ensures
    ∙ damaged_read file c.in_ok-scan.scan (c.is_lost_first-shown.result && not (is_some c.in_ok-first.first)) (found g at.In_ok-scan h)
    (ap (λ (b : Bool). c.is_lost_first-shown.result && b) (none_is c.in_ok-first.first) ∙ lost)

pub returns-clause-logged : goal.returns-clause-logged
returns-clause-logged g c h =
    let it = found g (goal.at.returns-clause-logged g c).In_ok-scan h in
    rests_logged c.in_ok-scan.scan.format (bodies_of c.in_ok-scan.scan.bodies.items) (g.D.Disk.seen c.args.disk.now) it.rests
