use Rattle.std.proofs.Common.{rules, ◌≡◌, ◌+◌, ◌-◌, ◌≤◌, ◌<◌, ◌^◌, ◌++◌, ◌∷◌, [], List, ℕ, length, take, drop, replicate, append_assoc, sym, ◌∙◌, ap, subst, arith}
use Rattle.std.proofs.lemmas.List.{append-nil, length-take}
use Rattle.xa_disk.specs.Disk.{put, Torn}
use Rattle.xa_disk.specs.Images.{torn_same}
use Rattle.xa_disk.specs.Time.{TimePasses}
use Rattle.xa_log.specs.Believed.Chain.{start, last, records}
use Rattle.xa_log.specs.Believed.Checkpoint.{records_bytes}
use Rattle.xa_log.proofs.Records.{limit}
use Rattle.xa_log.proofs.Torn.{torn_then, then, stays}
use Rattle.xa_log.proofs.Steps.{Item, zeros_more, room_in, room_last, item_in, item_last, last_all, torn_step, time_step, seen_step, digest_step, end_step}
use Rattle.xa_log.proofs.Counted.{one_more, failed_write, failed_sync, all_synced}
use Rattle.xa_log.proofs.Parts.{during}
use Rattle.xa_log.proofs.checkpointing.put_records.Goals as goal
use Rattle.xa_log.proofs.checkpointing.put_records.Goals.{After-as_slice, After-as_slice-2, After-put_record, After-put_record-2, After-sync, After-len}

-- ---- a body of the loop

one : (g : _) (c : goal.After-as_slice g) → Item c.args.format c.args.bodies.now c.loop-body.body-index c.as_slice.result.now c.loop-body.end
one g c =
    item_in c.args.format c.args.bodies.now _ c.loop-body.body-index c.body-item.result c.as_slice.result.now c.loop-body.end
    c.loop-body-test.true c.body-item.is c.as_slice.ensures c.requires.sizes c.loop-body.invariant.end

size : (g : _) (c : goal.After-len g) → c.len.result ≡ length c.as_slice.result.now
size g c = c.len.ensures ∙ ap (λ (b : List ℕ). length b) (sym c.as_slice.ensures)

module _ (g : _) (c : goal.After-put_record g) (it : Item c.args.format c.args.bodies.now c.loop-body.body-index c.as_slice.result.now c.loop-body.end)
    (h : g.D.Disk.honest) where
  torn : Torn 12 (records_bytes c.args.format c.args.bodies.now + c.args.more) (g.D.Disk.seen c.args.disk.now) (g.D.Disk.seen c.put_record.new.disk)
  torn =
      let l = c.loop-body in
      torn_step c.args.format c.args.bodies.now l.body-index c.as_slice.result.now l.end 0 c.args.more (omega arith) it
      (g.D.Disk.seen c.args.disk.now) (g.D.Disk.seen l.disk) (g.D.Disk.seen c.put_record.new.disk) (l.invariant.torn h) (c.put_record.ensures.torn h)

  time : TimePasses g.D.Disk (Torn 12 (records_bytes c.args.format c.args.bodies.now + c.args.more)) c.args.disk.now c.put_record.new.disk
  time =
      let l = c.loop-body in
      time_step c.args.format c.args.bodies.now l.body-index c.as_slice.result.now l.end 0 c.args.more (omega arith) it
      _ _ _ _ _ _ _ _ _ (l.invariant.time h) (c.put_record.ensures.time h)

-- ---- the last body

last_one : (g : _) (c : goal.After-as_slice-2 g) → Item c.args.format c.args.bodies.now c.loop-body.body-index c.as_slice-2.result.now c.loop-body.end
last_one g c =
    item_last c.args.format c.args.bodies.now c.loop-body.body-index c.index-bodies-most.result c.as_slice-2.result.now c.loop-body.end
    c.requires.some c.loop-body-test.false c.loop-body.auto.body-index-end c.index-bodies-most.is c.as_slice-2.ensures c.requires.sizes c.loop-body.invariant.end

whole : (g : _) (c : goal.After-as_slice-2 g) → take (c.loop-body.body-index + 1) c.args.bodies.now ≡ c.args.bodies.now
whole g c = last_all c.args.bodies.now c.loop-body.body-index c.requires.some c.loop-body-test.false c.loop-body.auto.body-index-end

count : (g : _) (c : goal.After-as_slice-2 g) → c.loop-body.body-index + 1 ≡ length c.args.bodies.now
count g c = omega (arith, c.loop-body.auto.body-index-end, c.loop-body-test.false, c.requires.some, length-take (length c.args.bodies.now - 1) c.args.bodies.now)

module _ (g : _) (c : goal.After-put_record-2 g) (it : Item c.args.format c.args.bodies.now c.loop-body.body-index c.as_slice-2.result.now c.loop-body.end)
    (h : g.D.Disk.honest) where
  last_torn : Torn 12 (records_bytes c.args.format c.args.bodies.now + c.args.more) (g.D.Disk.seen c.args.disk.now) (g.D.Disk.seen c.put_record-2.new.disk)
  last_torn =
      let l = c.loop-body in
      torn_step c.args.format c.args.bodies.now l.body-index c.as_slice-2.result.now l.end (4 + c.args.more) c.args.more (omega arith) it
      (g.D.Disk.seen c.args.disk.now) (g.D.Disk.seen l.disk) (g.D.Disk.seen c.put_record-2.new.disk) (l.invariant.torn h) (c.put_record-2.ensures.torn h)

  last_time : TimePasses g.D.Disk (Torn 12 (records_bytes c.args.format c.args.bodies.now + c.args.more)) c.args.disk.now c.put_record-2.new.disk
  last_time =
      let l = c.loop-body in
      time_step c.args.format c.args.bodies.now l.body-index c.as_slice-2.result.now l.end (4 + c.args.more) c.args.more (omega arith) it
      _ _ _ _ _ _ _ _ _ (l.invariant.time h) (c.put_record-2.ensures.time h)

module _ (g : _) (c : goal.After-sync g) (h : g.D.Disk.honest) where
  synced_torn : Torn 12 (records_bytes c.args.format c.args.bodies.now + c.args.more) (g.D.Disk.seen c.args.disk.now) (g.D.Disk.seen c.put_record-2.new.disk)
      → Torn 12 (records_bytes c.args.format c.args.bodies.now + c.args.more) (g.D.Disk.seen c.args.disk.now) (g.D.Disk.seen c.sync.new.self)
  synced_torn t =
      subst (λ f. Torn 12 (records_bytes c.args.format c.args.bodies.now + c.args.more) (g.D.Disk.seen c.args.disk.now) f) (sym (c.sync.ensures.same h)) t

  synced_time : TimePasses g.D.Disk (Torn 12 (records_bytes c.args.format c.args.bodies.now + c.args.more)) c.args.disk.now c.put_record-2.new.disk
      → TimePasses g.D.Disk (Torn 12 (records_bytes c.args.format c.args.bodies.now + c.args.more)) c.args.disk.now c.sync.new.self
  synced_time t =
      let n = records_bytes c.args.format c.args.bodies.now + c.args.more in
      then (Torn 12 n) (torn_then 12 n) _ _ _ _ _ _ _ _ _ t (stays (Torn 12 n) (torn_same 12 n) _ _ _ _ _ _ (c.sync.ensures.time h))

-- ---- the goals

pub put_record-requires-clause-room : goal.put_record-requires-clause-room
put_record-requires-clause-room g c =
    let fits : 41 + length c.as_slice.result.now ≤ length c.args.buffer.now =
    room_in (length c.args.buffer.now) c.args.bodies.now _ c.loop-body.body-index c.body-item.result c.as_slice.result.now c.loop-body-test.true c.body-item.is c.as_slice.ensures c.requires.room in
    omega (arith, fits, c.loop-body.invariant.room)

pub put_record-requires-clause-small : goal.put_record-requires-clause-small
put_record-requires-clause-small g c =
    omega (arith, (one g (goal.at.put_record-requires-clause-small g c).After-as_slice).ok.small, limit c.args.format)

pub put_record-requires-2-clause-room : goal.put_record-requires-2-clause-room
put_record-requires-2-clause-room g c =
    let fits : 41 + length c.as_slice-2.result.now ≤ length c.args.buffer.now =
    room_last (length c.args.buffer.now) c.args.bodies.now c.index-bodies-most.result c.as_slice-2.result.now c.requires.some c.index-bodies-most.is c.as_slice-2.ensures c.requires.room in
    omega (arith, fits, c.loop-body.invariant.room)

pub put_record-requires-2-clause-small : goal.put_record-requires-2-clause-small
put_record-requires-2-clause-small g c =
    omega (arith, (last_one g (goal.at.put_record-requires-2-clause-small g c).After-as_slice-2).ok.small, limit c.args.format)

pub overflow_add-end-in-loop-body : goal.overflow_add-end-in-loop-body
overflow_add-end-in-loop-body g c =
    let at = goal.at.overflow_add-end-in-loop-body g c in
    let fits : c.loop-body.end + (36 + c.len.result) < 2 ^ 64 =
    omega (arith, size g at.After-len, (one g at.After-as_slice).offset.within, c.requires.fits) in
    search rules

pub returns-in_err-digest-clause-torn : goal.returns-in_err-digest-clause-torn
returns-in_err-digest-clause-torn g c h =
    let at = goal.at.returns-in_err-digest-clause-torn g c in
    torn g at.After-put_record (one g at.After-as_slice) h

pub returns-in_err-digest-clause-time : goal.returns-in_err-digest-clause-time
returns-in_err-digest-clause-time g c h =
    let at = goal.at.returns-in_err-digest-clause-time g c in
    time g at.After-put_record (one g at.After-as_slice) h

pub returns-in_err-digest-2-clause-torn : goal.returns-in_err-digest-2-clause-torn
returns-in_err-digest-2-clause-torn g c h =
    let at = goal.at.returns-in_err-digest-2-clause-torn g c in
    last_torn g at.After-put_record-2 (last_one g at.After-as_slice-2) h

pub returns-in_err-digest-2-clause-time : goal.returns-in_err-digest-2-clause-time
returns-in_err-digest-2-clause-time g c h =
    let at = goal.at.returns-in_err-digest-2-clause-time g c in
    last_time g at.After-put_record-2 (last_one g at.After-as_slice-2) h

pub loop-body-preserved : goal.loop-body-preserved
loop-body-preserved g c =
    let at = goal.at.loop-body-preserved g c in
    let l = c.loop-body in
    let format = c.args.format in
    let bodies = c.args.bodies.now in
    let body = c.as_slice.result.now in
    let it = one g at.After-as_slice in
    let seen = g.D.Disk.seen in
    let old = seen c.args.disk.now in
    let length_is = size g at.After-len in
    let n : c.loop-body.end + (36 + c.len.result) ≡ c.loop-body.end + (36 + length c.as_slice.result.now) = omega (arith, length_is) in
    record {
      room = search rules;
      end = n ∙ end_step format bodies l.body-index body l.end it;
      digest = c.in_ok-digest.ensures.digest ∙ digest_step format bodies l.body-index body l.digest l.end it l.invariant.digest;
      written = λ h long.
          seen_step format bodies l.body-index body l.digest l.end 0 it old (seen l.disk) (seen c.put_record.new.disk) long
          l.invariant.end l.invariant.digest (l.invariant.written h long) (c.in_ok-digest.ensures.written h)
          ∙ ap (λ (x : List ℕ). put old 12 x) (append-nil (drop 4 (records (start format) (take (l.body-index + 1) bodies))));
      torn = λ h. torn g at.After-put_record it h;
      time = λ h. time g at.After-put_record it h;
      faults = search rules;
      calls = one_more l.body-index _ _ _ l.invariant.calls c.put_record.ensures.calls;
    }

pub returns-clause-digest : goal.returns-clause-digest
returns-clause-digest g c =
    let at = (goal.at.returns-clause-digest g c).After-as_slice-2 in
    let l = c.loop-body in
    c.in_ok-digest-2.ensures.digest
    ∙ digest_step c.args.format c.args.bodies.now l.body-index c.as_slice-2.result.now l.digest l.end (last_one g at) l.invariant.digest
    ∙ ap (λ (x : List (List ℕ)). last (start c.args.format) x) (whole g at)

pub returns-clause-written : goal.returns-clause-written
returns-clause-written g c h long =
    let at = (goal.at.returns-clause-written g c).After-as_slice-2 in
    let l = c.loop-body in
    let format = c.args.format in
    let bodies = c.args.bodies.now in
    let seen = g.D.Disk.seen in
    let old = seen c.args.disk.now in
    c.in_ok-sync.ensures.same h
    ∙ seen_step format bodies l.body-index c.as_slice-2.result.now l.digest l.end (4 + c.args.more) (last_one g at) old (seen l.disk) (seen c.put_record-2.new.disk) long
    l.invariant.end l.invariant.digest (l.invariant.written h long) (c.in_ok-digest-2.ensures.written h)
    ∙ ap (λ (x : List (List ℕ)). put old 12 (drop 4 (records (start format) x) ++ replicate (4 + c.args.more) 0)) (whole g at)
    ∙ ap (λ (x : List ℕ). put old 12 (drop 4 (records (start format) bodies) ++ x)) (zeros_more c.args.more)
    ∙ ap (λ (x : List ℕ). put old 12 x) (sym (append_assoc (drop 4 (records (start format) bodies)) (0 ∷ 0 ∷ 0 ∷ 0 ∷ []) (replicate c.args.more 0)))

pub returns-in_err-sync-clause-torn : goal.returns-in_err-sync-clause-torn
returns-in_err-sync-clause-torn g c h =
    let at = goal.at.returns-in_err-sync-clause-torn g c in
    synced_torn g at.After-sync h (last_torn g at.After-put_record-2 (last_one g at.After-as_slice-2) h)

pub returns-in_err-sync-clause-time : goal.returns-in_err-sync-clause-time
returns-in_err-sync-clause-time g c h =
    let at = goal.at.returns-in_err-sync-clause-time g c in
    synced_time g at.After-sync h (last_time g at.After-put_record-2 (last_one g at.After-as_slice-2) h)

pub returns-clause-torn : goal.returns-clause-torn
returns-clause-torn g c h =
    let at = goal.at.returns-clause-torn g c in
    synced_torn g at.After-sync h (last_torn g at.After-put_record-2 (last_one g at.After-as_slice-2) h)

pub returns-clause-time : goal.returns-clause-time
returns-clause-time g c h =
    let at = goal.at.returns-clause-time g c in
    synced_time g at.After-sync h (last_time g at.After-put_record-2 (last_one g at.After-as_slice-2) h)

pub returns-in_err-digest-clause-any_moment : goal.returns-in_err-digest-clause-any_moment
returns-in_err-digest-clause-any_moment g c h =
    let old = c.args.disk.now in
    during c.args.format g.D.Disk old _ _ (g.met.D.Disk.only_now old) (returns-in_err-digest-clause-time g c h)

pub returns-in_err-digest-2-clause-any_moment : goal.returns-in_err-digest-2-clause-any_moment
returns-in_err-digest-2-clause-any_moment g c h =
    let old = c.args.disk.now in
    during c.args.format g.D.Disk old _ _ (g.met.D.Disk.only_now old) (returns-in_err-digest-2-clause-time g c h)

pub returns-in_err-sync-clause-any_moment : goal.returns-in_err-sync-clause-any_moment
returns-in_err-sync-clause-any_moment g c h =
    let old = c.args.disk.now in
    during c.args.format g.D.Disk old _ _ (g.met.D.Disk.only_now old) (returns-in_err-sync-clause-time g c h)

pub returns-clause-any_moment : goal.returns-clause-any_moment
returns-clause-any_moment g c h =
    let old = c.args.disk.now in
    during c.args.format g.D.Disk old _ _ (g.met.D.Disk.only_now old) (returns-clause-time g c h)

pub returns-in_err-digest-clause-calls : goal.returns-in_err-digest-clause-calls
returns-in_err-digest-clause-calls g c =
    let n = length c.args.bodies.now in
    let l = c.loop-body in
    failed_write n l.body-index _ _ _ l.invariant.calls c.put_record.ensures.calls c.from_residual.result c.from_residual.ensures.0
    (omega (arith, c.loop-body-test.true, length-take (length c.args.bodies.now - 1) c.args.bodies.now))

pub returns-in_err-digest-2-clause-calls : goal.returns-in_err-digest-2-clause-calls
returns-in_err-digest-2-clause-calls g c =
    let n = length c.args.bodies.now in
    let l = c.loop-body in
    failed_write n l.body-index _ _ _ l.invariant.calls c.put_record-2.ensures.calls c.from_residual-in_err-digest-2.result c.from_residual-in_err-digest-2.ensures.0
    (omega (arith, c.loop-body.auto.body-index-end, c.requires.some, length-take (length c.args.bodies.now - 1) c.args.bodies.now))

pub returns-in_err-sync-clause-calls : goal.returns-in_err-sync-clause-calls
returns-in_err-sync-clause-calls g c =
    let l = c.loop-body in
    failed_sync (length c.args.bodies.now) l.body-index _ _ _ l.invariant.calls c.put_record-2.ensures.calls
    c.from_residual-in_err-sync.result c.from_residual-in_err-sync.ensures.0 (count g (goal.at.returns-in_err-sync-clause-calls g c).After-as_slice-2) _ c.sync.ensures.calls

pub returns-clause-calls : goal.returns-clause-calls
returns-clause-calls g c =
    let l = c.loop-body in
    all_synced (length c.args.bodies.now) l.body-index _ _ _ l.invariant.calls c.put_record-2.ensures.calls
    (count g (goal.at.returns-clause-calls g c).After-as_slice-2) _ c.sync.ensures.calls

pub returns-clause-durable : goal.returns-clause-durable
returns-clause-durable g c = search rules
