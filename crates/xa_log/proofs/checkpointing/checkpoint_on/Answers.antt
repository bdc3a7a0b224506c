use Rattle.std.proofs.Common.{◌≡◌, inl, inr, ⊎_elim, ◌+◌, ◌≤◌, ◌<◌, ◌%◌, ℕ, List, take, length, ap, mod-lt, sym, ◌∙◌, subst, arith}
use Rattle.std.proofs.lemmas.List.{length-take}
use Rattle.std.specs.Int.{w32, to_be_bytes}
use Rattle.xa_disk.specs.Time.{LeavesOnly}
use Rattle.xa_log.specs.Believed.Chain.{start, preamble, records}
use Rattle.xa_log.specs.Answers.{PutBecame}
use Rattle.xa_log.specs.Ahead.{cut_behind}
use Rattle.xa_log.specs.Believed.Checkpoint.{HasBytes, NeverEmpty, IsComplete, IsOther, IsTailed, LeavesAny, LeavesNone, first_length}
use Rattle.xa_log.proofs.Steps.{first_len}
use Rattle.xa_log.proofs.Cleared.{sealed_cleared}
use Rattle.xa_log.proofs.Cuts.{cut_header, none_cut, none_left, none_meanwhile}
use Rattle.xa_log.proofs.Filled.{cut_meanwhile, never_cut, never_torn, torn_meanwhile}
use Rattle.xa_log.proofs.Header.{header_split, length-preamble}
use Rattle.xa_log.proofs.Known.{seal_grows, seal_within, records_reach}
use Rattle.xa_log.proofs.Counted.{refused_front, refused_records, sealed_calls}
use Rattle.xa_log.proofs.Parts.{leaves_then, first_part, second_part, third_part, none_torn, none_long, others_none, opened_none, records_complete, sealed, at_err}
use Rattle.xa_log.proofs.checkpointing.checkpoint_on.Goals as goal
use Rattle.xa_log.proofs.checkpointing.checkpoint_on.Goals.{After-shorten, After-put_records, After-put_seal-outcome}

-- the cut is after the preamble
beyond : (keep n : ℕ) → 12 + n ≤ keep → 12 ≤ cut_behind keep
beyond keep n is = omega (arith, is)

-- after the first part, after the cut, and after the second part
module _ (g : _) (c : goal.After-shorten g) (h : g.D.Disk.honest) where
  header : take 12 (g.D.Disk.seen c.shorten.new.disk) ≡ preamble c.args.format
  header = cut_header c.args.format (cut_behind c.args.keep) (g.D.Disk.seen c.args.disk.now) (g.D.Disk.seen c.put_front.new.disk) (g.D.Disk.seen c.shorten.new.disk)
      (beyond c.args.keep _ c.requires.keep) (c.in-Ok.ensures.made h) (c.shorten.ensures.front h)

  long : 12 ≤ length (g.D.Disk.seen c.shorten.new.disk)
  long = omega (arith, ap (λ (l : List ℕ). length l) header, length-take 12 (g.D.Disk.seen c.shorten.new.disk), length-preamble c.args.format)

module _ (g : _) (c : goal.After-put_records g) (h : g.D.Disk.honest) (most : ℕ) (stood : List (List ℕ))
    (room : 12 + (length (records (start c.args.format) c.args.bodies.now) + c.args.more) ≤ most) (other : IsOther g.D.Disk most stood c.args.disk.now) where
  first : LeavesNone most c.args.format (g.D.Disk.seen c.put_front.new.disk)
  first = opened_none c.args.format most (g.D.Disk.seen c.args.disk.now) (g.D.Disk.seen c.put_front.new.disk) (omega arith) other.fits (c.in-Ok.ensures.made h)

  cut : LeavesNone most c.args.format (g.D.Disk.seen c.shorten.new.disk)
  cut = none_cut c.args.format most (cut_behind c.args.keep) (g.D.Disk.seen c.put_front.new.disk) (g.D.Disk.seen c.shorten.new.disk) (beyond c.args.keep _ c.requires.keep) first (c.shorten.ensures.front h)

  each : (x : List ℕ) → g.D.Disk.may_leave c.shorten.new.disk x → LeavesNone most c.args.format x
  each =
      none_left g.D.Disk c.args.format most (cut_behind c.args.keep) c.put_front.new.disk c.shorten.new.disk (beyond c.args.keep _ c.requires.keep) first
      (c.in-Ok.ensures.durable h) (c.shorten.ensures.time h)

  second : LeavesNone most c.args.format (g.D.Disk.seen c.put_records.new.disk)
  second =
      none_torn c.args.format most (length (records (start c.args.format) c.args.bodies.now) + c.args.more)
      (g.D.Disk.seen c.shorten.new.disk) (g.D.Disk.seen c.put_records.new.disk) room cut (c.put_records.ensures.torn h)

  meanwhile : LeavesOnly g.D.Disk c.put_front.new.disk c.put_records.new.disk (LeavesNone most c.args.format)
  meanwhile =
      leaves_then g.D.Disk c.put_front.new.disk c.shorten.new.disk c.put_records.new.disk _ _ _ (λ x none. none) (λ x none. none)
      (none_meanwhile g.D.Disk c.args.format most (cut_behind c.args.keep) c.put_front.new.disk c.shorten.new.disk (g.met.D.Disk.only_now c.put_front.new.disk)
      (beyond c.args.keep _ c.requires.keep) first (c.in-Ok.ensures.durable h) (c.shorten.ensures.time h))
      (c.put_records.ensures.any_moment h most room each)

  moments : LeavesOnly g.D.Disk c.args.disk.now c.put_records.new.disk (LeavesAny most c.args.format stood c.args.bodies.now)
  moments =
      second_part g.D.Disk most c.args.format stood c.args.bodies.now c.args.disk.now c.put_front.new.disk c.put_records.new.disk
      (c.put_front.ensures.any_moment h most stood (omega arith) other) meanwhile

-- none of these parts leaves the file empty
module _ (g : _) (c : goal.After-put_records g) (h : g.D.Disk.honest) (was : NeverEmpty g.D.Disk c.args.disk.now) where
  filled_front : NeverEmpty g.D.Disk c.put_front.new.disk
  filled_front = never_torn g.D.Disk c.args.disk.now c.put_front.new.disk was 0 12 (c.put_front.ensures.time h) (c.put_front.ensures.grows h)

  filled_cut : NeverEmpty g.D.Disk c.shorten.new.disk
  filled_cut =
      never_cut g.D.Disk c.put_front.new.disk c.shorten.new.disk filled_front (cut_behind c.args.keep) (omega (arith, beyond c.args.keep _ c.requires.keep))
      (c.shorten.ensures.time h) (c.shorten.ensures.front h)

  filled_records : NeverEmpty g.D.Disk c.put_records.new.disk
  filled_records = never_torn g.D.Disk c.shorten.new.disk c.put_records.new.disk filled_cut 12 _ (c.put_records.ensures.time h) (c.put_records.ensures.torn h).no_shorter

  filled_till : LeavesOnly g.D.Disk c.args.disk.now c.put_records.new.disk HasBytes
  filled_till =
      leaves_then g.D.Disk c.args.disk.now c.put_front.new.disk c.put_records.new.disk HasBytes HasBytes HasBytes (λ x it. it) (λ x it. it)
      (torn_meanwhile g.D.Disk c.args.disk.now c.put_front.new.disk was 0 12 (c.put_front.ensures.time h) (g.met.D.Disk.only_now c.args.disk.now))
      (leaves_then g.D.Disk c.put_front.new.disk c.shorten.new.disk c.put_records.new.disk HasBytes HasBytes HasBytes (λ x it. it) (λ x it. it)
      (cut_meanwhile g.D.Disk c.put_front.new.disk c.shorten.new.disk filled_front (cut_behind c.args.keep) (omega (arith, beyond c.args.keep _ c.requires.keep))
      (c.shorten.ensures.time h) (g.met.D.Disk.only_now c.put_front.new.disk))
      (torn_meanwhile g.D.Disk c.shorten.new.disk c.put_records.new.disk filled_cut 12 _ (c.put_records.ensures.time h) (g.met.D.Disk.only_now c.shorten.new.disk)))

-- at the seal, and after it
size : (g : _) (c : goal.After-put_seal-outcome g) → c.len.result ≡ first_length c.args.bodies.now
size g c = c.len.ensures ∙ sym (first_len c.args.bodies.now c.index-bodies-0.result c.requires.some c.index-bodies-0.is)

module _ (g : _) (c : goal.After-put_seal-outcome g) (h : g.D.Disk.honest) where
  ready : (most : ℕ) → LeavesNone most c.args.format (g.D.Disk.seen c.shorten.new.disk) → IsTailed c.args.more most c.args.format c.args.bodies.now
      → IsComplete c.args.format c.args.bodies.now (g.D.Disk.seen c.put_records.new.disk)
  ready most first tailed =
      let mid : List ℕ = g.D.Disk.seen c.shorten.new.disk in
      let long : 12 ≤ length mid = none_long c.args.format most mid first in
      records_complete c.args.more c.args.format c.args.bodies.now mid (g.D.Disk.seen c.put_records.new.disk) first.front long
      c.requires.sizes c.requires.some (c.in-Ok-put_records.ensures.written h long) (⊎_elim (λ some. inl some) (λ short. inr (omega (arith, short, first.fits))) tailed)

  went : PutBecame g.D.Disk.tears c.put_seal-outcome.result 8 (to_be_bytes w32 (first_length c.args.bodies.now))
      (g.D.Disk.seen c.put_records.new.disk) (g.D.Disk.seen c.put_seal-outcome.new.disk) (g.D.Disk.may_leave c.put_seal-outcome.new.disk)
  went =
      let new = c.put_seal-outcome.new.disk in
      subst (λ n. PutBecame g.D.Disk.tears c.put_seal-outcome.result 8 (to_be_bytes w32 n) (g.D.Disk.seen c.put_records.new.disk) (g.D.Disk.seen new) (g.D.Disk.may_leave new))
      (size g c) (c.put_seal-outcome.ensures.went h)

pub returns-in-Err-clause-answer : goal.returns-in-Err-clause-answer
returns-in-Err-clause-answer g c h most stood room tailed other =
    inl (
      at_err _ c.put_front.result _ c.in-Err.is (c.put_front.ensures.stays h most stood (omega arith) other),
      (λ lucky calm. at_err _ c.put_front.result _ c.in-Err.is (c.put_front.ensures.calm h lucky stood calm)),
    )

pub returns-in-Err-clause-any_moment : goal.returns-in-Err-clause-any_moment
returns-in-Err-clause-any_moment g c h most stood room tailed other =
    first_part g.D.Disk most c.args.format stood c.args.bodies.now c.args.disk.now c.put_front.new.disk c.put_front.new.disk
    (c.put_front.ensures.any_moment h most stood (omega arith) other)

pub returns-in-Err-clause-calls : goal.returns-in-Err-clause-calls
returns-in-Err-clause-calls g c =
    refused_front c.put_front.result _ c.in-Err.is (length c.args.bodies.now) _ _ c.put_front.ensures.calls

pub returns-in-Err-put_records-clause-any_moment : goal.returns-in-Err-put_records-clause-any_moment
returns-in-Err-put_records-clause-any_moment g c h most stood room tailed other =
    moments g (goal.at.returns-in-Err-put_records-clause-any_moment g c).After-put_records h most stood room other

pub returns-in-Err-put_records-clause-answer : goal.returns-in-Err-put_records-clause-answer
returns-in-Err-put_records-clause-answer g c h most stood room tailed other =
    let at = (goal.at.returns-in-Err-put_records-clause-answer g c).After-put_records in
    let n = length (records (start c.args.format) c.args.bodies.now) + c.args.more in
    inr (others_none c.args.format g.D.Disk most c.put_records.new.disk
    (second g at h most stood room other)
    (λ x left. let y = (c.put_records.ensures.time h).follows x left in
    none_torn c.args.format most n y.0 x room (each g at h most stood room other y.0 y.1) y.2))

pub returns-in-Err-put_records-clause-calls : goal.returns-in-Err-put_records-clause-calls
returns-in-Err-put_records-clause-calls g c =
    refused_records c.put_records.result _ c.in-Err-put_records.is (length c.args.bodies.now) _ _ _ (c.shorten.ensures.calls ∙ c.in-Ok.ensures.calls) c.put_records.ensures.calls

pub returns-in-Ok-put_records-clause-any_moment : goal.returns-in-Ok-put_records-clause-any_moment
returns-in-Ok-put_records-clause-any_moment g c h most stood room tailed other =
    let at = goal.at.returns-in-Ok-put_records-clause-any_moment g c in
    let seal = at.After-put_seal-outcome in
    third_part g.D.Disk most c.args.format stood c.args.bodies.now c.args.disk.now c.put_records.new.disk c.put_seal-outcome.new.disk
    (moments g at.After-put_records h most stood room other)
    (c.put_seal-outcome.ensures.any_moment h most c.args.format c.args.bodies.now (ready g seal h most (cut g at.After-put_records h most stood room other) tailed)
    (size g seal) (second g at.After-put_records h most stood room other).fits (c.in-Ok-put_records.ensures.durable h))

pub returns-in-Ok-put_records-clause-answer : goal.returns-in-Ok-put_records-clause-answer
returns-in-Ok-put_records-clause-answer g c h most stood room tailed other =
    let at = goal.at.returns-in-Ok-put_records-clause-answer g c in
    let seal = at.After-put_seal-outcome in
    sealed c.args.format g.D.Disk most stood c.args.bodies.now c.args.disk.now c.put_records.new.disk c.put_seal-outcome.new.disk
    (ready g seal h most (cut g at.After-put_records h most stood room other) tailed)
    (second g at.After-put_records h most stood room other).fits (c.in-Ok-put_records.ensures.durable h)
    c.put_seal-outcome.result c.put_seal-outcome.ensures.not_full (went g seal h) (c.put_seal-outcome.ensures.time h).follows

pub returns-in-Ok-put_records-clause-calls : goal.returns-in-Ok-put_records-clause-calls
returns-in-Ok-put_records-clause-calls g c =
    sealed_calls c.put_seal-outcome.result c.put_seal-outcome.ensures.not_full
    (length c.args.bodies.now) _ _ _ _ (c.shorten.ensures.calls ∙ c.in-Ok.ensures.calls) c.in-Ok-put_records.ensures.calls c.put_seal-outcome.ensures.calls

pub returns-in-Err-clause-known : goal.returns-in-Err-clause-known
returns-in-Err-clause-known g c h was = omega (arith, was, c.put_front.ensures.grows h)

pub returns-in-Err-put_records-clause-known : goal.returns-in-Err-put_records-clause-known
returns-in-Err-put_records-clause-known g c h was =
    omega (arith, c.shorten.ensures.reaches h (omega (arith, was, c.put_front.ensures.grows h)), (c.put_records.ensures.torn h).no_shorter)

pub returns-in-Ok-put_records-clause-known : goal.returns-in-Ok-put_records-clause-known
returns-in-Ok-put_records-clause-known g c h was =
    omega (
      arith,
      c.shorten.ensures.reaches h (omega (arith, was, c.put_front.ensures.grows h)),
      (c.put_records.ensures.torn h).no_shorter,
      seal_grows _ _ _ _ _ _ _ (c.put_seal-outcome.ensures.went h),
    )

pub returns-in-Ok-put_records-clause-cut : goal.returns-in-Ok-put_records-clause-cut
returns-in-Ok-put_records-clause-cut g c h shortens kept over =
    let at = goal.at.returns-in-Ok-put_records-clause-cut g c in
    let small : c.args.keep % 262144 < 262144 = mod-lt c.args.keep (omega arith) in
    let gone : length (g.D.Disk.seen c.shorten.new.disk) ≤ cut_behind c.args.keep = c.shorten.ensures.cut h shortens over in
    seal_within g.D.Disk.tears c.put_seal-outcome.result _ _ _ _ (cut_behind c.args.keep) kept
    (omega (arith, gone, (c.put_records.ensures.torn h).no_longer, c.requires.keep, c.requires.few, small))
    (omega (arith, long g at.After-shorten h, (c.put_records.ensures.torn h).no_shorter)) (went g at.After-put_seal-outcome h)

pub returns-in-Ok-put_records-clause-reaches : goal.returns-in-Ok-put_records-clause-reaches
returns-in-Ok-put_records-clause-reaches g c h kept =
    let mid : List ℕ = g.D.Disk.seen c.shorten.new.disk in
    let done : List ℕ = g.D.Disk.seen c.put_records.new.disk in
    let there : 12 ≤ length mid = long g (goal.at.returns-in-Ok-put_records-clause-reaches g c).After-shorten h in
    let whole : 12 + length (records (start c.args.format) c.args.bodies.now) + c.args.more ≤ length done = records_reach c.args.more c.args.format c.args.bodies.now mid done (c.in-Ok-put_records.ensures.written h there) in
    omega (arith, whole, seal_grows _ _ _ _ _ _ _ (c.put_seal-outcome.ensures.went h))

pub returns-in-Ok-put_records-clause-cleared : goal.returns-in-Ok-put_records-clause-cleared
returns-in-Ok-put_records-clause-cleared g c h kept =
    let at = goal.at.returns-in-Ok-put_records-clause-cleared g c in
    let mid : List ℕ = g.D.Disk.seen c.shorten.new.disk in
    let new = c.put_seal-outcome.new.disk in
    let there : 12 ≤ length mid = long g at.After-shorten h in
    sealed_cleared g.D.Disk.tears c.args.more c.args.format c.args.bodies.now mid mid (g.D.Disk.seen c.put_records.new.disk) (g.D.Disk.seen new) (g.D.Disk.may_leave new)
    c.put_seal-outcome.result (header_split c.args.format mid (header g at.After-shorten h)) there c.requires.sizes c.requires.some
    (c.in-Ok-put_records.ensures.written h there) kept (went g at.After-put_seal-outcome h)

pub returns-in-Err-clause-filled : goal.returns-in-Err-clause-filled
returns-in-Err-clause-filled g c h was = never_torn g.D.Disk c.args.disk.now c.put_front.new.disk was 0 12 (c.put_front.ensures.time h) (c.put_front.ensures.grows h)

pub returns-in-Err-put_records-clause-filled : goal.returns-in-Err-put_records-clause-filled
returns-in-Err-put_records-clause-filled g c h was = filled_records g (goal.at.returns-in-Err-put_records-clause-filled g c).After-put_records h was

pub returns-in-Ok-put_records-clause-filled : goal.returns-in-Ok-put_records-clause-filled
returns-in-Ok-put_records-clause-filled g c h was =
    let before = filled_records g (goal.at.returns-in-Ok-put_records-clause-filled g c).After-put_records h was in
    never_torn g.D.Disk c.put_records.new.disk c.put_seal-outcome.new.disk before 8 4 (c.put_seal-outcome.ensures.time h) (seal_grows _ _ _ _ _ _ _ (c.put_seal-outcome.ensures.went h))

pub returns-in-Err-clause-filled_meanwhile : goal.returns-in-Err-clause-filled_meanwhile
returns-in-Err-clause-filled_meanwhile g c h was =
    torn_meanwhile g.D.Disk c.args.disk.now c.put_front.new.disk was 0 12 (c.put_front.ensures.time h) (g.met.D.Disk.only_now c.args.disk.now)

pub returns-in-Err-put_records-clause-filled_meanwhile : goal.returns-in-Err-put_records-clause-filled_meanwhile
returns-in-Err-put_records-clause-filled_meanwhile g c h was = filled_till g (goal.at.returns-in-Err-put_records-clause-filled_meanwhile g c).After-put_records h was

pub returns-in-Ok-put_records-clause-filled_meanwhile : goal.returns-in-Ok-put_records-clause-filled_meanwhile
returns-in-Ok-put_records-clause-filled_meanwhile g c h was =
    let at = (goal.at.returns-in-Ok-put_records-clause-filled_meanwhile g c).After-put_records in
    leaves_then g.D.Disk c.args.disk.now c.put_records.new.disk c.put_seal-outcome.new.disk HasBytes HasBytes HasBytes (λ x it. it) (λ x it. it) (filled_till g at h was)
    (torn_meanwhile g.D.Disk c.put_records.new.disk c.put_seal-outcome.new.disk (filled_records g at h was) 8 4 (c.put_seal-outcome.ensures.time h)
    (g.met.D.Disk.only_now c.put_records.new.disk))
