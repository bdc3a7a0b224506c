use Rattle.std.proofs.Common.{arith, ◌∙◌, ◌+◌, List, ℕ, ap, sym, subst, length}
use Rattle.xa_log.specs.Calls.{Fetched, asked, brief}
use Rattle.xa_log.specs.Looking.{FetchedHead, IsFront, IsHead, either_newer}
use Rattle.xa_log.proofs.Both.{count_on, err_looks, err_looks_second, err_on, explains_front, only_then, silent}
use Rattle.xa_log.proofs.Fetch.{reads_some, some_within}
use Rattle.xa_log.proofs.Looks.{fronts_short, heads_short}
use Rattle.xa_log.proofs.Torn.{same_then}
use Rattle.xa_log.proofs.looking.read_both.Goals as goal

-- a length that failed, or that is too much

pub returns-in_err-lens-clause-fault : goal.returns-in_err-lens-clause-fault
returns-in_err-lens-clause-fault g c h = err_on _ c.from_residual.result _ c.from_residual.ensures (c.in_err-lens.ensures.value h)

pub returns-in_err-lens-clause-calls : goal.returns-in_err-lens-clause-calls
returns-in_err-lens-clause-calls g c = err_on _ c.from_residual.result _ c.from_residual.ensures (c.in_err-lens.ensures.calls c.args.log_bytes)

pub returns-in_err-lens-clause-calls_second : goal.returns-in_err-lens-clause-calls_second
returns-in_err-lens-clause-calls_second g c = err_on _ c.from_residual.result _ c.from_residual.ensures (c.in_err-lens.ensures.calls_second c.args.log_bytes)

pub returns-in_err-lens-clause-calls_once : goal.returns-in_err-lens-clause-calls_once
returns-in_err-lens-clause-calls_once g c h = err_on _ c.from_residual.result _ c.from_residual.ensures (c.in_err-lens.ensures.calls (length (g.D.Disk.seen c.args.first.now)))

pub returns-in_err-lens-clause-calls_once_second : goal.returns-in_err-lens-clause-calls_once_second
returns-in_err-lens-clause-calls_once_second g c h = err_on _ c.from_residual.result _ c.from_residual.ensures (c.in_err-lens.ensures.calls_second (length (g.D.Disk.seen c.args.second.now)))

-- how one begins that wasn't read

pub returns-in_err-fronts-clause-same : goal.returns-in_err-fronts-clause-same
returns-in_err-fronts-clause-same g c h = c.in_err-fronts.ensures.same h ∙ c.in_ok-lens.ensures.same h

pub returns-in_err-fronts-clause-time : goal.returns-in_err-fronts-clause-time
returns-in_err-fronts-clause-time g c h = same_then (c.in_ok-lens.ensures.time h) (c.in_err-fronts.ensures.time h)

pub returns-in_err-fronts-clause-calls : goal.returns-in_err-fronts-clause-calls
returns-in_err-fronts-clause-calls g c = err_looks c.from_residual-in_err-fronts.result _ _ _ (fronts_short _ _ c.from_residual-in_err-fronts.ensures.1 c.in_err-fronts.ensures.kinds) (reads_some _ _ _ _ _ c.in_ok-lens.ensures.fits.0 (c.in_ok-lens.ensures.calls 0) c.in_err-fronts.ensures.fetched)

pub returns-in_err-fronts-clause-calls_once : goal.returns-in_err-fronts-clause-calls_once
returns-in_err-fronts-clause-calls_once g c h = err_looks c.from_residual-in_err-fronts.result _ _ _ (fronts_short _ _ c.from_residual-in_err-fronts.ensures.1 c.in_err-fronts.ensures.kinds) (reads_some _ _ _ _ _ (omega (arith, (c.in_ok-lens.ensures.value h).first_is)) (c.in_ok-lens.ensures.calls 0) c.in_err-fronts.ensures.fetched)

pub returns-in_err-fronts-clause-same_second : goal.returns-in_err-fronts-clause-same_second
returns-in_err-fronts-clause-same_second g c h = c.in_err-fronts.ensures.same_second h ∙ c.in_ok-lens.ensures.same_second h

pub returns-in_err-fronts-clause-time_second : goal.returns-in_err-fronts-clause-time_second
returns-in_err-fronts-clause-time_second g c h = same_then (c.in_ok-lens.ensures.time_second h) (c.in_err-fronts.ensures.time_second h)

pub returns-in_err-fronts-clause-calls_second : goal.returns-in_err-fronts-clause-calls_second
returns-in_err-fronts-clause-calls_second g c = err_looks_second c.from_residual-in_err-fronts.result _ _ _ (fronts_short _ _ c.from_residual-in_err-fronts.ensures.1 c.in_err-fronts.ensures.kinds) (reads_some _ _ _ _ _ c.in_ok-lens.ensures.fits.1 (c.in_ok-lens.ensures.calls_second 0) c.in_err-fronts.ensures.fetched_second)

pub returns-in_err-fronts-clause-calls_once_second : goal.returns-in_err-fronts-clause-calls_once_second
returns-in_err-fronts-clause-calls_once_second g c h = err_looks_second c.from_residual-in_err-fronts.result _ _ _ (fronts_short _ _ c.from_residual-in_err-fronts.ensures.1 c.in_err-fronts.ensures.kinds) (reads_some _ _ _ _ _ (omega (arith, (c.in_ok-lens.ensures.value h).second_is)) (c.in_ok-lens.ensures.calls_second 0) c.in_err-fronts.ensures.fetched_second)

pub returns-in_err-fronts-clause-count : goal.returns-in_err-fronts-clause-count
returns-in_err-fronts-clause-count g c = count_on g.D.Disk.failures c.from_residual-in_err-fronts.result _ _ _ _ _ _ _ c.from_residual-in_err-fronts.ensures c.in_ok-lens.ensures.count c.in_err-fronts.ensures.count

pub returns-in_err-fronts-clause-fault : goal.returns-in_err-fronts-clause-fault
returns-in_err-fronts-clause-fault g c h =
    let short = c.in_ok-lens.ensures.value h in
    let lens = c.in_ok-lens.ensures in
    let first_long = short.first_is ∙ ap (λ (s : List ℕ). length s) (sym (lens.same h)) in
    let second_long = short.second_is ∙ ap (λ (s : List ℕ). length s) (sym (lens.same_second h)) in
    err_on _ c.from_residual-in_err-fronts.result _ c.from_residual-in_err-fronts.ensures
    (explains_front _ _ _ _ _ _ short c.in_err-fronts.ensures.kinds
    (λ new. (λ i. either_newer (sym (lens.same h) i) (sym (lens.same_second h) i)) ∙ c.in_err-fronts.ensures.newer h first_long second_long new))

-- a first record that wasn't read

pub returns-in_err-heads-clause-same : goal.returns-in_err-heads-clause-same
returns-in_err-heads-clause-same g c h = c.in_err-heads.ensures.same h ∙ c.in_ok-fronts.ensures.same h ∙ c.in_ok-lens.ensures.same h

pub returns-in_err-heads-clause-time : goal.returns-in_err-heads-clause-time
returns-in_err-heads-clause-time g c h = same_then (same_then (c.in_ok-lens.ensures.time h) (c.in_ok-fronts.ensures.time h)) (c.in_err-heads.ensures.time h)

pub returns-in_err-heads-clause-calls : goal.returns-in_err-heads-clause-calls
returns-in_err-heads-clause-calls g c = err_looks c.from_residual-in_err-heads.result _ _ _ (heads_short _ _ c.from_residual-in_err-heads.ensures.1 c.in_err-heads.ensures.kinds) (reads_some _ _ _ _ _ c.in_ok-lens.ensures.fits.0 (c.in_ok-lens.ensures.calls 0) (some_within _ _ _ _ (c.in_err-heads.ensures.fetched _ c.in_ok-fronts.ensures.fetched)))

pub returns-in_err-heads-clause-calls_once : goal.returns-in_err-heads-clause-calls_once
returns-in_err-heads-clause-calls_once g c h = err_looks c.from_residual-in_err-heads.result _ _ _ (heads_short _ _ c.from_residual-in_err-heads.ensures.1 c.in_err-heads.ensures.kinds) (reads_some _ _ _ _ _ (omega (arith, (c.in_ok-lens.ensures.value h).first_is)) (c.in_ok-lens.ensures.calls 0) (some_within _ _ _ _ (c.in_err-heads.ensures.fetched _ c.in_ok-fronts.ensures.fetched)))

pub returns-in_err-heads-clause-same_second : goal.returns-in_err-heads-clause-same_second
returns-in_err-heads-clause-same_second g c h = c.in_err-heads.ensures.same_second h ∙ c.in_ok-fronts.ensures.same_second h ∙ c.in_ok-lens.ensures.same_second h

pub returns-in_err-heads-clause-time_second : goal.returns-in_err-heads-clause-time_second
returns-in_err-heads-clause-time_second g c h = same_then (same_then (c.in_ok-lens.ensures.time_second h) (c.in_ok-fronts.ensures.time_second h)) (c.in_err-heads.ensures.time_second h)

pub returns-in_err-heads-clause-calls_second : goal.returns-in_err-heads-clause-calls_second
returns-in_err-heads-clause-calls_second g c = err_looks_second c.from_residual-in_err-heads.result _ _ _ (heads_short _ _ c.from_residual-in_err-heads.ensures.1 c.in_err-heads.ensures.kinds) (reads_some _ _ _ _ _ c.in_ok-lens.ensures.fits.1 (c.in_ok-lens.ensures.calls_second 0) (some_within _ _ _ _ (c.in_err-heads.ensures.fetched_second _ c.in_ok-fronts.ensures.fetched_second)))

pub returns-in_err-heads-clause-calls_once_second : goal.returns-in_err-heads-clause-calls_once_second
returns-in_err-heads-clause-calls_once_second g c h = err_looks_second c.from_residual-in_err-heads.result _ _ _ (heads_short _ _ c.from_residual-in_err-heads.ensures.1 c.in_err-heads.ensures.kinds) (reads_some _ _ _ _ _ (omega (arith, (c.in_ok-lens.ensures.value h).second_is)) (c.in_ok-lens.ensures.calls_second 0) (some_within _ _ _ _ (c.in_err-heads.ensures.fetched_second _ c.in_ok-fronts.ensures.fetched_second)))

pub returns-in_err-heads-clause-count : goal.returns-in_err-heads-clause-count
returns-in_err-heads-clause-count g c = count_on g.D.Disk.failures c.from_residual-in_err-heads.result _ _ _ _ _ _ _ c.from_residual-in_err-heads.ensures (c.in_ok-fronts.ensures.count.0 ∙ c.in_ok-lens.ensures.count.0, c.in_ok-fronts.ensures.count.1 ∙ c.in_ok-lens.ensures.count.1) c.in_err-heads.ensures.count

pub returns-in_err-heads-clause-fault : goal.returns-in_err-heads-clause-fault
returns-in_err-heads-clause-fault g c h = err_on _ c.from_residual-in_err-heads.result _ c.from_residual-in_err-heads.ensures (silent _ _ c.in_err-heads.ensures.kinds)

-- both

pub returns-clause-first : goal.returns-clause-first
returns-clause-first g c =
    let seen = g.D.Disk.seen in
    let counts = g.D.Disk.counts in
    let old = c.args.first.now in
    let lens = c.in_ok-lens.ensures in
    let fronts = c.in_ok-fronts.ensures in
    let heads = c.in_ok-heads.ensures in
    let long = λ (h : g.D.Disk.honest). (lens.value h).first_is ∙ ap (λ (s : List ℕ). length s) (sym (lens.same h)) in
    let read = λ (h : g.D.Disk.honest). long h ∙ ap (λ (s : List ℕ). length s) (sym (fronts.same h)) in
    let front = λ (h : g.D.Disk.honest). subst (λ (s : List ℕ). IsFront s c.read_fronts.new.window c.in_ok-fronts.fronts.0) (sym (fronts.same h)) (fronts.front h (long h)) in
    let same = λ (h : g.D.Disk.honest). fronts.same h ∙ lens.same h in
    let fetched : Fetched c.in_ok-lens.lens.0 (c.in_ok-fronts.fronts.0.span.from + c.in_ok-fronts.fronts.0.span.have) (asked (counts old)) (counts c.read_fronts.new.first) =
    subst (λ n. Fetched c.in_ok-lens.lens.0 (c.in_ok-fronts.fronts.0.span.from + c.in_ok-fronts.fronts.0.span.have) n (counts c.read_fronts.new.first)) (lens.calls 0) fronts.fetched in
    record {
      fits = lens.fits.0;
      holds = heads.holds.0;
      whole = λ h. (lens.value h).first_is;
      begins = λ h. subst (λ (s : List ℕ). IsHead s c.read_heads.new.window c.in_ok-heads.heads.0) (same h) (heads.head h (read h) (front h));
      durable = λ h. only_then _ _ (heads.same h ∙ fronts.same h) (lens.durable h) (same_then (fronts.time h) (heads.time h));
      fetched = heads.fetched _ fetched;
      little = λ h. subst (λ (s : List ℕ). FetchedHead c.in_ok-lens.lens.0 (brief s) (asked (counts old)) (counts c.read_heads.new.first) c.in_ok-heads.heads.0) (same h)
          (heads.little h (read h) (front h) _ fetched);
    }

pub returns-clause-same : goal.returns-clause-same
returns-clause-same g c h = c.in_ok-heads.ensures.same h ∙ c.in_ok-fronts.ensures.same h ∙ c.in_ok-lens.ensures.same h

pub returns-clause-time : goal.returns-clause-time
returns-clause-time g c h = same_then (same_then (c.in_ok-lens.ensures.time h) (c.in_ok-fronts.ensures.time h)) (c.in_ok-heads.ensures.time h)

pub returns-clause-second : goal.returns-clause-second
returns-clause-second g c =
    let seen = g.D.Disk.seen in
    let counts = g.D.Disk.counts in
    let old = c.args.second.now in
    let lens = c.in_ok-lens.ensures in
    let fronts = c.in_ok-fronts.ensures in
    let heads = c.in_ok-heads.ensures in
    let long = λ (h : g.D.Disk.honest). (lens.value h).second_is ∙ ap (λ (s : List ℕ). length s) (sym (lens.same_second h)) in
    let read = λ (h : g.D.Disk.honest). long h ∙ ap (λ (s : List ℕ). length s) (sym (fronts.same_second h)) in
    let front = λ (h : g.D.Disk.honest). subst (λ (s : List ℕ). IsFront s c.read_fronts.new.other_window c.in_ok-fronts.fronts.1) (sym (fronts.same_second h)) (fronts.other_front h (long h)) in
    let same = λ (h : g.D.Disk.honest). fronts.same_second h ∙ lens.same_second h in
    let fetched : Fetched c.in_ok-lens.lens.1 (c.in_ok-fronts.fronts.1.span.from + c.in_ok-fronts.fronts.1.span.have) (asked (counts old)) (counts c.read_fronts.new.second) =
    subst (λ n. Fetched c.in_ok-lens.lens.1 (c.in_ok-fronts.fronts.1.span.from + c.in_ok-fronts.fronts.1.span.have) n (counts c.read_fronts.new.second)) (lens.calls_second 0) fronts.fetched_second in
    record {
      fits = lens.fits.1;
      holds = heads.holds.1;
      whole = λ h. (lens.value h).second_is;
      begins = λ h. subst (λ (s : List ℕ). IsHead s c.read_heads.new.other_window c.in_ok-heads.heads.1) (same h) (heads.other_head h (read h) (front h));
      durable = λ h. only_then _ _ (heads.same_second h ∙ fronts.same_second h) (lens.durable_second h) (same_then (fronts.time_second h) (heads.time_second h));
      fetched = heads.fetched_second _ fetched;
      little = λ h. subst (λ (s : List ℕ). FetchedHead c.in_ok-lens.lens.1 (brief s) (asked (counts old)) (counts c.read_heads.new.second) c.in_ok-heads.heads.1) (same h)
          (heads.little_second h (read h) (front h) _ fetched);
    }

pub returns-clause-same_second : goal.returns-clause-same_second
returns-clause-same_second g c h = c.in_ok-heads.ensures.same_second h ∙ c.in_ok-fronts.ensures.same_second h ∙ c.in_ok-lens.ensures.same_second h

pub returns-clause-time_second : goal.returns-clause-time_second
returns-clause-time_second g c h = same_then (same_then (c.in_ok-lens.ensures.time_second h) (c.in_ok-fronts.ensures.time_second h)) (c.in_ok-heads.ensures.time_second h)

pub returns-clause-older : goal.returns-clause-older
returns-clause-older g c h =
    let lens = c.in_ok-lens.ensures in
    let short = lens.value h in
    (λ i. either_newer (sym (lens.same h) i) (sym (lens.same_second h) i))
    ∙ c.in_ok-fronts.ensures.newer h (short.first_is ∙ ap (λ (s : List ℕ). length s) (sym (lens.same h))) (short.second_is ∙ ap (λ (s : List ℕ). length s) (sym (lens.same_second h)))

pub returns-clause-count : goal.returns-clause-count
returns-clause-count g c =
    let lens = c.in_ok-lens.ensures.count in
    let fronts = c.in_ok-fronts.ensures.count in
    let heads = c.in_ok-heads.ensures.count in
    (heads.0 ∙ fronts.0 ∙ lens.0, heads.1 ∙ fronts.1 ∙ lens.1)
