use Rattle.std.proofs.Common.{◌≡◌, ◌+◌, ◌-◌, ◌≤◌, drop, sym, ap, ◌∙◌, refl, arith, length-drop, ℕ, List, inl, inr}
use Rattle.std.specs.Int.{w32, to_be_bytes}
use Rattle.std.proofs.lemmas.Bool.{cases_lt}
use Rattle.xa_log.specs.Believed.Chain.{size_at}
use Rattle.xa_log.proofs.Front.{size_front, size_bytes, bytes_read}
use Rattle.xa_log.proofs.Shown.{shown_from, shows_short, shows_empty, shows_large, shows_cut}
use Rattle.xa_log.proofs.Cached.{cached_slice}
use Rattle.xa_log.proofs.Fetch.{on_fault, within_more, length_read, length_reaches}
use Rattle.xa_log.proofs.found.shown_size.Goals as goal
use Rattle.xa_log.proofs.found.shown_size.Goals.{then-size-most_body-via-then-size-most_body, then-size-most_body-via-else-size-most_body+then-len-at-2}

pub returns-then-len-at-clause-size : goal.returns-then-len-at-clause-size
returns-then-len-at-clause-size g c h whole caches =
    let file = g.D.Disk.seen c.args.disk.now in
    record {
      none = λ is. shows_short c.args.format (drop c.args.at file) (omega (arith, whole, length-drop c.args.at file));
      some = λ le. absurd (omega (arith, le));
      spelled = λ le. absurd (omega (arith, le));
      caches = caches;
    }

pub returns-then-size-most_body-clause-size : goal.returns-then-size-most_body-clause-size
returns-then-size-most_body-clause-size g c h whole caches =
    let file = g.D.Disk.seen c.args.disk.now in
    let x = drop c.args.at file in
    let size : c.size_of-size.result ≡ size_at x =
    c.size_of-size.ensures ∙ size_front _ x (cached_slice file c.fill.new.window c.in_ok-span.span c.args.at 4 _ _ refl (omega arith) (c.in_ok-span.ensures.caches h caches) c.in_ok-span.ensures.covers) in
    record {
      none = λ is. elim c.then-size-most_body.branch [
        | then-size-most_body-via-then-size-most_body w ↦ shows_large c.args.format x (omega (arith, size))
        | then-size-most_body-via-else-size-most_body+then-len-at-2 w ↦ shows_cut c.args.format x (omega (arith, size, whole, length-drop c.args.at file))
      ];
      some = λ le. absurd (omega (arith, le));
      spelled = λ le. absurd (omega (arith, le));
      caches = c.in_ok-span.ensures.caches h caches;
    }

pub returns-clause-size : goal.returns-clause-size
returns-clause-size g c h whole caches =
    let file : List ℕ = g.D.Disk.seen c.args.disk.now in
    let x : List ℕ = drop c.args.at file in
    let first = c.in_ok-span.ensures.caches h caches in
    let front = cached_slice file c.fill.new.window c.in_ok-span.span c.args.at 4 (c.args.at - c.in_ok-span.span.from) _ refl (omega arith) first c.in_ok-span.ensures.covers in
    let size : c.size_of-size.result ≡ size_at x = c.size_of-size.ensures ∙ size_front _ x front in
    let spelled = size_bytes x (omega (arith, whole, length-drop c.args.at file)) (bytes_read c.fill.new.window x (c.args.at - c.in_ok-span.span.from) _ (omega arith) front c.fill.ensures.bytes) in
    record {
      none = λ is. shows_empty c.args.format x (sym size ∙ is);
      some = λ le. shown_from c.args.format x (record { some = omega (arith, size, le); small = omega (arith, size); whole = omega (arith, size, whole, length-drop c.args.at file) });
      spelled = λ le. spelled ∙ ap (λ (k : ℕ). to_be_bytes w32 k) (sym size);
      caches = first;
    }

pub returns-in_err-span-clause-fetched : goal.returns-in_err-span-clause-fetched
returns-in_err-span-clause-fetched g c start most f r =
    let far : c.args.at + 1048576 ≤ most = elim (cases_lt (c.args.span.from + c.args.span.have) (c.args.at + 4)) [
      | inl short ↦ r.1 (omega arith) short
      | inr long ↦ absurd (cc (c.in_err-span.ensures.covered long))
    ] in
    on_fault _ _ c.from_residual.result c.from_residual.ensures.0
    (within_more c.args.len (c.args.at + 1048576) most start _ far (c.in_err-span.ensures.fetched start f))

pub returns-then-len-at-clause-fetched : goal.returns-then-len-at-clause-fetched
returns-then-len-at-clause-fetched g c start most f r = record { upto = (f, r.0); reaches = λ le. absurd (omega (arith, le)) }

pub returns-then-size-most_body-clause-fetched : goal.returns-then-size-most_body-clause-fetched
returns-then-size-most_body-clause-fetched g c start most f r =
    let it = length_read c.args.span c.in_ok-span.span c.args.at c.args.len most (omega arith) c.in_ok-span.ensures.whole (λ le. cc (c.in_ok-span.ensures.covered le)) r.0 r.1 in
    record { upto = (c.in_ok-span.ensures.fetched start f, it.bounded); reaches = λ le. absurd (omega (arith, le)) }

pub returns-clause-fetched : goal.returns-clause-fetched
returns-clause-fetched g c start most f r =
    let it = length_read c.args.span c.in_ok-span.span c.args.at c.args.len most (omega arith) c.in_ok-span.ensures.whole (λ le. cc (c.in_ok-span.ensures.covered le)) r.0 r.1 in
    record {
      upto = (c.in_ok-span.ensures.fetched start f, it.bounded);
      reaches = λ le. length_reaches c.args.span c.in_ok-span.span c.args.at most _ it (omega arith)
          (r.2 c.size_of-size.result
          (λ h whole caches.
          c.size_of-size.ensures ∙ size_front _ _ (cached_slice (g.D.Disk.seen c.args.disk.now) c.fill.new.window c.in_ok-span.span c.args.at 4 _ _ refl (omega arith) (c.in_ok-span.ensures.caches h caches) c.in_ok-span.ensures.covers))
          (omega arith) (omega arith));
    }
