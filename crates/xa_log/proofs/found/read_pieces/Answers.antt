use Rattle.std.proofs.Common.{arith, ◌∙◌, rules, ◌+◌, List, ℕ, take, drop, ap, length}
use Rattle.xa_log.proofs.Torn.{same_then}
use Rattle.xa_log.proofs.Fetch.{fetch_more, joined, on_fault}
use Rattle.xa_log.proofs.Pieces.{length-part}
use Rattle.xa_log.proofs.found.read_pieces.Goals as goal

pub returns-in_err-read_at-clause-fetched : goal.returns-in_err-read_at-clause-fetched
returns-in_err-read_at-clause-fetched g c start f =
    let n = length-part c.pieces.body c.pieces.done c.min.result (omega arith) in
    on_fault _ _ c.from_residual.result c.from_residual.ensures.0
    (record {
      upto = c.args.at + (c.pieces.done + c.min.result);
      fetched = fetch_more c.args.len (c.args.at + c.pieces.done) _ (c.args.at + (c.pieces.done + c.min.result)) start _ _ (c.pieces.invariant.fetched start f)
          (omega arith) (omega (arith, n)) (omega arith) (omega (arith, n)) (λ more. omega (arith, n)) c.read_at.ensures.calls;
      bounded = omega arith;
    })

pub pieces-preserved : goal.pieces-preserved
pieces-preserved g c =
    let file : List ℕ = g.D.Disk.seen c.args.disk.now in
    let n = length-part c.pieces.body c.pieces.done c.min.result (omega arith) in
    let put : ℕ = c.pieces.done + c.min.result in
    record {
      more = omega (arith, c.pieces.invariant.more);
      inside = omega arith;
      room = search rules;
      read = λ h front.
          let same = c.pieces.invariant.same h in
          joined file c.pieces.body c.read_at.new.into _ c.args.at c.pieces.done (c.pieces.done + c.min.result) (omega arith) (omega arith)
          (c.pieces.invariant.read h front) (c.read_at.auto.into ∙ n ∙ omega arith)
          ((c.in_ok-read_at.ensures.value h).bytes_are ∙ ap (λ (f : List ℕ). take (length c.read_at.new.into) (drop (c.args.at + c.pieces.done) f)) same);
      same = search rules;
      time = λ h. same_then (c.pieces.invariant.time h) (c.in_ok-read_at.ensures.time h);
      faults = search rules;
      fetched = λ start f. fetch_more c.args.len (c.args.at + c.pieces.done) _ (c.args.at + (c.pieces.done + c.min.result)) start _ _ (c.pieces.invariant.fetched start f)
          (omega arith) (omega (arith, n)) (omega arith) (omega (arith, n)) (λ more. omega (arith, n)) c.read_at.ensures.calls;
    }
