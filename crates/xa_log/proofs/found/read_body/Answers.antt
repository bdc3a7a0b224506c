use Rattle.std.proofs.Common.{arith, ◌∙◌, ◌≡◌, ◌+◌, ◌-◌, List, ℕ, take, drop, ap, sym, subst, length}
use Rattle.std.proofs.lemmas.List.{take_at}
use Rattle.xa_log.specs.Calls.{ReachesTo}
use Rattle.xa_log.proofs.Cached.{cached_slice}
use Rattle.xa_log.proofs.Pieces.{length-part}
use Rattle.xa_log.proofs.found.read_body.Goals as goal

pub returns-clause-read : goal.returns-clause-read
returns-clause-read g c h caches =
    let file : List ℕ = g.D.Disk.seen c.args.disk.now in
    let items : List ℕ = c.in_ok-body.body.items in
    let begin : ℕ = c.args.at - c.args.span.from + 4 in
    let have : ℕ = c.min-have.result in
    let k : begin + have - begin ≡ have = omega arith in
    let value : c.deref_mut.result.now ≡ items = c.deref_mut.ensures.value in
    let long : length c.deref_mut.result.now ≡ c.args.size = ap length value ∙ c.in_ok-body.ensures.long in
    let front : take have items ≡ take have (drop (c.args.at + 4) file) =
    ap (λ (n : ℕ). take n items) (sym (length-part c.args.window.now begin have (omega arith))) ∙ c.in_ok-body.ensures.front
    ∙ cached_slice file c.args.window.now c.args.span (c.args.at + 4) have begin _ (omega arith) k caches (record { begins = omega arith; reaches = omega arith }) in
    let read = c.in_ok-span.ensures.read h caches (ap (λ (l : List ℕ). take have l) value ∙ front) in
    let n : length c.read_on.new.body ≡ c.in_ok-body.body.len = omega arith in
    take_at c.read_on.new.body _ c.in_ok-body.body.len n ∙ read ∙ ap (λ (n : ℕ). take n (drop (c.args.at + 4) file)) long

pub returns-clause-fetched : goal.returns-clause-fetched
returns-clause-fetched g c start most f r =
    let long : length c.deref_mut.result.now ≡ c.args.size = ap length c.deref_mut.ensures.value ∙ c.in_ok-body.ensures.long in
    let end : c.args.at + (36 + c.args.size) ≡ c.args.at + 4 + length c.deref_mut.result.now + 32 = omega (arith, long) in
    c.in_ok-span.ensures.fetched start most f (subst (λ (e : ℕ). ReachesTo e (c.args.span.from + c.args.span.have) most) end r)
