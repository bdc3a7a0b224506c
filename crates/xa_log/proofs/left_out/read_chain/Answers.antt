use Rattle.std.proofs.Common.{arith, ◌∙◌, rules, ◌≡◌, ◌+◌, ◌≤◌, ◌++◌, ◌∷◌, [], List, ℕ, subst, sym, ap, length, IfSome, Some, Vec, Global}
use Rattle.std.proofs.lemmas.List.{map-append}
use Rattle.xa_disk.specs.declared.counts.Counts.{Counts}
use Rattle.xa_log.specs.Calls.{Fetched, FetchedNext}
use Rattle.xa_log.specs.Reading.{Finds, Fits, bodies_of}
use Rattle.xa_log.specs.Window.{Caches}
use Rattle.xa_log.proofs.Left.{Along, along_start, along_end, along_found}
use Rattle.xa_log.proofs.Torn.{same_then}
use Rattle.xa_log.proofs.Fetch.{some_within, next_some, next_any, any_reach}
use Rattle.xa_log.proofs.left_out.read_chain.Goals as goal
use Rattle.xa_log.proofs.left_out.read_chain.Goals.{In-Some}

abbrev items : Vec ℕ Global → List ℕ
items b = b.items

pub records-init : goal.records-init
records-init g c = record {
  room = search rules;
  within = search rules;
  fits = search rules;
  same = search rules;
  along = λ prev most h long room finds.
      subst (λ bs. Along c.args.format (g.D.Disk.seen c.args.disk.now) prev most c.args.at c.args.window.now c.args.at (bodies_of bs) c.args.first) (sym c.new-bodies.ensures.items)
      (along_start c.args.format (g.D.Disk.seen c.args.disk.now) prev most c.args.at c.args.window.now c.args.first (omega (arith, long, room)) finds);
  time = search rules;
  fetched = λ begin most f. next_any c.args.len most begin _ c.args.first f;
  faults = search rules;
}

along : (g : _) (c : In-Some g) (prev : List ℕ) (most : ℕ) → g.D.Disk.honest → c.args.len ≡ length (g.D.Disk.seen c.args.disk.now) → c.args.len ≤ c.args.at + most
    → Finds c.args.format prev (g.D.Disk.seen c.args.disk.now) c.args.at c.args.window.now c.args.first
    → Along c.args.format (g.D.Disk.seen c.args.disk.now) prev most c.args.at c.records.window c.records.end (bodies_of c.records.bodies.items) (Some c.in-Some.found)
along g c prev most h long room finds =
    subst (λ o. Along c.args.format (g.D.Disk.seen c.args.disk.now) prev most c.args.at c.records.window c.records.end (bodies_of c.records.bodies.items) o) c.in-Some.is
    (c.records.invariant.along prev most h long room finds)

fetched : (g : _) (c : In-Some g) (begin : Counts) (most : ℕ) → FetchedNext c.args.len most begin (g.D.Disk.counts c.args.disk.now) c.args.first
    → Fetched c.args.len (c.in-Some.found.span.from + c.in-Some.found.span.have) begin (g.D.Disk.counts c.records.disk)
fetched g c begin most f =
    let was : FetchedNext c.args.len (c.args.len + 1048576) begin (g.D.Disk.counts c.records.disk) (Some c.in-Some.found) =
    subst (λ o. FetchedNext c.args.len (c.args.len + 1048576) begin (g.D.Disk.counts c.records.disk) o) c.in-Some.is (c.records.invariant.fetched begin most f) in
    was.0

fit : (g : _) (c : In-Some g) → Fits c.args.format c.records.end c.args.len 1048576 c.in-Some.found
fit g c = subst (λ o. IfSome o (Fits c.args.format c.records.end c.args.len 1048576)) c.in-Some.is c.records.invariant.fits

pub records-preserved : goal.records-preserved
records-preserved g c =
    let step = (goal.at.records-preserved g c).In-Some in
    let file : List ℕ = g.D.Disk.seen c.args.disk.now in
    let found = c.in-Some.found in
    let body : List ℕ = found.body.items in
    let bodies : List (List ℕ) = bodies_of c.records.bodies.items in
    let within = (fit g step).within in
    let n : c.len.result ≡ length body = omega arith in
    let pushed : bodies_of c.push.new.self.items ≡ bodies ++ body ∷ [] = ap (λ (l : List (Vec ℕ Global)). bodies_of l) c.in_ok-push-in-Some.ensures.items ∙ map-append items c.records.bodies.items (found.body ∷ []) in
    record {
      room = search rules;
      within = omega (arith, within, n);
      fits = c.in_ok-next-in-Some.ensures.fits;
      same = search rules;
      along = λ prev most h long room finds.
          let same : g.D.Disk.seen c.records.disk ≡ file = c.records.invariant.same h in
          let it = along g step prev most h long room finds in
          let caches = subst (λ f. Caches f c.records.window found.span) (sym same) it.finds.4 in
          let next : Finds c.args.format found.digest file (c.records.end + (36 + c.len.result)) c.next_record.new.window c.in_ok-next-in-Some.next =
          subst (λ f. Finds c.args.format found.digest f (c.records.end + (36 + c.len.result)) c.next_record.new.window c.in_ok-next-in-Some.next) same
          (c.in_ok-next-in-Some.ensures.finds h (long ∙ ap (λ (f : List ℕ). length f) (sym same)) caches) in
          subst (λ bs. Along c.args.format file prev most c.args.at c.next_record.new.window (c.records.end + (36 + c.len.result)) bs c.in_ok-next-in-Some.next) (sym pushed)
          (subst (λ k. Along c.args.format file prev most c.args.at c.next_record.new.window (c.records.end + (36 + k)) (bodies ++ body ∷ []) c.in_ok-next-in-Some.next) (sym n)
          (along_found c.args.format file prev most c.args.at c.records.window c.records.end bodies found c.next_record.new.window c.in_ok-next-in-Some.next it
          (subst (λ k. Finds c.args.format found.digest file (c.records.end + (36 + k)) c.next_record.new.window c.in_ok-next-in-Some.next) n next)));
      time = λ h. same_then (c.records.invariant.time h) (c.next_record.ensures.time h);
      fetched = λ begin most f.
          let read = fetched g step begin most f in
          c.in_ok-next-in-Some.ensures.fetched begin (c.args.len + 1048576) read (any_reach _ _ c.args.len _ _ read.within (omega (arith, within, n)));
      faults = search rules;
    }

pub returns-in-None-clause-value : goal.returns-in-None-clause-value
returns-in-None-clause-value g c prev most h long room finds =
    let file : List ℕ = g.D.Disk.seen c.args.disk.now in
    along_end c.args.format file prev most c.args.at c.records.window c.records.end (bodies_of c.records.bodies.items)
    (subst (λ o. Along c.args.format file prev most c.args.at c.records.window c.records.end (bodies_of c.records.bodies.items) o) c.in-None.is (c.records.invariant.along prev most h long room finds))

pub returns-in-None-clause-fetched : goal.returns-in-None-clause-fetched
returns-in-None-clause-fetched g c begin most f = next_some c.args.len (c.args.len + 1048576) begin _ c.records.next (c.records.invariant.fetched begin most f)

pub returns-in_err-push-in-Some-clause-fetched : goal.returns-in_err-push-in-Some-clause-fetched
returns-in_err-push-in-Some-clause-fetched g c begin most f = next_some c.args.len (c.args.len + 1048576) begin _ c.records.next (c.records.invariant.fetched begin most f)

pub returns-in_err-next-in-Some-clause-fetched : goal.returns-in_err-next-in-Some-clause-fetched
returns-in_err-next-in-Some-clause-fetched g c begin most f =
    let step = (goal.at.returns-in_err-next-in-Some-clause-fetched g c).In-Some in
    let within = (fit g step).within in
    let n : c.len.result ≡ length c.in-Some.found.body.items = omega arith in
    let read = fetched g step begin most f in
    some_within c.args.len (c.args.len + 1048576) begin _
    (c.in_err-next-in-Some.ensures.fetched begin (c.args.len + 1048576) read (any_reach _ _ c.args.len _ _ read.within (omega (arith, within, n))))
