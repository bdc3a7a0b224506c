use Rattle.std.proofs.Common.{arith, ◌≡◌, ◌+◌, ◌∙◌, ◌&&◌, ap, subst, sym, min, Bool, List, ℕ, take, drop}
use Rattle.std.specs.Prelude.{is_none}
use Rattle.xa_log.specs.Calls.{MOST_BRIEF, brief}
use Rattle.xa_log.specs.Believed.Damage.{lost_first}
use Rattle.xa_log.specs.Reading.{Finds}
use Rattle.xa_log.proofs.Brief.{reaches_most, reaches_brief}
use Rattle.xa_log.proofs.First.{flip, front_read, lost_is}
use Rattle.xa_log.proofs.heads.head_of.Goals as goal
use Rattle.xa_log.proofs.heads.head_of.Goals.{then-shown, else-shown}

pub returns-after-shown-clause-fetched : goal.returns-after-shown-clause-fetched
returns-after-shown-clause-fetched g c begin f =
    let whole = c.requires.holds.whole (λ none. cc (c.in-Some.is, none)) in
    let have : c.args.front.span.from + c.args.front.span.have ≡ min c.args.len 1048576 = omega (arith, whole.0, c.requires.holds.from) in
    c.in_ok-first-in-Some.ensures.fetched begin MOST_BRIEF f (reaches_most c.in-Some.format c.args.len _ have _)

pub returns-after-shown-clause-little : goal.returns-after-shown-clause-little
returns-after-shown-clause-little g c h len front begin f =
    let file = g.D.Disk.seen c.args.disk.now in
    let whole = c.requires.holds.whole (λ none. cc (c.in-Some.is, none)) in
    let have : c.args.front.span.from + c.args.front.span.have ≡ min c.args.len 1048576 = omega (arith, whole.0, c.requires.holds.from) in
    c.in_ok-first-in-Some.ensures.fetched begin (brief file) f
    (reaches_brief c.in-Some.format c.args.len _ have file _ len (sym front.format ∙ c.in-Some.is) (λ size tells. tells h len front.caches))

pub returns-after-shown-clause-head : goal.returns-after-shown-clause-head
returns-after-shown-clause-head g c h len front =
    let file = g.D.Disk.seen c.args.disk.now in
    let log = sym front.format ∙ c.in-Some.is in
    let whole = c.requires.holds.whole (λ none. cc (c.in-Some.is, none)) in
    let finds = subst (λ (d : List ℕ). Finds c.in-Some.format d file 8 c.next_record.new.window c.in_ok-first-in-Some.first) c.first_digest-start.ensures (c.in_ok-first-in-Some.ensures.finds h len front.caches) in
    let read = front_read file c.args.window.now c.args.front.span c.min.result front.caches c.requires.holds.from (omega (arith, whole.0, len)) c.min.ensures (omega (arith, whole.1, len)) in
    let shown : c.is_lost_first-shown.result ≡ lost_first c.in-Some.format (take 41 (drop 8 file)) = c.is_lost_first-shown.ensures ∙ ap (λ (l : List ℕ). lost_first c.in-Some.format l) read in
    let lost : c.if-shown.lost ≡ (c.is_lost_first-shown.result && is_none c.in_ok-first-in-Some.first) = elim c.if-shown.branch [
      | then-shown w ↦ w.lost-is ∙ flip _ _ w.is_none-lost.ensures ∙ sym (ap (λ (b : Bool). b && is_none c.in_ok-first-in-Some.first) w.if-shown.true)
      | else-shown w ↦ w.lost-is ∙ w.if-shown.false ∙ sym (ap (λ (b : Bool). b && is_none c.in_ok-first-in-Some.first) w.if-shown.false)
    ] in
    (log, finds, lost ∙ lost_is file c.next_record.new.window c.in-Some.format c.in_ok-first-in-Some.first c.is_lost_first-shown.result log finds shown)
