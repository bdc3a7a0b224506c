use Rattle.std.proofs.Common.{◌≡◌, ◌∙◌, ◌+◌, ◌-◌, List, ap, arith, length, refl, subst, sym}
use Rattle.std.specs.Prelude.{All}
use Rattle.std.specs.Vec.Iter.{drain_items}
use Rattle.std.specs.VecDeque.{deque_len}
use Rattle.std.specs.Vec.{vec_len}
use Rattle.std.proofs.lemmas.List.Elements.{All-head, All-same, All-take, All-tail}
use Rattle.std.proofs.lemmas.List.{take_all}
use Rattle.xa_reactor.specs.Asking.{IsLeft}
use Rattle.xa_reactor.specs.Believed.Tending.{Table, sessions_of}
use Rattle.xa_reactor.specs.declared.ask.Ask.{Ask}
use Rattle.xa_reactor.proofs.Keeping.{kept_none, kept_twice}
use Rattle.xa_reactor.proofs.together.send_answered.Goals as goal

pub loop-ask-init : goal.loop-ask-init
loop-ask-init g c =
    let same = c.into_iter-ask-iterator.ensures.into_iter_gives in
    let table : Table = sessions_of c.args.peers.now.all in
    record {
      asks = subst (λ d. All (IsLeft table) (drain_items d)) (sym same)
          (All-same (IsLeft table) _ _ c.drain-ask-items.ensures.rest (All-take (IsLeft table) (vec_len c.args.asks.now - 0) c.args.asks.now.items c.requires.asks));
      lent = c.requires.left;
      count = subst (λ d. vec_len c.args.over.now + vec_len c.args.left.now + length (drain_items d) + deque_len c.args.peers.now.queue
          ≡ vec_len c.args.over.now + vec_len c.args.left.now + vec_len c.args.asks.now + deque_len c.args.peers.now.queue) (sym same)
          (omega (arith, ap (λ (xs : List Ask). length xs) (c.drain-ask-items.ensures.rest ∙ take_all (vec_len c.args.asks.now - 0) c.args.asks.now.items (omega arith))));
      more = (omega arith, omega arith, omega arith);
      capacity = (refl, refl);
      same = refl;
      kept = kept_none c.args.peers.now c.args.over.now.items;
    }

pub send_or_leave-requires : goal.send_or_leave-requires
send_or_leave-requires g c =
    let less : length (drain_items c.loop-ask.ask-iterator) ≡ length (drain_items c.next.new.self) + 1 =
    ap (λ (xs : List Ask). length xs) c.in-Some.ensures.steps.0 ∙ omega arith in
    let was = c.loop-ask.invariant in
    let table : Table = sessions_of c.loop-ask.peers.all in
    record {
      ask = All-head (IsLeft table) c.in-Some.ask _ (All-same (IsLeft table) _ _ (sym c.in-Some.ensures.steps.0) was.asks);
      left = was.lent;
      room = (
        omega (arith, less, was.count, was.more.1, was.more.2, was.capacity.0, c.requires.room.0),
        omega (arith, less, was.count, was.more.0, was.more.2, was.capacity.1, c.requires.room.1),
      );
    }

pub loop-ask-preserved : goal.loop-ask-preserved
loop-ask-preserved g c =
    let less : length (drain_items c.loop-ask.ask-iterator) ≡ length (drain_items c.next.new.self) + 1 =
    ap (λ (xs : List Ask). length xs) c.in-Some.ensures.steps.0 ∙ omega arith in
    let was = c.loop-ask.invariant in
    let table : Table = sessions_of c.loop-ask.peers.all in
    let sent = c.send_or_leave.ensures in
    record {
      asks = subst (λ (t : Table). All (IsLeft t) (drain_items c.next.new.self)) (sym sent.same)
          (All-tail (IsLeft table) c.in-Some.ask _ (All-same (IsLeft table) _ _ (sym c.in-Some.ensures.steps.0) was.asks));
      lent = sent.lent;
      count = omega (arith, less, was.count, sent.turns);
      more = (omega (arith, was.more.0, sent.more.0), omega (arith, was.more.1, sent.more.1), omega (arith, was.more.2, sent.more.2));
      capacity = (sent.room.0 ∙ was.capacity.0, sent.room.1 ∙ was.capacity.1);
      same = sent.same ∙ was.same;
      kept = kept_twice c.args.peers.now c.loop-ask.peers c.send_or_leave.new.peers c.args.over.now.items c.loop-ask.over.items c.send_or_leave.new.over.items
          was.kept sent.kept;
    }

pub returns-clause-same : goal.returns-clause-same
returns-clause-same g c = c.loop-ask.invariant.same

pub returns-clause-lent : goal.returns-clause-lent
returns-clause-lent g c = c.loop-ask.invariant.lent

pub returns-clause-turns : goal.returns-clause-turns
returns-clause-turns g c = omega (arith, c.loop-ask.invariant.count, ap (λ (xs : List Ask). length xs) c.in-None.ensures.steps.0)

pub returns-clause-more : goal.returns-clause-more
returns-clause-more g c = c.loop-ask.invariant.more.2

pub returns-clause-room : goal.returns-clause-room
returns-clause-room g c = c.loop-ask.invariant.capacity.0

pub returns-clause-kept : goal.returns-clause-kept
returns-clause-kept g c = c.loop-ask.invariant.kept
