use Rattle.std.proofs.Common.{◌∙◌, map, ap, sym}
use Rattle.std.proofs.lemmas.List.{length-map}
use Rattle.xa_history.specs.Believed.Book.{receipt_of}
use Rattle.xa_server.proofs.Watching.{history_down}
use Rattle.xa_server.proofs.engine.loop_by.Goals as goal
use Rattle.xa_tokens.specs.Believed.Account.{Account}

-- the loops' shares as one have every part, so what they were told is the history
pub into_sequencer-sequencer-requires-clause-parts : goal.into_sequencer-sequencer-requires-clause-parts
into_sequencer-sequencer-requires-clause-parts g c =
    c.in_ok-ran.ensures.parts ∙ (c.in_ok-posts.ensures.parts ∙ ap (λ (a : Account). a.parts) c.new-shared.ensures)

pub returns-clause-served : goal.returns-clause-served
returns-clause-served g c =
    let posts = c.in_ok-posts.posts.items in
    let ran = c.in_ok-ran.ensures in
    let whole = c.into_sequencer-sequencer.ensures in (
      record {
        now = c.into_sequencer-sequencer.result.now;
        entries = whole.book.entries;
        ended = ran.loops.0;
        runs = record {
          begun = map (λ p. p.handle.asker) posts;
          count = length-map posts (λ p. p.handle.asker) ∙ c.in_ok-posts.ensures.count;
          fresh = c.in_ok-posts.ensures.fresh;
          loop = ran.loops.1;
        };
        receipts = whole.receipts;
        are = whole.book.same;
        once = λ weigh. whole.whole.told weigh ∙ ran.loops.2 weigh;
        legal = whole.book.stands.upholds.legal;
        promises = c.promises.ensures.promises whole.book.entries whole.book.stands;
        counted = whole.book.stands.upholds.counted;
        calls_are = c.count.ensures ∙ whole.book.stands.count_is;
        down_is =
            c.is_down.ensures
            ∙ history_down c.in_ok-ran.ran.seen whole.receipts _ (map receipt_of whole.book.entries) whole.whole.told whole.whole.numbered whole.book.same ran.seen;
      },
      sym c.into_manager.ensures,
    )
