use Rattle.std.proofs.Common.{◌≡◌, ◌∙◌, ap, sym, ◌+◌, ◌++◌, ◌∷◌, [], length, List, None, length-append, take, drop}
use Rattle.std.proofs.lemmas.List.{append_assoc, take_more, take-append-drop}
use Rattle.xa_codes.specs.declared.write.Write.{Write}
use Rattle.mv_chain.specs.Within.{IsShort}
use Rattle.mv_rules.specs.Accesses.{Accesses}
use Rattle.mv_rules.specs.Restoring.{with_branch}
use Rattle.mv_rules.specs.Within.{IsKey}
use Rattle.mv_rules.proofs.Exact.{puts_more}
use Rattle.mv_rules.proofs.Within.{each_at}
use Rattle.mv_rules.proofs.Rebuilt.{branch_grown, restorable_unsettled, restorable_timely}
use Rattle.mv_rules.proofs.records.Records.put_all.Goals as goal

pub loop-write-preserved : goal.loop-write-preserved
loop-write-preserved c =
    let ws : List Write = c.args.writes.now in
    let w : Write = c.write-item.result in
    let done : List Write = take c.loop-write.write-index c.args.writes.now in
    let step : take (c.loop-write.write-index + 1) c.args.writes.now ≡ take c.loop-write.write-index c.args.writes.now ++ c.write-item.result ∷ [] =
    take_more ws c.loop-write.write-index w c.loop-write-test.true ∙ ap (λ (x : Write). take c.loop-write.write-index c.args.writes.now ++ x ∷ []) (sym c.write-item.is) in
    let whole : c.args.writes.now ≡ take c.loop-write.write-index c.args.writes.now ++ c.write-item.result ∷ drop (c.loop-write.write-index + 1) c.args.writes.now =
    sym (take-append-drop (c.loop-write.write-index + 1) ws) ∙ ap (λ (xs : List Write). xs ++ drop (c.loop-write.write-index + 1) c.args.writes.now) step ∙ append_assoc done (w ∷ []) _ in
    rw step record {
      stands = λ h s e.
          let before : Accesses = record h { writes = with_branch c.args.ts None done h.writes } in
          let after = c.in_ok-put_back.ensures.stands before (c.loop-write.invariant.stands h s e) (restorable_unsettled c.args.ts h done e) (restorable_timely c.args.ts h _ e) in
          branch_grown c.args.ts h _ done w _ _ c.as_slice.ensures c.in_ok-left.ensures after;
      puts = λ h s e.
          let before : Accesses = record h { writes = with_branch c.args.ts None done h.writes } in
          let one = c.in_ok-put_back.ensures.puts before (c.loop-write.invariant.stands h s e) (restorable_unsettled c.args.ts h done e) in
          puts_more c.args.ts done w c.args.self.now c.loop-write.self c.put_back.new.self (c.loop-write.invariant.puts h s e) (rw (c.as_slice.ensures, c.in_ok-left.ensures) at one);
      within = λ n h short.
          c.put_back.ensures.within n (c.loop-write.invariant.within n h short) (rw c.in_ok-left.ensures (each_at (λ w. IsShort n w.value) c.args.writes.now done _ w whole short));
      keys = λ none have.
          let key = each_at (λ w. IsKey w.key) c.args.writes.now done _ w whole have.1 in
          rw (length-append done (w ∷ [])) (c.put_back.ensures.keys (length done) (c.loop-write.invariant.keys none have) (rw c.as_slice.ensures key));
      others = λ t other. c.put_back.ensures.others t other ∙ c.loop-write.invariant.others t other;
    }
