use Rattle.std.proofs.Common.{◌≡◌, ℕ, subst, ◌-◌, ◌∷◌, List, None, Some, IsSome, drop, ap, sym, ◌∙◌, arith}
use Rattle.std.proofs.lemmas.List.{drop_more}
use Rattle.xa_codes.specs.declared.write.Write.{Write}
use Rattle.mv_chain.specs.Chain.{fresh}
use Rattle.mv_rules.specs.Records.{StandsFor, index_of}
use Rattle.mv_rules.specs.Tidy.{KeepsBut}
use Rattle.mv_rules.proofs.Begun.{begins_more}
use Rattle.mv_rules.proofs.records.Records.make_all.Goals as goal

pub loop-i-preserved : goal.loop-i-preserved
loop-i-preserved c =
    let ws : List Write = c.args.writes.now in
    let w : Write = c.index-writes-i.result in
    let done : List Write = drop c.loop-i.i c.args.writes.now in
    let whole : drop (c.loop-i.i - 1) c.args.writes.now ≡ c.index-writes-i.result ∷ drop c.loop-i.i c.args.writes.now = grind (arith, drop_more, c.index-writes-i.is, c.loop-i-test.true, c.loop-i.auto.i) in
    rw whole record {
      stands = λ h s. c.find_or_make.ensures.stands h (c.loop-i.invariant.stands h s);
      begins = λ h s.
          let stood : StandsFor h c.loop-i.self = c.loop-i.invariant.stands h s in
          let key_is = c.as_slice.ensures ∙ ap (λ (x : Write). x.key) (sym c.index-writes-i.is) in
          let known = subst (λ (key : List ℕ). IsSome (index_of key c.loop-i.self) → c.find_or_make.new.self ≡ c.loop-i.self) key_is (c.find_or_make.ensures.known h stood) in
          let made = subst (λ (key : List ℕ). index_of key c.loop-i.self ≡ None → KeepsBut key (λ _. Some fresh) c.loop-i.self c.find_or_make.new.self) key_is (c.in_ok-find_or_make.ensures.made h stood) in
          begins_more w done c.args.self.now c.loop-i.self c.find_or_make.new.self (c.loop-i.invariant.begins h s) known made c.find_or_make.ensures.notes;
      within = λ n short. c.find_or_make.ensures.within n (c.loop-i.invariant.within n short);
      notes = c.find_or_make.ensures.notes ∙ c.loop-i.invariant.notes;
    }
