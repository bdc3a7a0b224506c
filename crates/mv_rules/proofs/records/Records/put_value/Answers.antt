use Rattle.std.proofs.Common.{◌≡◌, ℕ, List, Option, sym, subst, arith}
use Rattle.mv_rules.specs.Accesses.{Accesses, after_put}
use Rattle.mv_rules.specs.Records.{StandsFor}
use Rattle.mv_rules.proofs.Written.{refused_same}
use Rattle.mv_rules.proofs.Tidied.{unmade, absent_kept}
use Rattle.mv_rules.proofs.Within.{keys_alike, notes_alike}
use Rattle.mv_rules.proofs.records.Records.put_value.Goals as goal

pub returns-in_default-make-clause-stands : goal.returns-in_default-make-clause-stands
returns-in_default-make-clause-stands c = λ h s u. c.make.ensures.stands h s (c.in_default.ensures.none h s)

pub returns : goal.returns
returns c =
    let none = c.in_default.ensures.none in
    record {
      answer = λ h s u m. c.put_at-answer.ensures.answer h (c.make.ensures.stands h s (none h s)) c.in-Ok.ensures.index u m;
      stands = λ h s u.
          let value : Option (List ℕ) = c.args.value in
          let same : after_put c.put_at-answer.result c.args.ts c.args.key.now value h ≡ h = refused_same c.put_at-answer.result c.args.ts c.args.key.now value h c.in_default-answer.not-Done in
          let after : StandsFor h c.put_at-answer.new.self = subst (λ (x : Accesses). StandsFor x c.put_at-answer.new.self) same (c.put_at-answer.ensures.stands h (c.make.ensures.stands h s (none h s)) c.in-Ok.ensures.index u) in
          subst (λ (x : Accesses). StandsFor x c.forget.new.self) (sym same) (c.forget.ensures.stands h after (λ t e. absurd (cc (e, s.lists.unindexed t c.args.key.now (none h s)))) (omega arith));
      same = λ refused h s u.
          unmade c.args.self.now c.make.new.self c.put_at-answer.new.self c.forget.new.self c.args.key.now (absent_kept c.args.self.now c.args.key.now (none h s)) (c.in-Ok.ensures.made h s (none h s))
          (c.put_at-answer.ensures.same c.in_default-answer.not-Done h (c.make.ensures.stands h s (none h s)) c.in-Ok.ensures.index) (c.forget.ensures.kept _ (c.put_at-answer.ensures.stands h (c.make.ensures.stands h s (none h s)) c.in-Ok.ensures.index u));
      puts = λ done. absurd (c.in_default-answer.not-Done done);
      within = λ n h short. c.forget.ensures.within n (c.put_at-answer.ensures.within n (c.make.ensures.within n h) short);
      keys = λ h key.
          let made = keys_alike c.args.self.now c.make.new.self (notes_alike _ _ c.make.ensures.notes) h in
          keys_alike c.put_at-answer.new.self c.forget.new.self (notes_alike _ _ c.forget.ensures.notes) (c.put_at-answer.ensures.keys made key);
    }

pub returns-in-Some-clause-same : goal.returns-in-Some-clause-same
returns-in-Some-clause-same c = λ refused h s u. c.put_at.ensures.same refused h s c.in-Some.ensures.index

pub returns-in_default-make-clause-same : goal.returns-in_default-make-clause-same
returns-in_default-make-clause-same c = λ refused h s u. c.in_default-make.ensures.same h s (c.in_default.ensures.none h s)

pub returns-in-Some-clause-puts : goal.returns-in-Some-clause-puts
returns-in-Some-clause-puts c = λ done h s u. c.put_at.ensures.puts done h s c.in-Some.ensures.index u

pub returns-in-Some-clause-stands : goal.returns-in-Some-clause-stands
returns-in-Some-clause-stands c = λ h s u. c.put_at.ensures.stands h s c.in-Some.ensures.index u

pub returns-in-Done-clause-stands : goal.returns-in-Done-clause-stands
returns-in-Done-clause-stands c =
    λ h s u. c.in-Done.ensures.stands h (c.make.ensures.stands h s (c.in_default.ensures.none h s)) c.in-Ok.ensures.index u

pub returns-in-Done-clause-keys : goal.returns-in-Done-clause-keys
returns-in-Done-clause-keys c = λ h key. c.put_at-answer.ensures.keys (keys_alike c.args.self.now c.make.new.self (notes_alike _ _ c.make.ensures.notes) h) key

pub returns-in_default-make-clause-keys : goal.returns-in_default-make-clause-keys
returns-in_default-make-clause-keys c = λ h key. keys_alike c.args.self.now c.make.new.self (notes_alike _ _ c.make.ensures.notes) h
