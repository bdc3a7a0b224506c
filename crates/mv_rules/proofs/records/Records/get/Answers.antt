use Rattle.std.proofs.Common.{◌≡◌, ap, None}
use Rattle.mv_rules.specs.Records.{index_of}
use Rattle.mv_rules.specs.Tidy.{has_read}
use Rattle.mv_rules.proofs.Exact.{reads_made}
use Rattle.mv_rules.proofs.Tidied.{unmade, absent_kept, reads_unwritten}
use Rattle.mv_rules.proofs.Within.{keys_alike, notes_alike}
use Rattle.mv_rules.proofs.records.Records.get.Goals as goal

pub returns-in-Some-clause-stands : goal.returns-in-Some-clause-stands
returns-in-Some-clause-stands c = λ h s le. c.get_at.ensures.stands h s c.in-Some.ensures.index le

pub returns-in-Memory-clause-within : goal.returns-in-Memory-clause-within
returns-in-Memory-clause-within c = λ n h. c.forget.ensures.within n (c.get_at-got.ensures.within n (c.make.ensures.within n h))

pub returns : goal.returns
returns c =
    let none = c.in_default.ensures.none in
    record {
      answer = λ h s le m. c.get_at-got.ensures.answer h (c.make.ensures.stands h s (none h s)) c.in-Ok.ensures.index le m;
      same = λ refused h s le. absurd (reads_unwritten h c.args.self.now c.args.key.now c.args.ts c.get_at-got.result s (none h s) le refused (c.get_at-got.ensures.answer h (c.make.ensures.stands h s (none h s)) c.in-Ok.ensures.index le c.in_default-got.not-Memory));
      reads = λ answered h s.
          reads_made c.args.key.now c.args.self.now c.make.new.self (absent_kept c.args.self.now c.args.key.now (none h s)) (c.in-Ok.ensures.made h s (none h s)) c.args.ts c.get_at-got.new.self c.make.ensures.notes
          (c.get_at-got.ensures.reads answered h (c.make.ensures.stands h s (none h s)) c.in-Ok.ensures.index);
      stands = λ h s le. c.get_at-got.ensures.stands h (c.make.ensures.stands h s (none h s)) c.in-Ok.ensures.index le;
      short = λ n h. c.get_at-got.ensures.short n (c.make.ensures.within n h);
      within = λ n h. c.get_at-got.ensures.within n (c.make.ensures.within n h);
      keys = λ h.
          keys_alike c.make.new.self c.get_at-got.new.self c.get_at-got.ensures.own
          (keys_alike c.args.self.now c.make.new.self (notes_alike _ _ c.make.ensures.notes) h);
    }

pub returns-in-Some-clause-same : goal.returns-in-Some-clause-same
returns-in-Some-clause-same c = λ refused h s le. c.get_at.ensures.same refused h s c.in-Some.ensures.index

pub returns-in-Memory-clause-same : goal.returns-in-Memory-clause-same
returns-in-Memory-clause-same c =
    λ refused h s le.
    let none : index_of c.args.key.now c.args.self.now ≡ None = c.in_default.ensures.none h s in
    let made = c.make.ensures.stands h s none in
    unmade c.args.self.now c.make.new.self c.get_at-got.new.self c.forget.new.self c.args.key.now (absent_kept c.args.self.now c.args.key.now none) (c.in-Ok.ensures.made h s none)
    (c.get_at-got.ensures.same (ap has_read c.in-Memory.is) h made c.in-Ok.ensures.index) (c.forget.ensures.kept _ (c.get_at-got.ensures.stands h made c.in-Ok.ensures.index le))

pub returns-in_default-make-clause-same : goal.returns-in_default-make-clause-same
returns-in_default-make-clause-same c = λ refused h s le. c.in_default-make.ensures.same h s (c.in_default.ensures.none h s)

pub returns-in-Some-clause-reads : goal.returns-in-Some-clause-reads
returns-in-Some-clause-reads c = λ answered h s. c.get_at.ensures.reads answered h s c.in-Some.ensures.index

pub returns-in_default-make-clause-stands : goal.returns-in_default-make-clause-stands
returns-in_default-make-clause-stands c = λ h s le. c.make.ensures.stands h s (c.in_default.ensures.none h s)

pub returns-in-Some-clause-keys : goal.returns-in-Some-clause-keys
returns-in-Some-clause-keys c = λ h. keys_alike c.args.self.now c.get_at.new.self c.get_at.ensures.own h

pub returns-in-Memory-clause-keys : goal.returns-in-Memory-clause-keys
returns-in-Memory-clause-keys c = λ h.
    let made = keys_alike c.args.self.now c.make.new.self (notes_alike _ _ c.make.ensures.notes) h in
    let read = keys_alike c.make.new.self c.get_at-got.new.self c.get_at-got.ensures.own made in
    keys_alike c.get_at-got.new.self c.forget.new.self (notes_alike _ _ c.forget.ensures.notes) read

pub returns-in_default-make-clause-keys : goal.returns-in_default-make-clause-keys
returns-in_default-make-clause-keys c = λ h. keys_alike c.args.self.now c.make.new.self (notes_alike _ _ c.make.ensures.notes) h
