use Rattle.std.proofs.Common.{◌≡◌, ◌∙◌, ℕ, List, refl, sym, ap, arith, ◌≤◌}
use Rattle.std.specs.Prelude.{max}
use Rattle.mv_rules.specs.Accesses.{Accesses}
use Rattle.std.specs.BTreeMap.{BTreeMap}
use Rattle.mv_rules.specs.declared.own.Own.{Own}
use Rattle.mv_rules.specs.declared.own.Notes.{Notes}
use Rattle.mv_rules.specs.declared.records.Records.{Records}
use Rattle.mv_rules.specs.Own.{own_in}
use Rattle.mv_rules.specs.Records.{StandsFor}
use Rattle.mv_rules.specs.Tidy.{kept_of, names, due, not_due, tidied_if}
use Rattle.mv_rules.proofs.Tidied.{tidied_three, none_left}
use Rattle.mv_rules.proofs.Frames.{nothing_left}
use Rattle.mv_rules.proofs.Indices.{stands_alike}
use Rattle.mv_rules.proofs.Remade.{low_rises_to}
use Rattle.mv_rules.proofs.Within.{keys_alike, keys_stay, notes_alike}
use Rattle.mv_rules.proofs.records.Records.low_water.Goals as goal

pub loop-noted-preserved : goal.loop-noted-preserved
loop-noted-preserved c =
    let low = c.args.low in
    let before : Records = record c.loop-noted.self { notes = c.next_due.new.notes } in
    let rest : List Own = due low c.next_due.new.notes.entries in
    let same : c.drain-in-Some.new.self.notes ≡ c.next_due.new.notes = c.drain-in-Some.ensures.notes ∙ c.drain.ensures.notes in
    record {
      stands = λ h s whole le. c.drain-in-Some.ensures.stands h (c.drain.ensures.stands h (stands_alike h c.loop-noted.self _ (λ q. refl) (λ k. refl) (nothing_left c.loop-noted.self.pool) c.next_due.ensures.same (c.loop-noted.invariant.stands h s whole le)) whole le) whole le;
      kept = λ h s whole le q.
          let alike : StandsFor h before = stands_alike h c.loop-noted.self before (λ q. refl) (λ k. refl) (nothing_left c.loop-noted.self.pool) c.next_due.ensures.same (c.loop-noted.invariant.stands h s whole le) in
          let one : kept_of q c.drain.new.self ≡ tidied_if low (names q c.in-Some.noted.decided.items) (kept_of q c.loop-noted.self) = rw c.deref.ensures.value at (c.drain.ensures.kept h alike whole le q) in
          let two : kept_of q c.drain-in-Some.new.self ≡ tidied_if low (names q c.in-Some.noted.read.items) (kept_of q c.drain.new.self) = rw c.deref-in-Some.ensures.value at (c.drain-in-Some.ensures.kept h (c.drain.ensures.stands h alike whole le) whole le q) in
          ap (λ (n : BTreeMap ℕ Notes). tidied_if low (names q (due low n.entries)) (kept_of q c.drain-in-Some.new.self)) same
          ∙ (tidied_three low q c.in-Some.noted.decided.items c.in-Some.noted.read.items rest (due low c.loop-noted.self.notes.entries) (kept_of q c.loop-noted.self) (kept_of q c.drain.new.self) (kept_of q c.drain-in-Some.new.self) c.in-Some.ensures.due one two
          ∙ c.loop-noted.invariant.kept h s whole le q);
      notes = ap (λ (n : BTreeMap ℕ Notes). not_due low n.entries) same ∙ (sym c.in-Some.ensures.later ∙ c.loop-noted.invariant.notes);
      within = λ n h. c.drain-in-Some.ensures.within n (c.drain.ensures.within n (c.loop-noted.invariant.within n h));
      keys = λ h. keys_alike before c.drain-in-Some.new.self (notes_alike _ _ same) (keys_alike c.loop-noted.self before c.next_due.ensures.same (c.loop-noted.invariant.keys h));
      own = λ t. ap (λ (n : BTreeMap ℕ Notes). own_in t n) same ∙ (c.next_due.ensures.same t ∙ c.loop-noted.invariant.own t);
    }

pub returns-clause-stands : goal.returns-clause-stands
returns-clause-stands c =
    λ h s whole.
    let low : c.args.low ≤ max h.low c.args.low = omega arith in
    let risen : Accesses = record h { low = max h.low c.args.low } in
    stands_alike risen c.loop-noted.self _ (λ q. refl) (λ k. refl) (nothing_left c.loop-noted.self.pool) c.next_due.ensures.same (c.loop-noted.invariant.stands risen (low_rises_to h c.args.self.now c.args.low s) whole low)

pub returns-clause-tidies : goal.returns-clause-tidies
returns-clause-tidies c =
    λ h s whole.
    let low : c.args.low ≤ max h.low c.args.low = omega arith in
    let risen : Accesses = record h { low = max h.low c.args.low } in
    let stood = low_rises_to h c.args.self.now c.args.low s in
    record {
      kept = λ q. rw c.in_default.ensures.none at (c.loop-noted.invariant.kept risen stood whole low q);
      notes = c.in_default.ensures.left ∙ c.loop-noted.invariant.notes;
    }

pub returns-clause-drained : goal.returns-clause-drained
returns-clause-drained c = rw c.in_default.ensures.left (none_left c.args.low c.loop-noted.self.notes.entries)

pub returns-clause-keys : goal.returns-clause-keys
returns-clause-keys c = λ h. keys_stay c.loop-noted.self.notes c.next_due.new.notes c.next_due.ensures.same (c.loop-noted.invariant.keys h)

pub returns-clause-own : goal.returns-clause-own
returns-clause-own c = λ t. c.next_due.ensures.same t ∙ c.loop-noted.invariant.own t
