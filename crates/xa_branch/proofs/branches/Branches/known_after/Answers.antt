use Rattle.std.proofs.Common.{◌≡◌, Some, ◌-◌, ◌+◌, ◌&&◌, Bool, true, false, ap, ◌∙◌, refl, arith}
use Rattle.std.specs.Prelude.{map, take, option_copied}
use Rattle.std.specs.BTreeMap.Range.{is_from_start}
use Rattle.std.specs.Range.Bound.{bound_map}
use Rattle.xa_xid.specs.Triple.{xid_cmp}
use Rattle.xa_branch.specs.Told.{told_working, told_lasting}
use Rattle.xa_branch.proofs.Listing.{few_taken}
use Rattle.xa_branch.proofs.KnownLists.{part_is, all_after, known_same}
use Rattle.xa_branch.proofs.Merging.{Takes, merged_more, merged_all, merged_enough}
use Rattle.xa_branch.proofs.NoRooms.{no_rooms}
use Rattle.xa_branch.proofs.branches.Branches.known_after.Goals as goal
use Rattle.xa_branch.proofs.branches.Branches.known_after.Goals.{else-loop-test, then-loop-test+in_default}

and_true : (b : Bool) → (b && true) ≡ b
and_true true = refl
and_true false = refl

pub loop-init : goal.loop-init
loop-init c =
    let after = option_copied c.args.after in
    let bound = bound_map (λ x. x.now) c.above.result in
    let bound' = bound_map (λ x. x.now) c.above-2.result in
    let working = c.range-working.ensures.between tt ∙ part_is (λ q. is_from_start xid_cmp bound q && true) after (λ q. and_true (is_from_start xid_cmp bound q) ∙ c.above.ensures q) c.args.self.now.working.entries in
    let lasting = c.range-lasting.ensures.between tt ∙ part_is (λ q. is_from_start xid_cmp bound' q && true) after (λ q. and_true (is_from_start xid_cmp bound' q) ∙ c.above-2.ensures q) c.args.self.now.lasting.entries in
    let all : c.args.count - 0 ≡ c.args.count = omega arith in
    rw (c.in_ok-known.ensures.items, working, lasting, all) refl

pub loop-preserved : goal.loop-preserved
loop-preserved c =
    let l = c.loop in
    let t : Takes c.next_working.new.next c.next_lasting.new.next (map told_working c.next_working.new.others) (map told_lasting c.next_lasting.new.others) (Some c.in-Some.first) c.take_first.new.one c.take_first.new.other =
    record { end_one = λ e. ap (map told_working) (c.next_working.ensures.end e); end_other = λ e. ap (map told_lasting) (c.next_lasting.ensures.end e); taken = c.in-Some.ensures } in
    merged_more c.next_working.new.next c.next_lasting.new.next c.take_first.new.one c.take_first.new.other (map told_working c.next_working.new.others) (map told_lasting c.next_lasting.new.others)
    l.known.items c.push.new.self.items c.in-Some.first (c.args.count - l.counter) (c.args.count - (l.counter + 1)) t c.in_ok-push.ensures.items (omega arith)
    ∙ rw (c.next_working.ensures.same, c.next_lasting.ensures.same) l.invariant

-- what the loop leaves
all_taken : (c : goal.Left-loop) → c.loop.known.items ≡ take c.args.count (all_after (option_copied c.args.after) c.args.self.now)
all_taken c =
    let all = take c.args.count (all_after (option_copied c.args.after) c.args.self.now) in
    elim c.loop-test.branch [
      | else-loop-test w ↦ merged_enough c.args.count c.loop.counter c.loop.known.items _ all w.loop-test.false c.loop.invariant
      | then-loop-test+in_default w ↦
          merged_all w.next_working.new.next w.next_lasting.new.next w.take_first.new.one w.take_first.new.other (map told_working w.next_working.new.others) (map told_lasting w.next_lasting.new.others)
          c.loop.known.items all (c.args.count - c.loop.counter)
          (record { end_one = λ e. ap (map told_working) (w.next_working.ensures.end e); end_other = λ e. ap (map told_lasting) (w.next_lasting.ensures.end e); taken = w.in_default.ensures })
          (rw (w.next_working.ensures.same, w.next_lasting.ensures.same) c.loop.invariant)
    ]

pub returns-clause-few : goal.returns-clause-few
returns-clause-few c = few_taken c.loop.known.items (all_after (option_copied c.args.after) c.args.self.now) c.args.count (all_taken c)

pub returns-clause-known : goal.returns-clause-known
returns-clause-known c = λ s h st.
    all_taken c ∙ known_same c.args.self.now s (option_copied c.args.after) c.args.count h st (no_rooms c.args.self.now s h st (c.has_rooms.ensures c.if-has_rooms.false)) c.range-working.ensures.ordered c.range-lasting.ensures.ordered
