use Rattle.std.proofs.Common.{◌≡◌, ◌≤◌, ◌<◌, ◌^◌, None, true, false, length, refl, ap, sym, ◌∙◌, arith, rules, Some, w32, to_z, of_z}
use Rattle.std.proofs.lemmas.Grind.{common_steps}
use Rattle.std.proofs.lemmas.Bool.Decides.{nat_tests}
use Rattle.mv_chain.specs.declared.fate.Fate.TheVariants.{Committed, RolledBack}
use Rattle.xa_codes.specs.declared.codes.TheConstants.{XA_RBOTHER, XAER_RMERR}
use Rattle.xa_codes.specs.declared.detail.Detail.TheVariants as detail
use Rattle.xa_limits.specs.declared.TheConstants.{MOST_VALUE}
use Rattle.xa_record.specs.Spelling.{spelled}
use Rattle.xa_model.specs.Answer.{plain, detailed}
use Rattle.xa_model.specs.Fold.{is_empty}
use Rattle.xa_model.specs.Logging.{has_room, logs}
use Rattle.xa_model.specs.State.{State}
use Rattle.xa_manager.specs.Rows.{more_of, record_of, unwritten_code, written_left, written_record}
use Rattle.xa_manager.specs.declared.row.Row.TheVariants.{Writes}
use Rattle.xa_manager.specs.Managed.{view, ManagerStandsFor}
use Rattle.xa_manager.specs.Stands.{StandsFor}
use Rattle.xa_manager.proofs.Taking.{tables_up}
use Rattle.xa_manager.proofs.OnePhase.{turn_empty, turn_full, turn_marked, turn_refused, worked_known, told_writes, no_writes, some_writes, has_written, of_row, unwritten, written, written_appends, WasTold, HasRecord}
use Rattle.xa_manager.proofs.WritesWithin.{is_within}
use Rattle.xa_manager.proofs.Plans.{is_record, plans_long, refused_at_once, settled_at_once, unwritten_kept, written_some}
use Rattle.xa_manager.proofs.manager.Manager.plan_written.Given.{Over}
use Rattle.xa_manager.proofs.manager.Manager.plan_written.Goals.{After-has_room}
use Rattle.xa_manager.proofs.manager.Manager.plan_written.Goals as goal

-- what the branch has written is within the limits of a record
pub write-requires : goal.write-requires
write-requires g c =
    let ws = c.in_ok-writes.writes.items in
    let t = c.timestamp-timestamp.result in
    let some : 1 ≤ length ws = grind (arith, nat_tests, c.is_empty.ensures, c.if-is_empty.false) in
    let stamp : t < 2 ^ 64 = omega arith in
    rw c.record-record.ensures (is_record c.args.writing c.copied.result t c.new.result (is_within c.args.xid.now c.copied.result t ws c.new.result c.copied.ensures c.new.ensures c.requires.name stamp some
    c.in_ok-writes.ensures.ascending (c.in_ok-writes.ensures.short MOST_VALUE c.args.self.now.tables.short) (c.in_ok-writes.ensures.keys c.args.self.now.tables.keys)))

pub returns-then-is_empty : goal.returns-then-is_empty
returns-then-is_empty g c =
    let m = c.args.self.now in
    let xid = c.args.xid.now in
    let w = c.args.writing in
    let free : c.unprepared_refusal.result ≡ None = search rules in
    let unmarked : c.mark_of.result ≡ None = search rules in
    let none : length c.in_ok-writes.writes.items ≡ 0 = grind (arith, nat_tests, c.is_empty.ensures, c.if-is_empty.true) in
    rw (c.plain-reply-then-is_empty.ensures, c.unwritten_code.ensures, unwritten_kept w) (
    settled_at_once _ m (Writes w) xid (plain (unwritten_code w)) Committed refl (refl, refl)
    (λ s whole is_up st.
    let passes = sym free ∙ c.unprepared_refusal.ensures.value s st in
    let known = worked_known s xid passes in
    let writes = told_writes (view m) s xid c.timestamp-timestamp.result c.in_ok-writes.writes.items st known (c.timestamp-timestamp.ensures s st.branches) c.in_ok-writes.ensures.writes in
    record {
      turn_is = of_row w s xid _ (turn_empty s xid (unwritten w s xid) (written w s xid) passes (c.mark_of.ensures s st ∙ unmarked) (ap is_empty (sym writes) ∙ no_writes c.in_ok-writes.writes.items none));
      may = known;
    }))

-- ---- the record of what it has written

told : (g : Over) (c : After-has_room g) → WasTold (view c.args.self.now) c.args.xid.now c.timestamp-timestamp.result c.in_ok-writes.writes.items
told g c =
    let free : c.unprepared_refusal.result ≡ None = search rules in
    let unmarked : c.mark_of.result ≡ None = search rules in
    let some : 1 ≤ length c.in_ok-writes.writes.items = grind (arith, nat_tests, c.is_empty.ensures, c.if-is_empty.false) in record {
      name = c.requires.name;
      some = some_writes c.in_ok-writes.writes.items some;
      free = λ s st. sym free ∙ c.unprepared_refusal.ensures.value s st;
      unmarked = λ s st. c.mark_of.ensures s st ∙ unmarked;
      time = λ s st. c.timestamp-timestamp.ensures s st.branches;
      writes = c.in_ok-writes.ensures.writes;
    }

spells : (g : Over) (c : After-has_room g) → c.in_ok-body.body.items ≡ spelled (written_record c.args.writing c.args.xid.now c.timestamp-timestamp.result c.in_ok-writes.writes.items)
spells g c =
    c.in_ok-body.ensures ∙ ap spelled c.record-record.ensures
    ∙ ap (λ x. spelled (written_record c.args.writing x c.timestamp-timestamp.result c.new.result)) c.copied.ensures
    ∙ ap (λ us. spelled (written_record c.args.writing c.args.xid.now c.timestamp-timestamp.result us)) c.new.ensures

long : (g : Over) (c : After-has_room g) → c.len.result ≡ length c.in_ok-body.body.items
long g c = grind (arith, c.len.ensures, c.in_ok-body.body.ok.0)

has : (g : Over) (c : After-has_room g) (s : State) → ManagerStandsFor g.D.Disk c.args.self.now s → c.args.self.now.up ≡ true → StandsFor (view c.args.self.now) s
    → HasRecord s c.args.xid.now (record_of (Writes c.args.writing) c.args.xid.now s) (more_of c.args.writing) c.in_ok-body.body.items c.has_room.result
has g c s whole is_up st =
    has_written (view c.args.self.now) s c.args.writing c.args.xid.now c.timestamp-timestamp.result c.in_ok-writes.writes.items c.len.result c.in_ok-body.body.items c.has_room.result st (told g c) (spells g c) (long g c)
    (λ short. rw (← c.more.ensures) (c.has_room.ensures.room s whole is_up short))

pub returns-then-not-has_room : goal.returns-then-not-has_room
returns-then-not-has_room g c =
    let m = c.args.self.now in
    let xid = c.args.xid.now in
    let w = c.args.writing in
    let full : c.has_room.result ≡ false = search rules in
    rw c.detailed-reply.ensures (
    settled_at_once _ m (Writes w) xid (detailed XA_RBOTHER detail.LogFull) RolledBack refl (refl, refl)
    (λ s whole is_up st.
    let r = record_of (Writes w) xid s in
    let h = has g (goal.at.returns-then-not-has_room g c).After-has_room s whole is_up st in
    record {
      turn_is = of_row w s xid _ (turn_full s xid (unwritten w s xid) (has_room s r (more_of w)) (logs s r XAER_RMERR (written_left w xid s)) h.free h.unmarked h.some (h.room_is ∙ full));
      may = worked_known s xid h.free;
    }))

pub returns : goal.returns
returns g c =
    let m = c.args.self.now in
    let xid = c.args.xid.now in
    let w = c.args.writing in
    let x = (goal.at.returns g c).After-has_room in
    let size = long g x in
    let fits : c.has_room.result ≡ true = search rules in
    plans_long _ m w xid c.long.result c.in_ok-body.body.items c.long.ensures.row c.long.ensures.xid c.long.ensures.body
    (record {
      some = rw (spells g x) (written_some w xid c.timestamp-timestamp.result c.in_ok-writes.writes.items);
      small = rw (c.has_room.ensures.modern fits) (omega (arith, size, c.has_room.ensures.fits fits));
    })
    (λ s whole is_up.
    let h = has g x s whole is_up (tables_up _ m s is_up whole) in
    let there : HasRecord s xid (record_of (Writes w) xid s) (more_of w) c.in_ok-body.body.items true =
    record { free = h.free; unmarked = h.unmarked; some = h.some; body_is = h.body_is; room_is = h.room_is ∙ fits } in
    written_appends w s xid c.in_ok-body.body.items there)

-- ---- what is refused, and what is marked

pub returns-in-Some : goal.returns-in-Some
returns-in-Some g c =
    let xid = c.args.xid.now in
    let w = c.args.writing in
    let refused = c.in-Some.ensures in
    refused_at_once _ c.args.self.now (Writes w) xid c.in-Some.reply refused.served refused.bare
    (λ s st. of_row w s xid _ (turn_refused s xid (unwritten w s xid) (written w s xid) c.in-Some.reply (refused.value s st)))

pub returns-in-Some-mark_of : goal.returns-in-Some-mark_of
returns-in-Some-mark_of g c =
    let xid = c.args.xid.now in
    let w = c.args.writing in
    let code = c.in-Some-mark_of.code in
    let free : c.unprepared_refusal.result ≡ None = search rules in
    let marked : c.mark_of.result ≡ Some code = search rules in
    let kept : to_z w32 (of_z w32 code) ≡ code = first_of (search rules, grind (arith, common_steps)) in
    rw (c.plain-reply.ensures, kept) (
    settled_at_once _ c.args.self.now (Writes w) xid (plain code) RolledBack refl (refl, refl)
    (λ s whole is_up st.
    let passes = sym free ∙ c.unprepared_refusal.ensures.value s st in
    record { turn_is = of_row w s xid _ (turn_marked s xid (unwritten w s xid) (written w s xid) code passes (c.mark_of.ensures s st ∙ marked)); may = worked_known s xid passes }))
