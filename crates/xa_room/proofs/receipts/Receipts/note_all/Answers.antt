use Rattle.std.proofs.Common.{ℕ, List, ◌<◌, length, sym, subst, drop_of_length-le}
use Rattle.std.proofs.lemmas.List.Elements.{All-from_recursion, All-get_or}
use Rattle.xa_frame.specs.declared.reply.Reply.{Reply}
use Rattle.std.specs.Prelude.{refl}
use Rattle.xa_room.specs.Keeping.{NotesAll}
use Rattle.xa_room.proofs.Judging.{front}
use Rattle.xa_room.proofs.receipts.Receipts.note_all.Goals as goal

pub note_told-requires : goal.note_told-requires
note_told-requires c =
    let l = c.loop-told in
    let within = All-get_or (λ (r : ℕ × Reply). r.0 < length c.args.calls.now) c.args.replies.now l.told-index c.told-item.result c.loop-told-test.true
    (All-from_recursion (λ (r : ℕ × Reply). r.0 < length c.args.calls.now) c.args.replies.now c.requires) in
    subst (λ (r : ℕ × Reply). r.0 < length c.args.calls.now) (sym c.told-item.is) within

pub loop-told-preserved : goal.loop-told-preserved
loop-told-preserved c = λ new notes.
    let l = c.loop-told in
    let rest = front c.args.replies.now l.told-index c.told-item.result c.loop-told-test.true c.told-item.is in
    l.invariant new (subst (λ (rs : List (ℕ × Reply)). NotesAll c.args.calls.now l.self rs new) (sym rest) (c.note_told.new.self, c.note_told.ensures, notes))

pub returns : goal.returns
returns c =
    let l = c.loop-told in
    l.invariant l.self (subst (λ (rs : List (ℕ × Reply)). NotesAll c.args.calls.now l.self rs l.self)
    (sym (drop_of_length-le c.args.replies.now c.loop-told-test.false)) refl)
