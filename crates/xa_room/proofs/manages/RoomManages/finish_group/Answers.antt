use Rattle.std.proofs.Common.{List, Vec, Global, ℕ, ◌<◌, length, sym, subst}
use Rattle.std.specs.List.{AllByRecursion}
use Rattle.xa_frame.specs.declared.reply.Reply.{Reply}
use Rattle.xa_manager.specs.declared.together.Asked.{Asked}
use Rattle.xa_model.specs.Events.{IsAsked}
use Rattle.xa_room.specs.Keeping.{NotesAll}
use Rattle.xa_room.proofs.Recording.{all_within, together_with}
use Rattle.xa_room.proofs.manages.RoomManages.finish_group.Goals as goal

pub note_all-requires : goal.note_all-requires
note_all-requires g c =
    let done = c.finish_group-replies in
    let within = all_within g.M.Manages.manages g.S.Start.start _ _ done.result.1.items done.result.0.items done.ensures.acts in
    subst (λ (rs : List (ℕ × Reply)). AllByRecursion (λ r. r.0 < length c.deref.result.now) rs) (sym c.deref-2.ensures.value)
    (subst (λ (calls : List Asked). AllByRecursion (λ r. r.0 < length calls) done.result.0.items) (sym c.deref.ensures.value) within)

pub returns-clause-acts : goal.returns-clause-acts
returns-clause-acts g c =
    let done = c.finish_group-replies in
    let asked = subst (λ (v : Vec Asked Global). AllByRecursion (λ c. IsAsked c.request) v.items) (sym done.ensures.calls) c.requires.1 in
    let notes = subst (λ (calls : List Asked). NotesAll calls c.self.inside.receipts done.result.0.items c.note_all.new.self) c.deref.ensures.value
    (subst (λ (rs : List (ℕ × Reply)). NotesAll c.deref.result.now c.self.inside.receipts rs c.note_all.new.self) c.deref-2.ensures.value c.note_all.ensures) in
    together_with g.M.Manages.manages g.S.Start.start c.self.inside.manager done.new.self c.self.inside.receipts c.note_all.new.self c.args.group c.args.self.now
    done.result.1.items done.result.0.items c.self.view_is asked done.ensures.acts notes
