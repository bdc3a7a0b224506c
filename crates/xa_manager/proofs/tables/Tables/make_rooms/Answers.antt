use Rattle.std.proofs.Common.{◌<◌, ◌++◌, ◌∷◌, ◌∙◌, List, [], length, take, ap, sym, subst, arith}
use Rattle.std.proofs.lemmas.List.{take_more}
use Rattle.xa_xid.specs.Triple.{Triple}
use Rattle.xa_branch.specs.Room.{IsApart}
use Rattle.xa_manager.specs.Stands.{StandsWithRooms}
use Rattle.xa_manager.specs.View.{view_of}
use Rattle.xa_manager.proofs.Distinct.{apart_before, distinct_first}
use Rattle.xa_manager.proofs.tables.Tables.make_rooms.Goals as goal

pub rooms-preserved : goal.rooms-preserved
rooms-preserved c = record {
  made = λ s distinct st.
      let xids = c.args.xids.now in
      let i = c.rooms.made in
      let x = c.index-xids-made.result in
      let less : i < length xids = omega (arith, c.rooms-test.true) in
      let apart : IsApart x (take i xids) = subst (λ (q : Triple). IsApart q (take i xids)) (sym c.index-xids-made.is) (apart_before x xids i less distinct) in
      let more : StandsWithRooms (take i xids ++ x ∷ []) (view_of c.make_room.new.self) s = c.in-Ok.ensures.after (take i xids) s apart (c.rooms.invariant.made s distinct st) in
      subst (λ (l : List Triple). StandsWithRooms l (view_of c.make_room.new.self) s)
      (sym (take_more xids i x less ∙ ap (λ (q : Triple). take i xids ++ q ∷ []) (sym c.index-xids-made.is))) more;
  company = c.make_room.ensures.company ∙ c.rooms.invariant.company;
}

-- where one found no memory, those before it give theirs back
pub returns-in_default-clause-err : goal.returns-in_default-clause-err
returns-in_default-clause-err c = λ s distinct st.
    let xids = c.args.xids.now in
    let i = c.rooms.made in
    c.give_rooms_back.ensures.given s (distinct_first xids i distinct) (c.in_default.ensures.rooms (take i xids) s (c.rooms.invariant.made s distinct st))
