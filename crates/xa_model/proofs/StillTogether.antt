-- Calls that may stand together may still, after one on another XID was answered at once.
use Rattle.std.proofs.Common.{◌≡◌, ℕ, ◌+◌, Bool, false, List, [], ◌∷◌, ◌++◌, length, refl, sym, ap, ◌∙◌, subst}
use Rattle.std.specs.List.{AllByRecursion}
use Rattle.xa_record.specs.declared.record.Record.{Record}
use Rattle.xa_record.specs.declared.record.Record.TheVariants as logged
use Rattle.xa_xid.specs.Triple.{xid_eq}
use Rattle.xa_model.specs.declared.event.Event.TheVariants as event
use Rattle.xa_model.specs.State.{State, Up, count}
use Rattle.xa_model.specs.Durable.{Durable}
use Rattle.xa_model.specs.Fold.{size_of, sizes}
use Rattle.xa_model.specs.Logging.{log_room, prepared_count}
use Rattle.xa_model.specs.Turn.{Now}
use Rattle.xa_model.specs.Laws.Logging.{KeepsLog, LogsWhatLasts}
use Rattle.xa_model.specs.Laws.Together.{FindsSame, is_preparing, has_room_after, Part, AppendsOf, HaveRoom, StillTogether}
use Rattle.xa_model.proofs.Further.{turns_up}
use Rattle.xa_model.proofs.GroupSteps.{begins_none}
use Rattle.xa_model.proofs.LoggedEvents.{events_log_what_lasts}
use Rattle.xa_model.proofs.Rooms.{prepared_lasting, decided_lasting}
use Rattle.xa_model.proofs.RoomTogether.{room_where_refused}
use Rattle.xa_model.proofs.Together.{appends_the_same, at_once_leaves, finds_same}

-- the same room

by_parts : (f : ℕ → ℕ → ℕ → ℕ → Bool) (a b c d k l m n : ℕ) → k ≡ a → l ≡ b → m ≡ c → n ≡ d → f k l m n ≡ f a b c d
by_parts f a b c d k l m n e g h i =
    ap (λ (x : ℕ). f x l m n) e ∙ ap (λ (x : ℕ). f a x m n) g ∙ ap (λ (x : ℕ). f a b x n) h ∙ ap (λ (x : ℕ). f a b c x) i

same_room : (s t : State) (before : List Record) (r : Record) → t.log_bytes ≡ s.log_bytes → t.end ≡ s.end → prepared_count t ≡ prepared_count s
    → length t.decided ≡ length s.decided → has_room_after before t r ≡ has_room_after before s r
same_room s t before (logged.Prepared x u ws) bytes end prepared decided =
    by_parts (λ k l m n. log_room k (l + sizes before + size_of (logged.Prepared x u ws)) (m + count is_preparing before + 1) n) s.log_bytes s.end
    (prepared_count s) (length s.decided) t.log_bytes t.end (prepared_count t) (length t.decided) bytes end prepared decided
same_room s t before (logged.Committed x u ws) bytes end prepared decided =
    by_parts (λ k l m n. log_room k (l + sizes before + size_of (logged.Committed x u ws)) (m + count is_preparing before) n) s.log_bytes s.end
    (prepared_count s) (length s.decided) t.log_bytes t.end (prepared_count t) (length t.decided) bytes end prepared decided
same_room s t before r bytes end prepared decided = refl

module _ (s t : State) (bytes : t.log_bytes ≡ s.log_bytes) (keeps : KeepsLog s t) where
  as_many_prepared : prepared_count t ≡ prepared_count s
  as_many_prepared = sym (prepared_lasting t) ∙ ap (λ (d : Durable). length d.prepared) keeps.lasts ∙ prepared_lasting s

  as_many_decided : length t.decided ≡ length s.decided
  as_many_decided = sym (decided_lasting t) ∙ ap (λ (d : Durable). length d.decided) keeps.lasts ∙ decided_lasting s

  pub rooms_still : (before : List Record) (ps : List Part) → HaveRoom s before ps → HaveRoom t before ps
  rooms_still before [] room = tt
  rooms_still before (p ∷ ps) room =
      (same_room s t before p.appended bytes keeps.end as_many_prepared as_many_decided ∙ room.0, rooms_still (before ++ p.appended ∷ []) ps room.1)

  pub appends_still : (before : List Record) (ps : List Part) → s.standing ≡ Up → AllByRecursion (λ (p : Part). FindsSame p.session p.xid s t) ps
      → AllByRecursion (AppendsOf s) ps → HaveRoom s before ps → AllByRecursion (AppendsOf t) ps
  appends_still before [] up same appends room = tt
  appends_still before (p ∷ ps) up same appends room =
      let a = appends.0 in
      let there = room_where_refused s t before p.appended bytes keeps.end keeps.lasts room.0 in
      let (again, is) = appends_the_same s t p.session p.request p.xid p.appended a.after a.of_xid same.0 up a.appends there in (
        record { of_xid = a.of_xid; event = a.event; after = again; appends = is },
        appends_still (before ++ p.appended ∷ []) ps up same.1 appends.1 room.1,
      )

pub still_together : StillTogether
still_together s n request xid a p ps h up e apart now m =
    let bytes = (at_once_leaves s n request xid p.xid a e apart.0 up now).1 in
    let logs : LogsWhatLasts s (Now a)
    = subst (LogsWhatLasts s) (sym (turns_up s (event.Call n request) up) ∙ now)
    (events_log_what_lasts s (event.Call n request) h (begins_none request xid e)) in
    record {
      appends = appends_still s a.after bytes logs [] (p ∷ ps) up (all_same (p ∷ ps) apart) m.appends m.room;
      apart = m.apart;
      room = rooms_still s a.after bytes logs [] (p ∷ ps) m.room;
    }
  where
    all_same : (qs : List Part) → AllByRecursion (λ (q : Part). xid_eq xid q.xid ≡ false) qs
        → AllByRecursion (λ (q : Part). FindsSame q.session q.xid s a.after) qs
    all_same [] others = tt
    all_same (q ∷ qs) others =
        (finds_same q.session q.xid s a.after (at_once_leaves s n request xid q.xid a e others.0 up now).0, all_same qs others.1)
