-- The entries of a group that is kept, and of one that is lost.
use Rattle.std.proofs.Common.{◌≡◌, true, false, not, List, [], ◌∷◌, ◌++◌, Some, refl, sym, ap, ◌∙◌, subst}
use Rattle.std.specs.Prelude.{map}
use Rattle.std.specs.List.{AllByRecursion}
use Rattle.std.proofs.lemmas.List.{append-nil, append_assoc}
use Rattle.xa_frame.specs.declared.request.Request.{Request}
use Rattle.xa_frame.specs.declared.request.Request.TheVariants.{Restart, Trim}
use Rattle.xa_record.specs.declared.record.Record.{Record}
use Rattle.xa_xid.specs.Triple.{Triple, xid_eq}
use Rattle.xa_model.specs.declared.event.Event.{Event}
use Rattle.xa_model.specs.declared.event.Event.TheVariants as event
use Rattle.xa_model.specs.declared.outcome.Appending.{Appending}
use Rattle.xa_model.specs.declared.outcome.Appending.TheVariants.{Kept, Lost}
use Rattle.xa_model.specs.declared.outcome.Outcome.TheVariants.{Appended, Joined}
use Rattle.xa_model.specs.State.{State, Up, Down}
use Rattle.xa_model.specs.Answer.{Answer, ok}
use Rattle.xa_model.specs.Events.{asks_boot}
use Rattle.xa_model.specs.History.{Leads}
use Rattle.xa_model.specs.Logging.{applied, applied_all, down, lost, supposed, ends_in_group, is_boot}
use Rattle.xa_model.specs.Step.{turn, step, respond}
use Rattle.xa_model.specs.Turn.{Asked, Turn, Appends, taken}
use Rattle.xa_model.specs.Invariants.Loggable.{IsRecoverable, MayBeLast, MayFollow}
use Rattle.xa_model.specs.Laws.Logging.{LogsWhatLasts}
use Rattle.xa_model.specs.Laws.Together.{xid_of, IsSameFor, has_room_for, has_room_after, Part, AppendsOf, AreApart, HaveRoom, entry_of, records_of, KeptTogether, LostTogether}
use Rattle.xa_model.proofs.AppliedAll.{AreOfGroup, applied_standing, all_append, all_beside, beside, beside_itself, follow_more, group_more}
use Rattle.xa_model.proofs.Further.{joins_each, turns_up}
use Rattle.xa_model.proofs.LastLogged.{LogsLast}
use Rattle.xa_model.proofs.LoggedEvents.{events_log_what_lasts}
use Rattle.xa_model.proofs.Recoveries.{keeps_recoverable, turn_logs_last}
use Rattle.xa_model.proofs.RoomTogether.{room_where_kept}
use Rattle.xa_model.proofs.Together.{leaves_others, appends_the_same, finds_same}

abbrev pub asked_by : Part → Event
asked_by p = event.Call p.session p.request

pub same_then : (xid : Triple) (s t u : State) → IsSameFor xid s t → IsSameFor xid t u → IsSameFor xid s u
same_then xid s t u h k = record {
  known = k.known ∙ h.known;
  decided = k.decided ∙ h.decided;
  associated = k.associated ∙ h.associated;
  sessions = k.sessions ∙ h.sessions;
  name = k.name ∙ h.name;
  moment = k.moment ∙ h.moment;
  standing = k.standing ∙ h.standing;
}

pub begins_none : (request : Request) (xid : Triple) → xid_of request ≡ Some xid → asks_boot request ≡ false
begins_none Restart xid e = absurd (cc e)
begins_none Trim xid e = absurd (cc e)
begins_none request xid e = refl

-- some of the group's records were kept, and the rest of its calls find what they found before
pub record Walk (s w : State) (rs : List Record) (ps : List Part) : Type 0 where
  pub is : w ≡ applied_all rs s
  pub recovers : IsRecoverable w
  pub up : w.standing ≡ Up
  pub follow : MayFollow s rs
  pub group : AreOfGroup rs
  pub same : AllByRecursion (λ (p : Part). IsSameFor p.xid s w) ps

-- what the next call's turn is
pub record AppendsNow (w : State) (p : Part) : Type 0 where
  pub after : Appending → Answer
  pub appends : turn w (Asked (asked_by p)) ≡ Appends p.appended after
  pub kept : after Kept ≡ ok (applied p.appended w)
  pub loses : after Lost ≡ lost w p.appended
  pub last : MayBeLast w p.appended
  pub of_group : is_boot p.appended ≡ false

pub next_turn : (s w : State) (rs : List Record) (p : Part) (ps : List Part) → s.standing ≡ Up → Walk s w rs (p ∷ ps) → AppendsOf s p
    → has_room_after rs s p.appended ≡ true → AppendsNow w p
next_turn s w rs p ps up walk a room =
    let there : has_room_for w p.appended ≡ true
    = subst (λ (t : State). has_room_for t p.appended ≡ true) (sym walk.is) (room_where_kept s rs p.appended walk.follow walk.group room) in
    let (again, is) = appends_the_same s w p.session p.request p.xid p.appended a.after a.of_xid (finds_same p.session p.xid s w walk.same.0) up a.appends there in
    let here : respond w (asked_by p) ≡ Appends p.appended again = sym (turns_up w (asked_by p) walk.up) ∙ is in
    let l : LogsWhatLasts w (Appends p.appended again)
    = subst (LogsWhatLasts w) here (events_log_what_lasts w (asked_by p) walk.recovers.sound (begins_none p.request p.xid a.of_xid)) in
    let k : LogsLast w (Appends p.appended again) = subst (LogsLast w) is (turn_logs_last w (Asked (asked_by p)) a.event walk.recovers) in
    record { after = again; appends = is; kept = l.1; loses = l.3; last = k.0; of_group = k.1 }

all_same : (s w : State) (p : Part) (qs : List Part) → w.standing ≡ Up → AppendsOf s p → AppendsNow w p
    → AllByRecursion (λ (q : Part). IsSameFor q.xid s w) qs → AllByRecursion (λ (q : Part). xid_eq p.xid q.xid ≡ false) qs
    → AllByRecursion (λ (q : Part). IsSameFor q.xid s (applied p.appended w)) qs
all_same s w p [] up a t same apart = tt
all_same s w p (q ∷ qs) up a t same apart = (
  same_then q.xid s w (applied p.appended w) same.0
      (leaves_others w p.session p.request p.xid q.xid p.appended t.after a.of_xid apart.0 up t.appends).1,
  all_same s w p qs up a t same.1 apart.1,
)

pub next_walk : (s w : State) (rs : List Record) (p : Part) (ps : List Part) → Walk s w rs (p ∷ ps) → AppendsOf s p → AppendsNow w p
    → AllByRecursion (λ (q : Part). xid_eq p.xid q.xid ≡ false) ps → Walk s (applied p.appended w) (rs ++ p.appended ∷ []) ps
next_walk s w rs p ps walk a t apart =
    let steps : step w (Asked (asked_by p)) (Appended Kept) ≡ Some (ok (applied p.appended w))
    = ap (λ (u : Turn). taken u (Appended Kept)) t.appends ∙ ap Some t.kept in
    record {
      is = ap (applied p.appended) walk.is ∙ sym (all_append rs p.appended s);
      recovers = keeps_recoverable w (Asked (asked_by p)) (Appended Kept) (ok (applied p.appended w)) a.event walk.recovers steps;
      up = applied_standing w p.appended ∙ walk.up;
      follow = follow_more rs p.appended s walk.follow (subst (λ (u : State). MayBeLast u p.appended) walk.is t.last);
      group = group_more rs p.appended walk.group t.of_group;
      same = all_same s w p ps walk.up a t walk.same.1 apart;
    }

pub all_itself : (s : State) (ps : List Part) → AllByRecursion (λ (p : Part). IsSameFor p.xid s s) ps
all_itself s [] = tt
all_itself s (p ∷ ps) = (
  record { known = refl; decided = refl; associated = refl; sessions = refl; name = refl; moment = refl; standing = refl },
  all_itself s ps,
)

pub begins : (s : State) (ps : List Part) → IsRecoverable s → s.standing ≡ Up → Walk s s [] ps
begins s ps h up = record { is = refl; recovers = h; up = up; follow = tt; group = tt; same = all_itself s ps }

-- kept

kept_rest : (s w : State) (rs : List Record) (ps : List Part) → s.standing ≡ Up → Walk s w rs ps → AllByRecursion (AppendsOf s) ps → AreApart ps
    → HaveRoom s rs ps → Leads w (map (entry_of (Joined Kept) Kept) ps) (applied_all (records_of ps) w)
kept_rest s w rs [] up walk appends apart room = refl
kept_rest s w rs (p ∷ ps) up walk appends apart room =
    let t = next_turn s w rs p ps up walk appends.0 room.0 in (
      applied p.appended w,
      ap (λ (u : Turn). taken u (Joined Kept)) t.appends ∙ ap Some t.kept,
      kept_rest s (applied p.appended w) (rs ++ p.appended ∷ []) ps up (next_walk s w rs p ps walk appends.0 t apart.0) appends.1 apart.1 room.1,
    )

pub kept_together : KeptTogether
kept_together s p ps h up m =
    let walk = begins s (p ∷ ps) h up in
    let t = next_turn s s [] p ps up walk m.appends.0 m.room.0 in (
      applied p.appended s,
      ap (λ (u : Turn). taken u (Appended Kept)) t.appends ∙ ap Some t.kept,
      kept_rest s (applied p.appended s) (p.appended ∷ []) ps up (next_walk s s [] p ps walk m.appends.0 t m.apart.0) m.appends.1 m.apart.1 m.room.1,
    )

-- lost

takes : (r : Record) (rs : List Record) → AreOfGroup (r ∷ rs) → ends_in_group r rs ≡ true
takes r [] group = ap not group.0
takes r (q ∷ rs) group = takes q rs group.1

abbrev lost_with : State → List Record → State
lost_with s rs = record (down s) { open_records = rs }

-- what it would have come to is where the walk is
supposed_is : (s w : State) (rs : List Record) (ps : List Part) → Walk s w rs ps → supposed (lost_with s rs) ≡ w
supposed_is s w rs ps walk =
    ap (λ (t : State). beside t Up []) (all_beside rs s Down rs ∙ ap (λ (t : State). beside t Down rs) (sym walk.is))
    ∙ beside_itself w Up [] walk.up (walk.recovers.settled walk.up)

lost_rest : (s w : State) (r : Record) (rs : List Record) (ps : List Part) → s.standing ≡ Up → Walk s w (r ∷ rs) ps → AllByRecursion (AppendsOf s) ps
    → AreApart ps → HaveRoom s (r ∷ rs) ps
    → Leads (lost_with s (r ∷ rs)) (map (entry_of (Joined Lost) Lost) ps) (lost_with s ((r ∷ rs) ++ records_of ps))
lost_rest s w r rs [] up walk appends apart room = ap (lost_with s) (append-nil (r ∷ rs))
lost_rest s w r rs (p ∷ ps) up walk appends apart room =
    let u = lost_with s (r ∷ rs) in
    let t = next_turn s w (r ∷ rs) p ps up walk appends.0 room.0 in
    let supposes : turn (supposed u) (Asked (asked_by p)) ≡ Appends p.appended t.after
    = subst (λ (x : State). turn x (Asked (asked_by p)) ≡ Appends p.appended t.after) (sym (supposed_is s w (r ∷ rs) (p ∷ ps) walk)) t.appends in
    let joins = joins_each u (asked_by p) p.appended t.after refl (takes r rs walk.group) supposes in
    let rest = lost_rest s (applied p.appended w) r (rs ++ p.appended ∷ []) ps up (next_walk s w (r ∷ rs) p ps walk appends.0 t apart.0) appends.1 apart.1
    room.1 in (
      lost_with s ((r ∷ rs) ++ p.appended ∷ []),
      ap (λ (x : Turn). taken x (Joined Lost)) joins,
      subst
          (λ (l : List Record).
          Leads (lost_with s ((r ∷ rs) ++ p.appended ∷ [])) (map (entry_of (Joined Lost) Lost) ps) (lost_with s l))
          (append_assoc (r ∷ rs) (p.appended ∷ []) (records_of ps)) rest,
    )

pub lost_together : LostTogether
lost_together s p ps h up m =
    let walk = begins s (p ∷ ps) h up in
    let t = next_turn s s [] p ps up walk m.appends.0 m.room.0 in (
      lost_with s (p.appended ∷ []),
      ap (λ (u : Turn). taken u (Appended Lost)) t.appends ∙ ap Some t.loses,
      lost_rest s (applied p.appended s) p.appended [] ps up (next_walk s s [] p ps walk m.appends.0 t m.apart.0) m.appends.1 m.apart.1 m.room.1,
    )
