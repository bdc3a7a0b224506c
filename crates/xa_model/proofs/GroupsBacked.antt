-- The log's records go on with a group, whatever becomes of it.
use Rattle.std.proofs.Common.{◌≡◌, List, [], ◌∷◌, ◌++◌, sym, subst}
use Rattle.std.specs.List.{AllByRecursion}
use Rattle.std.proofs.lemmas.List.{append-nil, append_assoc}
use Rattle.xa_record.specs.declared.record.Record.{Record}
use Rattle.xa_model.specs.State.{State, Up}
use Rattle.xa_model.specs.Answer.{Answer}
use Rattle.xa_model.specs.Logging.{applied, applied_all, down}
use Rattle.xa_model.specs.Turn.{Asked, Appends}
use Rattle.xa_model.specs.Invariants.Backing.{Backs, BacksTurn}
use Rattle.xa_model.specs.Laws.Together.{Part, AppendsOf, AreApart, HaveRoom, left_by, left_by_all, records_of, BacksTogether}
use Rattle.xa_model.proofs.Appended.{appended_backed}
use Rattle.xa_model.proofs.GroupSteps.{Walk, asked_by, begins, next_turn, next_walk}
use Rattle.xa_model.proofs.LogBehind.{keeps_backed}
use Rattle.xa_model.proofs.LoggedOrder.{logs_on}
use Rattle.xa_model.proofs.RefusedSteps as refusing

kept_backed : (ls : List Record) (s w : State) (rs : List Record) (ps : List Part) → s.standing ≡ Up → Walk s w rs ps
    → AllByRecursion (AppendsOf s) ps → AreApart ps → HaveRoom s rs ps → Backs ls w → Backs (ls ++ records_of ps) (applied_all (records_of ps) w)
kept_backed ls s w rs [] up walk appends apart room k = subst (λ (l : List Record). Backs l w) (sym (append-nil ls)) k
kept_backed ls s w rs (p ∷ ps) up walk appends apart room k =
    let t = next_turn s w rs p ps up walk appends.0 room.0 in
    let next = applied p.appended w in
    let one : Backs (ls ++ p.appended ∷ []) next = appended_backed ls w p.appended (logs_on w walk.recovers) k t.last t.of_group in
    subst (λ (l : List Record). Backs l (applied_all (records_of ps) next)) (append_assoc ls (p.appended ∷ []) (records_of ps))
    (kept_backed (ls ++ p.appended ∷ []) s next (rs ++ p.appended ∷ []) ps up (next_walk s w rs p ps walk appends.0 t apart.0) appends.1 apart.1
    room.1 one)

refused_backed : (ls : List Record) (s w : State) (rs : List Record) (ps : List Part) → s.standing ≡ Up → refusing.Walk s w ps
    → AllByRecursion (AppendsOf s) ps → AreApart ps → HaveRoom s rs ps → Backs ls w → Backs ls (left_by_all ps w)
refused_backed ls s w rs [] up walk appends apart room k = k
refused_backed ls s w rs (p ∷ ps) up walk appends apart room k =
    let t = refusing.next_turn s w rs p ps up walk appends.0 room.0 in
    let turns : BacksTurn ls w (Appends p.appended t.after)
    = subst (BacksTurn ls w) t.appends (keeps_backed ls w (Asked (asked_by p)) appends.0.event walk.recovers k) in
    let one : Backs ls (left_by p.request w) = subst (λ (b : Answer). Backs ls b.after) t.refuses turns.1 in
    refused_backed ls s (left_by p.request w) (rs ++ p.appended ∷ []) ps up (refusing.next_walk s w p ps walk appends.0 t apart.0) appends.1
    apart.1 room.1 one

lost_backed : (ls : List Record) (s : State) (lost : List Record) → Backs ls s → Backs ls (record (down s) { open_records = lost })
lost_backed ls s lost k = record {
  records = k.records;
  lasts = k.lasts;
  end = k.end;
  new = λ current. let new = k.new current in record { given = new.given; unused = new.unused };
}

pub backs_together : BacksTogether
backs_together ls s p ps h up m k = (
  kept_backed ls s s [] (p ∷ ps) up (begins s (p ∷ ps) h up) m.appends m.apart m.room k,
  refused_backed ls s s [] (p ∷ ps) up (refusing.begins s (p ∷ ps) h) m.appends m.apart m.room k,
  lost_backed ls s (records_of (p ∷ ps)) k,
)
