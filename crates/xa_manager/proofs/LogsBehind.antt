-- The log that backs a state, by the state that the log itself is in.
use Rattle.std.proofs.Common.{◌≡◌, ⊎_elim, inl, inr, ℕ, zero, suc, ◌≤◌, true, false, List, [], ◌∷◌, ◌++◌, map, length, take, refl, ap, sym, ◌∙◌, subst, arith}
use Rattle.std.proofs.lemmas.List.{map-append, length-map, take-map}
use Rattle.std.specs.List.{AllByRecursion}
use Rattle.xa_disk.specs.declared.disk.Disk.{Ghosts}
use Rattle.xa_record.specs.Spelling.{spelled}
use Rattle.xa_record.specs.declared.record.Record.{Record}
use Rattle.xa_record.specs.declared.record.Record.TheVariants as logged
use Rattle.xa_log.specs.Believed.LogStates.{LogState, Whole, LostAppend, LostCheckpoint, KeepsAll, LostTears, IsCalmBeside}
use Rattle.xa_log.specs.Believed.TwoFiles.{HasOther, MayStandPair, MaySeal}
use Rattle.xa_log.specs.Believed.LogView.{LogView}
use Rattle.xa_log.specs.Believed.Group.{HasFirstPart}
use Rattle.xa_log.proofs.States.{whole_of, beside_by}
use Rattle.xa_model.specs.State.{State}
use Rattle.xa_model.specs.Durable.{Durable, durable}
use Rattle.xa_model.specs.Fold.{snapshot}
use Rattle.xa_model.specs.Logging.{applied}
use Rattle.xa_model.specs.Invariants.Backing.{Backs, settled, settled_first}
use Rattle.xa_model.proofs.Booted.{settles_group}
use Rattle.xa_model.specs.Invariants.Loggable.{is_boot, AreOneGroup}
use Rattle.xa_manager.specs.Believed.LogStands.{Trusts, HasRecords, LogBacks, IsSettled, AreLostAs, LogStandsFor, snapshot_bodies}

-- ---- the records that settle the fates

settled_same : (rs : List Record) (s t : State) (r : Record) → durable t ≡ durable s → settled rs t r ≡ settled rs s r
settled_same rs s t (logged.Opened boot) e = ap (λ (d : Durable). snapshot d boot) e
settled_same rs s t (logged.Prepared xid ts ws) e = refl
settled_same rs s t (logged.Committed xid ts ws) e = refl
settled_same rs s t (logged.Completed xid direction) e = refl
settled_same rs s t (logged.Decided xid direction) e = refl
settled_same rs s t (logged.Forgotten xid) e = refl
settled_same rs s t (logged.Base ts ws) e = refl
settled_same rs s t (logged.Held xid ts ws) e = refl
settled_same rs s t (logged.Known xid direction) e = refl

none_more : (k : ℕ) (rs : List Record) (s : State) → settled_first k [] rs s ≡ rs
none_more zero rs s = refl
none_more (suc k) rs s = refl

-- a boot's record is lost by itself, and the others stand after the records whatever else the state has
first_same : (k : ℕ) (lost rs : List Record) (s t : State) → AreOneGroup lost → durable t ≡ durable s → settled_first k lost rs t ≡ settled_first k lost rs s
first_same k lost rs s t (inl others) e = settles_group k lost rs t others ∙ sym (settles_group k lost rs s others)
first_same k [] rs s t (inr one) e = none_more k rs t ∙ sym (none_more k rs s)
first_same zero (r ∷ []) rs s t (inr one) e = refl
first_same (suc k) (r ∷ []) rs s t (inr one) e =
    none_more k (settled rs t r) (applied r t) ∙ (settled_same rs s t r e ∙ sym (none_more k (settled rs s r) (applied r s)))
first_same k (r ∷ q ∷ lost) rs s t (inr one) e = absurd (omega (arith, one))

settles_same : (rs : List Record) (s t : State) (found : List (List ℕ)) → AreOneGroup s.open_records → durable t ≡ durable s → t.open_records ≡ s.open_records
    → IsSettled rs s found → IsSettled rs t found
settles_same rs s t found group e o (k, few, is) = (
  k,
  subst (λ (lost : List Record). k ≤ length lost) (sym o) few,
  is ∙ ap (λ (us : List Record). map spelled us)
      (sym (first_same k s.open_records rs s t group e) ∙ ap (λ (lost : List Record). settled_first k lost rs t) (sym o)),
)

settles_none : (rs : List Record) (s : State) (found : List (List ℕ)) → s.open_records ≡ [] → IsSettled rs s found → found ≡ map spelled rs
settles_none rs s found none (k, few, is) =
    is ∙ ap (λ (us : List Record). map spelled us) (ap (λ (lost : List Record). settled_first k lost rs s) none ∙ none_more k rs s)

-- some first part of a group that was lost
settles_part : (rs lost : List Record) (s : State) (found : List (List ℕ)) → s.open_records ≡ lost → AllByRecursion (λ (r : Record). is_boot r ≡ false) lost
    → HasFirstPart (map spelled rs) (map spelled lost) found → IsSettled rs s found
settles_part rs lost s found open_is others part =
    let many = part.many in
    let settles : settled_first many s.open_records rs s ≡ rs ++ take many lost = ap (λ (l : List Record). settled_first many l rs s) open_is ∙ settles_group many lost rs s others in (
      many,
      subst (λ (l : List Record). many ≤ length l) (sym open_is) (omega (arith, part.within, length-map lost spelled)),
      part.is ∙ (ap (λ (l : List (List ℕ)). map spelled rs ++ l) (take-map spelled many lost) ∙ (sym (map-append spelled rs (take many lost)) ∙ ap (λ (us : List Record). map spelled us) (sym settles))),
    )

-- ---- whatever the files hold

-- a log of the same generation
pub still_backed : {D : Type 0} (log log' : LogView D) (s : State) → log'.generation ≡ log.generation → LogBacks log s → LogBacks log' s
still_backed log log' s same b = record { records = b.records; backs = b.backs; number = same ∙ b.number }

-- a state that the same records back
pub backed_alike : {D : Type 0} (log : LogView D) (s t : State) → ((rs : List Record) → Backs rs s → Backs rs t) → LogBacks log s → LogBacks log t
backed_alike log s t backs b = record { records = b.records; backs = backs b.records b.backs; number = b.number }

-- ---- under the premises on a type of disks

pub lost_trusted : {D : Type 0} (disks : Ghosts D) → Trusts disks → (state : LogState) → LostTears disks.tears state
lost_trusted disks t (Whole bodies stood) = tt
lost_trusted disks t (LostAppend bodies group stood) = t.appends group
lost_trusted disks t (LostCheckpoint bodies fresh) = tt

pub calm_trusted : {D : Type 0} (disks : Ghosts D) → Trusts disks → (state : LogState) (log : LogView D) → IsCalmBeside disks state log
calm_trusted disks t state log = inl (beside_by disks.tears t.headers t.seals state)

-- ---- what the log stands for

module _ {D : Type 0} (disks : Ghosts D) where
  -- where no record was lost the log has the records
  pub only_records : (log : LogView D) (s : State) → s.open_records ≡ [] → (l : LogStandsFor disks log s) → HasRecords disks l.records log
  only_records log s none l =
      let it = whole_of disks log l.state l.is_in (map spelled l.records) (λ found may. settles_none l.records s found none (l.finds found may)) in
      (it.0, it.1, l.beside)

  pub stands_whole : (log : LogView D) (s : State) (rs : List Record) → Backs rs s → HasRecords disks rs log → LogStandsFor disks log s
  stands_whole log s rs backs (stood, p, beside) = record {
    records = rs;
    backs = backs;
    state = Whole (map spelled rs) stood;
    is_in = p;
    finds = λ found is. (0, omega arith, is);
    lost_as = tt;
    beside = beside;
  }

  -- the records that were lost are no boot's
  pub stands_append : (log : LogView D) (s : State) (rs lost : List Record) (stood : List (List ℕ)) → Backs rs s → s.open_records ≡ lost
      → AllByRecursion (λ (r : Record). is_boot r ≡ false) lost
      → MayStandPair disks (map spelled rs) (map spelled lost) stood log → HasOther disks log → LogStandsFor disks log s
  stands_append log s rs lost stood backs open_is others p beside = record {
    records = rs;
    backs = backs;
    state = LostAppend (map spelled rs) (map spelled lost) stood;
    is_in = p;
    finds = λ found may. settles_part rs lost s found open_is others may;
    lost_as = subst (λ (l : List Record). AllByRecursion (λ (r : Record). is_boot r ≡ false) l) (sym open_is) others;
    beside = beside;
  }

  -- it is a boot's, whose snapshot was to be the log
  pub stands_seal : (log : LogView D) (s : State) (rs : List Record) (boot : ℕ) → Backs rs s → s.open_records ≡ logged.Opened boot ∷ []
      → MaySeal disks (map spelled rs) (snapshot_bodies s boot) log → HasOther disks log → LogStandsFor disks log s
  stands_seal log s rs boot backs open_is p beside = record {
    records = rs;
    backs = backs;
    state = LostCheckpoint (map spelled rs) (snapshot_bodies s boot);
    is_in = p;
    finds = λ found may. ⊎_elim (λ is. (0, omega arith, is))
        (λ is. (
          1,
          subst (λ (l : List Record). 1 ≤ length l) (sym open_is) (omega arith),
          is ∙ ap (λ (l : List Record). map spelled (settled_first 1 l rs s)) (sym open_is),
        )) may;
    lost_as = subst (λ (l : List Record). AllByRecursion (λ (r : Record). is_boot r ≡ true) l) (sym open_is) (refl, tt);
    beside = beside;
  }

  -- a state from which the same lasts
  pub stands_alike : (log : LogView D) (s t : State) → AreOneGroup s.open_records → durable t ≡ durable s → t.open_records ≡ s.open_records → ((rs : List Record) → Backs rs s → Backs rs t)
      → LogStandsFor disks log s → LogStandsFor disks log t
  stands_alike log s t group lasts open_is backs l = record {
    records = l.records;
    backs = backs l.records l.backs;
    state = l.state;
    is_in = l.is_in;
    finds = λ found may. settles_same l.records s t found group lasts open_is (l.finds found may);
    lost_as = subst (λ (lost : List Record). AreLostAs l.state lost) (sym open_is) l.lost_as;
    beside = l.beside;
  }

  -- a log that is in whichever state it was in
  pub stands_kept : (log log' : LogView D) (s : State) → KeepsAll disks log log' → LogStandsFor disks log s → LogStandsFor disks log' s
  stands_kept log log' s kept l = record {
    records = l.records;
    backs = l.backs;
    state = l.state;
    is_in = kept.state l.state l.is_in;
    finds = l.finds;
    lost_as = l.lost_as;
    beside = kept.other l.beside;
  }
