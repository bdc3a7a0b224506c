-- The log that backs a state, once it was read again.
use Rattle.std.proofs.Common.{◌≡◌, ◌+◌, ℕ, List, [], ◌∷◌, map, length, refl, ap, sym, ◌∙◌, subst, arith}
use Rattle.std.proofs.lemmas.List.{length-append}
use Rattle.xa_disk.specs.declared.disk.Disk.{Ghosts}
use Rattle.xa_record.specs.Spelling.{spelled}
use Rattle.xa_record.specs.declared.record.Record.{Record}
use Rattle.xa_log.specs.declared.format.Format.{Format}
use Rattle.xa_log.specs.Believed.LogView.{LogView}
use Rattle.xa_log.specs.Believed.Chain.{start, text, records, digest, record_of}
use Rattle.xa_log.specs.Believed.LogStates.{LogState, Whole, IsIn, MayFind}
use Rattle.xa_log.specs.Believed.TwoFiles.{HasOther, Pair}
use Rattle.xa_log.proofs.Records.{length-record_of, length-text}
use Rattle.xa_model.specs.State.{State}
use Rattle.xa_model.specs.Fold.{sizes}
use Rattle.xa_model.specs.Invariants.Backing.{Backs, settled_first}
use Rattle.xa_model.specs.Invariants.Loggable.{IsRecoverable}
use Rattle.xa_model.proofs.AppliedAll.{finds_first}
use Rattle.xa_model.proofs.Booted.{backs_found}
use Rattle.xa_manager.specs.Believed.LogStands.{HasRecords, IsSettled, LogStandsFor}
use Rattle.xa_manager.specs.Rereading.{Found}

-- how long a log of records is

records_size : (prev : List ℕ) (rs : List Record) → length (records prev (map spelled rs)) ≡ sizes rs
records_size prev [] = refl
records_size prev (r ∷ rs) =
    let rest = records_size (digest prev (spelled r)) rs in
    let one = length-record_of prev (spelled r) in
    let both = length-append (record_of prev (spelled r)) (records (digest prev (spelled r)) (map spelled rs)) in
    both ∙ (omega (arith, rest, one))

pub text_size : (format : Format) (rs : List Record) → length (text format (map spelled rs)) ≡ 8 + sizes rs
text_size format rs = length-text format (map spelled rs) ∙ ap (λ (n : ℕ). 8 + n) (records_size (start format) rs)

-- A look that succeeds finds what the log may have, and that stands.
pub record Finds {D : Type 0} (disks : Ghosts D) (found : List (List ℕ)) (log log' : LogView D) : Type 0 where
  pub stood : List (List ℕ)
  pub state : (state : LogState) → IsIn disks state log → MayFind state found × Pair disks found stood log'
  pub other : (state : LogState) → IsIn disks state log → HasOther disks log → HasOther disks log'

-- the log still backs the state
pub stands_found : {D : Type 0} (disks : Ghosts D) (found : List (List ℕ)) (log log' : LogView D) (s : State)
    → Finds disks found log log' → LogStandsFor disks log s → LogStandsFor disks log' s
stands_found disks found log log' s k st =
    let now = k.state st.state st.is_in in
    record {
      records = st.records;
      backs = st.backs;
      state = Whole found k.stood;
      is_in = now.1;
      finds = λ again is. subst (λ (bodies : List (List ℕ)). IsSettled st.records s bodies) (sym is) (st.finds found now.0);
      lost_as = tt;
      beside = k.other st.state st.is_in st.beside;
    }

-- a log of these records ends where they do
pub records_end : {D : Type 0} (disks : Ghosts D) (rs : List Record) (t : State) (log : LogView D)
    → Backs rs t → HasRecords disks rs log → log.end ≡ t.end
records_end disks rs t log k (stood, pair, beside) = pair.current.end ∙ (text_size log.format rs ∙ sym k.end)

pub found_state : {D : Type 0} (disks : Ghosts D) (found : List (List ℕ)) (log log' : LogView D) (s : State)
    → Finds disks found log log' → IsRecoverable s → LogStandsFor disks log s → Found disks found log' s
found_state disks found log log' s k h st =
    let now = k.state st.state st.is_in in
    by_fate (st.finds found now.0) now.1
  where
    -- these are the records
    has : (qs : List Record) → found ≡ map spelled qs → Pair disks found k.stood log' → HasRecords disks qs log'
    has qs spells pair = (k.stood, subst (λ (bodies : List (List ℕ)). Pair disks bodies k.stood log') spells pair, k.other st.state st.is_in st.beside)

    by_fate : IsSettled st.records s found → Pair disks found k.stood log' → Found disks found log' s
    by_fate (many, few, is) pair =
        let (t, fate) = finds_first s many few in
        let rs = settled_first many s.open_records st.records s in
        let backs : Backs rs t = backs_found st.records s many t h st.backs fate in
        let records : HasRecords disks rs log' = has rs is pair in
        record {
          state = t;
          many = many;
          fate = fate;
          earlier = st.records;
          stood = st.backs;
          records = rs;
          settled = refl;
          spelled_as = is;
          backs = backs;
          has = records;
          end = records_end disks rs t log' backs records;
          alive = pair.current.alive;
        }
