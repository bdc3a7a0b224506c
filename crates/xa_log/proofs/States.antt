-- What a read gives and a crash leaves of a log, by the state that it is in.
use Rattle.std.proofs.Common.{◌≡◌, ⊎_elim, inl, inr, ℕ, ◌≤◌, length, take, Bool, true, false, List, ◌∷◌, [], ◌++◌, refl, ap, subst, sym, ◌∙◌, arith, cond, None}
use Rattle.std.proofs.lemmas.List.{append-nil}
use Rattle.xa_disk.specs.Disk.{Same}
use Rattle.xa_disk.specs.Time.{TimePasses}
use Rattle.xa_disk.specs.declared.disk.Disk.{Ghosts}
use Rattle.xa_log.specs.declared.format.Format.{Format}
use Rattle.xa_log.specs.Believed.LogView.{LogView}
use Rattle.xa_log.specs.Believed.Group.{IsFirstPart}
use Rattle.xa_log.specs.Believed.Pair.{generation, beats, CalmTears, IsCalm, fault_pair, logged_of, pair_fault, logged_pair}
use Rattle.xa_log.specs.Believed.Checkpoint.{SealTears}
use Rattle.xa_log.specs.Believed.Laws.{IsLogOf}
use Rattle.xa_log.specs.Believed.Stands.{LeavesLog}
use Rattle.xa_log.specs.Believed.TwoFiles.{Pair, MayStandPair, first_of, second_of}
use Rattle.xa_log.specs.Believed.LogStates.{LogState, Whole, LostAppend, LostCheckpoint, IsIn, MayFind, beside, LostTears, BesideTears, IsCalmBeside, LeavesCurrent, LeavesBeside, IsWithoutChance, LeavesBoth, LooksTo, LeftByLook}
use Rattle.xa_log.proofs.Again.{left_log}
use Rattle.xa_log.proofs.Still.{left_other, left_sealed, fault_order, logged_order}
use Rattle.xa_log.proofs.Which.{behind_law, pair_law, append_law, seal_law}

-- what is found of two files, in the order of the current one and the other, and in that of the two
of_two : (state : LogState) (most : ℕ) (f : Bool) (first second : List ℕ)
    → (fault_pair most f (cond f first second) (cond f second first) ≡ None) × MayFind state (logged_of f (cond f first second) (cond f second first))
    → (pair_fault most first second ≡ None) × MayFind state (logged_pair first second)
of_two state most true first second it = it
of_two state most false first second it = it

pub in_two : {D : Type 0} (may_leave : D → List ℕ → Type 0) (f : Bool) (d o : D) (first second : List ℕ) → may_leave (cond f d o) first → may_leave (cond f o d) second
    → may_leave d (cond f first second) × may_leave o (cond f second first)
in_two may_leave true d o first second one two = (one, two)
in_two may_leave false d o first second one two = (two, one)

log_of : (most : ℕ) (format : Format) (bodies : List (List ℕ)) (c : List ℕ) → LeavesLog most format bodies c → IsLogOf most bodies c
log_of most format bodies c l = record { format = format; fits = l.fits; rests = l.rests; whole = l.whole }

-- ---- images

module _ {D : Type 0} (disks : Ghosts D) (log : LogView D) where
  -- the other file comes behind the log without the group too
  older_alone : {bodies group stood : List (List ℕ)} → MayStandPair disks bodies group stood log → beats log.on_first bodies stood ≡ true
  older_alone {bodies} {group} {stood} p = subst (λ (b : List (List ℕ)). beats log.on_first b stood ≡ true) (append-nil bodies) (p.older 0)

  left_current : (state : LogState) → IsIn disks state log → (c : List ℕ) → disks.may_leave log.disk c → LeavesCurrent state log.log_bytes log.format c
  left_current (Whole bodies stood) p c now = left_log disks log bodies p.current c now
  left_current (LostAppend bodies group stood) p c now = p.current.left_is c now
  left_current (LostCheckpoint bodies fresh) p c now = left_sealed disks log bodies fresh p c now

  left_beside : (state : LogState) → IsIn disks state log → (c : List ℕ) → disks.may_leave log.other c → LeavesBeside state log.log_bytes c
  left_beside (Whole bodies stood) p c now = left_other disks log stood p.other c now
  left_beside (LostAppend bodies group stood) p c now = left_other disks log stood p.other c now
  left_beside (LostCheckpoint bodies fresh) p c now = p.left c now

  opens_both : (state : LogState) → IsIn disks state log → (current other : List ℕ) → LeavesCurrent state log.log_bytes log.format current
      → LeavesBeside state log.log_bytes other → IsWithoutChance state log.format current other
      → (fault_pair log.log_bytes log.on_first current other ≡ None) × MayFind state (logged_of log.on_first current other)
  opens_both (Whole bodies stood) p current other l leaves plain =
      pair_law log.log_bytes log.on_first bodies stood current other (log_of log.log_bytes log.format bodies current l) leaves plain.1 p.older
  opens_both (LostAppend bodies group stood) p current other l leaves plain =
      append_law log.log_bytes log.on_first log.format bodies group stood current other l plain.0 leaves plain.1 (older_alone p)
  opens_both (LostCheckpoint bodies fresh) p current other l leaves plain =
      seal_law log.log_bytes log.on_first bodies fresh current other (log_of log.log_bytes log.format bodies current l) leaves plain.1 p.above

  -- a crash now leaves of both files what the state says
  pub left_both : (state : LogState) → IsIn disks state log → (first second : List ℕ) → disks.may_leave (first_of log) first → disks.may_leave (second_of log) second
      → LeavesBoth state log first second
  left_both state is first second one two =
      let left = in_two disks.may_leave log.on_first log.disk log.other first second one two in
      let current = left_current state is (cond log.on_first first second) left.0 in
      let other = left_beside state is (cond log.on_first second first) left.1 in
      record {
        current = current;
        other = other;
        opens = λ plain. of_two state log.log_bytes log.on_first first second
            (opens_both state is (cond log.on_first first second) (cond log.on_first second first) current other plain);
      }

-- ---- at any moment of a look

-- which leaves of a file what a crash before it could have left
pub same_left : {D : Type 0} (disks : Ghosts D) (old new : D) → TimePasses disks Same old new
    → ((c : List ℕ) → disks.left_since old (disks.moment old) c → disks.may_leave old c)
    → (c : List ℕ) → disks.left_since new (disks.moment old) c → disks.may_leave old c
same_left disks old new time only_now c left =
    ⊎_elim (λ past. only_now c past) (λ x. subst (λ (f : List ℕ). disks.may_leave old f) (sym x.2) x.1) (time.nothing_else (disks.moment old) c (omega arith) left)

pub look_leaves : {D : Type 0} (disks : Ghosts D) → ((d : D) (c : List ℕ) → disks.left_since d (disks.moment d) c → disks.may_leave d c)
    → (old new : LogView D) → LooksTo disks old new → (state : LogState) → IsIn disks state old → (first second : List ℕ) → LeftByLook disks old new first second
    → LeavesBoth state old first second
look_leaves disks only_now old new looks state is first second left =
    left_both disks old state is first second
    (same_left disks (first_of old) (first_of new) looks.first (only_now (first_of old)) first left.first_left)
    (same_left disks (second_of old) (second_of new) looks.second (only_now (second_of old)) second left.second_left)

-- ---- reads

module _ {D : Type 0} (disks : Ghosts D) (log : LogView D) where
  calm_beside : (state : LogState) → (BesideTears disks.tears state → IsCalm (beside state) (disks.seen log.other)) → IsCalmBeside disks state log → IsCalm (beside state) (disks.seen log.other)
  calm_beside state on calm = ⊎_elim on (λ q. q.calm) calm

  read_with : (bodies group stood : List (List ℕ)) → (p : MayStandPair disks bodies group stood log) → IsCalm stood (disks.seen log.other)
      → IsFirstPart log.format bodies group (disks.seen log.disk)
      → (fault_pair log.log_bytes log.on_first (disks.seen log.disk) (disks.seen log.other) ≡ None)
      × MayFind (LostAppend bodies group stood) (logged_of log.on_first (disks.seen log.disk) (disks.seen log.other))
  read_with bodies group stood p calm part =
      let it = pair_law log.log_bytes log.on_first (bodies ++ take part.many group) stood (disks.seen log.disk) (disks.seen log.other)
      (record { format = log.format; fits = p.current.seen_is.fits; rests = part.rests; whole = part.whole })
      (behind_law log.log_bytes stood (disks.seen log.other) p.other.fits p.other.behind) calm (p.older part.many) in
      (it.0, record { many = part.many; within = part.within; is = it.1 })

  state_read : (state : LogState) → IsIn disks state log → LostTears disks.tears state → IsCalmBeside disks state log
      → (fault_pair log.log_bytes log.on_first (disks.seen log.disk) (disks.seen log.other) ≡ None)
      × MayFind state (logged_of log.on_first (disks.seen log.disk) (disks.seen log.other))
  state_read (Whole bodies stood) p lucky calm =
      pair_law log.log_bytes log.on_first bodies stood (disks.seen log.disk) (disks.seen log.other)
      (record { format = log.format; fits = p.current.fits; rests = p.current.file; whole = p.current.whole })
      (behind_law log.log_bytes stood (disks.seen log.other) p.other.fits p.other.behind) (calm_beside (Whole bodies stood) p.calm_on calm) p.older
  state_read (LostAppend bodies group stood) p lucky calm =
      read_with bodies group stood p (calm_beside (LostAppend bodies group stood) p.calm_on calm) (p.current.seen_on lucky)
  state_read (LostCheckpoint bodies fresh) p lucky calm =
      seal_law log.log_bytes log.on_first bodies fresh (disks.seen log.disk) (disks.seen log.other)
      (record { format = log.format; fits = p.fits; rests = p.file; whole = p.whole }) p.other (calm_beside (LostCheckpoint bodies fresh) p.calm_on calm) p.above

  -- a read is taken for a log, if nothing was left to chance
  pub state_reads : (state : LogState) → IsIn disks state log → LostTears disks.tears state → IsCalmBeside disks state log
      → fault_pair log.log_bytes log.on_first (disks.seen log.disk) (disks.seen log.other) ≡ None
  state_reads state is lucky calm = (state_read state is lucky calm).0

  -- what a read gives of the two files is a log, of what a look may find
  pub reads_both : (state : LogState) → IsIn disks state log → LostTears disks.tears state → IsCalmBeside disks state log
      → (pair_fault log.log_bytes (disks.seen (first_of log)) (disks.seen (second_of log)) ≡ None) × MayFind state (logged_pair (disks.seen (first_of log)) (disks.seen (second_of log)))
  reads_both state is lucky calm = (
    fault_order disks.seen log.log_bytes log.on_first log.disk log.other ∙ state_reads state is lucky calm,
    subst (λ found. MayFind state found) (logged_order disks.seen log.on_first log.disk log.other) (state_read state is lucky calm).1,
  )

-- ---- the premises on a disk's failed writes, whatever the state

module _ (tears : List ℕ → ℕ → List ℕ → List ℕ → Type 0) where
  pub beside_by : CalmTears tears → SealTears tears → (state : LogState) → BesideTears tears state
  beside_by headers seals (Whole bodies stood) = headers
  beside_by headers seals (LostAppend bodies group stood) = headers
  beside_by headers seals (LostCheckpoint bodies fresh) = seals

-- ---- a log of which one thing alone may be found

whole_append : (bodies group : List (List ℕ)) → 1 ≤ length group → bodies ++ take 1 group ≡ bodies ++ take 0 group → ⊥
whole_append bodies [] some is = absurd (omega arith)
whole_append [] (body ∷ group) some is = cc is
whole_append (b ∷ bodies) (body ∷ group) some is = whole_append bodies (body ∷ group) some (cc is)

module _ {D : Type 0} (disks : Ghosts D) (log : LogView D) where
  -- a log of which no more than these bodies may be found stands
  pub whole_of : (state : LogState) → IsIn disks state log → (bodies : List (List ℕ)) → ((found : List (List ℕ)) → MayFind state found → found ≡ bodies)
      → (stood : List (List ℕ)) × Pair disks bodies stood log
  whole_of (Whole mine stood) p bodies only = (stood, subst (λ (b : List (List ℕ)). Pair disks b stood log) (only mine refl) p)
  whole_of (LostAppend mine group stood) p bodies only =
      absurd (whole_append mine group p.current.some
      (only (mine ++ take 1 group) (record { many = 1; within = p.current.some; is = refl }) ∙ sym (only (mine ++ take 0 group) (record { many = 0; within = omega arith; is = refl }))))
  whole_of (LostCheckpoint mine fresh) p bodies only =
      let same : generation mine ≡ generation fresh = ap (λ (b : List (List ℕ)). generation b) (only mine (inl refl) ∙ sym (only fresh (inr refl))) in
      absurd (omega (arith, p.above, same))
