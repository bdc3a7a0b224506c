-- What a rescan that succeeds finds of a log.
use Rattle.std.proofs.Common.{◌≡◌, ◌⊎◌, ⊎_elim, inl, inr, ℕ, ◌≤◌, Bool, true, false, List, ◌++◌, length, take, refl, sym, ◌∙◌, ap, cond, None}
use Rattle.xa_disk.specs.declared.disk.Disk.{Ghosts}
use Rattle.xa_log.specs.Believed.LogView.{LogView}
use Rattle.xa_log.specs.Believed.Chain.{logged}
use Rattle.xa_log.specs.Believed.Group.{HasFirstPart, IsFirstPart, NoChance}
use Rattle.xa_log.specs.Reading.{is_newer, fault_of}
use Rattle.xa_log.specs.Believed.Pair.{beats, has_log, IsCalm, CalmTears, logged_of}
use Rattle.xa_log.specs.Believed.Checkpoint.{IsQuiet, SealTears}
use Rattle.xa_log.specs.Believed.Laws.{IsLogOf}
use Rattle.xa_log.specs.Believed.TwoFiles.{Pair, MayStandPair, MaySeal, IsOpenPair, IsReadPair}
use Rattle.xa_log.specs.Believed.LogStates.{LogState, Whole, LostAppend, LostCheckpoint, IsIn, MayFind, LostTears, IsCalmBeside}
use Rattle.xa_log.proofs.Again.{no_fault, rests_front, fits_of}
use Rattle.xa_log.proofs.Choosing.{no_fault_log, no_fault_newer}
use Rattle.xa_log.proofs.Pair.{pair_log, calm_logged, beats_read}
use Rattle.xa_log.proofs.Records.{rests_logged}
use Rattle.xa_log.proofs.Which.{seal_law}

module _ {D : Type 0} (disks : Ghosts D) (old new : LogView D) (found : List (List ℕ))
    (first : disks.seen (cond new.on_first new.disk new.other) ≡ disks.seen (cond old.on_first old.disk old.other)) (second : disks.seen (cond new.on_first new.other new.disk) ≡ disks.seen (cond old.on_first old.other old.disk))
    (it : IsOpenPair disks found (logged (disks.seen new.other)) new) (is : logged_of old.on_first (disks.seen old.disk) (disks.seen old.other) ≡ found) where
  abbrev Read : Type 0
  Read = IsReadPair disks found new

  -- the current file was a log of these bodies, and the other one came behind
  module _ (bodies : List (List ℕ)) (opens : fault_of old.log_bytes (disks.seen old.disk) ≡ None) (has : logged (disks.seen old.disk) ≡ bodies) (short : length (disks.seen old.other) ≤ old.log_bytes)
      (known : is_newer (take 8 (disks.seen old.other)) ≡ false) (older : beats old.on_first bodies (logged (disks.seen old.other)) ≡ true) where
    log : has_log (disks.seen old.disk) ≡ true
    log = no_fault_log old.log_bytes (disks.seen old.disk) opens

    same : found ≡ bodies
    same = sym is ∙ pair_log old.log_bytes bodies (disks.seen old.disk) (disks.seen old.other) log (no_fault_newer old.log_bytes (disks.seen old.disk) opens) (fits_of old.log_bytes (disks.seen old.disk) opens) has short known old.on_first older

    behind : disks.seen new.other ≡ disks.seen old.other → new.on_first ≡ old.on_first → beats new.on_first found (logged (disks.seen new.other)) ≡ true
    behind other flag = (λ i. beats (flag i) (same i) (logged (other i))) ∙ older

    by : (f t : Bool) → old.on_first ≡ f → new.on_first ≡ t → disks.seen (cond t new.disk new.other) ≡ disks.seen (cond f old.disk old.other) → disks.seen (cond t new.other new.disk) ≡ disks.seen (cond f old.other old.disk) → beats new.on_first found (logged (disks.seen new.other)) ≡ true
    by true true p q x y = behind y (q ∙ sym p)
    by true false p q x y = it.older (ap (λ (l : List ℕ). has_log l) x ∙ log)
    by false true p q x y = it.older (ap (λ (l : List ℕ). has_log l) y ∙ log)
    by false false p q x y = behind x (q ∙ sym p)

    pub anew : (found ≡ bodies) × Read
    anew = (same, (record { current = it.current; other = it.other; calm_on = λ lucky. it.quiet.calm; older = by old.on_first new.on_first refl refl first second }, it.quiet))

  calm : (stood : List (List ℕ)) → (CalmTears disks.tears → IsCalm stood (disks.seen old.other)) → CalmTears disks.tears ⊎ IsQuiet disks stood old.other → IsCalm stood (disks.seen old.other)
  calm stood on quiet = ⊎_elim on (λ q. q.calm) quiet

  pair_anew : (bodies stood : List (List ℕ)) → Pair disks bodies stood old → CalmTears disks.tears ⊎ IsQuiet disks stood old.other → (found ≡ bodies) × Read
  pair_anew bodies stood p quiet =
      let s = p.current in
      let k = calm stood p.calm_on quiet in
      anew bodies (no_fault old.log_bytes old.format (disks.seen old.disk) bodies s.fits (rests_front old.format bodies (disks.seen old.disk) s.file)) (rests_logged old.format bodies (disks.seen old.disk) s.file) p.other.fits k.known
      (beats_read old.on_first bodies stood (disks.seen old.other) p.older (calm_logged stood (disks.seen old.other) p.other.behind k))

  may_stand_anew : (bodies group stood : List (List ℕ)) → MayStandPair disks bodies group stood old → NoChance disks.tears group → CalmTears disks.tears ⊎ IsQuiet disks stood old.other
      → HasFirstPart bodies group found × Read
  may_stand_anew bodies group stood p plain quiet =
      let k = calm stood p.calm_on quiet in
      let part : IsFirstPart old.format bodies group (disks.seen old.disk) = p.current.seen_on plain in
      let now = bodies ++ take part.many group in
      let x =
      anew now p.current.seen_is.opens (rests_logged old.format now (disks.seen old.disk) part.rests) p.other.fits k.known
      (beats_read old.on_first now stood (disks.seen old.other) (p.older part.many) (calm_logged stood (disks.seen old.other) p.other.behind k)) in
      (record { many = part.many; within = part.within; is = x.0 }, x.1)

  -- each of the two files begins as a log, and so does the one that is the other one now
  both : has_log (disks.seen old.disk) ≡ true → has_log (disks.seen old.other) ≡ true → has_log (disks.seen new.other) ≡ true
  both log front = by old.on_first new.on_first first second
    where
      by : (f t : Bool) → disks.seen (cond t new.disk new.other) ≡ disks.seen (cond f old.disk old.other)
          → disks.seen (cond t new.other new.disk) ≡ disks.seen (cond f old.other old.disk) → has_log (disks.seen new.other) ≡ true
      by true true x y = ap (λ (l : List ℕ). has_log l) y ∙ front
      by true false x y = ap (λ (l : List ℕ). has_log l) x ∙ log
      by false true x y = ap (λ (l : List ℕ). has_log l) y ∙ log
      by false false x y = ap (λ (l : List ℕ). has_log l) x ∙ front

  may_seal_anew : (bodies fresh : List (List ℕ)) → MaySeal disks bodies fresh old → SealTears disks.tears ⊎ IsQuiet disks fresh old.other
      → ((found ≡ bodies) ⊎ (found ≡ fresh)) × Read
  may_seal_anew bodies fresh p quiet =
      let k : IsCalm fresh (disks.seen old.other) = ⊎_elim p.calm_on (λ q. q.calm) quiet in
      let front = rests_front old.format bodies (disks.seen old.disk) p.file in
      let log = no_fault_log old.log_bytes (disks.seen old.disk) (no_fault old.log_bytes old.format (disks.seen old.disk) bodies p.fits front) in
      let current : IsLogOf old.log_bytes bodies (disks.seen old.disk) = record { format = old.format; fits = p.fits; rests = p.file; whole = p.whole } in
      let read = seal_law old.log_bytes old.on_first bodies fresh (disks.seen old.disk) (disks.seen old.other) current p.other k p.above in (
        ⊎_elim (λ one. inl (sym is ∙ one)) (λ one. inr (sym is ∙ one)) read.1,
        (record { current = it.current; other = it.other; calm_on = λ lucky. it.quiet.calm; older = it.older (both log p.other.1) }, it.quiet),
      )

  pub state_anew : (state : LogState) → IsIn disks state old → LostTears disks.tears state → IsCalmBeside disks state old → MayFind state found × Read
  state_anew (Whole bodies stood) p lucky calm = pair_anew bodies stood p calm
  state_anew (LostAppend bodies group stood) p lucky calm = may_stand_anew bodies group stood p lucky calm
  state_anew (LostCheckpoint bodies fresh) p lucky calm = may_seal_anew bodies fresh p calm
