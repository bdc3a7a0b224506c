-- A log whose files and disks stay as they were.
use Rattle.std.proofs.Common.{◌≡◌, ◌⊎◌, ⊎_elim, inl, inr, ℕ, ◌≤◌, Bool, true, false, List, ◌++◌, length, take, refl, sym, ◌∙◌, ap, subst, arith, cond, Result, Ok, Err, IfErr}
use Rattle.std.specs.Result.{IsErrAnd}
use Rattle.xa_disk.specs.Disk.{Same, Passes}
use Rattle.xa_disk.specs.declared.disk.Disk.{Ghosts}
use Rattle.xa_log.specs.Believed.LogView.{LogView}
use Rattle.xa_log.specs.declared.fault.OpenFault.{OpenFault}
use Rattle.xa_log.specs.declared.fault.OpenFault.TheVariants.{Device, Memory}
use Rattle.xa_log.specs.Believed.Chain.{start, last, text, logged, Rests}
use Rattle.xa_log.specs.Believed.Damage.{breaks_off}
use Rattle.xa_log.specs.Believed.Group.{IsFirstPart}
use Rattle.xa_log.specs.Believed.Pair.{beats, generation, Behind, IsCalm, pair_fault, fault_pair, logged_pair, logged_of}
use Rattle.xa_log.specs.Believed.Checkpoint.{HasBytes, IsOther, IsQuiet, LeavesOf, LeavesSealed}
use Rattle.xa_log.specs.Ahead.{IsKnown}
use Rattle.xa_log.specs.Believed.Stands.{Stands, MayStand, Leaves, LeavesLog, Untouched}
use Rattle.xa_log.specs.Believed.TwoFiles.{HasOther, Pair, MayStandPair, MaySeal}
use Rattle.xa_log.specs.Believed.LogStates.{LogState, Whole, LostAppend, LostCheckpoint, IsIn, KeepsAll}
use Rattle.xa_log.proofs.Again.{no_fault, rests_front}
use Rattle.xa_log.proofs.Pair.{calm_logged}

module _ {D : Type 0} (disks : Ghosts D) (old new : LogView D) (u : Untouched old new)
    (same : disks.seen new.disk ≡ disks.seen old.disk) (left : (c : List ℕ) → disks.may_leave new.disk c → disks.may_leave old.disk c) (same_other : disks.seen new.other ≡ disks.seen old.other) (left_other : (c : List ℕ) → disks.may_leave new.other c → disks.may_leave old.other c) where
  whole_kept : (bodies : List (List ℕ)) → breaks_off old.format bodies (disks.seen old.disk) ≡ false → breaks_off new.format bodies (disks.seen new.disk) ≡ false
  whole_kept bodies whole = subst (λ f. breaks_off new.format bodies f ≡ false) (sym same) (subst (λ k. breaks_off k bodies (disks.seen old.disk) ≡ false) (sym u.format) whole)

  stands_kept : (bodies : List (List ℕ)) → Stands disks bodies old → Stands disks bodies new
  stands_kept bodies s = record {
    file = subst (λ f. Rests new.format bodies f) (sym same) (subst (λ k. Rests k bodies (disks.seen old.disk)) (sym u.format) s.file);
    fits = omega (arith, ap (λ (l : List ℕ). length l) same, u.log_bytes, s.fits);
    end = subst (λ k. new.end ≡ length (text k bodies)) (sym u.format) (u.end ∙ s.end);
    digest = subst (λ k. new.digest ≡ last (start k) bodies) (sym u.format) (u.digest ∙ s.digest);
    number = u.number ∙ s.number;
    durable = λ c now. s.durable c (left c now) ∙ sym same;
    alive = u.lost ∙ s.alive;
    whole = whole_kept bodies s.whole;
  }

  other_kept : (stood : List (List ℕ)) → IsOther disks old.log_bytes stood old.other → IsOther disks new.log_bytes stood new.other
  other_kept stood o = subst (λ m. IsOther disks m stood new.other) (sym u.log_bytes) (record {
    fits = subst (λ f. length f ≤ old.log_bytes) (sym same_other) o.fits;
    behind = subst (λ f. Behind stood f) (sym same_other) o.behind;
    left_fits = λ c now. o.left_fits c (left_other c now);
    left_behind = λ c now. o.left_behind c (left_other c now);
  })

  calm_kept : (stood : List (List ℕ)) → IsCalm stood (disks.seen old.other) → IsCalm stood (disks.seen new.other)
  calm_kept stood calm = subst (λ f. IsCalm stood f) (sym same_other) calm

  quiet_kept : (stood : List (List ℕ)) → IsQuiet disks stood old.other → IsQuiet disks stood new.other
  quiet_kept stood q = record { calm = calm_kept stood q.calm; left_calm = λ c now. q.left_calm c (left_other c now) }

  beats_kept : (bodies stood : List (List ℕ)) → beats old.on_first bodies stood ≡ true → beats new.on_first bodies stood ≡ true
  beats_kept bodies stood wins = ap (λ (t : Bool). beats t bodies stood) u.on_first ∙ wins

  pair_kept : (bodies stood : List (List ℕ)) → Pair disks bodies stood old → Pair disks bodies stood new
  pair_kept bodies stood p = record { current = stands_kept bodies p.current; other = other_kept stood p.other; calm_on = λ lucky. calm_kept stood (p.calm_on lucky); older = beats_kept bodies stood p.older }

  may_stand_kept : (bodies group : List (List ℕ)) → MayStand disks bodies group old → MayStand disks bodies group new
  may_stand_kept bodies group s = record {
    some = s.some;
    seen_is = leaves (disks.seen new.disk) (subst (λ f. Leaves old.log_bytes old.format bodies group f) (sym same) s.seen_is);
    seen_on = λ lucky. subst (λ f. IsFirstPart new.format bodies group f) (sym same) (subst (λ k. IsFirstPart k bodies group (disks.seen old.disk)) (sym u.format) (s.seen_on lucky));
    left_is = λ c now. leaves c (s.left_is c (left c now));
    lost = u.lost ∙ s.lost;
  }
    where
      leaves : (c : List ℕ) → Leaves old.log_bytes old.format bodies group c → Leaves new.log_bytes new.format bodies group c
      leaves c it = subst (λ k. Leaves new.log_bytes k bodies group c) (sym u.format) (subst (λ m. Leaves m old.format bodies group c) (sym u.log_bytes) it)

  may_stand_pair_kept : (bodies group stood : List (List ℕ)) → MayStandPair disks bodies group stood old → MayStandPair disks bodies group stood new
  may_stand_pair_kept bodies group stood p = record {
    current = may_stand_kept bodies group p.current;
    other = other_kept stood p.other;
    calm_on = λ lucky. calm_kept stood (p.calm_on lucky);
    older = λ many. beats_kept (bodies ++ take many group) stood (p.older many);
  }

  may_seal_kept : (bodies fresh : List (List ℕ)) → MaySeal disks bodies fresh old → MaySeal disks bodies fresh new
  may_seal_kept bodies fresh p = record {
    file = subst (λ f. Rests new.format bodies f) (sym same) (subst (λ k. Rests k bodies (disks.seen old.disk)) (sym u.format) p.file);
    fits = omega (arith, ap (λ (l : List ℕ). length l) same, u.log_bytes, p.fits);
    durable = λ c now. p.durable c (left c now) ∙ sym same;
    whole = whole_kept bodies p.whole;
    other = subst (λ m. LeavesSealed m fresh (disks.seen new.other)) (sym u.log_bytes) (subst (λ f. LeavesSealed old.log_bytes fresh f) (sym same_other) p.other);
    calm_on = λ lucky. calm_kept fresh (p.calm_on lucky);
    left = λ c now. subst (λ m. LeavesSealed m fresh c) (sym u.log_bytes) (p.left c (left_other c now));
    above = p.above;
    lost = u.lost ∙ p.lost;
  }

  known_kept : IsKnown disks old → IsKnown disks new
  known_kept k = record {
    current = omega (arith, u.known, k.current, ap (λ (l : List ℕ). length l) same);
    other = omega (arith, u.other_known, k.other, ap (λ (l : List ℕ). length l) same_other);
  }

  state_kept : (state : LogState) → IsIn disks state old → IsIn disks state new
  state_kept (Whole bodies stood) p = pair_kept bodies stood p
  state_kept (LostAppend bodies group stood) p = may_stand_pair_kept bodies group stood p
  state_kept (LostCheckpoint bodies fresh) p = may_seal_kept bodies fresh p

  has_other : HasOther disks old → HasOther disks new
  has_other (inl filled) = inl (record { seen = subst HasBytes (sym same_other) filled.seen; left = λ c now. filled.left c (left_other c now) })
  has_other (inr (one, few)) = inr (u.on_first ∙ one, subst (λ (f : List ℕ). generation (logged f) ≤ 1) (sym same) few)

  pub keeps_all : KeepsAll disks old new
  keeps_all = record { state = state_kept; quiet = quiet_kept; known = known_kept; other = has_other; stands = stands_kept; may_stand = may_stand_kept }

-- ---- what a crash may leave of each file

module _ {D : Type 0} (disks : Ghosts D) (log : LogView D) where
  pub left_other : (stood : List (List ℕ)) → IsOther disks log.log_bytes stood log.other → (c : List ℕ) → disks.may_leave log.other c → LeavesOf log.log_bytes stood c
  left_other stood o c now = record { fits = o.left_fits c now; reads = calm_logged stood c (o.left_behind c now) }

  pub left_sealed : (bodies fresh : List (List ℕ)) → MaySeal disks bodies fresh log → (c : List ℕ) → disks.may_leave log.disk c → LeavesLog log.log_bytes log.format bodies c
  left_sealed bodies fresh p c now =
      subst (λ f. LeavesLog log.log_bytes log.format bodies f) (sym (p.durable c now))
      (record { fits = p.fits; opens = no_fault log.log_bytes log.format (disks.seen log.disk) bodies p.fits (rests_front log.format bodies (disks.seen log.disk) p.file); rests = p.file; whole = p.whole })

-- ---- what a look leaves

pub left_back : (m n : ℕ) (past since : ℕ → List ℕ → Type 0) (before now : List ℕ → Type 0) → Passes Same m n past since before now → (c : List ℕ) → now c → before c
left_back m n past since before now time c is = let x = time.follows c is in subst before (sym x.2) x.1

-- a device that nothing was asked of
pub unasked : (m : ℕ) (since : ℕ → List ℕ → Type 0) (left : List ℕ → Type 0) → Passes Same m m since since left left
unasked m since left = record { later = omega arith; follows = λ c now. (c, now, refl); nothing_else = λ t c le was. inl was; keeps = λ t c le was. was }

pub err_only : {T : Type 0} (r : Result T OpenFault) (e : OpenFault) → IsErrAnd r (λ k. k ≡ e) → (e ≡ Device) ⊎ (e ≡ Memory) → IfErr r (λ k. (k ≡ Device) ⊎ (k ≡ Memory))
err_only (Ok x) e is kind = tt
err_only (Err k) e is kind = ⊎_elim (λ device. inl (is ∙ device)) (λ memory. inr (is ∙ memory)) kind

-- ---- two disks in the one order and in the other

-- what each step did to both, in their order
pub in_turn : {D : Type 0} (P : D → D → Type 0) (f : Bool) (d o e q x y : D) → x ≡ cond f e q → y ≡ cond f q e → P d e → P o q → P (cond f d o) x × P (cond f o d) y
in_turn P true d o e q x y a b p r = (subst (λ z. P d z) (sym a) p, subst (λ z. P o z) (sym b) r)
in_turn P false d o e q x y a b p r = (subst (λ z. P o z) (sym a) r, subst (λ z. P d z) (sym b) p)

-- what holds of each of the two holds of the one and of the other
pub of_both : {D : Type 0} (Q : D → Type 0) (t f : Bool) (n m d o : D) → cond t n m ≡ cond f d o → cond t m n ≡ cond f o d → Q d → Q o → Q n × Q m
of_both Q true true n m d o a b p r = (subst Q (sym a) p, subst Q (sym b) r)
of_both Q true false n m d o a b p r = (subst Q (sym a) r, subst Q (sym b) p)
of_both Q false true n m d o a b p r = (subst Q (sym b) r, subst Q (sym a) p)
of_both Q false false n m d o a b p r = (subst Q (sym b) p, subst Q (sym a) r)

-- a pair in its order
pub of_pair : {D : Type 0} (t : Bool) (p : D × D) (x y : D) → p ≡ cond t (x, y) (y, x) → (cond t p.0 p.1 ≡ cond true x y) × (cond t p.1 p.0 ≡ cond true y x)
of_pair true p x y is = (ap (λ q. q.0) is, ap (λ q. q.1) is)
of_pair false p x y is = (ap (λ q. q.1) is, ap (λ q. q.0) is)

pub fault_order : {D : Type 0} (seen : D → List ℕ) (most : ℕ) (f : Bool) (d o : D) → pair_fault most (seen (cond f d o)) (seen (cond f o d)) ≡ fault_pair most f (seen d) (seen o)
fault_order seen most true d o = refl
fault_order seen most false d o = refl

pub logged_order : {D : Type 0} (seen : D → List ℕ) (f : Bool) (d o : D) → logged_of f (seen d) (seen o) ≡ logged_pair (seen (cond f d o)) (seen (cond f o d))
logged_order seen true d o = refl
logged_order seen false d o = refl
