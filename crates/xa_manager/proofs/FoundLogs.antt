-- What the log of two files is, and what becomes of it.
use Rattle.std.proofs.Common.{◌≡◌, inl, ⊎_elim, ℕ, ◌≤◌, Bool, true, false, List, [], ◌∷◌, length, cond, refl, sym, ◌∙◌, ap, subst, arith}
use Rattle.std.proofs.lemmas.Bool.{eq-eqb}
use Rattle.xa_disk.specs.declared.disk.Disk.{Ghosts}
use Rattle.xa_log.specs.Believed.Chain.{text, logged}
use Rattle.xa_log.specs.Believed.Checkpoint.{IsOther, NeverEmpty}
use Rattle.xa_log.specs.Believed.Pair.{generation, number_in}
use Rattle.xa_log.specs.Believed.Stands.{Stands, EndsBehind, Moves, Renumbers}
use Rattle.xa_log.specs.Believed.TwoFiles.{HasOther, Pair, IsOpenPair, AppendsTo, Swaps, second_of}
use Rattle.xa_log.specs.declared.appending.Appended.{Appended}
use Rattle.xa_log.specs.declared.appending.Appended.TheVariants.{Kept}
use Rattle.xa_log.specs.declared.format.Format.{Format}
use Rattle.xa_log.specs.Believed.LogView.{LogView}
use Rattle.xa_log.proofs.Beside.{other_made, stands_filled}
use Rattle.xa_log.proofs.Opens.{made_pair}
use Rattle.xa_manager.specs.Believed.Opening.{HasBodies, IsFound}
use Rattle.xa_manager.proofs.LogLengths.{one_size, none_size}

-- it stands, whatever stands in the other file
pub record FoundStands {D : Type 0} (disks : Ghosts D) (bodies : List (List ℕ)) (log : LogView D) : Type 0 where
  pub stood : List (List ℕ)
  pub current : Stands disks bodies log
  pub other : IsOther disks log.log_bytes stood log.other

pub found_stands : {D : Type 0} (disks : Ghosts D) (is_new : Bool) (bodies : List (List ℕ)) (log : LogView D) → IsFound disks is_new bodies log → FoundStands disks bodies log
found_stands disks true bodies log (stood, p, beside) = record { stood = stood; current = p.current; other = p.other }
found_stands disks false bodies log p = record { stood = logged (disks.seen log.other); current = p.current; other = p.other }

-- what was made or read on two disks is one
pub found_log : {D : Type 0} (disks : Ghosts D) (is_new : Bool) (bodies : List (List ℕ)) (log : LogView D) (second : D) → IsOpenPair disks bodies (logged (disks.seen log.other)) log
    → (is_new ≡ true → (bodies ≡ []) × (log.on_first ≡ true) × (disks.seen second ≡ [])) → second_of log ≡ second → IsFound disks is_new bodies log
found_log disks false bodies log second it new is = it
found_log {D} disks true bodies log second it new is =
    let n = new refl in
    let other : log.other ≡ second = sym (ap (λ (t : Bool). cond t log.other log.disk) n.1) ∙ is in
    let none : logged (disks.seen log.other) ≡ [] = ap (λ (d : D). logged (disks.seen d)) other ∙ ap (λ (f : List ℕ). logged f) n.2 in
    let pair = (made_pair disks bodies (logged (disks.seen log.other)) log n.0 none it).0 in
    ([], subst (λ (b : List (List ℕ)). Pair disks b [] log) (sym n.0) pair, other_made disks [] log n.1 pair.current (omega arith))

-- one that was made
pub found_new : {D : Type 0} (disks : Ghosts D) (is_new : Bool) (bodies : List (List ℕ)) (log : LogView D) → is_new ≡ true → bodies ≡ [] → IsFound disks is_new bodies log
    → HasBodies disks [] log
found_new disks is_new bodies log is none found =
    subst (λ (b : List (List ℕ)). HasBodies disks b log) none (subst (λ (t : Bool). IsFound disks t bodies log) is found)

-- its first record
pub first_kept : {D : Type 0} (disks : Ghosts D) (o : Appended) (stood : List (List ℕ)) (body : List ℕ) (bodies : List (List ℕ)) (old log : LogView D) → o ≡ Kept → bodies ≡ body ∷ []
    → generation bodies ≤ 1 → (log.other ≡ old.other) × (log.on_first ≡ old.on_first) → HasOther disks old
    → AppendsTo disks o [] (body ∷ []) stood log → HasBodies disks bodies log
first_kept {D} disks o stood body bodies old log kept one few same beside went =
    let pair : Pair disks bodies stood log = subst (λ (b : List (List ℕ)). Pair disks b stood log) (sym one) (subst (λ (x : Appended). AppendsTo disks x [] (body ∷ []) stood log) kept went) in (
      stood,
      pair,
      ⊎_elim (λ (filled : NeverEmpty disks old.other). inl (subst (λ (d : D). NeverEmpty disks d) (sym same.0) filled)) (λ x. other_made disks bodies log (same.1 ∙ x.0) pair.current few) beside,
    )

-- a checkpoint of them that was kept
pub first_replaced : {D : Type 0} (disks : Ghosts D) (o : Appended) (old_bodies bodies : List (List ℕ)) (old log : LogView D) → o ≡ Kept → Stands disks old_bodies old
    → Swaps o bodies old log → HasOther disks log
first_replaced {D} disks o old_bodies bodies old log kept s swaps =
    let now : Swaps Kept bodies old log = subst (λ (x : Appended). Swaps x bodies old log) kept swaps in
    inl (subst (λ (d : D). NeverEmpty disks d) (sym now.0) (stands_filled disks old_bodies old s))

-- where its next record begins then
pub first_ends : {D : Type 0} (o : Appended) (old new : LogView D) (was bodies : List (List ℕ)) (body : List ℕ) → o ≡ Kept → was ≡ [] → bodies ≡ body ∷ []
    → Moves o (length body) old new → EndsBehind was old → EndsBehind bodies new
first_ends o old new was bodies body kept none one moves ends =
    let now : Moves Kept (length body) old new = subst (λ (x : Appended). Moves x (length body) old new) kept moves in
    let none_end : old.end ≡ length (text old.format []) = ends.end ∙ ap (λ (b : List (List ℕ)). length (text old.format b)) none in
    let end : new.end ≡ length (text new.format (body ∷ [])) = omega (arith, now.0, none_end, none_size old.format, one_size new.format body) in
    record {
      end = end ∙ ap (λ (b : List (List ℕ)). length (text new.format b)) (sym one);
      alive = now.2 ∙ ends.alive;
    }

-- and its generation
pub first_number : {D : Type 0} (o : Appended) (old new : LogView D) (was bodies : List (List ℕ)) (body : List ℕ) → o ≡ Kept → was ≡ [] → bodies ≡ body ∷ []
    → Renumbers o body old new → EndsBehind was old → new.generation ≡ generation bodies
first_number o old new was bodies body kept none one numbers ends =
    let now : Renumbers Kept body old new = subst (λ (x : Appended). Renumbers x body old new) kept numbers in
    let end : old.end ≡ 8 = ends.end ∙ ap (λ (b : List (List ℕ)). length (text old.format b)) none ∙ none_size old.format in
    now ∙ ap (λ (first : Bool). cond first (number_in body) old.generation) (eq-eqb old.end 8 end) ∙ ap (λ (b : List (List ℕ)). generation b) (sym one)

-- and of a checkpoint
pub replaced_ends : {D : Type 0} (o : Appended) (old new : LogView D) (was bodies : List (List ℕ)) → o ≡ Kept → Swaps o bodies old new → EndsBehind was old → EndsBehind bodies new
replaced_ends o old new was bodies kept swaps ends =
    let now : Swaps Kept bodies old new = subst (λ (x : Appended). Swaps x bodies old new) kept swaps in
    record {
      end = now.3 ∙ ap (λ (f : Format). length (text f bodies)) (sym now.2);
      alive = now.5 ∙ ends.alive;
    }

pub replaced_number : {D : Type 0} (o : Appended) (old new : LogView D) (bodies : List (List ℕ)) → o ≡ Kept → Swaps o bodies old new → new.generation ≡ generation bodies
replaced_number o old new bodies kept swaps =
    let now : Swaps Kept bodies old new = subst (λ (x : Appended). Swaps x bodies old new) kept swaps in now.6
