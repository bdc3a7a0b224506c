-- A copy that is opened.
use Rattle.std.proofs.Common.{◌≡◌, Bool, true, false, cond, ℕ, List, take, drop, refl, sym, ◌∙◌, ap, subst, take-append-drop}
use Rattle.std.specs.List.{AllByRecursion}
use Rattle.xa_disk.specs.declared.disk.Disk.{Ghosts}
use Rattle.xa_log.specs.Believed.Chain.{IsBody, format_number, logged}
use Rattle.xa_log.specs.Believed.LogView.{LogView}
use Rattle.xa_log.specs.Believed.Pair.{has_log}
use Rattle.xa_log.specs.Believed.TwoFiles.{IsOpenPair, Pair, first_of, second_of}
use Rattle.xa_log.specs.declared.format.Format.{Format}
use Rattle.xa_log.specs.declared.format.Format.TheVariants.{One, Two}
use Rattle.xa_copy.specs.Copies.{Copies, IsPairOf}
use Rattle.xa_copy.specs.Marks.{Marks}
use Rattle.xa_copy.specs.Moving.{State}
use Rattle.xa_copy.specs.Standbys.{IsStandby, Was}
use Rattle.xa_copy.specs.declared.copied.Copied.{Copied}
use Rattle.xa_copy.specs.declared.standby.Standby.{Standby}
use Rattle.xa_copy.proofs.Appends.{only_closed}
use Rattle.xa_copy.proofs.Pairs.{has}
use Rattle.xa_copy.proofs.Standing.{closes_log, sizes_part}

pub same_format : (a b : Format) → format_number a ≡ format_number b → a ≡ b
same_format One One is = refl
same_format Two Two is = refl
same_format One Two is = absurd (cc is)
same_format Two One is = absurd (cc is)

other_has : {D : Type 0} (seen : D → List ℕ) (b : Bool) (disk other : D) (first second : List ℕ) → seen (cond b disk other) ≡ first → seen (cond b other disk) ≡ second
    → has_log first ≡ true → has_log second ≡ true → has_log (seen other) ≡ true
other_has seen true disk other first second a b f s = ap has_log b ∙ s
other_has seen false disk other first second a b f s = ap has_log a ∙ f

module _ {D : Type 0} (disks : Ghosts D) where
  open_pair : (most : ℕ) (format : Format) (bodies : List (List ℕ)) (first second : List ℕ) (log : LogView D) → IsPairOf most format bodies first second
      → AllByRecursion (IsBody format) bodies → IsOpenPair disks bodies (logged (disks.seen log.other)) log
      → disks.seen (first_of log) ≡ first → disks.seen (second_of log) ≡ second → Pair disks bodies (logged (disks.seen log.other)) log
  open_pair most format bodies first second log p sizes o f s =
      let one : AllByRecursion (IsBody format) (take 1 bodies) =
      sizes_part format (take 1 bodies) (drop 1 bodies) (subst (λ l. AllByRecursion (IsBody format) l) (sym (take-append-drop 1 bodies)) sizes) in
      let other : has_log (disks.seen log.other) ≡ true =
      other_has disks.seen log.on_first log.disk log.other first second f s (has format bodies sizes first p.first_is)
      (has format (take 1 bodies) one second p.second_is) in
      record { current = o.current; other = o.other; calm_on = λ _. o.quiet.calm; older = o.older other }

  pub begun : (most : ℕ) (old new old_second new_second : State) (first second : List ℕ) (copied : Copied) (standby : Standby D) (found : List (List ℕ))
      → (c : Copies most old new old_second new_second first second copied) → found ≡ c.copies.bodies
      → IsOpenPair disks found (logged (disks.seen standby.log.other)) standby.log
      → disks.seen (first_of standby.log) ≡ first → disks.seen (second_of standby.log) ≡ second
      → standby.copied ≡ copied → standby.log.format ≡ copied.format
      → (stood : List (List ℕ)) × IsStandby disks c.copies.bodies stood (cond copied.on_first new new_second) standby
  begun most old new old_second new_second first second copied standby found c is o f s same format =
      let bodies : List (List ℕ) = c.copies.bodies in
      let now : State = cond copied.on_first new new_second in
      let was = c.copies.was in
      let open' : IsOpenPair disks bodies (logged (disks.seen standby.log.other)) standby.log =
      subst (λ l. IsOpenPair disks l (logged (disks.seen standby.log.other)) standby.log) is o in
      let there : Was c.copies.format bodies now = record {
        at = was.at;
        until = was.until;
        life = was.same ∙ c.copies.life;
        log = closes_log c.copies.format bodies was.at.file was.is;
        whole = only_closed c.copies.format bodies was.at.file was.is;
      } in
      let at : c.copies.format ≡ standby.copied.format = sym c.copies.format_is ∙ ap (λ (k : Copied). k.format) (sym same) in (
        logged (disks.seen standby.log.other),
        record {
          pair = open_pair most c.copies.format bodies first second standby.log c.copies.pair was.is.sizes open' f s;
          marks = subst (λ k. Marks bodies k) (sym same) c.copies.marks;
          format = format ∙ ap (λ (k : Copied). k.format) (sym same);
          some = c.copies.some;
          was = subst (λ k. Was k bodies now) at there;
        },
      )
