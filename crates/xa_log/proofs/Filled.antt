-- A file that isn't empty doesn't get so.
use Rattle.std.proofs.Common.{◌⊎◌, inl, inr, ℕ, ◌≤◌, List, length, ap, sym, subst, refl, arith}
use Rattle.std.proofs.lemmas.List.{length-take}
use Rattle.xa_disk.specs.Disk.{Cut, Same, Torn}
use Rattle.xa_disk.specs.Images.{cut_same, torn_same}
use Rattle.xa_disk.specs.Time.{LeavesOnly, TimePasses}
use Rattle.xa_disk.specs.declared.disk.Disk.{Ghosts}
use Rattle.xa_log.specs.Believed.Checkpoint.{HasBytes, NeverEmpty}
use Rattle.xa_log.proofs.Ready.{leaves_by}

torn_filled : (at n : ℕ) (d c : List ℕ) → HasBytes d → Torn at n d c → HasBytes c
torn_filled at n d c some torn = omega (arith, some, torn.no_shorter)

cut_filled : (to : ℕ) (d c : List ℕ) → 1 ≤ to → HasBytes d → Cut to d c → HasBytes c
cut_filled to d c far some cut = omega (arith, ap (λ (l : List ℕ). length l) cut.2, length-take cut.0 d, far, cut.1, some)

module _ {D : Type 0} (disks : Ghosts D) (old new : D) (was : NeverEmpty disks old) where
  -- by a step that leaves none empty
  module _ (step : List ℕ → List ℕ → Type 0) (keeps : (d c : List ℕ) → HasBytes d → step d c → HasBytes c) (time : TimePasses disks step old new) where
    by_step : length (disks.seen old) ≤ length (disks.seen new) ⊎ HasBytes (disks.seen new) → NeverEmpty disks new
    by_step (inl grows) = record { seen = omega (arith, was.seen, grows); left = λ c left. let x = time.follows c left in keeps x.0 c (was.left x.0 x.1) x.2 }
    by_step (inr some) = record { seen = some; left = λ c left. let x = time.follows c left in keeps x.0 c (was.left x.0 x.1) x.2 }

    meanwhile : ((c : List ℕ) → disks.left_since old (disks.moment old) c → disks.may_leave old c) → ((c : List ℕ) → step c c) → LeavesOnly disks old new HasBytes
    meanwhile only_now same = leaves_by disks old new step HasBytes only_now same (λ d c left it. keeps d c (was.left d left) it) time

  pub never_torn : (at n : ℕ) → TimePasses disks (Torn at n) old new → length (disks.seen old) ≤ length (disks.seen new) → NeverEmpty disks new
  never_torn at n time grows = by_step (Torn at n) (torn_filled at n) time (inl grows)

  pub torn_meanwhile : (at n : ℕ) → TimePasses disks (Torn at n) old new → ((c : List ℕ) → disks.left_since old (disks.moment old) c → disks.may_leave old c)
      → LeavesOnly disks old new HasBytes
  torn_meanwhile at n time only_now = meanwhile (Torn at n) (torn_filled at n) time only_now (torn_same at n)

  pub never_cut : (to : ℕ) → 1 ≤ to → TimePasses disks (Cut to) old new → Cut to (disks.seen old) (disks.seen new) → NeverEmpty disks new
  never_cut to far time cut =
      by_step (Cut to) (λ d c some it. cut_filled to d c far some it) time (inr (cut_filled to (disks.seen old) (disks.seen new) far was.seen cut))

  pub cut_meanwhile : (to : ℕ) → 1 ≤ to → TimePasses disks (Cut to) old new → ((c : List ℕ) → disks.left_since old (disks.moment old) c → disks.may_leave old c)
      → LeavesOnly disks old new HasBytes
  cut_meanwhile to far time only_now = meanwhile (Cut to) (λ d c some it. cut_filled to d c far some it) time only_now (cut_same to)

-- by no call
pub still_filled : {D : Type 0} (disks : Ghosts D) (d : D) → ((c : List ℕ) → disks.left_since d (disks.moment d) c → disks.may_leave d c) → NeverEmpty disks d
    → LeavesOnly disks d d HasBytes
still_filled disks d only_now was =
    leaves_by disks d d Same HasBytes only_now (λ c. refl) (λ x c left same. subst HasBytes (sym same) (was.left x left))
    (record { later = omega arith; follows = λ c now. (c, now, refl); nothing_else = λ t c le left. inl left; keeps = λ t c le left. left })
