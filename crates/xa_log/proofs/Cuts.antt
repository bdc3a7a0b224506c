-- A file that is cut.
use Rattle.std.proofs.Common.{◌≡◌, inl, ℕ, ◌≤◌, List, ◌++◌, length, take, drop, sym, ◌∙◌, ap, subst, arith}
use Rattle.std.proofs.lemmas.List.{length-take, take-take}
use Rattle.xa_disk.specs.declared.disk.Disk.{Ghosts}
use Rattle.xa_disk.specs.Disk.{Cut, Only}
use Rattle.xa_disk.specs.Images.{cut_same}
use Rattle.xa_disk.specs.Time.{TimePasses, LeavesOnly}
use Rattle.xa_log.specs.declared.format.Format.{Format}
use Rattle.xa_log.specs.Believed.Checkpoint.{LeavesNone}
use Rattle.xa_log.specs.Believed.Chain.{preamble}
use Rattle.xa_log.proofs.Header.{header_whole}
use Rattle.xa_log.proofs.Ready.{leaves_by}

-- by no call
pub uncut : {D : Type 0} (disks : Ghosts D) (to : ℕ) (d : D) → TimePasses disks (Cut to) d d
uncut disks to d = record {
  later = omega arith;
  follows = λ c now. (c, now, cut_same to c);
  nothing_else = λ t c le left. inl left;
  keeps = λ t c le left. left;
}

-- the header stays
pub cut_header : (format : Format) (to : ℕ) (old mid new : List ℕ) → 12 ≤ to → mid ≡ preamble format ++ drop 12 old → Cut to mid new → take 12 new ≡ preamble format
cut_header format to old mid new far made cut =
    ap (λ (l : List ℕ). take 12 l) cut.2 ∙ take-take 12 cut.0 mid (omega (arith, far, cut.1)) ∙ ap (λ (l : List ℕ). take 12 l) made ∙ header_whole format (drop 12 old)

-- a log of no records stays one
pub none_cut : (format : Format) (most to : ℕ) (d c : List ℕ) → 12 ≤ to → LeavesNone most format d → Cut to d c → LeavesNone most format c
none_cut format most to d c far none cut = record {
  fits = omega (arith, ap (λ (l : List ℕ). length l) cut.2, length-take cut.0 d, none.fits);
  front = ap (λ (l : List ℕ). take 12 l) cut.2 ∙ take-take 12 cut.0 d (omega (arith, far, cut.1)) ∙ none.front;
}

-- each image of it, too
pub none_left : {D : Type 0} (disks : Ghosts D) (format : Format) (most to : ℕ) (old new : D) → 12 ≤ to → LeavesNone most format (disks.seen old)
    → Only (disks.seen old) (disks.may_leave old) → TimePasses disks (Cut to) old new
    → (c : List ℕ) → disks.may_leave new c → LeavesNone most format c
none_left disks format most to old new far none only time c left =
    let x = time.follows c left in
    none_cut format most to x.0 c far (subst (λ f. LeavesNone most format f) (sym (only x.0 x.1)) none) x.2

pub none_meanwhile : {D : Type 0} (disks : Ghosts D) (format : Format) (most to : ℕ) (old new : D) → ((c : List ℕ) → disks.left_since old (disks.moment old) c → disks.may_leave old c)
    → 12 ≤ to → LeavesNone most format (disks.seen old) → Only (disks.seen old) (disks.may_leave old) → TimePasses disks (Cut to) old new
    → LeavesOnly disks old new (LeavesNone most format)
none_meanwhile disks format most to old new only_now far none only time =
    leaves_by disks old new (Cut to) (LeavesNone most format) only_now (cut_same to)
    (λ d c left cut. none_cut format most to d c far (subst (λ f. LeavesNone most format f) (sym (only d left)) none) cut) time
