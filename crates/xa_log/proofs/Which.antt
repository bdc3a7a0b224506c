-- Which log two files have.
use Rattle.std.proofs.Common.{◌≡◌, inl, inr, ⊎_elim, ℕ, zero, suc, ◌≤◌, ◌<◌, Bool, true, false, not, List, [], ◌∷◌, ◌++◌, length, take, drop, get_or, refl, sym, ◌∙◌, ap, subst, arith, cond, Option, is_some}
use Rattle.std.proofs.lemmas.Bool.{cases_Bool, and_left, and_from, or_left}
use Rattle.xa_disk.specs.Disk.{Torn}
use Rattle.xa_log.specs.declared.format.Format.{Format}
use Rattle.xa_log.specs.declared.format.Format.TheVariants.{One, Two}
use Rattle.xa_log.specs.Believed.Chain.{Rests, format_of, logged}
use Rattle.xa_log.specs.Believed.Group.{IsFirstPart}
use Rattle.xa_log.specs.Reading.{is_newer}
use Rattle.xa_log.specs.Believed.Damage.{is_damaged}
use Rattle.xa_log.specs.Believed.Pair.{beats, fault_pair, has_log, on_first, logged_of}
use Rattle.xa_log.specs.Believed.Laws.{IsLogOf, BehindLaw, PairLaw, AppendLaw, HeaderLaw, SealLaw, StrayLaw}
use Rattle.xa_log.proofs.Records.{format_magic, rests_logged}
use Rattle.xa_log.proofs.Header.{magic_known}
use Rattle.xa_log.proofs.Pair.{calm_logged, wins_no_fault, alone_no_fault, pair_log, beats_read, beats_nil, beats_above}
use Rattle.xa_log.proofs.Grouped.{beats_group}
use Rattle.xa_log.proofs.Parts.{none_calm, none_of, rests_magic}
use Rattle.xa_log.proofs.Whole.{damaged_headed, whole_file}

has : (most : ℕ) (bodies : List (List ℕ)) (file : List ℕ) → IsLogOf most bodies file → has_log file ≡ true
has most bodies file l = ap (λ (o : Option Format). is_some o) (ap (λ (x : List ℕ). format_of x) (rests_magic l.format bodies file l.rests) ∙ format_magic l.format)

known : (most : ℕ) (bodies : List (List ℕ)) (file : List ℕ) → IsLogOf most bodies file → is_newer (take 8 file) ≡ false
known most bodies file l = ap (λ (x : List ℕ). is_newer x) (rests_magic l.format bodies file l.rests) ∙ magic_known l.format

its : (most : ℕ) (bodies : List (List ℕ)) (file : List ℕ) → IsLogOf most bodies file → logged file ≡ bodies
its most bodies file l = rests_logged l.format bodies file l.rests

its_whole : (most : ℕ) (bodies : List (List ℕ)) (file : List ℕ) → IsLogOf most bodies file → is_damaged file ≡ false
its_whole most bodies file l = whole_file l.format bodies file l.rests l.whole

pub pair_law : PairLaw
pair_law most first bodies stood current other l leaves calm wins = (
  wins_no_fault most bodies current other (has most bodies current l) (known most bodies current l) l.fits (its most bodies current l) leaves.fits calm.known calm.headed
      (its_whole most bodies current l) first (beats_read first bodies stood other wins (leaves.reads calm)),
  pair_log most bodies current other (has most bodies current l) (known most bodies current l) l.fits
      (its most bodies current l) leaves.fits calm.known first (beats_read first bodies stood other wins (leaves.reads calm)),
)

pub behind_law : BehindLaw
behind_law most stood other fits behind = record { fits = fits; reads = calm_logged stood other behind }

pub append_law : AppendLaw
append_law most first format bodies group stood current other left plain leaves calm wins =
    let part : IsFirstPart format bodies group current = left.reads plain in
    let it =
    pair_law most first (bodies ++ take part.many group) stood current other (record { format = format; fits = left.fits; rests = part.rests; whole = part.whole }) leaves calm
    (beats_group first bodies (take part.many group) stood wins) in
    (it.0, record { many = part.many; within = part.within; is = it.1 })

pub header_law : HeaderLaw
header_law most first format bodies current other l none =
    pair_law most first bodies [] current other l (none_of format most [] other none) (none_calm format [] other none.front) (beats_nil first bodies)

-- where the other file is no log
alone : (first : Bool) (current other : List ℕ) → has_log current ≡ true → has_log other ≡ false → logged_of first current other ≡ logged current
alone true current other is none =
    let on : on_first current other ≡ true = and_from (has_log current) _ is (or_left (not (has_log other)) _ (ap not none)) in
    ap (λ (x : Bool). cond x (logged current) (logged other)) on
alone false current other is none =
    let off : on_first other current ≡ false = and_left (has_log other) _ none in
    ap (λ (x : Bool). cond x (logged other) (logged current)) off

other_way : (first : Bool) (current other : List ℕ) → logged_of first current other ≡ logged_of (not first) other current
other_way true current other = refl
other_way false current other = refl

fault_way : (most : ℕ) (first : Bool) (current other : List ℕ) → fault_pair most first current other ≡ fault_pair most (not first) other current
fault_way most true current other = refl
fault_way most false current other = refl

pub seal_law : SealLaw
seal_law most first bodies fresh current other l leaves calm above =
    let log = has most bodies current l in
    let old = known most bodies current l in
    let mine = its most bodies current l in
    let whole = its_whole most bodies current l in
    let fits : length other ≤ most = leaves.0.fits in
    ⊎_elim
    (λ is. elim (cases_Bool (has_log other)) [
      | inl there ↦
          let wins : beats (not first) fresh (logged current) ≡ true = ap (λ (x : List (List ℕ)). beats (not first) fresh x) mine ∙ beats_above (not first) fresh bodies above in (
            fault_way most first current other
                ∙ wins_no_fault most fresh other current there calm.known fits is l.fits old (damaged_headed current whole) (leaves.2 calm) (not first) wins,
            inr (other_way first current other ∙ pair_log most fresh other current there calm.known fits is l.fits old (not first) wins),
          )
      | inr none ↦ (
        alone_no_fault most bodies current other log old l.fits mine fits calm.known calm.headed whole first none,
        inl (alone first current other log none ∙ mine),
      )
    ])
    (λ none.
    let wins : beats first bodies (logged other) ≡ true = ap (λ (x : List (List ℕ)). beats first bodies x) none ∙ beats_nil first bodies in (
      wins_no_fault most bodies current other log old l.fits mine fits calm.known calm.headed whole first wins,
      inl (pair_log most bodies current other log old l.fits mine fits calm.known first wins),
    ))
    (leaves.0.reads calm)

begins_with : (format : Format) (bodies : List (List ℕ)) (file : List ℕ) → Rests format bodies file → file ≡ 88 ∷ drop 1 file
begins_with One bodies file rests = rests.split ∙ ap (λ (l : List ℕ). 88 ∷ drop 1 l) (sym rests.split)
begins_with Two bodies file rests = rests.split ∙ ap (λ (l : List ℕ). 88 ∷ drop 1 l) (sym rests.split)

-- Any log is a torn write away from a file that is none: one whose first byte differs.
pub stray_law : StrayLaw
stray_law format bodies file rests = (0 ∷ drop 1 file, refl, torn, rests_logged format bodies file rests)
  where
    first : file ≡ 88 ∷ drop 1 file
    first = begins_with format bodies file rests

    from : Torn 0 12 (0 ∷ drop 1 file) (88 ∷ drop 1 file)
    from = record {
      no_shorter = omega arith;
      no_longer = omega arith;
      below = λ i lt none. absurd (omega arith);
      above = above;
    }
      where
        above : (i : ℕ) → i < length {A = ℕ} (0 ∷ drop 1 file) → 12 ≤ i → get_or (88 ∷ drop 1 file) i 0 ≡ get_or (0 ∷ drop 1 file) i 0
        above zero lt far = absurd (omega arith)
        above (suc i) lt far = refl

    torn : Torn 0 12 (0 ∷ drop 1 file) file
    torn = subst (λ f. Torn 0 12 (0 ∷ drop 1 file) f) (sym first) from
