-- A log that lacks its first length, and what the seal and its repair make of it.
use Rattle.std.proofs.Common.{◌≡◌, ◌⊎◌, inl, inr, ⊎_elim, ℕ, ◌+◌, ◌≤◌, ◌<◌, true, false, List, [], ◌∷◌, ◌++◌, length, take, drop, refl, sym, ◌∙◌, ap, arith, append_assoc, length-append, length-drop, take-append-drop, Option, is_some, Result, Ok, Err, OnOk, OnErr}
use Rattle.std.specs.Int.{w32, to_be_bytes}
use Rattle.std.proofs.lemmas.List.{drop_at, ext_get_or, get_or-drop}
use Rattle.xa_disk.specs.Disk.{put, Torn}
use Rattle.xa_disk.specs.Time.{TimePasses, LeavesOnly}
use Rattle.xa_disk.specs.declared.disk.Disk.{Ghosts}
use Rattle.xa_disk.specs.Images.{put_torn}
use Rattle.xa_log.specs.declared.format.Format.{Format}
use Rattle.xa_log.specs.Believed.Chain.{magic, start, preamble, last, logged, size_at, text, digest, format_of, record_of, records, headed, Rests}
use Rattle.xa_log.specs.Believed.Damage.{breaks_off, goes_on, is_damaged}
use Rattle.xa_log.specs.Answers.{FailedPut}
use Rattle.xa_log.specs.Believed.Pair.{has_log, IsCalm, Behind, CalmTears}
use Rattle.xa_log.specs.Believed.Checkpoint.{behind_front, first_length, IsReady, IsOther, LeavesOf}
use Rattle.xa_log.proofs.Records.{closed_zeros, format_front, format_magic, length-record_of, length-text, rests_logged}
use Rattle.xa_log.proofs.Torn.{torn_front, put_within}
use Rattle.xa_log.proofs.Header.{length-preamble, header_magic, header_rest, put_header}
use Rattle.xa_log.proofs.Pair.{calm_front, calm_logged, behind_torn}
use Rattle.xa_log.proofs.Whole.{behind_closing, closing_on, none_damaged, not_broken, zero_size}

pub map_ok : {T E : Type 0} (P Q : Type 0) (r : Result T E) → (P → Q) → OnOk r P → OnOk r Q
map_ok P Q (Ok x) f p = f p
map_ok P Q (Err e) f p = tt

pub map_err : {T E : Type 0} (P Q : Type 0) (r : Result T E) → (P → Q) → OnErr r P → OnErr r Q
map_err P Q (Ok x) f p = tt
map_err P Q (Err e) f p = f p

-- a step from what was there, at whichever moment
pub leaves_by : {D : Type 0} (disks : Ghosts D) (old new : D)
    (step : List ℕ → List ℕ → Type 0) (P : List ℕ → Type 0)
    → ((c : List ℕ) → disks.left_since old (disks.moment old) c → disks.may_leave old c) → ((c : List ℕ) → step c c)
    → ((d c : List ℕ) → disks.may_leave old d → step d c → P c)
    → TimePasses disks step old new → LeavesOnly disks old new P
leaves_by disks old new step P only_now same good time = record {
  later = time.later;
  each = λ c left. ⊎_elim (λ past. good c c (only_now c past) (same c)) (λ x. good x.0 c x.1 x.2) (time.nothing_else (disks.moment old) c (omega arith) left);
  before = λ t c le left. ⊎_elim (λ past. inl past) (λ x. inr (good x.0 c x.1 x.2)) (time.nothing_else t c le left);
}

-- ---- the first part

pub fell_calm : (tears : List ℕ → ℕ → List ℕ → List ℕ → Type 0) (format : Format) (stood : List (List ℕ)) (old new : List ℕ) → CalmTears tears
    → IsCalm stood old → FailedPut tears old 0 (preamble format) new → IsCalm stood new
fell_calm tears format stood old new lucky calm (inl is) = calm_front format stood new (drop 12 old) (is ∙ put_header format old)
fell_calm tears format stood old new lucky calm (inr torn) = lucky format stood old new calm torn

-- a torn front leaves what stood after it
pub other_torn : {D : Type 0} (disks : Ghosts D) (most : ℕ) (stood : List (List ℕ)) (old new : D) → 12 ≤ most
    → IsOther disks most stood old
    → Torn 0 12 (disks.seen old) (disks.seen new) → ((c : List ℕ) → disks.may_leave new c → (d : List ℕ) × disks.may_leave old d × Torn 0 12 d c)
    → IsOther disks most stood new
other_torn disks most stood old new room other torn follows = record {
  fits = omega (arith, torn.no_longer, other.fits);
  behind = behind_torn stood (disks.seen old) (disks.seen new) other.behind torn;
  left_fits = λ c left. let x = follows c left in let t : Torn 0 12 x.0 c = x.2 in omega (arith, t.no_longer, other.left_fits x.0 x.1);
  left_behind = λ c left. let x = follows c left in behind_torn stood x.0 c (other.left_behind x.0 x.1) x.2;
}

pub front_leaves : {D : Type 0} (disks : Ghosts D) (most : ℕ) (stood : List (List ℕ)) (old : D) → 12 ≤ most
    → IsOther disks most stood old
    → (d c : List ℕ) → disks.may_leave old d → Torn 0 12 d c → LeavesOf most stood c
front_leaves disks most stood old room other d c left torn = record {
  fits = omega (arith, torn.no_longer, other.left_fits d left);
  reads = calm_logged stood c (behind_torn stood d c (other.left_behind d left) torn);
}

-- ---- the seal

first_four : (prev : List ℕ) (bodies : List (List ℕ)) → 1 ≤ length bodies → take 4 (records prev bodies) ≡ to_be_bytes w32 (first_length bodies)
unfolding headed
first_four prev [] some = absurd (omega arith)
first_four prev (body ∷ bodies) some = refl

module _ (format : Format) (bodies : List (List ℕ)) (file : List ℕ) (ready : IsReady format bodies file) where
  abbrev length_bytes : List ℕ
  length_bytes = to_be_bytes w32 (first_length bodies)

  abbrev sealed : List ℕ
  sealed = put file 8 length_bytes

  abbrev zeros : List ℕ
  zeros = 0 ∷ 0 ∷ 0 ∷ 0 ∷ []

  -- what stands after the header
  abbrev behind : List ℕ
  behind = behind_front format bodies ++ ready.rest

  long : 12 ≤ length file
  long = omega (arith, ap length ready.split, length-append (preamble format) behind, length-preamble format)

  pub sealed_is : put file 8 (to_be_bytes w32 (first_length bodies)) ≡ text format bodies ++ (0 ∷ 0 ∷ 0 ∷ 0 ∷ ready.rest)
  sealed_is =
      let R : List ℕ = records (start format) bodies in
      put_within file 8 length_bytes (omega (arith, long))
      ∙ ap (λ (l : List ℕ). take 8 l ++ length_bytes ++ drop 12 l) ready.split
      ∙ (λ i. header_magic format behind i ++ length_bytes ++ header_rest format behind i)
      ∙ ap (λ (l : List ℕ). magic format ++ l ++ behind) (sym (first_four (start format) bodies ready.some))
      ∙ ap (λ (l : List ℕ). magic format ++ take 4 R ++ l) (append_assoc (drop 4 R) zeros ready.rest)
      ∙ append_assoc (magic format) (take 4 R) (drop 4 R ++ (zeros ++ ready.rest))
      ∙ ap (λ (l : List ℕ). magic format ++ l) (sym (append_assoc (take 4 R) (drop 4 R) (zeros ++ ready.rest)) ∙ ap (λ (l : List ℕ). l ++ (zeros ++ ready.rest)) (take-append-drop 4 R))
      ∙ sym (append_assoc (magic format) R (zeros ++ ready.rest))

  pub sealed_rests : Rests format bodies (put file 8 (to_be_bytes w32 (first_length bodies)))
  sealed_rests = record { rest = 0 ∷ 0 ∷ 0 ∷ 0 ∷ ready.rest; split = sealed_is; sizes = ready.sizes; closed = closed_zeros format (last (start format) bodies) ready.rest }

  -- a torn seal differs from the sealed file in the first 12 bytes alone
  pub torn_behind : (c : List ℕ) → Torn 8 4 file c → Behind bodies c
  torn_behind c t = inr (
    sealed,
    rests_logged format bodies sealed sealed_rests,
    record {
      no_shorter = omega (arith, whole.no_shorter, whole.no_longer, t.no_shorter, long);
      no_longer = omega (arith, whole.no_shorter, whole.no_longer, t.no_longer, long);
      below = λ i lt none. absurd (omega arith);
      above = λ i lt far.
          let within : i < length file = omega (arith, lt, whole.no_longer, long) in
          t.above i within (omega arith) ∙ sym (whole.above i within (omega arith));
    },
  )
    where
      whole : Torn 8 4 file (put file 8 (to_be_bytes w32 (first_length bodies)))
      whole = put_torn file 8 (to_be_bytes w32 (first_length bodies))

  pub seal_leaves : (most : ℕ) (c : List ℕ) → length file ≤ most → Torn 8 4 file c → LeavesOf most bodies c
  seal_leaves most c fits t = record { fits = omega (arith, t.no_longer, long); reads = calm_logged bodies c (torn_behind c t) }

  pub sealed_whole : (ready.rest ≡ []) ⊎ (take 1 ready.rest ≡ 0 ∷ []) → breaks_off format bodies (put file 8 (to_be_bytes w32 (first_length bodies))) ≡ false
  sealed_whole cleared = behind_closing format bodies sealed ready.rest sealed_is cleared

  text_long : 12 ≤ length (text format bodies)
  text_long = by bodies ready.some
    where
      by : (bs : List (List ℕ)) → 1 ≤ length bs → 12 ≤ length (text format bs)
      by [] some = absurd (omega arith)
      by (b ∷ bs) some = omega (arith, length-text format (b ∷ bs), length-append (record_of (start format) b) (records (digest (start format) b) bs), length-record_of (start format) b)

  -- whatever is left of a torn seal, without chance its log doesn't break off
  pub seal_whole : (ready.rest ≡ []) ⊎ (take 1 ready.rest ≡ 0 ∷ []) → (c : List ℕ) → Torn 8 4 file c → IsCalm bodies c → is_damaged c ≡ false
  unfolding is_damaged breaks_off
  seal_whole cleared c t calm = ⊎_elim its (λ none. none_damaged c log calm.headed none) (calm_logged bodies c (torn_behind c t) calm)
    where
      whole : Torn 8 4 file (put file 8 (to_be_bytes w32 (first_length bodies)))
      whole = put_torn file 8 (to_be_bytes w32 (first_length bodies))

      n : ℕ
      n = length (text format bodies)

      same : length c ≡ length sealed
      same = omega (arith, whole.no_shorter, whole.no_longer, t.no_shorter, t.no_longer, long)

      tail : drop n c ≡ drop n sealed
      tail = ext_get_or 0 (drop n c) (drop n sealed) (omega (arith, same, length-drop n c, length-drop n sealed))
          (λ i lt.
          let within : n + i < length file = omega (arith, lt, same, length-drop n c, whole.no_longer, long) in
          get_or-drop n c i 0 ∙ t.above (n + i) within (omega (arith, text_long)) ∙ sym (whole.above (n + i) within (omega (arith, text_long))) ∙ sym (get_or-drop n sealed i 0))

      front : take 8 c ≡ magic format
      front = torn_front 8 4 file c (omega (arith, long)) t ∙ ap (λ (l : List ℕ). take 8 l) ready.split ∙ header_magic format behind

      log : has_log c ≡ true
      log = ap (λ (o : Option Format). is_some o) (ap (λ (l : List ℕ). format_of l) front ∙ format_magic format)

      its : logged c ≡ bodies → is_damaged c ≡ false
      its is =
          let behind : drop n c ≡ 0 ∷ 0 ∷ 0 ∷ 0 ∷ ready.rest = tail ∙ ap (λ (l : List ℕ). drop n l) sealed_is ∙ drop_at (text format bodies) (0 ∷ 0 ∷ 0 ∷ 0 ∷ ready.rest) n refl in
          (λ i. breaks_off (format_front format c front i) (is i) c)
          ∙ not_broken format bodies c (ap size_at behind ∙ zero_size ready.rest) (ap goes_on behind ∙ closing_on ready.rest cleared)

  -- the repair gives the file back
  pub seal_cleared : (mid new : List ℕ) → Torn 8 4 file mid → new ≡ put mid 8 (0 ∷ 0 ∷ 0 ∷ 0 ∷ []) → new ≡ file
  seal_cleared mid new t is =
      let same : length mid ≡ length file = omega (arith, t.no_shorter, t.no_longer, long) in
      let tail : drop 12 mid ≡ drop 12 file = ext_get_or 0 (drop 12 mid) (drop 12 file) (omega (arith, same, length-drop 12 mid, length-drop 12 file))
      (λ i lt. let within : 12 + i < length file = omega (arith, lt, same, length-drop 12 mid) in get_or-drop 12 mid i 0 ∙ t.above (12 + i) within
      (omega arith) ∙ sym (get_or-drop 12 file i 0)) in
      is ∙ put_within mid 8 zeros (omega (arith, same, long))
      ∙ (λ i. torn_front 8 4 file mid (omega (arith, long)) t i ++ zeros ++ tail i)
      ∙ ap (λ (l : List ℕ). take 8 l ++ zeros ++ drop 12 l) ready.split
      ∙ (λ i. header_magic format behind i ++ zeros ++ header_rest format behind i)
      ∙ sym ready.split
