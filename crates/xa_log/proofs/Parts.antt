-- A checkpoint's parts, one after the other.
use Rattle.std.proofs.Common.{◌≡◌, ◌≢◌, ◌⊎◌, inl, inr, ⊎_elim, ℕ, zero, suc, ◌+◌, ◌≤◌, Bool, true, false, List, [], ◌∷◌, ◌++◌, length, take, drop, replicate, refl, sym, ◌∙◌, ap, subst, arith, append_assoc, length-append, length-drop, cond, Option, is_some, Result, Err, OnErr}
use Rattle.std.specs.List.{AllByRecursion}
use Rattle.std.specs.Int.{w32, to_be_bytes}
use Rattle.xa_disk.specs.Disk.{put, Torn, Only, AllOrNone}
use Rattle.xa_disk.specs.Time.{TimePasses, LeavesOnly}
use Rattle.xa_disk.specs.declared.disk.Disk.{Ghosts}
use Rattle.xa_disk.specs.Images.{torn_same, put_torn}
use Rattle.xa_log.specs.declared.format.Format.{Format}
use Rattle.xa_log.specs.Believed.Chain.{magic, start, preamble, format_of, format_in, records, IsBody, Rests, logged, begins, body_at, rest_at, digest_at, bodies_from}
use Rattle.xa_log.specs.Reading.{is_newer}
use Rattle.xa_log.specs.Answers.{FailedPut, PutBecame}
use Rattle.xa_log.specs.declared.appending.Appended.{Appended}
use Rattle.xa_log.specs.declared.appending.Appended.TheVariants.{Kept, Refused, Lost, Full}
use Rattle.xa_log.specs.Believed.Pair.{has_log, IsCalm, Behind}
use Rattle.std.proofs.lemmas.Bool.{cases_Bool}
use Rattle.xa_log.specs.Believed.Damage.{breaks_off, is_headless}
use Rattle.xa_log.specs.Believed.Checkpoint.{behind_front, first_length, records_bytes, IsComplete, IsReady, IsOther, IsQuiet, LeavesOf, LeavesNone, LeavesSealed, LeavesAny, SealTears, Checkpointed}
use Rattle.std.proofs.lemmas.List.{take_at}
use Rattle.xa_log.proofs.Records.{format_magic, length-magic, record_to, bodies_closed, rests_logged}
use Rattle.xa_log.proofs.Torn.{torn_front, put_within}
use Rattle.xa_log.proofs.Header.{length-preamble, header_magic, header_split, header_whole, magic_known}
use Rattle.xa_log.proofs.Pair.{calm_front, header_none}
use Rattle.xa_log.proofs.Ready.{leaves_by, sealed_rests, sealed_whole, seal_leaves, seal_whole, seal_cleared}
use Rattle.xa_log.proofs.Whole.{begun_headed, damaged_headed, whole_file}

-- one call after another
pub leaves_then : {D : Type 0} (disks : Ghosts D) (a b c : D) (P Q R : List ℕ → Type 0)
    → ((x : List ℕ) → P x → R x) → ((x : List ℕ) → Q x → R x)
    → LeavesOnly disks a b P → LeavesOnly disks b c Q → LeavesOnly disks a c R
leaves_then disks a b c P Q R f g p q = record {
  later = omega (arith, p.later, q.later);
  each = λ x left. ⊎_elim (λ past. f x (p.each x past)) (λ now. g x now) (q.before (disks.moment a) x p.later left);
  before = λ t x le left. ⊎_elim (λ past. ⊎_elim (λ was. inl was) (λ then. inr (f x then)) (p.before t x le past)) (λ now. inr (g x now))
      (q.before t x (omega (arith, le, p.later)) left);
}

pub leaves_more : {D : Type 0} (disks : Ghosts D) (a b : D) (P R : List ℕ → Type 0) → ((x : List ℕ) → P x → R x)
    → LeavesOnly disks a b P → LeavesOnly disks a b R
leaves_more disks a b P R f p = record {
  later = p.later;
  each = λ x left. f x (p.each x left);
  before = λ t x le left. ⊎_elim (λ was. inl was) (λ then. inr (f x then)) (p.before t x le left);
}

-- ---- after a whole header and a length 0

pub none_calm : (format : Format) (stood : List (List ℕ)) (c : List ℕ) → take 12 c ≡ preamble format → IsCalm stood c
none_calm format stood c front = calm_front format stood c (drop 12 c) (header_split format c front)

none_logged : (format : Format) (c : List ℕ) → take 12 c ≡ preamble format → logged c ≡ []
none_logged format c front = bodies_closed (format_in c) (length c) (start (format_in c)) (drop 8 c) (header_none format c (drop 12 c) (header_split format c front))

pub none_of : (format : Format) (most : ℕ) (stood : List (List ℕ)) (c : List ℕ) → LeavesNone most format c → LeavesOf most stood c
none_of format most stood c none = record { fits = none.fits; reads = λ calm. inr (none_logged format c none.front) }

pub none_long : (format : Format) (most : ℕ) (c : List ℕ) → LeavesNone most format c → 12 ≤ length c
none_long format most c none = omega (arith, ap (λ (l : List ℕ). length l) (header_split format c none.front), length-append (preamble format) (drop 12 c), length-preamble format)

pub none_torn : (format : Format) (most n : ℕ) (d c : List ℕ) → 12 + n ≤ most → LeavesNone most format d → Torn 12 n d c → LeavesNone most format c
none_torn format most n d c room none torn = record {
  fits = omega (arith, torn.no_longer, none.fits, room);
  front = torn_front 12 n d c (none_long format most d none) torn ∙ none.front;
}

-- at each moment while the records are written
pub during : {D : Type 0} (format : Format) (disks : Ghosts D) (old new : D) (n : ℕ) → ((c : List ℕ) → disks.left_since old (disks.moment old) c → disks.may_leave old c)
    → TimePasses disks (Torn 12 n) old new
    → (most : ℕ) → 12 + n ≤ most → ((c : List ℕ) → disks.may_leave old c → LeavesNone most format c)
    → LeavesOnly disks old new (LeavesNone most format)
during format disks old new n only_now time most room each =
    leaves_by disks old new (Torn 12 n) (LeavesNone most format) only_now (torn_same 12 n)
    (λ d c left torn. none_torn format most n d c room (each d left) torn) time

-- at each moment of all three parts, one after the other
module _ {D : Type 0} (disks : Ghosts D) (most : ℕ) (format : Format) (stood bodies : List (List ℕ))
    (a b c : D) where
  abbrev Any : List ℕ → Type 0
  Any x = LeavesAny most format stood bodies x

  pub first_part : LeavesOnly disks a b (LeavesOf most stood) → LeavesOnly disks a b (LeavesAny most format stood bodies)
  first_part p = leaves_more disks a b (LeavesOf most stood) Any (λ x leaves. inl leaves) p

  pub second_part : LeavesOnly disks a b (LeavesOf most stood) → LeavesOnly disks b c (LeavesNone most format)
      → LeavesOnly disks a c (LeavesAny most format stood bodies)
  second_part p q = leaves_then disks a b c (LeavesOf most stood) (LeavesNone most format) Any (λ x leaves. inl leaves) (λ x none. inr (inl none)) p q

  pub third_part : LeavesOnly disks a b (LeavesAny most format stood bodies) → LeavesOnly disks b c (LeavesSealed most bodies)
      → LeavesOnly disks a c (LeavesAny most format stood bodies)
  third_part p q = leaves_then disks a b c Any (LeavesSealed most bodies) Any (λ x leaves. leaves) (λ x leaves. inr (inr leaves)) p q

-- a file of which only such images are left
pub others_none : {D : Type 0} (format : Format) (disks : Ghosts D) (most : ℕ) (disk : D)
    → LeavesNone most format (disks.seen disk) → ((c : List ℕ) → disks.may_leave disk c → LeavesNone most format c)
    → IsOther disks most [] disk × IsQuiet disks [] disk
others_none format disks most disk none each = (
  record { fits = none.fits; behind = inl refl; left_fits = λ c left. (each c left).fits; left_behind = λ c left. inl refl },
  record { calm = none_calm format [] (disks.seen disk) none.front; left_calm = λ c left. none_calm format [] c (each c left).front },
)

-- the first part's result
pub opened_none : (format : Format) (most : ℕ) (old new : List ℕ) → 12 ≤ most → length old ≤ most → new ≡ preamble format ++ drop 12 old
    → LeavesNone most format new
opened_none format most old new room fits is = record {
  fits = omega (arith, ap (λ (l : List ℕ). length l) is, length-append (preamble format) (drop 12 old), length-preamble format, length-drop 12 old);
  front = ap (λ (l : List ℕ). take 12 l) is ∙ header_whole format (drop 12 old);
}

cleared_rest : (more : ℕ) (tail : List ℕ) → (1 ≤ more) ⊎ (length tail ≤ 0) → (replicate more 0 ++ tail ≡ []) ⊎ (take 1 (replicate more 0 ++ tail) ≡ 0 ∷ [])
cleared_rest zero tail (inl some) = absurd (omega arith)
cleared_rest zero [] (inr none) = inl refl
cleared_rest zero (b ∷ tail) (inr none) = absurd (omega (arith, none))
cleared_rest (suc more) tail room = inr refl

-- what stands after the preamble is as long as the records
front_length : (format : Format) (bodies : List (List ℕ)) → records_bytes format bodies ≤ length (behind_front format bodies)
front_length format bodies =
    omega (arith, length-append (drop 4 (records (start format) bodies)) (0 ∷ 0 ∷ 0 ∷ 0 ∷ []), length-drop 4 (records (start format) bodies))

-- the second's
pub records_ready : (more : ℕ) (format : Format) (bodies : List (List ℕ)) (mid new : List ℕ) → take 12 mid ≡ preamble format → 12 ≤ length mid
    → AllByRecursion (IsBody format) bodies → 1 ≤ length bodies → new ≡ put mid 12 (behind_front format bodies ++ replicate more 0)
    → (ready : IsReady format bodies new) × (ready.rest ≡ replicate more 0 ++ drop (12 + length (behind_front format bodies ++ replicate more 0)) mid)
records_ready more format bodies mid new front long sizes some is =
    let all : List ℕ = behind_front format bodies ++ replicate more 0 in
    let tail : List ℕ = drop (12 + length all) mid in (
      record {
        rest = replicate more 0 ++ tail;
        split = is ∙ put_within mid 12 all long
            ∙ ap (λ (l : List ℕ). l ++ all ++ tail) front
            ∙ append_assoc (preamble format) all tail
            ∙ ap (λ (l : List ℕ). preamble format ++ l) (append_assoc (behind_front format bodies) (replicate more 0) tail);
        sizes = sizes;
        some = some;
      },
      refl,
    )

pub records_complete : (more : ℕ) (format : Format) (bodies : List (List ℕ)) (mid new : List ℕ) → take 12 mid ≡ preamble format → 12 ≤ length mid
    → AllByRecursion (IsBody format) bodies → 1 ≤ length bodies → new ≡ put mid 12 (behind_front format bodies ++ replicate more 0)
    → (1 ≤ more) ⊎ (length mid ≤ 12 + records_bytes format bodies) → IsComplete format bodies new
records_complete more format bodies mid new front long sizes some is room =
    let all : List ℕ = behind_front format bodies ++ replicate more 0 in
    let tail : List ℕ = drop (12 + length (behind_front format bodies ++ replicate more 0)) mid in
    let it = records_ready more format bodies mid new front long sizes some is in
    record {
      ready = it.0;
      cleared = subst (λ (l : List ℕ). (l ≡ []) ⊎ (take 1 l ≡ 0 ∷ [])) (sym it.1)
          (cleared_rest more tail (⊎_elim (λ some. inl some)
          (λ short. inr (omega (arith, short, length-drop (12 + length all) mid, length-append (behind_front format bodies) (replicate {A = ℕ} more 0), front_length format bodies))) room));
    }

ready_front : (format : Format) (bodies : List (List ℕ)) (file : List ℕ) → IsReady format bodies file → take 12 file ≡ preamble format
ready_front format bodies file ready = ap (λ (l : List ℕ). take 12 l) ready.split ∙ header_whole format (behind_front format bodies ++ ready.rest)

-- ---- a log's own bytes are no chance

pub calm_log : (bodies : List (List ℕ)) (file : List ℕ) → is_newer (take 8 file) ≡ false → is_headless file ≡ false → logged file ≡ bodies → IsCalm bodies file
calm_log bodies file known headed is =
    record { known = known; only = λ there. first (length file) bodies there (long there) is; many = λ there. ap (λ (l : List (List ℕ)). length l) is; headed = headed }
  where
    long : begins file ≡ true → 1 ≤ length file
    long there = omega (arith, (record_to (format_in file) (start (format_in file)) (drop 8 file) there).whole, length-drop 8 file)

    first : (m : ℕ) (bs : List (List ℕ)) → begins file ≡ true → 1 ≤ m → bodies_from (format_in file) m (start (format_in file)) (drop 8 file) ≡ bs → take 1 bs ≡ body_at (drop 8 file) ∷ []
    first zero bs there some same = absurd (omega arith)
    first (suc m) bs there some same =
        let x : List ℕ = drop 8 file in
        let prev : List ℕ = start (format_in file) in
        ap (λ (l : List (List ℕ)). take 1 l) (sym same)
        ∙ ap (λ (b : Bool). take 1 (cond b (body_at x ∷ bodies_from (format_in file) m (digest_at prev x) (rest_at x)) [])) there

pub rests_magic : (format : Format) (bodies : List (List ℕ)) (file : List ℕ) → Rests format bodies file → take 8 file ≡ magic format
rests_magic format bodies file r =
    ap (λ (l : List ℕ). take 8 l) (r.split ∙ append_assoc (magic format) (records (start format) bodies) r.rest)
    ∙ take_at (magic format) (records (start format) bodies ++ r.rest) 8 (length-magic format)

pub calm_rests : (format : Format) (bodies : List (List ℕ)) (file : List ℕ) → Rests format bodies file → breaks_off format bodies file ≡ false → IsCalm bodies file
calm_rests format bodies file r whole =
    calm_log bodies file (ap (λ (l : List ℕ). is_newer l) (rests_magic format bodies file r) ∙ magic_known format) (damaged_headed file (whole_file format bodies file r whole))
    (rests_logged format bodies file r)

-- what was the current file
pub others_log : {D : Type 0} (format : Format) (disks : Ghosts D) (most : ℕ) (bodies : List (List ℕ)) (disk : D)
    → Rests format bodies (disks.seen disk) → breaks_off format bodies (disks.seen disk) ≡ false → length (disks.seen disk) ≤ most → Only (disks.seen disk) (disks.may_leave disk)
    → IsOther disks most bodies disk × IsQuiet disks bodies disk
others_log format disks most bodies disk r whole fits only = (
  record {
    fits = fits;
    behind = behind;
    left_fits = λ c left. omega (arith, ap (λ (l : List ℕ). length l) (only c left), fits);
    left_behind = λ c left. subst (λ f. Behind bodies f) (sym (only c left)) behind;
  },
  record { calm = calm_rests format bodies (disks.seen disk) r whole; left_calm = λ c left. subst (λ f. IsCalm bodies f) (sym (only c left)) (calm_rests format bodies (disks.seen disk) r whole) },
)
  where
    behind : Behind bodies (disks.seen disk)
    behind = inr (disks.seen disk, rests_logged format bodies (disks.seen disk) r, torn_same 0 12 (disks.seen disk))

-- ---- the seal's answers

ready_long : (format : Format) (bodies : List (List ℕ)) (file : List ℕ) → IsReady format bodies file → 12 ≤ length file
ready_long format bodies file ready =
    omega (arith, ap (λ (l : List ℕ). length l) ready.split, length-append (preamble format) (behind_front format bodies ++ ready.rest), length-preamble format)

-- a torn seal leaves the header
pub seal_log : (format : Format) (bodies : List (List ℕ)) (file : List ℕ) → IsReady format bodies file → (c : List ℕ) → Torn 8 4 file c → has_log c ≡ true
seal_log format bodies file ready c torn =
    let front : take 8 c ≡ magic format =
    torn_front 8 4 file c (omega (arith, ready_long format bodies file ready)) torn ∙ ap (λ (l : List ℕ). take 8 l) ready.split ∙ header_magic format (behind_front format bodies ++ ready.rest) in
    ap (λ (o : Option Format). is_some o) (ap (λ (l : List ℕ). format_of l) front ∙ format_magic format)

pub seal_sealed : (format : Format) (bodies : List (List ℕ)) (file : List ℕ) → IsComplete format bodies file → (most : ℕ) (c : List ℕ) → length file ≤ most → Torn 8 4 file c → LeavesSealed most bodies c
seal_sealed format bodies file it most c fits torn = (
  seal_leaves format bodies file it.ready most c fits torn,
  seal_log format bodies file it.ready c torn,
  seal_whole format bodies file it.ready it.cleared c torn,
)

module _ {D : Type 0} (format : Format) (disks : Ghosts D)
    (most : ℕ) (stood bodies : List (List ℕ)) (old mid new : D) (complete : IsComplete format bodies (disks.seen mid)) (fits : length (disks.seen mid) ≤ most)
    (durable : Only (disks.seen mid) (disks.may_leave mid)) where
  abbrev ready : IsReady format bodies (disks.seen mid)
  ready = complete.ready

  abbrev seal : List ℕ
  seal = to_be_bytes w32 (first_length bodies)

  long : 12 ≤ length (disks.seen mid)
  long = ready_long format bodies (disks.seen mid) ready

  pub sealed : (o : Appended) → o ≢ Full → PutBecame disks.tears o 8 (to_be_bytes w32 (first_length bodies)) (disks.seen mid) (disks.seen new) (disks.may_leave new)
      → ((c : List ℕ) → disks.may_leave new c → (d : List ℕ) × disks.may_leave mid d × Torn 8 4 d c)
      → Checkpointed disks o most format stood bodies old new
  sealed Kept other went follows =
      let whole : Torn 8 4 (disks.seen mid) (put (disks.seen mid) 8 seal) = put_torn (disks.seen mid) 8 seal in (
        subst (λ f. Rests format bodies f) (sym went.0) (sealed_rests format bodies (disks.seen mid) ready),
        omega (arith, ap (λ (l : List ℕ). length l) went.0, whole.no_longer, long, fits),
        went.1,
        subst (λ f. breaks_off format bodies f ≡ false) (sym went.0) (sealed_whole format bodies (disks.seen mid) ready complete.cleared),
      )
  sealed Refused other went follows =
      let same : disks.seen new ≡ disks.seen mid = seal_cleared format bodies (disks.seen mid) ready went.0 (disks.seen new) went.1 went.2 in
      let none : LeavesNone most format (disks.seen mid) = record { fits = fits; front = ready_front format bodies (disks.seen mid) ready } in
      let now : LeavesNone most format (disks.seen new) = subst (λ f. LeavesNone most format f) (sym same) none in
      inr (others_none format disks most new now (λ c left. subst (λ f. LeavesNone most format f) (sym (went.3 c left)) now))
  sealed Lost other went follows = (
    seal_sealed format bodies (disks.seen mid) complete most (disks.seen new) fits went.0,
    (λ lucky. lucky format bodies (disks.seen mid) went.1 (disks.seen new) ready went.2 went.3),
    (λ c left. let x = follows c left in seal_sealed format bodies (disks.seen mid) complete most c fits (subst (λ f. Torn 8 4 f c) (durable x.0 x.1) x.2)),
  )
  sealed Full other went follows = absurd (other refl)

-- what was sealed begins with its first record
calm_sealed_file : (format : Format) (bodies : List (List ℕ)) (file : List ℕ) → IsReady format bodies file → IsCalm bodies (put file 8 (to_be_bytes w32 (first_length bodies)))
calm_sealed_file format bodies file ready =
    let new : List ℕ = put file 8 (to_be_bytes w32 (first_length bodies)) in
    let r = sealed_rests format bodies file ready in
    let is = rests_logged format bodies new r in
    calm_log bodies new (ap (λ (l : List ℕ). is_newer l) (rests_magic format bodies new r) ∙ magic_known format)
    (elim (cases_Bool (begins new)) [
      | inl there ↦ begun_headed new there
      | inr other ↦
          let none : logged new ≡ [] = bodies_closed (format_in new) (length new) (start (format_in new)) (drop 8 new) other in
          absurd (omega (arith, ready.some, ap (λ (l : List (List ℕ)). length l) (sym is ∙ none)))
    ])
    is

-- ---- a disk in memory

pub seal_in_memory : SealTears AllOrNone
seal_in_memory format bodies old mid new ready first second = after second
  where
    calm_old : IsCalm bodies old
    calm_old = none_calm format bodies old (ready_front format bodies old ready)

    calm_sealed : mid ≡ put old 8 (to_be_bytes w32 (first_length bodies)) → IsCalm bodies mid
    calm_sealed is = subst (λ f. IsCalm bodies f) (sym is) (calm_sealed_file format bodies old ready)

    torn_mid : FailedPut AllOrNone old 8 (to_be_bytes w32 (first_length bodies)) mid → Torn 8 4 old mid
    torn_mid (inl is) = subst (λ f. Torn 8 4 old f) (sym is) (put_torn old 8 (to_be_bytes w32 (first_length bodies)))
    torn_mid (inr (inl is)) = subst (λ f. Torn 8 4 old f) (sym is) (torn_same 8 4 old)
    torn_mid (inr (inr is)) = subst (λ f. Torn 8 4 old f) (sym is) (put_torn old 8 (to_be_bytes w32 (first_length bodies)))

    calm_mid : FailedPut AllOrNone old 8 (to_be_bytes w32 (first_length bodies)) mid → IsCalm bodies mid
    calm_mid (inl is) = calm_sealed is
    calm_mid (inr (inl is)) = subst (λ f. IsCalm bodies f) (sym is) calm_old
    calm_mid (inr (inr is)) = calm_sealed is

    cleared : new ≡ put mid 8 (0 ∷ 0 ∷ 0 ∷ 0 ∷ []) → IsCalm bodies new
    cleared is = subst (λ f. IsCalm bodies f) (sym (seal_cleared format bodies old ready mid new (torn_mid first) is)) calm_old

    after : FailedPut AllOrNone mid 8 (0 ∷ 0 ∷ 0 ∷ 0 ∷ []) new → IsCalm bodies new
    after (inl is) = cleared is
    after (inr (inl is)) = subst (λ f. IsCalm bodies f) (sym is) (calm_mid first)
    after (inr (inr is)) = cleared is

pub at_err : {T E : Type 0} (P : Type 0) (r : Result T E) (e : E) → r ≡ Err e → OnErr r P → P
at_err P r e is p = subst (λ x. OnErr x P) is p
