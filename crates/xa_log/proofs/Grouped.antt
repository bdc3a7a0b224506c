-- What each step of a group's append leaves.
use Rattle.std.proofs.Common.{◌≡◌, ◌≢◌, ◌⊎◌, inl, inr, ⊎_elim, ℕ, zero, suc, ◌+◌, ◌≤◌, Bool, true, false, cond, List, [], ◌∷◌, ◌++◌, length, take, drop, replicate, refl, sym, ◌∙◌, ap, subst, arith, append_assoc, length-append, nat_eq}
use Rattle.std.specs.List.{AllByRecursion}
use Rattle.std.proofs.lemmas.Bool.{cases_Bool}
use Rattle.std.proofs.lemmas.List.{append-nil, drop_at, take_at, take-append-drop, length-replicate}
use Rattle.xa_disk.specs.Disk.{put, Torn, Only}
use Rattle.xa_disk.specs.Time.{TimePasses, LeavesOnly}
use Rattle.xa_disk.specs.declared.disk.Disk.{Ghosts}
use Rattle.xa_disk.specs.Images.{torn_same, put_torn}
use Rattle.xa_log.specs.Answers.{Wrote, PutAheadBecame, FailedPut, FailedPutAhead}
use Rattle.xa_log.specs.Believed.Chain.{start, last, text, closing, IsBody, behind_text, digest, record_of, records, is_record, digest_at, rest_at, size_at, Rests}
use Rattle.xa_log.specs.Believed.Damage.{breaks_off, AreAppended}
use Rattle.xa_log.specs.Believed.Group.{group_bytes, as_one, first_of_group, closed, closed_by, HasFirstPart, IsFirstPart, IsPlain}
use Rattle.xa_log.specs.Believed.Pair.{number_in, generation, beats}
use Rattle.xa_log.specs.Believed.Stands.{Answers, Leaves, MayStand, Stands}
use Rattle.xa_log.specs.declared.appending.Appended.{Appended}
use Rattle.xa_log.specs.declared.appending.Appended.TheVariants.{Kept, Refused, Lost, Full}
use Rattle.xa_log.specs.declared.format.Format.{Format}
use Rattle.xa_log.specs.Believed.LogView.{LogView}
use Rattle.xa_log.proofs.Again.{no_fault}
use Rattle.xa_log.proofs.Append.{torn_begins, begins_same, refused, generation_more}
use Rattle.xa_log.proofs.Records.{length-record_of, text_more, sizes_more, closed_zeros}
use Rattle.xa_log.proofs.Torn.{torn_then, put_within}
use Rattle.xa_log.proofs.Tried.{torn_wider, torn_wrote}
use Rattle.xa_log.proofs.Two.{beats_more}
use Rattle.xa_log.proofs.Whole.{not_broken, whole_more, zero_size, zeros_on, zeros_size}

-- ---- bytes

pub length-records : (prev : List ℕ) (group : List (List ℕ)) → length (records prev group) ≡ group_bytes group
length-records prev [] = refl
length-records prev (body ∷ group) =
    omega (arith, length-append (record_of prev body) (records (digest prev body) group), length-record_of prev body, length-records (digest prev body) group)

pub bytes_as_one : (group : List (List ℕ)) → 1 ≤ length group → group_bytes group ≡ 36 + as_one group
bytes_as_one [] some = absurd (omega arith)
bytes_as_one (body ∷ group) some = omega arith

pub length-closed : (prev : List ℕ) (group : List (List ℕ)) → length (closed prev group) ≡ group_bytes group + 4
length-closed prev group = omega (arith, length-append (records prev group) closing, length-records prev group)

pub length-closed_by : (more : ℕ) (prev : List ℕ) (group : List (List ℕ)) → length (closed_by more prev group) ≡ group_bytes group + 4 + more
length-closed_by more prev group = omega (arith, length-append (closed prev group) (replicate {A = ℕ} more 0), length-closed prev group, length-replicate {A = ℕ} more 0)

pub alone : (prev : List ℕ) (group : List (List ℕ)) → closed prev group ≡ closed_by 0 prev group
alone prev group = sym (append-nil (closed prev group))

-- ---- a log with a group more

pub records_group : (prev : List ℕ) (bodies group : List (List ℕ)) → records prev (bodies ++ group) ≡ records prev bodies ++ records (last prev bodies) group
records_group prev [] group = refl
records_group prev (b ∷ bodies) group =
    ap (λ (l : List ℕ). record_of prev b ++ l) (records_group (digest prev b) bodies group)
    ∙ sym (append_assoc (record_of prev b) (records (digest prev b) bodies) (records (last (digest prev b) bodies) group))

pub last_group : (prev : List ℕ) (bodies group : List (List ℕ)) → last prev (bodies ++ group) ≡ last (last prev bodies) group
last_group prev [] group = refl
last_group prev (b ∷ bodies) group = last_group (digest prev b) bodies group

pub text_group : (format : Format) (bodies group : List (List ℕ)) → text format (bodies ++ group) ≡ text format bodies ++ records (last (start format) bodies) group
text_group format bodies group =
    ap (λ (l : List ℕ). Rattle.xa_log.specs.Believed.Chain.magic format ++ l) (records_group (start format) bodies group)
    ∙ sym (append_assoc (Rattle.xa_log.specs.Believed.Chain.magic format) (records (start format) bodies) (records (last (start format) bodies) group))

pub sizes_group : (format : Format) (bodies group : List (List ℕ)) → AllByRecursion (IsBody format) bodies → AllByRecursion (IsBody format) group → AllByRecursion (IsBody format) (bodies ++ group)
sizes_group format [] group sizes ok = ok
sizes_group format (b ∷ bodies) group sizes ok = (sizes.0, sizes_group format bodies group sizes.1 ok)

-- with a closing length after it
closed_split : (format : Format) (bodies group : List (List ℕ)) (file more : List ℕ)
    → file ≡ text format bodies ++ (closed (last (start format) bodies) group ++ more) → file ≡ text format (bodies ++ group) ++ (0 ∷ 0 ∷ 0 ∷ 0 ∷ more)
closed_split format bodies group file more is =
    is
    ∙ ap (λ (l : List ℕ). text format bodies ++ l) (append_assoc (records (last (start format) bodies) group) (0 ∷ 0 ∷ 0 ∷ 0 ∷ []) more)
    ∙ sym (append_assoc (text format bodies) (records (last (start format) bodies) group) (0 ∷ 0 ∷ 0 ∷ 0 ∷ more))
    ∙ ap (λ (l : List ℕ). l ++ 0 ∷ 0 ∷ 0 ∷ 0 ∷ more) (sym (text_group format bodies group))

pub rests_group : (format : Format) (bodies group : List (List ℕ)) (file more : List ℕ) → AllByRecursion (IsBody format) bodies → AllByRecursion (IsBody format) group
    → file ≡ text format bodies ++ (closed (last (start format) bodies) group ++ more) → Rests format (bodies ++ group) file
rests_group format bodies group file more sizes ok is = record {
  rest = 0 ∷ 0 ∷ 0 ∷ 0 ∷ more;
  split = closed_split format bodies group file more is;
  sizes = sizes_group format bodies group sizes ok;
  closed = closed_zeros format (last (start format) (bodies ++ group)) more;
}

-- what stands after it begins with a length 0
pub closed_behind : (format : Format) (bodies group : List (List ℕ)) (file more : List ℕ)
    → file ≡ text format bodies ++ (closed (last (start format) bodies) group ++ more) → size_at (behind_text format (bodies ++ group) file) ≡ 0
closed_behind format bodies group file more is =
    ap size_at (ap (λ (l : List ℕ). drop (length (text format (bodies ++ group))) l) (closed_split format bodies group file more is)
    ∙ drop_at (text format (bodies ++ group)) (0 ∷ 0 ∷ 0 ∷ 0 ∷ more) (length (text format (bodies ++ group))) refl)
    ∙ zero_size more

-- ---- what keeps the log's front, and after it has no records but the group's

-- of a file that is a log of this many bodies, none of the group
none_of : (format : Format) (bodies group : List (List ℕ)) (file : List ℕ) → Rests format bodies file → breaks_off format bodies file ≡ false → IsFirstPart format bodies group file
none_of format bodies group file r whole = record {
  many = 0;
  within = omega arith;
  rests = subst (λ (l : List (List ℕ)). Rests format l file) (sym (append-nil bodies)) r;
  whole = subst (λ (l : List (List ℕ)). breaks_off format l file ≡ false) (sym (append-nil bodies)) whole;
}

-- its front with one record more
front_more : (format : Format) (bodies : List (List ℕ)) (body file : List ℕ) → take (length (text format bodies)) file ≡ text format bodies
    → take (36 + length body) (drop (length (text format bodies)) file) ≡ record_of (last (start format) bodies) body
    → take (length (text format (bodies ++ body ∷ []))) file ≡ text format (bodies ++ body ∷ [])
front_more format bodies body file front its =
    let e = length (text format bodies) in
    let rest = drop e file in
    let more = drop (36 + length body) rest in
    let r = record_of (last (start format) bodies) body in
    let split : file ≡ text format bodies ++ (record_of (last (start format) bodies) body ++ drop (36 + length body) (drop (length (text format bodies)) file)) =
    sym (take-append-drop e file) ∙ (λ i. front i ++ rest)
    ∙ ap (λ (l : List ℕ). text format bodies ++ l) (sym (take-append-drop (36 + length body) rest) ∙ ap (λ (l : List ℕ). l ++ more) its) in
    let whole : file ≡ text format (bodies ++ body ∷ []) ++ drop (36 + length body) (drop (length (text format bodies)) file) =
    split ∙ sym (append_assoc (text format bodies) r more) ∙ ap (λ (l : List ℕ). l ++ more) (sym (text_more format bodies body)) in
    ap (λ (l : List ℕ). take (length (text format (bodies ++ body ∷ []))) l) whole
    ∙ take_at (text format (bodies ++ body ∷ [])) more (length (text format (bodies ++ body ∷ []))) refl

-- with the group's first record, a first part of the others
one_more : (format : Format) (bodies group : List (List ℕ)) (body file : List ℕ) → IsFirstPart format (bodies ++ body ∷ []) group file → IsFirstPart format bodies (body ∷ group) file
one_more format bodies group body file it = record {
  many = suc it.many;
  within = omega (arith, it.within);
  rests = subst (λ (l : List (List ℕ)). Rests format l file) (append_assoc bodies (body ∷ []) (take it.many group)) it.rests;
  whole = subst (λ (l : List (List ℕ)). breaks_off format l file ≡ false) (append_assoc bodies (body ∷ []) (take it.many group)) it.whole;
}

-- ---- a group of one: the record, or nothing

module _ {A : Type 0} (bodies : List A) (body : A) where
  pub one_part : (many : ℕ) → (bodies ++ take many (body ∷ []) ≡ bodies) ⊎ (bodies ++ take many (body ∷ []) ≡ bodies ++ body ∷ [])
  one_part zero = inl (append-nil bodies)
  one_part (suc zero) = inr refl
  one_part (suc (suc many)) = inr refl

pub one_found : (bodies : List (List ℕ)) (body : List ℕ) (found : List (List ℕ)) → HasFirstPart bodies (body ∷ []) found → (found ≡ bodies) ⊎ (found ≡ bodies ++ body ∷ [])
one_found bodies body found it = ⊎_elim (λ none. inl (it.is ∙ none)) (λ one. inr (it.is ∙ one)) (one_part bodies body it.many)

pub one_rests : (format : Format) (bodies : List (List ℕ)) (body file : List ℕ) → IsFirstPart format bodies (body ∷ []) file → Rests format bodies file ⊎ Rests format (bodies ++ body ∷ []) file
one_rests format bodies body file it =
    ⊎_elim (λ none. inl (subst (λ (l : List (List ℕ)). Rests format l file) none it.rests))
    (λ one. inr (subst (λ (l : List (List ℕ)). Rests format l file) one it.rests)) (one_part bodies body it.many)

-- ---- the records that chain

pub plain_group : (format : Format) (bodies group : List (List ℕ)) (file : List ℕ) → AllByRecursion (IsBody format) bodies → AllByRecursion (IsBody format) group
    → take (length (text format bodies)) file ≡ text format bodies → IsPlain format bodies group file → IsFirstPart format bodies group file
plain_group format bodies [] file sizes ok front plain =
    let rest = drop (length (text format bodies)) file in
    none_of format bodies [] file (record { rest = rest; split = sym (take-append-drop (length (text format bodies)) file) ∙ ap (λ (l : List ℕ). l ++ rest) front; sizes = sizes; closed = plain.0 }) plain.1
plain_group format bodies (body ∷ group) file sizes ok front plain =
    let rest = drop (length (text format bodies)) file in
    elim (cases_Bool (is_record format (last (start format) bodies) rest)) [
      | inl whole ↦ one_more format bodies group body file
          (plain_group format (bodies ++ body ∷ []) group file (sizes_more format bodies body sizes ok.0) ok.1 (front_more format bodies body file front (plain.1 whole).0) (plain.1 whole).1)
      | inr none ↦ none_of format bodies (body ∷ group) file (record { rest = rest; split = sym (take-append-drop (length (text format bodies)) file) ∙ ap (λ (l : List ℕ). l ++ rest) front; sizes = sizes; closed = none }) (plain.0 none)
    ]

-- ---- one file

module _ (format : Format) (bodies group : List (List ℕ)) (file : List ℕ) (rests : Rests format bodies file) (ok : AllByRecursion (IsBody format) group) where
  abbrev end : ℕ
  end = length (text format bodies)

  -- what a write after the log may have left
  pub torn_leaves : (most n : ℕ) (c : List ℕ) → length file ≤ most → end + n ≤ most → Torn end n file c → Leaves most format bodies group c
  torn_leaves most n c whole room torn =
      let at = torn_begins format bodies file rests n c torn in
      let fits : length c ≤ most = omega (arith, torn.no_longer, whole, room) in
      record { fits = fits; front = at.1; opens = no_fault most format c bodies fits at.1; reads = plain_group format bodies group c rests.sizes ok at.1 }

  kept_split : (more : ℕ) (mid new : List ℕ) → (end ≤ length mid) × (take end mid ≡ text format bodies)
      → new ≡ put mid end (closed_by more (last (start format) bodies) group)
      → new ≡ text format bodies ++ (closed (last (start format) bodies) group ++ (replicate more 0 ++ drop (end + length (closed_by more (last (start format) bodies) group)) mid))
  kept_split more mid new begins is =
      let bytes = closed_by more (last (start format) bodies) group in
      let n = end + length bytes in
      let zeros : List ℕ = replicate more 0 in
      is ∙ put_within mid end bytes begins.0
      ∙ ap (λ (l : List ℕ). l ++ bytes ++ drop n mid) begins.1
      ∙ append_assoc (text format bodies) bytes (drop n mid)
      ∙ ap (λ (l : List ℕ). text format bodies ++ l) (append_assoc (closed (last (start format) bodies) group) zeros (drop n mid))

  pub kept : (more : ℕ) (mid new : List ℕ) → (end ≤ length mid) × (take end mid ≡ text format bodies)
      → new ≡ put mid end (closed_by more (last (start format) bodies) group)
      → Rests format (bodies ++ group) new × (size_at (behind_text format (bodies ++ group) new) ≡ 0)
  kept more mid new begins is =
      let rest : List ℕ = replicate more 0 ++ drop (end + length (closed_by more (last (start format) bodies) group)) mid in
      let split = kept_split more mid new begins is in
      (rests_group format bodies group new rest rests.sizes ok split, closed_behind format bodies group new rest split)

  -- from a log at rest, whatever a write after it left
  pub moments : {D : Type 0} (disks : Ghosts D) (old new : D) (most n : ℕ)
      → length file ≤ most → end + n ≤ most → ((c : List ℕ) → disks.left_since old (disks.moment old) c → disks.may_leave old c) → Only file (disks.may_leave old)
      → TimePasses disks (Torn end n) old new → LeavesOnly disks old new (Leaves most format bodies group)
  moments disks old new most n whole room only_now durable time = record {
    later = time.later;
    each = λ c left. ⊎_elim (λ past. good c (torn_to c (durable c (only_now c past)))) (λ x. good c (subst (λ f. Torn end n f c) (durable x.0 x.1) x.2)) (time.nothing_else (disks.moment old) c (omega arith) left);
    before = λ t c le left. ⊎_elim (λ past. inl past) (λ x. inr (good c (subst (λ f. Torn end n f c) (durable x.0 x.1) x.2))) (time.nothing_else t c le left);
  }
    where
      good : (c : List ℕ) → Torn end n file c → Leaves most format bodies group c
      good c torn = torn_leaves most n c whole room torn

      torn_to : (c : List ℕ) → c ≡ file → Torn end n file c
      torn_to c is = subst (λ f. Torn end n file f) (sym is) (torn_same end n file)

-- ---- a log's generation, and which file comes first

generation_group : (format : Format) (bodies group : List (List ℕ)) (e number : ℕ) → 1 ≤ length group → e ≡ length (text format bodies) → number ≡ generation bodies
    → cond (nat_eq e 8) (number_in (first_of_group group)) number ≡ generation (bodies ++ group)
generation_group format bodies [] e number some at is = absurd (omega arith)
generation_group format [] (body ∷ group) e number some at is = generation_more format [] body e number at is
generation_group format (b ∷ bodies) (body ∷ group) e number some at is = generation_more format (b ∷ bodies) body e number at is

pub beats_group : (first : Bool) (bodies group stood : List (List ℕ)) → beats first bodies stood ≡ true → beats first (bodies ++ group) stood ≡ true
beats_group first bodies [] stood wins = subst (λ (l : List (List ℕ)). beats first l stood ≡ true) (sym (append-nil bodies)) wins
beats_group first (b ∷ bodies) (body ∷ group) stood wins = wins
beats_group first [] (body ∷ group) stood wins = beats_more first [] body stood wins

-- ---- what a log stands for after each answer

module _ {D : Type 0} (disks : Ghosts D) (bodies group : List (List ℕ)) (more : ℕ) (old new : LogView D)
    (tears_torn : (f : List ℕ) (at : ℕ) (bytes g : List ℕ) → disks.tears f at bytes g → Torn at (length bytes) f g) (stands : Stands disks bodies old) (some : 1 ≤ length group) (ok : AllByRecursion (IsBody old.format) group) (appended : AreAppended bodies group) where
  abbrev format : Format
  format = old.format

  abbrev few : List ℕ
  few = closed old.digest group

  abbrev bytes : List ℕ
  bytes = closed_by more old.digest group

  abbrev Went_by : Appended → Type 0
  Went_by outcome = PutAheadBecame disks outcome old.end (closed old.digest group) (closed_by more old.digest group) old.disk new.disk

  length-range : length (closed_by more old.digest group) ≡ 40 + as_one group + more
  length-range = omega (arith, length-closed_by more old.digest group, bytes_as_one group some)

  length-few : length (closed old.digest group) ≡ 40 + as_one group
  length-few = omega (arith, length-closed old.digest group, bytes_as_one group some)

  -- the range ends within the log's bytes
  fits_after : old.end + (40 + as_one group + more) ≤ old.log_bytes → new.log_bytes ≡ old.log_bytes → Torn old.end (length (closed_by more old.digest group)) (disks.seen old.disk) (disks.seen new.disk) → length (disks.seen new.disk) ≤ new.log_bytes
  fits_after room same torn = omega (arith, torn.no_longer, stands.fits, length-range, room, same)

  torn_refused : Went_by Refused → Torn old.end (length (closed_by more old.digest group)) (disks.seen old.disk) (disks.seen new.disk)
  torn_refused went =
      let range = length (closed_by more old.digest group) in
      let zeros : List ℕ = replicate (length (closed old.digest group)) 0 in
      let cleared : Torn old.end (length zeros) went.0 (disks.seen new.disk) = subst (λ f. Torn old.end (length zeros) went.0 f) (sym went.2) (put_torn went.0 old.end zeros) in
      torn_then old.end range (disks.seen old.disk) went.0 (disks.seen new.disk) went.1
      (torn_wider old.end (length zeros) range went.0 (disks.seen new.disk) (omega (arith, length-range, length-few, length-replicate {A = ℕ} (length (closed old.digest group)) 0)) cleared)

  begins : (mid : List ℕ) → Torn old.end (length (closed_by more old.digest group)) (disks.seen old.disk) mid
      → (length (text format bodies) ≤ length mid) × (take (length (text format bodies)) mid ≡ text format bodies)
  begins mid torn =
      torn_begins format bodies (disks.seen old.disk) stands.file (length (closed_by more old.digest group)) mid
      (subst (λ e. Torn e (length (closed_by more old.digest group)) (disks.seen old.disk) mid) stands.end torn)

  -- whether the zeros went with the records or not
  file_kept : Wrote disks old.end (closed old.digest group) (closed_by more old.digest group) old.disk new.disk
      → Rests format (bodies ++ group) (disks.seen new.disk) × (size_at (behind_text format (bodies ++ group) (disks.seen new.disk)) ≡ 0)
  file_kept (inl is) =
      kept format bodies group (disks.seen old.disk) stands.file ok more (disks.seen old.disk) (disks.seen new.disk) (begins_same format bodies (disks.seen old.disk) stands.file)
      (is ∙ (λ i. put (disks.seen old.disk) (stands.end i) (closed_by more (stands.digest i) group)))
  file_kept (inr x) =
      kept format bodies group (disks.seen old.disk) stands.file ok 0 x.2 (disks.seen new.disk) (begins x.2 (tears_torn (disks.seen old.disk) old.end (closed_by more old.digest group) x.2 x.3))
      (x.4 ∙ (λ i. put x.2 (stands.end i) (closed (stands.digest i) group)) ∙ ap (λ (l : List ℕ). put x.2 (length (text format bodies)) l) (alone (last (start format) bodies) group))

  abbrev Room : Type 0
  Room = (old.end + (40 + as_one group + more) ≤ old.log_bytes) × (new.log_bytes ≡ old.log_bytes) × (new.format ≡ old.format)

  pub answer_kept : Room → Went_by Kept → new.end ≡ old.end + (36 + as_one group) → new.digest ≡ last old.digest group → new.generation ≡ cond (nat_eq old.end 8) (number_in (first_of_group group)) old.generation → new.lost ≡ old.lost
      → Stands disks (bodies ++ group) new
  answer_kept room went end_is digest_is number_is lost_is = record {
    fits = fits_after room.0 room.1 (torn_wrote disks tears_torn old.end (closed old.digest group) (closed_by more old.digest group) old.disk new.disk went.0);
    file = subst (λ k. Rests k (bodies ++ group) (disks.seen new.disk)) (sym room.2) (file_kept went.0).0;
    end = subst (λ k. new.end ≡ length (text k (bodies ++ group))) (sym room.2)
        (omega (arith, end_is, stands.end, ap length (text_group format bodies group), length-append (text format bodies) (records (last (start format) bodies) group), length-records (last (start format) bodies) group, bytes_as_one group some));
    digest = subst (λ k. new.digest ≡ last (start k) (bodies ++ group)) (sym room.2) (digest_is ∙ ap (λ (d : List ℕ). last d group) stands.digest ∙ sym (last_group (start format) bodies group));
    number = number_is ∙ generation_group format bodies group old.end old.generation some stands.end stands.number;
    durable = went.1;
    alive = lost_is ∙ stands.alive;
    whole = subst (λ k. breaks_off k (bodies ++ group) (disks.seen new.disk) ≡ false) (sym room.2)
        (whole_more format bodies group (disks.seen new.disk) appended some (file_kept went.0).1);
  }

  pub answer_refused : Room → Went_by Refused → new.end ≡ old.end → new.digest ≡ old.digest → new.generation ≡ old.generation → new.lost ≡ old.lost
      → Stands disks bodies new × (take (group_bytes group + 4) (drop (length (text new.format bodies)) (disks.seen new.disk)) ≡ replicate (group_bytes group + 4) 0)
  answer_refused room went end_is digest_is number_is lost_is =
      let n = group_bytes group in
      let m : length (closed old.digest group) ≡ 4 + group_bytes group = omega (arith, length-closed old.digest group) in
      let k : 4 + group_bytes group ≡ group_bytes group + 4 = omega arith in
      let is : disks.seen new.disk ≡ put went.0 (length (text format bodies)) (replicate (4 + group_bytes group) 0) = went.2 ∙ (λ i. put went.0 (stands.end i) (replicate (m i) 0)) in
      let it = refused format bodies (disks.seen old.disk) stands.file n went.0 (disks.seen new.disk) (begins went.0 went.1) is in (
        record {
          file = subst (λ f. Rests f bodies (disks.seen new.disk)) (sym room.2) it.0;
          fits = fits_after room.0 room.1 (torn_refused went);
          end = subst (λ f. new.end ≡ length (text f bodies)) (sym room.2) (end_is ∙ stands.end);
          digest = subst (λ f. new.digest ≡ last (start f) bodies) (sym room.2) (digest_is ∙ stands.digest);
          number = number_is ∙ stands.number;
          durable = went.3;
          alive = lost_is ∙ stands.alive;
          whole = subst (λ f. breaks_off f bodies (disks.seen new.disk) ≡ false) (sym room.2)
              (not_broken format bodies (disks.seen new.disk) (zeros_size n (drop (length (text format bodies)) (disks.seen new.disk)) it.1) (zeros_on n (drop (length (text format bodies)) (disks.seen new.disk)) (omega (arith, bytes_as_one group some)) it.1));
        },
        subst (λ f. take (group_bytes group + 4) (drop (length (text f bodies)) (disks.seen new.disk)) ≡ replicate (group_bytes group + 4) 0) (sym room.2)
            (subst (λ (x : ℕ). take x (drop (length (text format bodies)) (disks.seen new.disk)) ≡ replicate x 0) k it.1),
      )

  pub answer_lost : Room → Went_by Lost → new.lost ≡ true
      → ((c : List ℕ) → disks.may_leave new.disk c → (d : List ℕ) × disks.may_leave old.disk d × Torn old.end (length (closed_by more old.digest group)) d c)
      → MayStand disks bodies group new
  answer_lost room went lost_is follows = record {
    some = some;
    seen_is = its (disks.seen new.disk) (good (disks.seen new.disk) went.0);
    seen_on = λ lucky. subst (λ k. IsFirstPart k bodies group (disks.seen new.disk)) (sym room.2)
        ((good (disks.seen new.disk) went.0).reads (lucky format bodies (disks.seen old.disk) went.1 (disks.seen new.disk) more stands.file stands.whole some ok appended first second));
    left_is = λ c left. its c (let x = follows c left in good c (subst (λ f. Torn old.end (length (closed_by more old.digest group)) f c) (stands.durable x.0 x.1) x.2));
    lost = lost_is;
  }
    where
      first : FailedPutAhead disks.tears (disks.seen old.disk) (length (text format bodies)) (closed (last (start format) bodies) group) (closed_by more (last (start format) bodies) group) went.1
      first =
          subst (λ d. FailedPutAhead disks.tears (disks.seen old.disk) (length (text format bodies)) (closed d group) (closed_by more d group) went.1) stands.digest
          (subst (λ e. FailedPutAhead disks.tears (disks.seen old.disk) e (closed old.digest group) (closed_by more old.digest group) went.1) stands.end went.2)

      second : FailedPut disks.tears went.1 (length (text format bodies)) (replicate (group_bytes group + 4) 0) (disks.seen new.disk)
      second =
          subst (λ e. FailedPut disks.tears went.1 e (replicate (group_bytes group + 4) 0) (disks.seen new.disk)) stands.end
          (subst (λ n. FailedPut disks.tears went.1 old.end (replicate n 0) (disks.seen new.disk)) (length-closed old.digest group) went.3)

      good : (c : List ℕ) → Torn old.end (length (closed_by more old.digest group)) (disks.seen old.disk) c → Leaves new.log_bytes format bodies group c
      good c torn =
          torn_leaves format bodies group (disks.seen old.disk) stands.file ok new.log_bytes (length (closed_by more old.digest group)) c (omega (arith, stands.fits, room.1)) (omega (arith, room.0, room.1, length-range, stands.end))
          (subst (λ e. Torn e (length (closed_by more old.digest group)) (disks.seen old.disk) c) stands.end torn)

      its : (c : List ℕ) → Leaves new.log_bytes format bodies group c → Leaves new.log_bytes new.format bodies group c
      its c it = subst (λ k. Leaves new.log_bytes k bodies group c) (sym room.2) it

  pub answers_kept : Room → (o : Appended) → o ≡ Kept → Went_by o → new.end ≡ old.end + (36 + as_one group) → new.digest ≡ last old.digest group → new.generation ≡ cond (nat_eq old.end 8) (number_in (first_of_group group)) old.generation → new.lost ≡ old.lost → Answers disks o bodies group new
  answers_kept room o is went e d n l = subst (λ x. Answers disks x bodies group new) (sym is) (answer_kept room (subst Went_by is went) e d n l)

  pub answers_refused : Room → (o : Appended) → (o ≡ Refused) ⊎ (o ≡ Full) → o ≢ Full → Went_by o → new.end ≡ old.end → new.digest ≡ old.digest → new.generation ≡ old.generation → new.lost ≡ old.lost → Answers disks o bodies group new
  answers_refused room o (inl is) other went e d n l = subst (λ x. Answers disks x bodies group new) (sym is) (answer_refused room (subst Went_by is went) e d n l)
  answers_refused room o (inr is) other went e d n l = absurd (other is)

  pub answers_lost : Room → (o : Appended) → o ≡ Lost → Went_by o → new.lost ≡ true → ((c : List ℕ) → disks.may_leave new.disk c → (d : List ℕ) × disks.may_leave old.disk d × Torn old.end (length (closed_by more old.digest group)) d c) → Answers disks o bodies group new
  answers_lost room o is went l follows = subst (λ x. Answers disks x bodies group new) (sym is) (answer_lost room (subst Went_by is went) l follows)

-- ---- any moment

module _ {D : Type 0} (disks : Ghosts D) (bodies group : List (List ℕ)) (old : LogView D) (stands : Stands disks bodies old)
    (only_now : (c : List ℕ) → disks.left_since old.disk (disks.moment old.disk) c → disks.may_leave old.disk c) (ok : AllByRecursion (IsBody old.format) group) where
  pub group_moments : (new : D) (n : ℕ) → old.end + n ≤ old.log_bytes → TimePasses disks (Torn old.end n) old.disk new
      → LeavesOnly disks old.disk new (Leaves old.log_bytes old.format bodies group)
  group_moments new n room time =
      moments old.format bodies group (disks.seen old.disk) stands.file ok disks old.disk new old.log_bytes n stands.fits (omega (arith, room, stands.end)) only_now stands.durable
      (subst (λ e. TimePasses disks (Torn e n) old.disk new) stands.end time)

  -- nothing was asked of the disk
  pub no_group_moments : old.end ≤ old.log_bytes → LeavesOnly disks old.disk old.disk (Leaves old.log_bytes old.format bodies group)
  no_group_moments room =
      group_moments old.disk 0 (omega (arith, room))
      (record { later = omega arith; follows = λ c now. (c, now, torn_same old.end 0 c); nothing_else = λ t c le left. inl left; keeps = λ t c le left. left })

  -- the same, where the range is the records with their closing length and this many zeros
  pub range_moments : (new : D) (more to : ℕ) (range : List ℕ) → length range ≡ group_bytes group + 4 + more → to ≡ old.end + group_bytes group + 4 → to + more ≤ old.log_bytes
      → TimePasses disks (Torn old.end (length range)) old.disk new → LeavesOnly disks old.disk new (Leaves old.log_bytes old.format bodies group)
  range_moments new more to range long is room time = group_moments new (length range) (omega (arith, long, is, room)) time
