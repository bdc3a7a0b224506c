-- Whether the other file of a log may be empty.
use Rattle.std.proofs.Common.{◌≡◌, ◌⊎◌, inl, inr, ⊎_elim, ℕ, ◌≤◌, Bool, true, false, List, [], ◌∷◌, ◌++◌, length, take, drop, refl, sym, ◌∙◌, ap, subst, arith, cond, nat_lt, append_assoc, length-append, Option, is_some}
use Rattle.std.proofs.lemmas.Bool.{ltb-false}
use Rattle.std.proofs.lemmas.List.{append-nil, take-append-drop}
use Rattle.xa_disk.specs.Disk.{Only, Same}
use Rattle.xa_disk.specs.Time.{TimePasses}
use Rattle.xa_disk.specs.declared.disk.Disk.{Ghosts}
use Rattle.xa_log.specs.declared.appending.Appended.{Appended}
use Rattle.xa_log.specs.declared.appending.Appended.TheVariants.{Kept, Refused, Lost, Full}
use Rattle.xa_log.specs.declared.format.Format.{Format}
use Rattle.xa_log.specs.declared.unfit.Unfit.TheVariants.{Neither, MissingSecond}
use Rattle.xa_log.specs.Believed.Chain.{IsBody, Rests, digest, format_of, logged, magic, record_of, records, start, text}
use Rattle.xa_log.specs.Believed.Checkpoint.{HasBytes, NeverEmpty}
use Rattle.xa_log.specs.Believed.LogStates.{IsIn, LogState, LooksTo, LostAppend, LostCheckpoint, Whole}
use Rattle.xa_log.specs.Believed.LogView.{LogView}
use Rattle.xa_log.specs.Believed.Pair.{generation, has_log}
use Rattle.xa_log.specs.Believed.Stands.{Leaves, MayStand, Stands}
use Rattle.xa_log.specs.Believed.TwoFiles.{HasOther, Swaps, first_of, second_of, written}
use Rattle.xa_log.specs.Believed.Unfit.{generation_in, missing_of}
use Rattle.xa_log.proofs.Choosing.{no_fault_log}
use Rattle.xa_log.proofs.Absent.{both_there, gone_first, own_generation, second_free}
use Rattle.xa_log.proofs.Parts.{rests_magic}
use Rattle.xa_log.proofs.States.{in_two}
use Rattle.xa_log.proofs.Records.{format_magic, length-magic, logged_text, rests_logged}

-- ---- the current file

pub rests_filled : (format : Format) (bodies : List (List ℕ)) (file : List ℕ) → Rests format bodies file → HasBytes file
rests_filled format bodies file r =
    omega (arith, ap (λ (l : List ℕ). length l) r.split, length-append (text format bodies) r.rest, length-append (magic format) (records (start format) bodies), length-magic format)

pub log_filled : (file : List ℕ) → has_log file ≡ true → HasBytes file
log_filled [] is = absurd (cc is)
log_filled (b ∷ file) is = omega arith

-- the bodies that a log has, whatever became of what was to go after them, or instead of them
abbrev pub bodies_in : LogState → List (List ℕ)
bodies_in (Whole bodies stood) = bodies
bodies_in (LostAppend bodies group stood) = bodies
bodies_in (LostCheckpoint bodies fresh) = bodies

-- there are some, and the first is one that the format takes
abbrev pub HasFirst : Format → List (List ℕ) → Type 0
HasFirst format [] = ⊥
HasFirst format (body ∷ bodies) = IsBody format body

-- what begins with a log of them has the first one's number
text_first : (format : Format) (body : List ℕ) (bodies : List (List ℕ)) (rest : List ℕ)
    → text format (body ∷ bodies) ++ rest ≡ text format (body ∷ []) ++ (records (digest (start format) body) bodies ++ rest)
text_first format body bodies rest =
    let one : List ℕ = record_of (start format) body in
    let more : List ℕ = records (digest (start format) body) bodies in
    append_assoc (magic format) (one ++ more) rest
    ∙ ap (λ (l : List ℕ). magic format ++ l) (append_assoc one more rest ∙ ap (λ (l : List ℕ). l ++ (more ++ rest)) (sym (append-nil one)))
    ∙ sym (append_assoc (magic format) (one ++ []) (more ++ rest))

front_generation : (format : Format) (bodies : List (List ℕ)) (file : List ℕ) → HasFirst format bodies → take (length (text format bodies)) file ≡ text format bodies
    → generation (logged file) ≡ generation bodies
front_generation format [] file some front = absurd some
front_generation format (body ∷ bodies) file some front =
    let n = length (text format (body ∷ bodies)) in
    let rest : List ℕ = records (digest (start format) body) bodies ++ drop n file in
    let split : file ≡ text format (body ∷ []) ++ rest =
    sym (take-append-drop n file) ∙ ap (λ (l : List ℕ). l ++ drop n file) front ∙ text_first format body bodies (drop n file) in
    ap (λ (f : List ℕ). generation (logged f)) split ∙ ap (λ (l : List (List ℕ)). generation l) (logged_text format (body ∷ []) rest (some, tt)).1

rests_front : (format : Format) (bodies : List (List ℕ)) (file : List ℕ) → Rests format bodies file → generation (logged file) ≡ generation bodies
rests_front format bodies file r = ap (λ (l : List (List ℕ)). generation l) (rests_logged format bodies file r)

first_more : (format : Format) (bodies more : List (List ℕ)) → HasFirst format bodies → generation (bodies ++ more) ≡ generation bodies
first_more format [] more some = absurd some
first_more format (body ∷ bodies) more some = refl

module _ {D : Type 0} (disks : Ghosts D) where
  only_filled : (d : D) → HasBytes (disks.seen d) → Only (disks.seen d) (disks.may_leave d) → NeverEmpty disks d
  only_filled d some only = record { seen = some; left = λ c left. subst HasBytes (sym (only c left)) some }

  pub stands_filled : (bodies : List (List ℕ)) (log : LogView D) → Stands disks bodies log → NeverEmpty disks log.disk
  stands_filled bodies log s = only_filled log.disk (rests_filled log.format bodies (disks.seen log.disk) s.file) s.durable

  pub current_filled : (log : LogView D) (state : LogState) → IsIn disks state log → NeverEmpty disks log.disk
  current_filled log (Whole bodies stood) p = stands_filled bodies log p.current
  current_filled log (LostAppend bodies group stood) p =
      let some : (c : List ℕ) → Leaves log.log_bytes log.format bodies group c → HasBytes c = λ c l. log_filled c (no_fault_log log.log_bytes c l.opens) in
      record { seen = some (disks.seen log.disk) p.current.seen_is; left = λ c left. some c (p.current.left_is c left) }
  current_filled log (LostCheckpoint bodies fresh) p = only_filled log.disk (rests_filled log.format bodies (disks.seen log.disk) p.file) p.durable

  -- by what a read gives, and by what a crash leaves
  pub seen_generation : (log : LogView D) (state : LogState) → HasFirst log.format (bodies_in state) → IsIn disks state log
      → generation (logged (disks.seen log.disk)) ≡ generation (bodies_in state)
  seen_generation log (Whole bodies stood) some p = rests_front log.format bodies (disks.seen log.disk) p.current.file
  seen_generation log (LostAppend bodies group stood) some p = front_generation log.format bodies (disks.seen log.disk) some p.current.seen_is.front
  seen_generation log (LostCheckpoint bodies fresh) some p = rests_front log.format bodies (disks.seen log.disk) p.file

  left_generation : (log : LogView D) (state : LogState) → HasFirst log.format (bodies_in state) → IsIn disks state log → (c : List ℕ) → disks.may_leave log.disk c
      → generation (logged c) ≡ generation (bodies_in state)
  left_generation log (Whole bodies stood) some p c left =
      ap (λ (f : List ℕ). generation (logged f)) (p.current.durable c left) ∙ rests_front log.format bodies (disks.seen log.disk) p.current.file
  left_generation log (LostAppend bodies group stood) some p c left =
      let l = p.current.left_is c left in front_generation log.format bodies c some l.front
  left_generation log (LostCheckpoint bodies fresh) some p c left =
      ap (λ (f : List ℕ). generation (logged f)) (p.durable c left) ∙ rests_front log.format bodies (disks.seen log.disk) p.file

  -- of an append to a log of these bodies
  pub append_generation : (log : LogView D) (bodies group : List (List ℕ)) (c : List ℕ) → HasFirst log.format bodies → Stands disks bodies log
      → Leaves log.log_bytes log.format bodies group c → generation (logged c) ≡ generation (logged (disks.seen log.disk))
  append_generation log bodies group c some s l =
      front_generation log.format bodies c some l.front ∙ sym (rests_front log.format bodies (disks.seen log.disk) s.file)

  -- that was kept, or refused, or lost
  pub kept_generation : (old new : LogView D) (bodies group : List (List ℕ)) → HasFirst old.format bodies → Stands disks bodies old → Stands disks (bodies ++ group) new
      → generation (logged (disks.seen new.disk)) ≡ generation (logged (disks.seen old.disk))
  kept_generation old new bodies group some was s =
      rests_front new.format (bodies ++ group) (disks.seen new.disk) s.file ∙ first_more old.format bodies group some
      ∙ sym (rests_front old.format bodies (disks.seen old.disk) was.file)

  pub refused_generation : (old new : LogView D) (bodies : List (List ℕ)) → Stands disks bodies old → Stands disks bodies new
      → generation (logged (disks.seen new.disk)) ≡ generation (logged (disks.seen old.disk))
  refused_generation old new bodies was s =
      rests_front new.format bodies (disks.seen new.disk) s.file ∙ sym (rests_front old.format bodies (disks.seen old.disk) was.file)

  pub lost_generation : (old new : LogView D) (bodies group : List (List ℕ)) → HasFirst new.format bodies → Stands disks bodies old → MayStand disks bodies group new
      → generation (logged (disks.seen new.disk)) ≡ generation (logged (disks.seen old.disk))
  lost_generation old new bodies group some was s =
      front_generation new.format bodies (disks.seen new.disk) some s.seen_is.front ∙ sym (rests_front old.format bodies (disks.seen old.disk) was.file)

  -- ---- the other one

  -- it stays, and the current one keeps its first record
  pub other_kept : (old new : LogView D) → new.other ≡ old.other → new.on_first ≡ old.on_first
      → generation (logged (disks.seen new.disk)) ≡ generation (logged (disks.seen old.disk)) → HasOther disks old → HasOther disks new
  other_kept old new other first number (inl filled) = inl (subst (λ (d : D). NeverEmpty disks d) (sym other) filled)
  other_kept old new other first number (inr (one, few)) = inr (first ∙ one, subst (λ (n : ℕ). n ≤ 1) (sym number) few)

  -- a checkpoint wrote it
  pub other_swapped : (bodies fresh : List (List ℕ)) (o : Appended) (old new : LogView D) → Stands disks bodies old → Swaps o fresh old new
      → (NeverEmpty disks old.other → NeverEmpty disks (written o new)) → HasOther disks old → HasOther disks new
  other_swapped bodies fresh Kept old new s swaps filled has = inl (subst (λ (d : D). NeverEmpty disks d) (sym swaps.0) (stands_filled bodies old s))
  other_swapped bodies fresh Refused old new s swaps filled (inl was) = inl (filled was)
  other_swapped bodies fresh Refused old new s swaps filled (inr (one, few)) =
      inr (swaps.1 ∙ one, subst (λ (d : D). generation (logged (disks.seen d)) ≤ 1) (sym swaps.0) few)
  other_swapped bodies fresh Lost old new s swaps filled (inl was) = inl (filled was)
  other_swapped bodies fresh Lost old new s swaps filled (inr (one, few)) =
      inr (swaps.1 ∙ one, subst (λ (d : D). generation (logged (disks.seen d)) ≤ 1) (sym swaps.0) few)
  other_swapped bodies fresh Full old new s swaps filled has = subst (λ (l : LogView D). HasOther disks l) (sym swaps) has

  -- nothing was written
  passed : (old new : D) → TimePasses disks Same old new → disks.seen new ≡ disks.seen old → NeverEmpty disks old → NeverEmpty disks new
  passed old new time same was = record {
    seen = subst HasBytes (sym same) was.seen;
    left = λ c left. let x = time.follows c left in subst HasBytes (sym x.2) (was.left x.0 x.1);
  }

  by_look : (f t : Bool) (d o d' o' : D) → TimePasses disks Same (cond f d o) (cond t d' o') → TimePasses disks Same (cond f o d) (cond t o' d')
      → disks.seen (cond t d' o') ≡ disks.seen (cond f d o) → disks.seen (cond t o' d') ≡ disks.seen (cond f o d) → NeverEmpty disks d
      → NeverEmpty disks o ⊎ ((f ≡ true) × (generation (logged (disks.seen d)) ≤ 1)) → NeverEmpty disks o' ⊎ ((t ≡ true) × (generation (logged (disks.seen d')) ≤ 1))
  by_look true true d o d' o' one two p q current (inl was) = inl (passed o o' two q was)
  by_look true true d o d' o' one two p q current (inr (first, few)) = inr (refl, subst (λ (f : List ℕ). generation (logged f) ≤ 1) (sym p) few)
  by_look true false d o d' o' one two p q current was = inl (passed d o' one p current)
  by_look false true d o d' o' one two p q current was = inl (passed d o' two q current)
  by_look false false d o d' o' one two p q current (inl was) = inl (passed o o' one p was)
  by_look false false d o d' o' one two p q current (inr (first, few)) = absurd (cc first)

  pub other_looked : (old new : LogView D) (state : LogState) → IsIn disks state old → LooksTo disks old new → HasOther disks old → HasOther disks new
  other_looked old new state is looks has =
      by_look old.on_first new.on_first old.disk old.other new.disk new.other looks.first looks.second looks.first_same looks.second_same (current_filled old state is) has

-- ---- two files

pub by_order : (first : Bool) (current other : List ℕ) → HasBytes current → HasBytes other ⊎ ((first ≡ true) × (generation (logged current) ≤ 1))
    → missing_of (cond first current other) (cond first other current) ≡ Neither
by_order true current other some (inl there) = both_there current other some there
by_order true current other some (inr (one, few)) = second_free current other some few
by_order false current other some (inl there) = both_there other current there some
by_order false current other some (inr (one, few)) = absurd (cc one)

by_read : {D : Type 0} (seen : D → List ℕ) (first : Bool) (d o : D) → HasBytes (seen d) → HasBytes (seen o) ⊎ ((first ≡ true) × (generation (logged (seen d)) ≤ 1))
    → missing_of (seen (cond first d o)) (seen (cond first o d)) ≡ Neither
by_read seen true d o some there = by_order true (seen d) (seen o) some there
by_read seen false d o some there = by_order false (seen d) (seen o) some there

in_order : (t : Bool) (first second : List ℕ) → missing_of (cond t (cond t first second) (cond t second first)) (cond t (cond t second first) (cond t first second)) ≡ Neither
    → missing_of first second ≡ Neither
in_order true first second e = e
in_order false first second e = e

module _ {D : Type 0} (disks : Ghosts D) (log : LogView D) (has : HasOther disks log) where
  -- what a read gives
  pub read_missing : HasBytes (disks.seen log.disk) → missing_of (disks.seen (first_of log)) (disks.seen (second_of log)) ≡ Neither
  read_missing some =
      by_read disks.seen log.on_first log.disk log.other some (⊎_elim (λ (filled : NeverEmpty disks log.other). inl filled.seen) (λ x. inr x) has)

  -- an image of the current file that has the same first record, beside one of the other file
  pub image_missing : (current other : List ℕ) → HasBytes current → generation (logged current) ≡ generation (logged (disks.seen log.disk))
      → (NeverEmpty disks log.other → HasBytes other)
      → missing_of (cond log.on_first current other) (cond log.on_first other current) ≡ Neither
  image_missing current other some number there =
      by_order log.on_first current other some
      (⊎_elim (λ filled. inl (there filled)) (λ x. inr (x.0, subst (λ (n : ℕ). n ≤ 1) (sym number) x.1)) has)

  -- images of a crash now
  pub left_missing : (state : LogState) → HasFirst log.format (bodies_in state) → IsIn disks state log → (first second : List ℕ)
      → disks.may_leave (first_of log) first → disks.may_leave (second_of log) second → missing_of first second ≡ Neither
  left_missing state some is first second one two =
      let left = in_two disks.may_leave log.on_first log.disk log.other first second one two in
      in_order log.on_first first second
      (image_missing (cond log.on_first first second) (cond log.on_first second first) ((current_filled disks log state is).left (cond log.on_first first second) left.0)
      (left_generation disks log state some is (cond log.on_first first second) left.0 ∙ sym (seen_generation disks log state some is))
      (λ filled. filled.left (cond log.on_first second first) left.1))

-- ---- two files that were read

rests_has : (format : Format) (bodies : List (List ℕ)) (file : List ℕ) → Rests format bodies file → has_log file ≡ true
rests_has format bodies file r = ap (λ (o : Option Format). is_some o) (ap (λ (l : List ℕ). format_of l) (rests_magic format bodies file r) ∙ format_magic format)

few_of : (n : ℕ) → cond (nat_lt 1 n) MissingSecond Neither ≡ Neither → n ≤ 1
few_of n e = ltb-false 1 n (by (nat_lt 1 n) e)
  where
    by : (t : Bool) → cond t MissingSecond Neither ≡ Neither → t ≡ false
    by true e = absurd (cc e)
    by false e = refl

few_found : (a b : List ℕ) → has_log a ≡ true → length b ≡ 0 → missing_of a b ≡ Neither → generation (logged a) ≤ 1
few_found [] b has none e = absurd (cc has)
few_found (x ∷ a) [] has none e = subst (λ (n : ℕ). n ≤ 1) (own_generation (x ∷ a) has) (few_of (generation_in (x ∷ a)) e)
few_found (x ∷ a) (y ∷ b) has none e = absurd (omega (arith, none))

filled_found : (a b : List ℕ) → has_log b ≡ true → missing_of a b ≡ Neither → HasBytes a
filled_found [] b has e = absurd (cc (sym (gone_first [] b refl has) ∙ e))
filled_found (x ∷ a) b has e = omega arith

by_size : (file : List ℕ) → (length file ≡ 0) ⊎ HasBytes file
by_size [] = inl refl
by_size (x ∷ file) = inr (omega arith)

by_found : {D : Type 0} (disks : Ghosts D) (first : Bool) (d o : D) → has_log (disks.seen d) ≡ true → Only (disks.seen o) (disks.may_leave o)
    → missing_of (disks.seen (cond first d o)) (disks.seen (cond first o d)) ≡ Neither → NeverEmpty disks o ⊎ ((first ≡ true) × (generation (logged (disks.seen d)) ≤ 1))
by_found disks true d o has only e =
    ⊎_elim (λ (none : length (disks.seen o) ≡ 0). inr (refl, few_found (disks.seen d) (disks.seen o) has none e)) (λ some. inl (only_filled disks o some only)) (by_size (disks.seen o))
by_found disks false d o has only e = inl (only_filled disks o (filled_found (disks.seen o) (disks.seen d) has e) only)

-- of which neither is missing
pub other_found : {D : Type 0} (disks : Ghosts D) (bodies : List (List ℕ)) (log : LogView D) → Stands disks bodies log → Only (disks.seen log.other) (disks.may_leave log.other)
    → missing_of (disks.seen (first_of log)) (disks.seen (second_of log)) ≡ Neither → HasOther disks log
other_found disks bodies log s only e = by_found disks log.on_first log.disk log.other (rests_has log.format bodies (disks.seen log.disk) s.file) only e

-- a log that was made, with its first record or without
pub other_made : {D : Type 0} (disks : Ghosts D) (bodies : List (List ℕ)) (log : LogView D) → log.on_first ≡ true → Stands disks bodies log → generation bodies ≤ 1 → HasOther disks log
other_made disks bodies log first s few = inr (first, subst (λ (n : ℕ). n ≤ 1) (sym (rests_front log.format bodies (disks.seen log.disk) s.file)) few)
