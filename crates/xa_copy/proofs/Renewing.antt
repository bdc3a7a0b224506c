-- A standby that is begun anew with a snapshot.
use Rattle.std.proofs.Common.{◌≡◌, ◌⊎◌, inl, inr, Bool, true, false, ℕ, ◌≤◌, ◌<◌, max, List, [], ◌∷◌, ◌++◌, length, refl, sym, ◌∙◌, ap, subst, arith}
use Rattle.std.specs.List.{AllByRecursion}
use Rattle.std.proofs.lemmas.List.{append-nil}
use Rattle.xa_disk.specs.declared.disk.Disk.{Ghosts}
use Rattle.xa_disk.specs.Time.{LeavesOnly}
use Rattle.xa_log.specs.Believed.Chain.{IsBody, newest}
use Rattle.xa_log.specs.Believed.Checkpoint.{LeavesAny}
use Rattle.xa_log.specs.Believed.Generation.{generation}
use Rattle.xa_log.specs.Believed.LogStates.{LostCheckpoint}
use Rattle.xa_log.specs.Believed.LogView.{LogView}
use Rattle.xa_log.specs.Believed.TwoFiles.{MaySeal, Pair}
use Rattle.xa_log.specs.Buffer.{Holds, HoldsEach}
use Rattle.xa_log.specs.declared.format.Format.{Format}
use Rattle.xa_log.proofs.Parts.{leaves_more}
use Rattle.xa_log.proofs.Records.{limit}
use Rattle.xa_copy.specs.Heads.{Heads}
use Rattle.xa_copy.specs.Marks.{Marks}
use Rattle.xa_copy.specs.Moving.{Goes, HasLog, OnlyAppended, State, Tells}
use Rattle.xa_copy.specs.Progress.{Follows}
use Rattle.xa_copy.specs.Snapshots.{AreHeld, IsSnapshot}
use Rattle.xa_copy.specs.Standbys.{GoesAlong, HasFollowed, IsAlong, IsPart, IsSealing, IsStandby, KeepsOn, Leaving, LeavesFollowed, StaysBeside, Was, side}
use Rattle.xa_copy.specs.declared.copied.Copied.{Copied}
use Rattle.xa_copy.specs.declared.head.Head.{Head}
use Rattle.xa_copy.specs.declared.snapshot.Snapshot.{Snapshot}
use Rattle.xa_copy.specs.declared.standby.Standby.{Standby}
use Rattle.xa_copy.proofs.Finishing.{named_by}
use Rattle.xa_copy.proofs.Following.{follow_on, goes_stay}
use Rattle.xa_copy.proofs.Standing.{generation_more, leaving_then, lives, standby_on, was_at, was_on}

-- ---- what is read

all_more : (P : List ℕ → Type 0) (xs : List (List ℕ)) (x : List ℕ) → AllByRecursion P xs → P x → AllByRecursion P (xs ++ x ∷ [])
all_more P [] x all p = (p, tt)
all_more P (y ∷ xs) x all p = (all.0, all_more P xs x all.1 p)

all_map : (P Q : List ℕ → Type 0) (xs : List (List ℕ)) → ((x : List ℕ) → P x → Q x) → AllByRecursion P xs → AllByRecursion Q xs
all_map P Q [] f all = tt
all_map P Q (x ∷ xs) f all = (f x all.0, all_map P Q xs f all.1)

pub held_more : (old new : Snapshot) (body : List ℕ) → AreHeld old → new.bodies.items ≡ old.bodies.items ++ body ∷ [] → new.at.format ≡ old.at.format
    → IsBody old.at.format body → new.longest ≡ max old.longest (length body) → AreHeld new
held_more old new body h items format ok longest =
    let small = h.small in
    let short = ok.small in
    let most = limit old.at.format in
    let fits : AllByRecursion (λ b. length b ≤ new.longest) (old.bodies.items ++ body ∷ []) =
    all_more (λ b. length b ≤ new.longest) old.bodies.items body
    (all_map (λ b. length b ≤ old.longest) (λ b. length b ≤ new.longest) old.bodies.items (λ b fit. omega (arith, fit, longest)) h.fit) (omega (arith, longest)) in
    record {
      sizes = subst (λ f. AllByRecursion (IsBody f) new.bodies.items) (sym format)
          (subst (λ l. AllByRecursion (IsBody old.at.format) l) (sym items) (all_more (IsBody old.at.format) old.bodies.items body h.sizes ok));
      fit = subst (λ l. AllByRecursion (λ b. length b ≤ new.longest) l) (sym items) fits;
      small = omega (arith, small, short, most, longest);
    }

pub held_none : (snapshot : Snapshot) → snapshot.bodies.items ≡ [] → snapshot.longest ≡ 0 → AreHeld snapshot
held_none snapshot items longest = record {
  sizes = subst (λ l. AllByRecursion (IsBody snapshot.at.format) l) (sym items) tt;
  fit = subst (λ l. AllByRecursion (λ b. length b ≤ snapshot.longest) l) (sym items) tt;
  small = omega (arith, longest);
}

pub snapshot_more : (begin now : State) (old new : Snapshot) (body : List ℕ) → new.bodies.items ≡ old.bodies.items ++ body ∷ []
    → Marks (old.bodies.items ++ body ∷ []) new.at → Follows new.at.format (old.bodies.items ++ body ∷ []) begin now → IsSnapshot begin now new
snapshot_more begin now old new body items marks follows = record {
  marks = subst (λ l. Marks l new.at) (sym items) marks;
  follows = subst (λ l. Follows new.at.format l begin now) (sym items) follows;
}

pub snapshot_none : (begin : State) (head : Head) (snapshot : Snapshot) → snapshot.bodies.items ≡ [] → Marks [] snapshot.at
    → snapshot.at.format ≡ head.format → Heads begin.file head → IsSnapshot begin begin snapshot
snapshot_none begin head snapshot items marks format heads =
    let log : HasLog snapshot.at.format [] begin.file =
    subst (λ f. HasLog f [] begin.file) (sym format) (named_by head.format heads.body begin.file heads.log) in
    record {
      marks = subst (λ l. Marks l snapshot.at) (sym items) marks;
      follows = subst (λ l. Follows snapshot.at.format l begin begin) (sym items) (record { goes = goes_stay begin; holds = λ _. log });
    }

pub snapshot_on : (begin a b : State) (snapshot : Snapshot) → IsSnapshot begin a snapshot → Goes a b → IsSnapshot begin b snapshot
snapshot_on begin a b snapshot s goes =
    record { marks = s.marks; follows = follow_on snapshot.at.format snapshot.bodies.items begin a b s.follows goes }

pub holds_each : {D : Type 0} (log : LogView D) (longest : ℕ) (bodies : List (List ℕ)) → Holds log longest
    → AllByRecursion (λ body. length body ≤ longest) bodies → HoldsEach log bodies
holds_each log longest bodies (inl short) fit =
    all_map (λ b. length b ≤ longest) (λ b. Holds log (length b)) bodies (λ b f. inl (omega (arith, short, f))) fit
holds_each log longest bodies (inr room) fit =
    all_map (λ b. length b ≤ longest) (λ b. Holds log (length b)) bodies (λ b f. inr (omega (arith, room, f))) fit

-- ---- what it stands for

-- one that is still where it was, of the source that is looked at or of the other one
was_beside : (b mine : Bool) (now other : State) (format : Format) (bodies : List (List ℕ)) → Was format bodies (side b mine now other)
    → Was format bodies now ⊎ Was format bodies other
was_beside true true now other format bodies w = inl w
was_beside true false now other format bodies w = inr w
was_beside false true now other format bodies w = inr w
was_beside false false now other format bodies w = inl w

goes_side : (b mine : Bool) (a now other : State) → Goes a now → Goes (side b mine a other) (side b mine now other)
goes_side true true a now other goes = goes
goes_side true false a now other goes = goes_stay other
goes_side false true a now other goes = goes_stay other
goes_side false false a now other goes = goes

some_body : (bodies : List (List ℕ)) → 1 ≤ length bodies → bodies ≡ [] → ⊥
some_body [] some is = absurd (omega (arith, some))
some_body (body ∷ bodies) some is = absurd (cc is)

none_above : (bodies : List (List ℕ)) (n : ℕ) → n < generation bodies → bodies ≡ [] → ⊥
none_above [] n above is = absurd (omega (arith, above))
none_above (body ∷ bodies) n above is = absurd (cc is)

-- a log that was begun anew has a greater generation, whatever was appended since
pub keeps_anew : (before fresh : List (List ℕ)) → 1 ≤ length fresh → generation before < generation fresh → (l : List (List ℕ))
    → (more : List (List ℕ)) × (l ≡ fresh ++ more) → KeepsOn before l
keeps_anew before fresh some above l k = inr (omega (arith, above, generation_more fresh k.0 some, ap generation k.1))

pub above_by : (own old fresh : ℕ) → own < fresh → own ≡ old → old < fresh
above_by own old fresh above is = omega (arith, above, is)

module _ {D : Type 0} (disks : Ghosts D) where
  pub beside_on : (b : Bool) (before now other : State) (bodies stood : List (List ℕ)) (standby : Standby D)
      → IsStandby disks bodies stood (side b standby.copied.on_first before other) standby → Goes before now → StaysBeside disks bodies b now other standby
  beside_on b before now other bodies stood standby s goes =
      let mine : Bool = standby.copied.on_first in
      inl (
        bodies,
        stood,
        standby_on disks bodies stood (side b mine before other) (side b mine now other) standby s (goes_side b mine before now other goes),
        inl ([], sym (append-nil bodies)),
      )

  -- the snapshot is the log, and the source may go on
  pub anew_along : (begin mid now : State) (bodies : List (List ℕ)) (snapshot : Snapshot) (new : Standby D) → IsSnapshot begin mid snapshot → Goes mid now
      → (mid.life ≡ begin.life → OnlyAppended snapshot.at.format snapshot.bodies.items mid.file)
      → now.life ≡ begin.life → Tells now → Pair disks snapshot.bodies.items bodies new.log → new.log.format ≡ snapshot.at.format
      → new.copied ≡ snapshot.at → 1 ≤ length snapshot.bodies.items → IsAlong disks begin now snapshot.bodies.items bodies new
  anew_along begin mid now bodies snapshot new s' goes whole same tells pair format copied some =
      let s = snapshot_on begin mid now snapshot s' goes in
      let still : mid.life ≡ begin.life = lives begin mid now s'.follows.goes goes same in
      let fresh : List (List ℕ) = snapshot.bodies.items in
      let f : snapshot.at.format ≡ new.copied.format = ap (λ (k : Copied). k.format) (sym copied) in
      let log : HasLog snapshot.at.format fresh now.file = s.follows.holds same in
      let life : now.life ≡ generation fresh = sym (tells snapshot.at.format fresh (λ none. some_body fresh some none) log) in
      record {
        is = record {
          pair = pair;
          marks = subst (λ k. Marks fresh k) (sym copied) s.marks;
          format = format ∙ f;
          some = some;
          was = subst (λ k. Was k fresh now) f (was_at snapshot.at.format fresh mid now goes (still ∙ sym same ∙ life) (s'.follows.holds still) (whole still));
        };
        follows = subst (λ k. Follows k fresh begin now) f s.follows;
        life = sym same ∙ life;
      }

  pub anew_not : (b : Bool) (begin mid now other : State) (bodies stood : List (List ℕ)) (snapshot : Snapshot) (old new : Standby D)
      → IsStandby disks bodies stood (side b old.copied.on_first begin other) old → IsSnapshot begin mid snapshot → Goes mid now
      → (mid.life ≡ begin.life → OnlyAppended snapshot.at.format snapshot.bodies.items mid.file) → Goes begin now → now.life ≡ begin.life → Tells now
      → ((stood' : List (List ℕ)) × Pair disks bodies stood' new.log) ⊎ MaySeal disks bodies snapshot.bodies.items new.log
      → new.log.format ≡ old.log.format → new.copied ≡ old.copied → StaysBeside disks bodies b now other new
  anew_not b begin mid now other bodies stood snapshot old new a s' on whole goes same tells (inl pair) format copied =
      let was : Was old.copied.format bodies (side b old.copied.on_first now other) =
      was_on old.copied.format bodies (side b old.copied.on_first begin other) (side b old.copied.on_first now other) a.was
      (goes_side b old.copied.on_first begin now other goes) in
      inl (
        bodies,
        pair.0,
        record {
          pair = pair.1;
          marks = subst (λ k. Marks bodies k) (sym copied) a.marks;
          format = format ∙ a.format ∙ ap (λ (k : Copied). k.format) (sym copied);
          some = a.some;
          was = subst (λ (k : Copied). Was k.format bodies (side b k.on_first now other)) (sym copied) was;
        },
        inl ([], sym (append-nil bodies)),
      )
  anew_not b begin mid now other bodies stood snapshot old new a s' on whole goes same tells (inr seal) format copied =
      let s = snapshot_on begin mid now snapshot s' on in
      let still : mid.life ≡ begin.life = lives begin mid now s'.follows.goes on same in
      let fresh : List (List ℕ) = snapshot.bodies.items in
      let was : Was old.copied.format bodies (side b old.copied.on_first now other) =
      was_on old.copied.format bodies (side b old.copied.on_first begin other) (side b old.copied.on_first now other) a.was
      (goes_side b old.copied.on_first begin now other goes) in
      let log : HasLog snapshot.at.format fresh now.file = s.follows.holds same in
      let above = seal.above in
      let life : now.life ≡ generation fresh = sym (tells snapshot.at.format fresh (λ none. none_above fresh (generation bodies) above none) log) in
      inr (record {
        state = LostCheckpoint bodies fresh;
        is = seal;
        was = λ found may.
            elim may [
              | inl is ↦ (
                old.copied.format,
                was_beside b old.copied.on_first now other old.copied.format found
                    (subst (λ l. Was old.copied.format l (side b old.copied.on_first now other)) (sym is) was),
              )
              | inr is ↦
                  (snapshot.at.format, inl (subst (λ l. Was snapshot.at.format l now) (sym is) (was_at snapshot.at.format fresh mid now on (still ∙ sym same ∙ life) (s'.follows.holds still) (whole still))))
            ];
      })

  pub fresh_was : (begin mid now : State) (snapshot : Snapshot) → IsSnapshot begin mid snapshot → Goes mid now
      → (mid.life ≡ begin.life → OnlyAppended snapshot.at.format snapshot.bodies.items mid.file) → now.life ≡ begin.life → Tells now
      → 1 ≤ length snapshot.bodies.items → Was snapshot.at.format snapshot.bodies.items now
  fresh_was begin mid now snapshot s' goes whole same tells some =
      let fresh : List (List ℕ) = snapshot.bodies.items in
      let s = snapshot_on begin mid now snapshot s' goes in
      let still : mid.life ≡ begin.life = lives begin mid now s'.follows.goes goes same in
      let life : now.life ≡ generation fresh = sym (tells snapshot.at.format fresh (λ none. some_body fresh some none) (s.follows.holds same)) in
      was_at snapshot.at.format fresh mid now goes (still ∙ sym same ∙ life) (s'.follows.holds still) (whole still)

  -- a crash while the snapshot is written
  pub leaving_not : (stood : List (List ℕ)) (snapshot : Snapshot) (now : State) (old new : LogView D)
      → (1 ≤ length snapshot.bodies.items → Was snapshot.at.format snapshot.bodies.items now)
      → (new.disk ≡ old.disk) × ((new.other ≡ old.other)
      ⊎ ((1 ≤ length snapshot.bodies.items) × LeavesOnly disks old.other new.other (LeavesAny old.log_bytes newest stood snapshot.bodies.items)))
      → LeavesFollowed disks stood now old new
  leaving_not stood snapshot now old new was (disk, inl other) = inr (inl (disk, inl other))
  leaving_not stood snapshot now old new was (disk, inr leaves) =
      inr (inl (
        disk,
        inr (leaves_more disks old.other new.other (LeavesAny old.log_bytes newest stood snapshot.bodies.items) (IsSealing old.log_bytes stood now)
            (λ c left. record { format = snapshot.at.format; fresh = snapshot.bodies.items; leaves = left; was = was leaves.0 }) leaves.1),
      ))

  -- and while its log goes on
  pub leaving_anew : (stood : List (List ℕ)) (snapshot : Snapshot) (now end : State) (old mid new : LogView D) → Goes now end
      → Was snapshot.at.format snapshot.bodies.items now → mid.other ≡ old.disk → new.other ≡ mid.other → mid.log_bytes ≡ old.log_bytes
      → LeavesOnly disks old.other mid.disk (LeavesAny old.log_bytes newest stood snapshot.bodies.items)
      → Leaving disks mid.disk new.disk (IsPart mid.log_bytes end) → LeavesFollowed disks stood end old new
  leaving_anew stood snapshot now end old mid new goes was other beside most first second =
      inr (inr (
        beside ∙ other,
        leaving_then disks old.other mid.disk new.disk (LeavesAny old.log_bytes newest stood snapshot.bodies.items) (IsPart mid.log_bytes end)
            (λ c. IsSealing old.log_bytes stood end c ⊎ IsPart old.log_bytes end c)
            (λ c left. inl (record {
              format = snapshot.at.format;
              fresh = snapshot.bodies.items;
              leaves = left;
              was = was_on snapshot.at.format snapshot.bodies.items now end was goes;
            }))
            (λ c part. inr (subst (λ m. IsPart m end c) most part)) (inr first) second,
      ))

  -- room was made before
  pub leaving_room : (old room : LogView D) (d : D) (stood fresh : List (List ℕ)) → room.other ≡ old.other → room.log_bytes ≡ old.log_bytes
      → LeavesOnly disks room.other d (LeavesAny room.log_bytes newest stood fresh) → LeavesOnly disks old.other d (LeavesAny old.log_bytes newest stood fresh)
  leaving_room old room d stood fresh other most leaves =
      subst (λ x. LeavesOnly disks x d (LeavesAny old.log_bytes newest stood fresh)) other
      (subst (λ m. LeavesOnly disks room.other d (LeavesAny m newest stood fresh)) most leaves)

  pub anew_followed : (begin now : State) (bodies fresh stood : List (List ℕ)) (standby : Standby D) → GoesAlong disks begin now fresh stood standby true
      → 1 ≤ length fresh → generation bodies < generation fresh → HasFollowed disks bodies begin now standby true
  anew_followed begin now bodies fresh stood standby g some above =
      record { now = fresh ++ g.more; stood = stood; is = g.along.is; was = g.was refl; on = λ none. absurd (cc none); above = λ is_so. omega (arith, above, generation_more fresh g.more some) }
