-- A log whose buffer alone may have grown: what is said of it is said of the log that it was.
use Rattle.std.proofs.Common.{◌≡◌, ◌≤◌, ◌+◌, ℕ, Bool, true, false, cond, nat_eq, not, max, List, [], ◌∷◌, length, refl, ap, sym, ◌∙◌, subst, arith, inl, inr}
use Rattle.std.specs.Prelude.{fold}
use Rattle.std.specs.List.{AllByRecursion}
use Rattle.xa_disk.specs.Disk.{Only, Same}
use Rattle.xa_disk.specs.Time.{TimePasses}
use Rattle.xa_disk.specs.declared.disk.Disk.{Ghosts}
use Rattle.xa_log.specs.Buffer.{Holds, HoldsEach}
use Rattle.xa_log.specs.Believed.Chain.{IsBody, logged, most_body, newest, text}
use Rattle.xa_log.specs.Believed.Checkpoint.{IsOther}
use Rattle.xa_log.specs.Believed.Group.{as_one, first_of_group}
use Rattle.xa_log.specs.Believed.LogStates.{Whole}
use Rattle.xa_log.specs.Believed.Pair.{beats, has_log, number_in}
use Rattle.xa_log.specs.Believed.Stands.{EndsBehind, Moves, Renumbers}
use Rattle.xa_log.specs.Believed.TwoFiles.{Pair, IsOpenPair, first_of, second_of}
use Rattle.xa_log.specs.declared.appending.Appended.{Appended}
use Rattle.xa_log.specs.declared.appending.Appended.TheVariants as appended
use Rattle.xa_log.specs.declared.format.Format.{Format}
use Rattle.xa_log.specs.Believed.LogView.{LogView}
use Rattle.xa_model.specs.declared.outcome.Appending.{Appending}
use Rattle.xa_model.specs.declared.outcome.Appending.TheVariants.{Kept, Refused, Lost}
use Rattle.xa_model.specs.State.{State}
use Rattle.xa_manager.specs.declared.manager.Manager.{Manager}
use Rattle.xa_manager.specs.Believed.Answered.{as_appended, NoneRises}
use Rattle.xa_manager.specs.Believed.Crash.{LeavesLook}
use Rattle.xa_manager.specs.Believed.Opening.{IsFound}
use Rattle.xa_manager.specs.Believed.Refused.{KeepsCurrent, LogsFirst, LogsBoot}
use Rattle.xa_manager.specs.Rereading.{Found}
use Rattle.xa_manager.specs.Reserving.{HasReserved}
use Rattle.xa_manager.specs.Managed.{ManagerStandsFor}
use Rattle.xa_manager.specs.Turns.{HasAppended}
use Rattle.xa_manager.proofs.PlannedLogs.{planned_stays}

module _ {D : Type 0} (disks : Ghosts D) (old new : LogView D) (r : HasReserved disks old new) where
  pub first_same : first_of new ≡ first_of old
  first_same = rw (r.fields.on_first, r.files.0, r.files.1) refl

  pub second_same : second_of new ≡ second_of old
  second_same = rw (r.fields.on_first, r.files.0, r.files.1) refl

  pub pair_same : (bodies stood : List (List ℕ)) → Pair disks bodies stood old → Pair disks bodies stood new
  pair_same bodies stood p = r.keeps.state (Whole bodies stood) p

  pub ends_same : (bodies : List (List ℕ)) → EndsBehind bodies old → EndsBehind bodies new
  ends_same bodies e = record {
    end = r.fields.end ∙ e.end ∙ ap (λ (f : Format). length (text f bodies)) (sym r.fields.format);
    alive = r.fields.lost ∙ e.alive;
  }

  open_same : (bodies stood : List (List ℕ)) → IsOpenPair disks bodies stood old → IsOpenPair disks bodies stood new
  open_same bodies stood p = record {
    current = r.keeps.stands bodies p.current;
    other = subst (λ (n : ℕ). IsOther disks n stood new.other) (sym r.fields.log_bytes) (subst (λ (d : D). IsOther disks old.log_bytes stood d) (sym r.files.1) p.other);
    quiet = r.keeps.quiet stood p.quiet;
    durable = subst (λ (d : D). Only (disks.seen d) (disks.may_leave d)) (sym r.files.1) p.durable;
    older = λ there.
        subst (λ (t : Bool). beats t bodies stood ≡ true) (sym r.fields.on_first)
        (p.older (ap (λ (d : D). has_log (disks.seen d)) (sym r.files.1) ∙ there));
  }

  pub found_same : (is_new : Bool) (bodies : List (List ℕ)) → IsFound disks is_new bodies old → IsFound disks is_new bodies new
  found_same true bodies (stood, p, beside) = (stood, pair_same bodies stood p, r.keeps.other beside)
  found_same false bodies p =
      subst (λ (d : D). IsOpenPair disks bodies (logged (disks.seen d)) new) (sym r.files.1) (open_same bodies (logged (disks.seen old.other)) p)

  -- ---- an append to it

  moves_same : (a : Appending) (n : ℕ) (after : LogView D) → Moves (as_appended a) n new after → Moves (as_appended a) n old after
  moves_same Kept n after m = (
    m.0 ∙ ap (λ (e : ℕ). e + (36 + n)) r.fields.end,
    m.1 ∙ r.fields.format,
    m.2 ∙ r.fields.lost,
    m.3 ∙ ap (λ (k : ℕ). max k (new.end + 40 + n)) r.fields.known ∙ ap (λ (e : ℕ). max old.known (e + 40 + n)) r.fields.end,
    m.4 ∙ r.fields.other_known,
  )
  moves_same Refused n after m =
      (m.0 ∙ r.fields.end, m.1 ∙ r.fields.format, m.2 ∙ r.fields.digest, m.3 ∙ r.fields.lost, m.4 ∙ r.fields.known, m.5 ∙ r.fields.other_known)
  moves_same Lost n after m =
      (m.0 ∙ r.fields.end, m.1 ∙ r.fields.format, m.2 ∙ r.fields.digest, m.3, m.4 ∙ r.fields.known, m.5 ∙ r.fields.other_known)

  numbers_same : (a : Appending) (body : List ℕ) (after : LogView D) → Renumbers (as_appended a) body new after → Renumbers (as_appended a) body old after
  numbers_same Kept body after m =
      m ∙ ap (λ (e : ℕ). cond (nat_eq e 8) (number_in body) new.generation) r.fields.end ∙ ap (λ (n : ℕ). cond (nat_eq old.end 8) (number_in body) n) r.fields.number
  numbers_same Refused body after m = m ∙ r.fields.number
  numbers_same Lost body after m = m ∙ r.fields.number

  pub appended_same : (group : List (List ℕ)) (a : Appending) (after : LogView D) → HasAppended disks group a new after → HasAppended disks group a old after
  appended_same group a after h = record {
    log_bytes = h.log_bytes ∙ r.fields.log_bytes;
    other = (h.other.0 ∙ r.files.1, h.other.1 ∙ r.fields.on_first);
    moves = moves_same a (as_one group) after h.moves;
    numbers = numbers_same a (first_of_group group) after h.numbers;
    pair = λ honest bodies stood p kinds. h.pair honest bodies stood (pair_same bodies stood p) kinds;
    calls = rw (← r.fields.end, ← r.fields.log_bytes, ← r.fields.known, ← r.files.0) h.calls;
    leaves = λ honest bodies st. rw (← r.fields.log_bytes, ← r.fields.format, ← r.files.0) (h.leaves honest bodies (r.keeps.stands bodies st));
  }

  -- ---- the first records of a boot

  keeps_current : (a : Appended) (after : LogView D) → KeepsCurrent a new after → KeepsCurrent a old after
  keeps_current appended.Kept after k = (k.0 ∙ r.files.0, k.1 ∙ ap not r.fields.on_first)
  keeps_current appended.Refused after k = (k.0 ∙ r.files.0, k.1 ∙ r.fields.on_first)
  keeps_current appended.Lost after k = (k.0 ∙ r.files.0, k.1 ∙ r.fields.on_first)
  keeps_current appended.Full after k = (k.0 ∙ r.files.0, k.1 ∙ r.fields.on_first)

  pub logs_same : (is_new : Bool) (a : Appended) (fresh : List (List ℕ)) (after : LogView D) → LogsFirst disks is_new a fresh new after → LogsFirst disks is_new a fresh old after
  logs_same is_new a fresh after (inl (made, x)) = inl (
    made,
    record {
      on_first = x.on_first ∙ r.fields.on_first;
      other = x.other ∙ r.files.1;
      body = x.body;
      only = x.only;
      left = λ honest stood p.
          let l = x.left honest stood (pair_same [] stood p) in
          (l.0, rw (← r.fields.log_bytes, ← r.fields.format, ← r.files.0) l.1);
    },
  )
  logs_same is_new a fresh after (inr x) = inr (record {
    current = keeps_current a after x.current;
    log_bytes = x.log_bytes ∙ r.fields.log_bytes;
    left = λ honest bodies stood p.
        let l = x.left honest bodies stood (pair_same bodies stood p) in
        (l.0, rw (← r.fields.log_bytes, ← r.files.1) l.1);
    filled = rw (← r.files.1) x.filled;
  })

  pub boot_same : (is_new : Bool) (bodies : List (List ℕ)) (log_bytes : ℕ) (a : Appended) (after : LogView D) → LogsBoot disks is_new bodies log_bytes a new after → LogsBoot disks is_new bodies log_bytes a old after
  boot_same is_new bodies log_bytes a after b =
      record { durable = b.durable; comes = b.comes; boots = b.boots; room = b.room; logs = logs_same is_new a _ after b.logs }

  -- ---- a look that led to it

  pub state_same : (bodies : List (List ℕ)) (s : State) → Found disks bodies old s → Found disks bodies new s
  state_same bodies s f = record {
    state = f.state;
    many = f.many;
    fate = f.fate;
    earlier = f.earlier;
    stood = f.stood;
    records = f.records;
    settled = f.settled;
    spelled_as = f.spelled_as;
    backs = f.backs;
    has = (f.has.0, pair_same _ f.has.0 f.has.1, r.keeps.other f.has.2);
    end = r.fields.end ∙ f.end;
    alive = r.fields.lost ∙ f.alive;
  }

  pub many_same : (bodies : List (List ℕ)) (s : State) (f : Found disks bodies old s) → f.many ≡ (state_same bodies s f).many
  unfolding state_same
  many_same bodies s f = refl

  pub look_same : (before : LogView D) (s : State) → LeavesLook disks before old s → LeavesLook disks before new s
  look_same before s (looks, leaves) = (
    record {
      log_bytes = r.fields.log_bytes ∙ looks.log_bytes;
      first = subst (λ (d : D). TimePasses disks Same (first_of before) d) (sym first_same) looks.first;
      second = subst (λ (d : D). TimePasses disks Same (second_of before) d) (sym second_same) looks.second;
      first_same = ap disks.seen first_same ∙ looks.first_same;
      second_same = ap disks.seen second_same ∙ looks.second_same;
    },
    λ first second left chance.
        leaves first second
        (record {
          first_left = subst (λ (d : D). disks.left_since d (disks.moment (first_of before)) first) first_same left.first_left;
          second_left = subst (λ (d : D). disks.left_since d (disks.moment (second_of before)) second) second_same left.second_left;
        })
        chance,
  )

  pub none_rises : (before : LogView D) → NoneRises disks.failures before old → NoneRises disks.failures before new
  none_rises before (first, second) = (ap disks.failures first_same ∙ first, ap disks.failures second_same ∙ second)

-- the manager of a log whose buffer alone may have grown
pub reserved_stands : {D : Type 0} (disks : Ghosts D) (m m' : Manager D) (s : State) → HasReserved disks m.log m'.log → m' ≡ record m { log = m'.log } → ManagerStandsFor disks m s
    → ManagerStandsFor disks m' s
reserved_stands {D} disks m m' s r is st = subst (λ (x : Manager D). ManagerStandsFor disks x s) (sym is) (planned_stays disks m m'.log r.fields r.keeps s st)

-- nothing was reserved
pub none_reserved : {D : Type 0} (disks : Ghosts D) (log : LogView D) → HasReserved disks log log
none_reserved disks log = record {
  files = (refl, refl);
  fields = record { on_first = refl; log_bytes = refl; format = refl; end = refl; digest = refl; number = refl; lost = refl; known = refl; other_known = refl };
  keeps = record { state = λ state it. it; quiet = λ stood it. it; known = λ it. it; other = λ it. it; stands = λ bodies it. it; may_stand = λ bodies body it. it };
}

-- ---- the longest of some bodies

abbrev longest_from : ℕ → List (List ℕ) → ℕ
longest_from n vs = fold (λ (most : ℕ) (v : List ℕ). max most (length v)) n vs

longest_grows : (n : ℕ) (vs : List (List ℕ)) → n ≤ longest_from n vs
longest_grows n [] = omega arith
longest_grows n (v ∷ vs) = omega (arith, longest_grows (max n (length v)) vs)

none_longer : (n : ℕ) (vs : List (List ℕ)) → AllByRecursion (λ b. length b ≤ longest_from n vs) vs
none_longer n [] = tt
none_longer n (v ∷ vs) = (omega (arith, longest_grows (max n (length v)) vs), none_longer (max n (length v)) vs)

within : (n : ℕ) (vs : List (List ℕ)) → n ≤ most_body newest → AllByRecursion (IsBody newest) vs → longest_from n vs ≤ most_body newest
within n [] h all = h
within n (v ∷ vs) h all = within (max n (length v)) vs (omega (arith, h, all.0.small)) all.1

-- a buffer that holds it holds each of them
held_below : {D : Type 0} (log : LogView D) (n m : ℕ) → n ≤ m → Holds log m → Holds log n
held_below log n m less (inl h) = inl (omega (arith, less, h))
held_below log n m less (inr h) = inr (omega (arith, less, h))

held_all : {D : Type 0} (log : LogView D) (most : ℕ) (bodies : List (List ℕ)) → Holds log most → AllByRecursion (λ b. length b ≤ most) bodies → HoldsEach log bodies
held_all log most [] h all = tt
held_all log most (b ∷ bodies) h all = (held_below log (length b) most all.0 h, held_all log most bodies h all.1)

pub holds_longest : {D : Type 0} (log : LogView D) (vs : List (List ℕ)) (most : ℕ) → most ≡ longest_from 0 vs → Holds log most → HoldsEach log vs
holds_longest log vs most is h = held_all log most vs h (subst (λ (n : ℕ). AllByRecursion (λ b. length b ≤ n) vs) (sym is) (none_longer 0 vs))

pub longest_within : (vs : List (List ℕ)) (most : ℕ) → most ≡ longest_from 0 vs → AllByRecursion (IsBody newest) vs → most ≤ most_body newest
longest_within vs most is all = subst (λ (n : ℕ). n ≤ most_body newest) (sym is) (within 0 vs (omega arith) all)
