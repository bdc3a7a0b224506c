-- The moves that every step is made of, as far as timestamps, reads and writes go.
use Rattle.std.proofs.Common.{◌≡◌, ℕ, ◌+◌, ◌<◌, Bool, true, false, not, cond, List, [], ◌∷◌, map, Option, Some, refl, ◌∙◌}
use Rattle.std.specs.Prelude.{filter}
use Rattle.std.specs.List.{AllByRecursion}
use Rattle.xa_codes.specs.declared.codes.TheConstants.{XA_OK}
use Rattle.xa_xid.specs.Triple.{Triple}
use Rattle.xa_model.specs.State.{State, Branch, Read, Got, Walked, Wrote, Key, Keys, Phase, Working, Prepared, Committed, is_committed, is_known_as, is_with, name_of, known_of, mark_of, timestamp_of, change, without, new_work, new_branch, is_working}
use Rattle.xa_model.specs.Source.{source, is_busy, is_late}
use Rattle.xa_model.specs.Ranges.{Range}
use Rattle.xa_model.specs.Data.{did, Sees}
use Rattle.xa_model.specs.Restarting.{lasts}

-- what timestamp ordering knows of a state
pub record Core : Type 0 where
  pub boot : ℕ
  pub given : ℕ
  pub branches : List Branch
  pub reads : List Read

abbrev pub core : State → Core
core s = record { boot = s.boot; given = s.given; branches = s.branches; reads = s.reads }

-- the branch gets another phase: what is committed stays so, no branch comes back to work, and no mark becomes the code of
-- success
pub record GoesOn (b c : Branch) : Type 0 where
  pub timestamp : c.timestamp ≡ b.timestamp
  pub operations : c.operations ≡ b.operations
  pub committed : is_committed b.phase ≡ true → is_committed c.phase ≡ true
  pub works : is_working c.phase ≡ true → is_working b.phase ≡ true
  pub mark : mark_of c.phase ≡ Some XA_OK → mark_of b.phase ≡ Some XA_OK

-- branches that go on, but for some that weren't committed
pub data Remain : List Branch → List Branch → Type 0 where
  none : Remain [] []
  goes : {b : Branch} {bs cs : List Branch} → is_committed b.phase ≡ false → Remain bs cs → Remain (b ∷ bs) cs
  stays : {b c : Branch} {bs cs : List Branch} → GoesOn b c → Remain bs cs → Remain (b ∷ bs) (c ∷ cs)

pub data Moves : Core → Core → Type 0 where
  -- branches are marked, prepared, committed, rolled back
  remains : {c : Core} (bs : List Branch) → Remain c.branches bs → Moves c (record c { branches = bs })
  -- a new boot has a greater number, and begins without reads, and without branches at work
  restarts : {c : Core} (boot : ℕ) (bs : List Branch) → c.boot < boot → Remain c.branches bs
      → AllByRecursion (λ b. is_working b.phase ≡ false) bs
      → Moves c (record { boot = boot; given = 0; branches = bs; reads = [] })
  -- or it begins with all of both
  trims : {c : Core} (boot : ℕ) → c.boot < boot → Moves c (record c { boot = boot; given = 0 })
  begins : {c : Core} (xid : Triple) (start limit : ℕ)
      → Moves c (record c {
        given = c.given + 1;
        branches = new_branch (timestamp_of c.boot (c.given + 1)) xid (new_work start limit) ∷ c.branches;
      })
  gets : {c : Core} (key : List ℕ) (xid : Triple) (b : Branch) → known_of c.branches xid ≡ Some b
      → is_busy b.timestamp (source key b.timestamp c.branches) ≡ false
      → Moves c (record c {
        branches = did xid (Got key (source key b.timestamp c.branches).value (source key b.timestamp c.branches).timestamp) c.branches;
        reads = record { reader = b.timestamp; over = Key key (source key b.timestamp c.branches).timestamp } ∷ c.reads;
      })
  walks : {c : Core} (range : Range) (found : List (List ℕ × List ℕ)) (sources : List (List ℕ × ℕ)) (xid : Triple) (b : Branch)
      → known_of c.branches xid ≡ Some b → Sees range found sources b.timestamp c.branches
      → Moves c (record c {
        branches = did xid (Walked range found) c.branches;
        reads = record { reader = b.timestamp; over = Keys range sources } ∷ c.reads;
      })
  puts : {c : Core} (key : List ℕ) (value : Option (List ℕ)) (xid : Triple) (b : Branch) → known_of c.branches xid ≡ Some b
      → is_working b.phase ≡ true
      → is_late key b.timestamp c.reads ≡ false → Moves c (record c { branches = did xid (Wrote key value) c.branches })

-- branches that remain

pub as_it_is : (b : Branch) → GoesOn b b
as_it_is b = record { timestamp = refl; operations = refl; committed = λ e. e; works = λ e. e; mark = λ e. e }

pub all_remain : (bs : List Branch) → Remain bs bs
all_remain [] = none
all_remain (b ∷ bs) = stays (as_it_is b) (all_remain bs)

both_go : (b c d : Branch) → GoesOn b c → GoesOn c d → GoesOn b d
both_go b c d g h = record {
  timestamp = h.timestamp ∙ g.timestamp;
  operations = h.operations ∙ g.operations;
  committed = λ e. h.committed (g.committed e);
  works = λ e. g.works (h.works e);
  mark = λ e. g.mark (h.mark e);
}

was_uncommitted : (b c : Branch) (q : Bool) → is_committed b.phase ≡ q → GoesOn b c → is_committed c.phase ≡ false → q ≡ false
was_uncommitted b c false e g not_it = refl
was_uncommitted b c true e g not_it = absurd (cc (g.committed e, not_it))

gone_before : (b c : Branch) → GoesOn b c → is_committed c.phase ≡ false → is_committed b.phase ≡ false
gone_before b c g e = was_uncommitted b c (is_committed b.phase) refl g e

pub remain_on : {bs cs ds : List Branch} → Remain bs cs → Remain cs ds → Remain bs ds
remain_on none q = q
remain_on (goes e p) q = goes e (remain_on p q)
remain_on (stays g p) (goes e q) = goes (gone_before _ _ g e) (remain_on p q)
remain_on (stays g p) (stays h q) = stays (both_go _ _ _ g h) (remain_on p q)

-- who is known isn't committed
known_by : (xid : Triple) (p : Phase) → is_with xid (name_of p) ≡ true → is_committed p ≡ false
known_by xid (Working x work) e = refl
known_by xid (Prepared x) e = refl
known_by xid Committed e = absurd (cc e)

pub known_uncommitted : (xid : Triple) (b : Branch) → is_known_as xid b ≡ true → is_committed b.phase ≡ false
known_uncommitted xid b e = known_by xid b.phase e

changed_by : (f : Branch → Branch) (b : Branch) (bs cs : List Branch) (q : Bool) → GoesOn b (f b) → Remain bs cs
    → Remain (b ∷ bs) (cond q (f b ∷ bs) (b ∷ cs))
changed_by f b bs cs true g h = stays g (all_remain bs)
changed_by f b bs cs false g h = stays (as_it_is b) h

pub changed_remain : (p : Branch → Bool) (f : Branch → Branch) → ((b : Branch) → GoesOn b (f b)) → (bs : List Branch) → Remain bs (change p f bs)
changed_remain p f g [] = none
changed_remain p f g (b ∷ bs) = changed_by f b bs (change p f bs) (p b) (g b) (changed_remain p f g bs)

pub mapped_remain : (f : Branch → Branch) → ((b : Branch) → GoesOn b (f b)) → (bs : List Branch) → Remain bs (map f bs)
mapped_remain f g [] = none
mapped_remain f g (b ∷ bs) = stays (g b) (mapped_remain f g bs)

left_by : (b : Branch) (bs cs : List Branch) (q : Bool) → (q ≡ true → is_committed b.phase ≡ false) → Remain bs cs
    → Remain (b ∷ bs) (cond q bs (b ∷ cs))
left_by b bs cs true e h = goes (e refl) (all_remain bs)
left_by b bs cs false e h = stays (as_it_is b) h

pub left_remain : (xid : Triple) (bs : List Branch) → Remain bs (without (is_known_as xid) bs)
left_remain xid [] = none
left_remain xid (b ∷ bs) = left_by b bs (without (is_known_as xid) bs) (is_known_as xid b) (known_uncommitted xid b) (left_remain xid bs)

not_lasting : (p : Phase) → not (is_working p) ≡ false → is_committed p ≡ false
not_lasting (Working xid work) e = refl
not_lasting (Prepared xid) e = refl
not_lasting Committed e = absurd (cc e)

lasting_by : (b : Branch) (bs cs : List Branch) (q : Bool) → (q ≡ false → is_committed b.phase ≡ false) → Remain bs cs
    → Remain (b ∷ bs) (cond q (b ∷ cs) cs)
lasting_by b bs cs true e h = stays (as_it_is b) h
lasting_by b bs cs false e h = goes (e refl) h

pub lasting_remain : (bs : List Branch) → Remain bs (filter lasts bs)
lasting_remain [] = none
lasting_remain (b ∷ bs) = lasting_by b bs (filter lasts bs) (lasts b) (not_lasting b.phase) (lasting_remain bs)
