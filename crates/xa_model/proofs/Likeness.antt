-- States that differ in who is connected, in what a hang-up marks, and in whether anybody answers: the same may be logged of
-- them, and a record that is kept leaves them so.
use Rattle.std.proofs.Common.{◌≡◌, ℕ, Bool, true, false, cond, List, [], ◌∷◌, Option, refl, sym, ap, ◌∙◌, subst, arith}
use Rattle.std.specs.Prelude.{map}
use Rattle.std.specs.List.{AllByRecursion}
use Rattle.std.proofs.Common.{inl, inr}
use Rattle.xa_codes.specs.declared.write.Write.{Write}
use Rattle.xa_codes.specs.declared.direction.Direction.TheVariants as direction
use Rattle.xa_record.specs.declared.record.Record.{Record}
use Rattle.xa_record.specs.declared.record.Record.TheVariants as logged
use Rattle.xa_xid.specs.Triple.{Triple}
use Rattle.xa_model.specs.State.{State, Association, Branch, Decided, Phase, Working, Prepared, Committed, InDoubt, known_as, known_among, known_of, decided_of, is_at_work, is_known_as, is_with, holders_of, without, change}
use Rattle.xa_model.specs.Associations.{left_behind, timestamp_by}
use Rattle.xa_model.specs.Phases.{as_committed, as_prepared, is_decision_of}
use Rattle.xa_model.specs.Completions.{is_completed}
use Rattle.xa_model.specs.Logging.{applied, writes_by, is_boot}
use Rattle.xa_model.specs.Invariants.MayLog.{IsIdle, MayLog}
use Rattle.xa_model.specs.Invariants.Loggable.{MayBeLast, MayFollow, AreOneGroup}
use Rattle.xa_model.proofs.Marks.{left_keeps}
use Rattle.xa_model.proofs.Parts.{at_work_map}
use Rattle.xa_model.proofs.LeftBehind.{left_known, left_time, left_writes, left_doubtful, left_completed, left_prepared, left_committed}

-- the branches of the one are those of the other, some of them marked by a hang-up
pub record IsLike (s t : State) : Type 0 where
  pub boot : t.boot ≡ s.boot
  pub logged_boot : t.logged_boot ≡ s.logged_boot
  pub decided : t.decided ≡ s.decided
  pub free : (xid : Triple) → holders_of s.associations xid ≡ 0 → holders_of t.associations xid ≡ 0
  pub held : List Association
  pub session : ℕ
  pub branches : t.branches ≡ map (left_behind held session) s.branches

-- with nobody's associations nobody is hung up

nobody_by : (b : Branch) (p : Phase) → b.phase ≡ p → left_behind [] 0 b ≡ b
nobody_by b (Working x work) e = subst (λ (p : Phase). left_behind [] 0 (record b { phase = p }) ≡ record b { phase = p }) (sym e) refl
nobody_by b (Prepared x) e = subst (λ (p : Phase). left_behind [] 0 (record b { phase = p }) ≡ record b { phase = p }) (sym e) refl
nobody_by b Committed e = subst (λ (p : Phase). left_behind [] 0 (record b { phase = p }) ≡ record b { phase = p }) (sym e) refl

none_left : (bs : List Branch) → map (left_behind [] 0) bs ≡ bs
none_left [] = refl
none_left (b ∷ bs) = rw (nobody_by b b.phase refl, none_left bs) refl

-- the same branches
pub same_branches : (s t : State) → t.boot ≡ s.boot → t.logged_boot ≡ s.logged_boot → t.decided ≡ s.decided → t.branches ≡ s.branches
    → ((xid : Triple) → holders_of s.associations xid ≡ 0 → holders_of t.associations xid ≡ 0) → IsLike s t
same_branches s t e f g same free = record {
  boot = e;
  logged_boot = f;
  decided = g;
  free = free;
  held = [];
  session = 0;
  branches = same ∙ sym (none_left s.branches);
}

-- what may be logged of the one may be of the other

like_known : (s t : State) → (h : IsLike s t) → (xid : Triple) → known_of t.branches xid ≡ known_of (map (left_behind h.held h.session) s.branches) xid
like_known s t h xid = ap (λ (bs : List Branch). known_of bs xid) h.branches

like_idle : (s t : State) → IsLike s t → (xid : Triple) (time : ℕ) (ws : List Write) → IsIdle s xid time ws → IsIdle t xid time ws
like_idle s t h xid time ws may =
    let same = like_known s t h xid in
    record {
      free = h.free xid may.free;
      working = ap is_at_work same ∙ at_work_map (left_behind h.held h.session) (left_keeps h.held h.session) xid s.branches ∙ may.working;
      timestamp = ap timestamp_by (same ∙ left_known h.held h.session xid s.branches) ∙ left_time h.held h.session (known_of s.branches xid) ∙ may.timestamp;
      writes = ap writes_by (same ∙ left_known h.held h.session xid s.branches) ∙ left_writes h.held h.session (known_of s.branches xid) ∙ may.writes;
    }

like_doubtful : (s t : State) → IsLike s t → (xid : Triple) → known_as s xid ≡ InDoubt → known_as t xid ≡ InDoubt
like_doubtful s t h xid may =
    ap (λ (ds : List Decided). known_among (known_of t.branches xid) (decided_of ds xid)) h.decided
    ∙ ap (λ (o : Option Branch). known_among o (decided_of s.decided xid)) (like_known s t h xid ∙ left_known h.held h.session xid s.branches)
    ∙ left_doubtful h.held h.session (known_of s.branches xid) (decided_of s.decided xid) may

like_completed : (s t : State) → IsLike s t → (xid : Triple) → is_completed (known_as s xid) ≡ true → is_completed (known_as t xid) ≡ true
like_completed s t h xid may =
    ap (λ (ds : List Decided). is_completed (known_among (known_of t.branches xid) (decided_of ds xid))) h.decided
    ∙ ap (λ (o : Option Branch). is_completed (known_among o (decided_of s.decided xid))) (like_known s t h xid ∙ left_known h.held h.session xid s.branches)
    ∙ left_completed h.held h.session (known_of s.branches xid) (decided_of s.decided xid) may

pub like_may : (s t : State) (r : Record) → IsLike s t → MayLog s r → MayLog t r
like_may s t (logged.Opened boot) h may = let same = h.logged_boot in omega (arith, same, may)
like_may s t (logged.Prepared xid time ws) h may = like_idle s t h xid time ws may
like_may s t (logged.Committed xid time ws) h may = like_idle s t h xid time ws may
like_may s t (logged.Completed xid way) h may = like_doubtful s t h xid may
like_may s t (logged.Decided xid way) h may = like_doubtful s t h xid may
like_may s t (logged.Forgotten xid) h may = like_completed s t h xid may
like_may s t (logged.Base time ws) h may = may
like_may s t (logged.Held xid time ws) h may = may
like_may s t (logged.Known xid way) h may = may

pub like_last : (s t : State) (r : Record) → IsLike s t → MayBeLast s r → MayBeLast t r
like_last s t r h last =
    record { may = like_may s t r h last.may; limits = last.limits; current = λ other. h.logged_boot ∙ last.current other ∙ sym h.boot }

-- a record that is kept leaves them so

changed_by : (f g : Branch → Branch) (b : Branch) (bs xs ys : List Branch) (c d : Bool) → c ≡ d → g (f b) ≡ f (g b) → xs ≡ map f ys
    → cond c (g (f b) ∷ map f bs) (f b ∷ xs) ≡ map f (cond d (g b ∷ bs) (b ∷ ys))
changed_by f g b bs xs ys true true e same rest = ap (λ (x : Branch). x ∷ map f bs) same
changed_by f g b bs xs ys false false e same rest = ap (λ (l : List Branch). f b ∷ l) rest
changed_by f g b bs xs ys true false e same rest = absurd (cc e)
changed_by f g b bs xs ys false true e same rest = absurd (cc e)

change_mapped : (p : Branch → Bool) (f g : Branch → Branch) → ((b : Branch) → p (f b) ≡ p b) → ((b : Branch) → g (f b) ≡ f (g b)) → (bs : List Branch)
    → change p g (map f bs) ≡ map f (change p g bs)
change_mapped p f g passes same [] = refl
change_mapped p f g passes same (b ∷ bs) =
    changed_by f g b bs (change p g (map f bs)) (change p g bs) (p (f b)) (p b) (passes b) (same b) (change_mapped p f g passes same bs)

without_by : (f : Branch → Branch) (b : Branch) (bs xs ys : List Branch) (c d : Bool) → c ≡ d → xs ≡ map f ys
    → cond c (map f bs) (f b ∷ xs) ≡ map f (cond d bs (b ∷ ys))
without_by f b bs xs ys true true e rest = refl
without_by f b bs xs ys false false e rest = ap (λ (l : List Branch). f b ∷ l) rest
without_by f b bs xs ys true false e rest = absurd (cc e)
without_by f b bs xs ys false true e rest = absurd (cc e)

without_mapped : (p : Branch → Bool) (f : Branch → Branch) → ((b : Branch) → p (f b) ≡ p b) → (bs : List Branch) → without p (map f bs) ≡ map f (without p bs)
without_mapped p f passes [] = refl
without_mapped p f passes (b ∷ bs) = without_by f b bs (without p (map f bs)) (without p bs) (p (f b)) (p b) (passes b) (without_mapped p f passes bs)

left_passes : (held : List Association) (n : ℕ) (xid : Triple) (b : Branch) → is_known_as xid (left_behind held n b) ≡ is_known_as xid b
left_passes held n xid b = ap (is_with xid) ((left_keeps held n).name b)

module _ (s t : State) (h : IsLike s t) (xid : Triple) where
  changes : (g : Branch → Branch) → ((b : Branch) → g (left_behind h.held h.session b) ≡ left_behind h.held h.session (g b))
      → change (is_known_as xid) g t.branches ≡ map (left_behind h.held h.session) (change (is_known_as xid) g s.branches)
  changes g same =
      ap (change (is_known_as xid) g) h.branches
      ∙ change_mapped (is_known_as xid) (left_behind h.held h.session) g (left_passes h.held h.session xid) same s.branches

  commits : change (is_known_as xid) as_committed t.branches ≡ map (left_behind h.held h.session) (change (is_known_as xid) as_committed s.branches)
  commits = changes as_committed (left_committed h.held h.session)

  leaves : without (is_known_as xid) t.branches ≡ map (left_behind h.held h.session) (without (is_known_as xid) s.branches)
  leaves =
      ap (without (is_known_as xid)) h.branches
      ∙ without_mapped (is_known_as xid) (left_behind h.held h.session) (left_passes h.held h.session xid) s.branches

like_with : (s t : State) → (h : IsLike s t) → (u v : State) → v.boot ≡ t.boot → v.logged_boot ≡ t.logged_boot → v.associations ≡ t.associations
    → u.boot ≡ s.boot → u.logged_boot ≡ s.logged_boot → u.associations ≡ s.associations
    → v.decided ≡ u.decided → v.branches ≡ map (left_behind h.held h.session) u.branches → IsLike u v
like_with s t h u v a b c d e f decided branches = record {
  boot = a ∙ h.boot ∙ sym d;
  logged_boot = b ∙ h.logged_boot ∙ sym e;
  decided = decided;
  free = λ xid none.
      ap (λ (held : List Association). holders_of held xid) c
      ∙ h.free xid (sym (ap (λ (held : List Association). holders_of held xid) f) ∙ none);
  held = h.held;
  session = h.session;
  branches = branches;
}

pub like_next : (s t : State) (r : Record) → is_boot r ≡ false → IsLike s t → IsLike (applied r s) (applied r t)
like_next s t (logged.Opened boot) other h = absurd (cc other)
like_next s t (logged.Prepared xid time ws) other h =
    like_with s t h _ _ refl refl refl refl refl refl h.decided (changes s t h xid as_prepared (left_prepared h.held h.session))
like_next s t (logged.Committed xid time ws) other h = like_with s t h _ _ refl refl refl refl refl refl h.decided (commits s t h xid)
like_next s t (logged.Completed xid direction.Commit) other h = like_with s t h _ _ refl refl refl refl refl refl h.decided (commits s t h xid)
like_next s t (logged.Completed xid direction.Rollback) other h = like_with s t h _ _ refl refl refl refl refl refl h.decided (leaves s t h xid)
like_next s t (logged.Decided xid direction.Commit) other h =
    like_with s t h _ _ refl refl refl refl refl refl (ap (λ (ds : List Decided). record { xid = xid; direction = direction.Commit } ∷ ds) h.decided) (commits s t h xid)
like_next s t (logged.Decided xid direction.Rollback) other h =
    like_with s t h _ _ refl refl refl refl refl refl (ap (λ (ds : List Decided). record { xid = xid; direction = direction.Rollback } ∷ ds) h.decided) (leaves s t h xid)
like_next s t (logged.Forgotten xid) other h =
    like_with s t h _ _ refl refl refl refl refl refl (ap (without (is_decision_of xid)) h.decided) h.branches
like_next s t (logged.Base time ws) other h = h
like_next s t (logged.Held xid time ws) other h = h
like_next s t (logged.Known xid way) other h = h

-- so records that may follow one another still may

pub like_follow : (s t : State) (rs : List Record) → AllByRecursion (λ (r : Record). is_boot r ≡ false) rs → IsLike s t → MayFollow s rs → MayFollow t rs
like_follow s t [] others h follow = tt
like_follow s t (r ∷ rs) others h follow =
    (like_last s t r h follow.0, like_follow (applied r s) (applied r t) rs others.1 (like_next s t r others.0 h) follow.1)

pub like_group : (s t : State) (rs : List Record) → AreOneGroup rs → IsLike s t → MayFollow s rs → MayFollow t rs
like_group s t rs (inl others) h follow = like_follow s t rs others h follow
like_group s t [] (inr one) h follow = tt
like_group s t (r ∷ []) (inr one) h follow = (like_last s t r h follow.0, tt)
like_group s t (r ∷ q ∷ rs) (inr one) h follow = absurd (omega (arith, one))
