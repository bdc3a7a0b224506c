-- A round of a standby.
use Rattle.std.proofs.Common.{◌≡◌, inl, inr, Bool, true, false, cond, ℕ, ◌-◌, List, [], ◌++◌, length, refl, sym, ◌∙◌, ap, subst}
use mathlib.Core.Bool.{beq}
use Rattle.std.specs.Prelude.{not}
use Rattle.std.proofs.lemmas.List.{append-nil}
use Rattle.xa_disk.specs.declared.disk.Disk.{Ghosts}
use Rattle.xa_log.specs.Believed.Generation.{generation}
use Rattle.xa_log.specs.Believed.Pair.{on_first}
use Rattle.xa_copy.specs.Copies.{WasLog}
use Rattle.xa_copy.specs.Followed.{FollowsTo}
use Rattle.xa_copy.specs.Moving.{Goes, State}
use Rattle.xa_copy.specs.Standbys.{GoesAlong, HasFollowed, IsAlong, IsStandby, KeepsOn, StaysBeside, StaysOrLost, side}
use Rattle.xa_copy.specs.declared.followed.Followed.{Followed}
use Rattle.xa_copy.specs.declared.standby.Standby.{Standby}
use Rattle.xa_copy.proofs.Finishing.{goes_chosen}
use Rattle.xa_copy.proofs.Following.{goes_stay}
use Rattle.xa_copy.proofs.Standing.{standby_on}

side_same : (b mine : Bool) (source other : State) → mine ≡ b → side b mine source other ≡ source
side_same true mine source other is = ap (λ (t : Bool). cond t source other) is
side_same false mine source other is = ap (λ (t : Bool). cond t other source) is

-- by a test
pub same_side : (b mine : Bool) → not (beq b mine) ≡ false → mine ≡ b
same_side true true is = refl
same_side false false is = refl
same_side true false is = absurd (cc is)
same_side false true is = absurd (cc is)

module _ {D : Type 0} (disks : Ghosts D) where
  -- a file that goes on, from where it is looked at
  pub along_by : (b : Bool) (begin other : State) (bodies stood : List (List ℕ)) (standby : Standby D)
      → IsStandby disks bodies stood (side b standby.copied.on_first begin other) standby → standby.copied.on_first ≡ b
      → begin.life ≡ generation bodies → IsAlong disks begin begin bodies stood standby
  along_by b begin other bodies stood standby s mine life =
      let is : IsStandby disks bodies stood begin standby =
      subst (λ t. IsStandby disks bodies stood t standby) (side_same b standby.copied.on_first begin other mine) s in
      record {
        is = is;
        follows = record {
          goes = goes_stay begin;
          holds = λ _. is.was.until.grows (life ∙ sym is.was.life) standby.copied.format bodies is.was.log;
        };
        life = life;
      }

  pub beside_by : (b : Bool) (now other : State) (before first : List (List ℕ)) (standby : Standby D) → StaysOrLost disks first now standby
      → standby.copied.on_first ≡ b → ((l : List (List ℕ)) → (more : List (List ℕ)) × (l ≡ first ++ more) → KeepsOn before l)
      → StaysBeside disks before b now other standby
  beside_by b now other before first standby (inl s) mine keeps =
      inl (s.0, s.1, subst (λ t. IsStandby disks s.0 s.1 t standby) (sym (side_same b standby.copied.on_first now other mine)) s.2, keeps s.0 s.3)
  beside_by b now other before first standby (inr l) mine keeps = inr (record {
    state = l.state;
    is = l.is;
    was = λ found may.
        let w = l.was found may in (w.0, elim w.1 [ inl a ↦ inl a | inr a ↦ inl a ]);
  })

  pub beside_swap : (before : List (List ℕ)) (now other : State) (standby : Standby D) → StaysBeside disks before false now other standby
      → StaysBeside disks before true other now standby
  beside_swap before now other standby (inl s) = inl s
  beside_swap before now other standby (inr l) = inr (record {
    state = l.state;
    is = l.is;
    was = λ found may.
        let w = l.was found may in (w.0, elim w.1 [ inl a ↦ inr a | inr a ↦ inl a ]);
  })

  pub beside_still : (bodies stood : List (List ℕ)) (first first' second second' : State) (standby : Standby D)
      → IsStandby disks bodies stood (cond standby.copied.on_first first second) standby → Goes first first' → Goes second second'
      → StaysBeside disks bodies true first' second' standby
  beside_still bodies stood first first' second second' standby s a a' =
      let b : Bool = standby.copied.on_first in
      inl (
        bodies,
        stood,
        standby_on disks bodies stood (cond b first second) (cond b first' second') standby s (goes_chosen b first first' second second' a a'),
        inl ([], sym (append-nil bodies)),
      )

  pub followed_by : (begin now : State) (bodies stood : List (List ℕ)) (standby : Standby D) → GoesAlong disks begin now bodies stood standby true
      → HasFollowed disks bodies begin now standby false
  followed_by begin now bodies stood standby g =
      record { now = bodies ++ g.more; stood = stood; is = g.along.is; was = g.was refl; on = λ _. (g.more, refl); above = λ is_so. absurd (cc is_so) }

  -- of two files
  pub follows_chosen : (first first_then first' second second_then second' : State) (bodies : List (List ℕ)) (standby : Standby D) (followed : Followed)
      (b is_anew : Bool) (had : ℕ) → Goes first first_then → Goes second second_then → standby.copied.on_first ≡ b
      → b ≡ on_first first_then.file second_then.file
      → HasFollowed disks bodies (cond b first_then second_then) (cond b first' second') standby is_anew → had ≡ length bodies
      → followed.records ≡ standby.copied.records - cond is_anew 0 had → followed.is_anew ≡ is_anew → followed.end ≡ standby.copied.end
      → followed.generation ≡ standby.log.generation → FollowsTo disks bodies first first' second second' standby followed
  follows_chosen first first_then first' second second_then second' bodies standby followed b is_anew had a a' is chosen it had_is records anew end number =
      let s : IsStandby disks it.now it.stood (cond standby.copied.on_first first' second') standby =
      subst (λ t. IsStandby disks it.now it.stood (cond t first' second') standby) (sym is) it.is in
      let was : WasLog standby.copied.format it.now (cond standby.copied.on_first first_then second_then) (cond standby.copied.on_first first' second') =
      subst (λ t. WasLog standby.copied.format it.now (cond t first_then second_then) (cond t first' second')) (sym is) it.was in
      record {
        first_then = first_then;
        second_then = second_then;
        since_first = a;
        since_second = a';
        chosen = is ∙ chosen;
        now = it.now;
        stood = it.stood;
        is = s;
        was = was;
        on = λ none. it.on (sym anew ∙ none);
        above = λ is_so. it.above (sym anew ∙ is_so);
        kept = λ before same log.
            was.kept before ((goes_chosen standby.copied.on_first first first_then second second_then a a').grows same standby.copied.format before log);
        records = records ∙ (λ i. s.marks.records i - cond (sym anew i) 0 (had_is i));
        end = end ∙ s.marks.end;
        number = number ∙ s.pair.current.number;
      }
