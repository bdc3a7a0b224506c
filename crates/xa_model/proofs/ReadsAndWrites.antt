-- Gets and puts leave answered reads right.
use Rattle.std.proofs.Common.{◌≡◌, ◌⊎◌, inl, inr, ℕ, ◌+◌, ◌<◌, ◌≤◌, ◌==◌, Bool, true, false, not, ◌&&◌, ◌||◌, cond, List, [], ◌∷◌, Option, Some, None, refl, sym, ◌∙◌, ap, subst, arith}
use Rattle.std.specs.Prelude.{bytes_eq, is_some, nat_lt}
use Rattle.std.specs.List.{AllByRecursion}
use Rattle.std.proofs.lemmas.Bool.{cases_lt}
use Rattle.std.proofs.lemmas.Bool.Decides.{nat_tests}
use Rattle.std.proofs.lemmas.Slice.Eq.{bytes_eq-Decides}
use Rattle.xa_xid.specs.Triple.{Triple}
use Rattle.xa_model.specs.State.{Branch, Read, Operation, Got, Walked, Wrote, Key, Keys, is_known_as, is_working, known_of, timestamp_of}
use Rattle.xa_model.specs.Source.{Version, write_of, absent, source, source_read, is_busy, is_late}
use Rattle.xa_model.specs.Invariants.Sound.{Descends}
use Rattle.xa_model.specs.Data.{having_done, did}
use Rattle.xa_model.proofs.Inserts.{all_imply}
use Rattle.xa_model.proofs.Keys.{key_itself}
use Rattle.xa_model.proofs.Lists.{found_all, change_all}
use Rattle.xa_model.proofs.Moves.{Core, Moves, remains, restarts, trims, begins, gets, walks, puts, known_uncommitted}
use Rattle.xa_model.proofs.Pins.{Has, IsSource, IsOutside, IsRight, IsPinned, Settled, SettledAt, WorksAbove, ArePinned, AreSettled, IsOrdered, settled_weaker, changed_has, changed_all, remains_settled, restarts_settled, trims_settled, begins_settled}
use Rattle.xa_model.proofs.Sources.{Left, IsAtMost, IsNewest, source_is, found_one}

later_read : (key : List ℕ) (u : ℕ) (r : Read) (reads : List Read) → is_late key u reads ≡ true → is_late key u (r ∷ reads) ≡ true
later_read key u r reads e = grind (arith, e)

-- a read of this key passes over what stands between its source and its reader
between : (key : List ℕ) (u from t : ℕ) (r : Read) (reads : List Read) → r.reader ≡ t → source_read key r.over ≡ Some from → from < u → u < t
    → is_late key u (r ∷ reads) ≡ true
between key u from t r reads by source above under = rw (source, by) (above_or (nat_lt from u && nat_lt u t) (grind (arith, nat_tests)))
  where
    above_or : (c : Bool) → c ≡ true → (c || is_late key u reads) ≡ true
    above_or c e = rw e refl

has_imply : {A : Type 0} (P Q : A → Type 0) → ((x : A) → P x → Q x) → (xs : List A) → Has P xs → Has Q xs
has_imply P Q f [] h = absurd h
has_imply P Q f (x ∷ xs) (inl p) = inl (f x p)
has_imply P Q f (x ∷ xs) (inr h) = inr (has_imply P Q f xs h)

pub above_zero : (limit : ℕ) (bs : List Branch) → Descends limit bs → AllByRecursion (λ b. 0 < b.timestamp) bs
above_zero limit [] d = tt
above_zero limit (b ∷ bs) d = (d.0, above_zero b.timestamp bs d.2)

is_free : (committed : Bool) (u t : ℕ) → u < t → (not committed && not (u == t)) ≡ false → committed ≡ true
is_free true u t less e = refl
is_free false u t less e = grind (arith, nat_tests)

-- an answered get or walk: an operation that writes nothing, and its read

module _ (floor : ℕ) (c : Core) (xid : Triple) (b : Branch) (found : known_of c.branches xid ≡ Some b) (o : IsOrdered c) (op : Operation)
    (silent : (k : List ℕ) (ops : List Operation) → write_of k (op ∷ ops) ≡ write_of k ops) (r : Read) (by : r.reader ≡ b.timestamp) where
  abbrev after_read : Core
  after_read = record c { branches = did xid op c.branches; reads = r ∷ c.reads }

  -- the source of another read stays where it is, and so does what stands outside of it
  right_on : (t : ℕ) (k : List ℕ) (answer : Option (List ℕ)) (from : ℕ) → IsRight c.branches t k answer from
      → IsRight after_read.branches t k answer from
  right_on t k answer from h = record {
    earlier = h.earlier;
    source = elim h.source [
      | inl zero ↦ inl zero
      | inr there ↦ inr
          (changed_has (IsSource k answer from) (is_known_as xid) (having_done op)
          (λ x known src. (src.0, src.1, silent k x.operations ∙ src.2)) c.branches there)
    ];
    none_between =
        change_all (IsOutside t k from) (is_known_as xid) (having_done op)
        (λ x out w. out (ap (λ y. is_some y) (sym (silent k x.operations)) ∙ w)) c.branches h.none_between;
  }

  pins_on : (t : ℕ) (k : List ℕ) (answer : Option (List ℕ)) (from : ℕ) → IsPinned floor c t k answer from → IsPinned floor after_read t k answer from
  pins_on t k answer from p = record {
    right = right_on t k answer from p.right;
    guarded = λ u above under. elim (p.guarded u above under) [ inl old ↦ inl old | inr late ↦ inr (later_read k u _ c.reads late) ];
  }

  done_pinned : (Settled (IsPinned floor after_read b.timestamp) b.operations → Settled (IsPinned floor after_read b.timestamp) (op ∷ b.operations))
      → ArePinned floor c c.branches
      → ArePinned floor after_read after_read.branches
  done_pinned here h =
      changed_all (λ x. Settled (IsPinned floor c x.timestamp) x.operations) (λ x. Settled (IsPinned floor after_read x.timestamp) x.operations)
      (is_known_as xid) (having_done op)
      (λ x k. settled_weaker (IsPinned floor c x.timestamp) (IsPinned floor after_read x.timestamp) x.operations (pins_on x.timestamp) k) b c.branches found h
      (λ k. here (settled_weaker (IsPinned floor c b.timestamp) (IsPinned floor after_read b.timestamp) b.operations (pins_on b.timestamp) k))

  abbrev seen : List ℕ → Version
  seen key = source key b.timestamp c.branches

  answered : (key : List ℕ) → is_busy b.timestamp (seen key) ≡ false → source_read key r.over ≡ Some (seen key).timestamp
      → SettledAt (IsPinned floor after_read b.timestamp) key (seen key).value (seen key).timestamp b.operations
  answered key free covered =
      elim newest.from [
        | inl none ↦ inr
            (other_read (omega (arith, ap (λ (x : Version). x.timestamp) none, positive))
            (inl (ap (λ (x : Version). x.timestamp) none, ap (λ (x : Version). x.value) none)))
        | inr there ↦ elim (cases_lt v.timestamp b.timestamp) [
          | inl less ↦ inr
              (other_read less
              (inr (has_imply (Left key v) (IsSource key v.value v.timestamp) (λ x l. (l.0, l.1 ∙ settled less, l.2)) c.branches there.1)))
          | inr more ↦ inl (own_read (omega (arith, more, there.0)) there.1)
        ]
      ]
    where
      v : Version
      v = seen key

      newest : IsNewest key b.timestamp c.branches absent v
      newest = source_is key b.timestamp c.branches

      positive : 0 < b.timestamp
      positive =
          found_all (λ (x : Branch). 0 < x.timestamp) (is_known_as xid) b c.branches
          (above_zero (timestamp_of c.boot c.given + 1) c.branches o.descends) found

      settled : v.timestamp < b.timestamp → v.committed ≡ true
      settled less = is_free v.committed v.timestamp b.timestamp less free

      own_read : v.timestamp ≡ b.timestamp → Has (Left key v) c.branches → write_of key b.operations ≡ Some v.value
      own_read same there =
          found_one (λ x. write_of key x.operations ≡ Some v.value) (timestamp_of c.boot c.given + 1) (is_known_as xid) b c.branches o.descends found
          (has_imply (Left key v) (λ x. (x.timestamp ≡ b.timestamp) × (write_of key x.operations ≡ Some v.value))
          (λ x l. (l.0 ∙ same, l.2)) c.branches there)

      unwritten : v.timestamp < b.timestamp → (w : Option (Option (List ℕ))) → write_of key b.operations ≡ w → write_of key b.operations ≡ None
      unwritten less None e = e
      unwritten less (Some x) e =
          let most : IsAtMost key b.timestamp v.timestamp b
          = found_all (IsAtMost key b.timestamp v.timestamp) (is_known_as xid) b c.branches newest.greatest found in
          absurd (omega (arith, less, most (ap (λ w. is_some w) e) (omega arith)))

      outside : (u : ℕ) → (u ≤ b.timestamp → u ≤ v.timestamp) → (u ≤ v.timestamp) ⊎ (b.timestamp ≤ u)
      outside u most = elim (cases_lt u b.timestamp) [ inl less ↦ inl (most (omega arith)) | inr more ↦ inr more ]

      -- another branch's version
      other_read : v.timestamp < b.timestamp → ((v.timestamp ≡ 0) × (v.value ≡ None)) ⊎ Has (IsSource key v.value v.timestamp) c.branches
          → (write_of key b.operations ≡ None) × IsPinned floor after_read b.timestamp key v.value v.timestamp
      other_read less src = (
        unwritten less (write_of key b.operations) refl,
        record {
          right = right_on b.timestamp key v.value v.timestamp (record {
            earlier = less;
            source = src;
            none_between = all_imply (IsAtMost key b.timestamp v.timestamp) (IsOutside b.timestamp key v.timestamp)
                (λ x most w. outside x.timestamp (most w)) c.branches newest.greatest;
          });
          guarded = λ u above under. inr (between key u v.timestamp b.timestamp r c.reads by covered above under);
        },
      )

-- an accepted put

module _ (floor : ℕ) (c : Core) (key : List ℕ) (value : Option (List ℕ)) (xid : Triple) (b : Branch) (found : known_of c.branches xid ≡ Some b)
    (new : floor < b.timestamp) (on_time : is_late key b.timestamp c.reads ≡ false) where
  abbrev after_put : Core
  after_put = record c { branches = did xid (Wrote key value) c.branches }

  -- the writer stands outside of each read of the key
  writer_outside : (t : ℕ) (k : List ℕ) (answer : Option (List ℕ)) (from : ℕ) → IsPinned floor c t k answer from → bytes_eq key k ≡ true
      → (b.timestamp ≤ from) ⊎ (t ≤ b.timestamp)
  writer_outside t k answer from p e =
      elim (cases_lt from b.timestamp) [
        | inr below ↦ inl below
        | inl above ↦ elim (cases_lt b.timestamp t) [
          | inr beyond ↦ inr beyond
          | inl under ↦ elim (p.guarded b.timestamp above under) [
            | inl old ↦ absurd (omega (arith, old, new))
            | inr late ↦ absurd
                (cc (subst (λ (j : List ℕ). is_late j b.timestamp c.reads ≡ true) (sym ((bytes_eq-Decides key k).0 e)) late, on_time))
          ]
        ]
      ]

  pins_after : (t : ℕ) (k : List ℕ) (answer : Option (List ℕ)) (from : ℕ) → IsPinned floor c t k answer from → IsPinned floor after_put t k answer from
  pins_after t k answer from p = record {
    right = record {
      earlier = p.right.earlier;
      source = elim p.right.source [
        | inl zero ↦ inl zero
        | inr there ↦ inr
            (changed_has (IsSource k answer from) (is_known_as xid) (having_done (Wrote key value))
            (λ x known src. absurd (cc (src.1, known_uncommitted xid x known))) c.branches there)
      ];
      none_between =
          changed_all (IsOutside t k from) (IsOutside t k from) (is_known_as xid) (having_done (Wrote key value))
          (λ x out. out) b c.branches found p.right.none_between
          (λ out w. outside (bytes_eq key k) refl out w);
    };
    guarded = p.guarded;
  }
    where
      outside : (q : Bool) → bytes_eq key k ≡ q → IsOutside t k from b → is_some (cond q (Some value) (write_of k b.operations)) ≡ true
          → (b.timestamp ≤ from) ⊎ (t ≤ b.timestamp)
      outside true e out w = writer_outside t k answer from p e
      outside false e out w = out w

  puts_pinned : ArePinned floor c c.branches → ArePinned floor after_put after_put.branches
  puts_pinned h =
      changed_all (λ x. Settled (IsPinned floor c x.timestamp) x.operations) (λ x. Settled (IsPinned floor after_put x.timestamp) x.operations)
      (is_known_as xid) (having_done (Wrote key value))
      (λ x k. settled_weaker (IsPinned floor c x.timestamp) (IsPinned floor after_put x.timestamp) x.operations (pins_after x.timestamp) k) b c.branches found h
      (λ k. settled_weaker (IsPinned floor c b.timestamp) (IsPinned floor after_put b.timestamp) b.operations (pins_after b.timestamp) k)

-- what a branch does leaves it at work, with its timestamp
done_work : (floor : ℕ) (xid : Triple) (op : Operation) (bs : List Branch) → AllByRecursion (WorksAbove floor) bs
    → AllByRecursion (WorksAbove floor) (did xid op bs)
done_work floor xid op bs h = change_all (WorksAbove floor) (is_known_as xid) (having_done op) (λ x above. above) bs h

-- who is at work is above the floor
new_write : (floor : ℕ) (xid : Triple) (b : Branch) (bs : List Branch) → known_of bs xid ≡ Some b → is_working b.phase ≡ true
    → AllByRecursion (WorksAbove floor) bs → floor < b.timestamp
new_write floor xid b bs found works h = found_all (WorksAbove floor) (is_known_as xid) b bs h found works

-- every move

pub moves_settled : {c d : Core} → Moves c d → IsOrdered c → AreSettled c → AreSettled d
moves_settled (remains bs r) o h = remains_settled _ bs r o h
moves_settled (restarts boot bs less r idle) o h = restarts_settled _ boot bs less r idle o h
moves_settled (trims boot less) o h = trims_settled _ boot less h
moves_settled (begins xid start limit) o h = begins_settled _ _ refl refl h
moves_settled {c} (gets key xid b found free) o h =
    let v : Version = source key b.timestamp c.branches in
    let op : Operation = Got key v.value v.timestamp in
    let r : Read = record { reader = b.timestamp; over = Key key v.timestamp } in
    record {
      floor = h.floor;
      low = h.low;
      work = done_work h.floor xid op c.branches h.work;
      pins =
          done_pinned h.floor c xid b found o op (λ k ops. refl) r refl
          (λ k. (answered h.floor c xid b found o op (λ k ops. refl) r refl key free (rw (key_itself key) refl), k)) h.pins;
    }
moves_settled {c} (walks range records stamps xid b found sees) o h =
    let op : Operation = Walked range records in
    let r : Read = record { reader = b.timestamp; over = Keys range stamps } in
    record {
      floor = h.floor;
      low = h.low;
      work = done_work h.floor xid op c.branches h.work;
      pins =
          done_pinned h.floor c xid b found o op (λ k ops. refl) r refl
          (λ k. (
            λ key within. (
              (source key b.timestamp c.branches).timestamp,
              subst
                  (λ (x : Option (List ℕ)). SettledAt (IsPinned h.floor (after_read h.floor c xid b found o op (λ k ops. refl) r refl) b.timestamp) key x
                  (source key b.timestamp c.branches).timestamp b.operations)
                  (sees.values key within)
                  (answered h.floor c xid b found o op (λ k ops. refl) r refl key (sees.free key within)
                  (rw within (ap (λ (n : ℕ). Some n) (sym (sees.stamps key within))))),
            ),
            k,
          )) h.pins;
    }
moves_settled {c} (puts key value xid b found works on_time) o h = record {
  floor = h.floor;
  low = h.low;
  work = done_work h.floor xid _ c.branches h.work;
  pins = puts_pinned h.floor c key value xid b found (new_write h.floor xid b c.branches found works h.work) on_time h.pins;
}
