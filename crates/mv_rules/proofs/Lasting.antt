-- What is last committed of each key is what lasts of the committed branches.
use Rattle.std.proofs.Common.{◌≡◌, ℕ, ◌+◌, ◌<◌, ◌≤◌, Bool, true, false, not, ◌&&◌, cond, max, List, [], ◌∷◌, ◌++◌, Option, Some, None, refl, sym, ap, ◌∙◌, subst, arith}
use Rattle.std.specs.Prelude.{nat_le, option_map, filter, ◌==◌}
use Rattle.std.specs.Option.{option_or}
use Rattle.std.specs.List.{AllByRecursion as Each}
use Rattle.std.proofs.lemmas.Bool.Decides.{nat_tests}
use Rattle.xa_codes.specs.declared.write.Write.{Write}
use Rattle.mv_chain.specs.declared.fate.Fate.{Fate}
use Rattle.mv_chain.specs.Accesses.{Written, Seen, seen_without, stands}
use Rattle.mv_chain.specs.Last.{everybody, stamped, AreUpto}
use Rattle.xa_model.specs.State.{Branch, Operation, Got, Walked, Wrote, Phase, Working, Prepared, Committed, timestamp_of}
use Rattle.xa_model.specs.Source.{write_of}
use Rattle.xa_model.specs.Invariants.Sound.{Descends}
use Rattle.xa_model.specs.Durable.{CommittedBranch, Pairwise, keys_before, committed_part, writes_of, value_in, last_write, is_written, not_overwritten, with_writes, last_writes}
use Rattle.xa_model.proofs.Ascending.{parts, add, parts-cons}
use Rattle.xa_model.proofs.Applied.{commits_ascend}
use Rattle.xa_model.proofs.Keys.{last_writes_stay, same_committed}
use Rattle.xa_model.proofs.LastOfKeys.{writes_of_law}
use Rattle.xa_model.proofs.LastWrites.{last_are_last, last_pairwise}
use Rattle.xa_model.proofs.Remains.{left}
use Rattle.mv_rules.specs.Committed.{CommittedLasts}
use Rattle.mv_rules.specs.Ties.{fate_of, writes_by, writes_in, history_of}
use Rattle.mv_rules.proofs.Ties.{seen_one, one_under, seen_group}

-- where the undecided branches are gone

undecided_one : (u t : ℕ) (fate : Option Fate) (o : Option (Option (List ℕ))) (rest : Seen) → stands everybody t fate ≡ false → seen_one everybody u t fate o rest ≡ rest
undecided_one u t fate None rest e = refl
undecided_one u t fate (Some v) rest e = rw e refl

seen_below : (key : List ℕ) (u limit : ℕ) (bs : List Branch) → Descends limit bs → (seen_without everybody key u (writes_in bs)).from ≤ limit
seen_below key u limit [] h = omega arith
seen_below key u limit (b ∷ bs) h =
    let rest = seen_below key u b.timestamp bs h.2 in
    let group = seen_group everybody key u b.timestamp (fate_of b.phase) b.operations (writes_in bs) rest in
    let one = one_under everybody u b.timestamp (fate_of b.phase) (write_of key b.operations) (seen_without everybody key u (writes_in bs)) (stands everybody b.timestamp (fate_of b.phase) && nat_le b.timestamp u) refl rest in
    omega (arith, ap (λ s. s.from) group, one, h.1)

-- the last branch's value is the last one

or_none : (o : Option (ℕ × Option (List ℕ))) → option_or o None ≡ o
or_none None = refl
or_none (Some x) = refl

or_moved : (a b c : Option (ℕ × Option (List ℕ))) → option_or (option_or a b) c ≡ option_or a (option_or b c)
or_moved None b c = refl
or_moved (Some x) b c = refl

last_behind : (key : List ℕ) (bs : List CommittedBranch) (c : CommittedBranch) → last_write key (bs ++ c ∷ []) ≡ option_or (option_map (λ v. (c.timestamp, v)) (value_in key c.writes)) (last_write key bs)
last_behind key [] c = sym (or_none (option_map (λ v. (c.timestamp, v)) (value_in key c.writes)))
last_behind key (b ∷ bs) c =
    ap (λ o. option_or o (option_map (λ v. (b.timestamp, v)) (value_in key b.writes))) (last_behind key bs c)
    ∙ or_moved (option_map (λ v. (c.timestamp, v)) (value_in key c.writes)) (last_write key bs) (option_map (λ v. (b.timestamp, v)) (value_in key b.writes))

committed_one : (u t : ℕ) (o : Option (Option (List ℕ))) (rest : Seen) (last : Option (ℕ × Option (List ℕ))) → 0 < t → t ≤ u → last ≡ stamped rest
    → option_or (option_map (λ v. (t, v)) o) last ≡ stamped (seen_one everybody u t (fate_of Committed) o rest)
committed_one u t None rest last pos le same = same
committed_one u t (Some v) rest last pos le same =
    let upto : nat_le t u ≡ true = grind (arith, nat_tests) in
    let above : (t == 0) ≡ false = grind (arith, nat_tests) in
    rw (upto, above) refl

last_by : (key : List ℕ) (u : ℕ) (b : Branch) (bs : List Branch) (p : Phase) → b.phase ≡ p → 0 < b.timestamp → b.timestamp ≤ u → (seen_without everybody key u (writes_in bs)).from ≤ b.timestamp
    → last_write key (parts left bs) ≡ stamped (seen_without everybody key u (writes_in bs)) → last_write key (parts left (b ∷ bs)) ≡ stamped (seen_without everybody key u (writes_in (b ∷ bs)))
last_by key u b bs p e pos le under rest =
    ap (last_write key) (parts-cons left b bs ∙ ap (λ q. add (committed_part b.timestamp (writes_of b.operations) q) (parts left bs)) e)
    ∙ (by p ∙ ap stamped (ap (λ q. seen_one everybody u b.timestamp (fate_of q) (write_of key b.operations) (seen_without everybody key u (writes_in bs))) (sym e)
    ∙ sym (seen_group everybody key u b.timestamp (fate_of b.phase) b.operations (writes_in bs) under)))
  where
    by : (q : Phase) → last_write key (add (committed_part b.timestamp (writes_of b.operations) q) (parts left bs)) ≡ stamped (seen_one everybody u b.timestamp (fate_of q) (write_of key b.operations) (seen_without everybody key u (writes_in bs)))
    by (Working xid work) = rest ∙ ap stamped (sym (undecided_one u b.timestamp None (write_of key b.operations) (seen_without everybody key u (writes_in bs)) refl))
    by (Prepared xid) = rest ∙ ap stamped (sym (undecided_one u b.timestamp None (write_of key b.operations) (seen_without everybody key u (writes_in bs)) refl))
    by Committed =
        last_behind key (parts left bs) (record { timestamp = b.timestamp; writes = writes_of b.operations })
        ∙ (ap (λ o. option_or (option_map (λ v. (b.timestamp, v)) o) (last_write key (parts left bs))) ((writes_of_law b.operations).1 key)
        ∙ committed_one u b.timestamp (write_of key b.operations) (seen_without everybody key u (writes_in bs)) (last_write key (parts left bs)) pos le rest)

last_left : (key : List ℕ) (u limit : ℕ) (bs : List Branch) → Descends limit bs → limit ≤ u + 1 → last_write key (parts left bs) ≡ stamped (seen_without everybody key u (writes_in bs))
last_left key u limit [] h le = refl
last_left key u limit (b ∷ bs) h le =
    last_by key u b bs b.phase refl h.0 (omega (arith, h.1)) (seen_below key u b.timestamp bs h.2) (last_left key u b.timestamp bs h.2 (omega (arith, h.1)))

-- each branch's last writes ascend by key

filtered_each : (P : Write → Type 0) (p : Write → Bool) (ws : List Write) → Each P ws → Each P (filter p ws)
filtered_each P p [] h = tt
filtered_each P p (w ∷ ws) h = by (p w) (filtered_each P p ws h.1)
  where
    by : (c : Bool) → Each P (filter p ws) → Each P (cond c (w ∷ filter p ws) (filter p ws))
    by true r = (h.0, r)
    by false r = r

filtered_ascend : (p : Write → Bool) (ws : List Write) → Pairwise keys_before ws → Pairwise keys_before (filter p ws)
filtered_ascend p [] h = tt
filtered_ascend p (w ∷ ws) h = by (p w) (filtered_each (λ v. keys_before w v ≡ true) p ws h.0) (filtered_ascend p ws h.1)
  where
    by : (c : Bool) → Each (λ v. keys_before w v ≡ true) (filter p ws) → Pairwise keys_before (filter p ws) → Pairwise keys_before (cond c (w ∷ filter p ws) (filter p ws))
    by true a r = (a, r)
    by false a r = r

with_by_key : (t : ℕ) (ws : List Write) (bs : List CommittedBranch) → Pairwise keys_before ws → Each (λ b. Pairwise keys_before b.writes) bs → Each (λ b. Pairwise keys_before b.writes) (with_writes t ws bs)
with_by_key t [] bs p h = h
with_by_key t (w ∷ ws) bs p h = (p, h)

last_by_key : (bs : List CommittedBranch) → Each (λ b. Pairwise keys_before b.writes) bs → Each (λ b. Pairwise keys_before b.writes) (last_writes bs)
last_by_key [] h = tt
last_by_key (b ∷ later) h =
    with_by_key b.timestamp (not_overwritten later b.writes) (last_writes later) (filtered_ascend (λ w. not (is_written w.key later)) b.writes h.0) (last_by_key later h.1)

added_by_key : (b : Branch) (p : Phase) (cs : List CommittedBranch) → Each (λ c. Pairwise keys_before c.writes) cs → Each (λ c. Pairwise keys_before c.writes) (add (committed_part b.timestamp (writes_of b.operations) p) cs)
added_by_key b (Working xid work) cs h = h
added_by_key b (Prepared xid) cs h = h
added_by_key b Committed cs h = behind cs h
  where
    behind : (xs : List CommittedBranch) → Each (λ c. Pairwise keys_before c.writes) xs → Each (λ c. Pairwise keys_before c.writes) (xs ++ record { timestamp = b.timestamp; writes = writes_of b.operations } ∷ [])
    behind [] g = ((writes_of_law b.operations).0, tt)
    behind (x ∷ xs) g = (g.0, behind xs g.1)

left_by_key : (bs : List Branch) → Each (λ c. Pairwise keys_before c.writes) (parts left bs)
left_by_key [] = tt
left_by_key (b ∷ bs) = subst (λ (cs : List CommittedBranch). Each (λ c. Pairwise keys_before c.writes) cs) (sym (parts-cons left b bs)) (added_by_key b b.phase (parts left bs) (left_by_key bs))

-- no write is above the last branch

one_upto : (u t : ℕ) (fate : Option Fate) (ops : List Operation) (rest : List Written) → t ≤ u → AreUpto u rest → AreUpto u (writes_by t fate ops ++ rest)
one_upto u t fate [] rest le h = h
one_upto u t fate (Got key answer from ∷ older) rest le h = one_upto u t fate older rest le h
one_upto u t fate (Walked range found ∷ older) rest le h = one_upto u t fate older rest le h
one_upto u t fate (Wrote key value ∷ older) rest le h = (le, one_upto u t fate older rest le h)

all_upto : (u limit : ℕ) (bs : List Branch) → Descends limit bs → limit ≤ u + 1 → AreUpto u (writes_in bs)
all_upto u limit [] h le = tt
all_upto u limit (b ∷ bs) h le = one_upto u b.timestamp (fate_of b.phase) b.operations (writes_in bs) (omega (arith, h.1)) (all_upto u b.timestamp bs h.2 (omega (arith, h.1)))

pub committed_lasts : CommittedLasts
committed_lasts s bs sound is =
    let limit : ℕ = timestamp_of s.boot s.given + 1 in
    let top : ℕ = max (history_of s).low limit in
    same_committed bs (last_writes (parts left s.branches)) (record { order = is.order; last = is.last; keys = is.keys })
    (record {
      order = last_pairwise (parts left s.branches) (commits_ascend limit s.branches sound.descends);
      last = last_are_last (parts left s.branches);
      keys = last_by_key (parts left s.branches) (left_by_key s.branches);
    })
    (λ key. is.written key top (omega arith) (all_upto top limit s.branches sound.descends (omega arith))
    ∙ (sym (last_left key top limit s.branches sound.descends (omega arith)) ∙ sym (last_writes_stay key (parts left s.branches))))
