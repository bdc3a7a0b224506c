-- What stands for the branches that lasted stands for the state's branches.
use Rattle.std.proofs.Common.{◌≡◌, ℕ, ◌+◌, ◌<◌, ◌≤◌, Bool, true, false, not, ◌==◌, List, [], ◌∷◌, ◌++◌, map, length, Option, Some, None, refl, ap, sym, ◌∙◌, subst, arith, ◌&&◌, ◌||◌}
use Rattle.std.specs.Prelude.{if◌then◌else◌, fold, filter, nat_le, option_map, is_some, max}
use Rattle.std.specs.Option.{option_or}
use Rattle.std.specs.List.{AllByRecursion as Each}
use Rattle.std.proofs.lemmas.Bool.Decides.{nat_tests}
use Rattle.std.proofs.lemmas.List.Sums.{fold-append}
use Rattle.xa_codes.specs.declared.write.Write.{Write}
use Rattle.mv_chain.specs.declared.fate.Fate.TheVariants.{Committed as kept}
use Rattle.mv_chain.specs.declared.version.Version.{Version as ChainVersion}
use Rattle.mv_chain.specs.Accesses.{Written, Answered, Seen, seen_without, has_undecided, stands}
use Rattle.mv_chain.specs.Chain.{has_base, StandsFor as ChainStandsFor}
use Rattle.mv_chain.specs.declared.fate.Fate.{Fate}
use Rattle.xa_model.specs.State.{Branch, Phase, Working, Prepared, Committed, timestamp_of, is_working}
use Rattle.xa_model.specs.Source.{write_of, written_keys}
use Rattle.xa_model.specs.Invariants.Sound.{Descends}
use Rattle.xa_model.specs.Durable.{Durable, CommittedBranch, Pairwise, keys_before, is_written, not_overwritten, with_writes, last_writes, value_in, last_write, writes_of, committed_part, prepared_part}
use Rattle.xa_model.proofs.Ascending.{parts, add, parts-cons, parts_below, parts_pairwise, all_add}
use Rattle.xa_model.proofs.Inserts.{all_imply}
use Rattle.xa_model.proofs.Keys.{last_writes_stay}
use Rattle.xa_model.proofs.LastOfKeys.{writes_of_law}
use Rattle.xa_model.proofs.LastWrites.{last_all, last_pairwise}
use Rattle.xa_model.proofs.Remains.{left, left_timed, held_of, held_timed, time, time_of}
use Rattle.mv_rules.specs.declared.records.Records.{Records}
use Rattle.mv_rules.specs.Accesses.{undecided_keys, Accesses}
use Rattle.mv_rules.specs.Records.{StandsFor}
use Rattle.mv_rules.specs.Ties.{low_of, read_as, fate_of, writes_by, writes_in}
use Rattle.mv_rules.specs.Restoring.{with_branch, with_committed, with_prepared, restored_by, restored, LowRises, StandsRestored}
use Rattle.mv_rules.proofs.Undecided.{held_below, count_below, count_own, count_other}
use Rattle.mv_rules.proofs.Ties.{seen_one, seen_group}
use Rattle.mv_rules.proofs.Shown.{branch_shown, last_seen, committed_shown, last_more, unseen_prepared, seen_below}
use Rattle.mv_rules.proofs.Counted.{held_left, held_decided, group_decided, count_decided, count_group_decided, count_branch_other, count_branch, held_group}
use Rattle.mv_rules.proofs.Tests.{and_no, or_left}
use Rattle.xa_model.proofs.ShortWrites.{writes_count}
use Rattle.xa_model.proofs.WorkFloors.{idle_floor}
use Rattle.mv_rules.proofs.Moved.{stands_for_others}

-- the low water may rise

base_rises : (low high : ℕ) (vs : List ChainVersion) → low ≤ high → has_base low vs ≡ true → has_base high vs ≡ true
base_rises low high [] le h = absurd (cc h)
base_rises low high (v ∷ vs) le h = grind (arith, nat_tests, base_rises low high vs le)

chain_rises : (key : List ℕ) (low high : ℕ) (ws : List Written) (rs : List Answered) (vs : List ChainVersion) → low ≤ high → ChainStandsFor key low ws rs vs → ChainStandsFor key high ws rs vs
chain_rises key low high ws rs vs le s = record {
  seen = λ gone t up. s.seen gone t (omega (arith, up, le));
  own = s.own;
  late = λ t up. s.late t (omega (arith, up, le));
  based = base_rises low high vs le s.based;
}

pub low_rises : LowRises
low_rises h r low s le = record {
  chains = record {
    chains = λ key. chain_rises key h.low low h.writes h.reads _ le (s.chains.chains key);
    within = s.chains.within;
    apart = s.chains.apart;
    held = s.chains.held;
  };
  lists = record { listed = s.lists.listed; unindexed = s.lists.unindexed; named = s.lists.named; count = s.lists.count };
}

pub low_rises_to : (h : Accesses) (r : Records) (low : ℕ) → StandsFor h r → StandsFor (record h { low = max h.low low }) r
low_rises_to h r low s = low_rises h r (max h.low low) s (omega arith)

-- no branch is at work
abbrev AreIdle : List Branch → Type 0
AreIdle bs = Each (λ (b : Branch). is_working b.phase ≡ false) bs

-- what is seen

value_left : (key : List ℕ) (b : Branch) → value_in key (writes_of b.operations) ≡ write_of key b.operations
value_left key b = (writes_of_law b.operations).1 key

seen_by : (gone : ℕ → Bool) (key : List ℕ) (u : ℕ) (b : Branch) (bs : List Branch) (base : List Written) (phase : Phase) → b.phase ≡ phase → is_working phase ≡ false → b.timestamp ≤ u → Descends b.timestamp bs
    → seen_without gone key u base ≡ last_seen (last_write key (add (committed_part b.timestamp (writes_of b.operations) phase) (parts left bs))) (record { from = 0; value = None; pending = false })
    → (seen_without gone key u base ≡ last_seen (last_write key (parts left bs)) (record { from = 0; value = None; pending = false }) → seen_without gone key u (fold with_prepared base (parts held_of bs)) ≡ seen_without gone key u (writes_in bs))
    → seen_without gone key u (fold with_prepared base (add (prepared_part b.timestamp (writes_of b.operations) phase) (parts held_of bs))) ≡ seen_without gone key u (writes_by b.timestamp (fate_of phase) b.operations ++ writes_in bs)
seen_by gone key u b bs base (Working xid work) is idle up h e ih = absurd (cc idle)
seen_by gone key u b bs base (Prepared xid) is idle up h e ih =
    let rest : List Written = fold with_prepared base (parts held_of bs) in
    let same : seen_without gone key u rest ≡ seen_without gone key u (writes_in bs) = ih e in
    let below : (seen_without gone key u (writes_in bs)).from ≤ b.timestamp = seen_below gone key u b.timestamp bs h in
    let last : fold with_prepared base (parts held_of bs ++ (record { xid = xid; timestamp = b.timestamp; writes = writes_of b.operations }) ∷ []) ≡ with_branch b.timestamp None (writes_of b.operations) rest =
    fold-append with_prepared base (parts held_of bs) ((record { xid = xid; timestamp = b.timestamp; writes = writes_of b.operations }) ∷ []) in
    ap (λ ws. seen_without gone key u ws) last
    ∙ branch_shown gone key u b.timestamp None (writes_of b.operations) rest (writes_of_law b.operations).0 (rw same below)
    ∙ ap (λ o. seen_one gone u b.timestamp None o (seen_without gone key u rest)) (value_left key b)
    ∙ ap (seen_one gone u b.timestamp None (write_of key b.operations)) same
    ∙ sym (seen_group gone key u b.timestamp None b.operations (writes_in bs) below)
seen_by gone key u b bs base Committed is idle up h e ih =
    by_write (write_of key b.operations) refl
    (e ∙ ap (λ o. last_seen o (record { from = 0; value = None; pending = false })) (last_more key (parts left bs) (record { timestamp = b.timestamp; writes = writes_of b.operations }) ∙ ap (λ o. option_or (option_map (λ v. (b.timestamp, v)) o) (last_write key (parts left bs))) (value_left key b)))
    ∙ sym (seen_group gone key u b.timestamp (Some kept) b.operations (writes_in bs) (seen_below gone key u b.timestamp bs h))
  where
    by_write : (o : Option (Option (List ℕ))) → write_of key b.operations ≡ o
        → seen_without gone key u base ≡ last_seen (option_or (option_map (λ v. (b.timestamp, v)) (write_of key b.operations)) (last_write key (parts left bs))) (record { from = 0; value = None; pending = false })
        → seen_without gone key u (fold with_prepared base (parts held_of bs)) ≡ seen_one gone u b.timestamp (Some kept) (write_of key b.operations) (seen_without gone key u (writes_in bs))
    by_write None w k = let before : seen_without gone key u base ≡ last_seen (last_write key (parts left bs)) (record { from = 0; value = None; pending = false }) = rw w at k in rw w (ih before)
    by_write (Some v) w k =
        let here : seen_without gone key u base ≡ record { from = b.timestamp; value = v; pending = false } = rw w at k in
        let from : (seen_without gone key u base).from ≡ b.timestamp = ap (λ (x : Seen). x.from) here in
        let yes : nat_le b.timestamp u ≡ true = grind (arith, nat_tests, up) in
        unseen_prepared gone key u (parts held_of bs) base (all_imply (λ p. time_of p < b.timestamp) (λ p. p.timestamp < (seen_without gone key u base).from) (λ p lt. omega (arith, from, lt)) (parts held_of bs) (parts_below held_of time_of held_timed b.timestamp bs h))
        ∙ here ∙ rw (w, yes) refl

pub same_seen : (gone : ℕ → Bool) (key : List ℕ) (u limit : ℕ) (bs : List Branch) (base : List Written) → Descends limit bs → limit ≤ u + 1 → AreIdle bs → seen_without gone key u base ≡ last_seen (last_write key (parts left bs)) (record { from = 0; value = None; pending = false })
    → seen_without gone key u (fold with_prepared base (parts held_of bs)) ≡ seen_without gone key u (writes_in bs)
same_seen gone key u limit [] base h le idle e = e
same_seen gone key u limit (b ∷ bs) base h le idle e =
    ap (λ ps. seen_without gone key u (fold with_prepared base ps)) (parts-cons held_of b bs)
    ∙ seen_by gone key u b bs base b.phase refl idle.0 (omega (arith, h.1, le)) h.2 (rw (← parts-cons left b bs) e) (same_seen gone key u b.timestamp bs base h.2 (omega (arith, h.1, le)) idle.1)

-- which keys are open, and how many

held_by : (key : List ℕ) (t : ℕ) (b : Branch) (bs : List Branch) (base : List Written) (phase : Phase) → is_working phase ≡ false → has_undecided key t (fold with_prepared base (parts held_of bs)) ≡ has_undecided key t (writes_in bs)
    → has_undecided key t (fold with_prepared base (add (prepared_part b.timestamp (writes_of b.operations) phase) (parts held_of bs))) ≡ has_undecided key t (writes_by b.timestamp (fate_of phase) b.operations ++ writes_in bs)
held_by key t b bs base (Working xid work) idle ih = absurd (cc idle)
held_by key t b bs base (Prepared xid) idle ih =
    ap (has_undecided key t) (fold-append with_prepared base (parts held_of bs) ((record { xid = xid; timestamp = b.timestamp; writes = writes_of b.operations }) ∷ []))
    ∙ held_left key t b.timestamp None b.operations (fold with_prepared base (parts held_of bs)) (writes_in bs) ih
held_by key t b bs base Committed idle ih = ih ∙ sym (group_decided key t b.timestamp kept b.operations (writes_in bs))

pub same_held : (key : List ℕ) (t : ℕ) (bs : List Branch) (base : List Written) → AreIdle bs → has_undecided key t base ≡ false → has_undecided key t (fold with_prepared base (parts held_of bs)) ≡ has_undecided key t (writes_in bs)
same_held key t [] base idle e = e
same_held key t (b ∷ bs) base idle e =
    ap (λ ps. has_undecided key t (fold with_prepared base ps)) (parts-cons held_of b bs) ∙ held_by key t b bs base b.phase idle.0 (same_held key t bs base idle.1 e)

none_undecided : (t : ℕ) (ws : List Write) (rest : List Written) → ((key : List ℕ) → has_undecided key t rest ≡ false) → Each (λ w. has_undecided w.key t rest ≡ false) ws
none_undecided t [] rest h = tt
none_undecided t (w ∷ ws) rest h = (h w.key, none_undecided t ws rest h)

count_left : (t : ℕ) (b : Branch) (bs : List Branch) (rest : List Written) (c : Bool) → (b.timestamp == t) ≡ c → Descends b.timestamp bs → ((key : List ℕ) → has_undecided key t rest ≡ has_undecided key t (writes_in bs)) → undecided_keys t rest ≡ undecided_keys t (writes_in bs)
    → undecided_keys t (with_branch b.timestamp None (writes_of b.operations) rest) ≡ undecided_keys t (writes_by b.timestamp None b.operations ++ writes_in bs)
count_left t b bs rest false ne h held ih = count_branch_other t b.timestamp None (writes_of b.operations) rest ne ∙ ih ∙ sym (count_other t b.timestamp None b.operations (writes_in bs) ne)
count_left t b bs rest true e h held ih =
    let own : b.timestamp ≡ t = grind (arith, nat_tests, e) in
    let none : undecided_keys b.timestamp (writes_in bs) ≡ 0 = count_below b.timestamp b.timestamp bs h (omega arith) in
    let alike : undecided_keys b.timestamp rest ≡ undecided_keys b.timestamp (writes_in bs) = subst (λ (u : ℕ). undecided_keys u rest ≡ undecided_keys u (writes_in bs)) (sym own) ih in
    let ours : undecided_keys b.timestamp (with_branch b.timestamp None (writes_of b.operations) rest) ≡ undecided_keys b.timestamp rest + length (writes_of b.operations) =
    count_branch b.timestamp (writes_of b.operations) rest (writes_of_law b.operations).0 (none_undecided b.timestamp (writes_of b.operations) rest (λ key. subst (λ (u : ℕ). has_undecided key u rest ≡ has_undecided key u (writes_in bs)) (sym own) (held key) ∙ held_below key b.timestamp b.timestamp bs h (omega arith))) in
    let theirs : undecided_keys b.timestamp (writes_by b.timestamp None b.operations ++ writes_in bs) ≡ written_keys b.operations = count_own b.timestamp b.operations (writes_in bs) (λ key. held_below key b.timestamp b.timestamp bs h (omega arith)) none in
    subst (λ (u : ℕ). undecided_keys u (with_branch b.timestamp None (writes_of b.operations) rest) ≡ undecided_keys u (writes_by b.timestamp None b.operations ++ writes_in bs)) own (omega (arith, ours, theirs, none, alike, writes_count b.operations))

count_by : (t : ℕ) (b : Branch) (bs : List Branch) (base : List Written) (phase : Phase) → is_working phase ≡ false → Descends b.timestamp bs → ((key : List ℕ) → has_undecided key t (fold with_prepared base (parts held_of bs)) ≡ has_undecided key t (writes_in bs))
    → undecided_keys t (fold with_prepared base (parts held_of bs)) ≡ undecided_keys t (writes_in bs)
    → undecided_keys t (fold with_prepared base (add (prepared_part b.timestamp (writes_of b.operations) phase) (parts held_of bs))) ≡ undecided_keys t (writes_by b.timestamp (fate_of phase) b.operations ++ writes_in bs)
count_by t b bs base (Working xid work) idle h held ih = absurd (cc idle)
count_by t b bs base (Prepared xid) idle h held ih =
    ap (undecided_keys t) (fold-append with_prepared base (parts held_of bs) ((record { xid = xid; timestamp = b.timestamp; writes = writes_of b.operations }) ∷ []))
    ∙ count_left t b bs (fold with_prepared base (parts held_of bs)) (b.timestamp == t) refl h held ih
count_by t b bs base Committed idle h held ih = ih ∙ sym (count_group_decided t b.timestamp kept b.operations (writes_in bs))

pub same_count : (t limit : ℕ) (bs : List Branch) (base : List Written) → Descends limit bs → AreIdle bs → ((key : List ℕ) → has_undecided key t base ≡ false) → undecided_keys t base ≡ 0 → undecided_keys t (fold with_prepared base (parts held_of bs)) ≡ undecided_keys t (writes_in bs)
same_count t limit [] base h idle held e = e
same_count t limit (b ∷ bs) base h idle held e =
    ap (λ ps. undecided_keys t (fold with_prepared base ps)) (parts-cons held_of b bs)
    ∙ count_by t b bs base b.phase idle.0 h.2 (λ key. same_held key t bs base idle.1 (held key)) (same_count t b.timestamp bs base h.2 idle.1 held e)

-- what a branch in doubt sees at its own timestamp

upto : (gone : ℕ → Bool) (key : List ℕ) (u : ℕ) (ws : List Written) → (seen_without gone key u ws).from ≤ u
upto gone key u [] = omega arith
upto gone key u (w ∷ ws) = grind (arith, nat_tests, upto gone key u ws)

unseen_one : (gone : ℕ → Bool) (u t : ℕ) (fate : Option Fate) (o : Option (Option (List ℕ))) (rest : Seen) → nat_le t u ≡ false → seen_one gone u t fate o rest ≡ rest
unseen_one gone u t fate None rest e = refl
unseen_one gone u t fate (Some v) rest e = rw (e, and_no (stands gone t fate)) refl

seen_own : (gone : ℕ → Bool) (t u : ℕ) (o : Option (Option (List ℕ))) (x y : Seen) → u ≡ t → gone t ≡ false → is_some o ≡ true → seen_one gone t u None o x ≡ seen_one gone t u None o y
seen_own gone t u None x y e g some = absurd (cc some)
seen_own gone t u (Some v) x y e g some = let yes : nat_le t t ≡ true = grind (arith, nat_tests) in rw (e, g, yes) refl

-- what is open is not below the branches that it stands among
above : (key : List ℕ) (t : ℕ) (b : Branch) (bs : List Branch) → Descends b.timestamp bs → has_undecided key t (writes_in bs) ≡ true → nat_le b.timestamp t ≡ false
above key t b bs h there = at (nat_le b.timestamp t) refl
  where
    at : (x : Bool) → nat_le b.timestamp t ≡ x → nat_le b.timestamp t ≡ false
    at false e = e
    at true e = let none : has_undecided key t (writes_in bs) ≡ false = held_below key t b.timestamp bs h (grind (arith, nat_tests, e)) in absurd (cc (none, there))

own_by : (gone : ℕ → Bool) (key : List ℕ) (t : ℕ) (b : Branch) (bs : List Branch) (base : List Written) (phase : Phase) (c : Bool) → (b.timestamp == t) ≡ c → is_working phase ≡ false → Descends b.timestamp bs → gone t ≡ false
    → has_undecided key t (writes_by b.timestamp (fate_of phase) b.operations ++ writes_in bs) ≡ true
    → (has_undecided key t (writes_in bs) ≡ true → seen_without gone key t (fold with_prepared base (parts held_of bs)) ≡ seen_without gone key t (writes_in bs))
    → seen_without gone key t (fold with_prepared base (add (prepared_part b.timestamp (writes_of b.operations) phase) (parts held_of bs))) ≡ seen_without gone key t (writes_by b.timestamp (fate_of phase) b.operations ++ writes_in bs)
own_by gone key t b bs base (Working xid work) c e idle h g o ih = absurd (cc idle)
own_by gone key t b bs base (Prepared xid) c e idle h g o ih =
    ap (seen_without gone key t) (fold-append with_prepared base (parts held_of bs) ((record { xid = xid; timestamp = b.timestamp; writes = writes_of b.operations }) ∷ []))
    ∙ at c e
  where
    rest : List Written
    rest = fold with_prepared base (parts held_of bs)

    all_undecided : (x : Bool) → (b.timestamp == t) ≡ x → (((x && true) && is_some (write_of key b.operations)) || has_undecided key t (writes_in bs)) ≡ true
    all_undecided x f = rw f at (sym (held_group key t b.timestamp None b.operations (writes_in bs)) ∙ o)

    at : (x : Bool) → (b.timestamp == t) ≡ x → seen_without gone key t (with_branch b.timestamp None (writes_of b.operations) rest) ≡ seen_without gone key t (writes_by b.timestamp None b.operations ++ writes_in bs)
    at true f =
        let own : b.timestamp ≡ t = grind (arith, nat_tests, f) in
        let none : has_undecided key t (writes_in bs) ≡ false = held_below key t b.timestamp bs h (omega (arith, own)) in
        let some : is_some (write_of key b.operations) ≡ true = or_left (is_some (write_of key b.operations)) (has_undecided key t (writes_in bs)) none (all_undecided true f) in
        branch_shown gone key t b.timestamp None (writes_of b.operations) rest (writes_of_law b.operations).0 (omega (arith, own, upto gone key t rest))
        ∙ ap (λ w. seen_one gone t b.timestamp None w (seen_without gone key t rest)) (value_left key b)
        ∙ seen_own gone t b.timestamp (write_of key b.operations) (seen_without gone key t rest) (seen_without gone key t (writes_in bs)) own g some
        ∙ sym (seen_group gone key t b.timestamp None b.operations (writes_in bs) (omega (arith, own, upto gone key t (writes_in bs))))
    at false f =
        let there : has_undecided key t (writes_in bs) ≡ true = all_undecided false f in
        let no : nat_le b.timestamp t ≡ false = above key t b bs h there in
        let under : t ≤ b.timestamp = grind (arith, nat_tests, no) in
        branch_shown gone key t b.timestamp None (writes_of b.operations) rest (writes_of_law b.operations).0 (omega (arith, under, upto gone key t rest))
        ∙ unseen_one gone t b.timestamp None (value_in key (writes_of b.operations)) (seen_without gone key t rest) no
        ∙ ih there
        ∙ sym (unseen_one gone t b.timestamp None (write_of key b.operations) (seen_without gone key t (writes_in bs)) no)
        ∙ sym (seen_group gone key t b.timestamp None b.operations (writes_in bs) (omega (arith, under, upto gone key t (writes_in bs))))
own_by gone key t b bs base Committed c e idle h g o ih =
    let there : has_undecided key t (writes_in bs) ≡ true = sym (group_decided key t b.timestamp kept b.operations (writes_in bs)) ∙ o in
    let no : nat_le b.timestamp t ≡ false = above key t b bs h there in
    let under : t ≤ b.timestamp = grind (arith, nat_tests, no) in
    ih there
    ∙ sym (unseen_one gone t b.timestamp (Some kept) (write_of key b.operations) (seen_without gone key t (writes_in bs)) no)
    ∙ sym (seen_group gone key t b.timestamp (Some kept) b.operations (writes_in bs) (omega (arith, under, upto gone key t (writes_in bs))))

pub own_seen : (gone : ℕ → Bool) (key : List ℕ) (t limit : ℕ) (bs : List Branch) (base : List Written) → Descends limit bs → AreIdle bs → gone t ≡ false → has_undecided key t (writes_in bs) ≡ true
    → seen_without gone key t (fold with_prepared base (parts held_of bs)) ≡ seen_without gone key t (writes_in bs)
own_seen gone key t limit [] base h idle g o = absurd (cc o)
own_seen gone key t limit (b ∷ bs) base h idle g o =
    ap (λ ps. seen_without gone key t (fold with_prepared base ps)) (parts-cons held_of b bs)
    ∙ own_by gone key t b bs base b.phase (b.timestamp == t) refl idle.0 h.2 g o (λ there. own_seen gone key t b.timestamp bs base h.2 idle.1 g there)

-- committed branches

committed_held : (key : List ℕ) (t : ℕ) (cs : List CommittedBranch) (base : List Written) → has_undecided key t (fold with_committed base cs) ≡ has_undecided key t base
committed_held key t [] base = refl
committed_held key t (c ∷ cs) base = committed_held key t cs (with_committed base c) ∙ held_decided key t c.timestamp kept c.writes base

committed_count : (t : ℕ) (cs : List CommittedBranch) (base : List Written) → undecided_keys t (fold with_committed base cs) ≡ undecided_keys t base
committed_count t [] base = refl
committed_count t (c ∷ cs) base = committed_count t cs (with_committed base c) ∙ count_decided t c.timestamp kept c.writes base

-- the last writes ascend by key

all_kept : {A : Type 0} (P : A → Type 0) (p : A → Bool) (xs : List A) → Each P xs → Each P (filter p xs)
all_kept P p [] h = tt
all_kept P p (x ∷ xs) h = kept_by (p x) (all_kept P p xs h.1)
  where
    kept_by : (c : Bool) → Each P (filter p xs) → Each P (if c then x ∷ filter p xs else filter p xs)
    kept_by true rest = (h.0, rest)
    kept_by false rest = rest

pairs_kept : {A : Type 0} (test : A → A → Bool) (p : A → Bool) (xs : List A) → Pairwise test xs → Pairwise test (filter p xs)
pairs_kept test p [] h = tt
pairs_kept test p (x ∷ xs) h = kept_by (p x) (pairs_kept test p xs h.1)
  where
    kept_by : (c : Bool) → Pairwise test (filter p xs) → Pairwise test (if c then x ∷ filter p xs else filter p xs)
    kept_by true rest = (all_kept (λ y. test x y ≡ true) p xs h.0, rest)
    kept_by false rest = rest

with_keys : (t : ℕ) (ws : List Write) (cs : List CommittedBranch) → Pairwise keys_before ws → Each (λ c. Pairwise keys_before c.writes) cs → Each (λ c. Pairwise keys_before c.writes) (with_writes t ws cs)
with_keys t [] cs h k = k
with_keys t (w ∷ ws) cs h k = (h, k)

last_keys : (cs : List CommittedBranch) → Each (λ c. Pairwise keys_before c.writes) cs → Each (λ c. Pairwise keys_before c.writes) (last_writes cs)
last_keys [] h = tt
last_keys (c ∷ later) h = with_keys c.timestamp (not_overwritten later c.writes) (last_writes later) (pairs_kept keys_before (λ w. not (is_written w.key later)) c.writes h.0) (last_keys later h.1)

part_keys : (t : ℕ) (ws : List Write) (phase : Phase) (c : CommittedBranch) → committed_part t ws phase ≡ Some c → Pairwise keys_before ws → Pairwise keys_before c.writes
part_keys t ws (Working xid work) c e h = absurd (cc e)
part_keys t ws (Prepared xid) c e h = absurd (cc e)
part_keys t ws Committed c e h = let same : record { timestamp = t; writes = ws } ≡ c = cc e in subst (λ (x : CommittedBranch). Pairwise keys_before x.writes) same h

parts_keys : (bs : List Branch) → Each (λ c. Pairwise keys_before c.writes) (parts left bs)
parts_keys [] = tt
parts_keys (b ∷ bs) =
    subst (Each (λ c. Pairwise keys_before c.writes)) (sym (parts-cons left b bs))
    (all_add (λ c. Pairwise keys_before c.writes) (left b) (parts left bs) (λ c e. part_keys b.timestamp (writes_of b.operations) b.phase c e (writes_of_law b.operations).0) (parts_keys bs))

-- what the committed branches show

abbrev committed_writes : List Branch → List Written
committed_writes bs = fold with_committed [] (last_writes (parts left bs))

committed_seen : (gone : ℕ → Bool) (key : List ℕ) (u limit : ℕ) (bs : List Branch) → Descends limit bs → limit ≤ u + 1
    → seen_without gone key u (committed_writes bs) ≡ last_seen (last_write key (parts left bs)) (record { from = 0; value = None; pending = false })
committed_seen gone key u limit bs h le =
    committed_shown gone key u (last_writes (parts left bs)) [] (last_all (λ t. t ≤ u) (parts left bs) (all_imply (λ c. time c < limit) (λ c. c.timestamp ≤ u) (λ c lt. omega (arith, lt, le)) (parts left bs) (parts_below left time left_timed limit bs h)))
    (last_keys (parts left bs) (parts_keys bs)) (last_pairwise (parts left bs) (parts_pairwise left time left_timed limit bs h)) (lowest (last_writes (parts left bs)))
    ∙ ap (λ o. last_seen o (record { from = 0; value = None; pending = false })) (last_writes_stay key (parts left bs))
  where
    lowest : (cs : List CommittedBranch) → Each (λ c. (seen_without gone key u []).from ≤ c.timestamp) cs
    lowest [] = tt
    lowest (c ∷ cs) = (omega arith, lowest cs)

-- the law

module _ (limit : ℕ) (bs : List Branch) (h : Descends (limit + 1) bs) (idle : AreIdle bs) where
  abbrev remade : List Written
  remade = fold with_prepared (committed_writes bs) (parts held_of bs)

  remade_held : (key : List ℕ) (t : ℕ) → has_undecided key t remade ≡ has_undecided key t (writes_in bs)
  remade_held key t = same_held key t bs (committed_writes bs) idle (committed_held key t (last_writes (parts left bs)) [])

  remade_count : (t : ℕ) → undecided_keys t remade ≡ undecided_keys t (writes_in bs)
  remade_count t = same_count t (limit + 1) bs (committed_writes bs) h idle (λ key. committed_held key t (last_writes (parts left bs)) []) (committed_count t (last_writes (parts left bs)) [])

  remade_seen : (gone : ℕ → Bool) (key : List ℕ) (u : ℕ) → limit ≤ u → seen_without gone key u remade ≡ seen_without gone key u (writes_in bs)
  remade_seen gone key u le = same_seen gone key u (limit + 1) bs (committed_writes bs) h (omega (arith, le)) idle (committed_seen gone key u (limit + 1) bs h (omega (arith, le)))

  pub remade_stands : (r : Records) → StandsFor (record { low = limit; writes = remade; reads = [] }) r → StandsFor (record { low = limit; writes = writes_in bs; reads = [] }) r
  remade_stands r s =
      stands_for_others limit remade (writes_in bs) [] r remade_seen
      (λ gone key t g o. own_seen gone key t (limit + 1) bs (committed_writes bs) h idle g o) remade_held remade_count s

pub stands_restored : StandsRestored
stands_restored d next s r low i le st =
    let limit_is : timestamp_of s.boot s.given + 1 ≡ timestamp_of next 0 + 1 = ap (λ (n : ℕ). timestamp_of s.boot n + 1) i.given ∙ ap (λ (b : ℕ). timestamp_of b 0 + 1) i.boot in
    let descends : Descends (timestamp_of next 0 + 1) s.branches = subst (λ (n : ℕ). Descends n s.branches) limit_is i.recoverable.sound.descends in
    let committed : d.committed ≡ last_writes (parts left s.branches) = sym (ap (λ (x : Durable). x.committed) i.lasts) in
    let prepared : d.prepared ≡ parts held_of s.branches = sym (ap (λ (x : Durable). x.prepared) i.lasts) in
    let same : restored d ≡ fold with_prepared (committed_writes s.branches) (parts held_of s.branches) =
    ap (λ cs. restored_by cs d.prepared) committed ∙ ap (restored_by (last_writes (parts left s.branches))) prepared in
    let risen : StandsFor (record { low = timestamp_of next 0; writes = restored d; reads = [] }) r = low_rises (record { low = low; writes = restored d; reads = [] }) r (timestamp_of next 0) st le in
    let there = remade_stands (timestamp_of next 0) s.branches descends i.idle r (subst (λ (ws : List Written). StandsFor (record { low = timestamp_of next 0; writes = ws; reads = [] }) r) same risen) in
    let first : StandsFor (record { low = timestamp_of s.boot 0; writes = writes_in s.branches; reads = map read_as s.reads }) r = rw (i.boot, i.reads) there in
    low_rises (record { low = timestamp_of s.boot 0; writes = writes_in s.branches; reads = map read_as s.reads }) r (low_of s) first (omega (arith, idle_floor s i.idle))
