-- What is seen of the branches that lasted is what is seen of the state's branches, from a timestamp above them all on.
use Rattle.std.proofs.Common.{◌≡◌, ℕ, ◌<◌, ◌≤◌, Bool, true, false, cond, ◌&&◌, List, [], ◌∷◌, ◌++◌, Option, Some, None, refl, ap, sym, ◌∙◌, arith}
use Rattle.std.specs.Prelude.{if◌then◌else◌, bytes_eq, nat_le, nat_lt, fold, option_map}
use Rattle.std.specs.Option.{option_or}
use Rattle.std.specs.List.{AllByRecursion as Each}
use Rattle.std.proofs.lemmas.Bool.Decides.{nat_tests}
use Rattle.xa_codes.specs.declared.write.Write.{Write}
use Rattle.mv_chain.specs.declared.fate.Fate.{Fate}
use Rattle.mv_chain.specs.declared.fate.Fate.TheVariants.{Committed as kept}
use Rattle.mv_chain.specs.Accesses.{Written, Seen, seen_without, stands, shown}
use Rattle.xa_model.specs.State.{Branch}
use Rattle.xa_model.specs.Source.{write_of}
use Rattle.xa_model.specs.Invariants.Sound.{Descends}
use Rattle.xa_model.specs.Durable.{CommittedBranch, PreparedBranch, Pairwise, keys_before, commits_before, value_in, last_write}
use Rattle.mv_rules.specs.Ties.{fate_of, writes_in}
use Rattle.mv_rules.specs.Restoring.{with_write, with_branch, with_committed, with_prepared}
use Rattle.mv_rules.proofs.Ties.{bytes_eq_swapped, seen_one, one_under, seen_group}
use Rattle.mv_rules.proofs.Tests.{same_key}
use Rattle.xa_model.proofs.Keys.{key_below}

-- a key that is below the others has no value there
pub no_value : (v : Write) (ws : List Write) → Each (λ w. keys_before v w ≡ true) ws → value_in v.key ws ≡ None
no_value v [] h = refl
no_value v (w ∷ ws) h =
    let other : bytes_eq w.key v.key ≡ false = bytes_eq_swapped w.key v.key ∙ key_below v w h.0 in
    rw other (no_value v ws h.1)

-- a branch's writes, each the only one of its key

write_shown : (gone : ℕ → Bool) (key : List ℕ) (u t : ℕ) (fate : Option Fate) (w : Write) (rest : List Written) (c : Bool) → bytes_eq w.key key ≡ c → (seen_without gone key u rest).from ≤ t
    → seen_without gone key u (with_write t fate rest w) ≡ cond c (seen_one gone u t fate (Some w.value) (seen_without gone key u rest)) (seen_without gone key u rest)
write_shown gone key u t fate w rest true e le =
    let here : bytes_eq key w.key ≡ true = bytes_eq_swapped key w.key ∙ e in
    let yes : nat_le (seen_without gone key u rest).from t ≡ true = grind (arith, nat_tests, le) in
    rw (here, yes) (tested (stands gone t fate && nat_le t u))
  where
    tested : (c : Bool) → (if c && true then shown (record { timestamp = t; key = w.key; value = w.value; fate = fate }) else seen_without gone key u rest) ≡ cond c (shown (record { timestamp = t; key = w.key; value = w.value; fate = fate })) (seen_without gone key u rest)
    tested true = refl
    tested false = refl
write_shown gone key u t fate w rest false e le = let other : bytes_eq key w.key ≡ false = bytes_eq_swapped key w.key ∙ e in rw other refl

write_under : (gone : ℕ → Bool) (key : List ℕ) (u t : ℕ) (fate : Option Fate) (w : Write) (rest : List Written) (c : Bool) → bytes_eq w.key key ≡ c → (seen_without gone key u rest).from ≤ t → (seen_without gone key u (with_write t fate rest w)).from ≤ t
write_under gone key u t fate w rest true e le = rw (write_shown gone key u t fate w rest true e le) (one_under gone u t fate (Some w.value) (seen_without gone key u rest) (stands gone t fate && nat_le t u) refl le)
write_under gone key u t fate w rest false e le = rw (write_shown gone key u t fate w rest false e le) le

pub branch_shown : (gone : ℕ → Bool) (key : List ℕ) (u t : ℕ) (fate : Option Fate) (ws : List Write) (rest : List Written) → Pairwise keys_before ws → (seen_without gone key u rest).from ≤ t
    → seen_without gone key u (with_branch t fate ws rest) ≡ seen_one gone u t fate (value_in key ws) (seen_without gone key u rest)
branch_shown gone key u t fate [] rest h le = refl
branch_shown gone key u t fate (w ∷ ws) rest h le =
    at (bytes_eq w.key key) refl (branch_shown gone key u t fate ws (with_write t fate rest w) h.1 (write_under gone key u t fate w rest (bytes_eq w.key key) refl le))
  where
    at : (c : Bool) → bytes_eq w.key key ≡ c
        → seen_without gone key u (with_branch t fate (w ∷ ws) rest) ≡ seen_one gone u t fate (value_in key ws) (seen_without gone key u (with_write t fate rest w))
        → seen_without gone key u (with_branch t fate (w ∷ ws) rest) ≡ seen_one gone u t fate (value_in key (w ∷ ws)) (seen_without gone key u rest)
    at true e ih =
        let none : value_in key ws ≡ None = ap (λ k. value_in k ws) (sym (same_key w.key key e)) ∙ no_value w ws h.0 in
        ih ∙ rw (none, e) (write_shown gone key u t fate w rest true e le)
    at false e ih = ih ∙ rw e (ap (seen_one gone u t fate (value_in key ws)) (write_shown gone key u t fate w rest false e le))

-- committed branches, of which the last that wrote the key is seen

abbrev pub last_seen : Option (ℕ × Option (List ℕ)) → Seen → Seen
last_seen None rest = rest
last_seen (Some x) rest = record { from = x.0; value = x.1; pending = false }

committed_one : (gone : ℕ → Bool) (u t : ℕ) (o : Option (Option (List ℕ))) (rest : Seen) → t ≤ u → seen_one gone u t (Some kept) o rest ≡ last_seen (option_map (λ v. (t, v)) o) rest
committed_one gone u t None rest le = refl
committed_one gone u t (Some v) rest le = let yes : nat_le t u ≡ true = grind (arith, nat_tests, le) in rw yes refl

last_of : (o p : Option (ℕ × Option (List ℕ))) (rest : Seen) → last_seen o (last_seen p rest) ≡ last_seen (option_or o p) rest
last_of None p rest = refl
last_of (Some x) p rest = refl

pub committed_shown : (gone : ℕ → Bool) (key : List ℕ) (u : ℕ) (cs : List CommittedBranch) (base : List Written) → Each (λ c. c.timestamp ≤ u) cs → Each (λ c. Pairwise keys_before c.writes) cs → Pairwise commits_before cs → Each (λ c. (seen_without gone key u base).from ≤ c.timestamp) cs
    → seen_without gone key u (fold with_committed base cs) ≡ last_seen (last_write key cs) (seen_without gone key u base)
committed_shown gone key u [] base up keys order le = refl
committed_shown gone key u (c ∷ later) base up keys order le =
    let one : seen_without gone key u (with_committed base c) ≡ seen_one gone u c.timestamp (Some kept) (value_in key c.writes) (seen_without gone key u base) = branch_shown gone key u c.timestamp (Some kept) c.writes base keys.0 le.0 in
    let under : (seen_without gone key u (with_committed base c)).from ≤ c.timestamp = rw one (one_under gone u c.timestamp (Some kept) (value_in key c.writes) (seen_without gone key u base) (nat_le c.timestamp u) refl le.0) in
    committed_shown gone key u later (with_committed base c) up.1 keys.1 order.1 (above later under order.0)
    ∙ ap (last_seen (last_write key later)) (one ∙ committed_one gone u c.timestamp (value_in key c.writes) (seen_without gone key u base) up.0)
    ∙ last_of (last_write key later) (option_map (λ v. (c.timestamp, v)) (value_in key c.writes)) (seen_without gone key u base)
  where
    above : (xs : List CommittedBranch) → (seen_without gone key u (with_committed base c)).from ≤ c.timestamp → Each (λ x. commits_before c x ≡ true) xs → Each (λ x. (seen_without gone key u (with_committed base c)).from ≤ x.timestamp) xs
    above [] un h = tt
    above (x ∷ xs) un h = let lt : nat_lt c.timestamp x.timestamp ≡ true = h.0 in (grind (arith, nat_tests, un, lt), above xs un h.1)

-- one more committed branch
pub last_more : (key : List ℕ) (cs : List CommittedBranch) (c : CommittedBranch) → last_write key (cs ++ c ∷ []) ≡ option_or (option_map (λ v. (c.timestamp, v)) (value_in key c.writes)) (last_write key cs)
last_more key [] c = at (option_map (λ v. (c.timestamp, v)) (value_in key c.writes))
  where
    at : (o : Option (ℕ × Option (List ℕ))) → option_or None o ≡ option_or o None
    at None = refl
    at (Some x) = refl
last_more key (b ∷ later) c =
    ap (λ o. option_or o (option_map (λ v. (b.timestamp, v)) (value_in key b.writes))) (last_more key later c)
    ∙ grouped (option_map (λ v. (c.timestamp, v)) (value_in key c.writes)) (last_write key later) (option_map (λ v. (b.timestamp, v)) (value_in key b.writes))
  where
    grouped : (o p q : Option (ℕ × Option (List ℕ))) → option_or (option_or o p) q ≡ option_or o (option_or p q)
    grouped None p q = refl
    grouped (Some x) p q = refl

-- branches in doubt that are below what is seen change nothing

unseen_write : (gone : ℕ → Bool) (key : List ℕ) (u t : ℕ) (fate : Option Fate) (w : Write) (rest : List Written) → t < (seen_without gone key u rest).from → seen_without gone key u (with_write t fate rest w) ≡ seen_without gone key u rest
unseen_write gone key u t fate w rest lt =
    let no : nat_le (seen_without gone key u rest).from t ≡ false = grind (arith, nat_tests, lt) in
    rw no (never (bytes_eq key w.key && (stands gone t fate && nat_le t u)))
  where
    never : (b : Bool) → (if b && false then shown (record { timestamp = t; key = w.key; value = w.value; fate = fate }) else seen_without gone key u rest) ≡ seen_without gone key u rest
    never true = refl
    never false = refl

unseen_branch : (gone : ℕ → Bool) (key : List ℕ) (u t : ℕ) (fate : Option Fate) (ws : List Write) (rest : List Written) → t < (seen_without gone key u rest).from → seen_without gone key u (with_branch t fate ws rest) ≡ seen_without gone key u rest
unseen_branch gone key u t fate [] rest lt = refl
unseen_branch gone key u t fate (w ∷ ws) rest lt =
    let one : seen_without gone key u (with_write t fate rest w) ≡ seen_without gone key u rest = unseen_write gone key u t fate w rest lt in
    unseen_branch gone key u t fate ws (with_write t fate rest w) (rw one lt) ∙ one

pub unseen_prepared : (gone : ℕ → Bool) (key : List ℕ) (u : ℕ) (ps : List PreparedBranch) (base : List Written) → Each (λ p. p.timestamp < (seen_without gone key u base).from) ps → seen_without gone key u (fold with_prepared base ps) ≡ seen_without gone key u base
unseen_prepared gone key u [] base h = refl
unseen_prepared gone key u (p ∷ ps) base h =
    let one : seen_without gone key u (with_prepared base p) ≡ seen_without gone key u base = unseen_branch gone key u p.timestamp None p.writes base h.0 in
    unseen_prepared gone key u ps (with_prepared base p) (rw one h.1) ∙ one

-- what is seen of a state's branches is of at most the greatest timestamp
pub seen_below : (gone : ℕ → Bool) (key : List ℕ) (u limit : ℕ) (bs : List Branch) → Descends limit bs → (seen_without gone key u (writes_in bs)).from ≤ limit
seen_below gone key u limit [] h = omega arith
seen_below gone key u limit (b ∷ bs) h =
    let rest = seen_below gone key u b.timestamp bs h.2 in
    let one : (seen_one gone u b.timestamp (fate_of b.phase) (write_of key b.operations) (seen_without gone key u (writes_in bs))).from ≤ b.timestamp =
    one_under gone u b.timestamp (fate_of b.phase) (write_of key b.operations) (seen_without gone key u (writes_in bs)) (stands gone b.timestamp (fate_of b.phase) && nat_le b.timestamp u) refl rest in
    rw (seen_group gone key u b.timestamp (fate_of b.phase) b.operations (writes_in bs) rest) (omega (arith, one, h.1))
