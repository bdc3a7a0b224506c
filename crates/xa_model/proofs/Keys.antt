-- What is last left at each key tells committed branches apart.
use Rattle.std.proofs.Common.{◌≡◌, inl, inr, ◌⊎◌, ℕ, ◌≤◌, Bool, true, false, not, cond, List, [], ◌∷◌, length, Option, Some, None, refl, ap, subst, sym, ◌∙◌, arith}
use Rattle.std.specs.Prelude.{bytes_eq, nat_lt, option_map}
use Rattle.std.specs.Option.{option_or}
use Rattle.std.specs.Cmp.Lexicographic.{slice_cmp}
use Rattle.std.specs.List.{AllByRecursion}
use Rattle.std.specs.Ordering.{nat_cmp, is_lt}
use Rattle.std.proofs.lemmas.Bool.{or_parts, or_from, not_from_false}
use Rattle.std.proofs.lemmas.Bool.Decides.{nat_tests}
use Rattle.std.proofs.lemmas.Cmp.{nat_list_eq_equiv}
use Rattle.std.proofs.lemmas.Slice.Eq.{bytes_eq-Decides}
use Rattle.xa_codes.specs.declared.write.Write.{Write}
use Rattle.xa_model.specs.State.{Decided}
use Rattle.xa_model.specs.Durable.{Durable, CommittedBranch, PreparedBranch, Pairwise, AreLast, commits_before, keys_before, is_written_in, is_written, not_overwritten, with_writes, last_writes, value_in, last_write}
use Rattle.xa_model.specs.Laws.Durable.{OneValue, LastWritesStay}
use Rattle.xa_model.proofs.Tests.{commits_transitive}
use Rattle.xa_model.proofs.Members.{Member, member_all, same_members, same_place_by, commits_strict, keys_strict, keys_transitive, same_prepared, same_decided}

-- keys

pub key_itself : (key : List ℕ) → bytes_eq key key ≡ true
key_itself key = (bytes_eq-Decides key key).1 refl

key_back : (key k : List ℕ) → bytes_eq key k ≡ false → bytes_eq k key ≡ false
key_back key k e = nat_list_eq_equiv.symm k key ∙ e

below_by : (v w : Write) (c : Bool) → bytes_eq v.key w.key ≡ c → keys_before v w ≡ true → c ≡ false
below_by v w false e h = refl
below_by v w true e h =
    let same : v.key ≡ w.key = (bytes_eq-Decides v.key w.key).0 e in
    let strict : is_lt (slice_cmp nat_cmp v.key v.key) ≡ false = keys_strict.never v in
    absurd (cc (ap (λ k. is_lt (slice_cmp nat_cmp v.key k)) same, strict, h))

pub key_below : (v w : Write) → keys_before v w ≡ true → bytes_eq v.key w.key ≡ false
key_below v w h = below_by v w (bytes_eq v.key w.key) refl h

-- a write and its value

value_of_member : (w : Write) (ws : List Write) → Pairwise keys_before ws → Member w ws → value_in w.key ws ≡ Some w.value
value_of_member w [] h m = absurd m
value_of_member w (v ∷ ws) h (inl e) =
    let here : bytes_eq v.key w.key ≡ true = subst (λ (u : Write). bytes_eq u.key w.key ≡ true) e (key_itself w.key) in
    rw here (ap (λ (u : Write). Some u.value) (sym e))
value_of_member w (v ∷ ws) h (inr m) =
    let other : bytes_eq v.key w.key ≡ false = key_below v w (member_all (λ u. keys_before v u ≡ true) w ws m h.0) in
    rw other (value_of_member w ws h.1 m)

abbrev write_of : List ℕ → Option (List ℕ) → Write
write_of key v = record { key = key; value = v }

same_write : (key : List ℕ) (v : Option (List ℕ)) (w : Write) → w.key ≡ key → w.value ≡ v → write_of key v ≡ w
same_write key v w e f = ap (λ k. write_of k v) (sym e) ∙ ap (write_of w.key) (sym f)

member_by : (key : List ℕ) (v : Option (List ℕ)) (w : Write) (ws : List Write) (c : Bool) → bytes_eq w.key key ≡ c → cond c (Some w.value) (value_in key ws) ≡ Some v
    → (value_in key ws ≡ Some v → Member (write_of key v) ws) → (write_of key v ≡ w) ⊎ Member (write_of key v) ws
member_by key v w ws true k e rest = let same : w.value ≡ v = cc e in inl (same_write key v w ((bytes_eq-Decides w.key key).0 k) same)
member_by key v w ws false k e rest = inr (rest e)

member_of_value : (key : List ℕ) (v : Option (List ℕ)) (ws : List Write) → value_in key ws ≡ Some v → Member (write_of key v) ws
member_of_value key v [] e = absurd (cc e)
member_of_value key v (w ∷ ws) e = member_by key v w ws (bytes_eq w.key key) refl e (member_of_value key v ws)

-- what isn't written isn't found, and what isn't found isn't written

pub no_value : (key : List ℕ) (ws : List Write) → is_written_in key ws ≡ false → value_in key ws ≡ None
no_value key [] e = refl
no_value key (w ∷ ws) e =
    let both = or_parts (bytes_eq key w.key) (is_written_in key ws) e in
    rw (key_back key w.key both.0) (no_value key ws both.1)

pub unwritten : (key : List ℕ) (bs : List CommittedBranch) → is_written key bs ≡ false → last_write key bs ≡ None
unwritten key [] e = refl
unwritten key (b ∷ later) e =
    let both = or_parts (is_written_in key b.writes) (is_written key later) e in
    let rest : last_write key later ≡ None = unwritten key later both.1 in
    let here : value_in key b.writes ≡ None = no_value key b.writes both.0 in
    rw (rest, here) refl

value_none_by : (key : List ℕ) (w : Write) (ws : List Write) (c : Bool) → bytes_eq w.key key ≡ c → cond c (Some w.value) (value_in key ws) ≡ None → (value_in key ws ≡ None → is_written_in key ws ≡ false)
    → is_written_in key (w ∷ ws) ≡ false
value_none_by key w ws true k e rest = absurd (cc e)
value_none_by key w ws false k e rest = or_from (bytes_eq key w.key) (is_written_in key ws) (key_back w.key key k) (rest e)

value_none : (key : List ℕ) (ws : List Write) → value_in key ws ≡ None → is_written_in key ws ≡ false
value_none key [] e = refl
value_none key (w ∷ ws) e = value_none_by key w ws (bytes_eq w.key key) refl e (value_none key ws)

neither_by : (t : ℕ) (o : Option (ℕ × Option (List ℕ))) (v : Option (Option (List ℕ))) → option_or o (option_map (λ u. (t, u)) v) ≡ None → (o ≡ None) × (v ≡ None)
neither_by t None None e = (refl, refl)
neither_by t None (Some v) e = absurd (cc e)
neither_by t (Some x) v e = absurd (cc e)

not_found : (key : List ℕ) (bs : List CommittedBranch) → last_write key bs ≡ None → is_written key bs ≡ false
not_found key [] e = refl
not_found key (b ∷ later) e =
    let both = neither_by b.timestamp (last_write key later) (value_in key b.writes) e in
    or_from (is_written_in key b.writes) (is_written key later) (value_none key b.writes both.1) (not_found key later both.0)

-- the last writes leave at each key what all left there

or_none : (o : Option (ℕ × Option (List ℕ))) → option_or o None ≡ o
or_none None = refl
or_none (Some x) = refl

with_value : (key : List ℕ) (t : ℕ) (ws : List Write) (bs : List CommittedBranch) → last_write key (with_writes t ws bs) ≡ option_or (last_write key bs) (option_map (λ v. (t, v)) (value_in key ws))
with_value key t [] bs = sym (or_none (last_write key bs))
with_value key t (w ∷ ws) bs = refl

left_value_by : (key : List ℕ) (w : Write) (ws vs : List Write) (c d : Bool) → bytes_eq w.key key ≡ d → (d ≡ true → c ≡ true) → value_in key vs ≡ value_in key ws
    → value_in key (cond c (w ∷ vs) vs) ≡ cond d (Some w.value) (value_in key ws)
left_value_by key w ws vs true true e f rest = rw e refl
left_value_by key w ws vs true false e f rest = rw e rest
left_value_by key w ws vs false true e f rest = let no : false ≡ true = f refl in absurd (cc no)
left_value_by key w ws vs false false e f rest = rest

left_value : (key : List ℕ) (later : List CommittedBranch) (ws : List Write) → is_written key later ≡ false → value_in key (not_overwritten later ws) ≡ value_in key ws
left_value key later [] none = refl
left_value key later (w ∷ ws) none =
    left_value_by key w ws (not_overwritten later ws) (not (is_written w.key later)) (bytes_eq w.key key) refl
    (λ e. not_from_false (is_written w.key later) (ap (λ k. is_written k later) ((bytes_eq-Decides w.key key).0 e) ∙ none)) (left_value key later ws none)

stay_by : (key : List ℕ) (b : CommittedBranch) (later : List CommittedBranch) (o : Option (ℕ × Option (List ℕ))) → last_write key later ≡ o
    → option_or o (option_map (λ v. (b.timestamp, v)) (value_in key (not_overwritten later b.writes))) ≡ option_or o (option_map (λ v. (b.timestamp, v)) (value_in key b.writes))
stay_by key b later (Some x) e = refl
stay_by key b later None e = ap (option_map (λ v. (b.timestamp, v))) (left_value key later b.writes (not_found key later e))

pub last_writes_stay : LastWritesStay
last_writes_stay key [] = refl
last_writes_stay key (b ∷ later) =
    with_value key b.timestamp (not_overwritten later b.writes) (last_writes later)
    ∙ ap (λ o. option_or o (option_map (λ v. (b.timestamp, v)) (value_in key (not_overwritten later b.writes)))) (last_writes_stay key later)
    ∙ stay_by key b later (last_write key later) refl

-- a write of a branch is found by its key

abbrev pub AreByKey : List CommittedBranch → Type 0
AreByKey bs = AllByRecursion (λ b. Pairwise keys_before b.writes) bs

found_write : (b : CommittedBranch) (w : Write) (bs : List CommittedBranch) → AreLast bs → AreByKey bs → Member b bs → Member w b.writes → last_write w.key bs ≡ Some (b.timestamp, w.value)
found_write b w [] h k m n = absurd m
found_write b w (c ∷ later) h k (inl e) n =
    let mine : Member w c.writes = subst (λ (x : CommittedBranch). Member w x.writes) e n in
    let rest : last_write w.key later ≡ None = unwritten w.key later (member_all (λ v. is_written v.key later ≡ false) w c.writes mine h.1) in
    let here : value_in w.key c.writes ≡ Some w.value = value_of_member w c.writes k.0 mine in
    rw (rest, here) (ap (λ (x : CommittedBranch). Some (x.timestamp, w.value)) (sym e))
found_write b w (c ∷ later) h k (inr m) n = let rest : last_write w.key later ≡ Some (b.timestamp, w.value) = found_write b w later h.2 k.1 m n in rw rest refl

-- and what is found is a write of a branch

record IsFound (key : List ℕ) (x : ℕ × Option (List ℕ)) (bs : List CommittedBranch) : Type 0 where
  branch : CommittedBranch
  member : Member branch bs
  time : branch.timestamp ≡ x.0
  write : Member (write_of key x.1) branch.writes

further : (key : List ℕ) (x : ℕ × Option (List ℕ)) (b : CommittedBranch) (bs : List CommittedBranch) → IsFound key x bs → IsFound key x (b ∷ bs)
further key x b bs f = record { branch = f.branch; member = inr f.member; time = f.time; write = f.write }

found_here : (key : List ℕ) (x : ℕ × Option (List ℕ)) (b : CommittedBranch) (later : List CommittedBranch) (v : Option (Option (List ℕ))) → value_in key b.writes ≡ v → option_map (λ u. (b.timestamp, u)) v ≡ Some x
    → IsFound key x (b ∷ later)
found_here key x b later None k e = absurd (cc e)
found_here key x b later (Some v) k e =
    let same : (b.timestamp, v) ≡ x = cc e in
    record {
      branch = b;
      member = inl refl;
      time = ap (λ (y : ℕ × Option (List ℕ)). y.0) same;
      write = subst (λ (y : ℕ × Option (List ℕ)). Member (write_of key y.1) b.writes) same (member_of_value key v b.writes k);
    }

found_by : (key : List ℕ) (x : ℕ × Option (List ℕ)) (b : CommittedBranch) (later : List CommittedBranch) (o : Option (ℕ × Option (List ℕ))) → last_write key later ≡ o
    → option_or o (option_map (λ v. (b.timestamp, v)) (value_in key b.writes)) ≡ Some x → (last_write key later ≡ Some x → IsFound key x later) → IsFound key x (b ∷ later)
found_by key x b later (Some y) k e rest = let there : last_write key later ≡ Some x = k ∙ e in further key x b later (rest there)
found_by key x b later None k e rest = found_here key x b later (value_in key b.writes) refl e

found : (key : List ℕ) (x : ℕ × Option (List ℕ)) (bs : List CommittedBranch) → last_write key bs ≡ Some x → IsFound key x bs
found key x [] e = absurd (cc e)
found key x (b ∷ later) e = found_by key x b later (last_write key later) refl e (found key x later)

-- the same branches

pub record AreCommitted (bs : List CommittedBranch) : Type 0 where
  pub order : Pairwise commits_before bs
  pub last : AreLast bs
  pub keys : AreByKey bs

same_time : (b c : CommittedBranch) (bs : List CommittedBranch) → Pairwise commits_before bs → b.timestamp ≡ c.timestamp → Member b bs → Member c bs → b ≡ c
same_time b c bs h e m n =
    let bc : nat_lt b.timestamp c.timestamp ≡ false = grind (arith, nat_tests) in
    let cb : nat_lt c.timestamp b.timestamp ≡ false = grind (arith, nat_tests) in
    same_place_by commits_before b c bs h bc cb m n

-- a branch's writes are those of the other list's branch of its timestamp
carried : (bs cs : List CommittedBranch) → AreCommitted bs → AreCommitted cs → ((key : List ℕ) → last_write key bs ≡ last_write key cs) → (b c : CommittedBranch) → Member b bs → Member c cs
    → b.timestamp ≡ c.timestamp → (w : Write) → Member w b.writes → Member w c.writes
carried bs cs h k same b c m n e w mw =
    let f : IsFound w.key (b.timestamp, w.value) cs = found w.key (b.timestamp, w.value) cs (sym (same w.key) ∙ found_write b w bs h.last h.keys m mw) in
    let is : f.branch ≡ c = same_time f.branch c cs k.order (f.time ∙ e) f.member n in
    subst (λ (x : CommittedBranch). Member w x.writes) is f.write

first_write : (ws : List Write) → 1 ≤ length ws → (w : Write) × Member w ws
first_write [] h = absurd (omega arith)
first_write (w ∷ ws) h = (w, inl refl)

some_writes : (b : CommittedBranch) (bs : List CommittedBranch) → AreLast bs → Member b bs → 1 ≤ length b.writes
some_writes b [] h m = absurd m
some_writes b (c ∷ later) h (inl e) = subst (λ (x : CommittedBranch). 1 ≤ length x.writes) (sym e) h.0
some_writes b (c ∷ later) h (inr m) = some_writes b later h.2 m

same_branch : (b c : CommittedBranch) → b.timestamp ≡ c.timestamp → b.writes ≡ c.writes → b ≡ c
same_branch b c e f = both b.timestamp c.timestamp b.writes c.writes e f
  where
    both : (t u : ℕ) (ws vs : List Write) → t ≡ u → ws ≡ vs → ◌≡◌ {A = CommittedBranch} (record { timestamp = t; writes = ws }) (record { timestamp = u; writes = vs })
    both t u ws vs e f = cc (e, f)

moves : (bs cs : List CommittedBranch) → AreCommitted bs → AreCommitted cs → ((key : List ℕ) → last_write key bs ≡ last_write key cs) → (b : CommittedBranch) → Member b bs → Member b cs
moves bs cs h k same b m =
    let w = first_write b.writes (some_writes b bs h.last m) in
    let f : IsFound w.0.key (b.timestamp, w.0.value) cs = found w.0.key (b.timestamp, w.0.value) cs (sym (same w.0.key) ∙ found_write b w.0 bs h.last h.keys m w.1) in
    let writes : b.writes ≡ f.branch.writes =
    same_members keys_before keys_transitive keys_strict b.writes f.branch.writes
    (member_all (λ x. Pairwise keys_before x.writes) b bs m h.keys) (member_all (λ x. Pairwise keys_before x.writes) f.branch cs f.member k.keys)
    (carried bs cs h k same b f.branch m f.member (sym f.time))
    (carried cs bs k h (λ key. sym (same key)) f.branch b f.member m f.time) in
    subst (λ (x : CommittedBranch). Member x cs) (sym (same_branch b f.branch (sym f.time) writes)) f.member

pub same_committed : (bs cs : List CommittedBranch) → AreCommitted bs → AreCommitted cs → ((key : List ℕ) → last_write key bs ≡ last_write key cs) → bs ≡ cs
same_committed bs cs h k same =
    same_members commits_before commits_transitive commits_strict bs cs h.order k.order (moves bs cs h k same) (moves cs bs k h (λ key. sym (same key)))

same_parts : (c d : Durable) → c.boot ≡ d.boot → c.committed ≡ d.committed → c.prepared ≡ d.prepared → c.decided ≡ d.decided → c ≡ d
same_parts c d e f g h = all c.boot d.boot c.committed d.committed c.prepared d.prepared c.decided d.decided e f g h
  where
    all : (a b : ℕ) (cs ds : List CommittedBranch) (ps qs : List PreparedBranch) (es fs : List Decided) → a ≡ b → cs ≡ ds → ps ≡ qs → es ≡ fs
        → ◌≡◌ {A = Durable} (record { boot = a; committed = cs; prepared = ps; decided = es }) (record { boot = b; committed = ds; prepared = qs; decided = fs })
    all a b cs ds ps qs es fs e f g h = cc (e, f, g, h)

pub one_value : OneValue
one_value c d h k hk kk same =
    same_parts c d same.boot
    (same_committed c.committed d.committed (record { order = h.committed; last = h.last; keys = hk }) (record { order = k.committed; last = k.last; keys = kk }) same.committed)
    (same_prepared c.prepared d.prepared h.prepared k.prepared h.distinct k.distinct same.prepared)
    (same_decided c.decided d.decided h.decided k.decided same.decided)
