-- One more committed write after those of its timestamp, of a key above all before it: what the branches have then.
use Rattle.std.proofs.Common.{◌≡◌, ℕ, ◌<◌, Bool, true, false, ◌==◌, List, [], ◌∷◌, ◌++◌, Option, Some, None, refl, ap, ◌∙◌, length-append, arith}
use Rattle.std.specs.Prelude.{nat_lt, bytes_eq, option_map, if◌then◌else◌, Vec}
use Rattle.std.specs.Option.{option_or, option_map_or}
use Rattle.std.specs.List.{AllByRecursion as Each}
use Rattle.std.specs.List.Sorted.{IsStrictlySortedBy}
use Rattle.std.specs.BTreeMap.{insert_entry}
use Rattle.std.specs.Map.{keys_of}
use Rattle.std.specs.Cmp.Lexicographic.{slice_cmp}
use Rattle.std.specs.Ordering.{nat_cmp, is_lt, is_eq}
use Rattle.std.specs.declared.alloc.Global.{Global}
use Rattle.std.specs.declared.cmp.Ordering.{Ordering}
use Rattle.std.specs.declared.cmp.Ordering.TheVariants.{Less, Equal, Greater}
use Rattle.std.proofs.lemmas.Bool.{or_parts, or_from}
use Rattle.std.proofs.lemmas.Bool.Decides.{nat_tests}
use Rattle.std.proofs.lemmas.List.Folds.{list_any-append}
use Rattle.std.proofs.lemmas.Slice.Eq.{bytes_eq-Decides}
use Rattle.xa_codes.specs.declared.write.Write.{Write}
use Rattle.xa_model.specs.Durable.{CommittedBranch, Pairwise, AreLast, commits_before, keys_before, is_written_in, is_written, value_in, last_write}
use Rattle.xa_model.proofs.Keys.{no_value, unwritten}
use Rattle.xa_model.proofs.Splits.{pairwise_last}
use Rattle.mv_rules.specs.Committed.{as_branch, branches_in}
use Rattle.mv_rules.proofs.ByTimestamp.{found, IsSorted, less, same, more, above}
use Rattle.mv_rules.proofs.Indices.{by_compare}
use Rattle.mv_rules.proofs.Ties.{bytes_eq_swapped}

abbrev pub one : ℕ → Write → CommittedBranch
one t w = record { timestamp = t; writes = w ∷ [] }

abbrev pub with_more : Write → CommittedBranch → CommittedBranch
with_more w b = record { timestamp = b.timestamp; writes = b.writes ++ w ∷ [] }

abbrev pub joined : ℕ → Write → List CommittedBranch → List CommittedBranch
joined t w [] = one t w ∷ []
joined t w (b ∷ later) =
    if nat_lt t b.timestamp then one t w ∷ b ∷ later else if t == b.timestamp then with_more w b ∷ later else b ∷ joined t w later

-- every key of the branches is below this one
abbrev pub AreBelow : List ℕ → List CommittedBranch → Type 0
AreBelow key bs = Each (λ b. Each (λ v. slice_cmp nat_cmp v.key key ≡ Less) b.writes) bs

-- the entries of a map

abbrev items_at : ℕ → List (ℕ × Vec Write Global) → List Write
items_at t es = option_map_or (λ v. v.items) (found t es) []

at_entries : (t : ℕ) (w : Write) (x : ℕ × Vec Write Global) (es : List (ℕ × Vec Write Global)) (left : Vec Write Global) (o : Ordering) → nat_cmp t x.0 ≡ o → Each (λ k. nat_cmp x.0 k ≡ Less) (keys_of es)
    → left.items ≡ items_at t (x ∷ es) ++ w ∷ [] → (left.items ≡ items_at t es ++ w ∷ [] → branches_in (insert_entry nat_cmp es t left) ≡ joined t w (branches_in es))
    → branches_in (insert_entry nat_cmp (x ∷ es) t left) ≡ joined t w (branches_in (x ∷ es))
at_entries t w x es left Less o s e rest =
    let up : t < x.0 = less t x.0 o in
    let off : is_eq (nat_cmp t x.0) ≡ false = ap is_eq o in
    let none : found t es ≡ None = above x.0 t es (omega arith) s in
    let alone : left.items ≡ w ∷ [] = rw (off, none) at e in
    let lt : nat_lt t x.0 ≡ true = grind (arith, nat_tests) in
    rw (o, lt, alone) refl
at_entries t w x es left Equal o s e rest =
    let is : t ≡ x.0 = same t x.0 o in
    let on : is_eq (nat_cmp t x.0) ≡ true = ap is_eq o in
    let more : left.items ≡ x.1.items ++ w ∷ [] = rw on at e in
    let lt : nat_lt t x.0 ≡ false = grind (arith, nat_tests) in
    let eq : (t == x.0) ≡ true = grind (arith, nat_tests) in
    rw (o, lt, eq, more) refl
at_entries t w x es left Greater o s e rest =
    let up : x.0 < t = more t x.0 o in
    let off : is_eq (nat_cmp t x.0) ≡ false = ap is_eq o in
    let behind : left.items ≡ items_at t es ++ w ∷ [] = rw off at e in
    let lt : nat_lt t x.0 ≡ false = grind (arith, nat_tests) in
    let eq : (t == x.0) ≡ false = grind (arith, nat_tests) in
    rw (o, lt, eq) (ap (λ bs. as_branch x ∷ bs) (rest behind))

pub joined_entries : (t : ℕ) (w : Write) (es : List (ℕ × Vec Write Global)) (left : Vec Write Global) → IsSorted es → left.items ≡ items_at t es ++ w ∷ [] → branches_in (insert_entry nat_cmp es t left) ≡ joined t w (branches_in es)
unfolding IsStrictlySortedBy
joined_entries t w [] left s e = rw e refl
joined_entries t w (x ∷ es) left s e = at_entries t w x es left (nat_cmp t x.0) refl s.0 e (joined_entries t w es left s.1)

-- what holds of all holds then

pub each_joined : (P Q : CommittedBranch → Type 0) (t : ℕ) (w : Write) (bs : List CommittedBranch) → Each P bs → ((b : CommittedBranch) → P b → Q b) → Q (one t w) → ((b : CommittedBranch) → P b → Q (with_more w b)) → Each Q (joined t w bs)
each_joined P Q t w [] h keep new grown = (new, tt)
each_joined P Q t w (b ∷ later) h keep new grown = by (nat_lt t b.timestamp) (t == b.timestamp) (all later h.1) (each_joined P Q t w later h.1 keep new grown)
  where
    all : (bs : List CommittedBranch) → Each P bs → Each Q bs
    all [] g = tt
    all (c ∷ cs) g = (keep c g.0, all cs g.1)

    by : (x y : Bool) → Each Q later → Each Q (joined t w later) → Each Q (if x then one t w ∷ b ∷ later else if y then with_more w b ∷ later else b ∷ joined t w later)
    by true y a r = (new, (keep b h.0, a))
    by false true a r = (grown b h.0, a)
    by false false a r = (keep b h.0, r)

-- their order

pub joined_ascend : (t : ℕ) (w : Write) (bs : List CommittedBranch) → Pairwise commits_before bs → Pairwise commits_before (joined t w bs)
joined_ascend t w [] h = (tt, tt)
joined_ascend t w (b ∷ later) h = by (nat_lt t b.timestamp) refl (t == b.timestamp) refl (joined_ascend t w later h.1)
  where
    up : nat_lt t b.timestamp ≡ true → (bs : List CommittedBranch) → Each (λ c. commits_before b c ≡ true) bs → Each (λ c. commits_before (one t w) c ≡ true) bs
    up e [] g = tt
    up e (c ∷ cs) g = (grind (arith, nat_tests, e, g.0), up e cs g.1)

    by : (x : Bool) → nat_lt t b.timestamp ≡ x → (y : Bool) → (t == b.timestamp) ≡ y → Pairwise commits_before (joined t w later)
        → Pairwise commits_before (if x then one t w ∷ b ∷ later else if y then with_more w b ∷ later else b ∷ joined t w later)
    by true e y f r = ((e, up e later h.0), h)
    by false e true f r = h
    by false e false f r =
        let below : nat_lt b.timestamp t ≡ true = grind (arith, nat_tests, e, f) in
        (each_joined (λ c. commits_before b c ≡ true) (λ c. commits_before b c ≡ true) t w later h.0 (λ c g. g) below (λ c g. g), r)

-- the writes of each ascend by key

below_before : (w : Write) (vs : List Write) → Each (λ v. slice_cmp nat_cmp v.key w.key ≡ Less) vs → Each (λ v. keys_before v w ≡ true) vs
below_before w [] h = tt
below_before w (v ∷ vs) h = (ap is_lt h.0, below_before w vs h.1)

both_each : (P Q : CommittedBranch → Type 0) (bs : List CommittedBranch) → Each P bs → Each Q bs → Each (λ b. P b × Q b) bs
both_each P Q [] h k = tt
both_each P Q (b ∷ bs) h k = ((h.0, k.0), both_each P Q bs h.1 k.1)

pub joined_by_key : (t : ℕ) (w : Write) (bs : List CommittedBranch) → Each (λ b. Pairwise keys_before b.writes) bs → AreBelow w.key bs → Each (λ b. Pairwise keys_before b.writes) (joined t w bs)
joined_by_key t w bs h below =
    each_joined (λ b. Pairwise keys_before b.writes × Each (λ v. slice_cmp nat_cmp v.key w.key ≡ Less) b.writes) (λ b. Pairwise keys_before b.writes) t w bs
    (both_each (λ b. Pairwise keys_before b.writes) (λ b. Each (λ v. slice_cmp nat_cmp v.key w.key ≡ Less) b.writes) bs h below)
    (λ b g. g.0) (tt, tt) (λ b g. pairwise_last keys_before b.writes w g.0 (below_before w b.writes g.1))

-- and are below a key that all are below

each_more : (P : Write → Type 0) (vs : List Write) (w : Write) → Each P vs → P w → Each P (vs ++ w ∷ [])
each_more P [] w h p = (p, tt)
each_more P (v ∷ vs) w h p = (h.0, each_more P vs w h.1 p)

pub joined_below : (t : ℕ) (w : Write) (key : List ℕ) (bs : List CommittedBranch) → AreBelow key bs → slice_cmp nat_cmp w.key key ≡ Less → AreBelow key (joined t w bs)
joined_below t w key bs h less =
    each_joined (λ b. Each (λ v. slice_cmp nat_cmp v.key key ≡ Less) b.writes) (λ b. Each (λ v. slice_cmp nat_cmp v.key key ≡ Less) b.writes) t w bs h (λ b g. g) (less, tt)
    (λ b g. each_more (λ v. slice_cmp nat_cmp v.key key ≡ Less) b.writes w g less)

-- which keys are written

below_unwritten_in : (key : List ℕ) (vs : List Write) → Each (λ v. slice_cmp nat_cmp v.key key ≡ Less) vs → is_written_in key vs ≡ false
below_unwritten_in key [] h = refl
below_unwritten_in key (v ∷ vs) h = or_from (bytes_eq key v.key) (is_written_in key vs) (bytes_eq_swapped key v.key ∙ by_compare v.key key Less h.0) (below_unwritten_in key vs h.1)

pub below_unwritten : (key : List ℕ) (bs : List CommittedBranch) → AreBelow key bs → is_written key bs ≡ false
below_unwritten key [] h = refl
below_unwritten key (b ∷ bs) h = or_from (is_written_in key b.writes) (is_written key bs) (below_unwritten_in key b.writes h.0) (below_unwritten key bs h.1)

more_unwritten : (key : List ℕ) (w : Write) (vs : List Write) → is_written_in key vs ≡ false → bytes_eq key w.key ≡ false → is_written_in key (vs ++ w ∷ []) ≡ false
more_unwritten key w vs h e = list_any-append (λ v. bytes_eq key v.key) vs (w ∷ []) ∙ rw (h, e) refl

pub joined_unwritten : (t : ℕ) (w : Write) (key : List ℕ) (bs : List CommittedBranch) → is_written key bs ≡ false → bytes_eq key w.key ≡ false → is_written key (joined t w bs) ≡ false
joined_unwritten t w key [] h e = rw e refl
joined_unwritten t w key (b ∷ later) h e =
    let both = or_parts (is_written_in key b.writes) (is_written key later) h in
    by (nat_lt t b.timestamp) (t == b.timestamp) both.0 (joined_unwritten t w key later both.1 e) (more_unwritten key w b.writes both.0 e) both.1
  where
    by : (x y : Bool) → is_written_in key b.writes ≡ false → is_written key (joined t w later) ≡ false → is_written_in key (b.writes ++ w ∷ []) ≡ false → is_written key later ≡ false
        → is_written key (if x then one t w ∷ b ∷ later else if y then with_more w b ∷ later else b ∷ joined t w later) ≡ false
    by true y own r grown l = or_from (is_written_in key (w ∷ [])) (is_written key (b ∷ later)) (or_from (bytes_eq key w.key) false e refl) h
    by false true own r grown l = or_from (is_written_in key (b.writes ++ w ∷ [])) (is_written key later) grown l
    by false false own r grown l = or_from (is_written_in key b.writes) (is_written key (joined t w later)) own r

-- each write is the last of its key

pub joined_last : (t : ℕ) (w : Write) (bs : List CommittedBranch) → AreLast bs → AreBelow w.key bs → AreLast (joined t w bs)
joined_last t w [] h below = (omega arith, (refl, tt), tt)
joined_last t w (b ∷ later) h below = by (nat_lt t b.timestamp) (t == b.timestamp) (joined_last t w later h.2 below.1)
  where
    others : (vs : List Write) → Each (λ v. is_written v.key later ≡ false) vs → Each (λ v. slice_cmp nat_cmp v.key w.key ≡ Less) vs → Each (λ v. is_written v.key (joined t w later) ≡ false) vs
    others [] g k = tt
    others (v ∷ vs) g k = (joined_unwritten t w v.key later g.0 (by_compare v.key w.key Less k.0), others vs g.1 k.1)

    by : (x y : Bool) → AreLast (joined t w later) → AreLast (if x then one t w ∷ b ∷ later else if y then with_more w b ∷ later else b ∷ joined t w later)
    by true y r = (omega arith, (below_unwritten w.key (b ∷ later) below, tt), h)
    by false true r = (omega (arith, length-append b.writes (w ∷ [])), each_more (λ v. is_written v.key later ≡ false) b.writes w h.1 (below_unwritten w.key later below.1), h.2)
    by false false r = (h.0, others b.writes h.1 below.0, r)

-- what is found of each key

or_none : (o : Option (ℕ × Option (List ℕ))) → option_or o None ≡ o
or_none None = refl
or_none (Some x) = refl

value_more_by : (key : List ℕ) (w v : Write) (vs : List Write) (c : Bool) → bytes_eq v.key key ≡ c → value_in key (vs ++ w ∷ []) ≡ option_or (value_in key vs) (value_in key (w ∷ []))
    → value_in key ((v ∷ vs) ++ w ∷ []) ≡ option_or (value_in key (v ∷ vs)) (value_in key (w ∷ []))
value_more_by key w v vs true e rest = rw e refl
value_more_by key w v vs false e rest = rw e rest

value_more : (key : List ℕ) (w : Write) (vs : List Write) → value_in key (vs ++ w ∷ []) ≡ option_or (value_in key vs) (value_in key (w ∷ []))
value_more key w [] = refl
value_more key w (v ∷ vs) = value_more_by key w v vs (bytes_eq v.key key) refl (value_more key w vs)

value_none : (key : List ℕ) (w : Write) → bytes_eq w.key key ≡ false → value_in key (w ∷ []) ≡ None
value_none key w e = rw e refl

value_or : (o : Option (Option (List ℕ))) → option_or o None ≡ o
value_or None = refl
value_or (Some x) = refl

pub joined_miss : (t : ℕ) (w : Write) (key : List ℕ) (bs : List CommittedBranch) → bytes_eq w.key key ≡ false → last_write key (joined t w bs) ≡ last_write key bs
joined_miss t w key [] e = rw e refl
joined_miss t w key (b ∷ later) e = by (nat_lt t b.timestamp) (t == b.timestamp) (joined_miss t w key later e)
  where
    by : (x y : Bool) → last_write key (joined t w later) ≡ last_write key later
        → last_write key (if x then one t w ∷ b ∷ later else if y then with_more w b ∷ later else b ∷ joined t w later) ≡ last_write key (b ∷ later)
    by true y r = ap (λ o. option_or (last_write key (b ∷ later)) (option_map (λ v. (t, v)) o)) (value_none key w e) ∙ or_none (last_write key (b ∷ later))
    by false true r =
        ap (λ o. option_or (last_write key later) (option_map (λ v. (b.timestamp, v)) o))
        (value_more key w b.writes ∙ (ap (λ o. option_or (value_in key b.writes) o) (value_none key w e) ∙ value_or (value_in key b.writes)))
    by false false r = ap (λ o. option_or o (option_map (λ v. (b.timestamp, v)) (value_in key b.writes))) r

own_value : (w : Write) → value_in w.key (w ∷ []) ≡ Some w.value
own_value w = let same : bytes_eq w.key w.key ≡ true = (bytes_eq-Decides w.key w.key).1 refl in rw same refl

pub joined_hit : (t : ℕ) (w : Write) (bs : List CommittedBranch) → AreBelow w.key bs → last_write w.key (joined t w bs) ≡ Some (t, w.value)
joined_hit t w [] below = ap (λ o. option_or None (option_map (λ v. (t, v)) o)) (own_value w)
joined_hit t w (b ∷ later) below =
    by (nat_lt t b.timestamp) (t == b.timestamp) refl (joined_hit t w later below.1) (unwritten w.key (b ∷ later) (below_unwritten w.key (b ∷ later) below)) (unwritten w.key later (below_unwritten w.key later below.1))
    (no_value w.key b.writes (below_unwritten_in w.key b.writes below.0))
  where
    by : (x y : Bool) → (t == b.timestamp) ≡ y → last_write w.key (joined t w later) ≡ Some (t, w.value) → last_write w.key (b ∷ later) ≡ None → last_write w.key later ≡ None → value_in w.key b.writes ≡ None
        → last_write w.key (if x then one t w ∷ b ∷ later else if y then with_more w b ∷ later else b ∷ joined t w later) ≡ Some (t, w.value)
    by true y e r n l v = ap (λ o. option_or o (option_map (λ u. (t, u)) (value_in w.key (w ∷ [])))) n ∙ ap (λ o. option_or None (option_map (λ u. (t, u)) o)) (own_value w)
    by false true e r n l v =
        let at : b.timestamp ≡ t = grind (arith, nat_tests, e) in
        ap (λ o. option_or o (option_map (λ u. (b.timestamp, u)) (value_in w.key (b.writes ++ w ∷ [])))) l
        ∙ (ap (λ o. option_or None (option_map (λ u. (b.timestamp, u)) o)) (value_more w.key w b.writes ∙ (ap (λ o. option_or o (value_in w.key (w ∷ []))) v ∙ own_value w))
        ∙ ap (λ u. Some (u, w.value)) at)
    by false false e r n l v = ap (λ o. option_or o (option_map (λ u. (b.timestamp, u)) (value_in w.key b.writes))) r
