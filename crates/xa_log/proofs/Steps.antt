-- A checkpoint's records, one more at a time.
use Rattle.std.proofs.Common.{◌≡◌, ℕ, zero, suc, ◌+◌, ◌-◌, ◌≤◌, ◌<◌, List, [], ◌∷◌, ◌++◌, length, take, drop, replicate, get_or, refl, sym, ◌∙◌, ap, subst, arith, append_assoc, length-append, length-drop, ⊎_elim, inl, inr, Vec, Global}
use Rattle.std.specs.List.{AllByRecursion}
use Rattle.std.proofs.Math.Seq.{drop-append-add}
use Rattle.std.proofs.lemmas.List.{append-nil, drop-append-le, drop-drop, length-take-le, take_more, take-map, map-append, take_all, length-take, get_or-take, take_at, replicate-append-replicate}
use Rattle.xa_disk.specs.Disk.{put, Torn, Passes}
use Rattle.xa_log.specs.declared.format.Format.{Format}
use Rattle.xa_log.specs.Buffer.{EachFits}
use Rattle.xa_log.specs.Believed.Chain.{start, last, text, records, record_of, digest, IsBody}
use Rattle.xa_log.specs.Reading.{bodies_of}
use Rattle.xa_log.specs.Believed.Checkpoint.{records_bytes, tailed, first_length}
use Rattle.xa_log.proofs.Records.{records_more, text_more, last_more, length-record_of, length-text}
use Rattle.xa_log.proofs.Torn.{put_within, torn_then, then}

-- one write after another is one write of both
pub put_put : (old : List ℕ) (at : ℕ) (a b : List ℕ) → at ≤ length old → put (put old at a) (at + length a) b ≡ put old at (a ++ b)
put_put old at a b le =
    let n : length (take at old ++ a) ≡ at + length a = omega (arith, length-append (take at old) a, length-take-le at old le) in
    let mid : put old at a ≡ (take at old ++ a) ++ drop (at + length a) old = put_within old at a le in
    let long : at + length a ≤ length (put old at a) =
    omega (arith, ap (λ (l : List ℕ). length l) mid, length-append (take at old ++ a) (drop (at + length a) old), n) in
    let k : length (take at old ++ a) + length b ≡ at + length a + length b = omega (arith, n) in
    let j : at + length a + length b ≡ at + length (a ++ b) = omega (arith, length-append a b) in
    put_within (put old at a) (at + length a) b long
    ∙ ap (λ (l : List ℕ). take (at + length a) l ++ b ++ drop (at + length a + length b) l) mid
    ∙ (λ i. take_at (take at old ++ a) (drop (at + length a) old) (at + length a) n i ++ b
    ++ (ap (λ (x : ℕ). drop x ((take at old ++ a) ++ drop (at + length a) old)) (sym k) ∙ drop-append-add (take at old ++ a)
    (drop (at + length a) old) (length b) ∙ drop-drop (length b) (at + length a) old) i)
    ∙ ap (λ (l : List ℕ). l ++ drop (at + length a + length b) old) (append_assoc (take at old) a b)
    ∙ ap (λ (x : ℕ). take at old ++ (a ++ b) ++ drop x old) j
    ∙ sym (put_within old at (a ++ b) le)

-- zeros after the closing length go on with it
pub zeros_more : (more : ℕ) → replicate {A = ℕ} (4 + more) 0 ≡ (0 ∷ 0 ∷ 0 ∷ 0 ∷ []) ++ replicate {A = ℕ} more 0
zeros_more more = sym (replicate-append-replicate {A = ℕ} 4 more 0)

pub step_seen : (format : Format) (done : List (List ℕ)) (body old a b : List ℕ) (at zeros : ℕ) → 12 ≤ length old → at ≡ length (text format done)
    → a ≡ put old 12 (drop 4 (records (start format) done))
    → b ≡ put a (at + (12 - at)) (drop (12 - at) (tailed (last (start format) done) body zeros))
    → b ≡ put old 12 (drop 4 (records (start format) (done ++ body ∷ [])) ++ replicate zeros 0)
step_seen format [] body old a b at zeros long here first then =
    let z : List ℕ = replicate zeros 0 in
    let r : List ℕ = record_of (start format) body in
    let here8 : at ≡ 8 = omega (arith, here, length-text format []) in
    let p : at + (12 - at) ≡ 12 + 0 = omega (arith, here8) in
    let s : 12 - at ≡ 4 = omega (arith, here8) in
    then
    ∙ (λ i. put (first i) (p i) (drop (s i) (r ++ z)))
    ∙ put_put old 12 [] (drop 4 (r ++ z)) long
    ∙ ap (λ (l : List ℕ). put old 12 l) (drop-append-le 4 r z (omega (arith, length-record_of (start format) body)) ∙ ap (λ (l : List ℕ). drop 4 l ++ z) (sym (append-nil r)))
step_seen format (d ∷ ds) body old a b at zeros long here first then =
    let done : List (List ℕ) = d ∷ ds in
    let z : List ℕ = replicate zeros 0 in
    let R : List ℕ = records (start format) (d ∷ ds) in
    let r : List ℕ = record_of (last (start format) (d ∷ ds)) body in
    let far : 36 ≤ length R =
    omega (arith, length-append (record_of (start format) d) (records (digest (start format) d) ds), length-record_of (start format) d) in
    let p : at + (12 - at) ≡ 12 + length (drop 4 R) = omega (arith, here, length-text format (d ∷ ds), length-drop 4 R, far) in
    let s : 12 - at ≡ 0 = omega (arith, here, length-text format (d ∷ ds), far) in
    then
    ∙ (λ i. put (first i) (p i) (drop (s i) (r ++ z)))
    ∙ put_put old 12 (drop 4 R) (r ++ z) long
    ∙ ap (λ (l : List ℕ). put old 12 l)
    (sym (append_assoc (drop 4 R) r z)
    ∙ ap (λ (l : List ℕ). l ++ z) (sym (drop-append-le 4 R r (omega (arith, far))) ∙ ap (λ (l : List ℕ). drop 4 l) (sym (records_more (start format) (d ∷ ds) body))))

pub prefix : (i : ℕ) (p : List ℕ) (bodies : List (List ℕ)) → length (records p (take i bodies)) ≤ length (records p bodies)
prefix zero p bodies = omega arith
prefix (suc i) p [] = omega arith
prefix (suc i) p (b ∷ bodies) = omega (
  arith,
  prefix i (digest p b) bodies,
  length-append (record_of p b) (records (digest p b) bodies),
  length-append
      (record_of p b) (records (digest p b) (take i bodies)),
)

pub wider : (p m q n : ℕ) (a b : List ℕ) → q ≤ p → p + m ≤ q + n → Torn p m a b → Torn q n a b
wider p m q n a b low high t = record {
  no_shorter = t.no_shorter;
  no_longer = omega (arith, t.no_longer);
  below = λ i lt h. t.below i lt (omega (arith, h, low));
  above = λ i lt h. t.above i lt (omega (arith, h, high));
}

pub weaker : (s r : List ℕ → List ℕ → Type 0) → ((a b : List ℕ) → s a b → r a b)
    → (m n : ℕ) (past since : ℕ → List ℕ → Type 0) (old new : List ℕ → Type 0) → Passes s m n past since old new → Passes r m n past since old new
weaker s r f m n past since old new p = record {
  later = p.later;
  follows = λ c now. let x = p.follows c now in (x.0, x.1, f x.0 c x.2);
  nothing_else = λ t c le left. ⊎_elim (λ was. inl was) (λ x. inr (x.0, x.1, f x.0 c x.2)) (p.nothing_else t c le left);
  keeps = p.keeps;
}

pub all_at : (P : List ℕ → Type 0) (bodies : List (List ℕ)) (i : ℕ) (d : List ℕ) → i < length bodies → AllByRecursion P bodies → P (get_or bodies i d)
all_at P [] i d lt all = absurd (omega arith)
all_at P (b ∷ bodies) zero d lt all = all.0
all_at P (b ∷ bodies) (suc i) d lt all = all_at P bodies i d (omega arith) all.1

-- the next body of those that are written
pub next_body : (bodies : List (Vec ℕ Global)) (i : ℕ) (v : Vec ℕ Global) → i < length bodies → v ≡ get_or bodies i v
    → take (i + 1) (bodies_of bodies) ≡ take i (bodies_of bodies) ++ v.items ∷ []
next_body bodies i v lt is =
    let items : Vec ℕ Global → List ℕ = λ b. b.items in
    take-map items (i + 1) bodies
    ∙ ap (λ (l : List (Vec ℕ Global)). bodies_of l) (take_more bodies i v lt ∙ ap (λ (x : Vec ℕ Global). take i bodies ++ x ∷ []) (sym is))
    ∙ map-append items (take i bodies) (v ∷ [])
    ∙ ap (λ (l : List (List ℕ)). l ++ v.items ∷ []) (sym (take-map items i bodies))

-- what holds of each holds of it
pub body_ok : (P : List ℕ → Type 0) (bodies : List (Vec ℕ Global)) (i : ℕ) (v : Vec ℕ Global) → i < length bodies → v ≡ get_or bodies i v
    → AllByRecursion P (bodies_of bodies) → P v.items
body_ok P (b ∷ bodies) zero v lt is all = subst (λ (x : Vec ℕ Global). P x.items) (sym is) all.0
body_ok P (b ∷ bodies) (suc i) v lt is all = body_ok P bodies i v (omega arith) is all.1
body_ok P [] i v lt is all = absurd (omega arith)

-- The same of bodies that several have.

next_of : (bodies : List (List ℕ)) (i : ℕ) (v : List ℕ) → i < length bodies → v ≡ get_or bodies i v
    → take (i + 1) bodies ≡ take i bodies ++ v ∷ []
next_of bodies i v lt is = take_more bodies i v lt ∙ ap (λ (x : List ℕ). take i bodies ++ x ∷ []) (sym is)

ok_at : (P : List ℕ → Type 0) (bodies : List (List ℕ)) (i : ℕ) (v : List ℕ) → i < length bodies → v ≡ get_or bodies i v
    → AllByRecursion P bodies → P v
ok_at P (b ∷ bodies) zero v lt is all = subst (λ (x : List ℕ). P x) (sym is) all.0
ok_at P (b ∷ bodies) (suc i) v lt is all = ok_at P bodies i v (omega arith) is all.1
ok_at P [] i v lt is all = absurd (omega arith)

-- a body of those that fit fits
pub room_in : (room : ℕ) (bodies : List (List ℕ)) (n i : ℕ) (v : List ℕ) (body : List ℕ) → i < length (take n bodies) → v ≡ get_or (take n bodies) i v → body ≡ v
    → EachFits room bodies → 41 + length body ≤ room
room_in room bodies n i v body lt is same all =
    let few : i < n = omega (arith, lt, length-take n bodies) in
    subst (λ (b : List ℕ). 41 + length b ≤ room) (sym same)
    (ok_at (λ b. 41 + length b ≤ room) bodies i v (omega (arith, lt, length-take n bodies)) (is ∙ get_or-take n bodies i v few) all)

pub room_last : (room : ℕ) (bodies : List (List ℕ)) (v : List ℕ) (body : List ℕ) → 1 ≤ length bodies → v ≡ get_or bodies (length bodies - 1) v → body ≡ v
    → EachFits room bodies → 41 + length body ≤ room
room_last room bodies v body some is same all =
    subst (λ (b : List ℕ). 41 + length b ≤ room) (sym same) (ok_at (λ b. 41 + length b ≤ room) bodies (length bodies - 1) v (omega (arith, some)) is all)

-- where one record more fits
pub record Next (format : Format) (bodies : List (List ℕ)) (done : List (List ℕ)) (body : List ℕ) (at : ℕ) : Type 0 where
  pub more : at + (36 + length body) ≡ length (text format (done ++ body ∷ []))
  pub within : at + (36 + length body) ≤ 8 + length (records (start format) bodies)
  pub from : 8 ≤ at

pub next : (format : Format) (bodies : List (List ℕ)) (i : ℕ) (body : List ℕ) (at : ℕ) → take (i + 1) bodies ≡ take i bodies ++ body ∷ []
    → at ≡ length (text format (take i bodies)) → Next format bodies (take i bodies) body at
next format bodies i body at is here =
    let done = take i bodies in
    let more : at + (36 + length body) ≡ length (text format (done ++ body ∷ [])) =
    omega (
      arith,
      here,
      ap (λ (l : List ℕ). length l) (text_more format done body),
      length-append (text format done)
          (record_of (last (start format) done) body),
      length-record_of (last (start format) done) body,
    ) in
    let below : length (records (start format) (done ++ body ∷ [])) ≤ length (records (start format) bodies) =
    subst (λ (l : List (List ℕ)). length (records (start format) l) ≤ length (records (start format) bodies)) is (prefix (i + 1) (start format) bodies) in
    record {
      more = more;
      within = omega (arith, more, below, length-text format (done ++ body ∷ []));
      from = omega (arith, here, length-text format done);
    }

-- one body of those that are written
pub record Item (format : Format) (bodies : List (List ℕ)) (i : ℕ) (body : List ℕ) (at : ℕ) : Type 0 where
  pub is : take (i + 1) bodies ≡ take i bodies ++ body ∷ []
  pub ok : IsBody format body
  pub offset : Next format bodies (take i bodies) body at

pub item : (format : Format) (bodies : List (List ℕ)) (i : ℕ) (v : List ℕ) (body : List ℕ) (at : ℕ) → i < length bodies
    → v ≡ get_or bodies i v → body ≡ v → AllByRecursion (IsBody format) bodies → at ≡ length (text format (take i bodies))
    → Item format bodies i body at
item format bodies i v body at lt is same all here =
    let n : take (i + 1) bodies ≡ take i bodies ++ body ∷ [] =
    next_of bodies i v lt is ∙ ap (λ (l : List ℕ). take i bodies ++ l ∷ []) (sym same) in
    record { is = n; ok = subst (IsBody format) (sym same) (ok_at (IsBody format) bodies i v lt is all); offset = next format bodies i body at n here }

pub item_in : (format : Format) (bodies : List (List ℕ)) (n i : ℕ) (v : List ℕ) (body : List ℕ) (at : ℕ) → i < length (take n bodies)
    → v ≡ get_or (take n bodies) i v → body ≡ v → AllByRecursion (IsBody format) bodies
    → at ≡ length (text format (take i bodies)) → Item format bodies i body at
item_in format bodies n i v body at lt is same all here =
    let few : i < n = omega (arith, lt, length-take n bodies) in
    item format bodies i v body at (omega (arith, lt, length-take n bodies)) (is ∙ get_or-take n bodies i v few) same all here

pub item_last : (format : Format) (bodies : List (List ℕ)) (i : ℕ) (v : List ℕ) (body : List ℕ) (at : ℕ) → 1 ≤ length bodies
    → length (take (length bodies - 1) bodies) ≤ i → i ≤ length (take (length bodies - 1) bodies) → v ≡ get_or bodies (length bodies - 1) v
    → body ≡ v
    → AllByRecursion (IsBody format) bodies → at ≡ length (text format (take i bodies)) → Item format bodies i body at
item_last format bodies i v body at some low high is same all here =
    let n : length bodies - 1 ≡ i = omega (arith, low, high, length-take (length bodies - 1) bodies) in
    item format bodies i v body at (omega (arith, n, some)) (is ∙ ap (λ (k : ℕ). get_or bodies k v) n) same all here

-- a write of one record, with this many zeros after it, within what all of them take
module _ (format : Format) (bodies : List (List ℕ)) (i : ℕ) (body : List ℕ) (at zeros more : ℕ) (few : zeros ≤ 4 + more) (it : Item format bodies i body at) where
  abbrev Writes : List ℕ → List ℕ → Type 0
  Writes a b = Torn (at + (12 - at)) (36 + length body + zeros - (12 - at)) a b

  inside : (a b : List ℕ) → Writes a b → Torn 12 (records_bytes format bodies + more) a b
  inside a b t =
      wider (at + (12 - at)) (36 + length body + zeros - (12 - at)) 12 (records_bytes format bodies + more) a b
      (omega (arith, it.offset.from)) (omega (arith, it.offset.within, it.offset.from, few)) t

  pub torn_step : (old a b : List ℕ) → Torn 12 (records_bytes format bodies + more) old a → Writes a b → Torn 12 (records_bytes format bodies + more) old b
  torn_step old a b so t = torn_then 12 (records_bytes format bodies + more) old a b so (inside a b t)

  pub time_step : (l m n : ℕ) (s0 s1 s2 : ℕ → List ℕ → Type 0) (m0 m1 m2 : List ℕ → Type 0) → Passes (Torn 12 (records_bytes format bodies + more)) l m s0 s1 m0 m1
      → Passes Writes m n s1 s2 m1 m2
      → Passes (Torn 12 (records_bytes format bodies + more)) l n s0 s2 m0 m2
  time_step l m n s0 s1 s2 m0 m1 m2 so now =
      then (Torn 12 (records_bytes format bodies + more)) (torn_then 12 (records_bytes format bodies + more)) l m n s0 s1 s2 m0 m1 m2 so
      (weaker Writes (Torn 12 (records_bytes format bodies + more)) inside m n s1 s2 m1 m2 now)

-- the records written so far and one more, with zeros after it
pub seen_step : (format : Format) (bodies : List (List ℕ)) (i : ℕ) (body d : List ℕ) (at zeros : ℕ) (it : Item format bodies i body at)
    (old a b : List ℕ) → 12 ≤ length old → at ≡ length (text format (take i bodies))
    → d ≡ last (start format) (take i bodies) → a ≡ put old 12 (drop 4 (records (start format) (take i bodies)))
    → b ≡ put a (at + (12 - at)) (drop (12 - at) (tailed d body zeros))
    → b ≡ put old 12 (drop 4 (records (start format) (take (i + 1) bodies)) ++ replicate zeros 0)
seen_step format bodies i body d at zeros it old a b long here digest_is so now =
    step_seen format (take i bodies) body old a b at zeros long here so
    (now ∙ ap (λ (x : List ℕ). put a (at + (12 - at)) (drop (12 - at) (tailed x body zeros))) digest_is)
    ∙ ap (λ (l : List (List ℕ)). put old 12 (drop 4 (records (start format) l) ++ replicate zeros 0)) (sym it.is)

pub digest_step : (format : Format) (bodies : List (List ℕ)) (i : ℕ) (body d : List ℕ) (at : ℕ) (it : Item format bodies i body at)
    → d ≡ last (start format) (take i bodies) → digest d body ≡ last (start format) (take (i + 1) bodies)
digest_step format bodies i body d at it digest_is =
    ap (λ (x : List ℕ). digest x body) digest_is ∙ sym (last_more (start format) (take i bodies) body)
    ∙ ap (λ (l : List (List ℕ)). last (start format) l) (sym it.is)

pub end_step : (format : Format) (bodies : List (List ℕ)) (i : ℕ) (body : List ℕ) (at : ℕ) (it : Item format bodies i body at)
    → at + (36 + length body) ≡ length (text format (take (i + 1) bodies))
end_step format bodies i body at it = it.offset.more ∙ ap (λ (l : List (List ℕ)). length (text format l)) (sym it.is)

-- the last of them
pub last_all : (bodies : List (List ℕ)) (i : ℕ) → 1 ≤ length bodies → length (take (length bodies - 1) bodies) ≤ i
    → i ≤ length (take (length bodies - 1) bodies) → take (i + 1) bodies ≡ bodies
last_all bodies i some low high = take_all (i + 1) bodies
    (omega (arith, low, some, length-take (length bodies - 1) bodies))

pub first_len : (bodies : List (List ℕ)) (v : List ℕ) → 1 ≤ length bodies → v ≡ get_or bodies 0 v
    → first_length bodies ≡ length v
first_len [] v some is = absurd (omega arith)
first_len (b ∷ bodies) v some is = ap (λ (x : List ℕ). length x) (sym is)

-- one body less that fits
pub longer : (format : Format) (bodies : List (List ℕ)) (i : ℕ) (v : List ℕ) → i < length bodies → v ≡ get_or bodies i v
    → Next format bodies (take i bodies) v
    (length (text format (take i bodies))) ×
    (length (text format (take (i + 1) bodies)) ≡ length (text format (take i bodies)) + (36 + length v))
longer format bodies i v lt is =
    let n = next_of bodies i v lt is in
    let it : Next format bodies (take i bodies) v (length (text format (take i bodies))) =
    next format bodies i v (length (text format (take i bodies))) n refl in
    (it, ap (λ (l : List (List ℕ)). length (text format l)) n ∙ sym it.more)
