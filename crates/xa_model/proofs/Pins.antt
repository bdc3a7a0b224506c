-- Answered reads stay right: no later write falls between the source of one and its reader.
use Rattle.std.proofs.Common.{◌≡◌, ◌⊎◌, inl, inr, ℕ, ◌+◌, ◌^◌, ◌<◌, ◌≤◌, Bool, true, false, cond, List, [], ◌∷◌, Option, Some, None, refl, sym, ◌∙◌, ap, subst, arith}
use Rattle.std.specs.Prelude.{is_some, find}
use Rattle.std.specs.List.{AllByRecursion}
use Rattle.xa_model.specs.Ranges.{holds}
use Rattle.xa_model.specs.Data.{value_among}
use Rattle.xa_model.specs.State.{Branch, Operation, Got, Walked, Wrote, is_committed, is_working, timestamp_of, change}
use Rattle.xa_model.specs.Source.{write_of, is_late}
use Rattle.xa_model.specs.Invariants.Sound.{Descends}
use Rattle.xa_model.proofs.Inserts.{all_imply, all_both}
use Rattle.xa_model.proofs.Moves.{Core, GoesOn, Remain, none, goes, stays}

-- some member has P
abbrev pub Has : {A : Type 0} → (A → Type 0) → List A → Type 0
Has P [] = ⊥
Has P (x ∷ xs) = P x ⊎ Has P xs

abbrev pub IsSource : List ℕ → Option (List ℕ) → ℕ → Branch → Type 0
IsSource key answer from b = (b.timestamp ≡ from) × (is_committed b.phase ≡ true) × (write_of key b.operations ≡ Some answer)

-- it has written nothing, or stands outside
abbrev pub IsOutside : ℕ → List ℕ → ℕ → Branch → Type 0
IsOutside t key from b = is_some (write_of key b.operations) ≡ true → (b.timestamp ≤ from) ⊎ (t ≤ b.timestamp)

-- the read has a committed source below its reader, and no branch in between has written the key
pub record IsRight (bs : List Branch) (t : ℕ) (key : List ℕ) (answer : Option (List ℕ)) (from : ℕ) : Type 0 where
  pub earlier : from < t
  pub source : ((from ≡ 0) × (answer ≡ None)) ⊎ Has (IsSource key answer from) bs
  pub none_between : AllByRecursion (IsOutside t key from) bs

-- and none will: its write would be late, or its branch isn't above the floor
pub record IsPinned (floor : ℕ) (c : Core) (t : ℕ) (key : List ℕ) (answer : Option (List ℕ)) (from : ℕ) : Type 0 where
  pub right : IsRight c.branches t key answer from
  pub guarded : (u : ℕ) → from < u → u < t → (u ≤ floor) ⊎ (is_late key u c.reads ≡ true)

-- a read of a key saw its branch's own last write, or the branch had written nothing, and it is pinned
abbrev pub SettledAt : (List ℕ → Option (List ℕ) → ℕ → Type 0) → List ℕ → Option (List ℕ) → ℕ → List Operation → Type 0
SettledAt pin key answer from older = (write_of key older ≡ Some answer) ⊎ ((write_of key older ≡ None) × pin key answer from)

-- so did each get, and each walk of every key of its range
abbrev pub Settled : (List ℕ → Option (List ℕ) → ℕ → Type 0) → List Operation → Type 0
Settled pin [] = Unit {0}
Settled pin (Wrote key value ∷ older) = Settled pin older
Settled pin (Got key answer from ∷ older) = SettledAt pin key answer from older × Settled pin older
Settled pin (Walked range found ∷ older) =
    ((key : List ℕ) → holds range key ≡ true → (from : ℕ) × SettledAt pin key (value_among key found) from older) × Settled pin older

-- it isn't at work, or above this timestamp
abbrev pub WorksAbove : ℕ → Branch → Type 0
WorksAbove floor b = is_working b.phase ≡ true → floor < b.timestamp

abbrev pub ArePinned : ℕ → Core → List Branch → Type 0
ArePinned floor c bs = AllByRecursion (λ b. Settled (IsPinned floor c b.timestamp) b.operations) bs

-- All work is above some timestamp, from which on reads are kept: the 0th of the last boot that began without reads and
-- without branches at work.
pub record AreSettled (c : Core) : Type 0 where
  pub floor : ℕ
  pub low : floor ≤ timestamp_of c.boot 0
  pub work : AllByRecursion (WorksAbove floor) c.branches
  pub pins : ArePinned floor c c.branches

weaker_at : (p q : List ℕ → Option (List ℕ) → ℕ → Type 0) (key : List ℕ) (answer : Option (List ℕ)) (from : ℕ) (older : List Operation)
    → ((key : List ℕ) (answer : Option (List ℕ)) (from : ℕ) → p key answer from → q key answer from) → SettledAt p key answer from older
    → SettledAt q key answer from older
weaker_at p q key answer from older f (inl own) = inl own
weaker_at p q key answer from older f (inr pinned) = inr (pinned.0, f key answer from pinned.1)

pub settled_weaker : (p q : List ℕ → Option (List ℕ) → ℕ → Type 0) (ops : List Operation)
    → ((key : List ℕ) (answer : Option (List ℕ)) (from : ℕ) → p key answer from → q key answer from) → Settled p ops → Settled q ops
settled_weaker p q [] f h = tt
settled_weaker p q (Wrote key value ∷ older) f h = settled_weaker p q older f h
settled_weaker p q (Got key answer from ∷ older) f h = (weaker_at p q key answer from older f h.0, settled_weaker p q older f h.1)
settled_weaker p q (Walked range found ∷ older) f h = (
  λ key within. let there = h.0 key within in (there.0, weaker_at p q key (value_among key found) there.0 older f there.1),
  settled_weaker p q older f h.1,
)

-- lists

pub remain_all : (P Q : Branch → Type 0) → ((b c : Branch) → GoesOn b c → P b → Q c) → {bs cs : List Branch} → Remain bs cs → AllByRecursion P bs
    → AllByRecursion Q cs
remain_all P Q f none h = tt
remain_all P Q f (goes e r) h = remain_all P Q f r h.1
remain_all P Q f (stays g r) h = (f _ _ g h.0, remain_all P Q f r h.1)

remain_has : (P Q : Branch → Type 0) → ((b : Branch) → P b → is_committed b.phase ≡ false → ⊥) → ((b c : Branch) → GoesOn b c → P b → Q c)
    → {bs cs : List Branch} → Remain bs cs → Has P bs → Has Q cs
remain_has P Q n f none h = absurd h
remain_has P Q n f (goes e r) (inl p) = absurd (n _ p e)
remain_has P Q n f (goes e r) (inr h) = remain_has P Q n f r h
remain_has P Q n f (stays g r) (inl p) = inl (f _ _ g p)
remain_has P Q n f (stays g r) (inr h) = inr (remain_has P Q n f r h)

changed_has_by : (P : Branch → Type 0) (f : Branch → Branch) (b : Branch) (bs cs : List Branch) (q : Bool) → (q ≡ true → P b → P (f b))
    → P b ⊎ Has P bs
    → (Has P bs → Has P cs) → Has P (cond q (f b ∷ bs) (b ∷ cs))
changed_has_by P f b bs cs true g (inl p) rest = inl (g refl p)
changed_has_by P f b bs cs true g (inr h) rest = inr h
changed_has_by P f b bs cs false g (inl p) rest = inl p
changed_has_by P f b bs cs false g (inr h) rest = inr (rest h)

pub changed_has : (P : Branch → Type 0) (p : Branch → Bool) (f : Branch → Branch) → ((b : Branch) → p b ≡ true → P b → P (f b)) → (bs : List Branch)
    → Has P bs
    → Has P (change p f bs)
changed_has P p f g [] h = absurd h
changed_has P p f g (b ∷ bs) h = changed_has_by P f b bs (change p f bs) (p b) (g b) h (changed_has P p f g bs)

changed_all_by : (P Q : Branch → Type 0) (p : Branch → Bool) (f : Branch → Branch) → ((b : Branch) → P b → Q b)
    → (x b : Branch) (bs : List Branch) (q : Bool)
    → cond q (Some b) (find p bs) ≡ Some x → P b → AllByRecursion P bs → (P x → Q (f x)) → (find p bs ≡ Some x → AllByRecursion Q (change p f bs))
    → AllByRecursion Q (cond q (f b ∷ bs) (b ∷ change p f bs))
changed_all_by P Q p f g x b bs true e h all one rest =
    let is : b ≡ x = cc e in (subst (λ y. Q (f y)) (sym is) (one (subst P is h)), all_imply P Q g bs all)
changed_all_by P Q p f g x b bs false e h all one rest = (g b h, rest e)

-- what is found first is changed, and no other
pub changed_all : (P Q : Branch → Type 0) (p : Branch → Bool) (f : Branch → Branch) → ((b : Branch) → P b → Q b) → (x : Branch) (bs : List Branch)
    → find p bs ≡ Some x
    → AllByRecursion P bs → (P x → Q (f x)) → AllByRecursion Q (change p f bs)
changed_all P Q p f g x [] e all one = tt
changed_all P Q p f g x (b ∷ bs) e all one =
    changed_all_by P Q p f g x b bs (p b) e all.0 all.1 one (λ rest. changed_all P Q p f g x bs rest all.1 one)

-- branches that remain

remaining_right : {bs cs : List Branch} → Remain bs cs → (t : ℕ) (key : List ℕ) (answer : Option (List ℕ)) (from : ℕ) → IsRight bs t key answer from
    → IsRight cs t key answer from
remaining_right r t key answer from h = record {
  earlier = h.earlier;
  source = elim h.source [
    | inl zero ↦ inl zero
    | inr there ↦ inr (remain_has (IsSource key answer from) (IsSource key answer from) (λ b src e. cc (src.1, e)) moved r there)
  ];
  none_between = remain_all (IsOutside t key from) (IsOutside t key from) outside r h.none_between;
}
  where
    moved : (b c : Branch) → GoesOn b c → IsSource key answer from b → IsSource key answer from c
    moved b c g src = (g.timestamp ∙ src.0, g.committed src.1, ap (write_of key) g.operations ∙ src.2)

    outside : (b c : Branch) → GoesOn b c → IsOutside t key from b → IsOutside t key from c
    outside b c g h w =
        subst (λ (u : ℕ). (u ≤ from) ⊎ (t ≤ u)) (sym g.timestamp) (h (ap (λ ops. is_some (write_of key ops)) (sym g.operations) ∙ w))

-- of work that remains
pub remaining_work : (floor : ℕ) {bs cs : List Branch} → Remain bs cs → AllByRecursion (WorksAbove floor) bs → AllByRecursion (WorksAbove floor) cs
remaining_work floor r h =
    remain_all (WorksAbove floor) (WorksAbove floor)
    (λ b c g above works. subst (λ (t : ℕ). floor < t) (sym g.timestamp) (above (g.works works))) r h

settled_on : (low high : ℕ) (c d : Core) → {bs cs : List Branch} → Remain bs cs
    → ((b : Branch) → b.timestamp ≤ timestamp_of c.boot c.given → (key : List ℕ) (answer : Option (List ℕ)) (from : ℕ)
    → IsPinned low c b.timestamp key answer from → IsPinned high d b.timestamp key answer from)
    → AllByRecursion (λ b. (b.timestamp ≤ timestamp_of c.boot c.given) × Settled (IsPinned low c b.timestamp) b.operations) bs
    → ArePinned high d cs
settled_on low high c d r f h =
    remain_all (λ b. (b.timestamp ≤ timestamp_of c.boot c.given) × Settled (IsPinned low c b.timestamp) b.operations)
    (λ b. Settled (IsPinned high d b.timestamp) b.operations) moved r h
  where
    moved : (b e : Branch) → GoesOn b e → (b.timestamp ≤ timestamp_of c.boot c.given) × Settled (IsPinned low c b.timestamp) b.operations
        → Settled (IsPinned high d e.timestamp) e.operations
    moved b e g k =
        subst (λ (t : ℕ). Settled (IsPinned high d t) e.operations) (sym g.timestamp)
        (subst (Settled (IsPinned high d b.timestamp)) (sym g.operations)
        (settled_weaker (IsPinned low c b.timestamp) (IsPinned high d b.timestamp) b.operations (f b k.0) k.1))

-- what every state has
pub record IsOrdered (c : Core) : Type 0 where
  pub few : c.given < 2 ^ 32
  pub descends : Descends (timestamp_of c.boot c.given + 1) c.branches

pub below_limit : (limit : ℕ) (bs : List Branch) → Descends limit bs → AllByRecursion (λ b. b.timestamp < limit) bs
below_limit limit [] d = tt
below_limit limit (b ∷ bs) d = (
  d.1,
  all_imply (λ c. c.timestamp < b.timestamp) (λ c. c.timestamp < limit) (λ c less. omega (arith, less, d.1)) bs
      (below_limit b.timestamp bs d.2),
)

with_given : (floor : ℕ) (c : Core) → IsOrdered c → ArePinned floor c c.branches
    → AllByRecursion (λ b. (b.timestamp ≤ timestamp_of c.boot c.given) × Settled (IsPinned floor c b.timestamp) b.operations) c.branches
with_given floor c o h =
    all_both (λ b. b.timestamp < timestamp_of c.boot c.given + 1) (λ b. Settled (IsPinned floor c b.timestamp) b.operations)
    (λ b. (b.timestamp ≤ timestamp_of c.boot c.given) × Settled (IsPinned floor c b.timestamp) b.operations)
    (λ b less k. (omega (arith, less), k)) c.branches
    (below_limit (timestamp_of c.boot c.given + 1) c.branches o.descends) h

pub remains_settled : (c : Core) (bs : List Branch) → Remain c.branches bs → IsOrdered c → AreSettled c → AreSettled (record c { branches = bs })
remains_settled c bs r o h = record {
  floor = h.floor;
  low = h.low;
  work = remaining_work h.floor r h.work;
  pins =
      settled_on h.floor h.floor c (record c { branches = bs }) r
      (λ b given key answer from p. record { right = remaining_right r b.timestamp key answer from p.right; guarded = p.guarded })
      (with_given h.floor c o h.pins);
}

-- a boot that begins without work and reads: the floor is its own 0th
pub restarts_settled : (c : Core) (boot : ℕ) (bs : List Branch) → c.boot < boot → Remain c.branches bs
    → AllByRecursion (λ b. is_working b.phase ≡ false) bs → IsOrdered c → AreSettled c
    → AreSettled (record { boot = boot; given = 0; branches = bs; reads = [] })
restarts_settled c boot bs less r idle o h = record {
  floor = timestamp_of boot 0;
  low = omega arith;
  work = all_imply (λ (b : Branch). is_working b.phase ≡ false) (WorksAbove (timestamp_of boot 0)) (λ b still works. absurd (cc (still, works))) bs idle;
  pins =
      settled_on h.floor (timestamp_of boot 0) c (record { boot = boot; given = 0; branches = bs; reads = [] }) r
      (λ b given key answer from p. record {
        right = remaining_right r b.timestamp key answer from p.right;
        guarded = λ u above under. inl (older b.timestamp u given under);
      })
      (with_given h.floor c o h.pins);
}
  where
    older : (t u : ℕ) → t ≤ timestamp_of c.boot c.given → u < t → u ≤ timestamp_of boot 0
    older t u given under = omega (arith, given, under, less, o.few)

-- a boot that begins with both: the floor stays
pub trims_settled : (c : Core) (boot : ℕ) → c.boot < boot → AreSettled c → AreSettled (record c { boot = boot; given = 0 })
trims_settled c boot less h = record {
  floor = h.floor;
  low = omega (arith, h.low, less);
  work = h.work;
  pins =
      all_imply (λ x. Settled (IsPinned h.floor c x.timestamp) x.operations) (λ x. Settled (IsPinned h.floor d x.timestamp) x.operations)
      (λ x k. settled_weaker (IsPinned h.floor c x.timestamp) (IsPinned h.floor d x.timestamp) x.operations
      (λ key answer from p. record { right = p.right; guarded = p.guarded }) k) c.branches h.pins;
}
  where
    d : Core
    d = record c { boot = boot; given = 0 }

nothing_written : (key : List ℕ) (ops : List Operation) → ops ≡ [] → is_some (write_of key ops) ≡ true → ⊥
nothing_written key [] e w = cc w
nothing_written key (op ∷ ops) e w = cc e

-- a branch begins
pub begins_settled : (c : Core) (b : Branch) → b.operations ≡ [] → b.timestamp ≡ timestamp_of c.boot (c.given + 1) → AreSettled c
    → AreSettled (record c { given = c.given + 1; branches = b ∷ c.branches })
begins_settled c b e new h = record {
  floor = h.floor;
  low = h.low;
  work = ((λ works. omega (arith, h.low, new)), h.work);
  pins = (
    subst (Settled (IsPinned h.floor d b.timestamp)) (sym e) tt,
    all_imply (λ x. Settled (IsPinned h.floor c x.timestamp) x.operations) (λ x. Settled (IsPinned h.floor d x.timestamp) x.operations)
        (λ x k. settled_weaker (IsPinned h.floor c x.timestamp) (IsPinned h.floor d x.timestamp) x.operations (pinned x.timestamp) k) c.branches h.pins,
  );
}
  where
    d : Core
    d = record c { given = c.given + 1; branches = b ∷ c.branches }

    pinned : (t : ℕ) (key : List ℕ) (answer : Option (List ℕ)) (from : ℕ) → IsPinned h.floor c t key answer from → IsPinned h.floor d t key answer from
    pinned t key answer from p = record {
      right = record {
        earlier = p.right.earlier;
        source = elim p.right.source [ inl zero ↦ inl zero | inr there ↦ inr (inr there) ];
        none_between = (λ w. absurd (nothing_written key b.operations e w), p.right.none_between);
      };
      guarded = p.guarded;
    }
