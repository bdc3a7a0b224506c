-- What a step at one slot leaves of a chain, and of the slots that aren't the chain's.
use Rattle.std.proofs.Common.{◌≡◌, ◌≢◌, ℕ, zero, suc, ◌<◌, Bool, true, false, List, [], ◌∷◌, map, length, get_or, set, Option, None, Some, refl, sym, ap, ap₂, ◌∙◌, subst, arith}
use Rattle.std.specs.Prelude.{IsSome, is_some, option_map, ◌==◌, Result, Ok, Err, OnOk, OnErr}
use Rattle.std.proofs.lemmas.Bool.Decides.{nat_tests}
use Rattle.std.specs.List.{AllByRecursion as Each, insert, remove}
use Rattle.slab.specs.Slab.{Updates, SameValues}
use Rattle.mv_chain.specs.declared.version.Version.{Version}
use Rattle.mv_chain.specs.declared.pool.Pool.{Pool}
use Rattle.mv_chain.specs.Pool.{at, stored, version_at, shown_at, IsOutside, IsOnce, IsHeld, IsKeptAt, LeavesOthersAt, ChangesAt, IsKept, AreApart, LeavesOthers, IsAsBefore}
use Rattle.mv_chain.specs.declared.chain.Chain.{Chain}
use Rattle.mv_chain.specs.Chain.{IsChain}
use Rattle.mv_chain.specs.Slots.{IsPutIn}
use Rattle.mv_chain.proofs.Chains.{each_at, each_insert, each_remove}

-- slots at which nothing changes show what they showed
pub shown_same : (old new : Pool) (slots : List ℕ) → Each (λ s. at new s ≡ at old s) slots → shown_at new slots ≡ shown_at old slots
shown_same old new [] h = refl
shown_same old new (s ∷ rest) h = ap₂ (λ (x : Version) (xs : List Version). x ∷ xs) (ap stored h.0) (shown_same old new rest h.1)

pub shown_length : (pool : Pool) (slots : List ℕ) → length (shown_at pool slots) ≡ length slots
shown_length pool [] = refl
shown_length pool (s ∷ rest) = ap suc (shown_length pool rest)

pub shown_index : (pool : Pool) (slots : List ℕ) (i : ℕ) (d : ℕ) (w : Version) → i < length slots → get_or (shown_at pool slots) i w ≡ version_at pool (get_or slots i d)
shown_index pool [] i d w lt = absurd (omega arith)
shown_index pool (s ∷ rest) zero d w lt = refl
shown_index pool (s ∷ rest) (suc i) d w lt = shown_index pool rest i d w (omega arith)

each_mapped : {P Q : ℕ → Type 0} (xs : List ℕ) → ((x : ℕ) → P x → Q x) → Each P xs → Each Q xs
each_mapped [] f h = tt
each_mapped (x ∷ xs) f h = (f x h.0, each_mapped xs f h.1)

-- a slot with a version is not one without
present_apart : (old : Pool) (s slot : ℕ) → IsSome (at old s) → at old slot ≡ None → s ≡ slot → ⊥
present_apart old s slot some none same = absurd (cc (some, ap (λ x. is_some (at old x)) same, ap is_some none))

still : (old new : Pool) (s : ℕ) → IsSome (at old s) → at new s ≡ at old s → IsSome (at new s)
still old new s some same = ap is_some same ∙ some

-- one version has changed
value_changed : (f : Version → Version) (o : Option Version) → IsSome o → stored (option_map f o) ≡ f (stored o)
value_changed f None h = absurd (cc h)
value_changed f (Some v) h = refl

some_changed : (f : Version → Version) (o : Option Version) → IsSome o → IsSome (option_map f o)
some_changed f None h = absurd (cc h)
some_changed f (Some v) h = refl

pub changed_shown : (f : Version → Version) (old new : Pool) (slots : List ℕ) (i d : ℕ) (w : Version) → i < length slots → IsHeld old slots → ChangesAt f (get_or slots i d) old new → shown_at new slots ≡ set (shown_at old slots) i (f (get_or (shown_at old slots) i w))
changed_shown f old new [] i d w lt h c = absurd (omega arith)
changed_shown f old new (s ∷ rest) zero d w lt h c =
    ap₂ (λ (x : Version) (xs : List Version). x ∷ xs) (ap stored c.changed ∙ value_changed f (at old s) h.present.0)
    (shown_same old new rest (each_mapped rest (λ t ne. c.others t (λ e. ne (sym e))) h.once.0))
changed_shown f old new (s ∷ rest) (suc i) d w lt h c =
    ap₂ (λ (x : Version) (xs : List Version). x ∷ xs) (ap stored (c.others s (each_at (λ t. s ≢ t) rest i d (omega arith) h.once.0)))
    (changed_shown f old new rest i d w (omega arith) (record { present = h.present.1; once = h.once.1 }) c)

pub changed_held : (f : Version → Version) (old new : Pool) (slots : List ℕ) (slot : ℕ) → ChangesAt f slot old new → IsHeld old slots → IsHeld new slots
changed_held f old new slots slot c h = record { present = each slots h.present; once = h.once }
  where
    one : (s : ℕ) → IsSome (at old s) → IsSome (at new s)
    one s some = here (s == slot) refl
      where
        here : (x : Bool) → (s == slot) ≡ x → IsSome (at new s)
        here true e = let same : s ≡ slot = grind (arith, nat_tests, e) in subst (λ (t : ℕ). IsSome (at new t)) (sym same) (subst IsSome (sym c.changed) (some_changed f (at old slot) (subst (λ (t : ℕ). IsSome (at old t)) same some)))
        here false e = still old new s some (c.others s (λ same. grind (arith, nat_tests, e, same)))

    each : (xs : List ℕ) → Each (λ s. IsSome (at old s)) xs → Each (λ s. IsSome (at new s)) xs
    each [] a = tt
    each (x ∷ xs) a = (one x a.0, each xs a.1)

pub changed_leaves : (f : Version → Version) (old new : Pool) (slots : List ℕ) (i d : ℕ) → i < length slots → ChangesAt f (get_or slots i d) old new → LeavesOthersAt old slots new slots
changed_leaves f old new slots i d lt c =
    record {
      stays = λ s some out. c.others s (each_at (λ t. s ≢ t) slots i d lt out);
      apart = λ s some out. out;
    }

pub nothing_leaves : (pool : Pool) (slots : List ℕ) → LeavesOthersAt pool slots pool slots
nothing_leaves pool slots = record { stays = λ s some out. refl; apart = λ s some out. out }

pub leaves_then : (old mid new : Pool) (a b c : List ℕ) → LeavesOthersAt old a mid b → LeavesOthersAt mid b new c → LeavesOthersAt old a new c
leaves_then old mid new a b c l m =
    record {
      stays = λ s some out. m.stays s (still old mid s some (l.stays s some out)) (l.apart s some out) ∙ l.stays s some out;
      apart = λ s some out. m.apart s (still old mid s some (l.stays s some out)) (l.apart s some out);
    }

-- a version was put in
map_insert : (f : ℕ → Version) (xs : List ℕ) (i x : ℕ) → map f (insert xs i x) ≡ insert (map f xs) i (f x)
map_insert f xs zero x = refl
map_insert f [] (suc i) x = refl
map_insert f (y ∷ ys) (suc i) x = ap (λ zs. f y ∷ zs) (map_insert f ys i x)

map_remove : (f : ℕ → Version) (xs : List ℕ) (i : ℕ) → map f (remove xs i) ≡ remove (map f xs) i
map_remove f [] zero = refl
map_remove f [] (suc i) = refl
map_remove f (y ∷ ys) zero = refl
map_remove f (y ∷ ys) (suc i) = ap (λ zs. f y ∷ zs) (map_remove f ys i)

once_insert : (xs : List ℕ) (i x : ℕ) → Each (λ y. y ≢ x) xs → IsOnce xs → IsOnce (insert xs i x)
once_insert xs zero x out o = (each_mapped xs (λ y ne e. ne (sym e)) out, o)
once_insert [] (suc i) x out o = (tt, tt)
once_insert (y ∷ ys) (suc i) x out o = (each_insert (λ z. y ≢ z) ys i x out.0 o.0, once_insert ys i x out.1 o.1)

once_remove : (xs : List ℕ) (i : ℕ) → IsOnce xs → IsOnce (remove xs i)
once_remove [] zero o = tt
once_remove [] (suc i) o = tt
once_remove (y ∷ ys) zero o = o.1
once_remove (y ∷ ys) (suc i) o = (each_remove (λ z. y ≢ z) ys i o.0, once_remove ys i o.1)

pub put_in_shown : (i : ℕ) (v : Version) (old new : Pool) (slots left : List ℕ) → IsHeld old slots → IsPutIn i v old slots new left → shown_at new left ≡ insert (shown_at old slots) i v
put_in_shown i v old new slots left h (slot, is, vacant, u) =
    ap (shown_at new) is ∙ (map_insert (version_at new) slots i slot
    ∙ ap₂ (λ (xs : List Version) (x : Version). insert xs i x)
    (shown_same old new slots (each_mapped slots (λ s some. u.others s (present_apart old s slot some vacant)) h.present)) (ap stored u.changed))

pub put_in_held : (i : ℕ) (v : Version) (old new : Pool) (slots left : List ℕ) → IsHeld old slots → IsPutIn i v old slots new left → IsHeld new left
put_in_held i v old new slots left h (slot, is, vacant, u) =
    subst (IsHeld new) (sym is) (record {
      present = each_insert (λ s. IsSome (at new s)) slots i slot (ap is_some u.changed)
          (each_mapped slots (λ s some. still old new s some (u.others s (present_apart old s slot some vacant))) h.present);
      once = once_insert slots i slot (each_mapped slots (λ s some. present_apart old s slot some vacant) h.present) h.once;
    })

pub put_in_leaves : (i : ℕ) (v : Version) (old new : Pool) (slots left : List ℕ) → IsPutIn i v old slots new left → LeavesOthersAt old slots new left
put_in_leaves i v old new slots left (slot, is, vacant, u) =
    record {
      stays = λ s some out. u.others s (present_apart old s slot some vacant);
      apart = λ s some out. subst (λ (xs : List ℕ). IsOutside s xs) (sym is) (each_insert (λ t. s ≢ t) slots i slot (present_apart old s slot some vacant) out);
    }

-- a version was taken out
out_of : (s : ℕ) (xs : List ℕ) (i d : ℕ) → IsOnce xs → i < length xs → Each (λ y. y ≢ get_or xs i d) (remove xs i)
out_of s [] i d o lt = absurd (omega arith)
out_of s (y ∷ ys) zero d o lt = each_mapped ys (λ z ne e. ne (sym e)) o.0
out_of s (y ∷ ys) (suc i) d o lt = (each_at (λ z. y ≢ z) ys i d (omega arith) o.0, out_of s ys i d o.1 (omega arith))

both : {P Q R : ℕ → Type 0} (xs : List ℕ) → ((x : ℕ) → P x → Q x → R x) → Each P xs → Each Q xs → Each R xs
both [] f g h = tt
both (x ∷ xs) f g h = (f x g.0 h.0, both xs f g.1 h.1)

pub taken_out_shown : (old new : Pool) (slots : List ℕ) (i d : ℕ) → i < length slots → IsHeld old slots → Updates old.slab new.slab (get_or slots i d) None → shown_at new (remove slots i) ≡ remove (shown_at old slots) i
taken_out_shown old new slots i d lt h u =
    shown_same old new (remove slots i) (each_mapped (remove slots i) (λ s ne. u.others s ne) (out_of i slots i d h.once lt)) ∙ map_remove (version_at old) slots i

pub taken_out_held : (old new : Pool) (slots : List ℕ) (i d : ℕ) → i < length slots → IsHeld old slots → Updates old.slab new.slab (get_or slots i d) None → IsHeld new (remove slots i)
taken_out_held old new slots i d lt h u =
    record {
      present = both (remove slots i) (λ s some ne. still old new s some (u.others s ne)) (each_remove (λ s. IsSome (at old s)) slots i h.present) (out_of i slots i d h.once lt);
      once = once_remove slots i h.once;
    }

pub taken_out_leaves : (old new : Pool) (slots : List ℕ) (i d : ℕ) → i < length slots → Updates old.slab new.slab (get_or slots i d) None → LeavesOthersAt old slots new (remove slots i)
taken_out_leaves old new slots i d lt u =
    record {
      stays = λ s some out. u.others s (each_at (λ t. s ≢ t) slots i d lt out);
      apart = λ s some out. each_remove (λ t. s ≢ t) slots i out;
    }

-- the pool has grown
pub grown_shown : (old new : Pool) (slots : List ℕ) → SameValues old.slab new.slab → shown_at new slots ≡ shown_at old slots
grown_shown old new slots same = shown_same old new slots (each slots)
  where
    each : (xs : List ℕ) → Each (λ s. at new s ≡ at old s) xs
    each [] = tt
    each (x ∷ xs) = (same x, each xs)

pub grown_held : (old new : Pool) (slots : List ℕ) → SameValues old.slab new.slab → IsHeld old slots → IsHeld new slots
grown_held old new slots same h = record { present = each_mapped slots (λ s some. still old new s some (same s)) h.present; once = h.once }

pub grown_leaves : (old new : Pool) (slots : List ℕ) → SameValues old.slab new.slab → LeavesOthersAt old slots new slots
grown_leaves old new slots same = record { stays = λ s some out. same s; apart = λ s some out. out }

-- either way that a call may end
pub then_ok : {X E : Type 0} {P G : Type 0} (r : Result X E) → OnOk r P → (P → G) → OnOk r G
then_ok (Ok x) done f = f done
then_ok (Err e) done f = tt

pub on_err : {X E G : Type 0} (r : Result X E) → G → OnErr r G
on_err (Ok x) g = tt
on_err (Err e) g = g

pub by_result : {X E : Type 0} {P Q R G : Type 0} (r : Result X E) → OnOk r P → OnErr r Q → OnErr r R → (P → G) → (Q → R → G) → G
by_result (Ok x) done q s f g = f done
by_result (Err e) done q s f g = g q s

-- slots that are none of mine
abbrev pub AreOutside : List ℕ → List ℕ → Type 0
AreOutside slots mine = Each (λ slot. IsOutside slot mine) slots

-- what the slots of another chain have after a call
pub record Stays (old new : Pool) (slots left : List ℕ) : Type 0 where
  pub shown : shown_at new slots ≡ shown_at old slots
  pub kept : IsKeptAt new slots
  pub apart : AreOutside slots left

-- another chain stays as it was
pub stays_at : (old new : Pool) (mine left slots : List ℕ) → LeavesOthersAt old mine new left → IsKeptAt old slots → AreOutside slots mine → Stays old new slots left
stays_at old new mine left slots l k apart =
    record {
      shown = same;
      kept = record { held = record { present = both slots (λ s some out. still old new s some (l.stays s some out)) k.held.present apart; once = k.held.once }; chain = subst IsChain (sym same) k.chain };
      apart = both slots (λ s some out. l.apart s some out) k.held.present apart;
    }
  where
    same : shown_at new slots ≡ shown_at old slots
    same = shown_same old new slots (both slots (λ s some out. l.stays s some out) k.held.present apart)

pub other_stays : (old new : Pool) (mine left other : Chain) → LeavesOthers old mine new left → IsKept old other → AreApart other mine → IsAsBefore old other new left
other_stays old new mine left other l k apart =
    let s = stays_at old new mine.slots.items left.slots.items other.slots.items l k apart in
    record { versions = s.shown; kept = s.kept; apart = s.apart }
