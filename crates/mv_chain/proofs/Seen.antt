-- What is seen after a change of the writes.
use Rattle.std.proofs.Common.{◌≡◌, ℕ, ◌<◌, ◌≤◌, Bool, true, false, not, ◌||◌, ◌&&◌, List, [], ◌∷◌, Option, None, Some, refl, sym, ap, ◌∙◌, inl, inr, ◌⊎◌, arith}
use Rattle.std.specs.Prelude.{if◌then◌else◌, bytes_eq, nat_le, ◌==◌}
use Rattle.std.specs.List.{AllByRecursion as Each}
use Rattle.std.proofs.lemmas.Bool.Decides.{nat_tests}
use Rattle.mv_chain.specs.declared.fate.Fate.{Fate}
use Rattle.mv_chain.specs.declared.fate.Fate.TheVariants.{Committed, RolledBack}
use Rattle.mv_chain.specs.Accesses.{Written, Seen, shown, newest, seen_of, seen_without, stands, deciding, decided, has_undecided, seen, nobody, IsUndecided}

-- what stands after a write matters by what it shows alone
pub seen_behind : (p : Written → Bool) (w : Written) (xs ys : List Written) → newest p xs ≡ newest p ys → newest p (w ∷ xs) ≡ newest p (w ∷ ys)
seen_behind p w xs ys e = grind (arith, nat_tests)

-- two writes of different timestamps may change places
pub seen_swapped : (p : Written → Bool) (a b : Written) (ws : List Written) → (a.timestamp ≡ b.timestamp → ⊥) → newest p (a ∷ b ∷ ws) ≡ newest p (b ∷ a ∷ ws)
seen_swapped p a b ws ne = grind (arith, nat_tests)

pub seen_alike : (p q : Written → Bool) (ws : List Written) → ((w : Written) → p w ≡ q w) → newest p ws ≡ newest q ws
seen_alike p q [] e = refl
seen_alike p q (w ∷ ws) e = grind (arith, nat_tests, e w, seen_alike p q ws e)

-- with one more branch rolled back, or one fewer
abbrev pub and_gone : ℕ → (ℕ → Bool) → ℕ → Bool
and_gone t gone timestamp = (timestamp == t) || gone timestamp

abbrev pub but_not : ℕ → (ℕ → Bool) → ℕ → Bool
but_not t gone timestamp = not (timestamp == t) && gone timestamp

abbrev pub cleared : ℕ → Seen → Seen
cleared t s = record { from = s.from; value = s.value; pending = s.pending && not (s.from == t) }

pub fate_cases : (f : Option Fate) → (f ≡ None) ⊎ ((f ≡ Some Committed) ⊎ (f ≡ Some RolledBack))
fate_cases None = inl refl
fate_cases (Some Committed) = inr (inl refl)
fate_cases (Some RolledBack) = inr (inr refl)

-- a branch that is rolled back is one that was thought away
pub seen_rolled_back : (has : List ℕ → Bool) (gone : ℕ → Bool) (t ts : ℕ) (ws : List Written) → Each (λ w. w.timestamp ≡ ts → w.fate ≡ None) ws → seen_of has gone t (decided ts RolledBack ws) ≡ seen_of has (and_gone ts gone) t ws
seen_rolled_back has gone t ts [] h = refl
seen_rolled_back has gone t ts (w ∷ ws) h = grind (arith, nat_tests, fate_cases w.fate, h.0, seen_rolled_back has gone t ts ws h.1)

stands_committed : (gone : ℕ → Bool) (ts : ℕ) (w : Written) → (w.timestamp ≡ ts → w.fate ≡ None) → stands gone w.timestamp (deciding ts Committed w).fate ≡ stands (but_not ts gone) w.timestamp w.fate
stands_committed gone ts w h = grind (arith, nat_tests, fate_cases w.fate, h)

shown_committed : (ts : ℕ) (w : Written) → (w.timestamp ≡ ts → w.fate ≡ None) → shown (deciding ts Committed w) ≡ cleared ts (shown w)
shown_committed ts w h = grind (arith, nat_tests, fate_cases w.fate, h)

step_cleared : (c : Bool) (ts stamp : ℕ) (a b s : Seen) → a ≡ cleared ts b → (if c && nat_le (cleared ts s).from stamp then a else cleared ts s) ≡ cleared ts (if c && nat_le s.from stamp then b else s)
step_cleared c ts stamp a b s e = at c (nat_le s.from stamp)
  where
    at : (x y : Bool) → (if x && y then a else cleared ts s) ≡ cleared ts (if x && y then b else s)
    at true true = e
    at true false = refl
    at false y = refl

pub seen_committed : (has : List ℕ → Bool) (gone : ℕ → Bool) (t ts : ℕ) (ws : List Written) → Each (λ w. w.timestamp ≡ ts → w.fate ≡ None) ws → seen_of has gone t (decided ts Committed ws) ≡ cleared ts (seen_of has (but_not ts gone) t ws)
seen_committed has gone t ts [] h = refl
seen_committed has gone t ts (w ∷ ws) h =
    rw (stands_committed gone ts w h.0, seen_committed has gone t ts ws h.1) (step_cleared (has w.key && (stands (but_not ts gone) w.timestamp w.fate && nat_le w.timestamp t)) ts w.timestamp (shown (deciding ts Committed w)) (shown w) (seen_of has (but_not ts gone) t ws) (shown_committed ts w h.0))

-- a key that the branch didn't write shows what it showed
pub seen_untouched : (gone : ℕ → Bool) (q : List ℕ) (t ts : ℕ) (f : Fate) (ws : List Written) → IsUndecided ts ws → has_undecided q ts ws ≡ false → seen_without gone q t (decided ts f ws) ≡ seen_without gone q t ws
seen_untouched gone q t ts f [] o n = refl
seen_untouched gone q t ts f (w ∷ ws) o n = at (bytes_eq q w.key) refl (w.timestamp == ts) refl (seen_untouched gone q t ts f ws o.1 (rest n))
  where
    rest : has_undecided q ts (w ∷ ws) ≡ false → has_undecided q ts ws ≡ false
    rest e = grind (arith, e)

    at : (x : Bool) → bytes_eq q w.key ≡ x → (y : Bool) → (w.timestamp == ts) ≡ y → seen_without gone q t (decided ts f ws) ≡ seen_without gone q t ws → seen_without gone q t (decided ts f (w ∷ ws)) ≡ seen_without gone q t (w ∷ ws)
    at false e y e2 ih = rw (e, ih) refl
    at true e false e2 ih = rw (e, e2, ih) refl
    at true e true e2 ih = absurd (grind (arith, nat_tests, n, e, e2, o.0))

-- what is open once a fate is decided
pub undecided_decided : (q : List ℕ) (t ts : ℕ) (f : Fate) (ws : List Written) → has_undecided q t (decided ts f ws) ≡ (if t == ts then false else has_undecided q t ws)
undecided_decided q t ts f [] = grind arith
undecided_decided q t ts f (w ∷ ws) = grind (arith, nat_tests, undecided_decided q t ts f ws)

-- what is still open then was open, and is another branch's
pub still_undecided : (q : List ℕ) (t ts : ℕ) (f : Fate) (ws : List Written) → has_undecided q t (decided ts f ws) ≡ true → ((t == ts) ≡ false) × (has_undecided q t ws ≡ true)
still_undecided q t ts f ws o = at (t == ts) refl (sym (undecided_decided q t ts f ws) ∙ o)
  where
    at : (x : Bool) → (t == ts) ≡ x → (if x then false else has_undecided q t ws) ≡ true → ((t == ts) ≡ false) × (has_undecided q t ws ≡ true)
    at true e h = absurd (cc h)
    at false e h = (e, h)

-- what is seen at t is of t at most
pub seen_upto : (gone : ℕ → Bool) (q : List ℕ) (t : ℕ) (ws : List Written) → (seen_without gone q t ws).from ≤ t
seen_upto gone q t [] = omega arith
seen_upto gone q t (w ∷ ws) = grind (arith, nat_tests, seen_upto gone q t ws)

-- what an undecided branch has written is pending, and its own, unless it is thought away
pub undecided_pending : (gone : ℕ → Bool) (q : List ℕ) (ts : ℕ) (ws : List Written) → IsUndecided ts ws → gone ts ≡ false → has_undecided q ts ws ≡ true → ((seen_without gone q ts ws).from ≡ ts) × ((seen_without gone q ts ws).pending ≡ true)
undecided_pending gone q ts [] o g h = absurd (grind (arith, h))
undecided_pending gone q ts (w ∷ ws) o g h = at (bytes_eq q w.key) refl (w.timestamp == ts) refl (λ e. undecided_pending gone q ts ws o.1 g e)
  where
    at : (x : Bool) → bytes_eq q w.key ≡ x → (y : Bool) → (w.timestamp == ts) ≡ y → (has_undecided q ts ws ≡ true → ((seen_without gone q ts ws).from ≡ ts) × ((seen_without gone q ts ws).pending ≡ true))
        → ((seen_without gone q ts (w ∷ ws)).from ≡ ts) × ((seen_without gone q ts (w ∷ ws)).pending ≡ true)
    at false e y e2 ih = let r = ih (grind (arith, h, e)) in rw e (r.0, r.1)
    at true e false e2 ih =
        let r = ih (grind (arith, h, e, e2)) in
        (grind (arith, nat_tests, e2, r.0), grind (arith, nat_tests, e2, r.0, r.1))
    at true e true e2 ih =
        let own : w.timestamp ≡ ts = grind (arith, nat_tests, e2) in
        let f : w.fate ≡ None = o.0 own in
        let b = seen_upto gone q ts ws in
        let counts : gone w.timestamp ≡ false = ap gone own ∙ g in
        (grind (arith, nat_tests, e, own, f, b, counts), grind (arith, nat_tests, e, own, f, b, counts))

-- an undecided write is what its branch sees
pub undecided_seen : (q : List ℕ) (ts : ℕ) (ws : List Written) → IsUndecided ts ws → has_undecided q ts ws ≡ true → ((seen q ts ws).from ≡ ts) × ((seen q ts ws).pending ≡ true)
undecided_seen q ts ws o h = undecided_pending nobody q ts ws o refl h

-- what a branch sees at its own timestamp is its own write
pub seen_undecided : (q : List ℕ) (ts : ℕ) (ws : List Written) → 0 < ts → IsUndecided ts ws → (seen q ts ws).from ≡ ts → has_undecided q ts ws ≡ true
seen_undecided q ts [] pos o h = absurd (omega (arith, h))
seen_undecided q ts (w ∷ ws) pos o h = at (bytes_eq q w.key) refl (w.timestamp == ts) refl (λ e. seen_undecided q ts ws pos o.1 e)
  where
    at : (x : Bool) → bytes_eq q w.key ≡ x → (y : Bool) → (w.timestamp == ts) ≡ y → ((seen q ts ws).from ≡ ts → has_undecided q ts ws ≡ true) → has_undecided q ts (w ∷ ws) ≡ true
    at false e y e2 ih = let r : has_undecided q ts ws ≡ true = ih (rw e at h) in grind (arith, e, r)
    at true e true e2 ih = let f : w.fate ≡ None = o.0 (grind (arith, nat_tests, e2)) in grind (arith, e, e2, f)
    at true e false e2 ih = let r : has_undecided q ts ws ≡ true = ih (grind (arith, nat_tests, e, e2, h)) in grind (arith, e, e2, r)
