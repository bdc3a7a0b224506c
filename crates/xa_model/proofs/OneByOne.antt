-- Committed branches whose reads are settled were executed one at a time.
use Rattle.std.proofs.Common.{◌≡◌, ◌⊎◌, inl, inr, ℕ, ◌<◌, ◌≤◌, Bool, true, false, cond, List, [], ◌∷◌, Option, Some, None, refl, sym, ◌∙◌, ap, arith}
use Rattle.std.specs.Prelude.{bytes_eq, is_some}
use Rattle.std.specs.List.{AllByRecursion}
use Rattle.xa_model.specs.State.{Branch, Operation, Got, Walked, Wrote, is_committed, committed_of}
use Rattle.xa_model.specs.Source.{write_of}
use Rattle.xa_model.specs.Data.{value_among}
use Rattle.xa_model.specs.Invariants.Sound.{Descends}
use Rattle.xa_model.specs.OneCopy.{Map, after, FindsAnswers, map_after, IsOneCopy, HasNoGet}
use Rattle.xa_model.proofs.Inserts.{all_both}
use Rattle.xa_model.proofs.Pins.{Has, IsSource, IsOutside, IsRight, Settled, SettledAt, settled_weaker, below_limit}
use Rattle.xa_model.proofs.Sources.{has_each}

-- a key that is written has the last value, whatever it had before; and one that isn't has what it had

written_by : (c : Bool) (value x : Option (List ℕ)) (o : Option (Option (List ℕ))) (y : Option (List ℕ)) → cond c (Some value) o ≡ Some x
    → (o ≡ Some x → y ≡ x) → cond c value y ≡ x
written_by true value x o y e rest = cc e
written_by false value x o y e rest = rest e

after_written : (ops : List Operation) (map : Map) (key : List ℕ) (x : Option (List ℕ)) → write_of key ops ≡ Some x → after ops map key ≡ x
after_written [] map key x e = absurd (cc e)
after_written (Got k answer source ∷ older) map key x e = after_written older map key x e
after_written (Walked range found ∷ older) map key x e = after_written older map key x e
after_written (Wrote k value ∷ older) map key x e =
    written_by (bytes_eq k key) value x (write_of key older) (after older map key) e (after_written older map key x)

unwritten_by : (c : Bool) (value : Option (List ℕ)) (o : Option (Option (List ℕ))) (y z : Option (List ℕ)) → cond c (Some value) o ≡ None
    → (o ≡ None → y ≡ z) → cond c value y ≡ z
unwritten_by true value o y z e rest = absurd (cc e)
unwritten_by false value o y z e rest = rest e

after_unwritten : (ops : List Operation) (map : Map) (key : List ℕ) → write_of key ops ≡ None → after ops map key ≡ map key
after_unwritten [] map key e = refl
after_unwritten (Got k answer source ∷ older) map key e = after_unwritten older map key e
after_unwritten (Walked range found ∷ older) map key e = after_unwritten older map key e
after_unwritten (Wrote k value ∷ older) map key e =
    unwritten_by (bytes_eq k key) value (write_of key older) (after older map key) (map key) e (after_unwritten older map key)

-- the map that committed branches leave has the value of the source

abbrev IsFrom : List Branch → List ℕ → Option (List ℕ) → ℕ → Type 0
IsFrom bs key answer from = ((from ≡ 0) × (answer ≡ None)) ⊎ Has (IsSource key answer from) bs

abbrev AtMost : List ℕ → ℕ → Branch → Type 0
AtMost key from b = is_some (write_of key b.operations) ≡ true → b.timestamp ≤ from

-- the source of a greater timestamp isn't after
source_below : (limit : ℕ) (bs : List Branch) (key : List ℕ) (answer : Option (List ℕ)) (from : ℕ) → Descends limit bs
    → Has (IsSource key answer from) bs → from < limit
source_below limit bs key answer from d h =
    let one =
    has_each (λ (b : Branch). b.timestamp < limit) (IsSource key answer from) bs (below_limit limit bs d) h in omega (arith, one.1, one.2.0)

-- a committed branch that wrote the key is the source
writer_is : (limit : ℕ) (b : Branch) (bs : List Branch) (key : List ℕ) (answer : Option (List ℕ)) (from : ℕ) (x : Option (List ℕ))
    → Descends limit (b ∷ bs)
    → write_of key b.operations ≡ Some x → AtMost key from b → IsFrom (b ∷ bs) key answer from → x ≡ answer
writer_is limit b bs key answer from x d e most (inl zero) = absurd (omega (arith, most (ap (λ w. is_some w) e), zero.0, d.0))
writer_is limit b bs key answer from x d e most (inr (inl src)) = cc (e, src.2)
writer_is limit b bs key answer from x d e most (inr (inr there)) =
    absurd (omega (arith, most (ap (λ w. is_some w) e), source_below b.timestamp bs key answer from d.2 there))

-- one that didn't isn't
from_behind : (b : Branch) (bs : List Branch) (key : List ℕ) (answer : Option (List ℕ)) (from : ℕ) → (IsSource key answer from b → ⊥)
    → IsFrom (b ∷ bs) key answer from
    → IsFrom bs key answer from
from_behind b bs key answer from isnt (inl zero) = inl zero
from_behind b bs key answer from isnt (inr (inl src)) = absurd (isnt src)
from_behind b bs key answer from isnt (inr (inr there)) = inr there

left_at : (limit : ℕ) (bs : List Branch) (key : List ℕ) (answer : Option (List ℕ)) (from : ℕ) → Descends limit bs
    → AllByRecursion (AtMost key from) bs
    → IsFrom bs key answer from → map_after (committed_of bs) key ≡ answer
left_at limit [] key answer from d most (inl zero) = sym zero.1
left_at limit [] key answer from d most (inr there) = absurd there
left_at limit (b ∷ bs) key answer from d most src =
    by_phase (is_committed b.phase) (write_of key b.operations) refl refl (left_at b.timestamp bs key answer from d.2 most.1)
  where
    by_phase : (c : Bool) (w : Option (Option (List ℕ))) → is_committed b.phase ≡ c → write_of key b.operations ≡ w
        → (IsFrom bs key answer from → map_after (committed_of bs) key ≡ answer)
        → map_after (cond c (b ∷ committed_of bs) (committed_of bs)) key ≡ answer
    by_phase true (Some x) e f rest =
        after_written b.operations (map_after (committed_of bs)) key x f ∙ writer_is limit b bs key answer from x d f most.0 src
    by_phase true None e f rest =
        after_unwritten b.operations (map_after (committed_of bs)) key f ∙ rest (from_behind b bs key answer from (λ s. cc (s.2, f)) src)
    by_phase false w e f rest = rest (from_behind b bs key answer from (λ s. cc (s.1, e)) src)

-- so each branch finds its answers

finds_at : (bs : List Branch) (t : ℕ) (k : List ℕ) (answer : Option (List ℕ)) (from : ℕ) (older : List Operation) → Descends t bs
    → SettledAt (IsRight bs t) k answer from older
    → after older (map_after (committed_of bs)) k ≡ answer
finds_at bs t k answer from older d (inl own) = after_written older (map_after (committed_of bs)) k answer own
finds_at bs t k answer from older d (inr other) =
    after_unwritten older (map_after (committed_of bs)) k other.0 ∙ left_at t bs k answer from d at_most other.1.source
  where
    at_most : AllByRecursion (AtMost k from) bs
    at_most =
        all_both (λ b. b.timestamp < t) (IsOutside t k from) (AtMost k from)
        (λ b less out w. elim (out w) [ inl below ↦ below | inr above ↦ absurd (omega (arith, less, above)) ]) bs
        (below_limit t bs d) other.1.none_between

finds : (bs : List Branch) (t : ℕ) (ops : List Operation) → Descends t bs → Settled (IsRight bs t) ops
    → FindsAnswers ops (map_after (committed_of bs))
finds bs t [] d h = tt
finds bs t (Wrote k value ∷ older) d h = finds bs t older d h
finds bs t (Got k answer from ∷ older) d h = (finds_at bs t k answer from older d h.0, finds bs t older d h.1)
finds bs t (Walked range found ∷ older) d h = (
  λ k within. let there = h.0 k within in finds_at bs t k (value_among k found) there.0 older d there.1,
  finds bs t older d h.1,
)

-- what stands above a reader isn't its source
right_below : (b : Branch) (bs : List Branch) (t : ℕ) (key : List ℕ) (answer : Option (List ℕ)) (from : ℕ) → t ≤ b.timestamp
    → IsRight (b ∷ bs) t key answer from → IsRight bs t key answer from
right_below b bs t key answer from less r = record {
  earlier = r.earlier;
  source = from_behind b bs key answer from (λ src. absurd (omega (arith, src.0, r.earlier, less))) r.source;
  none_between = r.none_between.1;
}

pub settled_one_copy : (limit : ℕ) (bs : List Branch) → Descends limit bs → AllByRecursion (λ b. Settled (IsRight bs b.timestamp) b.operations) bs
    → IsOneCopy (committed_of bs)
settled_one_copy limit [] d h = tt
settled_one_copy limit (b ∷ bs) d h = by_phase (is_committed b.phase) (settled_one_copy b.timestamp bs d.2 behind)
  where
    behind : AllByRecursion (λ x. Settled (IsRight bs x.timestamp) x.operations) bs
    behind =
        all_both (λ x. x.timestamp < b.timestamp) (λ x. Settled (IsRight (b ∷ bs) x.timestamp) x.operations)
        (λ x. Settled (IsRight bs x.timestamp) x.operations)
        (λ x less k. settled_weaker (IsRight (b ∷ bs) x.timestamp) (IsRight bs x.timestamp) x.operations
        (λ key answer from r. right_below b bs x.timestamp key answer from (omega (arith, less)) r) k) bs
        (below_limit b.timestamp bs d.2) h.1

    own : Settled (IsRight bs b.timestamp) b.operations
    own =
        settled_weaker (IsRight (b ∷ bs) b.timestamp) (IsRight bs b.timestamp) b.operations
        (λ key answer from r. right_below b bs b.timestamp key answer from (omega arith) r) h.0

    by_phase : (c : Bool) → IsOneCopy (committed_of bs) → IsOneCopy (cond c (b ∷ committed_of bs) (committed_of bs))
    by_phase true rest = (finds bs b.timestamp b.operations d.2 own, rest)
    by_phase false rest = rest

-- committed branches descend as all do
pub committed_descends : (limit : ℕ) (bs : List Branch) → Descends limit bs → Descends limit (committed_of bs)
committed_descends limit [] d = tt
committed_descends limit (b ∷ bs) d = by_phase (is_committed b.phase) (committed_descends b.timestamp bs d.2)
  where
    raised : (cs : List Branch) → Descends b.timestamp cs → Descends limit cs
    raised [] k = tt
    raised (c ∷ cs) k = (k.0, omega (arith, k.1, d.1), k.2)

    by_phase : (c : Bool) → Descends b.timestamp (committed_of bs) → Descends limit (cond c (b ∷ committed_of bs) (committed_of bs))
    by_phase true rest = (d.0, d.1, rest)
    by_phase false rest = raised (committed_of bs) rest

-- where nobody reads, all is settled
pub unread_settled : (pin : List ℕ → Option (List ℕ) → ℕ → Type 0) (ops : List Operation) → HasNoGet ops → Settled pin ops
unread_settled pin [] h = tt
unread_settled pin (Got k answer from ∷ older) h = absurd h
unread_settled pin (Walked range found ∷ older) h = absurd h
unread_settled pin (Wrote k value ∷ older) h = unread_settled pin older h
