-- What a step at one slot leaves of a bound on the values.
use Rattle.std.proofs.Common.{◌≡◌, ◌≢◌, ℕ, Bool, true, false, List, Option, None, Some, refl, sym, subst, arith}
use Rattle.std.specs.Prelude.{option_map, ◌==◌}
use Rattle.std.proofs.lemmas.Bool.Decides.{nat_tests}
use Rattle.slab.specs.Slab.{Updates, SameValues}
use Rattle.mv_chain.specs.declared.version.Version.{Version}
use Rattle.mv_chain.specs.declared.pool.Pool.{Pool}
use Rattle.mv_chain.specs.Pool.{at, stored, version_at, ChangesAt}
use Rattle.mv_chain.specs.Slots.{IsPutIn}
use Rattle.mv_chain.specs.Within.{IsShort, IsWithin}

-- one slot is changed, the others stay
by_slot : (n slot : ℕ) (old new : Pool) → IsShort n (version_at new slot).value → ((s : ℕ) → s ≢ slot → at new s ≡ at old s) → IsWithin n old → IsWithin n new
by_slot n slot old new short others h s = here (s == slot) refl
  where
    here : (x : Bool) → (s == slot) ≡ x → IsShort n (version_at new s).value
    here true e = let same : s ≡ slot = grind (arith, nat_tests, e) in subst (λ (t : ℕ). IsShort n (version_at new t).value) (sym same) short
    here false e = subst (λ (o : Option Version). IsShort n (stored o).value) (sym (others s (λ same. grind (arith, nat_tests, e, same)))) (h s)

value_kept : (n : ℕ) (f : Version → Version) (o : Option Version) → ((v : Version) → IsShort n v.value → IsShort n (f v).value) → IsShort n (stored o).value → IsShort n (stored (option_map f o)).value
value_kept n f None keeps h = tt
value_kept n f (Some v) keeps h = keeps v h

pub changed_within : (n : ℕ) (f : Version → Version) (slot : ℕ) (old new : Pool) → ((v : Version) → IsShort n v.value → IsShort n (f v).value) → ChangesAt f slot old new → IsWithin n old → IsWithin n new
changed_within n f slot old new keeps c h =
    by_slot n slot old new (subst (λ (o : Option Version). IsShort n (stored o).value) (sym c.changed) (value_kept n f (at old slot) keeps (h slot))) c.others h

pub put_in_within : (n i : ℕ) (v : Version) (old new : Pool) (slots left : List ℕ) → IsShort n v.value → IsPutIn i v old slots new left → IsWithin n old → IsWithin n new
put_in_within n i v old new slots left short (slot, is, vacant, u) h =
    by_slot n slot old new (subst (λ (o : Option Version). IsShort n (stored o).value) (sym u.changed) short) u.others h

pub taken_out_within : (n slot : ℕ) (old new : Pool) → Updates old.slab new.slab slot None → IsWithin n old → IsWithin n new
taken_out_within n slot old new u h =
    by_slot n slot old new (subst (λ (o : Option Version). IsShort n (stored o).value) (sym u.changed) tt) u.others h

pub grown_within : (n : ℕ) (old new : Pool) → SameValues old.slab new.slab → IsWithin n old → IsWithin n new
grown_within n old new same h s = subst (λ (o : Option Version). IsShort n (stored o).value) (sym (same s)) (h s)
