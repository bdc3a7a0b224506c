-- What a log's buffer has room for.
use Rattle.std.proofs.Common.{◌≡◌, ◌⊎◌, inl, inr, ⊎_elim, ℕ, ◌+◌, ◌≤◌, List, [], ◌∷◌, length, sym, ◌∙◌, subst, arith, Vec, Global}
use Rattle.std.specs.Vec.{with_items}
use Rattle.std.specs.List.{AllByRecursion}
use Rattle.xa_log.specs.declared.format.Format.{Format}
use Rattle.xa_log.specs.Believed.LogView.{LogView}
use Rattle.xa_log.specs.Buffer.{Holds, HoldsEach, KeepsRoom, EachFits}
use Rattle.xa_log.specs.Believed.Chain.{IsBody}

pub holds_room : {D : Type 0} (log : LogView D) (n : ℕ) → 1048576 ≤ log.room → Holds log n → 40 + n + 262144 ≤ log.room
holds_room log n room holds = ⊎_elim (λ small. omega (arith, small, room)) (λ fits. fits) holds

pub each_fits : {D : Type 0} (log : LogView D) (bodies : List (List ℕ)) → 1048576 ≤ log.room → HoldsEach log bodies → EachFits (log.room) bodies
each_fits log [] room all = tt
each_fits log (body ∷ bodies) room all = (omega (arith, holds_room log (length body) room all.0), each_fits log bodies room all.1)

pub keeps_room : {D : Type 0} (old new : LogView D) → old.room ≤ new.room → KeepsRoom old new
keeps_room old new le n holds = ⊎_elim (λ small. inl small) (λ fits. inr (omega (arith, fits, le))) holds

-- it has as many bytes when some are written over
pub refilled : (v : Vec ℕ Global) (bytes : List ℕ) → length (with_items v bytes).items ≡ length v.items
refilled v bytes = sym (with_items v bytes).ok.0 ∙ v.ok.0

pub keeps_refilled : {D : Type 0} (old : LogView D) (v : Vec ℕ Global) (bytes : List ℕ) → old.room ≡ length v.items → (n : ℕ) → Holds old n
    → (n ≤ 524288) ⊎ (40 + n + 262144 ≤ length (with_items v bytes).items)
keeps_refilled old v bytes is n holds = ⊎_elim (λ small. inl small) (λ fits. inr (omega (arith, fits, is, refilled v bytes))) holds

-- bodies of a format are bodies of it under another name
pub sizes_by : (f g : Format) (bodies : List (List ℕ)) → f ≡ g → AllByRecursion (IsBody g) bodies → AllByRecursion (IsBody f) bodies
sizes_by f g bodies is all = subst (λ k. AllByRecursion (IsBody k) bodies) (sym is) all
