-- The timestamps of prepared branches that are restored, and of a state in which no branch is at work.
use Rattle.std.proofs.Common.{◌≡◌, ℕ, ◌==◌, Bool, true, false, ◌&&◌, ◌||◌, List, [], ◌∷◌, ◌++◌, refl, ap, ◌∙◌}
use Rattle.std.specs.List.{AllByRecursion, list_any}
use Rattle.std.proofs.lemmas.List.Folds.{list_any-append}
use Rattle.xa_model.specs.State.{Branch, Phase, Working, Prepared, Committed, is_working}
use Rattle.xa_model.specs.Durable.{PreparedBranch}
use Rattle.xa_model.specs.Invariants.LowWater.{is_known, is_known_at}
use Rattle.xa_model.proofs.Ascending.{parts, add, parts-cons}
use Rattle.xa_model.proofs.Remains.{held_of, held_as}

-- some prepared branch has this timestamp
abbrev pub is_held_at : ℕ → List PreparedBranch → Bool
is_held_at t ps = list_any (λ p. p.timestamp == t) ps

last_first : (b q : Bool) → (q || (b || false)) ≡ (b || q)
last_first true true = refl
last_first true false = refl
last_first false true = refl
last_first false false = refl

pub held_last : (t : ℕ) (ps : List PreparedBranch) (p : PreparedBranch) → is_held_at t (ps ++ p ∷ []) ≡ ((p.timestamp == t) || is_held_at t ps)
held_last t ps p = list_any-append (λ x. x.timestamp == t) ps (p ∷ []) ∙ last_first (p.timestamp == t) (is_held_at t ps)

held_one : (t : ℕ) (b : Branch) (phase : Phase) (ps : List PreparedBranch) (q : Bool) → b.phase ≡ phase → is_working phase ≡ false → is_held_at t ps ≡ q
    → is_held_at t (add (held_of b) ps) ≡ ((is_known b && (b.timestamp == t)) || q)
held_one t b (Working x work) ps q e idle same = absurd (cc idle)
held_one t b (Prepared x) ps q e idle same = rw e (held_last t ps (held_as x b) ∙ rw same refl)
held_one t b Committed ps q e idle same = rw e same

pub held_times : (t : ℕ) (bs : List Branch) → AllByRecursion (λ b. is_working b.phase ≡ false) bs → is_held_at t (parts held_of bs) ≡ is_known_at t bs
held_times t [] idle = refl
held_times t (b ∷ bs) idle =
    ap (is_held_at t) (parts-cons held_of b bs) ∙ held_one t b b.phase (parts held_of bs) (is_known_at t bs) refl idle.0 (held_times t bs idle.1)
