-- The next boot is made ready for what the log came to.
use Rattle.std.proofs.Common.{◌≡◌, ◌<◌, ◌≤◌, ◌+◌, ◌^◌, ℕ, zero, suc, Bool, true, false, cond, List, [], ◌∷◌, map, Option, Some, None, Ok, refl, sym, ◌∙◌, subst, arith, ltb-true, ltb-false}
use Rattle.std.specs.Prelude.{length, nat_lt}
use Rattle.std.proofs.Math.ListN.{get_or}
use Rattle.std.specs.List.{AllByRecursion}
use Rattle.xa_limits.specs.declared.TheConstants.{MOST_BOOTS, MOST_VALUE}
use Rattle.xa_record.specs.declared.record.Record.{Record}
use Rattle.xa_record.specs.Limits.{IsRecord}
use Rattle.xa_record.specs.Spelling.{spelled}
use Rattle.xa_record.proofs.Sizes.{any}
use Rattle.mv_rules.specs.Within.{IsWithin, HasKeys}
use Rattle.xa_log.specs.Believed.Chain.{IsBody, newest}
use Rattle.xa_model.specs.Durable.{Durable, IsDurable}
use Rattle.xa_model.specs.Fold.{snapshot}
use Rattle.xa_model.proofs.Readings.{fold_is_durable}
use Rattle.xa_model.proofs.Written.{snapshot_is_written}
use Rattle.xa_recovery.specs.Log.{LogRebuilt}
use Rattle.xa_manager.specs.declared.boots.NextBoot.{NextBoot}
use Rattle.xa_manager.specs.Rereading.{IsReady, IsNext}

some_by : (d n : ℕ) (c : Bool) → nat_lt d MOST_BOOTS ≡ c → Some n ≡ cond c (Some (d + 1)) None → (n ≡ d + 1) × (d < MOST_BOOTS)
some_by d n true e h = (cc, ltb-true d MOST_BOOTS e)
some_by d n false e h = absurd (cc)

none_by : (d : ℕ) (c : Bool) → nat_lt d MOST_BOOTS ≡ c → ◌≡◌ {A = Option ℕ} None (cond c (Some (d + 1)) None) → MOST_BOOTS ≤ d
none_by d true e h = absurd (cc)
none_by d false e h = ltb-false d MOST_BOOTS e

-- its first records are within their limits, and what they stand for is in the one form
pub next_limits : (bodies : List (List ℕ)) (d : Durable) (n : ℕ) → LogRebuilt bodies (Ok d) → Some n ≡ cond (nat_lt d.boot MOST_BOOTS) (Some (d.boot + 1)) None → AllByRecursion IsRecord (snapshot d n)
next_limits bodies d n (rs, are, folds) e =
    let number = some_by d.boot n (nat_lt d.boot MOST_BOOTS) refl e in
    let below : d.boot + 1 < 2 ^ 32 = omega (arith, number.1) in
    subst (λ (m : ℕ). AllByRecursion IsRecord (snapshot d m)) (sym number.0) (snapshot_is_written rs d (d.boot + 1) are.limits folds (omega arith) below)

pub next_form : (bodies : List (List ℕ)) (d : Durable) → LogRebuilt bodies (Ok d) → IsDurable d
next_form bodies d (rs, are, folds) = fold_is_durable rs d folds

pub is_next : (moment : ℕ) (bodies : List (List ℕ)) (d : Durable) (n : ℕ) (next : NextBoot) → LogRebuilt bodies (Ok d) → Some n ≡ cond (nat_lt d.boot MOST_BOOTS) (Some (d.boot + 1)) None
    → next.boot ≡ n → IsReady d n moment next → IsWithin MOST_VALUE next.records → HasKeys next.records → IsNext d moment (Some next)
is_next moment bodies d n next rebuilt e boot ready short keys =
    let number = some_by d.boot n (nat_lt d.boot MOST_BOOTS) refl e in (
      boot ∙ number.0,
      number.1,
      subst (λ (m : ℕ). IsReady d m moment next) number.0 ready,
      subst (λ (m : ℕ). AllByRecursion IsRecord (snapshot d m)) number.0 (next_limits bodies d n rebuilt e),
      short,
      keys,
    )

pub no_next : (moment : ℕ) (d : Durable) → ◌≡◌ {A = Option ℕ} None (cond (nat_lt d.boot MOST_BOOTS) (Some (d.boot + 1)) None) → IsNext d moment None
no_next moment d e = none_by d.boot (nat_lt d.boot MOST_BOOTS) refl e

-- the bodies of records within their limits
pub are_bodies : (rs : List Record) → AllByRecursion IsRecord rs → AllByRecursion (IsBody newest) (map spelled rs)
are_bodies [] h = tt
are_bodies (r ∷ rs) h = let size = any r h.0 in (record { some = size.0; small = size.1 }, are_bodies rs h.1)

-- each of them is one
pub body_at : (xs : List (List ℕ)) (i : ℕ) (v : List ℕ) → i < length xs → v ≡ get_or xs i v → AllByRecursion (IsBody newest) xs → IsBody newest v
body_at [] i v less is h = absurd (omega arith)
body_at (x ∷ xs) zero v less is h = subst (λ (y : List ℕ). IsBody newest y) (sym is) h.0
body_at (x ∷ xs) (suc i) v less is h = body_at xs i v (omega arith) is h.1
