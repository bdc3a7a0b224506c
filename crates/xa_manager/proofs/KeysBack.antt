-- The keys of the branches that are added again to records.
use Rattle.std.proofs.Common.{◌≡◌, ◌∙◌, ℕ, Bool, true, false, List, [], ◌∷◌, refl, sym, ap, subst, arith}
use Rattle.std.specs.Prelude.{◌==◌}
use Rattle.std.specs.List.{AllByRecursion}
use Rattle.std.proofs.lemmas.Bool.Decides.{nat_tests}
use Rattle.xa_limits.specs.declared.TheConstants.{MOST_WRITES}
use Rattle.mv_rules.specs.declared.own.Own.{Own}
use Rattle.mv_rules.specs.declared.records.Records.{Records}
use Rattle.mv_rules.specs.Records.{own_of}
use Rattle.mv_rules.specs.Within.{AreKeys, HasKeys, KeepsOwnBut, HaveKeys}
use Rattle.xa_model.specs.Durable.{PreparedBranch, Pairwise, prepares_before}
use Rattle.xa_manager.specs.Rebuilding.{NoneHasWritten, PreparedHaveKeys, KeysUpto}

-- a branch that was committed at once leaves nothing undecided
pub none_more : (m m' : Records) (t : ℕ) → own_of t m' ≡ [] → KeepsOwnBut t m m' → NoneHasWritten m → NoneHasWritten m'
none_more m m' t decided others none u = at (u == t) refl
  where
    at : (x : Bool) → (u == t) ≡ x → own_of u m' ≡ []
    at true e = let is : u ≡ t = grind (arith, nat_tests, e) in ap (λ (v : ℕ). own_of v m') is ∙ decided
    at false e = others u (λ is. grind (arith, nat_tests, e, is)) ∙ none u

-- before the first of the branches in doubt

none_keys : (m : Records) → NoneHasWritten m → HasKeys m
none_keys m none t = subst (λ (own : List Own). AreKeys MOST_WRITES own) (sym (none t)) (omega arith, tt)

none_left : (m : Records) (ps : List PreparedBranch) → NoneHasWritten m → AllByRecursion (λ p. own_of p.timestamp m ≡ []) ps
none_left m [] none = tt
none_left m (p ∷ ps) none = (none p.timestamp, none_left m ps none)

pub keys_first : (m : Records) (ps : List PreparedBranch) → PreparedHaveKeys ps → Pairwise prepares_before ps → NoneHasWritten m → KeysUpto ps m
keys_first m ps limits apart none = record { limits = limits; apart = apart; unwritten = none_left m ps none; keys = none_keys m none }

-- after one more

left_others : (m m' : Records) (p : PreparedBranch) (ps : List PreparedBranch) → KeepsOwnBut p.timestamp m m' → AllByRecursion (λ e. prepares_before p e ≡ true) ps
    → AllByRecursion (λ q. own_of q.timestamp m ≡ []) ps → AllByRecursion (λ q. own_of q.timestamp m' ≡ []) ps
left_others m m' p [] others later none = tt
left_others m m' p (q ∷ ps) others later none = (others q.timestamp (λ is. grind (arith, nat_tests, later.0, is)) ∙ none.0, left_others m m' p ps others later.1 none.1)

pub keys_more : (m m' : Records) (left rest : List PreparedBranch) (p : PreparedBranch) → left ≡ p ∷ rest → KeepsOwnBut p.timestamp m m'
    → (HasKeys m → own_of p.timestamp m ≡ [] → HaveKeys p.writes → HasKeys m') → KeysUpto left m → KeysUpto rest m'
keys_more m m' left rest p is others adds upto =
    let here = subst (λ (ps : List PreparedBranch). KeysUpto ps m) is upto in
    record {
      limits = here.limits.1;
      apart = here.apart.1;
      unwritten = left_others m m' p rest others here.apart.0 here.unwritten.1;
      keys = adds here.keys here.unwritten.0 here.limits.0;
    }
