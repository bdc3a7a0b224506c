-- Whether a log breaks off in its snapshot, by its bodies and what stands after them.
use Rattle.std.proofs.Common.{◌≡◌, ◌⊎◌, inl, inr, ℕ, ◌+◌, ◌<◌, Bool, false, not, ◌&&◌, List, [], length, drop, get_or, sym, ◌∙◌, ap, nat_lt, Vec, Global}
use Rattle.std.specs.Prelude.{slice_index}
use Rattle.std.proofs.lemmas.Bool.{and_left, and_right}
use Rattle.std.proofs.lemmas.List.{at_drop_more}
use Rattle.xa_log.specs.Behind.{IsBehind}
use Rattle.xa_log.specs.Believed.Chain.{behind_text}
use Rattle.xa_log.specs.Believed.Damage.{is_appended, is_snapshot, goes_on, is_cut}
use Rattle.xa_log.specs.Believed.Generation.{generation}
use Rattle.xa_log.specs.Reading.{bodies_of}
use Rattle.xa_log.specs.declared.behind.Behind.{Behind}
use Rattle.xa_log.specs.declared.format.Format.{Format}
use Rattle.xa_log.specs.declared.format.Format.TheVariants.{One, Two}

-- ---- none of the bodies was appended: the first, and those after it

abbrev left : List (Vec ℕ Global) → Bool
left bodies = is_snapshot (bodies_of bodies)

pub snapshot_next : (bodies : List (Vec ℕ Global)) (i : ℕ) (v : Vec ℕ Global) → i < length bodies → v ≡ get_or bodies i v
    → left (drop i bodies) ≡ (not (is_appended (slice_index v.items 0)) && left (drop (i + 1) bodies))
snapshot_next bodies i v lt is =
    at_drop_more left bodies i v lt
    ∙ ap (λ (b : Vec ℕ Global). not (is_appended (slice_index b.items 0)) && left (drop (i + 1) bodies)) (sym is)

-- ---- a log of no bodies doesn't break off, and of others what stands after them is looked at

pub broken_by : (bodies : List (List ℕ)) (file : List ℕ) (behind : Behind) (b : Bool) → (bodies ≡ []) ⊎ IsBehind (behind_text Two bodies file) behind
    → ((tail : List ℕ) → IsBehind tail behind → b ≡ goes_on tail) → (nat_lt 1 (generation bodies) && (is_snapshot bodies && not b)) ≡ is_cut Two bodies file
unfolding is_cut
broken_by bodies file behind b (inl none) tells =
    ap (λ (l : List (List ℕ)). nat_lt 1 (generation l) && (is_snapshot l && not b)) none ∙ sym (ap (λ (l : List (List ℕ)). is_cut Two l file) none)
broken_by bodies file behind b (inr is) tells = ap (λ (t : Bool). nat_lt 1 (generation bodies) && (is_snapshot bodies && not t)) (tells (behind_text Two bodies file) is)

pub few_whole : (bodies : List (List ℕ)) (file : List ℕ) → nat_lt 1 (generation bodies) ≡ false → false ≡ is_cut Two bodies file
unfolding is_cut
few_whole bodies file few = sym (and_left (nat_lt 1 (generation bodies)) _ few)

pub appended_whole : (bodies : List (List ℕ)) (file : List ℕ) → is_snapshot bodies ≡ false → false ≡ is_cut Two bodies file
unfolding is_cut
appended_whole bodies file some = sym (and_right (nat_lt 1 (generation bodies)) _ (and_left (is_snapshot bodies) _ some))

-- of the first format none is cut
pub one_whole : (format : Format) (bodies : List (List ℕ)) (file : List ℕ) → format ≡ One → false ≡ is_cut format bodies file
unfolding is_cut
one_whole format bodies file is = ap (λ (f : Format). is_cut f bodies file) (sym is)
