-- The last version that isn't pending is what all versions show, once each branch that is undecided is rolled back.
use Rattle.std.proofs.Common.{◌≡◌, ℕ, ◌<◌, ◌≤◌, Bool, true, false, not, ◌&&◌, List, [], ◌∷◌, map, reverse, Option, None, Some, refl, sym, ap, ◌∙◌, subst, max, arith}
use Rattle.std.specs.Prelude.{nat_le, find, ◌==◌, if◌then◌else◌}
use Rattle.std.specs.Option.{option_or}
use Rattle.std.specs.List.{AllByRecursion as Each}
use Rattle.std.proofs.lemmas.Bool.Decides.{nat_tests}
use Rattle.std.proofs.lemmas.List.{reverse-append}
use Rattle.std.proofs.lemmas.List.Folds.{find-append}
use Rattle.mv_chain.specs.declared.version.Version.{Version}
use Rattle.mv_chain.specs.declared.pool.Pool.{Pool}
use Rattle.mv_chain.specs.Accesses.{Written, Seen, absent, shown, newest, stands, seen_without}
use Rattle.mv_chain.specs.Chain.{base, fresh, as_written, shows_without, IsBefore, IsChain}
use Rattle.mv_chain.specs.Last.{everybody, stamped, AreUpto, IsLastOf, IsLastWritten}
use Rattle.mv_chain.specs.Pool.{version_at, shown_at}
use Rattle.mv_chain.specs.Slots.{is_decided_at}

abbrev seen_at : Pool → Option ℕ → Seen
seen_at pool None = absent
seen_at pool (Some slot) = shown (as_written (version_at pool slot))

-- what is found from the end
found_step : (pool : Pool) (s : ℕ) (later : List ℕ) → find (is_decided_at pool) (reverse (s ∷ later)) ≡ option_or (find (is_decided_at pool) (reverse later)) (if is_decided_at pool s then Some s else None)
found_step pool s later = ap (find (is_decided_at pool)) (reverse-append (s ∷ []) later) ∙ find-append (is_decided_at pool) (reverse later) (s ∷ [])

-- it has what all have
found_has : (pool : Pool) (P : Version → Type 0) (slots : List ℕ) (x : ℕ) → find (is_decided_at pool) (reverse slots) ≡ Some x → Each P (shown_at pool slots) → P (version_at pool x)
found_has pool P [] x e h = absurd (cc e)
found_has pool P (s ∷ later) x e h = either (find (is_decided_at pool) (reverse later)) (is_decided_at pool s) (sym (found_step pool s later) ∙ e) (λ k. found_has pool P later x k h.1)
  where
    either : (o : Option ℕ) (b : Bool) → option_or o (if b then Some s else None) ≡ Some x → (o ≡ Some x → P (version_at pool x)) → P (version_at pool x)
    either (Some y) b f rest = rest f
    either None true f rest = let same : s ≡ x = cc f in subst (λ z. P (version_at pool z)) same h.0
    either None false f rest = absurd (cc f)

-- what one more version shows
abbrev counts : ℕ → Written → Bool
counts t w = true && (stands everybody w.timestamp w.fate && nat_le w.timestamp t)

gone_step : (t : ℕ) (v : Version) (rest : List Written) → v.pending ≡ true → newest (counts t) (as_written v ∷ rest) ≡ newest (counts t) rest
gone_step t v rest e = rw e refl

above_step : (t : ℕ) (v : Version) (rest : List Written) → v.timestamp < (newest (counts t) rest).from → newest (counts t) (as_written v ∷ rest) ≡ newest (counts t) rest
above_step t v rest lt = grind (arith, nat_tests)

first_step : (t : ℕ) (v : Version) (rest : List Written) → v.timestamp ≤ t → v.pending ≡ false → newest (counts t) rest ≡ absent → newest (counts t) (as_written v ∷ rest) ≡ shown (as_written v)
first_step t v rest le e none = grind (arith, nat_tests)

abbrev written_at : Pool → List ℕ → List Written
written_at pool slots = map as_written (shown_at pool slots)

pub last_shown : (pool : Pool) (slots : List ℕ) (t : ℕ) → IsChain (shown_at pool slots) → Each (λ v. v.timestamp ≤ t) (shown_at pool slots)
    → shows_without everybody t (shown_at pool slots) ≡ seen_at pool (find (is_decided_at pool) (reverse slots))
last_shown pool [] t c h = refl
last_shown pool (s ∷ later) t c h =
    either (find (is_decided_at pool) (reverse later)) refl (version_at pool s).pending refl (last_shown pool later t c.2 h.1) ∙ ap (seen_at pool) (sym (found_step pool s later))
  where
    either : (o : Option ℕ) → find (is_decided_at pool) (reverse later) ≡ o → (b : Bool) → (version_at pool s).pending ≡ b → newest (counts t) (written_at pool later) ≡ seen_at pool o
        → newest (counts t) (as_written (version_at pool s) ∷ written_at pool later) ≡ seen_at pool (option_or o (if not b then Some s else None))
    either (Some y) k b p ih =
        let above = found_has pool (IsBefore (version_at pool s)) later y k c.0 in
        let lt : (version_at pool s).timestamp < (newest (counts t) (written_at pool later)).from = omega (arith, above.0, ap (λ x. x.from) ih) in
        above_step t (version_at pool s) (written_at pool later) lt ∙ ih
    either None k true p ih = gone_step t (version_at pool s) (written_at pool later) p ∙ ih
    either None k false p ih = first_step t (version_at pool s) (written_at pool later) h.0 p ih

-- what is told of it
told_none : (v : Version) → v.timestamp ≡ 0 → None ≡ stamped (shown (as_written v))
told_none v e = let zero : (v.timestamp == 0) ≡ true = grind (arith, nat_tests) in rw zero refl

told_some : (v : Version) (t : ℕ) (value : Option (List ℕ)) → t ≡ v.timestamp → (t ≡ 0 → ⊥) → value ≡ v.value → Some (t, value) ≡ stamped (shown (as_written v))
told_some v t value e above same = let more : (v.timestamp == 0) ≡ false = grind (arith, nat_tests, e, above) in rw (e, same, more) refl

is_last : (pool : Pool) (slots : List ℕ) (o : Option ℕ) (last : Option (ℕ × Option (List ℕ))) → find (is_decided_at pool) (reverse slots) ≡ o → last ≡ stamped (seen_at pool o) → IsChain (shown_at pool slots)
    → IsLastOf (shown_at pool slots) last
is_last pool slots o last e told c t upto = told ∙ ap stamped (ap (seen_at pool) (sym e) ∙ sym (last_shown pool slots t c upto))

pub last_none : (pool : Pool) (slots : List ℕ) → find (is_decided_at pool) (reverse slots) ≡ None → IsChain (shown_at pool slots) → IsLastOf (shown_at pool slots) None
last_none pool slots e c = is_last pool slots None None e refl c

pub last_base : (pool : Pool) (slots : List ℕ) (x : ℕ) → find (is_decided_at pool) (reverse slots) ≡ Some x → (version_at pool x).timestamp ≡ 0 → IsChain (shown_at pool slots) → IsLastOf (shown_at pool slots) None
last_base pool slots x e zero c = is_last pool slots (Some x) None e (told_none (version_at pool x) zero) c

pub last_some : (pool : Pool) (slots : List ℕ) (x t : ℕ) (value : Option (List ℕ)) → find (is_decided_at pool) (reverse slots) ≡ Some x → t ≡ (version_at pool x).timestamp → (t ≡ 0 → ⊥) → value ≡ (version_at pool x).value
    → IsChain (shown_at pool slots) → IsLastOf (shown_at pool slots) (Some (t, value))
last_some pool slots x t value e at above same c = is_last pool slots (Some x) (Some (t, value)) e (told_some (version_at pool x) t value at above same) c

-- nothing of a key that nobody wrote
pub last_fresh : IsLastOf fresh None
last_fresh t upto = by (nat_le 0 t)
  where
    by : (b : Bool) → None ≡ stamped (if b && true then shown (as_written base) else absent)
    by true = refl
    by false = refl

-- and in each history that they stand for

-- a timestamp that no version is above, and that isn't below t
abbrev highest : ℕ → List Version → ℕ
highest t [] = t
highest t (v ∷ later) = max v.timestamp (highest t later)

highest_above : (t : ℕ) (vs : List Version) → t ≤ highest t vs
highest_above t [] = omega arith
highest_above t (v ∷ later) = omega (arith, highest_above t later)

upto_more : (t u : ℕ) (vs : List Version) → t ≤ u → Each (λ v. v.timestamp ≤ t) vs → Each (λ v. v.timestamp ≤ u) vs
upto_more t u [] le h = tt
upto_more t u (v ∷ later) le h = (omega (arith, h.0), upto_more t u later le h.1)

highest_upto : (t : ℕ) (vs : List Version) → Each (λ v. v.timestamp ≤ highest t vs) vs
highest_upto t [] = tt
highest_upto t (v ∷ later) = (omega arith, upto_more (highest t later) (max v.timestamp (highest t later)) later (omega arith) (highest_upto t later))

-- from a timestamp on that no write is above, all see the same
seen_settled : (key : List ℕ) (t u : ℕ) (ws : List Written) → t ≤ u → AreUpto t ws → seen_without everybody key u ws ≡ seen_without everybody key t ws
seen_settled key t u [] le h = refl
seen_settled key t u (w ∷ ws) le h =
    let low : nat_le w.timestamp t ≡ true = grind (arith, nat_tests, h.0) in
    let high : nat_le w.timestamp u ≡ true = grind (arith, nat_tests, h.0) in
    rw (low, high, seen_settled key t u ws le h.1) refl

pub last_written : (vs : List Version) (last : Option (ℕ × Option (List ℕ))) → IsLastOf vs last → IsLastWritten vs last
last_written vs last is key low ws rs t s le upto =
    let above : t ≤ highest t vs = highest_above t vs in
    is (highest t vs) (highest_upto t vs) ∙ ap stamped (s.seen everybody (highest t vs) (omega arith) ∙ seen_settled key t (highest t vs) ws above upto)
